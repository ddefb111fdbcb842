-- What words ask for, from what the crate for command lines says of them.
use Rattle.std.proofs.Common.{◌≡◌, ℕ, ◌^◌, Bool, true, false, List, [], ◌∷◌, length, Option, Some, None, Result, Ok, Err, refl, sym, ap, subst, ◌∙◌, ◌⊎◌, inl, inr}
use Rattle.std.specs.Prelude.{IfOk, IsErrOf, codes, nat_lt, unwrap_or, ◌&&◌}
use Rattle.std.specs.Str.{bytes_eq}
use Rattle.std.specs.Option.{ok_or, option_map}
use Rattle.std.specs.Result.{result_ok}
use Rattle.std.specs.List.{list_all}
use Rattle.std.specs.Char.{digit_value}
use Rattle.std.specs.Str.Parse.{AllDigits, ParsesBool, ParsesUnsigned, digits_value, without_leading_plus}
use Rattle.std.proofs.lemmas.Bool.{lt-ltb, ltb-true}
use Rattle.std.proofs.lemmas.Slice.Eq.{bytes_eq-Decides}
use Rattle.clap.specs.Words.{App, Row, Text, is_simple, IsAmong, Kinds, is_simple_and_free, fault_of, subcommand_of}
use Rattle.clap.specs.Matches.{ReadsOne}
use Rattle.clap.specs.declared.error.kind.ErrorKind.{ErrorKind}
use Rattle.clap.specs.declared.error.kind.ErrorKind.TheVariants.{OutOfMemory}
use Rattle.clap.proofs.OnLiterals.{clap_on_literals}
use Rattle.clap.proofs.WalkLemmas.{both}
use Rattle.lu_cli.specs.declared.request.Request.{Request}
use Rattle.lu_cli.specs.declared.request.ArgsFault.TheVariants.{Refused}
use Rattle.lu_cli.specs.Args.{flag_said, lineup, number_by, number_said, request_by, request_without, request_in, request_of}

pub lineup_is_simple : is_simple lineup ≡ true
unfolding clap_on_literals
lineup_is_simple = refl

pub lineup_is_free : is_simple_and_free lineup ≡ true
unfolding clap_on_literals
lineup_is_free = refl

-- ---- numbers

digits_pass : (ds : List ℕ) → AllDigits 10 ds → list_all (λ d. nat_lt (digit_value d) 10) ds ≡ true
digits_pass [] h = refl
digits_pass (d ∷ ds) h = rw (lt-ltb _ _ h.0, digits_pass ds h.1) refl

digits_from : (ds : List ℕ) → list_all (λ d. nat_lt (digit_value d) 10) ds ≡ true → AllDigits 10 ds
digits_from [] e = tt
digits_from (d ∷ ds) e =
    let parts = both _ _ e in
    (ltb-true _ _ parts.0, digits_from ds parts.1)

abbrev is_said : ℕ → List ℕ → Bool
is_said bits ds = nat_lt 0 (length ds) && (list_all (λ d. nat_lt (digit_value d) 10) ds && nat_lt (digits_value 10 ds) (2 ^ bits))

module _ (bits : ℕ) where
  number_read : {E : Type 0} (text : Text) (r : Result ℕ E) → ParsesUnsigned bits 10 text r → result_ok r ≡ number_by bits (without_leading_plus text)
  number_read text (Ok n) h =
      let ds = without_leading_plus text in
      rw (lt-ltb 0 (length ds) h.0.0.0, digits_pass ds h.0.0.1, lt-ltb (digits_value 10 ds) (2 ^ bits) h.0.1) (ap (λ (k : ℕ). Some k) h.1)
  number_read text (Err e) h = go (is_said bits (without_leading_plus text)) refl
    where
      go : (b : Bool) → is_said bits (without_leading_plus text) ≡ b → None ≡ number_by bits (without_leading_plus text)
      go false t = rw t refl
      go true t =
          let outer = both _ _ t in
          let inner = both _ _ outer.1 in
          absurd (h ((ltb-true _ _ outer.0, digits_from (without_leading_plus text) inner.0), ltb-true _ _ inner.1))

  pub number_got : {E : Type 0} (gives : List ℕ → Result ℕ E → Type 0) (word : Option Text) (result : Option ℕ) → ((text : Text) (r : Result ℕ E) → gives text r → ParsesUnsigned bits 10 text r)
      → (word ≡ None → result ≡ None) → ((text : Text) → word ≡ Some text → ReadsOne gives text result) → result ≡ number_said bits word
  number_got gives None result parses none some = none refl
  number_got {E} gives (Some text) None parses none some =
      let read = some text refl in
      number_read {E = E} text (Err read.0) (parses text (Err read.0) read.1)
  number_got {E} gives (Some text) (Some n) parses none some = number_read {E = E} text (Ok n) (parses text (Ok n) (some text refl))

-- ---- flags

not_true : (text : List ℕ) → (text ≡ codes "true" → ⊥) → (b : Bool) → bytes_eq text (codes "true") ≡ b → b ≡ false
not_true text other false e = refl
not_true text other true e = absurd (other ((bytes_eq-Decides text (codes "true")).0 e))

pub flag_got : {E : Type 0} (gives : List ℕ → Result Bool E → Type 0) (word : Option Text) (result : Option Bool) → ((text : Text) (r : Result Bool E) → gives text r → ParsesBool text r)
    → (word ≡ None → result ≡ None) → ((text : Text) → word ≡ Some text → ReadsOne gives text result) → unwrap_or result false ≡ flag_said word
flag_got gives None result parses none some = ap (λ (o : Option Bool). unwrap_or o false) (none refl)
flag_got gives (Some text) (Some true) parses none some = (let is = parses text (Ok true) (some text refl) in rw is refl)
flag_got gives (Some text) (Some false) parses none some = (let is = parses text (Ok false) (some text refl) in rw is refl)
flag_got gives (Some text) None parses none some =
    let read = some text refl in
    let others = parses text (Err read.0) read.1 in
    sym (not_true text others.0 (bytes_eq text (codes "true")) refl)

-- ---- requests

pub request_found : (request total : Option Request) → total ≡ request → IfOk (ok_or request Refused) (λ o. total ≡ Some o)
request_found None total e = tt
request_found (Some o) total e = e

pub request_refused : (request total : Option Request) → total ≡ request → IsErrOf (ok_or request Refused) Refused → total ≡ None
request_refused None total e h = e
request_refused (Some o) total e h = absurd cc

pub no_request : (kind : ErrorKind) (kinds : Kinds) (request : Option Request) → IsAmong kind kinds → request_without kinds request ≡ None
no_request kind [] request h = absurd h
no_request kind (k ∷ kinds) request h = refl

-- what a parse of a simple command says of the request
pub request_is : (app : App) (words : List Text) (entered : Option (Text × List Row)) (request : Option Request) → app ≡ lineup
    → (is_simple_and_free app ≡ true → fault_of app words ≡ []) → (is_simple app ≡ true → entered ≡ subcommand_of app words)
    → request ≡ request_in entered → request_of words ≡ request
request_is app words entered request e faults matches o =
    let f : fault_of lineup words ≡ [] = subst (λ (a : App). fault_of a words ≡ []) e (faults (rw e lineup_is_free)) in
    let m : entered ≡ subcommand_of lineup words = subst (λ (a : App). entered ≡ subcommand_of a words) e (matches (rw e lineup_is_simple)) in
    rw (f, ← m, ← o) refl

pub faulty : (app : App) (words : List Text) (kind : ErrorKind) → app ≡ lineup → (is_simple_and_free app ≡ true → (kind ≡ OutOfMemory) ⊎ IsAmong kind (fault_of app words)) → (kind ≡ OutOfMemory → ⊥) → request_of words ≡ None
faulty app words kind e faults other =
    let f : (kind ≡ OutOfMemory) ⊎ IsAmong kind (fault_of lineup words) = subst (λ (a : App). (kind ≡ OutOfMemory) ⊎ IsAmong kind (fault_of a words)) e (faults (rw e lineup_is_free)) in
    elim f [
      | inl memory ↦ absurd (other memory)
      | inr among ↦ no_request kind (fault_of lineup words) _ among
    ]

-- the request of a name and of rows that are those of the same entry
pub request_entered : {S : Type 0} (name_of : S → Text) (rows_of : S → List Row) (entered : Option S) (name : Text) (rows : List Row) → Some name ≡ option_map name_of entered
    → Some rows ≡ option_map {T = Text × List Row} (λ e. e.1) (option_map (λ s. (name_of s, rows_of s)) entered) → request_by name rows ≡ request_in (option_map (λ s. (name_of s, rows_of s)) entered)
request_entered name_of rows_of None name rows named rowed = absurd cc
request_entered name_of rows_of (Some s) name rows named rowed =
    let same : name ≡ name_of s = cc in
    let also : rows ≡ rows_of s = cc in
    ap (λ (n : Text). request_by n rows) same ∙ ap (λ (l : List Row). request_by (name_of s) l) also
