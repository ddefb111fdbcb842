-- What the text of a run says, event by event.
use Rattle.std.proofs.Common.{arith, ◌≡◌, ℕ, zero, suc, ◌<◌, Bool, true, false, List, [], ◌∷◌, ◌++◌, length, set, Option, Some, slice_get, refl, sym, ◌∙◌, ap, subst, inl, inr, append_assoc}
use Rattle.std.specs.Prelude.{◌&&◌, IfSome, IsErrOf, None, Result, Ok, Err, nat_eq}
use lib.Pointwise.{pointwise}
use Rattle.std.specs.List.{AllByRecursion, IsDistinct}
use Rattle.std.proofs.lemmas.Bool.{and_parts, eqb-true, eq-eqb}
use Rattle.std.proofs.lemmas.Bool.Decides.{Decides-eqb}
use Rattle.std.proofs.lemmas.Slice.Eq.{slice_eq-Decides}
use Rattle.std.proofs.lemmas.List.{length-set}
use Rattle.std.proofs.lemmas.Option.{same_Some, slice_get_within}
use Rattle.lu_component.specs.Component.{Component}
use Rattle.lu_test.specs.declared.matrix.Call.{Call as ACall}
use Rattle.lu_text.specs.declared.fault.Fault.{Fault}
use Rattle.lu_text.specs.declared.fault.Fault.TheVariants.{At, Memory}
use Rattle.lu_text.specs.Faults.{IsUnlessMemory, on_line}
use Rattle.lu_machine.specs.declared.event.Outcome.{Outcome}
use Rattle.lu_history.proofs.Events.{at_push, kept_at}
use Rattle.lu_run.specs.declared.fault.RunFaultKind.{RunFaultKind}
use Rattle.lu_run.specs.declared.reading.CallKey.{CallKey}
use Rattle.lu_run.specs.declared.run.Run.{Run}
use Rattle.lu_run.specs.declared.run.RunEvent.{RunEvent}
use Rattle.lu_run.specs.declared.run.RunEvent.TheVariants.{Call as Calls, Return as Returns}
use Rattle.lu_run.specs.declared.words.TextEvent.{TextEvent}
use Rattle.lu_run.specs.declared.words.TextEvent.TheVariants.{Call, Return}
use Rattle.lu_run.specs.Reading.{AreSound, IsNumberOf, KeepsKeys, call_of_key, calls_of_keys, lines_with}
use Rattle.lu_run.specs.RunText.{RunLines, begun, is_pending, said_by, said_call, said_events, then_event, with_event}
use Rattle.lu_run.specs.Runs.{AreDistinct, IsEventOf, IsRun, history_of}
use Rattle.lu_run.specs.Tables.{AreCallsOf, IsCallFor}
use Rattle.lu_run.specs.contracts.reading.CallKeyPartialEq as key
use Rattle.lu_run.proofs.Checked.{calls_next, returns_next}
use Rattle.lu_run.proofs.Ran.{ran_more, tells_more}

abbrev key_eq : CallKey → CallKey → Bool
key_eq = (key.TheImpl.ghosts).eq

-- ---- events

said-append : (calls : List ACall) (xs ys : List RunEvent) → said_events calls (xs ++ ys) ≡ said_events calls xs ++ said_events calls ys
said-append calls [] ys = refl
said-append calls (Calls t n ∷ xs) ys = ap (λ z. said_call t (slice_get calls n) ++ z) (said-append calls xs ys) ∙ sym (append_assoc (said_call t (slice_get calls n)) (said_events calls xs) (said_events calls ys))
said-append calls (Returns t outcome ∷ xs) ys = ap (λ z. Return t outcome ∷ z) (said-append calls xs ys)

some_at : (calls : List ACall) (n : ℕ) → n < length calls → (x : ACall) × (slice_get calls n ≡ Some x)
some_at [] n lt = absurd (omega arith)
some_at (x ∷ calls) zero lt = (x, refl)
some_at (x ∷ calls) (suc n) lt = some_at calls n (omega arith)

-- more calls say the same
module _ (calls new : List ACall) (keeps : (n : ℕ) (x : ACall) → slice_get calls n ≡ Some x → slice_get new n ≡ Some x) where
  said_grown : (events : List RunEvent) → ((i : ℕ) (e : RunEvent) → slice_get events i ≡ Some e → IsEventOf calls e) → said_events new events ≡ said_events calls events
  said_grown [] of = refl
  said_grown (Calls t n ∷ events) of =
      let there = some_at calls n (of 0 (Calls t n) refl).1 in
      let same : slice_get new n ≡ slice_get calls n = keeps n there.0 there.1 ∙ sym there.1 in
      ap (λ o. said_call t o ++ said_events new events) same ∙ ap (λ z. said_call t (slice_get calls n) ++ z) (said_grown events (λ i e at. of (suc i) e at))
  said_grown (Returns t outcome ∷ events) of = ap (λ z. Return t outcome ∷ z) (said_grown events (λ i e at. of (suc i) e at))

  event_grown : (e : RunEvent) → IsEventOf calls e → IsEventOf new e
  event_grown (Calls t n) is = (let there = some_at calls n is.1 in (is.0, slice_get_within new n there.0 (keeps n there.0 there.1)))
  event_grown (Returns t outcome) is = is

  run_grown : (events : List RunEvent) → IsRun calls events → IsRun new events
  run_grown events run = record { events_of = λ i e at. event_grown e (run.events_of i e at); sequential = run.sequential }

-- ---- calls and their keys

keys-append : (keys : List CallKey) (key : CallKey) → calls_of_keys (keys ++ key ∷ []) ≡ calls_of_keys keys ++ call_of_key key ∷ []
keys-append [] key = refl
keys-append (k ∷ keys) key = ap (λ z. call_of_key k ∷ z) (keys-append keys key)

keys_kept : (old new : List CallKey) (key : CallKey) → KeepsKeys old key new → (n : ℕ) (x : ACall) → slice_get (calls_of_keys old) n ≡ Some x → slice_get (calls_of_keys new) n ≡ Some x
keys_kept old new key (inl same) n x at = ap (λ keys. slice_get (calls_of_keys keys) n) same ∙ at
keys_kept old new key (inr more) n x at = ap (λ keys. slice_get (calls_of_keys keys) n) more ∙ (ap (λ calls. slice_get calls n) (keys-append old key) ∙ kept_at (calls_of_keys old) (call_of_key key ∷ []) x n at)

calls_kept : (c : Component) (old new : List CallKey) (key : CallKey) → KeepsKeys old key new → AreCallsOf c (calls_of_keys old) → IsCallFor c (call_of_key key) → AreCallsOf c (calls_of_keys new)
calls_kept c old new key (inl same) are is n x at = are n x (ap (λ keys. slice_get (calls_of_keys keys) n) (sym same) ∙ at)
calls_kept c old new key (inr more) are is n x at =
    let there : slice_get (calls_of_keys old ++ call_of_key key ∷ []) n ≡ Some x = ap (λ calls. slice_get calls n) (sym (keys-append old key)) ∙ (ap (λ keys. slice_get (calls_of_keys keys) n) (sym more) ∙ at) in
    elim (at_push (calls_of_keys old) (call_of_key key) x n there) as (λ _. IsCallFor c x) [ inl before ↦ are n x before.1 | inr here ↦ subst (IsCallFor c) (sym here.1) is ]

-- ---- a draft with one event more

same_lines : (stuck : Bool) (pending later : List Bool) (xs ys : List TextEvent) → xs ≡ ys → pending ≡ later →
    (let make : List TextEvent → List Bool → RunLines = λ events pending. record { said = record { events = events; is_stuck = stuck }; pending = pending } in make xs pending ≡ make ys later)
same_lines stuck pending later xs ys events same =
    let make : List TextEvent → List Bool → RunLines = λ events pending. record { said = record { events = events; is_stuck = stuck }; pending = pending } in
    ap (λ z. make z pending) events ∙ ap (λ z. make ys z) same

pub follows_return : (c : Component) (calls : List ACall) (events new : List RunEvent) (pending : List Bool) (t i : ℕ) (outcome : Outcome) (stuck : Bool) → new ≡ events ++ Returns t outcome ∷ [] → i ≡ t → AreSound c calls events pending → (t < 8) × (is_pending pending t ≡ true)
    → (lines_with calls new (set pending i false) stuck ≡ with_event (lines_with calls events pending stuck) (Return t outcome)) × AreSound c calls new (set pending i false)
follows_return c calls events new pending t i outcome stuck is seat sound (lt, busy) =
    let next = returns_next calls pending t outcome lt busy sound.eight (history_of events) sound.tells in
    let run : IsRun calls (events ++ Returns t outcome ∷ []) = ran_more calls events (Returns t outcome) sound.run next.0 in
    let tells = tells_more (set pending t false) events (Returns t outcome) next.1 in
    let after : AreSound c calls (events ++ Returns t outcome ∷ []) (set pending t false) = record { calls_of = sound.calls_of; run = run; eight = length-set pending t false ∙ sound.eight; tells = tells } in (
      same_lines stuck (set pending i false) (set pending t false) (said_events calls new) (said_events calls events ++ Return t outcome ∷ []) (ap (said_events calls) is ∙ said-append calls events (Returns t outcome ∷ [])) (ap (λ n. set pending n false) seat),
      subst (λ n. AreSound c calls new (set pending n false)) (sym seat) (subst (λ z. AreSound c calls z (set pending t false)) (sym is) after),
    )

pub follows_call : (c : Component) (old keys : List CallKey) (key : CallKey) (events new : List RunEvent) (pending : List Bool) (t i n : ℕ) (call : ACall) (stuck : Bool) → KeepsKeys old key keys → slice_get (calls_of_keys keys) n ≡ Some (call_of_key key) → call_of_key key ≡ call
    → new ≡ events ++ Calls t n ∷ [] → i ≡ t → AreSound c (calls_of_keys old) events pending → (t < 8) × (is_pending pending t ≡ false) × IsCallFor c call
    → (lines_with (calls_of_keys keys) new (set pending i true) stuck ≡ with_event (lines_with (calls_of_keys old) events pending stuck) (Call t call)) × AreSound c (calls_of_keys keys) new (set pending i true)
follows_call c old keys key events new pending t i n call stuck keeps there which is seat sound (lt, idle, of) =
    let calls = calls_of_keys keys in
    let grown = keys_kept old keys key keeps in
    let run : IsRun calls events = run_grown (calls_of_keys old) calls grown events sound.run in
    let within : n < length calls = slice_get_within calls n (call_of_key key) there in
    let next = calls_next calls pending t n lt within idle sound.eight (history_of events) sound.tells in
    let after : AreSound c calls (events ++ Calls t n ∷ []) (set pending t true) = record {
      calls_of = calls_kept c old keys key keeps sound.calls_of (subst (IsCallFor c) (sym which) of);
      run = ran_more calls events (Calls t n) run next.0;
      eight = length-set pending t true ∙ sound.eight;
      tells = tells_more (set pending t true) events (Calls t n) next.1;
    } in
    let one : said_events calls (Calls t n ∷ []) ≡ Call t call ∷ [] = ap (λ o. said_call t o ++ []) there ∙ ap (λ x. Call t x ∷ []) which in
    let said : said_events calls new ≡ said_events (calls_of_keys old) events ++ Call t call ∷ [] =
    ap (said_events calls) is ∙ (said-append calls events (Calls t n ∷ []) ∙ (ap (λ z. z ++ said_events calls (Calls t n ∷ [])) (said_grown (calls_of_keys old) calls grown events sound.run.events_of) ∙ ap (λ z. said_events (calls_of_keys old) events ++ z) one)) in (
      same_lines stuck (set pending i true) (set pending t true) (said_events calls new) (said_events (calls_of_keys old) events ++ Call t call ∷ []) said (ap (λ m. set pending m true) seat),
      subst (λ m. AreSound c calls new (set pending m true)) (sym seat) (subst (λ z. AreSound c calls z (set pending t true)) (sym is) after),
    )

-- ---- faults

pub no_event : (n : ℕ) (lines : RunLines) (fault : Fault RunFaultKind) (meant : Result TextEvent RunFaultKind) → IsUnlessMemory fault (on_line n meant) → IsUnlessMemory fault (on_line n (then_event lines meant))
no_event n lines Memory meant is = tt
no_event n lines (At kind m) (Ok e) is = absurd cc
no_event n lines (At kind m) (Err other) is = (let same : At other n ≡ At kind m = cc in ap Err same)

pub not_begun : (n : ℕ) (fault : Fault RunFaultKind) (meant : Result RunLines RunFaultKind) → IsUnlessMemory fault (on_line n meant) → IsUnlessMemory fault (on_line n (begun meant))
not_begun n Memory meant is = tt
not_begun n (At kind m) (Ok e) is = absurd cc
not_begun n (At kind m) (Err other) is = (let same : At other n ≡ At kind m = cc in ap Err same)

-- ---- the number of a call

same_call : (a b : CallKey) → key_eq a b ≡ true → call_of_key b ≡ call_of_key a
same_call a b is =
    let parts = and_parts (nat_eq a.op b.op) (pointwise nat_eq a.args.items b.args.items) is in
    let op : b.op ≡ a.op = sym (eqb-true a.op b.op parts.0) in
    let args : b.args.items ≡ a.args.items = sym ((slice_eq-Decides {E = nat_eq} Decides-eqb a.args.items b.args.items (pointwise nat_eq a.args.items b.args.items) refl).0 parts.1) in
    let make : ℕ → List ℕ → ACall = λ op args. record { op = op; args = args } in
    ap (λ x. make x b.args.items) op ∙ ap (λ x. make a.op x) args

key_at : (keys : List CallKey) (n : ℕ) (k : CallKey) → slice_get keys n ≡ Some k → slice_get (calls_of_keys keys) n ≡ Some (call_of_key k)
key_at [] n k at = absurd cc
key_at (x ∷ keys) zero k at = ap (λ y. Some (call_of_key y)) (same_Some x k at)
key_at (x ∷ keys) (suc n) k at = key_at keys n k at

pub found_number : (keys : List CallKey) (key : CallKey) (r : Option ℕ) (place : ℕ) → ((n : ℕ) → r ≡ Some n → n ≡ place) → (k : CallKey) → slice_get keys place ≡ Some k → key_eq key k ≡ true → IfSome r (IsNumberOf keys key)
found_number keys key None place is k at same = tt
found_number keys key (Some n) place is k at same = ap (slice_get (calls_of_keys keys)) (is n refl) ∙ (key_at keys place k at ∙ ap Some (same_call key k same))

-- ---- the first fault

pub fault_said : (r : Result Run (Fault RunFaultKind)) (kind : RunFaultKind) (n : ℕ) → IsErrOf r (At kind n) → said_by r ≡ Err (At kind n)
fault_said (Ok run) kind n is = absurd cc
fault_said (Err e) kind n is = (let same : e ≡ At kind n = cc in ap Err same)

-- ---- no call has two numbers

same_key : (a b : CallKey) → call_of_key a ≡ call_of_key b → key_eq a b ≡ true
same_key a b is =
    let op = eq-eqb a.op b.op (ap (λ (x : ACall). x.op) is) in
    let args = (slice_eq-Decides {E = nat_eq} Decides-eqb a.args.items b.args.items (pointwise nat_eq a.args.items b.args.items) refl).1 (ap (λ (x : ACall). x.args) is) in
    ap (λ x. x && pointwise nat_eq a.args.items b.args.items) op ∙ args

-- a key that is equal to none of these has another call
apart : (k : CallKey) (keys : List CallKey) (j : ℕ) → AllByRecursion (λ y. key_eq k y ≡ false) keys → slice_get (calls_of_keys keys) j ≡ Some (call_of_key k) → ⊥
apart k [] j all at = absurd cc
apart k (y ∷ keys) zero all at = (let yes = same_key k y (sym (same_Some (call_of_key y) (call_of_key k) at)) in let no = all.0 in cc)
apart k (y ∷ keys) (suc j) all at = apart k keys j all.1 at

pub distinct_calls : (keys : List CallKey) → IsDistinct key_eq keys → AreDistinct (calls_of_keys keys)
unfolding IsDistinct
distinct_calls [] is i j x first second = absurd cc
distinct_calls (k ∷ keys) is zero zero x first second = refl
distinct_calls (k ∷ keys) is zero (suc j) x first second = absurd (apart k keys j is.0 (second ∙ sym first))
distinct_calls (k ∷ keys) is (suc i) zero x first second = absurd (apart k keys i is.0 (first ∙ sym second))
distinct_calls (k ∷ keys) is (suc i) (suc j) x first second = ap suc (distinct_calls keys is.1 i j x first second)
