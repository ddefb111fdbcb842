-- What is declared so far makes a component.
use Rattle.std.proofs.Common.{All, IfSome, ◌≡◌, ℕ, ◌+◌, ◌<◌, ◌≤◌, ◌^◌, nat_lt, Bool, true, false, not, ◌||◌, if◌then◌else◌, List, [], ◌∷◌, ◌++◌, length, map, Option, Some, None, is_some, MatchOption, refl, sym, ap, ◌∙◌, subst, lit<, arith, length-append}
use Rattle.std.specs.Prelude.{Result, Ok, Err, codes, nat_le}
use Rattle.std.specs.List.{AllByRecursion, IsDistinct, list_all}
use Rattle.std.specs.Option.{option_map, unwrap_or}
use Rattle.std.specs.Str.{bytes_eq}
use Rattle.std.proofs.lemmas.Bool.{leb-false, ltb-false, or_parts}
use Rattle.std.proofs.lemmas.List.{length-map}
use Rattle.std.proofs.lemmas.List.Elements.{All-from_recursion}
use Rattle.lu_text.specs.Faults.{lines_after, on_line, then_lines}
use Rattle.lu_text.specs.declared.fault.Fault.{Fault}
use Rattle.lu_text.proofs.Reading.{line_ok}
use Rattle.lu_text.specs.Lines.{is_allowed, lines_of}
use Rattle.lu_text.specs.Names.{IsName, is_long}
use Rattle.lu_text.specs.Words.{Word, exactly_one}
use Rattle.lu_text.proofs.NameText.{name_from}
use Rattle.lu_component.specs.declared.component.Array.{Array}
use Rattle.lu_component.specs.declared.component.Op.{Op}
use Rattle.lu_component.specs.Component.{AreDistinct, IsArray, IsComponent, IsInstr, IsOp}
use Rattle.lu_source.specs.declared.tree.Action.{Action}
use Rattle.lu_source.specs.declared.tree.Action.TheVariants.{Set, Compute, Load, Store, Cas, Lock, Unlock, Await, AwaitNot, Pick, Return}
use Rattle.lu_source.specs.Code.{instr_of, op_of, operation_code}
use Rattle.lu_source_text.specs.Grammar.{Begun, Block, Drafted, Kind, all_read, aside, last_number, last_word, after_word, by_state, by_statements, by_words, close_blocks, closes, end_block, constant_from, const_line, declaration, first_constant, else_line, end_line, init_in, inside, is_free_name, is_operation, is_taken, is_too_long, is_whole, is_word, keeps_going, len_in, line_of, local_line, lock_line, names_from, names_in, name_of, new_name, nothing, nothing_left, object_line, on_first, on_ok, or_fault, op_line, other_side, position_from, program_of, shared_from, source_grammar, source_words, statements, statement, whole_line, word_line}
use Rattle.lu_source.specs.Programs.{operation_of}
use Rattle.lu_source_text.specs.Drafts.{begun_of, drafted_of}
use Rattle.lu_source_text.specs.declared.draft.Begun.{Begun as HeldBegun}
use Rattle.lu_source_text.specs.Constants.{Constant}
use Rattle.lu_source_text.specs.declared.draft.Draft.{Draft as HeldDraft}
use Rattle.lu_source_text.specs.declared.draft.Shared.{Shared}
use Rattle.lu_source_text.specs.declared.fault.SourceFaultKind.TheVariants.{Byte, Form, Limit, Name}
use Rattle.lu_source.specs.Runs.{compiled}
use Rattle.lu_source_text.specs.Readers.{SourceSound}
use Rattle.lu_source.specs.Sound.{IsTree}
use Rattle.lu_source.specs.Trees.{Operation, Program, Tree}
use Rattle.lu_source.specs.Trees.Tree.{Nothing, Plain, Then, If, IfElse, Loop, Break, BreakUnless, Continue}
use Rattle.lu_source.proofs.Bounded.{code_sound}
use Rattle.lu_source_text.proofs.Kept.{AreValues, Holds, any_holds, constant_small, if_holds, then_holds, unless_holds}
use Rattle.lu_source_text.proofs.Lines.{Goes, GoesOn, IsBlock, IsGoing, each_last, else_fine, end_fine, free_name, name_fine, new_named, statement_fine}

-- ---- lists

pub map_last : {X Y : Type 0} (f : X → Y) (xs : List X) (x : X) → map f (xs ++ x ∷ []) ≡ map f xs ++ f x ∷ []
map_last f [] x = refl
map_last f (y ∷ ys) x = ap (λ zs. f y ∷ zs) (map_last f ys x)

each_map : {X Y : Type 0} (P : Y → Type 0) (f : X → Y) (xs : List X) → AllByRecursion (λ x. P (f x)) xs → AllByRecursion P (map f xs)
each_map P f [] all = tt
each_map P f (x ∷ xs) all = (all.0, each_map P f xs all.1)

each_weaker : {X : Type 0} (P Q : X → Type 0) → ((x : X) → P x → Q x) → (xs : List X) → AllByRecursion P xs → AllByRecursion Q xs
each_weaker P Q f [] all = tt
each_weaker P Q f (x ∷ xs) all = (f x all.0, each_weaker P Q f xs all.1)

distinct_last : (names : List (List ℕ)) (name : List ℕ) → AreDistinct names → AllByRecursion (λ x. bytes_eq x name ≡ false) names → AreDistinct (names ++ name ∷ [])
unfolding IsDistinct
distinct_last [] name h e = (tt, tt)
distinct_last (x ∷ xs) name h e = (each_last (λ y. bytes_eq x y ≡ false) xs name h.0 e.0, distinct_last xs name h.1 e.1)

distinct_none : AreDistinct []
unfolding IsDistinct
distinct_none = tt

length_last : {X : Type 0} (xs : List X) (x : X) → length (xs ++ x ∷ []) ≡ length xs + 1
length_last xs x = simp length-append

-- ---- names that are not there yet

shared_absent : (k : ℕ) (xs : List Shared) (w : Word) → is_some (shared_from k xs w) ≡ false → AllByRecursion (λ (x : Shared). bytes_eq x.array.name w ≡ false) xs
shared_absent k [] w h = tt
shared_absent k (x ∷ xs) w h = by_test (bytes_eq x.array.name w) refl h (shared_absent (k + 1) xs w)
  where
    by_test : (t : Bool) → bytes_eq x.array.name w ≡ t → is_some (if t then Some (k, x.indexed) else shared_from (k + 1) xs w) ≡ false → (is_some (shared_from (k + 1) xs w) ≡ false → AllByRecursion (λ (x : Shared). bytes_eq x.array.name w ≡ false) xs) → AllByRecursion (λ (x : Shared). bytes_eq x.array.name w ≡ false) (x ∷ xs)
    by_test true is h rest = absurd cc
    by_test false is h rest = (is, rest h)

place_absent : (k : ℕ) (xs : List Word) (w : Word) → is_some (position_from k xs w) ≡ false → AllByRecursion (λ (x : Word). bytes_eq x w ≡ false) xs
place_absent k [] w h = tt
place_absent k (x ∷ xs) w h = by_test (bytes_eq x w) refl h (place_absent (k + 1) xs w)
  where
    by_test : (t : Bool) → bytes_eq x w ≡ t → is_some (if t then Some k else position_from (k + 1) xs w) ≡ false → (is_some (position_from (k + 1) xs w) ≡ false → AllByRecursion (λ (x : Word). bytes_eq x w ≡ false) xs) → AllByRecursion (λ (x : Word). bytes_eq x w ≡ false) (x ∷ xs)
    by_test true is h rest = absurd cc
    by_test false is h rest = (is, rest h)

operation_absent : (os : List Operation) (w : Word) → is_operation os w ≡ false → AllByRecursion (λ (o : Operation). bytes_eq o.name w ≡ false) os
operation_absent [] w h = tt
operation_absent (o ∷ os) w h = let parts = or_parts (bytes_eq o.name w) (is_operation os w) h in (parts.0, operation_absent os w parts.1)

-- what a new name is

new_fine : (d : Drafted) (locals : List Word) (w : Word) → Holds (λ name. IsName name × (is_some (shared_from 0 d.words name) ≡ false) × (is_some (position_from 0 d.locks name) ≡ false)) (new_name d locals w)
new_fine d locals w =
    let P : Word → Type 0 = λ name. IsName name × (is_some (shared_from 0 d.words name) ≡ false) × (is_some (position_from 0 d.locks name) ≡ false) in
    then_holds (λ name. IsName name × (name ≡ w)) P (name_of w) _ (name_fine w) (λ name is.
    unless_holds P (is_taken d locals w) Name (Ok name) (λ fresh.
    let parts = or_parts (is_some (constant_from d.constants w)) (is_some (shared_from 0 d.words w) || (is_some (position_from 0 d.locks w) || is_some (position_from 0 locals w))) fresh in
    let more = or_parts (is_some (shared_from 0 d.words w)) (is_some (position_from 0 d.locks w) || is_some (position_from 0 locals w)) parts.1 in
    let last = or_parts (is_some (position_from 0 d.locks w)) (is_some (position_from 0 locals w)) more.1 in
    (is.0, rw is.1 more.0, rw is.1 last.0)))

-- names that are read are names
abbrev AreNamed : List Word × List Word → Type 0
AreNamed r = AllByRecursion IsName r.0

from_named : (d : Drafted) (names ws : List Word) → AllByRecursion IsName names → Holds AreNamed (names_from names d ws)
from_named d names [] are = tt
from_named d names (w ∷ []) are = tt
from_named d names (w ∷ c ∷ ws) are =
    then_holds IsName AreNamed (new_name d names w) _ (new_named d names w) (λ name is.
    let more = each_last IsName names name are is in
    if_holds AreNamed (is_word c (codes ",")) (names_from (names ++ name ∷ []) d ws) _ (from_named d (names ++ name ∷ []) ws more)
    (if_holds AreNamed (is_word c (codes ")")) (Ok (names ++ name ∷ [], ws)) _ more tt))

names_named : (d : Drafted) (ws : List Word) → Holds AreNamed (names_in d ws)
names_named d [] = tt
names_named d (w ∷ ws) = if_holds AreNamed (is_word w (codes ")")) (Ok ([], ws)) _ tt (from_named d [] (w ∷ ws) tt)

-- ---- more arrays and locks

action_more : (a l c m : ℕ) → a ≤ c → l ≤ m → (i : Action) → IsInstr a l 0 (instr_of i) → IsInstr c m 0 (instr_of i)
action_more a l c m x y (Set to v) h = h
action_more a l c m x y (Compute by to u v) h = h
action_more a l c m x y (Load to w i) (r, s, t) = (r, omega arith, t)
action_more a l c m x y (Store w i v) (r, s, t) = (omega arith, s, t)
action_more a l c m x y (Cas to w i u v) (r, s, t, b, e) = (r, omega arith, t, b, e)
action_more a l c m x y (Lock k) h = omega arith
action_more a l c m x y (Unlock k) h = omega arith
action_more a l c m x y (Await w i v) (r, s, t) = (omega arith, s, t)
action_more a l c m x y (AwaitNot w i v) (r, s, t) = (omega arith, s, t)
action_more a l c m x y (Pick to count) h = h
action_more a l c m x y (Return v) h = h

tree_more : (a l c m : ℕ) → a ≤ c → l ≤ m → (t : Tree) → IsTree a l t → IsTree c m t
tree_more a l c m x y Nothing h = tt
tree_more a l c m x y (Plain i) h = action_more a l c m x y i h
tree_more a l c m x y (Then s t) h = (tree_more a l c m x y s h.0, tree_more a l c m x y t h.1)
tree_more a l c m x y (If v t) h = (h.0, tree_more a l c m x y t h.1)
tree_more a l c m x y (IfElse v s t) h = (h.0, tree_more a l c m x y s h.1, tree_more a l c m x y t h.2)
tree_more a l c m x y (Loop t) h = tree_more a l c m x y t h
tree_more a l c m x y Break h = tt
tree_more a l c m x y (BreakUnless v) h = h
tree_more a l c m x y Continue h = tt

-- ---- what is declared

-- an operation that is there
pub record IsDone (arrays locks : ℕ) (o : Operation) : Type 0 where
  pub name : IsName o.name
  pub args : o.args ≤ 4
  pub body : IsTree arrays locks o.body
  pub few : length (operation_code o.body) ≤ 64

done_more : (a l c m : ℕ) → a ≤ c → l ≤ m → (o : Operation) → IsDone a l o → IsDone c m o
done_more a l c m x y o h = record { name = h.name; args = h.args; body = tree_more a l c m x y o.body h.body; few = h.few }

-- the open operation of a draft: there is room for it, and no other has its name
abbrev pub IsOpenIn : ℕ → ℕ → List Operation → Begun → Type 0
IsOpenIn arrays locks operations b =
    IsGoing arrays locks b × (length operations < 16) × (is_operation operations b.name ≡ false)

pub record IsDraft (d : Drafted) : Type 0 where
  pub name : MatchOption d.name (Unit {0}) IsName
  pub local : MatchOption d.local (Unit {0}) (λ n. n ≤ 16)
  pub values : AreValues d.constants
  pub words_few : length d.words ≤ 16
  pub words : AllByRecursion (λ (x : Shared). IsArray x.array) d.words
  pub words_apart : AreDistinct (map (λ (a : Array). a.name) (map (λ (x : Shared). x.array) d.words))
  pub locks_few : length d.locks ≤ 8
  pub locks : AllByRecursion IsName d.locks
  pub locks_apart : AreDistinct d.locks
  pub operations_few : length d.operations ≤ 16
  pub operations : AllByRecursion (IsDone (length d.words) (length d.locks)) d.operations
  pub operations_apart : AreDistinct (map (λ (o : Op). o.name) (map op_of d.operations))
  pub begun : MatchOption d.begun (Unit {0}) (IsOpenIn (length d.words) (length d.locks) d.operations)

pub nothing_is : IsDraft nothing
nothing_is = record {
  name = tt;
  local = tt;
  values = tt;
  words_few = omega arith;
  words = tt;
  words_apart = distinct_none;
  locks_few = omega arith;
  locks = tt;
  locks_apart = distinct_none;
  operations_few = omega arith;
  operations = tt;
  operations_apart = distinct_none;
  begun = tt;
}

fits_to : (arrays locks : ℕ) (b : Begun) (r : Result Begun Kind) → Holds (GoesOn arrays locks b) r → Holds (Goes arrays locks b) r
fits_to arrays locks b (Ok c) h = (h.0, h.2)
fits_to arrays locks b (Err kind) h = tt

module _ (d : Drafted) (h : IsDraft d) where
  any_hold : {A B : Type 0} (P : B → Type 0) (r : Result A Kind) (go : A → Result B Kind) → ((x : A) → Holds P (go x)) → Holds P (on_ok r go)
  any_hold P r go next = then_holds (λ x. Unit {0}) P r go (any_holds r) (λ x t. next x)

  on_word : {A : Type 0} (P : A → Type 0) (ws : List Word) (go : Word → List Word → Result A Kind) → ((w : Word) (rest : List Word) → Holds P (go w rest)) → Holds P (on_first ws go)
  on_word P [] go next = tt
  on_word P (w ∷ ws) go next = next w ws

  read_all : {A : Type 0} (P : A → Type 0) (x : A) (ws : List Word) → P x → Holds P (all_read (x, ws))
  read_all P x [] k = k
  read_all P x (w ∷ ws) k = tt

  object_kept : (ws : List Word) → Holds IsDraft (object_line d ws)
  object_kept ws =
      any_hold IsDraft (or_fault Form (exactly_one ws)) _ (λ name.
      then_holds (λ n. IsName n × (n ≡ name)) IsDraft (name_of name) _ (name_fine name) (λ n is.
      record { name = is.0; local = h.local; values = h.values; words_few = h.words_few; words = h.words; words_apart = h.words_apart; locks_few = h.locks_few; locks = h.locks; locks_apart = h.locks_apart; operations_few = h.operations_few; operations = h.operations; operations_apart = h.operations_apart; begun = h.begun }))

  local_kept : (ws : List Word) → Holds IsDraft (local_line d ws)
  local_kept ws =
      any_hold IsDraft (last_number d.constants ws) _ (λ most.
      unless_holds IsDraft (is_some d.local || nat_lt 0 (length d.operations)) Form _ (λ once. unless_holds IsDraft (nat_lt 16 most) Limit _ (λ few.
      record { name = h.name; local = ltb-false 16 most few; values = h.values; words_few = h.words_few; words = h.words; words_apart = h.words_apart; locks_few = h.locks_few; locks = h.locks; locks_apart = h.locks_apart; operations_few = h.operations_few; operations = h.operations; operations_apart = h.operations_apart; begun = h.begun })))

  number_holds : (ws : List Word) → Holds (λ n. n < 2 ^ 32) (last_number d.constants ws)
  number_holds ws = then_holds (λ (r : ℕ × List Word). r.0 < 2 ^ 32) (λ n. n < 2 ^ 32) (first_constant d.constants ws) all_read (constant_small d.constants ws h.values) (λ r small. read_all (λ n. n < 2 ^ 32) r.0 r.1 small)

  const_kept : (ws : List Word) → Holds IsDraft (const_line d ws)
  const_kept ws =
      on_word IsDraft ws _ (λ w rest. any_hold IsDraft (new_name d [] w) _ (λ name. any_hold IsDraft (after_word (codes "=") rest) _ (λ more.
      then_holds (λ n. n < 2 ^ 32) IsDraft (last_number d.constants more) _ (number_holds more) (λ n fine.
      record { name = h.name; local = h.local; values = each_last (λ (c : Constant). c.value < 2 ^ 32) d.constants (record { name = name; value = n }) h.values fine; words_few = h.words_few; words = h.words; words_apart = h.words_apart; locks_few = h.locks_few; locks = h.locks; locks_apart = h.locks_apart; operations_few = h.operations_few; operations = h.operations; operations_apart = h.operations_apart; begun = h.begun }))))

  init_fine : (ws : List Word) → Holds (λ n. n < 2 ^ 32) (init_in d ws)
  init_fine [] = lit< tt
  init_fine (w ∷ ws) = any_hold (λ n. n < 2 ^ 32) (after_word (codes "=") (w ∷ ws)) (last_number d.constants) (λ rest. number_holds rest)

  word_kept : d.begun ≡ None → (ws : List Word) → Holds IsDraft (word_line d ws)
  word_kept none ws =
      on_word IsDraft ws _ (λ w rest.
      then_holds (λ name. IsName name × (is_some (shared_from 0 d.words name) ≡ false) × (is_some (position_from 0 d.locks name) ≡ false)) IsDraft (new_name d [] w) _ (new_fine d [] w) (λ name new.
      any_hold IsDraft (len_in d rest) _ (λ sized.
      then_holds (λ n. n < 2 ^ 32) IsDraft (init_in d sized.1) _ (init_fine sized.1) (λ init small.
      unless_holds IsDraft (nat_le 16 (length d.words) || (nat_lt sized.0.0 1 || nat_lt 64 sized.0.0)) Limit _ (λ few.
      let parts = or_parts (nat_le 16 (length d.words)) (nat_lt sized.0.0 1 || nat_lt 64 sized.0.0) few in
      let sizes = or_parts (nat_lt sized.0.0 1) (nat_lt 64 sized.0.0) parts.1 in
      let room : length d.words < 16 = omega (arith, leb-false 16 (length d.words) parts.0) in
      let array : Array = record { name = name; len = sized.0.0; init = init } in
      let one : Shared = record { array = array; indexed = sized.0.1 } in
      let l : length (d.words ++ one ∷ []) ≡ length d.words + 1 = length_last d.words one in
      record {
        name = h.name;
        local = h.local;
        values = h.values;
        words_few = omega (arith, l);
        words = each_last (λ (x : Shared). IsArray x.array) d.words one h.words (record { name = new.0; some = ltb-false sized.0.0 1 sizes.0; few = ltb-false 64 sized.0.0 sizes.1; init = small });
        words_apart = words_more d.words one h.words_apart (shared_absent 0 d.words name new.1);
        locks_few = h.locks_few;
        locks = h.locks;
        locks_apart = h.locks_apart;
        operations_few = h.operations_few;
        operations = each_weaker (IsDone (length d.words) (length d.locks)) (IsDone (length (d.words ++ one ∷ [])) (length d.locks)) (done_more (length d.words) (length d.locks) (length (d.words ++ one ∷ [])) (length d.locks) (omega (arith, l)) (omega arith)) d.operations h.operations;
        operations_apart = h.operations_apart;
        begun = rw none tt;
      })))))
    where
      words_more : (words : List Shared) (one : Shared) → AreDistinct (map (λ (a : Array). a.name) (map (λ (x : Shared). x.array) words)) → AllByRecursion (λ (x : Shared). bytes_eq x.array.name one.array.name ≡ false) words → AreDistinct (map (λ (a : Array). a.name) (map (λ (x : Shared). x.array) (words ++ one ∷ [])))
      words_more words one apart absent =
          let names = map (λ (a : Array). a.name) (map (λ (x : Shared). x.array) words) in
          let same : map (λ (a : Array). a.name) (map (λ (x : Shared). x.array) (words ++ one ∷ [])) ≡ names ++ one.array.name ∷ [] =
          ap (map (λ (a : Array). a.name)) (map_last (λ (x : Shared). x.array) words one) ∙ map_last (λ (a : Array). a.name) (map (λ (x : Shared). x.array) words) one.array in
          let all = each_map (λ (n : Word). bytes_eq n one.array.name ≡ false) (λ (a : Array). a.name) (map (λ (x : Shared). x.array) words) (each_map (λ (a : Array). bytes_eq a.name one.array.name ≡ false) (λ (x : Shared). x.array) words absent) in
          subst AreDistinct (sym same) (distinct_last names one.array.name apart all)

  lock_kept : d.begun ≡ None → (ws : List Word) → Holds IsDraft (lock_line d ws)
  lock_kept none ws =
      on_word IsDraft ws _ (λ w rest.
      then_holds (λ name. IsName name × (is_some (shared_from 0 d.words name) ≡ false) × (is_some (position_from 0 d.locks name) ≡ false)) IsDraft (new_name d [] w) _ (new_fine d [] w) (λ name new.
      any_hold IsDraft (nothing_left rest) _ (λ u.
      unless_holds IsDraft (nat_le 8 (length d.locks)) Limit _ (λ few.
      let room : length d.locks < 8 = omega (arith, leb-false 8 (length d.locks) few) in
      let l : length (d.locks ++ name ∷ []) ≡ length d.locks + 1 = length_last d.locks name in
      record {
        name = h.name;
        local = h.local;
        values = h.values;
        words_few = h.words_few;
        words = h.words;
        words_apart = h.words_apart;
        locks_few = omega (arith, l);
        locks = each_last IsName d.locks name h.locks new.0;
        locks_apart = distinct_last d.locks name h.locks_apart (place_absent 0 d.locks name new.2);
        operations_few = h.operations_few;
        operations = each_weaker (IsDone (length d.words) (length d.locks)) (IsDone (length d.words) (length (d.locks ++ name ∷ []))) (done_more (length d.words) (length d.locks) (length d.words) (length (d.locks ++ name ∷ [])) (omega arith) (omega (arith, l))) d.operations h.operations;
        operations_apart = h.operations_apart;
        begun = rw none tt;
      }))))

  op_kept : (ws : List Word) → Holds IsDraft (op_line d ws)
  op_kept ws =
      on_word IsDraft ws _ (λ name rest. unless_holds IsDraft (not (is_free_name name)) Form _ (λ free.
      any_hold IsDraft (after_word (codes "(") rest) _ (λ inner. then_holds AreNamed IsDraft (names_in d inner) _ (names_named d inner) (λ read are.
      any_hold IsDraft (last_word (codes "{") read.1) _ (λ u.
      unless_holds IsDraft (is_long name || (nat_le 16 (length d.operations) || nat_lt 4 (length read.0))) Limit _ (λ few.
      unless_holds IsDraft (is_operation d.operations name) Name _ (λ fresh.
      let parts = or_parts (is_long name) (nat_le 16 (length d.operations) || nat_lt 4 (length read.0)) few in
      let more = or_parts (nat_le 16 (length d.operations)) (nat_lt 4 (length read.0)) parts.1 in
      let room : length d.operations < 16 = omega (arith, leb-false 16 (length d.operations) more.0) in
      let four : length read.0 ≤ 4 = ltb-false 4 (length read.0) more.1 in
      let eight : length read.0 ≤ 8 = omega arith in
      record { name = h.name; local = h.local; values = h.values; words_few = h.words_few; words = h.words; words_apart = h.words_apart; locks_few = h.locks_few; locks = h.locks; locks_apart = h.locks_apart; operations_few = h.operations_few; operations = h.operations; operations_apart = h.operations_apart; begun = (record { name = name_from name (free_name name free) parts.0; args = four; locals = eight; named = are; blocks = ((tt, tt), tt) }, room, fresh) })))))))

  declaration_kept : d.begun ≡ None → (w : Word) (ws : List Word) → Holds IsDraft (declaration d w ws)
  declaration_kept none w ws =
      if_holds IsDraft (is_word w (codes "local")) _ _ (local_kept ws)
      (if_holds IsDraft (is_word w (codes "const")) _ _ (const_kept ws)
      (if_holds IsDraft (is_word w (codes "word")) _ _ (word_kept none ws)
      (if_holds IsDraft (is_word w (codes "lock")) _ _ (lock_kept none ws)
      (if_holds IsDraft (is_word w (codes "op")) _ _ (op_kept ws) tt))))

  -- ---- in an open operation

  -- the draft with the open operation that goes on
  going_kept : (b : Begun) (r : Result Begun Kind) → IsOpenIn (length d.words) (length d.locks) d.operations b → Holds (Goes (length d.words) (length d.locks) b) r → Holds IsDraft (keeps_going d r)
  going_kept b r open_now fine =
      then_holds (Goes (length d.words) (length d.locks) b) IsDraft r _ fine (λ now goes.
      record { name = h.name; local = h.local; values = h.values; words_few = h.words_few; words = h.words; words_apart = h.words_apart; locks_few = h.locks_few; locks = h.locks; locks_apart = h.locks_apart; operations_few = h.operations_few; operations = h.operations; operations_apart = h.operations_apart; begun = (goes.0, open_now.1, subst (λ n. is_operation d.operations n ≡ false) (sym goes.1) open_now.2) })

  whole_kept : (b : Begun) (t : Tree) → IsOpenIn (length d.words) (length d.locks) d.operations b → IsTree (length d.words) (length d.locks) t → Holds IsDraft (whole_line d b t)
  whole_kept b t open_now fine =
      unless_holds IsDraft (nat_lt 64 (length (operation_code t))) Limit _ (λ few. with_one (ltb-false 64 (length (operation_code t)) few))
    where
      one : Operation
      one = record { name = b.name; args = b.args; body = t }

      operations_more : (os : List Operation) (one : Operation) → AreDistinct (map (λ (o : Op). o.name) (map op_of os)) → AllByRecursion (λ (o : Operation). bytes_eq o.name one.name ≡ false) os → AreDistinct (map (λ (o : Op). o.name) (map op_of (os ++ one ∷ [])))
      operations_more os one apart absent =
          let names = map (λ (o : Op). o.name) (map op_of os) in
          let same : map (λ (o : Op). o.name) (map op_of (os ++ one ∷ [])) ≡ names ++ one.name ∷ [] =
          ap (map (λ (o : Op). o.name)) (map_last op_of os one) ∙ map_last (λ (o : Op). o.name) (map op_of os) (op_of one) in
          let all = each_map (λ (n : Word). bytes_eq n one.name ≡ false) (λ (o : Op). o.name) (map op_of os) (each_map (λ (o : Op). bytes_eq o.name one.name ≡ false) op_of os absent) in
          subst AreDistinct (sym same) (distinct_last names one.name apart all)

      with_one : length (operation_code t) ≤ 64 → IsDraft (record d { operations = d.operations ++ one ∷ []; begun = None })
      with_one few =
          let l : length (d.operations ++ one ∷ []) ≡ length d.operations + 1 = length_last d.operations one in
          let room = open_now.1 in
          record {
            name = h.name;
            local = h.local;
            values = h.values;
            words_few = h.words_few;
            words = h.words;
            words_apart = h.words_apart;
            locks_few = h.locks_few;
            locks = h.locks;
            locks_apart = h.locks_apart;
            operations_few = omega (arith, l);
            operations = each_last (IsDone (length d.words) (length d.locks)) d.operations one h.operations (record { name = open_now.0.name; args = open_now.0.args; body = fine; few = few });
            operations_apart = operations_more d.operations one h.operations_apart (operation_absent d.operations b.name open_now.2);
            begun = tt;
          }

  ends_kept : (b : Begun) (block : Block) → IsOpenIn (length d.words) (length d.locks) d.operations b → IsBlock (length d.words) (length d.locks) block → Holds IsDraft (keeps_going d (end_block b block))
  ends_kept b block open_now one = going_kept b (end_block b block) open_now (end_fine d h.values b block open_now.0 one)

  end_kept : (b : Begun) (block : Block) → IsOpenIn (length d.words) (length d.locks) d.operations b → IsBlock (length d.words) (length d.locks) block → Holds IsDraft (end_line d b block)
  end_kept b block open_now one = if_holds IsDraft (is_whole block.opening) _ _ (whole_kept b block.does open_now one.0) (ends_kept b block open_now one)

  closes_kept : (b : Begun) (block : Block) (ws : List Word) → IsOpenIn (length d.words) (length d.locks) d.operations b → IsBlock (length d.words) (length d.locks) block → Holds IsDraft (closes block d b ws)
  closes_kept b block [] open_now one = end_kept b block open_now one
  closes_kept b block (w ∷ ws) open_now one =
      if_holds IsDraft (is_word w (codes "else")) _ _ (going_kept b (on_ok (other_side b block) (λ other. else_line d other ws)) open_now (else_fine d h.values b block ws open_now.0 one)) tt

  close_kept : (b : Begun) (ws : List Word) (blocks : List Block) → IsOpenIn (length d.words) (length d.locks) d.operations b → AllByRecursion (IsBlock (length d.words) (length d.locks)) blocks → Holds IsDraft (close_blocks blocks d b ws)
  close_kept b ws [] open_now all = tt
  close_kept b ws (block ∷ blocks) open_now all =
      let now : Begun = record b { blocks = blocks } in
      let going_now : IsGoing (length d.words) (length d.locks) now = record { name = open_now.0.name; args = open_now.0.args; locals = open_now.0.locals; named = open_now.0.named; blocks = all.1 } in
      closes_kept now block ws (going_now, open_now.1, open_now.2) all.0

  inside_kept : (b : Begun) (w : Word) (ws : List Word) → IsOpenIn (length d.words) (length d.locks) d.operations b → Holds IsDraft (inside w d b ws)
  inside_kept b w ws open_now =
      unless_holds IsDraft (nat_le 256 b.lines) Limit _ (λ few.
      let now : Begun = record b { lines = b.lines + 1 } in
      let going_now : IsGoing (length d.words) (length d.locks) now = record { name = open_now.0.name; args = open_now.0.args; locals = open_now.0.locals; named = open_now.0.named; blocks = open_now.0.blocks } in
      if_holds IsDraft (is_word w (codes "}")) _ _ (close_kept now ws b.blocks (going_now, open_now.1, open_now.2) open_now.0.blocks)
      (going_kept now (statement w d now ws) (going_now, open_now.1, open_now.2) (statement_fine d h.values now w ws going_now)))

  aside_is : IsDraft (aside d)
  aside_is = record { name = h.name; local = h.local; values = h.values; words_few = h.words_few; words = h.words; words_apart = h.words_apart; locks_few = h.locks_few; locks = h.locks; locks_apart = h.locks_apart; operations_few = h.operations_few; operations = h.operations; operations_apart = h.operations_apart; begun = tt }

-- ---- lines

module _ (d : Drafted) (h : IsDraft d) where
  state_kept : (name : Option Word) (begun : Option Begun) → d.begun ≡ begun → MatchOption begun (Unit {0}) (IsOpenIn (length d.words) (length d.locks) d.operations) → (w : Word) (ws : List Word) → Holds IsDraft (by_state d name begun w ws)
  state_kept None begun at k w ws = if_holds IsDraft (is_word w (codes "object")) _ _ (object_kept d h ws) tt
  state_kept (Some name) None at k w ws = declaration_kept d h at w ws
  state_kept (Some name) (Some b) at k w ws = inside_kept (aside d) (aside_is d h) b w ws k

  words_kept : (ws : List Word) → Holds IsDraft (by_words d ws)
  words_kept [] = h
  words_kept (w ∷ ws) = state_kept d.name d.begun refl h.begun w ws

statements_kept : (d : Drafted) → IsDraft d → (all : List (List Word)) → Holds IsDraft (by_statements d all)
statements_kept d h [] = h
statements_kept d h (words ∷ others) = then_holds IsDraft IsDraft (by_words d words) _ (words_kept d h words) (λ next k. statements_kept next k others)

module _ (d : Drafted) (h : IsDraft d) where
  pub line_kept : (line : List ℕ) → Holds IsDraft (line_of d line)
  unfolding line_of
  line_kept line =
      unless_holds IsDraft (not (list_all is_allowed line)) Byte _ (λ allowed.
      unless_holds IsDraft (is_too_long (source_words line)) Limit _ (λ few. statements_kept d h (statements (source_words line))))

-- ---- texts

program_sound : (d : Drafted) → IsDraft d → (name : Word) → IsName name → IsComponent (compiled (record {
  name = name;
  local = unwrap_or d.local 16;
  arrays = map (λ w. w.array) d.words;
  locks = d.locks;
  operations = d.operations;
}))
program_sound d h name is = record {
  name = is;
  local_few = local_small d.local h.local;
  arrays_few = rw (length-map d.words (λ (x : Shared). x.array)) h.words_few;
  arrays = All-from_recursion IsArray (map (λ (x : Shared). x.array) d.words) (each_map IsArray (λ (x : Shared). x.array) d.words h.words);
  arrays_apart = h.words_apart;
  locks_few = h.locks_few;
  locks = All-from_recursion IsName d.locks h.locks;
  locks_apart = h.locks_apart;
  operations_few = rw (length-map d.operations op_of) h.operations_few;
  operations = rw (length-map d.words (λ (x : Shared). x.array)) (All-from_recursion (IsOp (length d.words) (length d.locks)) (map op_of d.operations) (each_map (IsOp (length d.words) (length d.locks)) op_of d.operations (each_weaker (IsDone (length d.words) (length d.locks)) (λ o. IsOp (length d.words) (length d.locks) (op_of o)) op_sound d.operations h.operations)));
  operations_apart = h.operations_apart;
}
  where
    local_small : (o : Option ℕ) → MatchOption o (Unit {0}) (λ n. n ≤ 16) → unwrap_or o 16 ≤ 16
    local_small None k = omega arith
    local_small (Some n) k = k

    op_sound : (o : Operation) → IsDone (length d.words) (length d.locks) o → IsOp (length d.words) (length d.locks) (op_of o)
    op_sound o k = record { name = k.name; args = k.args; code = code_sound (length d.words) (length d.locks) o.body k.body k.few }

-- what is read makes a component
abbrev HoldsOf : Result Program (Fault Kind) → Type 0
HoldsOf (Ok p) = IsComponent (compiled p)
HoldsOf (Err e) = Unit {0}

finish_sound : (n : ℕ) (d : Drafted) → IsDraft d → HoldsOf (on_line n (program_of d d.name d.begun))
finish_sound n d h = by_parts d.name d.begun h.name
  where
    by_parts : (name : Option Word) (begun : Option Begun) → MatchOption name (Unit {0}) IsName → HoldsOf (on_line n (program_of d name begun))
    by_parts None begun k = tt
    by_parts (Some name) (Some b) k = tt
    by_parts (Some name) None k = program_sound d h name k

lines_sound : (lines : List (List ℕ)) (n : ℕ) (d : Drafted) → IsDraft d → HoldsOf (lines_after source_grammar n d lines)
unfolding lines_after
lines_sound [] n d h = finish_sound n d h
lines_sound (line ∷ lines) n d h = by_line (line_of d line) (line_kept d h line) (lines_sound lines (n + 1))
  where
    by_line : (r : Result Drafted Kind) → Holds IsDraft r → ((next : Drafted) → IsDraft next → HoldsOf (lines_after source_grammar (n + 1) next lines)) → HoldsOf (then_lines (on_line n r) (λ next. lines_after source_grammar (n + 1) next lines))
    by_line (Ok next) k go = go next k
    by_line (Err kind) k go = tt

pub source_sound : SourceSound
source_sound text p is =
    let read = lines_sound (lines_of text) 1 nothing nothing_is in
    subst HoldsOf is read

-- a line without a fault leaves what makes a component
pub draft_kept : (n : ℕ) (d next : Drafted) (line : List ℕ) → IsDraft d → on_line n (line_of d line) ≡ Ok next → IsDraft next
draft_kept n d next line h e = subst (Holds IsDraft) (line_ok n (line_of d line) next e) (line_kept d h line)

-- the locals of the open operation, in memory, are names
pub locals_named : (d : HeldDraft) → IsDraft (drafted_of d) → IfSome d.begun (λ b. All IsName b.locals.items)
locals_named d h = by_begun d.begun h.begun
  where
    by_begun : (o : Option HeldBegun) → MatchOption (option_map begun_of o) (Unit {0}) (IsOpenIn (length d.words.items) (length d.locks.items) (map operation_of d.operations.items)) → IfSome o (λ b. All IsName b.locals.items)
    by_begun None k = tt
    by_begun (Some b) k = All-from_recursion IsName b.locals.items k.0.named
