-- Sets of histories by the keys of a `BTreeSet`.
use Rattle.std.proofs.Common.{◌≡◌, ℕ, Bool, true, false, ◌||◌, List, [], ◌∷◌, map, refl, sym, ap, ◌∙◌}
use Rattle.std.specs.Cmp.Lexicographic.{slice_cmp}
use Rattle.std.specs.declared.cmp.Ordering.{Ordering}
use Rattle.std.specs.declared.cmp.Ordering.TheVariants.{Less, Equal, Greater}
use Rattle.std.specs.List.{list_any}
use Rattle.std.specs.Ordering.{is_eq, match_ordering}
use Rattle.std.specs.BTreeSet.{insert_key}
use Rattle.lu_history.specs.declared.serial.SerialOp.{SerialOp}
use Rattle.lu_history.specs.contracts.serial.SerialOpOrd.TheImpl as ops
use Rattle.lu_history.specs.Serial.{IsSerial}
use Rattle.lu_trie.specs.Members.{Adds, AllSerial, contains, history_cmp, same_history}
use Rattle.lu_test.specs.Matrix.{Matrix}
use Rattle.lu_spec.specs.Beginnings.{Has, HaveTheSame, IsClosureOf}
use Rattle.lu_spec.specs.FreeSpecs.{IsFreeSpec, IsListedFreely, erased_all}
use Rattle.lu_spec.specs.Specs.{AreOf}
use Rattle.lu_history.proofs.Derived.{op_order}
use Rattle.lu_trie.proofs.Ops.{same_histories_are}
use Rattle.lu_spec.proofs.Sets.{has_first, has_next}

abbrev derived_cmp : List SerialOp → List SerialOp → Ordering
derived_cmp = slice_cmp (ops.ghosts).cmp

-- the derived order of histories is the one that is defined
history_order : (g h : List SerialOp) → derived_cmp g h ≡ history_cmp g h
history_order g h = λ i. slice_cmp (λ a b. op_order a b i) g h

or_twice : (a b : Bool) → (a || b) ≡ (a || (a || b))
or_twice true b = refl
or_twice false b = refl

or_turned : (a b c : Bool) → (a || (b || c)) ≡ (b || (a || c))
or_turned true true c = refl
or_turned true false c = refl
or_turned false b c = refl

module _ {K : Type 0} (items : K → List SerialOp) where
  -- whether a key is equal to the history
  pub has_key : (h : List SerialOp) (ks : List K) → list_any (λ k. is_eq (derived_cmp h (items k))) ks ≡ contains (map items ks) h
  has_key h [] = refl
  has_key h (k ∷ ks) = λ i. is_eq (history_order h (items k) i) || has_key h ks i

  one_key : (k x : K) (ks : List K) (other : List SerialOp) → contains (map items (insert_key (λ a b. derived_cmp (items a) (items b)) ks k)) other ≡ (same_history other (items k) || contains (map items ks) other)
      → (o : Ordering) → derived_cmp (items k) (items x) ≡ o
      → contains (map items (match_ordering o (k ∷ x ∷ ks) (x ∷ ks) (x ∷ insert_key (λ a b. derived_cmp (items a) (items b)) ks k))) other ≡ (same_history other (items k) || contains (map items (x ∷ ks)) other)
  one_key k x ks other later Less is = refl
  one_key k x ks other later Equal is =
      let same : items k ≡ items x = same_histories_are (items k) (items x) (ap is_eq (sym (history_order (items k) (items x)) ∙ is)) in
      or_twice (same_history other (items x)) (contains (map items ks) other) ∙ ap (λ y. same_history other y || (same_history other (items x) || contains (map items ks) other)) (sym same)
  one_key k x ks other later Greater is =
      ap (λ b. same_history other (items x) || b) later ∙ or_turned (same_history other (items x)) (same_history other (items k)) (contains (map items ks) other)

  -- one more key
  pub key_adds : (k : K) (ks : List K) → Adds (map items ks) (map items (insert_key (λ a b. derived_cmp (items a) (items b)) ks k)) (items k)
  key_adds k [] other = refl
  key_adds k (x ∷ ks) other = one_key k x ks other (key_adds k ks other) (derived_cmp (items k) (items x)) refl

-- ---- from one set into another

-- what is in the one set, or is left, is all
abbrev pub Moved : List (List SerialOp) → List (List SerialOp) → List (List SerialOp) → Type 0
Moved new rest all = (q : List SerialOp) → (contains new q || contains rest q) ≡ contains all q

or_false : (a : Bool) → (a || false) ≡ a
or_false true = refl
or_false false = refl

or_between : (a b c : Bool) → ((a || b) || c) ≡ (b || (a || c))
or_between true true c = refl
or_between true false c = refl
or_between false b c = refl

pub none_moved : (new all : List (List SerialOp)) → new ≡ [] → Moved new all all
none_moved new all none q = ap (λ hs. contains hs q || contains all q) none

pub one_moved : (old new rest all : List (List SerialOp)) (h : List SerialOp) → Moved old (h ∷ rest) all → Adds old new h → Moved new rest all
one_moved old new rest all h before adds q =
    ap (λ b. b || contains rest q) (adds q) ∙ (or_between (same_history q h) (contains old q) (contains rest q) ∙ before q)

pub all_moved : (new all : List (List SerialOp)) → Moved new [] all → HaveTheSame all new
all_moved new all moved q = sym (sym (or_false (contains new q)) ∙ moved q)

pub first_serial : (h : List SerialOp) (rest : List (List SerialOp)) → AllSerial (h ∷ rest) → IsSerial h
first_serial h rest serial = serial h (has_first h rest)

pub rest_serial : (h : List SerialOp) (rest : List (List SerialOp)) → AllSerial (h ∷ rest) → AllSerial rest
rest_serial h rest serial q has = serial q (has_next h rest q has)

-- ---- what holds of a set holds of one with the same members

module _ (some other : List (List SerialOp)) (same : HaveTheSame some other) where
  here : (q : List SerialOp) → Has other q → Has some q
  here q has = same q ∙ has

  there : (q : List SerialOp) → Has some q → Has other q
  there q has = sym (same q) ∙ has

  pub same_closure : (listed : List (List SerialOp)) → IsClosureOf listed some → IsClosureOf listed other
  same_closure listed closure q = (λ has. (closure q).0 (here q has), λ begins. there q ((closure q).1 begins))

  pub same_spec : IsFreeSpec some → IsFreeSpec other
  same_spec spec = record {
    closed = λ q h begins has. there q (spec.closed q h begins (here h has));
    empty = there [] spec.empty;
    serial = λ q has. spec.serial q (here q has);
    outcomes = λ q has. spec.outcomes q (here q has);
  }

  pub same_matrix : (matrix : Matrix) → AreOf matrix some → AreOf matrix other
  same_matrix matrix are q has = are q (here q has)

  pub same_listed : (matrix : Matrix) (text : List ℕ) → IsListedFreely matrix text some → IsListedFreely matrix text other
  same_listed matrix text (listed, are, closure) = (listed, are, same_closure (erased_all listed) closure)
