-- The least line of what is said of a part is that of the reader's fault.
use Rattle.std.proofs.Common.{◌≡◌, ℕ, ◌+◌, ◌<◌, ◌≤◌, ◌⊎◌, inl, inr, List, [], ◌∷◌, ◌++◌, get_or, map, Option, Some, None, Result, Ok, Err, refl, sym, ap, subst, ◌∙◌, arith}
use Rattle.std.specs.Prelude.{All, Any, IsPermutation}
use Rattle.std.proofs.lemmas.Simd.{map-map}
use Rattle.std.proofs.lemmas.List.Elements.{All-append, All-cons, All-map, All-nil, All-weaker, Contains-append_left, Contains-append_right}
use Rattle.std.proofs.lemmas.List.Sorted.{All-permutation, Contains-permutation}
use Rattle.lu_text.specs.declared.fault.Fault.{Fault as Refused}
use Rattle.lu_text.specs.declared.fault.Fault.TheVariants.{At, Memory}
use Rattle.lu_text.specs.Faults.{on_line, then_lines, lines_after}
use Rattle.lu_lint.specs.declared.remark.Said.{Said}
use Rattle.lu_lint.specs.declared.remark.FaultKind.{FaultKind}
use Rattle.lu_lint.specs.declared.remark.Cause.{Cause}
use Rattle.lu_lint.specs.declared.remark.Cause.TheVariants.{Fault}
use Rattle.lu_lint.specs.Lint.{AgreeOnText, Lint, Message, end_faults, faults_after, other_messages, then_faults, messages, message_before, message_here, with_words}
use Rattle.lu_lint.specs.Said.{said_faults, message_said}
use Rattle.lu_lint.specs.Least.{IsLeast, IsNotBefore, LeastIsReaders, NoneSaid, Same}

-- ---- what is reported of the lines from line n on is of such lines

abbrev pub IsFrom : {Kind : Type 0} → ℕ → Message Kind → Type 0
IsFrom n t = n ≤ t.line

messages_from : {Kind : Type 0} (seen : List ℕ) (n : ℕ) (kind : Kind) (backs : List ℕ) → All (IsFrom n) (messages seen n kind backs)
messages_from seen n kind [] = All-cons (IsFrom n) (message_here n kind) [] (omega arith) (All-nil (IsFrom n))
messages_from seen n kind (b ∷ bs) = All-map (IsFrom n) (message_before seen n kind) (b ∷ bs) (λ k d h. omega arith)

others_from : {Kind : Type 0} (seen : List ℕ) (n : ℕ) (others : List (Kind × ℕ)) → All (IsFrom n) (other_messages seen n others)
others_from seen n others = All-map (IsFrom n) (λ other. message_before seen n other.0 other.1) others (λ k d h. omega arith)

later_from : {Kind : Type 0} (n : ℕ) (faults : List (Message Kind)) → All (IsFrom (n + 1)) faults → All (IsFrom n) faults
later_from n faults h = All-weaker (IsFrom (n + 1)) (IsFrom n) (λ t le. omega arith) faults h

all_from : {Kind Draft Value : Type 0} (l : Lint Kind Draft Value) (seen : List ℕ) (n : ℕ) (d : Draft) (lines : List (List ℕ)) → All (IsFrom n) (faults_after l seen n d lines)
unfolding faults_after
all_from {Kind = Kind} {Value = Value} l seen n d [] = go (l.grammar.finish d)
  where
    go : (r : Result Value Kind) → All (IsFrom n) (end_faults seen n (l.end_others d) r)
    go (Ok v) = All-nil (IsFrom n)
    go (Err k) = All-cons (IsFrom n) (message_here n k) (other_messages seen n (l.end_others d)) (omega arith) (others_from seen n (l.end_others d))
all_from {Kind = Kind} {Draft = Draft} l seen n d (line ∷ lines) = go (l.grammar.line d line) (λ x. later_from n (faults_after l (with_words seen n line) (n + 1) x lines) (all_from l (with_words seen n line) (n + 1) x lines))
  where
    go : (r : Result Draft Kind) → ((x : Draft) → All (IsFrom n) (faults_after l (with_words seen n line) (n + 1) x lines)) → All (IsFrom n) (then_faults l seen n d line lines r (λ x. faults_after l (with_words seen n line) (n + 1) x lines))
    go (Ok x) again = again x
    go (Err k) again =
        All-append (IsFrom n) (messages seen n k (l.backs d line k)) _ (messages_from seen n k (l.backs d line k))
        (All-append (IsFrom n) (other_messages seen n (l.others d line lines k)) _ (others_from seen n (l.others d line lines k)) (again (l.mend d line lines)))

-- ---- none is of a line before the reader's; of its line only such are as are is_said beside it

abbrev pub IsBehind : {Kind : Type 0} → ℕ → (Kind → Type 0) → Message Kind → Type 0
IsBehind n kinds t = (n < t.line) ⊎ (t.line ≡ n) × kinds t.kind

-- what is reported beside a fault is of these kinds
pub record AreBeside {Kind Draft Value : Type 0} (l : Lint Kind Draft Value) (beside : Kind → Kind → Type 0) : Type 0 where
  pub itself : (kind : Kind) → beside kind kind
  pub others : (d : Draft) (line : List ℕ) (lines : List (List ℕ)) (kind : Kind) → All (λ other. beside kind other.0) (l.others d line lines kind)
  pub at_end : (d : Draft) (kind : Kind) → All (λ other. beside kind other.0) (l.end_others d)

messages_same : {Kind : Type 0} (kinds : Kind → Type 0) (seen : List ℕ) (n m : ℕ) (kind : Kind) (backs : List ℕ) → n ≡ m → kinds kind → All (IsBehind m kinds) (messages seen n kind backs)
messages_same kinds seen n m kind [] here is = All-cons (IsBehind m kinds) (message_here n kind) [] (inr (here, is)) (All-nil (IsBehind m kinds))
messages_same kinds seen n m kind (b ∷ bs) here is = All-map (IsBehind m kinds) (message_before seen n kind) (b ∷ bs) (λ k d h. inr (here, is))

others_same : {Kind : Type 0} (kinds : Kind → Type 0) (seen : List ℕ) (n m : ℕ) (others : List (Kind × ℕ)) → n ≡ m → All (λ other. kinds other.0) others → All (IsBehind m kinds) (other_messages seen n others)
others_same kinds seen n m others here are = All-map (IsBehind m kinds) (λ other. message_before seen n other.0 other.1) others (λ k d h. inr (here, are k d h))

after_later : {Kind : Type 0} (kinds : Kind → Type 0) (n m : ℕ) (faults : List (Message Kind)) → n ≡ m → All (IsFrom (n + 1)) faults → All (IsBehind m kinds) faults
after_later kinds n m faults here h = All-weaker (IsFrom (n + 1)) (IsBehind m kinds) (λ t le. inl (omega arith)) faults h

-- those of line m, where that is line n, and of this kind
kind_refused : {Kind A : Type 0} (n : ℕ) (k kind : Kind) (m : ℕ) → on_line {A = A} n (Err k) ≡ Err (At kind m) → k ≡ kind
kind_refused n k kind m e = cc

line_refused : {Kind A : Type 0} (n : ℕ) (k kind : Kind) (m : ℕ) → on_line {A = A} n (Err k) ≡ Err (At kind m) → n ≡ m
line_refused n k kind m e = cc

pub all_after : {Kind Draft Value : Type 0} (l : Lint Kind Draft Value) (beside : Kind → Kind → Type 0) → AreBeside l beside → (seen : List ℕ) (n : ℕ) (d : Draft) (lines : List (List ℕ)) (kind : Kind) (m : ℕ) → lines_after l.grammar n d lines ≡ Err (At kind m) → All (IsBehind m (beside kind)) (faults_after l seen n d lines)
unfolding faults_after lines_after
all_after {Kind = Kind} {Value = Value} l beside are seen n d [] kind m e = go (l.grammar.finish d) e
  where
    go : (r : Result Value Kind) → on_line n r ≡ Err (At kind m) → All (IsBehind m (beside kind)) (end_faults seen n (l.end_others d) r)
    go (Ok v) e = absurd cc
    go (Err k) e =
        let same : kind ≡ k = sym (kind_refused {A = Value} n k kind m e) in
        let here : n ≡ m = line_refused {A = Value} n k kind m e in
        All-cons (IsBehind m (beside kind)) (message_here n k) (other_messages seen n (l.end_others d)) (inr (here, subst (beside kind) same (are.itself kind)))
        (others_same (beside kind) seen n m (l.end_others d) here (are.at_end d kind))
all_after {Kind = Kind} {Draft = Draft} {Value = Value} l beside are seen n d (line ∷ lines) kind m e = go (l.grammar.line d line) e (λ x h. all_after l beside are (with_words seen n line) (n + 1) x lines kind m h)
  where
    go : (r : Result Draft Kind) → then_lines (on_line n r) (λ x. lines_after l.grammar (n + 1) x lines) ≡ Err (At kind m)
        → ((x : Draft) → lines_after l.grammar (n + 1) x lines ≡ Err (At kind m) → All (IsBehind m (beside kind)) (faults_after l (with_words seen n line) (n + 1) x lines))
        → All (IsBehind m (beside kind)) (then_faults l seen n d line lines r (λ x. faults_after l (with_words seen n line) (n + 1) x lines))
    go (Ok x) e again = again x e
    go (Err k) e again =
        let P : Message Kind → Type 0 = IsBehind m (beside kind) in
        let same : kind ≡ k = sym (kind_refused {A = Value} n k kind m e) in
        let here : n ≡ m = line_refused {A = Value} n k kind m e in
        let others = l.others d line lines k in
        let left = l.mend d line lines in
        let beside_it : All (λ other. beside kind other.0) others = subst (λ x. All (λ other. beside x other.0) others) (sym same) (are.others d line lines k) in
        All-append P (messages seen n k (l.backs d line k)) _ (messages_same (beside kind) seen n m k (l.backs d line k) here (subst (beside kind) same (are.itself kind)))
        (All-append P (other_messages seen n others) _ (others_same (beside kind) seen n m others here beside_it)
        (after_later (beside kind) n m (faults_after l (with_words seen n line) (n + 1) left lines) here (all_from l (with_words seen n line) (n + 1) left lines)))

-- ---- the same of what is said

abbrev some_of : {Kind : Type 0} → Kind → ℕ → Option (Kind × ℕ)
some_of kind n = Some (kind, n)

pair_some : {Kind : Type 0} (k kind : Kind) (m n : ℕ) → k ≡ kind → m ≡ n → some_of k m ≡ some_of kind n
pair_some {Kind = Kind} k kind m n same here = ap (λ (x : Kind). some_of x m) same ∙ ap (λ (x : ℕ). some_of kind x) here

module _ {Kind : Type 0} (fault_of : Cause → Option (Kind × ℕ)) where
  -- a fault is said before others, after others, or in another order
  any_left : (f : Kind × ℕ) (xs ys : List Said) → Any (λ s. fault_of s.cause ≡ Some f) xs → Any (λ s. fault_of s.cause ≡ Some f) (xs ++ ys)
  any_left f xs ys h =
      let found = Contains-append_left xs ys h.1 (h.0, h.2, h.3) in
      (found.0, h.1, found.1, found.2, h.4)

  any_right : (f : Kind × ℕ) (xs ys : List Said) → Any (λ s. fault_of s.cause ≡ Some f) ys → Any (λ s. fault_of s.cause ≡ Some f) (xs ++ ys)
  any_right f xs ys h =
      let found = Contains-append_right xs ys h.1 (h.0, h.2, h.3) in
      (found.0, h.1, found.1, found.2, h.4)

  any_moved : (f : Kind × ℕ) (xs ys : List Said) → IsPermutation xs ys → Any (λ s. fault_of s.cause ≡ Some f) xs → Any (λ s. fault_of s.cause ≡ Some f) ys
  any_moved f xs ys moved h =
      let found = Contains-permutation xs ys h.1 moved (h.0, h.2, h.3) in
      (found.0, h.1, found.1, found.2, h.4)

  -- where no fault of the part is, none is before a line
  none_before : (n : ℕ) (kinds : Kind → Type 0) (xs : List Said) → NoneSaid fault_of xs → All (λ s. IsNotBefore n kinds (fault_of s.cause)) xs
  none_before n kinds xs none = All-weaker (λ s. fault_of s.cause ≡ None) (λ s. IsNotBefore n kinds (fault_of s.cause)) (λ s e. subst (IsNotBefore n kinds) (sym e) tt) xs none

  pub least_left : (kinds : Kind → Type 0) (xs ys : List Said) (kind : Kind) (n : ℕ) → NoneSaid fault_of ys → IsLeast fault_of kinds xs kind n → IsLeast fault_of kinds (xs ++ ys) kind n
  least_left kinds xs ys kind n none least =
      record { is_said = any_left (kind, n) xs ys least.is_said; others = All-append (λ s. IsNotBefore n kinds (fault_of s.cause)) xs ys least.others (none_before n kinds ys none) }

  pub least_right : (kinds : Kind → Type 0) (xs ys : List Said) (kind : Kind) (n : ℕ) → NoneSaid fault_of xs → IsLeast fault_of kinds ys kind n → IsLeast fault_of kinds (xs ++ ys) kind n
  least_right kinds xs ys kind n none least =
      record { is_said = any_right (kind, n) xs ys least.is_said; others = All-append (λ s. IsNotBefore n kinds (fault_of s.cause)) xs ys (none_before n kinds xs none) least.others }

  pub least_moved : (kinds : Kind → Type 0) (xs ys : List Said) (kind : Kind) (n : ℕ) → IsPermutation xs ys → IsLeast fault_of kinds xs kind n → IsLeast fault_of kinds ys kind n
  least_moved kinds xs ys kind n moved least =
      record { is_said = any_moved (kind, n) xs ys moved least.is_said; others = All-permutation (λ s. IsNotBefore n kinds (fault_of s.cause)) xs ys moved least.others }

  -- the same of a part that its reader reads or refuses
  pub readers_left : {A : Type 0} (beside : Kind → Kind → Type 0) (r : Result A (Refused Kind)) (xs ys : List Said) → NoneSaid fault_of ys → LeastIsReaders fault_of beside r xs → LeastIsReaders fault_of beside r (xs ++ ys)
  readers_left beside (Ok x) xs ys none h = All-append (λ s. fault_of s.cause ≡ None) xs ys h none
  readers_left beside (Err Memory) xs ys none h = h
  readers_left beside (Err (At kind n)) xs ys none h = least_left (beside kind) xs ys kind n none h

  pub readers_right : {A : Type 0} (beside : Kind → Kind → Type 0) (r : Result A (Refused Kind)) (xs ys : List Said) → NoneSaid fault_of xs → LeastIsReaders fault_of beside r ys → LeastIsReaders fault_of beside r (xs ++ ys)
  readers_right beside (Ok x) xs ys none h = All-append (λ s. fault_of s.cause ≡ None) xs ys none h
  readers_right beside (Err Memory) xs ys none h = h
  readers_right beside (Err (At kind n)) xs ys none h = least_right (beside kind) xs ys kind n none h

  pub readers_moved : {A : Type 0} (beside : Kind → Kind → Type 0) (r : Result A (Refused Kind)) (xs ys : List Said) → IsPermutation xs ys → LeastIsReaders fault_of beside r xs → LeastIsReaders fault_of beside r ys
  readers_moved beside (Ok x) xs ys moved h = All-permutation (λ s. fault_of s.cause ≡ None) xs ys moved h
  readers_moved beside (Err Memory) xs ys moved h = h
  readers_moved beside (Err (At kind n)) xs ys moved h = least_moved (beside kind) xs ys kind n moved h

  -- the faults of a part, where the first is the reader's, and all others are after it
  module _ (of : Kind → FaultKind) (is : (kind : Kind) (n : ℕ) → fault_of (Fault (of kind) n) ≡ Some (kind, n)) where
    pub least_said : (kinds : Kind → Type 0) (above : ℕ) (first : Message Kind) (others : List (Message Kind)) (kind : Kind) (n : ℕ) → kind ≡ first.kind → n ≡ first.line → All (IsBehind n kinds) (first ∷ others) → IsLeast fault_of kinds (said_faults of above (first ∷ others)) kind n
    least_said kinds above first others kind n same here behind =
        let faults = first ∷ others in
        let front = message_said of above first in
        record {
          is_said = (0, front, omega arith, refl, is first.kind first.line ∙ pair_some first.kind kind first.line n (sym same) (sym here));
          others = All-map (λ s. IsNotBefore n kinds (fault_of s.cause)) (message_said of above) faults (λ k d h. subst (IsNotBefore n kinds) (sym (is (get_or faults k d).kind (get_or faults k d).line)) (behind k d h));
        }

    pub readers_said : {A : Type 0} (beside : Kind → Kind → Type 0) (above : ℕ) (r : Result A (Refused Kind)) (faults : List (Message Kind)) → AgreeOnText r faults → ((kind : Kind) (n : ℕ) → r ≡ Err (At kind n) → All (IsBehind n (beside kind)) faults) → LeastIsReaders fault_of beside r (said_faults of above faults)
    readers_said beside above (Ok x) [] agree behind = All-nil (λ s. fault_of s.cause ≡ None)
    readers_said beside above (Ok x) (first ∷ others) agree behind = absurd agree
    readers_said beside above (Err e) [] agree behind = absurd agree
    readers_said beside above (Err Memory) (first ∷ others) agree behind = absurd cc
    readers_said beside above (Err (At kind n)) (first ∷ others) agree behind = least_said (beside kind) above first others kind n (cc) (cc) (behind kind n refl)

-- ---- faults of which each is of a later line than the one before it

-- each number is at least n and greater than the one before it
abbrev pub Rise : ℕ → List ℕ → Type 0
Rise n [] = Unit {0}
Rise n (m ∷ ms) = (n ≤ m) × Rise (m + 1) ms

pub rise_sooner : (n m : ℕ) (ms : List ℕ) → n ≤ m → Rise m ms → Rise n ms
rise_sooner n m [] le h = tt
rise_sooner n m (k ∷ ks) le h = (omega (arith, le, h.0), h.1)

module _ {X Kind : Type 0} (line_of : X → ℕ) (kind_of : X → Kind) where
  abbrev pub message_of : X → Message Kind
  message_of x = message_here (line_of x) (kind_of x)

  all_later : (n : ℕ) (xs : List X) → Rise n (map line_of xs) → All (λ x. n ≤ line_of x) xs
  all_later n [] h = All-nil (λ x. n ≤ line_of x)
  all_later n (x ∷ xs) h = All-cons (λ y. n ≤ line_of y) x xs h.0 (all_later n xs (rise_sooner n (line_of x + 1) (map line_of xs) (omega (arith, h.0)) h.1))

  rising_after : (n : ℕ) (first : X) (others : List X) → Rise n (map line_of (first ∷ others)) → All (IsBehind (line_of first) (Same (kind_of first))) (map message_of (first ∷ others))
  rising_after n first others h =
      let P : Message Kind → Type 0 = IsBehind (line_of first) (Same (kind_of first)) in
      let later = all_later (line_of first + 1) others h.1 in
      All-cons P (message_of first) (map message_of others) (inr (refl, refl))
      (All-map P message_of others (All-weaker (λ x. line_of first + 1 ≤ line_of x) (λ x. P (message_of x)) (λ x le. inl (omega arith)) others later))

  pub least_of_rising : (fault_of : Cause → Option (Kind × ℕ)) (of : Kind → FaultKind) → ((kind : Kind) (n : ℕ) → fault_of (Fault (of kind) n) ≡ Some (kind, n)) → (above n : ℕ) (first : X) (others : List X) → Rise n (map line_of (first ∷ others)) → IsLeast fault_of (Same (kind_of first)) (map (λ x. message_said of above (message_of x)) (first ∷ others)) (kind_of first) (line_of first)
  least_of_rising fault_of of is above n first others h =
      subst (λ (xs : List Said). IsLeast fault_of (Same (kind_of first)) xs (kind_of first) (line_of first)) (map-map (message_said of above) message_of (first ∷ others))
      (least_said fault_of of is (Same (kind_of first)) above (message_of first) (map message_of others) (kind_of first) (line_of first) refl refl (rising_after n first others h))
