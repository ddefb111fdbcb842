-- Histories with no more operations of a thread than are left to it.
use Rattle.std.proofs.Common.{◌≡◌, ℕ, suc, zero, ◌+◌, ◌-◌, ◌<◌, ◌≤◌, Bool, false, List, [], ◌∷◌, length, take, drop, get_or, set, ◌↔◌, IsTrue, replicate, Option, Some, slice_get, if◌then◌else◌, refl, sym, ap, subst, ◌∙◌, inl, inr, arith}
use Rattle.std.specs.Prelude.{◌==◌}
use Rattle.std.proofs.lemmas.Bool.Decides.{eqb_tells}
use Rattle.std.proofs.lemmas.List.{take_all, get_or-set_same, get_or-set_other}
use Rattle.std.specs.Option.{unwrap_or}
use Rattle.std.proofs.lemmas.Option.{slice_get_past}
use Rattle.lu_test.specs.declared.matrix.Call.{Call}
use Rattle.lu_test.specs.Matrix.{Matrix, calls_of}
use Rattle.lu_history.specs.declared.serial.SerialOp.{SerialOp}
use Rattle.lu_trie.specs.Members.{after}
use Rattle.lu_trie.specs.Branches.{Branch, joined, branches_of, IsBranching}
use Rattle.lu_witness.specs.Witnesses.{entries}
use Rattle.lu_witness.proofs.Entries.{entries_own}
use Rattle.lu_spec.specs.Beginnings.{Has}
use Rattle.lu_spec.specs.Specs.{FitsIn, AllFitIn}
use Rattle.lu_spec.proofs.Sets.{has_either, has_after, joined_next, below_some, parted, of_branch, in_joined}

pub entries_other : (t : ℕ) (op : SerialOp) (q : List SerialOp) → (op.thread == t) ≡ false → entries t (op ∷ q) ≡ entries t q
entries_other t op q other = ap (λ (b : Bool). if b then op.outcome ∷ entries t q else entries t q) other

-- with one operation more of the thread
abbrev pub lessened : List ℕ → ℕ → List ℕ
lessened left t = set left t (get_or left t 0 - 1)

pub fits_more : (left : List ℕ) (op : SerialOp) (q : List SerialOp) → op.thread < length left → 0 < get_or left op.thread 0 → FitsIn (lessened left op.thread) q → FitsIn left (op ∷ q)
fits_more left op q within some fits t = elim (eqb_tells op.thread t) [
  | inl (same, is) ↦ subst (λ (i : ℕ). length (entries i (op ∷ q)) ≤ get_or left i 0) is
      (omega (arith, ap length (entries_own op q), fits op.thread, get_or-set_same left op.thread (get_or left op.thread 0 - 1) 0 within, some))
  | inr (other, differ) ↦
      omega (arith, ap length (entries_other t op q other), fits t, get_or-set_other left op.thread t (get_or left op.thread 0 - 1) 0 (λ e. differ (sym e)))
]

pub fits_less : (left : List ℕ) (op : SerialOp) (q : List SerialOp) → op.thread < length left → FitsIn left (op ∷ q) → FitsIn (lessened left op.thread) q
fits_less left op q within fits t = elim (eqb_tells op.thread t) [
  | inl (same, is) ↦ subst (λ (i : ℕ). length (entries i q) ≤ get_or (lessened left op.thread) i 0) is
      (omega (arith, ap length (entries_own op q), fits op.thread, get_or-set_same left op.thread (get_or left op.thread 0 - 1) 0 within))
  | inr (other, differ) ↦
      omega (arith, ap length (entries_other t op q other), fits t, get_or-set_other left op.thread t (get_or left op.thread 0 - 1) 0 (λ e. differ (sym e)))
]

-- no operation of the thread is left
pub none_left : (left : List ℕ) (op : SerialOp) (q : List SerialOp) → get_or left op.thread 0 ≡ 0 → FitsIn left (op ∷ q) → ⊥
none_left left op q none fits = absurd (omega (arith, ap length (entries_own op q), fits op.thread, none))

-- ---- kid after kid

pub fit_none : (left : List ℕ) → AllFitIn left []
fit_none left q has = absurd cc

module _ (left : List ℕ) (hs : List (List SerialOp)) (is : IsBranching hs) (i : ℕ) (op : SerialOp) (below : List (List SerialOp)) (at : slice_get (branches_of hs) i ≡ Some (op, below)) where
  pub kid_fits : op.thread < length left → 0 < get_or left op.thread 0 → AllFitIn left (joined (take i (branches_of hs))) → AllFitIn (lessened left op.thread) below → AllFitIn left (joined (take (i + 1) (branches_of hs)))
  kid_fits within some before kid q has =
      elim (has_either (joined (take i (branches_of hs))) (after op below) q (subst (λ (x : List (List SerialOp)). Has x q) (joined_next (branches_of hs) i op below at) has)) [
        | inl was ↦ before q was
        | inr here ↦ let found = has_after op below q here in subst (FitsIn left) (sym found.1) (fits_more left op found.0 within some (kid found.0 found.2))
      ]

  -- all fit, so those of the kid do
  pub fits_kid : op.thread < length left → AllFitIn left hs → AllFitIn (lessened left op.thread) below
  fits_kid within all h has =
      fits_less left op h within (all (op ∷ h) (of_branch hs (op ∷ h) is (in_joined (branches_of hs) i (op, below) h at has)))

  pub kid_full : get_or left op.thread 0 ≡ 0 → AllFitIn left hs → ⊥
  kid_full none all =
      let some = below_some (branches_of hs) i (op, below) is.branches.full at in
      none_left left op some.0 none (all (op ∷ some.0) (of_branch hs (op ∷ some.0) is (in_joined (branches_of hs) i (op, below) some.0 at some.1)))

pub all_fit : (left : List ℕ) (hs : List (List SerialOp)) (n : ℕ) → IsBranching hs → length (branches_of hs) ≤ n → AllFitIn left (joined (take n (branches_of hs))) → AllFitIn left hs
all_fit left hs n is all fit q has = elim (parted hs q is has) [
  | inl empty ↦ subst (FitsIn left) (sym empty) (λ t. omega arith)
  | inr branch ↦ fit q (subst (λ (x : List Branch). Has (joined x) q) (sym (take_all n (branches_of hs) all)) branch)
]

-- ---- the calls of a matrix

pub all_zero : (n t : ℕ) → let none : ℕ = 0 in get_or (replicate n none) t none ≡ none
all_zero zero t = refl
all_zero (suc n) zero = refl
all_zero (suc n) (suc t) = all_zero n t

pub calls_past : (matrix : Matrix) (t : ℕ) → length matrix.threads ≤ t → length (calls_of matrix t) ≡ 0
calls_past matrix t past = ap (λ (o : Option (List Call)). length (unwrap_or o [])) (slice_get_past matrix.threads t past)

-- ---- a history by its first operation

pub none_first : (left : List ℕ) (h : List SerialOp) (d : SerialOp) → 1 ≤ length h → get_or left (get_or h 0 d).thread 0 ≡ 0 → FitsIn left h → ⊥
none_first left [] d some none fits = absurd (omega arith)
none_first left (op ∷ h) d some none fits = none_left left op h none fits

pub fits_first : (left others : List ℕ) (h rest : List SerialOp) (d : SerialOp) (t : ℕ) (b : Bool) → 1 ≤ length h → t ≡ (get_or h 0 d).thread → t < length left → (get_or left t 0 ≡ 0 → ⊥) → others ≡ lessened left t → rest ≡ take (length h - 1) (drop 1 h) → (IsTrue b ↔ FitsIn others rest) → (IsTrue b ↔ FitsIn left h)
fits_first left others [] rest d t b empty number within some less after_it answer = absurd (omega arith)
fits_first left others (op ∷ h) rest d t b one number within some less after_it answer =
    let whole : rest ≡ h = after_it ∙ take_all (length (op ∷ h) - 1) h (omega arith) in
    let fewer : others ≡ lessened left op.thread = less ∙ ap (lessened left) number in
    let inside : op.thread < length left = omega arith in
    let left_some : 0 < get_or left op.thread 0 = subst (λ (i : ℕ). 0 < get_or left i 0) number (omega (arith, some)) in (
      λ is. fits_more left op h inside left_some (subst (λ (x : List ℕ). FitsIn x h) fewer (subst (FitsIn others) whole (answer.0 is))),
      λ fits. answer.1 (subst (λ (x : List ℕ). FitsIn x rest) (sym fewer) (subst (FitsIn (lessened left op.thread)) (sym whole) (fits_less left op h inside fits))),
    )
