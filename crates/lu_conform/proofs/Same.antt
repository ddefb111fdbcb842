-- What is kept compares as equal exactly where it stands for the same stage.
use Rattle.std.proofs.Common.{◌≡◌, ℕ, Bool, true, List, refl, sym, ap, ◌∙◌}
use Rattle.std.specs.Bool.{Decides}
use Rattle.std.specs.Prelude.{nat_eq}
use lib.Pointwise.{pointwise}
use Rattle.std.proofs.lemmas.Bool.Decides.{Decides-and, Decides-eqb}
use Rattle.std.proofs.lemmas.Slice.Eq.{slice_eq-Decides}
use Rattle.lu_component.specs.Component.{Component}
use Rattle.lu_test.specs.Matrix.{Matrix}
use Rattle.lu_conform.specs.declared.kept.Kept.{Kept}
use Rattle.lu_conform.specs.contracts.kept.KeptPartialEq as kept
use Rattle.lu_conform.specs.Growing.{stands_for}
use Rattle.lu_conform.specs.Packing.{CanStandWith, numbers_at, owners_in, standing_in, values_in}
use Rattle.lu_conform.specs.Stages.{Stage, stage_of}

abbrev pub kept_eq : Kept → Kept → Bool
kept_eq = (kept.TheImpl.ghosts).eq

same_numbers : (xs ys : List ℕ) → Decides (pointwise nat_eq xs ys) (xs ≡ ys)
same_numbers xs ys = slice_eq-Decides {E = nat_eq} Decides-eqb xs ys (pointwise nat_eq xs ys) refl

module _ (c : Component) (matrix : Matrix) (a b : Kept) where
  stages_same : a.numbers.items ≡ b.numbers.items → a.seen ≡ b.seen → stands_for c matrix a ≡ stands_for c matrix b
  stages_same is same =
      let make : List ℕ → ℕ → Stage = λ numbers n. stage_of (record { component = c; matrix = matrix; cells = values_in c matrix numbers; locks = owners_in c numbers; threads = standing_in c matrix numbers }) n in
      ap (λ x. make x a.seen) is ∙ ap (make b.numbers.items) same

  numbers_same : CanStandWith c matrix a.numbers.items → CanStandWith c matrix b.numbers.items → stands_for c matrix a ≡ stands_for c matrix b → a.numbers.items ≡ b.numbers.items
  numbers_same can other is = can.are ∙ (ap (λ (x : Stage). numbers_at x.state) is ∙ sym other.are)

  same_fields : Decides (kept_eq a b) ((a.numbers.items ≡ b.numbers.items) × (a.seen ≡ b.seen))
  same_fields = Decides-and (pointwise nat_eq a.numbers.items b.numbers.items) (nat_eq a.seen b.seen) (same_numbers a.numbers.items b.numbers.items) (Decides-eqb a.seen b.seen)

  pub equal_kept : kept_eq a b ≡ true → stands_for c matrix a ≡ stands_for c matrix b
  equal_kept equal = let is = same_fields.0 equal in stages_same is.0 is.1

  pub same_kept : CanStandWith c matrix a.numbers.items → CanStandWith c matrix b.numbers.items → stands_for c matrix a ≡ stands_for c matrix b → kept_eq a b ≡ true
  same_kept can other is = same_fields.1 (numbers_same can other is, ap (λ (x : Stage). x.seen) is)
