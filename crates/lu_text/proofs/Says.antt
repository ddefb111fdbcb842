-- Lines whose tests all fail.
use Rattle.std.proofs.Common.{◌≡◌, Bool, true, false, cond, [], ◌∷◌, Option, Some, None, Ok, refl}
use Rattle.lu_text.specs.Faults.{Tests, first_fault, or_else, says}

abbrev pub NoneHold : {Kind : Type 0} → Tests Kind → Type 0
NoneHold [] = Unit {0}
NoneHold (test ∷ tests) = (test.0 ≡ false) × NoneHold tests

none_hold : {Kind : Type 0} (tests : Tests Kind) → first_fault tests ≡ None → NoneHold tests
none_hold [] e = tt
none_hold {Kind = Kind} (test ∷ tests) e = go test.0 refl (none_hold tests) e
  where
    go : (b : Bool) → test.0 ≡ b → (first_fault tests ≡ None → NoneHold tests) → cond b (Some test.1) (first_fault tests) ≡ None → (test.0 ≡ false) × NoneHold tests
    go true is rest f = absurd cc
    go false is rest f = (is, rest f)

pub record Said {Kind A : Type 0} (tests : Tests Kind) (x y : A) : Type 0 where
  pub none : NoneHold tests
  pub same : x ≡ y

-- where a line says something, nothing is wrong with it
pub said : {Kind A : Type 0} (tests : Tests Kind) (x y : A) → says tests x ≡ Ok y → Said tests x y
said {Kind = Kind} {A = A} tests x y e = go (first_fault tests) refl e
  where
    go : (o : Option Kind) → first_fault tests ≡ o → or_else o x ≡ Ok y → Said tests x y
    go None is f = record { none = none_hold tests is; same = cc }
    go (Some kind) is f = absurd cc
