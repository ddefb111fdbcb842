-- What locations hold compares as equal exactly where it is the same.
use Rattle.std.proofs.Common.{◌≡◌, ℕ, true, Option, Some, None, nat_eq, refl, ap, rules}
use Rattle.std.proofs.lemmas.Bool.{eq-eqb, eqb-true}
use Rattle.std.specs.Option.{option_eq}
use Rattle.lu_tree.specs.contracts.access.HeldPartialEq as held
use Rattle.lu_tree.specs.declared.access.Held.{Held}
use Rattle.lu_tree.specs.declared.access.Held.TheVariants.{Value, Owner}

same_owner : (a b : Option ℕ) → option_eq nat_eq a b ≡ true → a ≡ b
same_owner (Some a) (Some b) h = ap Some (eqb-true a b h)
same_owner (Some a) None h = search rules
same_owner None (Some b) h = search rules
same_owner None None h = refl

pub same_held : (a b : Held) → (held.TheImpl.ghosts).eq a b ≡ true → a ≡ b
same_held (Value a) (Value b) h = ap (λ n. Value n) (eqb-true a b h)
same_held (Value a) (Owner b) h = search rules
same_held (Owner a) (Value b) h = search rules
same_held (Owner a) (Owner b) h = ap (λ o. Owner o) (same_owner a b h)

owner_itself : (a : Option ℕ) → option_eq nat_eq a a ≡ true
owner_itself (Some a) = eq-eqb a a refl
owner_itself None = refl

held_itself : (a : Held) → (held.TheImpl.ghosts).eq a a ≡ true
held_itself (Value n) = eq-eqb n n refl
held_itself (Owner o) = owner_itself o

pub held_equal : (a b : Held) → a ≡ b → (held.TheImpl.ghosts).eq a b ≡ true
held_equal a b same = rw (← same) (held_itself a)
