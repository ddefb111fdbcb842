-- Histories that differ by the order of events that stand beside one another: of calls, of returns,
-- and of a return and a call, where the call comes first then. The second history has no more
-- precedence than the first (Herlihy and Wing, 1990), so each witness of that is one of it.
use Rattle.std.specs.Prelude.{◌≡◌, ◌≢◌, ℕ, zero, suc, List, ◌∷◌, ◌++◌, Option, None, Some}
use Rattle.lu_machine.specs.declared.event.Event.{Event}
use Rattle.lu_machine.specs.declared.event.Event.TheVariants.{Call, Return}

-- In the other order they have no more precedence: two calls, or two returns, of different threads,
-- or a return and then a call.
abbrev pub MayChange : Event → Event → Type 0
MayChange (Call t k) (Call u l) = t ≢ u
MayChange (Call t k) (Return u l outcome) = ⊥
MayChange (Return t k outcome) (Call u l) = Unit {0}
MayChange (Return t k outcome) (Return u l other) = t ≢ u

-- two such events that stand beside one another were exchanged
pub record AreExchanged (h k : List Event) : Type 0 where
  pub front : List Event
  pub back : List Event
  pub first : Event
  pub second : Event
  pub may : MayChange first second
  pub before : h ≡ front ++ first ∷ second ∷ back
  pub after : k ≡ front ++ second ∷ first ∷ back

-- by this many exchanges, one after the other; and by any number of them
abbrev pub AreReorderedBy : ℕ → List Event → List Event → Type 0
AreReorderedBy zero h k = h ≡ k
AreReorderedBy (suc n) h k = (g : List Event) × AreExchanged h g × AreReorderedBy n g k

abbrev pub AreReordered : List Event → List Event → Type 0
AreReordered h k = (n : ℕ) × AreReorderedBy n h k

-- two events have no more precedence in the other order: one is none, or they may be exchanged
abbrev pub AreUnordered : Option Event → Option Event → Type 0
AreUnordered None event = Unit {0}
AreUnordered (Some one) None = Unit {0}
AreUnordered (Some one) (Some other) = MayChange one other
