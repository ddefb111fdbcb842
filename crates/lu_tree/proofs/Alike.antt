-- Each state is alike to itself.
use Rattle.std.proofs.Common.{Option, Some, None, slice_get, refl}
use Rattle.lu_machine.specs.declared.thread.Activity.{Activity}
use Rattle.lu_machine.specs.declared.thread.Activity.TheVariants.{Idle, Open}
use Rattle.lu_machine.specs.declared.thread.Thread.{Thread}
use Rattle.lu_machine.specs.States.{State}
use Rattle.lu_horizon.specs.Dead.{DeadTable}
use Rattle.lu_tree.specs.Alike.{AreActivitiesAlike, AreAlike, AreStandingAlike}

module _ (table : DeadTable) where
  activity_itself : (a : Activity) → AreActivitiesAlike table a a
  activity_itself Idle = tt
  activity_itself (Open f) = record { op = refl; place = refl; many = refl; live = λ r alive. refl }

  pub standing_itself : (o : Option Thread) → AreStandingAlike table o o
  standing_itself None = tt
  standing_itself (Some a) = (refl, activity_itself a.activity)

  pub alike_itself : (s : State) → AreAlike table s s
  alike_itself s = record { component = refl; matrix_is = refl; cells = refl; locks = refl; threads = λ t. standing_itself (slice_get s.threads t) }
