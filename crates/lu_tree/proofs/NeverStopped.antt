-- What a search finds that no watch stops.
use Rattle.std.proofs.Common.{◌≡◌, ℕ, false, List, Result, Ok, Err, subst}
use Rattle.std.specs.Prelude.{IfOk}
use Rattle.lu_test.specs.declared.schedule.Move.{Move}
use Rattle.lu_machine.specs.States.{State}
use Rattle.lu_history.specs.declared.serial.SerialOp.{SerialOp}
use Rattle.lu_witness.specs.Goodness.{AreAllGood, IsFirstBad}
use Rattle.lu_witness.specs.Witnesses.{IsMember}
use Rattle.lu_tree.specs.declared.found.Found.{Found}
use Rattle.lu_tree.specs.declared.found.Found.TheVariants.{Clean, Bad, Abandoned}
use Rattle.lu_tree.specs.Trees.{Below, IsFound, IsFoundWatched, is_abandoned}

pub never_stopped : {E : Type 0} (given members : List (List SerialOp)) (s : State) (bound : ℕ) (from : List Move) (r : Result Found E) → given ≡ members → false ≡ is_abandoned r → IfOk r (IsFoundWatched (IsMember given) s bound (Below from)) → IfOk r (IsFound (IsMember members) s bound (Below from))
never_stopped given members s bound from (Ok (Clean counts)) same no_stop is = subst (λ x. AreAllGood (IsMember x) s bound (Below from) counts) same is
never_stopped given members s bound from (Ok (Bad schedule why)) same no_stop is = subst (λ x. IsFirstBad (IsMember x) s bound (Below from) schedule why) same is
never_stopped given members s bound from (Ok Abandoned) same no_stop is = absurd cc
never_stopped given members s bound from (Err e) same no_stop is = tt
