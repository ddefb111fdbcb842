-- How a walk leaves the node, its tally and what is known.
use Rattle.std.proofs.Common.{◌≡◌, ◌≤◌, ℕ, false, List, length, vec_capacity, IfOk, Result, Ok, Err, refl, sym, ◌∙◌, ap, subst, arith}
use Rattle.lu_test.specs.declared.schedule.Move.{Move}
use Rattle.lu_machine.specs.declared.event.Event.{Event}
use Rattle.lu_machine.specs.States.{State, progress}
use Rattle.lu_history.specs.Standing.{Agree}
use Rattle.lu_history.specs.declared.serial.SerialOp.{SerialOp}
use Rattle.lu_witness.specs.Goodness.{IsFirstBad}
use Rattle.lu_witness.specs.Witnesses.{IsMember}
use Rattle.lu_tree.specs.declared.found.Found.{Found}
use Rattle.lu_tree.specs.declared.found.Found.TheVariants.{Clean, Bad, Abandoned}
use Rattle.lu_tree.specs.declared.halt.Halt.{Halt}
use Rattle.lu_tree.specs.declared.halt.Halt.TheVariants.{NotGood, Stopped, Memory}
use Rattle.lu_tree.specs.declared.known.Known.{Known}
use Rattle.lu_tree.specs.declared.node.Node.{Node}
use Rattle.lu_tree.specs.declared.progress.WalkProgress.{WalkProgress}
use Rattle.lu_tree.specs.Trees.{Below, IsFoundWatched, is_abandoned}
use Rattle.lu_tree.specs.Walks.{HaltsAtNode, IsBadAt, IsFirstAt, IsReadyToWalk}
use Rattle.lu_tree.specs.Walked.{IsBadFound, IsWalked, Passed, StaysBelow}
use Rattle.lu_tree.proofs.Added.{first_bad}

abbrev node_of : {T Place : Type 0} → State → T → List Event → Node T Place
node_of s tree h = record { machine = s; trail = record { tree = tree; history = h } }

-- nodes are the same where their machines, their trees and their histories are
pub same_node : {T Place : Type 0} (a b : Node T Place) → a.machine ≡ b.machine → a.trail.tree ≡ b.trail.tree → a.trail.history ≡ b.trail.history → a ≡ b
same_node a b machine tree history =
    ap (λ s. node_of s a.trail.tree a.trail.history) machine ∙ (ap (λ x. node_of b.machine x a.trail.history) tree ∙ ap (λ h. node_of b.machine b.trail.tree h) history)

-- a walk by what holds where it passed, and where it halts at a schedule
pub walked_by : {T Place : Type 0} (members : T → List (List SerialOp)) (node : Node T Place) (left : ℕ) (tally : WalkProgress) (end : Node T Place) (IsTold : Known → Type 0) (r : Result Known Halt) → ((known : Known) → IsTold known → Passed members node left tally end known) → (r ≡ Err NotGood → HaltsAtNode members node left tally end) → IfOk r IsTold → IsWalked members node left tally end r
walked_by members node left tally end IsTold (Ok known) passed halts told = passed known told
walked_by members node left tally end IsTold (Err NotGood) passed halts told = halts refl
walked_by members node left tally end IsTold (Err Stopped) passed halts told = tt
walked_by members node left tally end IsTold (Err Memory) passed halts told = tt

-- and where it halts at a schedule
pub halts_at : {T Place : Type 0} (members : T → List (List SerialOp)) (node : Node T Place) (left : ℕ) (tally : WalkProgress) (end : Node T Place) (halt : Halt) → halt ≡ NotGood → IsWalked members node left tally end (Err halt) → HaltsAtNode members node left tally end
halts_at members node left tally end NotGood is walked = walked
halts_at members node left tally end Stopped is walked = absurd cc
halts_at members node left tally end Memory is walked = absurd cc

-- a walk that halts below a node halts below the one before it for the same cause
pub halted_above : {T Place : Type 0} (members : T → List (List SerialOp)) (node below end : Node T Place) (left less : ℕ) (tally longer : WalkProgress) (halt : Halt) → (HaltsAtNode members below less tally end → HaltsAtNode members node left longer end) → IsWalked members below less tally end (Err halt) → IsWalked members node left longer end (Err halt)
halted_above members node below end left less tally longer NotGood more walked = more walked
halted_above members node below end left less tally longer Stopped more walked = tt
halted_above members node below end left less tally longer Memory more walked = tt

-- a tally whose path is as it was
pub ready_still : (before after : WalkProgress) → after.path ≡ before.path → IsReadyToWalk before → IsReadyToWalk after
ready_still before after same ready =
    record { room = subst (λ p. 256 ≤ vec_capacity p) (sym same) ready.room; empty = ap (λ p. p.items) same ∙ ready.empty }

-- back at the node, with no path
pub stays_home : {T Place : Type 0} (node end : Node T Place) (left : ℕ) (tally : WalkProgress) → end.trail.tree ≡ node.trail.tree → end.machine ≡ node.machine → end.trail.history ≡ node.trail.history → Agree (progress node.machine) node.trail.history → IsReadyToWalk tally → StaysBelow node left tally end
stays_home node end left tally tree machine history agree ready =
    record {
      run = record { component = ap (λ (s : State). s.component) machine; matrix = ap (λ (s : State). s.matrix) machine; tree = tree };
      agree = rw (machine, history) agree;
      room = ready.room;
      short = (let none = ap length ready.empty in omega arith);
    }

-- the schedule that is answered is the first bad one
pub bad_found : {T Place E : Type 0} (members : T → List (List SerialOp)) (tree : T) (end : Node T Place) (start : State) (bound : ℕ) (from u other : List Move) → other ≡ u → members end.trail.tree ≡ members tree → IsFirstAt (IsMember (members tree)) start bound (Below from) u end.machine end.trail.history → (r : Result Found E) → IfOk r (IsBadFound members end other) → IfOk r (IsFoundWatched (IsMember (members tree)) start bound (Below from))
bad_found members tree end start bound from u other same over first (Ok (Bad schedule why)) bad =
    let Set = IsMember (members tree) in
    let is : schedule ≡ u = bad.0 ∙ same in
    let why_bad : IsBadAt Set end.machine end.trail.history why = subst (λ x. IsBadAt (IsMember x) end.machine end.trail.history why) over bad.1 in
    subst (λ v. IsFirstBad Set start bound (Below from) v why) (sym is) (first_bad Set start bound (Below from) u end.machine end.trail.history why first why_bad)
bad_found members tree end start bound from u other same over first (Ok (Clean counts)) bad = absurd bad
bad_found members tree end start bound from u other same over first (Ok Abandoned) bad = absurd bad
bad_found members tree end start bound from u other same over first (Err e) bad = tt

pub bad_not_abandoned : {T Place E : Type 0} (members : T → List (List SerialOp)) (end : Node T Place) (u : List Move) (r : Result Found E) → IfOk r (IsBadFound members end u) → is_abandoned r ≡ false
bad_not_abandoned members end u (Ok (Bad schedule why)) bad = refl
bad_not_abandoned members end u (Ok (Clean counts)) bad = absurd bad
bad_not_abandoned members end u (Ok Abandoned) bad = absurd bad
bad_not_abandoned members end u (Err e) bad = refl
