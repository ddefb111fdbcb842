-- From a set of serial histories and what a search finds over it to a finding.
use Rattle.std.proofs.Common.{◌≡◌, ℕ, List, [], Option, Some, IfSome, IsSome, IsSomeAnd, refl}
use Rattle.lu_report.specs.declared.report.Finding.{Finding}
use Rattle.lu_report.specs.declared.report.Finding.TheVariants.{SerialCut, Nondeterministic, Fail, Pass}
use Rattle.lu_test.specs.declared.schedule.Move.{Move}
use Rattle.lu_machine.specs.States.{State}
use Rattle.lu_machine.specs.Schedules.{IsSchedule, IsNumber}
use Rattle.lu_history.specs.declared.serial.SerialOp.{SerialOp}
use Rattle.lu_serial.specs.Serial.{IsSerialHistory}
use Rattle.lu_serial.specs.Offences.{IsSetOf}
use Rattle.lu_witness.specs.Goodness.{Any}
use Rattle.lu_witness.specs.Witnesses.{IsMember}
use Rattle.lu_tree.specs.declared.found.Found.{Found}
use Rattle.lu_tree.specs.declared.found.Found.TheVariants.{Clean, Bad, Abandoned}
use Rattle.lu_tree.specs.Trees.{Below, IsFound, IsFoundWatched}
use Rattle.lu_replay.specs.Reports.{IsFinding, IsFindingAgainst}
use Rattle.lu_replay.proofs.Sets.{first_bad_alike, all_good_alike}
use Rattle.lu_parallel.specs.declared.works.Work.{Work}
use Rattle.lu_parallel.specs.Conclusions.{IsJointResult}
use Rattle.lu_parallel.specs.Findings.{finding_of}

-- the empty schedule leads nowhere else
pub empty_leads : (s : State) → IsSchedule s []
empty_leads s = record { end = s; history = []; leads = (refl, refl); holds = tt }

-- each schedule begins with the empty one
pub below_empty : (u : List Move) → Below [] u
below_empty u = (u, refl)

-- what is found over a set is what a check against it finds
pub found_against : (Set : List SerialOp → Type 0) (s : State) (bound : ℕ) (found : Found) → IsFound Set s bound Any found → IsSomeAnd (finding_of found) (IsFindingAgainst Set s bound)
found_against Set s bound (Clean counts) is = is
found_against Set s bound (Bad schedule why) is = is
found_against Set s bound Abandoned is = elim is [ ]

-- against the set of all serial histories that is what the check finds
pub against_serially : (members : List (List SerialOp)) (s : State) (bound serial : ℕ) (finding : Finding) → IsSetOf s serial members → IsFindingAgainst (IsMember members) s bound finding → IsFinding s bound serial finding
against_serially members s bound serial (SerialCut u) set is = absurd is
against_serially members s bound serial (Nondeterministic u before earlier) set is = absurd is
against_serially members s bound serial (Fail u why) set is = (set.none, first_bad_alike (IsMember members) (IsSerialHistory s) set.are s bound Any u why is)
against_serially members s bound serial (Pass counts) set is = (set.none, all_good_alike (IsMember members) (IsSerialHistory s) set.are s bound Any counts is)

pub found_finding : (members : List (List SerialOp)) (s : State) (bound serial : ℕ) (found : Found) → IsSetOf s serial members → IsFound (IsMember members) s bound Any found → IsSomeAnd (finding_of found) (IsFinding s bound serial)
found_finding members s bound serial (Clean counts) set is = against_serially members s bound serial (Pass counts) set is
found_finding members s bound serial (Bad schedule why) set is = against_serially members s bound serial (Fail schedule why) set is
found_finding members s bound serial Abandoned set is = elim is [ ]

-- what is found was not abandoned
pub some_finding : (Set : List SerialOp → Type 0) (s : State) (bound : ℕ) (Part : List Move → Type 0) (found : Found) → IsFound Set s bound Part found → IsSome (finding_of found)
some_finding Set s bound Part (Clean counts) is = refl
some_finding Set s bound Part (Bad schedule why) is = refl
some_finding Set s bound Part Abandoned is = elim is [ ]

pub same_finding : (P : Finding → Type 0) (found : Option Finding) (finding : Finding) → found ≡ Some finding → IsSomeAnd found P → P finding
same_finding P found finding is h = rw is at h

number_of : (P Q : List Move → Type 0) (n : ℕ) → ((u : List Move) → P u → Q u) → ((u : List Move) → Q u → P u) → IsNumber P n → IsNumber Q n
number_of P Q n into back is = record {
  list = is.list;
  all = record { rising = is.all.rising; only = λ u listed. into u (is.all.only u listed); each = λ u q. is.all.each u (back u q) };
  number = is.number;
}

-- what is found below the empty schedule is what is found among all
pub all_below : (Set : List SerialOp → Type 0) (s : State) (bound : ℕ) (found : Found) → IsFound Set s bound (Below []) found → IsFound Set s bound Any found
all_below Set s bound (Clean counts) is = record {
  good = λ u any ended. is.good u (below_empty u) ended;
  numbers = record {
    complete = number_of _ _ counts.complete (λ u p. (tt, p.1)) (λ u p. (below_empty u, p.1)) is.numbers.complete;
    stuck = number_of _ _ counts.stuck (λ u p. (tt, p.1)) (λ u p. (below_empty u, p.1)) is.numbers.stuck;
    cut = number_of _ _ counts.cut (λ u p. (tt, p.1)) (λ u p. (below_empty u, p.1)) is.numbers.cut;
  };
}
all_below Set s bound (Bad schedule why) is = record {
  part = tt;
  bad = is.bad;
  before = λ v at ended. is.before v (below_empty v, at.1) ended;
  why_is = is.why_is;
}
all_below Set s bound Abandoned is = elim is [ ]

-- what works conclude was not abandoned
pub concluded_finding : (works : List Work) (found : Found) → IsJointResult works found → IsSome (finding_of found)
concluded_finding works (Clean counts) is = refl
concluded_finding works (Bad schedule why) is = refl
concluded_finding works Abandoned is = elim is [ ]

-- what a search found that has a finding is what one finds that no watch stops
pub found_kept : (Set : List SerialOp → Type 0) (s : State) (bound : ℕ) (Part : List Move → Type 0) (found : Found) (finding : Finding) → finding_of found ≡ Some finding → IsFoundWatched Set s bound Part found → IsFound Set s bound Part found
found_kept Set s bound Part (Clean counts) finding some is = is
found_kept Set s bound Part (Bad schedule why) finding some is = is
found_kept Set s bound Part Abandoned finding some is = absurd cc

-- what a search below the empty schedule found, unless it was abandoned, is what one finds
pub may_find : (Set : List SerialOp → Type 0) (s : State) (bound : ℕ) (found : Found) → IsFoundWatched Set s bound (Below []) found → IfSome (finding_of found) (IsFindingAgainst Set s bound)
may_find Set s bound (Clean counts) is = all_below Set s bound (Clean counts) is
may_find Set s bound (Bad schedule why) is = all_below Set s bound (Bad schedule why) is
may_find Set s bound Abandoned is = tt
