-- What a report holds, and its limits.
use Rattle.std.specs.Prelude.{◌≡◌, ℕ, ◌≤◌, List, Option, Some, None, IfSome, IfNone}
use Rattle.lu_test.specs.declared.schedule.Move.{Move}
use Rattle.lu_witness.specs.declared.judgement.Why.{Why}
use Rattle.lu_witness.specs.declared.judgement.Why.TheVariants.{Complete, Stuck}
use Rattle.lu_report.specs.declared.report.Finding.{Finding}
use Rattle.lu_report.specs.declared.report.Finding.TheVariants.{SerialCut, Nondeterministic, Fail, Pass}
pub use Rattle.lu_report.specs.Limits.{IsSerialBound, most_moves}

-- The bound of schedules; that of serial runs, where the check is one against these, and none where
-- it is against a specification; how many local instructions run with one move at most; and what is
-- found.
pub record Report : Type 0 where
  pub bound : ℕ
  pub serial : Option ℕ
  pub local : ℕ
  pub finding : Finding

abbrev pub parts_of : ℕ → Option ℕ → ℕ → Finding → Report
parts_of bound serial local finding = record {
  bound = bound;
  serial = serial;
  local = local;
  finding = finding;
}

-- a thread is 0 to 7
abbrev pub IsThreadOf : Why → Type 0
IsThreadOf Complete = Unit {0}
IsThreadOf (Stuck t) = t ≤ 7

-- a thread is 0 to 7, and at most 15 operations agree
abbrev pub IsWithin : Finding → Type 0
IsWithin (SerialCut u) = Unit {0}
IsWithin (Nondeterministic u before earlier) = before ≤ 15
IsWithin (Fail u why) = IsThreadOf why
IsWithin (Pass counts) = Unit {0}

-- what is found is a serial offence
abbrev pub IsOfOffence : Finding → Type 0
IsOfOffence (SerialCut u) = Unit {0}
IsOfOffence (Nondeterministic u before earlier) = Unit {0}
IsOfOffence (Fail u why) = ⊥
IsOfOffence (Pass counts) = ⊥

-- what is found is a failure or a pass
abbrev pub IsJudgement : Finding → Type 0
IsJudgement (SerialCut u) = ⊥
IsJudgement (Nondeterministic u before earlier) = ⊥
IsJudgement (Fail u why) = Unit {0}
IsJudgement (Pass counts) = Unit {0}

-- what is found is a pass
abbrev pub IsPass : Finding → Type 0
IsPass (SerialCut u) = ⊥
IsPass (Nondeterministic u before earlier) = ⊥
IsPass (Fail u why) = ⊥
IsPass (Pass counts) = Unit {0}

-- a failure, or nondeterminism
abbrev pub IsFailure : Finding → Type 0
IsFailure (SerialCut u) = ⊥
IsFailure (Nondeterministic u before earlier) = Unit {0}
IsFailure (Fail u why) = Unit {0}
IsFailure (Pass counts) = ⊥

-- a pass, and no schedule was cut
abbrev pub IsFullPass : Finding → Type 0
IsFullPass (SerialCut u) = ⊥
IsFullPass (Nondeterministic u before earlier) = ⊥
IsFullPass (Fail u why) = ⊥
IsFullPass (Pass counts) = counts.cut ≡ 0

-- the schedule that shows it; of a pass none
abbrev pub shown_schedule : Finding → Option (List Move)
shown_schedule (SerialCut u) = Some u
shown_schedule (Nondeterministic u before earlier) = Some u
shown_schedule (Fail u why) = Some u
shown_schedule (Pass counts) = None

-- the limits of a report; a check against a specification finds a failure or a pass
pub record AreLimits (r : Report) : Type 0 where
  pub most : r.bound ≤ most_moves
  pub serial : IfSome r.serial IsSerialBound
  pub local_few : r.local ≤ 16
  pub within : IsWithin r.finding
  pub judged : IfNone r.serial (IsJudgement r.finding)
