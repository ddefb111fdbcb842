-- What `certify --rounds` and `certify --forever` answer.
use Rattle.std.specs.Prelude.{ℕ, ◌≡◌, ◌⊎◌, ◌++◌, List, Result, IfOk, codes}
use Rattle.std.specs.Fmt.{decimal}
use Rattle.lu_text.specs.Words.{exactly_two}
use Rattle.lu_component.specs.Component.{Component}
use Rattle.lu_test.specs.declared.schedule.Move.{Move}
use Rattle.lu_test.specs.Matrix.{Matrix}
use Rattle.lu_test.specs.ScheduleText.{schedule_text}
use Rattle.lu_machine.specs.declared.test.Test.{Test}
use Rattle.lu_client.specs.Rounds.{IsUnrolledFrom, times}
use Rattle.lu_answers.specs.declared.rounds.Rounds.{Rounds}
use Rattle.lu_answers.specs.declared.rounds.Rounds.TheVariants.{Any, One}
use Rattle.lu_answers.specs.Ways.{way_of}
use Rattle.lu_certify.specs.declared.certificate.Certificate.{Certificate}
use Rattle.lu_certify.specs.declared.certificate.Certificate.TheVariants.{Linearizable, NotLinearizable, Livelock, Undecided}
use Rattle.lu_forever.specs.declared.certifying.RoundsVerdict.{RoundsVerdict}
use Rattle.lu_forever.specs.declared.certifying.RoundsVerdict.TheVariants as verdicts
use Rattle.lu_forever.specs.Certified.{IsRoundsVerdict}
use Rattle.lu_grain.specs.Longer.{IsMadeWithin}
use Rattle.lu_cli.specs.Local.{certified_local}
use Rattle.lu_cli.specs.Outcomes.{Answer}
use Rattle.lu_cli.specs.Reading.{ToParts, ToTexts}
use Rattle.lu_cli.specs.Shows.{ShowsCertificate, verdict}
use Rattle.lu_cli.specs.declared.request.CertifyOptions.{CertifyOptions}
use Rattle.lu_cli.specs.declared.request.Repetition.{Repetition}
use Rattle.lu_cli.specs.declared.request.Repetition.TheVariants.{Forever, UpTo}

-- how often threads make their lines, in words
abbrev pub rounds_said : Repetition → List ℕ
rounds_said (UpTo n) = decimal n
rounds_said Forever = codes "any"

-- in how many rounds the matrix is searched: one, where each line is there as often as it is made
abbrev pub rounds_of : Repetition → Rounds
rounds_of (UpTo n) = One
rounds_of Forever = Any

-- the line that says so
abbrev pub rounds_line : Repetition → List ℕ
rounds_line repetition = codes "rounds " ++ rounds_said repetition ++ codes "\n"

-- every unrolled matrix is linearizable, and none has a livelock
abbrev pub always_linearizable : Repetition → Answer
always_linearizable repetition =
    record { text = codes "linearizable\n" ++ rounds_line repetition; status = 0 }

-- a verdict on an unrolled matrix that is too large to be written, by a schedule of it
abbrev pub by_moves : List ℕ → List Move → Answer
by_moves words u = verdict words (schedule_text u) 1

-- such a verdict where not even the schedule has a text
abbrev pub by_words : Repetition → List ℕ → Answer
by_words repetition words =
    record { text = words ++ codes "\n" ++ rounds_line repetition; status = 1 }

-- there is no verdict, for this reason
abbrev pub undecided_for : List ℕ → Answer
undecided_for why = verdict (codes "undecided") why 3

-- a call of a serial run takes more moves than this, or has two outcomes
abbrev pub serial_offence : ℕ → Answer
serial_offence bound =
    undecided_for (codes "a call that runs alone has two outcomes, or takes more than "
    ++ decimal bound ++ codes " moves\n")

-- this many nodes give no verdict
abbrev pub no_verdict : ℕ → Answer
no_verdict most = undecided_for (codes "no verdict within " ++ decimal most ++ codes " nodes\n")

-- so many rounds make more calls than a matrix may have
abbrev pub too_many_calls : ℕ → Answer
too_many_calls n =
    undecided_for (decimal n ++ codes " rounds make more calls than a matrix may have\n")

-- the certificate says that the matrix is not linearizable, or has a livelock
abbrev pub IsAgainst : Certificate → Type 0
IsAgainst (Linearizable members) = ⊥
IsAgainst (NotLinearizable smaller r) = Unit {0}
IsAgainst (Livelock smaller u) = Unit {0}
IsAgainst (Undecided smaller r) = ⊥

-- What is shown is a certificate of a matrix that is unrolled from this one, which is not
-- linearizable or has a livelock.
pub record ShowsUnrolled (c : Component) (rounds : Rounds) (matrix : Matrix)
    (asked : CertifyOptions) (answer : Answer) : Type 0 where
  pub big : Matrix
  pub unrolled : IsUnrolledFrom (way_of rounds) matrix big
  pub certificate : Certificate
  pub made : IsMadeWithin (certified_local asked c) c big asked.options asked.nodes certificate
  pub against : IsAgainst certificate
  pub shown : ShowsCertificate c certificate answer

-- a verdict in these words, by a schedule of an unrolled matrix; or, where that is too long for a
-- text, the words alone
abbrev pub ShowsMoves : Repetition → List ℕ → List Move → Answer → Type 0
ShowsMoves repetition words u answer =
    (answer ≡ by_moves words u) ⊎ (answer ≡ by_words repetition words)

-- so, or by the certificate of the unrolled matrix
abbrev pub ShowsBySchedule : Component → Matrix → CertifyOptions → Repetition → List ℕ → List Move
    → Answer → Type 0
ShowsBySchedule c matrix asked repetition words u answer =
    ShowsUnrolled c (rounds_of repetition) matrix asked answer
    ⊎ ShowsMoves repetition words u answer

-- what a verdict on all matrices that are unrolled from this one is shown as
abbrev pub ShowsVerdict : Component → Matrix → CertifyOptions → Repetition → RoundsVerdict → Answer
    → Type 0
ShowsVerdict c matrix asked repetition verdicts.Linearizable answer =
    answer ≡ always_linearizable repetition
ShowsVerdict c matrix asked repetition (verdicts.NotLinearizable moves) answer =
    ShowsBySchedule c matrix asked repetition (codes "not linearizable") moves.items answer
ShowsVerdict c matrix asked repetition (verdicts.Livelock moves) answer =
    ShowsBySchedule c matrix asked repetition (codes "livelock") moves.items answer
ShowsVerdict c matrix asked repetition verdicts.Offends answer =
    answer ≡ serial_offence asked.options.serial
ShowsVerdict c matrix asked repetition verdicts.Undecided answer =
    answer ≡ no_verdict asked.nodes

-- the verdict on all matrices in which each thread makes its line of this one the number of times
-- given by the repetition, and may stop before any call
abbrev pub IsVerdictOn : Component → Matrix → CertifyOptions → Repetition → Answer → Type 0
IsVerdictOn c matrix asked repetition answer =
    (found : RoundsVerdict)
    × IsRoundsVerdict c (rounds_of repetition) matrix asked.options.serial found
    × ShowsVerdict c matrix asked repetition found answer

-- The verdict on all matrices that are unrolled from this one. For n rounds it is that on one round
-- of the matrix in which each line is repeated n times, unless that is too large for a matrix.
abbrev pub IsCertifiedUnrolled : Component → Matrix → CertifyOptions → Repetition → Answer → Type 0
IsCertifiedUnrolled c matrix asked (UpTo n) answer =
    IsVerdictOn c (times n matrix) asked (UpTo n) answer ⊎ (answer ≡ too_many_calls n)
IsCertifiedUnrolled c matrix asked Forever answer = IsVerdictOn c matrix asked Forever answer

-- the same of results that can only want memory
abbrev pub ShowsSchedule : {E : Type 0} → Test → CertifyOptions → Repetition → List ℕ
    → List Move → Result Answer E → Type 0
ShowsSchedule test asked repetition words u result =
    IfOk result
    (ShowsBySchedule test.component.now test.matrix.now asked repetition words u)

abbrev pub ShowsFound : {E : Type 0} → Test → CertifyOptions → Repetition → RoundsVerdict
    → Result Answer E → Type 0
ShowsFound test asked repetition found result =
    IfOk result (ShowsVerdict test.component.now test.matrix.now asked repetition found)

abbrev pub CertifiesRounds : {E : Type 0} → Test → CertifyOptions → Repetition
    → Result Answer E → Type 0
CertifiesRounds test asked repetition result =
    IfOk result (IsVerdictOn test.component.now test.matrix.now asked repetition)

abbrev pub CertifiesUnrolled : {E : Type 0} → Test → CertifyOptions → Repetition → Result Answer E
    → Type 0
CertifiesUnrolled test asked repetition result =
    IfOk result (λ answer.
    IsCertifiedUnrolled test.component.now test.matrix.now asked repetition answer)

abbrev pub IsAnswerToCertifyUnrolled : CertifyOptions → Repetition → List (List ℕ) → Answer → Type 0
IsAnswerToCertifyUnrolled asked repetition parts =
    ToParts (exactly_two parts)
    (λ p. ToTexts p.0 p.1 (λ c m answer. IsCertifiedUnrolled c m asked repetition answer))
