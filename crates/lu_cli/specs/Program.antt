-- What the program answers, and what it writes.
use Rattle.std.specs.Prelude.{◌≡◌, ℕ, List, length, MatchBool, codes, nat_lt, Option, IfSome, Some, ◌⊎◌, None, ◌≢◌}
use Rattle.std.specs.Io.KnownBytes.{Appends}
use Rattle.lu_cli.specs.declared.counted.Counted.{Counted}
use Rattle.lu_cli.specs.Lint.{IsLint}
use Rattle.lu_text.specs.Bundle.{bundle_parts}
use Rattle.lu_cli.specs.Args.{request_said}
use Rattle.lu_cli.specs.Counted.{AppendsCounted, IsUnfailed, Lent, new_of, old_of, GoesWell}
use Rattle.lu_cli.specs.Help.{help_answer}
use Rattle.lu_cli.specs.Inputs.{most_bytes}
use Rattle.lu_cli.specs.Outcomes.{Answer, refused, no_memory, no_command, no_device}
use Rattle.lu_cli.specs.Commands.{IsAnswerToCommand}
use Rattle.lu_cli.specs.Sources.{IsAnswerWithSource}
use Rattle.lu_cli.specs.declared.request.BundleCommand.{BundleCommand}
use Rattle.lu_cli.specs.declared.request.Request.{Request}
use Rattle.lu_cli.specs.declared.request.Request.TheVariants.{Commands, Lint, Bundle, BundleWithSource}

-- such an answer to the input, where that is not too long
abbrev pub ToInput : (List ℕ → Answer → Type 0) → List ℕ → Answer → Type 0
ToInput IsAnswer input answer =
    MatchBool (nat_lt most_bytes (length input)) (answer ≡ refused (codes "B2"))
    (IsAnswer input answer)

abbrev pub IsAnswerToBundle : BundleCommand → List ℕ → Answer → Type 0
IsAnswerToBundle command input answer = IsAnswerToCommand command (bundle_parts input) answer

-- the answer to what is asked for and the whole input; the list of commands is the same whatever
-- the input is
abbrev pub IsAnswerToInput : Request → List ℕ → Answer → Type 0
IsAnswerToInput Commands input answer = answer ≡ help_answer
IsAnswerToInput (Lint limits) input answer = ToInput (IsLint limits) input answer
IsAnswerToInput (Bundle command) input answer = ToInput (IsAnswerToBundle command) input answer
IsAnswerToInput (BundleWithSource command) input answer =
    ToInput (IsAnswerWithSource command) input answer

-- the answer to what is asked for and what was read: the whole input where it is known, and else
-- some bytes
abbrev pub IsAnswerToRead : Request → Option (List ℕ) → Answer → Type 0
IsAnswerToRead request known answer =
    (input : List ℕ) × IfSome known (λ all. input ≡ all) × IsAnswerToInput request input answer

-- the answer to what these words ask for, where they ask for something, and to what was read
abbrev pub IsAnswerToWords : {S : Type 0} → (S → List ℕ) → List S → Option (List ℕ) → Answer
    → Type 0
IsAnswerToWords text words known answer =
    (request : Request) → request_said text words ≡ Some request
    → IsAnswerToRead request known answer

-- ---- what goes out

-- the answer went out, and the status is the answer's
abbrev pub Tells : Answer → Option (List ℕ) → Option (List ℕ) → ℕ → Type 0
Tells answer old new status = Appends old new answer.text × (status ≡ answer.status)

-- this answer went out or, where memory ran out, that
abbrev pub Answers : (Answer → Type 0) → Option (List ℕ) → Option (List ℕ) → ℕ → Type 0
Answers IsAnswer old new status =
    ((answer : Answer) × IsAnswer answer × Tells answer old new status)
    ⊎ Tells no_memory old new status

-- ---- what a run does to its reader and its writer, whose bytes `remaining` and `contents` give

-- where no write failed, the text went out, and the status is this one
abbrev pub Sends : {W : Type 0} → (W → Option (List ℕ)) → List ℕ → ℕ → Counted W → Counted W → ℕ
    → Type 0
Sends contents text status old new result =
    IsUnfailed old new → AppendsCounted contents old new text × (result ≡ status)

-- such an answer went out or, where memory ran out, that
abbrev pub Says : {W : Type 0} → (W → Option (List ℕ)) → (Answer → Type 0) → Lent W → ℕ → Type 0
Says contents IsAnswer output status =
    Answers IsAnswer (contents (old_of output).inner) (contents (new_of output).inner) status

-- where the words ask for something and no read and no write failed, the answer to what was read
-- goes out
abbrev pub SaysAnswer : {S R W : Type 0} → (S → List ℕ) → List S → (R → Option (List ℕ)) → Lent R
    → (W → Option (List ℕ)) → Lent W → ℕ → Type 0
SaysAnswer text words remaining input contents output status =
    (request : Request) → request_said text words ≡ Some request → GoesWell input → GoesWell output
    → Says contents (IsAnswerToRead request (remaining (old_of input).inner)) output status

-- where they ask for nothing and no write failed, that is said
abbrev pub SaysNoCommand : {S W : Type 0} → (S → List ℕ) → List S → (W → Option (List ℕ)) → Lent W
    → ℕ → Type 0
SaysNoCommand text words contents output status =
    request_said text words ≡ None → GoesWell output
    → Says contents (λ answer. answer ≡ no_command) output status

-- this went out
abbrev pub TellsOf : {W : Type 0} → Answer → (W → Option (List ℕ)) → Lent W → ℕ → Type 0
TellsOf answer contents output status =
    Tells answer (contents (old_of output).inner) (contents (new_of output).inner) status

-- where no write failed, a read that failed is reported
abbrev pub TellsUnread : {R W : Type 0} → (W → Option (List ℕ)) → Lent R → Lent W → ℕ → Type 0
TellsUnread contents input output status =
    GoesWell output → GoesWell input ⊎ TellsOf no_device contents output status

-- where no write and no read failed, something else is reported
abbrev pub TellsElse : {R W : Type 0} → (W → Option (List ℕ)) → Lent R → Lent W → ℕ → Type 0
TellsElse contents input output status =
    GoesWell output → GoesWell input
    → (a : Answer) × (a ≢ no_device) × TellsOf a contents output status
