-- The faults of a schedule's text.
use Rattle.std.specs.Prelude.{◌≡◌, ℕ, List, [], ◌∷◌, ◌++◌, length, map, take, ◌+◌, Option, Some, None, Result, Ok, Err, nat_lt, if◌then◌else◌}
use Rattle.std.specs.List.{flat_map}
use Rattle.lu_test.specs.declared.schedule.TheConstants.{MOST_LISTED_MOVES}
use Rattle.lu_test.specs.declared.schedule_fault.ScheduleFault.{ScheduleFault}
use Rattle.lu_test.specs.declared.schedule_fault.ScheduleFault.TheVariants.{Form, Limit}
use Rattle.lu_test.specs.ScheduleText.{move_of}
use Rattle.lu_test.specs.ScheduleGoing.{schedule_words}
use Rattle.lu_lint.specs.declared.remark.Said.{Said}
use Rattle.lu_lint.specs.declared.remark.FaultKind.TheVariants as part
use Rattle.lu_lint.specs.Lint.{message_here}
use Rattle.lu_lint.specs.Said.{said_faults}

abbrev pub fault_of : {A : Type 0} → Result A ScheduleFault → List ScheduleFault
fault_of (Ok x) = []
fault_of (Err kind) = kind ∷ []

abbrev pub word_faults : List ℕ → List ScheduleFault
word_faults word = fault_of (move_of word)

-- more moves than a schedule may have
abbrev pub length_faults : List (List ℕ) → List ScheduleFault
length_faults words = if nat_lt MOST_LISTED_MOVES (length words) then Limit ∷ [] else []

-- of each word
abbrev pub faults_of_each : List (List ℕ) → List ScheduleFault
faults_of_each words = flat_map word_faults words

-- of each up to the first that is too many, and that there are too many
abbrev pub words_faults : List (List ℕ) → List ScheduleFault
words_faults words =
    faults_of_each (take (MOST_LISTED_MOVES + 1) words) ++ length_faults words

abbrev pub form_faults : Option (List (List ℕ)) → List ScheduleFault
form_faults None = Form ∷ []
form_faults (Some words) = words_faults words

-- the faults of a text; where it has not the form of a schedule, that alone
abbrev pub schedule_faults : List ℕ → List ScheduleFault
schedule_faults text = form_faults (schedule_words text)

-- what is said of them: all stand on its first line
abbrev pub schedule_said : ℕ → List ScheduleFault → List Said
schedule_said above faults = said_faults part.Schedule above (map (message_here 1) faults)

-- a text is read where it has no fault, and else its first fault is the reader's
abbrev pub AgreeOn : {A : Type 0} → Result A ScheduleFault → List ScheduleFault → Type 0
AgreeOn (Ok x) [] = Unit {0}
AgreeOn (Ok x) (first ∷ others) = ⊥
AgreeOn (Err e) [] = ⊥
AgreeOn (Err e) (first ∷ others) = e ≡ first
