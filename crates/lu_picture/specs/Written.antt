-- What is written of a picture, with what an explanation in memory says, or none. All of it is
-- shown where memory did not run out.
use Rattle.std.specs.Prelude.{◌≡◌, ℕ, List, length, Option, Result, IfOk, String, string_bytes}
use Rattle.std.specs.Option.{option_copied}
use denote.Ref.{Bor}
use Rattle.lu_text.specs.Writing.{Writes}
use Rattle.lu_component.specs.Component.{Component}
use Rattle.lu_test.specs.declared.schedule.Move.{Move}
use Rattle.lu_test.specs.Matrix.{Matrix}
use Rattle.lu_machine.specs.declared.event.Event.{Event}
use Rattle.lu_machine.specs.declared.event.Status.{Status}
use Rattle.lu_machine.specs.States.{State}
use Rattle.lu_history.specs.declared.serial.SerialOutcome.{SerialOutcome}
use Rattle.lu_explain.specs.Explanations.{Explanation}
use Rattle.lu_explain.specs.Results.{HasText}
use Rattle.lu_trace.specs.declared.wording.Wording.{Wording}
use Rattle.lu_picture.specs.declared.bars.Bar.{Bar}
use Rattle.lu_picture.specs.declared.head.PictureSize.{PictureSize}
use Rattle.lu_picture.specs.declared.mark.End.{End}
use Rattle.lu_picture.specs.declared.mark.Mark.{Mark}
use Rattle.lu_picture.specs.declared.diagnosis.Diagnosis.{Diagnosis}
use Rattle.lu_picture.specs.Pictures.{Drawing, IsWordedPicture, Why, body, picture, picture_size}
use Rattle.lu_picture.specs.Reasons.{reason_said, why_words}
use Rattle.lu_picture.specs.Shapes.{bar, bar_by, bars, foot_head, foot_line, line_length, longest_line, reason_line, why_of}

-- how call k of thread t ended and why it can't come next, by an explanation
abbrev pub WritesReason : {T E Z : Type 0} → Result T E → String Z → String Z → State → Explanation
    → ℕ → ℕ → SerialOutcome → Type 0
WritesReason result old new s e t k o =
    Writes result old new (reason_said s.component s.matrix e t k o)

-- the same where there may be no explanation
abbrev pub WritesWhy : {T E Z : Type 0} → Result T E → String Z → String Z → State
    → Option (Bor Explanation) → ℕ → ℕ → Option End → Type 0
WritesWhy result old new s why t k end =
    Writes result old new (why_words s.component s.matrix (option_copied why) t k end)

-- what an explanation says of call k of thread t, which ended as these marks say
abbrev pub WritesWhyOf : {T E Z : Type 0} → Result T E → String Z → String Z → State → List Mark
    → Option (Bor Explanation) → ℕ → ℕ → Type 0
WritesWhyOf result old new s marks why t k =
    Writes result old new (why_of s marks (option_copied why) t k)

-- the line in the foot of call k of thread t, which is left for this reason, with this many above it
abbrev pub WritesFootLine : {T E Z : Type 0} → Result T E → String Z → String Z → State → ℕ → ℕ → ℕ
    → ℕ → List ℕ → Type 0
WritesFootLine result old new s edge above t k why =
    Writes result old new (foot_line edge above (reason_line s t k why))

-- the first line of the foot
abbrev pub WritesFootHead : {T E Z : Type 0} → Result T E → String Z → String Z → ℕ
    → Option (Bor Explanation) → Type 0
WritesFootHead result old new edge why =
    Writes result old new (foot_head edge (option_copied why))

-- the length of the line in the foot for the call that is this event
abbrev pub IsLineLength : {E : Type 0} → Result ℕ E → State → List Mark → Option (Bor Explanation)
    → Event → Type 0
IsLineLength result s marks why event =
    IfOk result (λ long. long ≡ line_length s marks (option_copied why) event)

-- the length of the longest of these lines
abbrev pub IsLongestLine : {E : Type 0} → Result ℕ E → State → List Mark → Option (Bor Explanation)
    → Type 0
IsLongestLine result s marks why =
    IfOk result (λ long. long ≡ longest_line s marks (option_copied why) (length marks))

-- what is lent, as a picture shows it
abbrev pub said_by : Diagnosis → Why
said_by why = record { explanation = option_copied why.explanation; broken = why.broken }

-- how wide and how high a picture is
abbrev pub IsPictureSize : {E : Type 0} → Result PictureSize E → State → Drawing → Diagnosis → ℕ
    → Type 0
IsPictureSize result s d why heading =
    IfOk result (λ size. size ≡ picture_size s d (said_by why) heading)

-- a bar, and what stands at its call and in the foot
abbrev pub WritesBar : {T E Z : Type 0} → Result T E → String Z → String Z → State → Drawing
    → Option (Bor Explanation) → Bar → Type 0
WritesBar result old new s d why b =
    Writes result old new (bar s d.edge d.marks (option_copied why) b)

-- the bar that begins at a mark, if that is a call
abbrev pub WritesBarAt : {T E Z : Type 0} → Result T E → String Z → String Z → State → Drawing
    → Option (Bor Explanation) → Mark → Type 0
WritesBarAt result old new s d why mark =
    Writes result old new (bar_by s d.edge d.marks (option_copied why) mark.top mark.event)

-- the bars of all calls
abbrev pub WritesBars : {T E Z : Type 0} → Result T E → String Z → String Z → State → Drawing
    → Option (Bor Explanation) → Type 0
WritesBars result old new s d why =
    Writes result old new (bars s d.edge d.marks (option_copied why) (length d.marks))

-- all that stands below the head
abbrev pub WritesBody : {T E Z : Type 0} → Result T E → String Z → String Z → Wording → State
    → Drawing → Diagnosis → Type 0
WritesBody result old new how end d why = Writes result old new (body how end d (said_by why))

-- the picture of a run of n moves, from what is drawn of them
abbrev pub WritesWhole : {E Z : Type 0} → Result (String Z) E → Wording → ℕ → State → Status
    → Drawing → Diagnosis → Type 0
WritesWhole result how n end status d why =
    HasText result (picture how n end status d (said_by why))

-- the picture of a schedule in these words
abbrev pub Shows : {E Z : Type 0} → Result (String Z) E → Wording → Component → Matrix
    → List Move → Diagnosis → Type 0
Shows result how c matrix u why =
    IfOk result (λ text. IsWordedPicture how c matrix u (said_by why) (string_bytes text))
