-- What lint says of a bundle: on which line of it, and of what.
use Rattle.std.specs.Prelude.{◌≡◌, ℕ, ◌+◌, ◌-◌, ◌^◌, Bool, true, false, List, ◌++◌, length, map, min, Result, IfOk, Vec}
use Rattle.std.specs.List.{list_any}
use Rattle.lu_text.specs.Lines.{kept_lines}
use Rattle.lu_lint.specs.declared.remark.Said.{Said}
use Rattle.lu_lint.specs.declared.remark.Remark.{Remark}
use Rattle.lu_lint.specs.declared.remark.FaultKind.{FaultKind}
use Rattle.lu_lint.specs.declared.remark.Cause.{Cause}
use Rattle.lu_lint.specs.declared.remark.Cause.TheVariants.{Fault, FifthPart, Separator, Warning, Run}
use Rattle.lu_lint.specs.Lint.{Lint, Message, faults_in, faults_of_lines}

-- what is said, without its words
abbrev pub said_of : List Remark → List Said
said_of remarks = map (λ r. r.said) remarks

-- where it succeeds, these are said too, after what was said before
abbrev pub SaysAlso : {E Y Z : Type 0} → Result (Vec Remark Z) E → Vec Remark Y → List Said
    → Type 0
SaysAlso result before said =
    IfOk result (λ next. said_of next.items ≡ said_of before.items ++ said)

-- the same, and this is read
abbrev pub SaysAndReads : {E Y Z V : Type 0} → Result (Vec Remark Z × V) E → Vec Remark Y
    → List Said
    → V
    → Type 0
SaysAndReads result before said value =
    IfOk result
    (λ (next, read). (said_of next.items ≡ said_of before.items ++ said) × (read ≡ value))

-- these are said after what was said before, and this is known of them
abbrev pub SaysFurther : (List Said → Type 0) → List Said → List Said → Type 0
SaysFurther P before after = (said : List Said) × P said × (after ≡ before ++ said)

-- where it succeeds, some are said too of which this is known
abbrev pub SaysSuch : {E Y Z : Type 0} → Result (Vec Remark Z) E → Vec Remark Y
    → (List Said → Type 0)
    → Type 0
SaysSuch result before P =
    IfOk result (λ next. SaysFurther P (said_of before.items) (said_of next.items))

-- line n of a part, before which this many lines of the bundle stand
abbrev pub line_below : ℕ → ℕ → ℕ
line_below above n = min (above + n) (2 ^ 64 - 1)

-- the number of lines before the part after this one
abbrev pub above_next : ℕ → List ℕ → ℕ
above_next above part = line_below above (length (kept_lines part) + 1)

-- a fault of such a part
abbrev pub message_said : {Kind : Type 0} → (Kind → FaultKind) → ℕ → Message Kind → Said
message_said of above t =
    record { line = line_below above t.shown_on; cause = Fault (of t.kind) t.line }

-- the faults of such a part
abbrev pub said_faults : {Kind : Type 0} → (Kind → FaultKind) → ℕ → List (Message Kind) → List Said
said_faults of above faults = map (message_said of above) faults

-- what is said of the lines of a part that is read like this
abbrev pub said_of_lines : {Kind Draft Value : Type 0} → Lint Kind Draft Value → ℕ
    → List (List ℕ)
    → List Said
said_of_lines l above lines = said_faults l.of above (faults_of_lines l lines)

-- and of its text
abbrev pub said_of_text : {Kind Draft Value : Type 0} → Lint Kind Draft Value → ℕ → List ℕ
    → List Said
said_of_text l above text = said_faults l.of above (faults_in l text)

-- everything but a warning is a fault
abbrev pub is_fault : Cause → Bool
is_fault (Fault kind n) = true
is_fault Separator = true
is_fault FifthPart = true
is_fault (Warning hint) = false
is_fault (Run hint) = false

-- one of the remarks is a fault
abbrev pub have_fault : List Remark → Bool
have_fault remarks = list_any (λ r. is_fault r.said.cause) remarks
