-- How instructions are shown: as the component's text has them, with its labels or without, or as
-- the source has them that the component was compiled from.
use Rattle.std.specs.Prelude.{ℕ, ◌+◌, ◌-◌, ◌++◌, ◌==◌, ◌&&◌, is_none, if◌then◌else◌, Bool, true, false, List, [], codes, Option, Some, None, slice_get}
use Rattle.std.specs.Option.{option_and_then, option_map, option_map_or, unwrap_or}
use Rattle.std.specs.Fmt.{decimal}
use Rattle.std.specs.Str.{is_utf8, trim}
use denote.Ref.{Bor}
use Rattle.lu_text.specs.Lines.{before_comment}
use Rattle.lu_component.specs.Operands.{register_word}
use Rattle.lu_lang.specs.ComponentText.{label_word}
use Rattle.lu_lang.specs.Labels.{label_name}
use Rattle.lu_machine.specs.declared.thread.Frame.{Frame}
use Rattle.lu_source.specs.declared.origin.Origin.{Origin}
use Rattle.lu_source.specs.declared.origin.Origins.{Origins}
use Rattle.lu_trace.specs.declared.wording.Wording.{Wording}
use Rattle.lu_trace.specs.declared.wording.Wording.TheVariants.{Component, Labelled, Source}

-- ---- where instructions come from

-- where the instruction at this place of an operation comes from, if that is known
abbrev pub origin_in : Origins → ℕ → ℕ → Option Origin
origin_in origins op place =
    option_and_then (λ code. slice_get code.items place) (slice_get origins.operations.items op)

-- the local in register r at the place of the operation f, if one is in scope there
abbrev pub local_in : Origins → Frame → ℕ → Option (List ℕ)
local_in origins f r =
    option_and_then (λ origin. slice_get origin.locals.items r) (origin_in origins f.op f.place)

-- ---- names, and none where a source tells and nobody wrote one

-- `r1`, or the local in register r
abbrev pub register_name : Wording → Frame → ℕ → Option (List ℕ)
register_name Component f r = Some (register_word r)
register_name (Labelled labels) f r = Some (register_word r)
register_name (Source lines origins) f r = local_in origins.now f r

-- `r1 = 5`, and `= 5` of what has no name
abbrev pub becomes : Option (List ℕ) → ℕ → List ℕ
becomes None n = codes "= " ++ decimal n
becomes (Some name) n = name ++ codes " = " ++ decimal n

-- the register becomes n
abbrev pub register_becomes : Wording → Frame → ℕ → ℕ → List ℕ
register_becomes how f r n = becomes (register_name how f r) n

-- `again`, the label that stands at a place of operation `op`; where none does, `L3`
abbrev pub place_word : List (List (Option (List ℕ))) → ℕ → ℕ → List ℕ
place_word labels op place = unwrap_or (label_name labels op place) (label_word place)

-- `L3`, `again` or `line 12`: where a jump of the operation f to this place leads
abbrev pub target_name : Wording → Frame → ℕ → Option (List ℕ)
target_name Component f place = Some (label_word place)
target_name (Labelled labels) f place = Some (place_word labels.now f.op place)
target_name (Source lines origins) f place =
    option_map (λ origin. codes "line " ++ decimal origin.line) (origin_in origins.now f.op place)

-- `jumps to L3`, and `continues` where what is next has no name
abbrev pub goes_on_to : Option (List ℕ) → List ℕ
goes_on_to None = codes "continues"
goes_on_to (Some target) = codes "jumps to " ++ target

-- the jump leads to this place
abbrev pub goes_on_at : Wording → Frame → ℕ → List ℕ
goes_on_at how f place = goes_on_to (target_name how f place)

-- `= 1, `: the value that a jump tests, where a source is shown
abbrev pub tested : Wording → ℕ → List ℕ
tested Component n = []
tested (Labelled labels) n = []
tested (Source lines origins) n = codes "= " ++ decimal n ++ codes ", "

-- whether the cells of array w are shown with their index
abbrev pub is_indexed : Wording → ℕ → Bool
is_indexed Component w = true
is_indexed (Labelled labels) w = true
is_indexed (Source lines origins) w = unwrap_or (slice_get origins.now.indexed.items w) true

-- ---- values that the next step has

-- whether two instructions come from one line
abbrev pub same_line : Option Origin → Option Origin → Bool
same_line None other = false
same_line (Some here) other = option_map_or (λ next. here.line == next.line) other false

-- whether the next instruction of the operation f, in its code, comes from the same line of the
-- source
abbrev pub stays_in_line : Origins → Frame → Bool
stays_in_line origins f =
    same_line (origin_in origins f.op f.place) (origin_in origins f.op (f.place + 1))

-- whether the value that comes into register r has no name, and belongs to the same line as the
-- next instruction
abbrev pub is_within_line : Wording → Frame → ℕ → Bool
is_within_line Component f r = false
is_within_line (Labelled labels) f r = false
is_within_line (Source lines origins) f r =
    is_none (local_in origins.now f r) && stays_in_line origins.now f

-- ---- lines of a source

-- the text that the bytes spell, and none where they are no UTF-8
abbrev pub text_of : List ℕ → List ℕ
text_of bytes = if is_utf8 bytes then bytes else []

-- the line of this number, from 1, up to its comment and without white space at both ends
abbrev pub line_text : List (Bor (List ℕ)) → ℕ → List ℕ
line_text lines number =
    option_map_or (λ line. trim (text_of (before_comment line.now))) (slice_get lines (number - 1))
    []

-- `line 9: return 0  # `: the line that an instruction comes from, and what begins a remark
abbrev pub line_words : List (Bor (List ℕ)) → Option Origin → List ℕ
line_words lines None = codes "# "
line_words lines (Some origin) =
    codes "line " ++ decimal origin.line ++ codes ": " ++ line_text lines origin.line
    ++ codes "  # "

-- the same of the instruction at the place of the operation f
abbrev pub source_line : List (Bor (List ℕ)) → Origins → Frame → List ℕ
source_line lines origins f = line_words lines (origin_in origins f.op f.place)
