-- Warnings of a component that is read: what can be left out or goes on for ever.
use Rattle.std.specs.Prelude.{◌≡◌, find, ℕ, zero, suc, ◌+◌, ◌-◌, Bool, true, false, List, [], ◌∷◌, ◌++◌, length, map, filter, take, drop, Option, Some, None, Result, IfOk, Vec, slice_get, replicate, codes, ◌==◌, ◌&&◌, ◌||◌, not, nat_le, if◌then◌else◌}
use Rattle.std.specs.List.{enumerate_from, filter_map, list_all, list_any}
use Rattle.std.specs.Option.{option_map, unwrap_or}
use Rattle.std.specs.Str.{bytes_eq}
use Rattle.lu_text.specs.Lines.{words_of}
use Rattle.lu_text.specs.Words.{Word}
use Rattle.lu_component.specs.Component.{Component}
use Rattle.lu_component.specs.declared.instr.Instr.{Instr}
use Rattle.lu_component.specs.declared.instr.Instr.TheVariants.{Set, Compute, Load, Store, Cas, Lock, Unlock, Await, AwaitNot, Return}
use Rattle.lu_component.specs.declared.instr.Arithmetic.TheVariants.{Eq, Lt}
use Rattle.lu_lang.specs.declared.draft.Label.{Label}
use Rattle.lu_lang.specs.declared.draft.Statement.{Statement}
use Rattle.lu_lang.specs.declared.draft.Statement.TheVariants.{Plain, Jump, JumpIfZero}
use Rattle.lu_lang.specs.Draft.{OpenOp, ComponentDraft, nothing}
use Rattle.lu_text.specs.Faults.{going_on}
use Rattle.lu_lang.specs.Grammar.{component_grammar, label_used}
use Rattle.lu_lint.specs.declared.remark.Position.{Position}
use Rattle.lu_lint.specs.declared.remark.Remark.{Remark}
use Rattle.lu_lint.specs.declared.remark.Said.{Said}
use Rattle.lu_lint.specs.declared.remark.Cause.TheVariants.{Warning}
use Rattle.lu_lint.specs.declared.remark.Hint.{Hint}
use Rattle.lu_lint.specs.declared.remark.Hint.TheVariants.{UnnamedArray, UnnamedLock, UnusedLabel, NoReturn, Spin}
use Rattle.lu_lint.specs.declared.warning.Declared.{Declared}
use Rattle.lu_lint.specs.declared.warning.Declared.TheVariants as declared
use Rattle.lu_lint.specs.declared.warning.FoundHint.{FoundHint}
use Rattle.lu_lint.specs.declared.warning.PossibleWarning.{PossibleWarning}
use Rattle.lu_lint.specs.Lint.{line_before, with_words}

-- ---- an array or a lock that no instruction names

abbrev pub names_array : ℕ → Instr → Bool
names_array k (Load to array i) = array == k
names_array k (Store array i v) = array == k
names_array k (Cas to array i old new) = array == k
names_array k (Await array i v) = array == k
names_array k (AwaitNot array i v) = array == k
names_array k _ = false

abbrev pub names_lock : ℕ → Instr → Bool
names_lock k (Lock lock) = lock == k
names_lock k (Unlock lock) = lock == k
names_lock k _ = false

-- array k of the component
abbrev pub is_array_named : Component → ℕ → Bool
is_array_named c k = list_any (λ op. list_any (names_array k) op.code) c.operations

abbrev pub is_lock_named : Component → ℕ → Bool
is_lock_named c k = list_any (λ op. list_any (names_lock k) op.code) c.operations

-- an instruction of the component names this
abbrev pub is_named : Component → Declared → Bool
is_named c (declared.Array k) = is_array_named c k
is_named c (declared.Lock k) = is_lock_named c k

-- what does not hold where an instruction names this holds of the component
abbrev pub holds : Component → Option Declared → Bool
holds c None = true
holds c (Some named) = not (is_named c named)

-- ---- an operation, at its `end`

-- a hint that holds of each component, which stands this many lines with words before the line
abbrev pub found : ℕ → Hint → FoundHint
found back hint = record { back = back; hint = hint; unless_named = None }

-- the place of a label
abbrev pub place_named : List Label → Word → Option ℕ
place_named labels name = option_map (λ l. l.place) (find (λ l. bytes_eq l.name name) labels)

-- whether it is so at this place, or that of this label
abbrev pub holds_at : List Bool → ℕ → Bool
holds_at row place = unwrap_or (slice_get row place) false

abbrev pub holds_where : List Bool → Option ℕ → Bool
holds_where row None = false
holds_where row (Some place) = holds_at row place

-- at the place after this one
abbrev pub holds_after : List Bool → ℕ → Bool
holds_after row place = holds_at (drop 1 row) place

-- a return is reached from the statement at this place, where this row says from which others
abbrev pub returns_by : OpenOp → List Bool → ℕ → Statement → Bool
returns_by b row place (Plain (Return v)) = true
returns_by b row place (Plain _) = holds_after row place
returns_by b row place (Jump label) = holds_where row (place_named b.labels label)
returns_by b row place (JumpIfZero v label) =
    holds_where row (place_named b.labels label) || holds_after row place

abbrev pub next_returns : OpenOp → List Bool → List Bool
next_returns b row = map (λ s. returns_by b row s.0 s.1) (enumerate_from 0 b.statements)

-- from which places a return is reached by at most this many instructions
unfoldable pub returns_within : OpenOp → ℕ → List Bool
returns_within b zero = replicate (length b.statements) false
returns_within b (suc n) = next_returns b (returns_within b n)

-- a return is reached from the first instruction, by one way or another
abbrev pub can_return : OpenOp → Bool
can_return b = holds_at (returns_within b (length b.statements)) 0

-- no return is reached; the hint stands on the `op` line
abbrev pub return_hints : OpenOp → List FoundHint
return_hints b = if can_return b then [] else found (length b.statements + 1) NoReturn ∷ []

abbrev pub jumps_to_label : Word → Option Word → Bool
jumps_to_label name None = false
jumps_to_label name (Some label) = bytes_eq label name

-- no jump of the operation leads to the label
abbrev pub is_unused : List Statement → Label → Bool
is_unused statements label =
    not (list_any (λ s. jumps_to_label label.name (label_used s)) statements)

abbrev pub label_hints : OpenOp → List FoundHint
label_hints b =
    map (λ label. found (length b.statements - label.place) UnusedLabel)
    (filter (is_unused b.statements) b.labels)

-- the instruction reads a cell
abbrev pub looks : Statement → Bool
looks (Plain (Load to array i)) = true
looks _ = false

-- the instruction tries to change a cell
abbrev pub tries : Statement → Bool
tries (Plain (Cas to array i old new)) = true
tries _ = false

-- the instruction compares, sets a register, or says where to go on
abbrev pub passes : Statement → Bool
passes (Plain (Compute Eq to a b)) = true
passes (Plain (Compute Lt to a b)) = true
passes (Plain (Set to v)) = true
passes (Plain (Return v)) = true
passes (Plain _) = false
passes (Jump label) = true
passes (JumpIfZero v label) = true

abbrev pub looks_or_passes : Statement → Bool
looks_or_passes s = looks s || passes s

abbrev pub tries_or_passes : Statement → Bool
tries_or_passes s = tries s || passes s

-- these read cells, and do nothing else that another thread may see or that counts
abbrev pub only_look : List Statement → Bool
only_look statements = list_any looks statements && list_all looks_or_passes statements

-- these try to change cells, and do nothing else of the kind
abbrev pub only_try : List Statement → Bool
only_try statements = list_any tries statements && list_all tries_or_passes statements

-- these are gone through again until another thread has changed a cell, and none waits
abbrev pub are_spun : List Statement → Bool
are_spun statements = only_look statements || only_try statements

-- the statement at place i jumps back to the place t, over such
abbrev pub spins_to : List Statement → ℕ → ℕ → Bool
spins_to statements i t = nat_le t i && are_spun (take (i - t) (drop t statements))

abbrev pub spins_where : List Statement → ℕ → Option ℕ → Bool
spins_where statements i None = false
spins_where statements i (Some t) = spins_to statements i t

abbrev pub spins_at : OpenOp → ℕ → Option Word → Bool
spins_at b i None = false
spins_at b i (Some name) = spins_where b.statements i (place_named b.labels name)

-- a jump back without waiting
abbrev pub spin_hints : OpenOp → List FoundHint
spin_hints b =
    map (λ s. found (length b.statements - s.0) Spin)
    (filter (λ s. spins_at b s.0 (label_used s.1)) (enumerate_from 0 b.statements))

abbrev pub end_hints : OpenOp → List FoundHint
end_hints b = return_hints b ++ (label_hints b ++ spin_hints b)

-- ---- lines

-- a hint at the declaration of this
abbrev pub declared_hint : Hint → Declared → FoundHint
declared_hint hint named = record { back = 0; hint = hint; unless_named = Some named }

-- by the first word of a line, where an operation is open or none
abbrev pub state_hints : ComponentDraft → Option OpenOp → Word → List FoundHint
state_hints d None word =
    if bytes_eq word (codes "word")
    then declared_hint UnnamedArray (declared.Array (length d.arrays)) ∷ []
    else (if bytes_eq word (codes "lock")
    then declared_hint UnnamedLock (declared.Lock (length d.locks)) ∷ []
    else [])
state_hints d (Some b) word = if bytes_eq word (codes "end") then end_hints b else []

abbrev pub words_hints : ComponentDraft → List Word → List FoundHint
words_hints d [] = []
words_hints d (word ∷ words) = state_hints d d.begun word

-- the hints at a line after this draft
abbrev pub line_hints : ComponentDraft → List ℕ → List FoundHint
line_hints d line = words_hints d (words_of line)

-- those of a line of these words, where no line before it has a fault
abbrev pub hints_while : Bool → ComponentDraft → List Word → List FoundHint
hints_while sound d words = if sound then words_hints d words else []

-- A warning on a line, which holds of a component where no instruction of it names that.
pub record Possible : Type 0 where
  pub line : ℕ
  pub hint : Hint
  pub unless_named : Option Declared

-- of a hint at line n
abbrev pub possible : List ℕ → ℕ → FoundHint → Possible
possible seen n f =
    record { line = line_before seen n f.back; hint = f.hint; unless_named = f.unless_named }

-- the draft after a line, which has no fault
abbrev pub next_draft : ComponentDraft → List ℕ → ComponentDraft
next_draft d line = (going_on d (component_grammar.line d line)).0

-- those of these lines, of which the first is line n
unfoldable pub possible_after : List ℕ → ℕ → ComponentDraft → List (List ℕ) → List Possible
possible_after seen n d [] = []
possible_after seen n d (line ∷ lines) =
    map (possible seen n) (line_hints d line)
    ++ possible_after (with_words seen n line) (n + 1) (next_draft d line) lines

-- those of the lines of a component
abbrev pub possible_of_lines : List (List ℕ) → List Possible
possible_of_lines lines = possible_after [] 1 nothing lines

-- what is said of one
abbrev pub warned : Possible → Said
warned w = record { line = w.line; cause = Warning w.hint }

-- what is said of those that hold of this component
abbrev pub held : Component → List Possible → List Said
held c warnings = map warned (filter (λ w. holds c w.unless_named) warnings)

-- the warnings of the lines of this component
abbrev pub warnings_of_lines : Component → List (List ℕ) → List Said
warnings_of_lines c lines = held c (possible_of_lines lines)

-- ---- with their words

-- a warning without its words
abbrev pub without_words : PossibleWarning → Possible
without_words w = record { line = w.line; hint = w.hint; unless_named = w.unless_named }

-- where it succeeds, these are found too, after those before
abbrev pub FindsAlso : {E Y Z : Type 0} → Result (Vec PossibleWarning Z) E → Vec PossibleWarning Y
    → List Possible
    → Type 0
FindsAlso result before found =
    IfOk result (λ next. map without_words next.items ≡ map without_words before.items ++ found)

-- of a hint at a line that stands here
abbrev pub found_at : Position → FoundHint → Possible
found_at at f = possible at.seen.items at.line f

-- the remark of one that holds of this component
abbrev pub remark_if : Component → PossibleWarning → Option Remark
remark_if c w =
    if holds c w.unless_named
    then Some (record { said = warned (without_words w); words = w.words })
    else None

-- the remarks of those that hold of this component
abbrev pub remarks_held : Component → List PossibleWarning → List Remark
remarks_held c warnings = filter_map (remark_if c) warnings
