-- Where the instructions come from that a source is compiled to.
use Rattle.std.specs.Prelude.{◌≡◌, ℕ, ◌+◌, ◌-◌, ◌==◌, ◌≤◌, nat_lt, min, Bool, if◌then◌else◌, List, [], ◌∷◌, ◌++◌, length, map, get_or, replicate, Option, Some, None, Result, Ok, Err, IsOk, OnOk, Vec}
use Rattle.std.specs.List.{slice_get}
use Rattle.lu_text.specs.declared.fault.Fault.{Fault}
use Rattle.lu_text.specs.Faults.{IsUnlessMemory, going_on, meaning_of_lines}
use Rattle.lu_text.specs.Words.{Word}
use Rattle.lu_component.specs.declared.instr.Instr.{Instr}
use Rattle.lu_source.specs.Code.{falls, operation_code, size, where_so}
use Rattle.lu_source.specs.Trees.{Operation, Program}
use Rattle.lu_source.specs.declared.origin.Origin.{Origin}
use Rattle.lu_source.specs.declared.origin.Origins.{Origins}
use Rattle.lu_source_text.specs.Grammar.{Begun, Block, Drafted, Kind, Opening, either, line_of, nothing, source_grammar}
use Rattle.lu_source_text.specs.Grammar.Opening.{Whole, Test, Other, Turns}

-- ---- instructions so far

-- how many instructions stand in front of what a block does, by what opened it
abbrev pub opening_size : Opening → ℕ
opening_size Whole = 0
opening_size (Test v) = 1
opening_size (Other v first) = 1 + size first + where_so (falls first) 1
opening_size Turns = 0

abbrev pub block_size : Block → ℕ
block_size block = opening_size block.opening + size block.does

-- how many instructions the open blocks make so far
abbrev pub size_so_far : List Block → ℕ
size_so_far [] = 0
size_so_far (block ∷ blocks) = block_size block + size_so_far blocks

-- how many instructions an operation has, up to 64, and the locals that are in scope
abbrev pub Standing : Type 0
Standing = ℕ × List Word

abbrev pub closed_standing : Operation → Standing
closed_standing o = (min (length (operation_code o.body)) 64, [])

-- how operation o of closed ones stands; one that is not there has no instruction
abbrev pub closed_at : List Operation → ℕ → Standing
closed_at operations o = get_or (map closed_standing operations) o (0, [])

abbrev pub open_standing : Option Begun → List Standing
open_standing None = []
open_standing (Some b) = (min (size_so_far b.blocks) 64, b.locals) ∷ []

-- how each operation stands; the open one comes last
abbrev pub standings : Drafted → List Standing
standings d = map closed_standing d.operations ++ open_standing d.begun

-- how operation o stands; one that has not begun has no instruction
abbrev pub standing_at : Drafted → ℕ → Standing
standing_at d o = get_or (standings d) o (0, [])

-- ---- lines

-- a line, and the locals that are in scope after it
abbrev pub Entry : Type 0
Entry = ℕ × List Word

-- the draft after a line; a line with a fault changes nothing
abbrev pub after_line : Drafted → List ℕ → Drafted
after_line d line = (going_on d (line_of d line)).0

-- line n, where an operation that stands so after it has an instruction p
abbrev pub if_there : ℕ → Standing → ℕ → Option Entry
if_there n s p = if nat_lt p s.0 then Some (n, s.1) else None

-- Where instruction p of operation o comes from, of lines from number n on that follow on a draft:
-- the first line after which it is there.
abbrev pub origin_from : ℕ → Drafted → List (List ℕ) → ℕ → ℕ → Option Entry
origin_from n d [] o p = None
origin_from n d (line ∷ lines) o p =
    either (if_there n (standing_at (after_line d line) o) p)
    (origin_from (n + 1) (after_line d line) lines o p)

-- the draft after lines that follow on a draft
abbrev pub after_lines : Drafted → List (List ℕ) → Drafted
after_lines d [] = d
after_lines d (line ∷ lines) = after_lines (after_line d line) lines

-- of each shared word, whether it is written with an index
abbrev pub are_indexed : Drafted → List Bool
are_indexed d = map (λ w. w.indexed) d.words

-- ---- origins in memory

abbrev pub entry_of : Origin → Entry
entry_of origin = (origin.line, origin.locals.items)

-- the entries of each operation
abbrev pub entries : {Z : Type 0} → List (Vec Origin Z) → List (List Entry)
entries rows = map (λ row. map entry_of row.items) rows

-- the entries of operation o; none where there is no such operation
abbrev pub entries_at : {Z : Type 0} → List (Vec Origin Z) → ℕ → List Entry
entries_at rows o = get_or (entries rows) o []

-- the entries with those of line n that are missing, where the operation stands so after it
abbrev pub filled : ℕ → Standing → List Entry → List Entry
filled n s xs = xs ++ replicate (s.0 - length xs) (n, s.1)

-- these are filled so
abbrev pub IsFilled : ℕ → Standing → List Origin → List Origin → Type 0
IsFilled n s old new = map entry_of new ≡ filled n s (map entry_of old)

-- the entries of each operation are filled so, where it stands so after line n
abbrev pub AreFilled : {Z : Type 0} → ℕ → (ℕ → Standing) → List (Vec Origin Z) → List (Vec Origin Z)
    → Type 0
AreFilled n at old new = (o : ℕ) → entries_at new o ≡ filled n (at o) (entries_at old o)

abbrev pub Fills : {E Y Z : Type 0} → Result (Unit {0}) E → ℕ → (ℕ → Standing)
    → Vec (Vec Origin Z) Y → Vec (Vec Origin Z) Y → Type 0
Fills result n at old new = OnOk result (AreFilled n at old.items new.items)

-- how the operations stand of which number k alone has begun
abbrev pub alone_at : ℕ → Standing → ℕ → Standing
alone_at k s o = if o == k then s else (0, [])

-- They are those of a text of these lines: of each operation, of each instruction; and of each
-- shared word whether it is written with an index.
abbrev pub AreOrigins : List (List ℕ) → Origins → Type 0
AreOrigins lines origins =
    ((o p : ℕ)
    → slice_get (entries_at origins.operations.items o) p ≡ origin_from 1 nothing lines o p)
    × (origins.indexed.items ≡ are_indexed (after_lines nothing lines))

-- the code of operation o of a source; none where it has no such operation
abbrev pub code_of : Program → ℕ → List Instr
code_of p o = get_or (map (λ operation. operation_code operation.body) p.operations) o []

-- of each instruction of what the lines are compiled to there is an entry
abbrev pub HasEach : List (List ℕ) → Origins → Type 0
HasEach lines origins =
    (p : Program) → meaning_of_lines source_grammar lines ≡ Ok p
    → (o : ℕ) → length (code_of p o) ≤ length (entries_at origins.operations.items o)

-- a fault is the one that is meant, unless memory ran out; and there is one where one is meant
abbrev pub FailsAs : {A : Type 0} → Result A (Fault Kind) → Result Program (Fault Kind) → Type 0
FailsAs (Ok x) meant = IsOk meant
FailsAs (Err e) meant = IsUnlessMemory e meant
