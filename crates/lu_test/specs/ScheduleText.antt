-- Schedules as text, and what is wrong with a text that is none.
use Rattle.std.specs.Prelude.{◌≡◌, ℕ, ◌+◌, Bool, false, List, [], ◌∷◌, ◌++◌, length, take, drop, Option, Some, None, Result, Ok, Err, codes, nat_le, nat_lt, ◌==◌, ◌&&◌, not, if◌then◌else◌}
use Rattle.std.specs.List.{flat_map, slice_split, list_all, position}
use Rattle.std.specs.Fmt.{decimal}
use Rattle.std.specs.Str.{bytes_eq}
use Rattle.lu_test.specs.declared.schedule.Move.{Move}
use Rattle.lu_test.specs.declared.schedule_fault.ScheduleFault.{ScheduleFault}
use Rattle.lu_test.specs.declared.schedule_fault.ScheduleFault.TheVariants.{Form, Number, Limit, Memory}
use Rattle.lu_text.specs.Numbers.{number_in}
use Rattle.lu_test.specs.Schedule.{AreMoves}

-- ---- the one spelling of a schedule

-- the thread, and after a colon a pick that isn't 0
abbrev pub move_text : Move → List ℕ
move_text m = decimal m.thread ++ (if m.pick == 0 then [] else 58 ∷ decimal m.pick)

abbrev pub schedule_text : List Move → List ℕ
schedule_text moves = codes "schedule" ++ flat_map (λ m. 32 ∷ move_text m) moves ++ 10 ∷ []

-- the text is the one spelling of these moves
abbrev pub SpellsMoves : List ℕ → List Move → Type 0
SpellsMoves text moves = AreMoves moves × (text ≡ schedule_text moves)

-- ---- reading, with the first fault from the left

infixl 10 ◌>>=◌
abbrev pub ◌>>=◌ : {A B : Type 0} → Result A ScheduleFault → (A → Result B ScheduleFault)
    → Result B ScheduleFault
(Ok x) >>= f = f x
(Err e) >>= f = Err e

-- the line of a text whose first LF is its last byte
abbrev pub line_to : List ℕ → Option ℕ → Option (List ℕ)
line_to text None = None
line_to text (Some end) = if end + 1 == length text then Some (take end text) else None

abbrev pub one_line : List ℕ → Option (List ℕ)
one_line text = line_to text (position (λ b. b == 10) text)

-- `schedule`, and words that aren't empty
abbrev pub has_form : List (List ℕ) → Bool
has_form [] = false
has_form (first ∷ words) =
    bytes_eq first (codes "schedule") && list_all (λ word. not (length word == 0)) words

abbrev pub move_with : Option ℕ → Option ℕ → Result Move ScheduleFault
move_with None p = Err Number
move_with (Some t) None = Err Number
move_with (Some t) (Some p) =
    if nat_le t 7 && nat_le p 7 then Ok (record { thread = t; pick = p }) else Err Limit

-- the move that a word says, by the position of its first colon
abbrev pub move_cut : List ℕ → Option ℕ → Result Move ScheduleFault
move_cut word None = move_with (number_in word) (Some 0)
move_cut word (Some colon) =
    if bytes_eq (drop (colon + 1) word) (48 ∷ []) then Err Number
    else move_with (number_in (take colon word)) (number_in (drop (colon + 1) word))

unfoldable pub move_of : List ℕ → Result Move ScheduleFault
move_of word = move_cut word (position (λ b. b == 58) word)

-- the moves of the words, of which `before` came before
unfoldable pub moves_of : ℕ → List (List ℕ) → Result (List Move) ScheduleFault
moves_of before [] = Ok []
moves_of before (word ∷ words) = do
  m ← move_of word
  others ← if nat_lt before 4112 then moves_of (before + 1) words else Err Limit
  Ok (m ∷ others)

-- the moves of what stands between the spaces of a line
abbrev pub moves_by : List (List ℕ) → Result (List Move) ScheduleFault
moves_by parts = if has_form parts then moves_of 0 (drop 1 parts) else Err Form

abbrev pub moves_in : Option (List ℕ) → Result (List Move) ScheduleFault
moves_in None = Err Form
moves_in (Some line) = moves_by (slice_split (λ b. b == 32) line)

abbrev pub schedule_of : List ℕ → Result (List Move) ScheduleFault
schedule_of text = moves_in (one_line text)

-- What a reader returned is the schedule or the fault of the definition, unless memory ran out.
abbrev pub IsScheduleUnlessMemory : {A : Type 0} → ScheduleFault → Result A ScheduleFault → Type 0
IsScheduleUnlessMemory Memory meant = Unit {0}
IsScheduleUnlessMemory Form meant = meant ≡ Err Form
IsScheduleUnlessMemory Number meant = meant ≡ Err Number
IsScheduleUnlessMemory Limit meant = meant ≡ Err Limit

abbrev pub GivesSchedule : {A : Type 0} → Result A ScheduleFault → Result A ScheduleFault → Type 0
GivesSchedule (Ok x) meant = meant ≡ Ok x
GivesSchedule (Err e) meant = IsScheduleUnlessMemory e meant
