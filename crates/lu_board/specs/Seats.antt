-- A board and its seats, as contracts see them.
use Rattle.std.specs.Prelude.{◌≡◌, ℕ, ◌<◌, Bool, true, if◌then◌else◌, List, [], ◌∷◌, length, replicate, ◌↔◌}
use Rattle.atomic_table.specs.Seated.{TableId}
use Rattle.lu_board.specs.declared.view.View.{View}
use Rattle.lu_board.specs.Views.{newcomer, IsOver, merged}

-- a board: which one it is, and how many pieces and workers it has
pub record Board : Type 0 where
  pub board : TableId
  pub pieces : ℕ
  pub workers : ℕ

-- a board of some workers stands in four words, and in no slots
abbrev pub IsTableFor : ℕ → TableId → Type 0
IsTableFor workers table = (table.words ≡ 4) × (table.slots ≡ 0) × (0 < workers)

-- a seat: its board, and what it knows
pub record Seat : Type 0 where
  pub board : TableId
  pub view : View

-- a seat of a board of n pieces that has done nothing yet
abbrev pub unused_seat : TableId → ℕ → Seat
unused_seat board n = record { board = board; view = newcomer n 1 }

-- this many of them
abbrev pub unused_seats : ℕ → TableId → ℕ → List Seat
unused_seats many board n = replicate many (unused_seat board n)

-- a seat of this board
abbrev pub IsSeatOf : TableId → Seat → Type 0
IsSeatOf board seat = seat.board ≡ board

-- a spent seat that holds no piece
abbrev pub IsDone : Seat → Type 0
IsDone seat = IsOver seat.view

-- the flag is set exactly where the view has a piece that was given up
abbrev pub TellsGiven : Bool → View → Type 0
TellsGiven gave_up v = (gave_up ≡ true) ↔ (0 < length v.given)

-- the plain fields of a seat say the same as its view, whose weight is 1
pub record FieldsTell (n : ℕ) (spent gave_up : Bool) (v : View) : Type 0 where
  pub pieces : v.pieces ≡ n
  pub spent_is : v.spent ≡ (if spent then 1 else 0)
  pub weight : v.weight ≡ 1
  pub given : TellsGiven gave_up v

-- and its token knows so much, and holds nothing beside
abbrev pub IsSeatWith : {E : Type 0} → ℕ → Bool → Bool → View × List E → Type 0
IsSeatWith n spent gave_up (v, beside) = FieldsTell n spent gave_up v × (beside ≡ [])

-- the view v, after all that the seats have
abbrev pub gathered : List Seat → View → View
gathered [] v = v
gathered (seat ∷ seats) v = merged seat.view (gathered seats v)
