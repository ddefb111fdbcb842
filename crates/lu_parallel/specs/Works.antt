-- What workers do with the pieces of a cover, and what they hand back.
use Rattle.std.specs.Prelude.{◌≡◌, ℕ, ◌≤◌, List, [], map, length, All, Result, IfOk, Vec}
use Rattle.std.specs.List.{AllZip, slice_index_or}
use Rattle.atomic_table.specs.Seated.{TableId}
use Rattle.lu_component.specs.Component.{Component}
use Rattle.lu_test.specs.declared.schedule.Move.{Move}
use Rattle.lu_test.specs.Matrix.{Matrix}
use Rattle.lu_machine.specs.declared.counts.Counts.{Counts}
use Rattle.lu_machine.specs.States.{State}
use Rattle.lu_machine.specs.Schedules.{IsSchedule}
use Rattle.lu_machine.specs.Starts.{CanRun, FromEachStart}
use Rattle.lu_machine.specs.Tests.{FromEachStartOf}
use Rattle.lu_machine.specs.Sums.{total}
use Rattle.lu_history.specs.declared.serial.SerialOp.{SerialOp}
use Rattle.lu_witness.specs.Goodness.{IsFirstBad, AreAllGood}
use Rattle.lu_witness.specs.Witnesses.{IsMember}
use Rattle.lu_tree.specs.Searchers.{IsReadyToSearch, space_of}
use Rattle.lu_tree.specs.Trees.{Below, IsFoundWatched}
use Rattle.lu_tree.specs.declared.found.Found.{Found}
use Rattle.lu_tree.specs.declared.searcher.Searcher.{Searcher}
use Rattle.lu_board.specs.declared.view.View.{View}
use Rattle.lu_board.specs.Pieces.{without_first}
use Rattle.lu_board.specs.Seats.{Board, Seat, IsDone, IsSeatOf}
use Rattle.lu_board.specs.Views.{pieces_of as seat_pieces}
use Rattle.lu_report.specs.Limits.{most_moves}
use Rattle.lu_parallel.specs.declared.works.FoundPiece.{FoundPiece}
use Rattle.lu_parallel.specs.declared.works.Work.{Work}
use Rattle.lu_parallel.specs.declared.worker.Job.{Job}
use Rattle.lu_parallel.specs.declared.worker.Worker.{Worker}

-- piece i of the list
abbrev pub piece_at : List (List Move) → ℕ → List Move
piece_at pieces i = slice_index_or pieces i []

-- a schedule of no more moves than the bound
abbrev pub IsPiece : State → ℕ → List Move → Type 0
IsPiece s bound p = (length p ≤ bound) × IsSchedule s p

abbrev pub ArePieces : Component → Matrix → ℕ → List (List Move) → Type 0
ArePieces c matrix bound pieces = FromEachStart c matrix (λ s. All (IsPiece s bound) pieces)

-- an unspent seat of this board, without pieces
abbrev pub IsFresh : TableId → Seat → Type 0
IsFresh board seat = (seat.board ≡ board) × (seat.view.spent ≡ 0) × (seat_pieces seat.view ≡ [])

-- what workers are lent: a matrix of the component, and as many pieces as the board has
pub record IsJob (c : Component) (matrix : Matrix) (bound : ℕ) (pieces : List (List Move))
    (board : Board) : Type 0 where
  pub of : CanRun c matrix
  pub few : bound ≤ most_moves
  pub schedules : ArePieces c matrix bound pieces
  pub numbered : board.pieces ≡ length pieces

-- the schedules of piece i are good, and these are the numbers
abbrev pub IsClean : (List SerialOp → Type 0) → State → ℕ → List (List Move) → ℕ → Counts → Type 0
IsClean Set s bound pieces i counts = AreAllGood Set s bound (Below (piece_at pieces i)) counts

-- the schedule is the least bad one of the piece, and why it is bad
abbrev pub IsFoundPiece : (List SerialOp → Type 0) → State → ℕ → List (List Move) → FoundPiece
    → Type 0
IsFoundPiece Set s bound pieces f =
    IsFirstBad Set s bound (Below (piece_at pieces f.piece)) f.schedule f.why

-- the pieces that are found
abbrev pub found_pieces : List FoundPiece → List ℕ
found_pieces found = map (λ f. f.piece) found

-- The clean pieces of a seat are clean, the counts are the sums of their numbers, and its found
-- pieces are these.
pub record IsTally (Set : List SerialOp → Type 0) (s : State) (bound : ℕ)
    (pieces : List (List Move)) (v : View) (counts : Counts) (found : List FoundPiece) :
    Type 0 where
  pub numbers : List Counts
  pub clean : AllZip (IsClean Set s bound pieces) v.clean numbers
  pub sums : counts ≡ total numbers
  pub listed : found_pieces found ≡ v.found
  pub right : All (IsFoundPiece Set s bound pieces) found

-- the seat is one of this board, spent and without held pieces, and its found pieces are those of
-- the work
pub record IsSpentWork (board : TableId) (w : Work) : Type 0 where
  pub board_is : IsSeatOf board w.seat
  pub done : IsDone w.seat
  pub listed : found_pieces w.found.items ≡ w.seat.view.found

-- a work that is over, and the clean and found pieces of its seat have their answers
pub record IsWork (c : Component) (matrix : Matrix) (members : List (List SerialOp)) (bound : ℕ)
    (pieces : List (List Move)) (board : TableId) (w : Work) : Type 0 where
  pub over : IsSpentWork board w
  pub holds : FromEachStart c matrix
      (λ s. IsTally (IsMember members) s bound pieces w.seat.view w.counts w.found.items)

-- the same on this board, with the members of a tree
abbrev pub Worked : {T : Type 0} → Component → Matrix → (T → List (List SerialOp)) → T → ℕ
    → List (List Move) → Board → Work → Type 0
Worked c matrix members tree bound pieces board w =
    IsWork c matrix (members tree) bound pieces board.board w

-- ---- what a worker is lent

abbrev pub IsLent : {T G : Type 0} → Job T G → Type 0
IsLent job =
    IsJob job.space.test.component.now job.space.test.matrix.now job.space.bound
    job.pieces.now job.board.now

-- the searcher can search what is lent
pub record IsSearcherFor {T G Place : Type 0} (job : Job T G) (searcher : Searcher T Place) :
    Type 0 where
  pub ready : IsReadyToSearch searcher
  pub space : space_of searcher ≡ job.space

-- a work for what is lent, with the set of these members
abbrev pub IsWorkFor : {T G : Type 0} → Job T G → List (List SerialOp) → Work → Type 0
IsWorkFor job members w =
    IsWork job.space.test.component.now job.space.test.matrix.now members job.space.bound
    job.pieces.now job.board.now.board w

abbrev pub AreWorksFor : {T G E Z : Type 0} → Job T G → List (List SerialOp)
    → Result (Vec Work Z) E → Type 0
AreWorksFor job members result = IfOk result (λ works. All (IsWorkFor job members) works.items)

-- what was found in this piece, unless it was abandoned
abbrev pub IsFoundIn : {T G E : Type 0} → Job T G → List (List SerialOp) → ℕ → Result Found E
    → Type 0
IsFoundIn job members piece result =
    FromEachStartOf job.space.test
    (λ s. IfOk result
    (IsFoundWatched (IsMember members) s job.space.bound (Below (piece_at job.pieces.now piece))))

-- what is a tally of the seat before and is kept on is one of the seat after
abbrev pub Tallied : {T G : Type 0} → Job T G → List (List SerialOp) → Seat → Worker
    → Seat → Worker → Type 0
Tallied job members before old after new =
    FromEachStartOf job.space.test
    (λ s. IsTally (IsMember members) s job.space.bound job.pieces.now before.view old.counts
    old.found.items
    → IsTally (IsMember members) s job.space.bound job.pieces.now after.view new.counts
    new.found.items)

-- what was found in the piece is on the tally
abbrev pub IsNoted : {T G E : Type 0} → Job T G → ℕ → Result Found E → Seat → Worker
    → Seat → Worker → Type 0
IsNoted job piece found before old after new =
    (members : List (List SerialOp)) → IsFoundIn job members piece found
    → Tallied job members before old after new

-- piece i, which was held, is put into another set
pub record PutsAway (i : ℕ) (old new : View) : Type 0 where
  pub pieces : new.pieces ≡ old.pieces
  pub past : new.past ≡ old.past
  pub held : new.held ≡ without_first i old.held
