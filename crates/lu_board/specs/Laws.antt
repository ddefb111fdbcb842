-- Laws of the board as a pure machine.
use Rattle.std.specs.Prelude.{◌≡◌, ℕ, ◌<◌, ◌≤◌, Bool, true, List, [], length, All}
use Rattle.lu_board.specs.declared.view.TheConstants.{MAX_PIECES, MAX_WORKERS}
use Rattle.lu_board.specs.declared.board_core.CoreEvent.{CoreEvent}
use Rattle.lu_board.specs.Fit.{FitsBoard}
use Rattle.lu_board.specs.Core.{CoreState, AgreesWith, AllDone, IsLeastBad, after_events, all_legal, best_piece, given_in, start}

-- the state m is reached by legal events, on a new board of n pieces and this many workers
pub record IsReached (n workers : ℕ) (bad : List Bool) (m : CoreState) : Type 0 where
  pub covers : (n ≤ MAX_PIECES) × (length bad ≡ n)
  pub within : (0 < workers) × (workers ≤ MAX_WORKERS)
  pub events : List CoreEvent
  pub legal : all_legal events (start n workers bad) ≡ true
  pub state : m ≡ after_events events (start n workers bad)

-- Each such state fits; its found pieces are bad, and its clean ones are not.
abbrev pub LegalEventsFit : Type 0
LegalEventsFit =
    (n workers : ℕ) (bad : List Bool) (m : CoreState) →
    IsReached n workers bad m
    → FitsBoard n workers m.next m.best m.views × All (AgreesWith bad) m.views

-- Where all is done there, and nothing was given up, the best piece is the least bad one.
abbrev pub DoneIsLeastBad : Type 0
DoneIsLeastBad =
    (n workers : ℕ) (bad : List Bool) (m : CoreState) →
    IsReached n workers bad m → AllDone m.views → given_in m.views ≡ []
    → IsLeastBad bad (best_piece m)
