-- The pieces of a frontier.
use Rattle.std.proofs.Common.{ℕ, zero, suc, ◌≤◌, List, [], ◌∷◌, All, min, refl, inl, inr, arith}
use Rattle.lu_test.specs.declared.schedule.Move.{Move}
use Rattle.lu_machine.specs.States.{State}
use Rattle.lu_machine.specs.Schedules.{Lists}
use Rattle.lu_pieces.specs.Frontiers.{IsPieceAt, IsFrontier}
use Rattle.lu_parallel.specs.Works.{IsPiece}

all_listed : (P : List Move → Type 0) (pieces : List (List Move)) → ((u : List Move) → Lists pieces u → P u) → All P pieces
all_listed P [] each k d within = absurd (omega arith)
all_listed P (p ∷ pieces) each zero d within = each p (inl refl)
all_listed P (p ∷ pieces) each (suc k) d within = all_listed P pieces (λ u listed. each u (inr listed)) k d (omega arith)

piece_of : (s : State) (bound d : ℕ) (u : List Move) → d ≤ bound → IsPieceAt s d u → IsPiece s bound u
piece_of s bound d u within (inl is) = (let e = is.0 in omega arith, is.1)
piece_of s bound d u within (inr is) = (let e = is.0 in omega arith, record { end = is.1.end; history = is.1.history; leads = is.1.leads; holds = tt })

-- each is a schedule of no more moves than the bound
pub frontier_pieces : (s : State) (bound depth : ℕ) (pieces : List (List Move)) → IsFrontier s (min bound depth) pieces → All (IsPiece s bound) pieces
frontier_pieces s bound depth pieces is = all_listed (IsPiece s bound) pieces (λ u listed. piece_of s bound is.depth u (let w = is.within in omega arith) (is.all.only u listed))
