-- What each event does to the view of its seat. The running board and the pure machine both go by
-- these.
use Rattle.std.specs.Prelude.{◌≡◌, ℕ, ◌+◌, nat_lt, Bool, true, if◌then◌else◌, [], ◌∷◌, ◌++◌}
use Rattle.lu_board.specs.declared.view.View.{View}
use Rattle.lu_board.specs.declared.view.Kind.{Kind}
use Rattle.lu_board.specs.declared.view.Kind.TheVariants.{Clean, GivenUp}
use Rattle.lu_board.specs.Pieces.{without_first}

-- the view with piece i joined to the held ones. The seat will claim no piece up to i again
abbrev pub with_held : ℕ → View → View
with_held i v = record v { past = i + 1; held = v.held ++ i ∷ [] }

-- the view of a spent seat
abbrev pub with_spent : View → View
with_spent v = record v { spent = 1 }

-- the view that has seen this best piece
abbrev pub with_seen : ℕ → View → View
with_seen best v = record v { seen = best }

-- piece i, which was held, is skipped, since this best piece was seen
abbrev pub with_skipped : ℕ → ℕ → View → View
with_skipped i best v =
    record v { seen = best; held = without_first i v.held; skipped = v.skipped ++ i ∷ [] }

-- piece i, which was held, is found bad, and this is the best piece now
abbrev pub with_found : ℕ → ℕ → View → View
with_found i best v =
    record v { seen = best; held = without_first i v.held; found = v.found ++ i ∷ [] }

-- piece i, which was held, is clean or given up
abbrev pub with_settled : ℕ → Kind → View → View
with_settled i Clean v = record v { held = without_first i v.held; clean = v.clean ++ i ∷ [] }
with_settled i GivenUp v = record v { held = without_first i v.held; given = v.given ++ i ∷ [] }

-- after a claim that found this next piece, on a board of n pieces
abbrev pub after_claim : ℕ → ℕ → View → View
after_claim n next v = if nat_lt next n then with_held next v else with_spent v

-- after a look for piece i that found this best piece
abbrev pub after_look : ℕ → ℕ → View → View
after_look i best v = if nat_lt best i then with_skipped i best v else with_seen best v

-- where the event was legal, this is the view after it
abbrev pub IsViewAfter : View → View → Bool → Type 0
IsViewAfter next new legal = legal ≡ true → new ≡ next
