-- What a look answers.
use Rattle.std.specs.Prelude.{◌≡◌, ℕ, ◌<◌, ◌≤◌, IfSome, Option, unwrap_or}
use Rattle.lu_board.specs.declared.view.Look.{Look}
use Rattle.lu_board.specs.declared.view.Look.TheVariants.{Skip, Go}
use Rattle.lu_board.specs.declared.view.View.{View}
use Rattle.lu_board.specs.Events.{with_seen, with_skipped}

-- piece i is to be worked on, and the best piece that is shown is one of the pieces; where none is
-- shown, that is n
abbrev pub StaysHeld : ℕ → Option ℕ → ℕ → View → View → Type 0
StaysHeld i shown best v w =
    (i ≤ best) × (best ≤ v.seen) × (w ≡ with_seen best v) × IfSome shown (λ b. b < v.pieces)

-- The answer to a look for piece i, from the view v before it to the view w after it. The best
-- piece that it shows, where None stands for n, is what w has seen, and at most what v had seen.
abbrev pub IsLookAnswer : ℕ → Look → View → View → Type 0
IsLookAnswer i (Skip best) v w = (best < i) × (best ≤ v.seen) × (w ≡ with_skipped i best v)
IsLookAnswer i (Go shown) v w = StaysHeld i shown (unwrap_or shown v.pieces) v w
