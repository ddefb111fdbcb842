-- What a seat knows, its view: new ones, all pieces of one, and how views are cut and gathered.
use Rattle.std.specs.Prelude.{◌≡◌, ℕ, ◌+◌, ◌-◌, min, max, List, [], ◌++◌}
use Rattle.lu_board.specs.declared.view.View.{View}

-- the view of a seat that has done nothing yet, on a board of n pieces. Its weight is the number of
-- workers it stands for
abbrev pub newcomer : ℕ → ℕ → View
newcomer n weight =
    record {
      pieces = n;
      weight = weight;
      spent = 0;
      seen = n;
      past = 0;
      held = [];
      clean = [];
      found = [];
      skipped = [];
      given = [];
    }

-- what is left of a view that another one took in: no pieces, and no weight
abbrev pub blank : View
blank = newcomer 0 0

-- the pieces of a view, those of all its sets
abbrev pub pieces_of : View → List ℕ
pieces_of v = v.held ++ v.clean ++ v.found ++ v.skipped ++ v.given

-- a spent view that holds no piece
abbrev pub IsOver : View → Type 0
IsOver v = (v.spent ≡ 1) × (v.held ≡ [])

-- what is left of a view after a newcomer of weight 1 was cut off
abbrev pub without_newcomer : View → View
without_newcomer v = record v { weight = v.weight - 1 }

-- the view v, with all that w has. Both are of one board, so they name the same number of pieces
abbrev pub merged : View → View → View
merged v w =
    record {
      pieces = w.pieces;
      weight = v.weight + w.weight;
      spent = v.spent + w.spent;
      seen = min v.seen w.seen;
      past = max v.past w.past;
      held = v.held ++ w.held;
      clean = v.clean ++ w.clean;
      found = v.found ++ w.found;
      skipped = v.skipped ++ w.skipped;
      given = v.given ++ w.given;
    }
