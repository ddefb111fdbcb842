-- What works say together, taken apart and put together.
use Rattle.std.proofs.Common.{◌≡◌, ◌≢◌, ℕ, zero, suc, ◌<◌, Bool, true, false, List, [], ◌∷◌, ◌++◌, All, Contains, length, refl, sym, ◌∙◌, ap, subst, arith, ◌↔◌, true≢false, slice_index_or}
use Rattle.std.proofs.lemmas.List.{map-append, append_assoc}
use Rattle.std.proofs.lemmas.List.Concat.{flat_map-cons}
use Rattle.std.proofs.lemmas.List.Elements.{All-map}
use Rattle.atomic_table.specs.Seated.{TableId}
use Rattle.lu_machine.specs.declared.counts.Counts.{Counts}
use Rattle.lu_machine.specs.Sums.{plus, total}
use Rattle.lu_board.specs.Close.{found_by}
use Rattle.lu_board.specs.Seats.{Seat, IsSeatOf, IsDone}
use Rattle.lu_parallel.specs.declared.works.FoundPiece.{FoundPiece}
use Rattle.lu_parallel.specs.declared.works.Work.{Work}
use Rattle.lu_parallel.specs.Works.{found_pieces, IsSpentWork}
use Rattle.lu_parallel.specs.Conclusions.{seats_of, counts_of_works, founds_of}
use Rattle.lu_parallel.proofs.Tallies.{total_push}

-- ---- lists, one element after another

pub one_then : {X : Type 0} (xs ys : List X) (x : X) → (xs ++ x ∷ []) ++ ys ≡ xs ++ (x ∷ ys)
one_then [] ys x = refl
one_then (y ∷ xs) ys x = ap (λ zs. y ∷ zs) (one_then xs ys x)

pub has_later : {X : Type 0} (x y : X) (xs : List X) → Contains xs y → Contains (x ∷ xs) y
has_later x y xs has = (suc has.0, (let h = has.1 in omega arith), has.2)

pub has_tail : {X : Type 0} (x y : X) (xs : List X) → Contains (x ∷ xs) y → x ≢ y → Contains xs y
has_tail x y xs has other = at has.0 has.1 has.2
  where
    at : (k : ℕ) → k < length (x ∷ xs) → slice_index_or (x ∷ xs) k y ≡ y → Contains xs y
    at zero within is = absurd (other is)
    at (suc k) within is = (k, omega arith, is)

-- ---- the loops

pub seats_step : (seats new all : List Seat) (rest more : List Work) (w : Work) → rest ≡ w ∷ more → new ≡ seats ++ w.seat ∷ [] → seats ++ seats_of rest ≡ all → new ++ seats_of more ≡ all
seats_step seats new all rest more w is pushed was = rw pushed (one_then seats (seats_of more) w.seat ∙ (ap (λ (x : List Work). seats ++ seats_of x) (sym is) ∙ was))

pub counts_step : (counts after : Counts) (all : List Counts) (rest more : List Work) (w : Work) → rest ≡ w ∷ more → after ≡ plus counts w.counts → (done : List Counts) × (counts ≡ total done) × (done ++ counts_of_works rest ≡ all) → (done : List Counts) × (after ≡ total done) × (done ++ counts_of_works more ≡ all)
counts_step counts after all rest more w is sum was = (
  was.0 ++ w.counts ∷ [],
  sum ∙ (ap (λ (x : Counts). plus x w.counts) was.1 ∙ total_push was.0 w.counts),
  one_then was.0 (counts_of_works more) w.counts ∙ (ap (λ (x : List Work). was.0 ++ counts_of_works x) (sym is) ∙ was.2),
)

pub founds_step : (found new all : List FoundPiece) (rest more : List Work) (w : Work) → rest ≡ w ∷ more → new ≡ found ++ w.found.items → found ++ founds_of rest ≡ all → new ++ founds_of more ≡ all
founds_step found new all rest more w is pushed was =
    rw pushed (append_assoc found w.found.items (founds_of more) ∙ (ap (λ (x : List FoundPiece). found ++ x) (sym (flat_map-cons (λ (y : Work). y.found.items) w more)) ∙ (ap (λ (x : List Work). found ++ founds_of x) (sym is) ∙ was)))

-- ---- all works

pub seats_own : (board : TableId) (works : List Work) → All (IsSpentWork board) works → All (IsSeatOf board) (seats_of works)
seats_own board works over = All-map (IsSeatOf board) (λ (w : Work). w.seat) works (λ k d within. (over k d within).board_is)

pub seats_done : (board : TableId) (works : List Work) → All (IsSpentWork board) works → All IsDone (seats_of works)
seats_done board works over = All-map IsDone (λ (w : Work). w.seat) works (λ k d within. (over k d within).done)

-- the entries are those of the found pieces
pub founds_pieces : (board : TableId) (works : List Work) → All (IsSpentWork board) works → found_pieces (founds_of works) ≡ found_by (seats_of works)
founds_pieces board [] over = refl
founds_pieces board (w ∷ ws) over =
    let rest = founds_pieces board ws (λ k d within. over (suc k) d (omega arith)) in
    let first = (over 0 w (omega arith)).listed in
    ap found_pieces (flat_map-cons (λ (y : Work). y.found.items) w ws)
    ∙ (map-append (λ (f : FoundPiece). f.piece) w.found.items (founds_of ws)
    ∙ (ap (λ (x : List ℕ). x ++ found_pieces (founds_of ws)) first ∙ (ap (λ (x : List ℕ). w.seat.view.found ++ x) rest
    ∙ sym (flat_map-cons (λ (s : Seat). s.view.found) w.seat (seats_of ws)))))

pub none_given : (b : Bool) (given : List ℕ) → ((b ≡ true) ↔ (0 < length given)) → b ≡ false → given ≡ []
none_given b [] d e = refl
none_given b (x ∷ xs) d e = absurd (true≢false (sym (d.1 (omega arith)) ∙ e))

-- ---- seats and threads, one after another

pub all_rest : {X : Type 0} (P : X → Type 0) (xs : List X) (x : X) (rest : List X) → xs ≡ x ∷ rest → All P xs → All P rest
all_rest P xs x rest is all = at (subst (λ (ys : List _). All P ys) is all)
  where
    at : All P (x ∷ rest) → All P rest
    at each k d below = each (suc k) d (omega arith)
