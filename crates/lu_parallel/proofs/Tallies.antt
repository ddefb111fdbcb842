-- How a worker's tally goes with its seat's view.
use Rattle.std.proofs.Common.{◌≡◌, ℕ, zero, suc, ◌+◌, ◌<◌, List, [], ◌∷◌, ◌++◌, length, get_or, sum_by, refl, sym, ◌∙◌, ap, subst, arith, Bool, if◌then◌else◌, eq-eqb}
use Rattle.std.specs.List.{AllZip}
use Rattle.std.proofs.lemmas.List.{map-append}
use Rattle.std.proofs.lemmas.List.Elements.{All-nil, All-push}
use Rattle.std.proofs.lemmas.List.Sums.{sum_by-append, sum_by-cons}
use Rattle.lu_test.specs.declared.schedule.Move.{Move}
use Rattle.lu_machine.specs.declared.counts.Counts.{Counts}
use Rattle.lu_machine.specs.States.{State}
use Rattle.lu_machine.specs.Sums.{capped, plus, total}
use Rattle.lu_history.specs.declared.serial.SerialOp.{SerialOp}
use Rattle.lu_witness.specs.declared.judgement.Why.{Why}
use Rattle.lu_witness.specs.Goodness.{IsFirstBad, AreAllGood}
use Rattle.lu_tree.specs.Trees.{Below}
use Rattle.lu_board.specs.declared.view.View.{View}
use Rattle.lu_board.specs.declared.view.Kind.TheVariants.{Clean}
use Rattle.lu_board.specs.Events.{with_settled, with_found}
use Rattle.lu_board.specs.Pieces.{without_first}
use Rattle.lu_board.specs.Views.{pieces_of as seat_pieces}
use Rattle.lu_parallel.specs.declared.works.FoundPiece.{FoundPiece}
use Rattle.lu_parallel.specs.Works.{piece_at, IsClean, IsFoundPiece, IsTally}

pub zip_push : {A B : Type 0} (R : A → B → Type 0) (xs : List A) (ys : List B) (x : A) (y : B) → AllZip R xs ys → R x y → AllZip R (xs ++ x ∷ []) (ys ++ y ∷ [])
zip_push R [] [] x y all one = (one, tt)
zip_push R [] (b ∷ ys) x y all one = absurd all
zip_push R (a ∷ xs) [] x y all one = absurd all
zip_push R (a ∷ xs) (b ∷ ys) x y all one = (all.0, zip_push R xs ys x y all.1 one)

-- a piece of the list, whatever stands for those past its end
pub piece_is : (pieces : List (List Move)) (i : ℕ) (other : List Move) → i < length pieces → get_or pieces i other ≡ piece_at pieces i
piece_is [] i other within = absurd (omega arith)
piece_is (q ∷ pieces) zero other within = refl
piece_is (q ∷ pieces) (suc i) other within = piece_is pieces i other (omega arith)

sum_push : (f : Counts → ℕ) (cs : List Counts) (c : Counts) → capped (capped (sum_by f cs) + f c) ≡ capped (sum_by f (cs ++ c ∷ []))
sum_push f cs c =
    let a = sum_by-append f cs (c ∷ []) in
    let b = sum_by-cons f c [] in
    let d : sum_by f [] ≡ 0 = refl in
    omega arith

-- one more sum
pub total_push : (cs : List Counts) (c : Counts) → plus (total cs) c ≡ total (cs ++ c ∷ [])
total_push cs c = rw (sum_push (λ x. x.complete) cs c, sum_push (λ x. x.stuck) cs c, sum_push (λ x. x.cut) cs c) refl

module _ (Set : List SerialOp → Type 0) (s : State) (bound : ℕ) (pieces : List (List Move)) (v : View) (counts : Counts) (found : List FoundPiece) (holds : IsTally Set s bound pieces v counts found) where
  -- one more clean piece
  pub holds_clean : (i : ℕ) (p : List Move) (w : View) (c after : Counts) → p ≡ piece_at pieces i → w ≡ with_settled i Clean v → after ≡ plus counts c → AreAllGood Set s bound (Below p) c → IsTally Set s bound pieces w after found
  holds_clean i p w c after is settled sum clean =
      let clean' : IsClean Set s bound pieces i c = subst (λ (x : List Move). AreAllGood Set s bound (Below x) c) is clean in
      let lists : AllZip (IsClean Set s bound pieces) (v.clean ++ i ∷ []) (holds.numbers ++ c ∷ []) = zip_push (IsClean Set s bound pieces) v.clean holds.numbers i c holds.clean clean' in
      rw settled (record {
        numbers = holds.numbers ++ c ∷ [];
        clean = lists;
        sums = sum ∙ ap (λ (x : Counts). plus x c) holds.sums ∙ total_push holds.numbers c;
        listed = holds.listed;
        right = holds.right;
      })

  -- one more found piece
  pub holds_found : (i best : ℕ) (p u : List Move) (why : Why) (w : View) (more : List FoundPiece) → p ≡ piece_at pieces i → w ≡ with_found i best v → more ≡ found ++ record { piece = i; schedule = u; why = why } ∷ [] → IsFirstBad Set s bound (Below p) u why → IsTally Set s bound pieces w counts more
  holds_found i best p u why w more is moved pushed bad =
      let entry : FoundPiece = record { piece = i; schedule = u; why = why } in
      let bad' : IsFoundPiece Set s bound pieces entry = subst (λ (x : List Move). IsFirstBad Set s bound (Below x) u why) is bad in
      rw (moved, pushed) (record {
        numbers = holds.numbers;
        clean = holds.clean;
        sums = holds.sums;
        listed = map-append (λ (f : FoundPiece). f.piece) found (entry ∷ []) ∙ ap (λ (x : List ℕ). x ++ i ∷ []) holds.listed;
        right = All-push (IsFoundPiece Set s bound pieces) found entry holds.right bad';
      })

-- nothing is in the parts of an empty list
no_parts : {X : Type 0} (xs ys : List X) → xs ++ ys ≡ [] → (xs ≡ []) × (ys ≡ [])
no_parts [] ys is = (refl, is)
no_parts (x ∷ xs) ys is = absurd cc

-- no piece is held, clean or found
pub no_pieces : (v : View) → seat_pieces v ≡ [] → (v.held ≡ []) × (v.clean ≡ []) × (v.found ≡ [])
no_pieces v none =
    let a = no_parts (v.held ++ v.clean ++ v.found ++ v.skipped) v.given none in
    let b = no_parts (v.held ++ v.clean ++ v.found) v.skipped a.0 in
    let c = no_parts (v.held ++ v.clean) v.found b.0 in
    let d = no_parts v.held v.clean c.0 in
    (d.0, d.1, c.1)

-- no piece is clean or found
pub holds_empty : (Set : List SerialOp → Type 0) (s : State) (bound : ℕ) (pieces : List (List Move)) (v : View) (found : List FoundPiece) → v.clean ≡ [] → v.found ≡ [] → found ≡ [] → IsTally Set s bound pieces v (record { complete = 0; stuck = 0; cut = 0 }) found
holds_empty Set s bound pieces v found clean none empty =
    rw empty (record {
      numbers = [];
      clean = subst (λ (x : List ℕ). AllZip (IsClean Set s bound pieces) x []) (sym clean) tt;
      sums = refl;
      listed = sym none;
      right = All-nil (IsFoundPiece Set s bound pieces);
    })

-- nothing is claimed
pub holds_nothing : (Set : List SerialOp → Type 0) (s : State) (bound : ℕ) (pieces : List (List Move)) (v : View) (counts : Counts) (found : List FoundPiece) → seat_pieces v ≡ [] → counts ≡ record { complete = 0; stuck = 0; cut = 0 } → found ≡ [] → IsTally Set s bound pieces v counts found
holds_nothing Set s bound pieces v counts found new none empty =
    let clean = (no_pieces v new).1 in
    let more = (no_pieces v new).2 in
    rw (none, empty) (record {
      numbers = [];
      clean = subst (λ (x : List ℕ). AllZip (IsClean Set s bound pieces) x []) (sym clean) tt;
      sums = refl;
      listed = sym more;
      right = All-nil (IsFoundPiece Set s bound pieces);
    })

-- a view with the same clean and found pieces
pub holds_same : (Set : List SerialOp → Type 0) (s : State) (bound : ℕ) (pieces : List (List Move)) (v w : View) (counts : Counts) (found : List FoundPiece) → w.clean ≡ v.clean → w.found ≡ v.found → IsTally Set s bound pieces v counts found → IsTally Set s bound pieces w counts found
holds_same Set s bound pieces v w counts found clean same holds = record {
  numbers = holds.numbers;
  clean = subst (λ (x : List ℕ). AllZip (IsClean Set s bound pieces) x holds.numbers) (sym clean) holds.clean;
  sums = holds.sums;
  listed = holds.listed ∙ sym same;
  right = holds.right;
}

pub without_one : (i : ℕ) (held : List ℕ) → held ≡ [] → without_first i (held ++ i ∷ []) ≡ []
without_one i held none = rw none (ap (λ (b : Bool). if b then [] else i ∷ []) (eq-eqb i i refl))
