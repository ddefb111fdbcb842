-- What the pieces of a cover say together, whatever the set of serial histories.
use Rattle.std.proofs.Common.{◌≡◌, ℕ, ◌+◌, ◌⊎◌, List, [], ◌∷◌, sum_by, refl, sym, ◌∙◌, ap, subst, inl, inr, arith}
use Rattle.std.specs.List.{AllZip}
use Rattle.std.proofs.lemmas.List.Sums.{sum_by-cons}
use Rattle.lu_test.specs.declared.schedule.Move.{Move}
use Rattle.lu_machine.specs.declared.counts.Counts.{Counts}
use Rattle.lu_machine.specs.States.{State}
use Rattle.lu_machine.specs.Order.{IsSmaller}
use Rattle.lu_machine.specs.Sums.{capped, total}
use Rattle.lu_machine.specs.Schedules.{Lists, IsRising, BeginsWith, Reaches, IsNumber, IsCompleteWithin, IsStuckWithin, IsCutAt, IsEndedWithin, IsCounted}
use Rattle.lu_machine.proofs.Orders.{smaller_asym}
use Rattle.lu_machine.proofs.Numbers.{number_none, number_same, number_join}
use Rattle.lu_history.specs.declared.serial.SerialOp.{SerialOp}
use Rattle.lu_witness.specs.Goodness.{IsGoodAt, AreGood, AreAllGood, Any}
use Rattle.lu_pieces.proofs.PieceOrder.{below_pieces}
use Rattle.lu_tree.specs.Trees.{Below}
use Rattle.lu_tree.specs.Covers.{FirstOfCover, SumsOfCover}

-- v begins with one of the pieces
record Under (pieces : List (List Move)) (v : List Move) : Type 0 where
  piece : List Move
  listed : Lists pieces piece
  begins : BeginsWith v piece

sum_more : (a b n : ℕ) → b ≡ capped n → capped (a + b) ≡ capped (a + n)
sum_more a b n e = omega arith

piece_join : (Kind : List Move → Type 0) (p : List Move) (pieces : List (List Move)) (f : Counts → ℕ) (c : Counts) (counts : List Counts) → IsRising (p ∷ pieces) → ((x y : List Move) → Lists (p ∷ pieces) x → Lists (p ∷ pieces) y → BeginsWith y x → x ≡ y) → IsNumber (λ v. Below p v × Kind v) (f c) → IsNumber (λ v. Under pieces v × Kind v) (capped (sum_by f counts)) → IsNumber (λ v. Under (p ∷ pieces) v × Kind v) (capped (sum_by f (c ∷ counts)))
piece_join Kind p pieces f c counts rising apart x y =
    subst (IsNumber (λ v. Under (p ∷ pieces) v × Kind v)) (sum_more (f c) (capped (sum_by f counts)) (sum_by f counts) refl ∙ ap capped (sym (sum_by-cons f c counts)))
    (number_join (λ v. Below p v × Kind v) (λ v. Under pieces v × Kind v) (λ v. Under (p ∷ pieces) v × Kind v) (f c) (capped (sum_by f counts)) x y
    (λ v w h k. below_pieces p k.0.piece v w (rising.0 k.0.piece k.0.listed) (apart p k.0.piece (inl refl) (inr k.0.listed)) h.0 k.0.begins)
    (λ v h. (record { piece = p; listed = inl refl; begins = h.0 }, h.1))
    (λ v k. (record { piece = k.0.piece; listed = inr k.0.listed; begins = k.0.begins }, k.1))
    (λ v m. cases v m.0.piece m.0.listed m.0.begins m.1))
  where
    cases : (v piece : List Move) → Lists (p ∷ pieces) piece → BeginsWith v piece → Kind v → (Below p v × Kind v) ⊎ (Under pieces v × Kind v)
    cases v piece (inl e) b k = inl (subst (BeginsWith v) (sym e) b, k)
    cases v piece (inr l) b k = inr (record { piece = piece; listed = l; begins = b }, k)

module _ (Set : List SerialOp → Type 0) (s : State) (bound : ℕ) where
  good_in : (p : List Move) (pieces : List (List Move)) → AreGood Set s bound (Below p) → AreGood Set s bound (Under pieces) → (v piece : List Move) → Lists (p ∷ pieces) piece → BeginsWith v piece → IsEndedWithin s bound v → Reaches s v (IsGoodAt Set)
  good_in p pieces first rest v piece (inl e) b ended = first v (subst (BeginsWith v) (sym e) b) ended
  good_in p pieces first rest v piece (inr l) b ended = rest v (record { piece = piece; listed = l; begins = b }) ended

  good_under : (pieces : List (List Move)) (counts : List Counts) → IsRising pieces → ((x y : List Move) → Lists pieces x → Lists pieces y → BeginsWith y x → x ≡ y) → AllZip (λ p c. AreAllGood Set s bound (Below p) c) pieces counts → AreAllGood Set s bound (Under pieces) (total counts)
  good_under [] [] rising apart all = record {
    good = λ v under _. absurd (under.listed);
    numbers = record {
      complete = number_none (λ v. Under [] v × IsCompleteWithin s bound v) (λ v k. absurd (k.0.listed));
      stuck = number_none (λ v. Under [] v × IsStuckWithin s bound v) (λ v k. absurd (k.0.listed));
      cut = number_none (λ v. Under [] v × IsCutAt s bound v) (λ v k. absurd (k.0.listed));
    };
  }
  good_under [] (c ∷ counts) rising apart all = absurd all
  good_under (p ∷ pieces) [] rising apart all = absurd all
  good_under (p ∷ pieces) (c ∷ counts) rising apart all =
      let rest = good_under pieces counts rising.1 (λ x y h k b. apart x y (inr h) (inr k) b) all.1 in
      let first = all.0 in
      record {
        good = λ v under ended. good_in p pieces first.good rest.good v under.piece under.listed under.begins ended;
        numbers = record {
          complete = piece_join (IsCompleteWithin s bound) p pieces (λ c. c.complete) c counts rising apart first.numbers.complete rest.numbers.complete;
          stuck = piece_join (IsStuckWithin s bound) p pieces (λ c. c.stuck) c counts rising apart first.numbers.stuck rest.numbers.stuck;
          cut = piece_join (IsCutAt s bound) p pieces (λ c. c.cut) c counts rising apart first.numbers.cut rest.numbers.cut;
        };
      }

pub sums_of_cover : (Set : List SerialOp → Type 0) → SumsOfCover Set
sums_of_cover Set s bound pieces counts cover all =
    let h = good_under Set s bound pieces counts cover.rising cover.apart all in
    let under : (v : List Move) → IsCounted s bound v → Under pieces v = λ v k. (let c = cover.covers v k in record { piece = c.0; listed = c.1; begins = c.2 }) in
    record {
      good = λ v _ ended. h.good v (under v (inl ended)) ended;
      numbers = record {
        complete = number_same (λ v. Under pieces v × IsCompleteWithin s bound v) (λ v. Any v × IsCompleteWithin s bound v) (total counts).complete h.numbers.complete (λ v k. (tt, k.1)) (λ v k. (under v (inl (inl k.1)), k.1));
        stuck = number_same (λ v. Under pieces v × IsStuckWithin s bound v) (λ v. Any v × IsStuckWithin s bound v) (total counts).stuck h.numbers.stuck (λ v k. (tt, k.1)) (λ v k. (under v (inl (inr k.1)), k.1));
        cut = number_same (λ v. Under pieces v × IsCutAt s bound v) (λ v. Any v × IsCutAt s bound v) (total counts).cut h.numbers.cut (λ v k. (tt, k.1)) (λ v k. (under v (inr k.1), k.1));
      };
    }

-- the pieces of a rising list are in order
rising_cases : (pieces : List (List Move)) (p q : List Move) → IsRising pieces → Lists pieces p → Lists pieces q → (IsSmaller p q ⊎ IsSmaller q p) ⊎ (p ≡ q)
rising_cases [] p q rising h k = absurd h
rising_cases (x ∷ pieces) p q rising (inl e) (inl f) = inr (sym e ∙ f)
rising_cases (x ∷ pieces) p q rising (inl e) (inr k) = inl (inl (subst (λ y. IsSmaller y q) e (rising.0 q k)))
rising_cases (x ∷ pieces) p q rising (inr h) (inl f) = inl (inr (subst (λ y. IsSmaller y p) f (rising.0 p h)))
rising_cases (x ∷ pieces) p q rising (inr h) (inr k) = rising_cases pieces p q rising.1 h k

pub first_of_cover : (Set : List SerialOp → Type 0) → FirstOfCover Set
first_of_cover Set s bound pieces p u why cover listed earlier first =
    record {
      part = tt;
      bad = first.bad;
      before = λ v k ended.
          (let c = cover.covers v (inl ended) in
          elim (rising_cases pieces c.0 p cover.rising c.1 listed) as (λ _. Reaches s v (IsGoodAt Set)) [
            | inl x ↦ elim x as (λ _. Reaches s v (IsGoodAt Set)) [
              | inl below ↦ earlier c.0 c.1 below v c.2 ended
              | inr above ↦ absurd (smaller_asym v u k.1 (below_pieces p c.0 u v above (cover.apart p c.0 listed c.1) first.part c.2))
            ]
            | inr same ↦ first.before v (subst (BeginsWith v) same c.2, k.1) ended
          ]);
      why_is = first.why_is;
    }
