-- The schedules that begin with u, at the state to which u leads: whether they are good, and how many are ended or cut.
use Rattle.std.proofs.Common.{◌≡◌, ℕ, ◌+◌, ◌<◌, ◌≤◌, ◌⊎◌, Bool, true, false, List, [], ◌∷◌, ◌++◌, length, refl, sym, ◌∙◌, ap, subst, inl, inr, arith}
use Rattle.std.proofs.lemmas.Bool.{cases_lt}
use Rattle.lu_test.specs.declared.schedule.Move.{Move}
use Rattle.lu_machine.specs.declared.counts.Counts.{Counts}
use Rattle.lu_machine.specs.declared.event.Event.{Event}
use Rattle.lu_machine.specs.States.{State}
use Rattle.lu_machine.specs.Steps.{IsFeasible, picks_of}
use Rattle.lu_machine.specs.Runs.{Leads}
use Rattle.lu_machine.specs.Ends.{HasMove, HasNoMove, IsComplete, IsStuck, IsEnded}
use Rattle.lu_machine.specs.Order.{IsMoveBelow, IsSmaller}
use Rattle.lu_machine.specs.Sums.{capped, plus}
use Rattle.lu_machine.specs.Schedules.{AreNumbers, BeginsWith, Reaches, IsNumber, IsCompleteWithin, IsStuckWithin, IsCutAt, IsEndedWithin}
use Rattle.lu_machine.proofs.Ahead.{begins_itself, begins_shorter, begins_longer, no_move, ended_no_move, not_both, here, reaches_here}
use Rattle.lu_machine.proofs.Ended.{complete_no_move}
use Rattle.lu_machine.proofs.Numbers.{number_none, number_one, number_same, number_join}
use Rattle.lu_machine.proofs.Moves.{feasible_within, next_same}
use Rattle.lu_machine.proofs.Orders.{move_cases, same_move, smaller_asym, smaller_branch}
use Rattle.lu_history.specs.declared.serial.SerialOp.{SerialOp}
use Rattle.lu_witness.specs.Goodness.{IsGoodAt}
use Rattle.lu_tree.specs.Trees.{Below}
use Rattle.lu_tree.specs.Walks.{IsFirstAt, IsGoodAfter, no_schedule, one_complete, one_stuck, one_cut}

-- each schedule of the part that is ended within the bound ends so
abbrev pub EndSo : (State → List Event → Type 0) → State → ℕ → (List Move → Type 0) → Type 0
EndSo Good s bound Part = (u : List Move) → Part u → IsEndedWithin s bound u → Reaches s u Good

-- and the counts are the numbers of the part
pub record AllEndSo (Good : State → List Event → Type 0) (s : State) (bound : ℕ) (Part : List Move → Type 0) (counts : Counts) : Type 0 where
  pub good : EndSo Good s bound Part
  pub numbers : AreNumbers s bound Part counts

-- the numbers of a schedule that is cut here, or ends here, and so
abbrev pub CountedSo : (State → List Event → Type 0) → State → List Event → Counts → Type 0
CountedSo Good s h counts =
    (HasMove s × (counts ≡ one_cut))
    ⊎ ((IsComplete s × Good s h × (counts ≡ one_complete)) ⊎ (IsStuck s × Good s h × (counts ≡ one_stuck)))

-- v goes on from u by a move below the limit
pub record GoesOnBelow (u : List Move) (limit : Move) (v : List Move) : Type 0 where
  pub move : Move
  pub below : IsMoveBelow move limit
  pub begins : BeginsWith v (u ++ move ∷ [])

-- the first move of the first thread has none below it
none_below_first : (m : Move) → IsMoveBelow m (record { thread = 0; pick = 0 }) → ⊥
none_below_first m (inl lt) = omega arith
none_below_first m (inr b) = omega (arith, b.1)

-- what is below the next pick is below this one, or is this one
below_next : (t p : ℕ) (m : Move) → IsMoveBelow m (record { thread = t; pick = p + 1 }) → IsMoveBelow m (record { thread = t; pick = p }) ⊎ (m ≡ record { thread = t; pick = p })
below_next t p m (inl lt) = inl (inl lt)
below_next t p m (inr b) =
    let e : m.thread ≡ t = b.0 in
    let less : m.pick < p + 1 = b.1 in
    elim (cases_lt m.pick p) [
      | inl lt ↦ inl (inr (e, lt))
      | inr ge ↦ inr (same_move m (record { thread = t; pick = p }) e (omega arith))
    ]

below_more : (t p : ℕ) (m : Move) → IsMoveBelow m (record { thread = t; pick = p }) → IsMoveBelow m (record { thread = t; pick = p + 1 })
below_more t p m (inl lt) = inl lt
below_more t p m (inr b) = let less : m.pick < p = b.1 in inr (b.0, omega arith)

below_turn : (t p : ℕ) (m : Move) → IsMoveBelow m (record { thread = t; pick = p }) → IsMoveBelow m (record { thread = t + 1; pick = 0 })
below_turn t p m (inl lt) = let less : m.thread < t = lt in inl (omega arith)
below_turn t p m (inr b) = let e : m.thread ≡ t = b.0 in inl (omega arith)

-- a feasible move below those of the next thread is below the picks of this one
below_turned : (s : State) (t p : ℕ) → picks_of s t ≤ p → (m : Move) → IsFeasible s m → IsMoveBelow m (record { thread = t + 1; pick = 0 }) → IsMoveBelow m (record { thread = t; pick = p })
below_turned s t p all m f (inl lt) =
    let less : m.thread < t + 1 = lt in
    elim (cases_lt m.thread t) [
      | inl lt ↦ inl lt
      | inr ge ↦
          (let e : m.thread ≡ t = omega arith in
          let same : picks_of s m.thread ≡ picks_of s t = ap (picks_of s) e in
          inr (e, omega arith))
    ]
below_turned s t p all m f (inr b) = absurd (omega (arith, b.1))

-- a schedule that is complete or stuck within the bound is ended, and no longer than it
ended_within : (s : State) (bound : ℕ) (v : List Move) → IsEndedWithin s bound v → (length v ≤ bound) × Reaches s v (λ end _. IsEnded end)
ended_within s bound v (inl c) = (c.0, record { end = c.1.end; history = c.1.history; leads = c.1.leads; holds = inl c.1.holds })
ended_within s bound v (inr k) = (k.0, record { end = k.1.end; history = k.1.history; leads = k.1.leads; holds = inr k.1.holds })

module _ (start : State) (u : List Move) (s : State) (h : List Event) (at : Leads start u s h) where
  -- where no schedule of the kind goes on, u alone counts
  one_here : (Short : List Move → Type 0) (P : State → List Event → Type 0) → ((v : List Move) (m : Move) → Short v → IsFeasible s m → BeginsWith v (u ++ m ∷ []) → ⊥) → Short u → P s h → IsNumber (λ v. Below u v × (Short v × Reaches start v P)) 1
  one_here Short P alone short holds =
      number_one (λ v. Below u v × (Short v × Reaches start v P)) u (begins_itself u, (short, reaches_here start u s h at P holds))
      (λ v k. elim (here start u s h at P v k.0 k.1.1) [ inl e ↦ sym e.0 | inr m ↦ absurd (alone v m.0 k.1.0 m.1 m.2) ])

  none_here : (Short : List Move → Type 0) (P : State → List Event → Type 0) → ((v : List Move) (m : Move) → Short v → IsFeasible s m → BeginsWith v (u ++ m ∷ []) → ⊥) → (P s h → ⊥) → IsNumber (λ v. Below u v × (Short v × Reaches start v P)) 0
  none_here Short P alone not =
      number_none (λ v. Below u v × (Short v × Reaches start v P))
      (λ v k. elim (here start u s h at P v k.0 k.1.1) [ inl e ↦ not e.1 | inr m ↦ alone v m.0 k.1.0 m.1 m.2 ])

  -- the move by which a schedule goes on is feasible
  on_feasible : (P : State → List Event → Type 0) (v : List Move) (m : Move) → BeginsWith v (u ++ m ∷ []) → Reaches start v P → IsFeasible s m
  on_feasible P v m b r =
      elim (here start u s h at P v (begins_shorter v u m b) r) [
        | inl e ↦ absurd (let l = begins_longer v u m b in let k : length v ≡ length u = ap length e.0 in omega arith)
        | inr n ↦ subst (IsFeasible s) (next_same u n.0 m n.2.0 b.0 (sym n.2.1 ∙ b.1)) n.1
      ]

  module _ (Good : State → List Event → Type 0) (bound : ℕ) where
    -- at the bound, or where no move is feasible
    module _ (over : HasNoMove s ⊎ (length u ≡ bound)) (short : length u ≤ bound) where
      alone : (v : List Move) (m : Move) → length v ≤ bound → IsFeasible s m → BeginsWith v (u ++ m ∷ []) → ⊥
      alone v m few f b =
          elim over [
            | inl none ↦ no_move s m none f
            | inr long ↦ (let l = begins_longer v u m b in omega arith)
          ]

      alone_cut : (v : List Move) (m : Move) → length v ≡ bound → IsFeasible s m → BeginsWith v (u ++ m ∷ []) → ⊥
      alone_cut v m long f b = alone v m (omega arith) f b

      -- an ended schedule that begins with u is u itself
      ended_here : (v : List Move) → Below u v → IsEndedWithin start bound v → (v ≡ u) × IsEnded s
      ended_here v b ended =
          let e = ended_within start bound v ended in
          elim (here start u s h at (λ end _. IsEnded end) v b e.1) [
            | inl x ↦ x
            | inr m ↦ absurd (alone v m.0 e.0 m.1 m.2)
          ]

      all_good : (IsEnded s → Good s h) → EndSo Good start bound (Below u)
      all_good good v b ended =
          let e = ended_here v b ended in
          subst (λ x. Reaches start x Good) (sym e.0) (reaches_here start u s h at Good (good e.1))

      pub cut_counted : HasMove s → AllEndSo Good start bound (Below u) one_cut
      cut_counted some = record {
        good = all_good (λ ended. absurd (not_both s some (ended_no_move s ended)));
        numbers = record {
          complete = none_here (λ v. length v ≤ bound) (λ end _. IsComplete end) alone (λ c. not_both s some (complete_no_move s c));
          stuck = none_here (λ v. length v ≤ bound) (λ end _. IsStuck end) alone (λ stuck. not_both s some stuck.1);
          cut = one_here (λ v. length v ≡ bound) (λ end _. HasMove end) alone_cut (elim over [ inl none ↦ absurd (not_both s some none) | inr long ↦ long ]) some;
        };
      }

      pub complete_counted : IsComplete s → Good s h → AllEndSo Good start bound (Below u) one_complete
      complete_counted complete good = record {
        good = all_good (λ _. good);
        numbers = record {
          complete = one_here (λ v. length v ≤ bound) (λ end _. IsComplete end) alone short complete;
          stuck = none_here (λ v. length v ≤ bound) (λ end _. IsStuck end) alone (λ stuck. stuck.0 complete);
          cut = none_here (λ v. length v ≡ bound) (λ end _. HasMove end) alone_cut (λ some. not_both s some (complete_no_move s complete));
        };
      }

      stuck_counted : IsStuck s → Good s h → AllEndSo Good start bound (Below u) one_stuck
      stuck_counted stuck good = record {
        good = all_good (λ _. good);
        numbers = record {
          complete = none_here (λ v. length v ≤ bound) (λ end _. IsComplete end) alone stuck.0;
          stuck = one_here (λ v. length v ≤ bound) (λ end _. IsStuck end) alone short stuck;
          cut = none_here (λ v. length v ≡ bound) (λ end _. HasMove end) alone_cut (λ some. not_both s some stuck.1);
        };
      }

      -- where a schedule ends or is cut, it is counted
      pub counted_here : (counts : Counts) → CountedSo Good s h counts → AllEndSo Good start bound (Below u) counts
      counted_here counts (inl cut) = subst (AllEndSo Good start bound (Below u)) (sym cut.1) (cut_counted cut.0)
      counted_here counts (inr (inl complete)) = subst (AllEndSo Good start bound (Below u)) (sym complete.2) (complete_counted complete.0 complete.1)
      counted_here counts (inr (inr stuck)) = subst (AllEndSo Good start bound (Below u)) (sym stuck.2) (stuck_counted stuck.0 stuck.1)

    -- before all moves
    pub kids_none : AllEndSo Good start bound (GoesOnBelow u (record { thread = 0; pick = 0 })) no_schedule
    kids_none =
        let first : Move = record { thread = 0; pick = 0 } in
        record {
          good = λ v f _. absurd (none_below_first f.move f.below);
          numbers = record {
            complete = number_none (λ v. GoesOnBelow u first v × IsCompleteWithin start bound v) (λ v k. none_below_first k.0.move k.0.below);
            stuck = number_none (λ v. GoesOnBelow u first v × IsStuckWithin start bound v) (λ v k. none_below_first k.0.move k.0.below);
            cut = number_none (λ v. GoesOnBelow u first v × IsCutAt start bound v) (λ v k. none_below_first k.0.move k.0.below);
          };
        }

    kid_cases : (t p : ℕ) (v : List Move) → GoesOnBelow u (record { thread = t; pick = p + 1 }) v → GoesOnBelow u (record { thread = t; pick = p }) v ⊎ Below (u ++ record { thread = t; pick = p } ∷ []) v
    kid_cases t p v f =
        elim (below_next t p f.move f.below) [
          | inl lt ↦ inl (record { move = f.move; below = lt; begins = f.begins })
          | inr e ↦ inr (subst (λ m. BeginsWith v (u ++ m ∷ [])) e f.begins)
        ]

    kid_join : (Kind : List Move → Type 0) (t p a b : ℕ) → IsNumber (λ v. GoesOnBelow u (record { thread = t; pick = p }) v × Kind v) a → IsNumber (λ v. Below (u ++ record { thread = t; pick = p } ∷ []) v × Kind v) b → IsNumber (λ v. GoesOnBelow u (record { thread = t; pick = p + 1 }) v × Kind v) (capped (a + b))
    kid_join Kind t p a b x y =
        let m : Move = record { thread = t; pick = p } in
        let n : Move = record { thread = t; pick = p + 1 } in
        number_join (λ v. GoesOnBelow u m v × Kind v) (λ v. Below (u ++ m ∷ []) v × Kind v) (λ v. GoesOnBelow u n v × Kind v) a b x y
        (λ v w f g. rw (f.0.begins.1, g.0.1) (smaller_branch u f.0.move m f.0.begins.0 g.0.0 f.0.below))
        (λ v f. (record { move = f.0.move; below = below_more t p f.0.move f.0.below; begins = f.0.begins }, f.1))
        (λ v g. (record { move = m; below = inr (refl, omega arith); begins = g.0 }, g.1))
        (λ v k. elim (kid_cases t p v k.0) as (λ _. (GoesOnBelow u m v × Kind v) ⊎ (Below (u ++ m ∷ []) v × Kind v)) [ inl f ↦ inl (f, k.1) | inr b ↦ inr (b, k.1) ])

    -- with the schedules of one more move
    pub kids_more : (t p : ℕ) (a b : Counts) → AllEndSo Good start bound (GoesOnBelow u (record { thread = t; pick = p })) a → AllEndSo Good start bound (Below (u ++ record { thread = t; pick = p } ∷ [])) b → AllEndSo Good start bound (GoesOnBelow u (record { thread = t; pick = p + 1 })) (plus a b)
    kids_more t p a b x y = record {
      good = λ v f ended. elim (kid_cases t p v f) [ inl k ↦ x.good v k ended | inr k ↦ y.good v k ended ];
      numbers = record {
        complete = kid_join (IsCompleteWithin start bound) t p a.complete b.complete x.numbers.complete y.numbers.complete;
        stuck = kid_join (IsStuckWithin start bound) t p a.stuck b.stuck x.numbers.stuck y.numbers.stuck;
        cut = kid_join (IsCutAt start bound) t p a.cut b.cut x.numbers.cut y.numbers.cut;
      };
    }

    turn_back : (t p : ℕ) → picks_of s t ≤ p → (P : State → List Event → Type 0) (v : List Move) → Reaches start v P → GoesOnBelow u (record { thread = t + 1; pick = 0 }) v → GoesOnBelow u (record { thread = t; pick = p }) v
    turn_back t p all P v r f =
        record { move = f.move; below = below_turned s t p all f.move (on_feasible P v f.move f.begins r) f.below; begins = f.begins }

    turn_number : (t p : ℕ) → picks_of s t ≤ p → (Short : List Move → Type 0) (P : State → List Event → Type 0) (n : ℕ) → IsNumber (λ v. GoesOnBelow u (record { thread = t; pick = p }) v × (Short v × Reaches start v P)) n → IsNumber (λ v. GoesOnBelow u (record { thread = t + 1; pick = 0 }) v × (Short v × Reaches start v P)) n
    turn_number t p all Short P n x =
        number_same (λ v. GoesOnBelow u (record { thread = t; pick = p }) v × (Short v × Reaches start v P)) (λ v. GoesOnBelow u (record { thread = t + 1; pick = 0 }) v × (Short v × Reaches start v P)) n x
        (λ v k. (record { move = k.0.move; below = below_turn t p k.0.move k.0.below; begins = k.0.begins }, k.1))
        (λ v k. (turn_back t p all P v k.1.1 k.0, k.1))

    -- from one thread to the next
    pub kids_turn : (t p : ℕ) → picks_of s t ≤ p → (counts : Counts) → AllEndSo Good start bound (GoesOnBelow u (record { thread = t; pick = p })) counts → AllEndSo Good start bound (GoesOnBelow u (record { thread = t + 1; pick = 0 })) counts
    kids_turn t p all counts x = record {
      good = λ v f ended. x.good v (turn_back t p all (λ end _. IsEnded end) v (ended_within start bound v ended).1 f) ended;
      numbers = record {
        complete = turn_number t p all (λ v. length v ≤ bound) (λ end _. IsComplete end) counts.complete x.numbers.complete;
        stuck = turn_number t p all (λ v. length v ≤ bound) (λ end _. IsStuck end) counts.stuck x.numbers.stuck;
        cut = turn_number t p all (λ v. length v ≡ bound) (λ end _. HasMove end) counts.cut x.numbers.cut;
      };
    }

    -- after all threads
    module _ (t : ℕ) (past : length s.threads ≤ t) (some : HasMove s) where
      goes_on : (v : List Move) (m : Move) → IsFeasible s m → BeginsWith v (u ++ m ∷ []) → GoesOnBelow u (record { thread = t; pick = 0 }) v
      goes_on v m f b = (let within = feasible_within s m f in record { move = m; below = inl (omega arith); begins = b })

      all_number : (Short : List Move → Type 0) (P : State → List Event → Type 0) → (Short u → P s h → ⊥) → (n : ℕ) → IsNumber (λ v. GoesOnBelow u (record { thread = t; pick = 0 }) v × (Short v × Reaches start v P)) n → IsNumber (λ v. Below u v × (Short v × Reaches start v P)) n
      all_number Short P not n x =
          number_same (λ v. GoesOnBelow u (record { thread = t; pick = 0 }) v × (Short v × Reaches start v P)) (λ v. Below u v × (Short v × Reaches start v P)) n x
          (λ v k. (begins_shorter v u k.0.move k.0.begins, k.1))
          (λ v k. elim (here start u s h at P v k.0 k.1.1) as (λ _. GoesOnBelow u (record { thread = t; pick = 0 }) v × (Short v × Reaches start v P)) [
            | inl e ↦ absurd (not (subst Short e.0 k.1.0) e.1)
            | inr m ↦ (goes_on v m.0 m.1 m.2, k.1)
          ])

      pub kids_all : length u < bound → (counts : Counts) → AllEndSo Good start bound (GoesOnBelow u (record { thread = t; pick = 0 })) counts → AllEndSo Good start bound (Below u) counts
      kids_all room counts x = record {
        good = λ v b ended. elim (here start u s h at (λ end _. IsEnded end) v b (ended_within start bound v ended).1) [
          | inl e ↦ absurd (not_both s some (ended_no_move s e.1))
          | inr m ↦ x.good v (goes_on v m.0 m.1 m.2) ended
        ];
        numbers = record {
          complete = all_number (λ v. length v ≤ bound) (λ end _. IsComplete end) (λ _ c. not_both s some (complete_no_move s c)) counts.complete x.numbers.complete;
          stuck = all_number (λ v. length v ≤ bound) (λ end _. IsStuck end) (λ _ stuck. not_both s some stuck.1) counts.stuck x.numbers.stuck;
          cut = all_number (λ v. length v ≡ bound) (λ end _. HasMove end) (λ long _. omega arith) counts.cut x.numbers.cut;
        };
      }

  module _ (Set : List SerialOp → Type 0) (bound : ℕ) where
    -- where a schedule ends, it is the first to end
    pub first_here : HasNoMove s ⊎ (length u ≡ bound) → length u ≤ bound → IsEnded s → IsFirstAt Set start bound (Below u) u s h
    first_here over short ended = record {
      part = begins_itself u;
      short = short;
      leads = at;
      ended = ended;
      before = λ v k e.
          (let same = ended_here (IsGoodAt Set) bound over short v k.0 e in
          let w : IsSmaller u u = subst (λ y. IsSmaller y u) same.0 k.1 in
          absurd (smaller_asym u u w w));
    }

    -- the first schedule of a move that is not passed is the first of all, where those of the moves below it are good
    pub kids_halt : (m : Move) → IsFeasible s m → (a : Counts) (w : List Move) (end : State) (k : List Event) → AllEndSo (IsGoodAfter Set []) start bound (GoesOnBelow u m) a → IsFirstAt Set start bound (Below (u ++ m ∷ [])) w end k → IsFirstAt Set start bound (Below u) w end k
    kids_halt m f a w end k x y = record {
      part = begins_shorter w u m y.part;
      short = y.short;
      leads = y.leads;
      ended = y.ended;
      before = λ v k ended. elim (here start u s h at (λ end _. IsEnded end) v k.0 (ended_within start bound v ended).1) [
        | inl e ↦ absurd (no_move s m (ended_no_move s e.1) f)
        | inr n ↦ good_before v k.1 ended n.0 n.2
      ];
    }
      where
        good_before : (v : List Move) → IsSmaller v w → IsEndedWithin start bound v → (n : Move) → BeginsWith v (u ++ n ∷ []) → Reaches start v (IsGoodAt Set)
        good_before v smaller ended n b =
            elim (move_cases n m) [
              | inl c ↦ elim c [
                | inl lt ↦ x.good v (record { move = n; below = lt; begins = b }) ended
                | inr gt ↦ (let over : IsSmaller w v = rw (y.part.1, b.1) (smaller_branch u m n y.part.0 b.0 gt) in absurd (smaller_asym v w smaller over))
              ]
              | inr e ↦ y.before v (subst (λ k. BeginsWith v (u ++ k ∷ [])) e b, smaller) ended
            ]

-- none of the moves below the limit is feasible, or else some move is
abbrev pub HasEnded : State → Move → Bool → Type 0
HasEnded s limit true = (m : Move) → IsMoveBelow m limit → IsFeasible s m → ⊥
HasEnded s limit false = HasMove s

pub ended_first : (s : State) → HasEnded s (record { thread = 0; pick = 0 }) true
ended_first s m below f = none_below_first m below

pub ended_turn : (s : State) (t p : ℕ) → picks_of s t ≤ p → (is_ended : Bool) → HasEnded s (record { thread = t; pick = p }) is_ended → HasEnded s (record { thread = t + 1; pick = 0 }) is_ended
ended_turn s t p all true h = λ m below f. h m (below_turned s t p all m f below) f
ended_turn s t p all false h = h

pub ended_all : (s : State) (t : ℕ) → length s.threads ≤ t → HasEnded s (record { thread = t; pick = 0 }) true → HasNoMove s
ended_all s t past h i =
    elim (cases_lt 0 (picks_of s i)) [
      | inl some ↦
          (let m : Move = record { thread = i; pick = 0 } in
          let within = feasible_within s m some in
          absurd (h m (inl (omega arith)) some))
      | inr none ↦ omega arith
    ]

pub ended_picked : (s : State) (m : Move) → IsFeasible s m → HasMove s
ended_picked s m f = (m.thread, omega arith)
