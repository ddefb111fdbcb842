-- The numbers that a walk has added, as far as it has come.
use Rattle.std.proofs.Common.{◌≡◌, ℕ, ◌+◌, ◌-◌, ◌≤◌, ◌⊎◌, List, [], ◌∷◌, ◌++◌, length, reverse, Option, refl, sym, ◌∙◌, ap, subst, inl, inr, arith, append_assoc, length-append}
use Rattle.std.proofs.lemmas.List.{append-nil, reverse-append}
use Rattle.lu_test.specs.declared.schedule.Move.{Move}
use Rattle.lu_machine.specs.declared.counts.Counts.{Counts}
use Rattle.lu_machine.specs.declared.event.Event.{Event}
use Rattle.lu_machine.specs.States.{State}
use Rattle.lu_machine.specs.Steps.{IsFeasible, Step, picks_of}
use Rattle.lu_machine.specs.Runs.{Leads, with_event}
use Rattle.lu_machine.specs.Ends.{HasMove, HasNoMove, IsEnded}
use Rattle.lu_machine.specs.Sums.{plus}
use Rattle.lu_machine.proofs.Paths.{child_leads}
use Rattle.lu_history.specs.declared.serial.SerialOp.{SerialOp}
use Rattle.lu_witness.specs.declared.judgement.Why.{Why}
use Rattle.lu_witness.specs.Goodness.{IsFirstBad, AreAllGood}
use Rattle.lu_tree.specs.Reordered.{AreReordered}
use Rattle.lu_tree.specs.Trees.{Below}
use Rattle.lu_tree.specs.Walks.{AreBelow, IsCountAtEnd, IsBadAt, IsFirstAt, IsGoodAfter, HaltsAtSchedule, no_schedule}
use Rattle.lu_tree.proofs.BelowLaws.{below_here, below_led}
use Rattle.lu_tree.proofs.Reordering.{counted_reordered, reordered_same, reordered_then}
use Rattle.lu_tree.proofs.Walking.{AllEndSo, GoesOnBelow, counted_here, first_here, kids_all, kids_more, kids_none, kids_halt, kids_turn}

-- the schedules that go on by a move below the limit are good if they end, and these are their numbers
abbrev pub AreAdded : (List SerialOp → Type 0) → State → List Event → ℕ → Move → Counts → Type 0
AreAdded Set s h left limit below =
    (start : State) (u : List Move) (e g : List Event) → AreReordered h (g ++ e) → Leads start u s e → AllEndSo (IsGoodAfter Set g) start (length u + left) (GoesOnBelow u limit) below

module _ (Set : List SerialOp → Type 0) (s : State) (h : List Event) (left : ℕ) where
  pub added_none : AreAdded Set s h left (record { thread = 0; pick = 0 }) no_schedule
  added_none = λ start u e g re at. kids_none start u s e at (IsGoodAfter Set g) (length u + left)

  pub added_turn : (t p : ℕ) → picks_of s t ≤ p → (below : Counts) → AreAdded Set s h left (record { thread = t; pick = p }) below → AreAdded Set s h left (record { thread = t + 1; pick = 0 }) below
  added_turn t p all below added = λ start u e g re at. kids_turn start u s e at (IsGoodAfter Set g) (length u + left) t p all below (added start u e g re at)

  -- one move more, which leads to r and k
  module _ (t p : ℕ) (r : State) (event : Option Event) (k : List Event) (step : Step s (record { thread = t; pick = p }) r event) (is : k ≡ h ++ with_event event []) (some : 1 ≤ left) where
    abbrev m : Move
    m = record { thread = t; pick = p }

    one_less : (u : List Move) → length (u ++ m ∷ []) + (left - 1) ≡ length u + left
    one_less u = let e = length-append u (m ∷ []) in let one : length (m ∷ []) ≡ 1 = refl in omega arith

    on : (start : State) (u : List Move) → Leads start u s h → Leads start (u ++ m ∷ []) r k
    on start u at = subst (Leads start (u ++ m ∷ []) r) (sym is) (child_leads start u s h at m r event step)

    reordered_on : (e g : List Event) → AreReordered h (g ++ e) → AreReordered k (g ++ (e ++ with_event event []))
    reordered_on e g re =
        let then : AreReordered (h ++ with_event event []) ((g ++ e) ++ with_event event []) = reordered_then h (g ++ e) (with_event event []) re in
        rw (is, ← append_assoc g e (with_event event [])) then

    pub added_more : (below more : Counts) → AreAdded Set s h left (record { thread = t; pick = p }) below → AreBelow Set r k (left - 1) more → AreAdded Set s h left (record { thread = t; pick = p + 1 }) (plus below more)
    added_more below more added behind = λ start u e g re at.
        (let there = below_led start (u ++ m ∷ []) r (e ++ with_event event []) (child_leads start u s e at m r event step) Set k g (reordered_on e g re) (left - 1) more behind in
        let good = subst (λ n. AllEndSo (IsGoodAfter Set g) start n (Below (u ++ m ∷ [])) more) (one_less u) there in
        kids_more start u s e at (IsGoodAfter Set g) (length u + left) t p below more (added start u e g re at) good)

    longer : (u path : List Move) → (u ++ m ∷ []) ++ reverse path ≡ u ++ reverse (path ++ m ∷ [])
    longer u path = append_assoc u (m ∷ []) (reverse path) ∙ ap (λ x. u ++ x) (sym (reverse-append path (m ∷ [])))

    pub halts_more : IsFeasible s m → (below : Counts) → AreAdded Set s h left (record { thread = t; pick = p }) below → (path : List Move) (end : State) (last : List Event) → HaltsAtSchedule Set r k (left - 1) path end last → HaltsAtSchedule Set s h left (path ++ m ∷ []) end last
    halts_more feasible below added path end last halts = λ start u at.
        (let b = halts start (u ++ m ∷ []) (on start u at) in
        let c = subst (λ n. IsFirstAt Set start n (Below (u ++ m ∷ [])) ((u ++ m ∷ []) ++ reverse path) end last) (one_less u) b in
        let d = kids_halt start u s h at Set (length u + left) m feasible below ((u ++ m ∷ []) ++ reverse path) end last (added start u h [] (reordered_same h) at) c in
        subst (λ v. IsFirstAt Set start (length u + left) (Below u) v end last) (longer u path) d)

  none_more : 0 + left ≡ left
  none_more = omega arith

  -- all moves
  pub added_all : (t : ℕ) → length s.threads ≤ t → HasMove s → 1 ≤ left → (below : Counts) → AreAdded Set s h left (record { thread = t; pick = 0 }) below → AreBelow Set s h left below
  added_all t past some room below added =
      below_here Set s h left below
      (λ k re.
      (let there = added s [] [] k (rw (append-nil k) re) (refl, refl) in
      let all = kids_all s [] s [] (refl, refl) (IsGoodAfter Set k) (0 + left) t past some (omega arith) below there in
      subst (λ n. AllEndSo (IsGoodAfter Set k) s n (Below []) below) none_more all))

  -- where no move is made
  over_at : HasNoMove s ⊎ (left ≡ 0) → (u : List Move) → HasNoMove s ⊎ (length u ≡ length u + left)
  over_at (inl none) u = inl none
  over_at (inr zero) u = inr (omega arith)

  pub end_below : HasNoMove s ⊎ (left ≡ 0) → (counts : Counts) → IsCountAtEnd Set s h counts → AreBelow Set s h left counts
  end_below over counts counted =
      below_here Set s h left counts
      (λ k re.
      (let there : IsCountAtEnd Set s (k ++ []) counts = rw (append-nil k) (counted_reordered Set s h k counts re counted) in
      let here = counted_here s [] s [] (refl, refl) (IsGoodAfter Set k) (0 + left) (over_at over []) (omega arith) counts there in
      subst (λ n. AllEndSo (IsGoodAfter Set k) s n (Below []) counts) none_more here))

  pub end_halts : HasNoMove s ⊎ (left ≡ 0) → IsEnded s → (path : List Move) → path ≡ [] → HaltsAtSchedule Set s h left path s h
  end_halts over ended path none = λ start u at.
      (let here = first_here start u s h at Set (length u + left) (over_at over u) (omega arith) ended in
      rw (none, append-nil) here)

-- where a walk halted, by other names for the place
pub halts_there : (Set : List SerialOp → Type 0) (s : State) (h : List Event) (left : ℕ) (path other : List Move) (end there : State) (last behind : List Event) → other ≡ path → there ≡ end → behind ≡ last → HaltsAtSchedule Set s h left path end last → HaltsAtSchedule Set s h left other there behind
halts_there Set s h left path other end there last behind is to back halts = rw (is, to, back) halts

-- a schedule that is the first to end and bad is the first bad one
pub first_bad : (Set : List SerialOp → Type 0) (start : State) (bound : ℕ) (Part : List Move → Type 0) (u : List Move) (end : State) (history : List Event) (why : Why) → IsFirstAt Set start bound Part u end history → IsBadAt Set end history why → IsFirstBad Set start bound Part u why
first_bad Set start bound Part u end history why first bad = record {
  part = first.part;
  bad = (first.short, record { end = end; history = history; leads = first.leads; holds = (first.ended, bad.0) });
  before = first.before;
  why_is = record { end = end; history = history; leads = first.leads; holds = bad.1 };
}

-- a walk of all moves that are left after a schedule
module _ (Set : List SerialOp → Type 0) (start : State) (bound left : ℕ) (from moves : List Move) (s : State) (h : List Event) (is : moves ≡ from) (all : length moves + left ≡ bound) (at : Leads start moves s h) where
  pub walk_passed : (below : Counts) → AreBelow Set s h left below → AreAllGood Set start bound (Below from) below
  walk_passed below passes =
      let led = below_led start moves s h at Set h [] (reordered_same h) left below passes in
      let good = subst (λ n. AllEndSo (IsGoodAfter Set []) start n (Below moves) below) all led in
      subst (λ u. AreAllGood Set start bound (Below u) below) is (record { good = good.good; numbers = good.numbers })

  pub walk_halted : (path : List Move) (end : State) (k : List Event) → HaltsAtSchedule Set s h left path end k → IsFirstAt Set start bound (Below from) (from ++ reverse path) end k
  walk_halted path end k halts =
      let a = halts start moves at in
      let b = subst (λ n. IsFirstAt Set start n (Below moves) (moves ++ reverse path) end k) all a in
      subst (λ u. IsFirstAt Set start bound (Below u) (u ++ reverse path) end k) is b
