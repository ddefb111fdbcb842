-- The pieces at a depth, and that they are a cover.
use Rattle.std.proofs.Common.{◌≡◌, ℕ, zero, suc, ◌+◌, ◌-◌, ◌<◌, ◌≤◌, ◌⊎◌, List, [], ◌∷◌, ◌++◌, length, map, take, drop, slice_get, Some, refl, sym, ◌∙◌, ap, subst, inl, inr, arith, length-append}
use Rattle.std.proofs.lemmas.List.{append-nil, take-append-drop, length-take-le}
use Rattle.std.proofs.lemmas.Bool.{cases_lt}
use Rattle.std.proofs.lemmas.Option.{same_Some, slice_get_within}
use Rattle.lu_test.specs.declared.schedule.Move.{Move}
use Rattle.lu_machine.specs.declared.event.Event.{Event}
use Rattle.lu_machine.specs.States.{State}
use Rattle.lu_machine.specs.Steps.{IsFeasible}
use Rattle.lu_machine.specs.Ends.{HasMove, HasNoMove, IsComplete, IsStuck, IsEnded}
use Rattle.lu_machine.specs.Runs.{Leads, with_event}
use Rattle.lu_machine.specs.Order.{IsMoveBelow, IsSmaller}
use Rattle.lu_machine.specs.Schedules.{IsCounted, Reaches, Lists, IsRising, BeginsWith, AreAll, IsSchedule, IsCover}
use Rattle.lu_machine.proofs.Ahead.{here, not_both, ended_no_move, ended_alone, begins_itself}
use Rattle.lu_machine.proofs.Ended.{complete_or_not, move_or_not}
use Rattle.lu_machine.proofs.Numbers.{all_join, rising_length}
use Rattle.lu_machine.proofs.Orders.{smaller_branch}
use Rattle.lu_machine.proofs.Paths.{leads_split, leads_same, child_leads}
use Rattle.lu_machine.proofs.StepLaws.{feasible_step}
use Rattle.lu_pieces.specs.Frontiers.{IsPieceAt}
use Rattle.lu_pieces.specs.Pieces.{AreMovesOf, AreKids, TooMany, deepened}
use Rattle.lu_pieces.proofs.PieceOrder.{below_pieces}
use Rattle.lu_pieces.proofs.Kids.{has_no_move, has_move}

begins_length : (q p : List Move) → BeginsWith q p → length p ≤ length q
begins_length q p b =
    let e : length q ≡ length (p ++ b.0) = ap length b.1 in
    let f : length (p ++ b.0) ≡ length p + length b.0 = length-append p b.0 in
    omega arith

same_length : (p rest : List Move) → length (p ++ rest) ≤ length p → p ++ rest ≡ p
same_length p [] h = append-nil p
same_length p (m ∷ rest) h = absurd (let f : length (p ++ m ∷ rest) ≡ length p + length (m ∷ rest) = length-append p (m ∷ rest) in omega arith)

pub piece_schedule : (s : State) (d : ℕ) (p : List Move) → IsPieceAt s d p → IsSchedule s p
piece_schedule s d p (inl h) = h.1
piece_schedule s d p (inr h) = record { end = h.1.end; history = h.1.history; leads = h.1.leads; holds = tt }

piece_short : (s : State) (d : ℕ) (p : List Move) → IsPieceAt s d p → length p ≤ d
piece_short s d p (inl h) = omega arith
piece_short s d p (inr h) = omega arith

pieces_apart : (s : State) (d : ℕ) (p q : List Move) → IsPieceAt s d p → IsPieceAt s d q → BeginsWith q p → p ≡ q
pieces_apart s d p q (inr h) k b = sym (ended_alone s p q h.1 (piece_schedule s d q k) b)
pieces_apart s d p q (inl h) k b =
    let short : length q ≤ d = piece_short s d q k in
    let e : length q ≡ length (p ++ b.0) = ap length b.1 in
    sym (b.1 ∙ same_length p b.0 (omega arith))

-- a schedule of d moves or more begins with a piece
long_covered : (s : State) (d : ℕ) (pieces : List (List Move)) → AreAll (IsPieceAt s d) pieces → (u : List Move) → IsSchedule s u → d ≤ length u → (p : List Move) × Lists pieces p × BeginsWith u p
long_covered s d pieces all u schedule long =
    let parts : take d u ++ drop d u ≡ u = take-append-drop d u in
    let split = leads_split s (take d u) (drop d u) schedule.end schedule.history (subst (λ x. Leads s x schedule.end schedule.history) (sym parts) schedule.leads) in
    let piece : IsPieceAt s d (take d u) = inl (length-take-le d u long, record { end = split.mid; history = split.first; leads = split.begins; holds = tt }) in
    (take d u, all.each (take d u) piece, (drop d u, sym parts))

covered : (s : State) (d bound : ℕ) (pieces : List (List Move)) → AreAll (IsPieceAt s d) pieces → d ≤ bound → (u : List Move) → IsSchedule s u → (length u ≡ bound) ⊎ Reaches s u (λ end _. IsEnded end) → (p : List Move) × Lists pieces p × BeginsWith u p
covered s d bound pieces all within u schedule ends =
    elim (cases_lt (length u) d) [
      | inr long ↦ long_covered s d pieces all u schedule long
      | inl short ↦ elim ends [
        | inl e ↦ absurd (omega arith)
        | inr ended ↦ (u, all.each u (inr (short, ended)), begins_itself u)
      ]
    ]

schedule_of : (s : State) (u : List Move) (P : State → List Event → Type 0) → Reaches s u P → IsSchedule s u
schedule_of s u P r = record { end = r.end; history = r.history; leads = r.leads; holds = tt }

-- of two beginnings of one schedule one begins with the other
both_begin : (u p q : List Move) → BeginsWith u p → BeginsWith u q → BeginsWith p q ⊎ BeginsWith q p
both_begin u [] q b c = inr (q, refl)
both_begin u (m ∷ p) [] b c = inl (m ∷ p, refl)
both_begin [] (m ∷ p) (n ∷ q) b c = absurd (let e = b.1 in cc)
both_begin (k ∷ u) (m ∷ p) (n ∷ q) b c =
    let e : k ∷ u ≡ m ∷ (p ++ b.0) = b.1 in
    let f : k ∷ u ≡ n ∷ (q ++ c.0) = c.1 in
    elim (both_begin u p q (b.0, (cc)) (c.0, (cc))) [
      | inl x ↦ (let g : p ≡ q ++ x.0 = x.1 in inl (x.0, (cc)))
      | inr x ↦ (let g : q ≡ p ++ x.0 = x.1 in inr (x.0, (cc)))
    ]

covered_counted : (s : State) (d bound : ℕ) (pieces : List (List Move)) → AreAll (IsPieceAt s d) pieces → d ≤ bound → (u : List Move) → IsCounted s bound u → (p : List Move) × Lists pieces p × BeginsWith u p
covered_counted s d bound pieces all within u (inl (inl c)) =
    covered s d bound pieces all within u (schedule_of s u (λ end _. IsComplete end) c.1) (inr (record { end = c.1.end; history = c.1.history; leads = c.1.leads; holds = inl c.1.holds }))
covered_counted s d bound pieces all within u (inl (inr k)) =
    covered s d bound pieces all within u (schedule_of s u (λ end _. IsStuck end) k.1) (inr (record { end = k.1.end; history = k.1.history; leads = k.1.leads; holds = inr k.1.holds }))
covered_counted s d bound pieces all within u (inr cut) =
    covered s d bound pieces all within u (schedule_of s u (λ end _. HasMove end) cut.1) (inl cut.0)

pub pieces_cover : (s : State) (d bound : ℕ) (pieces : List (List Move)) → AreAll (IsPieceAt s d) pieces → d ≤ bound → IsCover s bound pieces
pieces_cover s d bound pieces all within =
    let apart : (p q : List Move) → Lists pieces p → Lists pieces q → BeginsWith q p → p ≡ q = λ p q h k b. pieces_apart s d p q (all.only p h) (all.only q k) b in
    record {
      rising = all.rising;
      apart = apart;
      covers = λ u counted.
          (let c = covered_counted s d bound pieces all within u counted in
          (c.0, c.1, c.2, λ q l b. elim (both_begin u c.0 q c.2 b) [ inl x ↦ apart q c.0 l c.1 x | inr x ↦ sym (apart c.0 q c.1 l x) ]));
    }

-- places in lists of schedules
pub lists_at : (list : List (List Move)) (k : ℕ) (u : List Move) → slice_get list k ≡ Some u → Lists list u
lists_at [] k u h = absurd (cc)
lists_at (x ∷ list) zero u h = inl (same_Some x u h)
lists_at (x ∷ list) (suc k) u h = inr (lists_at list k u h)

lists_index : (list : List (List Move)) (u : List Move) → Lists list u → (k : ℕ) × (slice_get list k ≡ Some u)
lists_index [] u h = absurd h
lists_index (x ∷ list) u (inl e) = (0, ap Some e)
lists_index (x ∷ list) u (inr h) = let r = lists_index list u h in (suc r.0, r.1)

rising_at : (list : List (List Move)) (i j : ℕ) (u v : List Move) → IsRising list → i < j → slice_get list i ≡ Some u → slice_get list j ≡ Some v → IsSmaller u v
rising_at [] i j u v rising lt h k = absurd (cc)
rising_at (x ∷ list) i zero u v rising lt h k = absurd (omega arith)
rising_at (x ∷ list) zero (suc j) u v rising lt h k = subst (λ y. IsSmaller y v) (same_Some x u h) (rising.0 v (lists_at list j v k))
rising_at (x ∷ list) (suc i) (suc j) u v rising lt h k = rising_at list i j u v rising.1 (omega arith) h k

map_lists : (p moves u : List Move) → Lists (map (λ n. p ++ n ∷ []) moves) u → (k : ℕ) × (n : Move) × (slice_get moves k ≡ Some n) × (p ++ n ∷ [] ≡ u)
map_lists p [] u h = absurd h
map_lists p (m ∷ moves) u (inl e) = (0, m, refl, e)
map_lists p (m ∷ moves) u (inr h) = let r = map_lists p moves u h in (suc r.0, r.1, r.2, r.3)

lists_map : (p moves : List Move) (k : ℕ) (n : Move) → slice_get moves k ≡ Some n → Lists (map (λ n. p ++ n ∷ []) moves) (p ++ n ∷ [])
lists_map p [] k n h = absurd (cc)
lists_map p (m ∷ moves) zero n h = inl (ap (λ x. p ++ x ∷ []) (same_Some m n h))
lists_map p (m ∷ moves) (suc k) n h = inr (lists_map p moves k n h)

rising_map : (p moves : List Move) → ((i j : ℕ) (m n : Move) → i < j → slice_get moves i ≡ Some m → slice_get moves j ≡ Some n → IsMoveBelow m n) → IsRising (map (λ n. p ++ n ∷ []) moves)
rising_map p [] rising = tt
rising_map p (m ∷ moves) rising = (
  λ u l.
      (let x = map_lists p moves u l in
      let lower : IsMoveBelow m x.1 = rising 0 (suc x.0) m x.1 (omega arith) refl x.2 in
      let apart : IsSmaller ((p ++ m ∷ []) ++ []) ((p ++ x.1 ∷ []) ++ []) = smaller_branch p m x.1 [] [] lower in
      subst (IsSmaller (p ++ m ∷ [])) x.3 (subst (λ y. IsSmaller y (p ++ x.1 ∷ [])) (append-nil (p ++ m ∷ [])) (subst (IsSmaller ((p ++ m ∷ []) ++ [])) (append-nil (p ++ x.1 ∷ [])) apart))),
  rising_map p moves (λ i j a b lt h k. rising (suc i) (suc j) a b (omega arith) h k),
)

one_longer : (s : State) (d : ℕ) (p : List Move) (end : State) (history : List Event) → Leads s p end history → length p ≡ d → (m : Move) → IsFeasible end m → IsPieceAt s (d + 1) (p ++ m ∷ [])
one_longer s d p end history leads long m f =
    let step = feasible_step end m f in
    let size : length (p ++ m ∷ []) ≡ length p + 1 = length-append p (m ∷ []) in
    inl (omega arith, record { end = step.0; history = history ++ with_event step.1 []; leads = child_leads s p end history leads m step.0 step.1 step.2; holds = tt })

ended_at : (s : State) (p : List Move) (end : State) (history : List Event) → Leads s p end history → HasNoMove end → Reaches s p (λ end _. IsEnded end)
ended_at s p end history leads none =
    record { end = end; history = history; leads = leads; holds = elim (complete_or_not end) as (λ _. IsEnded end) [ inl c ↦ inl c | inr not ↦ inr (not, none) ] }

not_ended : (s : State) (p : List Move) (end : State) (history : List Event) → Leads s p end history → HasMove end → Reaches s p (λ end _. IsEnded end) → ⊥
not_ended s p end history leads some r =
    let same = leads_same s p r.end end r.history history r.leads leads in
    not_both end some (subst HasNoMove same.0 (ended_no_move r.end r.holds))

piece_long : (s : State) (d : ℕ) (p : List Move) (end : State) (history : List Event) → Leads s p end history → HasMove end → IsPieceAt s d p → length p ≡ d
piece_long s d p end history leads some (inl h) = h.0
piece_long s d p end history leads some (inr h) = absurd (not_ended s p end history leads some h.1)

-- what a piece becomes is all that begins with it one move deeper
kids_at : (s : State) (d : ℕ) (p : List Move) (end : State) (history : List Event) → Leads s p end history → (moves : List Move) → AreMovesOf end moves → IsPieceAt s d p → AreAll (λ v. BeginsWith v p × IsPieceAt s (d + 1) v) (deepened p moves)
kids_at s d p end history leads [] are piece =
    let none : HasNoMove end = has_no_move end [] are refl in
    let ended = ended_at s p end history leads none in
    let short : length p ≤ d = piece_short s d p piece in
    record {
      rising = (λ u h. absurd h, tt);
      only = λ u l. elim l [ inl e ↦ subst (λ v. BeginsWith v p × IsPieceAt s (d + 1) v) e (begins_itself p, inr (omega arith, ended)) | inr x ↦ absurd x ];
      each = λ v k. inl (sym (ended_alone s p v ended (piece_schedule s (d + 1) v k.1) k.0));
    }
kids_at s d p end history leads (m ∷ moves) are piece =
    let some : HasMove end = has_move end (m ∷ moves) are (omega arith) in
    let long : length p ≡ d = piece_long s d p end history leads some piece in
    record {
      rising = rising_map p (m ∷ moves) are.rising;
      only = λ u l.
          (let x = map_lists p (m ∷ moves) u l in
          subst (λ v. BeginsWith v p × IsPieceAt s (d + 1) v) x.3 ((x.1 ∷ [], refl), one_longer s d p end history leads long x.1 (are.feasible x.0 x.1 x.2)));
      each = λ v k. elim (here s p end history leads (λ _ _. Unit {0}) v k.0 (piece_schedule s (d + 1) v k.1)) [
        | inl e ↦ (let l : length p ≡ d + 1 = piece_long s (d + 1) p end history leads some (subst (IsPieceAt s (d + 1)) e.0 k.1) in absurd (omega arith))
        | inr n ↦
            (let short : length v ≤ d + 1 = piece_short s (d + 1) v k.1 in
            let size : length (p ++ n.0 ∷ []) ≡ length p + 1 = length-append p (n.0 ∷ []) in
            let e : length v ≡ length ((p ++ n.0 ∷ []) ++ n.2.0) = ap length n.2.1 in
            let is : v ≡ p ++ n.0 ∷ [] = n.2.1 ∙ same_length (p ++ n.0 ∷ []) n.2.0 (omega arith) in
            let there = are.each n.0 n.1 in
            subst (Lists (map (λ n. p ++ n ∷ []) (m ∷ moves))) (sym is) (lists_map p (m ∷ moves) there.0 n.0 there.1))
      ];
    }

pub kids_are : (s : State) (d : ℕ) (p : List Move) (kids : List (List Move)) → AreKids s p p kids → IsPieceAt s d p → AreAll (λ v. BeginsWith v p × IsPieceAt s (d + 1) v) kids
kids_are s d p kids k piece =
    subst (AreAll (λ v. BeginsWith v p × IsPieceAt s (d + 1) v)) (sym k.5) (kids_at s d p k.0 k.1 k.3 k.2 k.4 piece)

-- v begins with one of the first i pieces
pub record UnderFirst (pieces : List (List Move)) (i : ℕ) (v : List Move) : Type 0 where
  pub k : ℕ
  pub piece : List Move
  pub below : k < i
  pub is : slice_get pieces k ≡ Some piece
  pub begins : BeginsWith v piece

pub level_none : (s : State) (d : ℕ) (pieces : List (List Move)) → AreAll (λ v. UnderFirst pieces 0 v × IsPieceAt s (d + 1) v) []
level_none s d pieces =
    record { rising = tt; only = λ u l. absurd l; each = λ u k. (let h : k.0.k < 0 = k.0.below in absurd (omega arith)) }

pub level_more : (s : State) (d : ℕ) (pieces : List (List Move)) → AreAll (IsPieceAt s d) pieces → (i : ℕ) (p : List Move) (next kids : List (List Move)) → slice_get pieces i ≡ Some p → AreAll (λ v. UnderFirst pieces i v × IsPieceAt s (d + 1) v) next → AreKids s p p kids → AreAll (λ v. UnderFirst pieces (i + 1) v × IsPieceAt s (d + 1) v) (next ++ kids)
level_more s d pieces all i p next kids is before k =
    let at_p : IsPieceAt s d p = all.only p (lists_at pieces i p is) in
    all_join (λ v. UnderFirst pieces i v × IsPieceAt s (d + 1) v) (λ v. BeginsWith v p × IsPieceAt s (d + 1) v) (λ v. UnderFirst pieces (i + 1) v × IsPieceAt s (d + 1) v) next kids before (kids_are s d p kids k at_p)
    (λ v w h y. below_pieces h.0.piece p v w (rising_at pieces h.0.k i h.0.piece p all.rising h.0.below h.0.is is) (pieces_apart s d h.0.piece p (all.only h.0.piece (lists_at pieces h.0.k h.0.piece h.0.is)) at_p) h.0.begins y.0)
    (λ v h. (let f = h.0 in record { k = f.k; piece = f.piece; below = (let l : f.k < i = f.below in omega arith); is = f.is; begins = f.begins }, h.1))
    (λ v h. (record { k = i; piece = p; below = omega arith; is = is; begins = h.0 }, h.1))
    (λ v h. cases v h.0 h.1)
  where
    cases : (v : List Move) (f : UnderFirst pieces (i + 1) v) → IsPieceAt s (d + 1) v → (UnderFirst pieces i v × IsPieceAt s (d + 1) v) ⊎ (BeginsWith v p × IsPieceAt s (d + 1) v)
    cases v f kind =
        elim (cases_lt f.k i) [
          | inl lt ↦ inl (record { k = f.k; piece = f.piece; below = lt; is = f.is; begins = f.begins }, kind)
          | inr ge ↦
              (let l : f.k < i + 1 = f.below in
              let e : f.k ≡ i = omega arith in
              let same : slice_get pieces f.k ≡ slice_get pieces i = ap (slice_get pieces) e in
              let n : f.piece ≡ p = same_Some f.piece p (sym f.is ∙ (same ∙ is)) in
              inr (subst (BeginsWith v) n f.begins, kind))
        ]

covered_deeper : (s : State) (d : ℕ) (pieces : List (List Move)) → AreAll (IsPieceAt s d) pieces → (v : List Move) → IsPieceAt s (d + 1) v → (p : List Move) × Lists pieces p × BeginsWith v p
covered_deeper s d pieces all v (inl h) = long_covered s d pieces all v h.1 (omega arith)
covered_deeper s d pieces all v (inr h) =
    elim (cases_lt (length v) d) [
      | inl short ↦ (v, all.each v (inr (short, h.1)), begins_itself v)
      | inr long ↦ (v, all.each v (inl (omega arith, schedule_of s v (λ end _. IsEnded end) h.1)), begins_itself v)
    ]

pub level_all : (s : State) (d : ℕ) (pieces next : List (List Move)) → AreAll (IsPieceAt s d) pieces → AreAll (λ v. UnderFirst pieces (length pieces) v × IsPieceAt s (d + 1) v) next → AreAll (IsPieceAt s (d + 1)) next
level_all s d pieces next all h =
    record {
      rising = h.rising;
      only = λ u l. (h.only u l).1;
      each = λ v k.
          (let c = covered_deeper s d pieces all v k in
          let x = lists_index pieces c.0 c.1 in
          h.each v (record { k = x.0; piece = c.0; below = slice_get_within pieces x.0 c.0 x.1; is = x.1; begins = c.2 }, k));
    }

pub level_start : (s : State) → AreAll (IsPieceAt s 0) ([] ∷ [])
level_start s =
    record {
      rising = (λ u h. absurd h, tt);
      only = λ u l. elim l [ inl e ↦ subst (IsPieceAt s 0) e (inl (refl, record { end = s; history = []; leads = (refl, refl); holds = tt })) | inr x ↦ absurd x ];
      each = λ v k. empty v (piece_short s 0 v k);
    }
  where
    empty : (v : List Move) → length v ≤ 0 → ([] ≡ v) ⊎ ⊥
    empty [] h = inl refl
    empty (m ∷ v) h = absurd (omega arith)

-- each piece goes on to one a move deeper
extend_one : (s : State) (d : ℕ) (p : List Move) → IsPieceAt s d p → (q : List Move) × BeginsWith q p × IsPieceAt s (d + 1) q
extend_one s d p (inr h) = (p, begins_itself p, inr (omega arith, h.1))
extend_one s d p (inl h) =
    elim (move_or_not h.1.end) [
      | inl some ↦
          (let m : Move = record { thread = some.0; pick = 0 } in
          (p ++ m ∷ [], (m ∷ [], refl), one_longer s d p h.1.end h.1.history h.1.leads h.0 m some.1))
      | inr none ↦ (p, begins_itself p, inr (omega arith, ended_at s p h.1.end h.1.history h.1.leads none))
    ]

-- as many pieces one move deeper
record Spread (s : State) (d : ℕ) (list : List (List Move)) : Type 0 where
  out : List (List Move)
  size : length out ≡ length list
  rising : IsRising out
  pieces : (q : List Move) → Lists out q → IsPieceAt s (d + 1) q
  from : (q : List Move) → Lists out q → (p : List Move) × Lists list p × BeginsWith q p

spread_one : (s : State) (d : ℕ) (list : List (List Move)) → IsRising list → ((p : List Move) → Lists list p → IsPieceAt s d p) → Spread s d list
spread_one s d [] rising at = record { out = []; size = refl; rising = tt; pieces = λ q l. absurd l; from = λ q l. absurd l }
spread_one s d (p ∷ list) rising at =
    let q = extend_one s d p (at p (inl refl)) in
    let rest = spread_one s d list rising.1 (λ x l. at x (inr l)) in
    record {
      out = q.0 ∷ rest.out;
      size = ap suc rest.size;
      rising = (
        λ w l.
            (let f = rest.from w l in
            below_pieces p f.0 q.0 w (rising.0 f.0 f.1) (pieces_apart s d p f.0 (at p (inl refl)) (at f.0 (inr f.1))) q.1 f.2),
        rest.rising,
      );
      pieces = λ w l. elim l [ inl e ↦ subst (IsPieceAt s (d + 1)) e q.2 | inr k ↦ rest.pieces w k ];
      from = λ w l. elim l as (λ _. (x : List Move) × Lists (p ∷ list) x × BeginsWith w x) [
        | inl e ↦ (p, inl refl, subst (λ y. BeginsWith y p) e q.1)
        | inr k ↦ (let f = rest.from w k in (f.0, inr f.1, f.2))
      ];
    }

spread : (s : State) (k d : ℕ) (list : List (List Move)) → IsRising list → ((p : List Move) → Lists list p → IsPieceAt s d p) → (e : ℕ) → e ≡ d + k → (out : List (List Move)) × (length out ≡ length list) × IsRising out × ((p : List Move) → Lists out p → IsPieceAt s e p)
spread s zero d list rising at e is =
    let same : d ≡ e = omega arith in
    (list, refl, rising, λ p l. subst (λ x. IsPieceAt s x p) same (at p l))
spread s (suc k) d list rising at e is =
    let one = spread_one s d list rising at in
    let rest = spread s k (d + 1) one.out one.rising one.pieces e (omega arith) in
    (rest.0, rest.1 ∙ one.size, rest.2, rest.3)

-- the pieces at a greater depth are no fewer
pub no_fewer : (s : State) (d e : ℕ) (list all : List (List Move)) → IsRising list → ((p : List Move) → Lists list p → IsPieceAt s d p) → d ≤ e → AreAll (IsPieceAt s e) all → length list ≤ length all
no_fewer s d e list all rising at le h =
    let out = spread s (e - d) d list rising at e (omega arith) in
    let fits : length out.0 ≤ length all = rising_length out.0 all out.2 h.rising (λ u l. h.each u (out.3 u l)) in
    let size : length out.0 ≡ length list = out.1 in
    omega arith

pub too_many : (s : State) (pieces : List (List Move)) (i : ℕ) (p : List Move) (next kids after : List (List Move)) → slice_get pieces i ≡ Some p → ((d : ℕ) → AreAll (IsPieceAt s d) pieces → AreAll (λ v. UnderFirst pieces i v × IsPieceAt s (d + 1) v) next) → AreKids s p p kids → after ≡ next ++ kids → 65536 < length after → TooMany s pieces
too_many s pieces i p next kids after is before k grown many d e list all lt h =
    let more = level_more s d pieces all i p next kids is (before d all) k in
    let fits : length (next ++ kids) ≤ length list = no_fewer s (d + 1) e (next ++ kids) list more.rising (λ q l. (more.only q l).1) (omega arith) h in
    let size : length after ≡ length (next ++ kids) = ap length grown in
    omega arith
