-- What is known while the graph grows.
use Rattle.std.proofs.Common.{arith, ◌≡◌, ◌≢◌, ◌↔◌, ◌+◌, ◌-◌, ◌<◌, ◌⊎◌, ℕ, suc, Bool, true, false, List, [], ◌∷◌, ◌++◌, length, get_or, refl, sym, ◌∙◌, ap, subst, inl, inr, append_assoc, length-append, None, Option, Some, IfSome}
use Rattle.std.proofs.lemmas.Bool.{and_parts, cases_lt}
use Rattle.std.specs.List.{AllByRecursion}
use Rattle.std.specs.List.Sorted.{IsStrictlySortedBy}
use Rattle.std.specs.declared.cmp.Ordering.TheVariants.{Less}
use Rattle.std.specs.Ordering.{ordering_then}
use Rattle.std.specs.Cmp.{nat_cmp_is}
use lib.Pointwise.{pointwise}
use Rattle.lu_component.specs.Component.{Component}
use Rattle.lu_test.specs.Matrix.{IsMatrix, Matrix}
use Rattle.lu_machine.specs.declared.position.Position.{Position}
use Rattle.lu_machine.specs.States.{State}
use Rattle.lu_machine.specs.Starts.{IsStart}
use Rattle.lu_machine.specs.Steps.{IsFeasible, picks_of}
use Rattle.lu_machine.proofs.Moves.{feasible_within}
use Rattle.lu_machine.proofs.Starting.{start_same}
use Rattle.lu_serial.specs.Offences.{NoOffence}
use Rattle.lu_serial_graph.proofs.Offending.{few_entries, long_offends, two_offend}
use Rattle.lu_machine.proofs.Positions.{position_eq, same_position}
use Rattle.lu_history.specs.Order.{op_cmp, outcome_cmp}
use Rattle.lu_history.specs.declared.serial.SerialOp.{SerialOp}
use Rattle.lu_history.specs.declared.serial.SerialOutcome.{SerialOutcome}
use Rattle.lu_history.specs.declared.serial.SerialOutcome.TheVariants.{Ret, Trap, Stuck}
use Rattle.lu_trie.specs.Members.{AllSerial}
use Rattle.lu_trie.specs.Branches.{Branch, AreBranches, NoneBare, joined, labels, members_from}
use Rattle.lu_trie.proofs.Kids.{no_branches}
use Rattle.lu_trie.proofs.Serial.{one_serial}
use Rattle.lu_client.proofs.Played.{IsReady, ready}
use Rattle.lu_serial_graph.specs.declared.answering.Answer.{Answer}
use Rattle.lu_serial_graph.specs.declared.exploring.Rests.{Rests}
use Rattle.lu_serial_graph.specs.contracts.exploring.RestsPartialEq as rests
use Rattle.indexmap.specs.IndexMap.{insert_entry}
use Rattle.std.specs.Map.{lookup}
use Rattle.std.specs.Prelude.{cond, if◌then◌else◌}
use Rattle.std.proofs.lemmas.Option.{same_Some}
use Rattle.lu_serial_graph.specs.Graphs.{AllBelow, HoldsFrom, Link, resolve}
use Rattle.lu_serial_graph.specs.Playing.{Comes, IsAmong, Lasts, op_of, state_at}
use Rattle.lu_serial_graph.specs.Answers.{Asks, HasRest, IsAnswer, MayCall}
use Rattle.lu_serial_graph.specs.Continuing.{AreRestsAfter, IsStuckAfter, LeadsTo, StateAfter, AreContinuations}
use Rattle.lu_serial_graph.specs.Exploring.{AreSameRests, IsKnown, IsReached, is_stuck, Offends, Entry, Keeps, IsKept}
use Rattle.lu_serial_graph.proofs.FirstMoves.{among_cases, among_left, among_one, among_right}
use Rattle.lu_serial_graph.proofs.Sifting.{among_at, rests_same}
use Rattle.lu_serial_graph.proofs.FlatGraphs.{at_left, below-more, below-push, resolve-more, resolve-push}
use Rattle.lu_serial_graph.proofs.After.{comes_picks, lasts_picks, last_comes, next_state, quiet_only, same_picks, state_quiet}
use Rattle.lu_serial_graph.proofs.Links.{LinksTell, leaf_tells, node_tells, tells_serial}

abbrev Table : Type 0
Table = List (List (List SerialOp))

-- ---- the same rests

same_left : (a b : List Position) → pointwise position_eq a b ≡ true → (p : Position) → IsAmong p a → (q : Position) × IsAmong q b × (position_eq p q ≡ true)
same_left [] b e p h = absurd h
same_left (x ∷ a) [] e p h = absurd cc
same_left (x ∷ a) (y ∷ b) e p (inl is) =
    let both = and_parts (position_eq x y) (pointwise position_eq a b) e in
    (y, inl refl, ap (λ z. position_eq z y) is ∙ both.0)
same_left (x ∷ a) (y ∷ b) e p (inr h) =
    let both = and_parts (position_eq x y) (pointwise position_eq a b) e in
    let r = same_left a b both.1 p h in
    (r.0, inr r.1, r.2)

same_right : (a b : List Position) → pointwise position_eq a b ≡ true → (q : Position) → IsAmong q b → (p : Position) × IsAmong p a × (position_eq p q ≡ true)
same_right a [] e q h = absurd h
same_right [] (y ∷ b) e q h = absurd cc
same_right (x ∷ a) (y ∷ b) e q (inl is) =
    let both = and_parts (position_eq x y) (pointwise position_eq a b) e in
    (x, inl refl, ap (λ z. position_eq x z) is ∙ both.0)
same_right (x ∷ a) (y ∷ b) e q (inr h) =
    let both = and_parts (position_eq x y) (pointwise position_eq a b) e in
    let r = same_right a b both.1 q h in
    (r.0, inr r.1, r.2)

same_as : (a b : List Position) → a ≡ b → AreSameRests a b
same_as a b is c matrix s = ((λ h. subst (λ x. HasRest c matrix x s) is h), (λ h. subst (λ x. HasRest c matrix x s) (sym is) h))

pub equal_rests : (a b : List Position) → pointwise position_eq a b ≡ true → AreSameRests a b
equal_rests a b e c matrix s = (
  (λ h. (let r = same_left a b e h.0 h.1 in (r.0, r.1, sym (rests_same c matrix h.0 r.0 ((same_position h.0 r.0).0 r.2)) ∙ h.2))),
  (λ h. (let r = same_right a b e h.0 h.1 in (r.0, r.1, rests_same c matrix r.0 h.0 ((same_position r.0 h.0).0 r.2) ∙ h.2))),
)

rests_after_same : (c : Component) (matrix : Matrix) (s : State) (q : List SerialOp) (a b : List Position) → AreSameRests a b → AreRestsAfter c matrix s q b → AreRestsAfter c matrix s q a
rests_after_same c matrix s q a b same are = record {
  each = λ p h. (let r = (same c matrix (state_at c matrix p)).0 (p, h, refl) in subst (StateAfter s q) r.2 (are.each r.0 r.1));
  all = λ end reached. (same c matrix end).1 (are.all end reached);
  some = (let p = are.some in let r = (same c matrix (state_at c matrix p.0)).1 (p.0, p.1, refl) in (r.0, r.1));
}

-- ---- what is known stays so

pub known_more : (c : Component) (matrix : Matrix) (bound : ℕ) (t u : Table) (stuck : Bool) (rests : List Position) (place : ℕ) → ((more : Table) × (u ≡ t ++ more)) → IsKnown c matrix bound t stuck rests place → IsKnown c matrix bound u stuck rests place
known_more c matrix bound t u stuck rests place grown k =
    let lt = k.there in
    let same : get_or u place [] ≡ get_or t place [] = ap (λ x. get_or x place []) grown.1 ∙ at_left t grown.0 place [] lt in
    let longer : length u ≡ length t + length grown.0 = ap length grown.1 ∙ length-append t grown.0 in
    record {
      there = omega (arith, lt, longer);
      full = λ none. k.full (sym same ∙ none);
      tells = λ s q start leads. subst (AreContinuations s bound q) (sym same) (k.tells s q start leads);
    }

pub recalled : (c : Component) (matrix : Matrix) (bound : ℕ) (t : Table) (rests kept : List Position) (place at : ℕ) → at ≡ place → AreSameRests kept rests → IsKnown c matrix bound t false kept at → IsKnown c matrix bound t false rests place
recalled c matrix bound t rests kept place at is same k =
    subst (IsKnown c matrix bound t false rests) is
    (record { there = k.there; full = k.full; tells = λ s q start leads. k.tells s q start (rests_after_same c matrix s q kept rests same leads) })

pub leaf_known : (c : Component) (matrix : Matrix) (bound : ℕ) (t u : Table) (rests : List Position) (place : ℕ) → place < length u → HoldsFrom t true [] u place → IsKnown c matrix bound u true rests place
leaf_known c matrix bound t u rests place there holds = record {
  there = there;
  full = λ none. (let e : [] ∷ [] ≡ [] = sym holds ∙ none in cc);
  tells = λ s q start leads. subst (AreContinuations s bound q) (sym holds) (leaf_tells c matrix s (ready c matrix s start) bound q leads);
}

-- ---- branches

less_thread : (a b : SerialOp) → a.thread < b.thread → op_cmp a b ≡ Less
less_thread a b lt = ap (λ x. ordering_then x (outcome_cmp a.outcome b.outcome)) (sym (nat_cmp_is a.thread b.thread Less lt))

all_push : (P : SerialOp → Type 0) (bs : List Branch) (b : Branch) → AllByRecursion P (labels bs) → P b.0 → AllByRecursion P (labels (bs ++ b ∷ []))
all_push P [] b all p = (p, tt)
all_push P (k ∷ ks) b all p = (all.0, all_push P ks b all.1 p)

rise_push : (bs : List Branch) (b : Branch) → ((k : Branch) → IsAmong k bs → op_cmp k.0 b.0 ≡ Less) → IsStrictlySortedBy op_cmp (labels bs) → IsStrictlySortedBy op_cmp (labels (bs ++ b ∷ []))
unfolding IsStrictlySortedBy
rise_push [] b less rise = (tt, tt)
rise_push (k ∷ ks) b less rise = (all_push (λ y. op_cmp k.0 y ≡ Less) ks b rise.0 (less k (inl refl)), rise_push ks b (λ x h. less x (inr h)) rise.1)

full_push : (bs : List Branch) (b : Branch) → b.1 ≢ [] → NoneBare bs → NoneBare (bs ++ b ∷ [])
full_push [] b ne full = (ne, tt)
full_push (k ∷ ks) b ne full = (full.0, full_push ks b ne full.1)

among_resolved : (t : Table) (links : List Link) (k : Branch) → IsAmong k (resolve t links) → (l : Link) × IsAmong l links × (l.0 ≡ k.0)
among_resolved t [] k h = absurd h
among_resolved t (l ∷ links) k (inl is) = (l, inl refl, ap (λ (x : Branch). x.0) (sym is))
among_resolved t (l ∷ links) k (inr h) = (let r = among_resolved t links k h in (r.0, inr r.1, r.2))

joined_full : (bs : List Branch) → NoneBare bs → joined bs ≡ [] → length bs ≡ 0
joined_full [] full e = refl
joined_full ((op, []) ∷ bs) full e = absurd (full.0 refl)
joined_full ((op, h ∷ hs) ∷ bs) full e = absurd cc

length_resolve : (t : Table) (links : List Link) → length (resolve t links) ≡ length links
length_resolve t [] = refl
length_resolve t (l ∷ links) = ap suc (length_resolve t links)

members_full : (ends : Bool) (t : Table) (links : List Link) → ((ends ≡ true) ↔ (length links ≡ 0)) → NoneBare (resolve t links) → members_from ends (resolve t links) ≢ []
members_full true t links is full e = cc
members_full false t links is full e =
    (let none : length links ≡ 0 = sym (length_resolve t links) ∙ joined_full (resolve t links) full e in
    let no_end : false ≡ true = is.1 none in
    cc)

-- ---- the links so far

pub record Stage (c : Component) (matrix : Matrix) (bound : ℕ) (table : Table) (rests : List Position) (links : List Link) (k : ℕ) : Type 0 where
  pub below : AllBelow (length table) links
  pub branches : AreBranches (resolve table links)
  pub threads : (l : Link) → IsAmong l links → l.0.thread < k
  pub told : (s : State) (q : List SerialOp) → IsStart c matrix s → AreRestsAfter c matrix s q rests → LinksTell s bound q table links k

link_below : (n : ℕ) (links : List Link) (l : Link) → AllBelow n links → IsAmong l links → l.1 < n
link_below n [] l all h = absurd h
link_below n (x ∷ links) l all (inl e) = subst (λ (y : Link). y.1 < n) (sym e) all.0
link_below n (x ∷ links) l all (inr h) = link_below n links l all.1 h

pub stage_none : (c : Component) (matrix : Matrix) (bound : ℕ) (table : Table) (rests : List Position) → Stage c matrix bound table rests [] 0
stage_none c matrix bound table rests = record {
  below = tt;
  branches = no_branches;
  threads = λ l h. absurd h;
  told = λ s q start are. record {
    each = λ l h. absurd h;
    busy = λ l h. absurd h;
    short = λ mid t lt. absurd (omega (arith, lt));
    all = λ mid t o end lt. absurd (omega (arith, lt));
    one = λ mid other t a b end last lt. absurd (omega (arith, lt));
    some = λ mid t lt. absurd (omega (arith, lt));
  };
}

below_or_last : (t k : ℕ) → t < k + 1 → (t < k) ⊎ (t ≡ k)
below_or_last t k lt = elim (cases_lt t k) [ inl a ↦ inl a | inr b ↦ inr (omega (arith, lt, b)) ]

-- a thread that has no call left
pub stage_skip : (c : Component) (matrix : Matrix) (bound : ℕ) (table : Table) (rests : List Position) (links : List Link) (k : ℕ) (first : Position) → IsAmong first rests → picks_of (state_at c matrix first) k ≡ 0 → Stage c matrix bound table rests links k → Stage c matrix bound table rests links (k + 1)
stage_skip c matrix bound table rests links k first h none stage = record {
  below = stage.below;
  branches = stage.branches;
  threads = λ l among. (let lt = stage.threads l among in omega (arith, lt));
  told = λ s q start are.
      (let at = ready c matrix s start in
      let was = stage.told s q start are in
      let never : (mid : State) → StateAfter s q mid → 0 < picks_of mid k → ⊥ = λ mid reached some. (let e = same_picks c matrix s at q mid (state_at c matrix first) k reached (are.each first h) some in omega (arith, e, none)) in
      record {
        each = was.each;
        busy = was.busy;
        short = λ mid t lt reached lasts. elim (below_or_last t k lt) [
          | inl a ↦ was.short mid t a reached lasts
          | inr b ↦ never mid reached (subst (λ x. 0 < picks_of mid x) b (lasts_picks mid t (bound + 1) (state_quiet c matrix s at q mid reached) lasts))
        ];
        all = λ mid t o end lt reached comes. elim (below_or_last t k lt) [
          | inl a ↦ was.all mid t o end a reached comes
          | inr b ↦ absurd (never mid reached (subst (λ x. 0 < picks_of mid x) b (comes_picks mid t o end (state_quiet c matrix s at q mid reached) comes)))
        ];
        one = λ mid other t a b end last lt x y m n. elim (below_or_last t k lt) [
          | inl lower ↦ was.one mid other t a b end last lower x y m n
          | inr here ↦ absurd (never mid x (subst (λ z. 0 < picks_of mid z) here (comes_picks mid t a end (state_quiet c matrix s at q mid x) m)))
        ];
        some = λ mid t lt reached picks. elim (below_or_last t k lt) [
          | inl a ↦ was.some mid t a reached picks
          | inr b ↦ absurd (never mid reached (subst (λ x. 0 < picks_of mid x) b picks))
        ];
      });
}

-- each of the rests may make the call
pub may_call : (c : Component) (matrix : Matrix) (rests : List Position) (k left : ℕ) (first : Position) → IsReached c matrix false rests left → IsAmong first rests → 0 < picks_of (state_at c matrix first) k → MayCall c matrix rests k
may_call c matrix rests k left first (s, q, start, are, few) h some p among =
    let at = ready c matrix s start in
    let quiet = state_quiet c matrix s at q (state_at c matrix p) (are.each p among) in
    (quiet_only (state_at c matrix p) k quiet, (same_picks c matrix s at q (state_at c matrix first) (state_at c matrix p) k (are.each first h) (are.each p among) some))

module _ (c : Component) (matrix : Matrix) (bound : ℕ) (rests : List Position) (k : ℕ) (answer : Answer) (is : IsAnswer c matrix rests k (bound + 1) answer) where
  leads_free : (s : State) (q : List SerialOp) → IsStart c matrix s → AreRestsAfter c matrix s q rests → answer.outcome ≢ Stuck → AreRestsAfter c matrix s (q ++ op_of k answer.outcome ∷ []) answer.rests.items
  leads_free s q start are free =
      let at = ready c matrix s start in
      record {
        each = λ p h. (let r = is.each p h in next_state c matrix s at q (state_at c matrix r.0) k answer.outcome (state_at c matrix p) (are.each r.0 r.1) r.2 free);
        all = λ end reached.
            (let l = last_comes c matrix s at q (op_of k answer.outcome) end reached in
            let r = are.all l.0 l.1 in
            is.all r.0 answer.outcome end r.1 (subst (λ x. Comes x k answer.outcome end) (sym r.2) l.2));
        some = is.some;
      }

  leads_stuck : (s : State) (q : List SerialOp) → AreRestsAfter c matrix s q rests → answer.outcome ≡ Stuck → IsStuckAfter s (q ++ op_of k answer.outcome ∷ [])
  leads_stuck s q are e =
      let p = is.some in
      let r = is.each p.0 p.1 in
      record {
        before = q;
        thread = k;
        parts = ap (λ o. q ++ op_of k o ∷ []) e;
        mid = state_at c matrix r.0;
        after = are.each r.0 r.1;
        end = state_at c matrix p.0;
        comes = subst (λ o. Comes (state_at c matrix r.0) k o (state_at c matrix p.0)) e r.2;
      }

  -- what the answer leads to
  leads_by : (s : State) (q : List SerialOp) → IsStart c matrix s → AreRestsAfter c matrix s q rests → (o : SerialOutcome) → answer.outcome ≡ o → LeadsTo c matrix s (q ++ op_of k answer.outcome ∷ []) (is_stuck o) answer.rests.items
  leads_by s q start are (Ret n) e = leads_free s q start are (λ stuck. (let f : Ret n ≡ Stuck = sym e ∙ stuck in cc))
  leads_by s q start are Trap e = leads_free s q start are (λ stuck. (let f : Trap ≡ Stuck = sym e ∙ stuck in cc))
  leads_by s q start are Stuck e = leads_stuck s q are e

  pub leads_after : (s : State) (q : List SerialOp) → IsStart c matrix s → AreRestsAfter c matrix s q rests → LeadsTo c matrix s (q ++ op_of k answer.outcome ∷ []) (is_stuck answer.outcome) answer.rests.items
  leads_after s q start are = leads_by s q start are answer.outcome refl

  pub reached_after : (left : ℕ) → 0 < left → IsReached c matrix false rests left → IsReached c matrix (is_stuck answer.outcome) answer.rests.items (left - 1)
  reached_after left some (s, q, start, are, more) =
      let longer : length (q ++ op_of k answer.outcome ∷ []) ≡ length q + 1 = length-append q (op_of k answer.outcome ∷ []) in
      (s, q ++ op_of k answer.outcome ∷ [], start, leads_after s q start are, omega (arith, longer, more, some))

  -- one link more
  module _ (old new : Table) (links : List Link) (place : ℕ) (stage : Stage c matrix bound old rests links k) (grown : (more : Table) × (new ≡ old ++ more)) (known : IsKnown c matrix bound new (is_stuck answer.outcome) answer.rests.items place) where
    abbrev op : SerialOp
    op = op_of k answer.outcome

    abbrev link : Link
    link = (op, place)

    longer : length new ≡ length old + length grown.0
    longer = ap length grown.1 ∙ length-append old grown.0

    resolved : resolve new (links ++ link ∷ []) ≡ resolve old links ++ (op, get_or new place []) ∷ []
    resolved = resolve-push new links link ∙ ap (λ x. x ++ (op, get_or new place []) ∷ []) (ap (λ x. resolve x links) grown.1 ∙ resolve-more old grown.0 links stage.below)

    branches_now : AreBranches (resolve new (links ++ link ∷ []))
    branches_now =
        let b : Branch = (op, get_or new place []) in
        subst AreBranches (sym resolved) (record {
          rise = rise_push (resolve old links) b (λ x h. (let l = among_resolved old links x h in let lt = stage.threads l.0 l.1 in less_thread x.0 op (subst (λ (y : SerialOp). y.thread < k) l.2 lt))) stage.branches.rise;
          full = full_push (resolve old links) b known.full stage.branches.full;
        })

    module _ (s : State) (q : List SerialOp) (start : IsStart c matrix s) (are : AreRestsAfter c matrix s q rests) where
      at : IsReady c matrix s
      at = ready c matrix s start

      was : LinksTell s bound q old links k
      was = stage.told s q start are

      tells_old : (l : Link) → IsAmong l links → AreContinuations s bound (q ++ l.0 ∷ []) (get_or new l.1 [])
      tells_old l h =
          let lt = link_below (length old) links l stage.below h in
          subst (AreContinuations s bound (q ++ l.0 ∷ [])) (sym (ap (λ x. get_or x l.1 []) grown.1 ∙ at_left old grown.0 l.1 [] lt)) (was.each l h)

      tells_new : AreContinuations s bound (q ++ op ∷ []) (get_or new place [])
      tells_new = known.tells s (q ++ op ∷ []) start (leads_after s q start are)

      -- the rest that is this state
      rest_is : (mid : State) → StateAfter s q mid → HasRest c matrix rests mid
      rest_is mid reached = are.all mid reached

      outcome_is : (mid : State) (t : ℕ) (o : SerialOutcome) (end : State) → t ≡ k → StateAfter s q mid → Comes mid t o end → o ≡ answer.outcome
      outcome_is mid t o end e reached comes =
          (let r = rest_is mid reached in is.one r.0 o end r.1 (subst (λ x. Comes x k o end) (sym r.2) (subst (λ x. Comes mid x o end) e comes)))

      told_more : LinksTell s bound q new (links ++ link ∷ []) (k + 1)
      told_more = record {
        each = λ l h. elim (among_cases l links (link ∷ []) h) [
          | inl a ↦ tells_old l a
          | inr b ↦ subst (λ (x : Link). AreContinuations s bound (q ++ x.0 ∷ []) (get_or new x.1 [])) (sym (among_one l link b)) tells_new
        ];
        busy = λ l h. elim (among_cases l links (link ∷ []) h) [
          | inl a ↦ was.busy l a
          | inr b ↦
              (let p = is.some in
              let r = is.each p.0 p.1 in
              let reached = are.each r.0 r.1 in
              (state_at c matrix r.0, reached, subst (λ (x : Link). 0 < picks_of (state_at c matrix r.0) x.0.thread) (sym (among_one l link b)) (comes_picks (state_at c matrix r.0) k answer.outcome (state_at c matrix p.0) (state_quiet c matrix s at q (state_at c matrix r.0) reached) r.2)))
        ];
        short = λ mid t lt reached lasts. elim (below_or_last t k lt) [
          | inl a ↦ was.short mid t a reached lasts
          | inr b ↦ (let r = rest_is mid reached in is.short r.0 r.1 (subst (λ x. Lasts x k (bound + 1)) (sym r.2) (subst (λ x. Lasts mid x (bound + 1)) b lasts)))
        ];
        all = λ mid t o end lt reached comes. elim (below_or_last t k lt) [
          | inl a ↦ (let l = was.all mid t o end a reached comes in (l.0, among_left l.0 links (link ∷ []) l.1, l.2))
          | inr b ↦ (link, among_right link links (link ∷ []) (inl refl), ap (λ x. op_of k x) (sym (outcome_is mid t o end b reached comes)) ∙ ap (λ x. op_of x o) (sym b))
        ];
        one = λ mid other t a b end last lt x y m n. elim (below_or_last t k lt) [
          | inl lower ↦ was.one mid other t a b end last lower x y m n
          | inr here ↦ outcome_is mid t a end here x m ∙ sym (outcome_is other t b last here y n)
        ];
        some = λ mid t lt reached picks. elim (below_or_last t k lt) [
          | inl a ↦ (let l = was.some mid t a reached picks in (l.0, among_left l.0 links (link ∷ []) l.1))
          | inr b ↦ (link, among_right link links (link ∷ []) (inl refl))
        ];
      }

    pub stage_more : Stage c matrix bound new rests (links ++ link ∷ []) (k + 1)
    stage_more = (let there = known.there in record {
      below = below-push (length new) links link (below-more (length old) (length new) links (omega (arith, longer)) stage.below) there;
      branches = branches_now;
      threads = λ l h. elim (among_cases l links (link ∷ []) h) [
        | inl a ↦ (let lt = stage.threads l a in omega (arith, lt))
        | inr b ↦ subst (λ (x : Link). x.0.thread < k + 1) (sym (among_one l link b)) (omega arith)
      ];
      told = told_more;
    })

-- ---- the whole node

module _ (c : Component) (matrix : Matrix) (bound : ℕ) (table : Table) (rests : List Position) (links : List Link) (k : ℕ) (first : Position) (among : IsAmong first rests) (all : k ≡ length (state_at c matrix first).threads) (stage : Stage c matrix bound table rests links k) (ends : Bool) (is : (ends ≡ true) ↔ (length links ≡ 0)) where
  few : (s : State) (q : List SerialOp) → IsStart c matrix s → AreRestsAfter c matrix s q rests → (mid : State) (t : ℕ) → 0 < picks_of mid t → StateAfter s q mid → t < k
  few s q start are mid t some reached =
      let here = same_picks c matrix s (ready c matrix s start) q mid (state_at c matrix first) t reached (are.each first among) some in
      let f : IsFeasible (state_at c matrix first) (record { thread = t; pick = 0 }) = here in
      let lt = feasible_within (state_at c matrix first) (record { thread = t; pick = 0 }) f in
      omega (arith, lt, all)

  pub members_tell : (s : State) (q : List SerialOp) → IsStart c matrix s → AreRestsAfter c matrix s q rests → AreContinuations s bound q (members_from ends (resolve table links))
  members_tell s q start are = node_tells c matrix s (ready c matrix s start) bound q table links k (stage.told s q start are) (few s q start are) (state_at c matrix first) (are.each first among) ends is

  pub members_serial : (left : ℕ) → IsReached c matrix false rests left → AllSerial (members_from ends (resolve table links))
  members_serial left (s, q, start, are, more) = tells_serial s bound q (members_from ends (resolve table links)) (members_tell s q start are)

  pub node_known : (new : Table) (place : ℕ) → place < length new → HoldsFrom table ends links new place → IsKnown c matrix bound new false rests place
  node_known new place there holds = record {
    there = there;
    full = λ none. members_full ends table links is stage.branches.full (sym holds ∙ none);
    tells = λ s q start are. subst (AreContinuations s bound q) (sym holds) (members_tell s q start are);
  }

-- ---- all that is kept

abbrev pub KnownAll : Component → Matrix → ℕ → Table → List Entry → Type 0
KnownAll c matrix bound table entries = (entry : Entry) → IsAmong entry entries → IsKnown c matrix bound table false entry.0.positions.items entry.1

pub all_more : (c : Component) (matrix : Matrix) (bound : ℕ) (t u : Table) (entries : List Entry) → ((more : Table) × (u ≡ t ++ more)) → KnownAll c matrix bound t entries → KnownAll c matrix bound u entries
all_more c matrix bound t u entries grown all k h = known_more c matrix bound t u false k.0.positions.items k.1 grown (all k h)

pub all_kept : (c : Component) (matrix : Matrix) (bound : ℕ) (t : Table) (old new : List Entry) (x : Rests) (place : ℕ) → IsKnown c matrix bound t false x.positions.items place → Keeps old x place new → KnownAll c matrix bound t old → KnownAll c matrix bound t new
all_kept c matrix bound t old new x place is keeps all k h = elim (keeps k h) [
  | inl a ↦ all k a
  | inr b ↦ recalled c matrix bound t k.0.positions.items x.positions.items k.1 place (sym b.0) b.1 is
]

pub all_moved : (c d : Component) (matrix other : Matrix) (bound number : ℕ) (t : Table) (entries : List Entry) → d ≡ c → other ≡ matrix → number ≡ bound → KnownAll c matrix bound t entries → KnownAll d other number t entries
all_moved c d matrix other bound number t entries e f g all =
    subst (λ x. KnownAll x other number t entries) (sym e) (subst (λ x. KnownAll c x number t entries) (sym f) (subst (λ x. KnownAll c matrix x t entries) (sym g) all))

-- ---- the map

abbrev pub rests_eq : Rests → Rests → Bool
rests_eq = (rests.TheImpl.ghosts).eq

same_back : (a b : List Position) → AreSameRests a b → AreSameRests b a
same_back a b same c matrix s = ((same c matrix s).1, (same c matrix s).0)

pub found_kept : (key : Rests) (es : List Entry) (place : ℕ) → lookup (rests_eq key) es ≡ Some place → IsKept es key place
found_kept key [] place e = absurd cc
found_kept key (x ∷ es) place e = by (rests_eq key x.0) refl (found_kept key es place) e
  where
    by : (b : Bool) → rests_eq key x.0 ≡ b → (lookup (rests_eq key) es ≡ Some place → IsKept es key place) → cond b (Some x.1) (lookup (rests_eq key) es) ≡ Some place → IsKept (x ∷ es) key place
    by true is on e = (x, inl refl, same_Some x.1 place e, same_back key.positions.items x.0.positions.items (equal_rests key.positions.items x.0.positions.items is))
    by false is on e = (let r = on e in (r.0, inr r.1, r.2, r.3))

pub kept_if : (key : Rests) (es : List Entry) (r : Option ℕ) → r ≡ lookup (rests_eq key) es → IfSome r (IsKept es key)
kept_if key es None e = tt
kept_if key es (Some place) e = found_kept key es place (sym e)

pub insert_keeps : (es : List Entry) (key : Rests) (place : ℕ) → Keeps es key place (insert_entry rests_eq es key place)
insert_keeps [] key place entry h = inr (let is : entry ≡ (key, place) = among_one entry (key, place) h in (ap (λ (y : Entry). y.1) is, same_as key.positions.items entry.0.positions.items (ap (λ (y : Entry). y.0.positions.items) (sym is))))
insert_keeps (x ∷ es) key place entry h = by (rests_eq key x.0) refl (insert_keeps es key place entry) h
  where
    by : (b : Bool) → rests_eq key x.0 ≡ b → (IsAmong entry (insert_entry rests_eq es key place) → IsAmong entry es ⊎ ((entry.1 ≡ place) × AreSameRests key.positions.items entry.0.positions.items)) → IsAmong entry (if b then (x.0, place) ∷ es else x ∷ insert_entry rests_eq es key place) → IsAmong entry (x ∷ es) ⊎ ((entry.1 ≡ place) × AreSameRests key.positions.items entry.0.positions.items)
    by true is on (inl e) = inr (ap (λ (y : Entry). y.1) e, subst (λ (y : Entry). AreSameRests key.positions.items y.0.positions.items) (sym e) (equal_rests key.positions.items x.0.positions.items is))
    by true is on (inr h) = inl (inr h)
    by false is on (inl e) = inl (inl e)
    by false is on (inr h) = elim (on h) [ inl a ↦ inl (inr a) | inr b ↦ inr b ]

pub same_call : (c d : Component) (matrix other : Matrix) (rests shown : List Position) (t : ℕ) → d ≡ c → other ≡ matrix → shown ≡ rests → MayCall c matrix rests t → MayCall d other shown t
same_call c d matrix other rests shown t e f g may =
    subst (λ x. MayCall x other shown t) (sym e) (subst (λ x. MayCall c x shown t) (sym f) (subst (λ x. MayCall c matrix x t) (sym g) may))

pub reached_same : (c d : Component) (matrix other : Matrix) (stuck : Bool) (rests : List Position) (left : ℕ) → d ≡ c → other ≡ matrix → IsReached c matrix stuck rests left → IsReached d other stuck rests left
reached_same c d matrix other stuck rests left e f is = subst (λ x. IsReached x other stuck rests left) (sym e) (subst (λ x. IsReached c x stuck rests left) (sym f) is)

pub grown_on : (a b d : Table) → ((more : Table) × (b ≡ a ++ more)) → ((more : Table) × (d ≡ b ++ more)) → (more : Table) × (d ≡ a ++ more)
grown_on a b d x y = (x.0 ++ y.0, y.1 ∙ ap (λ z. z ++ y.0) x.1 ∙ append_assoc a x.0 y.0)

pub leaf_serial : AllSerial (members_from true (resolve [] []))
leaf_serial = one_serial (members_from true (resolve [] [])) [] refl tt

-- where rests are reached there are some
pub some_rests : (c : Component) (matrix : Matrix) (rests : List Position) (left : ℕ) → IsReached c matrix false rests left → 0 < length rests
some_rests c matrix [] left (s, q, start, are, more) = absurd (are.some.1)
some_rests c matrix (p ∷ rests) left is = omega arith

pub first_among : (c : Component) (matrix : Matrix) (rests : List Position) (left : ℕ) (p : Position) → IsReached c matrix false rests left → p ≡ get_or rests 0 p → IsAmong p rests
first_among c matrix rests left p is read = among_at rests 0 p p (some_rests c matrix rests left is) (sym read)

-- ---- why there is no node

-- where a call has no answer, some serial run offends
pub asked_offends : (c : Component) (matrix : Matrix) (bound left : ℕ) (rests : List Position) (t : ℕ) → IsReached c matrix false rests left → Asks c matrix rests t (bound + 1) None → Offends c matrix bound
asked_offends c matrix bound left rests t (s, q, start, are, more) asked other is =
    subst (λ x. NoOffence x bound → ⊥) (start_same c matrix s other start is)
    (λ none. (elim asked as (λ _. ⊥) [
      | inl l ↦ long_offends c matrix s start bound q (state_at c matrix l.0) t (are.each l.0 l.1) l.2 none
      | inr d ↦ two_offend c matrix s start bound q (state_at c matrix d.p) (state_at c matrix d.q) t d.a d.b d.end d.last (are.each d.p d.one) (are.each d.q d.other) d.comes d.also d.apart none
    ]))

-- there are never more entries than calls
pub not_over : (c : Component) (matrix : Matrix) (rests : List Position) → IsMatrix matrix → IsReached c matrix false rests 0 → ⊥
not_over c matrix rests is (s, q, start, are, more) =
    let p = are.some in
    let few = few_entries c matrix s start q (state_at c matrix p.0) is (are.each p.0 p.1) in
    omega (arith, few, more)

pub offends_same : (c d : Component) (matrix other : Matrix) (bound number : ℕ) → d ≡ c → other ≡ matrix → number ≡ bound → Offends d other number → Offends c matrix bound
offends_same c d matrix other bound number e f g offends = subst (λ x. Offends x matrix bound) e (subst (λ x. Offends d x bound) f (subst (λ x. Offends d other x) g offends))
