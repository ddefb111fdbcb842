-- Laws of explanations.
use Rattle.std.proofs.Common.{◌≡◌, ◌≢◌, ℕ, ◌<◌, ◌≤◌, ◌⊎◌, Bool, true, false, List, [], ◌∷◌, ◌++◌, length, get_or, map, Option, Some, None, if◌then◌else◌, inl, inr, refl, sym, ap, ◌∙◌, subst, arith, append_assoc, take}
use Rattle.std.specs.Prelude.{◌↔◌, IsTrue}
use Rattle.std.specs.Ordering.{is_eq, ordering_reverse}
use Rattle.std.specs.declared.cmp.Ordering.{Ordering}
use Rattle.std.specs.declared.cmp.Ordering.TheVariants.{Less, Equal, Greater}
use Rattle.std.proofs.lemmas.Bool.{cases_lt}
use Rattle.std.proofs.lemmas.Bool.Decides.{eqb_tells}
use Rattle.std.proofs.lemmas.Cmp.{tied_itself}
use Rattle.std.proofs.lemmas.List.{append-nil, length-append, take_at, get_or_default, get_or_past, length_push, same_lists}
use Rattle.lu_machine.specs.declared.event.Event.{Event}
use Rattle.lu_history.specs.declared.operation.OpId.{OpId}
use Rattle.lu_history.specs.declared.serial.SerialOp.{SerialOp}
use Rattle.lu_history.specs.declared.serial.SerialOutcome.{SerialOutcome}
use Rattle.lu_history.specs.declared.serial.SerialOutcome.TheVariants.{Stuck}
use Rattle.lu_history.specs.Histories.{IsWellFormed, outcomes}
use Rattle.lu_history.specs.Order.{op_cmp}
use Rattle.lu_history.specs.Parts.{as_serial, part}
use Rattle.lu_history.specs.Serial.{IsSerial}
use Rattle.lu_history.proofs.Events.{in_turn, last_at}
use Rattle.lu_history.proofs.PartEntries.{part_length}
use Rattle.lu_trie.specs.Conflicts.{ConflictAt}
use Rattle.lu_trie.specs.Members.{history_cmp}
use Rattle.lu_trie.proofs.Ops.{entry, exact_ops, histories_total, ops_total, same_histories_are}
use Rattle.lu_witness.specs.Witnesses.{HasWitness, IsMember, IsWitness, entries}
use Rattle.lu_witness.specs.Search.{IsBeginning, CanComeNext}
use Rattle.lu_witness.proofs.Beginnings.{begun_push, begun_witness}
use Rattle.lu_witness.proofs.Entries.{entries-append, entries_own}
use Rattle.lu_explain.specs.declared.explanation.Reason.{Reason}
use Rattle.lu_explain.specs.declared.explanation.Reason.TheVariants.{After, Outcome, Nothing}
use Rattle.lu_explain.specs.Explanations.{Begins, Following, Explanation, IsBlocker, IsExplanation, IsFirstLongest, IsIn, IsLeastOutcome, IsPartialWitness, IsReasonNotNext, IsReasonOrDone, next, reason_of}
use Rattle.lu_explain.specs.Search.{GoesOnBy, IsLongestFrom, TellsStandings}
use Rattle.lu_explain.specs.Laws.{AllIsWitness, ClosedHasEnds, FullHasEnds, NoneGoesOn, NothingLeft, OneExplanation, OneOutcomeAfter, OtherOutcome, StuckHasEnds, Taken}
use Rattle.lu_explain.proofs.Partial.{begins_few, begun_parts, free_tells, in_counts, partial_from, partial_is}
use Rattle.lu_explain.proofs.Longest.{same_kind}
use Rattle.lu_explain.proofs.Reasons.{same_standing, same_thread}
use Rattle.lu_explain.proofs.Counting.{AreOfFirst, total, total_is, total_tight}

-- ---- what the search finds

abbrev pub explained : Bool → List SerialOp → List (Option Reason) → Explanation
explained witnessed order left = record { witnessed = witnessed; order = order; left = left }

pub same_parts : (e : Explanation) (witnessed : Bool) (order : List SerialOp) (left : List (Option Reason)) → e.witnessed ≡ witnessed → e.order ≡ order → e.left ≡ left → e ≡ explained witnessed order left
same_parts e witnessed order left a b c = ap (λ w. explained w e.order e.left) a ∙ ap (λ o. explained witnessed o e.left) b ∙ ap (explained witnessed order) c

module _ (h : List Event) (well : IsWellFormed h) where
  pub found_order : (members : List (List SerialOp)) (order : List SerialOp) (taken : List ℕ) (rest : List (List SerialOp)) → IsLongestFrom members h [] order taken rest → IsFirstLongest (IsPartialWitness (IsMember members) h) order
  found_order members order taken rest found =
      same_kind (GoesOnBy members h []) (IsPartialWitness (IsMember members) h) order
      (λ q on. partial_from h well (IsMember members) q on.0 on.1)
      (λ q is. (is.begun, partial_is h well (IsMember members) q is))
      found.first

  -- a thread past the last has nothing left
  pub past_standing : (p : List SerialOp) (t : ℕ) → Begins (entries t p) (part t h) → 8 ≤ t → length (entries t p) ≡ length (part t h)
  past_standing p t begins past = let turn = in_turn h well t in omega (arith, begins_few (entries t p) (part t h) begins, part_length h well t, turn.none past)

  -- so the parts that are found make the explanation
  pub found_explanation : (members : List (List SerialOp)) (order : List SerialOp) (taken : List ℕ) (rest : List (List SerialOp)) (left : List (Option Reason)) (witnessed : Bool) → IsLongestFrom members h [] order taken rest
      → length left ≡ 8 → TellsStandings (IsMember rest) taken h left → (IsTrue witnessed ↔ HasWitness (IsMember members) h) → IsExplanation (IsMember members) h (explained witnessed order left)
  found_explanation members order taken rest left witnessed found l8 stand is =
      let begun : IsBeginning h order = found.first.is.1 in
      record {
        witnessed = is;
        order = found_order members order taken rest found;
        threads = l8;
        left = λ t. elim (cases_lt t 8) as (λ _. IsReasonOrDone (Following (IsMember members) order) h order t (get_or left t None)) [
          | inl lt ↦ same_standing (IsMember rest) (Following (IsMember members) order) (λ q m. sym (found.rest_is q) ∙ m) (λ q m. found.rest_is q ∙ m) h order t (get_or left t None) (stand t lt order found.taken_are begun)
          | inr past ↦ subst (IsReasonOrDone (Following (IsMember members) order) h order t) (sym (get_or_past left t None (omega arith))) (past_standing order t (begun_parts h order begun t) past)
        ];
      }

-- ---- one explanation

same_order : (K : List SerialOp → Type 0) (p q : List SerialOp) → IsFirstLongest K p → IsFirstLongest K q → p ≡ q
same_order K p q is also =
    let long : length p ≡ length q = omega (arith, is.longest q also.is, also.longest p is.is) in
    let go : (o : Ordering) → history_cmp p q ≡ o → p ≡ q = elim [
      | Less ↦ λ e. absurd (also.first p is.is long (histories_total.antisymm q p ∙ ap ordering_reverse e))
      | Equal ↦ λ e. same_histories_are p q (ap is_eq e)
      | Greater ↦ λ e. absurd (is.first q also.is (sym long) e)
    ] in
    go (history_cmp p q) refl

module _ (h : List Event) (p : List SerialOp) (b : OpId) where
  -- what is left is not in p
  pub blocker_out : (a : OpId) → IsBlocker h p b a → IsIn p a → ⊥
  blocker_out a is there = let k = ap (λ (x : OpId). x.k) is.left in absurd (omega (arith, in_counts p a there))

  pub one_blocker : (a c : OpId) → IsBlocker h p b a → IsBlocker h p b c → a ≡ c
  one_blocker a c is also = elim (cases_lt a.t c.t) as (λ _. a ≡ c) [
    | inl lt ↦ absurd (blocker_out a is (also.least a lt is.precedes))
    | inr le ↦ elim (cases_lt c.t a.t) as (λ _. a ≡ c) [
      | inl lt ↦ absurd (blocker_out c also (is.least c lt also.precedes))
      | inr ge ↦ let e : a.t ≡ c.t = omega arith in is.left ∙ ap (λ t. next t p) e ∙ sym also.left
    ]
  ]

one_least : (Set : List SerialOp → Type 0) (t : ℕ) (o x : SerialOutcome) → IsLeastOutcome Set t o → IsLeastOutcome Set t x → o ≡ x
one_least Set t o x is also =
    let go : (r : Ordering) → op_cmp (entry t o) (entry t x) ≡ r → o ≡ x = elim [
      | Less ↦ λ e. absurd (also.least o is.is (sym (same_thread t x o) ∙ ops_total.antisymm (entry t x) (entry t o) ∙ ap ordering_reverse e))
      | Equal ↦ λ e. ap (λ (y : SerialOp). y.outcome) (exact_ops (entry t o) (entry t x) e)
      | Greater ↦ λ e. absurd (is.least x also.is (sym (same_thread t o x) ∙ e))
    ] in
    go (op_cmp (entry t o) (entry t x)) refl

module _ (Rest : List SerialOp → Type 0) (h : List Event) (p : List SerialOp) (t : ℕ) where
  one_reason : (r s : Reason) → IsReasonNotNext Rest h p t r → IsReasonNotNext Rest h p t s → r ≡ s
  one_reason (After a) (After c) is also = ap After (one_blocker h p (next t p) a c is also)
  one_reason (After a) (Outcome x) is also = absurd (blocker_out h p (next t p) a is (also.0 a is.precedes))
  one_reason (After a) Nothing is also = absurd (blocker_out h p (next t p) a is (also.0 a is.precedes))
  one_reason (Outcome o) (After c) is also = absurd (blocker_out h p (next t p) c also (is.0 c also.precedes))
  one_reason (Outcome o) (Outcome x) is also = ap Outcome (one_least Rest t o x is.1 also.1)
  one_reason (Outcome o) Nothing is also = absurd (also.1 o is.1.is)
  one_reason Nothing (After c) is also = absurd (blocker_out h p (next t p) c also (is.0 c also.precedes))
  one_reason Nothing (Outcome x) is also = absurd (is.1 x also.1.is)
  one_reason Nothing Nothing is also = refl

  one_standing : (r s : Option Reason) → IsReasonOrDone Rest h p t r → IsReasonOrDone Rest h p t s → r ≡ s
  one_standing None None is also = refl
  one_standing None (Some s) is also = absurd (omega (arith, also.0))
  one_standing (Some r) None is also = absurd (omega (arith, is.0))
  one_standing (Some r) (Some s) is also = ap Some (one_reason r s is.1 also.1)

one_answer : (a b : Bool) (P : Type 0) → (IsTrue a ↔ P) → (IsTrue b ↔ P) → a ≡ b
one_answer true true P is also = refl
one_answer true false P is also = sym (also.1 (is.0 refl))
one_answer false true P is also = is.1 (also.0 refl)
one_answer false false P is also = refl

pub one_explanation : OneExplanation
one_explanation test h d e is also =
    let Set : List SerialOp → Type 0 = Taken test in
    let witnessed : d.witnessed ≡ e.witnessed = one_answer d.witnessed e.witnessed (HasWitness (Taken test) h) is.witnessed also.witnessed in
    let order : d.order ≡ e.order = same_order (IsPartialWitness (Taken test) h) d.order e.order is.order also.order in
    let left : d.left ≡ e.left = same_lists d.left e.left (is.threads ∙ sym also.threads) (λ t x lt.
    let here = subst (λ p. IsReasonOrDone (Following (Taken test) p) h p t (reason_of d t)) order (is.left t) in
    let same : reason_of d t ≡ reason_of e t = one_standing (Following (Taken test) e.order) h e.order t (reason_of d t) (reason_of e t) here (also.left t) in
    let within : t < length e.left = omega (arith, is.threads, also.threads) in
    get_or_default d.left t x None lt ∙ same ∙ get_or_default e.left t None x within) in
    same_parts d e.witnessed e.order e.left witnessed order left

-- ---- witnesses

module _ (h : List Event) (well : IsWellFormed h) (Set : List SerialOp → Type 0) where
  -- the threads of a partial witness
  threads_few : (p : List SerialOp) → ((t : ℕ) → Begins (entries t p) (part t h)) → AreOfFirst 8 p
  threads_few p parts i op at = elim (cases_lt op.thread 8) as (λ _. op.thread < 8) [
    | inl lt ↦ lt
    | inr past ↦
        let k : ℕ = length (entries op.thread (take i p)) in
        let counted = in_counts p (record { t = op.thread; k = k }) (i, (op, at, refl, refl)) in
        let turn = in_turn h well op.thread in
        absurd (omega (arith, counted, begins_few (entries op.thread p) (part op.thread h) (parts op.thread), part_length h well op.thread, turn.none past))
  ]

  witness_partial : (q : List SerialOp) → Set q → IsWitness q h → IsPartialWitness Set h q
  witness_partial q member is = record {
    begun = inr ([], subst Set (sym (append-nil q)) member);
    parts = λ t. ([], sym (is.parts t) ∙ sym (append-nil (entries t q)));
    order = λ a b prec there. is.order a b prec;
  }

  -- where there is a witness, the longest partial witness has all operations
  whole_order : (p : List SerialOp) → IsFirstLongest (IsPartialWitness Set h) p → HasWitness Set h → (t : ℕ) → length (entries t p) ≡ length (part t h)
  whole_order p is (q, member, witness) t =
      let partial = witness_partial q member witness in
      let few : (u : ℕ) → length (entries u p) ≤ length (entries u q) = λ u. (let e = ap length (witness.parts u) in omega (arith, begins_few (entries u p) (part u h) (is.is.parts u))) in
      let long = is.longest q partial in
      let tight : total 8 q ≤ total 8 p = omega (arith, total_is 8 p (threads_few p is.is.parts), total_is 8 q (threads_few q partial.parts)) in
      elim (cases_lt t 8) as (λ _. length (entries t p) ≡ length (part t h)) [
        | inl lt ↦ total_tight p q few 8 tight t lt ∙ ap length (witness.parts t)
        | inr past ↦ past_standing h well p t (is.is.parts t) past
      ]

none_left : (Rest : List SerialOp → Type 0) (h : List Event) (p : List SerialOp) (t : ℕ) (r : Option Reason) → length (entries t p) ≡ length (part t h) → IsReasonOrDone Rest h p t r → r ≡ None
none_left Rest h p t None all is = refl
none_left Rest h p t (Some r) all is = absurd (omega (arith, is.0))

pub nothing_left : NothingLeft
nothing_left test h e well is has t =
    none_left (Following (Taken test) e.order) h e.order t (reason_of e t) (whole_order h well (Taken test) e.order is.order has t) (is.left t)

pub all_is_witness : AllIsWitness
all_is_witness test h e well ends is all =
    let begun = partial_is h well (Taken test) e.order is.order.is in
    let whole : (t : ℕ) → length (entries t e.order) ≡ length (part t h) = λ t. subst (IsReasonOrDone (Following (Taken test) e.order) h e.order t) (all t) (is.left t) in
    let witness = begun_witness h well e.order begun whole in
    (witness, ends e.order is.order.is.begun witness.parts)

-- ---- sets that have their ends

pub closed_has_ends : ClosedHasEnds
closed_has_ends test h empty closed p (inl e) parts = subst (Taken test) (sym e) empty
closed_has_ends test h empty closed p (inr goes) parts = closed p goes.0 goes.1

after_none : (p q : List SerialOp) → p ++ q ≡ [] → q ≡ []
after_none [] q e = e
after_none (x ∷ p) q e = cc

-- an outcome in front, and more: the outcome is the last one, or the last one is further on
front_or_more : (o : SerialOutcome) (rest xs : List SerialOutcome) → o ∷ rest ≡ xs ++ Stuck ∷ [] → (o ≡ Stuck) ⊎ ((ys : List SerialOutcome) × (rest ≡ ys ++ Stuck ∷ []))
front_or_more o rest [] e = inl cc
front_or_more o rest (x ∷ xs) e = inr (xs, cc)

-- what ends with `Stuck` in a serial history is all of it
stuck_last : (t : ℕ) (p q : List SerialOp) (xs : List SerialOutcome) → entries t p ≡ xs ++ Stuck ∷ [] → IsSerial (p ++ q) → q ≡ []
stuck_last t [] q [] e serial = cc
stuck_last t [] q (x ∷ xs) e serial = cc
stuck_last t (op ∷ p) q xs e serial = elim (eqb_tells op.thread t) as (λ _. q ≡ []) [
  | inl own ↦ elim (front_or_more op.outcome (entries t p) xs (sym (ap (λ b. if b then op.outcome ∷ entries t p else entries t p) own.0) ∙ e)) as (λ _. q ≡ []) [
    | inl last ↦ after_none p q (serial.0 last)
    | inr more ↦ stuck_last t p q more.0 more.1 serial.1
  ]
  | inr other ↦ stuck_last t p q xs (sym (ap (λ b. if b then op.outcome ∷ entries t p else entries t p) other.0) ∙ e) serial.1
]

pub stuck_has_ends : StuckHasEnds
stuck_has_ends test h t well waits serial p begun parts =
    let last : entries t p ≡ map as_serial (outcomes t h) ++ Stuck ∷ [] = parts t ∙ ap (λ b. map as_serial (outcomes t h) ++ (if b then Stuck ∷ [] else [])) waits in
    elim begun as (λ _. Taken test p) [
      | inl e ↦ absurd (empty_apart (map as_serial (outcomes t h)) (sym (ap (entries t) e) ∙ last))
      | inr goes ↦
          let none : goes.0 ≡ [] = stuck_last t p goes.0 (map as_serial (outcomes t h)) last (serial (p ++ goes.0) goes.1) in
          subst (Taken test) (ap (λ x. p ++ x) none ∙ append-nil p) goes.1
    ]
  where
    empty_apart : (xs : List SerialOutcome) → [] ≡ xs ++ Stuck ∷ [] → ⊥
    empty_apart [] e = cc
    empty_apart (x ∷ xs) e = cc

no_entries : (p : List SerialOp) → ((t : ℕ) → length (entries t p) ≡ 0) → p ≡ []
no_entries [] none = refl
no_entries (op ∷ p) none = absurd (let e = ap length (entries_own op p) in omega (arith, none op.thread))

pub full_has_ends : FullHasEnds
full_has_ends test h m member few p begun parts = elim begun as (λ _. Taken test p) [
  | inl e ↦
      let none : m ≡ [] = no_entries m (λ t. let none = ap length (ap (entries t) (sym e) ∙ parts t) in omega (arith, few m t member)) in
      subst (Taken test) (none ∙ sym e) member
  | inr goes ↦
      let none : goes.0 ≡ [] = no_entries goes.0 (λ t.
      let whole = ap length (entries-append t p goes.0) ∙ length-append (entries t p) (entries t goes.0) in
      let own = ap length (parts t) in
      omega (arith, few (p ++ goes.0) t goes.1)) in
      subst (Taken test) (ap (λ x. p ++ x) none ∙ append-nil p) goes.1
]

-- ---- outcomes

pub none_goes_on : NoneGoesOn
none_goes_on test h e op is more = absurd (omega (arith, is.order.longest (e.order ++ op ∷ []) more, length_push e.order op))

module _ (p : List SerialOp) (t : ℕ) (o x : SerialOutcome) (q r : List SerialOp) where
  conflict : x ≢ o → ConflictAt (p ++ entry t o ∷ q) (p ++ entry t x ∷ r) (length p) x
  conflict differ = record {
    same = take_at p (entry t o ∷ q) (length p) refl ∙ sym (take_at p (entry t x ∷ r) (length p) refl);
    next = entry t o;
    next_is = last_at p q (entry t o);
    other_is = last_at p r (entry t x);
    differ = differ;
  }

pub one_outcome : OneOutcomeAfter
one_outcome members p t o x det has also =
    let same_or : x ≢ o → ⊥ = λ differ. det (p ++ entry t o ∷ has.0) (p ++ entry t x ∷ also.0) (length p) x has.1 also.1 (conflict p t o x has.0 also.0 differ) in
    let go : (c : Ordering) → op_cmp (entry t o) (entry t x) ≡ c → o ≡ x = elim [
      | Less ↦ λ e. absurd (same_or (λ same. let tie = sym e ∙ ap (λ y. op_cmp (entry t o) (entry t y)) same ∙ tied_itself ops_total (entry t o) in absurd cc))
      | Equal ↦ λ e. ap (λ (y : SerialOp). y.outcome) (exact_ops (entry t o) (entry t x) e)
      | Greater ↦ λ e. absurd (same_or (λ same. let tie = sym e ∙ ap (λ y. op_cmp (entry t o) (entry t y)) same ∙ tied_itself ops_total (entry t o) in absurd cc))
    ] in
    go (op_cmp (entry t o) (entry t x)) refl

pub other_outcome : OtherOutcome
other_outcome test h e t o well is reason same =
    let p : List SerialOp = e.order in
    let op : SerialOp = entry t o in
    let standing = subst (IsReasonOrDone (Following (Taken test) p) h p t) reason (is.left t) in
    let free = standing.1.0 in
    let first = standing.1.1.is in
    let next_is : CanComeNext h p op = record { outcome = same; before = λ j u call. free_tells h well p (next t p) free j u call } in
    let begun = begun_push h p op (partial_is h well (Taken test) p is.order.is) next_is in
    let more = partial_from h well (Taken test) (p ++ op ∷ []) (inr (first.0, subst (Taken test) (sym (append_assoc p (op ∷ []) first.0)) first.1)) begun in
    absurd (omega (arith, is.order.longest (p ++ op ∷ []) more, length_push p op))
