-- The least way on to a member that leaves nothing, by the kids of the place.
use Rattle.std.proofs.Common.{◌≡◌, ℕ, zero, suc, true, false, ◌+◌, ◌<◌, ◌≤◌, List, [], ◌∷◌, length, drop, get_or, replicate, Some, slice_get, if◌then◌else◌, inl, inr, refl, sym, ap, ◌∙◌, subst, arith}
use Rattle.std.specs.Prelude.{◌==◌}
use Rattle.std.specs.Ordering.{ordering_then}
use Rattle.std.specs.declared.cmp.Ordering.TheVariants.{Greater}
use Rattle.std.proofs.lemmas.Bool.{cases_lt}
use Rattle.std.proofs.lemmas.Bool.Decides.{eqb_tells}
use Rattle.std.proofs.lemmas.Option.{slice_get_within}
use Rattle.lu_machine.specs.declared.event.Event.{Event}
use Rattle.lu_history.specs.declared.serial.SerialOp.{SerialOp}
use Rattle.lu_history.specs.declared.serial.SerialOutcome.{SerialOutcome}
use Rattle.lu_history.specs.Histories.{IsWellFormed, calls}
use Rattle.lu_history.specs.Parts.{part}
use Rattle.lu_history.proofs.Events.{in_turn}
use Rattle.lu_history.proofs.PartEntries.{part_length}
use Rattle.lu_trie.specs.Members.{history_cmp}
use Rattle.lu_trie.specs.Branches.{Branch, branches_of, IsBranching}
use Rattle.lu_witness.specs.Witnesses.{IsMember, entries}
use Rattle.lu_witness.proofs.Entries.{entries_own}
use Rattle.lu_witness.proofs.Nexts.{zeros}
use Rattle.lu_explain.specs.AnyOrders.{HasOutcomes, IsLeast}
use Rattle.lu_explain.specs.Search.{Completes, HasRestOfParts, IsOneMoreTaken}
use Rattle.lu_explain.proofs.Kids.{rise_at, member_branch, branch_has}
use Rattle.lu_explain.proofs.Longest.{empty_least, tied}

drop_first : (xs : List SerialOutcome) (k : ℕ) (x : SerialOutcome) → slice_get xs k ≡ Some x → drop k xs ≡ x ∷ drop (suc k) xs
drop_first [] k x at = cc
drop_first (y ∷ xs) zero x at = cc
drop_first (y ∷ xs) (suc k) x at = drop_first xs k x at

first_dropped : (xs : List SerialOutcome) (k : ℕ) (x : SerialOutcome) (ys : List SerialOutcome) → x ∷ ys ≡ drop k xs → (slice_get xs k ≡ Some x) × (ys ≡ drop (suc k) xs)
first_dropped [] zero x ys e = cc
first_dropped [] (suc k) x ys e = cc
first_dropped (y ∷ xs) zero x ys e = (let a : x ≡ y = cc in ap Some (sym a), let b : ys ≡ xs = cc in b)
first_dropped (y ∷ xs) (suc k) x ys e = first_dropped xs k x ys e

pub drop_short : (xs : List SerialOutcome) (k : ℕ) → length xs ≤ k → drop k xs ≡ []
drop_short [] zero le = refl
drop_short [] (suc k) le = refl
drop_short (y ∷ xs) zero le = absurd (omega arith)
drop_short (y ∷ xs) (suc k) le = drop_short xs k (omega arith)

pub none_dropped : (xs : List SerialOutcome) (k : ℕ) → [] ≡ drop k xs → length xs ≤ k
none_dropped [] k e = omega arith
none_dropped (y ∷ xs) zero e = cc
none_dropped (y ∷ xs) (suc k) e = omega (arith, none_dropped xs k e)

-- a thread past the last has no next outcome
pub past_none : (h : List Event) → IsWellFormed h → (t k : ℕ) (o : SerialOutcome) → 8 ≤ t → slice_get (part t h) k ≡ Some o → ⊥
past_none h well t k o past at =
    let turn = in_turn h well t in
    absurd (omega (arith, slice_get_within (part t h) k o at, part_length h well t, turn.none past))

-- nothing is left where of each of 8 threads no more was called than is taken
pub nothing_left : (h : List Event) → IsWellFormed h → (taken : List ℕ) → ((t : ℕ) → t < 8 → calls t h ≤ get_or taken t 0) → HasRestOfParts h taken []
nothing_left h well taken each t = elim (cases_lt t 8) as (λ _. [] ≡ drop (get_or taken t 0) (part t h)) [
  | inl lt ↦ sym (drop_short (part t h) (get_or taken t 0) (omega (arith, each t lt, part_length h well t)))
  | inr past ↦
      let turn = in_turn h well t in
      sym (drop_short (part t h) (get_or taken t 0) (omega (arith, part_length h well t, turn.none past)))
]

-- and only there
pub left_few : (h : List Event) → IsWellFormed h → (taken : List ℕ) → HasRestOfParts h taken [] → (t : ℕ) → calls t h ≤ get_or taken t 0
left_few h well taken left t = omega (arith, none_dropped (part t h) (get_or taken t 0) (left t), part_length h well t)

module _ (h : List Event) (taken : List ℕ) (op : SerialOp) where
  own_dropped : (q : List SerialOp) → HasRestOfParts h taken (op ∷ q) → (slice_get (part op.thread h) (get_or taken op.thread 0) ≡ Some op.outcome) × (entries op.thread q ≡ drop (suc (get_or taken op.thread 0)) (part op.thread h))
  own_dropped q left = first_dropped (part op.thread h) (get_or taken op.thread 0) op.outcome (entries op.thread q) (sym (entries_own op q) ∙ left op.thread)

  -- the first operation has its thread's next outcome
  pub next_left : (q : List SerialOp) → HasRestOfParts h taken (op ∷ q) → slice_get (part op.thread h) (get_or taken op.thread 0) ≡ Some op.outcome
  next_left q left = (own_dropped q left).0

module _ (h : List Event) (taken more : List ℕ) (op : SerialOp) (one : IsOneMoreTaken op.thread taken more) where
  own_more : (t : ℕ) → (op.thread == t) ≡ true → get_or more t 0 ≡ suc (get_or taken t 0)
  own_more t own = let n = ap (λ b. get_or taken t 0 + (if b then 1 else 0)) own in omega (arith, one t)

  other_more : (t : ℕ) → (op.thread == t) ≡ false → get_or more t 0 ≡ get_or taken t 0
  other_more t other = let n = ap (λ b. get_or taken t 0 + (if b then 1 else 0)) other in omega (arith, one t)

  -- the thread's next outcome in front of what is left then
  pub push_left : slice_get (part op.thread h) (get_or taken op.thread 0) ≡ Some op.outcome → (q : List SerialOp) → HasRestOfParts h more q → HasRestOfParts h taken (op ∷ q)
  push_left at q left t = elim (eqb_tells op.thread t) as (λ _. entries t (op ∷ q) ≡ drop (get_or taken t 0) (part t h)) [
    | inl own ↦
        let here : slice_get (part t h) (get_or taken t 0) ≡ Some op.outcome = subst (λ u. slice_get (part u h) (get_or taken u 0) ≡ Some op.outcome) own.1 at in
        ap (λ b. if b then op.outcome ∷ entries t q else entries t q) own.0
        ∙ ap (λ x. op.outcome ∷ x) (left t ∙ ap (λ n. drop n (part t h)) (own_more t own.0))
        ∙ sym (drop_first (part t h) (get_or taken t 0) op.outcome here)
    | inr other ↦ ap (λ b. if b then op.outcome ∷ entries t q else entries t q) other.0 ∙ left t ∙ ap (λ n. drop n (part t h)) (other_more t other.0)
  ]

  -- and what follows has what is left then
  pub pop_left : (q : List SerialOp) → HasRestOfParts h taken (op ∷ q) → HasRestOfParts h more q
  pop_left q left t = elim (eqb_tells op.thread t) as (λ _. entries t q ≡ drop (get_or more t 0) (part t h)) [
    | inl own ↦ subst (λ u. entries u q ≡ drop (suc (get_or taken u 0)) (part u h)) own.1 (own_dropped h taken op q left).1 ∙ ap (λ n. drop n (part t h)) (sym (own_more t own.0))
    | inr other ↦ sym (ap (λ b. if b then op.outcome ∷ entries t q else entries t q) other.0) ∙ left t ∙ ap (λ n. drop n (part t h)) (sym (other_more t other.0))
  ]

-- no kid below n goes on to a member that leaves nothing
abbrev pub NoneTo : List (List SerialOp) → List Event → List ℕ → ℕ → Type 0
NoneTo members h taken n = (j : ℕ) (b : Branch) (q : List SerialOp) → j < n → slice_get (branches_of members) j ≡ Some b → Completes members h taken (b.0 ∷ q) → ⊥

-- the place does not end one
abbrev pub NotHere : List (List SerialOp) → List Event → List ℕ → Type 0
NotHere members h taken = Completes members h taken [] → ⊥

pub least_here : (members : List (List SerialOp)) (h : List Event) (taken : List ℕ) → Completes members h taken [] → IsLeast (Completes members h taken) []
least_here members h taken done = record { is = done; least = λ r k greater. empty_least r greater }

module _ (members : List (List SerialOp)) (is : IsBranching members) (h : List Event) (taken : List ℕ) where
  module _ (n : ℕ) (b : Branch) (at : slice_get (branches_of members) n ≡ Some b) (before : NoneTo members h taken n) where
    kid_at : (j : ℕ) (k : Branch) → j ≡ n → slice_get (branches_of members) j ≡ Some k → k ≡ b
    kid_at j k same there =
        let here : slice_get (branches_of members) n ≡ Some k = subst (λ i. slice_get (branches_of members) i ≡ Some k) same there in
        cc

    none_on : ((q : List SerialOp) → Completes members h taken (b.0 ∷ q) → ⊥) → NoneTo members h taken (n + 1)
    none_on never j k q lt there done = elim (cases_lt j n) as (λ _. ⊥) [
      | inl below ↦ before j k q below there done
      | inr above ↦ never q (subst (λ (x : Branch). Completes members h taken (x.0 ∷ q)) (kid_at j k (omega arith) there) done)
    ]

    -- the kid's operation has not its thread's next outcome
    pub none_past : (slice_get (part b.0.thread h) (get_or taken b.0.thread 0) ≡ Some b.0.outcome → ⊥) → NoneTo members h taken (n + 1)
    none_past never = none_on (λ q done. never (next_left h taken b.0 q done.1))

    module _ (more : List ℕ) (one : IsOneMoreTaken b.0.thread taken more) where
      below_kid : (q : List SerialOp) → Completes members h taken (b.0 ∷ q) → Completes b.1 h more q
      below_kid q done = (sym (branch_has members is n b at q) ∙ done.0, pop_left h taken more b.0 one q done.1)

      -- below the kid there is none
      pub none_kid : ((q : List SerialOp) → Completes b.1 h more q → ⊥) → NoneTo members h taken (n + 1)
      none_kid none = none_on (λ q done. none q (below_kid q done))

      -- the least below the kid
      pub least_kid : NotHere members h taken → slice_get (part b.0.thread h) (get_or taken b.0.thread 0) ≡ Some b.0.outcome → (way : List SerialOp) → IsLeast (Completes b.1 h more) way → IsLeast (Completes members h taken) (b.0 ∷ way)
      least_kid not_here next way found = record {
        is = (branch_has members is n b at way ∙ found.is.0, push_left h taken more b.0 one next way found.is.1);
        least = none_less;
      }
        where
          none_less : (r : List SerialOp) → Completes members h taken r → history_cmp (b.0 ∷ way) r ≡ Greater → ⊥
          none_less [] done greater = not_here done
          none_less (op ∷ r) done greater =
              let kid = member_branch members is op r done.0 in
              let by_kid : Completes members h taken (kid.branch.0 ∷ r) = subst (λ x. Completes members h taken (x ∷ r)) (sym kid.label) done in
              let here : history_cmp (b.0 ∷ way) (kid.branch.0 ∷ r) ≡ Greater = ap (λ x. history_cmp (b.0 ∷ way) (x ∷ r)) kid.label ∙ greater in
              elim (cases_lt kid.place n) as (λ _. ⊥) [
                | inl below ↦ before kid.place kid.branch r below kid.at by_kid
                | inr above ↦ elim (cases_lt n kid.place) as (λ _. ⊥) [
                  | inl later ↦
                      let less = rise_at (branches_of members) n kid.place b kid.branch is.branches.rise later at kid.at in
                      let smaller = ap (λ o. ordering_then o (history_cmp way r)) less in
                      cc
                  | inr le ↦
                      let same = kid_at kid.place kid.branch (omega arith) kid.at in
                      let own : Completes members h taken (b.0 ∷ r) = subst (λ (x : Branch). Completes members h taken (x.0 ∷ r)) same by_kid in
                      let now : history_cmp (b.0 ∷ way) (b.0 ∷ r) ≡ Greater = subst (λ (x : Branch). history_cmp (b.0 ∷ way) (x.0 ∷ r) ≡ Greater) same here in
                      found.least r (below_kid r own) (sym (tied b.0 way r) ∙ now)
                ]
              ]

  -- after the last kid
  pub none_all : (n : ℕ) → n ≡ length (branches_of members) → NotHere members h taken → NoneTo members h taken n → (q : List SerialOp) → Completes members h taken q → ⊥
  none_all n all not_here none [] done = not_here done
  none_all n all not_here none (op ∷ q) done =
      let kid = member_branch members is op q done.0 in
      none kid.place kid.branch q (omega (arith, kid.within)) kid.at (subst (λ x. Completes members h taken (x ∷ q)) (sym kid.label) done)

-- where nothing is taken, what is left is the whole
module _ (members below : List (List SerialOp)) (h : List Event) (all : below ≡ members) where
  whole_to : (q : List SerialOp) → Completes below h (replicate 8 0) q → HasOutcomes (IsMember members) h q
  whole_to q done = (subst (λ hs. IsMember hs q) all done.0, λ t. done.1 t ∙ ap (λ n. drop n (part t h)) (zeros 8 t))

  whole_from : (q : List SerialOp) → HasOutcomes (IsMember members) h q → Completes below h (replicate 8 0) q
  whole_from q has = (subst (λ hs. IsMember hs q) (sym all) has.0, λ t. has.1 t ∙ ap (λ n. drop n (part t h)) (sym (zeros 8 t)))

  pub whole_least : (q : List SerialOp) → IsLeast (Completes below h (replicate 8 0)) q → IsLeast (HasOutcomes (IsMember members) h) q
  whole_least q is = record { is = whole_to q is.is; least = λ r has greater. is.least r (whole_from r has) greater }

  pub whole_none : ((q : List SerialOp) → Completes below h (replicate 8 0) q → ⊥) → (q : List SerialOp) → HasOutcomes (IsMember members) h q → ⊥
  whole_none none q has = none q (whole_from q has)
