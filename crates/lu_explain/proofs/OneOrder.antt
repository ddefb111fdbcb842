-- A history has one least order, precedence aside; and it breaks none where it is a witness.
use Rattle.std.proofs.Common.{◌≡◌, ℕ, ◌<◌, List, length, take, Option, Some, None, refl, sym, ap, ◌∙◌, subst, arith, inl, inr}
use Rattle.std.specs.Prelude.{MatchOption}
use Rattle.std.specs.Ordering.{is_eq, ordering_reverse}
use Rattle.std.specs.declared.cmp.Ordering.{Ordering}
use Rattle.std.specs.declared.cmp.Ordering.TheVariants.{Less, Equal, Greater}
use Rattle.std.proofs.lemmas.Bool.{cases_lt}
use Rattle.std.proofs.lemmas.Option.{slice_get_within}
use Rattle.lu_machine.specs.declared.event.Event.{Event}
use Rattle.lu_history.specs.declared.operation.OpId.{OpId}
use Rattle.lu_history.specs.declared.serial.SerialOp.{SerialOp}
use Rattle.lu_history.specs.Histories.{IsWellFormed}
use Rattle.lu_history.specs.Parts.{part}
use Rattle.lu_history.proofs.Events.{called_at}
use Rattle.lu_history.proofs.PartEntries.{part_length}
use Rattle.lu_trie.specs.Members.{history_cmp}
use Rattle.lu_trie.proofs.Ops.{histories_total, same_histories_are}
use Rattle.lu_witness.specs.Witnesses.{IsEntryAt, IsWitness, entries}
use Rattle.lu_witness.proofs.Entries.{counted_entry, entry_before, entry_of}
use Rattle.lu_explain.specs.declared.orders.Precedence.{Precedence}
use Rattle.lu_explain.specs.Explanations.{IsBlocker}
use Rattle.lu_explain.specs.AnyOrders.{HasOutcomes, IsAnyOrder, IsFirstBroken, IsInOrder, IsLeast, AnyOrder, TellsAnyOrder}
use Rattle.lu_explain.specs.Laws.{OneAnyOrder, Taken, UnbrokenIsWitness}
use Rattle.lu_explain.proofs.Partial.{in_counts}
use Rattle.lu_explain.proofs.Explained.{blocker_out, one_blocker}

one_least : (K : List SerialOp → Type 0) (p q : List SerialOp) → IsLeast K p → IsLeast K q → p ≡ q
one_least K p q is also =
    let go : (o : Ordering) → history_cmp p q ≡ o → p ≡ q = elim [
      | Less ↦ λ e. absurd (also.least p is.is (histories_total.antisymm q p ∙ ap ordering_reverse e))
      | Equal ↦ λ e. same_histories_are p q (ap is_eq e)
      | Greater ↦ λ e. absurd (is.least q also.is e)
    ] in
    go (history_cmp p q) refl

same_entry : (q : List SerialOp) (i : ℕ) (a b : OpId) → IsEntryAt q i a → IsEntryAt q i b → a ≡ b
same_entry q i a b is also =
    let op : is.0 ≡ also.0 = cc (is.1, also.1) in
    let thread : a.t ≡ b.t = sym is.2 ∙ ap (λ (x : SerialOp). x.thread) op ∙ also.2 in
    let number : a.k ≡ b.k = sym is.3 ∙ ap (λ t. length (entries t (take i q))) thread ∙ also.3 in
    ap (λ t. let x : OpId = record { t = t; k = a.k } in x) thread ∙ ap (λ n. let x : OpId = record { t = b.t; k = n } in x) number

one_place : (q : List SerialOp) (b : OpId) (i j : ℕ) → IsEntryAt q i b → IsEntryAt q j b → i ≡ j
one_place q b i j is also = elim (cases_lt i j) as (λ _. i ≡ j) [
  | inl lt ↦ absurd (omega (arith, counted_entry q b i j lt is, also.3))
  | inr le ↦ elim (cases_lt j i) as (λ _. i ≡ j) [
    | inl lt ↦ absurd (omega (arith, counted_entry q b j i lt also, is.3))
    | inr ge ↦ omega arith
  ]
]

-- a keeps b from standing at place i
abbrev Blocks : List Event → List SerialOp → ℕ → OpId → OpId → Type 0
Blocks h q i b a = IsBlocker h (take i q) b a

module _ (h : List Event) (q : List SerialOp) where
  -- what is broken at a place is out of order there
  not_in_order : (x : Precedence) (is : IsFirstBroken h q x) (n : ℕ) → is.position < n → IsInOrder h q n → ⊥
  not_in_order x is n lt in_order = blocker_out h (take is.position q) x.second x.first is.first (in_order is.position x.second lt is.second x.first is.first.precedes)

  place_within : (x : Precedence) (is : IsFirstBroken h q x) → is.position < length q
  place_within x is = slice_get_within q is.position is.second.0 is.second.1

  one_broken : (x y : Precedence) → IsFirstBroken h q x → IsFirstBroken h q y → x ≡ y
  one_broken x y is also =
      let place : is.position ≡ also.position = elim (cases_lt is.position also.position) as (λ _. is.position ≡ also.position) [
        | inl lt ↦ absurd (not_in_order x is also.position lt also.before)
        | inr le ↦ elim (cases_lt also.position is.position) as (λ _. is.position ≡ also.position) [
          | inl lt ↦ absurd (not_in_order y also is.position lt is.before)
          | inr ge ↦ omega arith
        ]
      ] in
      let second : x.second ≡ y.second = same_entry q also.position x.second y.second (subst (λ i. IsEntryAt q i x.second) place is.second) also.second in
      let there = subst (λ i. Blocks h q i x.second x.first) place is.first in
      let first : x.first ≡ y.first = one_blocker h (take also.position q) y.second x.first y.first (subst (λ b. Blocks h q also.position b x.first) second there) also.first in
      ap (λ a. let z : Precedence = record { first = a; second = x.second } in z) first ∙ ap (λ b. let z : Precedence = record { first = y.first; second = b } in z) second

  abbrev Breaks : Option Precedence → Type 0
  Breaks found = MatchOption found (IsInOrder h q (length q)) (IsFirstBroken h q)

  same_broken : (x y : Option Precedence) → Breaks x → Breaks y → x ≡ y
  same_broken None None is also = refl
  same_broken None (Some y) is also = absurd (not_in_order y also (length q) (place_within y also) is)
  same_broken (Some x) None is also = absurd (not_in_order x is (length q) (place_within x is) also)
  same_broken (Some x) (Some y) is also = ap Some (one_broken x y is also)

abbrev ordered : List SerialOp → Option Precedence → AnyOrder
ordered order broken = record { order = order; broken = broken }

one_order : (Set : List SerialOp → Type 0) (h : List Event) (d e : AnyOrder) → IsAnyOrder Set h d → IsAnyOrder Set h e → d ≡ e
one_order Set h d e is also =
    let order : d.order ≡ e.order = one_least (HasOutcomes Set h) d.order e.order is.least also.least in
    let broken : d.broken ≡ e.broken = same_broken h e.order d.broken e.broken (subst (λ q. Breaks h q d.broken) order is.broken) also.broken in
    ap (λ q. ordered q d.broken) order ∙ ap (ordered e.order) broken

pub one_any_order : OneAnyOrder
one_any_order test h d e well is also = same d e is also
  where
    same : (d e : Option AnyOrder) → TellsAnyOrder (Taken test) h d → TellsAnyOrder (Taken test) h e → d ≡ e
    same None None is also = refl
    same None (Some e) is also = absurd (is e.order also.least.is)
    same (Some d) None is also = absurd (also d.order is.least.is)
    same (Some d) (Some e) is also = ap Some (one_order (Taken test) h d e is also)

-- an order that has the outcomes of h, with nothing out of order, is a witness
in_order_witness : (h : List Event) (q : List SerialOp) → IsWellFormed h → ((t : ℕ) → entries t q ≡ part t h) → IsInOrder h q (length q) → IsWitness q h
in_order_witness h q well parts in_order = record {
  parts = parts;
  order = λ a b prec.
      let there = entry_of q b (omega (arith, called_at h prec.1 b well prec.4, ap length (parts b.t), part_length h well b.t)) in
      let free = in_order there.0 b (slice_get_within q there.0 there.1.0 there.1.1) there.1 a prec in
      let first = entry_before q a there.0 (in_counts (take there.0 q) a free) in
      (first.0, there.0, first.1, first.2, there.1);
}

-- and a witness breaks none
witness_unbroken : (h : List Event) (q : List SerialOp) (found : Option Precedence) → Breaks h q found → IsWitness q h → found ≡ None
witness_unbroken h q None is witness = refl
witness_unbroken h q (Some x) is witness =
    let stands = witness.order x.first x.second is.first.precedes in
    let place = one_place q x.second stands.1 is.position stands.4 is.second in
    let left = ap (λ (a : OpId). a.k) is.first.left in
    absurd (omega (arith, counted_entry q x.first stands.0 is.position (omega (arith, stands.2)) stands.3, left))

unbroken_order : (h : List Event) (q : List SerialOp) (found : Option Precedence) → Breaks h q found → found ≡ None → IsInOrder h q (length q)
unbroken_order h q None is e = is
unbroken_order h q (Some x) is e = cc

pub unbroken_is_witness : UnbrokenIsWitness
unbroken_is_witness test h o well is = (
  λ e. in_order_witness h o.order well is.least.is.1 (unbroken_order h o.order o.broken is.broken e),
  λ witness. witness_unbroken h o.order o.broken is.broken witness,
)
