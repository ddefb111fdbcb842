-- Precedences that an order of a history's operations breaks, entry by entry.
use Rattle.std.proofs.Common.{◌≡◌, ℕ, ◌+◌, ◌<◌, List, length, take, get_or, Some, slice_get, inl, inr, refl, sym, ap, ◌∙◌, subst, arith}
use Rattle.std.proofs.lemmas.Bool.{cases_lt}
use Rattle.std.proofs.lemmas.List.{take_all}
use Rattle.std.proofs.lemmas.Option.{slice_get_within}
use Rattle.lu_machine.specs.declared.event.Event.{Event}
use Rattle.lu_history.specs.declared.operation.OpId.{OpId}
use Rattle.lu_history.specs.declared.serial.SerialOp.{SerialOp}
use Rattle.lu_history.specs.Histories.{IsCallAt, IsWellFormed, calls}
use Rattle.lu_history.proofs.Events.{call_of, in_turn}
use Rattle.lu_history.proofs.PartEntries.{part_length}
use Rattle.lu_witness.specs.Witnesses.{IsEntryAt, entries}
use Rattle.lu_witness.specs.Search.{AreTaken}
use Rattle.lu_witness.proofs.Entries.{counted_entry}
use Rattle.lu_explain.specs.Explanations.{IsFree}
use Rattle.lu_explain.specs.AnyOrders.{HasEachPart, IsInOrder}

module _ (h : List Event) (well : IsWellFormed h) (q : List SerialOp) (parts : HasEachPart h q) (i : ℕ) (op : SerialOp) (at : slice_get q i ≡ Some op) (taken : List ℕ) (are : AreTaken (take i q) taken) where
  abbrev here : OpId
  here = record { t = op.thread; k = length (entries op.thread (take i q)) }

  is_here : IsEntryAt q i here
  is_here = (op, at, refl, refl)

  -- so many of its thread are called at least
  called_more : length (entries op.thread (take i q)) < calls op.thread h
  called_more = omega (arith, counted_entry q here i (length q) (slice_get_within q i op at) is_here, ap (λ g. length (entries op.thread g)) (take_all (length q) q (omega arith)), ap length (parts op.thread), part_length h well op.thread)

  -- the thread is one of 8
  pub thread_few : op.thread < 8
  thread_few = elim (cases_lt op.thread 8) as (λ _. op.thread < 8) [
    | inl lt ↦ lt
    | inr past ↦ let turn = in_turn h well op.thread in absurd (omega (arith, called_more, turn.none past))
  ]

  -- and has a call to spare
  pub number_few : get_or taken op.thread 0 < 8
  number_few = let turn = in_turn h well op.thread in omega (arith, called_more, are op.thread, turn.few)

  module _ (k : ℕ) (number : k ≡ get_or taken op.thread 0) where
    -- the entry is the operation of this number
    pub entry_is : IsEntryAt q i (record { t = op.thread; k = k })
    entry_is = (op, at, refl, sym (number ∙ are op.thread))

    -- which is called
    pub is_called : (j : ℕ) × IsCallAt h j (record { t = op.thread; k = k })
    is_called = call_of h well (record { t = op.thread; k = k }) (omega (arith, called_more, are op.thread))

    -- and is the only one there
    pub only_entry : (b : OpId) → IsEntryAt q i b → b ≡ record { t = op.thread; k = k }
    only_entry b is =
        let same : is.0 ≡ op = cc (is.1, at) in
        let thread : b.t ≡ op.thread = sym is.2 ∙ ap (λ (x : SerialOp). x.thread) same in
        let count : b.k ≡ k = sym is.3 ∙ ap (λ t. length (entries t (take i q))) thread ∙ sym (are op.thread) ∙ sym number in
        ap (λ t. let a : OpId = record { t = t; k = b.k } in a) thread ∙ ap (λ n. let a : OpId = record { t = op.thread; k = n } in a) count

-- one entry more is in order
pub order_more : (h : List Event) (q : List SerialOp) (n : ℕ) → IsInOrder h q n → ((b : OpId) → IsEntryAt q n b → IsFree h (take n q) b) → IsInOrder h q (n + 1)
order_more h q n before free i b lt is = elim (cases_lt i n) as (λ _. IsFree h (take i q) b) [
  | inl below ↦ before i b below is
  | inr above ↦
      let same : n ≡ i = omega arith in
      subst (λ j. IsFree h (take j q) b) same (free b (subst (λ j. IsEntryAt q j b) (sym same) is))
]
