-- What rounds through the code of an operation keep, and that they come to an end.
use Rattle.std.proofs.Common.{◌≡◌, ℕ, zero, suc, ◌+◌, ◌-◌, ◌<◌, ◌≤◌, ◌⊎◌, inl, inr, ◌||◌, Bool, true, false, cond, List, [], ◌∷◌, ◌++◌, Option, None, Some, get_or, set, replicate, length, length-append, slice_get, refl, sym, ◌∙◌, ap, subst, arith, not}
use Rattle.std.specs.List.{count_by}
use Rattle.std.proofs.lemmas.Bool.{and_cases, and_parts, cases_Bool, cases_eq, cases_lt, both_ways, not-true, true≢false}
use Rattle.std.proofs.lemmas.List.{get_or_append_left, get_or_past, get_or_push, get_or-replicate, length-replicate, get_or-set_other, get_or-set_same}
use Rattle.std.proofs.lemmas.List.Sums.{sum_by-set}
use Rattle.std.proofs.lemmas.Option.{get_or_from_slice_get, slice_get_within, slice_get-get_or}
use Rattle.lu_component.specs.Component.{Component, EndsWell, IsCode, IsComponent, IsInstr, IsLast, IsOp}
use Rattle.lu_component.specs.declared.component.Op.{Op}
use Rattle.lu_component.specs.declared.instr.Instr.{Instr}
use Rattle.lu_component.specs.declared.instr.Instr.TheVariants.{Set, Compute, Load, Store, Cas, Lock, Unlock, Await, AwaitNot, Pick, Jump, JumpIfZero, Return}
use Rattle.lu_machine.specs.States.{instr_at}
use Rattle.lu_machine.proofs.Moves.{all_at}
use Rattle.lu_horizon.specs.Dead.{AreDeadAt, GoesTo, IsLive, TellsDead, dead_at, dead_before, dead_after, reads, writes, IsDeadTable, is_dead, IsReadAlong}
use Rattle.lu_horizon.specs.Rounds.{AreLive, AreLiveIn, AreWithin, IsRound, IsSettledAt, dead_count, with_live}

-- ---- cells

-- what is said to be dead stands in the table
pub dead_within : (places : List (List Bool)) (place r : ℕ) → dead_at places place r ≡ true → (place < length places) × (r < length (get_or places place []))
dead_within places place r is =
    elim (cases_lt r (length (get_or places place []))) as (λ _. (place < length places) × (r < length (get_or places place []))) [
      | inr ge ↦ absurd (both_ways (dead_at places place r) (get_or_past (get_or places place []) r false ge) is)
      | inl lt ↦ elim (cases_lt place (length places)) as (λ _. (place < length places) × (r < length (get_or places place []))) [
        | inl within ↦ (within, lt)
        | inr past ↦ (let none : get_or places place [] ≡ [] = get_or_past places place [] past in
            absurd (both_ways (dead_at places place r) (rw none refl) is))
      ]
    ]

-- another cell says what it said
pub with_live_other : (places : List (List Bool)) (place r p q : ℕ) → place < length places → ((p ≡ place) × (q ≡ r)) ⊎ (dead_at (with_live places place r) p q ≡ dead_at places p q)
with_live_other places place r p q within =
    let row = get_or places place [] in
    elim (cases_eq p place) [
      | inr differs ↦ inr (ap (λ (x : List Bool). get_or x q false) (get_or-set_other places place p (set row r false) [] differs))
      | inl same ↦ elim (cases_eq q r) [
        | inl at ↦ inl (same, at)
        | inr differs ↦ inr (rw same (ap (λ (x : List Bool). get_or x q false) (get_or-set_same places place (set row r false) [] within) ∙ get_or-set_other row r q false false differs))
      ]
    ]

-- less is said to be dead
pub fewer_with_live : (places : List (List Bool)) (place r : ℕ) → dead_at places place r ≡ true → dead_count (with_live places place r) < dead_count places
fewer_with_live places place r is =
    let row = get_or places place [] in
    let within = dead_within places place r is in
    let count : List Bool → ℕ = count_by (λ dead. dead) in
    let of_row : count (set row r false) + cond (get_or row r false) 1 0 ≡ count row + cond false 1 0 = sum_by-set (λ (x : Bool). cond x 1 0) row r false false within.1 in
    let one : ◌≡◌ {A = ℕ} (cond (get_or row r false) 1 0) 1 = rw is refl in
    let of_all : dead_count (with_live places place r) + count row ≡ dead_count places + count (set row r false) = sum_by-set count places place (set row r false) [] within.0 in
    omega (arith, of_row, one, of_all)

-- ---- where an operation may go

-- after an instruction that code can't end with there is one
onward_within : (arrays locks : ℕ) (code : List Instr) (place : ℕ) (instr : Instr) → IsCode arrays locks code → slice_get code place ≡ Some instr → (IsLast instr → ⊥) → place + 1 < length code
onward_within arrays locks code place instr is at not_last =
    let within = slice_get_within code place instr at in
    elim (cases_lt (place + 1) (length code)) [
      | inl lt ↦ lt
      | inr ge ↦
          (let last : place ≡ length code - 1 = omega (arith, within, ge) in
          let at_last : slice_get code (length code - 1) ≡ Some instr = subst (λ x. slice_get code x ≡ Some instr) last at in
          absurd (not_last (subst EndsWell at_last is.ends)))
    ]

-- an operation stays in its code
next_within : (arrays locks : ℕ) (code : List Instr) (place next : ℕ) (instr : Instr) → IsCode arrays locks code → slice_get code place ≡ Some instr → IsInstr arrays locks (length code) instr → GoesTo place instr next → next < length code
next_within arrays locks code place next (Set to v) is at names goes = rw goes (onward_within arrays locks code place (Set to v) is at (λ x. x))
next_within arrays locks code place next (Compute by to a b) is at names goes = rw goes (onward_within arrays locks code place (Compute by to a b) is at (λ x. x))
next_within arrays locks code place next (Load to w i) is at names goes = rw goes (onward_within arrays locks code place (Load to w i) is at (λ x. x))
next_within arrays locks code place next (Store w i v) is at names goes = rw goes (onward_within arrays locks code place (Store w i v) is at (λ x. x))
next_within arrays locks code place next (Cas to w i old new) is at names goes = rw goes (onward_within arrays locks code place (Cas to w i old new) is at (λ x. x))
next_within arrays locks code place next (Lock l) is at names goes = rw goes (onward_within arrays locks code place (Lock l) is at (λ x. x))
next_within arrays locks code place next (Unlock l) is at names goes = rw goes (onward_within arrays locks code place (Unlock l) is at (λ x. x))
next_within arrays locks code place next (Await w i v) is at names goes = rw goes (onward_within arrays locks code place (Await w i v) is at (λ x. x))
next_within arrays locks code place next (AwaitNot w i v) is at names goes = rw goes (onward_within arrays locks code place (AwaitNot w i v) is at (λ x. x))
next_within arrays locks code place next (Pick to count) is at names goes = rw goes (onward_within arrays locks code place (Pick to count) is at (λ x. x))
next_within arrays locks code place next (Jump target) is at names goes = rw goes names
next_within arrays locks code place next (JumpIfZero v target) is at names goes =
    elim goes [
      | inl jumps ↦ rw jumps names.1
      | inr on ↦ rw on (onward_within arrays locks code place (JumpIfZero v target) is at (λ x. x))
    ]
next_within arrays locks code place next (Return v) is at names goes = absurd goes

next_by_op : (c : Component) (op : ℕ) (o : Option Op) → IsComponent c → slice_get c.operations op ≡ o → (place next : ℕ) (instr : Instr) → instr_at c op place ≡ Some instr → GoesTo place instr next → (i : Instr) × (instr_at c op next ≡ Some i)
unfolding instr_at
next_by_op c op None is none place next instr at goes = (let at' = rw none at at in absurd (cc))
next_by_op c op (Some o) is some place next instr at goes =
    let at' : slice_get o.code place ≡ Some instr = rw some at at in
    let isop = all_at (IsOp (length c.arrays) (length c.locks)) c.operations op o is.operations some in
    let names = all_at (IsInstr (length c.arrays) (length c.locks) (length o.code)) o.code place instr isop.code.instrs at' in
    let within = next_within (length c.arrays) (length c.locks) o.code place next instr isop.code at' names goes in
    (get_or o.code next instr, rw some (slice_get-get_or o.code next instr within))

-- where an operation may go there is an instruction
next_there : (c : Component) (op place next : ℕ) (instr : Instr) → IsComponent c → instr_at c op place ≡ Some instr → GoesTo place instr next → (i : Instr) × (instr_at c op next ≡ Some i)
next_there c op place next instr is at goes = next_by_op c op (slice_get c.operations op) is refl place next instr at goes

-- ---- live

-- what is not dead after an instruction is not dead at some place to which the operation may go
lives_after : (dead : ℕ → ℕ → Bool) (place : ℕ) (instr : Instr) (r : ℕ) → dead_after dead place instr r ≡ false → (next : ℕ) × GoesTo place instr next × (dead next r ≡ false)
lives_after dead place (Set to v) r is = (place + 1, refl, is)
lives_after dead place (Compute by to a b) r is = (place + 1, refl, is)
lives_after dead place (Load to w i) r is = (place + 1, refl, is)
lives_after dead place (Store w i v) r is = (place + 1, refl, is)
lives_after dead place (Cas to w i old new) r is = (place + 1, refl, is)
lives_after dead place (Lock l) r is = (place + 1, refl, is)
lives_after dead place (Unlock l) r is = (place + 1, refl, is)
lives_after dead place (Await w i v) r is = (place + 1, refl, is)
lives_after dead place (AwaitNot w i v) r is = (place + 1, refl, is)
lives_after dead place (Pick to count) r is = (place + 1, refl, is)
lives_after dead place (Jump target) r is = (target, refl, is)
lives_after dead place (JumpIfZero v target) r is =
    elim (and_cases (dead target r) (dead (place + 1) r) is) as (λ _. (next : ℕ) × GoesTo place (JumpIfZero v target) next × (dead next r ≡ false)) [
      | inl jumps ↦ (target, inl refl, jumps)
      | inr on ↦ (place + 1, inr refl, on)
    ]
lives_after dead place (Return v) r is = absurd (true≢false is)

or_false : (x y : Bool) → (x || y) ≡ false → (x ≡ false) × (y ≡ false)
or_false false y is = (refl, is)
or_false true y is = absurd (true≢false is)

-- what is read, or neither written nor dead after, is live
live_at : (c : Component) (op place r : ℕ) (instr : Instr) (places : List (List Bool)) → IsComponent c → AreLive c op places → instr_at c op place ≡ Some instr → r < 8 → dead_before (dead_at places) place instr r ≡ false → IsLive c op place r
live_at c op place r instr places is live at few said =
    elim (cases_Bool (reads instr r)) as (λ _. IsLive c op place r) [
      | inl read ↦ ([], (instr, at, read))
      | inr unread ↦
          (let kept : (writes instr r || dead_after (dead_at places) place instr r) ≡ false = rw unread at said in
          let parts = or_false (writes instr r) (dead_after (dead_at places) place instr r) kept in
          let behind = lives_after (dead_at places) place instr r parts.1 in
          let there = next_there c op place behind.0 instr is at behind.1 in
          let on = live behind.0 r there.0 there.1 few behind.2 in
          (behind.0 ∷ on.0, (instr, at, parts.0, behind.1, on.1)))
    ]

-- ---- rounds

-- nothing was looked at yet
pub round_none : (code : List Instr) (places : List (List Bool)) → IsRound code places places false
round_none code places = record {
  no_more = λ place r is. is;
  live = λ live. live;
  fewer = λ less. absurd (true≢false (sym less));
  same = λ _. refl;
}

-- one more
pub round_then : (code : List Instr) (a b d : List (List Bool)) (x y : Bool) → IsRound code a b x → IsRound code b d y → IsRound code a d (x || y)
round_then code a b d false y before then = record {
  no_more = λ place r is. before.no_more place r (then.no_more place r is);
  live = λ live. then.live (before.live live);
  fewer = λ less. subst (λ z. dead_count d < dead_count z) (before.same refl) (then.fewer less);
  same = λ same. then.same same ∙ before.same refl;
}
round_then code a b d true false before then = record {
  no_more = λ place r is. before.no_more place r (then.no_more place r is);
  live = λ live. then.live (before.live live);
  fewer = λ less. rw (then.same refl) (before.fewer refl);
  same = λ same. absurd (true≢false same);
}
round_then code a b d true true before then = record {
  no_more = λ place r is. before.no_more place r (then.no_more place r is);
  live = λ live. then.live (before.live live);
  fewer = λ less. omega (arith, before.fewer refl, then.fewer refl);
  same = λ same. absurd (true≢false same);
}

-- a register is said no more to be dead where it is not
pub round_one : (code : List Instr) (places : List (List Bool)) (place r : ℕ) (instr : Instr) → slice_get code place ≡ Some instr → dead_at places place r ≡ true → dead_before (dead_at places) place instr r ≡ false → IsRound code places (with_live places place r) true
round_one code places place r instr at was not_dead = record {
  no_more = λ p q is. elim (with_live_other places place r p q (dead_within places place r was).0) as (λ _. dead_at places p q ≡ true) [
    | inr other ↦ sym other ∙ is
    | inl one ↦ rw (one.0, one.1) was
  ];
  live = λ live c op is of p q i there few said.
      elim (with_live_other places place r p q (dead_within places place r was).0) as (λ _. IsLive c op p q) [
        | inr other ↦ live c op is of p q i there few (sym other ∙ said)
        | inl one ↦
            (let here : instr_at c op place ≡ Some instr = of place ∙ at in
            let low : r < 8 = subst (λ x. x < 8) one.1 few in
            rw (one.0, one.1) (live_at c op place r instr places is (live c op is of) here low not_dead))
      ];
  fewer = λ _. fewer_with_live places place r was;
  same = λ same. absurd (true≢false same);
}

-- what the place's instruction finds not to be dead, and what it finds to be so
pub round_at : (code : List Instr) (places : List (List Bool)) (place r : ℕ) (d : Instr) → place < length code → dead_at places place r ≡ true → dead_before (dead_at places) place (get_or code place d) r ≡ false → IsRound code places (with_live places place r) true
round_at code places place r d within was not_dead = round_one code places place r (get_or code place d) (slice_get-get_or code place d within) was not_dead

pub settled_at : (code : List Instr) (places : List (List Bool)) (place r : ℕ) (d : Instr) → dead_before (dead_at places) place (get_or code place d) r ≡ true → IsSettledAt code places place r
settled_at code places place r d dead instr at is =
    subst (λ z. dead_before (dead_at places) place z r ≡ true) (get_or_from_slice_get code place instr d at) dead

-- one register more is settled
pub settled_more : (code : List Instr) (a b : List (List Bool)) (place i : ℕ) (x y : Bool) → IsRound code a b y → (x ≡ false → (r : ℕ) → r < i → IsSettledAt code a place r) → (y ≡ false → IsSettledAt code b place i) → (x || y) ≡ false → (r : ℕ) → r < i + 1 → IsSettledAt code b place r
settled_more code a b place i x y round before here none r less =
    let parts = or_false x y none in
    elim (cases_lt r i) as (λ _. IsSettledAt code b place r) [
      | inl lt ↦ subst (λ z. IsSettledAt code z place r) (sym (round.same parts.1)) (before parts.0 r lt)
      | inr ge ↦ (let same : i ≡ r = omega (arith, less, ge) in subst (λ z. IsSettledAt code b place z) same (here parts.1))
    ]

-- and all eight
pub settled_all : (code : List Instr) (places : List (List Bool)) (place i : ℕ) → length (get_or places place []) ≤ i → ((r : ℕ) → r < i → IsSettledAt code places place r) → AreDeadAt code places place
settled_all code places place i all settled instr r at is =
    let within = dead_within places place r is in
    settled r (omega (arith, all, within.1)) instr at is

-- one place more is settled
pub places_more : (code : List Instr) (a b : List (List Bool)) (i at : ℕ) (x y : Bool) → i < length code → at ≡ length code - 1 - i → IsRound code a b y → (x ≡ false → (place : ℕ) → length code ≤ place + i → AreDeadAt code a place) → (y ≡ false → AreDeadAt code b at) → (x || y) ≡ false → (place : ℕ) → length code ≤ place + (i + 1) → AreDeadAt code b place
places_more code a b i at x y within is round before here none place from =
    let parts = or_false x y none in
    elim (cases_lt place (length code - i)) as (λ _. AreDeadAt code b place) [
      | inl lt ↦ (let same : at ≡ place = omega (arith, within, is, from, lt) in subst (λ z. AreDeadAt code b z) same (here parts.1))
      | inr ge ↦ subst (λ z. AreDeadAt code z place) (sym (round.same parts.1)) (before parts.0 place (omega (arith, ge)))
    ]

-- and after the end of the code there is none
pub places_none_yet : (code : List Instr) (places : List (List Bool)) (place : ℕ) → length code ≤ place + 0 → AreDeadAt code places place
places_none_yet code places place past instr r at is =
    let within = slice_get_within code place instr at in
    absurd (omega (arith, past, within))

-- at first all is said to be dead
pub all_dead : (code : List Instr) (row : List Bool) → ((r : ℕ) → r < 8 → get_or row r false ≡ true) → AreLiveIn code (replicate (length code) row)
all_dead code row dead c op is of place r instr at few said =
    let within = slice_get_within code place instr (sym (of place) ∙ at) in
    let has : get_or (replicate (length code) row) place [] ≡ row = get_or-replicate (length code) place row [] within in
    absurd (both_ways (dead_at (replicate (length code) row) place r) said (rw has (dead r few)))

pub all_within : (code : List Instr) → AreWithin code (replicate (length code) (replicate 8 true))
all_within code place r is =
    let both = dead_within (replicate (length code) (replicate 8 true)) place r is in
    let place_in : place < length code = omega (arith, both.0, length-replicate (length code) (replicate 8 true)) in
    let row : get_or (replicate (length code) (replicate 8 true)) place [] ≡ replicate 8 true = get_or-replicate (length code) place (replicate 8 true) [] place_in in
    (place_in, omega (arith, both.1, ap length row, length-replicate 8 true))

-- ---- tables

-- what is said to be dead of an operation is one of its eight registers at a place of its code
abbrev pub IsWithinOp : Component → ℕ → List (List Bool) → Type 0
IsWithinOp c op places =
    (place r : ℕ) → dead_at places place r ≡ true → ((instr : Instr) × (instr_at c op place ≡ Some instr)) × (r < 8)

pub within_op : (c : Component) (op : ℕ) (code : List Instr) (places : List (List Bool)) → ((place : ℕ) → instr_at c op place ≡ slice_get code place) → AreWithin code places → IsWithinOp c op places
within_op c op code places of within place r is =
    let both = within place r is in
    let there = some_in code place both.0 in
    ((there.0, of place ∙ there.1), both.1)
  where
    some_in : (xs : List Instr) (i : ℕ) → i < length xs → (x : Instr) × (slice_get xs i ≡ Some x)
    some_in [] i lt = absurd (omega (arith, lt))
    some_in (x ∷ xs) zero lt = (x, refl)
    some_in (x ∷ xs) (suc i) lt = some_in xs i (omega (arith, lt))

pub within_none : (c : Component) (op : ℕ) → IsWithinOp c op []
within_none c op place r is = absurd (both_ways (dead_at [] place r) refl is)

pub within_push : (c : Component) (table : List (List (List Bool))) (op : ℕ) (places : List (List Bool)) → op ≡ length table → IsWithinOp c op places → ((o : ℕ) → IsWithinOp c o (get_or table o [])) → (o : ℕ) → IsWithinOp c o (get_or (table ++ places ∷ []) o [])
within_push c table op places many here before o =
    elim (cases_lt o (length table)) as (λ _. IsWithinOp c o (get_or (table ++ places ∷ []) o [])) [
      | inl lt ↦ subst (IsWithinOp c o) (sym (get_or_append_left table (places ∷ []) [] o lt)) (before o)
      | inr ge ↦ elim (cases_eq o op) as (λ _. IsWithinOp c o (get_or (table ++ places ∷ []) o [])) [
        | inl same ↦
            (let now : get_or (table ++ places ∷ []) o [] ≡ places = get_or_push table places [] o (omega (arith, same, many)) in
            subst (IsWithinOp c o) (sym now) (subst (λ x. IsWithinOp c x places) (sym same) here))
        | inr differs ↦
            (let past : get_or (table ++ places ∷ []) o [] ≡ [] = get_or_past (table ++ places ∷ []) o [] (omega (arith, ge, differs, many, length-append table (places ∷ []))) in
            subst (IsWithinOp c o) (sym past) (within_none c o))
      ]
    ]

-- an operation more, in whose code what is not said to be dead is live
pub live_push : (c : Component) (table : List (List (List Bool))) (op : ℕ) (places : List (List Bool)) → op ≡ length table → AreLive c op places → ((o : ℕ) → o < length table → AreLive c o (get_or table o [])) → (o : ℕ) → o < length (table ++ places ∷ []) → AreLive c o (get_or (table ++ places ∷ []) o [])
live_push c table op places many live before o less =
    elim (cases_lt o (length table)) as (λ _. AreLive c o (get_or (table ++ places ∷ []) o [])) [
      | inl lt ↦ subst (AreLive c o) (sym (get_or_append_left table (places ∷ []) [] o lt)) (before o lt)
      | inr ge ↦
          (let same : o ≡ op = omega (arith, less, ge, many, length-append table (places ∷ [])) in
          let now : get_or (table ++ places ∷ []) o [] ≡ places = get_or_push table places [] o (omega (arith, same, many)) in
          subst (AreLive c o) (sym now) (subst (λ x. AreLive c x places) (sym same) live))
    ]

op_within : (c : Component) (op place : ℕ) (instr : Instr) (o : Option Op) → slice_get c.operations op ≡ o → instr_at c op place ≡ Some instr → op < length c.operations
unfolding instr_at
op_within c op place instr None is at = (let at' = rw is at at in absurd (cc))
op_within c op place instr (Some o) is at = slice_get_within c.operations op o is

-- what the table does not say to be dead, of the eight registers at a place in the code, is live
abbrev pub LiveAll : Component → List (List (List Bool)) → Type 0
LiveAll c table =
    (op place r : ℕ) (instr : Instr) → instr_at c op place ≡ Some instr → r < 8
    → is_dead table op place r ≡ false → IsLive c op place r

-- of all operations
pub live_all : (c : Component) (table : List (List (List Bool))) → length c.operations ≤ length table → ((o : ℕ) → o < length table → AreLive c o (get_or table o [])) → LiveAll c table
live_all c table all live op place r instr at few said =
    let within = op_within c op place instr (slice_get c.operations op) refl at in
    live op (omega (arith, within, all)) place r instr at few said

-- ---- what is said to be dead is not live

-- what is dead after an instruction is dead wherever the operation may go
dead_where : (dead : ℕ → ℕ → Bool) (place : ℕ) (instr : Instr) (r next : ℕ) → dead_after dead place instr r ≡ true → GoesTo place instr next → dead next r ≡ true
dead_where dead place (Set to v) r next is goes = rw goes is
dead_where dead place (Compute by to a b) r next is goes = rw goes is
dead_where dead place (Load to w i) r next is goes = rw goes is
dead_where dead place (Store w i v) r next is goes = rw goes is
dead_where dead place (Cas to w i old new) r next is goes = rw goes is
dead_where dead place (Lock l) r next is goes = rw goes is
dead_where dead place (Unlock l) r next is goes = rw goes is
dead_where dead place (Await w i v) r next is goes = rw goes is
dead_where dead place (AwaitNot w i v) r next is goes = rw goes is
dead_where dead place (Pick to count) r next is goes = rw goes is
dead_where dead place (Jump target) r next is goes = rw goes is
dead_where dead place (JumpIfZero v target) r next is goes =
    let parts = and_parts (dead target r) (dead (place + 1) r) is in
    elim goes [
      | inl jumps ↦ rw jumps parts.0
      | inr on ↦ rw on parts.1
    ]
dead_where dead place (Return v) r next is goes = absurd goes

unread_along : (c : Component) (table : List (List (List Bool))) (op r : ℕ) → IsDeadTable c table → (way : List ℕ) (place : ℕ) → is_dead table op place r ≡ true → IsReadAlong c op r place way → ⊥
unread_along c table op r dead [] place is (instr, at, read) =
    let said = dead op place instr r at is in
    let parts = and_parts (not (reads instr r)) (writes instr r || dead_after (is_dead table op) place instr r) said in
    both_ways (reads instr r) (not-true (reads instr r) parts.0) read
unread_along c table op r dead (next ∷ way) place is (instr, at, kept, goes, along) =
    let said = dead op place instr r at is in
    let parts = and_parts (not (reads instr r)) (writes instr r || dead_after (is_dead table op) place instr r) said in
    let behind : dead_after (is_dead table op) place instr r ≡ true = rw kept at parts.1 in
    unread_along c table op r dead way next (dead_where (is_dead table op) place instr r next behind goes) along

pub dead_is_not_live : (c : Component) (table : List (List (List Bool))) (op place r : ℕ) → IsDeadTable c table → is_dead table op place r ≡ true → IsLive c op place r → ⊥
dead_is_not_live c table op place r dead is live = unread_along c table op r dead live.0 place is live.1

-- so the table says of each register whether it is dead
pub tells_dead : (c : Component) (table : List (List (List Bool))) → IsDeadTable c table → LiveAll c table → ((op : ℕ) → IsWithinOp c op (get_or table op [])) → TellsDead c table
tells_dead c table dead live within op place r = (
  λ is. record {
    there = (within op place r is).0;
    register = (within op place r is).1;
    unread = dead_is_not_live c table op place r dead is;
  },
  λ is. elim (cases_Bool (is_dead table op place r)) as (λ _. is_dead table op place r ≡ true) [
    | inl so ↦ so
    | inr not_so ↦ absurd (is.unread (live op place r is.there.0 is.there.1 is.register not_so))
  ],
)
