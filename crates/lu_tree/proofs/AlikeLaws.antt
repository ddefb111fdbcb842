-- States that differ in dead registers alone go on alike: by the same moves, with the same events, to such states again.
use Rattle.std.proofs.Common.{◌≡◌, ℕ, ◌+◌, ◌==◌, ◌&&◌, ◌||◌, ◌⊎◌, not, if◌then◌else◌, Bool, true, false, List, Option, Some, None, MatchOption, MatchBool, length, slice_set, slice_index, get_or, refl, sym, ◌∙◌, ap, inl, inr, arith}
use Rattle.std.proofs.lemmas.Bool.{and_parts, both_ways, cases_eq, cases_lt, false_from_ne_true, not-true, or_cases, or_parts}
use Rattle.std.proofs.lemmas.Bool.Decides.{nat_tests}
use Rattle.std.proofs.lemmas.List.{get_or-set_same, get_or-set_other, get_or_past, length-set}
use Rattle.lu_component.specs.declared.instr.Instr.{Instr}
use Rattle.lu_component.specs.declared.instr.Instr.TheVariants.{Set, Compute, Load, Store, Cas, Lock, Unlock, Await, AwaitNot, Pick, Jump, JumpIfZero, Return}
use Rattle.lu_component.specs.declared.instr.Operand.{Operand}
use Rattle.lu_component.specs.declared.instr.Operand.TheVariants.{Reg, Num}
use Rattle.lu_test.specs.declared.schedule.Move.{Move}
use Rattle.lu_machine.specs.declared.event.Outcome.{Outcome}
use Rattle.lu_machine.specs.declared.event.Outcome.TheVariants.{Ret, Trap}
use Rattle.lu_machine.specs.declared.thread.Frame.{Frame}
use Rattle.lu_machine.specs.declared.thread.Thread.{Thread}
use Rattle.lu_machine.specs.declared.undo.Shared.{Shared}
use Rattle.lu_machine.specs.declared.undo.Shared.TheVariants.{Nothing, Cell, Owner}
use Rattle.lu_machine.specs.Effects.{Effect, computed, onward, onward_at, onward_with, value_of}
use Rattle.lu_machine.specs.Effects.Effect.{Ends}
use Rattle.lu_machine.specs.States.{State, cell_at, cell_of, value_at, with_cell, with_owner}
use Rattle.lu_machine.specs.Steps.{Carries, owns, thread_after, event_after}
use Rattle.lu_horizon.specs.Dead.{DeadTable, dead_before, is_dead, names_register}
use Rattle.lu_tree.specs.declared.access.Access.{Access}
use Rattle.lu_tree.specs.declared.access.Location.{Location}
use Rattle.lu_tree.specs.declared.access.Location.TheVariants as location
use Rattle.lu_tree.specs.Alike.{AreStandingAlike}
use Rattle.lu_tree.proofs.Accessing.{AccessSame, HoldsSame, written}

-- with other registers
abbrev pub with_registers : Frame → List ℕ → Frame
with_registers f registers = record f { registers = registers }

-- what an instruction does to its operation: it goes on at a place, it goes on there with a value in a register, or it ends
pub data Change : Type 0 where
  GoesTo : ℕ → Change
  Sets : ℕ → ℕ → ℕ → Change
  Finishes : Outcome → Change

abbrev pub effect_of : Frame → Change → Effect
effect_of f (GoesTo place) = onward_at f place
effect_of f (Sets place r n) = onward_at (record f { registers = slice_set f.registers r n }) place
effect_of f (Finishes outcome) = Ends outcome

-- what was dead is written by the change, or dead where it goes on
abbrev pub Keeps : DeadTable → Frame → Change → Type 0
Keeps table f (GoesTo place) =
    (r : ℕ) → is_dead table f.op f.place r ≡ true → is_dead table f.op place r ≡ true
Keeps table f (Sets place to n) =
    (r : ℕ) → is_dead table f.op f.place r ≡ true → (to ≡ r) ⊎ (is_dead table f.op place r ≡ true)
Keeps table f (Finishes outcome) = Unit {0}

-- what an instruction does, and that it does the same with registers that differ where they are dead
pub record Changing (table : DeadTable) (s : State) (m : Move) (f : Frame) (registers : List ℕ) (instr : Instr) (new : State) (e : Effect) : Type 0 where
  pub change : Change
  pub is : e ≡ effect_of f change
  pub there : Carries s m (with_registers f registers) instr new (effect_of (with_registers f registers) change)
  pub keeps : Keeps table f change

module _ (table : DeadTable) (f : Frame) (rs : List ℕ) (many : length rs ≡ length f.registers) (live : (r : ℕ) → is_dead table f.op f.place r ≡ false → slice_index rs r ≡ slice_index f.registers r) where
  abbrev g : Frame
  g = with_registers f rs

  Dead : ℕ → Type 0
  Dead r = is_dead table f.op f.place r ≡ true

  -- what is read is the same
  same_value : (o : Operand) → ((r : ℕ) → is_dead table f.op f.place r ≡ true → names_register r o ≡ false) → value_of g o ≡ value_of f o
  same_value (Num n) unread = refl
  same_value (Reg q) unread = live q (false_from_ne_true (is_dead table f.op f.place q) (λ dead. absurd (let other : (q == q) ≡ false = unread q dead in grind (arith, nat_tests))))

  is_one : (to r : ℕ) → (to == r) ≡ true → to ≡ r
  is_one to r is = grind (arith, nat_tests)

  unread : (read : ℕ → Bool) (next : ℕ → Bool) → ((r : ℕ) → is_dead table f.op f.place r ≡ true → (not (read r) && next r) ≡ true) → (r : ℕ) → is_dead table f.op f.place r ≡ true → read r ≡ false
  unread read next closed r dead = not-true (read r) (and_parts (not (read r)) (next r) (closed r dead)).0

  behind : (read : ℕ → Bool) (next : ℕ → Bool) → ((r : ℕ) → is_dead table f.op f.place r ≡ true → (not (read r) && next r) ≡ true) → (r : ℕ) → is_dead table f.op f.place r ≡ true → next r ≡ true
  behind read next closed r dead = (and_parts (not (read r)) (next r) (closed r dead)).1

  -- a register is written
  sets : (to place n : ℕ) → ((r : ℕ) → is_dead table f.op f.place r ≡ true → ((to == r) || is_dead table f.op place r) ≡ true) → Keeps table f (Sets place to n)
  sets to place n next = λ r dead.
      elim (or_cases (to == r) (is_dead table f.op place r) (next r dead)) as (λ _. (to ≡ r) ⊎ (is_dead table f.op place r ≡ true)) [
        | inl is ↦ inl (is_one to r is)
        | inr on ↦ inr on
      ]

  load_live : (s : State) (to : ℕ) (o q : Option ℕ) (e : Effect) → q ≡ o → MatchOption o (e ≡ Ends Trap) (λ p. e ≡ onward_with f to (value_at s p)) → ((n : ℕ) → Keeps table f (Sets (f.place + 1) to n)) → (change : Change) × (e ≡ effect_of f change) × MatchOption q (effect_of g change ≡ Ends Trap) (λ p. effect_of g change ≡ onward_with g to (value_at s p)) × Keeps table f change
  load_live s to None q e is h keeps = (Finishes Trap, h, rw is refl, tt)
  load_live s to (Some p) q e is h keeps = (Sets (f.place + 1) to (value_at s p), h, rw is refl, keeps (value_at s p))

  store_live : (s new : State) (n k : ℕ) (o q : Option ℕ) (e : Effect) → q ≡ o → k ≡ n → MatchOption o ((new ≡ s) × (e ≡ Ends Trap)) (λ p. (new ≡ with_cell s p n) × (e ≡ onward f)) → Keeps table f (GoesTo (f.place + 1)) → (change : Change) × (e ≡ effect_of f change) × MatchOption q ((new ≡ s) × (effect_of g change ≡ Ends Trap)) (λ p. (new ≡ with_cell s p k) × (effect_of g change ≡ onward g)) × Keeps table f change
  store_live s new n k None q e is value h keeps = (Finishes Trap, h.1, rw is (h.0, refl), tt)
  store_live s new n k (Some p) q e is value h keeps = (GoesTo (f.place + 1), h.1, rw (is, value) (h.0, refl), keeps)

  swap_live : (s new : State) (to p n : ℕ) (b : Bool) (e : Effect) → MatchBool b ((new ≡ with_cell s p n) × (e ≡ onward_with f to 1)) ((new ≡ s) × (e ≡ onward_with f to 0)) → ((n : ℕ) → Keeps table f (Sets (f.place + 1) to n)) → (change : Change) × (e ≡ effect_of f change) × MatchBool b ((new ≡ with_cell s p n) × (effect_of g change ≡ onward_with g to 1)) ((new ≡ s) × (effect_of g change ≡ onward_with g to 0)) × Keeps table f change
  swap_live s new to p n true e h keeps = (Sets (f.place + 1) to 1, h.1, (h.0, refl), keeps 1)
  swap_live s new to p n false e h keeps = (Sets (f.place + 1) to 0, h.1, (h.0, refl), keeps 0)

  cas_live : (s new : State) (to v w n k : ℕ) (o q : Option ℕ) (e : Effect) → q ≡ o → w ≡ v → k ≡ n → MatchOption o ((new ≡ s) × (e ≡ Ends Trap)) (λ p. MatchBool (value_at s p == v) ((new ≡ with_cell s p n) × (e ≡ onward_with f to 1)) ((new ≡ s) × (e ≡ onward_with f to 0))) → ((n : ℕ) → Keeps table f (Sets (f.place + 1) to n)) → (change : Change) × (e ≡ effect_of f change) × MatchOption q ((new ≡ s) × (effect_of g change ≡ Ends Trap)) (λ p. MatchBool (value_at s p == w) ((new ≡ with_cell s p k) × (effect_of g change ≡ onward_with g to 1)) ((new ≡ s) × (effect_of g change ≡ onward_with g to 0))) × Keeps table f change
  cas_live s new to v w n k None q e is a b h keeps = (Finishes Trap, h.1, rw is (h.0, refl), tt)
  cas_live s new to v w n k (Some p) q e is a b h keeps =
      let swap = swap_live s new to p n (value_at s p == v) e h keeps in
      (swap.0, swap.1, rw (is, a, b) swap.2, swap.3)

  unlock_live : (s new one : State) (b : Bool) (e : Effect) → MatchBool b ((new ≡ one) × (e ≡ onward f)) ((new ≡ s) × (e ≡ Ends Trap)) → Keeps table f (GoesTo (f.place + 1)) → (change : Change) × (e ≡ effect_of f change) × MatchBool b ((new ≡ one) × (effect_of g change ≡ onward g)) ((new ≡ s) × (effect_of g change ≡ Ends Trap)) × Keeps table f change
  unlock_live s new one true e h keeps = (GoesTo (f.place + 1), h.1, (h.0, refl), keeps)
  unlock_live s new one false e h keeps = (Finishes Trap, h.1, (h.0, refl), tt)

  await_live : (P Q : ℕ → Type 0) (o q : Option ℕ) (e : Effect) → q ≡ o → ((p : ℕ) → P p → Q p) → MatchOption o (e ≡ Ends Trap) (λ p. P p × (e ≡ onward f)) → Keeps table f (GoesTo (f.place + 1)) → (change : Change) × (e ≡ effect_of f change) × MatchOption q (effect_of g change ≡ Ends Trap) (λ p. Q p × (effect_of g change ≡ onward g)) × Keeps table f change
  await_live P Q None q e is to h keeps = (Finishes Trap, h, rw is refl, tt)
  await_live P Q (Some p) q e is to h keeps = (GoesTo (f.place + 1), h.1, rw is (to p h.0, refl), keeps)

  jump_live : (target : ℕ) (b c : Bool) (e : Effect) → c ≡ b → e ≡ (if b then onward_at f target else onward f) → Keeps table f (GoesTo target) → Keeps table f (GoesTo (f.place + 1)) → (change : Change) × (e ≡ effect_of f change) × (effect_of g change ≡ (if c then onward_at g target else onward g)) × Keeps table f change
  jump_live target true c e is h there next = (GoesTo target, h, rw is refl, there)
  jump_live target false c e is h there next = (GoesTo (f.place + 1), h, rw is refl, next)

  -- the same cell
  same_cell : (s : State) (w : ℕ) (i : Operand) → value_of g i ≡ value_of f i → cell_at s g w i ≡ cell_at s f w i
  same_cell s w i is = ap (λ n. cell_of s.component w n) is

  pub carries_live : (s : State) (m : Move) (instr : Instr) (new : State) (e : Effect) → ((r : ℕ) → is_dead table f.op f.place r ≡ true → dead_before (is_dead table f.op) f.place instr r ≡ true) → Carries s m f instr new e → Changing table s m f rs instr new e
  carries_live s m (Set to v) new e closed h =
      let read = λ (r : ℕ). names_register r v in
      let next = λ (r : ℕ). (to == r) || is_dead table f.op (f.place + 1) r in
      let value = same_value v (unread read next closed) in
      record {
        change = Sets (f.place + 1) to (value_of f v);
        is = h.1;
        there = (h.0, ap (λ n. onward_with g to n) (sym value));
        keeps = sets to (f.place + 1) (value_of f v) (behind read next closed);
      }
  carries_live s m (Compute by to x y) new e closed h =
      let read = λ (r : ℕ). names_register r x || names_register r y in
      let next = λ (r : ℕ). (to == r) || is_dead table f.op (f.place + 1) r in
      let none = unread read next closed in
      let one = same_value x (λ r dead. (or_parts (names_register r x) (names_register r y) (none r dead)).0) in
      let two = same_value y (λ r dead. (or_parts (names_register r x) (names_register r y) (none r dead)).1) in
      let n = computed by (value_of f x) (value_of f y) in
      record {
        change = Sets (f.place + 1) to n;
        is = h.1;
        there = (h.0, rw (one, two) refl);
        keeps = sets to (f.place + 1) n (behind read next closed);
      }
  carries_live s m (Load to w i) new e closed h =
      let read = λ (r : ℕ). names_register r i in
      let next = λ (r : ℕ). (to == r) || is_dead table f.op (f.place + 1) r in
      let cell = same_cell s w i (same_value i (unread read next closed)) in
      let a = load_live s to (cell_at s f w i) (cell_at s g w i) e cell h.1 (λ n. sets to (f.place + 1) n (behind read next closed)) in
      record { change = a.0; is = a.1; there = (h.0, a.2); keeps = a.3 }
  carries_live s m (Store w i v) new e closed h =
      let read = λ (r : ℕ). names_register r i || names_register r v in
      let next = λ (r : ℕ). is_dead table f.op (f.place + 1) r in
      let none = unread read next closed in
      let cell = same_cell s w i (same_value i (λ r dead. (or_parts (names_register r i) (names_register r v) (none r dead)).0)) in
      let value = same_value v (λ r dead. (or_parts (names_register r i) (names_register r v) (none r dead)).1) in
      let a = store_live s new (value_of f v) (value_of g v) (cell_at s f w i) (cell_at s g w i) e cell value h (behind read next closed) in
      record { change = a.0; is = a.1; there = a.2; keeps = a.3 }
  carries_live s m (Cas to w i x y) new e closed h =
      let read = λ (r : ℕ). names_register r i || (names_register r x || names_register r y) in
      let next = λ (r : ℕ). (to == r) || is_dead table f.op (f.place + 1) r in
      let none = unread read next closed in
      let cell = same_cell s w i (same_value i (λ r dead. (or_parts (names_register r i) (names_register r x || names_register r y) (none r dead)).0)) in
      let pair = λ (r : ℕ) (dead : is_dead table f.op f.place r ≡ true). (or_parts (names_register r i) (names_register r x || names_register r y) (none r dead)).1 in
      let one = same_value x (λ r dead. (or_parts (names_register r x) (names_register r y) (pair r dead)).0) in
      let two = same_value y (λ r dead. (or_parts (names_register r x) (names_register r y) (pair r dead)).1) in
      let a = cas_live s new to (value_of f x) (value_of g x) (value_of f y) (value_of g y) (cell_at s f w i) (cell_at s g w i) e cell one two h (λ n. sets to (f.place + 1) n (behind read next closed)) in
      record { change = a.0; is = a.1; there = a.2; keeps = a.3 }
  carries_live s m (Lock l) new e closed h =
      record {
        change = GoesTo (f.place + 1);
        is = h.2;
        there = (h.0, h.1, refl);
        keeps = behind (λ r. false) (λ r. is_dead table f.op (f.place + 1) r) closed;
      }
  carries_live s m (Unlock l) new e closed h =
      let a = unlock_live s new (with_owner s l None) (owns s m.thread l) e h (behind (λ r. false) (λ r. is_dead table f.op (f.place + 1) r) closed) in
      record { change = a.0; is = a.1; there = a.2; keeps = a.3 }
  carries_live s m (Await w i v) new e closed h =
      let read = λ (r : ℕ). names_register r i || names_register r v in
      let next = λ (r : ℕ). is_dead table f.op (f.place + 1) r in
      let none = unread read next closed in
      let cell = same_cell s w i (same_value i (λ r dead. (or_parts (names_register r i) (names_register r v) (none r dead)).0)) in
      let value = same_value v (λ r dead. (or_parts (names_register r i) (names_register r v) (none r dead)).1) in
      let a = await_live (λ p. value_at s p ≡ value_of f v) (λ p. value_at s p ≡ value_of g v) (cell_at s f w i) (cell_at s g w i) e cell (λ p is. is ∙ sym value) h.1 (behind read next closed) in
      record { change = a.0; is = a.1; there = (h.0, a.2); keeps = a.3 }
  carries_live s m (AwaitNot w i v) new e closed h =
      let read = λ (r : ℕ). names_register r i || names_register r v in
      let next = λ (r : ℕ). is_dead table f.op (f.place + 1) r in
      let none = unread read next closed in
      let cell = same_cell s w i (same_value i (λ r dead. (or_parts (names_register r i) (names_register r v) (none r dead)).0)) in
      let value = same_value v (λ r dead. (or_parts (names_register r i) (names_register r v) (none r dead)).1) in
      let a = await_live (λ p. value_at s p ≡ value_of f v → ⊥) (λ p. value_at s p ≡ value_of g v → ⊥) (cell_at s f w i) (cell_at s g w i) e cell (λ p differs is. differs (is ∙ value)) h.1 (behind read next closed) in
      record { change = a.0; is = a.1; there = (h.0, a.2); keeps = a.3 }
  carries_live s m (Pick to count) new e closed h =
      record {
        change = Sets (f.place + 1) to m.pick;
        is = h.1;
        there = (h.0, refl);
        keeps = sets to (f.place + 1) m.pick (behind (λ r. false) (λ r. (to == r) || is_dead table f.op (f.place + 1) r) closed);
      }
  carries_live s m (Jump target) new e closed h =
      record {
        change = GoesTo target;
        is = h.1;
        there = (h.0, refl);
        keeps = behind (λ r. false) (λ r. is_dead table f.op target r) closed;
      }
  carries_live s m (JumpIfZero v target) new e closed h =
      let read = λ (r : ℕ). names_register r v in
      let next = λ (r : ℕ). is_dead table f.op target r && is_dead table f.op (f.place + 1) r in
      let value = same_value v (unread read next closed) in
      let on = behind read next closed in
      let a = jump_live target (value_of f v == 0) (value_of g v == 0) e (ap (λ n. n == 0) value) h.1
      (λ r dead. (and_parts (is_dead table f.op target r) (is_dead table f.op (f.place + 1) r) (on r dead)).0)
      (λ r dead. (and_parts (is_dead table f.op target r) (is_dead table f.op (f.place + 1) r) (on r dead)).1) in
      record { change = a.0; is = a.1; there = (h.0, a.2); keeps = a.3 }
  carries_live s m (Return v) new e closed h =
      let value = same_value v (unread (λ r. names_register r v) (λ r. true) closed) in
      record {
        change = Finishes (Ret (value_of f v));
        is = h.1;
        there = (h.0, ap (λ n. Ends (Ret n)) (sym value));
        keeps = tt;
      }

  -- what is written stands in both
  set_live : (to n place : ℕ) → Keeps table f (Sets place to n) → (r : ℕ) → is_dead table f.op place r ≡ false → slice_index (slice_set rs to n) r ≡ slice_index (slice_set f.registers to n) r
  set_live to n place keeps r alive =
      elim (cases_eq r to) [
        | inl same ↦
            elim (cases_lt to (length f.registers)) [
              | inl lt ↦ rw same (get_or-set_same rs to n 0 (omega (arith, many)) ∙ sym (get_or-set_same f.registers to n 0 lt))
              | inr past ↦
                  (let one = length-set rs to n in
                  let two = length-set f.registers to n in
                  rw same (get_or_past (slice_set rs to n) to 0 (omega (arith, many, one)) ∙ sym (get_or_past (slice_set f.registers to n) to 0 (omega (arith, two)))))
            ]
        | inr other ↦
            (let before : is_dead table f.op f.place r ≡ false = false_from_ne_true (is_dead table f.op f.place r) (λ dead. elim (keeps r dead) [
              | inl is ↦ absurd (other (sym is))
              | inr on ↦ absurd (both_ways (is_dead table f.op place r) alive on)
            ]) in
            get_or-set_other rs to r n 0 other ∙ (live r before ∙ sym (get_or-set_other f.registers to r n 0 other)))
      ]

  goes_live : (place : ℕ) → Keeps table f (GoesTo place) → (r : ℕ) → is_dead table f.op place r ≡ false → slice_index rs r ≡ slice_index f.registers r
  goes_live place keeps r alive = live r (false_from_ne_true (is_dead table f.op f.place r) (λ dead. absurd (both_ways (is_dead table f.op place r) alive (keeps r dead))))

  -- where the thread stands after it
  pub after_live : (k : ℕ) (change : Change) → Keeps table f change → AreStandingAlike table (Some (thread_after k (effect_of f change))) (Some (thread_after k (effect_of g change)))
  after_live k (GoesTo place) keeps = (refl, record { op = refl; place = refl; many = many; live = goes_live place keeps })
  after_live k (Sets place to n) keeps =
      (refl, record { op = refl; place = refl; many = length-set rs to n ∙ (many ∙ sym (length-set f.registers to n)); live = set_live to n place keeps })
  after_live k (Finishes outcome) keeps = (refl, tt)

pub event_live : (t k : ℕ) (f : Frame) (rs : List ℕ) (change : Change) → event_after t k (effect_of f change) ≡ event_after t k (effect_of (with_registers f rs) change)
event_live t k f rs (GoesTo place) = refl
event_live t k f rs (Sets place to n) = refl
event_live t k f rs (Finishes outcome) = refl

-- ---- states

pub frame_parts : (f g : Frame) → g.op ≡ f.op → g.place ≡ f.place → g ≡ with_registers f g.registers
frame_parts f g op place =
    ap (λ (x : ℕ). let y : Frame = record { registers = g.registers; op = x; place = g.place } in y) op
    ∙ ap (λ (x : ℕ). let y : Frame = record { registers = g.registers; op = f.op; place = x } in y) place

pub access_same : (s r : State) → r.cells ≡ s.cells → r.locks ≡ s.locks → (a : Option Access) → AccessSame s r a
access_same s r cells locks None = tt
access_same s r cells locks (Some a) = holds_same a.location
  where
    holds_same : (l : Location) → HoldsSame s r l
    holds_same (location.Cell p) = ap (λ (x : List ℕ). slice_index x p) cells
    holds_same (location.Lock l) = ap (λ (x : List (Option ℕ)). get_or x l None) locks

pub written_cells : (s r : State) (w : Shared) (t : ℕ) (x y : Thread) → r.cells ≡ s.cells → (written r w t y).cells ≡ (written s w t x).cells
written_cells s r Nothing t x y is = is
written_cells s r (Cell p n) t x y is = ap (λ (c : List ℕ). slice_set c p n) is
written_cells s r (Owner l owner) t x y is = is

pub written_locks : (s r : State) (w : Shared) (t : ℕ) (x y : Thread) → r.locks ≡ s.locks → (written r w t y).locks ≡ (written s w t x).locks
written_locks s r Nothing t x y is = is
written_locks s r (Cell p n) t x y is = is
written_locks s r (Owner l owner) t x y is = ap (λ (c : List (Option ℕ)). slice_set c l owner) is

pub written_component : (s r : State) (w : Shared) (t : ℕ) (x y : Thread) → r.component ≡ s.component → (written r w t y).component ≡ (written s w t x).component
written_component s r Nothing t x y is = is
written_component s r (Cell p n) t x y is = is
written_component s r (Owner l owner) t x y is = is

pub written_matrix : (s r : State) (w : Shared) (t : ℕ) (x y : Thread) → r.matrix ≡ s.matrix → (written r w t y).matrix ≡ (written s w t x).matrix
written_matrix s r Nothing t x y is = is
written_matrix s r (Cell p n) t x y is = is
written_matrix s r (Owner l owner) t x y is = is

pub written_here : (s : State) (w : Shared) (t : ℕ) (x : Thread) → (written s w t x).component ≡ s.component
written_here s Nothing t x = refl
written_here s (Cell p n) t x = refl
written_here s (Owner l owner) t x = refl
