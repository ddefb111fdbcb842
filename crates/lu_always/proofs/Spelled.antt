-- A table as a deterministic specification.
use Rattle.std.proofs.Common.{arith, ◌≡◌, ◌≢◌, ℕ, zero, suc, ◌<◌, ◌≤◌, Bool, true, false, not, List, [], ◌∷◌, ◌++◌, length, take, Option, Some, None, slice_get, refl, sym, ◌∙◌, ap, subst, inl, inr, append_assoc}
use Rattle.std.specs.Prelude.{IsTrue, ◌&&◌, nat_eq, nat_lt}
use Rattle.std.proofs.lemmas.Bool.{eq-eqb, eqb-true, lt-ltb, ltb-true}
use Rattle.std.proofs.lemmas.List.{append-nil}
use Rattle.std.proofs.lemmas.Option.{same_Some, slice_get_within}
use Rattle.lu_component.specs.Component.{Component}
use Rattle.lu_test.specs.Matrix.{Matrix, calls_of}
use Rattle.lu_machine.specs.States.{State}
use Rattle.lu_machine.specs.Starts.{IsStart}
use Rattle.lu_history.specs.declared.serial.SerialOp.{SerialOp}
use Rattle.lu_history.specs.declared.serial.SerialOutcome.{SerialOutcome}
use Rattle.lu_history.specs.declared.serial.SerialOutcome.TheVariants.{Ret, Trap, Stuck}
use Rattle.lu_history.specs.Serial.{IsSerial}
use Rattle.lu_trie.specs.Conflicts.{ConflictAt}
use Rattle.lu_serial.specs.Serial.{IsSerialHistory}
use Rattle.lu_serial.proofs.Opening.{same_or_not}
use Rattle.lu_witness.specs.Witnesses.{entries}
use Rattle.lu_refute.specs.Laws.{IsDeterministicOf}
use Rattle.lu_refute.proofs.Fitting.{serial_fits}
use Rattle.lu_client.specs.Rounds.{IsUnrolledFrom, Way}
use Rattle.lu_client.specs.Clients.{turned}
use Rattle.lu_client.specs.Alone.{rest_of}
use Rattle.lu_client.specs.Automaton.{AnswersAfter}
use Rattle.lu_client.specs.Stages.{line_of}
use Rattle.lu_client.proofs.Outcomes.{begun_answers}
use Rattle.lu_client.proofs.Played.{IsReady, ready}
use Rattle.lu_always.specs.Always.{IsSerialPrefix}
use Rattle.lu_answers.specs.Tables.{IsAnswer, IsTableOf, Table}
use Rattle.lu_answers.proofs.ReadSerially.{HasRoomFor, IsAfter, after_first, after_more, other_more, own_more, told}

-- ---- tests

both : (a b : Bool) → (a && b) ≡ true → (a ≡ true) × (b ≡ true)
both true true e = (refl, refl)
both true false e = absurd (cc)
both false b e = absurd (cc)

and_both : (a b : Bool) → a ≡ true → b ≡ true → (a && b) ≡ true
and_both true true e f = refl
and_both true false e f = f
and_both false b e f = e

abbrev is_stuck : SerialOutcome → Bool
is_stuck (Ret n) = false
is_stuck Trap = false
is_stuck Stuck = true

stuck_tells : (o : SerialOutcome) → is_stuck o ≡ true → o ≡ Stuck
stuck_tells (Ret n) e = absurd cc
stuck_tells Trap e = absurd cc
stuck_tells Stuck e = refl

not_stuck_tells : (o : SerialOutcome) → not (is_stuck o) ≡ true → o ≢ Stuck
not_stuck_tells (Ret n) e = λ is. cc
not_stuck_tells Trap e = λ is. cc
not_stuck_tells Stuck e = absurd cc

tells_not_stuck : (o : SerialOutcome) → o ≢ Stuck → not (is_stuck o) ≡ true
tells_not_stuck (Ret n) h = refl
tells_not_stuck Trap h = refl
tells_not_stuck Stuck h = absurd (h refl)

abbrev same_outcome : SerialOutcome → SerialOutcome → Bool
same_outcome (Ret m) (Ret n) = nat_eq m n
same_outcome (Ret m) Trap = false
same_outcome (Ret m) Stuck = false
same_outcome Trap (Ret n) = false
same_outcome Trap Trap = true
same_outcome Trap Stuck = false
same_outcome Stuck (Ret n) = false
same_outcome Stuck Trap = false
same_outcome Stuck Stuck = true

same_tells : (a b : SerialOutcome) → same_outcome a b ≡ true → a ≡ b
same_tells (Ret m) (Ret n) e = ap Ret (eqb-true m n e)
same_tells (Ret m) Trap e = absurd cc
same_tells (Ret m) Stuck e = absurd cc
same_tells Trap (Ret n) e = absurd cc
same_tells Trap Trap e = refl
same_tells Trap Stuck e = absurd cc
same_tells Stuck (Ret n) e = absurd cc
same_tells Stuck Trap e = absurd cc
same_tells Stuck Stuck e = refl

same_itself : (a : SerialOutcome) → same_outcome a a ≡ true
same_itself (Ret n) = eq-eqb n n refl
same_itself Trap = refl
same_itself Stuck = refl

abbrev is_end : List SerialOp → Bool
is_end [] = true
is_end (op ∷ q) = false

end_tells : (q : List SerialOp) → is_end q ≡ true → q ≡ []
end_tells [] e = refl
end_tells (op ∷ q) e = absurd cc

-- ---- what the table spells

-- an entry with this outcome, and then these, where the table answers so
abbrev spelled_on : Option (SerialOutcome × ℕ) → SerialOutcome → List SerialOp → (ℕ → Bool) → Bool
spelled_on None outcome q rest = is_stuck outcome && is_end q
spelled_on (Some (o, y)) outcome q rest = same_outcome outcome o && (not (is_stuck o) && rest y)

abbrev has_room : Matrix → List SerialOp → ℕ → Bool
has_room big p t = nat_lt (length (entries t p)) (length (calls_of big t))

-- from stage x, after these entries
pub spelled : Table → Matrix → ℕ → List SerialOp → List SerialOp → Bool
spelled table big x p [] = true
spelled table big x p (op ∷ q) =
    has_room big p op.thread && spelled_on (table.answer x op.thread) op.outcome q (λ y. spelled table big y (p ++ op ∷ []) q)

-- what it says of an entry
data First (o : Option (SerialOutcome × ℕ)) (outcome : SerialOutcome) (q : List SerialOp) (rest : ℕ → Bool) : Type 0 where
  blocks : o ≡ None → outcome ≡ Stuck → q ≡ [] → First o outcome q rest
  returns : (y : ℕ) → o ≡ Some (outcome, y) → outcome ≢ Stuck → rest y ≡ true → First o outcome q rest

first_of : (o : Option (SerialOutcome × ℕ)) (outcome : SerialOutcome) (q : List SerialOp) (rest : ℕ → Bool) → spelled_on o outcome q rest ≡ true → First o outcome q rest
first_of None outcome q rest e =
    let parts = both (is_stuck outcome) (is_end q) e in
    blocks refl (stuck_tells outcome parts.0) (end_tells q parts.1)
first_of (Some (o, y)) outcome q rest e =
    let parts = both (same_outcome outcome o) (not (is_stuck o) && rest y) e in
    let more = both (not (is_stuck o)) (rest y) parts.1 in
    let same = same_tells outcome o parts.0 in
    returns y (ap (λ (z : SerialOutcome). Some (z, y)) (sym same)) (λ stuck. not_stuck_tells o more.0 (sym same ∙ stuck)) more.1

module _ (table : Table) (big : Matrix) where
  -- the first entry, and the rest
  record Parts (x : ℕ) (p : List SerialOp) (op : SerialOp) (q : List SerialOp) : Type 0 where
    room : length (entries op.thread p) < length (calls_of big op.thread)
    first : First (table.answer x op.thread) op.outcome q (λ y. spelled table big y (p ++ op ∷ []) q)

  parts_of : (x : ℕ) (p : List SerialOp) (op : SerialOp) (q : List SerialOp) → spelled table big x p (op ∷ q) ≡ true → Parts x p op q
  unfolding spelled
  parts_of x p op q e =
      let parts = both (has_room big p op.thread) (spelled_on (table.answer x op.thread) op.outcome q (λ y. spelled table big y (p ++ op ∷ []) q)) e in
      record {
        room = ltb-true (length (entries op.thread p)) (length (calls_of big op.thread)) parts.0;
        first = first_of (table.answer x op.thread) op.outcome q (λ y. spelled table big y (p ++ op ∷ []) q) parts.1;
      }

  serial : (q : List SerialOp) (x : ℕ) (p : List SerialOp) → spelled table big x p q ≡ true → IsSerial q
  serial [] x p e = tt
  serial (op ∷ q) x p e = by (parts_of x p op q e).first (λ y f. serial q y (p ++ op ∷ []) f)
    where
      by : First (table.answer x op.thread) op.outcome q (λ y. spelled table big y (p ++ op ∷ []) q) → ((y : ℕ) → spelled table big y (p ++ op ∷ []) q ≡ true → IsSerial q) → (op.outcome ≡ Stuck → q ≡ []) × IsSerial q
      by (blocks none stuck end) on = ((λ _. end), subst IsSerial (sym end) tt)
      by (returns y some calm rest) on = ((λ stuck. absurd (calm stuck)), on y rest)

  room_more : (p : List SerialOp) (op : SerialOp) → HasRoomFor big p → length (entries op.thread p) < length (calls_of big op.thread) → HasRoomFor big (p ++ op ∷ [])
  room_more p op room enough t = elim (same_or_not t op.thread) as (λ _. length (entries t (p ++ op ∷ [])) ≤ length (calls_of big t)) [
    | inl same ↦ subst (λ z. length (entries z (p ++ op ∷ [])) ≤ length (calls_of big z)) (sym same) (let more = own_more p op in omega (arith, more, enough))
    | inr apart ↦ (let more = other_more p op t apart in let few = room t in omega (arith, more, few))
  ]

  fits : (q : List SerialOp) (x : ℕ) (p : List SerialOp) → HasRoomFor big p → spelled table big x p q ≡ true → HasRoomFor big (p ++ q)
  fits [] x p room e = subst (HasRoomFor big) (sym (append-nil p)) room
  fits (op ∷ q) x p room e =
      let parts = parts_of x p op q e in
      let more = room_more p op room parts.room in
      subst (HasRoomFor big) (append_assoc p (op ∷ []) q) (by more parts.first (λ y f. fits q y (p ++ op ∷ []) more f))
    where
      by : HasRoomFor big (p ++ op ∷ []) → First (table.answer x op.thread) op.outcome q (λ y. spelled table big y (p ++ op ∷ []) q) → ((y : ℕ) → spelled table big y (p ++ op ∷ []) q ≡ true → HasRoomFor big ((p ++ op ∷ []) ++ q)) → HasRoomFor big ((p ++ op ∷ []) ++ q)
      by more (blocks none stuck end) on = subst (λ z. HasRoomFor big ((p ++ op ∷ []) ++ z)) (sym end) (subst (HasRoomFor big) (sym (append-nil (p ++ op ∷ []))) more)
      by more (returns y some calm rest) on = on y rest

  -- two entries of a thread at one stage have one outcome
  one_outcome : (x t : ℕ) (a b : SerialOutcome) (q r : List SerialOp) (on also : ℕ → Bool) → First (table.answer x t) a q on → First (table.answer x t) b r also → a ≡ b
  one_outcome x t a b q r on also (blocks none stuck end) (blocks same too last) = stuck ∙ sym too
  one_outcome x t a b q r on also (blocks none stuck end) (returns y some calm rest) = absurd cc
  one_outcome x t a b q r on also (returns y some calm rest) (blocks none stuck end) = absurd cc
  one_outcome x t a b q r on also (returns y some calm rest) (returns z other too more) = ap (λ (w : SerialOutcome × ℕ). w.0) (same_Some (a, y) (b, z) (sym some ∙ other))

  apart : (g h : List SerialOp) (i : ℕ) (o : SerialOutcome) (x : ℕ) (p : List SerialOp) → spelled table big x p g ≡ true → spelled table big x p h ≡ true → ConflictAt g h i o → ⊥
  apart [] h i o x p e f conflict = nothing i conflict.next_is
    where
      nothing : (i : ℕ) → slice_get {X = SerialOp} [] i ≡ Some conflict.next → ⊥
      nothing zero at = cc
      nothing (suc i) at = cc
  apart (a ∷ g) [] i o x p e f conflict = nothing i conflict.other_is
    where
      nothing : (i : ℕ) → slice_get {X = SerialOp} [] i ≡ Some (record { thread = conflict.next.thread; outcome = o }) → ⊥
      nothing zero at = cc
      nothing (suc i) at = cc
  apart (a ∷ g) (b ∷ h) zero o x p e f conflict =
      let mine : a ≡ conflict.next = same_Some a conflict.next conflict.next_is in
      let other : SerialOp = record { thread = conflict.next.thread; outcome = o } in
      let theirs : b ≡ other = same_Some b other conflict.other_is in
      let first = (parts_of x p a g e).first in
      let second = (parts_of x p b h f).first in
      let thread : b.thread ≡ a.thread = ap (λ (z : SerialOp). z.thread) theirs ∙ sym (ap (λ (z : SerialOp). z.thread) mine) in
      let same : a.outcome ≡ b.outcome = one_outcome x a.thread a.outcome b.outcome g h (λ y. spelled table big y (p ++ a ∷ []) g) (λ y. spelled table big y (p ++ b ∷ []) h) first (subst (λ z. First (table.answer x z) b.outcome h (λ y. spelled table big y (p ++ b ∷ []) h)) thread second) in
      conflict.differ (sym (ap (λ (z : SerialOp). z.outcome) theirs) ∙ (sym same ∙ ap (λ (z : SerialOp). z.outcome) mine))
  apart (a ∷ g) (b ∷ h) (suc i) o x p e f conflict =
      let heads : a ≡ b = cc in
      let tails : take i g ≡ take i h = cc in
      let rest : ConflictAt g h i o = record { same = tails; next = conflict.next; next_is = conflict.next_is; other_is = conflict.other_is; differ = conflict.differ } in
      by (parts_of x p a g e).first (parts_of x p a h (subst (λ z. spelled table big x p (z ∷ h) ≡ true) (sym heads) f)).first (λ y m n. apart g h i o y (p ++ a ∷ []) m n rest) rest
    where
      by : First (table.answer x a.thread) a.outcome g (λ y. spelled table big y (p ++ a ∷ []) g) → First (table.answer x a.thread) a.outcome h (λ y. spelled table big y (p ++ a ∷ []) h) → ((y : ℕ) → spelled table big y (p ++ a ∷ []) g ≡ true → spelled table big y (p ++ a ∷ []) h ≡ true → ⊥) → ConflictAt g h i o → ⊥
      by (blocks none stuck end) second on rest = (let there = subst (λ z. slice_get z i ≡ Some rest.next) end rest.next_is in past i there)
        where
          past : (i : ℕ) → slice_get {X = SerialOp} [] i ≡ Some rest.next → ⊥
          past zero at = cc
          past (suc i) at = cc
      by (returns y some calm more) (blocks none stuck end) on rest = calm stuck
      by (returns y some calm more) (returns z other too again) on rest =
          let same : y ≡ z = ap (λ (w : SerialOutcome × ℕ). w.1) (same_Some (a.outcome, y) (a.outcome, z) (sym some ∙ other)) in
          on y more (subst (λ w. spelled table big w (p ++ a ∷ []) h ≡ true) (sym same) again)

  pub spelled_determines : IsDeterministicOf big (spelled table big 0 [])
  spelled_determines = record {
    deterministic = λ p q i o e f conflict. apart p q i o 0 [] e f conflict;
    serial = λ q e. serial q 0 [] e;
    fits = λ q e. fits q 0 [] (λ t. omega arith) e;
  }

-- ---- what serial histories begin with is spelled

serial_rest : (p : List SerialOp) (op : SerialOp) (q : List SerialOp) → IsSerial (p ++ op ∷ q) → op.outcome ≡ Stuck → q ≡ []
serial_rest [] op q is stuck = is.0 stuck
serial_rest (x ∷ p) op q is stuck = serial_rest p op q is.1 stuck

no_front : (q more : List SerialOp) → q ++ more ≡ [] → q ≡ []
no_front [] more e = refl
no_front (x ∷ q) more e = absurd cc

module _ (c : Component) (way : Way) (matrix big : Matrix) (bound : ℕ) (s : State) (table : Table) (unrolled : IsUnrolledFrom way matrix big) (is : IsStart c big s) (are : IsTableOf c way matrix bound (rest_of s) table) where
  at : IsReady c big s
  at = ready c big s is

  After : List SerialOp → ℕ → Type 0
  After = IsAfter c way matrix big bound s table unrolled at are

  spelled_from : (q p : List SerialOp) (x : ℕ) → After p x → IsSerialPrefix s (p ++ q) → spelled table big x p q ≡ true
  unfolding spelled After
  spelled_from [] p x after begins = refl
  spelled_from (op ∷ q) p x after begins =
      let whole : (p ++ op ∷ q) ++ begins.0 ≡ p ++ op ∷ (q ++ begins.0) = append_assoc p (op ∷ q) begins.0 in
      let z : IsSerialHistory s (p ++ op ∷ (q ++ begins.0)) = subst (IsSerialHistory s) whole begins.1 in
      let a = begun_answers c big s at bound p op (q ++ begins.0) z in
      let room : has_room big p op.thread ≡ true = lt-ltb (length (entries op.thread p)) (length (calls_of big op.thread)) (slice_get_within (calls_of big op.thread) (length (entries op.thread p)) a.call a.next) in
      let ends : op.outcome ≡ Stuck → q ≡ [] = λ stuck. no_front q begins.0 (serial_rest p op (q ++ begins.0) (serial_fits c big s (p ++ op ∷ (q ++ begins.0)) is z).0 stuck) in
      let on : (y : ℕ) → After (p ++ op ∷ []) y → spelled table big y (p ++ op ∷ []) q ≡ true = λ y later. spelled_from q (p ++ op ∷ []) y later (subst (IsSerialPrefix s) (sym (append_assoc p (op ∷ []) q)) begins) in
      and_both (has_room big p op.thread) (spelled_on (table.answer x op.thread) op.outcome q (λ y. spelled table big y (p ++ op ∷ []) q)) room
      (by a ends on (table.answer x op.thread) (told c way matrix big bound s table unrolled at are p x after op.thread a.call a.next))
    where
      by : (a : AnswersAfter c big s p op) → (op.outcome ≡ Stuck → q ≡ []) → ((y : ℕ) → After (p ++ op ∷ []) y → spelled table big y (p ++ op ∷ []) q ≡ true) → (o : Option (SerialOutcome × ℕ)) → IsAnswer c way matrix bound table.stages after.stage op.thread (turned way (length (line_of way matrix op.thread)) (length (entries op.thread p))) a.call o → spelled_on o op.outcome q (λ y. spelled table big y (p ++ op ∷ []) q) ≡ true
      by a ends on None answer =
          let stuck : op.outcome ≡ Stuck = (answer a.rest (after.rests a.rest a.before)).1 op.outcome a.answers in
          and_both (is_stuck op.outcome) (is_end q) (ap is_stuck stuck) (ap is_end (ends stuck))
      by a ends on (Some (o, y)) answer =
          let same : op.outcome ≡ o = (answer.1 a.rest (after.rests a.rest a.before)).1 op.outcome a.answers in
          and_both (same_outcome op.outcome o) (not (is_stuck o) && spelled table big y (p ++ op ∷ []) q)
          (subst (λ z. same_outcome op.outcome z ≡ true) same (same_itself op.outcome))
          (and_both (not (is_stuck o)) (spelled table big y (p ++ op ∷ []) q) (tells_not_stuck o answer.0)
          (on y (after_more c way matrix big bound s table unrolled at are p op x y after a.call a.next answer.2.0 answer.2.1 answer.2.2)))

  pub begun_spelled : (q : List SerialOp) → IsSerialPrefix s q → IsTrue (spelled table big 0 [] q)
  unfolding After
  begun_spelled q begins = spelled_from q [] 0 (after_first c way matrix big bound s table unrolled at are) begins
