-- What the walk of `learn` finds.
use Rattle.std.proofs.Common.{◌≡◌, ◌↔◌, ◌||◌, ℕ, Option, Some, None, refl, List, [], ◌∷◌, ◌++◌, sym, ◌∙◌, ap, inl, inr}
use Rattle.lu_test.specs.declared.schedule.Move.{Move}
use Rattle.lu_machine.specs.States.{State}
use Rattle.lu_machine.specs.Order.{IsSmaller}
use Rattle.lu_machine.specs.Schedules.{IsLeast}
use Rattle.lu_machine.proofs.Orders.{smaller_trans}
use Rattle.lu_history.specs.declared.serial.SerialOp.{SerialOp}
use Rattle.lu_history.specs.declared.serial.SerialOutcome.{SerialOutcome}
use Rattle.lu_trie.specs.Members.{Adds, same_history}
use Rattle.lu_trie.specs.Conflicts.{HasConflict, IsDeterministic}
use Rattle.lu_trie.proofs.Determinism.{none_deterministic}
use Rattle.lu_serial.specs.Serial.{IsSeriallyEnded}
use Rattle.lu_serial.specs.Offences.{IsSerialConflict, IsFirstConflict, IsOffence, IsSetOf}
use Rattle.lu_serial.specs.Walks.{TakesOrStops, IsUpTo, Learns, Shows}

-- at first
pub learns_none : (members : List (List SerialOp)) → members ≡ [] → Learns members []
learns_none members none = rw none (none_deterministic, λ q. refl)

-- with one history more
pub learns_more : (members new shown : List (List SerialOp)) (q : List SerialOp) → Learns members shown → Adds members new q → IsDeterministic new → Learns new (q ∷ shown)
learns_more members new shown q learns adds deterministic = (deterministic, λ p. adds p ∙ ap (λ b. same_history p q || b) (learns.1 p))

-- what was found is a conflict
pub stops_at : {H : Type 0} → (Known : H → List (List SerialOp) → Type 0) (members : List (List SerialOp)) (q : List SerialOp) (found : Option (ℕ × SerialOutcome)) → (found ≡ None → ⊥) → ((i : ℕ) (o : SerialOutcome) → (found ≡ Some (i, o)) ↔ HasConflict members q i o) → TakesOrStops Known Known (λ p stop. HasConflict members p stop.0 stop.1) q found
stops_at Known members q None some are = absurd (some refl)
stops_at Known members q (Some stop) some are = ((λ first shown known. known), (are stop.0 stop.1).0 refl)

pub least_of : (s : State) (bound : ℕ) (u : List Move) (members : List (List SerialOp)) → Shows s bound (λ v. IsSmaller v u) (Learns members) → IsOffence s bound u → IsLeast (IsOffence s bound) u
least_of s bound u members (shown, x, learns) offends = record {
  kind = offends;
  least = λ v smaller off. elim off [
    | inl cut ↦ x.uncut v smaller cut
    | inr c ↦ (let k = c.2 in learns.0 k.history k.other c.0 c.1 (learns.1 k.history ∙ x.each v k.history smaller k.ended) (learns.1 k.other ∙ x.each k.earlier k.other (smaller_trans k.earlier v u k.smaller smaller) k.earlier_ended) k.conflict)
  ];
}

pub first_conflict : (s : State) (bound : ℕ) (u : List Move) (members : List (List SerialOp)) (i : ℕ) (o : SerialOutcome) → Shows s bound (λ v. IsSmaller v u) (Learns members) → (q : List SerialOp) × IsSeriallyEnded s u q × HasConflict members q i o → IsFirstConflict s bound u i o
first_conflict s bound u members i o shows (q, ended, has) =
    let other = has.0 in
    let y = shows.1.only other (sym (shows.2.1 other) ∙ has.1) in
    let conflict : IsSerialConflict s u i o = record { history = q; ended = ended; earlier = y.0; smaller = y.1; other = other; earlier_ended = y.2; conflict = has.2 } in
    (least_of s bound u members shows (inr (i, o, conflict)), conflict)

pub passed_all : (s : State) (bound : ℕ) (u : List Move) → u ≡ [] → (members : List (List SerialOp)) → Shows s bound (IsUpTo u) (Learns members) → IsSetOf s bound members
passed_all s bound u e members (shown, x, learns) =
    let all : (v : List Move) → IsUpTo u v = λ v. inr (v, ap (λ y. y ++ v) (sym e)) in
    record {
      none = λ v off. elim off [
        | inl cut ↦ x.uncut v (all v) cut
        | inr c ↦ (let k = c.2 in learns.0 k.history k.other c.0 c.1 (learns.1 k.history ∙ x.each v k.history (all v) k.ended) (learns.1 k.other ∙ x.each k.earlier k.other (all k.earlier) k.earlier_ended) k.conflict)
      ];
      are = λ q. ((λ c. (let y = x.only q (sym (learns.1 q) ∙ c) in (y.0, y.2))), (λ z. learns.1 q ∙ x.each z.0 q (all z.0) z.1));
      deterministic = learns.0;
    }
