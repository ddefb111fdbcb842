-- What is known at the start is the set of the serial histories.
use Rattle.std.proofs.Common.{◌≡◌, ℕ, zero, suc, false, List, [], ◌∷◌, ◌++◌, take, Some, slice_get, refl, sym, ◌∙◌, ap, subst, inl}
use Rattle.std.specs.Prelude.{slice_index_or}
use Rattle.lu_component.specs.Component.{Component}
use Rattle.lu_test.specs.Matrix.{Matrix}
use Rattle.lu_machine.specs.declared.position.Position.{Position}
use Rattle.lu_machine.specs.States.{State}
use Rattle.lu_machine.specs.Starts.{IsStart}
use Rattle.lu_machine.proofs.Starting.{start_same}
use Rattle.lu_history.specs.declared.serial.SerialOp.{SerialOp}
use Rattle.lu_serial.specs.Offences.{IsSetOf}
use Rattle.lu_serial.specs.Serial.{IsSerialHistory}
use Rattle.lu_client.proofs.Played.{IsReady, ready}
use Rattle.lu_serial_graph.specs.Playing.{state_at}
use Rattle.lu_serial_graph.specs.Continuing.{AreRestsAfter, StateAfter, AreContinuations}
use Rattle.lu_serial_graph.specs.Exploring.{IsKnown}
use Rattle.lu_serial_graph.proofs.FirstMoves.{among_one}
use Rattle.lu_serial_graph.proofs.After.{all_fine, begun_comes, only_start, start_state}

-- ---- the start

pub starts_with : (c : Component) (matrix : Matrix) (s : State) (p : Position) → IsStart c matrix s → state_at c matrix p ≡ s → AreRestsAfter c matrix s [] (p ∷ [])
starts_with c matrix s p start is =
    let at = ready c matrix s start in
    record {
      each = λ q h. subst (λ x. StateAfter s [] (state_at c matrix x)) (sym (among_one q p h)) (subst (StateAfter s []) (sym is) (start_state c matrix s at));
      all = λ end reached. (p, inl refl, is ∙ sym (only_start c matrix s at end reached));
      some = (p, inl refl);
    }

-- ---- no two members conflict

split_at : (h : List SerialOp) (i : ℕ) (x : SerialOp) → slice_get h i ≡ Some x → (w : List SerialOp) × (h ≡ take i h ++ x ∷ w)
split_at [] i x e = absurd cc
split_at (y ∷ h) zero x e = (h, (let same : y ≡ x = cc in ap (λ z. z ∷ h) same))
split_at (y ∷ h) (suc i) x e = (let r = split_at h i x e in (r.0, ap (λ z. y ∷ z) r.1))

set_of : (c : Component) (matrix : Matrix) (s : State) → IsReady c matrix s → (bound : ℕ) (members : List (List SerialOp)) → AreContinuations s bound [] members → IsSetOf s bound members
set_of c matrix s at bound members tells = record {
  none = all_fine c matrix s at bound tells.fine;
  are = tells.are;
  deterministic = λ h k i o has too f.
      (let x = split_at h i f.next f.next_is in
      let other : SerialOp = record { thread = f.next.thread; outcome = o } in
      let y = split_at k i other f.other_is in
      let mine = begun_comes c matrix s at (take i h) f.next x.0 (subst (IsSerialHistory s) x.1 ((tells.are h).0 has)) in
      let theirs = begun_comes c matrix s at (take i k) other y.0 (subst (IsSerialHistory s) y.1 ((tells.are k).0 too)) in
      f.differ ((tells.fine (take i h)).one theirs.0 mine.0 f.next.thread o f.next.outcome theirs.1 mine.1 (subst (λ z. StateAfter s z theirs.0) (sym f.same) theirs.2) mine.2 theirs.3 mine.3));
}

pub learnt : (c : Component) (matrix : Matrix) (bound : ℕ) (table : List (List (List SerialOp))) (p : Position) (root : ℕ) (members : List (List SerialOp)) (s : State) → IsStart c matrix s → (other : State) → IsStart c matrix other → state_at c matrix p ≡ other → IsKnown c matrix bound table false (p ∷ []) root → members ≡ slice_index_or table root [] → IsSetOf s bound members
learnt c matrix bound table p root members s start other also is known same =
    let here : state_at c matrix p ≡ s = is ∙ start_same c matrix other s also start in
    subst (IsSetOf s bound) (sym same) (set_of c matrix s (ready c matrix s start) bound (slice_index_or table root []) (known.tells s [] start (starts_with c matrix s p start here)))
