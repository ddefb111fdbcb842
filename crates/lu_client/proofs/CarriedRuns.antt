-- What one thread does alone, carried over to another state.
use Rattle.std.proofs.Common.{arith, ◌≡◌, ℕ, ◌+◌, ◌<◌, Bool, true, false, List, [], ◌∷◌, ◌++◌, Option, Some, None, slice_get, slice_set, refl, sym, ◌∙◌, ap, subst, inl, inr}
use Rattle.std.specs.Option.{option_map}
use Rattle.std.proofs.lemmas.List.{set-set}
use Rattle.lu_test.specs.declared.schedule.Move.{Move}
use Rattle.lu_test.specs.Matrix.{Matrix, calls_of}
use Rattle.lu_machine.specs.declared.event.Event.{Event}
use Rattle.lu_machine.specs.declared.event.Event.TheVariants.{Call, Return}
use Rattle.lu_machine.specs.declared.thread.Thread.{Thread}
use Rattle.lu_machine.specs.States.{State}
use Rattle.lu_machine.specs.Runs.{Leads, with_event}
use Rattle.lu_machine.proofs.Undoing.{moved_there}
use Rattle.lu_serial.specs.Serial.{entry_of, entries_of}
use Rattle.lu_serial.proofs.Opening.{same_or_not, slice_get_set_other}
use Rattle.lu_serial.proofs.Counts.{made_of}
use Rattle.lu_serial.proofs.Moves.{step_stepped, the_thread}
use Rattle.lu_serial.proofs.Ops.{IsOnlyOpen}
use Rattle.lu_serial.proofs.Serially.{LeadsSerially}
use Rattle.lu_client.specs.Alone.{AllBy}
use Rattle.lu_client.proofs.Carried.{HasSameCall, numbered, one_more, seen, set_stays, step_carried}
use Rattle.lu_client.proofs.Cutting.{run_grows}
use Rattle.lu_client.proofs.Making.{step_made}

-- The schedule over other threads, and another matrix: thread t stands there as it does in the end, and has made as many calls more.
pub record RunOver (s : State) (u : List Move) (end : State) (h : List Event) (t : ℕ) (matrix : Matrix) (threads : List Thread) (was mine : Thread) : Type 0 where
  pub now : Thread
  pub beside : Thread
  pub is : slice_get end.threads t ≡ Some now
  pub alike : beside.activity ≡ now.activity
  pub done : beside.done + was.done ≡ now.done + mine.done
  pub history : List Event
  pub entries : entries_of history ≡ entries_of h
  pub leads : LeadsSerially (seen s matrix threads) u (seen end matrix (slice_set threads t beside)) history

-- the calls that t makes up to the end are the same
abbrev pub HasSameCalls : State → ℕ → State → Matrix → Thread → Thread → Type 0
HasSameCalls s t end matrix was mine = (j : ℕ) → was.done + j < made_of end t → slice_get (calls_of matrix t) (mine.done + j) ≡ slice_get (calls_of s.matrix t) (was.done + j)

entry_numbered : (k : ℕ) (e : Event) → entry_of (numbered k e) ≡ entry_of e
entry_numbered k (Call t n) = refl
entry_numbered k (Return t n outcome) = refl

entries_numbered : (k : ℕ) (e : Option Event) (h g : List Event) → entries_of g ≡ entries_of h → entries_of (with_event (option_map (numbered k) e) g) ≡ entries_of (with_event e h)
entries_numbered k None h g same = same
entries_numbered k (Some e) h g same = ap (λ x. x ++ entries_of g) (entry_numbered k e) ∙ ap (λ x. entry_of e ++ x) same

done_over : (ended : Bool) (was mine beside now : ℕ) → beside + one_more ended was ≡ now + one_more ended mine → beside + was ≡ now + mine
done_over true was mine beside now h = omega (arith, h)
done_over false was mine beside now h = h

calls_on : (ended : Bool) (made was mine : ℕ) (P : ℕ → ℕ → Type 0) → ((j : ℕ) → was + j < made → P (mine + j) (was + j)) → (j : ℕ) → one_more ended was + j < made → P (one_more ended mine + j) (one_more ended was + j)
calls_on false made was mine P same j h = same j h
calls_on true made was mine P same j h =
    let e : mine + (j + 1) ≡ (mine + 1) + j = omega arith in
    let f : was + (j + 1) ≡ (was + 1) + j = omega arith in
    subst (λ x. P x ((was + 1) + j)) e (subst (λ x. P (mine + (j + 1)) x) f (same (j + 1) (omega (arith, h))))

pub only_set : (s : State) (matrix : Matrix) (threads : List Thread) (t : ℕ) (a : Thread) → IsOnlyOpen (seen s matrix threads) t → (new : State) → IsOnlyOpen (seen new matrix (slice_set threads t a)) t
only_set s matrix threads t a only new i h =
    elim (same_or_not i t) [
      | inl same ↦ same
      | inr apart ↦ only i (h.0, sym (slice_get_set_other threads t i a apart) ∙ h.1, h.2)
    ]

Carries : List Move → Type 0
Carries u = (s end : State) (h : List Event) (t : ℕ) (matrix : Matrix) (threads : List Thread) (was mine : Thread) →
    AllBy t u → Leads s u end h → slice_get s.threads t ≡ Some was → slice_get threads t ≡ Some mine → mine.activity ≡ was.activity → IsOnlyOpen (seen s matrix threads) t → HasSameCalls s t end matrix was mine → RunOver s u end h t matrix threads was mine

module _ (m : Move) (u : List Move) (go : Carries u) (s end : State) (h : List Event) (matrix : Matrix) (threads : List Thread) (was mine : Thread) (p : Leads s (m ∷ u) end h) (alike : mine.activity ≡ was.activity) where
  abbrev t : ℕ
  t = m.thread

  on_from : AllBy t u → slice_get s.threads t ≡ Some was → slice_get threads t ≡ Some mine → IsOnlyOpen (seen s matrix threads) t → HasSameCalls s t end matrix was mine → RunOver s (m ∷ u) end h t matrix threads was mine
  unfolding Carries
  on_from by stands there only same =
      let its = step_stepped s m p.0 p.1 p.3 in
      let one : its.before ≡ was = the_thread s t its.before was its.was stands in
      let number : its.before.done ≡ was.done = ap (λ (x : Thread). x.done) one in
      let after = step_made s m p.0 p.1 its in
      let grows = run_grows p.0 u end p.2 p.4 t in
      let first : slice_get (calls_of matrix t) (mine.done + 0) ≡ slice_get (calls_of s.matrix t) (was.done + 0) = same 0 (omega (arith, number, after, grows)) in
      let call : HasSameCall s t was matrix mine = λ idle. ap (slice_get (calls_of matrix t)) (omega arith) ∙ first ∙ ap (slice_get (calls_of s.matrix t)) (omega arith) in
      let on = step_carried s m p.0 p.1 matrix threads was mine stands there alike call p.3 in
      let before : Thread = record { done = one_more on.ended was.done; activity = on.activity } in
      let beside : Thread = record { done = one_more on.ended mine.done; activity = on.activity } in
      let rows = slice_set threads t beside in
      let more : HasSameCalls p.0 t end matrix before beside = λ j le.
      calls_on on.ended (made_of end t) was.done mine.done (λ x y. slice_get (calls_of matrix t) x ≡ slice_get (calls_of s.matrix t) y) same j le
      ∙ ap (λ x. slice_get (calls_of x t) (before.done + j)) (sym its.matrix) in
      let rest = go p.0 end p.2 t matrix rows before beside by p.4 (ap (λ x. slice_get x t) on.threads_are ∙ moved_there s t before was stands) (moved_there (seen s matrix threads) t beside mine there) refl (only_set s matrix threads t beside only p.0) more in
      record {
        now = rest.now;
        beside = rest.beside;
        is = rest.is;
        alike = rest.alike;
        done = done_over on.ended was.done mine.done rest.beside.done rest.now.done rest.done;
        history = with_event (option_map (numbered mine.done) p.1) rest.history;
        entries = entries_numbered mine.done p.1 p.2 rest.history rest.entries ∙ ap entries_of (sym p.5);
        leads = (
          seen p.0 matrix rows,
          option_map (numbered mine.done) p.1,
          rest.history,
          on.step,
          subst (λ x. LeadsSerially (seen p.0 matrix rows) u (seen end matrix x) rest.history) {x = slice_set rows t rest.beside} {y = slice_set threads t rest.beside} (set-set threads t beside rest.beside) rest.leads,
          refl,
          (λ i open_i. sym (only i open_i)),
        );
      }

pub carry_run : (u : List Move) (s end : State) (h : List Event) (t : ℕ) (matrix : Matrix) (threads : List Thread) (was mine : Thread) →
    AllBy t u → Leads s u end h → slice_get s.threads t ≡ Some was → slice_get threads t ≡ Some mine → mine.activity ≡ was.activity → IsOnlyOpen (seen s matrix threads) t → HasSameCalls s t end matrix was mine → RunOver s u end h t matrix threads was mine
unfolding Carries
carry_run [] s end h t matrix threads was mine by p stands there alike only same = record {
  now = was;
  beside = mine;
  is = ap (λ (x : State). slice_get x.threads t) p.0 ∙ stands;
  alike = alike;
  done = omega arith;
  history = [];
  entries = ap entries_of (sym p.1);
  leads = (ap (seen end matrix) (set_stays threads t mine there) ∙ ap (λ x. seen x matrix threads) p.0, refl);
}
carry_run (m ∷ u) s end h t matrix threads was mine by p stands there alike only same =
    subst (λ x. AllBy x u → slice_get s.threads x ≡ Some was → slice_get threads x ≡ Some mine → IsOnlyOpen (seen s matrix threads) x → HasSameCalls s x end matrix was mine → RunOver s (m ∷ u) end h x matrix threads was mine) by.0
    (on_from m u (carry_run u) s end h matrix threads was mine p alike) by.1 stands there only same
