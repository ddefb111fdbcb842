-- A schedule that is cut, move after move, and its serial operations.
use Rattle.std.proofs.Common.{◌≡◌, ℕ, ◌+◌, ◌<◌, ◌≤◌, List, [], ◌∷◌, ◌++◌, length, get_or, take, Option, sym, ap, subst, ◌∙◌, append_assoc, append-nil}
use Rattle.std.proofs.lemmas.List.{take_more, take_all}
use Rattle.lu_component.specs.Component.{Component}
use Rattle.lu_test.specs.declared.schedule.Move.{Move}
use Rattle.lu_test.specs.Matrix.{Matrix}
use Rattle.lu_machine.specs.declared.event.Event.{Event}
use Rattle.lu_machine.specs.States.{State}
use Rattle.lu_machine.specs.Steps.{IsFeasible, Step}
use Rattle.lu_machine.specs.Runs.{Leads, with_event}
use Rattle.lu_machine.specs.Starts.{FromEachStart, IsStart}
use Rattle.lu_machine.proofs.Paths.{child_leads, goes_on_feasible}
use Rattle.lu_machine.proofs.Starting.{start_same}
use Rattle.lu_history.specs.declared.serial.SerialOp.{SerialOp}
use Rattle.lu_serial.specs.Serial.{entries_of, entry_of}
use Rattle.lu_lint.specs.declared.remark.SerialHint.{SerialHint}
use Rattle.lu_lint.specs.Runs.{CanPlay, HintsOfCut, ShowsHistory, cut_hints}

-- the next move can be made
pub can_move : (start : State) (u v : List Move) (i : ℕ) (d : Move) (now : State) (h : List Event) → u ≡ v → CanPlay v start → i < length u → Leads start (take i u) now h → IsFeasible now (get_or u i d)
can_move start u v i d now h same can within leads =
    let whole = subst (λ (x : List Move). CanPlay x start) (sym same) can in
    goes_on_feasible start u whole.0 whole.1 whole.2 i d within now h leads

pub moved : (start : State) (u : List Move) (i : ℕ) (d : Move) (now new : State) (h next : List Event) (event : Option Event) → i < length u → Leads start (take i u) now h → Step now (get_or u i d) new event → next ≡ h ++ with_event event [] → Leads start (take (i + 1) u) new next
moved start u i d now new h next event within leads step more = rw (more, take_more u i d within) (child_leads start (take i u) now h leads (get_or u i d) new event step)

pub played_all : (c : Component) (matrix : Matrix) (start : State) (u v : List Move) (i : ℕ) (now : State) (h : List Event) → IsStart c matrix start → u ≡ v → length u ≤ i → Leads start (take i u) now h → FromEachStart c matrix (ShowsHistory v h)
played_all c matrix start u v i now h starts same past leads = λ s is.
    (let e : start ≡ s = start_same c matrix start s starts is in
    let whole : take i u ≡ v = take_all i u past ∙ same in
    (now, subst (λ (x : State). Leads x v now h) e (subst (λ (x : List Move). Leads start x now h) whole leads)))

-- the serial operations of one event more
pub entries-push : (h : List Event) (e : Event) → entries_of (h ++ e ∷ []) ≡ entries_of h ++ entry_of e
entries-push [] e = append-nil (entry_of e)
entries-push (x ∷ h) e = ap (λ (y : List SerialOp). entry_of x ++ y) (entries-push h e) ∙ sym (append_assoc (entry_of x) (entries_of h) (entry_of e))

pub entries_more : (h : List Event) (i : ℕ) (d : Event) (before next : List SerialOp) → i < length h → before ≡ entries_of (take i h) → next ≡ before ++ entry_of (get_or h i d) → next ≡ entries_of (take (i + 1) h)
entries_more h i d before next within is more = rw (take_more h i d within) (more ∙ (ap (λ (y : List SerialOp). y ++ entry_of (get_or h i d)) is ∙ sym (entries-push (take i h) (get_or h i d))))

pub cut_shown : (c : Component) (matrix : Matrix) (u : List Move) (history : List Event) (hints : List SerialHint) → FromEachStart c matrix (ShowsHistory u history) → hints ≡ cut_hints history → FromEachStart c matrix (HintsOfCut u hints)
cut_shown c matrix u history hints plays is = λ s start.
    (let played = plays s start in (played.0, history, played.1, is))
