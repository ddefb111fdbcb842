-- The history of a serial schedule, move after move, and what is shown of two that differ.
use Rattle.std.proofs.Common.{◌≡◌, true, false, codes, ℕ, ◌+◌, ◌<◌, ◌≤◌, List, [], ◌∷◌, ◌++◌, length, take, get_or, slice_get, Option, Some, None, refl, sym, ◌∙◌, ap, subst, inl, inr, append_assoc, append-nil, arith}
use Rattle.std.proofs.lemmas.List.{take_all, take_more}
use Rattle.std.proofs.lemmas.Option.{get_or_from_slice_get, slice_get_within}
use Rattle.lu_component.specs.Component.{Component}
use Rattle.lu_test.specs.declared.schedule.Move.{Move}
use Rattle.lu_test.specs.Matrix.{Matrix}
use Rattle.lu_machine.specs.declared.event.Event.{Event}
use Rattle.std.specs.Option.{option_map_or}
use Rattle.std.specs.Fmt.{decimal}
use Rattle.lu_machine.specs.declared.thread.Thread.{Thread}
use Rattle.lu_machine.specs.declared.thread.Activity.{Activity}
use Rattle.lu_machine.specs.declared.thread.Activity.TheVariants.{Idle, Open}
use Rattle.lu_machine.specs.States.{State}
use Rattle.lu_machine.specs.Steps.{Step, IsFeasible}
use Rattle.lu_machine.specs.Runs.{Leads, with_event}
use Rattle.lu_machine.specs.Starts.{IsStart}
use Rattle.lu_machine.proofs.Paths.{child_leads, goes_on_feasible, leads_same}
use Rattle.lu_machine.proofs.Starting.{start_same}
use Rattle.lu_history.specs.declared.serial.SerialOp.{SerialOp}
use Rattle.lu_serial.specs.Serial.{HasOpen, EndsAs, IsSeriallyEnded, entries_of, entry_of, stuck_of}
use Rattle.lu_serial.proofs.CallsLeft.{none_at_start}
use Rattle.lu_serial.proofs.Opening.{complete_not_open}
use Rattle.lu_serial.proofs.Single.{one_along}
use Rattle.lu_diagnosis.specs.SerialRuns.{EndsSerially, IsHistoryOf, TellsOpen, after_words, is_busy, is_open, stuck_entries, with_outcome}
use Rattle.lu_diagnosis.specs.Sentences.{order_words}
use Rattle.lu_diagnosis.specs.Laws.{ShownAreBoth}

-- the first i moves lead here, and these operations return
abbrev pub ReturnsHere : State → List Move → ℕ → State → List SerialOp → Type 0
ReturnsHere start u i now q = (h : List Event) × Leads start (take i u) now h × (q ≡ entries_of h)

-- the next move can be made
pub can_move : (start : State) (u v : List Move) (i : ℕ) (d : Move) (now : State) (q : List SerialOp) → u ≡ v → EndsSerially v start → i < length u → ReturnsHere start u i now q → IsFeasible now (get_or u i d)
can_move start u v i d now q same ends within here =
    let whole = ends.1 in
    let leads = subst (λ (x : List Move). Leads start x whole.end whole.history) (sym same) whole.leads in
    goes_on_feasible start u whole.end whole.history leads i d within now here.0 here.1

entries-append : (h k : List Event) → entries_of (h ++ k) ≡ entries_of h ++ entries_of k
entries-append [] k = refl
entries-append (e ∷ h) k = ap (λ (x : List SerialOp). entry_of e ++ x) (entries-append h k) ∙ sym (append_assoc (entry_of e) (entries_of h) (entries_of k))

-- one move more
pub moved : (start : State) (u : List Move) (i : ℕ) (d : Move) (now new : State) (q next : List SerialOp) (event : Option Event) → i < length u → ReturnsHere start u i now q → Step now (get_or u i d) new event → next ≡ q ++ entries_of (with_event event []) → ReturnsHere start u (i + 1) new next
moved start u i d now new q next event within (h, leads, is) step more =
    (h ++ with_event event [], rw (take_more u i d within) (child_leads start (take i u) now h leads (get_or u i d) new event step), more ∙ (ap (λ (x : List SerialOp). x ++ entries_of (with_event event [])) is ∙ sym (entries-append h (with_event event []))))

ends_with : (end : State) (h : List Event) (q : List SerialOp) (found : Option ℕ) → ((t i : ℕ) → HasOpen end t → HasOpen end i → t ≡ i) → EndsAs end h q → TellsOpen end found → q ≡ entries_of h ++ stuck_entries found
ends_with end h q None one (inl x) tells = x.1 ∙ sym (append-nil (entries_of h))
ends_with end h q (Some t) one (inl x) tells = absurd (complete_not_open end x.0 t tells)
ends_with end h q None one (inr x) tells = absurd (tells x.0 x.1)
ends_with end h q (Some t) one (inr x) tells = x.3 ∙ ap (λ (i : ℕ). entries_of h ++ stuck_of i ∷ []) (one x.0 t x.1 tells)

-- all moves, and the operation that is open
pub whole_history : (c : Component) (matrix : Matrix) (start : State) (u v : List Move) (i : ℕ) (now : State) (q result : List SerialOp) (found : Option ℕ) → IsStart c matrix start → u ≡ v → length u ≤ i → EndsSerially v start → ReturnsHere start u i now q → TellsOpen now found → result ≡ q ++ stuck_entries found → IsHistoryOf c matrix v result
whole_history c matrix start u v i now q result found starts same past (own, ended) (h, leads, is) tells all = λ s other.
    (let here : take i u ≡ v = take_all i u past ∙ same in
    let there : Leads start v now h = subst (λ (x : List Move). Leads start x now h) here leads in
    let one = one_along start v ended.end ended.history (λ t k a b. absurd (none_at_start c matrix start starts t a)) ended.serial ended.leads in
    let agree = leads_same start v ended.end now ended.history h ended.leads there in
    let ends : EndsAs now h own = subst (λ k. EndsAs now k own) agree.1 (subst (λ e. EndsAs e ended.history own) agree.0 ended.holds) in
    let only : (t k : ℕ) → HasOpen now t → HasOpen now k → t ≡ k = subst (λ e. (t k : ℕ) → HasOpen e t → HasOpen e k → t ≡ k) agree.0 one in
    let equal : own ≡ result = ends_with now h own found only ends tells ∙ (ap (λ (x : List SerialOp). x ++ stuck_entries found) (sym is) ∙ sym all) in
    subst (λ (x : State). IsSeriallyEnded x v result) (start_same c matrix start s starts other) (subst (IsSeriallyEnded start v) equal ended))

-- ---- two that differ

one_more : (q : List SerialOp) (i : ℕ) (op : SerialOp) → slice_get q i ≡ Some op → take (i + 1) q ≡ take i q ++ op ∷ []
one_more q i op at =
    let within : i < length q = slice_get_within q i op at in
    take_more q i op within ∙ ap (λ (x : SerialOp). take i q ++ x ∷ []) (get_or_from_slice_get q i op op at)

pub shown_are_both : ShownAreBoth
shown_are_both h q i o op conflict at =
    let same : conflict.next ≡ op = (let is = sym conflict.next_is ∙ at in cc) in
    let other : slice_get q i ≡ Some (with_outcome op o) = rw (← same) conflict.other_is in
    (one_more h i op at, rw (conflict.same) (one_more q i (with_outcome op o) other), rw (← same) conflict.differ)

-- ---- open operations

busy_open : (s : State) (t : ℕ) (found : Option Thread) → slice_get s.threads t ≡ found → option_map_or (λ thread. is_busy thread.activity) found false ≡ true → HasOpen s t
busy_open s t None is busy = absurd (cc)
busy_open s t (Some thread) is busy = (thread, is, λ idle. absurd (let h = rw idle at busy in cc))

-- the test says so
pub open_true : (s : State) (t : ℕ) → is_open s t ≡ true → HasOpen s t
open_true s t busy = busy_open s t (slice_get s.threads t) refl busy

idle_not : (a : Activity) → is_busy a ≡ false → a ≡ Idle
idle_not Idle is = refl
idle_not (Open f) is = absurd (cc)

pub open_false : (s : State) (t : ℕ) → is_open s t ≡ false → HasOpen s t → ⊥
open_false s t none (thread, at, busy) = busy (idle_not thread.activity (rw at at none))

-- none of the first n threads has one
abbrev pub NoneBelow : State → ℕ → Type 0
NoneBelow s n = (u : ℕ) → u < n → is_open s u ≡ false

pub none_open : (s : State) (n : ℕ) → length s.threads ≤ n → NoneBelow s n → (t : ℕ) → HasOpen s t → ⊥
none_open s n all none t (thread, at, busy) =
    let within : t < length s.threads = slice_get_within s.threads t thread at in
    open_false s t (none t (omega arith)) (thread, at, busy)

-- ---- what comes before

pub after_many : (c : Component) (matrix : Matrix) (before : List SerialOp) → 2 ≤ length before → after_words c matrix before ≡ codes "after the same " ++ decimal (length before) ++ codes " calls, "
after_many c matrix [] long = absurd (omega (arith, long))
after_many c matrix (op ∷ []) long = absurd (omega (arith, long))
after_many c matrix (op ∷ next ∷ more) long = refl

pub order_many : (c : Component) (matrix : Matrix) (order : List SerialOp) → 2 ≤ length order → order_words c matrix order ≡ codes " after the " ++ decimal (length order) ++ codes " calls below"
order_many c matrix [] long = absurd (omega (arith, long))
order_many c matrix (op ∷ []) long = absurd (omega (arith, long))
order_many c matrix (op ∷ next ∷ more) long = refl
