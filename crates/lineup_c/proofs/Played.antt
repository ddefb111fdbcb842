-- A run, move after move.
use Rattle.std.proofs.Common.{◌≡◌, ℕ, ◌+◌, ◌<◌, List, [], ◌∷◌, ◌++◌, length, take, get_or, slice_get, Option, Some, sym, ◌∙◌, ap, subst}
use Rattle.std.specs.Prelude.{min, IfErr, IfOk, Result, Ok, Err}
use Rattle.lu_component.specs.Component.{Component}
use Rattle.lu_test.specs.Matrix.{Matrix}
use Rattle.lineup_c.specs.Calls.{AreNumbersAfter, IsFaultAfter, IsFaultFrom, IsStateFault}
use Rattle.lineup_c.specs.declared.playing.StateFault.{StateFault}
use Rattle.lineup_c.specs.declared.playing.StateFault.TheVariants.{Infeasible, Refused, Memory}
use Rattle.lu_cli.specs.Shown.{IsTextOfSchedule}
use Rattle.lu_cli.specs.Texts.{AreSettled}
use Rattle.lu_machine.specs.Plays.{IsInfeasibleAt}
use Rattle.std.proofs.lemmas.List.{take_more, take_min}
use Rattle.std.proofs.lemmas.Option.{slice_get-get_or}
use Rattle.lu_test.specs.declared.schedule.Move.{Move}
use Rattle.lu_machine.specs.declared.event.Event.{Event}
use Rattle.lu_machine.specs.States.{State}
use Rattle.lu_machine.specs.Steps.{Step, IsFeasible}
use Rattle.lu_machine.specs.Runs.{Leads, with_event}
use Rattle.lu_machine.proofs.Paths.{child_leads}

pub played_more : (start : State) (u : List Move) (many : ℕ) (now : State) (history : List Event) (m : Move) (new : State) (event : Option Event) → Leads start (take many u) now history → many < length u → m ≡ get_or u many m → Step now m new event → Leads start (take (many + 1) u) new (history ++ with_event event [])
played_more start u many now history m new event leads below read step =
    let more : take (many + 1) u ≡ take many u ++ m ∷ [] =
    take_more u many m below ∙ ap (λ (n : Move). take many u ++ n ∷ []) (sym read) in
    rw more (child_leads start (take many u) now history leads m new event step)

-- after the first moves, the next one is not feasible
pub not_feasible : (start : State) (u : List Move) (many : ℕ) (now : State) (history : List Event) (m d : Move) → Leads start (take many u) now history → many < length u → m ≡ get_or u many d → (IsFeasible now m → ⊥) → IsFaultFrom start u (Infeasible many)
not_feasible start u many now history m d leads below read infeasible =
    (now, history, m, leads, slice_get-get_or u many d below ∙ ap (λ (n : Move). Some n) (sym read), infeasible)

-- the first moves of a schedule, at most so many
pub first_moves : (c : Component) (m : Matrix) (u v : List Move) (most made : ℕ) (numbers : List ℕ) → v ≡ u → made ≡ min most (length v) → AreNumbersAfter c m (take made v) (length v) numbers → AreNumbersAfter c m (take most u) (length u) numbers
first_moves c m u v most made numbers same is are =
    let first : take made v ≡ take most v = ap (λ (n : ℕ). take n v) is ∙ take_min most v in
    let most_are : AreNumbersAfter c m (take most v) (length v) numbers = subst (λ (w : List Move). AreNumbersAfter c m w (length v) numbers) first are in
    subst (λ (w : List Move). AreNumbersAfter c m (take most w) (length w) numbers) same most_are

-- why the first moves have no numbers, at most so many
pub fault_in : (component matrix schedule : List ℕ) (c : Component) (m : Matrix) (u v : List Move) (most made : ℕ) → AreSettled component matrix c m → IsTextOfSchedule schedule u → v ≡ u → made ≡ min most (length v) → (fault : StateFault) → IsFaultAfter c m (take made v) fault → IsStateFault component matrix schedule most fault
fault_in component matrix schedule c m u v most made settled text same is (Infeasible i) infeasible =
    let first : take made v ≡ take most u = ap (λ (n : ℕ). take n v) is ∙ take_min most v ∙ ap (λ (w : List Move). take most w) same in
    (c, m, u, settled, text, subst (λ (w : List Move). IsInfeasibleAt c m w i) first infeasible)
fault_in component matrix schedule c m u v most made settled text same is Refused _ = tt
fault_in component matrix schedule c m u v most made settled text same is Memory _ = tt

-- what follows of a fault
pub of_fault : {T E : Type 0} (r : Result T E) (P Q : E → Type 0) → ((e : E) → P e → Q e) → IfErr r P → IfErr r Q
of_fault (Ok x) P Q f is = tt
of_fault (Err e) P Q f is = f e is

-- what follows of a value
pub of_value : {T E : Type 0} (r : Result T E) (P Q : T → Type 0) → ((x : T) → P x → Q x) → IfOk r P → IfOk r Q
of_value (Ok x) P Q f is = f x is
of_value (Err e) P Q f is = tt
