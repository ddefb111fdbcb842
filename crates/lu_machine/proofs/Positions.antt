-- Positions compare as equal exactly where they have the same cells, locks and threads.
use Rattle.std.proofs.Common.{◌≡◌, ℕ, Bool, ◌&&◌, List, Option, Some, None, refl, ◌∙◌, ap}
use Rattle.std.specs.Bool.{Decides}
use Rattle.std.specs.Prelude.{nat_eq}
use lib.Pointwise.{pointwise}
use Rattle.std.proofs.lemmas.Bool.Decides.{Decides-and, Decides-eqb, Decides-like}
use Rattle.std.proofs.lemmas.Option.{same_Some}
use Rattle.std.proofs.lemmas.Slice.Eq.{slice_eq-Decides}
use Rattle.std.specs.Option.{option_eq}
use Rattle.lu_machine.specs.declared.thread.Activity.{Activity}
use Rattle.lu_machine.specs.declared.thread.Activity.TheVariants.{Idle, Open}
use Rattle.lu_machine.specs.declared.thread.Frame.{Frame}
use Rattle.lu_machine.specs.declared.thread.Thread.{Thread}
use Rattle.lu_machine.specs.declared.position.Position.{Position}
use Rattle.lu_machine.specs.contracts.thread.FramePartialEq as frame
use Rattle.lu_machine.specs.contracts.thread.ActivityPartialEq as activity
use Rattle.lu_machine.specs.contracts.thread.ThreadPartialEq as thread
use Rattle.lu_machine.specs.contracts.position.PositionPartialEq as position

abbrev frame_eq : Frame → Frame → Bool
frame_eq = (frame.TheImpl.ghosts).eq

abbrev activity_eq : Activity → Activity → Bool
activity_eq = (activity.TheImpl.ghosts).eq

abbrev thread_eq : Thread → Thread → Bool
thread_eq = (thread.TheImpl.ghosts).eq

abbrev pub position_eq : Position → Position → Bool
position_eq = (position.TheImpl.ghosts).eq

same_numbers : (xs ys : List ℕ) → Decides (pointwise nat_eq xs ys) (xs ≡ ys)
same_numbers xs ys = slice_eq-Decides {E = nat_eq} Decides-eqb xs ys (pointwise nat_eq xs ys) refl

-- ---- threads

frames : (f g : Frame) → f.registers ≡ g.registers → f.op ≡ g.op → f.place ≡ g.place → f ≡ g
frames f g a b c =
    let make : List ℕ → ℕ → ℕ → Frame = λ r o p. record { registers = r; op = o; place = p } in
    ap (λ r. make r f.op f.place) a ∙ (ap (λ o. make g.registers o f.place) b ∙ ap (λ p. make g.registers g.op p) c)

same_frame : (f g : Frame) → Decides (frame_eq f g) (f ≡ g)
same_frame f g =
    Decides-like (frame_eq f g)
    (λ is. frames f g is.0 is.1.0 is.1.1)
    (λ is. (ap (λ (x : Frame). x.registers) is, (ap (λ (x : Frame). x.op) is, ap (λ (x : Frame). x.place) is)))
    (Decides-and (pointwise nat_eq f.registers g.registers) (nat_eq f.op g.op && nat_eq f.place g.place) (same_numbers f.registers g.registers)
    (Decides-and (nat_eq f.op g.op) (nat_eq f.place g.place) (Decides-eqb f.op g.op) (Decides-eqb f.place g.place)))

same_activity : (a b : Activity) → Decides (activity_eq a b) (a ≡ b)
same_activity Idle Idle = ((λ is. refl), (λ is. refl))
same_activity Idle (Open g) = ((λ is. absurd (cc)), (λ is. absurd (cc)))
same_activity (Open f) Idle = ((λ is. absurd (cc)), (λ is. absurd (cc)))
same_activity (Open f) (Open g) =
    Decides-like (frame_eq f g) (λ is. ap Open is) (λ is. cc) (same_frame f g)

threads_same : (a b : Thread) → a.done ≡ b.done → a.activity ≡ b.activity → a ≡ b
threads_same a b p q =
    let make : ℕ → Activity → Thread = λ d x. record { done = d; activity = x } in
    ap (λ d. make d a.activity) p ∙ ap (λ x. make b.done x) q

same_thread : (a b : Thread) → Decides (thread_eq a b) (a ≡ b)
same_thread a b =
    Decides-like (thread_eq a b)
    (λ is. threads_same a b is.0 is.1)
    (λ is. (ap (λ (x : Thread). x.done) is, ap (λ (x : Thread). x.activity) is))
    (Decides-and (nat_eq a.done b.done) (activity_eq a.activity b.activity) (Decides-eqb a.done b.done) (same_activity a.activity b.activity))

same_owner : (a b : Option ℕ) → Decides (option_eq nat_eq a b) (a ≡ b)
same_owner None None = ((λ is. refl), (λ is. refl))
same_owner None (Some n) = ((λ is. absurd (cc)), (λ is. absurd (cc)))
same_owner (Some m) None = ((λ is. absurd (cc)), (λ is. absurd (cc)))
same_owner (Some m) (Some n) = Decides-like (nat_eq m n) (λ is. ap Some is) (λ is. same_Some m n is) (Decides-eqb m n)

-- ---- positions

-- they have the same cells, locks and threads
abbrev pub HaveSame : Position → Position → Type 0
HaveSame p q = (p.cells.items ≡ q.cells.items) × ((p.locks.items ≡ q.locks.items) × (p.threads.items ≡ q.threads.items))

pub same_position : (p q : Position) → Decides (position_eq p q) (HaveSame p q)
same_position p q =
    Decides-and (pointwise nat_eq p.cells.items q.cells.items) (pointwise (option_eq nat_eq) p.locks.items q.locks.items && pointwise thread_eq p.threads.items q.threads.items)
    (same_numbers p.cells.items q.cells.items)
    (Decides-and (pointwise (option_eq nat_eq) p.locks.items q.locks.items) (pointwise thread_eq p.threads.items q.threads.items)
    (slice_eq-Decides {E = option_eq nat_eq} same_owner p.locks.items q.locks.items (pointwise (option_eq nat_eq) p.locks.items q.locks.items) refl)
    (slice_eq-Decides {E = thread_eq} same_thread p.threads.items q.threads.items (pointwise thread_eq p.threads.items q.threads.items) refl))
