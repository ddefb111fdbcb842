-- The serial histories of a matrix fit it.
use Rattle.std.proofs.Common.{arith, ◌≡◌, ◌+◌, ◌≤◌, Bool, true, false, ℕ, suc, List, [], ◌∷◌, ◌++◌, length, if◌then◌else◌, refl, sym, ◌∙◌, ap, subst, inl, inr, length-append, append-nil}
use Rattle.std.specs.Prelude.{◌==◌}
use Rattle.std.proofs.lemmas.Bool.{ne_eqb}
use Rattle.lu_component.specs.Component.{Component}
use Rattle.lu_test.specs.declared.schedule.Move.{Move}
use Rattle.lu_test.specs.Matrix.{Matrix, calls_of}
use Rattle.lu_machine.specs.declared.event.Event.{Event}
use Rattle.lu_machine.specs.declared.event.Event.TheVariants.{Call, Return}
use Rattle.lu_machine.specs.declared.event.Outcome.{Outcome}
use Rattle.lu_machine.specs.declared.event.Outcome.TheVariants.{Ret, Trap}
use Rattle.lu_machine.specs.States.{State}
use Rattle.lu_machine.specs.Starts.{IsStart}
use Rattle.lu_machine.specs.Runs.{Leads}
use Rattle.lu_history.specs.declared.serial.SerialOp.{SerialOp}
use Rattle.lu_history.specs.declared.serial.SerialOutcome.TheVariants as serial
use Rattle.lu_history.specs.Histories.{outcomes}
use Rattle.lu_history.specs.Parts.{as_serial}
use Rattle.lu_history.specs.Serial.{IsSerial}
use Rattle.lu_serial.specs.Serial.{EndsAs, IsSerialHistory, entries_of, stuck_of}
use Rattle.lu_serial.proofs.Opening.{same_or_not}
use Rattle.lu_witness.specs.Witnesses.{entries}
use Rattle.lu_witness.proofs.Entries.{entries-append}
use Rattle.lu_spec.specs.Specs.{FitsMatrix}
use Rattle.lu_refute.specs.Laws.{LearntCloses}
use Rattle.lu_serial.proofs.Counts.{done_made}
use Rattle.lu_serial.proofs.Moves.{done_of}
use Rattle.lu_serial.proofs.Counts.{made_of, made_open, run_returns}
use Rattle.lu_serial.proofs.Grounds.{Ground, ground_of, grounded, start_on}
use Rattle.lu_serial.proofs.Cuts.{made_within}

as_many : {X Y : Type 0} (b : Bool) (x : X) (xs : List X) (y : Y) (ys : List Y) → length xs ≡ length ys → length (if b then x ∷ xs else xs) ≡ length (if b then y ∷ ys else ys)
as_many true x xs y ys same = ap suc same
as_many false x xs y ys same = same

-- an entry for each return
entries_returned : (t : ℕ) (h : List Event) → length (entries t (entries_of h)) ≡ length (outcomes t h)
entries_returned t [] = refl
entries_returned t (Call u k ∷ h) = entries_returned t h
entries_returned t (Return u k o ∷ h) = as_many (u == t) (as_serial o) (entries t (entries_of h)) o (outcomes t h) (entries_returned t h)

one_more : (t x : ℕ) → length (entries t (stuck_of x ∷ [])) ≤ 1
one_more t x = by (x == t)
  where
    by : (b : Bool) → length (if b then serial.Stuck ∷ [] else []) ≤ 1
    by true = omega arith
    by false = omega arith

no_more : (t x : ℕ) → (t ≡ x → ⊥) → length (entries t (stuck_of x ∷ [])) ≡ 0
no_more t x apart = ap (λ b. length (if b then serial.Stuck ∷ [] else [])) (ne_eqb x t (λ e. apart (sym e)))

-- what has ended, and the one that is stuck, was called
fits : (g : Ground) (matrix : Matrix) (u : List Move) (end : State) (h : List Event) (q : List SerialOp) → Leads (start_on g matrix) u end h → EndsAs end h q → FitsMatrix matrix q
fits g matrix u end h q leads ends t =
    let returned = run_returns (start_on g matrix) u end h leads t in
    let entered = entries_returned t h in
    let within = made_within g matrix u end h leads t in
    let ended = done_made end t in
    elim ends as (λ _. length (entries t q) ≤ length (calls_of matrix t)) [
      | inl whole ↦
          (let same : length (entries t q) ≡ length (entries t (entries_of h)) = ap (λ x. length (entries t x)) whole.1 in
          omega (arith, same, returned, entered, within, ended))
      | inr stops ↦
          (let x = stops.0 in
          let same : length (entries t q) ≡ length (entries t (entries_of h ++ stuck_of x ∷ [])) = ap (λ z. length (entries t z)) stops.3 in
          let parts : length (entries t (entries_of h ++ stuck_of x ∷ [])) ≡ length (entries t (entries_of h)) + length (entries t (stuck_of x ∷ [])) =
          ap (λ z. length z) (entries-append t (entries_of h) (stuck_of x ∷ [])) ∙ length-append (entries t (entries_of h)) (entries t (stuck_of x ∷ [])) in
          elim (same_or_not t x) as (λ _. length (entries t q) ≤ length (calls_of matrix t)) [
            | inl is ↦
                (let opened : made_of end t ≡ done_of end t + 1 = subst (λ z. made_of end z ≡ done_of end z + 1) (sym is) (made_open end x stops.1) in
                let one = one_more t x in
                omega (arith, same, parts, returned, entered, within, opened, one))
            | inr apart ↦
                (let none = no_more t x apart in
                omega (arith, same, parts, returned, entered, within, ended, none))
          ])
    ]

not_stuck : (o : Outcome) → as_serial o ≡ serial.Stuck → ⊥
not_stuck (Ret n) e = cc
not_stuck Trap e = cc

serial_entries : (h : List Event) (tail : List SerialOp) → IsSerial tail → IsSerial (entries_of h ++ tail)
serial_entries [] tail is = is
serial_entries (Call t k ∷ h) tail is = serial_entries h tail is
serial_entries (Return t k o ∷ h) tail is = ((λ e. absurd (not_stuck o e)), serial_entries h tail is)

ends_serial : (end : State) (h : List Event) (q : List SerialOp) → EndsAs end h q → IsSerial q
ends_serial end h q ends = elim ends as (λ _. IsSerial q) [
  | inl whole ↦ subst IsSerial (append-nil (entries_of h) ∙ sym whole.1) (serial_entries h [] tt)
  | inr stops ↦ subst IsSerial (sym stops.3) (serial_entries h (stuck_of stops.0 ∷ []) ((λ e. refl), tt))
]

pub serial_fits : (c : Component) (matrix : Matrix) (s : State) (q : List SerialOp) → IsStart c matrix s → IsSerialHistory s q → IsSerial q × FitsMatrix matrix q
serial_fits c matrix s q is history =
    let g = ground_of c s in
    let there : IsSerialHistory (start_on g matrix) q = subst (λ x. IsSerialHistory x q) (grounded c matrix s is) history in
    (ends_serial there.1.end there.1.history q there.1.holds, fits g matrix there.0 there.1.end there.1.history q there.1.leads there.1.holds)

-- what is learnt may be closed to a specification
pub learnt_closes : LearntCloses
learnt_closes c matrix s bound members is set = (
  set.deterministic,
  (λ q has. (serial_fits c matrix s q is ((set.are q).0 has)).0),
  (λ q has. (serial_fits c matrix s q is ((set.are q).0 has)).1),
)
