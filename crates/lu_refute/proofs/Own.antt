-- A serial history is its own only witness.
use Rattle.std.proofs.Common.{arith, ◌≡◌, ◌+◌, Bool, true, false, ℕ, zero, suc, List, [], ◌∷◌, ◌++◌, slice_get, Option, Some, None, refl, sym, ◌∙◌, ap, subst, inl, inr}
use Rattle.std.specs.Prelude.{◌==◌, ◌&&◌, ◌||◌}
use Rattle.std.specs.List.{filter}
use Rattle.std.proofs.lemmas.Bool.{eq-eqb}
use Rattle.std.proofs.lemmas.List.{append-nil}
use Rattle.lu_component.specs.Component.{Component}
use Rattle.lu_test.specs.declared.schedule.Move.{Move}
use Rattle.lu_test.specs.Matrix.{Matrix, cut}
use Rattle.lu_machine.specs.declared.event.Event.{Event}
use Rattle.lu_machine.specs.declared.event.Event.TheVariants.{Call, Return}
use Rattle.lu_machine.specs.States.{State}
use Rattle.lu_machine.specs.Starts.{IsStart}
use Rattle.lu_machine.specs.Ends.{IsStuck}
use Rattle.lu_machine.specs.Runs.{Leads}
use Rattle.lu_history.specs.declared.operation.OpId.{OpId}
use Rattle.lu_history.specs.declared.serial.SerialOp.{SerialOp}
use Rattle.lu_history.specs.Histories.{IsReturnAt, Precedes}
use Rattle.lu_history.specs.Parts.{has_return, is_kept, keep_pending}
use Rattle.lu_serial.specs.Serial.{HasOpen, entries_of, stuck_of}
use Rattle.lu_serial.proofs.Opening.{same_or_not}
use Rattle.lu_witness.specs.Goodness.{IsGoodAt}
use Rattle.lu_trie.specs.Members.{contains}
use Rattle.lu_witness.specs.Witnesses.{HasWitness, IsMember, IsWitness}
use Rattle.lu_serial.specs.Cuts.{AreLengths}
use Rattle.lu_refute.specs.Linearizable.{Refutes}
use Rattle.lu_serial.specs.Whole.{EndsWhole, IsQuiet, IsSeriallyWhole, made_calls}
use Rattle.lu_refute.specs.Laws.{CutRefutes, MadeCut, OwnWitness}
use Rattle.lu_serial.proofs.Serially.{LeadsSerially, serially_from}
use Rattle.lu_refute.proofs.Fails.{call_run}
use Rattle.lu_refute.proofs.SameOrder.{same_order}
use Rattle.lu_refute.proofs.Spelled.{IsSpelled, IsMode, Spells, entry_precedes, part_spelled, pending_spelled, placed, run_spelled, serial_by_returns, serial_of}
use Rattle.lu_serial.proofs.Grounds.{Ground, ground_of, grounded, none_on, same_ground, start_on}
use Rattle.lu_serial.proofs.Cuts.{cut_ends, cut_start, made_lengths, start_done, with_matrix}

same_place : (base : ℕ → ℕ) → ((x : ℕ) → base x ≡ 0) → (a : OpId) → placed base a ≡ a
same_place base none a =
    let first = none a.t in
    let same : base a.t + a.k ≡ a.k = omega (arith, first) in
    ap (λ (k : ℕ). let x : OpId = record { t = a.t; k = k } in x) same

own_from : (s : State) (u : List Move) (end : State) (h : List Event) (q : List SerialOp) → (base : ℕ → ℕ) → ((x : ℕ) → base x ≡ 0) → Spells base None h end → IsWitness q h → q ≡ serial_of h
own_from s u end h q base none r w =
    same_order q (serial_of h) (λ t. w.parts t ∙ sym (part_spelled base h r.0 r.2 t)) (λ i j a b less x y.
    (let before = entry_precedes base h r.0 r.2 i j a b less x y in
    w.order a b (subst (λ z. Precedes h z b) (same_place base none a) (subst (λ z. Precedes h (placed base a) z) (same_place base none b) before))))

-- the entries are those of the history
whole_serial : (base : ℕ → ℕ) (end : State) (h : List Event) (q : List SerialOp) (last : Option ℕ) → IsMode end last → IsSpelled base None h last → EndsWhole end h q → serial_of h ≡ q
whole_serial base end h q None mode spelled (inl calm) = serial_by_returns base h None spelled ∙ (append-nil (entries_of h) ∙ sym calm.1)
whole_serial base end h q None mode spelled (inr blocked) = absurd (mode blocked.0 blocked.1)
whole_serial base end h q (Some x) mode spelled (inl calm) = absurd (calm.0 x mode.0)
whole_serial base end h q (Some x) mode spelled (inr blocked) =
    serial_by_returns base h (Some x) spelled ∙ (ap (λ (t : ℕ). entries_of h ++ stuck_of t ∷ []) (sym (mode.1 blocked.0 blocked.1)) ∙ sym blocked.3)

-- ---- what is kept

filter_all : {A : Type 0} (p : A → Bool) (h : List A) → ((i : ℕ) (e : A) → slice_get h i ≡ Some e → p e ≡ true) → filter p h ≡ h
filter_all p [] all = refl
filter_all p (x ∷ h) all =
    let here : p x ≡ true = all 0 x refl in
    let rest : filter p h ≡ h = filter_all p h (λ i e at. all (suc i) e at) in
    rw (here, rest) refl

either_way : (b c : Bool) → c ≡ true → (b || c) ≡ true
either_way true c e = refl
either_way false c e = e

return_found : (h : List Event) (i : ℕ) (a : OpId) → IsReturnAt h i a → has_return h a ≡ true
return_found [] i a at = let e = at.1 in absurd (cc)
return_found (Call u k ∷ h) zero a at = let e = at.1 in absurd (cc)
return_found (Call u k ∷ h) (suc i) a at = return_found h i a at
return_found (Return u k o ∷ h) zero a at =
    let e = at.1 in
    let thread : u ≡ a.t = cc in
    let number : k ≡ a.k = cc in
    ap (λ b. (b && (k == a.k)) || has_return h a) (eq-eqb u a.t thread) ∙ ap (λ b. b || has_return h a) (eq-eqb k a.k number)
return_found (Return u k o ∷ h) (suc i) a at = either_way ((u == a.t) && (k == a.k)) (has_return h a) (return_found h i a at)

-- where only thread x has an operation open, every call is kept
keep_all : (s : State) (u : List Move) (end : State) (h : List Event) → Leads s u end h → (x : ℕ) → ((y : ℕ) → HasOpen end y → y ≡ x) → keep_pending x h ≡ h
keep_all s u end h leads x only = filter_all (is_kept x h) h (λ i e at. stays e i at)
  where
    stays : (e : Event) (i : ℕ) → slice_get h i ≡ Some e → is_kept x h e ≡ true
    stays (Return y k o) i at = refl
    stays (Call y k) i at =
        elim (same_or_not y x) as (λ _. is_kept x h (Call y k) ≡ true) [
          | inl same ↦ ap (λ b. b || has_return h (record { t = y; k = k })) (eq-eqb y x same)
          | inr apart ↦ elim (call_run s u end h leads i (record { t = y; k = k }) at) as (λ _. is_kept x h (Call y k) ≡ true) [
            | inl r ↦ either_way (y == x) (has_return h (record { t = y; k = k })) (return_found h r.0 (record { t = y; k = k }) r.1)
            | inr o ↦ absurd (apart (only y o))
          ]
        ]

-- ---- from the start

module _ (g : Ground) (matrix : Matrix) (u : List Move) (q : List SerialOp) (run : IsSeriallyWhole (start_on g matrix) u q) where
  start_quiet : IsQuiet (start_on g matrix)
  start_quiet = none_on g matrix

  along : LeadsSerially (start_on g matrix) u run.end run.history
  along = serially_from (start_on g matrix) u run.end run.history run.serial run.leads

  spells : Spells (λ x. 0) None run.history run.end
  spells = run_spelled u (start_on g matrix) run.end run.history along None start_quiet (λ x. 0) (λ x. sym (start_done g matrix x))

  is_serial : serial_of run.history ≡ q
  is_serial = whole_serial (λ x. 0) run.end run.history q spells.0 spells.1 spells.2 run.holds

  own_at_start : (p : List SerialOp) → IsWitness p run.history → p ≡ q
  own_at_start p w = own_from (start_on g matrix) u run.end run.history p (λ x. 0) (λ x. refl) spells w ∙ is_serial

  pub lengths_at_start : AreLengths matrix (made_calls run.end)
  lengths_at_start = made_lengths g matrix u run.end run.history run.leads

  module _ (Set : List SerialOp → Type 0) where
    -- what has a witness in the set is in the set
    witnessed : HasWitness Set run.history → Set q
    witnessed w = subst Set (own_at_start w.0 w.2) w.1

    -- the pending call is that of the open operation, and nothing else is pending
    stuck_witnessed : (after : State) (t : ℕ) → HasOpen run.end t → IsStuck after → IsGoodAt Set after run.history → (last : Option ℕ) → IsMode run.end last → IsSpelled (λ x. 0) None run.history last → Set q
    stuck_witnessed after t busy stuck (inl good) last mode spelled = absurd (stuck.0 good.0)
    stuck_witnessed after t busy stuck (inr good) None mode spelled = absurd (mode t busy)
    stuck_witnessed after t busy stuck (inr good) (Some x) mode spelled =
        let pending = pending_spelled (λ y. 0) run.history x spelled in
        let w = good.1 (record { t = x; k = pending.0 }) pending.1 in
        witnessed (subst (HasWitness Set) (keep_all (start_on g matrix) u run.end run.history run.leads x mode.1) w)

    bad_at_cut : EndsWhole run.end run.history q → (Set q → ⊥) → Refutes Set (with_matrix (start_on g matrix) (cut matrix (made_calls run.end))) u
    bad_at_cut (inl calm) out =
        let over = cut_ends (start_on g matrix) u run.end run.history start_quiet along in
        let complete = over.complete calm.0 in
        record {
          end = over.end;
          history = run.history;
          leads = over.leads;
          holds = (inl complete, (λ good. elim good [ inl g ↦ out (witnessed g.1) | inr g ↦ g.0.0 complete ]));
        }
    bad_at_cut (inr blocked) out =
        let over = cut_ends (start_on g matrix) u run.end run.history start_quiet along in
        let stuck = over.stuck blocked.0 blocked.1 blocked.2 in
        record {
          end = over.end;
          history = run.history;
          leads = over.leads;
          holds = (inr stuck, (λ good. out (stuck_witnessed over.end blocked.0 blocked.1 stuck good spells.0 spells.1 spells.2)));
        }

    pub refutes_at_cut : (Set q → ⊥) → Refutes Set (start_on g (cut matrix (made_calls run.end))) u
    refutes_at_cut out = subst (λ x. Refutes Set x u) (cut_start g matrix (made_calls run.end) lengths_at_start) (bad_at_cut run.holds out)

-- ---- the laws

run_at : (c : Component) (matrix : Matrix) (s : State) → IsStart c matrix s → (P : State → Type 0) → P (start_on (ground_of c s) matrix) → P s
run_at c matrix s is P h = subst P (sym (grounded c matrix s is)) h

pub own_witness : OwnWitness
own_witness c matrix s u q p is =
    run_at c matrix s is (λ x. (run : IsSeriallyWhole x u q) → IsWitness p run.history → p ≡ q) (λ run w. own_at_start (ground_of c s) matrix u q run p w)

pub made_cut : MadeCut
made_cut c matrix s u q is =
    run_at c matrix s is (λ x. (run : IsSeriallyWhole x u q) → AreLengths matrix (made_calls run.end)) (lengths_at_start (ground_of c s) matrix u q)

false_not_true : (b : Bool) → b ≡ false → b ≡ true → ⊥
false_not_true b e f = cc

pub cut_refutes : CutRefutes
cut_refutes c matrix s start members u q is =
    run_at c matrix s is (λ x. (run : IsSeriallyWhole x u q) → contains members q ≡ false → IsStart c (cut matrix (made_calls run.end)) start → Refutes (IsMember members) start u)
    (λ run out at.
    let same = same_ground c matrix (cut matrix (made_calls run.end)) s start is refl at in
    subst (λ x. Refutes (IsMember members) x u) (sym same) (refutes_at_cut (ground_of c s) matrix u q run (IsMember members) (false_not_true (contains members q) out)))
