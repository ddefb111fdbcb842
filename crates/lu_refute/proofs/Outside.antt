-- Serial schedules outside a specification, and what is answered.
use Rattle.std.proofs.Common.{◌≡◌, ◌≤◌, ◌⊎◌, Bool, true, false, ℕ, List, [], ◌∷◌, length, take, map, refl, sym, ◌∙◌, ap, subst, inl, inr, arith}
use Rattle.std.specs.List.{AllZip}
use Rattle.std.proofs.lemmas.List.{take_all}
use Rattle.lu_component.specs.Component.{Component}
use Rattle.lu_test.specs.declared.matrix.Call.{Call}
use Rattle.lu_test.specs.declared.schedule.Move.{Move}
use Rattle.lu_test.specs.Matrix.{Matrix, cut, first_calls}
use Rattle.lu_machine.specs.declared.event.Event.{Event}
use Rattle.lu_machine.specs.States.{State}
use Rattle.lu_machine.specs.Starts.{IsStart}
use Rattle.lu_machine.proofs.Starting.{settles_too, start_matrix, start_same, start_there}
use Rattle.lu_machine.proofs.Orders.{smaller_trans}
use Rattle.lu_machine.proofs.Paths.{leads_same}
use Rattle.lu_history.specs.declared.serial.SerialOp.{SerialOp}
use Rattle.lu_trie.specs.Members.{contains}
use Rattle.lu_serial.specs.Serial.{EndsAs, IsSerialHistory}
use Rattle.lu_serial.specs.Offences.{IsOutside, NoOffence}
use Rattle.lu_serial.proofs.Opening.{complete_not_open}
use Rattle.lu_witness.specs.Goodness.{IsGoodAt}
use Rattle.lu_witness.specs.Witnesses.{IsMember}
use Rattle.lu_report.specs.declared.report.Finding.TheVariants.{SerialCut, Nondeterministic, Fail, Pass}
use Rattle.lu_refute.specs.Linearizable.{IsCounterexample, IsLinearizable, Refutes}
use Rattle.lu_serial.specs.Cuts.{IsCutOf}
use Rattle.lu_serial.specs.Whole.{EndsWhole, made_calls}
use Rattle.lu_refute.specs.Answers.{IsOutsideAnswer}
use Rattle.lu_refute.specs.Laws.{AnswerRefutes, ConflictOutside, FailOutside, FailRefutes, HasAll, IsMatrixSpec, IsWhole, NotLinearizable, OutsideWhole, SpecIsSerial, WholeCut}
use Rattle.lu_refute.proofs.Core.{HasStuck, IsWholeFrom, stuck_last}
use Rattle.lu_serial.proofs.Grounds.{seats_start, Ground, ground_of, grounded, none_on, start_on}
use Rattle.lu_serial.proofs.Cuts.{start_done}
use Rattle.lu_refute.proofs.Fails.{AreFit, refutes_back, serial_member}
use Rattle.lu_refute.proofs.Own.{cut_refutes, made_cut}

-- ---- specifications that have every serial history

spec_fits : (g : Ground) (matrix : Matrix) (members : List (List SerialOp)) → IsMatrixSpec matrix members → AreFit (start_on g matrix) (IsMember members)
spec_fits g matrix members spec = record {
  apart = λ p q i o x y conflict. spec.0.deterministic p q i o x y conflict;
  serial = λ q member. spec.0.serial q member;
  room = λ q member t. (let none = start_done g matrix t in let fits = spec.1 q member t in omega (arith, none, fits));
}

whole_at_start : (g : Ground) (matrix : Matrix) (q : List SerialOp) → IsWhole matrix q → IsWholeFrom (start_on g matrix) q
whole_at_start g matrix q (inl stuck) = inl (subst HasStuck (sym stuck.2) (stuck_last stuck.0 stuck.1))
whole_at_start g matrix q (inr all) = inr (λ t. (let none = start_done g matrix t in let is = all t in omega (arith, none, is)))

pub spec_is_serial : SpecIsSerial
spec_is_serial c matrix s bound members q is =
    subst (λ x. NoOffence x bound → IsMatrixSpec matrix members → HasAll x members → IsMember members q → IsWhole matrix q → IsSerialHistory x q) (sym (grounded c matrix s is))
    (λ none spec has member whole.
    let g = ground_of c s in
    serial_member (IsMember members) (start_on g matrix) bound (none_on g matrix) (seats_start g matrix) (λ u cut_so. none u (inl cut_so)) (spec_fits g matrix members spec) has q member (whole_at_start g matrix q whole))

pub fail_refutes : FailRefutes
fail_refutes c matrix s bound members u is =
    subst (λ x. NoOffence x bound → IsMatrixSpec matrix members → HasAll x members → Refutes (IsSerialHistory x) x u → Refutes (IsMember members) x u) (sym (grounded c matrix s is))
    (λ none spec has bad.
    let g = ground_of c s in
    refutes_back (IsMember members) (start_on g matrix) bound (none_on g matrix) (seats_start g matrix) (λ v cut_so. none v (inl cut_so)) (spec_fits g matrix members spec) has u bad)

-- ---- schedules outside

pub true_or_false : (b : Bool) → (b ≡ true) ⊎ (b ≡ false)
true_or_false true = inl refl
true_or_false false = inr refl

pub fail_outside : FailOutside
fail_outside c matrix s bound members u is none spec nothing bad =
    fail_refutes c matrix s bound members u is none spec (λ q z. elim (true_or_false (contains members q)) [
      | inl member ↦ member
      | inr out ↦ absurd (nothing z.0 (q, z.1, out, (λ v less cut_so. none v (inl cut_so))))
    ]) bad

pub conflict_outside : ConflictOutside
conflict_outside s bound members u i o first one =
    let least = first.0 in
    let c = first.1 in
    elim (true_or_false (contains members c.history)) as (λ _. (w : List Move) × IsOutside s bound members w) [
      | inr out ↦ (u, (c.history, c.ended, out, (λ v less cut_so. least.least v less (inl cut_so))))
      | inl mine ↦ elim (true_or_false (contains members c.other)) as (λ _. (w : List Move) × IsOutside s bound members w) [
        | inr out ↦ (c.earlier, (c.other, c.earlier_ended, out, (λ v less cut_so. least.least v (smaller_trans v c.earlier u less c.smaller) (inl cut_so))))
        | inl other ↦ absurd (one c.history c.other i o mine other c.conflict)
      ]
    ]

ends_whole : (end : State) (h : List Event) (q : List SerialOp) → EndsAs end h q → EndsWhole end h q
ends_whole end h q (inl done) = inl ((λ t open_yet. complete_not_open end done.0 t open_yet), done.1)
ends_whole end h q (inr blocked) = inr blocked

pub outside_whole : OutsideWhole
outside_whole s w q ended = record {
  serial = ended.serial;
  end = ended.end;
  history = ended.history;
  leads = ended.leads;
  holds = ends_whole ended.end ended.history q ended.holds;
}

-- ---- answers

lengths_of : (rows : List (List Call)) → AllZip (λ (calls : List Call) n. n ≤ length calls) rows (map length rows)
lengths_of [] = tt
lengths_of (row ∷ rows) = (omega arith, lengths_of rows)

all_calls : (rows : List (List Call)) → first_calls rows (map length rows) ≡ rows
all_calls [] = refl
all_calls (row ∷ rows) =
    let here : take (length row) row ≡ row = take_all (length row) row (omega arith) in
    ap (λ x. x ∷ first_calls rows (map length rows)) here ∙ ap (λ x. row ∷ x) (all_calls rows)

pub whole_cut : WholeCut
whole_cut matrix = (
  map length matrix.threads,
  lengths_of matrix.threads,
  sym (ap (λ (rows : List (List Call)). let x : Matrix = record matrix { threads = rows } in x) (all_calls matrix.threads)),
)

outside_answer : (c : Component) (matrix : Matrix) (s : State) (serial : ℕ) (members : List (List SerialOp)) (answer : Matrix × List Move) → IsStart c matrix s → IsOutsideAnswer s serial members answer → IsCounterexample c matrix (IsMember members) answer
outside_answer c matrix s serial members answer is a =
    let short = a.short in
    let lengths = made_calls short.whole.end in
    let same : answer.0 ≡ cut matrix lengths = a.matrix_is ∙ ap (λ (x : Matrix). cut x lengths) (start_matrix c matrix s is) in (
      (lengths, made_cut c matrix s answer.1 short.entries is short.whole, same),
      λ start at. cut_refutes c matrix s start members answer.1 short.entries is short.whole short.outside (subst (λ x. IsStart c x start) same at),
    )

whole_answer : (c : Component) (matrix : Matrix) (s : State) (members : List (List SerialOp)) (u : List Move) → IsStart c matrix s → Refutes (IsMember members) s u → IsCounterexample c matrix (IsMember members) (s.matrix, u)
whole_answer c matrix s members u is bad =
    let same : s.matrix ≡ matrix = start_matrix c matrix s is in (
      subst (IsCutOf matrix) (sym same) (whole_cut matrix),
      λ start at. (let one : start ≡ s = start_same c matrix start s (subst (λ x. IsStart c x start) same at) is in subst (λ x. Refutes (IsMember members) x u) (sym one) bad),
    )

pub answer_refutes : AnswerRefutes
answer_refutes c matrix s serial members (SerialCut u) answer is a = absurd a
answer_refutes c matrix s serial members (Nondeterministic u before earlier) answer is a = outside_answer c matrix s serial members answer is a
answer_refutes c matrix s serial members (Fail u why) answer is (inl a) =
    subst (IsCounterexample c matrix (IsMember members)) (sym a.1) (whole_answer c matrix s members u is a.0)
answer_refutes c matrix s serial members (Fail u why) answer is (inr a) = outside_answer c matrix s serial members answer is a.1
answer_refutes c matrix s serial members (Pass counts) answer is a = absurd a

-- where a cut has such a schedule the component is not linearizable
pub refuted : (c : Component) (matrix smaller : Matrix) (s : State) (Set : List SerialOp → Type 0) (u : List Move) → IsCutOf matrix smaller → IsStart c smaller s → Refutes Set s u → IsLinearizable c matrix Set → ⊥
refuted c matrix smaller s Set u is start bad all =
    let good = all smaller s u is start (record { end = bad.end; history = bad.history; leads = bad.leads; holds = bad.holds.0 }) in
    let same = leads_same s u good.end bad.end good.history bad.history good.leads bad.leads in
    bad.holds.1 (subst (λ h. IsGoodAt Set bad.end h) same.1 (subst (λ x. IsGoodAt Set x good.history) same.0 good.holds))

-- a cut keeps the setup
cut_setup : (matrix smaller : Matrix) → IsCutOf matrix smaller → smaller.setup ≡ matrix.setup
cut_setup matrix smaller is = ap (λ (x : Matrix). x.setup) is.2

pub not_linearizable : NotLinearizable
not_linearizable c matrix members example settles counter =
    let start = start_there c example.0 (settles_too c matrix example.0 settles (cut_setup matrix example.0 counter.0)) in
    refuted c matrix example.0 start.0 (IsMember members) example.1 counter.0 start.1 (counter.1 start.0 start.1)
