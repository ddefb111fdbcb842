-- What is known of the cuts before a number.
use Rattle.std.proofs.Common.{arith, ◌≡◌, ◌<◌, ◌≤◌, ◌+◌, ℕ, zero, suc, List, [], ◌∷◌, ◌++◌, Result, Ok, Err, refl, sym, ap, subst, inl, inr}
use Rattle.std.specs.Prelude.{All, IfErr, IfOk, IsOk}
use Rattle.std.proofs.lemmas.Bool.{cases_lt}
use Rattle.std.proofs.lemmas.List.Elements.{All-take}
use Rattle.lu_choices.specs.Choices.{IsBefore}
use Rattle.lu_choices.proofs.Numbered.{before_less, number_below, same_choice}
use Rattle.lu_component.specs.Component.{Component}
use Rattle.lu_test.specs.declared.matrix.Call.{Call}
use Rattle.lu_test.specs.declared.schedule.Move.{Move}
use Rattle.lu_test.specs.Matrix.{IsCallOf, IsOf, Matrix, cut, first_calls}
use Rattle.lu_machine.specs.States.{State}
use Rattle.lu_machine.specs.Starts.{CanRun, IsStart, Settles}
use Rattle.lu_machine.proofs.Starting.{can_run_too, settles_too}
use Rattle.lu_history.specs.declared.serial.SerialOp.{SerialOp}
use Rattle.lu_report.specs.declared.report.Finding.{Finding}
use Rattle.lu_report.specs.declared.report.Finding.TheVariants.{Fail, Nondeterministic, Pass, SerialCut}
use Rattle.lu_report.specs.declared.report.Report.{Report}
use Rattle.lu_report.specs.Parts.{IsOfOffence}
use Rattle.lu_replay.specs.Reports.{IsFinding, IsReport}
use Rattle.lu_serial.specs.Offences.{IsSetOf, NoOffence}
use Rattle.lu_spec.specs.Beginnings.{IsClosureOf}
use Rattle.lu_serial.specs.Cuts.{AreLengths}
use Rattle.lu_serial.proofs.Grounds.{seats_start, ground_of, grounded, none_on, start_on}
use Rattle.lu_serial.proofs.Ops.{HasSerialHistory, some_serial}
use Rattle.lu_refute.proofs.Outside.{whole_cut}
use Rattle.lu_certify.specs.declared.limits.Limits.{Limits}
use Rattle.lu_certify.specs.declared.certificate.Certificate.{Certificate}
use Rattle.lu_certify.specs.declared.certificate.Certificate.TheVariants.{Linearizable, Livelock, NotLinearizable, Undecided}
use Rattle.lu_certify.specs.declared.so_far.SoFar.{SoFar}
use Rattle.lu_certify.specs.declared.so_far.SoFar.TheVariants.{Clear, Lost, Unclear}
use Rattle.lu_certify.specs.declared.judged.Standing.{Standing}
use Rattle.lu_certify.specs.declared.judged.Standing.TheVariants.{FullPass, Good, Open}
use Rattle.lu_certify.specs.Certificates.{AllClear, AreBeginnings, Fails, HasNoLivelock, IsCertificate, IsClear, IsFailingReport, IsFirstFailing, IsFirstLivelock, IsFirstUnclear, IsLivelock, NamesCutOf, NoneFails, NoLivelocks}
use Rattle.lu_certify.specs.Cuts.{IsConcluded, IsCutAt, IsNext, IsStanding, IsWithoutOffence, cut_count, cut_number, length_counts}
use Rattle.lu_certify.proofs.CutLengths.{chosen}
use Rattle.lu_certify.proofs.Behind.{clear_never_fails, good_never_fails}
use Rattle.lu_certify.proofs.Linear.{clear_at, clear_cut}

-- a cut that stands does not fail
pub standing_never_fails : (c : Component) (matrix : Matrix) (limits : Limits) → Settles c matrix → (standing : Standing) → IsStanding c limits matrix standing → Fails c limits matrix → ⊥
standing_never_fails c matrix limits settles FullPass stands = clear_never_fails c matrix limits settles (inl stands)
standing_never_fails c matrix limits settles Good stands = good_never_fails c matrix limits settles stands
standing_never_fails c matrix limits settles (Open r) stands = stands.2

module _ (c : Component) (matrix : Matrix) (limits : Limits) where
  -- the cuts of all numbers before this one are clear
  abbrev pub ClearBefore : ℕ → Type 0
  ClearBefore number =
      (other : List ℕ) → AreLengths matrix other → cut_number matrix other < number → IsClear c limits (cut matrix other)

  -- none of them fails
  abbrev pub NoneFailsBefore : ℕ → Type 0
  NoneFailsBefore number =
      (other : List ℕ) → AreLengths matrix other → cut_number matrix other < number → Fails c limits (cut matrix other) → ⊥

  -- none of them has a livelock
  abbrev pub NoLivelockBefore : ℕ → Type 0
  NoLivelockBefore number =
      (other : List ℕ) → AreLengths matrix other → cut_number matrix other < number → HasNoLivelock c limits (cut matrix other)

  -- what is known of them, none of which fails
  abbrev pub IsKnown : ℕ → SoFar → Type 0
  IsKnown number Clear = ClearBefore number × NoLivelockBefore number
  IsKnown number (Unclear smaller r) = IsFirstUnclear c matrix limits smaller r × NoLivelockBefore number
  IsKnown number (Lost smaller u) = IsFirstLivelock c matrix limits smaller u

  pub none_yet : NoneFailsBefore 0
  none_yet other are less has = absurd (omega arith)

  pub none_known : IsKnown 0 Clear
  none_known = ((λ other are less. absurd (omega arith)), (λ other are less. absurd (omega arith)))

  -- the cut with this number
  module _ (settles : Settles c matrix) (number : ℕ) (smaller : Matrix) (at : IsCutAt matrix number smaller) where
    -- a cut before the next number is before this one, or it is this one
    this_or_before : (P : List ℕ → Type 0) → ((other : List ℕ) → AreLengths matrix other → cut_number matrix other < number → P other) → P at.lengths → (other : List ℕ) → AreLengths matrix other → cut_number matrix other < number + 1 → P other
    this_or_before P before here other are less =
        elim (cases_lt (cut_number matrix other) number) as (λ _. P other) [
          | inl lt ↦ before other are lt
          | inr least ↦
              (let there = at.is_at in
              let same : other ≡ at.lengths = same_choice (length_counts matrix) other at.lengths (chosen matrix other are) (chosen matrix at.lengths at.are) (omega (arith, least, less, there)) in
              subst P (sym same) here)
        ]

    -- and what comes before this one has a lesser number
    number_less : (other : List ℕ) → AreLengths matrix other → IsBefore other at.lengths → cut_number matrix other < number
    number_less other are sooner =
        let less = before_less (length_counts matrix) other at.lengths (chosen matrix other are) (chosen matrix at.lengths at.are) sooner in
        let there = at.is_at in
        omega (arith, less, there)

    clear_more : ClearBefore number → IsClear c limits smaller → ClearBefore (number + 1)
    clear_more before clear = this_or_before (λ other. IsClear c limits (cut matrix other)) before (subst (IsClear c limits) at.is clear)

    pub none_more : NoneFailsBefore number → (Fails c limits smaller → ⊥) → NoneFailsBefore (number + 1)
    none_more before none =
        this_or_before (λ other. Fails c limits (cut matrix other) → ⊥) before (subst (λ (m : Matrix). Fails c limits m → ⊥) at.is none)

    -- the first that fails
    pub first_here : (r : Report) → NoneFailsBefore number → IsFailingReport c limits smaller r → IsFirstFailing c matrix limits smaller r
    first_here r before fails = record {
      lengths = at.lengths;
      are = at.are;
      is = at.is;
      fails = fails;
      before = λ other are sooner. before other are (number_less other are sooner);
    }

    none_lost_more : NoLivelockBefore number → HasNoLivelock c limits smaller → NoLivelockBefore (number + 1)
    none_lost_more before none = this_or_before (λ other. HasNoLivelock c limits (cut matrix other)) before (subst (HasNoLivelock c limits) at.is none)

    first_lost : (u : List Move) → IsLivelock c limits smaller u → NoLivelockBefore number → IsFirstLivelock c matrix limits smaller u
    first_lost u livelock before = record {
      lengths = at.lengths;
      are = at.are;
      is = at.is;
      livelock = livelock;
      before = λ other are sooner. before other are (number_less other are sooner);
    }

    -- the first that is not clear
    first_left : (r : Report) → IsReport c smaller limits.bound limits.serial r → (IsClear c limits smaller → ⊥) → ClearBefore number → IsFirstUnclear c matrix limits smaller r
    first_left r report unclear before = record {
      lengths = at.lengths;
      are = at.are;
      is = at.is;
      report = report;
      unclear = unclear;
      before = λ other are sooner. before other are (number_less other are sooner);
    }

    pub known_next : (old new : SoFar) → IsNext c limits old smaller new → IsKnown number old → IsKnown (number + 1) new
    known_next (Lost one u) new is known = subst (IsKnown (number + 1)) (sym is) known
    known_next (Unclear one r) Clear is known = absurd is
    known_next (Unclear one r) (Unclear other q) is known = subst (IsKnown (number + 1)) (sym is.0) (known.0, none_lost_more known.1 is.1)
    known_next (Unclear one r) (Lost other u) is known = subst (λ (x : Matrix). IsFirstLivelock c matrix limits x u) (sym is.0) (first_lost u is.1 known.1)
    known_next Clear Clear is known = (clear_more known.0 is.1, none_lost_more known.1 is.0)
    known_next Clear (Unclear other r) is known = (subst (λ (x : Matrix). IsFirstUnclear c matrix limits x r) (sym is.0) (first_left r is.2 is.3 known.0), none_lost_more known.1 is.1)
    known_next Clear (Lost other u) is known = subst (λ (x : Matrix). IsFirstLivelock c matrix limits x u) (sym is.0) (first_lost u is.1 known.1)

  -- at the end
  among_all : (number : ℕ) → cut_count matrix ≤ number → (lengths : List ℕ) → AreLengths matrix lengths → cut_number matrix lengths < number
  among_all number all lengths are = let below = number_below (length_counts matrix) lengths (chosen matrix lengths are) in omega (arith, below, all)

  none_all : (number : ℕ) → cut_count matrix ≤ number → NoneFailsBefore number → NoneFails c matrix limits
  none_all number all before lengths are has = before lengths are (among_all number all lengths are) has

  all_known : (number : ℕ) → cut_count matrix ≤ number → IsKnown number Clear → AllClear c matrix limits
  all_known number all known lengths are = known.0 lengths are (among_all number all lengths are)

  none_lost_all : (number : ℕ) → cut_count matrix ≤ number → NoLivelockBefore number → NoLivelocks c matrix limits
  none_lost_all number all none lengths are = none lengths are (among_all number all lengths are)

  -- no serial run of the whole matrix offends
  all_without : AllClear c matrix limits → IsWithoutOffence c matrix limits.serial
  all_without all s is = (clear_at c matrix limits (clear_cut c matrix limits all matrix (whole_cut matrix)) s is).none

  pub none_offends : (number : ℕ) (so_far : SoFar) → cut_count matrix ≤ number → IsKnown number so_far → so_far ≡ Clear → IsWithoutOffence c matrix limits.serial
  none_offends number so_far all known clear = all_without (all_known number all (subst (IsKnown number) clear known))

  -- what is concluded is the certificate
  pub concluded : (number : ℕ) (so_far : SoFar) → cut_count matrix ≤ number → NoneFailsBefore number → IsKnown number so_far → (certificate : Certificate) → IsConcluded c matrix so_far certificate → IsCertificate c matrix limits certificate
  concluded number Clear all before known (Linearizable members) is = (all_known number all known, is)
  concluded number Clear all before known (NotLinearizable smaller r) is = absurd is
  concluded number Clear all before known (Livelock smaller u) is = absurd is
  concluded number Clear all before known (Undecided smaller r) is = absurd is
  concluded number (Unclear smaller r) all before known certificate is =
      subst (IsCertificate c matrix limits) (sym is) (none_all number all before, none_lost_all number all known.1, known.0)
  concluded number (Lost smaller u) all before known certificate is =
      subst (IsCertificate c matrix limits) (sym is) (none_all number all before, known)

  pub concluded_where : {E : Type 0} (number : ℕ) (so_far : SoFar) → cut_count matrix ≤ number → NoneFailsBefore number → IsKnown number so_far → (result : Result Certificate E) → IfOk result (IsConcluded c matrix so_far) → IfOk result (IsCertificate c matrix limits)
  concluded_where number so_far all before known (Ok certificate) is = concluded number so_far all before known certificate is
  concluded_where number so_far all before known (Err e) is = tt

-- ---- the cut runs

rows_of : (c : Component) (rows : List (List Call)) (lengths : List ℕ) → All (λ calls. All (IsCallOf c) calls) rows → All (λ calls. All (IsCallOf c) calls) (first_calls rows lengths)
rows_of c [] lengths all k d h = absurd (omega arith)
rows_of c (row ∷ rows) [] all k d h = absurd (omega arith)
rows_of c (row ∷ rows) (n ∷ lengths) all zero d h = All-take (IsCallOf c) n row (all zero d (omega arith))
rows_of c (row ∷ rows) (n ∷ lengths) all (suc k) d h = rows_of c rows lengths (λ j e w. all (suc j) e (omega arith)) k d (omega arith)

pub cut_runs : (c : Component) (matrix : Matrix) (number : ℕ) (smaller : Matrix) → CanRun c matrix → IsCutAt matrix number smaller → CanRun c smaller
cut_runs c matrix number smaller runs at =
    subst (CanRun c) (sym at.is) (can_run_too c matrix (cut matrix at.lengths) runs (runs.of.0, rows_of c matrix.threads at.lengths runs.of.1) refl)

-- so is the first that is not clear
unclear_of : (c : Component) (matrix smaller : Matrix) (limits : Limits) (r : Report) → IsOf matrix c → IsFirstUnclear c matrix limits smaller r → IsOf smaller c
unclear_of c matrix smaller limits r of first =
    subst (λ (m : Matrix). IsOf m c) (sym first.is) (of.0, rows_of c matrix.threads first.lengths of.1)

-- and the first that has a livelock
livelock_of : (c : Component) (matrix smaller : Matrix) (limits : Limits) (u : List Move) → IsOf matrix c → IsFirstLivelock c matrix limits smaller u → IsOf smaller c
livelock_of c matrix smaller limits u of first =
    subst (λ (m : Matrix). IsOf m c) (sym first.is) (of.0, rows_of c matrix.threads first.lengths of.1)

-- the first cut that fails is a matrix of the component
failing_of : (c : Component) (matrix smaller : Matrix) (limits : Limits) (r : Report) → IsOf matrix c → IsFirstFailing c matrix limits smaller r → IsOf smaller c
failing_of c matrix smaller limits r of first =
    subst (λ (m : Matrix). IsOf m c) (sym first.is) (of.0, rows_of c matrix.threads first.lengths of.1)

pub names_cut : (c : Component) (matrix : Matrix) (limits : Limits) (certificate : Certificate) → IsOf matrix c → IsCertificate c matrix limits certificate → NamesCutOf c certificate
names_cut c matrix limits (Linearizable members) of is = tt
names_cut c matrix limits (NotLinearizable smaller r) of is = failing_of c matrix smaller limits r of is
names_cut c matrix limits (Livelock smaller u) of is = livelock_of c matrix smaller limits u of is.1
names_cut c matrix limits (Undecided smaller r) of is = unclear_of c matrix smaller limits r of is.2

pub names_where : {E : Type 0} (c : Component) (matrix : Matrix) (limits : Limits) → IsOf matrix c → (result : Result Certificate E) → IfOk result (IsCertificate c matrix limits) → IfOk result (NamesCutOf c)
names_where c matrix limits of (Ok certificate) is = names_cut c matrix limits certificate of is
names_where c matrix limits of (Err e) is = tt

-- ---- the beginnings of the serial histories

some_history : (c : Component) (matrix : Matrix) (s : State) (serial : ℕ) → IsStart c matrix s → NoOffence s serial → HasSerialHistory s
some_history c matrix s serial is =
    subst (λ x. NoOffence x serial → HasSerialHistory x) (sym (grounded c matrix s is))
    (λ none. some_serial serial (start_on (ground_of c s) matrix) (none_on (ground_of c s) matrix) (seats_start (ground_of c s) matrix) (λ u over. none u (inl over)))

pub closure_begins : (c : Component) (matrix : Matrix) (s : State) (serial : ℕ) (set members : List (List SerialOp)) → IsStart c matrix s → IsSetOf s serial set → IsClosureOf set members → AreBeginnings s members
closure_begins c matrix s serial set members is of closure q = (
  (λ has. elim ((closure q).0 has) [
    | inl none ↦ (let z = some_history c matrix s serial is of.none in (z.0, (z.0, ap (λ x. x ++ z.0) (sym none)), z.1))
    | inr begins ↦ (begins.0, begins.1, (of.are begins.0).0 begins.2)
  ]),
  (λ begins. (closure q).1 (inr (begins.0, begins.1, (of.are begins.0).1 begins.2))),
)

-- where no serial run offends, no offence is found
pub none_found : {M : Type 0} (s : State) (serial : ℕ) (result : Result M Finding) → NoOffence s serial → IfErr result (IsFinding s 0 serial) → IfErr result IsOfOffence → IsOk result
none_found s serial (Ok set) none is of = refl
none_found s serial (Err (SerialCut u)) none is of = absurd (none u is.0.kind)
none_found s serial (Err (Nondeterministic u before earlier)) none is of = absurd (none u is.0.kind)
none_found s serial (Err (Fail u why)) none is of = absurd of
none_found s serial (Err (Pass counts)) none is of = absurd of
