-- There is one certificate.
use Rattle.std.proofs.Common.{◌≡◌, ℕ, List, Result, Ok, Err, refl, sym, ◌∙◌, ap, subst, inl, inr}
use Rattle.std.specs.Prelude.{IfOk}
use Rattle.lu_component.specs.Component.{Component}
use Rattle.lu_test.specs.declared.schedule.Move.{Move}
use Rattle.lu_test.specs.Matrix.{Matrix, cut}
use Rattle.lu_machine.specs.Starts.{Settles}
use Rattle.lu_machine.proofs.Starting.{settles_too, start_there}
use Rattle.lu_report.specs.declared.report.Report.{Report}
use Rattle.lu_replay.specs.Reports.{IsReport}
use Rattle.lu_replay.proofs.Determined.{one_report}
use Rattle.lu_refute.proofs.Outside.{whole_cut}
use Rattle.lu_certify.specs.declared.limits.Limits.{Limits}
use Rattle.lu_certify.specs.declared.certificate.Certificate.{Certificate}
use Rattle.lu_certify.specs.declared.certificate.Certificate.TheVariants.{Linearizable, Livelock, NotLinearizable, Undecided}
use Rattle.lu_certify.specs.Certificates.{AllClear, AreSame, Fails, IsCertificate, IsClear, IsFailingReport, IsFirstFailing, IsFirstLivelock, IsFirstUnclear, IsLivelock, NoLivelocks}
use Rattle.lu_certify.specs.Laws.{CertificateDecides, Decides}
use Rattle.lu_certify.proofs.Behind.{clear_never_fails, failing_is, one_failing}
use Rattle.lu_certify.proofs.Linear.{begun_deterministic, clear_at, clear_cut, clear_linearizes}
use Rattle.lu_certify.proofs.Livelocks.{clear_never_lost, clear_no_livelock, one_lost}
use Rattle.lu_certify.proofs.CutLengths.{lengths_compare}
use Rattle.lu_certify.proofs.Refuted.{none_serves}

module _ (c : Component) (matrix : Matrix) (limits : Limits) (settles : Settles c matrix) where
  cut_settles : (lengths : List ℕ) → Settles c (cut matrix lengths)
  cut_settles lengths = settles_too c matrix (cut matrix lengths) settles refl

  -- the first cut that fails
  module _ (smaller : Matrix) (r : Report) (first : IsFirstFailing c matrix limits smaller r) where
    its : IsFailingReport c limits (cut matrix first.lengths) r
    its = subst (λ x. IsFailingReport c limits x r) first.is first.fails

    has_it : Fails c limits (cut matrix first.lengths)
    has_it = (r, its)

  -- where each cut is clear, none fails
  none_fails : AllClear c matrix limits → (smaller : Matrix) (r : Report) → IsFirstFailing c matrix limits smaller r → ⊥
  none_fails all smaller r first =
      clear_never_fails c (cut matrix first.lengths) limits (cut_settles first.lengths) (all first.lengths first.are) (has_it smaller r first)

  here_unclear : (smaller : Matrix) (r : Report) (first : IsFirstUnclear c matrix limits smaller r) → IsClear c limits (cut matrix first.lengths) → ⊥
  here_unclear smaller r first clear = first.unclear (subst (IsClear c limits) (sym first.is) clear)

  none_unclear : AllClear c matrix limits → (smaller : Matrix) (r : Report) → IsFirstUnclear c matrix limits smaller r → ⊥
  none_unclear all smaller r first = here_unclear smaller r first (all first.lengths first.are)

  unclear_same : (a b : Matrix) (r q : Report) → IsFirstUnclear c matrix limits a r → IsFirstUnclear c matrix limits b q → (a ≡ b) × (r ≡ q)
  unclear_same a b r q x y =
      elim (lengths_compare matrix x.lengths y.lengths x.are y.are) as (λ _. (a ≡ b) × (r ≡ q)) [
        | inl less ↦ absurd (here_unclear a r x (y.before x.lengths x.are less))
        | inr others ↦ elim others as (λ _. (a ≡ b) × (r ≡ q)) [
          | inl more ↦ absurd (here_unclear b q y (x.before y.lengths y.are more))
          | inr same ↦
              (let one_cut : a ≡ b = x.is ∙ (ap (λ (l : List ℕ). cut matrix l) same ∙ sym y.is) in
              let settled : Settles c b = subst (Settles c) (sym y.is) (cut_settles y.lengths) in
              (one_cut, one_report c b limits.bound limits.serial r q settled (subst (λ m. IsReport c m limits.bound limits.serial r) one_cut x.report) y.report))
        ]
      ]

  clear_none : AllClear c matrix limits → NoLivelocks c matrix limits
  clear_none all lengths are = clear_no_livelock c (cut matrix lengths) limits (cut_settles lengths) (all lengths are)

  none_lost : NoLivelocks c matrix limits → (smaller : Matrix) (u : List Move) → IsFirstLivelock c matrix limits smaller u → ⊥
  none_lost none smaller u first = none first.lengths first.are u (subst (λ m. IsLivelock c limits m u) first.is first.livelock)

  livelock_same : (a b : Matrix) (u v : List Move) → IsFirstLivelock c matrix limits a u → IsFirstLivelock c matrix limits b v → (a ≡ b) × (u ≡ v)
  livelock_same a b u v x y =
      elim (lengths_compare matrix x.lengths y.lengths x.are y.are) as (λ _. (a ≡ b) × (u ≡ v)) [
        | inl less ↦ absurd (y.before x.lengths x.are less u (subst (λ m. IsLivelock c limits m u) x.is x.livelock))
        | inr others ↦ elim others as (λ _. (a ≡ b) × (u ≡ v)) [
          | inl more ↦ absurd (x.before y.lengths y.are more v (subst (λ m. IsLivelock c limits m v) y.is y.livelock))
          | inr same ↦
              (let one_cut : a ≡ b = x.is ∙ (ap (λ (l : List ℕ). cut matrix l) same ∙ sym y.is) in
              let there = start_there c b (subst (Settles c) (sym y.is) (cut_settles y.lengths)) in
              let here : IsLivelock c limits b u = subst (λ m. IsLivelock c limits m u) one_cut x.livelock in
              (one_cut, one_lost there.0 u v (here there.0 there.1).2 (y.livelock there.0 there.1).2))
        ]
      ]

  first_same : (a b : Matrix) (r q : Report) → IsFirstFailing c matrix limits a r → IsFirstFailing c matrix limits b q → (a ≡ b) × (r ≡ q)
  first_same a b r q x y =
      elim (lengths_compare matrix x.lengths y.lengths x.are y.are) as (λ _. (a ≡ b) × (r ≡ q)) [
        | inl less ↦ absurd (y.before x.lengths x.are less (has_it a r x))
        | inr others ↦ elim others as (λ _. (a ≡ b) × (r ≡ q)) [
          | inl more ↦ absurd (x.before y.lengths y.are more (has_it b q y))
          | inr same ↦
              (let here : IsFailingReport c limits (cut matrix y.lengths) r = subst (λ (l : List ℕ). IsFailingReport c limits (cut matrix l) r) same (its a r x) in (
                x.is ∙ (ap (λ (l : List ℕ). cut matrix l) same ∙ sym y.is),
                one_failing c (cut matrix y.lengths) limits (cut_settles y.lengths) r q here (its b q y),
              ))
        ]
      ]

  one : (a b : Certificate) → IsCertificate c matrix limits a → IsCertificate c matrix limits b → AreSame a b
  one (Linearizable members) (Linearizable others) x y =
      let there = start_there c matrix settles in
      λ q. (
        (λ has. (y.1 there.0 there.1 q).1 ((x.1 there.0 there.1 q).0 has)),
        (λ has. (x.1 there.0 there.1 q).1 ((y.1 there.0 there.1 q).0 has)),
      )
  one (Linearizable members) (NotLinearizable b q) x y = none_fails x.0 b q y
  one (Linearizable members) (Livelock b v) x y = none_lost (clear_none x.0) b v y.1
  one (Linearizable members) (Undecided b q) x y = none_unclear x.0 b q y.2
  one (NotLinearizable a r) (Linearizable others) x y = absurd (none_fails y.0 a r x)
  one (NotLinearizable a r) (NotLinearizable b q) x y =
      let same = first_same a b r q x y in
      ap (λ (m : Matrix). NotLinearizable m r) same.0 ∙ ap (λ (p : Report). NotLinearizable b p) same.1
  one (NotLinearizable a r) (Livelock b v) x y = absurd (y.0 x.lengths x.are (has_it a r x))
  one (NotLinearizable a r) (Undecided b q) x y = absurd (y.0 x.lengths x.are (has_it a r x))
  one (Livelock a u) (Linearizable others) x y = absurd (none_lost (clear_none y.0) a u x.1)
  one (Livelock a u) (NotLinearizable b q) x y = absurd (x.0 y.lengths y.are (has_it b q y))
  one (Livelock a u) (Livelock b v) x y =
      let same = livelock_same a b u v x.1 y.1 in
      ap (λ (m : Matrix). Livelock m u) same.0 ∙ ap (λ (w : List Move). Livelock b w) same.1
  one (Livelock a u) (Undecided b q) x y = absurd (none_lost y.1 a u x.1)
  one (Undecided a r) (Linearizable others) x y = absurd (none_unclear y.0 a r x.2)
  one (Undecided a r) (NotLinearizable b q) x y = absurd (x.0 y.lengths y.are (has_it b q y))
  one (Undecided a r) (Livelock b v) x y = absurd (none_lost x.1 b v y.1)
  one (Undecided a r) (Undecided b q) x y =
      let same = unclear_same a b r q x.2 y.2 in
      ap (λ (m : Matrix). Undecided m r) same.0 ∙ ap (λ (p : Report). Undecided b p) same.1

  pub decided : (certificate : Certificate) → IsCertificate c matrix limits certificate → Decides c matrix certificate
  decided (Linearizable members) x =
      let there = start_there c matrix settles in
      let whole = clear_at c matrix limits (clear_cut c matrix limits x.0 matrix (whole_cut matrix)) there.0 there.1 in (
        (begun_deterministic c matrix there.0 limits.serial members there.1 whole.none (x.1 there.0 there.1), clear_linearizes c matrix limits members settles x.0 x.1),
        (λ smaller is. clear_never_lost c smaller limits (settles_too c matrix smaller settles (ap (λ (m : Matrix). m.setup) is.2)) (clear_cut c matrix limits x.0 smaller is)),
      )
  decided (NotLinearizable smaller r) x =
      let there : Settles c smaller = subst (Settles c) (sym x.is) (cut_settles x.lengths) in
      let at = failing_is c smaller limits there r x.fails in
      none_serves c matrix smaller at.0 limits.serial r settles (x.lengths, x.are, x.is) at.1 at.2
  decided (Livelock smaller u) x = ((x.1.lengths, x.1.are, x.1.is), (λ s at. (x.1.livelock s at).2.lost))
  decided (Undecided smaller r) x = tt

pub certificate_decides : CertificateDecides
certificate_decides c matrix limits certificate settles is =
    (decided c matrix limits settles certificate is, (λ other at. one c matrix limits settles certificate other is at))

-- where there is a certificate, it decides
pub decides_where : {E : Type 0} (c : Component) (matrix : Matrix) (limits : Limits) → Settles c matrix → (result : Result Certificate E) → IfOk result (IsCertificate c matrix limits) → IfOk result (Decides c matrix)
decides_where c matrix limits settles (Ok certificate) is = decided c matrix limits settles certificate is
decides_where c matrix limits settles (Err e) is = tt
