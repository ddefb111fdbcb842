-- Campaigns of certificates.
use Rattle.std.proofs.Common.{ℕ, List, sym, ap, subst, ◌∙◌}
use Rattle.lu_test.specs.Matrix.{Matrix}
use Rattle.lu_machine.specs.Starts.{AllEnd}
use Rattle.lu_certify.specs.declared.certificate.Certificate.{Certificate}
use Rattle.lu_certify.specs.declared.certificate.Certificate.TheVariants.{Linearizable, Livelock, NotLinearizable, Undecided}
use Rattle.lu_certify.specs.Certificates.{AreSame, IsCertificate}
use Rattle.lu_certify.proofs.One.{certificate_decides}
use Rattle.lu_refine.specs.ByThread.{Asked, IsMatrixAt, role_matrix}
use Rattle.lu_survey.specs.declared.certified_campaign.CertifiedCampaign.TheVariants.{AllLinearizable, First}
use Rattle.lu_survey.specs.Certified.{IsCertified, IsCertifiedOther, IsRoleCertificate, SaysLinearizable, limits_for}
use Rattle.lu_survey.specs.Laws.{CertifiedJoin, OneCertifiedAnswer}
use Rattle.lu_survey.proofs.InSlices.{all_both, first_later, first_stays, none_other, one_first}

-- the certificate of the matrix is that of its choice
pub certificate_at : (asked : Asked) (nodes number : ℕ) (matrix : Matrix) (certificate : Certificate) → (at : IsMatrixAt asked number matrix) → IsCertificate asked.component matrix (limits_for asked nodes) certificate → IsRoleCertificate asked nodes at.choice certificate
certificate_at asked nodes number matrix certificate at is = subst (λ (m : Matrix). IsCertificate asked.component m (limits_for asked nodes) certificate) at.fills is

-- ---- slices that follow one another

pub certified_join : CertifiedJoin
certified_join asked nodes from middle to (First matrix certificate) later low high x y =
    first_stays asked (IsCertified asked nodes) (IsCertifiedOther asked nodes certificate) from middle to matrix high x
certified_join asked nodes from middle to (AllLinearizable count) (First matrix certificate) low high x y =
    first_later asked (IsCertified asked nodes) (IsCertifiedOther asked nodes certificate) from middle to count matrix low x y
certified_join asked nodes from middle to (AllLinearizable count) (AllLinearizable others) low high x y =
    all_both asked (IsCertified asked nodes) from middle to count others low high x y

-- ---- one answer

pub one_certificate : (asked : Asked) (nodes : ℕ) (choice : List ℕ) (a b : Certificate) → AllEnd asked.component asked.setup → IsRoleCertificate asked nodes choice a → IsRoleCertificate asked nodes choice b → AreSame a b
one_certificate asked nodes choice a b ends x y = (certificate_decides asked.component (role_matrix asked choice) (limits_for asked nodes) a ends x).1 b y

says_too : (a b : Certificate) → AreSame a b → SaysLinearizable a → SaysLinearizable b
says_too (Linearizable members) (Linearizable others) same says = tt
says_too (Linearizable members) (NotLinearizable smaller r) same says = absurd same
says_too (Linearizable members) (Livelock smaller u) same says = absurd same
says_too (Linearizable members) (Undecided smaller r) same says = absurd same
says_too (NotLinearizable smaller r) b same says = absurd says
says_too (Livelock smaller u) b same says = absurd says
says_too (Undecided smaller r) b same says = absurd says

apart : (asked : Asked) (nodes : ℕ) (certificate : Certificate) → AllEnd asked.component asked.setup → (choice : List ℕ) → IsCertified asked nodes choice → IsCertifiedOther asked nodes certificate choice → ⊥
apart asked nodes certificate ends choice so other = other.1 (says_too so.0 certificate (one_certificate asked nodes choice so.0 certificate ends so.1 other.0) so.2)

pub one_answer : OneCertifiedAnswer
one_answer asked nodes from to (AllLinearizable count) (AllLinearizable others) ends x y = x.number ∙ sym y.number
one_answer asked nodes from to (AllLinearizable count) (First matrix certificate) ends x y =
    none_other asked (IsCertified asked nodes) (IsCertifiedOther asked nodes certificate) from to count matrix (apart asked nodes certificate ends) x y
one_answer asked nodes from to (First matrix certificate) (AllLinearizable count) ends x y =
    none_other asked (IsCertified asked nodes) (IsCertifiedOther asked nodes certificate) from to count matrix (apart asked nodes certificate ends) y x
one_answer asked nodes from to (First matrix certificate) (First other its) ends x y =
    let same = one_first asked (IsCertified asked nodes) (IsCertifiedOther asked nodes certificate) (IsCertifiedOther asked nodes its) from to matrix other (apart asked nodes certificate ends) (apart asked nodes its ends) x y in (
      x.is ∙ (ap (role_matrix asked) same ∙ sym y.is),
      one_certificate asked nodes y.choice certificate its ends (subst (λ (choice : List ℕ). IsRoleCertificate asked nodes choice certificate) same x.other.0) y.other.0,
    )
