-- Campaigns whose matrices are certified.
use Rattle.std.specs.Prelude.{ℕ, List}
use Rattle.lu_component.specs.Component.{Component}
use Rattle.lu_test.specs.Matrix.{IsOf}
use Rattle.lu_certify.specs.declared.certificate.Certificate.{Certificate}
use Rattle.lu_certify.specs.declared.certificate.Certificate.TheVariants.{Linearizable, Livelock, NotLinearizable, Undecided}
use Rattle.lu_certify.specs.declared.limits.Limits.{Limits}
use Rattle.lu_certify.specs.Certificates.{IsCertificate, NamesCutOf}
use Rattle.lu_refine.specs.ByThread.{Asked, role_matrix}
use Rattle.lu_refine.specs.Roles.{AreWithinLimits}
use Rattle.lu_survey.specs.declared.certified_campaign.CertifiedCampaign.{CertifiedCampaign}
use Rattle.lu_survey.specs.declared.certified_campaign.CertifiedCampaign.TheVariants.{AllLinearizable, First}
use Rattle.lu_survey.specs.Slices.{AreAllSo, IsFirstOther}

-- the bounds that are asked for, and this many nodes
abbrev pub limits_for : Asked → ℕ → Limits
limits_for asked nodes =
    record { bound = asked.bound; serial = asked.serial; nodes = nodes }

-- this is the certificate of the matrix that the choice fills, within those limits
abbrev pub IsRoleCertificate : Asked → ℕ → List ℕ → Certificate → Type 0
IsRoleCertificate asked nodes choice certificate =
    IsCertificate asked.component (role_matrix asked choice) (limits_for asked nodes) certificate

-- a certificate that the component is linearizable
abbrev pub SaysLinearizable : Certificate → Type 0
SaysLinearizable (Linearizable members) = Unit {0}
SaysLinearizable (NotLinearizable smaller r) = ⊥
SaysLinearizable (Livelock smaller u) = ⊥
SaysLinearizable (Undecided smaller r) = ⊥

-- on the matrix that the choice fills the component is certified to be linearizable
abbrev pub IsCertified : Asked → ℕ → List ℕ → Type 0
IsCertified asked nodes choice =
    (certificate : Certificate) × IsRoleCertificate asked nodes choice certificate
    × SaysLinearizable certificate

-- it has this certificate, which says otherwise
abbrev pub IsCertifiedOther : Asked → ℕ → Certificate → List ℕ → Type 0
IsCertifiedOther asked nodes certificate choice =
    IsRoleCertificate asked nodes choice certificate × (SaysLinearizable certificate → ⊥)

-- on each matrix of the slice the component is certified to be linearizable, and this is their
-- number; or the first on which it is not, with its certificate
abbrev pub IsCertifiedSlice : Asked → ℕ → ℕ → ℕ → CertifiedCampaign → Type 0
IsCertifiedSlice asked nodes from to (AllLinearizable count) =
    AreAllSo asked from to (IsCertified asked nodes) count
IsCertifiedSlice asked nodes from to (First matrix certificate) =
    IsFirstOther asked from to (IsCertified asked nodes) (IsCertifiedOther asked nodes certificate)
    matrix

-- the limits hold, and this is found
abbrev pub IsCertifiedAnswer : Asked → ℕ → ℕ → ℕ → CertifiedCampaign → Type 0
IsCertifiedAnswer asked nodes from to found =
    AreWithinLimits asked.calls asked.candidates × IsCertifiedSlice asked nodes from to found

-- the matrix that is found is one of the component, and so is the cut that its certificate names,
-- if any
abbrev pub IsCertifiedOf : Component → CertifiedCampaign → Type 0
IsCertifiedOf c (AllLinearizable count) = Unit {0}
IsCertifiedOf c (First matrix certificate) = IsOf matrix c × NamesCutOf c certificate
