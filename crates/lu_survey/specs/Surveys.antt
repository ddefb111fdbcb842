-- Surveys: how many matrices of a slice have a certificate of each kind.
use Rattle.std.specs.Prelude.{◌≡◌, ◌<◌, ℕ, ◌+◌, ◌^◌, ◌-◌, Bool, true, false, IfSome, List, [], ◌∷◌, length, count_by, find, Some, None}
use Rattle.std.specs.Option.{option_or}
use Rattle.lu_component.specs.Component.{Component}
use Rattle.lu_test.specs.Matrix.{IsOf}
use Rattle.lu_certify.specs.declared.certificate.Certificate.{Certificate}
use Rattle.lu_certify.specs.declared.certificate.Certificate.TheVariants.{Linearizable, Livelock, NotLinearizable, Undecided}
use Rattle.lu_certify.specs.Certificates.{NamesCutOf}
use Rattle.lu_refine.specs.ByThread.{Asked, IsRoleChoice, choice_number, role_matrix}
use Rattle.lu_refine.specs.Roles.{AreWithinLimits}
use Rattle.lu_survey.specs.declared.survey.CertifiedMatrix.{CertifiedMatrix}
use Rattle.lu_survey.specs.declared.survey.Survey.{Survey}
use Rattle.lu_survey.specs.declared.survey.Tally.{Tally}
use Rattle.lu_survey.specs.Certified.{IsRoleCertificate}
use Rattle.lu_survey.specs.Slices.{slice_size}

-- ---- the certificates of a slice

-- the matrix that the choice with this number fills, with its certificate
pub record IsCertifiedAt (asked : Asked) (nodes number : ℕ) (one : CertifiedMatrix) : Type 0 where
  pub choice : List ℕ
  pub chosen : IsRoleChoice asked choice
  pub is_at : choice_number asked choice ≡ number
  pub fills : one.matrix ≡ role_matrix asked choice
  pub certified : IsRoleCertificate asked nodes choice one.certificate

-- the matrices from this number on, in order, each with its certificate
abbrev pub AreCertifiedFrom : Asked → ℕ → ℕ → List CertifiedMatrix → Type 0
AreCertifiedFrom asked nodes number [] = Unit {0}
AreCertifiedFrom asked nodes number (one ∷ others) =
    IsCertifiedAt asked nodes number one × AreCertifiedFrom asked nodes (number + 1) others

-- all matrices of the slice, in order, each with its certificate
pub record AreSliceCertified (asked : Asked) (nodes from to : ℕ) (list : List CertifiedMatrix)
    : Type 0 where
  pub size : length list ≡ slice_size asked from to
  pub each : AreCertifiedFrom asked nodes from list

-- ---- kinds of certificates

abbrev pub is_linearizable : Certificate → Bool
is_linearizable (Linearizable members) = true
is_linearizable (NotLinearizable smaller r) = false
is_linearizable (Livelock smaller u) = false
is_linearizable (Undecided smaller r) = false

abbrev pub is_not_linearizable : Certificate → Bool
is_not_linearizable (Linearizable members) = false
is_not_linearizable (NotLinearizable smaller r) = true
is_not_linearizable (Livelock smaller u) = false
is_not_linearizable (Undecided smaller r) = false

abbrev pub is_livelock : Certificate → Bool
is_livelock (Linearizable members) = false
is_livelock (NotLinearizable smaller r) = false
is_livelock (Livelock smaller u) = true
is_livelock (Undecided smaller r) = false

abbrev pub is_undecided : Certificate → Bool
is_undecided (Linearizable members) = false
is_undecided (NotLinearizable smaller r) = false
is_undecided (Livelock smaller u) = false
is_undecided (Undecided smaller r) = true

-- ---- surveys

-- this many of the list have a certificate of this kind, and which is the first of them
pub record IsTally (is_kind : Certificate → Bool) (list : List CertifiedMatrix) (tally : Tally)
    : Type 0 where
  pub count : tally.count ≡ count_by (λ one. is_kind one.certificate) list
  pub first : tally.first ≡ find (λ one. is_kind one.certificate) list

-- of each kind
pub record IsSurveyOf (list : List CertifiedMatrix) (survey : Survey) : Type 0 where
  pub linearizable : IsTally is_linearizable list survey.linearizable
  pub not_linearizable : IsTally is_not_linearizable list survey.not_linearizable
  pub livelock : IsTally is_livelock list survey.livelock
  pub undecided : IsTally is_undecided list survey.undecided

-- it is the survey of all matrices of the slice
abbrev pub IsSurveyed : Asked → ℕ → ℕ → ℕ → Survey → Type 0
IsSurveyed asked nodes from to survey =
    (list : List CertifiedMatrix) × AreSliceCertified asked nodes from to list
    × IsSurveyOf list survey

-- the limits hold, and this is found
abbrev pub IsSurveyAnswer : Asked → ℕ → ℕ → ℕ → Survey → Type 0
IsSurveyAnswer asked nodes from to survey =
    AreWithinLimits asked.calls asked.candidates × IsSurveyed asked nodes from to survey

-- ---- one matrix more

-- the tally of none
abbrev pub tally_none : Tally
tally_none = record { count = 0; first = None }

-- the tally with this one more, which stands after the others
abbrev pub tally_with : Tally → CertifiedMatrix → Tally
tally_with tally one =
    record { count = tally.count + 1; first = option_or tally.first (Some one) }

-- the survey with this one more
abbrev pub survey_by : Certificate → Survey → CertifiedMatrix → Survey
survey_by (Linearizable members) survey one =
    record survey { linearizable = tally_with survey.linearizable one }
survey_by (NotLinearizable smaller r) survey one =
    record survey { not_linearizable = tally_with survey.not_linearizable one }
survey_by (Livelock smaller u) survey one =
    record survey { livelock = tally_with survey.livelock one }
survey_by (Undecided smaller r) survey one =
    record survey { undecided = tally_with survey.undecided one }

-- each tally counts fewer than this
pub record HasRoom (survey : Survey) : Type 0 where
  pub linearizable : survey.linearizable.count < 2 ^ 64 - 1
  pub not_linearizable : survey.not_linearizable.count < 2 ^ 64 - 1
  pub livelock : survey.livelock.count < 2 ^ 64 - 1
  pub undecided : survey.undecided.count < 2 ^ 64 - 1

-- ---- what is shown

-- the matrix is one of the component, and so is the cut that its certificate names, if any
abbrev pub IsShownOf : Component → CertifiedMatrix → Type 0
IsShownOf c one = IsOf one.matrix c × NamesCutOf c one.certificate

-- so are those that are the first of their kind
pub record AreShownOf (c : Component) (survey : Survey) : Type 0 where
  pub linearizable : IfSome survey.linearizable.first (IsShownOf c)
  pub not_linearizable : IfSome survey.not_linearizable.first (IsShownOf c)
  pub livelock : IfSome survey.livelock.first (IsShownOf c)
  pub undecided : IfSome survey.undecided.first (IsShownOf c)
