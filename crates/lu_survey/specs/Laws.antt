-- Laws of slices that follow one another.
use Rattle.std.specs.Prelude.{◌≡◌, ℕ, ◌+◌, ◌^◌, ◌<◌, ◌≤◌, List, Option, Some, None}
use Rattle.std.specs.Option.{option_or}
use Rattle.lu_component.specs.Component.{Component}
use Rattle.lu_machine.specs.Starts.{AllEnd}
use Rattle.lu_certify.specs.Certificates.{AreSame}
use Rattle.lu_refine.specs.ByThread.{Asked, IsRoleChoice, IsWithinSlice, matrix_count}
use Rattle.lu_refine.specs.Roles.{AreWithinLimits}
use Rattle.lu_survey.specs.declared.certified_campaign.CertifiedCampaign.{CertifiedCampaign}
use Rattle.lu_survey.specs.declared.certified_campaign.CertifiedCampaign.TheVariants.{AllLinearizable, First}
use Rattle.lu_survey.specs.declared.comparison.Comparison.{Comparison}
use Rattle.lu_survey.specs.declared.comparison.Comparison.TheVariants as compared
use Rattle.lu_survey.specs.declared.comparison.Comparison.TheVariants.{AllAgree}
use Rattle.lu_survey.specs.declared.survey.CertifiedMatrix.{CertifiedMatrix}
use Rattle.lu_survey.specs.declared.survey.Survey.{Survey}
use Rattle.lu_survey.specs.declared.survey.Tally.{Tally}
use Rattle.lu_survey.specs.Certified.{IsCertifiedSlice}
use Rattle.lu_survey.specs.Comparing.{IsComparedSlice}
use Rattle.lu_survey.specs.Slices.{slice_size}
use Rattle.lu_survey.specs.Surveys.{IsSurveyed}

-- A slice from the first matrix to the end has all; and their number is one of 64 bits, where the
-- limits hold.
pub record WholeSlices : Type 0 where
  pub each : (asked : Asked) (to : ℕ) (choice : List ℕ) → matrix_count asked ≤ to
      → IsRoleChoice asked choice → IsWithinSlice asked 0 to choice
  pub size : (asked : Asked) (to : ℕ) → matrix_count asked ≤ to
      → slice_size asked 0 to ≡ matrix_count asked
  pub few : (asked : Asked) → AreWithinLimits asked.calls asked.candidates
      → matrix_count asked < 2 ^ 64

-- what two answers say together: the first matrix that is certified otherwise, or the sum
abbrev pub joined : CertifiedCampaign → CertifiedCampaign → CertifiedCampaign
joined (First matrix certificate) later = First matrix certificate
joined (AllLinearizable count) (First matrix certificate) = First matrix certificate
joined (AllLinearizable count) (AllLinearizable others) = AllLinearizable (count + others)

-- Two slices that follow one another answer together what one slice does.
abbrev pub CertifiedJoin : Type 0
CertifiedJoin =
    (asked : Asked) (nodes from middle to : ℕ) (earlier later : CertifiedCampaign) →
    from ≤ middle → middle ≤ to →
    IsCertifiedSlice asked nodes from middle earlier → IsCertifiedSlice asked nodes middle to later
    → IsCertifiedSlice asked nodes from to (joined earlier later)

-- two answers say the same: the same count, or the same matrix with the same certificate
abbrev pub SayTheSame : CertifiedCampaign → CertifiedCampaign → Type 0
SayTheSame (AllLinearizable count) (AllLinearizable others) = count ≡ others
SayTheSame (AllLinearizable count) (First matrix certificate) = ⊥
SayTheSame (First matrix certificate) (AllLinearizable count) = ⊥
SayTheSame (First matrix certificate) (First other its) =
    (matrix ≡ other) × AreSame certificate its

-- A slice has one answer, where the calls of the setup end.
abbrev pub OneCertifiedAnswer : Type 0
OneCertifiedAnswer =
    (asked : Asked) (nodes from to : ℕ) (found other : CertifiedCampaign) →
    AllEnd asked.component asked.setup → IsCertifiedSlice asked nodes from to found →
    IsCertifiedSlice asked nodes from to other → SayTheSame found other

-- ---- surveys

-- what two tallies say together: the sum, and the first of the earlier one, if there is one
abbrev pub joined_tallies : Tally → Tally → Tally
joined_tallies earlier later = record {
  count = earlier.count + later.count;
  first = option_or earlier.first later.first;
}

abbrev pub joined_surveys : Survey → Survey → Survey
joined_surveys earlier later = record {
  linearizable = joined_tallies earlier.linearizable later.linearizable;
  not_linearizable = joined_tallies earlier.not_linearizable later.not_linearizable;
  livelock = joined_tallies earlier.livelock later.livelock;
  undecided = joined_tallies earlier.undecided later.undecided;
}

-- The surveys of two slices that follow one another say together what that of one slice does.
abbrev pub SurveysJoin : Type 0
SurveysJoin =
    (asked : Asked) (nodes from middle to : ℕ) (earlier later : Survey) →
    from ≤ middle → middle ≤ to → IsSurveyed asked nodes from middle earlier →
    IsSurveyed asked nodes middle to later
    → IsSurveyed asked nodes from to (joined_surveys earlier later)

-- A survey counts each matrix of the slice, with one kind.
abbrev pub SurveyCountsAll : Type 0
SurveyCountsAll =
    (asked : Asked) (nodes from to : ℕ) (survey : Survey) → IsSurveyed asked nodes from to survey →
    survey.linearizable.count + survey.not_linearizable.count
    + (survey.livelock.count + survey.undecided.count) ≡ slice_size asked from to

-- the same first matrix with the same certificate, or none in both
abbrev pub AreSameFirst : Option CertifiedMatrix → Option CertifiedMatrix → Type 0
AreSameFirst None None = Unit {0}
AreSameFirst None (Some other) = ⊥
AreSameFirst (Some one) None = ⊥
AreSameFirst (Some one) (Some other) =
    (one.matrix ≡ other.matrix) × AreSame one.certificate other.certificate

abbrev pub AreSameTallies : Tally → Tally → Type 0
AreSameTallies tally other = (tally.count ≡ other.count) × AreSameFirst tally.first other.first

pub record AreSameSurveys (survey other : Survey) : Type 0 where
  pub linearizable : AreSameTallies survey.linearizable other.linearizable
  pub not_linearizable : AreSameTallies survey.not_linearizable other.not_linearizable
  pub livelock : AreSameTallies survey.livelock other.livelock
  pub undecided : AreSameTallies survey.undecided other.undecided

-- A slice has one survey, where the calls of the setup end.
abbrev pub OneSurvey : Type 0
OneSurvey =
    (asked : Asked) (nodes from to : ℕ) (survey other : Survey) →
    AllEnd asked.component asked.setup →
    IsSurveyed asked nodes from to survey → IsSurveyed asked nodes from to other
    → AreSameSurveys survey other

-- ---- comparisons

-- what two answers say together: the first matrix on which the component differs, or the sum
abbrev pub joined_comparisons : Comparison → Comparison → Comparison
joined_comparisons (compared.First matrix difference) later = compared.First matrix difference
joined_comparisons (AllAgree count) (compared.First matrix difference) =
    compared.First matrix difference
joined_comparisons (AllAgree count) (AllAgree others) = AllAgree (count + others)

-- Two slices that follow one another answer together what one slice does.
abbrev pub ComparedJoin : Type 0
ComparedJoin =
    (trusted : Component) (asked : Asked) (from middle to : ℕ) (earlier later : Comparison) →
    from ≤ middle → middle ≤ to → IsComparedSlice trusted asked from middle earlier →
    IsComparedSlice trusted asked middle to later
    → IsComparedSlice trusted asked from to (joined_comparisons earlier later)
