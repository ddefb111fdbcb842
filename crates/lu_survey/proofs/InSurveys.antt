-- Surveys, as they grow, and of slices that follow one another.
use Rattle.std.proofs.Common.{arith, ◌≡◌, ◌<◌, ◌≤◌, ℕ, suc, ◌+◌, ◌-◌, ◌^◌, Bool, true, false, cond, List, [], ◌∷◌, ◌++◌, length, length-append, Option, Some, None, refl, sym, ap, subst, ◌∙◌, inl, inr}
use Rattle.std.specs.Prelude.{IfSome, count_by, find, min}
use Rattle.std.specs.List.{AllZip}
use Rattle.std.specs.Option.{option_or}
use Rattle.std.proofs.lemmas.Bool.{cases_lt}
use Rattle.std.proofs.lemmas.List.{nil_from_length}
use Rattle.std.proofs.lemmas.List.Folds.{find-append}
use Rattle.std.proofs.lemmas.List.Sums.{count_by-le-length, sum_by-append, sum_by-cons}
use Rattle.lu_component.specs.Component.{Component}
use Rattle.lu_certify.specs.declared.certificate.Certificate.{Certificate}
use Rattle.lu_certify.specs.declared.certificate.Certificate.TheVariants.{Linearizable, Livelock, NotLinearizable, Undecided}
use Rattle.lu_certify.specs.Certificates.{AreSame}
use Rattle.lu_history.specs.declared.serial.SerialOp.{SerialOp}
use Rattle.lu_machine.specs.Starts.{AllEnd}
use Rattle.lu_refine.specs.ByThread.{Asked, IsMatrixAt, bases_of, matrix_count, role_matrix}
use Rattle.lu_choices.proofs.Numbered.{same_choice}
use Rattle.lu_survey.specs.declared.survey.CertifiedMatrix.{CertifiedMatrix}
use Rattle.lu_survey.specs.declared.survey.Survey.{Survey}
use Rattle.lu_survey.specs.declared.survey.Tally.{Tally}
use Rattle.lu_survey.specs.Certified.{IsRoleCertificate}
use Rattle.lu_survey.specs.Laws.{AreSameFirst, AreSameTallies, OneSurvey, SurveyCountsAll, SurveysJoin, joined_tallies}
use Rattle.lu_survey.proofs.InCampaigns.{one_certificate}
use Rattle.lu_survey.specs.Surveys.{AreCertifiedFrom, AreShownOf, AreSliceCertified, HasRoom, IsCertifiedAt, IsShownOf, IsSurveyed, IsSurveyOf, IsTally, is_linearizable, is_livelock, is_not_linearizable, is_undecided, survey_by, tally_with}

-- ---- lists

certified_append : (asked : Asked) (nodes number : ℕ) (list others : List CertifiedMatrix) → AreCertifiedFrom asked nodes number list → AreCertifiedFrom asked nodes (number + length list) others → AreCertifiedFrom asked nodes number (list ++ others)
certified_append asked nodes number [] others are then = subst (λ (n : ℕ). AreCertifiedFrom asked nodes n others) (omega arith) then
certified_append asked nodes number (one ∷ list) others are then =
    (are.0, certified_append asked nodes (number + 1) list others are.1 (subst (λ (n : ℕ). AreCertifiedFrom asked nodes n others) (omega arith) then))

-- ---- tallies

module _ (is_kind : Certificate → Bool) where
  -- it is of this kind
  tally_yes : (list : List CertifiedMatrix) (one : CertifiedMatrix) (tally : Tally) → is_kind one.certificate ≡ true → IsTally is_kind list tally → IsTally is_kind (list ++ one ∷ []) (tally_with tally one)
  tally_yes list one tally of_kind is =
      let single : count_by (λ (x : CertifiedMatrix). is_kind x.certificate) (one ∷ []) ≡ 1 = rw of_kind refl in
      let more : count_by (λ (x : CertifiedMatrix). is_kind x.certificate) (list ++ one ∷ []) ≡ count_by (λ (x : CertifiedMatrix). is_kind x.certificate) list + count_by (λ (x : CertifiedMatrix). is_kind x.certificate) (one ∷ []) = sum_by-append (λ (x : CertifiedMatrix). cond (is_kind x.certificate) 1 0) list (one ∷ []) in
      let here : find (λ (x : CertifiedMatrix). is_kind x.certificate) (one ∷ []) ≡ Some one = rw of_kind refl in
      record {
        count = omega (arith, is.count, single, more);
        first = ap (λ (o : Option CertifiedMatrix). option_or o (Some one)) is.first
            ∙ (ap (option_or (find (λ (x : CertifiedMatrix). is_kind x.certificate) list)) (sym here)
            ∙ sym (find-append (λ (x : CertifiedMatrix). is_kind x.certificate) list (one ∷ [])));
      }

  -- it is not
  tally_no : (list : List CertifiedMatrix) (one : CertifiedMatrix) (tally : Tally) → is_kind one.certificate ≡ false → IsTally is_kind list tally → IsTally is_kind (list ++ one ∷ []) tally
  tally_no list one tally other is =
      let none : count_by (λ (x : CertifiedMatrix). is_kind x.certificate) (one ∷ []) ≡ 0 = rw other refl in
      let more : count_by (λ (x : CertifiedMatrix). is_kind x.certificate) (list ++ one ∷ []) ≡ count_by (λ (x : CertifiedMatrix). is_kind x.certificate) list + count_by (λ (x : CertifiedMatrix). is_kind x.certificate) (one ∷ []) = sum_by-append (λ (x : CertifiedMatrix). cond (is_kind x.certificate) 1 0) list (one ∷ []) in
      let nothing : find (λ (x : CertifiedMatrix). is_kind x.certificate) (one ∷ []) ≡ None = rw other refl in
      record {
        count = omega (arith, is.count, none, more);
        first = is.first
            ∙ (sym (or_none (find (λ (x : CertifiedMatrix). is_kind x.certificate) list))
            ∙ (ap (option_or (find (λ (x : CertifiedMatrix). is_kind x.certificate) list)) (sym nothing)
            ∙ sym (find-append (λ (x : CertifiedMatrix). is_kind x.certificate) list (one ∷ []))));
      }
    where
      or_none : (o : Option CertifiedMatrix) → option_or o None ≡ o
      or_none None = refl
      or_none (Some x) = refl

-- ---- one matrix more

-- its certificate is this one
survey_more : (list : List CertifiedMatrix) (one : CertifiedMatrix) (survey : Survey) (certificate : Certificate) → one.certificate ≡ certificate → IsSurveyOf list survey → IsSurveyOf (list ++ one ∷ []) (survey_by certificate survey one)
survey_more list one survey (Linearizable members) is of = record {
  linearizable = tally_yes is_linearizable list one survey.linearizable (ap is_linearizable is) of.linearizable;
  not_linearizable = tally_no is_not_linearizable list one survey.not_linearizable (ap is_not_linearizable is) of.not_linearizable;
  livelock = tally_no is_livelock list one survey.livelock (ap is_livelock is) of.livelock;
  undecided = tally_no is_undecided list one survey.undecided (ap is_undecided is) of.undecided;
}
survey_more list one survey (NotLinearizable smaller r) is of = record {
  linearizable = tally_no is_linearizable list one survey.linearizable (ap is_linearizable is) of.linearizable;
  not_linearizable = tally_yes is_not_linearizable list one survey.not_linearizable (ap is_not_linearizable is) of.not_linearizable;
  livelock = tally_no is_livelock list one survey.livelock (ap is_livelock is) of.livelock;
  undecided = tally_no is_undecided list one survey.undecided (ap is_undecided is) of.undecided;
}
survey_more list one survey (Livelock smaller u) is of = record {
  linearizable = tally_no is_linearizable list one survey.linearizable (ap is_linearizable is) of.linearizable;
  not_linearizable = tally_no is_not_linearizable list one survey.not_linearizable (ap is_not_linearizable is) of.not_linearizable;
  livelock = tally_yes is_livelock list one survey.livelock (ap is_livelock is) of.livelock;
  undecided = tally_no is_undecided list one survey.undecided (ap is_undecided is) of.undecided;
}
survey_more list one survey (Undecided smaller r) is of = record {
  linearizable = tally_no is_linearizable list one survey.linearizable (ap is_linearizable is) of.linearizable;
  not_linearizable = tally_no is_not_linearizable list one survey.not_linearizable (ap is_not_linearizable is) of.not_linearizable;
  livelock = tally_no is_livelock list one survey.livelock (ap is_livelock is) of.livelock;
  undecided = tally_yes is_undecided list one survey.undecided (ap is_undecided is) of.undecided;
}

-- ---- one matrix

-- the matrix of a number has its certificate
pub certified_there : (asked : Asked) (nodes number : ℕ) (one : CertifiedMatrix) → (at : IsMatrixAt asked number one.matrix) → IsRoleCertificate asked nodes at.choice one.certificate → IsCertifiedAt asked nodes number one
certified_there asked nodes number one at certified = record { choice = at.choice; chosen = at.chosen; is_at = at.is_at; fills = at.fills; certified = certified }

abbrev pub matrix_there : (asked : Asked) (nodes number : ℕ) (one : CertifiedMatrix) → IsCertifiedAt asked nodes number one → IsMatrixAt asked number one.matrix
matrix_there asked nodes number one is = record { choice = is.choice; chosen = is.chosen; is_at = is.is_at; fills = is.fills }

-- ---- the survey so far

-- of the matrices with these numbers
pub record IsSurveyedTo (asked : Asked) (nodes start number : ℕ) (survey : Survey) : Type 0 where
  pub list : List CertifiedMatrix
  pub size : start + length list ≡ number
  pub each : AreCertifiedFrom asked nodes start list
  pub of : IsSurveyOf list survey

pub surveyed_none : (asked : Asked) (nodes start : ℕ) (survey : Survey) → IsSurveyOf [] survey → IsSurveyedTo asked nodes start start survey
surveyed_none asked nodes start survey of = record { list = []; size = omega arith; each = tt; of = of }

pub surveyed_more : (asked : Asked) (nodes start number : ℕ) (survey : Survey) (one : CertifiedMatrix) → IsCertifiedAt asked nodes number one → IsSurveyedTo asked nodes start number survey → IsSurveyedTo asked nodes start (number + 1) (survey_by one.certificate survey one)
surveyed_more asked nodes start number survey one here so_far =
    let longer = length-append so_far.list (one ∷ []) in
    record {
      list = so_far.list ++ one ∷ [];
      size = omega (arith, so_far.size, longer);
      each = certified_append asked nodes start so_far.list (one ∷ []) so_far.each (subst (λ (n : ℕ). IsCertifiedAt asked nodes n one) (sym so_far.size) here, tt);
      of = survey_more so_far.list one survey one.certificate refl so_far.of;
    }

-- no tally counts more than there are
pub has_room : (asked : Asked) (nodes start number : ℕ) (survey : Survey) → number < 2 ^ 64 - 1 → IsSurveyedTo asked nodes start number survey → HasRoom survey
has_room asked nodes start number survey less so_far = record {
  linearizable = omega (arith, less, so_far.size, so_far.of.linearizable.count, count_by-le-length (λ (x : CertifiedMatrix). is_linearizable x.certificate) so_far.list);
  not_linearizable = omega (arith, less, so_far.size, so_far.of.not_linearizable.count, count_by-le-length (λ (x : CertifiedMatrix). is_not_linearizable x.certificate) so_far.list);
  livelock = omega (arith, less, so_far.size, so_far.of.livelock.count, count_by-le-length (λ (x : CertifiedMatrix). is_livelock x.certificate) so_far.list);
  undecided = omega (arith, less, so_far.size, so_far.of.undecided.count, count_by-le-length (λ (x : CertifiedMatrix). is_undecided x.certificate) so_far.list);
}

pub surveyed_all : (asked : Asked) (nodes from to start end number : ℕ) (survey : Survey) → end ≡ min to (matrix_count asked) → start ≡ min from end → number ≡ end → IsSurveyedTo asked nodes start number survey → IsSurveyed asked nodes from to survey
surveyed_all asked nodes from to start end number survey end_is start_is past so_far = elim (cases_lt end from) as (λ _. IsSurveyed asked nodes from to survey) [
  | inl none ↦
      (let empty : so_far.list ≡ [] = nil_from_length so_far.list (omega (arith, so_far.size, start_is, past, none)) in (
        [],
        record { size = omega (arith, end_is, none); each = tt },
        subst (λ (list : List CertifiedMatrix). IsSurveyOf list survey) empty so_far.of,
      ))
  | inr some ↦
      (let here : start ≡ from = omega (arith, start_is, some) in (
        so_far.list,
        record { size = omega (arith, so_far.size, here, end_is, past); each = subst (λ (n : ℕ). AreCertifiedFrom asked nodes n so_far.list) here so_far.each },
        so_far.of,
      ))
]

-- ---- what is shown

first_shown : (c : Component) (first : Option CertifiedMatrix) (one : CertifiedMatrix) → IsShownOf c one → IfSome first (IsShownOf c) → IfSome (option_or first (Some one)) (IsShownOf c)
first_shown c None one shown is = shown
first_shown c (Some x) one shown is = is

pub shown_more : (c : Component) (survey : Survey) (one : CertifiedMatrix) (certificate : Certificate) → IsShownOf c one → AreShownOf c survey → AreShownOf c (survey_by certificate survey one)
shown_more c survey one (Linearizable members) shown are = record { linearizable = first_shown c survey.linearizable.first one shown are.linearizable; not_linearizable = are.not_linearizable; livelock = are.livelock; undecided = are.undecided }
shown_more c survey one (NotLinearizable smaller r) shown are = record { linearizable = are.linearizable; not_linearizable = first_shown c survey.not_linearizable.first one shown are.not_linearizable; livelock = are.livelock; undecided = are.undecided }
shown_more c survey one (Livelock smaller u) shown are = record { linearizable = are.linearizable; not_linearizable = are.not_linearizable; livelock = first_shown c survey.livelock.first one shown are.livelock; undecided = are.undecided }
shown_more c survey one (Undecided smaller r) shown are = record { linearizable = are.linearizable; not_linearizable = are.not_linearizable; livelock = are.livelock; undecided = first_shown c survey.undecided.first one shown are.undecided }

pub none_shown : (c : Component) (survey : Survey) → IsSurveyOf [] survey → AreShownOf c survey
none_shown c survey of = record {
  linearizable = nothing of.linearizable.first;
  not_linearizable = nothing of.not_linearizable.first;
  livelock = nothing of.livelock.first;
  undecided = nothing of.undecided.first;
}
  where
    nothing : {first : Option CertifiedMatrix} → first ≡ None → IfSome first (IsShownOf c)
    nothing is = subst (λ (o : Option CertifiedMatrix). IfSome o (IsShownOf c)) (sym is) tt

-- ---- slices that follow one another

module _ (is_kind : Certificate → Bool) where
  tallies_join : (list others : List CertifiedMatrix) (earlier later : Tally) → IsTally is_kind list earlier → IsTally is_kind others later → IsTally is_kind (list ++ others) (joined_tallies earlier later)
  tallies_join list others earlier later x y =
      let sum : count_by (λ (one : CertifiedMatrix). is_kind one.certificate) (list ++ others) ≡ count_by (λ (one : CertifiedMatrix). is_kind one.certificate) list + count_by (λ (one : CertifiedMatrix). is_kind one.certificate) others = sum_by-append (λ (one : CertifiedMatrix). cond (is_kind one.certificate) 1 0) list others in
      record {
        count = omega (arith, x.count, y.count, sum);
        first = ap (λ (o : Option CertifiedMatrix). option_or o later.first) x.first
            ∙ (ap (option_or (find (λ (one : CertifiedMatrix). is_kind one.certificate) list)) y.first
            ∙ sym (find-append (λ (one : CertifiedMatrix). is_kind one.certificate) list others));
      }

-- the later slice goes on where the earlier one ends, or is empty
goes_on : (asked : Asked) (nodes from middle to : ℕ) (list others : List CertifiedMatrix) → from ≤ middle → AreSliceCertified asked nodes from middle list → AreSliceCertified asked nodes middle to others → AreCertifiedFrom asked nodes (from + length list) others
goes_on asked nodes from middle to list others low x y = elim (cases_lt (matrix_count asked) middle) as (λ _. AreCertifiedFrom asked nodes (from + length list) others) [
  | inl past ↦
      (let empty : others ≡ [] = nil_from_length others (omega (arith, y.size, past)) in
      subst (λ (rest : List CertifiedMatrix). AreCertifiedFrom asked nodes (from + length list) rest) (sym empty) tt)
  | inr within ↦
      (let there : middle ≡ from + length list = omega (arith, x.size, within, low) in
      subst (λ (n : ℕ). AreCertifiedFrom asked nodes n others) there y.each)
]

pub surveys_join : SurveysJoin
surveys_join asked nodes from middle to earlier later low high x y =
    let list = x.0 in
    let others = y.0 in
    let longer = length-append list others in
    let first = x.1.size in
    let second = y.1.size in (
      list ++ others,
      record { size = omega (arith, longer, first, second, low, high); each = certified_append asked nodes from list others x.1.each (goes_on asked nodes from middle to list others low x.1 y.1) },
      record {
        linearizable = tallies_join is_linearizable list others earlier.linearizable later.linearizable x.2.linearizable y.2.linearizable;
        not_linearizable = tallies_join is_not_linearizable list others earlier.not_linearizable later.not_linearizable x.2.not_linearizable y.2.not_linearizable;
        livelock = tallies_join is_livelock list others earlier.livelock later.livelock x.2.livelock y.2.livelock;
        undecided = tallies_join is_undecided list others earlier.undecided later.undecided x.2.undecided y.2.undecided;
      },
    )

-- ---- each matrix is counted once

module _ (is_kind : Certificate → Bool) where
  abbrev number_of : List CertifiedMatrix → ℕ
  number_of list = count_by (λ (one : CertifiedMatrix). is_kind one.certificate) list

  counted : (one : CertifiedMatrix) (list : List CertifiedMatrix) → number_of (one ∷ list) ≡ cond (is_kind one.certificate) 1 0 + number_of list
  counted one list = sum_by-cons (λ (x : CertifiedMatrix). cond (is_kind x.certificate) 1 0) one list

-- how often it counts, with each kind
abbrev counts_of : Certificate → ℕ
counts_of certificate = cond (is_linearizable certificate) 1 0 + cond (is_not_linearizable certificate) 1 0 + (cond (is_livelock certificate) 1 0 + cond (is_undecided certificate) 1 0)

counts_once : (certificate : Certificate) → counts_of certificate ≡ suc 0
counts_once (Linearizable members) = refl
counts_once (NotLinearizable smaller r) = refl
counts_once (Livelock smaller u) = refl
counts_once (Undecided smaller r) = refl

all_counted : (list : List CertifiedMatrix) → number_of is_linearizable list + number_of is_not_linearizable list + (number_of is_livelock list + number_of is_undecided list) ≡ length list
all_counted [] = refl
all_counted (one ∷ list) =
    let once = counts_once one.certificate in
    let rest = all_counted list in
    let a = counted is_linearizable one list in
    let b = counted is_not_linearizable one list in
    let d = counted is_livelock one list in
    let e = counted is_undecided one list in
    omega (arith, once, rest, a, b, d, e)

pub counts_all : SurveyCountsAll
counts_all asked nodes from to survey is =
    let all = all_counted is.0 in
    omega (arith, all, is.1.size, is.2.linearizable.count, is.2.not_linearizable.count, is.2.livelock.count, is.2.undecided.count)

-- ---- one survey

abbrev one_if : Bool → ℕ
one_if b = cond b 1 0

abbrev Alike : CertifiedMatrix → CertifiedMatrix → Type 0
Alike x y = (x.matrix ≡ y.matrix) × AreSame x.certificate y.certificate

alike_at : (asked : Asked) (nodes number : ℕ) (x y : CertifiedMatrix) → AllEnd asked.component asked.setup → IsCertifiedAt asked nodes number x → IsCertifiedAt asked nodes number y → Alike x y
alike_at asked nodes number x y ends a b =
    let same : a.choice ≡ b.choice = same_choice (bases_of asked) a.choice b.choice a.chosen b.chosen (a.is_at ∙ sym b.is_at) in (
      a.fills ∙ (ap (role_matrix asked) same ∙ sym b.fills),
      one_certificate asked nodes b.choice x.certificate y.certificate ends (subst (λ (choice : List ℕ). IsRoleCertificate asked nodes choice x.certificate) same a.certified) b.certified,
    )

lists_alike : (asked : Asked) (nodes number : ℕ) (xs ys : List CertifiedMatrix) → AllEnd asked.component asked.setup → length xs ≡ length ys → AreCertifiedFrom asked nodes number xs → AreCertifiedFrom asked nodes number ys → AllZip Alike xs ys
lists_alike asked nodes number [] [] ends long a b = tt
lists_alike asked nodes number [] (y ∷ ys) ends long a b = absurd (omega arith)
lists_alike asked nodes number (x ∷ xs) [] ends long a b = absurd (omega arith)
lists_alike asked nodes number (x ∷ xs) (y ∷ ys) ends long a b =
    (alike_at asked nodes number x y ends a.0 b.0, lists_alike asked nodes (number + 1) xs ys ends (omega arith) a.1 b.1)

first_same : (x y : CertifiedMatrix) (b d : Bool) → b ≡ d → Alike x y → (r q : Option CertifiedMatrix) → AreSameFirst r q → AreSameFirst (cond b (Some x) r) (cond d (Some y) q)
first_same x y true true e alike r q same = alike
first_same x y true false e alike r q same = absurd (cc)
first_same x y false true e alike r q same = absurd (cc)
first_same x y false false e alike r q same = same

module _ (is_kind : Certificate → Bool) (sets : (members others : List (List SerialOp)) → is_kind (Linearizable members) ≡ is_kind (Linearizable others)) where
  kinds_same : (a b : Certificate) → AreSame a b → is_kind a ≡ is_kind b
  kinds_same (Linearizable members) (Linearizable others) same = sets members others
  kinds_same (Linearizable members) (NotLinearizable smaller r) same = absurd same
  kinds_same (Linearizable members) (Livelock smaller u) same = absurd same
  kinds_same (Linearizable members) (Undecided smaller r) same = absurd same
  kinds_same (NotLinearizable smaller r) b same = ap is_kind same
  kinds_same (Livelock smaller u) b same = ap is_kind same
  kinds_same (Undecided smaller r) b same = ap is_kind same

  numbers_same : (xs ys : List CertifiedMatrix) → AllZip Alike xs ys → number_of is_kind xs ≡ number_of is_kind ys
  numbers_same [] [] all = refl
  numbers_same [] (y ∷ ys) all = absurd all
  numbers_same (x ∷ xs) [] all = absurd all
  numbers_same (x ∷ xs) (y ∷ ys) all =
      let here : one_if (is_kind x.certificate) ≡ one_if (is_kind y.certificate) = ap one_if (kinds_same x.certificate y.certificate all.0.1) in
      let rest = numbers_same xs ys all.1 in
      let one = counted is_kind x xs in
      let other = counted is_kind y ys in
      omega (arith, here, rest, one, other)

  firsts_same : (xs ys : List CertifiedMatrix) → AllZip Alike xs ys → AreSameFirst (find (λ (one : CertifiedMatrix). is_kind one.certificate) xs) (find (λ (one : CertifiedMatrix). is_kind one.certificate) ys)
  firsts_same [] [] all = tt
  firsts_same [] (y ∷ ys) all = absurd all
  firsts_same (x ∷ xs) [] all = absurd all
  firsts_same (x ∷ xs) (y ∷ ys) all =
      first_same x y (is_kind x.certificate) (is_kind y.certificate) (kinds_same x.certificate y.certificate all.0.1) all.0
      (find (λ (one : CertifiedMatrix). is_kind one.certificate) xs) (find (λ (one : CertifiedMatrix). is_kind one.certificate) ys) (firsts_same xs ys all.1)

  tallies_same : (xs ys : List CertifiedMatrix) (a b : Tally) → AllZip Alike xs ys → IsTally is_kind xs a → IsTally is_kind ys b → AreSameTallies a b
  tallies_same xs ys a b all x y =
      let number = numbers_same xs ys all in (
        omega (arith, number, x.count, y.count),
        subst (λ (o : Option CertifiedMatrix). AreSameFirst o b.first) (sym x.first)
            (subst (AreSameFirst (find (λ (one : CertifiedMatrix). is_kind one.certificate) xs)) (sym y.first) (firsts_same xs ys all)),
      )

pub one_survey : OneSurvey
one_survey asked nodes from to survey other ends x y =
    let all = lists_alike asked nodes from x.0 y.0 ends (x.1.size ∙ sym y.1.size) x.1.each y.1.each in
    record {
      linearizable = tallies_same is_linearizable (λ members others. refl) x.0 y.0 survey.linearizable other.linearizable all x.2.linearizable y.2.linearizable;
      not_linearizable = tallies_same is_not_linearizable (λ members others. refl) x.0 y.0 survey.not_linearizable other.not_linearizable all x.2.not_linearizable y.2.not_linearizable;
      livelock = tallies_same is_livelock (λ members others. refl) x.0 y.0 survey.livelock other.livelock all x.2.livelock y.2.livelock;
      undecided = tallies_same is_undecided (λ members others. refl) x.0 y.0 survey.undecided other.undecided all x.2.undecided y.2.undecided;
    }
