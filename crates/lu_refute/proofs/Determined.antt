-- One thing is answered.
use Rattle.std.proofs.Common.{◌≡◌, ◌⊎◌, ℕ, false, true, List, [], ◌∷◌, ◌++◌, refl, sym, ◌∙◌, ap, subst, inl, inr}
use Rattle.std.specs.Prelude.{Option, Some, None, IsSomeAnd}
use Rattle.lu_test.specs.declared.schedule.Move.{Move}
use Rattle.lu_test.specs.Matrix.{Matrix, cut}
use Rattle.lu_machine.specs.States.{State}
use Rattle.lu_machine.proofs.Starting.{start_there}
use Rattle.lu_machine.specs.Order.{IsSmaller}
use Rattle.lu_machine.specs.Runs.{Leads}
use Rattle.lu_machine.specs.Schedules.{BeginsWith}
use Rattle.lu_machine.proofs.Numbers.{least_same}
use Rattle.lu_machine.proofs.Orders.{smaller_asym, smaller_cases}
use Rattle.lu_machine.proofs.Paths.{leads_same}
use Rattle.lu_history.specs.declared.serial.SerialOp.{SerialOp}
use Rattle.lu_trie.specs.Members.{contains}
use Rattle.lu_serial.specs.Offences.{IsOutside}
use Rattle.lu_report.specs.declared.report.Finding.{Finding}
use Rattle.lu_report.specs.declared.report.Finding.TheVariants.{SerialCut, Nondeterministic, Fail, Pass}
use Rattle.lu_serial.specs.Whole.{made_calls}
use Rattle.lu_refute.specs.Answers.{IsAnswerTo, IsAnswerWith, IsOutsideAnswer, IsShortest}
use Rattle.lu_refute.specs.Laws.{OneAnswer}

same_pair : {A B : Type 0} (a b : A × B) → a.0 ≡ b.0 → a.1 ≡ b.1 → a ≡ b
same_pair {A} {B} a b e f = ap (λ (x : A). let p : A × B = (x, a.1) in p) e ∙ ap (λ (y : B). let p : A × B = (b.0, y) in p) f

same_or_apart : (u v : List Move) → (u ≡ v) ⊎ (u ≡ v → ⊥)
same_or_apart u v =
    elim (smaller_cases u v) as (λ _. (u ≡ v) ⊎ (u ≡ v → ⊥)) [
      | inl z ↦ elim z as (λ _. (u ≡ v) ⊎ (u ≡ v → ⊥)) [
        | inl less ↦ inr (λ e. smaller_asym u v less (subst (λ x. IsSmaller x u) e (subst (IsSmaller u) (sym e) less)))
        | inr less ↦ inr (λ e. smaller_asym v u less (subst (λ x. IsSmaller u x) e (subst (λ x. IsSmaller x u) (sym e) less)))
      ]
      | inr e ↦ inl e
    ]

-- of two beginnings of a schedule one begins the other
nested : (u v x y : List Move) → u ++ x ≡ v ++ y → BeginsWith v u ⊎ BeginsWith u v
nested [] v x y e = inl (v, refl)
nested (m ∷ u) [] x y e = inr (m ∷ u, refl)
nested (m ∷ u) (n ∷ v) x y e =
    let first : m ≡ n = cc in
    let rest : u ++ x ≡ v ++ y = cc in
    elim (nested u v x y rest) as (λ _. BeginsWith (n ∷ v) (m ∷ u) ⊎ BeginsWith (m ∷ u) (n ∷ v)) [
      | inl b ↦ inl (b.0, (let f : v ≡ u ++ b.0 = b.1 in cc))
      | inr b ↦ inr (b.0, (let f : u ≡ v ++ b.0 = b.1 in cc))
    ]

-- of two shortest beginnings none is longer
not_longer : (s : State) (members : List (List SerialOp)) (w u v : List Move) → IsShortest s members w u → IsShortest s members w v → (u ≡ v → ⊥) → BeginsWith v u → ⊥
not_longer s members w u v x y apart b =
    let member : contains members x.entries ≡ true = y.shortest u x.entries b apart x.whole in
    let out = x.outside in
    let e : false ≡ true = sym out ∙ member in
    cc

shortest_same : (s : State) (members : List (List SerialOp)) (w u v : List Move) → IsShortest s members w u → IsShortest s members w v → u ≡ v
shortest_same s members w u v x y =
    elim (same_or_apart u v) as (λ _. u ≡ v) [
      | inl e ↦ e
      | inr apart ↦ elim (nested u v x.begins.0 y.begins.0 (sym x.begins.1 ∙ y.begins.1)) as (λ _. u ≡ v) [
        | inl b ↦ absurd (not_longer s members w u v x y apart b)
        | inr b ↦ absurd (not_longer s members w v u y x (λ e. apart (sym e)) b)
      ]
    ]

outside_same : (s : State) (serial : ℕ) (members : List (List SerialOp)) (a b : Matrix × List Move) → IsOutsideAnswer s serial members a → IsOutsideAnswer s serial members b → a ≡ b
outside_same s serial members a b x y =
    let w : x.outside ≡ y.outside = least_same (IsOutside s serial members) x.outside y.outside x.least y.least in
    let u : a.1 ≡ b.1 = shortest_same s members y.outside a.1 b.1 (subst (λ z. IsShortest s members z a.1) w x.short) y.short in
    let ends = leads_same s b.1 x.short.whole.end y.short.whole.end x.short.whole.history y.short.whole.history (subst (λ z. Leads s z x.short.whole.end x.short.whole.history) u x.short.whole.leads) y.short.whole.leads in
    let matrices : a.0 ≡ b.0 = x.matrix_is ∙ (ap (λ z. cut s.matrix (made_calls z)) ends.0 ∙ sym y.matrix_is) in
    same_pair a b matrices u

answer_same : (s : State) (serial : ℕ) (members : List (List SerialOp)) (finding : Finding) (a b : Matrix × List Move) → IsAnswerTo s serial members finding a → IsAnswerTo s serial members finding b → a ≡ b
answer_same s serial members (SerialCut u) a b x y = absurd x
answer_same s serial members (Nondeterministic u before earlier) a b x y = outside_same s serial members a b x y
answer_same s serial members (Fail u why) a b (inl x) (inl y) = x.1 ∙ sym y.1
answer_same s serial members (Fail u why) a b (inl x) (inr y) = absurd (y.0 x.0)
answer_same s serial members (Fail u why) a b (inr x) (inl y) = absurd (x.0 y.0)
answer_same s serial members (Fail u why) a b (inr x) (inr y) = outside_same s serial members a b x.1 y.1
answer_same s serial members (Pass counts) a b x y = absurd x

pub one_answer : OneAnswer
one_answer c matrix r members a b settles x y = with_bound r.serial x y
  where
    with_bound : (serial : Option ℕ) → IsSomeAnd serial (λ n. IsAnswerWith c matrix r n members a) → IsSomeAnd serial (λ n. IsAnswerWith c matrix r n members b) → a ≡ b
    with_bound None p q = absurd p
    with_bound (Some n) p q =
        let start = start_there c matrix settles in
        answer_same start.0 n members r.finding a b (p start.0 start.1) (q start.0 start.1)
