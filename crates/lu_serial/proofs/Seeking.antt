-- What the walk of `first_outside` finds.
use Rattle.std.proofs.Common.{arith, ◌≡◌, ◌<◌, Bool, true, false, ℕ, List, [], ◌∷◌, ◌++◌, refl, sym, ◌∙◌, ap, subst, inl, inr}
use Rattle.lu_component.specs.Component.{Component}
use Rattle.lu_test.specs.declared.schedule.Move.{Move}
use Rattle.lu_test.specs.Matrix.{Matrix}
use Rattle.lu_machine.specs.States.{State}
use Rattle.lu_machine.specs.Steps.{IsEnabled, picks_of}
use Rattle.lu_machine.specs.Starts.{IsStart}
use Rattle.lu_machine.specs.Order.{IsSmaller}
use Rattle.lu_machine.specs.Schedules.{IsLeast}
use Rattle.lu_machine.proofs.Ended.{complete_no_move}
use Rattle.lu_machine.proofs.Orders.{smaller_cases}
use Rattle.lu_machine.proofs.Paths.{leads_same}
use Rattle.lu_history.specs.declared.serial.SerialOp.{SerialOp}
use Rattle.lu_trie.specs.Members.{contains, same_history}
use Rattle.lu_trie.proofs.Membership.{split_or}
use Rattle.lu_trie.proofs.Ops.{same_histories_are}
use Rattle.lu_serial.specs.Serial.{HasOpen, IsSeriallyCut, IsSeriallyEnded}
use Rattle.lu_serial.specs.Offences.{IsOutside}
use Rattle.lu_serial.specs.Walks.{IsUpTo, Seeks, Shows}
use Rattle.lu_serial.proofs.CallsLeft.{none_at_start}
use Rattle.lu_serial.proofs.Single.{AtMostOne, one_along}

differ : (b : Bool) → b ≡ true → b ≡ false → ⊥
differ b e f = (let g = sym e ∙ f in cc)

one_at_start : (c : Component) (matrix : Matrix) (s : State) → IsStart c matrix s → AtMostOne s
one_at_start c matrix s is = λ t i a b. absurd (none_at_start c matrix s is t a)

-- a schedule that is cut is not ended
cut_not_ended : (s : State) (bound : ℕ) (u : List Move) (q : List SerialOp) → AtMostOne s → IsSeriallyCut s bound u → IsSeriallyEnded s u q → ⊥
cut_not_ended s bound u q one cut ended =
    let same = leads_same s u cut.end ended.end cut.history ended.history cut.leads ended.leads in
    let c : (t : ℕ) × HasOpen ended.end t × IsEnabled ended.end t = subst (λ e. (t : ℕ) × HasOpen e t × IsEnabled e t) same.0 (cut.holds.0, cut.holds.1, cut.holds.2) in
    let some : 0 < picks_of ended.end c.0 = c.2 in
    elim ended.holds [
      | inl a ↦ (let none : picks_of ended.end c.0 ≡ 0 = complete_no_move ended.end a.0 c.0 in omega arith)
      | inr a ↦
          (let t : c.0 ≡ a.0 = one_along s u ended.end ended.history one ended.serial ended.leads c.0 a.0 c.1 a.1 in
          let none : picks_of ended.end c.0 ≡ 0 = ap (picks_of ended.end) t ∙ a.2 in omega arith)
    ]

-- at first
pub seeks_none : (members : List (List SerialOp)) → Seeks members members []
seeks_none members = (refl, λ q has. cc)

-- with one history more that is a member
pub seeks_more : (first now shown : List (List SerialOp)) (q : List SerialOp) → Seeks first now shown → contains now q ≡ true → Seeks first now (q ∷ shown)
seeks_more first now shown q (same, inside) is =
    (same, λ p c. split_or (same_history p q) (contains shown p) (contains first p ≡ true) (λ e. subst (λ x. contains first x ≡ true) (sym (same_histories_are p q e)) (subst (λ x. contains x q ≡ true) same is)) (inside p) c)

module _ (s : State) (bound : ℕ) (u : List Move) (members now : List (List SerialOp)) where
  pub first_of : Shows s bound (λ v. IsSmaller v u) (Seeks members now) → (q : List SerialOp) × IsSeriallyEnded s u q × (contains now q ≡ false) → IsLeast (IsOutside s bound members) u
  first_of (shown, x, seeks) (q, ended, is) = record {
    kind = (q, ended, subst (λ y. contains y q ≡ false) seeks.0 is, x.uncut);
    least = λ v lt out. differ (contains members out.0) (seeks.1 out.0 (x.each v out.0 lt out.1)) out.2;
  }

  pub none_past_cut : (c : Component) (matrix : Matrix) → IsStart c matrix s → Shows s bound (λ v. IsSmaller v u) (Seeks members now) → IsSeriallyCut s bound u → (v : List Move) → IsOutside s bound members v → ⊥
  none_past_cut c matrix is (shown, x, seeks) cut v out =
      elim (smaller_cases v u) [
        | inl y ↦ elim y [
          | inl lt ↦ differ (contains members out.0) (seeks.1 out.0 (x.each v out.0 lt out.1)) out.2
          | inr gt ↦ out.3 u gt cut
        ]
        | inr e ↦ cut_not_ended s bound u out.0 (one_at_start c matrix s is) cut (subst (λ y. IsSeriallyEnded s y out.0) e out.1)
      ]

  pub none_outside : u ≡ [] → Shows s bound (IsUpTo u) (Seeks members now) → (v : List Move) → IsOutside s bound members v → ⊥
  none_outside e (shown, x, seeks) v out = differ (contains members out.0) (seeks.1 out.0 (x.each v out.0 (inr (v, ap (λ y. y ++ v) (sym e))) out.1)) out.2
