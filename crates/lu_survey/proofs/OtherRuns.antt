-- Serial runs that a set does not have: those that do not end, and those with another history.
use Rattle.std.proofs.Common.{◌≡◌, Bool, true, false, ℕ, List, Option, Some, None, Result, Ok, Err, refl, sym, ◌∙◌, inl, inr}
use Rattle.std.specs.Prelude.{IfOk}
use Rattle.lu_component.specs.Component.{Component}
use Rattle.lu_test.specs.declared.schedule.Move.{Move}
use Rattle.lu_test.specs.Matrix.{Matrix}
use Rattle.lu_machine.specs.Order.{IsSmaller}
use Rattle.lu_machine.specs.Schedules.{IsLeast}
use Rattle.lu_machine.specs.Starts.{FromEachStart, IsStart, Settles}
use Rattle.lu_machine.specs.States.{State}
use Rattle.lu_machine.proofs.Orders.{smaller_trans}
use Rattle.lu_machine.proofs.Starting.{start_there}
use Rattle.lu_history.specs.declared.serial.SerialOp.{SerialOp}
use Rattle.lu_history.specs.declared.serial.SerialOutcome.{SerialOutcome}
use Rattle.lu_trie.specs.Conflicts.{IsDeterministic}
use Rattle.lu_trie.specs.Members.{contains}
use Rattle.lu_serial.specs.Offences.{FindsOutside, IsFirstConflict, IsFirstCut, IsFirstOutside, IsOutside, IsSetOf, NoOffence}
use Rattle.lu_serial.specs.Serial.{IsSerialHistory, IsSeriallyEnded}
use Rattle.lu_serial_graph.specs.Subsets.{IsSubset}
use Rattle.lu_witness.specs.Witnesses.{IsMember}
use Rattle.lu_survey.specs.Comparing.{AgreesSerially, IsFirstOtherRun, IsFirstSerially, IsOtherRun}

-- what is no member is not contained
not_contained : (b : Bool) → (b ≡ true → ⊥) → b ≡ false
not_contained true other = absurd (other refl)
not_contained false other = refl

not_both : (b : Bool) → b ≡ false → b ≡ true → ⊥
not_both b no_is is = let both : false ≡ true = sym no_is ∙ is in cc

-- the least run outside is the least other one
outside_least : (s : State) (serial : ℕ) (members : List (List SerialOp)) (u : List Move) → IsLeast (IsOutside s serial members) u → IsLeast (IsOtherRun s serial members) u
outside_least s serial members u x = record {
  kind = inr (x.kind.0, x.kind.1, not_both (contains members x.kind.0) x.kind.2);
  least = λ v less other. elim other as (λ _. ⊥) [
    | inl cut ↦ x.kind.3 v less cut
    | inr ended ↦ x.least v less (ended.0, ended.1, not_contained (contains members ended.0) ended.2, (λ w below cut. x.kind.3 w (smaller_trans w v u below less) cut))
  ];
}

pub first_outside_other : (c : Component) (matrix : Matrix) (serial : ℕ) (members : List (List SerialOp)) (u : List Move) → FromEachStart c matrix (λ s. IsFirstOutside s serial members (Some u)) → IsFirstSerially members c matrix serial u
first_outside_other c matrix serial members u is s at = outside_least s serial members u (is s at)

-- ---- where none is outside, after no smaller one that is cut

module _ (s : State) (serial : ℕ) (members : List (List SerialOp)) (none : IsFirstOutside s serial members None) where
  -- the least offence is no conflict
  no_conflict : IsDeterministic members → (u : List Move) (i : ℕ) (o : SerialOutcome) → IsFirstConflict s serial u i o → ⊥
  no_conflict deterministic u i o first =
      by_history (contains members first.1.history) (contains members first.1.other) refl refl
    where
      by_history : (one other : Bool) → contains members first.1.history ≡ one → contains members first.1.other ≡ other → ⊥
      by_history false other is its = none u (first.1.history, first.1.ended, is, (λ v less cut. first.0.least v less (inl cut)))
      by_history true false is its =
          none first.1.earlier (
            first.1.other,
            first.1.earlier_ended,
            its,
            (λ v less cut. first.0.least v (smaller_trans v first.1.earlier u less first.1.smaller) (inl cut)),
          )
      by_history true true is its = deterministic first.1.history first.1.other i o is its first.1.conflict

  -- where it is cut, it is the least other run
  cut_least : (u : List Move) → IsFirstCut s serial u → IsLeast (IsOtherRun s serial members) u
  cut_least u first = record {
    kind = inl first.1;
    least = λ v less other. elim other as (λ _. ⊥) [
      | inl cut ↦ first.0.least v less (inl cut)
      | inr ended ↦ none v (ended.0, ended.1, not_contained (contains members ended.0) ended.2, (λ w below cut. first.0.least w (smaller_trans w v u below less) (inl cut)))
    ];
  }

  -- where there is no offence, each serial history is a member
  is_within : NoOffence s serial → (q : List SerialOp) → IsSerialHistory s q → IsMember members q
  is_within without q z = by_test (contains members q) refl
    where
      by_test : (b : Bool) → contains members q ≡ b → contains members q ≡ true
      by_test true is = is
      by_test false is = absurd (none z.0 (q, z.1, is, (λ v less cut. without v (inl cut))))

module _ (c : Component) (matrix : Matrix) (serial : ℕ) (members : List (List SerialOp)) (none : FromEachStart c matrix (λ s. IsFirstOutside s serial members None)) where
  pub agrees_serially : FromEachStart c matrix (λ s. NoOffence s serial) → AgreesSerially members c matrix serial
  agrees_serially without = record {
    ends = λ s at u cut. without s at u (inl cut);
    within = λ s at. is_within s serial members (none s at) (without s at);
  }

  pub cut_other : (u : List Move) → FromEachStart c matrix (λ s. IsFirstCut s serial u) → IsFirstSerially members c matrix serial u
  cut_other u first s at = cut_least s serial members (none s at) u (first s at)

  pub never_conflict : Settles c matrix → IsDeterministic members → (u : List Move) (i : ℕ) (o : SerialOutcome) → FromEachStart c matrix (λ s. IsFirstConflict s serial u i o) → ⊥
  never_conflict settles deterministic u i o first =
      let there = start_there c matrix settles in
      no_conflict there.0 serial members (none there.0 there.1) deterministic u i o (first there.0 there.1)

-- what `first_outside` finds is the least other run, where the component agrees if there is none
pub found_outside : {E : Type 0} (c : Component) (matrix : Matrix) (serial : ℕ) (members : List (List SerialOp)) (result : Result (Option (List Move)) E) → FindsOutside c matrix serial members result
    → (FromEachStart c matrix (λ s. IsFirstOutside s serial members None) → AgreesSerially members c matrix serial) → IfOk result (IsFirstOtherRun members c matrix serial)
found_outside c matrix serial members (Ok None) finds agrees = agrees finds
found_outside c matrix serial members (Ok (Some u)) finds agrees = first_outside_other c matrix serial members u finds
found_outside c matrix serial members (Err e) finds agrees = tt

-- where its serial histories are within the set, the component agrees
pub subset_agrees : (c : Component) (matrix : Matrix) (serial : ℕ) (own members : List (List SerialOp)) → FromEachStart c matrix (λ s. IsSetOf s serial own) → IsSubset own members → AgreesSerially members c matrix serial
subset_agrees c matrix serial own members is within = record {
  ends = λ s at u cut. (is s at).none u (inl cut);
  within = λ s at q history. within q (((is s at).are q).1 history);
}
