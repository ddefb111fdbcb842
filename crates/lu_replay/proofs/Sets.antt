-- Two sets with the same members are alike: the same schedules are bad, for the same reasons, and the same ones are good.
use Rattle.std.proofs.Common.{◌≡◌, ℕ, List, subst, inl, inr}
use Rattle.std.specs.Prelude.{◌↔◌}
use Rattle.lu_test.specs.declared.schedule.Move.{Move}
use Rattle.lu_machine.specs.declared.counts.Counts.{Counts}
use Rattle.lu_machine.specs.declared.event.Event.{Event}
use Rattle.lu_machine.specs.States.{State}
use Rattle.lu_machine.specs.Order.{IsSmaller}
use Rattle.lu_machine.specs.Schedules.{Reaches, IsEndedWithin}
use Rattle.lu_machine.proofs.Orders.{smaller_cases}
use Rattle.lu_machine.proofs.Paths.{leads_same}
use Rattle.lu_history.specs.declared.serial.SerialOp.{SerialOp}
use Rattle.lu_history.specs.Parts.{keep_pending}
use Rattle.lu_witness.specs.declared.judgement.Why.{Why}
use Rattle.lu_witness.specs.declared.judgement.Why.TheVariants.{Complete, Stuck}
use Rattle.lu_witness.specs.declared.judgement.Verdict.TheVariants.{NoWitnessFor}
use Rattle.lu_witness.specs.Goodness.{IsGoodAt, IsBad, AreGood, IsWhy, IsFirstBad, AreAllGood}
use Rattle.lu_witness.proofs.Verdicts.{witness_in, verdict_in}

good_in : (S T : List SerialOp → Type 0) → ((q : List SerialOp) → S q → T q) → (end : State) (h : List Event) → IsGoodAt S end h → IsGoodAt T end h
good_in S T into end h (inl good) = inl (good.0, witness_in S T into h good.1)
good_in S T into end h (inr good) = inr (good.0, (λ a is. witness_in S T into (keep_pending a.t h) (good.1 a is)))

module _ (S T : List SerialOp → Type 0) (same : (q : List SerialOp) → S q ↔ T q) (s : State) (bound : ℕ) where
  -- what is bad for the one set is bad for the other
  pub bad_alike : (u : List Move) → IsBad S s bound u → IsBad T s bound u
  bad_alike u bad =
      let r = bad.1 in (
        bad.0,
        record {
          end = r.end;
          history = r.history;
          leads = r.leads;
          holds = (r.holds.0, (λ good. r.holds.1 (good_in T S (λ q. (same q).1) r.end r.history good)));
        },
      )

  pub bad_back : (u : List Move) → IsBad T s bound u → IsBad S s bound u
  bad_back u bad =
      let r = bad.1 in (
        bad.0,
        record {
          end = r.end;
          history = r.history;
          leads = r.leads;
          holds = (r.holds.0, (λ good. r.holds.1 (good_in S T (λ q. (same q).0) r.end r.history good)));
        },
      )

  -- for the same reason
  pub why_alike : (u : List Move) (why : Why) → IsWhy S s u why → IsWhy T s u why
  why_alike u Complete is = is
  why_alike u (Stuck t) is = record {
    end = is.end;
    history = is.history;
    leads = is.leads;
    holds = (is.holds.0, verdict_in S T (λ q. (same q).0) (λ q. (same q).1) is.history (NoWitnessFor t) is.holds.1);
  }

  -- what is good for the one set is good for the other
  good_alike : (u : List Move) → Reaches s u (IsGoodAt S) → Reaches s u (IsGoodAt T)
  good_alike u is = record { end = is.end; history = is.history; leads = is.leads; holds = good_in S T (λ q. (same q).0) is.end is.history is.holds }

  pub first_bad_alike : (Part : List Move → Type 0) (u : List Move) (why : Why) → IsFirstBad S s bound Part u why → IsFirstBad T s bound Part u why
  first_bad_alike Part u why is = record {
    part = is.part;
    bad = bad_alike u is.bad;
    before = λ v at ended. good_alike v (is.before v at ended);
    why_is = why_alike u why is.why_is;
  }

  pub all_good_alike : (Part : List Move → Type 0) (counts : Counts) → AreAllGood S s bound Part counts → AreAllGood T s bound Part counts
  all_good_alike Part counts are = record { good = λ u part ended. good_alike u (are.good u part ended); numbers = are.numbers }

-- a bad schedule is ended within the bound
pub bad_ended : (Set : List SerialOp → Type 0) (s : State) (bound : ℕ) (u : List Move) → IsBad Set s bound u → IsEndedWithin s bound u
bad_ended Set s bound u bad =
    let r = bad.1 in
    elim r.holds.0 [
      | inl complete ↦ inl (bad.0, record { end = r.end; history = r.history; leads = r.leads; holds = complete })
      | inr stuck ↦ inr (bad.0, record { end = r.end; history = r.history; leads = r.leads; holds = stuck })
    ]

-- a bad schedule is not good
pub bad_not_good : (Set : List SerialOp → Type 0) (s : State) (bound : ℕ) (u : List Move) → IsBad Set s bound u → Reaches s u (IsGoodAt Set) → ⊥
bad_not_good Set s bound u bad good =
    let r = bad.1 in
    let same = leads_same s u good.end r.end good.history r.history good.leads r.leads in
    r.holds.1 (subst (λ h. IsGoodAt Set r.end h) same.1 (subst (λ x. IsGoodAt Set x good.history) same.0 good.holds))

-- where these schedules are good, a bad one is none of them
pub good_not_bad : (Set : List SerialOp → Type 0) (s : State) (bound : ℕ) (Part : List Move → Type 0) (u : List Move) → AreGood Set s bound Part → Part u → IsBad Set s bound u → ⊥
good_not_bad Set s bound Part u good part bad = bad_not_good Set s bound u bad (good u part (bad_ended Set s bound u bad))

-- a part has one first bad schedule
pub first_bad_same : (Set : List SerialOp → Type 0) (s : State) (bound : ℕ) (Part : List Move → Type 0) (u v : List Move) (why other : Why) → IsFirstBad Set s bound Part u why → IsFirstBad Set s bound Part v other → v ≡ u
first_bad_same Set s bound Part u v why other x y =
    elim (smaller_cases v u) [
      | inl z ↦ elim z [
        | inl less ↦ absurd (good_not_bad Set s bound (λ w. Part w × IsSmaller w u) v x.before (y.part, less) y.bad)
        | inr more ↦ absurd (good_not_bad Set s bound (λ w. Part w × IsSmaller w v) u y.before (x.part, more) x.bad)
      ]
      | inr e ↦ e
    ]
