-- A history has one verdict, and equal sets give it the same one.
use Rattle.std.proofs.Common.{◌≡◌, ℕ, ◌<◌, List, inl, inr, refl, ap, arith}
use Rattle.std.proofs.lemmas.Bool.{cases_lt}
use Rattle.lu_machine.specs.declared.event.Event.{Event}
use Rattle.lu_history.specs.declared.operation.OpId.{OpId}
use Rattle.lu_history.specs.declared.serial.SerialOp.{SerialOp}
use Rattle.lu_history.specs.Histories.{IsPending}
use Rattle.lu_history.specs.Parts.{keep_pending}
use Rattle.lu_witness.specs.declared.judgement.Verdict.{Verdict}
use Rattle.lu_witness.specs.declared.judgement.Verdict.TheVariants.{Good, NoWitness, NoWitnessFor}
use Rattle.lu_witness.specs.Witnesses.{HasWitness, IsGood, IsLeastWithout, IsVerdict}

module _ (S T : List SerialOp → Type 0) (into : (q : List SerialOp) → S q → T q) where
  -- a witness stays one in a larger set
  pub witness_in : (h : List Event) → HasWitness S h → HasWitness T h
  witness_in h found = (found.0, into found.0 found.1, found.2)

  pub good_in : (h : List Event) → IsGood S h → IsGood T h
  good_in h good = record {
    complete = λ none. witness_in h (good.complete none);
    stuck = λ a is. witness_in (keep_pending a.t h) (good.stuck a is);
  }

-- two sets with the same members give the same verdict
pub verdict_in : (S T : List SerialOp → Type 0) → ((q : List SerialOp) → S q → T q) → ((q : List SerialOp) → T q → S q) → (h : List Event) (v : Verdict) → IsVerdict S h v → IsVerdict T h v
verdict_in S T into back h Good is = good_in S T into h is
verdict_in S T into back h NoWitness is = (is.0, λ found. is.1 (witness_in T S back h found))
verdict_in S T into back h (NoWitnessFor t) is = record {
  pending = is.pending;
  without = λ found. is.without (witness_in T S back (keep_pending t h) found);
  least = λ a lt waits. witness_in S T into (keep_pending a.t h) (is.least a lt waits);
}

module _ (S : List SerialOp → Type 0) (h : List Event) where
  not_good : (t : ℕ) → IsGood S h → IsLeastWithout S h t → ⊥
  not_good t good least = least.without (good.stuck (record { t = t; k = least.pending.0 }) least.pending.1)

  not_complete : (t : ℕ) → ((a : OpId) → IsPending h a → ⊥) → IsLeastWithout S h t → ⊥
  not_complete t none least = none (record { t = t; k = least.pending.0 }) least.pending.1

  not_below : (t u : ℕ) → IsLeastWithout S h t → IsLeastWithout S h u → t < u → ⊥
  not_below t u at_t at_u lt = at_t.without (at_u.least (record { t = t; k = at_t.pending.0 }) lt at_t.pending.1)

  -- a history has at most one verdict
  pub one_verdict : (v w : Verdict) → IsVerdict S h v → IsVerdict S h w → v ≡ w
  one_verdict Good Good is also = refl
  one_verdict Good NoWitness is also = absurd (also.1 (is.complete also.0))
  one_verdict Good (NoWitnessFor u) is also = absurd (not_good u is also)
  one_verdict NoWitness Good is also = absurd (is.1 (also.complete is.0))
  one_verdict NoWitness NoWitness is also = refl
  one_verdict NoWitness (NoWitnessFor u) is also = absurd (not_complete u is.0 also)
  one_verdict (NoWitnessFor t) Good is also = absurd (not_good t also is)
  one_verdict (NoWitnessFor t) NoWitness is also = absurd (not_complete t also.0 is)
  one_verdict (NoWitnessFor t) (NoWitnessFor u) is also = elim (cases_lt t u) as (λ _. NoWitnessFor t ≡ NoWitnessFor u) [
    | inl below ↦ absurd (not_below t u is also below)
    | inr above ↦ elim (cases_lt u t) as (λ _. NoWitnessFor t ≡ NoWitnessFor u) [
      | inl below ↦ absurd (not_below u t also is below)
      | inr equal ↦ let same : t ≡ u = omega arith in ap NoWitnessFor same
    ]
  ]
