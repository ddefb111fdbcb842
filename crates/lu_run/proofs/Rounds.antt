-- Nine rounds of questions suffice: at most eight operations take effect, one after another.
use Rattle.std.proofs.Common.{arith, ◌≡◌, ◌≢◌, ℕ, zero, suc, ◌<◌, ◌≤◌, ◌+◌, List, [], ◌∷◌, ◌++◌, length, Option, Some, None, refl, sym, ◌∙◌, ap, subst, inl, inr, append_assoc}
use Rattle.std.specs.Prelude.{IsSome}
use Rattle.std.proofs.lemmas.Bool.Decides.{eqb_tells}
use Rattle.std.proofs.lemmas.List.{append-nil, length-append}
use Rattle.lu_test.specs.declared.matrix.Call.{Call as ACall}
use Rattle.lu_history.specs.declared.serial.SerialOp.{SerialOp}
use Rattle.lu_history.specs.declared.serial.SerialOutcome.{SerialOutcome}
use Rattle.lu_linearization.specs.declared.configuration.Configuration.{Configuration as Kept}
use Rattle.lu_linearization.specs.Configurations.{AllTakeEffect, AreSame, Configuration, FirstIsOf, TakesEffect}
use Rattle.lu_linearization.specs.Monitors.{AreClosed, Holds, by_thread}
use Rattle.lu_run.specs.declared.automaton.ThreadCall.{ThreadCall}
use Rattle.lu_run.specs.declared.table.Table.{Table}
use Rattle.lu_run.specs.Tables.{Answer, Grows, recorded}
use Rattle.lu_run.specs.Following.{AreAnswered, AreSeated, NextState, question_of}
use Rattle.lu_run.specs.Foreseeing.{NextAllowed}
use Rattle.lu_run.proofs.Simulated.{all_push, first_front}

-- ---- how many threads' operations have not taken effect

abbrev one_if_none : Option SerialOutcome → ℕ
one_if_none None = 1
one_if_none (Some o) = 0

abbrev open_below : ℕ → (ℕ → Option SerialOutcome) → ℕ
open_below zero f = 0
open_below (suc n) f = one_if_none (f n) + open_below n f

one_at_most : (o : Option SerialOutcome) → one_if_none o ≤ 1
one_at_most None = omega arith
one_at_most (Some o) = omega arith

at_most : (n : ℕ) (f : ℕ → Option SerialOutcome) → open_below n f ≤ n
at_most zero f = omega arith
at_most (suc n) f = (let le = at_most n f in let one = one_at_most (f n) in omega (arith, le, one))

open_same : (n : ℕ) (f g : ℕ → Option SerialOutcome) → ((t : ℕ) → t < n → g t ≡ f t) → open_below n f ≡ open_below n g
open_same zero f g same = refl
open_same (suc n) f g same =
    let rest = open_same n f g (λ t lt. same t (omega (arith, lt))) in
    ap (λ x. one_if_none x + open_below n f) (sym (same n (omega arith))) ∙ ap (λ x. one_if_none (g n) + x) rest

open_less : (n t : ℕ) (f g : ℕ → Option SerialOutcome) (o : SerialOutcome) → t < n → f t ≡ None → g t ≡ Some o → ((u : ℕ) → u ≢ t → g u ≡ f u) → open_below n f ≡ suc (open_below n g)
open_less zero t f g o lt none some others = absurd (omega (arith, lt))
open_less (suc n) t f g o lt none some others = elim (eqb_tells n t) as (λ _. open_below (suc n) f ≡ suc (open_below (suc n) g)) [
  | inl here ↦
      (let first : one_if_none (f n) ≡ 1 = ap one_if_none (subst (λ x. f x ≡ None) (sym here.1) none) in
      let second : one_if_none (g n) ≡ 0 = ap one_if_none (subst (λ x. g x ≡ Some o) (sym here.1) some) in
      let rest = open_same n f g (λ u less. others u (λ is. (let at : n ≡ t = here.1 in omega (arith, less, is, at)))) in
      omega (arith, first, second, rest))
  | inr apart ↦
      (let rest = open_less n t f g o (let ne : n ≢ t = apart.1 in omega (arith, lt, ne)) none some others in
      let first = ap one_if_none (others n apart.1) in
      omega (arith, first, rest))
]

-- ---- rounds

-- the answers to the questions in all configurations that fewer than i operations lead to are known
abbrev pub KnownWithin : List (Option ThreadCall) → List (Option SerialOutcome) → ℕ → List Kept → ℕ → Table → Type 0
KnownWithin pending returns t list i table =
    (r : List SerialOp) (b e : Configuration ℕ) → length r < i → Holds list b → FirstIsOf t r → AllTakeEffect (NextAllowed table returns) (by_thread pending) r b e
    → (u : ℕ) (call : ThreadCall) → by_thread pending u ≡ Some call → e.effects u ≡ None → IsSome (recorded table (question_of e.state call))

module _ (calls : List ACall) (pending : List (Option ThreadCall)) (returns : List (Option SerialOutcome)) (seated : AreSeated calls pending) where
  -- each operation that takes effect is one fewer
  longest : {X : Type 0} (Next : X → ThreadCall → SerialOutcome → X → Type 0) (r : List SerialOp) (b e : Configuration X) → AllTakeEffect Next (by_thread pending) r b e → length r + open_below 8 e.effects ≡ open_below 8 b.effects
  longest Next [] b e same = (let is = open_same 8 b.effects e.effects (λ t lt. sym (same.effects t)) in omega (arith, is))
  longest Next (op ∷ r) b e (d, takes, all) =
      let rest = longest Next r d e all in
      let less = open_less 8 op.thread b.effects d.effects op.outcome (seated op.thread takes.call takes.is_pending).0 takes.absent takes.effects takes.others in
      omega (arith, rest, less)

  pub known_first : (t : ℕ) (list : List Kept) (table : Table) → KnownWithin pending returns t list 0 table
  known_first t list table r b e less = absurd (omega (arith, less))

  end_same : (table : Table) (r : List SerialOp) (b d e : Configuration ℕ) → AllTakeEffect (NextAllowed table returns) (by_thread pending) r b d → AreSame d e → AllTakeEffect (NextAllowed table returns) (by_thread pending) r b e
  end_same table [] b d e same is = record { state = same.state ∙ is.state; effects = λ t. same.effects t ∙ is.effects t }
  end_same table (op ∷ r) b d e (x, takes, all) is = (x, takes, end_same table r x d e all is)

  module _ (t : ℕ) (list closure : List Kept) (old new : Table) (grows : Grows old new) (i : ℕ) (known : KnownWithin pending returns t list i old) where
    -- what is known leads to the same
    step_before : (x : ℕ) (call : ThreadCall) (o : SerialOutcome) (y : ℕ) → IsSome (recorded old (question_of x call)) → NextState new x call o y → NextState old x call o y
    step_before x call o y some next = by (recorded old (question_of x call)) refl some
      where
        by : (a : Option Answer) → recorded old (question_of x call) ≡ a → IsSome a → recorded old (question_of x call) ≡ Some (Some (o, y))
        by None e none = absurd cc
        by (Some answer) e is =
            let later : recorded new (question_of x call) ≡ Some answer = grows.answers (question_of x call) answer e in
            e ∙ (sym later ∙ next)

    -- the operations lead to the same by what was known before
    before : (r p : List SerialOp) (b d e : Configuration ℕ) → length (p ++ r) ≤ i → Holds list b → FirstIsOf t (p ++ r) → AllTakeEffect (NextAllowed old returns) (by_thread pending) p b d → AllTakeEffect (NextAllowed new returns) (by_thread pending) r d e → AllTakeEffect (NextAllowed old returns) (by_thread pending) (p ++ r) b e
    before [] p b d e short holds first all same = subst (λ x. AllTakeEffect (NextAllowed old returns) (by_thread pending) x b e) (sym (append-nil p)) (end_same old p b d e all same)
    before (op ∷ r) p b d e short holds first all (x, takes, rest) =
        let long = length-append p (op ∷ r) in
        let some = known p b d (omega (arith, long, short)) holds (first_front t p (op ∷ r) first) all op.thread takes.call takes.is_pending takes.absent in
        let step : TakesEffect (NextAllowed old returns) (by_thread pending) op d x = record { call = takes.call; is_pending = takes.is_pending; absent = takes.absent; leads = (step_before d.state takes.call op.outcome x.state some takes.leads.0, takes.leads.1); effects = takes.effects; others = takes.others } in
        let more = all_push (NextAllowed old returns) (by_thread pending) p b d x op all step in
        let same : (p ++ op ∷ []) ++ r ≡ p ++ op ∷ r = append_assoc p (op ∷ []) r in
        subst (λ y. AllTakeEffect (NextAllowed old returns) (by_thread pending) y b e) same
        (before r (p ++ op ∷ []) b x e (subst (λ y. length y ≤ i) (sym same) short) holds (subst (FirstIsOf t) (sym same) first) more rest)

    -- one round more
    pub known_next : AreClosed (NextAllowed old returns) (by_thread pending) t list closure → AreAnswered new (by_thread pending) closure → KnownWithin pending returns t list (suc i) new
    known_next closed answered r b e less holds first all u call is none =
        let was : AllTakeEffect (NextAllowed old returns) (by_thread pending) r b e = before r [] b b e (omega (arith, less)) holds first (record { state = refl; effects = λ v. refl }) all in
        answered e u call ((closed e).1 (b, r, holds, first, was)) is none

  -- after nine rounds all is known
  pub known_last : (t : ℕ) (list closure : List Kept) (table : Table) → KnownWithin pending returns t list 9 table → AreClosed (NextAllowed table returns) (by_thread pending) t list closure → AreAnswered table (by_thread pending) closure
  known_last t list closure table known closed d u call holds is none =
      let from = (closed d).0 holds in
      let long = longest (NextAllowed table returns) from.1 from.0 d from.4 in
      let most = at_most 8 from.0.effects in
      known from.1 from.0 d (omega (arith, long, most)) from.2 from.3 from.4 u call is none
