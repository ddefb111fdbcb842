-- How linearizations go on: one event more, and one entry more.
use Rattle.std.proofs.Common.{arith, ◌≡◌, ℕ, suc, ◌+◌, ◌<◌, ◌≤◌, List, [], ◌∷◌, ◌++◌, length, take, drop, Some, slice_get, if◌then◌else◌, sym, ◌∙◌, ap, subst, inl, inr}
use Rattle.std.specs.Prelude.{◌⊎◌}
use Rattle.std.proofs.lemmas.Bool.{cases_lt}
use Rattle.std.proofs.lemmas.Bool.Decides.{eqb_tells}
use Rattle.std.proofs.lemmas.Option.{slice_get_within}
use Rattle.lu_machine.specs.declared.event.Event.{Event}
use Rattle.lu_machine.specs.declared.event.Event.TheVariants.{Call, Return}
use Rattle.lu_machine.specs.declared.event.Outcome.{Outcome}
use Rattle.lu_history.specs.declared.operation.OpId.{OpId}
use Rattle.lu_history.specs.declared.serial.SerialOp.{SerialOp}
use Rattle.lu_history.specs.Histories.{calls, outcomes}
use Rattle.lu_history.specs.Parts.{as_serial}
use Rattle.lu_history.proofs.Events.{kept_at, last_at, split_at}
use Rattle.lu_history.proofs.Keeping.{calls_more, calls_same}
use Rattle.lu_witness.specs.Witnesses.{IsEntryAt, entries}
use Rattle.lu_witness.proofs.Entries.{counted_entry, entries_more, entry_of}
use Rattle.lu_linearization.specs.Precedence.{KeepsPrecedence, IsCalledBefore}
use Rattle.lu_linearization.specs.Linearizations.{LinearizationsAfterCall, ComesNext, ExtendsBy, IsPrefixClosed, HasOnlyCalled, HasSequentialThreads, IsLinearization, PendingMayBeAppended, RestIsPending, LinearizationsAfterReturn, HasOutcome}
use Rattle.lu_linearization.proofs.Sequential.{calls_all, front, in_turn, is_pending, last, return_of, returned_at}
use Rattle.lu_linearization.proofs.Standing.{precedence_goes_on, precedence_longer, precedence_shorter, fewer_entries, front_standing, is_called, lift_entry, lift_standing, one_operation, one_place, outcomes_pop, outcomes_push, same_return, standing_entry}

-- what is called before a return is all that is called
all_called_before : (q : List SerialOp) (h : List Event) (a : OpId) → HasOnlyCalled q h → IsCalledBefore q h a
all_called_before q h a called j l b at lt bt = is_called q h called b l bt

module _ (Z : List SerialOp → Type 0) where
  -- ---- a return

  pub return_goes_on : LinearizationsAfterReturn Z
  return_goes_on q h a o =
      let e : Event = Return a.t a.k o in (
        (λ is. (
          record {
            member = is.member;
            called = λ t. subst (λ n. length (entries t q) ≤ n) (calls_same t a.t a.k o h) (is.called t);
            outcomes = outcomes_pop q h (e ∷ []) is.outcomes;
            precedence = ((precedence_goes_on q h e).0 is.precedence).0;
          },
          is.outcomes (length h) a o (last_at h [] e),
        )),
        (λ both. record {
          member = both.0.member;
          called = λ t. subst (λ n. length (entries t q) ≤ n) (sym (calls_same t a.t a.k o h)) (both.0.called t);
          outcomes = outcomes_push q h e both.0.outcomes (λ b p same. same_return q a b o p same both.1);
          precedence = (precedence_goes_on q h e).1 (both.0.precedence, λ b p same. all_called_before q h b both.0.called);
        }),
      )

  -- ---- entries more

  pub longer : (p r : List SerialOp) (h : List Event) → IsLinearization Z p h → Z (p ++ r) → HasOnlyCalled (p ++ r) h → IsLinearization Z (p ++ r) h
  longer p r h is member called = record {
    member = member;
    called = called;
    outcomes = λ i a o at. lift_standing p r a (as_serial o) (is.outcomes i a o at);
    precedence = precedence_longer p r h is.outcomes is.precedence;
  }

  pub put_goes_on : PendingMayBeAppended Z
  put_goes_on q h op is lt = (
    (λ more. more.member),
    (λ member. longer q (op ∷ []) h is member (λ t.
        let more = entries_more t q op in
        let few = is.called t in
        elim (eqb_tells op.thread t) as (λ _. length (entries t (q ++ op ∷ [])) ≤ calls t h) [
          | inl own ↦
              (let one : length (entries t (q ++ op ∷ [])) ≡ length (entries t q) + 1 = more ∙ ap (λ b. length (entries t q) + (if b then 1 else 0)) own.0 in
              let below : length (entries t q) < calls t h = subst (λ u. length (entries u q) < calls u h) own.1 lt in
              omega (arith, one, below))
          | inr other ↦
              (let none : length (entries t (q ++ op ∷ [])) ≡ length (entries t q) + 0 = more ∙ ap (λ b. length (entries t q) + (if b then 1 else 0)) other.0 in
              omega (arith, none, few))
        ])),
  )

  -- where one linearization is a prefix of another, the operations of the rest have not returned
  pub rest_is_pending : RestIsPending Z
  rest_is_pending p r h is before whole i a le at =
      let lt = is_called (p ++ r) h whole.called a i at in
      is_pending h a is lt (elim (cases_lt a.k (length (outcomes a.t h))) as (λ _. length (outcomes a.t h) ≤ a.k) [
        | inl returned ↦
            (let back = return_of h is a returned in
            let stands = standing_entry p a (as_serial back.1.0) (before.outcomes back.0 a back.1.0 back.1.1) in
            let within = slice_get_within p stands.0 stands.1.0 stands.1.1 in
            let same = one_place (p ++ r) a i stands.0 at (lift_entry p r a stands.0 stands.1) in
            absurd (omega (arith, within, same, le)))
        | inr not_yet ↦ not_yet
      ])

  -- ---- a call

  -- a linearization stays one
  pub call_keeps : (q : List SerialOp) (h : List Event) (a : OpId) → IsLinearization Z q h → IsLinearization Z q (h ++ Call a.t a.k ∷ [])
  call_keeps q h a is = record {
    member = is.member;
    called = λ t.
        (let more = calls_more t a.t a.k h in
        let few = is.called t in
        omega (arith, more, few));
    outcomes = outcomes_push q h (Call a.t a.k) is.outcomes (λ b o same. absurd (cc));
    precedence = (precedence_goes_on q h (Call a.t a.k)).1 (is.precedence, λ b o same. absurd (cc));
  }

  module _ (begins : IsPrefixClosed Z) (q : List SerialOp) (h : List Event) (a : OpId) (next : HasSequentialThreads (h ++ Call a.t a.k ∷ [])) where
    is_sequential : HasSequentialThreads h
    is_sequential = front h (Call a.t a.k ∷ []) next

    number : ComesNext h (Call a.t a.k)
    number = last h [] (Call a.t a.k) next

    -- the part before the operation is a linearization from before the call
    module _ (is : IsLinearization Z q (h ++ Call a.t a.k ∷ [])) (i : ℕ) (at : IsEntryAt q i a) where
      behind : List SerialOp
      behind = drop (suc i) q

      abbrev parts : q ≡ take i q ++ at.0 ∷ drop (suc i) q
      parts = split_at q at.0 i at.1

      early : KeepsPrecedence q h
      early = ((precedence_goes_on q h (Call a.t a.k)).0 is.precedence).0

      -- what has returned comes before
      before : (m : ℕ) (b : OpId) (o : Outcome) → slice_get h m ≡ Some (Return b.t b.k o) → b.k < length (entries b.t (take i q))
      before m b o back =
          let stands = standing_entry q b (as_serial o) (is.outcomes m b o (kept_at h (Call a.t a.k ∷ []) (Return b.t b.k o) m back)) in
          let counted = returned_at h is_sequential m b (o, back) in
          let turn = (in_turn h is_sequential b.t).returned in
          elim (cases_lt stands.0 i) as (λ _. b.k < length (entries b.t (take i q))) [
            | inl lt ↦ counted_entry q b stands.0 i lt stands.1
            | inr ge ↦ elim (cases_lt i stands.0) as (λ _. b.k < length (entries b.t (take i q))) [
              | inl lt ↦
                  (let in_time = early m b (o, back) stands.0 i a stands.1 lt at in
                  let all = calls_all a.t h m in
                  let here = number.0 in
                  absurd (omega (arith, in_time, all, here)))
              | inr le ↦
                  (let same : stands.0 ≡ i = omega (arith, ge, le) in
                  let both = one_operation q i b a (subst (λ n. IsEntryAt q n b) same stands.1) at in
                  let none : calls b.t h ≡ a.k = ap (λ t. calls t h) both.0 ∙ number.0 in
                  absurd (omega (arith, counted, turn, none, both.1)))
            ]
          ]

      pub cut : ExtendsBy Z q h a
      cut = record {
        before = take i q;
        op = at.0;
        after = drop (suc i) q;
        parts = parts;
        linearizes = record {
          member = begins (take i q) (at.0 ∷ drop (suc i) q) (subst Z parts is.member);
          called = λ t.
              (let few = subst (λ x. length (entries t (take i q)) ≤ length (entries t x)) (sym parts) (fewer_entries (take i q) (at.0 ∷ drop (suc i) q) t) in
              let all = is.called t in
              let more = calls_more t a.t a.k h in
              elim (eqb_tells a.t t) as (λ _. length (entries t (take i q)) ≤ calls t h) [
                | inl own ↦
                    (let here : length (entries t (take i q)) ≡ a.k = subst (λ u. length (entries u (take i q)) ≡ a.k) own.1 at.3 in
                    let there : calls t h ≡ a.k = subst (λ u. calls u h ≡ a.k) own.1 number.0 in
                    omega (arith, here, there))
                | inr other ↦
                    (let none : calls t (h ++ Call a.t a.k ∷ []) ≡ calls t h + 0 = more ∙ ap (λ b. calls t h + (if b then 1 else 0)) other.0 in
                    omega (arith, few, all, none))
              ]);
          outcomes = λ m b o back.
              front_standing (take i q) (at.0 ∷ drop (suc i) q) b (as_serial o) (before m b o back)
              (subst (λ x. HasOutcome x b (as_serial o)) parts (is.outcomes m b o (kept_at h (Call a.t a.k ∷ []) (Return b.t b.k o) m back)));
          precedence = precedence_shorter (take i q) (at.0 ∷ drop (suc i) q) h (subst (λ x. KeepsPrecedence x h) parts early);
        };
        first =
            ap {B = OpId} (λ t. record { t = t; k = length (entries t (take i q)) }) at.2
            ∙ ap {B = OpId} (λ k. record { t = a.t; k = k }) at.3;
        member = is.member;
        called = is.called;
      }

    call_splits : IsLinearization Z q (h ++ Call a.t a.k ∷ []) → IsLinearization Z q h ⊎ ExtendsBy Z q h a
    call_splits is = elim (cases_lt (calls a.t h) (length (entries a.t q))) as (λ _. IsLinearization Z q h ⊎ ExtendsBy Z q h a) [
      | inl stands ↦
          (let same = number.0 in
          let there = entry_of q a (omega (arith, stands, same)) in
          inr (cut is there.0 there.1))
      | inr not_yet ↦ inl (record {
        member = is.member;
        called = λ t.
            (let all = is.called t in
            let more = calls_more t a.t a.k h in
            elim (eqb_tells a.t t) as (λ _. length (entries t q) ≤ calls t h) [
              | inl own ↦ subst (λ u. length (entries u q) ≤ calls u h) own.1 not_yet
              | inr other ↦
                  (let none : calls t (h ++ Call a.t a.k ∷ []) ≡ calls t h + 0 = more ∙ ap (λ b. calls t h + (if b then 1 else 0)) other.0 in
                  omega (arith, all, none))
            ]);
        outcomes = outcomes_pop q h (Call a.t a.k ∷ []) is.outcomes;
        precedence = ((precedence_goes_on q h (Call a.t a.k)).0 is.precedence).0;
      })
    ]

    call_joins : IsLinearization Z q h ⊎ ExtendsBy Z q h a → IsLinearization Z q (h ++ Call a.t a.k ∷ [])
    call_joins = elim [
      | inl is ↦ call_keeps q h a is
      | inr on ↦
          subst (λ x. IsLinearization Z x (h ++ Call a.t a.k ∷ [])) (sym on.parts)
          (longer on.before (on.op ∷ on.after) (h ++ Call a.t a.k ∷ []) (call_keeps on.before h a on.linearizes) (subst Z on.parts on.member) (subst (λ x. HasOnlyCalled x (h ++ Call a.t a.k ∷ [])) on.parts on.called))
    ]

  pub call_goes_on : LinearizationsAfterCall Z
  call_goes_on begins q h a next = (call_splits begins q h a next, call_joins begins q h a next)
