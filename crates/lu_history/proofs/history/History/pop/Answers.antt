use Rattle.std.proofs.Common.{◌≡◌, ℕ, ◌-◌, ◌≤◌, Option, Some, List, [], ◌∷◌, ◌++◌, length, get_or, set, refl, ap, ◌∙◌, subst, arith, rules}
use Rattle.std.specs.Option.{option_to_list}
use Rattle.lu_machine.specs.declared.event.Event.{Event}
use Rattle.lu_machine.specs.declared.event.Event.TheVariants.{Call, Return}
use Rattle.lu_machine.specs.declared.event.Outcome.{Outcome}
use Rattle.lu_history.specs.Histories.{Fits, calls, outcomes}
use Rattle.lu_history.specs.Tables.{AreTables}
use Rattle.lu_history.proofs.Events.{pop_fits}
use Rattle.lu_history.proofs.Keeping.{dropped_call, dropped_return, calls_some, returns_some}
use Rattle.lu_history.proofs.history.History.pop.Goals as goal

was : (items now : List Event) (o : Option Event) (e w : Event) → items ≡ now ++ option_to_list o → o ≡ Some e → e ≡ w → items ≡ now ++ w ∷ []
was items now o e w all some is = all ∙ ap (λ x. now ++ option_to_list x) some ∙ ap (λ x. now ++ x ∷ []) is

module _ (items now : List Event) (called returned : List ℕ) (kept : List Outcome) (before : List (List ℕ)) (is : AreTables items called returned kept before) where
  there : (w : Event) → items ≡ now ++ w ∷ [] → Fits now w
  there w e = pop_fits now [] w (subst (λ h. AreTables h called returned kept before) e is).well_formed

  called_some : (t k s : ℕ) → items ≡ now ++ Call t k ∷ [] → s ≡ t → 1 ≤ get_or called s 0
  called_some t k s e same =
      let n : get_or called s 0 ≡ calls t items = ap (λ x. get_or called x 0) same ∙ is.called_are t in
      let m : 1 ≤ calls t items = rw e (calls_some now t k) in
      omega arith

  returned_some : (t k s : ℕ) (o : Outcome) → items ≡ now ++ Return t k o ∷ [] → s ≡ t → 1 ≤ get_or returned s 0
  returned_some t k s o e same =
      let n : get_or returned s 0 ≡ length (outcomes t items) = ap (λ x. get_or returned x 0) same ∙ is.returned_are t in
      let m : 1 ≤ length (outcomes t items) = rw e (returns_some now t k o) in
      omega arith

  call_dropped : (t k s : ℕ) → items ≡ now ++ Call t k ∷ [] → s ≡ t → length called ≡ 8 → AreTables now (set called s (get_or called s 0 - 1)) returned kept before
  call_dropped t k s e same l8 =
      let f = there (Call t k) e in
      rw same (dropped_call now called returned kept before t k (omega (arith, f.0)) (subst (λ h. AreTables h called returned kept before) e is))

  return_dropped : (t k s : ℕ) (o : Outcome) → items ≡ now ++ Return t k o ∷ [] → s ≡ t → length returned ≡ 8 → AreTables now called (set returned s (get_or returned s 0 - 1)) kept before
  return_dropped t k s o e same l8 =
      let f = there (Return t k o) e in
      rw same (dropped_return now called returned kept before t k o (omega (arith, f.0)) (returned_some t k t o e refl) (subst (λ h. AreTables h called returned kept before) e is))

pub bounds-self-inside-from : goal.bounds-self-inside-from
bounds-self-inside-from c =
    let f = there c.self.inside.events.items c.pop.new.self.items c.self.inside.called c.self.inside.returned c.self.inside.outcomes c.self.inside.before c.self.invariant (Call c.in-Call.t c.in-Call.k) (was _ _ _ _ _ c.pop.ensures.items c.unwrap-event.ensures c.in-Call.is) in
    omega (arith, f.0, c.from.ensures)

pub bounds-self-inside-from-in-Call : goal.bounds-self-inside-from-in-Call
bounds-self-inside-from-in-Call c =
    let f = there c.self.inside.events.items c.pop.new.self.items c.self.inside.called c.self.inside.returned c.self.inside.outcomes c.self.inside.before c.self.invariant (Call c.in-Call.t c.in-Call.k) (was _ _ _ _ _ c.pop.ensures.items c.unwrap-event.ensures c.in-Call.is) in
    omega (arith, f.0, c.from.ensures)

pub overflow_sub-self : goal.overflow_sub-self
overflow_sub-self c =
    called_some c.self.inside.events.items c.pop.new.self.items c.self.inside.called c.self.inside.returned c.self.inside.outcomes c.self.inside.before c.self.invariant c.in-Call.t c.in-Call.k _ (was _ _ _ _ _ c.pop.ensures.items c.unwrap-event.ensures c.in-Call.is) c.from.ensures

pub invariant_of-self : goal.invariant_of-self
invariant_of-self c =
    call_dropped c.self.inside.events.items c.pop.new.self.items c.self.inside.called c.self.inside.returned c.self.inside.outcomes c.self.inside.before c.self.invariant c.in-Call.t c.in-Call.k _ (was _ _ _ _ _ c.pop.ensures.items c.unwrap-event.ensures c.in-Call.is) c.from.ensures (search rules)

pub bounds-self-inside-from-in-Return : goal.bounds-self-inside-from-in-Return
bounds-self-inside-from-in-Return c =
    let f = there c.self.inside.events.items c.pop.new.self.items c.self.inside.called c.self.inside.returned c.self.inside.outcomes c.self.inside.before c.self.invariant (Return c.in-Return.t c.in-Return.k c.in-Return.outcome) (was _ _ _ _ _ c.pop.ensures.items c.unwrap-event.ensures c.in-Return.is) in
    omega (arith, f.0, c.from-in-Return.ensures)

pub bounds-self-inside-from-in-Return-2 : goal.bounds-self-inside-from-in-Return-2
bounds-self-inside-from-in-Return-2 c =
    let f = there c.self.inside.events.items c.pop.new.self.items c.self.inside.called c.self.inside.returned c.self.inside.outcomes c.self.inside.before c.self.invariant (Return c.in-Return.t c.in-Return.k c.in-Return.outcome) (was _ _ _ _ _ c.pop.ensures.items c.unwrap-event.ensures c.in-Return.is) in
    omega (arith, f.0, c.from-in-Return.ensures)

pub overflow_sub-self-in-Return : goal.overflow_sub-self-in-Return
overflow_sub-self-in-Return c =
    returned_some c.self.inside.events.items c.pop.new.self.items c.self.inside.called c.self.inside.returned c.self.inside.outcomes c.self.inside.before c.self.invariant c.in-Return.t c.in-Return.k _ c.in-Return.outcome (was _ _ _ _ _ c.pop.ensures.items c.unwrap-event.ensures c.in-Return.is) c.from-in-Return.ensures

pub invariant_of-self-in-Return : goal.invariant_of-self-in-Return
invariant_of-self-in-Return c =
    return_dropped c.self.inside.events.items c.pop.new.self.items c.self.inside.called c.self.inside.returned c.self.inside.outcomes c.self.inside.before c.self.invariant c.in-Return.t c.in-Return.k _ c.in-Return.outcome (was _ _ _ _ _ c.pop.ensures.items c.unwrap-event.ensures c.in-Return.is) c.from-in-Return.ensures (search rules)
