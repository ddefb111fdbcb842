use Rattle.std.proofs.Common.{◌≡◌, ℕ, ◌+◌, ◌*◌, List, [], ◌∷◌, ◌++◌, length, get_or, set, sym, subst, arith, rules}
use Rattle.lu_machine.specs.declared.event.Event.{Event}
use Rattle.lu_machine.specs.declared.event.Event.TheVariants.{Call, Return}
use Rattle.lu_machine.specs.declared.event.Outcome.{Outcome}
use Rattle.lu_history.specs.Histories.{Fits}
use Rattle.lu_history.specs.Tables.{AreTables}
use Rattle.lu_history.proofs.Keeping.{kept_call, kept_return}
use Rattle.lu_history.proofs.history.History.push.Goals as goal

module _ (h now : List Event) (called returned : List ℕ) (kept : List Outcome) (before : List (List ℕ)) (are : AreTables h called returned kept before) (e : Event) (t k place thread : ℕ) where
  call_kept : e ≡ Call t k → now ≡ h ++ e ∷ [] → Fits h e → length called ≡ 8 → length before ≡ 64 → place ≡ t * 8 + k → thread ≡ t → AreTables now (set called thread (get_or called thread 0 + 1)) returned kept (set before place returned)
  call_kept call more fits l8 l64 e1 e2 =
      let f : Fits h (Call t k) = subst (Fits h) call fits in
      rw (more, call, e1, e2) (kept_call h called returned kept before are t k (omega (arith, f.0)) (omega (arith, f.0, f.1)) f)

  return_kept : (o : Outcome) → e ≡ Return t k o → now ≡ h ++ e ∷ [] → Fits h e → length returned ≡ 8 → length kept ≡ 64 → place ≡ t * 8 + k → thread ≡ t → AreTables now called (set returned thread (get_or returned thread 0 + 1)) (set kept place o) before
  return_kept o call more fits l8 l64 e1 e2 =
      let f : Fits h (Return t k o) = subst (Fits h) call fits in
      rw (more, call, e1, e2) (kept_return h called returned kept before are t k o (omega (arith, f.0)) (omega (arith, f.0, f.1)) f)

pub invariant_of-self-in-Call : goal.invariant_of-self-in-Call
invariant_of-self-in-Call c = call_kept c.self.inside.events.items _ c.self.inside.called c.self.inside.returned c.self.inside.outcomes c.self.inside.before c.self.invariant c.args.event c.in-Call.t c.in-Call.k _ _ c.in-Call.is (search rules) (subst (λ h. Fits h c.args.event) (sym c.self.view_is) c.requires) (search rules) (search rules) c.row.ensures c.from.ensures

pub invariant_of-self-in-Return : goal.invariant_of-self-in-Return
invariant_of-self-in-Return c = return_kept c.self.inside.events.items _ c.self.inside.called c.self.inside.returned c.self.inside.outcomes c.self.inside.before c.self.invariant c.args.event c.in-Return.t c.in-Return.k _ _ c.in-Return.outcome c.in-Return.is (search rules) (subst (λ h. Fits h c.args.event) (sym c.self.view_is) c.requires) (search rules) (search rules) c.row-in-Return.ensures c.from-in-Return.ensures
