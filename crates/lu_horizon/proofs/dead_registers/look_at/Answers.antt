use Rattle.std.proofs.Common.{◌≡◌, true, sym, ◌∙◌, subst}
use Rattle.std.proofs.lemmas.Bool.{both_ways}
use Rattle.lu_horizon.specs.Dead.{dead_at}
use Rattle.lu_horizon.specs.Rounds.{IsRound}
use Rattle.lu_horizon.proofs.RoundLaws.{round_at, settled_at}
use Rattle.lu_horizon.proofs.dead_registers.look_at.Goals as goal
use Rattle.lu_horizon.proofs.dead_registers.look_at.Goals.{else-dead_at-via-then-dead_at+else-not-dead_before, else-dead_at-via-else-dead_at}

pub returns-then-not-dead_before-clause-round : goal.returns-then-not-dead_before-clause-round
returns-then-not-dead_before-clause-round c =
    let code = c.args.code.now in
    let known = c.args.known.now.items in
    let was : dead_at known c.args.place c.args.register ≡ true = subst (λ z. dead_at z c.args.place c.args.register ≡ true) c.deref.ensures.value (sym c.dead_at.ensures.value ∙ c.if-dead_at.true) in
    let said = rw c.deref-then-dead_at.ensures.value at c.dead_before.ensures in
    subst (λ z. IsRound code known z true) (sym c.say_live.ensures) (round_at code known c.args.place c.args.register _ c.requires.within was (sym said ∙ c.if-not-dead_before.true))

pub returns-clause-settled : goal.returns-clause-settled
returns-clause-settled c = λ _ instr at is.
    elim c.else-dead_at.branch [
      | else-dead_at-via-then-dead_at+else-not-dead_before w ↦
          (let said = rw w.deref-then-dead_at.ensures.value at w.dead_before.ensures in
          settled_at c.args.code.now c.args.known.now.items c.args.place c.args.register _ (sym said ∙ w.if-not-dead_before.false) instr at is)
      | else-dead_at-via-else-dead_at w ↦
          (let said = rw c.deref.ensures.value at c.dead_at.ensures.value in
          absurd (both_ways (dead_at c.args.known.now.items c.args.place c.args.register) (sym said ∙ w.if-dead_at.false) is))
    ]
