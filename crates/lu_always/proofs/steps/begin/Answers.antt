use Rattle.std.proofs.Common.{◌≡◌, None}
use Rattle.lu_always.specs.Searching.{IsStoredFor, node_at}
use Rattle.lu_always.proofs.Keeping.{can_none, only_first}
use Rattle.lu_always.proofs.StepsMade.{stepped_none}
use Rattle.lu_always.proofs.steps.begin.Goals as goal

pub returns : goal.returns
returns c =
    let s = c.args.machine.now in (
      c.in_ok-first.first,
      c.in_ok-first.ensures,
      stepped_none c.args.given.dead.now c.args.given.rounds c.args.given.table.now c.in_ok-first.first s c.store_first.new.all c.in_ok-store_first.ensures.there.0 (c.in_ok-store_first.field-0, c.in_ok-store_first.ensures.there.1) (c.in_ok-store_first.ensures.grows.stand (can_none s c.args.all.now c.requires))
          (only_first (λ kept. IsStoredFor (node_at s c.in_ok-first.first) kept × (kept.arrival ≡ None)) c.args.all.now c.store_first.new.all c.requires c.in_ok-store_first.ensures.only),
    )
