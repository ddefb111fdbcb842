use Rattle.std.proofs.Common.{◌≡◌, Option, Some, None, slice_get, refl, sym, arith}
use Rattle.lu_history.specs.declared.serial.SerialOutcome.{SerialOutcome}
use Rattle.lu_history.specs.Parts.{part}
use Rattle.lu_history.proofs.PartEntries.{part_past}
use Rattle.lu_explain.proofs.Leasts.{past_none}
use Rattle.lu_diagnosis.proofs.sentences.ended.Goals as goal

none_of : (found : Option SerialOutcome) → ((o : SerialOutcome) → found ≡ Some o → ⊥) → None ≡ found
none_of None never = refl
none_of (Some o) never = absurd (never o refl)

pub returns-then-t-ge8 : goal.returns-then-t-ge8
returns-then-t-ge8 c = none_of (slice_get (part c.args.t c.args.history.now) c.args.k) (λ o is. past_none c.args.history.now c.events-events.ensures.well_formed c.args.t c.args.k o (omega arith) is)

pub returns-else-k-from : goal.returns-else-k-from
returns-else-k-from c = sym (part_past c.args.history.now c.events-events.ensures.well_formed c.args.t c.args.k (omega (arith, c.if-k-from.false, c.from.ensures, c.calls.ensures)))
