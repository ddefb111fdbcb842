use Rattle.std.proofs.Common.{◌≡◌, take}
use Rattle.lu_run.specs.Reading.{calls_of_keys}
use Rattle.lu_run.proofs.reading.calls_of_keys.Given as goal

abbrev pub invariant-loop-key : goal.invariant-loop-key
invariant-loop-key l = l.calls.items ≡ calls_of_keys (take l.key-index l.keys)
