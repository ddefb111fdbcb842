use Rattle.std.proofs.Common.{◌≡◌, ◌++◌, string_bytes, take}
use Rattle.std.specs.List.{flat_map}
use Rattle.lu_lang.specs.ComponentText.{op_text}
use Rattle.lu_lang.proofs.writing.write_operations.Given as goal

abbrev pub invariant-loop-op : goal.invariant-loop-op
invariant-loop-op l = string_bytes l.text ≡ string_bytes l.fn.text ++ flat_map (op_text l.component) (take l.op-index l.operations)
