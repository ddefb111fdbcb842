use Rattle.std.proofs.Common.{◌≡◌, ◌++◌, string_bytes, take}
use Rattle.std.specs.List.{flat_map}
use Rattle.lu_lang.specs.ComponentText.{lock_text}
use Rattle.lu_lang.proofs.writing.write_locks.Given as goal

abbrev pub invariant-loop-name : goal.invariant-loop-name
invariant-loop-name l = string_bytes l.text ≡ string_bytes l.fn.text ++ flat_map lock_text (take l.name-index l.locks)
