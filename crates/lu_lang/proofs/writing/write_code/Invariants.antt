use Rattle.std.proofs.Common.{◌≡◌, ◌++◌, string_bytes, take}
use Rattle.std.specs.List.{flat_map, enumerate_from}
use Rattle.lu_lang.specs.ComponentText.{code_line}
use Rattle.lu_lang.proofs.writing.write_code.Given as goal

abbrev pub invariant-loop-place : goal.invariant-loop-place
invariant-loop-place l = string_bytes l.text ≡ string_bytes l.fn.text ++ flat_map (code_line l.component l.code) (take l.place (enumerate_from 0 l.code))
