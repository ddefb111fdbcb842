use Rattle.std.proofs.Common.{◌≡◌, ◌++◌, ◌∷◌, take}
use Rattle.std.specs.Prelude.{string_bytes, codes}
use Rattle.std.specs.List.{flat_map}
use Rattle.lu_spec.specs.SpecText.{entry_text}
use Rattle.lu_spec.proofs.writer.write_line.Given as goal

abbrev pub invariant-loop-op : goal.invariant-loop-op
invariant-loop-op l = string_bytes l.text ≡ string_bytes l.fn.text ++ (codes "history" ++ flat_map (λ op. 32 ∷ entry_text op) (take l.op-index l.history))
