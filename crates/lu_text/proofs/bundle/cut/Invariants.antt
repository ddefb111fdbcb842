use Rattle.std.proofs.Common.{◌≡◌, ◌≤◌, ◌++◌, length, take}
use Rattle.lu_text.specs.Bundle.{parts_between, separates}
use Rattle.lu_text.specs.Lines.{kept_lines, texts}
use Rattle.lu_text.proofs.Parts.{join_first, parts_by}
use Rattle.lu_text.proofs.bundle.cut.Given as goal

abbrev pub invariant-loop-rest : goal.invariant-loop-rest
invariant-loop-rest l = record {
  within : l.size ≤ length l.part;
  whole : take l.size l.part ++ l.rest ≡ l.part;
  told : texts l.parts.items ++ join_first (take l.size l.part) (parts_by (separates l.separators) (kept_lines l.rest)) ≡ parts_between (separates l.separators) l.text;
}

abbrev pub decreases-loop-rest : goal.decreases-loop-rest
decreases-loop-rest l = length l.rest
