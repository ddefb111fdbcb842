use Rattle.std.proofs.Common.{◌≡◌, drop}
use Rattle.std.specs.List.{flat_map}
use Rattle.lu_text.specs.Lines.{texts, words_of}
use Rattle.lu_lint.specs.Parts.{begin_history, is_history}
use Rattle.lu_lint.proofs.part_kind.is_history.Given as goal

abbrev pub invariant-loop-line : goal.invariant-loop-line
invariant-loop-line l = begin_history (flat_map words_of (drop l.line-index (texts l.line-items))) ≡ is_history l.text
