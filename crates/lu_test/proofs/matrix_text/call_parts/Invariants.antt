use Rattle.std.proofs.Common.{◌≡◌, ◌∷◌, take}
use Rattle.std.specs.Prelude.{map}
use Rattle.lu_text.specs.Lines.{texts, words_of}
use Rattle.lu_test.proofs.matrix_text.call_parts.Given as goal

abbrev pub invariant-loop-other : goal.invariant-loop-other
invariant-loop-other l = l.calls.items ≡ texts l.words ∷ map words_of (texts (take l.other-index l.others))
