use Rattle.std.proofs.Common.{◌≡◌, ◌++◌, take}
use Rattle.std.specs.List.{flat_map}
use Rattle.lu_lang.proofs.Understood.{word_text}
use Rattle.lu_lang.proofs.recovery.with_spaced_words.Given as goal

abbrev pub invariant-loop-word : goal.invariant-loop-word
invariant-loop-word l = l.text.items ≡ l.initial.text.items ++ flat_map word_text (take l.word-index l.words)
