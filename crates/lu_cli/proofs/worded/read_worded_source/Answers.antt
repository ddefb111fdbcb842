use Rattle.std.proofs.Common.{refl}
use Rattle.lu_cli.proofs.worded.read_worded_source.Goals as goal

pub returns-clause-read : goal.returns-clause-read
returns-clause-read c =
    (c.in_ok-words.words, refl, c.in_ok-words.ensures.read, c.in_ok-component.ensures.read, c.in_ok-matrix.ensures.read)
