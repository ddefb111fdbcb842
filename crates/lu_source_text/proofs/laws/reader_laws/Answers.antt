use Rattle.lu_source_text.proofs.Drafts.{source_sound}
use Rattle.lu_source_text.proofs.laws.reader_laws.Goals as goal

pub returns : goal.returns
returns _ = source_sound
