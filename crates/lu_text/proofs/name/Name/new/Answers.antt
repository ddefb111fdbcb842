use Rattle.std.proofs.Common.{rules}
use Rattle.lu_text.proofs.NameText.{name_is_text}
use Rattle.lu_text.proofs.name.Name.new.Goals as goal

pub unwrap-text-requires : goal.unwrap-text-requires
unwrap-text-requires c = let is_text = name_is_text c.args.word.now c.requires.0 in search rules
