use Rattle.std.proofs.Common.{Bool, refl, ap, ◌∙◌}
use Rattle.std.specs.Prelude.{is_none, ◌&&◌}
use Rattle.lu_lint.proofs.ReadingOn.{none_is}
use Rattle.lu_lint.proofs.component.read_words.Goals as goal

pub returns : goal.returns
returns over c = record {
  said = c.in_ok-all.ensures.said;
  left = c.in_ok-all.ensures.left_is;
  sound = ap (λ (b : Bool). c.args.reading.sound && b) (none_is c.is_none-sound.result _ c.is_none-sound.ensures ∙ ap is_none c.in_ok-all.ensures.fault_is);
  found = refl;
  seen = c.in_ok-seen.ensures;
}
