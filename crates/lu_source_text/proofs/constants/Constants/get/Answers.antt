use Rattle.std.proofs.Common.{ap, ◌∙◌}
use Rattle.lu_source_text.specs.Constants.{constant_from}
use Rattle.lu_source_text.proofs.LookedUp.{is_value}
use Rattle.lu_source_text.proofs.constants.Constants.get.Goals as goal

pub returns : goal.returns
returns c =
    c.copied.ensures ∙ c.get.ensures.value ∙ is_value c.self.inside.values.entries c.args.word.now
    ∙ ap (λ cs. constant_from cs c.args.word.now) c.self.view_is
