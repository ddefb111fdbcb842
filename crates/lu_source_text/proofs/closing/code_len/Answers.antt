use Rattle.std.proofs.Common.{◌∙◌}
use Rattle.lu_source.specs.Shapes.{tree_of}
use Rattle.lu_source_text.proofs.Sizes.{len_counted}
use Rattle.lu_source_text.proofs.closing.code_len.Goals as goal

pub returns : goal.returns
returns c =
    c.min.ensures ∙ len_counted (tree_of c.args.body.now) c.size.result c.from.result c.comes_out.result c.size.ensures c.comes_out.ensures c.from.ensures
