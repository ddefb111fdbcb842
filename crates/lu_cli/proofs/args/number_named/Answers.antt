use Rattle.std.proofs.Common.{ap, ◌∙◌}
use Rattle.std.specs.Str.Parse.{ParsesUnsigned, ExplainsUnsignedError, HasUnsignedDigitsIfOk}
use Rattle.clap.specs.Words.{found_of}
use Rattle.clap.proofs.WalkLemmas.{one_text-rows}
use Rattle.lu_cli.specs.Args.{number_said}
use Rattle.lu_cli.proofs.Requests.{number_got}
use Rattle.lu_cli.proofs.args.number_named.Goals as goal

pub returns : goal.returns
returns c =
    number_got 16 (λ bs r. ParsesUnsigned 16 10 bs r × ExplainsUnsignedError 10 bs r × HasUnsignedDigitsIfOk bs r) _ c.get_one.result (λ text r h. h.0) c.get_one.ensures.none c.get_one.ensures.value
    ∙ ap (number_said 16) (one_text-rows (found_of c.args.given.now) c.args.name.now)
