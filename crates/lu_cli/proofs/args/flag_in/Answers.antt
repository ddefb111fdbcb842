use Rattle.std.proofs.Common.{ap, ◌∙◌}
use Rattle.std.specs.Str.Parse.{ParsesBool}
use Rattle.clap.specs.Words.{found_of}
use Rattle.clap.proofs.WalkLemmas.{one_text-rows}
use Rattle.lu_cli.specs.Args.{flag_said}
use Rattle.lu_cli.proofs.Requests.{flag_got}
use Rattle.lu_cli.proofs.args.flag_in.Goals as goal

pub returns : goal.returns
returns c =
    c.unwrap_or.ensures
    ∙ (flag_got (λ bs r. ParsesBool bs r) _ c.get_one.result (λ text r h. h) c.get_one.ensures.none c.get_one.ensures.value
    ∙ ap flag_said (one_text-rows (found_of c.args.given.now) c.args.name.now))
