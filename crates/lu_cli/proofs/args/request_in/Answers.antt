use Rattle.std.proofs.Common.{◌∙◌}
use Rattle.lu_cli.proofs.Requests.{request_entered}
use Rattle.lu_cli.proofs.args.request_in.Goals as goal

pub returns : goal.returns
returns c =
    let name = c.in_ok-name.ensures in
    c.request_by.ensures ∙ request_entered _ _ _ _ _ name.name name.rows
