use Rattle.std.proofs.Common.{◌∙◌}
use Rattle.lu_cli.proofs.Requests.{request_is, faulty, request_found, request_refused}
use Rattle.lu_cli.proofs.args.read_request.Goals as goal
use Rattle.lu_cli.proofs.args.read_request.Goals.{in-OutOfMemory, in_default-kind}

pub returns-in-Err-clause-refused : goal.returns-in-Err-clause-refused
returns-in-Err-clause-refused g c = λ h. elim c.match-kind.branch [
  | in-OutOfMemory w ↦ (let x = w.result-is in absurd cc)
  | in_default-kind w ↦ faulty _ _ _ c.in-Ok.ensures.shape c.in-Err.ensures.kinds (λ e. w.in_default-kind.not-OutOfMemory (c.kind.ensures ∙ e))
]

pub returns-clause-found : goal.returns-clause-found
returns-clause-found g c =
    let parse = c.in-Ok-try_get_matches_from.ensures in
    rw c.ok_or.ensures.value (request_found c.request_in.result _ (request_is _ _ _ _ c.in-Ok.ensures.shape parse.kinds (λ s. (parse.matches s).1) c.request_in.ensures))

pub returns-clause-refused : goal.returns-clause-refused
returns-clause-refused g c =
    let parse = c.in-Ok-try_get_matches_from.ensures in
    rw c.ok_or.ensures.value (request_refused c.request_in.result _ (request_is _ _ _ _ c.in-Ok.ensures.shape parse.kinds (λ s. (parse.matches s).1) c.request_in.ensures))
