use Rattle.lu_always.proofs.Stepped.{blocked_call_fails, step_nodes_serve_all, step_nodes_tell_all}
use Rattle.lu_always.proofs.laws.step_laws.Goals as goal

pub returns : goal.returns
returns _ = record {
  all = step_nodes_tell_all;
  serve = step_nodes_serve_all;
  call = blocked_call_fails;
}
