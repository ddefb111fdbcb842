use Rattle.std.proofs.Common.{rules, ◌∙◌, ap}
use Rattle.std.specs.Map.{lookup}
use Rattle.lu_run.specs.Tables.{same_question}
use Rattle.lu_run.proofs.Beginning.{first_keys}
use Rattle.lu_run.proofs.starting.first_table.Goals as goal

pub returns : goal.returns
returns c =
    let empty = c.new-states.ensures.empty in
    let none = c.new.ensures.empty in
    record { state = record { positions = c.push.new.self }; states = c.in_ok-insert.ensures.keys ∙ first_keys c.new-states.result.keys _ _ empty; rests = search rules; none = λ q. ap (lookup (same_question q)) none }
