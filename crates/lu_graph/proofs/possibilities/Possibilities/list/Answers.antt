use Rattle.lu_graph.proofs.Same.{list_there, same_bits}
use Rattle.lu_graph.proofs.possibilities.Possibilities.list.Goals as goal
use Rattle.std.specs.Bool.{beq}

pub returns : goal.returns
returns c = λ alive is. list_there beq same_bits c.args.self.now.lists.keys c.args.number alive c.list_with.result.now is c.list_with.ensures
