-- How often threads make their lines of calls.
use Rattle.std.specs.Prelude.{ℕ, Option, None, Some}
use Rattle.lu_client.specs.Rounds.{Way}
use Rattle.lu_client.specs.Rounds.Way.{InOrder}
use Rattle.lu_answers.specs.declared.rounds.Rounds.{Rounds}
use Rattle.lu_answers.specs.declared.rounds.Rounds.TheVariants.{Any, One}

-- the most rounds that a thread makes; none where there is no limit
abbrev pub limit_of : Rounds → Option ℕ
limit_of One = Some 1
limit_of Any = None

-- each thread makes the calls of its line in order, this often
abbrev pub way_of : Rounds → Way
way_of rounds = InOrder (limit_of rounds)
