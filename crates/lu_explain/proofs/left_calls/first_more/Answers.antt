use Rattle.std.proofs.Common.{◌≡◌, ◌≤◌, get_or, length, inl, inr, arith, rules}
use Rattle.std.proofs.lemmas.Bool.{cases_lt}
use Rattle.std.proofs.lemmas.List.{get_or_past}
use Rattle.lu_explain.proofs.left_calls.first_more.Goals as goal

pub returns-clause-first : goal.returns-clause-first
returns-clause-first c t =
    let before = c.args.before.now in
    let taken = c.args.taken.now in
    let l8 : length before ≡ 8 = search rules in
    elim (cases_lt t 8) as (λ _. get_or before t 0 ≤ get_or taken t 0) [
      | inl lt ↦ c.loop-thread.invariant t (omega arith)
      | inr past ↦ omega (arith, get_or_past before t 0 (omega arith))
    ]
