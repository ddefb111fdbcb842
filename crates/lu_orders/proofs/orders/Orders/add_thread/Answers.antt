use Rattle.std.proofs.Common.{arith, ◌≡◌, ◌-◌, ◌∙◌, ◌<◌, length, inl, inr}
use Rattle.std.proofs.lemmas.Bool.{cases_eq}
use Rattle.std.proofs.lemmas.List.{get_or-set_same, get_or-set_other, length-set}
use Rattle.lu_machine.specs.Sums.{capped}
use Rattle.lu_orders.specs.Orders.{with_one}
use Rattle.lu_orders.proofs.orders.Orders.add_thread.Goals as goal

pub loop-back-preserved : goal.loop-back-preserved
loop-back-preserved c =
    let moves = c.args.left - c.loop-back.back in
    let row = c.loop-back.row in
    let number = c.in_ok-row.field-0 in
    let within : moves < length row = omega (arith, c.loop-back.invariant.many) in
    record {
      many = length-set row moves number ∙ c.loop-back.invariant.many;
      done = λ others are i le past. elim (cases_eq i moves) [
        | inl same ↦
            (let now : number ≡ capped (with_one others c.args.cap moves) = c.in_ok-row.ensures.number others (λ j few. c.loop-back.invariant.rest others are j (omega arith)) in
            rw (same, get_or-set_same row moves number 0 within) now)
        | inr other ↦ rw (get_or-set_other row moves i number 0 other) (c.loop-back.invariant.done others are i le (omega arith))
      ];
      rest = λ others are i few. (let other : i ≡ moves → ⊥ = λ same. omega arith in rw (get_or-set_other row moves i number 0 other) (c.loop-back.invariant.rest others are i (omega arith)));
    }

pub returns-clause-numbers : goal.returns-clause-numbers
returns-clause-numbers c = λ some others are i le. c.loop-back.invariant.done others are i le (omega arith)
