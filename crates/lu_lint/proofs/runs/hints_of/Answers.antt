use Rattle.std.proofs.Common.{rules, inl, inr}
use Rattle.std.proofs.lemmas.Result.{IfOk-weaker}
use Rattle.lu_lint.proofs.runs.hints_of.Goals as goal

pub returns-then-branch : goal.returns-then-branch
returns-then-branch c =
    IfOk-weaker c.with_unseen.result _ _
    (λ hints are. inr (inr (record {
      first = c.in_ok-setup.setup.items;
      setup = c.in_ok-setup.ensures;
      many = c.in_ok-has_many_steps.ensures (search rules);
      all = are;
    })))
    c.with_unseen.ensures

pub returns : goal.returns
returns c =
    IfOk-weaker c.all_hints.result _ _
    (λ hints are. inr (inl (record {
      first = c.in_ok-setup.setup.items;
      serial = c.in_ok-serial.serial.items;
      setup = c.in_ok-setup.ensures;
      serially = c.in_ok-serial.ensures;
      all = are;
    })))
    c.all_hints.ensures
