use Rattle.std.proofs.Common.{rules, ◌≡◌, ◌++◌, ◌∙◌, List, [], ℕ, ap, subst}
use Rattle.std.specs.Prelude.{string_bytes}
use Rattle.std.specs.List.{flat_map}
use Rattle.lu_history.specs.declared.serial.SerialOp.{SerialOp}
use Rattle.lu_spec.specs.SpecText.{first_line, history_line}
use Rattle.lu_spec.specs.Listed.{AreEnds}
use Rattle.lu_spec.proofs.Ends.{ends_listed}
use Rattle.lu_spec.proofs.writer.write_spec.Goals as goal

pub returns : goal.returns
returns c =
    let written = c.in_ok-write_below.ensures.text in
    let first : string_bytes c.in_ok-text.text ≡ first_line = search rules in
    let at_start = subst (λ (p : List SerialOp). AreEnds p c.root.result.now written.0) c.new.ensures.items written.1 in
    let below = subst (λ (x : List (List SerialOp)). AreEnds [] x written.0) (c.root.ensures.all ∙ c.tree.ensures.set) at_start in
    (written.0, ends_listed c.args.spec.now written.0 below, written.2 ∙ ap (λ (x : List ℕ). x ++ flat_map history_line written.0) first)
