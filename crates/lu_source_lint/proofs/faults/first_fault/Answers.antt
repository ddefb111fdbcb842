use Rattle.std.proofs.Common.{◌≡◌, ap, rules, tests, ◌∙◌}
use Rattle.std.proofs.lemmas.Iterator.{YieldsList-from_map_by, YieldsList-from_slice}
use Rattle.std.proofs.lemmas.Iterator.Consumers.{map_from_collect}
use Rattle.std.proofs.lemmas.Result.{IfOk-at_ok, IfOk-weaker}
use Rattle.lu_text.specs.Lines.{texts}
use Rattle.lu_source_lint.specs.Faults.{bytes_of, first_fault}
use Rattle.lu_source_lint.proofs.faults.first_fault.Goals as goal

pub returns : goal.returns
returns c =
    let lines : texts c.in_ok-lines.lines.items ≡ bytes_of c.args.lines.now = IfOk-at_ok _ c.in_ok-lines.was (map_from_collect c.collect.result c.collect.ensures.ran (YieldsList-from_map_by _ (λ r. r.now) (λ line. line.items) (YieldsList-from_slice c.args.lines.now cc) c.map.ensures.closure (λ x r q k. search (rules, tests)))) in
    IfOk-weaker c.fault_of.result _ _ (λ fault is. is ∙ ap (λ l. first_fault (texts l)) c.deref.ensures.value ∙ ap first_fault lines) c.fault_of.ensures
