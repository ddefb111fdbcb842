use Rattle.std.proofs.Common.{◌≡◌, ◌∙◌, ap, arith, rules, subst, sym}
use Rattle.std.proofs.lemmas.Result.{IfOk-weaker}
use Rattle.lu_text.specs.Faults.{meaning_of}
use Rattle.lu_text.specs.Lines.{lines_of}
use Rattle.lu_source_text.specs.Grammar.{source_grammar}
use Rattle.lu_source_lint.specs.Faults.{AgreeOn, bytes_of, faults_of_lines}
use Rattle.lu_source_lint.proofs.Reported.{agrees}
use Rattle.lu_source_lint.proofs.faults.faults_of.Goals as goal

pub returns-clause-first : goal.returns-clause-first
returns-clause-first c =
    let lines : bytes_of c.in_ok-lines.lines.items ≡ lines_of c.args.text.now = search rules in
    IfOk-weaker c.faults_of_lines.result _ _ (λ faults is. subst (AgreeOn (meaning_of source_grammar c.args.text.now)) (sym (is ∙ ap (faults_of_lines 20) lines)) (agrees 20 (lines_of c.args.text.now) (omega arith))) c.faults_of_lines.ensures
