use Rattle.std.proofs.Common.{◌≡◌, ◌∙◌, ◌+◌, ap, arith, drop, get_or, length, rules, sym, Some, []}
use Rattle.lu_text.specs.Lines.{texts, words_of}
use Rattle.lu_text.proofs.Reading.{text_more}
use Rattle.lu_run.specs.Beginnings.{begins_so, begins_run}
use Rattle.lu_run.proofs.BeginningLines.{found, passed}
use Rattle.lu_run.proofs.first_word.is_run_text.Goals as goal

pub returns-in-Some : goal.returns-in-Some
returns-in-Some c =
    let i = c.loop-line.line-index in
    let lines = c.deref-line-items.result.now in
    let line = get_or lines i (record { ref_ptr = (0, 0); now = [] }) in
    let is : begins_so (words_of line.now) ≡ Some c.eq.result = search rules in
    let step = text_more lines i (record { ref_ptr = (0, 0); now = [] }) (omega arith) in
    sym (found line.now (drop (i + 1) (texts lines)) c.eq.result is) ∙ sym (ap begins_run step) ∙ c.loop-line.invariant

pub loop-line-preserved : goal.loop-line-preserved
loop-line-preserved c =
    let i = c.loop-line.line-index in
    let lines = c.deref-line-items.result.now in
    let line = get_or lines i (record { ref_ptr = (0, 0); now = [] }) in
    let none : length c.in_ok-words.words.items ≡ 0 = sym (ap length c.deref.ensures.value) ∙ c.in_default.ensures.cases in
    let step = text_more lines i (record { ref_ptr = (0, 0); now = [] }) (omega arith) in
    sym (passed line.now (drop (i + 1) (texts lines)) c.in_ok-words.words.items c.in_ok-words.ensures none) ∙ sym (ap begins_run step) ∙ c.loop-line.invariant
