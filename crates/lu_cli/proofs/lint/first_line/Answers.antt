use Rattle.std.proofs.Common.{rules, arith, ◌≡◌, ℕ, List, [], Some, None, get_or, sym, ◌∙◌, subst}
use Rattle.lu_text.specs.Lines.{words_of}
use Rattle.lu_lint.specs.Said.{line_below}
use Rattle.lu_cli.specs.Lint.{line_or}
use Rattle.lu_cli.proofs.FirstLines.{found_here, none_here}
use Rattle.lu_cli.proofs.lint.first_line.Goals as goal
use denote.Ref.{Bor}

pub returns-in-Some : goal.returns-in-Some
returns-in-Some c =
    let word = c.args.word.now in
    let number = c.loop-line.number in
    let d : Bor (List ℕ) = record { ref_ptr = (0, 0); now = [] } in
    let line = get_or c.args.lines.now c.loop-line.line-index d in
    let next : c.saturating_add-number.result ≡ line_below number 1 = search rules in
    let found : c.in_ok-found.field-0 ≡ line_or word c.saturating_add-number.result (words_of line.now) None = c.in_ok-found.ensures in
    let here : line_or word (line_below number 1) (words_of line.now) None ≡ Some c.in-Some.found = subst (λ (n : ℕ). line_or word n (words_of line.now) None ≡ Some c.in-Some.found) next (sym found ∙ c.in-Some.is) in
    found_here word number c.loop-line.line-index c.args.lines.now d c.in-Some.found _ (omega arith) here c.loop-line.invariant

pub loop-line-preserved : goal.loop-line-preserved
loop-line-preserved c =
    let word = c.args.word.now in
    let number = c.loop-line.number in
    let d : Bor (List ℕ) = record { ref_ptr = (0, 0); now = [] } in
    let line = get_or c.args.lines.now c.loop-line.line-index d in
    let next : c.saturating_add-number.result ≡ line_below number 1 = search rules in
    let found : c.in_ok-found.field-0 ≡ line_or word c.saturating_add-number.result (words_of line.now) None = c.in_ok-found.ensures in
    let none : line_or word (line_below number 1) (words_of line.now) None ≡ None = subst (λ (n : ℕ). line_or word n (words_of line.now) None ≡ None) next (sym found ∙ c.in-None.is) in
    rw next (none_here word number c.loop-line.line-index c.args.lines.now d _ (omega arith) none c.loop-line.invariant)
