use Rattle.std.proofs.Common.{rules, ◌≡◌, sym, subst}
use Rattle.lu_spec.specs.Beginnings.{IsClosureOf}
use Rattle.lu_spec.specs.Specs.{AreOf}
use Rattle.lu_spec.specs.SpecText.{first_line}
use Rattle.lu_spec.proofs.Closures.{closure_of}
use Rattle.lu_spec.proofs.LinesRead.{is_spelled}
use Rattle.lu_spec.proofs.Nexts.{draft_spec, gathering}
use Rattle.lu_spec.proofs.reader.read_spec.Goals as goal

pub of_closed-requires : goal.of_closed-requires
of_closed-requires c =
    let read = c.in_ok-draft.ensures.read in
    let gathered = gathering c.args.matrix.now read.0 c.in_ok-draft.draft.set c.in_ok-draft.draft.last.items read.1 in
    draft_spec c.args.matrix.now read.0 c.in_ok-draft.draft.set c.in_ok-draft.draft.last.items gathered

pub returns-clause-read : goal.returns-clause-read
returns-clause-read c =
    let read = c.in_ok-draft.ensures.read in
    let first : c.cut_line.result.0.now ≡ first_line = c.is_word.ensures.0 (search rules) in (
      read.0,
      read.1.are,
      is_spelled c.args.text.now c.cut_line.result.0.now c.cut_line.result.1.now read.0 c.cut_line.ensures.whole first read.2,
      subst (IsClosureOf read.0) (sym c.of_closed.ensures) read.1.closure,
    )

pub returns-clause-of : goal.returns-clause-of
returns-clause-of c =
    let read = c.in_ok-draft.ensures.read in
    subst (AreOf c.args.matrix.now) (sym c.of_closed.ensures) (closure_of read.0 c.in_ok-draft.draft.set read.1.closure c.args.matrix.now (λ q has. (read.1.are.each q has).1))
