use Rattle.std.proofs.Common.{rules}
use Rattle.lu_component.specs.declared.instr.Instr.TheVariants.{Cas}
use Rattle.lu_lang.specs.declared.draft.Statement.TheVariants.{Plain}
use Rattle.lu_lang.proofs.Declared.{with_array}
use Rattle.lu_lang.proofs.instructions.cas_line.Goals as goal

pub returns-in_err-array : goal.returns-in_err-array
returns-in_err-array c =
    let h = rw (← c.in_err-array.ensures) at (with_array (λ n. Plain (Cas c.in-Some-register_in.to n c.in-Some-Some-Some.index c.in-Some-Some-Some.expected c.in-Some-Some-Some.desired)) c.args.draft.now c.in-Some.array.now) in
    search (rules, h)

pub returns : goal.returns
returns c =
    let h = rw (← c.in_ok-array.ensures) at (with_array (λ n. Plain (Cas c.in-Some-register_in.to n c.in-Some-Some-Some.index c.in-Some-Some-Some.expected c.in-Some-Some-Some.desired)) c.args.draft.now c.in-Some.array.now) in
    search (rules, h)
