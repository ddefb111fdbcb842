use Rattle.std.proofs.Common.{◌≤◌, length, arith, refl}
use Rattle.lu_lint.proofs.Signed.{said_by}
use Rattle.lu_lint.proofs.matrix.with_matrix.Goals as goal

pub returns-in_ok-all-in-Faulty : goal.returns-in_ok-all-in-Faulty
returns-in_ok-all-in-Faulty over c =
    let signatures = c.in_ok-signatures-in-Faulty.signatures.items in
    let few : length signatures ≤ 16 = omega (arith, c.len.ensures) in
    let said = said_by c.in-Faulty.faulty c.args.above c.args.text.now signatures _ _ c.in_ok-signatures-in-Faulty.ensures few (rw c.deref.ensures.value at c.in_ok-all-in-Faulty.ensures.said.0) in
    rw c.in-Faulty.is (record { said = (said, refl); fits = tt })
