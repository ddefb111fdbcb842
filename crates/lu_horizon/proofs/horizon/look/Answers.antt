use Rattle.std.proofs.Common.{arith, ◌≡◌, ◌-◌, ◌<◌, ◌∙◌, length, get_or, slice_get, Some}
use Rattle.std.proofs.lemmas.List.{length-set}
use Rattle.std.proofs.lemmas.Option.{slice_get-get_or}
use Rattle.lu_component.specs.declared.instr.Instr.{Instr}
use Rattle.lu_component.specs.declared.instr.Instr.TheVariants.{Set}
use Rattle.lu_component.specs.declared.instr.Operand.TheVariants.{Reg}
use Rattle.lu_horizon.specs.Code.{ahead_at}
use Rattle.lu_horizon.specs.Tables.{outlook_of}
use Rattle.lu_horizon.proofs.CodeLaws.{ahead_here}
use Rattle.lu_horizon.proofs.SureLaws.{outlook_less, within_more}
use Rattle.lu_horizon.proofs.TableLaws.{places_set}
use Rattle.lu_horizon.proofs.horizon.look.Goals as goal

pub loop-i-preserved : goal.loop-i-preserved
loop-i-preserved c =
    let place = length c.args.code.now - 1 - c.loop-i.i in
    let known = c.loop-i.known.items in
    let within : place < length c.args.code.now = omega arith in
    let instr : Instr = get_or c.args.code.now place (Set 0 (Reg 0)) in
    let stands : slice_get c.args.code.now place ≡ Some instr = slice_get-get_or c.args.code.now place (Set 0 (Reg 0)) within in
    record {
      many = length-set known place c.up_to-outlook.result ∙ c.loop-i.invariant.many;
      sure = λ matrix t k call old.
          (let before = c.loop-i.invariant.sure matrix t k call old in
          let found = ahead_at c.args.component.now c.args.code.now (outlook_of c.deref.result.now) c.args.rest place instr in
          places_set c.args.component.now matrix t k known place c.up_to-outlook.result (omega (arith, c.loop-i.invariant.many))
          (λ s a. outlook_less s t c.up_to-outlook.result found (within_more c.up_to-outlook.result c.certain.result found c.up_to-outlook.ensures c.certain.ensures)
          (ahead_here c.args.component.now matrix t k c.args.rest c.args.code.now (outlook_of c.deref.result.now) call (λ q x b. rw c.deref.ensures.value (before q x b)) place instr stands s a))
          before);
    }
