use Rattle.std.proofs.Common.{length, sym, ◌∙◌, ap}
use Rattle.lu_conform.specs.Packing.{IsThreadReadBack}
use Rattle.lu_conform.proofs.Unpacking.{on_ok, thread_back}
use Rattle.lu_conform.proofs.packing.add_thread.Goals as goal

pub returns-clause-back : goal.returns-clause-back
returns-clause-back c =
    on_ok c.extend_from_slice.result (IsThreadReadBack c.args.thread)
    (thread_back c.args.thread c.byte_number.ensures.small (ap length (sym c.registers_of.ensures.registers) ∙ c.registers_of.ensures.size) c.activity_number.ensures.back)
