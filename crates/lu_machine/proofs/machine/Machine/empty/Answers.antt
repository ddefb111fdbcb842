use Rattle.std.proofs.Common.{rules, ◌≡◌, ap, ◌∙◌, length, replicate, List, Option, None, ℕ}
use Rattle.std.proofs.lemmas.List.{length-replicate}
use Rattle.std.proofs.lemmas.List.Elements.{All-replicate}
use Rattle.lu_component.specs.declared.component.Array.{Array}
use Rattle.lu_machine.specs.declared.thread.Activity.TheVariants.{Idle}
use Rattle.lu_machine.specs.declared.thread.Thread.{Thread}
use Rattle.lu_machine.specs.States.{first_cell}
use Rattle.lu_machine.specs.Layout.{IsStanding, StandsIn}
use Rattle.lu_machine.proofs.Layouts.{length-initial_cells}
use Rattle.lu_machine.proofs.machine.Machine.empty.Goals as goal

pub invariant_of-result : goal.invariant_of-result
invariant_of-result c =
    let idle : Thread = record { done = 0; activity = Idle } in
    let free : Option ℕ = None in
    let locks : c.in_ok-vec.field-0.items ≡ replicate (length c.args.component.now.locks) free = search rules in
    let threads : c.in_ok-vec-2.field-0.items ≡ replicate (length c.args.matrix.now.threads) idle = search rules in
    record {
      component = c.arrays.ensures.sound;
      matrix_is = c.threads.ensures.sound;
      matrix_of = c.requires;
      spans_are = search rules;
      rows_are = search rules;
      agendas_are = search rules;
      cells_are =
          ap length c.in_ok-spans.ensures.cells
          ∙ length-initial_cells c.arrays.result.now
          ∙ ap (λ (arrays : List Array). first_cell arrays (length arrays)) c.arrays.ensures.arrays;
      cells_fit = c.in_ok-spans.ensures.fits;
      locks_are = rw locks (length-replicate _ free);
      threads_are = rw threads (length-replicate _ idle);
      stand = rw threads (All-replicate IsStanding _ idle tt);
      in_code = rw threads (All-replicate (StandsIn c.args.component.now) _ idle tt);
    }
