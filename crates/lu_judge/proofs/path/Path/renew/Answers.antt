use Rattle.std.proofs.Common.{◌<◌, ◌++◌, ◌∷◌, [], add-one, length, take, get_or, ap, sym, ◌∙◌, subst, arith}
use Rattle.std.proofs.lemmas.Option.{slice_get-get_or}
use Rattle.lu_machine.specs.declared.event.Event.TheVariants.{Call}
use Rattle.lu_history.proofs.Events.{take_next}
use Rattle.lu_judge.specs.Paths.{history_of}
use Rattle.lu_judge.proofs.Lengths.{few_events}
use Rattle.lu_judge.proofs.path.Path.renew.Goals as goal

pub add-requires-clause-room : goal.add-requires-clause-room
add-requires-clause-room c =
    let written = c.as_slice-event-items.ensures ∙ c.write.ensures in
    let few : length c.as_slice-event-items.result.now < 129 = subst (λ h. length h < 129) (sym written) (few_events (history_of c.args.self.now) c.requires.well_formed) in
    omega (arith, few, c.loop-event.invariant.number, c.loop-event-test.true)

pub loop-event-preserved : goal.loop-event-preserved
loop-event-preserved c =
    let i = c.loop-event.event-index in
    let items = c.as_slice-event-items.result.now in
    let e = get_or items i (Call 0 0) in
    let at = slice_get-get_or items i (Call 0 0) (omega (arith, c.loop-event-test.true)) in
    record {
      path = c.add.ensures.path;
      history = c.add.ensures.history ∙ ap (λ h. h ++ e ∷ []) c.loop-event.invariant.history ∙ sym (take_next items e i at) ∙ ap (λ n. take n items) (sym (add-one i));
      number = omega (arith, c.add.ensures.length, c.loop-event.invariant.number);
      good = λ members. c.add.ensures.good members (c.loop-event.invariant.good members);
    }

pub returns-clause-room : goal.returns-clause-room
returns-clause-room c =
    let written = c.as_slice-event-items.ensures ∙ c.write.ensures in
    let few : length c.as_slice-event-items.result.now < 129 = subst (λ h. length h < 129) (sym written) (few_events (history_of c.args.self.now) c.requires.well_formed) in
    omega (arith, few, c.loop-event.invariant.number, c.loop-event.auto.event-index-end)
