use Rattle.std.proofs.Common.{◌≡◌, [], ◌∷◌, ◌++◌, ◌∙◌, ap, sym, subst, refl, Option, Some, None}
use Rattle.std.proofs.lemmas.List.{append-nil}
use Rattle.lu_machine.specs.declared.event.Event.{Event}
use Rattle.lu_machine.specs.declared.event.Event.TheVariants.{Call, Return}
use Rattle.lu_machine.specs.Steps.{Step}
use Rattle.lu_history.specs.declared.serial.SerialOp.{SerialOp}
use Rattle.lu_history.specs.declared.serial.SerialOutcome.{SerialOutcome}
use Rattle.lu_serial.proofs.Made.{counted_call, made_none, made_return}
use Rattle.lu_refute.proofs.shortest.Walk.go_on.Goals as goal

pub returns-in-None : goal.returns-in-None
returns-in-None c = record {
  event = None;
  step = c.in-None.ensures.step;
  entries = sym (append-nil c.args.self.now.entries.items);
  calls = c.requires.calls ∙ sym (made_none c.args.self.now.machine c.args.next c.step.new.self None c.in-None.ensures.step refl);
}

pub returns-in-Some-Call : goal.returns-in-Some-Call
returns-in-Some-Call c =
    let is : c.step.result ≡ Some (Call c.in-Some-Call.t c.in-Some-Call.field-0-1) = c.in-Some-Call.is ∙ ap Some c.in-Some-Call.field-0-is in
    record {
      event = Some (Call c.in-Some-Call.t c.in-Some-Call.field-0-1);
      step = subst (λ (e : Option Event). Step c.args.self.now.machine c.args.next c.step.new.self e) is c.step.ensures.step;
      entries = sym (append-nil c.args.self.now.entries.items);
      calls = counted_call c.args.self.now.machine c.args.next c.step.new.self c.step.result c.in-Some-Call.t c.in-Some-Call.field-0-1 c.step.ensures.step is c.args.self.now.calls.items c.requires.calls c.from.result c.from.ensures c.index_mut.result.now _ c.index_mut.ensures.value;
    }

pub returns-in_ok-push-in-Some-Return : goal.returns-in_ok-push-in-Some-Return
returns-in_ok-push-in-Some-Return c =
    let is : c.step.result ≡ Some (Return c.in-Some-Return.t c.in-Some-Return.field-0-1 c.in-Some-Return.outcome) = c.in-Some-Return.is ∙ ap Some c.in-Some-Return.field-0-is in
    record {
      event = Some (Return c.in-Some-Return.t c.in-Some-Return.field-0-1 c.in-Some-Return.outcome);
      step = subst (λ (e : Option Event). Step c.args.self.now.machine c.args.next c.step.new.self e) is c.step.ensures.step;
      entries = c.in_ok-push-in-Some-Return.ensures.items ∙ ap (λ (o : SerialOutcome). let op : SerialOp = record { thread = c.in-Some-Return.t; outcome = o } in c.args.self.now.entries.items ++ op ∷ []) c.from-in-Some-Return.ensures;
      calls = c.requires.calls ∙ sym (made_return c.args.self.now.machine c.args.next c.step.new.self c.step.result c.in-Some-Return.t c.in-Some-Return.field-0-1 c.in-Some-Return.outcome c.step.ensures.step is);
    }
