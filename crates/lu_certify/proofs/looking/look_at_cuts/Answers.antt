use Rattle.std.proofs.Common.{◌≡◌, ◌++◌, ◌∷◌, [], All, List, sym, ◌∙◌, ap, subst}
use Rattle.std.proofs.lemmas.List.Elements.{All-push}
use Rattle.lu_component.specs.Component.{Component}
use Rattle.lu_test.specs.Matrix.{Matrix}
use Rattle.lu_certify.specs.declared.limits.Limits.{Limits}
use Rattle.lu_certify.specs.declared.looked.FoundAt.{FoundAt}
use Rattle.lu_certify.specs.Looking.{IsFoundAt}
use Rattle.lu_certify.proofs.looking.look_at_cuts.Goals as goal
use Rattle.lu_certify.proofs.looking.look_at_cuts.Goals.{in-Ok+else-is_err, in-Err-Stopped}

abbrev AllHere : Component → Matrix → Limits → List FoundAt → Type 0
AllHere c m limits found = All (λ one. IsFoundAt c m limits one.number one.found) found

pub returns-then-is_err : goal.returns-then-is_err
returns-then-is_err g c = record { each = subst (AllHere c.args.test.component.now c.args.test.matrix.now c.args.test.limits) (sym c.reserve.ensures.items) c.loop.invariant }

pub loop-preserved : goal.loop-preserved
loop-preserved g c =
    let component = c.args.test.component.now in
    let matrix = c.args.test.matrix.now in
    let limits = c.args.test.limits in
    elim c.match-result.branch as (λ _. AllHere component matrix limits c.match-result.list.items) [
      | in-Ok+else-is_err w ↦
          (let one : FoundAt = record { number = c.in-Some.task.number; found = w.in-Ok.found } in
          let longer : c.match-result.list.items ≡ c.loop.list.items ++ one ∷ [] =
          ap (λ x. x.items) w.list-is ∙ (w.push_reserved.ensures.items ∙ ap (λ (x : List FoundAt). x ++ one ∷ []) w.reserve.ensures.items) in
          subst (AllHere component matrix limits) (sym longer)
          (All-push (λ (x : FoundAt). IsFoundAt component matrix limits x.number x.found) c.loop.list.items one c.loop.invariant w.in-Ok.ensures))
      | in-Err-Stopped w ↦ subst (λ x. AllHere component matrix limits x.items) (sym w.list-is) c.loop.invariant
    ]
