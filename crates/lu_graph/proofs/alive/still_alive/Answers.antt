use Rattle.std.proofs.Common.{arith, ◌≡◌, ◌+◌, length, Some, get_or, false, refl, ap, sym, ◌∙◌, subst}
use Rattle.std.proofs.lemmas.List.{length_push}
use Rattle.std.proofs.lemmas.Option.{slice_get-get_or}
use Rattle.lu_graph.specs.Judging.{TellsStays}
use Rattle.lu_graph.proofs.Followed.{stay_more}
use Rattle.lu_graph.proofs.alive.still_alive.Goals as goal

pub loop-number-preserved : goal.loop-number-preserved
loop-number-preserved c =
    let member = c.index-members-number.result in
    let at = c.args.at.now in
    let was = get_or c.args.alive.now c.loop-number.number false in
    let tells : TellsStays member.items at was c.stays-stays.result =
    subst (λ q. TellsStays q at was c.stays-stays.result) c.deref.ensures.value
    (subst (λ b. TellsStays c.deref.result.now at b c.stays-stays.result) c.was_alive.ensures c.stays-stays.ensures) in
    let grown = c.push_reserved.ensures.items in
    let many : length c.push_reserved.new.self.items ≡ c.loop-number.number + 1 = ap length grown ∙ (length_push c.loop-number.now.items c.stays-stays.result ∙ ap (λ n. n + 1) c.loop-number.invariant.many) in
    record {
      many = many;
      stay = stay_more c.args.members.now at c.args.alive.now c.loop-number.now.items c.push_reserved.new.self.items c.loop-number.number member
          was c.stays-stays.result (slice_get-get_or c.args.members.now c.loop-number.number member (omega arith) ∙ ap Some (sym c.index-members-number.is)) refl tells grown c.loop-number.invariant.many c.loop-number.invariant.stay;
    }
