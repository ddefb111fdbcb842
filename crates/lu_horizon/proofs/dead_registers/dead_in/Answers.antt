use Rattle.std.proofs.Common.{◌≡◌, true, false, replicate, length, sym, subst}
use Rattle.std.proofs.lemmas.List.{get_or-replicate}
use Rattle.std.proofs.lemmas.List.Elements.{same_from_all_zip}
use Rattle.lu_horizon.specs.Rounds.{AreLiveIn, AreWithin}
use Rattle.lu_horizon.proofs.RoundLaws.{all_dead, all_within}
use Rattle.lu_horizon.proofs.dead_registers.dead_in.Goals as goal

pub loop-init : goal.loop-init
loop-init c =
    let code = c.args.code.now in
    let all : c.in_ok-dead.dead.items ≡ replicate (length code) (replicate 8 true) = c.in_ok-dead.ensures.items_if_clones_equal (λ y copy. same_from_all_zip _ _ y copy.whole (λ _ _ same. same)) in
    record { live = subst (AreLiveIn code) (sym all) (all_dead code (replicate 8 true) (λ r few. get_or-replicate 8 r true false few)); within = subst (AreWithin code) (sym all) (all_within code) }
