use Rattle.std.proofs.Common.{[], sym, subst}
use Rattle.lu_witness.proofs.Nexts.{zeros}
use Rattle.lu_witness.proofs.Finding.{GoesOn}
use Rattle.lu_witness.proofs.search.is_witnessed.Goals as goal

pub returns : goal.returns
returns g c =
    let tells = c.finds.ensures [] (zeros 8) (λ i op at. cc) in (
      λ e. subst (λ hs. GoesOn hs c.args.history.now []) c.root.ensures.all (tells.0 e),
      λ w. tells.1 (subst (λ hs. GoesOn hs c.args.history.now []) (sym c.root.ensures.all) w),
    )
