use Rattle.lu_certify.proofs.certifying.conclude.Goals as goal

pub own_spec-requires : goal.own_spec-requires
own_spec-requires c = c.requires c.in-Clear.is
