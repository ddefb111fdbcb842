use Rattle.std.proofs.Common.{inl, refl}
use Rattle.lu_cli.proofs.pictures.draw_why.Goals as goal

pub returns-in-Ok : goal.returns-in-Ok
returns-in-Ok c = inl (_, c.in-Ok.ensures.picture, refl)
