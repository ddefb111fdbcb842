-- Local instructions of what is certified.
use Rattle.std.specs.Prelude.{ℕ, max, min}
use Rattle.lu_component.specs.Component.{Component}
use Rattle.lu_cli.specs.declared.request.CertifyOptions.{CertifyOptions}

-- how many local instructions run with a move: as many as the component says, or as are asked for
abbrev pub certified_local : CertifyOptions → Component → ℕ
certified_local asked c = max (min asked.local 16) c.local
