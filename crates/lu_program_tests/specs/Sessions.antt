-- What the program answers to a command line.
use Rattle.std.specs.Prelude.{◌≡◌}
use Rattle.lu_program_tests.specs.declared.session.Response.{Response}

-- the same status, and the same bytes
abbrev pub AreSame : Response → Response → Type 0
AreSame a b = (a.status ≡ b.status) × (a.output.items ≡ b.output.items)
