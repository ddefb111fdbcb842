-- Texts with their exit statuses.
use Rattle.std.specs.Prelude.{ℕ, List, [], ◌∷◌, ◌++◌, codes}
use Rattle.std.specs.Fmt.{decimal}

-- a text and a status
pub record Answer : Type 0 where
  pub text : List ℕ
  pub status : ℕ

-- ---- refusals

abbrev pub refused : List ℕ → Answer
refused why = record { text = codes "refused " ++ why ++ 10 ∷ []; status = 2 }

abbrev pub refused_on_line : List ℕ → ℕ → Answer
refused_on_line code n = refused (code ++ codes " line " ++ decimal n)

-- call k of the setup does not end
abbrev pub unsettled : ℕ → Answer
unsettled k = refused (codes "U1 call " ++ decimal k)

abbrev pub no_memory : Answer
no_memory = record { text = codes "refused memory\n"; status = 4 }

abbrev pub no_command : Answer
no_command = record { text = codes "refused command line\n"; status = 2 }

abbrev pub no_device : Answer
no_device = record { text = codes "refused device\n"; status = 4 }

-- there are this many serial histories, too many to list
abbrev pub too_many : ℕ → Answer
too_many n = refused (codes "S4 histories " ++ decimal n)

-- the start of a worker's thread was refused
abbrev pub no_worker : Answer
no_worker = record { text = codes "refused K2\n"; status = 4 }

abbrev pub infeasible : ℕ → Answer
infeasible i = record { text = codes "infeasible " ++ decimal i ++ 10 ∷ []; status = 1 }
