-- What threads can do next or wait for, thread after thread.
use Rattle.std.proofs.Common.{◌≡◌, ℕ, ◌+◌, List, ◌++◌, append_assoc, add-one}
use Rattle.lu_machine.specs.States.{State}
use Rattle.lu_trace.specs.declared.wording.Wording.{Wording}
use Rattle.lu_picture.specs.Shapes.{column_end, column_ends, next_line, next_lines}

-- one thread more
pub ends_on : (how : Wording) (edge : ℕ) (s : State) (t : ℕ) (old text new : List ℕ) → text ≡ old ++ column_ends how edge s t → new ≡ text ++ column_end how edge s t → new ≡ old ++ column_ends how edge s (t + 1)
ends_on how edge s t old text new has adds =
    rw (add-one t, adds, has) (append_assoc old (column_ends how edge s t) (column_end how edge s t))

-- one move more
pub lines_on : (how : Wording) (s : State) (t pick : ℕ) (old text new : List ℕ) → text ≡ old ++ next_lines how s t pick → new ≡ text ++ next_line how s (record { thread = t; pick = pick }) → new ≡ old ++ next_lines how s t (pick + 1)
lines_on how s t pick old text new has adds =
    rw (add-one pick, adds, has) (append_assoc old (next_lines how s t pick) (next_line how s (record { thread = t; pick = pick })))
