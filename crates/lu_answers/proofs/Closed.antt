-- Monitors that are closed for the same pending calls.
use Rattle.std.proofs.Common.{◌≡◌, ℕ, List, Option}
use Rattle.lu_linearization.specs.declared.configuration.Configuration.{Configuration as Shown}
use Rattle.lu_linearization.specs.Monitors.{AreClosed}
use Rattle.lu_linearization.proofs.Configured.{puts_waits}
use Rattle.lu_answers.specs.Reading.{thread_in}
use Rattle.lu_answers.specs.Tables.{Goes, LeadsTo, Table}

pub closed_same : (table : Table) (waits others : ℕ → Option ℕ) → ((t : ℕ) → others t ≡ waits t) → ((t : ℕ) → waits t ≡ others t) → (t : ℕ) (old new : List Shown) → AreClosed (Goes table) waits t old new → AreClosed (Goes table) others t old new
closed_same table waits others back same t old new closed c = (
  (λ held. let x = (closed c).0 held in (x.0, x.1, x.2, x.3, puts_waits (LeadsTo table) (Goes table) thread_in waits others same x.1 x.0 c x.4)),
  (λ x. (closed c).1 (x.0, x.1, x.2, x.3, puts_waits (LeadsTo table) (Goes table) thread_in others waits back x.1 x.0 c x.4)),
)
