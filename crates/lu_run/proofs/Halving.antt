-- The search for the first event after which a run has no linearization.
use Rattle.std.proofs.Common.{◌≡◌, ℕ, ◌<◌, List, ◌++◌, take, drop, Option, Some, None, sym, ◌∙◌, ap, subst, append_assoc}
use Rattle.std.proofs.lemmas.List.{take-append-drop}
use Rattle.lu_component.specs.Component.{Component}
use Rattle.lu_test.specs.declared.matrix.Call.{Call as ACall}
use Rattle.lu_run.specs.declared.run.RunEvent.{RunEvent}
use Rattle.lu_run.specs.declared.table.Table.{Table}
use Rattle.lu_run.specs.Following.{HasState}
use Rattle.lu_run.specs.Judging.{HasLinearization, OfEachRun, TellsLost, TellsOfEach}
use Rattle.lu_run.specs.Tables.{Grows}
use Rattle.lu_run.proofs.Beginning.{starts_grown}

-- If the first `first` events have a linearization and all have none, so it is of these numbers of events.
abbrev pub AreBounds : Component → List ACall → Table → List RunEvent → ℕ → ℕ → ℕ → Type 0
AreBounds c calls table part first kept lost = OfEachRun c calls table part (λ s all. TellsLost s part (Some first) → (kept < lost) × HasLinearization s (take kept part) × (HasLinearization s (take lost part) → ⊥))

module _ (c : Component) (calls : List ACall) (table now : Table) (grows : Grows table now) (there : HasState table 0) (part : List RunEvent) (first kept lost middle : ℕ) (told : Option ℕ) (bounds : AreBounds c calls table part first kept lost) (tells : TellsOfEach c calls now (take middle part) told) where
  cut_at : (all rest : List RunEvent) → all ≡ part ++ rest → all ≡ take middle part ++ (drop middle part ++ rest)
  cut_at all rest cut = cut ∙ (ap (λ x. x ++ rest) (sym (take-append-drop middle part)) ∙ append_assoc (take middle part) (drop middle part) rest)

  pub bounds_above : told ≡ None → middle < lost → AreBounds c calls table part first middle lost
  bounds_above is less setup all rest s start starts run cut given =
      let was = bounds setup all rest s start starts run cut given in
      let line = subst (TellsLost s (take middle part)) is (tells setup all (drop middle part ++ rest) s start (starts_grown table now s grows there starts) run (cut_at all rest cut)) in
      (less, line, was.2)

  pub bounds_below : (n : ℕ) → told ≡ Some n → kept < middle → AreBounds c calls table part first kept middle
  bounds_below n is less setup all rest s start starts run cut given =
      let was = bounds setup all rest s start starts run cut given in
      let line = subst (TellsLost s (take middle part)) is (tells setup all (drop middle part ++ rest) s start (starts_grown table now s grows there starts) run (cut_at all rest cut)) in
      (less, was.1, line.2)
