-- A draft of lines that may have faults.
use Rattle.std.specs.Prelude.{ℕ, List}
use Rattle.lu_lang.specs.declared.recovery.Family.{Family}
use Rattle.lu_lang.specs.Draft.{ComponentDraft}

-- a name that a faulty declaration was to declare
pub record MeantName : Type 0 where
  pub family : Family
  pub word : List ℕ

-- the draft that the lines leave, and the names that were only meant: it does not have them
pub record FaultyDraft : Type 0 where
  pub draft : ComponentDraft
  pub meant : List MeantName
