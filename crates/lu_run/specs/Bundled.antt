-- Runs in the parts of a bundle.
use Rattle.std.specs.Prelude.{◌≡◌, ℕ, List, [], ◌∷◌, Ok, Some, slice_get, take}
use Rattle.lu_component.specs.Component.{Component}
use Rattle.lu_text.specs.Faults.{IsUnlessMemory, meaning_of}
use Rattle.lu_run.specs.declared.bundled.RunPartFault.{RunPartFault}
use Rattle.lu_run.specs.declared.run.Run.{Run}
use Rattle.lu_run.specs.Runs.{IsRun}
use Rattle.lu_run.specs.RunText.{run_grammar, said_of}
use Rattle.lu_run.specs.Tables.{AreCallsOf}

-- the component has the run's calls, and its events are those of a run
abbrev pub IsRunOf : Component → Run → Type 0
IsRunOf c run = AreCallsOf c run.calls.items × IsRun run.calls.items run.events.items

-- each text is that of the run of its number
abbrev pub AreRead : Component → List (List ℕ) → List Run → Type 0
AreRead c [] [] = Unit {0}
AreRead c [] (run ∷ runs) = ⊥
AreRead c (text ∷ texts) [] = ⊥
AreRead c (text ∷ texts) (run ∷ runs) =
    (meaning_of (run_grammar c) text ≡ Ok (said_of run)) × AreRead c texts runs

-- the texts before it are read, and this is the fault of its text, unless memory ran out
pub record IsFirstRefused (c : Component) (texts : List (List ℕ)) (refused : RunPartFault)
    : Type 0 where
  pub before : List Run
  pub read : AreRead c (take refused.number texts) before
  pub text : List ℕ
  pub at : slice_get texts refused.number ≡ Some text
  pub fault : IsUnlessMemory refused.fault (meaning_of (run_grammar c) text)
