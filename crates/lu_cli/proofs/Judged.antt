-- Answers to recorded histories.
use Rattle.std.proofs.Common.{◌≡◌, ℕ, ◌<◌, ◌≤◌, List, [], ◌∷◌, length, drop, get_or, Some, None, refl, arith, inr}
use denote.Ref.{Bor}
use Rattle.std.specs.Prelude.{IfSome}
use Rattle.lu_text.specs.Lines.{texts}
use Rattle.lu_text.specs.Words.{Word}
use Rattle.lu_text.specs.declared.fault.Fault.{Fault}
use Rattle.lu_text.specs.declared.fault.Fault.TheVariants.{At, Memory}
use Rattle.lu_test.specs.Matrix.{Matrix}
use Rattle.lu_recorded.specs.declared.bundled.PartFault.{PartFault}
use Rattle.lu_recorded.specs.declared.fault.RecordedFaultKind.{RecordedFaultKind}
use Rattle.lu_recorded.specs.declared.recorded.Recorded.{Recorded}
use Rattle.lu_recorded.specs.Bundled.{IsFirstRefused}
use Rattle.lu_cli.specs.Witness.{four_parts, three_parts}
use Rattle.lu_cli.specs.Reading.{ToRecorded}
use Rattle.lu_cli.specs.Outcomes.{Answer}
use Rattle.lu_cli.specs.Refusals.{history_answer}

-- ---- parts

pub are_three : (parts : List (Bor Word)) (d : Bor Word) → 3 ≤ length parts → Some ((get_or parts 0 d).now, (get_or parts 1 d).now, texts (drop 2 parts)) ≡ three_parts (texts parts)
are_three [] d h = absurd (omega arith)
are_three (a ∷ []) d h = absurd (omega arith)
are_three (a ∷ b ∷ []) d h = absurd (omega arith)
are_three (a ∷ b ∷ c ∷ parts) d h = refl

pub are_not_three : (parts : List (Bor Word)) → length parts < 3 → None ≡ three_parts (texts parts)
are_not_three [] h = refl
are_not_three (a ∷ []) h = refl
are_not_three (a ∷ b ∷ []) h = refl
are_not_three (a ∷ b ∷ c ∷ parts) h = absurd (omega arith)

pub are_four : (parts : List (Bor Word)) (d : Bor Word) → 4 ≤ length parts → Some ((get_or parts 0 d).now, (get_or parts 1 d).now, (get_or parts 2 d).now, texts (drop 3 parts)) ≡ four_parts (texts parts)
are_four [] d h = absurd (omega arith)
are_four (a ∷ []) d h = absurd (omega arith)
are_four (a ∷ b ∷ []) d h = absurd (omega arith)
are_four (a ∷ b ∷ c ∷ []) d h = absurd (omega arith)
are_four (a ∷ b ∷ c ∷ e ∷ parts) d h = refl

pub are_not_four : (parts : List (Bor Word)) → length parts < 4 → None ≡ four_parts (texts parts)
are_not_four [] h = refl
are_not_four (a ∷ []) h = refl
are_not_four (a ∷ b ∷ []) h = refl
are_not_four (a ∷ b ∷ c ∷ []) h = refl
are_not_four (a ∷ b ∷ c ∷ e ∷ parts) h = absurd (omega arith)

-- ---- refusals

recorded_refused_by : (matrix : Matrix) (texts : List (List ℕ)) (i : ℕ) (fault : Fault RecordedFaultKind) (IsAnswer : List Recorded → Answer → Type 0) → IsFirstRefused matrix texts (record { number = i; fault = fault }) → IfSome (history_answer i fault) (ToRecorded matrix texts IsAnswer)
recorded_refused_by matrix texts i (At kind n) IsAnswer is = inr (i, kind, n, is, refl)
recorded_refused_by matrix texts i Memory IsAnswer is = tt

-- the first text that is refused is what is said of them
pub recorded_refused : (matrix : Matrix) (texts : List (List ℕ)) (fault : PartFault) (IsAnswer : List Recorded → Answer → Type 0) → IsFirstRefused matrix texts fault → IfSome (history_answer fault.number fault.fault) (ToRecorded matrix texts IsAnswer)
recorded_refused matrix texts fault IsAnswer is = recorded_refused_by matrix texts fault.number fault.fault IsAnswer is
