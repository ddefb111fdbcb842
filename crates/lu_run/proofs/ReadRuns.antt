-- Texts of runs that are read one after the other.
use Rattle.std.proofs.Common.{◌≡◌, ℕ, zero, suc, ◌+◌, ◌<◌, List, [], ◌∷◌, ◌++◌, length, take, get_or, Ok, Some, slice_get, refl, sym, subst, arith, add-one}
use denote.Ref.{Bor}
use Rattle.lu_component.specs.Component.{Component}
use Rattle.lu_text.specs.declared.fault.Fault.TheVariants.{Memory}
use Rattle.lu_text.specs.Lines.{texts}
use Rattle.lu_text.specs.Faults.{meaning_of}
use Rattle.lu_history.proofs.Events.{take_next}
use Rattle.lu_run.specs.declared.run.Run.{Run}
use Rattle.lu_run.specs.Bundled.{AreRead, IsFirstRefused}
use Rattle.lu_run.specs.RunText.{run_grammar, said_of}

read_push : (c : Component) (texts : List (List ℕ)) (runs : List Run) (text : List ℕ) (run : Run) → AreRead c texts runs → meaning_of (run_grammar c) text ≡ Ok (said_of run) → AreRead c (texts ++ text ∷ []) (runs ++ run ∷ [])
read_push c [] [] text run are is = (is, tt)
read_push c [] (r ∷ runs) text run are is = absurd are
read_push c (t ∷ texts) [] text run are is = absurd are
read_push c (t ∷ texts) (r ∷ runs) text run are is = (are.0, read_push c texts runs text run are.1 is)

text_at : (parts : List (Bor (List ℕ))) (i : ℕ) (d : Bor (List ℕ)) → i < length parts → slice_get (texts parts) i ≡ Some (get_or parts i d).now
text_at [] i d lt = absurd (omega arith)
text_at (p ∷ parts) zero d lt = refl
text_at (p ∷ parts) (suc i) d lt = text_at parts i d (omega arith)

some_text : (parts : List (Bor (List ℕ))) (i : ℕ) → i < length parts → (text : List ℕ) × (slice_get (texts parts) i ≡ Some text)
some_text [] i lt = absurd (omega arith)
some_text (p ∷ parts) zero lt = (p.now, refl)
some_text (p ∷ parts) (suc i) lt = some_text parts i (omega arith)

-- one part more is read
pub read_at : (c : Component) (parts : List (Bor (List ℕ))) (runs : List Run) (i : ℕ) (d : Bor (List ℕ)) (run : Run) → AreRead c (take i (texts parts)) runs → i < length parts → meaning_of (run_grammar c) (get_or parts i d).now ≡ Ok (said_of run) → AreRead c (take (i + 1) (texts parts)) (runs ++ run ∷ [])
read_at c parts runs i d run are lt is =
    let longer : take (i + 1) (texts parts) ≡ take i (texts parts) ++ (get_or parts i d).now ∷ [] = rw (add-one i) (take_next (texts parts) (get_or parts i d).now i (text_at parts i d lt)) in
    subst (λ ts. AreRead c ts (runs ++ run ∷ [])) (sym longer) (read_push c (take i (texts parts)) runs (get_or parts i d).now run are is)

-- memory ran out at a part
pub refused_at : (c : Component) (parts : List (Bor (List ℕ))) (runs : List Run) (i : ℕ) → AreRead c (take i (texts parts)) runs → i < length parts → IsFirstRefused c (texts parts) (record { number = i; fault = Memory })
refused_at c parts runs i are lt =
    let text = some_text parts i lt in
    record { before = runs; read = are; text = text.0; at = text.1; fault = tt }
