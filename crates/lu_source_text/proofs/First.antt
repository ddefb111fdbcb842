-- The first fault of a source's text, and the component that is compiled from one.
use Rattle.std.proofs.Common.{◌≡◌, ℕ, List, Result, Ok, Err}
use Rattle.std.specs.Result.{result_map_both}
use Rattle.lu_text.specs.declared.fault.Fault.{Fault}
use Rattle.lu_text.specs.declared.fault.Fault.TheVariants.{At}
use Rattle.lu_text.specs.Faults.{IsFirstFault, meaning_of}
use Rattle.lu_text.proofs.Reading.{first}
use Rattle.lu_source.specs.Runs.{compiled}
use Rattle.lu_source.specs.Trees.{Program}
use Rattle.lu_source_text.specs.Grammar.{Kind, source_grammar}
use Rattle.lu_source_text.specs.Readers.{component_meant}

fault_kept : (r : Result Program (Fault Kind)) (kind : Kind) (n : ℕ) → result_map_both compiled (λ e. e) r ≡ Err (At kind n) → r ≡ Err (At kind n)
fault_kept (Ok p) kind n is = absurd cc
fault_kept (Err e) kind n is = cc

pub first_compiled : (text : List ℕ) (kind : Kind) (n : ℕ) → component_meant text ≡ Err (At kind n) → IsFirstFault source_grammar text kind n
first_compiled text kind n is = first source_grammar text kind n (fault_kept (meaning_of source_grammar text) kind n is)
