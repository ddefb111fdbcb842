-- What holds of a label and of an operation where nothing is wrong with one more instruction.
use Rattle.std.proofs.Common.{◌≡◌, ◌<◌, Bool, true, false, cond, length, Option, Some, None, refl, arith}
use Rattle.std.specs.Prelude.{◌||◌, not, nat_le, is_some}
use Rattle.std.proofs.lemmas.Bool.{or_parts, leb-false}
use Rattle.lu_text.specs.Names.{has_name_form, is_long, IsName}
use Rattle.lu_text.specs.Words.{Word}
use Rattle.lu_text.proofs.NameText.{name_from}
use Rattle.lu_lang.specs.declared.fault.LangFaultKind.{LangFaultKind}
use Rattle.lu_lang.specs.declared.fault.LangFaultKind.TheVariants.{Form, Limit, Name}
use Rattle.lu_lang.specs.Draft.{OpenOp}
use Rattle.lu_lang.specs.Grammar.{place_fault, find_label}

pub no_fault : (b : Bool) (kind : LangFaultKind) (rest : Option LangFaultKind) → cond b (Some kind) rest ≡ None → (b ≡ false) × (rest ≡ None)
no_fault true kind rest e = absurd cc
no_fault false kind rest e = (refl, e)

record Placeable (b : OpenOp) (label : Word) : Type 0 where
  name : IsName label
  room : length b.statements < 64

placeable : (b : OpenOp) (label : Word) → place_fault b (Some label) ≡ None → Placeable b label
placeable b label e =
    let f = no_fault (not (has_name_form label)) Form (cond (is_long label || nat_le 64 (length b.statements)) (Some Limit) (cond (is_some (find_label b.labels label)) (Some Name) None)) e in
    let l = no_fault (is_long label || nat_le 64 (length b.statements)) Limit (cond (is_some (find_label b.labels label)) (Some Name) None) f.1 in
    let p = or_parts (is_long label) (nat_le 64 (length b.statements)) l.0 in
    record { name = name_from label f.0 p.0; room = omega (arith, leb-false 64 (length b.statements) p.1) }

pub label_is_name : (b : OpenOp) (label : Word) → place_fault b (Some label) ≡ None → IsName label
label_is_name b label e = (placeable b label e).name

pub has_room : (b : OpenOp) (label : Option Word) → place_fault b label ≡ None → length b.statements < 64
has_room b None e = omega (arith, leb-false 64 (length b.statements) (no_fault (nat_le 64 (length b.statements)) Limit None e).0)
has_room b (Some label) e = (placeable b label e).room
