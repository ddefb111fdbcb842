-- What is written of a component is read as it was.
use Rattle.std.proofs.Common.{◌≡◌, ℕ, ◌+◌, ◌<◌, List, [], ◌∷◌, ◌++◌, length, Some, None, Ok, refl, sym, ap, ◌∙◌, append_assoc, arith}
use Rattle.std.specs.Prelude.{codes, map}
use Rattle.std.specs.List.{flat_map, AllByRecursion}
use Rattle.std.specs.Fmt.{decimal}
use Rattle.std.proofs.lemmas.List.{append-nil, length-append}
use Rattle.std.proofs.lemmas.List.Elements.{recursion_from_All}
use Rattle.lu_text.specs.Names.{IsName}
use Rattle.lu_text.specs.Faults.{meaning_of}
use Rattle.lu_text.proofs.Written.{Reads, reads_nothing, reads_on, reads_value}
use Rattle.lu_component.specs.declared.component.Op.{Op}
use Rattle.lu_component.specs.Component.{Component, IsComponent, IsArray, IsOp, AreDistinct}
use Rattle.lu_lang.specs.Draft.{ComponentDraft, nothing}
use Rattle.lu_lang.specs.Grammar.{component_grammar}
use Rattle.lu_lang.specs.ComponentText.{line_of_words, local_text, array_text, lock_text, code_text, op_text, component_text}
use Rattle.lu_component.proofs.Named.{not_yet}
use Rattle.lu_lang.proofs.WrittenLines.{so_far, said_local, component_reads, local_reads, local_said, arrays_read, locks_read, op_reads}
use Rattle.lu_lang.proofs.WrittenInstrs.{same_locks}
use Rattle.lu_lang.proofs.WrittenCode.{operation_read}

-- the draft outside an operation
abbrev with_ops : Component → List Op → ComponentDraft
with_ops c operations = so_far c.name (said_local c.local) c.arrays c.locks operations None

op_read : (c : Component) → IsComponent c → (done rest : List Op) (op : Op) → c.operations ≡ done ++ op ∷ rest → IsOp (length c.arrays) (length c.locks) op
    → Reads component_grammar (with_ops c done) (op_text c op) (with_ops c (done ++ op ∷ []))
op_read c is done rest op cut h =
    let n : length (done ++ op ∷ rest) ≡ length done + length (op ∷ rest) = simp length-append in
    let whole : length c.operations ≡ length (done ++ op ∷ rest) = ap length cut in
    let few = is.operations_few in
    let here : length done < 16 = omega arith in
    let distinct : AreDistinct (map (λ o. o.name) (done ++ op ∷ rest)) = rw cut at is.operations_apart in
    let first : List ℕ = line_of_words (codes "op" ∷ op.name ∷ decimal op.args ∷ []) in
    let between : ComponentDraft = so_far c.name (said_local c.local) c.arrays c.locks done (Some (record { name = op.name; args = op.args; statements = []; labels = [] })) in
    rw (append_assoc first (code_text c op.code) (line_of_words (codes "end" ∷ [])))
    (reads_on component_grammar (with_ops c done) between (with_ops c (done ++ op ∷ [])) first (code_text c op.code ++ line_of_words (codes "end" ∷ []))
    (op_reads c.name (said_local c.local) c.arrays c.locks done op.name op.args h.name h.args here (not_yet (λ o. o.name) done rest op distinct))
    (operation_read c is done op h))

ops_read : (c : Component) → IsComponent c → (done rest : List Op) → c.operations ≡ done ++ rest → AllByRecursion (IsOp (length c.arrays) (length c.locks)) rest
    → Reads component_grammar (with_ops c done) (flat_map (op_text c) rest) (with_ops c c.operations)
ops_read c is done [] cut each =
    let same : c.operations ≡ done = cut ∙ append-nil done in
    rw same (reads_nothing component_grammar (with_ops c done))
ops_read c is done (op ∷ rest) cut each =
    reads_on component_grammar (with_ops c done) (with_ops c (done ++ op ∷ [])) (with_ops c c.operations) (op_text c op) (flat_map (op_text c) rest)
    (op_read c is done rest op cut each.0)
    (ops_read c is (done ++ op ∷ []) rest (cut ∙ sym (append_assoc done (op ∷ []) rest)) each.1)

pub component_again : (c : Component) → IsComponent c → meaning_of component_grammar (component_text c) ≡ Ok c
component_again c is =
    let first : List ℕ = line_of_words (codes "component" ∷ c.name ∷ []) in
    let local : List ℕ = local_text c.local in
    let arrays : List ℕ = flat_map array_text c.arrays in
    let locks : List ℕ = flat_map lock_text c.locks in
    let named : ComponentDraft = so_far c.name None [] [] [] None in
    let with_local : ComponentDraft = so_far c.name (said_local c.local) [] [] [] None in
    let with_arrays : ComponentDraft = so_far c.name (said_local c.local) c.arrays [] [] None in
    let with_locks : ComponentDraft = so_far c.name (said_local c.local) c.arrays c.locks [] None in
    let arrays_are = arrays_read c.name (said_local c.local) c.arrays [] c.arrays refl (recursion_from_All IsArray c.arrays is.arrays) is.arrays_few is.arrays_apart in
    let locks_apart : AreDistinct (map (λ l. l) c.locks) = rw (same_locks c.locks) is.locks_apart in
    let locks_are = locks_read c.name (said_local c.local) c.arrays c.locks [] c.locks refl (recursion_from_All IsName c.locks is.locks) is.locks_few locks_apart in
    let ops_are = ops_read c is [] c.operations refl (recursion_from_All (IsOp (length c.arrays) (length c.locks)) c.operations is.operations) in
    reads_value component_grammar (component_text c) (with_ops c c.operations) c
    (reads_on component_grammar nothing with_locks (with_ops c c.operations) (first ++ local ++ arrays ++ locks) (flat_map (op_text c) c.operations)
    (reads_on component_grammar nothing with_arrays with_locks (first ++ local ++ arrays) locks
    (reads_on component_grammar nothing with_local with_arrays (first ++ local) arrays
    (reads_on component_grammar nothing named with_local first local (component_reads c.name is.name) (local_reads c.name c.local is.local_few))
    arrays_are)
    locks_are)
    ops_are)
    (ap (λ (n : ℕ). let x : Component = record c { local = n } in Ok x) (local_said c.local))

-- the same of a text that is the component's
pub written_again : (c : Component) → IsComponent c → (text : List ℕ) → text ≡ component_text c → meaning_of component_grammar text ≡ Ok c
written_again c is text e = rw e (component_again c is)
