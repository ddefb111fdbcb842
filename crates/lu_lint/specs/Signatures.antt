-- What the calls of a matrix are judged by where its component has faults: the signatures of the
-- operations that the component's lines were to declare.
use Rattle.std.specs.Prelude.{ℕ, ◌∷◌, ◌++◌, Bool, false, List, [], Some, None, is_some, take, ◌||◌, if◌then◌else◌}
use Rattle.std.specs.Str.{bytes_eq}
use Rattle.std.specs.Option.{option_map_or}
use Rattle.lu_text.specs.Words.{Word}
use Rattle.lu_component.specs.declared.component.Op.{Op}
use Rattle.lu_component.specs.declared.component.TheConstants.{MOST_OPS}
use Rattle.lu_component.specs.Component.{operation_number}
use Rattle.lu_lang.specs.declared.recovery.Family.TheVariants.{Operation}
use Rattle.lu_lang.specs.Faulty.{FaultyDraft}
use Rattle.lu_lang.specs.Meant.{is_meant}
use Rattle.lu_test.specs.Signatures.{Signature}

-- How many arguments an operation takes is not known where a line that begins it has a fault.
abbrev pub signature_in : FaultyDraft → Word → ℕ → Signature
signature_in f name args =
    record { name = name; arity = if is_meant f.meant Operation name then None else Some args }

-- the operation that is open has this name
abbrev pub is_open : FaultyDraft → Word → Bool
is_open f name = option_map_or (λ b. bytes_eq b.name name) f.draft.begun false

-- that of the open operation
abbrev pub open_signature : FaultyDraft → List Signature
open_signature f = option_map_or (λ b. signature_in f b.name b.args ∷ []) f.draft.begun []

-- that of an operation, unless one after it has its name
abbrev pub signature_once : FaultyDraft → Op → List Op → List Signature
signature_once f op after =
    if is_some (operation_number after op.name) || is_open f op.name then []
    else signature_in f op.name op.args ∷ []

-- those of these operations and of the open one: of each name the last
abbrev pub signatures_from : FaultyDraft → List Op → List Signature
signatures_from f [] = open_signature f
signatures_from f (op ∷ after) = signature_once f op after ++ signatures_from f after

-- those of the first operations, as many as a component may have, and of the open one
abbrev pub signatures_meant : FaultyDraft → List Signature
signatures_meant f = signatures_from f (take MOST_OPS f.draft.operations)
