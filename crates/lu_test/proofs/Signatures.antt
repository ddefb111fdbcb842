-- The signatures of operations, and the operations.
use Rattle.std.proofs.Common.{◌≡◌, ℕ, ◌+◌, Bool, cond, List, [], ◌∷◌, length, refl, ap, arith}
use Rattle.std.specs.Prelude.{not, slice_get}
use Rattle.std.specs.List.{position_or_len}
use Rattle.std.specs.Str.{bytes_eq}
use Rattle.std.specs.Option.{option_map}
use Rattle.std.proofs.lemmas.List.{length-map}
use Rattle.std.proofs.lemmas.Option.{slice_get-map}
use Rattle.lu_component.specs.declared.component.Op.{Op}
use Rattle.lu_component.specs.Component.{Component, IsComponent, operation_number}
use Rattle.lu_test.specs.MatrixText.{AreFew}
use Rattle.lu_test.specs.Signatures.{Signature, signature, signature_number, signatures}

-- the place of the first that passes, or the length
place_or_len : (p : Signature → Bool) (ops : List Op) → position_or_len p (signatures ops) ≡ position_or_len (λ op. p (signature op)) ops
place_or_len p [] = refl
place_or_len p (op ∷ ops) = ap (λ (n : ℕ). cond (not (p (signature op))) (1 + n) 0) (place_or_len p ops)

-- a name has the same place among both
pub same_place : (ops : List Op) (name : List ℕ) → signature_number (signatures ops) name ≡ operation_number ops name
same_place ops name =
    let many : length (signatures ops) ≡ length ops = length-map ops signature in
    let place = place_or_len (λ s. bytes_eq s.name name) ops in
    rw (place, many) refl

-- the signature of the operation in a place
pub signature_at : (ops : List Op) (i : ℕ) → slice_get (signatures ops) i ≡ option_map signature (slice_get ops i)
signature_at ops i = slice_get-map signature ops i

-- as many signatures as operations
pub few : (c : Component) (all : List Signature) → IsComponent c → all ≡ signatures c.operations → AreFew all
few c all is same =
    let many : length (signatures c.operations) ≡ length c.operations = length-map c.operations signature in
    rw same (omega (arith, is.operations_few, many))
