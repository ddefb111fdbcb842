-- The calls of one part more.
use Rattle.std.proofs.Common.{◌≡◌, ℕ, ◌+◌, ◌<◌, List, [], ◌∷◌, ◌++◌, length, get_or, take, Some, None, refl, sym, ap, ◌∙◌}
use Rattle.std.proofs.lemmas.List.{append-nil, take_more}
use Rattle.std.proofs.lemmas.List.Elements.{filter_map-append}
use Rattle.lu_text.specs.Words.{Word}
use Rattle.lu_test.specs.declared.matrix.Call.{Call}
use Rattle.lu_test.specs.MatrixText.{arguments_in, call_of, calls_said, named_operation}
use Rattle.lu_test.specs.Signatures.{Signature}

module _ (signatures : List Signature) (parts : List (List Word)) (i : ℕ) (words : List Word) (within : i < length parts) (is : words ≡ get_or parts i words) where
  calls_more : calls_said signatures (take (i + 1) parts) ≡ calls_said signatures (take i parts) ++ calls_said signatures (words ∷ [])
  calls_more =
      ap (calls_said signatures) (take_more parts i words within)
      ∙ (filter_map-append (call_of signatures) (take i parts) (get_or parts i words ∷ [])
      ∙ ap (λ (last : List Word). calls_said signatures (take i parts) ++ calls_said signatures (last ∷ [])) (sym is))

  pub no_call : named_operation signatures words ≡ None → calls_said signatures (take (i + 1) parts) ≡ calls_said signatures (take i parts)
  no_call none =
      let one : calls_said signatures (words ∷ []) ≡ [] = rw none refl in
      calls_more ∙ (ap (λ (last : List Call). calls_said signatures (take i parts) ++ last) one ∙ append-nil (calls_said signatures (take i parts)))

  pub one_call : (number : ℕ) (arguments : List ℕ) → named_operation signatures words ≡ Some number → arguments ≡ arguments_in signatures words
      → calls_said signatures (take (i + 1) parts) ≡ calls_said signatures (take i parts) ++ record { op = number; args = arguments } ∷ []
  one_call number arguments there same =
      let one : calls_said signatures (words ∷ []) ≡ record { op = number; args = arguments } ∷ [] = rw (same, there) refl in
      calls_more ∙ ap (λ (last : List Call). calls_said signatures (take i parts) ++ last) one
