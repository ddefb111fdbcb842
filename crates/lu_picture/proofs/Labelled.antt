-- Labels.
use Rattle.std.proofs.Common.{◌≡◌, ℕ, List, ◌++◌, length, take, chars, sym, ◌∙◌, ap}
use Rattle.std.proofs.lemmas.List.Concat.{flat_map-append}
use Rattle.lu_picture.specs.Shown.{ellipsis, ending, first_letters, label, letter_shown}
use Rattle.lu_picture.proofs.Joined.{two_pieces}

pub label_joined : (words : List ℕ) (many : ℕ) (old one two : List ℕ) → one ≡ old ++ first_letters words → many ≡ length (chars words) → two ≡ one ++ ending many → two ≡ old ++ label words
label_joined words many old one two first counted second =
    two_pieces (first_letters words) (ending many) old one two first second
    ∙ ap (λ x. old ++ x) (ap (λ n. first_letters words ++ ending n) counted ∙ sym (flat_map-append letter_shown (take 48 (chars words)) (ellipsis (length (chars words)))))
