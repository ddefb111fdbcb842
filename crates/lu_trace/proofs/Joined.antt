-- Texts that grow by several pieces.
use Rattle.std.proofs.Common.{◌≡◌, ℕ, List, ◌++◌, append_assoc, ap, ◌∙◌}

pub two_pieces : (x y old mid new : List ℕ) → mid ≡ old ++ x → new ≡ mid ++ y → new ≡ old ++ (x ++ y)
two_pieces x y old mid new h k = k ∙ (ap (λ t. t ++ y) h ∙ append_assoc old x y)

pub three_pieces : (x y z old one two new : List ℕ) → one ≡ old ++ x → two ≡ one ++ y → new ≡ two ++ z → new ≡ old ++ (x ++ y ++ z)
three_pieces x y z old one two new h k l = two_pieces (x ++ y) z old two new (two_pieces x y old one two h k) l

pub five_texts : (a b c d e zero one two three four : List ℕ) → zero ≡ a → one ≡ zero ++ b → two ≡ one ++ c → three ≡ two ++ d → four ≡ three ++ e → four ≡ a ++ b ++ c ++ d ++ e
five_texts a b c d e zero one two three four f g h i j =
    j ∙ ap (λ t. t ++ e) (i ∙ ap (λ t. t ++ d) (h ∙ ap (λ t. t ++ c) (g ∙ ap (λ t. t ++ b) f)))
