-- Texts that grow by several pieces.
use Rattle.std.proofs.Common.{◌≡◌, ℕ, List, ◌++◌, Result, Ok, Err, append_assoc, ap, ◌∙◌, if◌then◌else◌}
use Rattle.std.specs.Prelude.{OnOk, is_ok}

pub two_pieces : (x y old mid new : List ℕ) → mid ≡ old ++ x → new ≡ mid ++ y → new ≡ old ++ (x ++ y)
two_pieces x y old mid new h k = k ∙ (ap (λ t. t ++ y) h ∙ append_assoc old x y)

pub three_pieces : (x y z old one two new : List ℕ) → one ≡ old ++ x → two ≡ one ++ y → new ≡ two ++ z → new ≡ old ++ (x ++ y ++ z)
three_pieces x y z old one two new h k l = two_pieces (x ++ y) z old two new (two_pieces x y old one two h k) l

pub four_pieces : (w x y z old one two three new : List ℕ) → one ≡ old ++ w → two ≡ one ++ x → three ≡ two ++ y → new ≡ three ++ z → new ≡ old ++ (w ++ x ++ y ++ z)
four_pieces w x y z old one two three new h k l m = two_pieces (w ++ x ++ y) z old three new (three_pieces w x y old one two three h k l) m

pub five_pieces : (v w x y z old one two three four new : List ℕ) → one ≡ old ++ v → two ≡ one ++ w → three ≡ two ++ x → four ≡ three ++ y → new ≡ four ++ z → new ≡ old ++ (v ++ w ++ x ++ y ++ z)
five_pieces v w x y z old one two three four new h k l m n = two_pieces (v ++ w ++ x ++ y) z old four new (four_pieces v w x y old one two three four h k l m) n

pub seven_pieces : (t u v w x y z old one two three four five six new : List ℕ) → one ≡ old ++ t → two ≡ one ++ u → three ≡ two ++ v → four ≡ three ++ w → five ≡ four ++ x → six ≡ five ++ y → new ≡ six ++ z → new ≡ old ++ (t ++ u ++ v ++ w ++ x ++ y ++ z)
seven_pieces t u v w x y z old one two three four five six new h k l m n o p = three_pieces (t ++ u ++ v ++ w ++ x) y z old five six new (five_pieces t u v w x old one two three four five h k l m n) o p

-- what is pushed is there where it succeeded
pub on_pushed : {T E : Type 0} (r : Result T E) (new more old : List ℕ) → new ≡ (if is_ok r then more else old) → OnOk r (new ≡ more)
on_pushed (Ok x) new more old e = e
on_pushed (Err x) new more old e = tt
