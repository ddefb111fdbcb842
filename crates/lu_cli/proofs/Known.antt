-- One write, and one read, after another.
use Rattle.std.proofs.Common.{◌≡◌, ℕ, false, ◌<◌, ◌≤◌, ◌-◌, [], ◌∷◌, length, take, drop, refl, arith, List, ◌++◌, Option, Some, None, sym, append_assoc}
use Rattle.std.specs.Io.KnownBytes.{Appends, Consumes, IsAtEnd}
use Rattle.std.specs.Prelude.{IfSome, ◌==◌, ◌&&◌, not}
use Rattle.std.proofs.lemmas.List.{length-append, length-drop, length-take-le, take_all, take-append-drop, append-nil}
use Rattle.std.proofs.lemmas.Bool.{ne_eqb}
use Rattle.lu_cli.specs.Counted.{counts}

pub appends_then : (a b c : Option (List ℕ)) (x y : List ℕ) → Appends a b x → Appends b c y → Appends a c (x ++ y)
appends_then None b c x y p q = tt
appends_then (Some a) None c x y p q = absurd p
appends_then (Some a) (Some b) None x y p q = absurd q
appends_then (Some a) (Some b) (Some c) x y p q = rw (q, p) (append_assoc a x y)

pub consumes_then : (a b c : Option (List ℕ)) (x y : List ℕ) → Consumes a b x → Consumes b c y → Consumes a c (x ++ y)
consumes_then None b c x y p q = tt
consumes_then (Some a) None c x y p q = absurd p
consumes_then (Some a) (Some b) None x y p q = absurd q
consumes_then (Some a) (Some b) (Some c) x y p q = rw (p, q) (sym (append_assoc x y c))

-- what is sent, and what is left of a text, after n more bytes
pub cut_again : (front rest : List ℕ) (n : ℕ) → front ++ rest ≡ (front ++ take n rest) ++ take (length rest - n) (drop n rest)
cut_again front rest n = rw (take_all (length rest - n) (drop n rest) (omega (arith, length-drop n rest)), append_assoc front (take n rest) (drop n rest), take-append-drop n rest) refl

-- a write that took some bytes didn't fail
pub took_some : (n asked old : ℕ) → 0 < n → counts ((n == 0) && not (asked == 0)) old ≡ old
took_some n asked old h =
    let e : (n == 0) ≡ false = ne_eqb n 0 (λ z. omega arith) in
    rw e refl

-- at the end all that was there has come
pub all_came : (a b c : Option (List ℕ)) (bytes last : List ℕ) → Consumes a b bytes → Consumes b c last → length last ≡ 0 → IsAtEnd c → IfSome a (λ given. bytes ≡ given)
all_came None b c bytes last p q l e = tt
all_came (Some a) None c bytes last p q l e = absurd p
all_came (Some a) (Some b) None bytes last p q l e = absurd q
all_came (Some a) (Some b) (Some c) bytes [] p q l e = rw (p, q, e) (sym (append-nil bytes))
all_came (Some a) (Some b) (Some c) bytes (x ∷ last) p q l e = absurd (omega arith)

-- where more than n bytes came, more than n were there
pub more_were : (a c : Option (List ℕ)) (bytes : List ℕ) (n : ℕ) → Consumes a c bytes → n < length bytes → IfSome a (λ given. n < length given)
more_were None c bytes n p h = tt
more_were (Some a) None bytes n p h = absurd p
more_were (Some a) (Some c) bytes n p h = rw p (simp length-append (omega arith))

pub passes : (bytes piece : List ℕ) (n limit : ℕ) → n ≤ length piece → limit - length bytes < n → limit < length (bytes ++ take n piece)
passes bytes piece n limit le lt = simp length-append (omega (arith, length-take-le n piece le))
