-- What is read back from places of a list.
use Rattle.std.proofs.Common.{◌≡◌, ◌≢◌, ℕ, zero, suc, ◌<◌, ◌≤◌, List, [], ◌∷◌, ◌++◌, length, Option, Some, None, slice_get, slice_set, ◌⊎◌, inl, inr, refl, ap, ◌∙◌, arith}
use Rattle.lu_machine.specs.declared.event.Event.{Event}
use Rattle.lu_judge.specs.declared.path.Beginning.{Beginning}
use Rattle.lu_judge.specs.Paths.{Line, lines, extended, read_back, IsBack}

left_at : {X : Type 0} (xs ys : List X) (i : ℕ) → i < length xs → slice_get (xs ++ ys) i ≡ slice_get xs i
left_at [] ys i lt = absurd (omega arith)
left_at (x ∷ xs) ys zero lt = refl
left_at (x ∷ xs) ys (suc i) lt = left_at xs ys i (omega arith)

same_extended : (f g : ℕ → List Event) (o : Option Line) → ((line : Line) → o ≡ Some line → f line.0 ≡ g line.0) → extended f o ≡ extended g o
same_extended f g None same = refl
same_extended f g (Some line) same = ap (λ h. h ++ line.1 ∷ []) (same line refl)

-- enough steps are as good as any
pub same_read : (ls : List Line) → IsBack ls → (m n i : ℕ) → i ≤ m → i ≤ n → read_back m ls i ≡ read_back n ls i
same_read ls back zero zero i p q = refl
same_read ls back zero (suc n) zero p q = refl
same_read ls back zero (suc n) (suc i) p q = absurd (omega arith)
same_read ls back (suc m) zero zero p q = refl
same_read ls back (suc m) zero (suc i) p q = absurd (omega arith)
same_read ls back (suc m) (suc n) zero p q = refl
same_read ls back (suc m) (suc n) (suc i) p q = same_extended (read_back m ls) (read_back n ls) (slice_get ls (suc i)) (λ line is. same_read ls back m n line.0 (omega (arith, back i line is)) (omega (arith, back i line is)))

-- lines after the others change nothing
pub grown_read : (ls more : List Line) → IsBack ls → (n i : ℕ) → i < length ls → read_back n (ls ++ more) i ≡ read_back n ls i
grown_read ls more back zero i lt = refl
grown_read ls more back (suc n) zero lt = refl
grown_read ls more back (suc n) (suc i) lt =
    ap (extended (read_back n (ls ++ more))) (left_at ls more (suc i) lt)
    ∙ same_extended (read_back n (ls ++ more)) (read_back n ls) (slice_get ls (suc i)) (λ line is. grown_read ls more back n line.0 (omega (arith, back i line is)))

-- the history at a number is the shorter one and the last event
pub read_longer : (ls : List Line) → IsBack ls → (number shorter : ℕ) (event : Event) → number ≢ 0 → slice_get ls number ≡ Some (shorter, event) → read_back number ls number ≡ read_back shorter ls shorter ++ event ∷ []
read_longer ls back zero shorter event ne is = absurd (ne refl)
read_longer ls back (suc j) shorter event ne is = ap (extended (read_back j ls)) is ∙ ap (λ h. h ++ event ∷ []) (same_read ls back j shorter shorter (omega (arith, back j (shorter, event) is)) (omega arith))

pub lines_push : (bs : List Beginning) (b : Beginning) → lines (bs ++ b ∷ []) ≡ lines bs ++ (b.shorter, b.event) ∷ []
lines_push [] b = refl
lines_push (c ∷ bs) b = ap (λ ls. (c.shorter, c.event) ∷ ls) (lines_push bs b)

pub lines_at : (bs : List Beginning) (i : ℕ) (b : Beginning) → slice_get bs i ≡ Some b → slice_get (lines bs) i ≡ Some (b.shorter, b.event)
lines_at [] i b is = cc
lines_at (c ∷ bs) zero b is = let e : c ≡ b = cc in ap (λ (x : Beginning). Some (x.shorter, x.event)) e
lines_at (c ∷ bs) (suc i) b is = lines_at bs i b is

pub lines_length : (bs : List Beginning) → length (lines bs) ≡ length bs
lines_length [] = refl
lines_length (b ∷ bs) = ap suc (lines_length bs)

pub lines_set : (bs : List Beginning) (i : ℕ) (b c : Beginning) → slice_get bs i ≡ Some b → c.shorter ≡ b.shorter → c.event ≡ b.event → lines (slice_set bs i c) ≡ lines bs
lines_set [] i b c is shorter event = refl
lines_set (x ∷ bs) zero b c is shorter event =
    let e : b ≡ x = cc in
    ap (λ l. l ∷ lines bs) (ap (λ s. (s, c.event)) shorter ∙ ap (λ v. (b.shorter, v)) event ∙ ap (λ (y : Beginning). (y.shorter, y.event)) e)
lines_set (x ∷ bs) (suc i) b c is shorter event = ap (λ ls. (x.shorter, x.event) ∷ ls) (lines_set bs i b c is shorter event)

pub at_set : {X : Type 0} (xs : List X) (k i : ℕ) (x y : X) → slice_get (slice_set xs k x) i ≡ Some y → ((i ≡ k) × (y ≡ x)) ⊎ ((i ≢ k) × (slice_get xs i ≡ Some y))
at_set [] k i x y is = cc
at_set (z ∷ xs) zero zero x y is = inl (refl, cc)
at_set (z ∷ xs) zero (suc i) x y is = inr ((λ e. cc), is)
at_set (z ∷ xs) (suc k) zero x y is = inr ((λ e. cc), is)
at_set (z ∷ xs) (suc k) (suc i) x y is = elim (at_set xs k i x y is) as (λ _. ((suc i ≡ suc k) × (y ≡ x)) ⊎ ((suc i ≢ suc k) × (slice_get xs i ≡ Some y))) [ inl b ↦ inl (ap suc b.0, b.1) | inr b ↦ inr ((λ e. b.0 (omega (arith, e))), b.1) ]
