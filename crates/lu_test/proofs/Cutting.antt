-- A matrix of each thread's first calls is a matrix.
use Rattle.std.proofs.Common.{◌≡◌, ℕ, zero, suc, ◌+◌, ◌<◌, ◌≤◌, List, [], ◌∷◌, ◌++◌, length, get_or, take, refl, sym, ap, ◌∙◌, arith}
use Rattle.std.specs.Prelude.{All, sum_by}
use Rattle.std.specs.List.{AllZip}
use Rattle.std.proofs.lemmas.List.{take_more, take_all, length-take-le}
use Rattle.std.proofs.lemmas.List.Elements.{All-take}
use Rattle.std.proofs.lemmas.List.Sums.{sum_by-cons}
use Rattle.lu_test.specs.declared.matrix.Call.{Call}
use Rattle.lu_test.specs.Matrix.{AreArguments, IsCallOf, IsMatrix, Matrix, cut, first_calls}
use Rattle.lu_test.proofs.SomeComponent.{of_same}

abbrev pub Fits : List (List Call) → List ℕ → Type 0
Fits threads lengths = AllZip (λ calls n. n ≤ length calls) threads lengths

pub lengths_all : (threads : List (List Call)) (lengths : List ℕ) → Fits threads lengths → length lengths ≡ length threads
lengths_all [] [] fits = refl
lengths_all [] (n ∷ ns) fits = absurd fits
lengths_all (calls ∷ m) [] fits = absurd fits
lengths_all (calls ∷ m) (n ∷ ns) fits = ap suc (lengths_all m ns fits.1)

pub length_at : (threads : List (List Call)) (lengths : List ℕ) → Fits threads lengths → (t : ℕ) (d : List Call) (e : ℕ) → t < length threads → get_or lengths t e ≤ length (get_or threads t d)
length_at [] lengths fits t d e h = absurd (omega arith)
length_at (calls ∷ m) [] fits t d e h = absurd fits
length_at (calls ∷ m) (n ∷ ns) fits zero d e h = fits.0
length_at (calls ∷ m) (n ∷ ns) fits (suc t) d e h = length_at m ns fits.1 t d e (omega arith)

length-cut : (threads : List (List Call)) (lengths : List ℕ) → Fits threads lengths → length (first_calls threads lengths) ≡ length threads
length-cut [] lengths fits = refl
length-cut (calls ∷ m) [] fits = absurd fits
length-cut (calls ∷ m) (n ∷ ns) fits = ap suc (length-cut m ns fits.1)

cut_at : (threads : List (List Call)) (lengths : List ℕ) → Fits threads lengths → (t : ℕ) (d : List Call) (e : ℕ) → t < length threads → get_or (first_calls threads lengths) t [] ≡ take (get_or lengths t e) (get_or threads t d)
cut_at [] lengths fits t d e h = absurd (omega arith)
cut_at (calls ∷ m) [] fits t d e h = absurd fits
cut_at (calls ∷ m) (n ∷ ns) fits zero d e h = refl
cut_at (calls ∷ m) (n ∷ ns) fits (suc t) d e h = cut_at m ns fits.1 t d e (omega arith)

-- one thread more
pub cut_more : (threads : List (List Call)) (lengths : List ℕ) → Fits threads lengths → (t : ℕ) (d : List Call) (e : ℕ) → t < length threads
    → take (t + 1) (first_calls threads lengths) ≡ take t (first_calls threads lengths) ++ take (get_or lengths t e) (get_or threads t d) ∷ []
cut_more threads lengths fits t d e h =
    take_more (first_calls threads lengths) t [] (omega (arith, length-cut threads lengths fits))
    ∙ ap (λ (calls : List Call). take t (first_calls threads lengths) ++ calls ∷ []) (cut_at threads lengths fits t d e h)

count_less : (threads : List (List Call)) (lengths : List ℕ) → Fits threads lengths → sum_by length (first_calls threads lengths) ≤ sum_by length threads
count_less [] lengths fits = omega arith
count_less (calls ∷ m) [] fits = absurd fits
count_less (calls ∷ m) (n ∷ ns) fits =
    omega (arith, sum_by-cons length calls m, sum_by-cons length (take n calls) (first_calls m ns), length-take-le n calls fits.0, fits.0, count_less m ns fits.1)

-- what holds of each thread and of its first calls holds of each cut thread
each_cut : (P : List Call → Type 0) → ((calls : List Call) (n : ℕ) → n ≤ length calls → P calls → P (take n calls)) → (threads : List (List Call)) (lengths : List ℕ) → Fits threads lengths → All P threads → All P (first_calls threads lengths)
each_cut P h [] lengths fits all k d within = absurd (omega arith)
each_cut P h (calls ∷ m) [] fits all k d within = absurd fits
each_cut P h (calls ∷ m) (n ∷ ns) fits all zero d within = h calls n fits.0 (all zero d (omega arith))
each_cut P h (calls ∷ m) (n ∷ ns) fits all (suc k) d within = each_cut P h m ns fits.1 (λ j e w. all (suc j) e (omega arith)) k d (omega arith)

pub cut_limits : (matrix : Matrix) (lengths : List ℕ) → Fits matrix.threads lengths → IsMatrix matrix → IsMatrix (cut matrix lengths)
cut_limits matrix lengths fits h =
    let threads = matrix.threads in
    record {
      some = omega (arith, h.some, length-cut threads lengths fits);
      limits = record {
        few = omega (arith, h.limits.few, length-cut threads lengths fits);
        each = each_cut (λ calls. length calls ≤ 8) (λ calls n le few. omega (arith, length-take-le n calls le)) threads lengths fits h.limits.each;
        calls = omega (arith, h.limits.calls, count_less threads lengths fits);
        arguments = each_cut (λ calls. All (λ call. AreArguments call.args) calls) (λ calls n le all. All-take (λ call. AreArguments call.args) n calls all) threads lengths fits h.limits.arguments;
      };
      before = h.before;
      of_some = of_same matrix (cut matrix lengths) (λ c of. (
        of.0,
        each_cut (λ calls. All (IsCallOf c) calls) (λ calls n le all. All-take (IsCallOf c) n calls all) threads lengths fits of.1,
      )) h.of_some;
    }

-- the same of a setup and threads that are the cut's
pub cut_made : (matrix : Matrix) (lengths : List ℕ) (setup : List Call) (threads : List (List Call)) → setup ≡ matrix.setup → threads ≡ first_calls matrix.threads lengths → let made : Matrix = record { setup = setup; threads = threads } in made ≡ cut matrix lengths
cut_made matrix lengths setup threads p q = rw (p, q) refl

pub cut_whole : (threads : List (List Call)) (lengths : List ℕ) → Fits threads lengths → (t : ℕ) → length threads ≤ t → take t (first_calls threads lengths) ≡ first_calls threads lengths
cut_whole threads lengths fits t h = take_all t (first_calls threads lengths) (omega (arith, length-cut threads lengths fits))

-- as many calls as are wanted are there
pub enough_calls : (threads items : List (List Call)) (lengths : List ℕ) (t : ℕ) (item calls : List Call) (n e : ℕ) → Fits threads lengths → t < length threads → items ≡ threads → n ≡ get_or lengths t e → item ≡ get_or items t item → calls ≡ item → n ≤ length calls
enough_calls threads items lengths t item calls n e fits within same is at are =
    let small = length_at threads lengths fits t item e within in
    let there : get_or threads t item ≡ calls = ap (λ (xs : List (List Call)). get_or xs t item) (sym same) ∙ (sym at ∙ sym are) in
    omega (arith, small, is, ap length there)

-- one thread more, in a loop's words
pub grows : (threads items : List (List Call)) (lengths : List ℕ) (t : ℕ) (item calls new : List Call) (n e : ℕ) → Fits threads lengths → t < length threads → items ≡ threads → n ≡ get_or lengths t e → item ≡ get_or items t item → calls ≡ item → new ≡ take n calls
    → take t (first_calls threads lengths) ++ new ∷ [] ≡ take (t + 1) (first_calls threads lengths)
grows threads items lengths t item calls new n e fits within same is at are made =
    let there : get_or threads t item ≡ calls = ap (λ (xs : List (List Call)). get_or xs t item) (sym same) ∙ (sym at ∙ sym are) in
    let cut_off : new ≡ take (get_or lengths t e) (get_or threads t item) = made ∙ rw (there, ← is) refl in
    ap (λ (x : List Call). take t (first_calls threads lengths) ++ x ∷ []) cut_off ∙ sym (cut_more threads lengths fits t item e within)
