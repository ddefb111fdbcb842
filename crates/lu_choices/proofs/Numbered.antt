-- How many choices there are, and which one has a number.
use Rattle.std.proofs.Common.{arith, length-append, ◌≡◌, ◌<◌, ◌≤◌, ◌+◌, ◌*◌, ◌/◌, ◌%◌, ◌^◌, ℕ, zero, suc, List, [], ◌∷◌, ◌++◌, append_assoc, add-one, length, drop, get_or, refl, sym, ◌∙◌, ap, inl, inr}
use Rattle.std.specs.Prelude.{All, ◌⊎◌}
use Rattle.std.proofs.lemmas.Bool.{cases_lt}
use Rattle.std.proofs.lemmas.List.{append-nil, drop_all}
use Rattle.std.proofs.lemmas.Nat.{mul-le}
use Rattle.std.proofs.Math.Seq.{drop-cons}
use Rattle.std.proofs.Math.Nat.{add-mul, div-lt_iff_lt-mul, mod-add-div', mod-lt, mul-div_cancel_left, mul-le-mul_right, mul-zero, mul_assoc, pow-le-pow_right, pow-succ', pow-zero}
use Rattle.lu_choices.specs.Choices.{AreBases, IsBefore, IsChoiceIn, choice_count, number_in}

-- ---- the number of choices

tail : (P : ℕ → Type 0) (base : ℕ) (bases : List ℕ) → All P (base ∷ bases) → All P bases
tail P base bases all = λ k d h. all (suc k) d (omega arith)

some_choice : (bases : List ℕ) → All (λ base. 1 ≤ base) bases → 1 ≤ choice_count bases
some_choice [] all = omega arith
some_choice (base ∷ bases) all =
    let here : 1 ≤ base = all 0 0 (omega arith) in
    let product : 1 * 1 ≤ base * choice_count bases = mul-le 1 1 base (choice_count bases) here (some_choice bases (tail (λ base. 1 ≤ base) base bases all)) in
    omega (arith, product)

few_choices : (bases : List ℕ) → All (λ base. base ≤ 9) bases → choice_count bases ≤ 9 ^ length bases
few_choices [] all = rw (pow-zero 9) (omega arith)
few_choices (base ∷ bases) all =
    let here : base ≤ 9 = all 0 0 (omega arith) in
    let product : base * choice_count bases ≤ 9 * 9 ^ length bases = mul-le base (choice_count bases) 9 (9 ^ length bases) here (few_choices bases (tail (λ base. base ≤ 9) base bases all)) in
    rw (pow-succ' 9 (length bases)) product

-- at most 9^16
pub choices_fit : (bases : List ℕ) → AreBases bases → choice_count bases < 2 ^ 64
choices_fit bases are =
    let few = few_choices bases are.small in
    let power : 9 ^ length bases ≤ 9 ^ 16 = pow-le-pow_right (omega arith) are.few in
    omega (arith, few, power)

-- the bases from i on
bases_from : (bases : List ℕ) (i : ℕ) → i < length bases → drop i bases ≡ get_or bases i 0 ∷ drop (i + 1) bases
bases_from bases i h = rw (add-one i) (drop-cons bases i 0 h)

count_from : (bases : List ℕ) (i base : ℕ) → i < length bases → base ≡ get_or bases i 0 → choice_count (drop i bases) ≡ base * choice_count (drop (i + 1) bases)
count_from bases i base h is = ap choice_count (bases_from bases i h) ∙ ap (λ (k : ℕ). k * choice_count (drop (i + 1) bases)) (sym is)

rest_some : (bases : List ℕ) (i : ℕ) → All (λ base. 1 ≤ base) bases → All (λ base. 1 ≤ base) (drop i bases)
rest_some bases zero all = all
rest_some [] (suc i) all = all
rest_some (base ∷ bases) (suc i) all = rest_some bases i (tail (λ base. 1 ≤ base) base bases all)

-- this many choices for the bases before i
abbrev pub IsCounted : List ℕ → ℕ → ℕ → Type 0
IsCounted bases i count = count * choice_count (drop i bases) ≡ choice_count bases

pub counted_more : (bases : List ℕ) (i count base : ℕ) → i < length bases → base ≡ get_or bases i 0 → IsCounted bases i count → IsCounted bases (i + 1) (count * base)
counted_more bases i count base h is counted =
    mul_assoc count base (choice_count (drop (i + 1) bases))
    ∙ (ap (λ (k : ℕ). count * k) (sym (count_from bases i base h is)) ∙ counted)

pub counted_fits : (bases : List ℕ) (i count base : ℕ) → AreBases bases → i < length bases → base ≡ get_or bases i 0 → IsCounted bases i count → count * base < 2 ^ 64
counted_fits bases i count base are h is counted =
    let behind = choice_count (drop (i + 1) bases) in
    let more : count * base * behind ≡ choice_count bases = counted_more bases i count base h is counted in
    let least : count * base * 1 ≤ count * base * behind = mul-le (count * base) 1 (count * base) behind (omega arith) (some_choice (drop (i + 1) bases) (rest_some bases (i + 1) are.some)) in
    let fits = choices_fit bases are in
    omega (arith, more, least, fits)

-- ---- numbers

pub number_below : (bases choice : List ℕ) → IsChoiceIn bases choice → number_in bases choice < choice_count bases
number_below [] choice chosen = omega arith
number_below (base ∷ bases) [] chosen = absurd chosen
number_below (base ∷ bases) (n ∷ choice) chosen =
    let here : n < base = chosen.0 in
    let rest = number_below bases choice chosen.1 in
    let most : (n + 1) * choice_count bases ≤ base * choice_count bases = mul-le-mul_right (choice_count bases) (omega arith) in
    let one : (n + 1) * choice_count bases ≡ n * choice_count bases + 1 * choice_count bases = add-mul n 1 (choice_count bases) in
    omega (arith, rest, most, one)

-- a choice that comes before has a lesser number
pub before_less : (bases u v : List ℕ) → IsChoiceIn bases u → IsChoiceIn bases v → IsBefore u v → number_in bases u < number_in bases v
before_less bases [] v low high before = absurd before
before_less bases (m ∷ u) [] low high before = absurd before
before_less [] (m ∷ u) (n ∷ v) low high before = absurd low
before_less (base ∷ bases) (m ∷ u) (n ∷ v) low high (inl less) =
    let rest = number_below bases u low.1 in
    let most : (m + 1) * choice_count bases ≤ n * choice_count bases = mul-le-mul_right (choice_count bases) (omega arith) in
    let one : (m + 1) * choice_count bases ≡ m * choice_count bases + 1 * choice_count bases = add-mul m 1 (choice_count bases) in
    omega (arith, rest, most, one)
before_less (base ∷ bases) (m ∷ u) (n ∷ v) low high (inr (eq, before)) =
    let rest = before_less bases u v low.1 high.1 before in
    let same : m * choice_count bases ≡ n * choice_count bases = ap (λ (k : ℕ). k * choice_count bases) eq in
    omega (arith, rest, same)

-- of two choices one comes before, or they are the same
abbrev pub Compares : List ℕ → List ℕ → Type 0
Compares u v = IsBefore u v ⊎ (IsBefore v u ⊎ (u ≡ v))

compares_first : (m n : ℕ) (u v : List ℕ) → m ≡ n → Compares u v → Compares (m ∷ u) (n ∷ v)
compares_first m n u v eq (inl before) = inl (inr (eq, before))
compares_first m n u v eq (inr (inl behind)) = inr (inl (inr (sym eq, behind)))
compares_first m n u v eq (inr (inr same)) = inr (inr (rw (eq, same) refl))

pub compare : (bases u v : List ℕ) → IsChoiceIn bases u → IsChoiceIn bases v → Compares u v
compare bases [] [] low high = inr (inr refl)
compare [] [] (n ∷ v) low high = absurd high
compare (base ∷ bases) [] (n ∷ v) low high = absurd low
compare [] (m ∷ u) v low high = absurd low
compare (base ∷ bases) (m ∷ u) [] low high = absurd high
compare (base ∷ bases) (m ∷ u) (n ∷ v) low high = elim (cases_lt m n) as (λ _. Compares (m ∷ u) (n ∷ v)) [
  | inl less ↦ inl (inl less)
  | inr least ↦ elim (cases_lt n m) as (λ _. Compares (m ∷ u) (n ∷ v)) [
    | inl more ↦ inr (inl (inl more))
    | inr most ↦ compares_first m n u v (omega arith) (compare bases u v low.1 high.1)
  ]
]

-- a number has one choice
pub same_choice : (bases u v : List ℕ) → IsChoiceIn bases u → IsChoiceIn bases v → number_in bases u ≡ number_in bases v → u ≡ v
same_choice bases u v low high is = by (compare bases u v low high)
  where
    by : Compares u v → u ≡ v
    by (inl before) = absurd (let less = before_less bases u v low high before in omega (arith, less, is))
    by (inr (inl behind)) = absurd (let less = before_less bases v u high low behind in omega (arith, less, is))
    by (inr (inr same)) = same

-- ---- the digits of a number, each in its base

abbrev pub digits : List ℕ → ℕ → List ℕ
digits [] n = []
digits (base ∷ bases) n = n / choice_count bases ∷ digits bases (n % choice_count bases)

-- each number has a choice, which is its digits
pub digits_chosen : (bases : List ℕ) (n : ℕ) → n < choice_count bases → IsChoiceIn bases (digits bases n) × (number_in bases (digits bases n) ≡ n)
digits_chosen [] n h = (tt, omega (arith, h))
digits_chosen (base ∷ bases) n h =
    let round = choice_count bases in
    let some : 0 < round = elim (cases_lt 0 round) [
      | inl more ↦ more
      | inr none ↦ absurd (let nothing : base * round ≡ base * 0 = ap (λ (k : ℕ). base * k) (omega arith) in omega (arith, nothing, mul-zero base, h))
    ] in
    let behind = digits_chosen bases (n % round) (mod-lt n some) in
    let below : n / round < base = (div-lt_iff_lt-mul {k = round} {x = n} {y = base} some).1 h in
    ((below, behind.0), omega (arith, behind.1, mod-add-div' n round))

pub choice_there : (bases : List ℕ) (n : ℕ) → n < choice_count bases → (choice : List ℕ) × IsChoiceIn bases choice × (number_in bases choice ≡ n)
choice_there bases n h = let chosen = digits_chosen bases n h in (digits bases n, chosen.0, chosen.1)

-- ---- the choice with a number, base by base

-- the numbers chosen for the bases before i, and then the digits of the rest, are the number's
pub record IsPart (bases : List ℕ) (i round rest number : ℕ) (choice : List ℕ) : Type 0 where
  pub size : round ≡ choice_count (drop i bases)
  pub less : rest < round
  pub long : length choice ≡ i
  pub digits_are : choice ++ digits (drop i bases) rest ≡ digits bases number

-- what is left of the count after the next base
next_round : (bases : List ℕ) (i base round : ℕ) → AreBases bases → i < length bases → base ≡ get_or bases i 0 → round ≡ choice_count (drop i bases) → (round / base ≡ choice_count (drop (i + 1) bases)) × (0 < round / base)
next_round bases i base round are h is size =
    let behind = choice_count (drop (i + 1) bases) in
    let some_base : 1 ≤ base = omega (arith, are.some i 0 h, is) in
    let same : round / base ≡ behind = ap (λ (k : ℕ). k / base) (size ∙ count_from bases i base h is) ∙ mul-div_cancel_left behind {n = base} some_base in
    (same, omega (arith, same, some_choice (drop (i + 1) bases) (rest_some bases (i + 1) are.some)))

pub part_more : (bases : List ℕ) (i base round rest number : ℕ) (choice new : List ℕ) → AreBases bases → i < length bases → base ≡ get_or bases i 0 → IsPart bases i round rest number choice → new ≡ choice ++ rest / (round / base) ∷ [] → IsPart bases (i + 1) (round / base) (rest % (round / base)) number new
part_more bases i base round rest number choice new are h is part pushed =
    let next = next_round bases i base round are h is part.size in
    let others : ℕ → List ℕ = λ k. rest / k ∷ digits (drop (i + 1) bases) (rest % k) in
    record {
      size = next.0;
      less = mod-lt rest next.1;
      long = ap length pushed ∙ (length-append choice (rest / (round / base) ∷ []) ∙ omega (arith, part.long));
      digits_are =
          ap (λ (xs : List ℕ). xs ++ digits (drop (i + 1) bases) (rest % (round / base))) pushed
          ∙ (append_assoc choice (rest / (round / base) ∷ []) (digits (drop (i + 1) bases) (rest % (round / base)))
          ∙ (ap (λ (k : ℕ). choice ++ others k) next.0
          ∙ (ap (λ (xs : List ℕ). choice ++ digits xs rest) (sym (bases_from bases i h))
          ∙ part.digits_are)));
    }

pub part_whole : (bases : List ℕ) (i round rest number : ℕ) (choice : List ℕ) → length bases ≤ i → IsPart bases i round rest number choice → choice ≡ digits bases number
part_whole bases i round rest number choice all part =
    sym (append-nil choice)
    ∙ (ap (λ (xs : List ℕ). choice ++ digits xs rest) (sym (drop_all i bases all)) ∙ part.digits_are)
