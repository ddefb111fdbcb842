-- The lengths of a cut are a choice: for each thread one of those that it can have.
use Rattle.std.proofs.Common.{arith, ◌≡◌, ◌≤◌, ◌+◌, ℕ, List, [], ◌∷◌, length, take, sym, ◌∙◌, ap, subst}
use Rattle.std.specs.Prelude.{map}
use Rattle.std.specs.List.{AllZip}
use Rattle.std.proofs.lemmas.List.{length-map, take_all}
use Rattle.std.proofs.lemmas.List.Elements.{All-map}
use Rattle.lu_choices.specs.Choices.{AreBases, IsChoiceIn, number_in}
use Rattle.lu_choices.proofs.Numbered.{Compares, compare}
use Rattle.lu_test.specs.declared.matrix.Call.{Call}
use Rattle.lu_test.specs.Matrix.{IsMatrix, Matrix, cut}
use Rattle.lu_serial.specs.Cuts.{AreLengths}
use Rattle.lu_certify.specs.Cuts.{IsCutAt, cut_number, length_counts}

abbrev counts : List (List Call) → List ℕ
counts rows = map (λ calls. length calls + 1) rows

-- where these are counted of all threads they are bases
pub are_bases : (matrix : Matrix) (i : ℕ) (found : List ℕ) → IsMatrix matrix → length matrix.threads ≤ i → found ≡ counts (take i matrix.threads) → AreBases found
are_bases matrix i found is all counted =
    subst AreBases (sym (counted ∙ ap counts (take_all i matrix.threads all)))
    (record {
      some = All-map (λ count. 1 ≤ count) (λ calls. length calls + 1) matrix.threads (λ k d h. omega arith);
      small = All-map (λ count. count ≤ 9) (λ calls. length calls + 1) matrix.threads (λ k d h. (let here = is.limits.each k d h in omega (arith, here)));
      few = omega (arith, is.limits.few, length-map matrix.threads (λ (calls : List Call). length calls + 1));
    })

-- ---- the choices

fit_chosen : (rows : List (List Call)) (u : List ℕ) → AllZip (λ (calls : List Call) n. n ≤ length calls) rows u → IsChoiceIn (counts rows) u
fit_chosen [] [] fit = tt
fit_chosen [] (n ∷ u) fit = absurd fit
fit_chosen (row ∷ rows) [] fit = absurd fit
fit_chosen (row ∷ rows) (n ∷ u) fit = (let here = fit.0 in omega (arith, here), fit_chosen rows u fit.1)

chosen_fit : (rows : List (List Call)) (u : List ℕ) → IsChoiceIn (counts rows) u → AllZip (λ (calls : List Call) n. n ≤ length calls) rows u
chosen_fit [] [] fit = tt
chosen_fit [] (n ∷ u) fit = absurd fit
chosen_fit (row ∷ rows) [] fit = absurd fit
chosen_fit (row ∷ rows) (n ∷ u) fit = (let here = fit.0 in omega (arith, here), chosen_fit rows u fit.1)

pub chosen : (matrix : Matrix) (lengths : List ℕ) → AreLengths matrix lengths → IsChoiceIn (length_counts matrix) lengths
chosen matrix lengths are = fit_chosen matrix.threads lengths are

-- the numbers that were chosen are lengths
pub are_lengths : (matrix : Matrix) (found lengths given : List ℕ) → found ≡ length_counts matrix → given ≡ lengths → IsChoiceIn found lengths → AreLengths matrix given
are_lengths matrix found lengths given counted same chosen =
    subst (AreLengths matrix) (sym same) (chosen_fit matrix.threads lengths (subst (λ (bases : List ℕ). IsChoiceIn bases lengths) counted chosen))

-- and the cut of these lengths is the one with their number
pub cut_there : (matrix : Matrix) (number : ℕ) (found lengths given : List ℕ) (smaller : Matrix) → found ≡ length_counts matrix → given ≡ lengths → IsChoiceIn found lengths → number_in found lengths ≡ number → smaller ≡ cut matrix given → IsCutAt matrix number smaller
cut_there matrix number found lengths given smaller counted same chosen at is = record {
  lengths = given;
  are = are_lengths matrix found lengths given counted same chosen;
  is_at = ap (cut_number matrix) same ∙ (ap (λ (bases : List ℕ). number_in bases lengths) (sym counted) ∙ at);
  is = is;
}

-- of two cuts one comes before, or they are the same
pub lengths_compare : (matrix : Matrix) (u v : List ℕ) → AreLengths matrix u → AreLengths matrix v → Compares u v
lengths_compare matrix u v low high = compare (length_counts matrix) u v (chosen matrix u low) (chosen matrix v high)
