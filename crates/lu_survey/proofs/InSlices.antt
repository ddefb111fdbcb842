-- What is known of the matrices of a slice up to a number, and of slices that follow one another.
use Rattle.std.proofs.Common.{arith, ◌≡◌, ℕ, ◌+◌, ◌-◌, ◌<◌, ◌≤◌, List, sym, subst, inl, inr}
use Rattle.std.specs.Prelude.{min}
use Rattle.std.proofs.lemmas.Bool.{cases_lt}
use Rattle.lu_test.specs.Matrix.{IsOf, Matrix}
use Rattle.lu_machine.specs.Starts.{CanRun}
use Rattle.lu_refine.specs.ByThread.{Asked, CanAsk, IsMatrixAt, IsWithinSlice, bases_of, choice_number, matrix_count}
use Rattle.lu_refine.proofs.Filling.{positions, rows_of, rows_run}
use Rattle.lu_choices.proofs.Numbered.{before_less, choices_fit, compare, number_below, same_choice}
use Rattle.lu_survey.specs.Laws.{WholeSlices}
use Rattle.lu_survey.specs.Slices.{AreAllSo, IsFirstOther}

-- ---- the matrix with a number

-- it is one of the component
pub at_of : (asked : Asked) (number : ℕ) (matrix : Matrix) → CanAsk asked → IsMatrixAt asked number matrix → IsOf matrix asked.component
at_of asked number matrix can at =
    subst (λ (m : Matrix). IsOf m asked.component) (sym at.fills) (rows_of asked.component asked.setup asked.calls asked.candidates at.choice can.setup_of can.of at.chosen)

-- and can run
pub at_runs : (asked : Asked) (number : ℕ) (matrix : Matrix) → CanAsk asked → IsMatrixAt asked number matrix → CanRun asked.component matrix
at_runs asked number matrix can at =
    subst (CanRun asked.component) (sym at.fills) (rows_run asked.component asked.setup asked.calls asked.candidates at.choice can.setup_of can.settles can.of at.chosen)

module _ (asked : Asked) (IsSo : List ℕ → Type 0) where
  -- the choices with these numbers are so
  abbrev pub SoWithin : ℕ → ℕ → Type 0
  SoWithin from to = (choice : List ℕ) → IsWithinSlice asked from to choice → IsSo choice

  pub so_none : (start : ℕ) → SoWithin start start
  so_none start choice within = absurd (omega (arith, within.least, within.less))

  pub so_more : (start number : ℕ) (matrix : Matrix) → (at : IsMatrixAt asked number matrix) → SoWithin start number → IsSo at.choice → SoWithin start (number + 1)
  so_more start number matrix at before here choice within = elim (cases_lt (choice_number asked choice) number) [
    | inl less ↦ before choice (record { chosen = within.chosen; least = within.least; less = less })
    | inr least ↦
        let there : choice_number asked choice ≡ choice_number asked at.choice = omega (arith, at.is_at, within.less, least) in
        subst IsSo (sym (same_choice (bases_of asked) choice at.choice within.chosen at.chosen there)) here
  ]

  -- all of the slice
  pub so_all : (from to start end number : ℕ) → end ≡ min to (matrix_count asked) → start ≡ min from end → end ≤ number → SoWithin start number → AreAllSo asked from to IsSo (end - start)
  so_all from to start end number end_is start_is past before = record {
    number = omega (arith, end_is, start_is);
    each = λ choice within.
        let fits = number_below (bases_of asked) choice within.chosen in
        before choice (record { chosen = within.chosen; least = omega (arith, within.least, start_is); less = omega (arith, within.less, fits, end_is, past) });
  }

  -- the first that is otherwise
  module _ (IsOther : List ℕ → Type 0) where
    pub other_here : (from to start end number : ℕ) (matrix : Matrix) → end ≡ min to (matrix_count asked) → start ≡ min from end → start ≤ number → number < end → (at : IsMatrixAt asked number matrix) → SoWithin start number → IsOther at.choice → IsFirstOther asked from to IsSo IsOther matrix
    other_here from to start end number matrix end_is start_is least less at before here = record {
      choice = at.choice;
      within = record { chosen = at.chosen; least = omega (arith, at.is_at, end_is, start_is, least, less); less = omega (arith, at.is_at, end_is, less) };
      is = at.fills;
      other = here;
      before = λ earlier within sooner.
          let lower = before_less (bases_of asked) earlier at.choice within.chosen at.chosen sooner in
          before earlier (record { chosen = within.chosen; least = omega (arith, within.least, start_is, end_is, least, less); less = omega (arith, lower, at.is_at) });
    }

    -- ---- slices that follow one another

    pub first_stays : (from middle to : ℕ) (matrix : Matrix) → middle ≤ to → IsFirstOther asked from middle IsSo IsOther matrix → IsFirstOther asked from to IsSo IsOther matrix
    first_stays from middle to matrix high first = record {
      choice = first.choice;
      within = record { chosen = first.within.chosen; least = first.within.least; less = omega (arith, first.within.less, high) };
      is = first.is;
      other = first.other;
      before = λ earlier within sooner.
          let lower = before_less (bases_of asked) earlier first.choice within.chosen first.within.chosen sooner in
          first.before earlier (record { chosen = within.chosen; least = within.least; less = omega (arith, lower, first.within.less) }) sooner;
    }

    pub first_later : (from middle to count : ℕ) (matrix : Matrix) → from ≤ middle → AreAllSo asked from middle IsSo count → IsFirstOther asked middle to IsSo IsOther matrix → IsFirstOther asked from to IsSo IsOther matrix
    first_later from middle to count matrix low all first = record {
      choice = first.choice;
      within = record { chosen = first.within.chosen; least = omega (arith, first.within.least, low); less = first.within.less };
      is = first.is;
      other = first.other;
      before = λ earlier within sooner. elim (cases_lt (choice_number asked earlier) middle) [
        | inl less ↦ all.each earlier (record { chosen = within.chosen; least = within.least; less = less })
        | inr least ↦ first.before earlier (record { chosen = within.chosen; least = least; less = within.less }) sooner
      ];
    }

    -- where each is so, none is otherwise
    pub none_other : (from to count : ℕ) (matrix : Matrix) → ((choice : List ℕ) → IsSo choice → IsOther choice → ⊥) → AreAllSo asked from to IsSo count → IsFirstOther asked from to IsSo IsOther matrix → ⊥
    none_other from to count matrix apart all first = apart first.choice (all.each first.choice first.within) first.other

  pub all_both : (from middle to count others : ℕ) → from ≤ middle → middle ≤ to → AreAllSo asked from middle IsSo count → AreAllSo asked middle to IsSo others → AreAllSo asked from to IsSo (count + others)
  all_both from middle to count others low high earlier later = record {
    number = omega (arith, earlier.number, later.number, low, high);
    each = λ choice within. elim (cases_lt (choice_number asked choice) middle) [
      | inl less ↦ earlier.each choice (record { chosen = within.chosen; least = within.least; less = less })
      | inr least ↦ later.each choice (record { chosen = within.chosen; least = least; less = within.less })
    ];
  }

  -- two that come first are of one choice
  pub one_first : (IsOne IsTwo : List ℕ → Type 0) (from to : ℕ) (matrix other : Matrix) → ((choice : List ℕ) → IsSo choice → IsOne choice → ⊥) → ((choice : List ℕ) → IsSo choice → IsTwo choice → ⊥) → (x : IsFirstOther asked from to IsSo IsOne matrix) → (y : IsFirstOther asked from to IsSo IsTwo other) → x.choice ≡ y.choice
  one_first IsOne IsTwo from to matrix other one two x y = elim (compare (bases_of asked) x.choice y.choice x.within.chosen y.within.chosen) [
    | inl before ↦ absurd (one x.choice (y.before x.choice x.within before) x.other)
    | inr others ↦ elim others [
      | inl behind ↦ absurd (two y.choice (x.before y.choice y.within behind) y.other)
      | inr same ↦ same
    ]
  ]

-- ---- a slice of all

pub whole_slices : WholeSlices
whole_slices = record {
  each = λ asked to choice all chosen. record { chosen = chosen; least = omega arith; less = omega (arith, all, number_below (bases_of asked) choice chosen) };
  size = λ asked to all. omega (arith, all);
  few = λ asked limits. choices_fit (bases_of asked) (positions asked.calls asked.candidates limits);
}
