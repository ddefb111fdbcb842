-- A machine that stands at the node of a row.
use Rattle.std.proofs.Common.{arith, ◌≡◌, ℕ, zero, suc, ◌<◌, ◌≤◌, List, [], ◌∷◌, length, take, Option, Some, slice_get, refl, sym, ◌∙◌, ap, subst, inl, inr}
use Rattle.std.specs.Prelude.{IfSome, nat_eq}
use Rattle.std.specs.Global.{Vec}
use Rattle.std.specs.List.{slice_index}
use Rattle.std.specs.Option.{option_eq}
use Rattle.std.proofs.lemmas.Bool.{cases_lt}
use Rattle.std.proofs.lemmas.List.{get_or_past, length-take-le}
use Rattle.std.proofs.lemmas.Option.{slice_get_past}
use Rattle.lu_machine.specs.declared.thread.Thread.{Thread}
use Rattle.lu_component.specs.Component.{Component}
use Rattle.lu_test.specs.Matrix.{Matrix}
use Rattle.lu_machine.specs.Positions.{CanStand, standing_so}
use Rattle.lu_machine.specs.States.{State}
use Rattle.lu_graph.specs.declared.row.Parts.{Parts}
use Rattle.lu_graph.specs.declared.row.Row.{Row}
use Rattle.lu_graph.specs.Growing.{CanStandThere, state_of}
use Rattle.lu_graph.specs.Kept.{Kept}
use Rattle.lu_graph.specs.Numbered.{with_number}
use Rattle.lu_graph.specs.Rows.{AreNumbers, HaveNumbers, IsNumberOrNone, IsRowOf}
use Rattle.lu_graph.proofs.Many.{some_at}
use Rattle.lu_graph.proofs.Possible.{same_list}
use Rattle.lu_graph.proofs.Same.{list_there, same_numbers, same_owners, thread_there}

pub at_taken : {A : Type 0} (n : ℕ) (xs : List A) (t : ℕ) → t < n → slice_get (take n xs) t ≡ slice_get xs t
at_taken zero xs t lt = absurd (omega arith)
at_taken (suc n) [] t lt = refl
at_taken (suc n) (x ∷ xs) zero lt = refl
at_taken (suc n) (x ∷ xs) (suc t) lt = at_taken n xs t (omega (arith, lt))

-- there are no more than eight threads
numbered_few : (threads table : List Thread) (numbers : List ℕ) → AreNumbers threads table numbers → length threads ≤ 8
numbered_few threads table numbers are = elim (cases_lt 8 (length threads)) as (λ _. length threads ≤ 8) [
  | inl past ↦
      (let one = some_at threads 8 past in
      let number = subst (λ o. IsNumberOrNone table o (slice_index numbers 8)) one.1 (are.each 8) in
      let none : slice_index numbers 8 ≡ 0 = (let eight = are.eight in get_or_past numbers 8 0 (omega (arith, eight))) in
      let next = number.2 in
      absurd (omega (arith, none, next)))
  | inr few ↦ few
]

-- those that were read are the threads
read_threads : (threads table read : List Thread) (numbers : List ℕ) → AreNumbers threads table numbers → HaveNumbers table numbers read → take (length threads) read ≡ threads
read_threads threads table read numbers are reads =
    let n = length threads in
    let few = numbered_few threads table numbers are in
    let eight = reads.eight in
    let long : length (take n read) ≡ n = length-take-le n read (omega (arith, few, eight)) in
    same_list (take n read) threads (λ t. elim (cases_lt t n) as (λ _. slice_get (take n read) t ≡ slice_get threads t) [
      | inl lt ↦
          (let one = some_at threads t lt in
          let number = subst (λ o. IsNumberOrNone table o (slice_index numbers t)) one.1 (are.each t) in
          let there = thread_there table (slice_index numbers t) one.0 number in
          let it : slice_get read t ≡ Some one.0 = subst (λ o. IfSome o (λ (thread : Thread). slice_get read t ≡ Some thread)) there (reads.each t (omega (arith, lt, few))) in
          at_taken n read t lt ∙ (it ∙ sym one.1))
      | inr past ↦ slice_get_past (take n read) t (omega (arith, long, past)) ∙ sym (slice_get_past threads t past)
    ])

-- what is read by a row is what is kept of its node
pub record IsReadOf (kept : Kept) (values : List ℕ) (owners : List (Option ℕ)) (standing : List Thread) : Type 0 where
  pub cells : values ≡ kept.cells
  pub locks : owners ≡ kept.locks
  pub threads : take (length kept.threads) standing ≡ kept.threads
  pub few : length kept.threads ≤ length standing

pub is_read : (parts : Parts) (row : Row) (kept : Kept) (values : List ℕ) (owners : List (Option ℕ)) (standing : List Thread) → IsRowOf parts kept row → IfSome (with_number parts.cells.keys row.cells) (λ (v : Vec ℕ). values ≡ v.items) → IfSome (with_number parts.locks.keys row.locks) (λ (v : Vec (Option ℕ)). owners ≡ v.items)
    → HaveNumbers parts.threads.keys row.threads standing → IsReadOf kept values owners standing
is_read parts row kept values owners standing is cells locks threads = record {
  cells = list_there nat_eq same_numbers parts.cells.keys row.cells kept.cells values is.is.cells cells;
  locks = list_there (option_eq nat_eq) same_owners parts.locks.keys row.locks kept.locks owners is.is.locks locks;
  threads = read_threads kept.threads parts.threads.keys standing row.threads is.is.threads threads;
  few = (let few = numbered_few kept.threads parts.threads.keys row.threads is.is.threads in let eight = threads.eight in omega (arith, few, eight));
}

module _ (kept : Kept) (values : List ℕ) (owners : List (Option ℕ)) (standing : List Thread) (n : ℕ) (read : IsReadOf kept values owners standing) (long : n ≡ length kept.threads) where
  threads_are : take n standing ≡ kept.threads
  threads_are = ap (λ k. take k standing) long ∙ read.threads

  pub stands_read : (c : Component) (matrix : Matrix) → CanStandThere c matrix kept → CanStand c matrix values owners (take n standing)
  stands_read c matrix can =
      subst (λ x. CanStand c matrix x owners (take n standing)) (sym read.cells)
      (subst (λ x. CanStand c matrix kept.cells x (take n standing)) (sym read.locks) (subst (CanStand c matrix kept.cells kept.locks) (sym threads_are) can))

  pub stood_read : (s : State) → standing_so s values owners (take n standing) ≡ state_of s.component s.matrix kept
  stood_read s =
      ap (λ x. standing_so s x owners (take n standing)) read.cells
      ∙ (ap (λ x. standing_so s kept.cells x (take n standing)) read.locks ∙ ap (standing_so s kept.cells kept.locks) threads_are)
