-- Each instruction of what a source is compiled to comes from some line.
use Rattle.std.proofs.Common.{◌≡◌, ℕ, zero, suc, ◌+◌, ◌<◌, ◌≤◌, true, if◌then◌else◌, List, [], ◌∷◌, ◌++◌, length, get_or, map, Option, Some, None, is_some, Result, Ok, Err, refl, sym, ap, subst, ◌∙◌, arith}
use Rattle.std.specs.Prelude.{nat_lt}
use Rattle.std.specs.List.{AllByRecursion, slice_get}
use Rattle.std.proofs.lemmas.Bool.Decides.{nat_tests}
use Rattle.std.proofs.lemmas.Option.{slice_get_within}
use Rattle.lu_text.specs.Faults.{going_on, lines_after, on_line, then_lines}
use Rattle.lu_text.specs.Words.{Word}
use Rattle.lu_text.specs.declared.fault.Fault.{Fault}
use Rattle.lu_source.specs.Code.{operation_code}
use Rattle.lu_source.specs.Trees.{Operation, Program}
use Rattle.lu_source_text.specs.Grammar.{Begun, Drafted, Kind, either, line_of, nothing, program_of, source_grammar}
use Rattle.lu_source_text.specs.Origins.{Entry, HasEach, Standing, after_line, after_lines, closed_standing, code_of, entries_at, if_there, open_standing, origin_from, standing_at}
use Rattle.lu_source.specs.declared.origin.Origins.{Origins}
use Rattle.lu_source_text.proofs.Drafts.{IsDone, IsDraft, line_kept, nothing_is}
use Rattle.lu_source_text.proofs.Entries.{get_past}
use Rattle.lu_source_text.proofs.Kept.{Holds}

-- an instruction that is there in the end comes from some line
comes_from : (n : ℕ) (d : Drafted) (line : List ℕ) (lines : List (List ℕ)) (o q : ℕ) → q < (standing_at (after_lines d (line ∷ lines)) o).0 → is_some (origin_from n d (line ∷ lines) o q) ≡ true
comes_from n d line [] o q lt =
    let yes : nat_lt q (standing_at (after_line d line) o).0 ≡ true = grind (arith, nat_tests) in
    ap (λ t. is_some {T = Entry} (either (if t then Some (n, (standing_at (after_line d line) o).1) else None) None)) yes
comes_from n d line (next ∷ lines) o q lt = by_first (if_there n (standing_at (after_line d line) o) q) (comes_from (n + 1) (after_line d line) next lines o q lt)
  where
    by_first : (a : Option Entry) → is_some (origin_from (n + 1) (after_line d line) (next ∷ lines) o q) ≡ true → is_some (either a (origin_from (n + 1) (after_line d line) (next ∷ lines) o q)) ≡ true
    by_first None h = h
    by_first (Some e) h = refl

draft_after : (d : Drafted) (line : List ℕ) → IsDraft d → IsDraft (after_line d line)
draft_after d line h = by_line (line_of d line) (line_kept d h line)
  where
    by_line : (r : Result Drafted Kind) → Holds IsDraft r → IsDraft (going_on d r).0
    by_line (Ok next) k = k
    by_line (Err kind) k = h

-- the operations of the source are those of the draft in the end, and of 64 instructions at most
record Ends (p : Program) (d : Drafted) : Type 0 where
  operations : p.operations ≡ d.operations
  sound : IsDraft d

lines_end : (n : ℕ) (d : Drafted) (lines : List (List ℕ)) (p : Program) → IsDraft d → lines_after source_grammar n d lines ≡ Ok p → Ends p (after_lines d lines)
unfolding lines_after
lines_end n d [] p h is = record { operations = by_parts d.name d.begun is; sound = h }
  where
    by_parts : (name : Option Word) (begun : Option Begun) → on_line n (program_of d name begun) ≡ Ok p → p.operations ≡ d.operations
    by_parts None begun e = absurd cc
    by_parts (Some name) (Some b) e = absurd cc
    by_parts (Some name) None e = sym (ap operations_in e)
      where
        operations_in : Result Program (Fault Kind) → List Operation
        operations_in (Ok p) = p.operations
        operations_in (Err e) = d.operations
lines_end n d (line ∷ lines) p h is = by_line (line_of d line) refl is (draft_after d line h) (λ next. lines_end (n + 1) next lines p)
  where
    by_line : (r : Result Drafted Kind) → line_of d line ≡ r → then_lines (on_line n r) (λ next. lines_after source_grammar (n + 1) next lines) ≡ Ok p → IsDraft (after_line d line)
        → ((next : Drafted) → IsDraft next → lines_after source_grammar (n + 1) next lines ≡ Ok p → Ends p (after_lines next lines)) → Ends p (after_lines (after_line d line) lines)
    by_line (Ok next) at e k rest =
        let same : after_line d line ≡ next = ap (λ r. (going_on d r).0) at in
        rest (after_line d line) k (ap (λ x. lines_after source_grammar (n + 1) x lines) same ∙ e)
    by_line (Err kind) at e k rest = absurd cc

-- the code of a closed operation is all counted
code_counted : (d : Drafted) (o : ℕ) → IsDraft d → length (get_or (map (λ (operation : Operation). operation_code operation.body) d.operations) o []) ≤ (standing_at d o).0
code_counted d o h = by_operations d.operations o h.operations
  where
    by_operations : (os : List Operation) (o : ℕ) → AllByRecursion (IsDone (length d.words) (length d.locks)) os
        → length (get_or (map (λ (operation : Operation). operation_code operation.body) os) o []) ≤ (get_or (map closed_standing os ++ open_standing d.begun) o (0, [])).0
    by_operations [] o all = omega arith
    by_operations (x ∷ xs) zero all = let few = all.0.few in omega arith
    by_operations (x ∷ xs) (suc o) all = by_operations xs o all.1

each_from : (lines : List (List ℕ)) (o q : ℕ) → q < (standing_at (after_lines nothing lines) o).0 → is_some (origin_from 1 nothing lines o q) ≡ true
each_from [] o q lt = absurd (let none : standing_at nothing o ≡ (0, []) = get_past [] o (0, []) (omega arith) in omega (arith, ap (λ (s : Standing). s.0) none))
each_from (line ∷ lines) o q lt = comes_from 1 nothing line lines o q lt

-- of each instruction there is an entry
pub each_there : (lines : List (List ℕ)) (origins : Origins) → ((o p : ℕ) → slice_get (entries_at origins.operations.items o) p ≡ origin_from 1 nothing lines o p) → HasEach lines origins
each_there lines origins are p is o = by_len (length (code_of p o)) counted
  where
    end : Ends p (after_lines nothing lines)
    end = lines_end 1 nothing lines p nothing_is is

    counted : length (code_of p o) ≤ (standing_at (after_lines nothing lines) o).0
    counted = subst (λ os. length (get_or (map (λ (operation : Operation). operation_code operation.body) os) o []) ≤ (standing_at (after_lines nothing lines) o).0) (sym end.operations) (code_counted (after_lines nothing lines) o end.sound)

    within : (q : ℕ) → q < (standing_at (after_lines nothing lines) o).0 → q < length (entries_at origins.operations.items o)
    within q lt = by_entry (slice_get (entries_at origins.operations.items o) q) refl (ap is_some (are o q) ∙ each_from lines o q lt)
      where
        by_entry : (e : Option Entry) → slice_get (entries_at origins.operations.items o) q ≡ e → is_some e ≡ true → q < length (entries_at origins.operations.items o)
        by_entry None at some = absurd cc
        by_entry (Some x) at some = slice_get_within (entries_at origins.operations.items o) q x at

    by_len : (n : ℕ) → n ≤ (standing_at (after_lines nothing lines) o).0 → n ≤ length (entries_at origins.operations.items o)
    by_len zero le = omega arith
    by_len (suc n) le = let last = within n (omega arith) in omega arith
