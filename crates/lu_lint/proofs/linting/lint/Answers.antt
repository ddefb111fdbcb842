use Rattle.std.proofs.Common.{rules, refl}
use Rattle.std.proofs.lemmas.List.Sorted.{IsPermutation-map, IsNonDecreasingBy-from_sort_by_key, answers_always}
use Rattle.lu_lint.specs.declared.remark.Said.{Said}
use Rattle.lu_lint.specs.declared.remark.Remark.{Remark}
use Rattle.lu_lint.specs.Said.{said_of}
use Rattle.lu_lint.proofs.KeptOrder.{stable_parts}
use Rattle.lu_lint.proofs.linting.lint.Goals as goal

abbrev with_said : Remark → Said → Remark
with_said r said = record r { said = said }

pub returns-clause-said : goal.returns-clause-said
returns-clause-said over c =
    let found = c.in_ok-remarks.remarks.items in
    let moved = c.in_ok-sort_by_key.ensures.permutation in
    let stable = c.in_ok-sort_by_key.ensures.stable (λ r. r.said.line) (answers_always _ _ _ (λ f a r next called. search rules)) in
    (said_of found, c.in_ok-remarks.ensures, IsPermutation-map (λ r. r.said) _ _ moved, stable_parts (λ (r : Remark). r.said) (λ (s : Said). s.line) with_said (λ r s. refl) found _ moved stable)

pub returns-clause-ordered : goal.returns-clause-ordered
returns-clause-ordered over c = IsNonDecreasingBy-from_sort_by_key (λ r. r.said.line) _ c.in_ok-sort_by_key.ensures.sorted (λ a r q k. search rules)
