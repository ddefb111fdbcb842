use Rattle.std.proofs.Common.{◌≡◌, true, false, Some, slice_get, refl, sym, ◌∙◌, subst}
use Rattle.lu_always.proofs.Marked.{marked_already, marks_none, marks_one}
use Rattle.lu_always.proofs.sinks.Marking.mark.Goals as goal

pub returns-in_ok-push : goal.returns-in_ok-push
returns-in_ok-push c =
    let open_at : slice_get c.args.self.now.marks.items c.args.vertex ≡ Some false = subst (λ x. slice_get x c.args.vertex ≡ Some false) c.as_slice.ensures.value (c.is_unmarked.ensures.0 c.if-is_unmarked.true) in
    marks_one c.args.vertex c.args.self.now _ open_at refl c.in_ok-push.ensures.items

pub returns-else-is_unmarked : goal.returns-else-is_unmarked
returns-else-is_unmarked c =
    marks_none (λ i. i ≡ c.args.vertex) c.args.self.now _ refl refl
    (λ i same lt. marked_already c.args.self.now.marks.items c.args.vertex i
    (λ unmarked. (let set = c.is_unmarked.ensures.1 (subst (λ x. slice_get x c.args.vertex ≡ Some false) (sym c.as_slice.ensures.value) unmarked) in let e : false ≡ true = sym c.if-is_unmarked.false ∙ set in cc)) same lt)
