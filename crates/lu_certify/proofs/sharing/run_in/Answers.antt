use Rattle.std.proofs.Common.{arith, ◌≡◌, All, Global, Vec, sym, ◌∙◌, ap, subst}
use Rattle.std.specs.Prelude.{slice_index_or}
use Rattle.std.proofs.lemmas.List.Elements.{All-push}
use Rattle.lu_certify.specs.declared.looked.FoundAt.{FoundAt}
use Rattle.lu_certify.specs.Looking.{AreFoundAt}
use Rattle.lu_certify.specs.Limited.{AreFoundIn}
use Rattle.lu_certify.proofs.sharing.run_in.Goals as goal

-- what the calling thread found joins what the others did
pub returns-in-Ok-push : goal.returns-in-Ok-push
returns-in-Ok-push g c =
    let test = c.args.test in
    let Here : Vec FoundAt Global → Type 0 = λ list. AreFoundAt test.component.now test.matrix.now test.limits list.items in
    let found = c.in-Ok-join_promised.found in
    let all : All Here found.items =
    λ k d lt.
    (let long = c.in-Ok-join_promised.ensures.len in
    let many = found.ok in
    let there = c.loop.children.ok in
    let kept = (c.in-Ok-join_promised.ensures.each k d (omega (arith, lt, long, many))).1 in
    let promised : kept.handle.promise ≡ test = ap (λ h. h.promise) kept.handle_is ∙ c.loop.invariant.2 k kept.handle (omega (arith, lt, long, many, there)) in
    subst (λ x. AreFoundIn x (slice_index_or found.items k d)) promised kept.kept) in
    subst (All Here) (sym c.in-Ok-push.ensures.items) (All-push Here found.items c.look_at_cuts-mine.result all c.look_at_cuts-mine.ensures)
