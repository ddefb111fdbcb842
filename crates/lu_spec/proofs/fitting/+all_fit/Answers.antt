use Rattle.std.proofs.Common.{rules, arith, ◌≡◌, ◌<◌, ◌-◌, ℕ, length, get_or, refl, sym, ap, subst, ◌∙◌}
use Rattle.std.proofs.lemmas.List.{get_or_past, length-set}
use Rattle.lu_trie.proofs.Trees.{branch_lighter}
use Rattle.lu_spec.specs.Specs.{AllFitIn}
use Rattle.lu_spec.proofs.Rooms.{lessened, kid_fits, fits_kid, kid_full, all_fit}
use Rattle.lu_spec.proofs.fitting.+all_fit.Goals.{then-thread-ge-MOST_THREADS-via-then-thread-ge-MOST_THREADS, then-thread-ge-MOST_THREADS-via-else-thread-ge-MOST_THREADS+then-left-thread-eq0}
use Rattle.lu_spec.proofs.fitting.+all_fit.Goals as goal

pub returns-then-thread-ge-MOST_THREADS : goal.returns-then-thread-ge-MOST_THREADS
returns-then-thread-ge-MOST_THREADS g t c =
    let law = g.met.T.SerialTree.branching c.args.tree.now c.args.place c.requires.place in
    let op = c.kid-below.result.0 in
    let none : get_or c.args.left op.thread 0 ≡ 0 = elim c.then-thread-ge-MOST_THREADS.branch [
      | then-thread-ge-MOST_THREADS-via-then-thread-ge-MOST_THREADS w ↦ get_or_past c.args.left op.thread 0 (omega (arith, w.if-thread-ge-MOST_THREADS.true, c.from-thread.ensures, c.requires.size))
      | then-thread-ge-MOST_THREADS-via-else-thread-ge-MOST_THREADS+then-left-thread-eq0 w ↦ ap (λ (i : ℕ). get_or c.args.left i 0) (sym c.from-thread.ensures) ∙ w.if-left-thread-eq0.true
    ] in
    (λ is. absurd cc, λ all. absurd (kid_full c.args.left (g.T.SerialTree.below c.args.tree.now c.args.place) law c.loop-i.i op _ c.kid-below.ensures.kid none all))

pub all_fit-requires : goal.all_fit-requires
all_fit-requires g t c κs w =
    let law = g.met.T.SerialTree.branching c.args.tree.now c.args.place c.requires.place in
    (let lt = branch_lighter _ law c.loop-i.i _ c.kid-below.ensures.kid in search (rules, lt), (w.0, (w.1, (c.kid-below.ensures.place, length-set c.args.left c.from-thread.result (get_or c.args.left c.from-thread.result 0 - 1) ∙ c.requires.size))))

pub returns-then-not-all_fit : goal.returns-then-not-all_fit
returns-then-not-all_fit g t c =
    let law = g.met.T.SerialTree.branching c.args.tree.now c.args.place c.requires.place in
    let op = c.kid-below.result.0 in
    let below = g.T.SerialTree.below c.args.tree.now c.kid-below.result.1 in
    let within : op.thread < length c.args.left = omega (arith, c.from-thread.ensures, c.requires.size) in (
      λ is. absurd cc,
      λ all.
          let kid = fits_kid c.args.left (g.T.SerialTree.below c.args.tree.now c.args.place) law c.loop-i.i op below c.kid-below.ensures.kid within all in
          let same = subst (λ (i : ℕ). AllFitIn (lessened c.args.left i) below) (sym c.from-thread.ensures) kid in
          let yes_it_is = c.all_fit.ensures.1 same in
          absurd (let no_it_is_not = c.if-not-all_fit.true in cc),
    )

pub loop-i-preserved : goal.loop-i-preserved
loop-i-preserved g t c =
    let law = g.met.T.SerialTree.branching c.args.tree.now c.args.place c.requires.place in
    let op = c.kid-below.result.0 in
    let below = g.T.SerialTree.below c.args.tree.now c.kid-below.result.1 in
    let within : op.thread < length c.args.left = omega (arith, c.from-thread.ensures, c.requires.size) in
    let some : 0 < get_or c.args.left op.thread 0 = subst (λ (i : ℕ). 0 < get_or c.args.left i 0) c.from-thread.ensures (omega (arith, c.if-left-thread-eq0.false)) in
    let kid = subst (λ (i : ℕ). AllFitIn (lessened c.args.left i) below) c.from-thread.ensures (c.all_fit.ensures.0 (search rules)) in
    kid_fits c.args.left (g.T.SerialTree.below c.args.tree.now c.args.place) law c.loop-i.i op below c.kid-below.ensures.kid within some c.loop-i.invariant kid

pub returns : goal.returns
returns g t c =
    let law = g.met.T.SerialTree.branching c.args.tree.now c.args.place c.requires.place in
    (λ is. all_fit c.args.left (g.T.SerialTree.below c.args.tree.now c.args.place) c.loop-i.i law (omega (arith, c.kid_count-i-end.ensures, c.loop-i-test.false)) c.loop-i.invariant, λ all. refl)
