use Rattle.std.proofs.Common.{◌≡◌, ◌≢◌, Some, ap, ◌∙◌, subst, arith, rules}
use Rattle.lu_judge.specs.Paths.{lines, IsAfter}
use Rattle.lu_judge.proofs.Reading.{lines_at}
use Rattle.lu_judge.proofs.Moving.{found_at, one_shorter, after_within, lower_next}
use Rattle.lu_judge.proofs.path.Path.find.Goals as goal

pub loop-at-init : goal.loop-at-init
loop-at-init c = (c.requires.links c.args.self.now.number c.index.result.now (found_at c.args.self.now.beginnings.items c.args.self.now.number c.index.result.now c.requires.number c.index.ensures)).above

pub index-beginning-requires : goal.index-beginning-requires
index-beginning-requires c =
    let bs = c.args.self.now.beginnings in
    let ne : c.loop-at.at ≢ 0 = search rules in
    omega (arith, after_within bs.items c.args.self.now.number c.loop-at.at (c.loop-at.invariant ne), bs.ok.0)

pub returns-then-eq : goal.returns-then-eq
returns-then-eq c = λ ne.
    let bs = c.args.self.now.beginnings.items in
    let b = c.index-beginning.result.now in
    let is = c.loop-at.invariant ne in
    let at = found_at bs c.loop-at.at b (after_within bs c.args.self.now.number c.loop-at.at is) c.index-beginning.ensures in
    let same : b.event ≡ c.args.event = search rules in
    lines_at bs c.loop-at.at b at ∙ ap (λ s. Some (s, b.event)) (one_shorter bs c.loop-at.at b c.args.self.now.number is.0 at is.1) ∙ ap (λ v. Some (c.args.self.now.number, v)) same

pub loop-at-smaller : goal.loop-at-smaller
loop-at-smaller c =
    let bs = c.args.self.now.beginnings.items in
    let b = c.index-beginning.result.now in
    let ne : c.loop-at.at ≢ 0 = search rules in
    let at = found_at bs c.loop-at.at b (after_within bs c.args.self.now.number c.loop-at.at (c.loop-at.invariant ne)) c.index-beginning.ensures in
    lower_next b.next c.loop-at.at (c.requires.links c.loop-at.at b at).lower ne

pub loop-at-preserved : goal.loop-at-preserved
loop-at-preserved c = λ some.
    let bs = c.args.self.now.beginnings.items in
    let b = c.index-beginning.result.now in
    let ne : c.loop-at.at ≢ 0 = search rules in
    let is = c.loop-at.invariant ne in
    let at = found_at bs c.loop-at.at b (after_within bs c.args.self.now.number c.loop-at.at is) c.index-beginning.ensures in
    subst (λ s. IsAfter (lines bs) s b.next) (one_shorter bs c.loop-at.at b c.args.self.now.number is.0 at is.1) ((c.requires.links c.loop-at.at b at).beside some)
