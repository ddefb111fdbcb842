use Rattle.std.proofs.Common.{rules, ◌≡◌, ◌+◌, ◌-◌, length, ◌∙◌, refl, take, sym, arith}
use Rattle.std.proofs.lemmas.List.{map_push}
use Rattle.lu_text.specs.Bundle.{separates}
use Rattle.lu_text.specs.Lines.{texts}
use Rattle.lu_text.proofs.Parts.{start, grown, ended}
use Rattle.lu_text.proofs.bundle.cut.Goals as goal

pub loop-rest-init : goal.loop-rest-init
loop-rest-init c = record { within = omega arith; whole = refl; told = rw c.new-parts.ensures.items (start (separates c.args.separators) c.args.text.now) }

pub overflow_sub-size : goal.overflow_sub-size
overflow_sub-size c =
    let l = c.loop-rest in
    let g = grown (separates c.args.separators) (texts l.parts.items) l.part.now c.cut_line.result.0.now c.cut_line.result.1.now l.rest.now l.size _ l.invariant.within l.invariant.whole c.cut_line.ensures.whole (c.cut_line.ensures.line (search rules)) (sym c.are.ensures ∙ c.if-are.false) l.invariant.told in
    omega (arith, g.counted)

pub loop-rest-preserved-in_ok-push : goal.loop-rest-preserved-in_ok-push
loop-rest-preserved-in_ok-push c =
    let l = c.loop-rest in
    record {
      within = omega arith;
      whole = refl;
      told = rw (c.in_ok-push.ensures.items, map_push _ l.parts.items _) (ended (separates c.args.separators) (texts l.parts.items) (take l.size l.part.now) c.cut_line.result.0.now c.cut_line.result.1.now l.rest.now _ (c.cut_line.ensures.line (search rules)) (sym c.are.ensures ∙ c.if-are.true) l.invariant.told);
    }

pub loop-rest-preserved : goal.loop-rest-preserved
loop-rest-preserved c =
    let l = c.loop-rest in
    let g = grown (separates c.args.separators) (texts l.parts.items) l.part.now c.cut_line.result.0.now c.cut_line.result.1.now l.rest.now l.size _ l.invariant.within l.invariant.whole c.cut_line.ensures.whole (c.cut_line.ensures.line (search rules)) (sym c.are.ensures ∙ c.if-are.false) l.invariant.told in
    let e : length l.part.now - length c.cut_line.result.1.now ≡ l.size + length c.cut_line.result.0.now = omega (arith, g.counted) in
    rw e (record { within = g.within; whole = g.whole; told = g.told })
