use Rattle.std.proofs.Common.{rules, arith, ◌≡◌, ◌++◌, ◌∷◌, ◌∙◌, List, [], ℕ, vec_len, refl, sym, ap, subst, append_assoc, append-nil}
use Rattle.std.specs.Prelude.{string_bytes}
use Rattle.std.specs.List.{flat_map}
use Rattle.std.proofs.lemmas.List.Concat.{flat_map-cons}
use Rattle.std.proofs.lemmas.Grind.{flat_map-append}
use Rattle.lu_machine.proofs.Orders.{popped}
use Rattle.lu_history.specs.declared.serial.SerialOp.{SerialOp}
use Rattle.lu_trie.proofs.Trees.{branch_lighter}
use Rattle.lu_spec.specs.SpecText.{history_line}
use Rattle.lu_spec.specs.Listed.{AreEnds, IsEndHere}
use Rattle.lu_spec.proofs.Ends.{here_listed, nothing_listed, kid_listed, all_listed}
use Rattle.lu_spec.proofs.writer.+write_below.Goals.{then-is_end+in_ok-write_line, else-is_end}
use Rattle.lu_spec.proofs.writer.+write_below.Goals as goal

pub loop-i-init : goal.loop-i-init
loop-i-init g t c =
    let law = g.met.T.SerialTree.branching c.args.tree.now c.args.place c.requires in
    let below = g.T.SerialTree.below c.args.tree.now c.args.place in
    let path = c.args.path.now.items in
    record {
      path = refl;
      text = elim c.if-is_end.branch [
        | then-is_end+in_ok-write_line w ↦
            let here = subst (λ (p : List SerialOp). IsEndHere p below) c.deref.ensures.value (c.is_end.ensures.0 (search rules)) in
            let line : string_bytes c.if-is_end.text ≡ string_bytes c.args.text.now ++ history_line path =
            ap string_bytes w.text-is ∙ (w.in_ok-write_line.ensures ∙ ap (λ (h : List SerialOp). string_bytes c.args.text.now ++ history_line h) w.deref-then-is_end.ensures.value) in
            let one : flat_map history_line (path ∷ []) ≡ history_line path = flat_map-cons history_line path [] ∙ append-nil (history_line path) in
            (path ∷ [], here_listed path below law here, line ∙ ap (λ (x : List ℕ). string_bytes c.args.text.now ++ x) (sym one))
        | else-is_end w ↦
            let fails : IsEndHere path below → ⊥ = λ here.
            let yes_it_is = c.is_end.ensures.1 (subst (λ (p : List SerialOp). IsEndHere p below) (sym c.deref.ensures.value) here) in
            let no_it_is_not = w.if-is_end.false in
            absurd cc in
            let none : List (List SerialOp) = [] in
            (none, nothing_listed path below law fails, ap string_bytes w.text-is ∙ sym (append-nil (string_bytes c.args.text.now)))
      ];
    }

pub write_below-requires : goal.write_below-requires
write_below-requires g t c κs within =
    let law = g.met.T.SerialTree.branching c.args.tree.now c.args.place c.requires in
    (let lt = branch_lighter _ law c.loop-i.i _ c.kid-below.ensures.kid in search (rules, lt), search (rules, within, c.kid-below.ensures.place))

pub loop-i-preserved : goal.loop-i-preserved
loop-i-preserved g t c =
    let law = g.met.T.SerialTree.branching c.args.tree.now c.args.place c.requires in
    let below = g.T.SerialTree.below c.args.tree.now c.args.place in
    let path = c.args.path.now.items in
    let op = c.kid-below.result.0 in
    let kid = g.T.SerialTree.below c.args.tree.now c.kid-below.result.1 in
    let pushed : c.push.new.self.items ≡ path ++ op ∷ [] = c.in_ok-push.ensures.items ∙ ap (λ (p : List SerialOp). p ++ op ∷ []) c.loop-i.invariant.path in
    let back : c.write_below.new.path.items ≡ path ++ op ∷ [] = c.in_ok-write_below.ensures.path ∙ pushed in
    let so_far = c.loop-i.invariant.text in
    let more = c.in_ok-write_below.ensures.text in
    let ends = subst (λ (p : List SerialOp). AreEnds p kid more.0) pushed more.1 in
    record {
      path = c.pop.ensures.rest ∙ popped path c.write_below.new.path.items op (vec_len c.write_below.new.path) back (c.write_below.new.path.ok.0);
      text = (
        so_far.0 ++ more.0,
        kid_listed path below law c.loop-i.i op kid c.kid-below.ensures.kid so_far.0 more.0 so_far.1 ends,
        more.2 ∙ (ap (λ (x : List ℕ). x ++ flat_map history_line more.0) so_far.2 ∙ (append_assoc (string_bytes c.args.text.now) (flat_map history_line so_far.0) (flat_map history_line more.0)
            ∙ ap (λ (x : List ℕ). string_bytes c.args.text.now ++ x) (sym (flat_map-append history_line so_far.0 more.0)))),
      );
    }

pub returns-clause-text : goal.returns-clause-text
returns-clause-text g t c =
    let law = g.met.T.SerialTree.branching c.args.tree.now c.args.place c.requires in
    let so_far = c.loop-i.invariant.text in
    (so_far.0, all_listed c.args.path.now.items (g.T.SerialTree.below c.args.tree.now c.args.place) law c.loop-i.i so_far.0 (omega (arith, c.kid_count-i-end.ensures, c.loop-i-test.false)) so_far.1, so_far.2)
