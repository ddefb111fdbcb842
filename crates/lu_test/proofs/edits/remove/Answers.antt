use Rattle.std.proofs.Common.{◌∙◌, sym, subst}
use Rattle.lu_test.specs.Matrix.{IsMatrix}
use Rattle.lu_test.proofs.FewerCalls.{removed, keeps_limits, without_made}
use Rattle.lu_test.proofs.edits.remove.Goals as goal

pub of_calls-requires : goal.of_calls-requires
of_calls-requires c =
    let m = c.args.matrix.now in
    let setup = c.in_ok-setup.ensures ∙ (c.as_slice.ensures ∙ c.setup.ensures.calls) in
    let threads = removed m c.in_ok-threads.threads.items c.args.t c.args.k c.from.result c.from-2.result _ c.remove.new.self
    (c.in_ok-threads.ensures ∙ c.as_slice-2.ensures.calls) c.from.ensures c.from-2.ensures c.index_mut.ensures.value c.remove.ensures c.requires in
    subst IsMatrix (sym (without_made m c.args.t c.args.k _ _ setup threads)) (keeps_limits m c.args.t c.args.k c.as_slice-2.ensures.sound c.requires)

pub returns : goal.returns
returns c =
    let m = c.args.matrix.now in
    let setup = c.in_ok-setup.ensures ∙ (c.as_slice.ensures ∙ c.setup.ensures.calls) in
    let threads = removed m c.in_ok-threads.threads.items c.args.t c.args.k c.from.result c.from-2.result _ c.remove.new.self
    (c.in_ok-threads.ensures ∙ c.as_slice-2.ensures.calls) c.from.ensures c.from-2.ensures c.index_mut.ensures.value c.remove.ensures c.requires in
    c.of_calls.ensures ∙ without_made m c.args.t c.args.k _ _ setup threads
