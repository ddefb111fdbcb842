use Rattle.std.proofs.Common.{rules, ◌≡◌, [], ◌∷◌, sym, subst}
use Rattle.lu_test.specs.Matrix.{IsMatrix}
use Rattle.lu_test.proofs.FewerCalls.{alone_limits, alone_made}
use Rattle.lu_test.proofs.edits.setup_alone.Goals as goal

pub of_calls-requires : goal.of_calls-requires
of_calls-requires c =
    let m = c.args.matrix.now in
    let setup : c.new-2.result ≡ [] = search rules in
    let threads : c.push.new.self.items ≡ m.setup ∷ [] = search rules in
    subst IsMatrix (sym (alone_made m _ _ setup threads)) (alone_limits m c.setup.ensures.sound)
