use Rattle.std.proofs.Common.{◌<◌, length, sym, subst}
use Rattle.lu_trie.specs.Branches.{IsBranchOf, branches_of}
use Rattle.lu_spec.proofs.Deepened.{as_many_branches, beginnings_branch, branch_deepened}
use Rattle.lu_spec.proofs.beginnings.BeginningsSerialTree.kid.Goals as goal

pub kid-requires-clause-in_range : goal.kid-requires-clause-in_range
kid-requires-clause-in_range g c =
    let hs = g.T.SerialTree.below c.args.self.now c.args.place in
    let law = g.met.T.SerialTree.branching c.args.self.now c.args.place c.requires.place.0 in
    let lt = subst (λ n. c.args.i < n) (as_many_branches hs law) c.requires.in_range in
    subst (λ tree. c.args.i < length (branches_of (g.T.SerialTree.below tree c.args.place))) (sym c.self.view_is) lt

pub returns-clause-place : goal.returns-clause-place
returns-clause-place g c =
    let here = subst (λ tree. g.T.SerialTree.is_place tree c.kid.result.1) c.self.view_is c.kid.ensures.place in
    (here, beginnings_branch (g.T.SerialTree.below c.args.self.now c.kid.result.1) (g.met.T.SerialTree.branching c.args.self.now c.kid.result.1 here))

pub returns-clause-kid : goal.returns-clause-kid
returns-clause-kid g c =
    let hs = g.T.SerialTree.below c.args.self.now c.args.place in
    let law = g.met.T.SerialTree.branching c.args.self.now c.args.place c.requires.place.0 in
    let at = subst (λ tree. IsBranchOf (g.T.SerialTree.below tree c.args.place) c.args.i (c.kid.result.0, g.T.SerialTree.below tree c.kid.result.1)) c.self.view_is c.kid.ensures.kid in
    branch_deepened hs law c.args.i (c.kid.result.0, g.T.SerialTree.below c.args.self.now c.kid.result.1) at
