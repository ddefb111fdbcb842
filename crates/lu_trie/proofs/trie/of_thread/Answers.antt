use Rattle.std.proofs.Common.{◌≡◌, ◌≢◌, rules, tests}
use Rattle.std.proofs.lemmas.Iterator.{IsFirst-from_position, YieldsList-from_slice}
use Rattle.lu_trie.specs.Branches.{Branch}
use Rattle.lu_trie.proofs.Searched.{some_of, none_of}
use Rattle.lu_trie.proofs.trie.of_thread.Goals as goal

pub returns-clause-some : goal.returns-clause-some
returns-clause-some g c =
    let kids = c.args.kids.now in
    let t = c.args.thread in
    some_of kids t c.position.result (IsFirst-from_position _ _ c.position.result (λ (kid : Branch). kid.0.thread ≡ t) (λ (kid : Branch). kid.0.thread ≢ t) c.position.ensures.ran (YieldsList-from_slice kids cc) (λ x q k. search (rules, tests)) (λ x q k. search (rules, tests)))

pub returns-clause-none : goal.returns-clause-none
returns-clause-none g c =
    let kids = c.args.kids.now in
    let t = c.args.thread in
    none_of kids t c.position.result (IsFirst-from_position _ _ c.position.result (λ (kid : Branch). kid.0.thread ≡ t) (λ (kid : Branch). kid.0.thread ≢ t) c.position.ensures.ran (YieldsList-from_slice kids cc) (λ x q k. search (rules, tests)) (λ x q k. search (rules, tests)))
