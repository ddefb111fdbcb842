use Rattle.std.proofs.Common.{[], refl, ap, sym, ◌∙◌, subst, arith, rules}
use Rattle.lu_history.proofs.Derived.{outcomes_alike, outcomes_differ}
use Rattle.lu_trie.specs.Branches.{Branch}
use Rattle.lu_trie.specs.Conflicts.{IsDeterministic}
use Rattle.lu_trie.proofs.Conflicts.{diverges_from, never_diverges, deterministic, tells, told, det_below, rest_shorter, tells_none, tells_other, tells_same_none, tells_same_some}
use Rattle.lu_trie.proofs.trie.Trie.+conflict.Goals as goal

pub returns-in_err-of_thread-in-len1-up : goal.returns-in_err-of_thread-in-len1-up
returns-in_err-of_thread-in-len1-up g t c =
    let none = rw c.deref.ensures.value at c.in_err-of_thread-in-len1-up.ensures.none in
    rw (← c.self.view_is) (tells _ _ _ (tells_none c.self.inside.ends c.self.inside.kids.items c.self.invariant.are c.args.history.now _ c.in-len1-up.len_at_least c.from_residual.result (search rules) none))

pub conflict-requires : goal.conflict-requires
conflict-requires g t c κs within =
    let kids = c.self.inside.kids.items in
    let found = rw c.deref.ensures.value at c.in_ok-of_thread-in-len1-up.ensures.some in
    let kid = c.index.result.now in
    (search rules, (within, deterministic _ (det_below c.self.inside.ends kids c.self.invariant.are (never_diverges _ (subst IsDeterministic (sym c.self.view_is) c.requires)) _ kid found.0 c.index.ensures kid.0 [] refl)))

pub returns-in_err-i-in-len1-up : goal.returns-in_err-i-in-len1-up
returns-in_err-i-in-len1-up g t c =
    let kids = c.self.inside.kids.items in
    let found = rw c.deref.ensures.value at c.in_ok-of_thread-in-len1-up.ensures.some in
    let kid = c.index.result.now in
    let thread = ap (λ (k : Branch). k.0.thread) c.index.ensures ∙ found.1 kid in
    rw (← c.self.view_is) (tells _ _ _ (tells_same_none c.self.inside.ends kids c.self.invariant.are c.args.history.now _ c.in-len1-up.len_at_least (never_diverges _ (subst IsDeterministic (sym c.self.view_is) c.requires)) _ kid found.0 c.index.ensures thread (outcomes_alike _ _ (sym c.eq.ensures ∙ c.if-eq.true)) _ c.conflict.result (search rules) (search rules) (told _ _ _ c.conflict.ensures)))

pub overflow_add-result : goal.overflow_add-result
overflow_add-result g t c =
    let has = (c.conflict.ensures c.in_ok-i-in-len1-up.i c.in_ok-i-in-len1-up.outcome).0 c.in_ok-i-in-len1-up.was in
    let lt = rest_shorter c.args.history.now has.0 _ _ c.in-len1-up.len_at_least (diverges_from _ _ _ _ has.2) in
    omega arith

pub returns-in_ok-i-in-len1-up : goal.returns-in_ok-i-in-len1-up
returns-in_ok-i-in-len1-up g t c =
    let kids = c.self.inside.kids.items in
    let found = rw c.deref.ensures.value at c.in_ok-of_thread-in-len1-up.ensures.some in
    let kid = c.index.result.now in
    let thread = ap (λ (k : Branch). k.0.thread) c.index.ensures ∙ found.1 kid in
    rw (← c.self.view_is) (tells _ _ _ (tells_same_some c.self.inside.ends kids c.self.invariant.are c.args.history.now _ c.in-len1-up.len_at_least (never_diverges _ (subst IsDeterministic (sym c.self.view_is) c.requires)) _ kid found.0 c.index.ensures thread (outcomes_alike _ _ (sym c.eq.ensures ∙ c.if-eq.true)) _ _ _ c.in_ok-i-in-len1-up.was (told _ _ _ c.conflict.ensures)))

pub returns-else-eq : goal.returns-else-eq
returns-else-eq g t c =
    let kids = c.self.inside.kids.items in
    let found = rw c.deref.ensures.value at c.in_ok-of_thread-in-len1-up.ensures.some in
    let kid = c.index.result.now in
    let thread = ap (λ (k : Branch). k.0.thread) c.index.ensures ∙ found.1 kid in
    rw (← c.self.view_is) (tells _ _ _ (tells_other c.self.inside.ends kids c.self.invariant.are c.args.history.now _ c.in-len1-up.len_at_least (never_diverges _ (subst IsDeterministic (sym c.self.view_is) c.requires)) _ kid found.0 c.index.ensures thread (outcomes_differ _ _ (sym c.eq.ensures ∙ c.if-eq.false))))
