use Rattle.std.proofs.Common.{◌≡◌, Some, [], ◌∷◌, ◌++◌, slice_get, true, refl, sym, subst, arith, rules, inl, inr, append_assoc}
use Rattle.std.proofs.lemmas.Bool.{cases_lt}
use Rattle.lu_trie.specs.Members.{contains}
use Rattle.lu_trie.specs.Branches.{branches_of}
use Rattle.lu_trie.proofs.Trees.{branch_lighter}
use Rattle.lu_witness.specs.Witnesses.{IsWitness}
use Rattle.lu_witness.proofs.Beginnings.{begun_push}
use Rattle.lu_witness.proofs.Finding.{goes_on_kid, goes_on_here, goes_nowhere, witness_next}
use Rattle.lu_witness.proofs.search.+finds.Goals.{else-is_next-via-then-is_next+else-finds, else-is_next-via-else-is_next}
use Rattle.lu_witness.proofs.search.+finds.Goals as goal

pub returns-then-ends : goal.returns-then-ends
returns-then-ends g t c p are begun =
    let law = g.met.T.SerialTree.branching c.args.tree.now c.args.place c.requires.place in
    let here = (c.ends.ensures p are begun).0 c.if-ends.true in
    (λ e. goes_on_here _ law c.args.history.now p here.0 here.1, λ on. refl)

pub finds-requires : goal.finds-requires
finds-requires g t c κs w =
    let law = g.met.T.SerialTree.branching c.args.tree.now c.args.place c.requires.place in
    (let lt = branch_lighter _ law c.loop-i.i _ c.kid-below.ensures.kid in search (rules, lt), (w.0, (w.1, (c.requires.history, c.kid-below.ensures.place))))

pub returns-then-finds : goal.returns-then-finds
returns-then-finds g t c p are begun =
    let law = g.met.T.SerialTree.branching c.args.tree.now c.args.place c.requires.place in
    let op = c.kid-below.result.0 in
    let next = (c.is_next.ensures.next p are).0 c.if-is_next.true in
    let on = (c.finds.ensures (p ++ op ∷ []) (c.one_more.ensures p op are refl) (begun_push c.args.history.now p op begun next)).0 c.if-finds.true in
    (λ e. goes_on_kid _ law c.args.history.now p c.loop-i.i _ c.kid-below.ensures.kid on, λ x. refl)

pub loop-i-preserved : goal.loop-i-preserved
loop-i-preserved g t c p are begun j b lt at q member witness = elim (cases_lt j c.loop-i.i) as (λ _. ⊥) [
  | inl below ↦ c.loop-i.invariant p are begun j b below at q member witness
  | inr above ↦
      let op = c.kid-below.result.0 in
      let place : j ≡ c.loop-i.i = omega arith in
      let here : slice_get (branches_of (g.T.SerialTree.below c.args.tree.now c.args.place)) c.loop-i.i ≡ Some b = subst (λ x. slice_get (branches_of (g.T.SerialTree.below c.args.tree.now c.args.place)) x ≡ Some b) place at in
      let same : b ≡ (op, g.T.SerialTree.below c.args.tree.now c.kid-below.result.1) = cc (here, c.kid-below.ensures.kid) in
      let starts : IsWitness (p ++ op ∷ q) c.args.history.now = subst (λ x. IsWitness (p ++ x.0 ∷ q) c.args.history.now) same witness in
      let next = witness_next c.args.history.now c.requires.history p q op starts in
      elim c.else-is_next.branch as (λ _. ⊥) [
        | else-is_next-via-then-is_next+else-finds w ↦
            let found = (w.finds.ensures (p ++ op ∷ []) (w.one_more.ensures p op are refl) (begun_push c.args.history.now p op begun next)).1 (q, subst (λ x. contains x.1 q ≡ true) same member, subst (λ x. IsWitness x c.args.history.now) (sym (append_assoc p (op ∷ []) q)) starts) in
            absurd (cc (found, w.if-finds.false))
        | else-is_next-via-else-is_next w ↦
            let is = (c.is_next.ensures.next p are).1 next in
            absurd (cc (is, w.if-is_next.false))
      ]
]

pub returns : goal.returns
returns g t c p are begun =
    let law = g.met.T.SerialTree.branching c.args.tree.now c.args.place c.requires.place in (
      λ e. cc,
      λ on. absurd (goes_nowhere _ law c.args.history.now p
          (λ m w. let e = (c.ends.ensures p are begun).1 (m, w) in cc (e, c.if-ends.false))
          (λ j b lt at q m w. c.loop-i.invariant p are begun j b (omega (arith, lt, c.kid_count-i-end.ensures)) at q m w)
          on.0 on.1 on.2),
    )
