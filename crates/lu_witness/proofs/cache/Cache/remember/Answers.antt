use Rattle.std.proofs.Common.{rules, inl, inr, ap, sym, ◌∙◌}
use Rattle.lu_witness.proofs.SameEvents.{same_events, events_eq}
use Rattle.lu_witness.proofs.Right.{right_put, outcome, moved_verdict}
use Rattle.lu_witness.proofs.Shown.{put_view}
use Rattle.lu_witness.specs.Caches.{shown}
use Rattle.lru.specs.LruCache.{lru_cache}
use Rattle.std.proofs.Common.{map}
use Rattle.lu_witness.proofs.cache.Cache.remember.Goals as goal

pub invariant_of-self : goal.invariant_of-self
invariant_of-self g c =
    let tree = ap (λ s. g.T.SerialTree.members s.tree) c.self.view_is in
    elim (outcome c.put.result c.put.ensures.entries c.put.ensures.err) [
      | inl e ↦ rw e (right_put _ _ (λ k l h. same_events k.items l.items h) c.self.inside.kept c.extend_from_slice.new.self c.args.found c.self.invariant
          (moved_verdict _ _ _ _ _ (sym tree) (search rules) c.requires))
      | inr e ↦ rw e c.self.invariant
    ]

pub returns-clause-entries : goal.returns-clause-entries
returns-clause-entries g c =
    let kept = ap (λ s. s.kept) c.self.view_is in
    elim (outcome c.put.result c.put.ensures.entries c.put.ensures.err) [
      | inl e ↦ inr (put_view events_eq c.self.inside.kept c.put.new.self c.args.self.now.kept c.extend_from_slice.new.self c.args.events.now c.args.found kept (search rules) e)
      | inr e ↦ inl (ap (λ d. lru_cache (map shown d.entries) d.cap) e ∙ kept)
    ]
