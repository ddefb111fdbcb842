use Rattle.std.proofs.Common.{◌≡◌, ◌<◌, ◌++◌, ◌∷◌, [], true, false, length, ap, sym, ◌∙◌, subst}
use Rattle.lu_history.specs.Histories.{Fits, IsWellFormed}
use Rattle.lu_history.proofs.Events.{push_history}
use Rattle.lu_judge.specs.Trails.{IsTrail, history_in}
use Rattle.lu_judge.specs.Paths.{AreGoodAsMarked, history_of}
use Rattle.lu_judge.proofs.Plain.{alone, among, room_for}
use Rattle.lu_judge.proofs.trail.Trail.push.Goals.{then-is_full+else-not-most_are_known, else-is_full}
use Rattle.lu_judge.proofs.trail.Trail.push.Goals as goal

pub push-requires : goal.push-requires
push-requires g c =
    let is = c.if-self.true in
    let trail : IsTrail (g.T.SerialTree.members c.self.inside.tree.now) true c.self.inside.events c.self.inside.path = rw is at c.self.invariant in
    let fits : Fits (history_in c.self.inside.is_plain c.self.inside.events c.self.inside.path) c.args.event = subst (λ s. Fits s.history c.args.event) (sym c.self.view_is) c.requires in
    let here : Fits c.self.inside.events c.args.event = rw is at fits in
    room_for c.self.inside.events c.args.event trail.well_formed here

pub invariant_of-self : goal.invariant_of-self
invariant_of-self g c =
    let members = g.T.SerialTree.members c.self.inside.tree.now in
    let is = c.if-self.true in
    let trail : IsTrail members true c.self.inside.events c.self.inside.path = rw is at c.self.invariant in
    let fits : Fits (history_in c.self.inside.is_plain c.self.inside.events c.self.inside.path) c.args.event = subst (λ s. Fits s.history c.args.event) (sym c.self.view_is) c.requires in
    let here : Fits c.self.inside.events c.args.event = rw is at fits in
    let well = push_history c.self.inside.events c.args.event trail.well_formed here in
    rw is (alone members c.push.new.self c.self.inside.path trail.path_is trail.good (subst IsWellFormed (sym c.push.ensures) well))

pub invariant_of-self-then-follow : goal.invariant_of-self-then-follow
invariant_of-self-then-follow g c =
    let members = g.T.SerialTree.members c.self.inside.tree.now in
    rw c.if-self.false (among members c.self.inside.events c.follow.new.self c.follow.ensures.path (c.follow.ensures.good members c.self.invariant.good))

pub push-requires-then-not-most_are_known : goal.push-requires-then-not-most_are_known
push-requires-then-not-most_are_known g c =
    let path = c.self.inside.path in
    let fits : Fits (history_in c.self.inside.is_plain c.self.inside.events path) c.args.event = subst (λ s. Fits s.history c.args.event) (sym c.self.view_is) c.requires in
    let here : Fits (history_of path) c.args.event = rw c.if-self.false at fits in
    let same : c.follow.new.self ≡ path = c.follow.ensures.same c.if-follow.false in
    let written : c.write.new.events ≡ history_of path = c.write.ensures ∙ ap (λ p. history_of p) same in
    let few = room_for (history_of path) c.args.event c.self.invariant.path_is.well_formed here in
    subst (λ h. length h < 128) (sym written) few

pub invariant_of-self-then-not-most_are_known : goal.invariant_of-self-then-not-most_are_known
invariant_of-self-then-not-most_are_known g c =
    let members = g.T.SerialTree.members c.self.inside.tree.now in
    let path = c.self.inside.path in
    let fits : Fits (history_in c.self.inside.is_plain c.self.inside.events path) c.args.event = subst (λ s. Fits s.history c.args.event) (sym c.self.view_is) c.requires in
    let here : Fits (history_of path) c.args.event = rw c.if-self.false at fits in
    let same : c.follow.new.self ≡ path = c.follow.ensures.same c.if-follow.false in
    let written : c.write.new.events ≡ history_of path = c.write.ensures ∙ ap (λ p. history_of p) same in
    let well = push_history (history_of path) c.args.event c.self.invariant.path_is.well_formed here in
    let all : c.push-then-not-most_are_known.new.self ≡ history_of path ++ c.args.event ∷ [] = c.push-then-not-most_are_known.ensures ∙ ap (λ h. h ++ c.args.event ∷ []) written in
    alone members c.push-then-not-most_are_known.new.self c.follow.new.self c.follow.ensures.path (c.follow.ensures.good members c.self.invariant.good) (subst IsWellFormed (sym all) well)

pub invariant_of-self-2 : goal.invariant_of-self-2
invariant_of-self-2 g c =
    let now = c.if-is_full.self-inside in
    let members = g.T.SerialTree.members now.tree.now in
    elim c.if-is_full.branch [
      | then-is_full+else-not-most_are_known w ↦
          (let plain : now.is_plain ≡ false = ap (λ x. x.is_plain) w.self-inside-is ∙ c.if-self.false in
          let good = c.add.ensures.good members (subst (AreGoodAsMarked members) (sym (ap (λ x. x.path) w.self-inside-is)) (w.renew.ensures.good members)) in
          rw plain (among members now.events c.add.new.self c.add.ensures.path good))
      | else-is_full w ↦
          (let plain : now.is_plain ≡ false = ap (λ x. x.is_plain) w.self-inside-is ∙ c.if-self.false in
          let same : now.tree ≡ c.self.inside.tree = ap (λ x. x.tree) w.self-inside-is in
          let was : AreGoodAsMarked members c.self.inside.path = subst (λ x. AreGoodAsMarked (g.T.SerialTree.members x.now) c.self.inside.path) (sym same) c.self.invariant.good in
          let good = c.add.ensures.good members (subst (AreGoodAsMarked members) (sym (ap (λ x. x.path) w.self-inside-is)) (c.follow.ensures.good members was)) in
          rw plain (among members now.events c.add.new.self c.add.ensures.path good))
    ]
