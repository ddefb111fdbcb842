use Rattle.std.proofs.Common.{◌≡◌, Some, slice_get, true, Bool, if◌then◌else◌, List, ◌∷◌, [], ◌++◌, sym, ◌∙◌, ap, subst}
use Rattle.lu_machine.specs.declared.position.Position.{Position}
use Rattle.lu_machine.proofs.Positions.{position_eq}
use Rattle.lu_graph.specs.declared.edge.Edge.{Edge}
use Rattle.lu_graph.specs.declared.discovering.Discovered.{Discovered}
use Rattle.lu_graph.specs.Discovering.{discovery, edge}
use Rattle.lu_graph.proofs.OneState.{discovers}
use Rattle.lu_graph.proofs.discovering.discover.Goals as goal
use Rattle.lu_graph.proofs.discovering.discover.Goals.{then-is_new+in_ok-push, else-is_new}

pub returns : goal.returns
returns c =
    let old : Discovered = c.args.found.now in
    let mid : Discovered = c.if-is_new.found in
    let new : Discovered = record { positions = c.if-is_new.found.positions; discoveries = c.if-is_new.found.discoveries; edges = c.push-2.new.self } in
    let positions : mid.positions.keys ≡ c.insert_full.new.self.keys = elim c.if-is_new.branch as (λ _. c.if-is_new.found.positions.keys ≡ c.insert_full.new.self.keys) [
      | then-is_new+in_ok-push w ↦ ap (λ (x : Discovered). x.positions.keys) w.found-is
      | else-is_new w ↦ ap (λ (x : Discovered). x.positions.keys) w.found-is
    ] in
    let edges : mid.edges.items ≡ old.edges.items = elim c.if-is_new.branch as (λ _. c.if-is_new.found.edges.items ≡ c.args.found.now.edges.items) [
      | then-is_new+in_ok-push w ↦ ap (λ (x : Discovered). x.edges.items) w.found-is
      | else-is_new w ↦ ap (λ (x : Discovered). x.edges.items) w.found-is
    ] in
    let ways : mid.discoveries.items ≡ (if c.in_ok-to.is_new then old.discoveries.items ++ discovery c.args.from c.args.made ∷ [] else old.discoveries.items) = elim c.if-is_new.branch as (λ _. c.if-is_new.found.discoveries.items ≡ (if c.in_ok-to.is_new then c.args.found.now.discoveries.items ++ discovery c.args.from c.args.made ∷ [] else c.args.found.now.discoveries.items)) [
      | then-is_new+in_ok-push w ↦
          ap (λ (x : Discovered). x.discoveries.items) w.found-is ∙ (w.in_ok-push.ensures.items
          ∙ ap (λ (b : Bool). if b then c.args.found.now.discoveries.items ++ discovery c.args.from c.args.made ∷ [] else c.args.found.now.discoveries.items) (sym w.if-is_new.true))
      | else-is_new w ↦
          ap (λ (x : Discovered). x.discoveries.items) w.found-is
          ∙ ap (λ (b : Bool). if b then c.args.found.now.discoveries.items ++ discovery c.args.from c.args.made ∷ [] else c.args.found.now.discoveries.items) (sym w.if-is_new.false)
    ] in
    let stored = subst (λ (xs : List Position). (k : Position) × (slice_get xs c.in_ok-to.to ≡ Some k) × (position_eq c.in_ok-position.position k ≡ true)) (sym positions) c.in_ok-to.ensures.stored in
    discovers c.args.machine.now c.args.from c.args.made old new c.in_ok-position.position c.in_ok-to.to c.in_ok-position.ensures.here c.in_ok-position.ensures.stands c.in_ok-to.is_new
    stored c.in_ok-to.ensures.added (positions ∙ c.in_ok-to.ensures.keys) ways (c.in_ok-push-2.ensures.items ∙ ap (λ (xs : List Edge). xs ++ edge c.args.from c.in_ok-to.to ∷ []) edges)
