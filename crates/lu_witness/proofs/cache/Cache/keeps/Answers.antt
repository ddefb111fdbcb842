use Rattle.std.proofs.Common.{ap, ◌∙◌, is_some}
use Rattle.std.specs.Map.{lookup}
use Rattle.lu_witness.proofs.SameEvents.{events_eq}
use Rattle.lu_witness.proofs.Shown.{lookup_shown}
use Rattle.lu_witness.proofs.cache.Cache.keeps.Goals as goal

pub returns : goal.returns
returns g c =
    let shown = lookup_shown (events_eq c.events.result.now) c.self.inside.kept.entries in
    let kept = ap (λ s. lookup (events_eq c.events.result.now) s.kept.entries) c.self.view_is in
    c.contains.ensures
    ∙ ap is_some (shown ∙ kept)
    ∙ ap (λ h. is_some (lookup (events_eq h) c.args.self.now.kept.entries)) c.events.ensures.events
