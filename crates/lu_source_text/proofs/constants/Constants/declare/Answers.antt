use Rattle.std.proofs.Common.{◌≡◌, ap, ◌∙◌}
use Rattle.std.specs.Prelude.{map, ◌++◌, ◌∷◌, []}
use Rattle.std.specs.Str.{bytes_eq}
use Rattle.indexmap.proofs.CallerLemmas.{insert_entry-new}
use Rattle.lu_source_text.specs.Constants.{constant_from, constant_of}
use Rattle.lu_source_text.proofs.LookedUp.{is_last, is_value}
use Rattle.lu_source_text.proofs.constants.Constants.declare.Goals as goal

pub returns : goal.returns
returns c =
    let spelled : c.in_ok-name.name.items ≡ c.args.name.now = c.in_ok-name.ensures.items ∙ c.as_bytes.ensures in
    let none =
    is_value c.self.inside.values.entries c.in_ok-name.name.items
    ∙ ap (λ cs. constant_from cs c.in_ok-name.name.items) c.self.view_is
    ∙ ap (constant_from c.args.self.now) spelled ∙ c.requires in
    let entries = c.in_ok-insert.ensures.entries ∙ insert_entry-new (λ a b. bytes_eq a.items b.items) c.self.inside.values c.in_ok-name.name c.args.value none in
    ap (map constant_of) entries ∙ is_last c.self.inside.values.entries (c.in_ok-name.name, c.args.value)
    ∙ ap (λ cs. cs ++ constant_of (c.in_ok-name.name, c.args.value) ∷ []) c.self.view_is
    ∙ ap (λ w. c.args.self.now ++ record { name = w; value = c.args.value } ∷ []) spelled
