use Rattle.std.proofs.Common.{◌≡◌, Some, None, true, false, sym, ap, ◌∙◌}
use Rattle.std.specs.Prelude.{is_some, if◌then◌else◌}
use Rattle.std.specs.List.{filter_map, list_all}
use Rattle.lu_text.specs.Lines.{texts}
use Rattle.lu_text.specs.Numbers.{value_in}
use Rattle.lu_test.proofs.Parts.{all_texts, filter_map_texts}
use Rattle.lu_run.proofs.words.numbers_in.Goals as goal

pub returns-then-not-are_values : goal.returns-then-not-are_values
returns-then-not-are_values c =
    let words = texts c.args.words.now in
    let all = all_texts (λ word. is_some (value_in word)) c.args.words.now in
    let no : list_all (λ word. is_some (value_in word)) words ≡ false = sym all ∙ (sym c.are_values.ensures ∙ c.if-not-are_values.true) in
    sym (ap (λ b. if b then Some (filter_map value_in words) else None) no)

pub returns : goal.returns
returns c =
    let words = texts c.args.words.now in
    let all = all_texts (λ word. is_some (value_in word)) c.args.words.now in
    let yes : list_all (λ word. is_some (value_in word)) words ≡ true = sym all ∙ (sym c.are_values.ensures ∙ c.if-not-are_values.false) in
    ap Some (c.in_ok-values_of.ensures ∙ filter_map_texts value_in c.args.words.now) ∙ sym (ap (λ b. if b then Some (filter_map value_in words) else None) yes)
