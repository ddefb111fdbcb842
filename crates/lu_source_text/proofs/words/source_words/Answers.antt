use Rattle.std.proofs.Common.{rules, ◌≡◌, false, drop, take, ap, ◌∙◌}
use Rattle.lu_source_text.specs.Grammar.{is_at_end, item_len}
use Rattle.lu_source_text.proofs.Worded.{word_more}
use Rattle.lu_source_text.proofs.words.source_words.Goals as goal

pub loop-rest-preserved-in_ok-push : goal.loop-rest-preserved-in_ok-push
loop-rest-preserved-in_ok-push c =
    let rest = c.loop-rest.rest.now in
    let some : is_at_end rest ≡ false = search rules in
    let no_blank : c.is_blank.result ≡ false = search rules in
    let front : c.split_at.result.0.now ≡ take (item_len rest) rest = c.split_at.ensures.front ∙ ap (λ n. take n rest) c.item_len.ensures.len in
    let back : c.split_at.result.1.now ≡ drop (item_len rest) rest = c.split_at.ensures.back ∙ ap (λ n. drop n rest) c.item_len.ensures.len in
    word_more c.loop-rest.words.items c.push.new.self.items c.split_at.result.0 rest c.split_at.result.1.now c.args.line.now c.is_blank.result c.loop-rest.invariant some c.is_blank.ensures no_blank front back c.in_ok-push.ensures.items
