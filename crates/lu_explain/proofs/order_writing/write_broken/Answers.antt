use Rattle.std.proofs.Common.{◌≡◌, List, ◌++◌, codes, string_bytes, rules, subst}
use Rattle.std.specs.Prelude.{OnOk}
use Rattle.std.proofs.lemmas.Result.{on_ok_weaker}
use Rattle.lu_text.specs.Writing.{Writes}
use Rattle.lu_machine.specs.declared.event.Event.{Event}
use Rattle.lu_history.specs.Parts.{is_return}
use Rattle.lu_explain.specs.OrderLines.{broken_line, called_words, is_call, number_of, returned_words, stands_words}
use Rattle.lu_explain.specs.Runs.{Run, run_of}
use Rattle.lu_explain.proofs.Joined.{four_pieces}
use Rattle.lu_explain.proofs.order_writing.write_broken.Goals as goal

pub returns : goal.returns
returns c =
    let component = c.run.inside.component.now in
    let matrix = c.run.inside.matrix.now in
    let moves = c.run.inside.moves.now in
    let events = c.events-events.result.now in
    let broken = c.args.broken in
    let stands = stands_words component matrix broken in
    let returned = returned_words component matrix broken.first (number_of (is_return broken.first) events moves) in
    let called = called_words component matrix broken.second (number_of (is_call broken.second) events moves) in
    let old = string_bytes c.args.text.now in
    let one = string_bytes c.write_stands.new.text in
    let two = string_bytes c.write_returned.new.text in
    let three = string_bytes c.write_called.new.text in
    let new = string_bytes c.push.new.self in
    let is_returned = subst (λ n. two ≡ one ++ returned_words component matrix broken.first n) c.returned_at-returned.ensures c.in_ok-write_returned.ensures in
    let is_called = subst (λ n. three ≡ two ++ called_words component matrix broken.second n) c.called_at-called.ensures c.in_ok-write_called.ensures in
    let pushed : OnOk c.push.result (new ≡ three ++ codes "\n") = search rules in
    let wrote = on_ok_weaker c.push.result (λ more. four_pieces stands returned called (codes "\n") old one two three new c.in_ok-write_stands.ensures is_returned is_called more) pushed in
    let told = subst (λ (h : List Event). Writes c.push.result c.args.text.now c.push.new.self (broken_line (run_of component matrix h moves) broken)) c.events-events.ensures.events wrote in
    subst (λ (run : Run). Writes c.push.result c.args.text.now c.push.new.self (broken_line run broken)) c.run.view_is told
