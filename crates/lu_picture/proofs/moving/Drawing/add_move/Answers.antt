use Rattle.std.proofs.Common.{◌≡◌, ◌+◌, ◌++◌, is_some, rules, refl, subst, string_bytes}
use Rattle.lu_machine.specs.Steps.{is_at_local}
use Rattle.lu_picture.specs.Shown.{label}
use Rattle.lu_picture.specs.Shapes.{height_by, row, shown_step, step_words}
use Rattle.lu_picture.specs.Pictures.{Drawing, Grows, marked, next_row}
use Rattle.lu_picture.proofs.Drawn.{move_more}
use Rattle.lu_picture.proofs.moving.Drawing.add_move.Goals as goal

pub returns : goal.returns
returns c =
    let how = c.args.how.now in
    let s = c.args.machine.now in
    let m = c.args.next in
    let here = c.self.inside in
    let event = c.step_once-event.result in
    let local = c.is_at_local-local.result in
    let below = string_bytes c.run_on.new.text in
    let d : Drawing = record { moves = here.moves; edge = here.edge; marks = here.marks.items; rows = string_bytes here.rows } in
    let e : Drawing = record { moves = here.moves + 1; edge = here.edge + c.row_height.result; marks = c.mark_event.new.marks.items; rows = string_bytes c.write_row.new.text } in
    let told = string_bytes c.write_shown_step.new.text in
    let said = string_bytes c.write_step_label.new.text in
    let at_local : local ≡ is_at_local s m.thread = search rules in
    let has_event = c.is_some.result in
    let with_event : has_event ≡ is_some event = search rules in
    let tells : told ≡ shown_step how s m = search rules in
    let says : said ≡ label (step_words how s m) = search rules in
    let marks : e.marks ≡ d.marks ++ marked d.edge event = search rules in
    let label_is : c.as_str.result.now ≡ said = search rules in
    let words_is : c.as_str-2.result.now ≡ told = search rules in
    let below_is : c.as_str-3.result.now ≡ below = search rules in
    let rows : e.rows ≡ d.rows ++ row local has_event (next_row d m) said told below = rw (label_is, words_is, below_is) at c.in_ok-write_row.ensures in
    let moves : e.moves ≡ d.moves + 1 = refl in
    let edge : e.edge ≡ d.edge + height_by local = search rules in
    let drawn : Grows how d s m c.run_on.new.machine e =
    move_more how d s m c.step_once-event.new.self c.run_on.new.machine event c.more_local-more.result local has_event told said below e c.step_once-event.ensures c.more_local-more.ensures at_local with_event tells says (rw c.new-below.ensures.bytes at c.in_ok-run_on.ensures) moves edge marks rows in
    subst (λ (x : Drawing). Grows how x s m c.run_on.new.machine e) c.self.view_is drawn
