use Rattle.std.proofs.Common.{◌≡◌, ◌∙◌, ◌++◌, ap, length, rules, string_bytes}
use Rattle.lu_replay.specs.Text.{replay_text}
use Rattle.lu_picture.specs.declared.head.PictureSize.{PictureSize}
use Rattle.lu_picture.specs.Shapes.{heading}
use Rattle.lu_picture.specs.Pictures.{body, events, head, picture_size}
use Rattle.lu_picture.specs.Written.{said_by}
use Rattle.lu_picture.proofs.drawing.write_whole.Goals as goal

pub returns : goal.returns
returns c =
    let s = c.args.machine.now in
    let d = c.args.drawing.now in
    let why = said_by c.args.why in
    let words = heading s.component c.args.moves c.args.status in
    let replay = replay_text (events d.marks) c.args.status in
    let below = body c.args.how.now s d why in
    let written : string_bytes c.write_heading.new.text ≡ words = search rules in
    let replayed : string_bytes c.in_ok-replay.replay ≡ replay = search rules in
    let letters : c.len.result ≡ length words = search rules in
    let size : c.in_ok-size.size ≡ picture_size s d why (length words) = c.in_ok-size.ensures ∙ ap (λ n. picture_size s d why n) letters in
    let begun : string_bytes c.write_head.new.text ≡ head c.in_ok-size.size (string_bytes c.write_heading.new.text) (string_bytes c.in_ok-replay.replay) = search rules in
    let all : string_bytes c.write_body.new.text ≡ string_bytes c.write_head.new.text ++ below = search rules in
    all
    ∙ (ap (λ x. x ++ below) begun
    ∙ (ap (λ (x : PictureSize). head x (string_bytes c.write_heading.new.text) (string_bytes c.in_ok-replay.replay) ++ below) size
    ∙ (ap (λ x. head (picture_size s d why (length words)) x (string_bytes c.in_ok-replay.replay) ++ below) written
    ∙ ap (λ x. head (picture_size s d why (length words)) words x ++ below) replayed)))
