use lib.Utf8.{encode}
use Rattle.std.proofs.Common.{◌≡◌, ◌≤◌, ◌++◌, ◌∷◌, ◌∙◌, [], List, ℕ, length, take, ap, append_assoc, arith}
use Rattle.std.specs.Prelude.{string_bytes, codes}
use Rattle.std.specs.List.{flat_map}
use Rattle.std.proofs.lemmas.List.{take_all}
use Rattle.lu_test.specs.declared.schedule.Move.{Move}
use Rattle.lu_test.specs.ScheduleText.{move_text, schedule_text}
use Rattle.lu_test.proofs.RoundTrip.{written_again}
use Rattle.lu_test.proofs.schedule_text.write_schedule.Goals as goal

pub returns-clause-again : goal.returns-clause-again
unfolding encode
returns-clause-again c =
    let moves = c.args.schedule.now in
    let past : length moves ≤ c.loop-next.next-index = omega (arith, ap length c.moves-next-items.ensures.moves) in
    let whole : take c.loop-next.next-index moves ≡ moves = take_all c.loop-next.next-index moves past in
    let front : string_bytes c.loop-next.text ≡ codes "schedule" ++ flat_map (λ m. 32 ∷ move_text m) moves =
    c.loop-next.invariant ∙ ap (λ (ms : List Move). codes "schedule" ++ flat_map (λ m. 32 ∷ move_text m) ms) whole in
    let text : string_bytes c.push.new.self ≡ schedule_text moves =
    c.in_ok-push.ensures.bytes
    ∙ ap (λ (t : List ℕ). t ++ 10 ∷ []) front
    ∙ append_assoc (codes "schedule") (flat_map (λ m. 32 ∷ move_text m) moves) (10 ∷ []) in
    written_again moves c.moves-next-items.ensures.sound (string_bytes c.push.new.self) text
