use Rattle.std.proofs.Common.{◌≡◌, ◌++◌, List, ℕ, length, ap, subst, ◌∙◌, string_bytes}
use Rattle.lu_machine.specs.declared.event.Outcome.{Outcome}
use Rattle.lu_explain.specs.Blocks.{Run, stuck_head, stuck_line}
use Rattle.lu_explain.proofs.blocks.stuck_block.Goals as goal

pub returns : goal.returns
returns g c =
    let component = c.run.inside.component.now in
    let matrix = c.run.inside.matrix.now in
    let t = c.args.t in
    let block = string_bytes c.in_ok-block.block in
    let new = string_bytes c.push_str.new.self in
    let line = stuck_line component matrix t (length c.outcomes-returned.result.now) in
    let mid : string_bytes c.write_stuck.new.text ≡ line = c.in_ok-write_stuck.ensures ∙ ap (λ (x : List ℕ). x ++ line) c.new-text.ensures.bytes in
    let wrote : new ≡ line ++ block = c.in_ok-push_str.ensures.bytes ∙ (ap (λ (x : List ℕ). x ++ c.as_str.result.now) mid ∙ ap (λ (x : List ℕ). line ++ x) c.as_str.ensures.value) in
    let told = subst (λ (h : List Outcome). new ≡ stuck_line component matrix t (length h) ++ block) c.outcomes-returned.ensures wrote in
    (block, c.in_ok-block.ensures, subst (λ (run : Run). new ≡ stuck_head run t ++ block) c.run.view_is told)
