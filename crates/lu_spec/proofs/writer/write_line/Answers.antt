use Rattle.std.proofs.Common.{rules, arith, ◌≡◌, ◌++◌, ◌∷◌, ◌∙◌, List, ℕ, take, sym, ap, append_assoc}
use Rattle.std.specs.Prelude.{OnOk, string_bytes, codes}
use Rattle.std.specs.List.{flat_map}
use Rattle.std.proofs.lemmas.List.{take_all}
use Rattle.lu_history.specs.declared.serial.SerialOp.{SerialOp}
use Rattle.lu_trie.proofs.Insertions.{on_ok}
use Rattle.lu_spec.specs.SpecText.{entry_text}
use Rattle.lu_spec.proofs.Ends.{line_written}
use Rattle.lu_spec.proofs.writer.write_line.Goals as goal

pub returns : goal.returns
returns c =
    let appended : OnOk c.push_str-2.result (string_bytes c.push_str-2.new.self ≡ string_bytes c.loop-op.text ++ codes "\n") = search rules in
    let whole : take c.loop-op.op-index c.args.history.now ≡ c.args.history.now = take_all c.loop-op.op-index c.args.history.now (omega arith) in
    let entries = λ (q : List SerialOp). codes "history" ++ flat_map (λ op. 32 ∷ entry_text op) q in
    let so_far : string_bytes c.loop-op.text ≡ string_bytes c.args.text.now ++ entries c.args.history.now = c.loop-op.invariant ∙ ap (λ (q : List SerialOp). string_bytes c.args.text.now ++ entries q) whole in
    on_ok c.push_str-2.result (λ e.
    e ∙ (ap (λ (x : List ℕ). x ++ codes "\n") so_far ∙ (append_assoc (string_bytes c.args.text.now) (entries c.args.history.now) (codes "\n")
    ∙ ap (λ (x : List ℕ). string_bytes c.args.text.now ++ x) (sym (line_written c.args.history.now))))) appended
