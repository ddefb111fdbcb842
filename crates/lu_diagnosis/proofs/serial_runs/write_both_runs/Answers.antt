use Rattle.std.proofs.Common.{codes, string_bytes}
use Rattle.std.proofs.lemmas.Result.{on_ok_weaker}
use Rattle.lu_diagnosis.specs.SerialRuns.{difference_line, run_text, with_outcome}
use Rattle.lu_diagnosis.proofs.Joined.{five_pieces}
use Rattle.lu_diagnosis.proofs.serial_runs.write_both_runs.Goals as goal

pub returns : goal.returns
returns c =
    let component = c.args.component.now in
    let matrix = c.args.matrix.now in
    let before = c.args.before.now in
    let op = c.args.op in
    let other = c.args.other in
    on_ok_weaker c.write_difference.result (λ more. five_pieces (codes "this serial run\n") (run_text component matrix before op) (codes "another serial run\n") (run_text component matrix before (with_outcome op other)) (difference_line component matrix before op other) (string_bytes c.args.text.now) (string_bytes c.push_str.new.self) (string_bytes c.write_run.new.text) (string_bytes c.push_str-2.new.self) (string_bytes c.write_run-2.new.text) (string_bytes c.write_difference.new.text) c.in_ok-push_str.ensures.bytes c.in_ok-write_run.ensures c.in_ok-push_str-2.ensures.bytes c.in_ok-write_run-2.ensures more) c.write_difference.ensures
