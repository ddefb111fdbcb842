use Rattle.std.proofs.Common.{◌≡◌, ◌++◌, codes, rules, string_bytes}
use Rattle.lu_trace.specs.Setups.{found_lines, setup_heading}
use Rattle.lu_trace.proofs.Joined.{five_texts}
use Rattle.lu_trace.proofs.setup.write_worded_trace_from_setup.Goals as goal

pub returns-clause-trace : goal.returns-clause-trace
returns-clause-trace c =
    let heading = setup_heading c.args.matrix.now.setup in
    let lines = c.in_ok-write_setup.ensures.0 in
    let start = c.in_ok-machine.machine in
    let trace = string_bytes c.in_ok-trace.trace in
    let told : string_bytes c.in_ok-text.text ≡ heading = search rules in
    let last : string_bytes c.push_str-2.new.self ≡ string_bytes c.write_found.new.text ++ trace = search rules in
    let whole = five_texts heading lines (codes "start\n") (found_lines start) trace (string_bytes c.in_ok-text.text) (string_bytes c.write_setup.new.text) (string_bytes c.push_str.new.self) (string_bytes c.write_found.new.text) (string_bytes c.push_str-2.new.self) told c.in_ok-write_setup.ensures.2 c.in_ok-push_str.ensures.bytes c.in_ok-write_found.ensures last in
    (lines, start, trace, c.in_ok-write_setup.ensures.1, c.in_ok-machine.ensures.starts, c.in_ok-trace.ensures.trace, whole)
