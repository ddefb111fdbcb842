use Rattle.std.proofs.Common.{rules, ◌≡◌, ℕ, length, replicate, sym, ◌∙◌}
use Rattle.lu_serial.proofs.CallsLeft.{none_at_start}
use Rattle.lu_serial.proofs.Made.{start_made}
use Rattle.lu_refute.proofs.shortest.Walk.start.Goals as goal

pub returns-clause-before : goal.returns-clause-before
returns-clause-before c =
    let is = c.in_ok-start.ensures.starts in
    record {
      quiet = none_at_start c.args.test.component.now c.args.test.matrix.now c.in_ok-start.field-0 is;
      entries = c.new.ensures.items;
      calls =
          let none : ℕ = 0 in
          let all : c.in_ok-vec.field-0.items ≡ replicate (length c.args.test.matrix.now.threads) none = search rules in
          all ∙ sym (start_made c.args.test.component.now c.args.test.matrix.now c.in_ok-start.field-0 is);
    }
