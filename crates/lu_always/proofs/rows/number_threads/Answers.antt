use Rattle.std.proofs.Common.{arith, ◌≡◌, ◌+◌, ◌<◌, sym, ◌∙◌, ap, subst, set, length, take}
use Rattle.std.proofs.lemmas.List.{length-set}
use Rattle.lu_always.specs.Numbered.{Extends}
use Rattle.lu_always.specs.Rows.{HaveNumbers}
use Rattle.lu_always.proofs.Rowed.{numbers_next}
use Rattle.lu_always.proofs.Tabled.{extends_on, some_at}
use Rattle.lu_always.proofs.rows.number_threads.Goals.{in-Some+in_ok-numbers, in_default}
use Rattle.lu_always.proofs.rows.number_threads.Goals as goal

pub loop-thread-preserved : goal.loop-thread-preserved
loop-thread-preserved c =
    let threads = c.args.machine.now.threads in
    let k = c.loop-thread.thread in
    let old = c.loop-thread.table.keys in
    let numbers = c.loop-thread.numbers in
    let within : k < length threads = omega (arith, c.loop-thread-test.true, c.threads-thread-end.ensures.value) in
    let few : k < 8 = omega (arith, within, c.threads-thread-end.ensures.few) in
    elim c.match-standing.branch [
      | in-Some+in_ok-numbers w ↦
          (let n = w.in_ok-numbers.field-0 in
          let now : c.match-standing.numbers ≡ set numbers k n = w.numbers-is ∙ ap (λ i. set numbers i n) w.from-index.ensures in
          let table = ap (λ x. x.keys) w.table-is in
          record {
            eight = ap length now ∙ (length-set numbers k n ∙ c.loop-thread.invariant.eight);
            within = omega (arith, within);
            grows = subst (Extends c.args.table.now.keys) (sym table) (extends_on c.args.table.now.keys old w.number_of.new.table.keys c.loop-thread.invariant.grows w.in_ok-numbers.ensures.grows);
            numbers = subst (λ x. HaveNumbers x (take (k + 1) threads) c.match-standing.numbers) (sym table) (numbers_next threads old w.number_of.new.table.keys numbers c.match-standing.numbers k n w.in-Some.standing.now c.loop-thread.invariant.eight few c.loop-thread.invariant.numbers (sym w.in-Some.ensures.value) w.in_ok-numbers.ensures.grows w.in_ok-numbers.ensures.number now);
          })
      | in_default w ↦ absurd
          (let one = some_at threads k within in
          let wrong = w.in_default.ensures.value ∙ one.1 in
          cc)
    ]
