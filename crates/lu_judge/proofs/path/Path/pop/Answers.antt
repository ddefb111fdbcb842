use Rattle.std.proofs.Common.{subst, arith}
use Rattle.lu_history.specs.Histories.{IsWellFormed}
use Rattle.lu_history.proofs.Events.{pop_history}
use Rattle.lu_judge.specs.Paths.{history_at}
use Rattle.lu_judge.proofs.Moving.{found_at, some_number, shorter_lower, shorter_history}
use Rattle.lu_judge.proofs.path.Path.pop.Goals as goal

pub returns-clause-path : goal.returns-clause-path
returns-clause-path c =
    let p = c.args.self.now in
    let bs = p.beginnings.items in
    let b = c.index-beginning.result.now in
    let is = c.requires.path in
    let at = found_at bs p.number b is.number c.index-beginning.ensures in
    let ne = some_number bs p.number c.requires.some in
    let lower = shorter_lower bs is.back p.number b ne at in
    record {
      room = is.room;
      few = is.few;
      number = omega (arith, lower, is.number);
      back = is.back;
      links = is.links;
      well_formed = pop_history (history_at bs b.shorter) _ (subst IsWellFormed (shorter_history bs is.back p.number b ne at) is.well_formed);
    }

pub returns-clause-history : goal.returns-clause-history
returns-clause-history c =
    let p = c.args.self.now in
    shorter_history p.beginnings.items c.requires.path.back p.number c.index-beginning.result.now (some_number p.beginnings.items p.number c.requires.some) (found_at p.beginnings.items p.number c.index-beginning.result.now c.requires.path.number c.index-beginning.ensures)
