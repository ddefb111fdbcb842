use Rattle.std.proofs.Common.{◌≢◌, sym, subst, rules}
use Rattle.lu_history.specs.Histories.{IsWellFormed}
use Rattle.lu_history.proofs.Events.{push_history}
use Rattle.lu_judge.specs.Paths.{lines, history_of}
use Rattle.lu_judge.proofs.Reading.{read_longer}
use Rattle.lu_judge.proofs.Moving.{after_within}
use Rattle.lu_judge.proofs.path.Path.follow.Goals as goal

pub returns-clause-path : goal.returns-clause-path
returns-clause-path c =
    let p = c.args.self.now in
    let bs = p.beginnings.items in
    let is = c.requires.path in
    let ne : c.find-found.result ≢ 0 = search rules in
    let at = c.find-found.ensures ne in
    record {
      room = is.room;
      few = is.few;
      number = after_within bs p.number c.find-found.result (c.args.event, at);
      back = is.back;
      links = is.links;
      well_formed = subst IsWellFormed (sym (read_longer (lines bs) is.back c.find-found.result p.number c.args.event ne at)) (push_history (history_of p) c.args.event is.well_formed c.requires.fits);
    }

pub returns-clause-history : goal.returns-clause-history
returns-clause-history c = λ _.
    let ne : c.find-found.result ≢ 0 = search rules in
    read_longer (lines c.args.self.now.beginnings.items) c.requires.path.back c.find-found.result c.args.self.now.number c.args.event ne (c.find-found.ensures ne)
