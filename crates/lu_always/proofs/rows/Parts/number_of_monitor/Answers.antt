use Rattle.lu_always.specs.declared.rows.Parts.{Parts}
use Rattle.lu_always.proofs.Rowed.{grow_none, monitor_joins, monitors_grow}
use Rattle.lu_always.proofs.Tabled.{extends_none}
use Rattle.lu_always.proofs.rows.Parts.number_of_monitor.Goals as goal

pub returns-in-Some-clause-grows : goal.returns-in-Some-clause-grows
returns-in-Some-clause-grows c = grow_none c.args.self.now

pub returns-clause-grows : goal.returns-clause-grows
returns-clause-grows c =
    let old = c.args.self.now in
    record {
      cells = extends_none old.cells.keys;
      locks = extends_none old.locks.keys;
      threads = extends_none old.threads.keys;
      monitors = monitors_grow old.monitors c.push.new.self c.args.monitor.now c.push.result c.push.ensures.new c.push.ensures.refused;
    }

pub returns-clause-number : goal.returns-clause-number
returns-clause-number c =
    monitor_joins c.args.self.now.monitors c.push.new.self c.args.monitor.now c.push.result c.push.ensures.new c.push.ensures.number
