use Rattle.lu_forever.proofs.certifying.certify_rounds.Goals as goal

pub returns-in-AlwaysLinearizable : goal.returns-in-AlwaysLinearizable
returns-in-AlwaysLinearizable g c =
    let tabled = rw c.in-Table.is at c.in_ok-table.ensures in
    let verdict = rw c.in-AlwaysLinearizable.is at c.in_ok-find_verdict.ensures in
    (verdict.0 tabled.0 c.args.serial_bound tabled.1, verdict.1)

pub returns-in-Livelock : goal.returns-in-Livelock
returns-in-Livelock g c =
    let tabled = rw c.in-Table.is at c.in_ok-table.ensures in
    let verdict = rw c.in-Livelock.is at c.in_ok-find_verdict.ensures in
    (verdict.0 tabled.0 c.args.serial_bound tabled.1, verdict.1)
