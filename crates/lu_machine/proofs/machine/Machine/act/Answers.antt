use Rattle.lu_machine.proofs.machine.Machine.act.Goals as goal

pub returns-in-Load-clause-carries : goal.returns-in-Load-clause-carries
returns-in-Load-clause-carries c = rw (c.in-Load.is, c.alone-in-Load.ensures.change, c.alone-in-Load.ensures.shared) (c.load.ensures.carries c.args.next)

pub returns-in-Store-clause-carries : goal.returns-in-Store-clause-carries
returns-in-Store-clause-carries c = rw c.in-Store.is (c.store.ensures.carries c.args.next)

pub returns-in-Cas-clause-carries : goal.returns-in-Cas-clause-carries
returns-in-Cas-clause-carries c = rw c.in-Cas.is (c.cas.ensures.carries c.args.next)
