use Rattle.lu_graph.proofs.alive.stays.Goals as goal

pub returns-then-was : goal.returns-then-was
returns-then-was c = λ h made. ((λ x. (c.if-was.true, (c.admits.ensures h made).0 x)), (λ x. (c.admits.ensures h made).1 x.1))
