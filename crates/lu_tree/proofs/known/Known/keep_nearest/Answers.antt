use Rattle.std.proofs.lemmas.Result.{IfOk-weaker}
use Rattle.lu_tree.proofs.known.Known.keep_nearest.Goals as goal

pub returns-then-self-most : goal.returns-then-self-most
returns-then-self-most c = λ members s h left known. known

pub returns-then-asked-most : goal.returns-then-asked-most
returns-then-asked-most c = c.in_ok-asked.ensures

pub returns : goal.returns
returns c =
    IfOk-weaker c.within-2.result _ _ (λ nearest less members s h left known. less members s h left (c.in_ok-asked.ensures members s h left known)) c.within-2.ensures
