use Rattle.std.proofs.Common.{◌≡◌, ◌∙◌, [], Bool, false, string_bytes, sym, subst}
use Rattle.std.specs.Prelude.{MatchBool}
use Rattle.std.proofs.lemmas.Result.{IfOk-weaker}
use Rattle.lu_witness.specs.Witnesses.{IsMember}
use Rattle.lu_diagnosis.specs.Sentences.{IsSaidOf, IsSentence}
use Rattle.lu_diagnosis.proofs.sentences.say.Goals as goal

pub returns-else-is_witnessed : goal.returns-else-is_witnessed
returns-else-is_witnessed g c =
    let Set = IsMember (g.T.SerialTree.members c.args.tree.now) in
    let component = c.args.component.now in
    let matrix = c.args.matrix.now in
    let history = c.args.history.now in
    let e = c.explain-explanation.result in
    let none : e.witnessed ≡ false = sym c.is_witnessed.ensures ∙ c.if-is_witnessed.false in
    IfOk-weaker c.say_of.result (λ text. IsSaidOf Set component matrix history e (string_bytes text)) (λ text. IsSentence Set component matrix history (string_bytes text))
    (λ text said. (e, c.explain-explanation.ensures, subst (λ (b : Bool). MatchBool b (string_bytes text ≡ []) (IsSaidOf Set component matrix history e (string_bytes text))) (sym none) said)) c.say_of.ensures
