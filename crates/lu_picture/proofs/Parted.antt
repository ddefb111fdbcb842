-- No two texts meet.
use Rattle.std.proofs.Common.{◌≡◌, ℕ, ◌+◌, ◌<◌, ◌≤◌, ◌==◌, Bool, true, false, List, [], ◌∷◌, ◌++◌, length, Option, Some, None, is_some, if◌then◌else◌, refl, ap, eqb-true, arith}
use Rattle.std.specs.Option.{option_map_or}
use Rattle.std.proofs.lemmas.Fmt.{length-decimal-le}
use Rattle.lu_component.specs.Component.{Component}
use Rattle.lu_test.specs.declared.schedule.Move.{Move}
use Rattle.lu_test.specs.Matrix.{Matrix}
use Rattle.lu_machine.specs.States.{State}
use Rattle.lu_machine.specs.Steps.{is_at_local}
use Rattle.lu_history.specs.Text.{serial_outcome_text as ended_words}
use Rattle.lu_witness.specs.Witnesses.{entries}
use Rattle.lu_explain.specs.declared.explanation.Reason.{Reason}
use Rattle.lu_explain.specs.Explanations.{Explanation, reason_of}
use Rattle.lu_explain.specs.Lines.{why_not}
use Rattle.lu_trace.specs.declared.wording.Wording.{Wording}
use Rattle.lu_picture.specs.declared.mark.End.{End}
use Rattle.lu_picture.specs.Reasons.{outcome_of, why_words}
use Rattle.lu_picture.specs.Shapes.{has_reason, height_by, row_height}
use Rattle.lu_picture.specs.Pictures.{Drawing, Draws}
use Rattle.lu_picture.specs.Laws.{RowTextsPart}

-- rows end where they begin or below that
edge_grows : (how : Wording) (d : Drawing) (s : State) (u : List Move) (end : State) (e : Drawing) → Draws how d s u end e → d.edge ≤ e.edge
edge_grows how d s [] end e h =
    let same = ap (λ (x : Drawing). x.edge) h.1 in
    omega (arith, same)
edge_grows how d s (m ∷ u) end e h =
    let here : h.1.edge ≡ d.edge + row_height s m = ap (λ (x : Drawing). x.edge) h.2.5 in
    let rest = edge_grows how h.1 h.0 u end e h.3 in
    omega (arith, here, rest)

pub rows_part : (how : Wording) (d e : Drawing) (s end : State) (m : Move) (u : List Move) → is_at_local s m.thread ≡ false → Draws how d s (m ∷ u) end e → d.edge + 18 ≤ e.edge
rows_part how d e s end m u seen h =
    let here : h.1.edge ≡ d.edge + row_height s m = ap (λ (x : Drawing). x.edge) h.2.5 in
    let high : row_height s m ≡ 18 = ap height_by seen in
    let rest = edge_grows how h.1 h.0 u end e h.3 in
    omega (arith, here, high, rest)

pub row_texts_part : RowTextsPart
row_texts_part = record {
  number = λ n small.
      let digits = length-decimal-le 6 n (omega arith) (omega (arith, small)) (omega (arith, small)) in
      omega (arith, digits);
  label = λ t letters few. omega (arith, few);
  in_order = λ n small.
      let digits = length-decimal-le 2 n (omega arith) (omega (arith, small)) (omega (arith, small)) in
      omega (arith, digits);
  next = λ t. omega arith;
  rule = λ threads t within. omega (arith, within);
}

pub one_line : (c : Component) (matrix : Matrix) (e : Explanation) (t k : ℕ) (end : Option End) → 0 < length (why_words c matrix (Some e) t k end) → (k ≡ length (entries t e.order)) × (has_reason (Some e) t ≡ true)
one_line c matrix e t k end some = by_test (k == length (entries t e.order)) refl some
  where
    words : Reason → List ℕ
    words reason = ended_words (outcome_of end) ++ why_not c matrix e.order reason

    by_reason : (o : Option Reason) → 0 < length (option_map_or words o []) → is_some o ≡ true
    by_reason None some = absurd (omega (arith, some))
    by_reason (Some reason) some = refl

    by_test : (test : Bool) → (k == length (entries t e.order)) ≡ test → 0 < length (if test then option_map_or words (reason_of e t) [] else []) → (k ≡ length (entries t e.order)) × (is_some (reason_of e t) ≡ true)
    by_test true is some = (eqb-true k (length (entries t e.order)) is, by_reason (reason_of e t) some)
    by_test false is some = absurd (omega (arith, some))
