-- Lines of a specification that are read one after the other.
use Rattle.std.proofs.Common.{◌≡◌, ℕ, ◌+◌, ◌<◌, List, [], ◌∷◌, ◌++◌, length, map, refl, sym, ap, ◌∙◌, arith, append_assoc, inr}
use Rattle.std.specs.List.{concat, flat_map}
use Rattle.std.proofs.lemmas.List.{append-nil, map_push, length-append}
use Rattle.std.proofs.lemmas.List.Concat.{flat_map-cons}
use Rattle.lu_text.specs.Lines.{kept_lines}
use Rattle.lu_text.specs.declared.fault.Fault.{Fault}
use Rattle.lu_text.specs.declared.fault.Fault.TheVariants.{At, Memory}
use Rattle.lu_text.proofs.KeptLines.{joined_lines}
use Rattle.lu_history.specs.declared.serial.SerialOp.{SerialOp}
use Rattle.lu_test.specs.Matrix.{Matrix}
use Rattle.lu_spec.specs.declared.fault.SpecFaultKind.{SpecFaultKind}
use Rattle.lu_spec.specs.declared.fault.SpecFaultKind.TheVariants.{Form}
use Rattle.lu_spec.specs.SpecText.{IsSpecFault, HasNoFirstLine, first_line, history_line, spec_text}
use Rattle.lu_spec.specs.Reading.{IsListedDraft, IsNextDraft, IsRefusal, IsRefusalAmong}

-- the lines up to the rest are those of the listed histories
pub record AreReadTo (matrix : Matrix) (text : List ℕ) (listed set : List (List SerialOp)) (last : List SerialOp) (rest : List ℕ) (number : ℕ) : Type 0 where
  pub draft : IsListedDraft matrix listed set last
  pub lines : kept_lines text ≡ map history_line listed ++ kept_lines rest
  pub numbered : number ≡ length listed + 1

pub none_read : (matrix : Matrix) (text : List ℕ) (set : List (List SerialOp)) (last : List SerialOp) → IsListedDraft matrix [] set last → AreReadTo matrix text [] set last text 1
none_read matrix text set last draft = record { draft = draft; lines = refl; numbered = refl }

pub line_read : (matrix : Matrix) (text line rest others : List ℕ) (listed set new : List (List SerialOp)) (last q : List SerialOp) (number : ℕ) → AreReadTo matrix text listed set last rest number → kept_lines rest ≡ line ∷ kept_lines others → IsNextDraft matrix listed line new q → AreReadTo matrix text (listed ++ q ∷ []) new q others (number + 1)
line_read matrix text line rest others listed set new last q number so_far cut next = record {
  draft = next.1;
  lines = so_far.lines ∙ (ap (λ (x : List (List ℕ)). map history_line listed ++ x) (cut ∙ ap (λ (x : List ℕ). x ∷ kept_lines others) next.0)
      ∙ (sym (append_assoc (map history_line listed) (history_line q ∷ []) (kept_lines others)) ∙ ap (λ (x : List (List ℕ)). x ++ kept_lines others) (sym (map_push history_line listed q))));
  numbered = omega (arith, so_far.numbered, length-append listed (q ∷ []));
}

pub line_refused : (matrix : Matrix) (text line rest others : List ℕ) (listed set : List (List SerialOp)) (last : List SerialOp) (number : ℕ) (fault : Fault SpecFaultKind) → AreReadTo matrix text listed set last rest number → kept_lines rest ≡ line ∷ kept_lines others → IsRefusal matrix listed line (number + 1) fault → IsRefusalAmong matrix (kept_lines text) fault
line_refused matrix text line rest others listed set last number Memory so_far cut refusal = tt
line_refused matrix text line rest others listed set last number (At kind n) so_far cut refusal = record {
  listed = listed;
  are = so_far.draft.are;
  line = line;
  rest = kept_lines others;
  parts = so_far.lines ∙ ap (λ (x : List (List ℕ)). map history_line listed ++ x) cut;
  numbered = omega (arith, refusal.0, so_far.numbered);
  fault = refusal.1;
}

pub all_read : (matrix : Matrix) (text : List ℕ) (listed set : List (List SerialOp)) (last : List SerialOp) (rest : List ℕ) (number : ℕ) → rest ≡ [] → AreReadTo matrix text listed set last rest number → kept_lines text ≡ map history_line listed
all_read matrix text listed set last rest number none so_far =
    so_far.lines ∙ (ap (λ (x : List ℕ). map history_line listed ++ kept_lines x) none ∙ append-nil (map history_line listed))

-- ---- the whole text

pub concat_lines : (listed : List (List SerialOp)) → concat (map history_line listed) ≡ flat_map history_line listed
concat_lines [] = refl
concat_lines (q ∷ listed) = ap (λ (x : List ℕ). history_line q ++ x) (concat_lines listed) ∙ sym (flat_map-cons history_line q listed)

pub is_spelled : (text first rest : List ℕ) (listed : List (List SerialOp)) → text ≡ first ++ rest → first ≡ first_line → kept_lines rest ≡ map history_line listed → text ≡ spec_text listed
is_spelled text first rest listed whole is lines =
    whole ∙ (ap (λ (x : List ℕ). x ++ rest) is ∙ ap (λ (x : List ℕ). first_line ++ x) (sym (joined_lines rest) ∙ (ap concat lines ∙ concat_lines listed)))

pub no_first : (text first others : List ℕ) → (0 < length text → kept_lines text ≡ first ∷ kept_lines others) → (first ≡ first_line → ⊥) → HasNoFirstLine text Form 1
no_first [] first others cut fails = (refl, refl, λ rest e. cc)
no_first (b ∷ text) first others cut fails = (refl, refl, λ rest e. fails (let f : first ∷ kept_lines others ≡ first_line ∷ rest = sym (cut (omega arith)) ∙ e in let g : first ≡ first_line = cc in g))

pub behind_first : (matrix : Matrix) (text first rest : List ℕ) (fault : Fault SpecFaultKind) → kept_lines text ≡ first ∷ kept_lines rest → first ≡ first_line → IsRefusalAmong matrix (kept_lines rest) fault → IsSpecFault matrix text fault
behind_first matrix text first rest Memory cut is refusal = tt
behind_first matrix text first rest (At kind n) cut is refusal = inr (kept_lines rest, cut ∙ ap (λ (x : List ℕ). x ∷ kept_lines rest) is, refusal)
