-- A text that lists histories has no fault.
use Rattle.std.proofs.Common.{◌≡◌, ℕ, false, List, [], ◌∷◌, ◌++◌, map, refl, sym, ap, subst, ◌∙◌, inl, inr, arith, append_assoc}
use Rattle.std.specs.Prelude.{◌==◌, codes}
use Rattle.std.specs.List.{AllByRecursion, flat_map, join_with_byte}
use Rattle.std.proofs.lemmas.List.Concat.{flat_map-cons}
use Rattle.lu_text.specs.declared.fault.Fault.TheVariants.{At}
use Rattle.lu_text.specs.Lines.{kept_lines, onto_line}
use Rattle.lu_text.proofs.Written.{each_joined}
use Rattle.lu_history.specs.declared.serial.SerialOp.{SerialOp}
use Rattle.lu_test.specs.Matrix.{Matrix}
use Rattle.lu_trie.specs.Conflicts.{ConflictAt}
use Rattle.lu_spec.specs.declared.fault.SpecFaultKind.{SpecFaultKind}
use Rattle.lu_spec.specs.declared.fault.SpecFaultKind.TheVariants.{Form, Foreign, Nondeterministic}
use Rattle.lu_spec.specs.Beginnings.{Has}
use Rattle.lu_spec.specs.Specs.{FitsMatrix}
use Rattle.lu_spec.specs.SpecText.{AreListed, IsFaultOfLine, IsHistoryLine, IsListable, IsReadAs, IsSpecFault, first_line, history_line, spec_text, history_words}
use Rattle.lu_spec.proofs.Sets.{has_first, has_left, has_next, has_right}
use Rattle.lu_spec.proofs.HistoryLines.{line_same, words_lack}

-- ---- the lines of a text

abbrev IsPlain : List ℕ → Type 0
IsPlain line = AllByRecursion (λ b. (b == 10) ≡ false) line

kept_line : (line rest : List ℕ) → IsPlain line → kept_lines (line ++ 10 ∷ rest) ≡ (line ++ 10 ∷ []) ∷ kept_lines rest
kept_line [] rest plain = refl
kept_line (b ∷ line) rest plain = rw plain.0 (ap (onto_line b) (kept_line line rest plain.1))

plain_history : (q : List SerialOp) → IsListable q → IsPlain (join_with_byte 32 (history_words q))
plain_history q is = each_joined (λ b. (b == 10) ≡ false) 32 refl (history_words q) (words_lack 10 q (omega arith) is.entries)

kept_listed : (listed : List (List SerialOp)) → ((q : List SerialOp) → Has listed q → IsListable q) → kept_lines (flat_map history_line listed) ≡ map history_line listed
kept_listed [] are = refl
kept_listed (q ∷ listed) are =
    let line = join_with_byte 32 (history_words q) in
    let others = flat_map history_line listed in
    let whole : flat_map history_line (q ∷ listed) ≡ line ++ 10 ∷ others = flat_map-cons history_line q listed ∙ append_assoc line (codes "\n") others in
    ap kept_lines whole ∙ (kept_line line others (plain_history q (are q (has_first q listed)))
    ∙ ap (λ (x : List (List ℕ)). history_line q ∷ x) (kept_listed listed (λ p has. are p (has_next q listed p has))))

kept_spec : (listed : List (List SerialOp)) → ((q : List SerialOp) → Has listed q → IsListable q) → kept_lines (spec_text listed) ≡ first_line ∷ map history_line listed
kept_spec listed are = ap (λ (x : List (List ℕ)). first_line ∷ x) (kept_listed listed are)

-- ---- the history of a line among those of a text

record IsAmong (listed before : List (List SerialOp)) (line : List ℕ) : Type 0 where
  history : List SerialOp
  after : List (List SerialOp)
  parts : listed ≡ before ++ history ∷ after
  is : line ≡ history_line history

among : (listed before : List (List SerialOp)) (line : List ℕ) (rest : List (List ℕ)) → ((q : List SerialOp) → Has listed q → IsListable q) → ((q : List SerialOp) → Has before q → IsListable q)
    → map history_line listed ≡ map history_line before ++ line ∷ rest → IsAmong listed before line
among [] [] line rest x y e = absurd cc
among [] (p ∷ before) line rest x y e = absurd cc
among (q ∷ listed) [] line rest x y e = record { history = q; after = listed; parts = refl; is = (let same : history_line q ≡ line = cc in sym same) }
among (q ∷ listed) (p ∷ before) line rest x y e =
    let head : history_line q ≡ history_line p = cc in
    let tail : map history_line listed ≡ map history_line before ++ line ∷ rest = cc in
    let same = line_same q p (x q (has_first q listed)) (y p (has_first p before)) head in
    let found = among listed before line rest (λ z has. x z (has_next q listed z has)) (λ z has. y z (has_next p before z has)) tail in
    record { history = found.history; after = found.after; parts = ap (λ (x : List (List SerialOp)). q ∷ x) found.parts ∙ ap (λ (x : List SerialOp). x ∷ before ++ found.history ∷ found.after) same; is = found.is }

-- ---- no fault

module _ (matrix : Matrix) (listed : List (List SerialOp)) (are : AreListed matrix listed) where
  sound_line : (before : List (List SerialOp)) (line : List ℕ) (kind : SpecFaultKind) → IsAmong listed before line → IsFaultOfLine matrix before line kind → ⊥
  sound_line before line kind found fault = by_kind kind fault
    where
      here : Has listed found.history
      here = subst (λ (x : List (List SerialOp)). Has x found.history) (sym found.parts) (has_right before (found.history ∷ found.after) found.history (has_first found.history found.after))

      is_line : IsHistoryLine before line found.history
      is_line = (found.is, (are.each found.history here).0, are.order before found.history found.after found.parts)

      same : (p : List SerialOp) → IsHistoryLine before line p → p ≡ found.history
      same p other = line_same p found.history other.1 is_line.1 (sym other.0 ∙ found.is)

      by_kind : (k : SpecFaultKind) → IsFaultOfLine matrix before line k → ⊥
      by_kind Form none = none found.history is_line
      by_kind Foreign (p, other, fails) = fails (subst (FitsMatrix matrix) (sym (same p other)) (are.each found.history here).1)
      by_kind Nondeterministic (p, other, fits, (h, has, i, o, conflict)) =
          let member = subst (λ (x : List (List SerialOp)). Has x h) (sym found.parts) (has_left before (found.history ∷ found.after) h has) in
          are.deterministic found.history h i o here member (subst (λ (x : List SerialOp). ConflictAt x h i o) (same p other) conflict)

pub no_fault : (matrix : Matrix) (text : List ℕ) (members : List (List SerialOp)) (kind : SpecFaultKind) (n : ℕ) → IsReadAs matrix text members → IsSpecFault matrix text (At kind n) → ⊥
no_fault matrix text members kind n (listed, are, text_is, closure) fault = by_fault fault
  where
    lines : kept_lines text ≡ first_line ∷ map history_line listed
    lines = ap kept_lines text_is ∙ kept_spec listed (λ q has. (are.each q has).0)

    by_fault : IsSpecFault matrix text (At kind n) → ⊥
    by_fault (inl (is, one, none)) = none (map history_line listed) lines
    by_fault (inr (others, cut, among_them)) =
        let both : first_line ∷ map history_line listed ≡ first_line ∷ others = sym lines ∙ cut in
        let tail : map history_line listed ≡ others = cc in
        let found = among listed among_them.listed among_them.line among_them.rest (λ q has. (are.each q has).0) (λ q has. (among_them.are.each q has).0) (tail ∙ among_them.parts) in
        sound_line matrix listed are among_them.listed among_them.line kind found among_them.fault
