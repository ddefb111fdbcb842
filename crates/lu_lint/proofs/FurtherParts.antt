-- Parts after the matrix: the first word of a text, and recorded histories one after the other.
use Rattle.std.proofs.Common.{◌≡◌, ℕ, ◌+◌, ◌<◌, ◌≤◌, Bool, Option, List, [], ◌∷◌, ◌++◌, length, get_or, drop, refl, sym, ap, subst, ◌∙◌, append_assoc, append-nil, arith}
use Rattle.std.specs.List.{flat_map}
use Rattle.std.proofs.lemmas.List.Concat.{flat_map-cons}
use Rattle.lu_text.specs.Faults.{meaning_of}
use Rattle.lu_text.specs.Lines.{texts, words_of}
use Rattle.lu_text.proofs.Reading.{text_more, texts_end}
use Rattle.lu_test.specs.Matrix.{Matrix}
use Rattle.lu_recorded.specs.RecordedText.{recorded_grammar}
use denote.Ref.{Bor}
use Rattle.lu_spec.specs.declared.given.Marks.{Marks}
use Rattle.lu_lint.specs.declared.remark.Said.{Said}
use Rattle.lu_lint.specs.declared.part_kind.PartKind.{PartKind}
use Rattle.lu_lint.specs.Said.{SaysFurther, above_next}
use Rattle.lu_lint.specs.Parts.{PartSaid, SaidOfSome, begin_history, begins_step, histories_said, history_said, kind_of}
use Rattle.lu_lint.specs.Further.{AfterMatrix, AfterThird, FourthSaid, FromThird, fifth_said}

-- ---- the first word of a text

-- the words of the lines from number i on are those of line i, and then the others
words_more : (lines : List (Bor (List ℕ))) (i : ℕ) (d : Bor (List ℕ)) → i < length lines → flat_map words_of (drop i (texts lines)) ≡ words_of (get_or lines i d).now ++ flat_map words_of (drop (i + 1) (texts lines))
words_more lines i d within = ap (flat_map words_of) (text_more lines i d within) ∙ flat_map-cons words_of (get_or lines i d).now (drop (i + 1) (texts lines))

-- a line without words
pub goes_past : (lines : List (Bor (List ℕ))) (i : ℕ) (d : Bor (List ℕ)) (words : List (Bor (List ℕ))) (total : Bool) → i < length lines → texts words ≡ words_of (get_or lines i d).now → length words ≡ 0 → begin_history (flat_map words_of (drop i (texts lines))) ≡ total → begin_history (flat_map words_of (drop (i + 1) (texts lines))) ≡ total
goes_past lines i d [] total within is none so_far = sym (ap begin_history (words_more lines i d within ∙ ap (λ (x : List (List ℕ)). x ++ flat_map words_of (drop (i + 1) (texts lines))) (sym is))) ∙ so_far
goes_past lines i d (word ∷ words) total within is none so_far = absurd (omega arith)

-- a line with words
pub stops : (lines : List (Bor (List ℕ))) (i : ℕ) (d word : Bor (List ℕ)) (words others : List (Bor (List ℕ))) (total : Bool) → i < length lines → texts words ≡ words_of (get_or lines i d).now → words ≡ word ∷ others → begin_history (flat_map words_of (drop i (texts lines))) ≡ total → begins_step word.now ≡ total
stops lines i d word words others total within is split so_far = sym (ap begin_history (words_more lines i d within ∙ ap (λ (x : List (List ℕ)). x ++ flat_map words_of (drop (i + 1) (texts lines))) (sym is ∙ ap texts split))) ∙ so_far

-- ---- recorded histories

-- one history more
pub goes_on : (matrix : Matrix) (above below : ℕ) (parts : List (Bor (List ℕ))) (i : ℕ) (d : Bor (List ℕ)) (before next total : List Said) → i < length parts → next ≡ before ++ history_said above (meaning_of (recorded_grammar matrix) (get_or parts i d).now) → below ≡ above_next above (get_or parts i d).now
    → before ++ histories_said matrix above (drop i (texts parts)) ≡ total → next ++ histories_said matrix below (drop (i + 1) (texts parts)) ≡ total
goes_on matrix above below parts i d before next total within more is so_far =
    let text = (get_or parts i d).now in
    let here = history_said above (meaning_of (recorded_grammar matrix) text) in
    let others = histories_said matrix (above_next above text) (drop (i + 1) (texts parts)) in
    rw (is, more) (append_assoc before here others ∙ (ap (λ (x : List (List ℕ)). before ++ histories_said matrix above x) (sym (text_more parts i d within)) ∙ so_far))

-- no history is left
pub ends : (matrix : Matrix) (above : ℕ) (parts : List (Bor (List ℕ))) (i : ℕ) (before total : List Said) → length parts ≤ i → before ++ histories_said matrix above (drop i (texts parts)) ≡ total → before ≡ total
ends matrix above parts i before total past so_far = sym (append-nil before) ∙ (ap (λ (x : List (List ℕ)). before ++ histories_said matrix above x) (sym (texts_end parts i past)) ∙ so_far)

-- ---- a third and a fourth part

-- a fourth part, and what stands after it
pub of_fourth : (marks : Marks) (matrix : Option Matrix) (above below : ℕ) (parts others : List (Bor (List ℕ))) (text : Bor (List ℕ)) (all one two : List Said) → parts ≡ text ∷ others → below ≡ above_next above text.now
    → SaysFurther (SaidOfSome marks matrix above text.now) all one → two ≡ one ++ fifth_said below (texts others) → SaysFurther (FourthSaid marks matrix above (texts parts)) all two
of_fourth marks matrix above below parts others text all one two split next h more =
    let first = h.0 in
    let fifth = fifth_said (above_next above text.now) (texts others) in
    let P : List (Bor (List ℕ)) → Type 0 = λ x. SaysFurther (FourthSaid marks matrix above (texts x)) all two in
    subst P (sym split) (first ++ fifth, (first, h.1, refl), more ∙ (ap (λ (n : ℕ). one ++ fifth_said n (texts others)) next ∙ (ap (λ (x : List Said). x ++ fifth) h.2 ∙ append_assoc all first fifth)))

-- a third part, and the parts after it
pub of_third : (marks : Marks) (matrix : Option Matrix) (kind : PartKind) (above below : ℕ) (parts others : List (Bor (List ℕ))) (text : Bor (List ℕ)) (all one two : List Said) → parts ≡ text ∷ others → kind ≡ kind_of text.now → below ≡ above_next above text.now
    → SaysFurther (PartSaid marks kind matrix above text.now) all one → SaysFurther (AfterThird marks kind matrix below (texts others)) one two → SaysFurther (AfterMatrix marks matrix above (texts parts)) all two
of_third marks matrix kind above below parts others text all one two split is next h g =
    let first = h.0 in
    let behind = g.0 in
    let P : List (Bor (List ℕ)) → Type 0 = λ x. SaysFurther (AfterMatrix marks matrix above (texts x)) all two in
    let Q : PartKind → Type 0 = λ k. FromThird marks k matrix above text.now (texts others) (first ++ behind) in
    let from : Q kind = (first, h.1, (behind, subst (λ (n : ℕ). AfterThird marks kind matrix n (texts others) behind) next g.1, refl)) in
    subst P (sym split) (first ++ behind, subst Q is from, g.2 ∙ (ap (λ (x : List Said). x ++ behind) h.2 ∙ append_assoc all first behind))
