-- The words of a schedule, word by word, and that the first fault is the reader's.
use Rattle.std.proofs.Common.{◌≡◌, ℕ, ◌+◌, ◌≤◌, ◌<◌, suc, zero, Bool, true, false, cond, ltb, List, [], ◌∷◌, ◌++◌, length, get_or, take, drop, map, Option, Some, None, Result, Ok, Err, refl, sym, ap, subst, ◌∙◌, arith, zero-add}
use Rattle.std.specs.List.{flat_map, slice_split}
use Rattle.std.specs.Prelude.{◌==◌, min}
use Rattle.std.proofs.lemmas.Bool.{ltb-true, ltb-false}
use Rattle.std.proofs.lemmas.List.{append_assoc, append-nil, map-append, take-map, take_min}
use Rattle.lu_text.specs.Lines.{texts}
use Rattle.lu_text.proofs.Reading.{text_more, texts_end}
use Rattle.lu_test.specs.declared.schedule.Move.{Move}
use Rattle.lu_test.specs.declared.schedule_fault.ScheduleFault.{ScheduleFault}
use Rattle.lu_test.specs.declared.schedule_fault.ScheduleFault.TheVariants.{Form, Limit}
use Rattle.lu_test.specs.ScheduleText.{◌>>=◌, move_of, moves_of, moves_by, moves_in, one_line, has_form, schedule_of}
use Rattle.lu_test.specs.ScheduleGoing.{words_by, schedule_line_words, schedule_words, moves_said}
use Rattle.lu_lint.specs.declared.remark.Said.{Said}
use Rattle.lu_lint.specs.declared.remark.FaultKind.TheVariants as part
use Rattle.lu_lint.specs.Lint.{message_here}
use Rattle.lu_lint.specs.Said.{said_faults}
use Rattle.lu_lint.specs.Schedule.{fault_of, word_faults, length_faults, words_faults, form_faults, schedule_faults, schedule_said, AgreeOn}
use Rattle.lu_lint.proofs.Going.{said_more}
use denote.Ref.{Bor}

pub said_both : (above : ℕ) (xs ys : List ScheduleFault) → schedule_said above (xs ++ ys) ≡ schedule_said above xs ++ schedule_said above ys
said_both above xs ys = ap (said_faults part.Schedule above) (map-append (message_here 1) xs ys) ∙ said_more part.Schedule above (map (message_here 1) xs) (map (message_here 1) ys)

-- one word more
pub goes_on : (words : List (Bor (List ℕ))) (i : ℕ) (d : Bor (List ℕ)) (above : ℕ) (before next total : List Said) → i < length words → next ≡ before ++ schedule_said above (word_faults (get_or words i d).now)
    → before ++ schedule_said above (flat_map word_faults (drop i (texts words))) ≡ total → next ++ schedule_said above (flat_map word_faults (drop (i + 1) (texts words))) ≡ total
goes_on words i d above before next total within more so_far =
    let word = (get_or words i d).now in
    let others = flat_map word_faults (drop (i + 1) (texts words)) in
    rw more (append_assoc before (schedule_said above (word_faults word)) (schedule_said above others) ∙ ap (λ (x : List Said). before ++ x) (sym (said_both above (word_faults word) others)) ∙ (rw (text_more words i d within) at so_far))

-- no word is left
pub ends : (words : List (Bor (List ℕ))) (i above : ℕ) (before total : List Said) → length words ≤ i → before ++ schedule_said above (flat_map word_faults (drop i (texts words))) ≡ total → before ≡ total
ends words i above before total within so_far = sym (append-nil before) ∙ (rw (texts_end words i within) at so_far)

-- the first words
pub first_texts : (words front : List (Bor (List ℕ))) → front ≡ take (min 4113 (length words)) words → texts front ≡ take 4113 (texts words)
first_texts words front e = ap texts (e ∙ take_min 4113 words) ∙ sym (take-map (λ (w : Bor (List ℕ)). w.now) 4113 words)

-- of the words, and then of their number
pub both : (above : ℕ) (all one two : List Said) (front words : List (List ℕ)) → one ≡ all ++ schedule_said above (flat_map word_faults front) → front ≡ take 4113 words → two ≡ one ++ schedule_said above (length_faults words) → two ≡ all ++ schedule_said above (words_faults words)
both above all one two front words first is then =
    rw (then, first, is) (append_assoc all (schedule_said above (flat_map word_faults (take 4113 words))) (schedule_said above (length_faults words)) ∙ ap (λ (x : List Said). all ++ x) (sym (said_both above (flat_map word_faults (take 4113 words)) (length_faults words))))

-- ---- the reader's fault is the first

then_move : (m : Move) (r : Result (List Move) ScheduleFault) (faults : List ScheduleFault) → AgreeOn r faults → AgreeOn (r >>= (λ others. Ok (m ∷ others))) faults
then_move m (Ok x) [] h = tt
then_move m (Ok x) (f ∷ fs) h = absurd h
then_move m (Err e) [] h = absurd h
then_move m (Err e) (f ∷ fs) h = h

-- too many words of which so many came before
abbrev too_many : ℕ → List (List ℕ) → List ScheduleFault
too_many before words = cond (ltb 4112 (before + length words)) (Limit ∷ []) []

none_too_many : (before : ℕ) (words : List (List ℕ)) → before + length words ≤ 4112 → too_many before words ≡ []
none_too_many before words few = go (ltb 4112 (before + length words)) refl
  where
    go : (b : Bool) → ltb 4112 (before + length words) ≡ b → cond b (Limit ∷ []) [] ≡ []
    go true e = absurd (omega (arith, ltb-true 4112 (before + length words) e, few))
    go false e = refl

is_too_many : (before : ℕ) (words : List (List ℕ)) → 4112 < before + length words → too_many before words ≡ Limit ∷ []
is_too_many before words many = go (ltb 4112 (before + length words)) refl
  where
    go : (b : Bool) → ltb 4112 (before + length words) ≡ b → cond b (Limit ∷ []) [] ≡ Limit ∷ []
    go true e = refl
    go false e = absurd (omega (arith, ltb-false 4112 (before + length words) e, many))

one_more : (before : ℕ) (word : List ℕ) (words : List (List ℕ)) → too_many before (word ∷ words) ≡ too_many (before + 1) words
one_more before word words = ap (λ (n : ℕ). cond (ltb 4112 n) (Limit ∷ []) []) (omega arith)

agree_words : (words : List (List ℕ)) (before k : ℕ) → before + k ≡ 4112 → AgreeOn (moves_of before words) (flat_map word_faults (take (suc k) words) ++ too_many before words)
unfolding moves_of
agree_words [] before k e = rw (none_too_many before [] (omega arith)) tt
agree_words (word ∷ words) before k e = go (move_of word) k e (λ k' e'. agree_words words (before + 1) k' e')
  where
    Rest : ℕ → Type 0
    Rest k = AgreeOn (moves_of (before + 1) words) (flat_map word_faults (take (suc k) words) ++ too_many (before + 1) words)

    last : (m : Move) (b : Bool) → ltb before 4112 ≡ b → before ≡ 4112 → AgreeOn ((cond b (moves_of (before + 1) words) (Err Limit)) >>= (λ others. Ok (m ∷ others))) (Limit ∷ [])
    last m true test is = absurd (omega (arith, ltb-true before 4112 test, is))
    last m false test is = refl

    more : (m : Move) (b : Bool) (faults : List ScheduleFault) → ltb before 4112 ≡ b → before < 4112 → AgreeOn (moves_of (before + 1) words) faults → AgreeOn ((cond b (moves_of (before + 1) words) (Err Limit)) >>= (λ others. Ok (m ∷ others))) faults
    more m true faults test is h = then_move m (moves_of (before + 1) words) faults h
    more m false faults test is h = absurd (omega (arith, ltb-false before 4112 test, is))

    go : (r : Result Move ScheduleFault) (k : ℕ) → before + k ≡ 4112 → ((k : ℕ) → before + 1 + k ≡ 4112 → Rest k)
        → AgreeOn (r >>= (λ m. (cond (ltb before 4112) (moves_of (before + 1) words) (Err Limit)) >>= (λ others. Ok (m ∷ others)))) ((fault_of r ++ flat_map word_faults (take k words)) ++ too_many before (word ∷ words))
    go (Err kind) k e again = refl
    go (Ok m) zero e again = rw (is_too_many before (word ∷ words) (omega arith)) (last m (ltb before 4112) refl (omega arith))
    go (Ok m) (suc k) e again = rw (one_more before word words) (more m (ltb before 4112) _ refl (omega arith) (again k (omega arith)))

from_none : (words : List (List ℕ)) → too_many 0 words ≡ length_faults words
from_none words = ap (λ (n : ℕ). cond (ltb 4112 n) (Limit ∷ []) []) (zero-add (length words))

agree_all : (words : List (List ℕ)) → AgreeOn (moves_of 0 words) (words_faults words)
agree_all words = subst (λ (fs : List ScheduleFault). AgreeOn (moves_of 0 words) (flat_map word_faults (take 4113 words) ++ fs)) (from_none words) (agree_words words 0 4112 (omega arith))

agree_said : (words : Option (List (List ℕ))) → AgreeOn (moves_said words) (form_faults words)
agree_said None = refl
agree_said (Some words) = agree_all words

-- the moves of the words are those of the text
same_moves : (line : Option (List ℕ)) → moves_in line ≡ moves_said (schedule_line_words line)
same_moves None = refl
same_moves (Some line) = go (slice_split (λ b. b == 32) line)
  where
    go : (parts : List (List ℕ)) → moves_by parts ≡ moves_said (words_by parts)
    go parts = by_form (has_form parts)
      where
        by_form : (b : Bool) → cond b (moves_of 0 (drop 1 parts)) (Err Form) ≡ moves_said (cond b (Some (drop 1 parts)) None)
        by_form true = refl
        by_form false = refl

pub schedule_agrees : (text : List ℕ) → AgreeOn (schedule_of text) (schedule_faults text)
schedule_agrees text = rw (same_moves (one_line text)) (agree_said (schedule_words text))
