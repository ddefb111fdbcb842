-- Lines as they were meant: where nothing was only meant, a line is read as it stands.
use Rattle.std.proofs.Common.{◌≡◌, ◌≤◌, ℕ, zero, suc, ◌+◌, ◌-◌, eqb, length-drop, append_assoc, Bool, true, false, cond, List, [], ◌∷◌, take, drop, length, Option, Some, None, Result, Ok, Err, refl, sym, ap, arith, ◌++◌}
use Rattle.std.specs.Prelude.{is_some, option_and_then, slice_get, codes}
use Rattle.std.specs.List.{list_all, flat_map}
use Rattle.std.proofs.lemmas.Bool.{eqb-true}
use Rattle.std.proofs.lemmas.List.{drop-map, take-map}
use Rattle.std.proofs.lemmas.Option.{slice_get-map}
use Rattle.std.specs.Option.{unwrap_or, option_map}
use denote.Ref.{Bor}
use Rattle.lu_text.specs.Faults.{on_line, then_lines, lines_after, meaning_of, going_on}
use Rattle.lu_text.specs.Lines.{lines_of, words_of, is_allowed, texts}
use Rattle.lu_text.specs.Words.{Word}
use Rattle.lu_lang.specs.declared.fault.LangFaultKind.{LangFaultKind}
use Rattle.lu_lang.specs.declared.recovery.Family.{Family}
use Rattle.lu_lang.specs.Draft.{ComponentDraft, nothing}
use Rattle.lu_lang.specs.Faulty.{MeantName, FaultyDraft}
use Rattle.lu_lang.specs.Grammar.{line_of, component_grammar}
use Rattle.lu_lang.specs.Meant.{is_meant, first_of, name_of_line, renamed_at, renamed, meant_line, with_draft, faulty_grammar, spaced, line_with}

-- the draft, where nothing was only meant
abbrev sound : ComponentDraft → FaultyDraft
sound d = record { draft = d; meant = [] }

same_words : (d : ComponentDraft) (words : List Word) → renamed (sound d) words ≡ None
same_words d words = go (is_some d.begun) (name_of_line (length d.operations) words)
  where
    at : (family : Family) (position : ℕ) (word : Option Word) → cond (unwrap_or (option_map (is_meant [] family) word) false) (option_map (line_with words position) (first_of d family)) None ≡ None
    at family position None = refl
    at family position (Some word) = refl

    go : (b : Bool) (named : Option (Family × ℕ)) → cond b (option_and_then (renamed_at (sound d) words) named) None ≡ None
    go false named = refl
    go true None = refl
    go true (Some (family, position)) = at family position (slice_get words position)

pub same_line : (d : ComponentDraft) (line : List ℕ) → meant_line (sound d) line ≡ None
same_line d line = go (list_all is_allowed line)
  where
    go : (b : Bool) → cond b (renamed (sound d) (words_of line)) None ≡ None
    go false = refl
    go true = same_words d (words_of line)

pub read_same : (d : ComponentDraft) (line : List ℕ) → faulty_grammar.line (sound d) line ≡ with_draft (sound d) (line_of d line)
read_same d line = ap (λ (o : Option (List ℕ)). with_draft (sound d) (line_of d (unwrap_or o line))) (same_line d line)

faulty_after : (n : ℕ) (d : ComponentDraft) (lines : List (List ℕ)) → lines_after faulty_grammar n (sound d) lines ≡ lines_after component_grammar n d lines
unfolding lines_after
faulty_after n d [] = refl
faulty_after n d (line ∷ lines) = rw (read_same d line) (go (line_of d line) (λ next. faulty_after (n + 1) next lines))
  where
    go : (r : Result ComponentDraft LangFaultKind) → ((next : ComponentDraft) → lines_after faulty_grammar (n + 1) (sound next) lines ≡ lines_after component_grammar (n + 1) next lines) → then_lines (on_line n (with_draft (sound d) r)) (λ f. lines_after faulty_grammar (n + 1) f lines) ≡ then_lines (on_line n r) (λ next. lines_after component_grammar (n + 1) next lines)
    go (Ok next) again = again next
    go (Err kind) again = refl

-- the same, where the list has no element
pub unmeant : (f : FaultyDraft) (d : ComponentDraft) (meant : List MeantName) (n : ℕ) (line : List ℕ) → f ≡ record { draft = d; meant = meant } → n ≡ length meant → eqb n 0 ≡ true → None ≡ meant_line f line
unmeant f d [] n line is len e = rw is (sym (same_line d line))
unmeant f d (m ∷ ms) n line is len e = absurd (omega (arith, eqb-true n 0 e, len))

-- a text without faults is read as the reader reads it, and its first fault is the reader's
pub faulty_meaning : (text : List ℕ) → meaning_of faulty_grammar text ≡ meaning_of component_grammar text
faulty_meaning text = faulty_after 1 nothing (lines_of text)

-- what a line does to the draft, beside the names that were only meant
abbrev beside : FaultyDraft → ComponentDraft × Option LangFaultKind → FaultyDraft × Option LangFaultKind
beside f (d, fault) = (record f { draft = d }, fault)

pub faulty_going : (f : FaultyDraft) (d : ComponentDraft) (fault : Option LangFaultKind) (r : Result ComponentDraft LangFaultKind) → (d, fault) ≡ going_on f.draft r → (record f { draft = d }, fault) ≡ going_on f (with_draft f r)
faulty_going f d fault (Ok next) e = ap (beside f) e
faulty_going f d fault (Err kind) e = ap (beside f) e

-- ---- words in memory

pub texts_taken : (words : List (Bor (List ℕ))) (i : ℕ) → texts (take i words) ≡ take i (texts words)
texts_taken words i = sym (take-map (λ w. w.now) i words)

pub texts_dropped : (words : List (Bor (List ℕ))) (i : ℕ) → texts (drop i words) ≡ drop i (texts words)
texts_dropped words i = sym (drop-map (λ w. w.now) i words)

pub text_at : (words : List (Bor (List ℕ))) (i : ℕ) → slice_get (texts words) i ≡ option_map (λ w. w.now) (slice_get words i)
text_at words i = slice_get-map (λ w. w.now) words i

-- a word and a space after it
abbrev pub word_text : Bor (List ℕ) → List ℕ
word_text w = w.now ++ codes " "

pub spaced_texts : (words : List (Bor (List ℕ))) → flat_map word_text words ≡ spaced (texts words)
spaced_texts [] = refl
spaced_texts (w ∷ ws) = ap (λ (x : List ℕ). word_text w ++ x) (spaced_texts ws)

taken : (words : List (Bor (List ℕ))) (i : ℕ) → length words ≤ i → take i words ≡ words
taken [] zero h = refl
taken [] (suc i) h = refl
taken (w ∷ ws) zero h = absurd (omega arith)
taken (w ∷ ws) (suc i) h = ap (λ (x : List (Bor (List ℕ))). w ∷ x) (taken ws i (omega arith))

pub spaced_all : (text : List ℕ) (words : List (Bor (List ℕ))) (i : ℕ) → length words ≤ i → text ++ flat_map word_text (take i words) ≡ text ++ spaced (texts words)
spaced_all text words i h = rw (taken words i h, spaced_texts words) refl

pub behind : (words : List (Bor (List ℕ))) (k : ℕ) → take (length words - k) (drop k words) ≡ drop k words
behind words k = taken (drop k words) (length words - k) (omega (arith, length-drop k words))

-- the words before a position, another, and the words after it
pub is_line_with : (words front back : List (Bor (List ℕ))) (position : ℕ) (other a b c : List ℕ)
    → front ≡ take position words → back ≡ drop (position + 1) words → a ≡ spaced (texts front) → b ≡ a ++ other → c ≡ b ++ codes " "
    → c ++ spaced (texts back) ≡ line_with (texts words) position other
is_line_with words front back position other a b c f k x y z =
    rw (z, y, x, f, k, texts_taken words position, texts_dropped words (position + 1), append_assoc (spaced (take position (texts words))) other (codes " ")) refl
