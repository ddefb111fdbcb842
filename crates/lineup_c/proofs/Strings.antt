-- Words read as strings, word by word.
use Rattle.std.proofs.Common.{◌≡◌, ℕ, ◌+◌, ◌≤◌, ◌<◌, List, [], ◌∷◌, ◌++◌, length, get_or, drop, take, sym, ap, subst, ◌∙◌, arith}
use Rattle.std.specs.Prelude.{All, IfOk, Result, Ok, Err}
use Rattle.std.specs.Str.{IsUtf8}
use Rattle.std.proofs.lemmas.List.{append_assoc, append-nil, get_or-map, length-map, map-append, take_all, take_more}
use Rattle.std.proofs.lemmas.List.Elements.{All-append, All-cons, All-drop, All-nil}
use Rattle.lu_text.specs.Lines.{texts}
use Rattle.lu_text.proofs.Reading.{text_more, texts_end}
use denote.Ref.{Bor}

module _ (words : List (Bor (List ℕ))) (i : ℕ) where
  -- one word more
  pub goes_on : (d s : Bor (List ℕ)) (read : List (Bor (List ℕ))) → i < length words → s.now ≡ (get_or words i d).now → texts read ++ drop i (texts words) ≡ texts words → texts (read ++ s ∷ []) ++ drop (i + 1) (texts words) ≡ texts words
  goes_on d s read within same so_far =
      let others = drop (i + 1) (texts words) in
      ap (λ (x : List (List ℕ)). x ++ others) (map-append (λ (w : Bor (List ℕ)). w.now) read (s ∷ []))
      ∙ append_assoc (texts read) (s.now ∷ []) others
      ∙ ap (λ (x : List ℕ). texts read ++ x ∷ others) same
      ∙ (rw (text_more words i d within) at so_far)

  -- no word is left
  pub ends : (read : List (Bor (List ℕ))) → length words ≤ i → texts read ++ drop i (texts words) ≡ texts words → texts read ≡ texts words
  ends read past so_far = sym (append-nil (texts read)) ∙ (rw (texts_end words i past) at so_far)

  -- a word that is no UTF-8
  pub not_all : (d : Bor (List ℕ)) → i < length words → (IsUtf8 (get_or words i d).now → ⊥) → All IsUtf8 (texts words) → ⊥
  not_all d within not all = not (subst (All IsUtf8) (text_more words i d within) (All-drop IsUtf8 i (texts words) all) 0 [] (omega arith))

module _ (words : List (Bor (List ℕ))) (i : ℕ) where
  -- one word more is UTF-8
  pub valid_more : (d : Bor (List ℕ)) → i < length words → IsUtf8 (get_or words i d).now → All IsUtf8 (take i (texts words)) → All IsUtf8 (take (i + 1) (texts words))
  valid_more d within is valid =
      let here : IsUtf8 (get_or (texts words) i []) = subst IsUtf8 (sym (get_or-map (λ (w : Bor (List ℕ)). w.now) words i d [] within)) is in
      let more : take (i + 1) (texts words) ≡ take i (texts words) ++ get_or (texts words) i [] ∷ [] = take_more (texts words) i [] (subst (λ (n : ℕ). i < n) (sym (length-map words (λ (w : Bor (List ℕ)). w.now))) within) in
      subst (All IsUtf8) (sym more) (All-append IsUtf8 (take i (texts words)) (get_or (texts words) i [] ∷ []) valid (All-cons IsUtf8 (get_or (texts words) i []) [] here (All-nil IsUtf8)))

  -- all words are
  pub valid_all : length words ≤ i → All IsUtf8 (take i (texts words)) → All IsUtf8 (texts words)
  valid_all past valid = subst (All IsUtf8) (take_all i (texts words) (subst (λ (n : ℕ). n ≤ i) (sym (length-map words (λ (w : Bor (List ℕ)). w.now))) past)) valid

-- what holds of every value holds where there is one
pub for_any : {T E : Type 0} (r : Result T E) (P : T → Type 0) → ((x : T) → P x) → IfOk r P
for_any (Ok x) P f = f x
for_any (Err e) P f = tt
