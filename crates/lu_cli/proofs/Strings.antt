-- Words read as strings, word by word.
use Rattle.std.proofs.Common.{◌≡◌, ℕ, ◌+◌, ◌≤◌, ◌<◌, List, [], ◌∷◌, ◌++◌, length, get_or, drop, refl, sym, ap, subst, ◌∙◌, arith}
use Rattle.std.specs.Prelude.{All}
use Rattle.std.specs.Str.{IsUtf8}
use Rattle.std.proofs.lemmas.List.{append_assoc, append-nil, map-append}
use Rattle.std.proofs.lemmas.List.Elements.{All-drop}
use Rattle.lu_text.specs.Lines.{texts}
use Rattle.lu_text.proofs.Reading.{text_more, texts_end}
use denote.Ref.{Bor}
use Rattle.lu_cli.specs.Compile.{parts_text, lent_after, part_text}

module _ (words : List (Bor (List ℕ))) (i : ℕ) where
  -- one word more
  pub goes_on : (d s : Bor (List ℕ)) (read : List (Bor (List ℕ))) → i < length words → s.now ≡ (get_or words i d).now → texts read ++ drop i (texts words) ≡ texts words → texts (read ++ s ∷ []) ++ drop (i + 1) (texts words) ≡ texts words
  goes_on d s read within same so_far =
      let others = drop (i + 1) (texts words) in
      ap (λ (x : List (List ℕ)). x ++ others) (map-append (λ (w : Bor (List ℕ)). w.now) read (s ∷ []))
      ∙ append_assoc (texts read) (s.now ∷ []) others
      ∙ ap (λ (x : List ℕ). texts read ++ x ∷ others) same
      ∙ (rw (text_more words i d within) at so_far)

  -- no word is left
  pub ends : (read : List (Bor (List ℕ))) → length words ≤ i → texts read ++ drop i (texts words) ≡ texts words → texts read ≡ texts words
  ends read past so_far = sym (append-nil (texts read)) ∙ (rw (texts_end words i past) at so_far)

  -- a word that is no UTF-8
  pub not_all : (d : Bor (List ℕ)) → i < length words → (IsUtf8 (get_or words i d).now → ⊥) → All IsUtf8 (texts words) → ⊥
  not_all d within not all = not (subst (All IsUtf8) (text_more words i d within) (All-drop IsUtf8 i (texts words) all) 0 [] (omega arith))

-- parts that are lent, and their texts
pub lent_texts : (parts : List (Bor (List ℕ))) → lent_after parts ≡ parts_text (texts parts)
lent_texts [] = refl
lent_texts (part ∷ parts) = ap (λ (t : List ℕ). part_text part.now ++ t) (lent_texts parts)
