-- Lists of entries, word after word.
use Rattle.std.proofs.Common.{◌≡◌, ℕ, zero, suc, ◌+◌, ◌<◌, ◌≤◌, List, [], ◌∷◌, ◌++◌, length, get_or, map, take, refl, sym, ap, ◌∙◌, arith}
use Rattle.std.specs.Prelude.{All}
use Rattle.std.proofs.lemmas.List.{map_push, take_more, take_all, length-map, get_or-map}
use Rattle.std.proofs.lemmas.List.Elements.{All-push}
use denote.Ref.{Bor}
use Rattle.lu_text.specs.Lines.{texts}
use Rattle.lu_history.specs.declared.serial.SerialOp.{SerialOp}
use Rattle.lu_spec.specs.SpecText.{IsEntry, entry_text}

-- the first i words are these entries
pub record AreReadTo (words : List (List ℕ)) (i : ℕ) (entries : List SerialOp) : Type 0 where
  pub are : All IsEntry entries
  pub say : take i words ≡ map entry_text entries

pub none_read : (words : List (List ℕ)) (entries : List SerialOp) → entries ≡ [] → AreReadTo words 0 entries
none_read words entries none = rw none (record { are = λ k d h. absurd (omega arith); say = refl })

pub one_read : (words : List (Bor (List ℕ))) (i : ℕ) (d : Bor (List ℕ)) (entries new : List SerialOp) (op : SerialOp) → i < length words → AreReadTo (texts words) i entries → IsEntry op → (get_or words i d).now ≡ entry_text op → new ≡ entries ++ op ∷ [] → AreReadTo (texts words) (i + 1) new
one_read words i d entries new op within so_far is says pushed =
    let long : i < length (texts words) = omega (arith, length-map words (λ (w : Bor (List ℕ)). w.now)) in
    let word : get_or (texts words) i d.now ≡ entry_text op = get_or-map (λ (w : Bor (List ℕ)). w.now) words i d d.now within ∙ says in
    rw pushed (record {
      are = All-push IsEntry entries op so_far.are is;
      say = take_more (texts words) i d.now long ∙ (ap (λ (x : List (List ℕ)). x ++ get_or (texts words) i d.now ∷ []) so_far.say
          ∙ (ap (λ (w : List ℕ). map entry_text entries ++ w ∷ []) word ∙ sym (map_push entry_text entries op)));
    })

pub all_read : (words : List (List ℕ)) (i : ℕ) (entries : List SerialOp) → length words ≤ i → AreReadTo words i entries → words ≡ map entry_text entries
all_read words i entries all so_far = sym (take_all i words all) ∙ so_far.say

-- where a word says no entry, the words say no entries
pub not_read : (words : List (Bor (List ℕ))) (i : ℕ) (d : Bor (List ℕ)) → i < length words → ((op : SerialOp) → IsEntry op → (get_or words i d).now ≡ entry_text op → ⊥) → (q : List SerialOp) → All IsEntry q → texts words ≡ map entry_text q → ⊥
not_read [] i d within none q are say = absurd (omega arith)
not_read (w ∷ words) i d within none [] are say = absurd cc
not_read (w ∷ words) zero d within none (op ∷ q) are say = none op (are zero op (omega arith)) (let e : w.now ≡ entry_text op = cc in e)
not_read (w ∷ words) (suc i) d within none (op ∷ q) are say =
    not_read words i d (omega arith) none q (λ k e h. are (suc k) e (omega arith)) (let e : texts words ≡ map entry_text q = cc in e)
