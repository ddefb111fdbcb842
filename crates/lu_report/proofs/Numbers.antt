-- Lines that end with a number.
use Rattle.std.proofs.Common.{◌≡◌, ℕ, ◌+◌, ◌<◌, ◌≤◌, ◌^◌, List, ◌++◌, Option, Some, None, true, false, refl, sym, ◌∙◌, ap, subst, arith}
use Rattle.std.specs.Prelude.{Bool, cond, nat_lt, codes, IfNone, IfSome}
use Rattle.std.specs.Fmt.{decimal}
use Rattle.std.proofs.lemmas.Bool.{lt-ltb, ltb-true}
use Rattle.std.proofs.lemmas.List.{append_assoc, append_cancel_left, append_cancel_right}
use Rattle.lu_text.specs.Numbers.{below, number_in}
use Rattle.lu_text.proofs.NumberText.{number_again, number_takes}
use Rattle.lu_report.specs.Text.{number_line}

-- nothing is there
pub if_none : {A : Type 0} (r : Option A) (P : Type 0) → P → IfNone r P
if_none None P p = p
if_none (Some x) P p = tt

below_some : (limit n : ℕ) (o : Option ℕ) → below limit o ≡ Some n → (o ≡ Some n) × (n < limit)
below_some limit n None e = absurd cc
below_some limit n (Some k) e = go (nat_lt k limit) refl e
  where
    go : (b : Bool) → nat_lt k limit ≡ b → cond b (Some k) None ≡ Some n → (Some k ≡ Some n) × (n < limit)
    go true is f = let same : k ≡ n = cc in (f, subst (λ x. x < limit) same (ltb-true k limit is))
    go false is f = absurd cc

module _ (line front p : List ℕ) (same : p ≡ front) where
  whole : (n : ℕ) → line ≡ number_line front n → line ≡ p ++ (decimal n ++ codes "\n")
  whole n e = e ∙ (append_assoc front (decimal n) (codes "\n") ∙ ap (λ x. x ++ (decimal n ++ codes "\n")) (sym same))

  -- the line does not begin so
  pub no_front : ((rest : List ℕ) → line ≡ p ++ rest → ⊥) → (n : ℕ) → line ≡ number_line front n → ⊥
  no_front none n e = none (decimal n ++ codes "\n") (whole n e)

  module _ (rest : List ℕ) (begins : line ≡ p ++ rest) where
    behind : (n : ℕ) → line ≡ number_line front n → rest ≡ decimal n ++ codes "\n"
    behind n e = append_cancel_left p rest (decimal n ++ codes "\n") (sym begins ∙ whole n e)

    module _ (word : List ℕ) (ends : rest ≡ word ++ codes "\n") where
      is_word : (n : ℕ) → line ≡ number_line front n → word ≡ decimal n
      is_word n e = append_cancel_right word (decimal n) (codes "\n") (sym ends ∙ behind n e)

      spoken : (n : ℕ) → n < 2 ^ 64 → number_in word ≡ Some n → line ≡ number_line front n
      spoken n small is =
          let text : decimal n ≡ word = number_takes word n small is in
          begins ∙ (ap (λ x. p ++ x) ends ∙ (ap (λ x. x ++ (word ++ codes "\n")) same ∙ (ap (λ x. front ++ (x ++ codes "\n")) (sym text) ∙ sym (append_assoc front (decimal n) (codes "\n")))))

      again : (limit n : ℕ) → n < 2 ^ 64 → n < limit → line ≡ number_line front n → below limit (number_in word) ≡ Some n
      again limit n small few e =
          let t : nat_lt n limit ≡ true = lt-ltb n limit few in
          let number : number_in word ≡ Some n = ap number_in (is_word n e) ∙ number_again n small in
          rw (number, t) refl

      -- the number that is read is the one of the line
      pub said : (most : ℕ) (o : Option ℕ) → most < 2 ^ 64 → o ≡ below (most + 1) (number_in word) → IfSome o (λ n. (n ≤ most) × (line ≡ number_line front n))
      said most None small is = tt
      said most (Some n) small is =
          let found = below_some (most + 1) n (number_in word) (sym is) in
          let few = found.1 in
          (omega arith, spoken n (omega arith) found.0)

      -- where none is read, the line has none
      pub not_said : (most : ℕ) (o : Option ℕ) → most < 2 ^ 64 → o ≡ below (most + 1) (number_in word) → IfNone o ((n : ℕ) → n ≤ most → line ≡ number_line front n → ⊥)
      not_said most None small is = λ n few e. let f = again (most + 1) n (omega arith) (omega arith) e in cc
      not_said most (Some n) small is = tt
