-- A set of serial histories has one spelling.
use Rattle.std.proofs.Common.{◌≡◌, ◌≢◌, ℕ, ◌⊎◌, List, [], ◌∷◌, ◌++◌, length, refl, sym, ap, subst, ◌∙◌, inl, inr, arith, append_assoc}
use Rattle.std.specs.List.{AllByRecursion}
use Rattle.std.specs.declared.cmp.Ordering.TheVariants.{Less}
use Rattle.std.proofs.lemmas.List.{length-append, append-nil}
use Rattle.lu_history.specs.declared.serial.SerialOp.{SerialOp}
use Rattle.lu_history.specs.Order.{op_cmp}
use Rattle.lu_test.specs.Matrix.{Matrix}
use Rattle.lu_trie.proofs.Ops.{ops_total}
use Rattle.lu_spec.specs.Beginnings.{Has, Begins, IsClosureOf}
use Rattle.lu_spec.specs.SpecText.{AreListed, ComesAfter, MayFollow, IsReadAs, spec_text}
use Rattle.lu_spec.specs.Listed.{IsListing, IsMaximal, Rises}
use Rattle.lu_spec.proofs.Sets.{begins_self, begins_trans, has_cons, has_first, has_right}

-- ---- the order of histories

never_less : (a : SerialOp) → op_cmp a a ≡ Less → ⊥
never_less a less = let same = ops_total.antisymm a a in let turned = rw less at same in cc

never_after : (p : List SerialOp) → ComesAfter p p → ⊥
never_after [] after = after
never_after (a ∷ p) (inl less) = never_less a less
never_after (a ∷ p) (inr (same, after)) = never_after p after

after_trans : (p q r : List SerialOp) → ComesAfter p q → ComesAfter q r → ComesAfter p r
after_trans [] q r x y = absurd x
after_trans (a ∷ p) [] r x y = absurd x
after_trans (a ∷ p) (b ∷ q) [] x y = absurd y
after_trans (a ∷ p) (b ∷ q) (c ∷ r) (inl x) (inl y) = inl (ops_total.trans a b c x y)
after_trans (a ∷ p) (b ∷ q) (c ∷ r) (inl x) (inr (same, y)) = inl (subst (λ (z : SerialOp). op_cmp a z ≡ Less) same x)
after_trans (a ∷ p) (b ∷ q) (c ∷ r) (inr (same, x)) (inl y) = inl (subst (λ (z : SerialOp). op_cmp z c ≡ Less) (sym same) y)
after_trans (a ∷ p) (b ∷ q) (c ∷ r) (inr (same, x)) (inr (also, y)) = inr (same ∙ also, after_trans p q r x y)

-- what comes after a history does not begin with it, nor it with that
not_begun : (p rest : List SerialOp) → ComesAfter p (p ++ rest) → ⊥
not_begun [] rest after = after
not_begun (a ∷ p) rest (inl less) = never_less a less
not_begun (a ∷ p) rest (inr (same, after)) = not_begun p rest after

not_beginning : (p rest : List SerialOp) → ComesAfter (p ++ rest) p → ⊥
not_beginning [] [] after = after
not_beginning [] (a ∷ rest) after = after
not_beginning (a ∷ p) rest (inl less) = never_less a less
not_beginning (a ∷ p) rest (inr (same, after)) = not_beginning p rest after

-- ---- rising lists

each_after : (p q : List SerialOp) (listed : List (List SerialOp)) → ComesAfter p q → AllByRecursion (ComesAfter q) listed → AllByRecursion (ComesAfter p) listed
each_after p q [] after all = tt
each_after p q (r ∷ listed) after all = (after_trans p q r after all.0, each_after p q listed after all.1)

rises_from : (listed before : List (List SerialOp)) (p : List SerialOp) (rest : List (List SerialOp))
    → ((front : List (List SerialOp)) (q : List SerialOp) (after : List (List SerialOp)) → listed ≡ front ++ q ∷ after → MayFollow front q) → listed ≡ before ++ p ∷ rest → Rises (p ∷ rest)
rises_from listed before p [] order is = (tt, tt)
rises_from listed before p (r ∷ rest) order is =
    let longer : listed ≡ (before ++ p ∷ []) ++ r ∷ rest = is ∙ sym (append_assoc before (p ∷ []) (r ∷ rest)) in
    let next = order (before ++ p ∷ []) r rest longer before p refl in
    let others = rises_from listed (before ++ p ∷ []) r rest order longer in
    ((next, each_after p r rest next others.0), others)

rises_all : (matrix : Matrix) (listed : List (List SerialOp)) → AreListed matrix listed → Rises listed
rises_all matrix [] are = tt
rises_all matrix (p ∷ listed) are = rises_from (p ∷ listed) [] p listed are.order refl

after_first : (p q : List SerialOp) (listed : List (List SerialOp)) → AllByRecursion (ComesAfter p) listed → Has listed q → ComesAfter p q
after_first p q [] all has = absurd cc
after_first p q (r ∷ listed) all has = elim (has_cons r listed q has) [
  | inl is ↦ subst (ComesAfter p) (sym is) all.0
  | inr later ↦ after_first p q listed all.1 later
]

-- of two members they are the same, or one comes after the other
in_order : (listed : List (List SerialOp)) (p q : List SerialOp) → Rises listed → Has listed p → Has listed q → (p ≡ q) ⊎ (ComesAfter p q ⊎ ComesAfter q p)
in_order [] p q rises has also = absurd cc
in_order (r ∷ listed) p q rises has also = by_parts (λ x y. in_order listed p q rises.1 x y) (has_cons r listed p has) (has_cons r listed q also)
  where
    by_parts : (Has listed p → Has listed q → (p ≡ q) ⊎ (ComesAfter p q ⊎ ComesAfter q p)) → (p ≡ r) ⊎ Has listed p → (q ≡ r) ⊎ Has listed q → (p ≡ q) ⊎ (ComesAfter p q ⊎ ComesAfter q p)
    by_parts again (inl x) (inl y) = inl (x ∙ sym y)
    by_parts again (inl x) (inr y) = inr (inl (subst (λ (z : List SerialOp). ComesAfter z q) (sym x) (after_first r q listed rises.0 y)))
    by_parts again (inr x) (inl y) = inr (inr (subst (λ (z : List SerialOp). ComesAfter z p) (sym y) (after_first r p listed rises.0 x)))
    by_parts again (inr x) (inr y) = again x y

-- rising lists with the same members are equal
one_list : (xs ys : List (List SerialOp)) → Rises xs → Rises ys → ((q : List SerialOp) → Has xs q → Has ys q) → ((q : List SerialOp) → Has ys q → Has xs q) → xs ≡ ys
one_list [] [] x y forth back = refl
one_list [] (b ∷ ys) x y forth back = absurd (let none = back b (has_first b ys) in cc)
one_list (a ∷ xs) [] x y forth back = absurd (let none = forth a (has_first a xs) in cc)
one_list (a ∷ xs) (b ∷ ys) x y forth back = rw (first, one_list xs ys x.1 y.1 forth_rest back_rest) refl
  where
    first : a ≡ b
    first = elim (has_cons b ys a (forth a (has_first a xs))) [
      | inl is ↦ is
      | inr later ↦ elim (has_cons a xs b (back b (has_first b ys))) [
        | inl is ↦ sym is
        | inr also ↦ absurd (never_after a (after_trans a b a (after_first a b xs x.0 also) (after_first b a ys y.0 later)))
      ]
    ]

    forth_rest : (q : List SerialOp) → Has xs q → Has ys q
    forth_rest q has = elim (has_cons b ys q (forth q (has_right (a ∷ []) xs q has))) [
      | inl is ↦ absurd (never_after q (subst (λ (z : List SerialOp). ComesAfter z q) (first ∙ sym is) (after_first a q xs x.0 has)))
      | inr later ↦ later
    ]

    back_rest : (q : List SerialOp) → Has ys q → Has xs q
    back_rest q has = elim (has_cons a xs q (back q (has_right (b ∷ []) ys q has))) [
      | inl is ↦ absurd (never_after q (subst (λ (z : List SerialOp). ComesAfter z q) (sym (is ∙ first)) (after_first b q ys y.0 has)))
      | inr later ↦ later
    ]

-- ---- the listed histories are those that begin no other

begins_both : (p q : List SerialOp) → Begins p q → Begins q p → p ≡ q
begins_both p q x y = by_rest y.0 y.1
  where
    by_rest : (rest : List SerialOp) → p ≡ q ++ rest → p ≡ q
    by_rest [] e = e ∙ append-nil q
    by_rest (op ∷ rest) e = absurd (omega (arith, ap length e, length-append q (op ∷ rest), ap length x.1, length-append p x.0))

module _ (matrix : Matrix) (members listed : List (List SerialOp)) (are : AreListed matrix listed) (closure : IsClosureOf listed members) where
  -- no listed history begins another
  alone : (q g : List SerialOp) → Has listed q → Has listed g → Begins q g → q ≡ g
  alone q g has also begins = elim (in_order listed q g (rises_all matrix listed are) has also) [
    | inl same ↦ same
    | inr (inl after) ↦ absurd (not_begun q begins.0 (subst (ComesAfter q) begins.1 after))
    | inr (inr after) ↦ absurd (not_beginning q begins.0 (subst (λ (z : List SerialOp). ComesAfter z q) begins.1 after))
  ]

  none_empty : (q : List SerialOp) → Has listed q → q ≢ []
  none_empty q has empty = omega (arith, (are.each q has).0.some, ap length empty)

  listed_maximal : (q : List SerialOp) → Has listed q → IsMaximal members q
  listed_maximal q has = record {
    member = (closure q).1 (inr (q, begins_self q, has));
    some = none_empty q has;
    maximal = λ h begins inside. by_part h begins ((closure h).0 inside);
  }
    where
      only_empty : (x rest : List SerialOp) → [] ≡ x ++ rest → x ≡ []
      only_empty [] rest e = refl
      only_empty (op ∷ x) rest e = absurd cc

      by_part : (h : List SerialOp) → Begins q h → (h ≡ []) ⊎ ((g : List SerialOp) × Begins h g × Has listed g) → h ≡ q
      by_part h begins (inl empty) = absurd (none_empty q has (only_empty q begins.0 (sym empty ∙ begins.1)))
      by_part h begins (inr (g, on, also)) =
          let same = alone q g has also (begins_trans q h g begins on) in
          begins_both h q (subst (Begins h) (sym same) on) begins

  maximal_listed : (q : List SerialOp) → IsMaximal members q → Has listed q
  maximal_listed q is = by_part ((closure q).0 is.member)
    where
      by_part : (q ≡ []) ⊎ ((g : List SerialOp) × Begins q g × Has listed g) → Has listed q
      by_part (inl empty) = absurd (is.some empty)
      by_part (inr (g, begins, has)) =
          let same = is.maximal g begins ((closure g).1 (inr (g, begins_self g, has))) in
          subst (Has listed) same has

  pub one_listing : (other : List (List SerialOp)) → IsListing members other → listed ≡ other
  one_listing other is = one_list listed other (rises_all matrix listed are) is.rises
      (λ q has. (is.are q).1 (listed_maximal q has)) (λ q has. maximal_listed q ((is.are q).0 has))

pub one_spelling : (matrix : Matrix) (text : List ℕ) (members listed : List (List SerialOp)) → IsReadAs matrix text members → IsListing members listed → text ≡ spec_text listed
one_spelling matrix text members listed read is =
    read.2 ∙ ap spec_text (one_listing matrix members read.0 read.1 read.3 listed is)
