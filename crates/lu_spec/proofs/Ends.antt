-- The histories that begin no other, kid after kid.
use Rattle.std.proofs.Common.{◌≡◌, ℕ, zero, suc, ◌+◌, ◌-◌, ◌<◌, ◌≤◌, ◌⊎◌, List, [], ◌∷◌, ◌++◌, length, map, take, Some, slice_get, refl, sym, ap, subst, ◌∙◌, inl, inr, arith, append_assoc}
use Rattle.std.specs.List.{AllByRecursion, flat_map, join_with_byte}
use Rattle.std.specs.List.Sorted.{IsStrictlySortedBy}
use Rattle.std.specs.Prelude.{codes}
use Rattle.std.specs.declared.cmp.Ordering.TheVariants.{Less}
use Rattle.std.proofs.lemmas.Bool.{cases_lt}
use Rattle.std.proofs.lemmas.Option.{slice_get_within}
use Rattle.std.proofs.lemmas.List.{append-nil, take_all}
use Rattle.std.proofs.lemmas.List.Concat.{flat_map-cons}
use Rattle.lu_text.proofs.Written.{each_append}
use Rattle.lu_history.specs.declared.serial.SerialOp.{SerialOp}
use Rattle.lu_history.specs.Order.{op_cmp}
use Rattle.lu_trie.specs.Members.{after}
use Rattle.lu_trie.specs.Branches.{Branch, joined, labels, branches_of, IsBranching}
use Rattle.lu_trie.proofs.Trees.{branching-at}
use Rattle.lu_spec.specs.Beginnings.{Has}
use Rattle.lu_spec.specs.SpecText.{ComesAfter, entry_text, history_line}
use Rattle.lu_spec.specs.Listed.{AreEnds, IsEnd, IsEndHere, IsListing, IsMaximal, Rises}
use Rattle.lu_spec.proofs.Sets.{has_either, has_left, has_right, has_after, after_has, has_first, has_cons, joined_next, below_some, parted, of_branch, in_joined}

-- ---- lines

spaced : (first : List ℕ) (q : List SerialOp) → join_with_byte 32 (first ∷ map entry_text q) ≡ first ++ flat_map (λ op. 32 ∷ entry_text op) q
spaced first [] = sym (append-nil first)
spaced first (op ∷ q) = ap (λ (x : List ℕ). first ++ (32 ∷ x)) (spaced (entry_text op) q) ∙ ap (λ (x : List ℕ). first ++ x) (sym (flat_map-cons (λ (o : SerialOp). 32 ∷ entry_text o) op q))

-- a line as it is written
pub line_written : (q : List SerialOp) → history_line q ≡ (codes "history" ++ flat_map (λ op. 32 ∷ entry_text op) q) ++ codes "\n"
line_written q = ap (λ (x : List ℕ). x ++ codes "\n") (spaced (codes "history") q)

-- ---- order

comes_behind : (path p q : List SerialOp) (a b : SerialOp) → op_cmp a b ≡ Less → ComesAfter (path ++ a ∷ p) (path ++ b ∷ q)
comes_behind [] p q a b less = inl less
comes_behind (op ∷ path) p q a b less = inr (refl, comes_behind path p q a b less)

rises_on : (xs ys : List (List SerialOp)) → Rises xs → Rises ys → ((p q : List SerialOp) → Has xs p → Has ys q → ComesAfter p q) → Rises (xs ++ ys)
rises_on [] ys front back across = back
rises_on (p ∷ xs) ys front back across = (
  each_append (ComesAfter p) xs ys front.0 (each ys (λ q has. across p q (has_first p xs) has)),
  rises_on xs ys front.1 back (λ x q has also. across x q (has_later p xs x has) also),
)
  where
    has_later : (h : List SerialOp) (hs : List (List SerialOp)) (x : List SerialOp) → Has hs x → Has (h ∷ hs) x
    has_later h hs x has = has_right (h ∷ []) hs x has

    each : (zs : List (List SerialOp)) → ((q : List SerialOp) → Has zs q → ComesAfter p q) → AllByRecursion (ComesAfter p) zs
    each [] all = tt
    each (z ∷ zs) all = (all z (has_first z zs), each zs (λ q has. all q (has_right (z ∷ []) zs q has)))

-- a history of an earlier branch has a smaller label
taken_below : (bs : List Branch) (i : ℕ) (b : Branch) (h : List SerialOp) → IsStrictlySortedBy op_cmp (labels bs) → slice_get bs i ≡ Some b → Has (joined (take i bs)) h → (op : SerialOp) × (rest : List SerialOp) × (h ≡ op ∷ rest) × (op_cmp op b.0 ≡ Less)
unfolding IsStrictlySortedBy
taken_below [] i b h sorted at has = absurd cc
taken_below (k ∷ ks) zero b h sorted at has = absurd cc
taken_below (k ∷ ks) (suc i) b h sorted at has = elim (has_either (after k.0 k.1) (joined (take i ks)) h has) [
  | inl first ↦ let found = has_after k.0 k.1 h first in (k.0, found.0, found.1, label_below ks i sorted.0 at)
  | inr later ↦ taken_below ks i b h sorted.1 at later
]
  where
    label_below : (xs : List Branch) (j : ℕ) → AllByRecursion (λ y. op_cmp k.0 y ≡ Less) (labels xs) → slice_get xs j ≡ Some b → op_cmp k.0 b.0 ≡ Less
    label_below [] j all is = absurd cc
    label_below (x ∷ xs) zero all is = let e : x ≡ b = cc in subst (λ (z : Branch). op_cmp k.0 z.0 ≡ Less) e all.0
    label_below (x ∷ xs) (suc j) all is = label_below xs j all.1 is

-- ---- ends

-- the ends among the first i kids
pub record AreEndsTo (path : List SerialOp) (below : List (List SerialOp)) (bs : List Branch) (i : ℕ) (listed : List (List SerialOp)) : Type 0 where
  pub only : (q : List SerialOp) → Has listed q → IsEnd path below q
  pub among : (q : List SerialOp) → Has listed q → (rest : List SerialOp) × (q ≡ path ++ rest) × Has (joined (take i bs)) rest
  pub each : (q : List SerialOp) (end : IsEnd path below q) → Has (joined (take i bs)) end.rest → Has listed q
  pub rises : Rises listed

module _ (below : List (List SerialOp)) (law : IsBranching below) (i : ℕ) (op : SerialOp) (kid : List (List SerialOp)) (at : slice_get (branches_of below) i ≡ Some (op, kid)) where
  -- what goes on with the kid's label is the kid's
  kid_has : (g : List SerialOp) → Has below (op ∷ g) → Has kid g
  kid_has g has =
      let lt = slice_get_within (branches_of below) i (op, kid) at in
      let one : 1 ≤ length (op ∷ g) = omega arith in
      let same = branching-at below law (op ∷ g) op one i (op, kid) lt at refl in
      let whole : take (length (op ∷ g) - 1) g ≡ g = take_all (length (op ∷ g) - 1) g (omega arith) in
      subst (Has kid) whole (sym same ∙ has)

  has_kid : (g : List SerialOp) → Has kid g → Has below (op ∷ g)
  has_kid g has = of_branch below (op ∷ g) law (in_joined (branches_of below) i (op, kid) g at has)

  module _ (path : List SerialOp) where
    kid_end : (q : List SerialOp) → IsEnd (path ++ op ∷ []) kid q → IsEnd path below q
    kid_end q end = record {
      rest = op ∷ end.rest;
      is = end.is ∙ append_assoc path (op ∷ []) end.rest;
      some = end.some;
      member = has_kid end.rest end.member;
      maximal = λ g begins has.
          let longer : g ≡ op ∷ (end.rest ++ begins.0) = begins.1 in
          let inside = kid_has (end.rest ++ begins.0) (subst (Has below) longer has) in
          let same = end.maximal (end.rest ++ begins.0) (begins.0, refl) inside in
          longer ∙ ap (λ (x : List SerialOp). op ∷ x) same;
    }

    end_kid : (q : List SerialOp) (end : IsEnd path below q) (h : List SerialOp) → end.rest ≡ op ∷ h → Has kid h → IsEnd (path ++ op ∷ []) kid q
    end_kid q end h is has = record {
      rest = h;
      is = end.is ∙ (ap (λ (x : List SerialOp). path ++ x) is ∙ sym (append_assoc path (op ∷ []) h));
      some = end.some;
      member = has;
      maximal = λ g begins inside.
          let longer : op ∷ g ≡ end.rest ++ begins.0 = ap (λ (x : List SerialOp). op ∷ x) begins.1 ∙ ap (λ (x : List SerialOp). x ++ begins.0) (sym is) in
          let same : op ∷ g ≡ op ∷ h = end.maximal (op ∷ g) (begins.0, longer) (has_kid g inside) ∙ is in
          cc;
    }

    pub kid_ends : (listed more : List (List SerialOp)) → AreEndsTo path below (branches_of below) i listed → AreEnds (path ++ op ∷ []) kid more → AreEndsTo path below (branches_of below) (i + 1) (listed ++ more)
    kid_ends listed more so_far ends = record {
      only = λ q has. elim (has_either listed more q has) [ inl was ↦ so_far.only q was | inr now ↦ kid_end q ((ends.are q).0 now) ];
      among = λ q has. elim (has_either listed more q has) [
        | inl was ↦ let found = so_far.among q was in (found.0, found.1, subst (λ (x : List (List SerialOp)). Has x found.0) (sym next) (has_left (joined (take i (branches_of below))) (after op kid) found.0 found.2))
        | inr now ↦
            let end = (ends.are q).0 now in
            (op ∷ end.rest, end.is ∙ append_assoc path (op ∷ []) end.rest, subst (λ (x : List (List SerialOp)). Has x (op ∷ end.rest)) (sym next) (has_right (joined (take i (branches_of below))) (after op kid) (op ∷ end.rest) (after_has op kid end.rest end.member)))
      ];
      each = λ q end has. elim (has_either (joined (take i (branches_of below))) (after op kid) end.rest (subst (λ (x : List (List SerialOp)). Has x end.rest) next has)) [
        | inl was ↦ has_left listed more q (so_far.each q end was)
        | inr here ↦ let found = has_after op kid end.rest here in has_right listed more q ((ends.are q).1 (end_kid q end found.0 found.1 found.2))
      ];
      rises = rises_on listed more so_far.rises ends.rises across;
    }
      where
        next : joined (take (i + 1) (branches_of below)) ≡ joined (take i (branches_of below)) ++ after op kid
        next = joined_next (branches_of below) i op kid at

        across : (p q : List SerialOp) → Has listed p → Has more q → ComesAfter p q
        across p q has also =
            let found = so_far.among p has in
            let smaller = taken_below (branches_of below) i (op, kid) found.0 law.branches.rise at found.2 in
            let end = (ends.are q).0 also in
            let first : p ≡ path ++ smaller.0 ∷ smaller.1 = found.1 ∙ ap (λ (x : List SerialOp). path ++ x) smaller.2 in
            let second : q ≡ path ++ op ∷ end.rest = end.is ∙ append_assoc path (op ∷ []) end.rest in
            subst (ComesAfter p) (sym second) (subst (λ (x : List SerialOp). ComesAfter x (path ++ op ∷ end.rest)) (sym first) (comes_behind path smaller.1 end.rest smaller.0 op smaller.3))

-- ---- before and after the kids

-- what is listed before kid i
pub record IsListedTo (path : List SerialOp) (below : List (List SerialOp)) (i : ℕ) (listed : List (List SerialOp)) : Type 0 where
  pub none : length (branches_of below) ≡ 0 → AreEnds path below listed
  pub some : 0 < length (branches_of below) → AreEndsTo path below (branches_of below) i listed

no_branch : (bs : List Branch) → length bs ≡ 0 → bs ≡ []
no_branch [] e = refl
no_branch (b ∷ bs) e = absurd (omega arith)

-- without kids the empty history alone may be below
only_here : (below : List (List SerialOp)) (rest : List SerialOp) → IsBranching below → length (branches_of below) ≡ 0 → Has below rest → rest ≡ []
only_here below rest law none has = elim (parted below rest law has) [
  | inl empty ↦ empty
  | inr branch ↦ absurd (let nothing : Has [] rest = subst (λ (x : List Branch). Has (joined x) rest) (no_branch (branches_of below) none) branch in cc)
]

pub here_listed : (path : List SerialOp) (below : List (List SerialOp)) → IsBranching below → IsEndHere path below → IsListedTo path below 0 (path ∷ [])
here_listed path below law here = record {
  none = λ kids. record { are = λ q. (λ has. forth q has, λ end. back q end); rises = (tt, tt) };
  some = λ kids. absurd (omega (arith, here.0));
}
  where
    forth : (q : List SerialOp) → Has (path ∷ []) q → IsEnd path below q
    forth q has = elim (has_cons path [] q has) [
      | inl is ↦ record { rest = []; is = is ∙ sym (append-nil path); some = λ none. here.2 (sym is ∙ none); member = here.1; maximal = λ g begins inside. only_here below g law here.0 inside }
      | inr later ↦ absurd cc
    ]

    back : (q : List SerialOp) → IsEnd path below q → Has (path ∷ []) q
    back q end =
        let none = only_here below end.rest law here.0 end.member in
        let same : q ≡ path = end.is ∙ (ap (λ (x : List SerialOp). path ++ x) none ∙ append-nil path) in
        subst (Has (path ∷ [])) (sym same) (has_first path [])

pub nothing_listed : (path : List SerialOp) (below : List (List SerialOp)) → IsBranching below → (IsEndHere path below → ⊥) → IsListedTo path below 0 []
nothing_listed path below law fails = record {
  none = λ kids. record {
    are = λ q. (
      λ has. absurd cc,
      λ end.
          let none = only_here below end.rest law kids end.member in
          let same : q ≡ path = end.is ∙ (ap (λ (x : List SerialOp). path ++ x) none ∙ append-nil path) in
          absurd (fails (kids, subst (Has below) none end.member, λ empty. end.some (same ∙ empty))),
    );
    rises = tt;
  };
  some = λ kids. record {
    only = λ q has. absurd cc;
    among = λ q has. absurd cc;
    each = λ q end has. absurd cc;
    rises = tt;
  };
}

pub kid_listed : (path : List SerialOp) (below : List (List SerialOp)) (law : IsBranching below) (i : ℕ) (op : SerialOp) (kid : List (List SerialOp)) → slice_get (branches_of below) i ≡ Some (op, kid) → (listed more : List (List SerialOp)) → IsListedTo path below i listed → AreEnds (path ++ op ∷ []) kid more → IsListedTo path below (i + 1) (listed ++ more)
kid_listed path below law i op kid at listed more so_far ends =
    let lt = slice_get_within (branches_of below) i (op, kid) at in
    record {
      none = λ kids. absurd (omega arith);
      some = λ kids. kid_ends below law i op kid at path listed more (so_far.some kids) ends;
    }

pub all_listed : (path : List SerialOp) (below : List (List SerialOp)) (law : IsBranching below) (n : ℕ) (listed : List (List SerialOp)) → length (branches_of below) ≤ n → IsListedTo path below n listed → AreEnds path below listed
all_listed path below law n listed all so_far = elim (cases_lt 0 (length (branches_of below))) [
  | inr none ↦ so_far.none (omega arith)
  | inl some ↦
      let ends = so_far.some some in
      record { are = λ q. (ends.only q, λ end. by_rest q end some (parted below end.rest law end.member)); rises = ends.rises }
]
  where
    some_branch : (bs : List Branch) → 0 < length bs → (b : Branch) × (slice_get bs 0 ≡ Some b)
    some_branch [] lt = absurd (omega arith)
    some_branch (b ∷ bs) lt = (b, refl)

    by_rest : (q : List SerialOp) (end : IsEnd path below q) → 0 < length (branches_of below) → (end.rest ≡ []) ⊎ Has (joined (branches_of below)) end.rest → Has listed q
    by_rest q end some (inl empty) =
        let first = some_branch (branches_of below) some in
        let inside = below_some (branches_of below) 0 first.0 law.branches.full first.1 in
        let member = of_branch below (first.0.0 ∷ inside.0) law (in_joined (branches_of below) 0 first.0 inside.0 first.1 inside.1) in
        let same : first.0.0 ∷ inside.0 ≡ [] = end.maximal (first.0.0 ∷ inside.0) (first.0.0 ∷ inside.0, ap (λ (x : List SerialOp). x ++ first.0.0 ∷ inside.0) (sym empty)) member ∙ empty in
        absurd cc
    by_rest q end some (inr branch) =
        (so_far.some some).each q end (subst (λ (x : List Branch). Has (joined x) end.rest) (sym (take_all n (branches_of below) all)) branch)

-- the ends below the root are the listed histories
pub ends_listed : (members listed : List (List SerialOp)) → AreEnds [] members listed → IsListing members listed
ends_listed members listed ends = record {
  are = λ q. (λ has. forth q ((ends.are q).0 has), λ is. (ends.are q).1 (record { rest = q; is = refl; some = is.some; member = is.member; maximal = is.maximal }));
  rises = ends.rises;
}
  where
    forth : (q : List SerialOp) → IsEnd [] members q → IsMaximal members q
    forth q end = record {
      member = subst (Has members) (sym end.is) end.member;
      some = end.some;
      maximal = λ h begins has. end.maximal h (begins.0, begins.1 ∙ ap (λ (x : List SerialOp). x ++ begins.0) end.is) has ∙ sym end.is;
    }
