-- Histories that are read one after the other.
use Rattle.std.proofs.Common.{◌≡◌, ℕ, ◌+◌, ◌<◌, ◌≤◌, ◌⊎◌, ◌↔◌, List, length, take, drop, sym, ap, subst, ◌∙◌, inl, inr, arith}
use Rattle.std.proofs.lemmas.Bool.{cases_lt}
use Rattle.std.proofs.lemmas.List.{take-append-drop, length-take-le, length-append, take_all}
use Rattle.std.proofs.Math.Seq.{take-append_seam}
use Rattle.lu_history.specs.declared.serial.SerialOp.{SerialOp}
use Rattle.lu_trie.specs.Members.{Adds}
use Rattle.lu_spec.specs.Beginnings.{Has, Begins, AddsBeginnings}
use Rattle.lu_spec.proofs.Sets.{adds_one, one_added, old_kept}

-- the beginnings with fewer than n entries are added
abbrev pub AddedShort : List (List SerialOp) → List (List SerialOp) → List SerialOp → ℕ → Type 0
AddedShort old new h n = (q : List SerialOp) → Has new q ↔ (Has old q ⊎ (Begins q h × (length q < n)))

front_begins : (n : ℕ) (h : List SerialOp) → Begins (take n h) h
front_begins n h = (drop n h, sym (take-append-drop n h))

-- a beginning is so many first entries
begin_front : (q h : List SerialOp) → Begins q h → q ≡ take (length q) h
begin_front q h begins = sym (take-append_seam q begins.0) ∙ ap (take (length q)) (sym begins.1)

begin_short : (q h : List SerialOp) → Begins q h → length q ≤ length h
begin_short q h begins = omega (arith, ap length begins.1, length-append q begins.0)

pub none_short : (old : List (List SerialOp)) (h : List SerialOp) → AddedShort old old h 0
none_short old h q = (λ has. inl has, λ either. back either)
  where
    back : Has old q ⊎ (Begins q h × (length q < 0)) → Has old q
    back (inl has) = has
    back (inr (begins, less)) = absurd (omega arith)

pub one_longer : (old mid new : List (List SerialOp)) (h front : List SerialOp) (n : ℕ) → n ≤ length h → front ≡ take n h → AddedShort old mid h n → Adds mid new front → AddedShort old new h (n + 1)
one_longer old mid new h front n le is before adds q = (λ has. forth (adds_one mid new front q adds has), λ either. back either)
  where
    size : length front ≡ n
    size = ap length is ∙ length-take-le n h le

    forth : (q ≡ front) ⊎ Has mid q → Has old q ⊎ (Begins q h × (length q < n + 1))
    forth (inl same) = inr (subst (λ (x : List SerialOp). Begins x h) (sym (same ∙ is)) (front_begins n h), omega (arith, ap length same, size))
    forth (inr was) = elim ((before q).0 was) [
      | inl has ↦ inl has
      | inr short ↦ inr (short.0, omega (arith, short.1))
    ]

    back : Has old q ⊎ (Begins q h × (length q < n + 1)) → Has new q
    back (inl has) = old_kept mid new front q adds ((before q).1 (inl has))
    back (inr (begins, less)) = elim (cases_lt (length q) n) [
      | inl shorter ↦ old_kept mid new front q adds ((before q).1 (inr (begins, shorter)))
      | inr long ↦
          let same : q ≡ front = begin_front q h begins ∙ (ap (λ (k : ℕ). take k h) (let e : length q ≡ n = omega arith in e) ∙ sym is) in
          subst (Has new) (sym same) (one_added mid new front adds)
    ]

-- the whole history too
pub whole_added : (old mid new : List (List SerialOp)) (h : List SerialOp) (n : ℕ) → n ≡ length h → AddedShort old mid h n → Adds mid new h → AddsBeginnings old new h
whole_added old mid new h n all before adds q =
    let longer = one_longer old mid new h h n (omega arith) (sym (take_all n h (omega arith))) before adds q in
    (λ has. elim (longer.0 has) [ inl was ↦ inl was | inr short ↦ inr short.0 ], λ either. back either)
  where
    back : Has old q ⊎ Begins q h → Has new q
    back (inl was) = (one_longer old mid new h h n (omega arith) (sym (take_all n h (omega arith))) before adds q).1 (inl was)
    back (inr begins) = (one_longer old mid new h h n (omega arith) (sym (take_all n h (omega arith))) before adds q).1 (inr (begins, omega (arith, begin_short q h begins)))
