-- What a search among the kids of a node finds.
use Rattle.std.proofs.Common.{◌≡◌, ◌≢◌, ℕ, ◌+◌, ◌<◌, List, length, get_or, Result, Ok, Err, IfOk, IfErr, Option, None, Some, IfSome, IfNone, MatchOption, sym, ap, ◌∙◌, subst, arith}
use Rattle.std.specs.List.{All, AllWithin, HoldsAt}
use Rattle.std.specs.List.Sorted.{IsSearchInRange, IsBinarySearchResult, IsNonDecreasingBy, IsSortedBy}
use Rattle.std.specs.Ordering.{ordering_index, ordering_reverse, is_lt}
use Rattle.std.specs.declared.cmp.Ordering.{Ordering}
use Rattle.std.specs.declared.cmp.Ordering.TheVariants.{Less}
use Rattle.std.proofs.lemmas.List.Elements.{All-from_all_within}
use Rattle.std.proofs.lemmas.List.Sorted.{searchable_from_sorted}
use Rattle.std.proofs.lemmas.Map.Keys.{Less-from_sorted}
use Rattle.std.proofs.Math.ListN.{get_or-map, length-map}
use Rattle.lu_history.specs.declared.serial.SerialOp.{SerialOp}
use Rattle.lu_history.specs.Order.{op_cmp}
use Rattle.lu_trie.specs.Branches.{Branch, labels, AreBranches, IsBranchAt, IsGapFor, IsKidOf}
use Rattle.lu_trie.proofs.Ops.{ops_total, exact_ops}

module _ (kids : List (Branch)) (is : AreBranches kids) where
  pub label_below : (i j : ℕ) (d : Branch) → i < j → j < length kids → op_cmp (get_or kids i d).0 (get_or kids j d).0 ≡ Less
  label_below i j d lt in_range =
      let label_of = λ (kid : Branch). kid.0 in
      let far = Less-from_sorted op_cmp (labels kids) i j d.0 is.rise lt (subst (λ n. j < n) (sym (length-map kids label_of)) in_range) in
      subst (λ x. op_cmp x (get_or kids j d).0 ≡ Less) (get_or-map label_of kids i d) (subst (λ y. op_cmp (get_or (labels kids) i d.0) y ≡ Less) (get_or-map label_of kids j d) far)

  labels_sorted : IsSortedBy (λ (a b : Branch). is_lt (op_cmp a.0 b.0)) kids
  labels_sorted k d low high = ap is_lt (ops_total.antisymm (get_or kids (k + 1) d).0 (get_or kids k d).0 ∙ ap ordering_reverse (label_below k (k + 1) d (omega arith) (omega arith)))

  -- where the search's own comparison is the one of the entries
  module _ (label : SerialOp) (ord : Branch → Ordering) (each : (kid : Branch) → ord kid ≡ op_cmp kid.0 label) where
    comparisons_rise : IsNonDecreasingBy (λ kid. ordering_index (ord kid)) kids
    comparisons_rise i j d le lt =
        let rise = searchable_from_sorted ops_total (λ (kid : Branch). kid.0) kids label labels_sorted i j d le lt in
        rw (each (get_or kids i d), each (get_or kids j d)) rise

    pub searched : (r : Result ℕ ℕ) → IsSearchInRange r (length kids) → IsBinarySearchResult ord kids r → record { found : IfOk r (IsBranchAt kids label); absent : IfErr r (IsGapFor kids label) }
    searched (Ok i) in_range equal = record { found = record { in_range = in_range; has_label = λ d. exact_ops (get_or kids i d).0 label (sym (each (get_or kids i d)) ∙ equal d) }; absent = tt }
    searched (Err i) in_range parted =
        let parts = parted comparisons_rise in
        record {
          found = tt;
          absent = record {
            in_range = in_range;
            smaller_before = λ j d lt. sym (each (get_or kids j d)) ∙ parts.0 j d (omega arith) lt;
            greater_after = λ j d le lt. sym (each (get_or kids j d)) ∙ parts.1 j d le lt;
          };
        }

-- a search over all kids for the first one of a thread
module _ (kids : List Branch) (t : ℕ) where
  abbrev pub IsFirstOf : Option ℕ → Type 0
  IsFirstOf r = MatchOption r (AllWithin (λ kid. kid.0.thread ≢ t) kids 0 (length kids)) (λ i. (i < length kids) × HoldsAt (λ kid. kid.0.thread ≡ t) kids i × AllWithin (λ kid. kid.0.thread ≢ t) kids 0 i)

  pub some_of : (r : Option ℕ) → IsFirstOf r → IfSome r (IsKidOf kids t)
  some_of None first = tt
  some_of (Some i) first = (first.0, first.1)

  pub none_of : (r : Option ℕ) → IsFirstOf r → IfNone r (All (λ kid. kid.0.thread ≢ t) kids)
  none_of None first = All-from_all_within (λ kid. kid.0.thread ≢ t) kids first
  none_of (Some i) first = tt
