-- The path to a place, from its last move back.
use Rattle.std.proofs.Common.{arith, ◌≡◌, ℕ, zero, suc, ◌+◌, ◌<◌, List, [], ◌∷◌, ◌++◌, length, reverse, Some, slice_get, sym, ◌∙◌, ap, append_assoc, length-append}
use Rattle.std.proofs.lemmas.List.{append-nil, length-reverse, reverse-append}
use Rattle.std.proofs.lemmas.Option.{same_Some}
use Rattle.lu_test.specs.declared.schedule.Move.{Move}
use Rattle.lu_graph.specs.declared.discovering.Discovery.{Discovery}
use Rattle.lu_graph.specs.Exploring.{ArePaths}
use Rattle.lu_graph.proofs.Many.{some_at}

-- the path to the place is that to an earlier one, and these moves after it, the last one first
abbrev pub GoesBy : List Discovery → ℕ → ℕ → List Move → Type 0
GoesBy ways place at moves =
    (paths : List (List Move)) → ArePaths ways paths → (v : List Move) × (slice_get paths at ≡ Some v) × (slice_get paths place ≡ Some (v ++ reverse moves))

module _ (ways : List Discovery) where
  some_path : (paths : List (List Move)) → ArePaths ways paths → (place : ℕ) → place < length ways → (v : List Move) × (slice_get paths place ≡ Some v)
  some_path paths are zero lt = ([], are.start)
  some_path paths are (suc place) lt =
      let way = some_at ways (suc place) lt in
      let each = are.each (suc place) way.0 (omega arith) way.1 in
      (each.0 ++ way.0.made ∷ [], each.2)

  pub goes_none : (place : ℕ) (moves : List Move) → place < length ways → moves ≡ [] → GoesBy ways place place moves
  goes_none place moves lt none paths are =
      let v = some_path paths are place lt in
      let same : v.0 ≡ v.0 ++ reverse moves = sym (append-nil v.0) ∙ ap (λ (xs : List Move). v.0 ++ reverse xs) (sym none) in
      (v.0, v.1, v.1 ∙ ap (λ (x : List Move). Some x) same)

  -- the move by which the state at this place was discovered
  last_move : (paths : List (List Move)) → ArePaths ways paths → (at : ℕ) (way : Discovery) → 0 < at → slice_get ways at ≡ Some way → (v : List Move) → slice_get paths at ≡ Some v → (u : List Move) × (slice_get paths way.from ≡ Some u) × (u ++ way.made ∷ [] ≡ v)
  last_move paths are at way lt there v is =
      let each = are.each at way lt there in
      (each.0, each.1, same_Some (each.0 ++ way.made ∷ []) v (sym each.2 ∙ is))

  pub goes_more : (place at : ℕ) (way : Discovery) (moves more : List Move) → 0 < at → slice_get ways at ≡ Some way → more ≡ moves ++ way.made ∷ [] → GoesBy ways place at moves → GoesBy ways place way.from more
  goes_more place at way moves more lt there pushed known paths are =
      let before = known paths are in
      let last = last_move paths are at way lt there before.0 before.1 in
      let whole : before.0 ++ reverse moves ≡ last.0 ++ reverse more =
      ap (λ (x : List Move). x ++ reverse moves) (sym last.2)
      ∙ (append_assoc last.0 (way.made ∷ []) (reverse moves)
      ∙ ap (λ (x : List Move). last.0 ++ x) (sym (reverse-append moves (way.made ∷ [])) ∙ ap (λ (x : List Move). reverse x) (sym pushed))) in
      (last.0, last.1, before.2 ∙ ap (λ (x : List Move). Some x) whole)

  -- there are more moves than a schedule has
  pub goes_long : (place at : ℕ) (moves : List Move) → 0 < at → at < length ways → length moves ≡ 4112 → GoesBy ways place at moves → (paths : List (List Move)) → ArePaths ways paths → (u : List Move) × (slice_get paths place ≡ Some u) × (4112 < length u)
  goes_long place at moves lt within many known paths are =
      let before = known paths are in
      let way = some_at ways at within in
      let last = last_move paths are at way.0 lt way.1 before.0 before.1 in
      let one : length before.0 ≡ length last.0 + length (way.0.made ∷ []) = ap (λ (x : List Move). length x) (sym last.2) ∙ length-append last.0 (way.0.made ∷ []) in
      let long : length (before.0 ++ reverse moves) ≡ length before.0 + length (reverse moves) = length-append before.0 (reverse moves) in
      let same : length (reverse moves) ≡ length moves = length-reverse moves in
      (before.0 ++ reverse moves, before.2, omega (arith, one, long, same, many))

  -- at the first place they are all
  pub goes_all : (place at : ℕ) (moves whole : List Move) → at ≡ 0 → whole ≡ reverse moves → GoesBy ways place at moves → (paths : List (List Move)) → ArePaths ways paths → slice_get paths place ≡ Some whole
  goes_all place at moves whole first is known paths are =
      let before = known paths are in
      let empty : [] ≡ before.0 = same_Some [] before.0 (sym are.start ∙ (ap (slice_get paths) (sym first) ∙ before.1)) in
      before.2 ∙ ap (λ (x : List Move). Some x) (ap (λ (x : List Move). x ++ reverse moves) (sym empty) ∙ sym is)
