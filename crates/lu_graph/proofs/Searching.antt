-- The moves of one state are gone through.
use Rattle.std.proofs.Common.{◌≡◌, ℕ, ◌+◌, ◌≤◌, List, [], ◌∷◌, ◌++◌, length, Option, Some, slice_get, sym, ◌∙◌, ap, subst, inl, inr, append_assoc}
use Rattle.lu_test.specs.declared.schedule.Move.{Move}
use Rattle.lu_test.specs.Schedule.{IsMove}
use Rattle.lu_machine.specs.declared.event.Event.{Event}
use Rattle.lu_machine.specs.declared.position.Position.{Position}
use Rattle.lu_machine.specs.Positions.{at_position}
use Rattle.lu_machine.specs.Starts.{first_move}
use Rattle.lu_machine.specs.States.{State}
use Rattle.lu_machine.specs.Steps.{Step, picks_of}
use Rattle.lu_graph.specs.declared.discovering.Discovered.{Discovered}
use Rattle.lu_graph.specs.Discovering.{Discovers, Entry, Extends, IsSearched, SearchesNext, state_of}
use Rattle.lu_graph.proofs.Among.{at_image}
use Rattle.lu_graph.proofs.Searched.{SearchedAt, searched_more, searched_on, searched_turn}

-- From each start the moves of the state now below the limit are gone through, which stands at the
-- place.
abbrev pub SearchesBelow : State → ℕ → Discovered → Discovered → Move → Type 0
SearchesBelow now place old found limit =
    (s : State) (position : Position) → slice_get old.positions.keys place ≡ Some position → at_position s position ≡ now → IsSearched s old place first_move
    → (here : Entry) × (state_of s here ≡ now) × SearchedAt s found place limit here

-- the positions stay, as more are added
pub stays_more : (now : State) (from : ℕ) (m : Move) (old mid new : Discovered) → Extends old.positions.keys mid.positions.keys → Discovers now from m mid new → Extends old.positions.keys new.positions.keys
stays_more now from m old mid new before adds = elim adds.adds as (λ _. Extends old.positions.keys new.positions.keys) [
  | inl none ↦ (before.0, none.0 ∙ before.1)
  | inr one ↦ (before.0 ++ one.0 ∷ [], one.1 ∙ (ap (λ (xs : List Position). xs ++ one.0 ∷ []) before.1 ∙ append_assoc old.positions.keys before.0 (one.0 ∷ [])))
]

pub below_none : (now : State) (place : ℕ) (old : Discovered) → SearchesBelow now place old old (record { thread = 0; pick = 0 })
below_none now place old s position key is known =
    let one = at_image (λ (entry : Entry). entry.position) known.entries place position (subst (λ (xs : List Position). slice_get xs place ≡ Some position) known.positions key) in
    (one.0, ap (λ (q : Position). at_position s q) one.2 ∙ is, (known, one.1))

pub below_more : (now : State) (place t p : ℕ) (old mid new : Discovered) (made : State) (event : Option Event) → IsMove (record { thread = t; pick = p }) → Step now (record { thread = t; pick = p }) made event → SearchesBelow now place old mid (record { thread = t; pick = p })
    → Discovers made place (record { thread = t; pick = p }) mid new → SearchesBelow now place old new (record { thread = t; pick = p + 1 })
below_more now place t p old mid new made event move step before adds s position key is known =
    let x = before s position key is known in
    let stepped : Step (state_of s x.0) (record { thread = t; pick = p }) made event = subst (λ (y : State). Step y (record { thread = t; pick = p }) made event) (sym x.1) step in
    (x.0, x.1, searched_more s mid new place t p x.0 made event x.2.0 x.2.1 move stepped adds)

pub below_turn : (now : State) (place t p : ℕ) (old found : Discovered) → picks_of now t ≤ p → SearchesBelow now place old found (record { thread = t; pick = p }) → SearchesBelow now place old found (record { thread = t + 1; pick = 0 })
below_turn now place t p old found all before s position key is known =
    let x = before s position key is known in
    (x.0, x.1, searched_turn s found place t p x.0 x.2.0 x.2.1 (subst (λ (y : State). picks_of y t ≤ p) (sym x.1) all))

pub below_all : (now : State) (place t : ℕ) (old found : Discovered) → length now.threads ≤ t → SearchesBelow now place old found (record { thread = t; pick = 0 }) → SearchesNext now place old found
below_all now place t old found all before s position key is known =
    let x = before s position key is known in
    searched_on s found place t 0 x.0 x.2.0 x.2.1 (subst (λ (y : State). length y.threads ≤ t) (sym x.1) all)
