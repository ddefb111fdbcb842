-- A history that is made another, where what both begin with stays.
use Rattle.std.proofs.Common.{◌≡◌, ℕ, ◌+◌, ◌-◌, ◌<◌, ◌≤◌, List, ◌++◌, length, take, drop, get_or, slice_get, Some, ap, sym, ◌∙◌, subst, arith}
use Rattle.std.proofs.Math.Seq.{take-add}
use Rattle.std.proofs.lemmas.List.{get_or-drop, length-drop, take_all}
use Rattle.std.proofs.lemmas.Option.{slice_get-get_or}
use Rattle.lu_machine.specs.declared.event.Event.{Event}
use Rattle.lu_history.specs.Histories.{Fits, IsWellFormed}

-- what is left of the events after the first ones
abbrev pub behind : List Event → ℕ → List Event
behind events kept = take (length events - kept) (drop kept events)

is_after : (events : List Event) (kept : ℕ) → behind events kept ≡ drop kept events
is_after events kept = take_all (length events - kept) (drop kept events) (let long = length-drop kept events in omega arith)

-- what is left of the old history are the first events
pub first_kept : (events old : List Event) (kept : ℕ) → length old ≤ kept → take kept old ≡ take kept events → old ≡ take kept events
first_kept events old kept short alike = sym (take_all kept old short) ∙ alike

refilled : (events old : List Event) (kept i : ℕ) → old ≡ take kept events → old ++ take i (behind events kept) ≡ take (kept + i) events
refilled events old kept i is = rw (is, is_after events kept) (sym (take-add kept i events))

-- the next event fits
pub next_fits : (h events old : List Event) (kept i : ℕ) (d : Event) → events ≡ h → IsWellFormed h → old ≡ take kept events → i < length (behind events kept) → Fits (old ++ take i (behind events kept)) (get_or (behind events kept) i d)
next_fits h events old kept i d same well is below =
    let long : length (behind events kept) ≡ length events - kept = ap (λ xs. length xs) (is_after events kept) ∙ length-drop kept events in
    let e = get_or events (kept + i) d in
    let at : slice_get events (kept + i) ≡ Some e = slice_get-get_or events (kept + i) d (omega (arith, long)) in
    let there : slice_get h (kept + i) ≡ Some e = subst (λ xs. slice_get xs (kept + i) ≡ Some e) same at in
    let fits : Fits (take (kept + i) h) e = well (kept + i) e there in
    let here : Fits (take (kept + i) events) e = subst (λ xs. Fits (take (kept + i) xs) e) (sym same) fits in
    let next : get_or (behind events kept) i d ≡ e = ap (λ xs. get_or xs i d) (is_after events kept) ∙ get_or-drop kept events i d in
    rw (refilled events old kept i is, next) here

-- in the end all events are there
pub all_there : (h events old : List Event) (kept i : ℕ) → events ≡ h → old ≡ take kept events → length (behind events kept) ≤ i → old ++ take i (behind events kept) ≡ h
all_there h events old kept i same is past =
    let long : length (behind events kept) ≡ length events - kept = ap (λ xs. length xs) (is_after events kept) ∙ length-drop kept events in
    refilled events old kept i is ∙ (take_all (kept + i) events (omega (arith, long)) ∙ same)
