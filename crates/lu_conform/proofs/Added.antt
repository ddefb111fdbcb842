-- A stage that is put in.
use Rattle.std.proofs.Common.{◌≡◌, ℕ, zero, suc, Bool, true, false, cond, List, [], ◌∷◌, ◌++◌, length, Option, Some, None, is_some, slice_get, refl, sym, ◌∙◌, ap, subst}
use Rattle.std.proofs.lemmas.List.{append-nil}
use Rattle.std.proofs.lemmas.List.Elements.{All-cons, All-nil}
use Rattle.std.specs.Map.{lookup}
use Rattle.indexmap.specs.IndexMap.{IndexMap, get, insert_entry}
use Rattle.indexmap.proofs.CallerLemmas.{insert_entry-new}
use Rattle.lu_machine.specs.States.{State}
use Rattle.lu_conform.specs.declared.kept.Arrival.{Arrival}
use Rattle.lu_conform.specs.declared.kept.Kept.{Kept}
use Rattle.lu_conform.specs.Growing.{AddsStage, Entry, IsKeptAs, stands_for}
use Rattle.lu_conform.specs.Packing.{CanStandWith, standing_with}
use Rattle.lu_conform.specs.Stages.{stage_of}
use Rattle.lu_conform.proofs.Among.{at_last}
use Rattle.lu_conform.proofs.Same.{equal_kept, kept_eq}

-- where a key is found, it stands somewhere
found_at : (key : Kept) (es : List Entry) → is_some (lookup (kept_eq key) es) ≡ true → (i : ℕ) × (entry : Entry) × (slice_get es i ≡ Some entry) × (kept_eq key entry.0 ≡ true)
found_at key [] e = absurd (cc)
found_at key (x ∷ es) e = by (kept_eq key x.0) refl (found_at key es) e
  where
    by : (b : Bool) → kept_eq key x.0 ≡ b → (is_some (lookup (kept_eq key) es) ≡ true → (i : ℕ) × (entry : Entry) × (slice_get es i ≡ Some entry) × (kept_eq key entry.0 ≡ true)) → is_some (cond b (Some x.1) (lookup (kept_eq key) es)) ≡ true → (i : ℕ) × (entry : Entry) × (slice_get (x ∷ es) i ≡ Some entry) × (kept_eq key entry.0 ≡ true)
    by true p rest g = (zero, x, refl, p)
    by false p rest g = let r = rest g in (suc r.0, r.1, r.2, r.3)

none_of : {A : Type 0} (o : Option A) → is_some o ≡ false → o ≡ None
none_of None h = refl
none_of (Some x) h = absurd (cc)

module _ {S : Type 0} where
  module _ (s : State) (seen : ℕ) (key : Kept) (here : standing_with s key.numbers.items ≡ s) (stands : CanStandWith s.component s.matrix key.numbers.items) (seen_is : key.seen ≡ seen) (arrival : Option Arrival) (old : IndexMap Kept (Option Arrival) S) where
    stage_is : stands_for s.component s.matrix key ≡ stage_of s seen
    stage_is = ap (λ (x : State). stage_of x key.seen) here ∙ ap (λ n. stage_of s n) seen_is

    -- the stage is there
    pub stays : is_some (get kept_eq old key) ≡ true → AddsStage s.component s.matrix (stage_of s seen) arrival old.entries old.entries
    stays there =
        let found = found_at key old.entries there in
        let same = equal_kept s.component s.matrix key found.1.0 found.3 in
        record {
          there = (found.0, found.1, found.2, sym same ∙ stage_is);
          grows = ([], sym (append-nil old.entries), All-nil (IsKeptAs s.component s.matrix (stage_of s seen) arrival));
        }

    -- it is new
    pub grows_one : is_some (get kept_eq old key) ≡ false → (new : List Entry) → new ≡ insert_entry kept_eq old.entries key arrival → AddsStage s.component s.matrix (stage_of s seen) arrival old.entries new
    grows_one absent new is =
        let entry : Entry = (key, arrival) in
        let more : new ≡ old.entries ++ entry ∷ [] = is ∙ insert_entry-new kept_eq old key arrival (none_of (get kept_eq old key) absent) in
        let kept : IsKeptAs s.component s.matrix (stage_of s seen) arrival entry = record { stands = stands; stage_is = stage_is; arrival_is = refl } in
        record {
          there = (length old.entries, entry, subst (λ (x : List Entry). slice_get x (length old.entries) ≡ Some entry) (sym more) (at_last old.entries entry), stage_is);
          grows = (entry ∷ [], more, All-cons (IsKeptAs s.component s.matrix (stage_of s seen) arrival) entry [] kept (All-nil (IsKeptAs s.component s.matrix (stage_of s seen) arrival)));
        }
