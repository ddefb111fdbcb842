-- What is said of entries, by the events of their keys.
use lib.Pointwise.{pointwise}
use Rattle.std.proofs.Common.{◌≡◌, ℕ, zero, suc, ◌-◌, Bool, true, false, cond, List, [], ◌∷◌, map, take, Option, Some, None, MatchOption, ◌⊎◌, refl, sym, ap, subst, ◌∙◌}
use Rattle.std.specs.Global.{Vec}
use Rattle.std.specs.Option.{option_map_or}
use Rattle.std.specs.Map.{lookup, lookup_entry, remove_entry}
use Rattle.lru.specs.LruCache.{LruCache, promoted, put_entries, lru_cache}
use Rattle.lu_machine.specs.declared.event.Event.{Event}
use Rattle.lu_witness.specs.declared.judgement.Verdict.{Verdict}
use Rattle.lu_witness.specs.Caches.{shown, LooksUp}

abbrev Entries : Type 0
Entries = List (Vec Event × Verdict)

-- an entry that was looked up, shown
abbrev shown_entry : Option (Vec Event × Verdict) → Option (List Event × Verdict)
shown_entry None = None
shown_entry (Some e) = Some (shown e)

module _ (test : List Event → Bool) where
  abbrev on : Vec Event → Bool
  on k = test k.items

  pub lookup_shown : (es : Entries) → lookup (λ k. test k.items) es ≡ lookup test (map shown es)
  lookup_shown [] = refl
  lookup_shown (e ∷ es) = ap (λ r. cond (test e.0.items) (Some e.1) r) (lookup_shown es)

  pub entry_shown : (es : Entries) → shown_entry (lookup_entry (λ k. test k.items) es) ≡ lookup_entry test (map shown es)
  entry_shown [] = refl
  entry_shown (e ∷ es) = (elim (test e.0.items) as (λ b. shown_entry (cond b (Some e) (lookup_entry (λ k. test k.items) es)) ≡ cond b (Some (shown e)) (lookup_entry test (map shown es))) [
    | true ↦ refl
    | false ↦ entry_shown es
  ])

  pub remove_shown : (es : Entries) → map shown (remove_entry (λ k. test k.items) es) ≡ remove_entry test (map shown es)
  remove_shown [] = refl
  remove_shown (e ∷ es) = (elim (test e.0.items) as (λ b. map shown (cond b es (e ∷ remove_entry (λ k. test k.items) es)) ≡ cond b (map shown es) (shown e ∷ remove_entry test (map shown es))) [
    | true ↦ refl
    | false ↦ ap (λ r. shown e ∷ r) (remove_shown es)
  ])

  first_shown : (es : Entries) (o : Option (Vec Event × Verdict))
      → map shown (option_map_or (λ e. e ∷ remove_entry (λ k. test k.items) es) o es) ≡ option_map_or (λ e. e ∷ remove_entry test (map shown es)) (shown_entry o) (map shown es)
  first_shown es None = refl
  first_shown es (Some e) = ap (λ r. shown e ∷ r) (remove_shown es)

  pub promoted_shown : (es : Entries) → map shown (promoted (λ k. test k.items) es) ≡ promoted test (map shown es)
  promoted_shown es = first_shown es (lookup_entry (λ k. test k.items) es) ∙ ap (λ o. option_map_or (λ e. e ∷ remove_entry test (map shown es)) o (map shown es)) (entry_shown es)

pub take_shown : (n : ℕ) (es : Entries) → map shown (take n es) ≡ take n (map shown es)
take_shown zero es = refl
take_shown (suc n) [] = refl
take_shown (suc n) (e ∷ es) = ap (λ r. shown e ∷ r) (take_shown n es)

put_first : (eq : List Event → List Event → Bool) (c : LruCache (Vec Event) Verdict) (k : Vec Event) (v : Verdict) (o : Option (Vec Event × Verdict))
    → map shown (option_map_or (λ e. (e.0, v) ∷ remove_entry (λ l. eq k.items l.items) c.entries) o ((k, v) ∷ take (c.cap - 1) c.entries))
    ≡ option_map_or (λ e. (e.0, v) ∷ remove_entry (eq k.items) (map shown c.entries)) (shown_entry o) ((k.items, v) ∷ take (c.cap - 1) (map shown c.entries))
put_first eq c k v None = ap (λ r. (k.items, v) ∷ r) (take_shown (c.cap - 1) c.entries)
put_first eq c k v (Some e) = ap (λ r. (e.0.items, v) ∷ r) (remove_shown (eq k.items) c.entries)

pub put_shown : (eq : List Event → List Event → Bool) (c : LruCache (Vec Event) Verdict) (k : Vec Event) (v : Verdict)
    → map shown (put_entries (λ x y. eq x.items y.items) c k v) ≡ put_entries eq (lru_cache (map shown c.entries) c.cap) k.items v
put_shown eq c k v =
    put_first eq c k v (lookup_entry (λ l. eq k.items l.items) c.entries)
    ∙ ap (λ o. option_map_or (λ e. (e.0, v) ∷ remove_entry (eq k.items) (map shown c.entries)) o ((k.items, v) ∷ take (c.cap - 1) (map shown c.entries))) (entry_shown (eq k.items) c.entries)

abbrev view : LruCache (Vec Event) Verdict → LruCache (List Event) Verdict
view c = lru_cache (map shown c.entries) c.cap

pub looked_hit : (same_one : Event → Event → Bool) (events h : List Event) → events ≡ h → (c d : LruCache (Vec Event) Verdict) (old : LruCache (List Event) Verdict) (v : Verdict)
    → view c ≡ old → lookup (λ k. (pointwise same_one) events k.items) c.entries ≡ Some v → d ≡ lru_cache (promoted (λ k. (pointwise same_one) events k.items) c.entries) c.cap → LooksUp same_one h old (view d) v
looked_hit same_one events h same c d old v is found after =
    let R : List Event → Type 0 = λ x. LooksUp same_one x old (view d) v in
    let P : LruCache (List Event) Verdict → Type 0 = λ o. LooksUp same_one events o (view d) v in
    let e : lookup ((pointwise same_one) events) (map shown c.entries) ≡ Some v = sym (lookup_shown ((pointwise same_one) events) c.entries) ∙ found in
    let Q : Option Verdict → Type 0 = λ o.
    MatchOption o ((view d ≡ view c) ⊎ (view d ≡ lru_cache (put_entries (pointwise same_one) (view c) events v) c.cap)) (λ w. (v ≡ w) × (view d ≡ lru_cache (promoted ((pointwise same_one) events) (map shown c.entries)) c.cap)) in
    subst R same (subst P is (subst Q (sym e) (refl, ap view after ∙ ap (λ es. lru_cache es c.cap) (promoted_shown ((pointwise same_one) events) c.entries))))

pub looked_miss : (same_one : Event → Event → Bool) (events h : List Event) → events ≡ h → (c : LruCache (Vec Event) Verdict) (old new : LruCache (List Event) Verdict) (v : Verdict)
    → view c ≡ old → lookup (λ k. (pointwise same_one) events k.items) c.entries ≡ None → (new ≡ old) ⊎ (new ≡ lru_cache (put_entries (pointwise same_one) old events v) old.cap) → LooksUp same_one h old new v
looked_miss same_one events h same c old new v is found after =
    let R : List Event → Type 0 = λ x. LooksUp same_one x old new v in
    let e : lookup ((pointwise same_one) events) old.entries ≡ None = ap (λ (o : LruCache (List Event) Verdict). lookup ((pointwise same_one) events) o.entries) (sym is) ∙ (sym (lookup_shown ((pointwise same_one) events) c.entries) ∙ found) in
    let Q : Option Verdict → Type 0 = λ o.
    MatchOption o ((new ≡ old) ⊎ (new ≡ lru_cache (put_entries (pointwise same_one) old events v) old.cap)) (λ w. (v ≡ w) × (new ≡ lru_cache (promoted ((pointwise same_one) events) old.entries) old.cap)) in
    subst R same (subst Q (sym e) after)

pub put_view : (eq : List Event → List Event → Bool) (c d : LruCache (Vec Event) Verdict) (old : LruCache (List Event) Verdict) (k : Vec Event) (events : List Event) (v : Verdict)
    → view c ≡ old → k.items ≡ events → d ≡ lru_cache (put_entries (λ x y. eq x.items y.items) c k v) c.cap → view d ≡ lru_cache (put_entries eq old events v) old.cap
put_view eq c d old k events v is same after =
    ap view after ∙ (ap (λ es. lru_cache es c.cap) (put_shown eq c k v)
    ∙ (ap (λ (o : LruCache (List Event) Verdict). lru_cache (put_entries eq o k.items v) o.cap) is ∙ ap (λ us. lru_cache (put_entries eq old us v) old.cap) same))
