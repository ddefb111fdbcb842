-- The verdicts that are kept stay right.
use Rattle.std.proofs.Common.{◌≡◌, Bool, true, List, ◌⊎◌, Some, sym, subst, inl, inr}
use Rattle.std.specs.Prelude.{Result, Ok, Err, OnOk, OnErr}
use Rattle.std.specs.Global.{Vec}
use Rattle.std.specs.Map.{lookup}
use Rattle.lru.specs.LruCache.{LruCache, promoted, put_entries}
use Rattle.lru.proofs.CallerLemmas.{Contains-lookup, Contains-promoted, Contains-put_entries}
use Rattle.lu_machine.specs.declared.event.Event.{Event}
use Rattle.lu_witness.specs.declared.judgement.Verdict.{Verdict}
use Rattle.lu_history.specs.declared.serial.SerialOp.{SerialOp}
use Rattle.lu_witness.specs.Witnesses.{IsMember, IsVerdict}
use Rattle.lu_witness.specs.Caches.{AreRight}

pub right_promoted : (members : List (List SerialOp)) (test : Vec Event → Bool) (es : List (Vec Event × Verdict)) → AreRight members es → AreRight members (promoted test es)
right_promoted members test es right k v here = right k v (Contains-promoted test es (k, v) here)

pub right_put : (members : List (List SerialOp)) (eq : Vec Event → Vec Event → Bool) → ((k l : Vec Event) → eq k l ≡ true → k.items ≡ l.items)
    → (c : LruCache (Vec Event) Verdict) (key : Vec Event) (answer : Verdict) → AreRight members c.entries → IsVerdict (IsMember members) key.items answer → AreRight members (put_entries eq c key answer)
right_put members eq same c key answer right is k v here =
    elim (Contains-put_entries eq c key answer (k, v) here) [
      | inl old ↦ right k v old
      | inr new ↦
          let P : Verdict → Type 0 = λ w. IsVerdict (IsMember members) k.items w in
          let at : IsVerdict (IsMember members) k.items answer = elim new.1 [
            | inl e ↦ (let Q : Vec Event → Type 0 = λ x. IsVerdict (IsMember members) x.items answer in subst Q (sym e) is)
            | inr e ↦ (let Q : List Event → Type 0 = λ x. IsVerdict (IsMember members) x answer in subst Q (same key k e.2) is)
          ] in
          subst P (sym new.0) at
    ]

pub right_found : (members : List (List SerialOp)) (events : List Event) (test : Vec Event → Bool) → ((k : Vec Event) → test k ≡ true → events ≡ k.items)
    → (es : List (Vec Event × Verdict)) (v : Verdict) → AreRight members es → lookup test es ≡ Some v → IsVerdict (IsMember members) events v
right_found members events test same es v right found =
    let h = Contains-lookup test es v found in
    let P : List Event → Type 0 = λ x. IsVerdict (IsMember members) x v in
    subst P (sym (same h.0 h.2)) (right h.0 v h.1)

-- what holds after an `Ok`, or after an `Err`
pub outcome : {T E P Q : Type 0} → (r : Result T E) → OnOk r P → OnErr r Q → P ⊎ Q
outcome (Ok x) p q = inl p
outcome (Err e) p q = inr q

pub moved_verdict : (members m : List (List SerialOp)) (xs ys : List Event) (v : Verdict) → members ≡ m → xs ≡ ys → IsVerdict (IsMember members) xs v → IsVerdict (IsMember m) ys v
moved_verdict members m xs ys v e f h =
    let P : List (List SerialOp) → Type 0 = λ n. IsVerdict (IsMember n) xs v in
    let Q : List Event → Type 0 = λ x. IsVerdict (IsMember m) x v in
    subst Q f (subst P e h)
