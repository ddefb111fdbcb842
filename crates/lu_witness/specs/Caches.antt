-- What a cache of verdicts keeps.
use Rattle.std.specs.Prelude.{◌≡◌, ◌⊎◌, Bool, List, Contains, MatchOption, is_some}
use lib.Pointwise.{pointwise}
use Rattle.std.specs.Global.{Vec}
use Rattle.std.specs.Map.{lookup}
use Rattle.lru.specs.LruCache.{LruCache, promoted, put_entries, lru_cache}
use Rattle.lu_machine.specs.declared.event.Event.{Event}
use Rattle.lu_history.specs.declared.serial.SerialOp.{SerialOp}
use Rattle.lu_witness.specs.declared.judgement.Verdict.{Verdict}
use Rattle.lu_witness.specs.Witnesses.{IsMember, IsVerdict}

-- each verdict that is kept is that of its events
abbrev pub AreRight : List (List SerialOp) → List (Vec Event × Verdict) → Type 0
AreRight members entries =
    (key : Vec Event) (v : Verdict) → Contains entries (key, v)
    → IsVerdict (IsMember members) key.items v

-- an entry, by the events of its key
abbrev pub shown : Vec Event × Verdict → List Event × Verdict
shown entry = (entry.0.items, entry.1)

-- a cache, as contracts see it: its tree, and the entries, the most recently used first
pub record Cache (T : Type 0) : Type 0 where
  pub tree : T
  pub kept : LruCache (List Event) Verdict

-- whether a verdict of the events is kept
abbrev pub has_entry : (Event → Event → Bool) → List Event → LruCache (List Event) Verdict → Bool
has_entry same events kept = is_some (lookup (pointwise same events) kept.entries)

-- the verdict is put in, unless there is no memory for that
abbrev pub IsPut : (Event → Event → Bool) → List Event → LruCache (List Event) Verdict
    → LruCache (List Event) Verdict → Verdict → Type 0
IsPut same events old new v =
    (new ≡ old) ⊎ (new ≡ lru_cache (put_entries (pointwise same) old events v) old.cap)

-- After a look-up of the events. One that finds them makes them the most recently used, and v is
-- the verdict that is kept. One that does not puts them in with v, unless there is no memory for
-- that.
abbrev pub LooksUp : (Event → Event → Bool) → List Event → LruCache (List Event) Verdict
    → LruCache (List Event) Verdict → Verdict → Type 0
LooksUp same events old new v =
    MatchOption (lookup (pointwise same events) old.entries)
    (IsPut same events old new v)
    (λ known. (v ≡ known)
    × (new ≡ lru_cache (promoted (pointwise same events) old.entries) old.cap))

-- the verdict v of the events is put into the cache, unless there is no memory for that
abbrev pub IsKept : {T : Type 0} → (Event → Event → Bool) → List Event → Cache T
    → Cache T → Verdict → Type 0
IsKept same events old new v = IsPut same events old.kept new.kept v

-- the cache was asked for the verdict of the events, which is v
abbrev pub Recalls : {T : Type 0} → (Event → Event → Bool) → List Event → Cache T
    → Cache T → Verdict → Type 0
Recalls same events old new v = LooksUp same events old.kept new.kept v

-- the tree and the capacity are as before; the entries may be others
pub record SameButEntries {T : Type 0} (old new : Cache T) : Type 0 where
  pub tree_is : new.tree ≡ old.tree
  pub capacity : new.kept.cap ≡ old.kept.cap
