-- Tables, entry by entry.
use Rattle.std.proofs.Common.{◌≡◌, ℕ, zero, suc, ◌+◌, ◌<◌, ◌≤◌, ◌⊎◌, List, [], ◌∷◌, ◌++◌, Option, Some, None, slice_get, slice_set, get_or, length, replicate, refl, sym, ◌∙◌, ap, subst, inl, inr, arith}
use Rattle.std.proofs.lemmas.Bool.{cases_eq, cases_lt}
use Rattle.std.specs.Option.{option_map}
use Rattle.std.proofs.lemmas.List.{get_or-set_same, get_or-set_other}
use Rattle.std.proofs.lemmas.Option.{same_Some}
use Rattle.lu_component.specs.Component.{Component}
use Rattle.lu_test.specs.Matrix.{Matrix}
use Rattle.lu_machine.specs.declared.thread.Activity.{Activity}
use Rattle.lu_machine.specs.declared.thread.Activity.TheVariants.{Idle, Open}
use Rattle.lu_machine.specs.declared.thread.Frame.{Frame}
use Rattle.lu_horizon.specs.declared.stand.CallPlace.{CallPlace}
use Rattle.lu_machine.specs.declared.thread.Thread.{Thread}
use Rattle.lu_component.specs.declared.instr.Instr.TheVariants.{JumpIfZero}
use Rattle.lu_machine.specs.Changes.{at_work}
use Rattle.lu_horizon.specs.Stands.{JumpsTo, place_of, stand_of}
use Rattle.lu_machine.specs.States.{State, instr_at}
use Rattle.lu_horizon.specs.Own.{IsOpenAt, IsIdle, IsOwn}
use Rattle.lu_horizon.specs.declared.outlook.Outlook.{Outlook}
use Rattle.lu_horizon.specs.Outlooks.{IsWeaker, no_move, nothing_known, one_before}
use Rattle.lu_horizon.specs.Sure.{HasOutlook}
use Rattle.lu_horizon.specs.Tables.{AreOutlooksOfCalls, AreOfCall, ArePlaces, IsTable, IsThread, ThreadOutlooks, no_outlooks, outlook_before, outlook_within}
use Rattle.lu_horizon.proofs.JumpLaws.{jump_before}
use Rattle.lu_horizon.proofs.CodeLaws.{idle_over}
use Rattle.lu_horizon.proofs.SureLaws.{nothing_ahead, outlook_less}

get_or_nothings : (n place : ℕ) → get_or (replicate n nothing_known) place nothing_known ≡ nothing_known
get_or_nothings zero place = refl
get_or_nothings (suc n) zero = refl
get_or_nothings (suc n) (suc place) = get_or_nothings n place

-- nothing is known
pub places_none : (c : Component) (matrix : Matrix) (t k n : ℕ) → ArePlaces c matrix t k (replicate n nothing_known)
places_none c matrix t k n place s a = rw (get_or_nothings n place) (nothing_ahead s t)

-- one place more
pub places_set : (c : Component) (matrix : Matrix) (t k : ℕ) (places : List Outlook) (place : ℕ) (o : Outlook) → place < length places → ((s : State) → IsOpenAt c matrix t k place s → HasOutlook s t o) → ArePlaces c matrix t k places → ArePlaces c matrix t k (slice_set places place o)
places_set c matrix t k places place o within ahead old q s a =
    elim (cases_eq q place) [
      | inl same ↦ (let e : get_or (slice_set places place o) q nothing_known ≡ o = rw same (get_or-set_same places place o nothing_known within) in rw e (ahead s (rw same at a)))
      | inr other ↦ rw (get_or-set_other places place q o nothing_known other) (old q s a)
    ]

-- call number i of those from k on
pub calls_at : (c : Component) (matrix : Matrix) (t k i : ℕ) (calls : ThreadOutlooks) → AreOutlooksOfCalls c matrix t k calls → AreOfCall c matrix t (k + i) (get_or calls i no_outlooks)
calls_at c matrix t k i [] are = record { before = λ s idle. nothing_ahead s t; places = λ place s a. nothing_ahead s t }
calls_at c matrix t k zero (first ∷ calls) are =
    let e : k + 0 ≡ k = omega arith in
    subst (λ n. AreOfCall c matrix t n first) (sym e) are.0
calls_at c matrix t k (suc i) (first ∷ calls) are =
    let e : k + suc i ≡ (k + 1) + i = omega arith in
    subst (λ n. AreOfCall c matrix t n (get_or calls i no_outlooks)) (sym e) (calls_at c matrix t (k + 1) i calls are.1)

-- where a thread stands
pub stands_idle : (o : Option Thread) (stand : CallPlace) → option_map stand_of o ≡ Some stand → stand.place ≡ None → o ≡ Some (record { done = stand.done; activity = Idle })
stands_idle None stand is place = absurd (cc)
stands_idle (Some thread) stand is place = by_activity thread.activity refl
  where
    same : stand_of thread ≡ stand
    same = same_Some (stand_of thread) stand is

    by_activity : (activity : Activity) → thread.activity ≡ activity → Some thread ≡ Some (record { done = stand.done; activity = Idle })
    by_activity Idle at =
        (let d : thread.done ≡ stand.done = ap (λ (x : CallPlace). x.done) same in
        let first : thread ≡ record { done = thread.done; activity = Idle } = ap (λ (x : Activity). let y : Thread = record { done = thread.done; activity = x } in y) at in
        let second : record { done = thread.done; activity = Idle } ≡ record { done = stand.done; activity = Idle } = ap (λ (x : ℕ). let y : Thread = record { done = x; activity = Idle } in y) d in
        ap Some (first ∙ second))
    by_activity (Open f) at =
        (let p : place_of thread.activity ≡ None = ap (λ (x : CallPlace). x.place) same ∙ place in
        let q : place_of (Open f) ≡ None = rw at at p in
        absurd (cc))

pub stands_open : (o : Option Thread) (stand : CallPlace) (place : ℕ) → option_map stand_of o ≡ Some stand → stand.place ≡ Some place → (f : Frame) × (o ≡ Some (record { done = stand.done; activity = Open f })) × (f.place ≡ place)
stands_open None stand place is at = absurd (cc)
stands_open (Some thread) stand place is at = by_activity thread.activity refl
  where
    same : stand_of thread ≡ stand
    same = same_Some (stand_of thread) stand is

    by_activity : (activity : Activity) → thread.activity ≡ activity → (f : Frame) × (Some thread ≡ Some (record { done = stand.done; activity = Open f })) × (f.place ≡ place)
    by_activity Idle idle =
        (let p : place_of thread.activity ≡ Some place = ap (λ (x : CallPlace). x.place) same ∙ at in
        let q : place_of Idle ≡ Some place = rw idle at p in
        absurd (cc))
    by_activity (Open f) busy =
        (let d : thread.done ≡ stand.done = ap (λ (x : CallPlace). x.done) same in
        let p : place_of thread.activity ≡ Some place = ap (λ (x : CallPlace). x.place) same ∙ at in
        let q : Some f.place ≡ Some place = rw busy at p in
        let first : thread ≡ record { done = thread.done; activity = Open f } = ap (λ (x : Activity). let y : Thread = record { done = thread.done; activity = x } in y) busy in
        let second : record { done = thread.done; activity = Open f } ≡ record { done = stand.done; activity = Open f } = ap (λ (x : ℕ). let y : Thread = record { done = x; activity = Open f } in y) d in
        (f, ap Some (first ∙ second), same_Some f.place place q))

module _ (c : Component) (matrix : Matrix) (s : State) (t : ℕ) (calls : ThreadOutlooks) (thread : IsThread c matrix t calls) (own : IsOwn c matrix s) (stand : CallPlace) (stands : option_map stand_of (slice_get s.threads t) ≡ Some stand) where
  outlooks : (k : ℕ) → AreOfCall c matrix t k (get_or calls k no_outlooks)
  outlooks k =
      let e : 0 + k ≡ k = omega arith in
      subst (λ n. AreOfCall c matrix t n (get_or calls k no_outlooks)) e (calls_at c matrix t 0 k calls thread.each)

  -- the outlook at an open operation's place holds
  pub at_open : (place : ℕ) → stand.place ≡ Some place → HasOutlook s t (outlook_within calls stand.done place)
  at_open place at =
      let o = stands_open (slice_get s.threads t) stand place stands at in
      (outlooks stand.done).places place s (record { own = own; frame = o.0; stands = o.1; place_is = o.2 })

  -- and that of the place to which it goes, where no local instructions run with a move
  pub at_jump : s.component.local ≡ 0 → (next : ℕ) → JumpsTo s t next → (o : Outlook) → IsWeaker o (one_before (outlook_within calls stand.done next)) → HasOutlook s t o
  at_jump none next jump o within =
      let known = outlook_within calls stand.done next in
      let is : option_map stand_of (Some (at_work jump.done jump.frame)) ≡ Some stand = rw jump.stands at stands in
      let same : stand_of (at_work jump.done jump.frame) ≡ stand = same_Some (stand_of (at_work jump.done jump.frame)) stand is in
      let number : jump.done ≡ stand.done = ap (λ (x : CallPlace). x.done) same in
      let there : instr_at c jump.frame.op jump.frame.place ≡ Some (JumpIfZero jump.value jump.target) = rw own.component at jump.is in
      let short : c.local ≡ 0 = rw own.component at none in
      let holds : slice_get s.threads t ≡ Some (at_work stand.done jump.frame) = jump.stands ∙ ap (λ (x : ℕ). Some (at_work x jump.frame)) number in
      outlook_less s t o (one_before known) within
      (jump_before c short matrix t stand.done jump.frame jump.value jump.target there known (λ x a. (outlooks stand.done).places next x (rw (← jump.goes) at a)) s (own, holds))

  -- and that before a call
  pub at_idle : stand.place ≡ None → (o : Outlook) → (stand.done < length calls → o ≡ outlook_before calls stand.done) → (length calls ≤ stand.done → o ≡ no_move) → HasOutlook s t o
  at_idle at o call none =
      let i : IsIdle c matrix t stand.done s = record { own = own; stands = stands_idle (slice_get s.threads t) stand stands at } in
      let many = thread.many in
      elim (cases_lt stand.done (length calls)) [
        | inl some ↦ rw (call some) ((outlooks stand.done).before s i)
        | inr all ↦ rw (none all) (idle_over c matrix t stand.done (omega arith) s i)
      ]

slice_get_push : {A : Type 0} (xs : List A) (y : A) (k : ℕ) (m : A) → slice_get (xs ++ y ∷ []) k ≡ Some m → (slice_get xs k ≡ Some m) ⊎ ((k ≡ length xs) × (y ≡ m))
slice_get_push [] y zero m h = inr (refl, same_Some y m h)
slice_get_push [] y (suc k) m h = inl h
slice_get_push (x ∷ xs) y zero m h = inl h
slice_get_push (x ∷ xs) y (suc k) m h =
    elim (slice_get_push xs y k m h) [ inl a ↦ inl a | inr a ↦ inr (ap suc a.0, a.1) ]

pub table_none : (c : Component) (matrix : Matrix) → IsTable c matrix []
table_none c matrix t calls at = absurd (cc)

pub table_push : (c : Component) (matrix : Matrix) (table : List ThreadOutlooks) (t : ℕ) (calls : ThreadOutlooks) → t ≡ length table → IsThread c matrix t calls → IsTable c matrix table → IsTable c matrix (table ++ calls ∷ [])
table_push c matrix table t calls is thread old j other at =
    elim (slice_get_push table calls j other at) [
      | inl a ↦ old j other a
      | inr a ↦ (let e : t ≡ j = omega arith in subst (IsThread c matrix j) a.1 (rw e at thread))
    ]
