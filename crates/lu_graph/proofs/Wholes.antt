-- Members that are whole, as they are searched for.
use Rattle.std.proofs.Common.{arith, ◌≡◌, ℕ, ◌+◌, ◌<◌, ◌≤◌, Bool, true, false, List, length, get_or, Option, Some, None, slice_get, sym, ◌∙◌, ap, subst, inl, inr}
use Rattle.std.specs.Prelude.{◌↔◌, IsTrue, MatchOption}
use Rattle.std.specs.Global.{Vec}
use Rattle.std.proofs.lemmas.Bool.{cases_lt}
use Rattle.std.proofs.lemmas.List.{get_or_past, length-map}
use Rattle.std.proofs.lemmas.Option.{get_or_from_slice_get, same_Some, slice_get-get_or}
use Rattle.lu_machine.specs.States.{State, progress, progress_of}
use Rattle.lu_history.specs.declared.serial.SerialOp.{SerialOp}
use Rattle.lu_history.specs.declared.serial.SerialOutcome.TheVariants.{Stuck}
use Rattle.lu_history.specs.Standing.{Standing}
use Rattle.lu_witness.specs.Witnesses.{IsEntryAt, entries}
use Rattle.lu_graph.specs.Judging.{HasWhole, IsWhole, ended, is_waiting, room}
use Rattle.lu_graph.proofs.Counted.{entry_outcome}

pub stuck_found : (q : List SerialOp) (t n place : ℕ) (at : IsEntryAt q place (record { t = t; k = n })) (d : SerialOp) (b : Bool) → IsTrue b ↔ ((get_or q place d).outcome ≡ Stuck) → IsTrue b ↔ (slice_get (entries t q) n ≡ Some Stuck)
stuck_found q t n place at d b tells =
    let here = entry_outcome q (record { t = t; k = n }) place at in
    let read : (get_or q place d).outcome ≡ at.0.outcome = ap (λ (o : SerialOp). o.outcome) (get_or_from_slice_get q place at.0 d at.1) in (
      (λ x. here ∙ ap Some (sym read ∙ tells.0 x)),
      (λ e. tells.1 (read ∙ same_Some at.0.outcome Stuck (sym here ∙ e))),
    )

module _ (s : State) (waiting : Option ℕ) (q : List SerialOp) (few : (u : ℕ) → length (entries u q) ≤ room s waiting u) where
  pub whole_where_none : waiting ≡ None → IsWhole s waiting q
  whole_where_none none = record { few = few; waits = subst (λ (w : Option ℕ). MatchOption w (Unit {0}) (λ t. slice_get (entries t q) (ended s t) ≡ Some Stuck)) (sym none) tt }

  pub whole_where_some : (t : ℕ) → waiting ≡ Some t → (b : Bool) → IsTrue b ↔ (slice_get (entries t q) (ended s t) ≡ Some Stuck) → IsTrue b ↔ IsWhole s waiting q
  whole_where_some t some b tells = (
    (λ x. record { few = few; waits = subst (λ (w : Option ℕ). MatchOption w (Unit {0}) (λ t. slice_get (entries t q) (ended s t) ≡ Some Stuck)) (sym some) (tells.0 x) }),
    (λ whole. tells.1 (subst (λ (w : Option ℕ). MatchOption w (Unit {0}) (λ t. slice_get (entries t q) (ended s t) ≡ Some Stuck)) some whole.waits)),
  )

-- ---- among the members

-- one that is told to be alive stands there
pub told_alive : (alive : List Bool) (place : ℕ) → get_or alive place false ≡ true → slice_get alive place ≡ Some true
told_alive alive place is = elim (cases_lt place (length alive)) as (λ _. slice_get alive place ≡ Some true) [
  | inl lt ↦ slice_get-get_or alive place false lt ∙ ap Some is
  | inr past ↦ absurd (let none : get_or alive place false ≡ false = get_or_past alive place false past in differ (get_or alive place false) none is)
]
  where
    differ : (b : Bool) → b ≡ false → b ≡ true → ⊥
    differ b x y = cc

-- none before this place is alive and whole
abbrev pub NoneBefore : State → Option ℕ → List (Vec SerialOp) → List Bool → ℕ → Type 0
NoneBefore s waiting members alive n =
    (i : ℕ) (q : Vec SerialOp) → i < n → slice_get members i ≡ Some q → slice_get alive i ≡ Some true → IsWhole s waiting q.items → ⊥

module _ (s : State) (waiting : Option ℕ) (members : List (Vec SerialOp)) (alive : List Bool) (place : ℕ) where
  more : NoneBefore s waiting members alive place → ((q : Vec SerialOp) → slice_get members place ≡ Some q → slice_get alive place ≡ Some true → IsWhole s waiting q.items → ⊥) → NoneBefore s waiting members alive (place + 1)
  more before here i q lt at there whole =
      elim (cases_lt i place) as (λ _. ⊥) [
        | inl less ↦ before i q less at there whole
        | inr least ↦
            (let same : i ≡ place = omega (arith, lt, least) in
            here q (subst (λ n. slice_get members n ≡ Some q) same at) (subst (λ n. slice_get alive n ≡ Some true) same there) whole)
      ]

  pub none_dead : NoneBefore s waiting members alive place → get_or alive place false ≡ false → NoneBefore s waiting members alive (place + 1)
  none_dead before dead = more before (λ q at there whole. apart (get_or alive place false) dead (get_or_from_slice_get alive place true false there))
    where
      apart : (b : Bool) → b ≡ false → b ≡ true → ⊥
      apart b x y = cc

  module _ (member : Vec SerialOp) (at : slice_get members place ≡ Some member) (q : List SerialOp) (is : q ≡ member.items) (b : Bool) (tells : IsTrue b ↔ IsWhole s waiting q) where
    pub none_other : NoneBefore s waiting members alive place → b ≡ false → NoneBefore s waiting members alive (place + 1)
    none_other before fails =
        more before (λ other there lives whole.
        (let same : member ≡ other = same_Some member other (sym at ∙ there) in
        differ b fails (tells.1 (subst (IsWhole s waiting) (ap (λ (v : Vec SerialOp). v.items) (sym same) ∙ sym is) whole))))
      where
        differ : (b : Bool) → b ≡ false → b ≡ true → ⊥
        differ b x y = cc

    pub has_one : slice_get alive place ≡ Some true → b ≡ true → HasWhole s waiting members alive
    has_one there holds = (place, member, at, there, subst (IsWhole s waiting) is (tells.0 holds))

-- ---- among the threads

pub all_more : (s : State) (P : ℕ → Type 0) (n : ℕ) → ((t : ℕ) → t < n → is_waiting s t ≡ true → P t) → (is_waiting s n ≡ true → P n) → (t : ℕ) → t < n + 1 → is_waiting s t ≡ true → P t
all_more s P n before here t lt is =
    elim (cases_lt t n) as (λ _. P t) [
      | inl less ↦ before t less is
      | inr least ↦
          (let same : t ≡ n = omega (arith, lt, least) in
          subst P (sym same) (here (subst (λ x. is_waiting s x ≡ true) same is)))
    ]

pub never_waits : (s : State) (t : ℕ) → length s.threads ≤ t → is_waiting s t ≡ false
never_waits s t past =
    let many : length (progress s) ≡ length s.threads = length-map s.threads progress_of in
    ap (λ (x : Standing). x.1) (get_or_past (progress s) t (0, false) (omega (arith, many, past)))

pub all_there : (s : State) (P : ℕ → Type 0) (n : ℕ) → length s.threads ≤ n → ((t : ℕ) → t < n → is_waiting s t ≡ true → P t) → (t : ℕ) → is_waiting s t ≡ true → P t
all_there s P n all before t is =
    elim (cases_lt t n) as (λ _. P t) [
      | inl less ↦ before t less is
      | inr past ↦ absurd (let no = never_waits s t (omega (arith, all, past)) in both (is_waiting s t) no is)
    ]
  where
    both : (b : Bool) → b ≡ false → b ≡ true → ⊥
    both b x y = cc
