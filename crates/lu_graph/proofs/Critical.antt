-- What rounds through the code of an operation keep: all places that can be in critical sections are said to be.
use Rattle.std.proofs.Common.{◌≡◌, ℕ, ◌+◌, ◌<◌, ◌≤◌, ◌==◌, ◌&&◌, ◌||◌, ◌⊎◌, inl, inr, not, Bool, true, false, cond, List, Some, get_or, replicate, length, slice_get, refl, sym, ◌∙◌, ap, subst, arith}
use Rattle.std.proofs.lemmas.Bool.{and_parts, both_ways, cases_Bool, cases_eq, cases_lt, or_cases, or_parts, true≢false}
use Rattle.std.proofs.lemmas.List.{get_or_past, get_or-replicate, get_or-set_other, get_or-set_same, length-set}
use Rattle.std.proofs.lemmas.List.Sums.{sum_by-set}
use Rattle.std.proofs.lemmas.Option.{same_Some, slice_get_within}
use Rattle.lu_component.specs.declared.instr.Instr.{Instr}
use Rattle.lu_component.specs.declared.instr.Instr.TheVariants.{Set, Compute, Load, Store, Cas, Lock, Unlock, Await, AwaitNot, Pick, Jump, JumpIfZero, Return}
use Rattle.lu_horizon.specs.Dead.{GoesTo}
use Rattle.lu_graph.specs.Guards.{array_of, is_inside_after}
use Rattle.lu_graph.specs.Sections.{AreAccessedIn, HasCritical, IsRound, IsSettledAt, inside_count, is_inside, is_return, jump_from, onward_from, without}

-- ---- one place

pub inside_within : (places : List Bool) (place : ℕ) → is_inside places place ≡ true → place < length places
inside_within places place is = elim (cases_lt place (length places)) as (λ _. place < length places) [
  | inl lt ↦ lt
  | inr past ↦ absurd (both_ways (is_inside places place) (get_or_past places place false past) is)
]

pub without_other : (places : List Bool) (place p : ℕ) → (p ≡ place → ⊥) → is_inside (without places place) p ≡ is_inside places p
without_other places place p differs = get_or-set_other places place p false false differs

-- the place itself is in none then
pub without_here : (places : List Bool) (place : ℕ) → is_inside (without places place) place ≡ false
without_here places place = elim (cases_lt place (length places)) as (λ _. is_inside (without places place) place ≡ false) [
  | inl lt ↦ get_or-set_same places place false false lt
  | inr past ↦ get_or_past (without places place) place false (let same = length-set places place false in omega (arith, same, past))
]

pub without_less : (places : List Bool) (place p : ℕ) → is_inside (without places place) p ≡ true → is_inside places p ≡ true
without_less places place p is = elim (cases_eq p place) as (λ _. is_inside places p ≡ true) [
  | inl same ↦ absurd (both_ways (is_inside (without places place) place) (without_here places place) (subst (λ (q : ℕ). is_inside (without places place) q ≡ true) same is))
  | inr differs ↦ sym (without_other places place p differs) ∙ is
]

fewer_without : (places : List Bool) (place : ℕ) → is_inside places place ≡ true → inside_count (without places place) < inside_count places
fewer_without places place is =
    let of_all : inside_count (without places place) + cond (get_or places place false) 1 0 ≡ inside_count places + cond false 1 0 = sum_by-set (λ (x : Bool). cond x 1 0) places place false false (inside_within places place is) in
    let one : ◌≡◌ {A = ℕ} (cond (get_or places place false) 1 0) 1 = rw is refl in
    omega (arith, of_all, one)

-- ---- one instruction

or_right : (x y : Bool) → y ≡ true → (x || y) ≡ true
or_right true y is = refl
or_right false y is = is

or_left : (x y : Bool) → x ≡ true → (x || y) ≡ true
or_left x y is = rw is refl

and_both : (x y : Bool) → x ≡ true → y ≡ true → (x && y) ≡ true
and_both x y one two = rw (one, two) refl

-- where the operation was in a critical section, it still is as far as it would be
after_more : (l : ℕ) (instr : Instr) (a b : Bool) → (a ≡ true → b ≡ true) → is_inside_after l instr a ≡ true → is_inside_after l instr b ≡ true
after_more l (Set to v) a b more is = more is
after_more l (Compute by to x y) a b more is = more is
after_more l (Load to w i) a b more is = more is
after_more l (Store w i v) a b more is = more is
after_more l (Cas to w i x y) a b more is = more is
after_more l (Lock m) a b more is = elim (or_cases (m == l) a is) as (λ _. is_inside_after l (Lock m) b ≡ true) [
  | inl takes ↦ or_left (m == l) b takes
  | inr inside ↦ or_right (m == l) b (more inside)
]
after_more l (Unlock m) a b more is =
    let parts = and_parts (not (m == l)) a is in
    and_both (not (m == l)) b parts.0 (more parts.1)
after_more l (Await w i v) a b more is = more is
after_more l (AwaitNot w i v) a b more is = more is
after_more l (Pick to count) a b more is = more is
after_more l (Jump target) a b more is = more is
after_more l (JumpIfZero v target) a b more is = more is
after_more l (Return v) a b more is = more is

pub after_less : (l : ℕ) (instr : Instr) (a b : Bool) → (b ≡ true → a ≡ true) → is_inside_after l instr a ≡ false → is_inside_after l instr b ≡ false
after_less l instr a b less is = elim (cases_Bool (is_inside_after l instr b)) as (λ _. is_inside_after l instr b ≡ false) [
  | inl so ↦ absurd (both_ways (is_inside_after l instr a) is (after_more l instr b a less so))
  | inr not_so ↦ not_so
]

-- ---- where it goes

pub returns_nowhere : (instr : Instr) (place next : ℕ) → is_return instr ≡ true → GoesTo place instr next → ⊥
returns_nowhere (Set to v) place next is goes = cc
returns_nowhere (Compute by to x y) place next is goes = cc
returns_nowhere (Load to w i) place next is goes = cc
returns_nowhere (Store w i v) place next is goes = cc
returns_nowhere (Cas to w i x y) place next is goes = cc
returns_nowhere (Lock l) place next is goes = cc
returns_nowhere (Unlock l) place next is goes = cc
returns_nowhere (Await w i v) place next is goes = cc
returns_nowhere (AwaitNot w i v) place next is goes = cc
returns_nowhere (Pick to count) place next is goes = cc
returns_nowhere (Jump target) place next is goes = cc
returns_nowhere (JumpIfZero v target) place next is goes = cc
returns_nowhere (Return v) place next is goes = goes

jump_goes : (instr : Instr) (place : ℕ) → is_return instr ≡ false → GoesTo place instr (jump_from instr place)
jump_goes (Set to v) place is = refl
jump_goes (Compute by to x y) place is = refl
jump_goes (Load to w i) place is = refl
jump_goes (Store w i v) place is = refl
jump_goes (Cas to w i x y) place is = refl
jump_goes (Lock l) place is = refl
jump_goes (Unlock l) place is = refl
jump_goes (Await w i v) place is = refl
jump_goes (AwaitNot w i v) place is = refl
jump_goes (Pick to count) place is = refl
jump_goes (Jump target) place is = refl
jump_goes (JumpIfZero v target) place is = inl refl
jump_goes (Return v) place is = absurd (true≢false is)

onward_goes : (instr : Instr) (place : ℕ) → is_return instr ≡ false → GoesTo place instr (onward_from instr place)
onward_goes (Set to v) place is = refl
onward_goes (Compute by to x y) place is = refl
onward_goes (Load to w i) place is = refl
onward_goes (Store w i v) place is = refl
onward_goes (Cas to w i x y) place is = refl
onward_goes (Lock l) place is = refl
onward_goes (Unlock l) place is = refl
onward_goes (Await w i v) place is = refl
onward_goes (AwaitNot w i v) place is = refl
onward_goes (Pick to count) place is = refl
onward_goes (Jump target) place is = refl
onward_goes (JumpIfZero v target) place is = inr refl
onward_goes (Return v) place is = absurd (true≢false is)

goes_either : (instr : Instr) (place next : ℕ) → GoesTo place instr next → (next ≡ jump_from instr place) ⊎ (next ≡ onward_from instr place)
goes_either (Set to v) place next goes = inl goes
goes_either (Compute by to x y) place next goes = inl goes
goes_either (Load to w i) place next goes = inl goes
goes_either (Store w i v) place next goes = inl goes
goes_either (Cas to w i x y) place next goes = inl goes
goes_either (Lock l) place next goes = inl goes
goes_either (Unlock l) place next goes = inl goes
goes_either (Await w i v) place next goes = inl goes
goes_either (AwaitNot w i v) place next goes = inl goes
goes_either (Pick to count) place next goes = inl goes
goes_either (Jump target) place next goes = inl goes
goes_either (JumpIfZero v target) place next goes = goes
goes_either (Return v) place next goes = absurd goes

-- what is told after the instruction, where it is told of the place
pub told_after : (l : ℕ) (instr : Instr) (places now : List Bool) (place : ℕ) (said result : Bool) → now ≡ places → said ≡ is_inside now place → result ≡ is_inside_after l instr said → result ≡ is_inside_after l instr (is_inside places place)
told_after l instr places now place said result same inside is = is ∙ ap (is_inside_after l instr) (inside ∙ ap (λ (x : List Bool). is_inside x place) same)

-- ---- rounds

pub round_none : (code : List Instr) (l : ℕ) (places : List Bool) → IsRound code l places places false
round_none code l places = record {
  no_more = λ place is. is;
  has = λ has. has;
  fewer = λ less. absurd (true≢false (sym less));
  same = λ _. refl;
}

pub round_then : (code : List Instr) (l : ℕ) (a b d : List Bool) (x y : Bool) → IsRound code l a b x → IsRound code l b d y → IsRound code l a d (x || y)
round_then code l a b d false y before then = record {
  no_more = λ place is. before.no_more place (then.no_more place is);
  has = λ has. then.has (before.has has);
  fewer = λ less. subst (λ z. inside_count d < inside_count z) (before.same refl) (then.fewer less);
  same = λ same. then.same same ∙ before.same refl;
}
round_then code l a b d true false before then = record {
  no_more = λ place is. before.no_more place (then.no_more place is);
  has = λ has. then.has (before.has has);
  fewer = λ less. rw (then.same refl) (before.fewer refl);
  same = λ same. absurd (true≢false same);
}
round_then code l a b d true true before then = record {
  no_more = λ place is. before.no_more place (then.no_more place is);
  has = λ has. then.has (before.has has);
  fewer = λ less. omega (arith, before.fewer refl, then.fewer refl);
  same = λ same. absurd (true≢false same);
}

module _ (code : List Instr) (l place : ℕ) (instr : Instr) (at : slice_get code place ≡ Some instr) where
  -- a place that no critical section has is said no more to be in one
  round_left : (places : List Bool) (next : ℕ) → GoesTo place instr next → is_inside_after l instr (is_inside places place) ≡ false → is_inside places next ≡ true → IsRound code l places (without places next) true
  round_left places next goes out was = record {
    no_more = λ p is. without_less places next p is;
    has = λ has inside critical p lt is. elim (cases_eq p next) as (λ _. is_inside (without places next) p ≡ true) [
      | inl same ↦
          (let so = critical.entered place next instr at goes (subst (λ (q : ℕ). inside q ≡ true) same is) in
          let within = slice_get_within code place instr at in
          absurd (both_ways (is_inside_after l instr (is_inside places place)) out (after_more l instr (inside place) (is_inside places place) (has inside critical place within) so)))
      | inr differs ↦ without_other places next p differs ∙ has inside critical p lt is
    ];
    fewer = λ _. fewer_without places next was;
    same = λ same. absurd (true≢false same);
  }

  pub round_leave : (places new : List Bool) (next : ℕ) (less : Bool) → GoesTo place instr next → is_inside_after l instr (is_inside places place) ≡ false → less ≡ is_inside places next → (less ≡ true → new ≡ without places next) → (less ≡ false → new ≡ places) → IsRound code l places new less
  round_leave places new next true goes out was left same = subst (λ z. IsRound code l places z true) (sym (left refl)) (round_left places next goes out (sym was))
  round_leave places new next false goes out was left same = subst (λ z. IsRound code l places z false) (sym (same refl)) (round_none code l places)

  -- it is in a critical section after the instruction
  pub settled_in : (places : List Bool) → is_inside_after l instr (is_inside places place) ≡ true → IsSettledAt code l (is_inside places) place
  settled_in places is next other here goes inside = subst (λ (x : Instr). is_inside_after l x (is_inside places place) ≡ true) (same_Some instr other (sym at ∙ here)) is

  -- or it goes to no place that is said to be in one
  pub settled_out : (places : List Bool) → ((next : ℕ) → GoesTo place instr next → is_inside places next ≡ false) → IsSettledAt code l (is_inside places) place
  settled_out places none next other here goes inside =
      absurd (both_ways (is_inside places next) (none next (subst (λ (x : Instr). GoesTo place x next) (sym (same_Some instr other (sym at ∙ here))) goes)) inside)

  -- it leaves both places to which it may go
  module _ (a b d : List Bool) (jumps goes_on : Bool) (goes : is_return instr ≡ false) (out : is_inside_after l instr (is_inside a place) ≡ false)
      (was : jumps ≡ is_inside a (jump_from instr place)) (left : jumps ≡ true → b ≡ without a (jump_from instr place)) (same : jumps ≡ false → b ≡ a)
      (was_on : goes_on ≡ is_inside b (onward_from instr place)) (left_on : goes_on ≡ true → d ≡ without b (onward_from instr place)) (same_on : goes_on ≡ false → d ≡ b) where
    first : IsRound code l a b jumps
    first = round_leave a b (jump_from instr place) jumps (jump_goes instr place goes) out was left same

    pub round_both : IsRound code l a d (jumps || goes_on)
    round_both =
        let still = after_less l instr (is_inside a place) (is_inside b place) (first.no_more place) out in
        round_then code l a b d jumps goes_on first (round_leave b d (onward_from instr place) goes_on (onward_goes instr place goes) still was_on left_on same_on)

    pub settled_both : (jumps || goes_on) ≡ false → IsSettledAt code l (is_inside d) place
    settled_both none =
        let parts = or_parts jumps goes_on none in
        let all : d ≡ b = same_on parts.1 in
        let first_all : b ≡ a = same parts.0 in
        settled_out d (λ next to. elim (goes_either instr place next to) as (λ _. is_inside d next ≡ false) [
          | inl jump ↦ rw (jump, all, first_all) (sym was ∙ parts.0)
          | inr on ↦ rw (on, all) (sym was_on ∙ parts.1)
        ])

  pub settled_nowhere : (places : List Bool) → is_return instr ≡ true → IsSettledAt code l (is_inside places) place
  settled_nowhere places is next other here goes inside =
      absurd (returns_nowhere instr place next is (subst (λ (x : Instr). GoesTo place x next) (sym (same_Some instr other (sym at ∙ here))) goes))

-- one place more is settled
pub settled_more : (code : List Instr) (l : ℕ) (a b : List Bool) (i : ℕ) (x y : Bool) → IsRound code l a b y → (x ≡ false → (p : ℕ) → p < i → IsSettledAt code l (is_inside a) p) → (y ≡ false → IsSettledAt code l (is_inside b) i) → (x || y) ≡ false → (p : ℕ) → p < i + 1 → IsSettledAt code l (is_inside b) p
settled_more code l a b i x y round before here none p lt =
    let parts = or_parts x y none in
    elim (cases_lt p i) as (λ _. IsSettledAt code l (is_inside b) p) [
      | inl less ↦ subst (λ z. IsSettledAt code l (is_inside z) p) (sym (round.same parts.1)) (before parts.0 p less)
      | inr ge ↦ (let same : i ≡ p = omega (arith, lt, ge) in subst (λ z. IsSettledAt code l (is_inside b) z) same (here parts.1))
    ]

-- and so are all
pub settled_all : (code : List Instr) (l : ℕ) (places : List Bool) (i : ℕ) → length code ≤ i → ((p : ℕ) → p < i → IsSettledAt code l (is_inside places) p) → (p : ℕ) → IsSettledAt code l (is_inside places) p
settled_all code l places i all settled p next instr at goes inside =
    let within = slice_get_within code p instr at in
    settled p (omega (arith, all, within)) next instr at goes inside

-- ---- at first

has_first : (code : List Instr) (l : ℕ) → HasCritical code l (replicate (length code) true)
has_first code l inside critical place lt is = get_or-replicate (length code) place true false lt

has_begin : (code : List Instr) (l : ℕ) (places : List Bool) → HasCritical code l places → HasCritical code l (without places 0)
has_begin code l places has inside critical place lt is = elim (cases_eq place 0) as (λ _. is_inside (without places 0) place ≡ true) [
  | inl same ↦ absurd (both_ways (inside 0) critical.begin (subst (λ (q : ℕ). inside q ≡ true) same is))
  | inr differs ↦ without_other places 0 place differs ∙ has inside critical place lt is
]

-- all but the first are said to be in critical sections
pub first_left : (code : List Instr) (l : ℕ) (old new : List Bool) (left : Bool) → old ≡ replicate (length code) true → left ≡ is_inside old 0 → (left ≡ true → new ≡ without old 0) → (left ≡ false → new ≡ old) → (is_inside new 0 ≡ false) × HasCritical code l new
first_left code l old new true all was left same = (
  ap (λ z. is_inside z 0) (left refl) ∙ without_here old 0,
  subst (HasCritical code l) (sym (left refl)) (has_begin code l old (subst (HasCritical code l) (sym all) (has_first code l))),
)
first_left code l old new false all was left same = (
  ap (λ z. is_inside z 0) (same refl) ∙ sym was,
  subst (HasCritical code l) (sym (same refl)) (subst (HasCritical code l) (sym all) (has_first code l)),
)

pub begin_still : (a b : List Bool) → ((p : ℕ) → is_inside b p ≡ true → is_inside a p ≡ true) → is_inside a 0 ≡ false → is_inside b 0 ≡ false
begin_still a b no_more is = elim (cases_Bool (is_inside b 0)) as (λ _. is_inside b 0 ≡ false) [
  | inl so ↦ absurd (both_ways (is_inside a 0) is (no_more 0 so))
  | inr not_so ↦ not_so
]

-- ---- accesses

pub accessed_more : (code : List Instr) (w : ℕ) (places : List Bool) (i : ℕ) (instr : Instr) → slice_get code i ≡ Some instr → ((p : ℕ) → p < i → (a : Instr) → slice_get code p ≡ Some a → array_of a ≡ Some w → is_inside places p ≡ true) → (array_of instr ≡ Some w → is_inside places i ≡ true) → (p : ℕ) → p < i + 1 → (a : Instr) → slice_get code p ≡ Some a → array_of a ≡ Some w → is_inside places p ≡ true
accessed_more code w places i instr at before here p lt a at_p access = elim (cases_lt p i) as (λ _. is_inside places p ≡ true) [
  | inl less ↦ before p less a at_p access
  | inr ge ↦
      (let same : p ≡ i = omega (arith, lt, ge) in
      let one : a ≡ instr = same_Some a instr (sym at_p ∙ (ap (slice_get code) same ∙ at)) in
      subst (λ (q : ℕ). is_inside places q ≡ true) (sym same) (here (subst (λ (x : Instr). array_of x ≡ Some w) one access)))
]

pub accessed_all : (code : List Instr) (w : ℕ) (places : List Bool) (i : ℕ) → length code ≤ i → ((p : ℕ) → p < i → (a : Instr) → slice_get code p ≡ Some a → array_of a ≡ Some w → is_inside places p ≡ true) → AreAccessedIn code w places
accessed_all code w places i all before p a at access =
    let within = slice_get_within code p a at in
    before p (omega (arith, all, within)) a at access
