-- Which places of all operations are in critical sections, and which arrays are accessed there alone.
use Rattle.std.proofs.Common.{arith, ◌≡◌, ◌↔◌, ℕ, ◌+◌, ◌<◌, ◌≤◌, inl, inr, Bool, true, false, List, [], ◌∷◌, ◌++◌, IsTrue, Option, None, Some, get_or, length, length-append, slice_get, refl, sym, ◌∙◌, ap, subst}
use Rattle.std.proofs.lemmas.Bool.{both_ways, cases_lt}
use Rattle.std.proofs.lemmas.List.{get_or_append_left, get_or_past, get_or_push}
use Rattle.std.proofs.lemmas.Option.{slice_get_within}
use Rattle.lu_component.specs.Component.{Component}
use Rattle.lu_component.specs.declared.component.Op.{Op}
use Rattle.lu_component.specs.declared.instr.Instr.{Instr}
use Rattle.lu_machine.specs.States.{instr_at}
use Rattle.lu_horizon.specs.Tables.{IsCodeOf}
use Rattle.lu_graph.specs.Guards.{AreCritical, IsGuarded, IsGuardedBy, TellsGuarded, array_of}
use Rattle.lu_graph.specs.Sections.{AreAccessed, AreAccessedIn, AreCriticalIn, AreSections, HasCritical, is_inside, is_inside_of}

-- those of one operation
abbrev pub IsSectionOf : Component → ℕ → ℕ → List Bool → Type 0
IsSectionOf c l op places =
    (code : List Instr) × IsCodeOf c op code × AreCriticalIn code l (is_inside places) × HasCritical code l places

-- one operation more
pub section_push : (c : Component) (l : ℕ) (table : List (List Bool)) (op : ℕ) (places : List Bool) → op ≡ length table → IsSectionOf c l op places → ((o : ℕ) → o < length table → IsSectionOf c l o (get_or table o [])) → (o : ℕ) → o < length (table ++ places ∷ []) → IsSectionOf c l o (get_or (table ++ places ∷ []) o [])
section_push c l table op places many here before o lt =
    elim (cases_lt o (length table)) as (λ _. IsSectionOf c l o (get_or (table ++ places ∷ []) o [])) [
      | inl less ↦ subst (IsSectionOf c l o) (sym (get_or_append_left table (places ∷ []) [] o less)) (before o less)
      | inr ge ↦
          (let same : o ≡ op = omega (arith, lt, ge, many, length-append table (places ∷ [])) in
          let now : get_or (table ++ places ∷ []) o [] ≡ places = get_or_push table places [] o (omega (arith, same, many)) in
          subst (IsSectionOf c l o) (sym now) (subst (λ x. IsSectionOf c l x places) (sym same) here))
    ]

op_there : (c : Component) (op place : ℕ) (instr : Instr) (o : Option Op) → slice_get c.operations op ≡ o → instr_at c op place ≡ Some instr → op < length c.operations
unfolding instr_at
op_there c op place instr None is at = (let at' = rw is at at in absurd (cc))
op_there c op place instr (Some o) is at = slice_get_within c.operations op o is

module _ (c : Component) (l : ℕ) (table : List (List Bool)) (all : length c.operations ≤ length table) (rows : (o : ℕ) → o < length table → IsSectionOf c l o (get_or table o [])) where
  within : (op place : ℕ) (instr : Instr) → instr_at c op place ≡ Some instr → op < length table
  within op place instr at = (let there = op_there c op place instr (slice_get c.operations op) refl at in omega (arith, there, all))

  begins : (op : ℕ) → is_inside_of table op 0 ≡ false
  begins op = elim (cases_lt op (length table)) as (λ _. is_inside_of table op 0 ≡ false) [
    | inl lt ↦ (rows op lt).2.begin
    | inr past ↦ ap (λ (x : List Bool). is_inside x 0) (get_or_past table op [] past)
  ]

  -- the places of one operation that are in critical sections
  of_one : (inside : ℕ → ℕ → Bool) → AreCritical c l inside → (op : ℕ) (code : List Instr) → IsCodeOf c op code → AreCriticalIn code l (inside op)
  of_one inside critical op code of = record {
    begin = critical.begin op;
    entered = λ place next instr at goes is. critical.entered op place next instr (of place ∙ at) goes is;
  }

  pub sections_are : AreSections c l table
  sections_are = record {
    many = all;
    critical = record {
      begin = begins;
      entered = λ op place next instr at goes is.
          (let row = rows op (within op place instr at) in
          row.2.entered place next instr (sym (row.1 place) ∙ at) goes is);
    };
    all = λ inside critical op place instr at is.
        (let row = rows op (within op place instr at) in
        let here : slice_get row.0 place ≡ Some instr = sym (row.1 place) ∙ at in
        row.3 (inside op) (of_one inside critical op row.0 row.1) place (slice_get_within row.0 place instr here) is);
  }

-- ---- accesses

-- the accesses of the first operations, so many, are in them
abbrev pub AreAccessedBelow : Component → ℕ → List (List Bool) → ℕ → Type 0
AreAccessedBelow c w table n =
    (op : ℕ) → op < n → (place : ℕ) (instr : Instr) → instr_at c op place ≡ Some instr → array_of instr ≡ Some w → is_inside_of table op place ≡ true

pub accessed_op : (c : Component) (w : ℕ) (table : List (List Bool)) (n : ℕ) (code : List Instr) → IsCodeOf c n code → AreAccessedIn code w (get_or table n []) → AreAccessedBelow c w table n → AreAccessedBelow c w table (n + 1)
accessed_op c w table n code of here before op lt place instr at access =
    elim (cases_lt op n) as (λ _. is_inside_of table op place ≡ true) [
      | inl less ↦ before op less place instr at access
      | inr ge ↦
          (let same : op ≡ n = omega (arith, lt, ge) in
          let there : slice_get code place ≡ Some instr = sym (of place) ∙ subst (λ (o : ℕ). instr_at c o place ≡ Some instr) same at in
          subst (λ (o : ℕ). is_inside_of table o place ≡ true) (sym same) (here place instr there access))
    ]

pub accessed_ops : (c : Component) (w : ℕ) (table : List (List Bool)) (n : ℕ) → length c.operations ≤ n → AreAccessedBelow c w table n → AreAccessed c w table
accessed_ops c w table n all before op place instr at access =
    let there = op_there c op place instr (slice_get c.operations op) refl at in
    before op (omega (arith, there, all)) place instr at access

pub accessed_in : (c : Component) (w : ℕ) (table : List (List Bool)) (op : ℕ) (code : List Instr) → IsCodeOf c op code → AreAccessed c w table → AreAccessedIn code w (get_or table op [])
accessed_in c w table op code of all place instr at access = all op place instr (of place ∙ at) access

-- where each access is in them, the array is guarded, and the other way round
pub guarded_so : (c : Component) (w l : ℕ) (table : List (List Bool)) → AreSections c l table → AreAccessed c w table → IsGuardedBy c w l
guarded_so c w l table are accessed = (is_inside_of table, are.critical, accessed)

pub guarded_only : (c : Component) (w l : ℕ) (table : List (List Bool)) → AreSections c l table → IsGuardedBy c w l → AreAccessed c w table
guarded_only c w l table are guarded op place instr at access = are.all guarded.0 guarded.1 op place instr at (guarded.2 op place instr at access)

-- no lock guards it
pub none_more : (c : Component) (w n : ℕ) → ((l : ℕ) → l < n → IsGuardedBy c w l → ⊥) → (IsGuardedBy c w n → ⊥) → (l : ℕ) → l < n + 1 → IsGuardedBy c w l → ⊥
none_more c w n before here l lt guarded = elim (cases_lt l n) as (λ _. ⊥) [
  | inl less ↦ before l less guarded
  | inr ge ↦ (let same : l ≡ n = omega (arith, lt, ge) in here (subst (IsGuardedBy c w) same guarded))
]

-- one array more
pub told_push : (c : Component) (list : List Bool) (w : ℕ) (guarded : Bool) → w ≡ length list → (IsTrue guarded ↔ IsGuarded c w) → ((v : ℕ) → v < length list → get_or list v false ≡ true ↔ IsGuarded c v) → (v : ℕ) → v < length (list ++ guarded ∷ []) → get_or (list ++ guarded ∷ []) v false ≡ true ↔ IsGuarded c v
told_push c list w guarded many here before v lt =
    elim (cases_lt v (length list)) as (λ _. get_or (list ++ guarded ∷ []) v false ≡ true ↔ IsGuarded c v) [
      | inl less ↦ subst (λ (b : Bool). b ≡ true ↔ IsGuarded c v) (sym (get_or_append_left list (guarded ∷ []) false v less)) (before v less)
      | inr ge ↦
          (let same : v ≡ w = omega (arith, lt, ge, many, length-append list (guarded ∷ [])) in
          let now : get_or (list ++ guarded ∷ []) v false ≡ guarded = get_or_push list guarded false v (omega (arith, same, many)) in
          subst (λ (b : Bool). b ≡ true ↔ IsGuarded c v) (sym now) (subst (λ x. guarded ≡ true ↔ IsGuarded c x) (sym same) here))
    ]

pub told_all : (c : Component) (list : List Bool) → length c.arrays ≤ length list → ((v : ℕ) → v < length list → get_or list v false ≡ true ↔ IsGuarded c v) → TellsGuarded c list
told_all c list all before v = elim (cases_lt v (length list)) as (λ _. get_or list v false ≡ true ↔ IsGuarded c v) [
  | inl lt ↦ before v lt
  | inr past ↦ (
    (λ is. absurd (both_ways (get_or list v false) (get_or_past list v false past) is)),
    (λ guarded. (let lt = guarded.0 in absurd (omega (arith, past, all, lt)))),
  )
]
