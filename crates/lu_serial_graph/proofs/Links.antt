-- What the links of a node tell of what follows the entries.
use Rattle.std.proofs.Common.{arith, ◌≡◌, ◌↔◌, ◌+◌, ◌<◌, ℕ, Bool, true, false, ◌||◌, ◌&&◌, List, [], ◌∷◌, ◌++◌, length, get_or, refl, sym, ◌∙◌, ap, subst, inl, inr, append_assoc}
use Rattle.std.proofs.lemmas.Bool.{cases_lt}
use Rattle.std.proofs.lemmas.List.{append-nil}
use Rattle.lu_component.specs.Component.{Component}
use Rattle.lu_test.specs.Matrix.{Matrix}
use Rattle.lu_machine.specs.States.{State}
use Rattle.lu_machine.specs.Steps.{picks_of}
use Rattle.lu_history.specs.declared.serial.SerialOp.{SerialOp}
use Rattle.lu_history.specs.declared.serial.SerialOutcome.{SerialOutcome}
use Rattle.lu_history.specs.Serial.{IsSerial}
use Rattle.lu_trie.specs.Members.{AllSerial, contains, same_op}
use Rattle.lu_trie.specs.Branches.{members_from}
use Rattle.lu_trie.proofs.Membership.{kids_contain, node-cons, node-nil}
use Rattle.lu_trie.proofs.Ops.{ops_equiv, same_ops_are}
use Rattle.lu_serial.specs.Serial.{IsSerialHistory, stuck_of}
use Rattle.lu_client.proofs.Played.{IsReady}
use Rattle.lu_serial_graph.specs.Graphs.{Link, resolve}
use Rattle.lu_serial_graph.specs.Playing.{Comes, IsAmong, Lasts, op_of}
use Rattle.lu_serial_graph.specs.Continuing.{IsFine, IsStuckAfter, StateAfter, AreContinuations}
use Rattle.lu_serial_graph.proofs.After.{after_not_stuck, begun_comes, between, comes_picks, lasts_picks, over_serial, serial_entries, serial_over, state_quiet, stuck_serial}

-- ---- links and members

has_link : (table : List (List (List SerialOp))) (links : List Link) (op : SerialOp) (w : List SerialOp) → kids_contain (resolve table links) op w ≡ true → (l : Link) × IsAmong l links × (l.0 ≡ op) × (contains (get_or table l.1 []) w ≡ true)
has_link table [] op w e = absurd cc
has_link table (l ∷ links) op w e = by (same_op op l.0) (contains (get_or table l.1 []) w) refl refl (has_link table links op w) e
  where
    by : (a b : Bool) → same_op op l.0 ≡ a → contains (get_or table l.1 []) w ≡ b → (kids_contain (resolve table links) op w ≡ true → (k : Link) × IsAmong k links × (k.0 ≡ op) × (contains (get_or table k.1 []) w ≡ true)) → ((a && b) || kids_contain (resolve table links) op w) ≡ true → (k : Link) × IsAmong k (l ∷ links) × (k.0 ≡ op) × (contains (get_or table k.1 []) w ≡ true)
    by true true is has on e = (l, inl refl, sym (same_ops_are op l.0 is), has)
    by true false is has on e = (let r = on e in (r.0, inr r.1, r.2, r.3))
    by false b is has on e = (let r = on e in (r.0, inr r.1, r.2, r.3))

or_right : (a b : Bool) → b ≡ true → (a || b) ≡ true
or_right true b e = refl
or_right false b e = e

link_has : (table : List (List (List SerialOp))) (links : List Link) (l : Link) (w : List SerialOp) → IsAmong l links → contains (get_or table l.1 []) w ≡ true → kids_contain (resolve table links) l.0 w ≡ true
link_has table [] l w h e = absurd h
link_has table (k ∷ links) l w (inl is) e =
    subst (λ (x : Link). ((same_op l.0 x.0 && contains (get_or table x.1 []) w) || kids_contain (resolve table links) l.0 w) ≡ true) is
    (rw (ops_equiv.refl l.0, e) refl)
link_has table (k ∷ links) l w (inr h) e = or_right (same_op l.0 k.0 && contains (get_or table k.1 []) w) (kids_contain (resolve table links) l.0 w) (link_has table links l w h e)

-- ---- serial members

serial_later : (q w : List SerialOp) → IsSerial (q ++ w) → IsSerial w
serial_later [] w is = is
serial_later (x ∷ q) w is = serial_later q w is.1

pub tells_serial : (s : State) (bound : ℕ) (q : List SerialOp) (members : List (List SerialOp)) → AreContinuations s bound q members → AllSerial members
tells_serial s bound q members tells w has = serial_later q w (serial_entries s (q ++ w) ((tells.are w).0 has))

-- ---- the links so far

-- They tell of the threads below k what follows the entries q.
pub record LinksTell (s : State) (bound : ℕ) (q : List SerialOp) (table : List (List (List SerialOp)))
    (links : List Link) (k : ℕ) : Type 0 where
  pub each : (l : Link) → IsAmong l links → AreContinuations s bound (q ++ l.0 ∷ []) (get_or table l.1 [])
  pub busy : (l : Link) → IsAmong l links → (mid : State) × StateAfter s q mid × (0 < picks_of mid l.0.thread)
  pub short : (mid : State) (t : ℕ) → t < k → StateAfter s q mid → Lasts mid t (bound + 1) → ⊥
  pub all : (mid : State) (t : ℕ) (o : SerialOutcome) (end : State) → t < k → StateAfter s q mid → Comes mid t o end → (l : Link) × IsAmong l links × (l.0 ≡ op_of t o)
  pub one : (mid other : State) (t : ℕ) (a b : SerialOutcome) (end last : State) → t < k → StateAfter s q mid → StateAfter s q other → Comes mid t a end → Comes other t b last → a ≡ b
  pub some : (mid : State) (t : ℕ) → t < k → StateAfter s q mid → 0 < picks_of mid t → (l : Link) × IsAmong l links

among_nothing : (links : List Link) → length links ≡ 0 → (l : Link) → IsAmong l links → ⊥
among_nothing [] e l h = h
among_nothing (x ∷ links) e l h = omega (arith, e)

module _ (c : Component) (matrix : Matrix) (s : State) (at : IsReady c matrix s) (bound : ℕ) (q : List SerialOp) (table : List (List (List SerialOp))) (links : List Link) (k : ℕ) (told : LinksTell s bound q table links k) (few : (mid : State) (t : ℕ) → 0 < picks_of mid t → StateAfter s q mid → t < k) where
  members_now : Bool → List (List SerialOp)
  members_now ends = members_from ends (resolve table links)

  comes_link : (mid : State) (t : ℕ) (o : SerialOutcome) (end : State) → StateAfter s q mid → Comes mid t o end → (l : Link) × IsAmong l links × (l.0 ≡ op_of t o)
  comes_link mid t o end reached comes = told.all mid t o end (few mid t (comes_picks mid t o end (state_quiet c matrix s at q mid reached) comes) reached) reached comes

  tells_at : (l : Link) (op : SerialOp) (w : List SerialOp) → IsAmong l links → l.0 ≡ op → AreContinuations s bound (q ++ op ∷ []) (get_or table l.1 [])
  tells_at l op w h is = subst (λ x. AreContinuations s bound (q ++ x ∷ []) (get_or table l.1 [])) is (told.each l h)

  one_later : (op : SerialOp) (w : List SerialOp) → (q ++ op ∷ []) ++ w ≡ q ++ op ∷ w
  one_later op w = append_assoc q (op ∷ []) w

  -- with an entry more
  are_cons : (ends : Bool) (op : SerialOp) (w : List SerialOp) → (contains (members_from ends (resolve table links)) (op ∷ w) ≡ true) ↔ IsSerialHistory s (q ++ op ∷ w)
  are_cons ends op w = (
    (λ has.
        (let l = has_link table links op w (sym (node-cons ends (resolve table links) op w) ∙ has) in
        subst (IsSerialHistory s) (one_later op w) (((tells_at l.0 op w l.1 l.2).are w).0 l.3))),
    (λ z.
        (let r = begun_comes c matrix s at q op w z in
        let l = comes_link r.0 op.thread op.outcome r.1 r.2 r.3 in
        let has = ((tells_at l.0 op w l.1 l.2).are w).1 (subst (IsSerialHistory s) (sym (one_later op w)) z) in
        node-cons ends (resolve table links) op w ∙ subst (λ x. kids_contain (resolve table links) x w ≡ true) l.2 (link_has table links l.0 w l.1 has))),
  )

  fine_cons : (op : SerialOp) (w : List SerialOp) (end : State) → StateAfter s (q ++ op ∷ w) end → IsFine s bound (q ++ op ∷ w)
  fine_cons op w end reached =
      let b = between c matrix s at q op w end reached in
      let l = comes_link b.mid op.thread op.outcome b.end b.after b.comes in
      subst (IsFine s bound) (one_later op w) ((tells_at l.0 op w l.1 l.2).fine w)

  fine_here : IsFine s bound q
  fine_here = record {
    short = λ mid t reached lasts. told.short mid t (few mid t (lasts_picks mid t (bound + 1) (state_quiet c matrix s at q mid reached) lasts) reached) reached lasts;
    one = λ mid other t a b end last x y m n. told.one mid other t a b end last (few mid t (comes_picks mid t a end (state_quiet c matrix s at q mid x) m) x) x y m n;
  }

  fine_all : (w : List SerialOp) → IsFine s bound (q ++ w)
  fine_all [] = subst (IsFine s bound) (sym (append-nil q)) fine_here
  fine_all (op ∷ w) = record {
    short = λ mid t reached. (fine_cons op w mid reached).short mid t reached;
    one = λ mid other t a b end last x. (fine_cons op w mid x).one mid other t a b end last x;
  }

  module _ (mid : State) (reached : StateAfter s q mid) (ends : Bool) (is : (ends ≡ true) ↔ (length links ≡ 0)) where
    none_left : length links ≡ 0 → (t : ℕ) → picks_of mid t ≡ 0
    none_left none t = elim (cases_lt 0 (picks_of mid t)) [
      | inl some ↦ (let l = told.some mid t (few mid t some reached) reached some in absurd (among_nothing links none l.0 l.1))
      | inr no_pick ↦ omega arith
    ]

    over : IsSerialHistory s q → length links ≡ 0
    over z = by links refl
      where
        by : (ls : List Link) → links ≡ ls → length links ≡ 0
        by [] e = ap length e
        by (l ∷ ls) e =
            (let h : IsAmong l links = subst (IsAmong l) (sym e) (inl refl) in
            let b = told.busy l h in
            let none = serial_over c matrix s at q b.0 b.1 z l.0.thread in
            let some = b.2 in
            absurd (omega (arith, none, some)))

    are_all : (w : List SerialOp) → (contains (members_from ends (resolve table links)) w ≡ true) ↔ IsSerialHistory s (q ++ w)
    are_all [] = (
      (λ has. subst (IsSerialHistory s) (sym (append-nil q)) (over_serial c matrix s at q mid reached (none_left (is.0 (sym (node-nil ends (resolve table links)) ∙ has))))),
      (λ z. node-nil ends (resolve table links) ∙ is.1 (over (subst (IsSerialHistory s) (append-nil q) z))),
    )
    are_all (op ∷ w) = are_cons ends op w

    pub node_tells : AreContinuations s bound q (members_from ends (resolve table links))
    node_tells = record { are = are_all; fine = fine_all }

-- ---- a leaf

last_only : (q w : List SerialOp) (t : ℕ) → IsSerial ((q ++ stuck_of t ∷ []) ++ w) → w ≡ []
last_only [] w t is = is.0 refl
last_only (x ∷ q) w t is = last_only q w t is.1

leaf_here : (s : State) (bound : ℕ) (q : List SerialOp) (t : ℕ) → IsSerialHistory s (q ++ stuck_of t ∷ []) → ((w : List SerialOp) (end : State) → StateAfter s ((q ++ stuck_of t ∷ []) ++ w) end → ⊥) → AreContinuations s bound (q ++ stuck_of t ∷ []) ([] ∷ [])
leaf_here s bound q t z never = record {
  are = leaf_are;
  fine = λ w. record {
    short = λ mid x reached. absurd (never w mid reached);
    one = λ mid other x a b end last reached. absurd (never w mid reached);
  };
}
  where
    leaf_are : (w : List SerialOp) → (contains ([] ∷ []) w ≡ true) ↔ IsSerialHistory s ((q ++ stuck_of t ∷ []) ++ w)
    leaf_are [] = ((λ has. subst (IsSerialHistory s) (sym (append-nil (q ++ stuck_of t ∷ []))) z), (λ z. refl))
    leaf_are (op ∷ w) = (
      (λ has. absurd (let e : false ≡ true = has in cc)),
      (λ more. (let none : op ∷ w ≡ [] = last_only q (op ∷ w) t (serial_entries s ((q ++ stuck_of t ∷ []) ++ op ∷ w) more) in absurd cc)),
    )

pub leaf_tells : (c : Component) (matrix : Matrix) (s : State) → IsReady c matrix s → (bound : ℕ) (q : List SerialOp) → IsStuckAfter s q → AreContinuations s bound q ([] ∷ [])
leaf_tells c matrix s at bound q stuck =
    let p = stuck.before in
    let t = stuck.thread in
    subst (λ x. AreContinuations s bound x ([] ∷ [])) (sym stuck.parts)
    (leaf_here s bound p t (stuck_serial c matrix s at p stuck.mid t stuck.end stuck.after stuck.comes)
    (λ w end reached. after_not_stuck c matrix s at p (stuck_of t) w end (subst (λ x. StateAfter s x end) (append_assoc p (stuck_of t ∷ []) w) reached) refl))
