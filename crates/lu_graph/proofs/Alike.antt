-- Nodes that are alike, and what is kept for them.
use Rattle.std.proofs.Common.{arith, ◌≡◌, ℕ, zero, suc, Bool, true, false, List, [], ◌∷◌, length, Some, slice_get, refl, sym, ◌∙◌, ap, subst, inl, inr}
use Rattle.std.specs.Prelude.{◌↔◌, IsTrue}
use Rattle.std.specs.Global.{Vec}
use Rattle.std.proofs.lemmas.Bool.{cases_lt}
use Rattle.std.proofs.lemmas.Option.{same_Some, slice_get_past, slice_get_within}
use Rattle.lu_machine.specs.declared.event.Event.{Event}
use Rattle.lu_machine.specs.States.{State}
use Rattle.lu_history.specs.declared.serial.SerialOp.{SerialOp}
use Rattle.lu_horizon.specs.Dead.{DeadTable}
use Rattle.lu_graph.specs.Kept.{Kept}
use Rattle.lu_graph.specs.Alive.{ArePossible, IsPossible}
use Rattle.lu_graph.specs.Judging.{IsOneOf}
use Rattle.lu_graph.specs.Nodes.{AreAlike, AreStatesAlike, Node, node_of}
use Rattle.lu_graph.specs.Rows.{KnowsDead}
use Rattle.lu_graph.specs.Visiting.{IsFor, its}
use Rattle.lu_graph.proofs.Many.{some_at}
use Rattle.lu_graph.proofs.Possible.{same_list}
use Rattle.lu_graph.proofs.Same.{AreSame, same_kept}
use Rattle.lu_graph.proofs.StatesAlike.{by_table, states_back, states_on}

module _ (members : List (Vec SerialOp)) where
  -- the same is told of two histories, so the same members are possible
  pub same_possible : (h k : List Event) (alive : List Bool) → ArePossible members h alive → ArePossible members k alive → (q : List SerialOp) → IsOneOf members q → IsPossible q h ↔ IsPossible q k
  same_possible h k alive one other q (i, v, at, is) =
      let within = slice_get_within members i v at in
      let many = one.many in
      let bit = some_at alive i (omega (arith, within, many)) in
      let first = one.tells i v bit.0 at bit.1 in
      let second = other.tells i v bit.0 at bit.1 in
      subst (λ x. IsPossible x h ↔ IsPossible x k) is ((λ x. second.0 (first.1 x)), (λ x. first.0 (second.1 x)))

  one_bit : (b c : Bool) (P Q : Type 0) → IsTrue b ↔ P → IsTrue c ↔ Q → P ↔ Q → b ≡ c
  one_bit true true P Q p q both = refl
  one_bit true false P Q p q both = sym (q.1 (both.0 (p.0 refl)))
  one_bit false true P Q p q both = p.1 (both.1 (q.0 refl))
  one_bit false false P Q p q both = refl

  -- and where the same are possible, the same is told
  same_told : (h k : List Event) (a b : List Bool) → ArePossible members h a → ArePossible members k b → ((q : List SerialOp) → IsOneOf members q → IsPossible q h ↔ IsPossible q k) → a ≡ b
  same_told h k a b one other both = same_list a b (λ i. elim (cases_lt i (length members)) as (λ _. slice_get a i ≡ slice_get b i) [
    | inl lt ↦
        (let many = one.many in
        let as_many = other.many in
        let v = some_at members i lt in
        let x = some_at a i (omega (arith, lt, many)) in
        let y = some_at b i (omega (arith, lt, as_many)) in
        let same = one_bit x.0 y.0 (IsPossible v.0.items h) (IsPossible v.0.items k) (one.tells i v.0 x.0 v.1 x.1) (other.tells i v.0 y.0 v.1 y.1) (both v.0.items (i, v.0, v.1, refl)) in
        x.1 ∙ (ap Some same ∙ sym y.1))
    | inr past ↦
        (let many = one.many in
        let as_many = other.many in
        slice_get_past a i (omega (arith, past, many)) ∙ sym (slice_get_past b i (omega (arith, past, as_many))))
  ])

  -- it is kept for a node like this one
  pub record IsLike (s : State) (kept : Kept) (node : Node) : Type 0 where
    pub end : State
    pub history : List Event
    pub is : IsFor s members end history kept
    pub alike : AreAlike (IsOneOf members) node (node_of end history)

  -- the node's state is like that of what is kept
  node_like : (s : State) (dead : DeadTable) (known : KnowsDead s.component dead) (a : Kept) (node : Node) → IsLike s a node → (node.state.component ≡ s.component) × AreStatesAlike node.state (its s a)
  node_like s dead known a node x =
      let component : node.state.component ≡ s.component = sym x.alike.0.component ∙ sym x.is.state.component in
      (component, states_on s.component dead known node.state x.end (its s a) component x.alike.0 x.is.state)

  pub one_kept : (s : State) (dead : DeadTable) (known : KnowsDead s.component dead) (a b : Kept) (node : Node) → IsLike s a node → IsLike s b node → AreSame dead a b
  one_kept s dead known a b node x y =
      let first = node_like s dead known a node x in
      let second = node_like s dead known b node y in
      let back = states_back s.component dead known node.state (its s a) first.0 first.1 in
      let states = states_on s.component dead known (its s a) node.state (its s b) refl back second.1 in
      let both : (q : List SerialOp) → IsOneOf members q → IsPossible q x.history ↔ IsPossible q y.history = λ q of.
      (let first = x.alike.1 q of in
      let second = y.alike.1 q of in
      ((λ z. second.0 (first.1 z)), (λ z. first.0 (second.1 z)))) in
      same_kept dead s.component s.matrix a b (by_table s.component dead known (its s a) (its s b) refl states) (same_told x.history y.history a.alive b.alive x.is.possible y.is.possible both)

-- for each of the list there is one of another
pub list_of : {A B : Type 0} (P : A → B → Type 0) (xs : List A) → ((i : ℕ) (x : A) → slice_get xs i ≡ Some x → (y : B) × P x y) → (ys : List B) × (length ys ≡ length xs) × ((i : ℕ) (x : A) → slice_get xs i ≡ Some x → (y : B) × (slice_get ys i ≡ Some y) × P x y)
list_of P [] each = ([], refl, λ i x at. absurd (cc))
list_of P (x ∷ xs) each =
    let one = each 0 x refl in
    let rest = list_of P xs (λ i y at. each (suc i) y at) in
    (one.0 ∷ rest.0, ap suc rest.1, by one.0 one.1 rest.0 rest.2)
  where
    by : (y : _) → P x y → (ys : List _) → ((i : ℕ) (z : _) → slice_get xs i ≡ Some z → (w : _) × (slice_get ys i ≡ Some w) × P z w) → (i : ℕ) (z : _) → slice_get (x ∷ xs) i ≡ Some z → (w : _) × (slice_get (y ∷ ys) i ≡ Some w) × P z w
    by y p ys rest zero z at = (y, refl, subst (λ v. P v y) (same_Some x z at) p)
    by y p ys rest (suc i) z at = rest i z at
