-- The members of a tree, as they are listed.
use Rattle.std.proofs.Common.{◌≡◌, ℕ, zero, suc, ◌+◌, ◌≤◌, Bool, true, false, ◌||◌, List, [], ◌∷◌, ◌++◌, length, map, take, Some, None, slice_get, refl, sym, ◌∙◌, ap, subst, append_assoc, add-one, inl, inr}
use Rattle.std.specs.Prelude.{IfOk, Result}
use Rattle.std.proofs.lemmas.Result.{IfOk-weaker}
use Rattle.std.specs.Global.{Vec}
use Rattle.std.proofs.lemmas.List.{append-nil, map-append, take_all}
use Rattle.std.proofs.lemmas.List.Elements.{All-cons, All-nil}
use Rattle.std.proofs.lemmas.Option.{same_Some}
use Rattle.lu_component.specs.Component.{Component}
use Rattle.lu_test.specs.Matrix.{Matrix}
use Rattle.lu_machine.specs.Starts.{FromEachStart}
use Rattle.lu_machine.specs.States.{State}
use Rattle.lu_history.specs.declared.serial.SerialOp.{SerialOp}
use Rattle.lu_history.proofs.Events.{at_push, take_next}
use Rattle.lu_trie.specs.Branches.{Branch, joined}
use Rattle.lu_trie.specs.Members.{after, contains, empty_if, same_history}
use Rattle.lu_trie.proofs.Ops.{histories_equiv, same_histories_are}
use Rattle.lu_witness.specs.Witnesses.{IsMember}
use Rattle.lu_graph.specs.declared.ending.Ending.{Ending}
use Rattle.lu_graph.specs.Kept.{Kept}
use Rattle.lu_graph.specs.declared.holding.Nodes.{Nodes}
use Rattle.lu_graph.specs.Growing.{CanStandThere, ComesBy}
use Rattle.lu_graph.specs.Holding.{HoldsOne, HoldsStart}
use Rattle.lu_graph.specs.Nodes.{IsEnding, TellsEnding}
use Rattle.lu_graph.specs.Alive.{ArePossible, IsPossible}
use Rattle.lu_graph.specs.Judging.{Follows, IsOneOf}
use Rattle.lu_graph.specs.Listing.{histories}
use Rattle.lu_graph.proofs.Followed.{follows_quiet}
use Rattle.lu_graph.proofs.OtherSet.{ending_too}

-- after a path
abbrev onto : List SerialOp → List (List SerialOp) → List (List SerialOp)
onto path hs = map (λ q. path ++ q) hs

onto_after : (path : List SerialOp) (op : SerialOp) (hs : List (List SerialOp)) → onto (path ++ op ∷ []) hs ≡ onto path (after op hs)
onto_after path op [] = refl
onto_after path op (h ∷ hs) =
    ap (λ x. x ∷ onto (path ++ op ∷ []) hs) (append_assoc path (op ∷ []) h) ∙ ap (λ xs. (path ++ op ∷ h) ∷ xs) (onto_after path op hs)

joined_push : (bs : List Branch) (b : Branch) → joined (bs ++ b ∷ []) ≡ joined bs ++ after b.0 b.1
joined_push [] b = append-nil (after b.0 b.1)
joined_push (c ∷ bs) b = ap (λ x. after c.0 c.1 ++ x) (joined_push bs b) ∙ sym (append_assoc (after c.0 c.1) (joined bs) (after b.0 b.1))

joined_more : (bs : List Branch) (i : ℕ) (b : Branch) → slice_get bs i ≡ Some b → joined (take (i + 1) bs) ≡ joined (take i bs) ++ after b.0 b.1
joined_more bs i b at =
    let next : take (i + 1) bs ≡ take i bs ++ b ∷ [] = rw (add-one i) (take_next bs b i at) in
    ap joined next ∙ joined_push (take i bs) b

module _ (base : List (List SerialOp)) (path : List SerialOp) (first : List (List SerialOp)) (bs : List Branch) where
  -- one branch more
  pub listed_more : (found now : List (List SerialOp)) (i : ℕ) (op : SerialOp) (hs : List (List SerialOp)) → slice_get bs i ≡ Some (op, hs) → found ≡ base ++ map (λ q. path ++ q) (first ++ joined (take i bs)) → now ≡ found ++ map (λ q. (path ++ op ∷ []) ++ q) hs → now ≡ base ++ map (λ q. path ++ q) (first ++ joined (take (i + 1) bs))
  listed_more found now i op hs at before grown =
      let front = first ++ joined (take i bs) in
      let more = after op hs in
      let whole : front ++ more ≡ first ++ joined (take (i + 1) bs) = append_assoc first (joined (take i bs)) more ∙ ap (λ x. first ++ x) (sym (joined_more bs i (op, hs) at)) in
      grown ∙ (ap (λ x. x ++ onto (path ++ op ∷ []) hs) before ∙ (append_assoc base (onto path front) (onto (path ++ op ∷ []) hs)
      ∙ ap (λ x. base ++ x) (ap (λ x. onto path front ++ x) (onto_after path op hs) ∙ (sym (map-append (λ q. path ++ q) front more) ∙ ap (onto path) whole))))

  pub listed_all : (found : List (List SerialOp)) (i : ℕ) (hs : List (List SerialOp)) → length bs ≤ i → hs ≡ first ++ joined bs → found ≡ base ++ map (λ q. path ++ q) (first ++ joined (take i bs)) → found ≡ base ++ map (λ q. path ++ q) hs
  listed_all found i hs past is before =
      before ∙ ap (λ x. base ++ onto path x) (ap (λ x. first ++ joined x) (take_all i bs past) ∙ sym is)

-- the member that ends at the place, or none
pub listed_here : (base found : List (List SerialOp)) (path : List SerialOp) (bs : List Branch) (ends : Bool) → ends ≡ true → found ≡ base ++ path ∷ [] → found ≡ base ++ map (λ q. path ++ q) (empty_if ends ++ joined (take 0 bs))
listed_here base found path bs ends is grown =
    grown ∙ ap (λ x. base ++ x) (ap (λ x. x ∷ []) (sym (append-nil path)) ∙ ap (λ e. onto path (empty_if e ++ joined (take 0 bs))) (sym is))

pub listed_none : (base found : List (List SerialOp)) (path : List SerialOp) (bs : List Branch) (ends : Bool) → ends ≡ false → found ≡ base → found ≡ base ++ map (λ q. path ++ q) (empty_if ends ++ joined (take 0 bs))
listed_none base found path bs ends is same =
    same ∙ (sym (append-nil base) ∙ ap (λ e. base ++ onto path (empty_if e ++ joined (take 0 bs))) (sym is))

-- one history more among the vectors
pub histories_push : (found : List (Vec SerialOp)) (new : List (Vec SerialOp)) (v : Vec SerialOp) (path : List SerialOp) → new ≡ found ++ v ∷ [] → v.items ≡ path → histories new ≡ histories found ++ path ∷ []
histories_push found new v path grown is = ap histories grown ∙ (map-append (λ (q : Vec SerialOp). q.items) found (v ∷ []) ∙ ap (λ x. histories found ++ x ∷ []) is)

pub from_root : (hs : List (List SerialOp)) → map (λ q. [] ++ q) hs ≡ hs
from_root [] = refl
from_root (h ∷ hs) = ap (λ x. h ∷ x) (from_root hs)

pub list_whole : (base : List (Vec SerialOp)) (path : List SerialOp) (found : List (Vec SerialOp)) (below members : List (List SerialOp)) → base ≡ [] → path ≡ [] → histories found ≡ histories base ++ map (λ q. path ++ q) below → below ≡ members → histories found ≡ members
list_whole base path found below members none here is all =
    is ∙ (ap (λ (b : List (Vec SerialOp)). histories b ++ onto path below) none ∙ (ap (λ p. onto p below) here ∙ (from_root below ∙ all)))

-- ---- members, as they are listed

pub one_member : (members : List (Vec SerialOp)) (q : List SerialOp) → IsOneOf members q → IsMember (histories members) q
one_member [] q (i, v, at, is) = absurd (cc)
one_member (w ∷ members) q (zero, v, at, is) = left (same_history q w.items) (contains (histories members) q) (subst (λ x. same_history q x ≡ true) (sym (ap (λ (x : Vec SerialOp). x.items) (same_Some w v at) ∙ is)) (histories_equiv.refl q))
  where
    left : (a b : Bool) → a ≡ true → (a || b) ≡ true
    left true b e = refl
    left false b e = cc
one_member (w ∷ members) q (suc i, v, at, is) = right (same_history q w.items) (contains (histories members) q) (one_member members q (i, v, at, is))
  where
    right : (a b : Bool) → b ≡ true → (a || b) ≡ true
    right true b e = refl
    right false b e = e

pub member_one : (members : List (Vec SerialOp)) (q : List SerialOp) → IsMember (histories members) q → IsOneOf members q
member_one [] q is = absurd (cc)
member_one (w ∷ members) q is = by (same_history q w.items) refl (member_one members q) is
  where
    by : (b : Bool) → same_history q w.items ≡ b → (contains (histories members) q ≡ true → IsOneOf members q) → (b || contains (histories members) q) ≡ true → IsOneOf (w ∷ members) q
    by true e rest h = (zero, w, refl, sym (same_histories_are q w.items e))
    by false e rest h = let r = rest h in (suc r.0, r.1, r.2, r.3)

-- ---- before any event

pub possible_first : (q : List SerialOp) → IsPossible q []
possible_first q = record {
  outcomes = λ i a o at. absurd (cc);
  precedence = λ i a ret. absurd (let at = ret.1 in cc);
}

pub told_first : (members : List (Vec SerialOp)) (alive : List Bool) → length alive ≡ length members → ((i : ℕ) (b : Bool) → slice_get alive i ≡ Some b → b ≡ true) → ArePossible members [] alive
told_first members alive many all = record {
  many = many;
  tells = λ i q b at there. ((λ x. possible_first q.items), (λ x. all i b there));
}

pub true_more : (alive new : List Bool) → new ≡ alive ++ true ∷ [] → ((i : ℕ) (b : Bool) → slice_get alive i ≡ Some b → b ≡ true) → (i : ℕ) (b : Bool) → slice_get new i ≡ Some b → b ≡ true
true_more alive new grown all i b at = elim (at_push alive true b i (subst (λ x. slice_get x i ≡ Some b) grown at)) as (λ _. b ≡ true) [
  | inl old ↦ all i b old.1
  | inr last ↦ last.1
]

-- the start alone
pub holds_start : (s : State) (members : List (Vec SerialOp)) (alive bits : List Bool) (nodes : Nodes) → bits ≡ alive → ArePossible members [] alive → HoldsOne s bits nodes → HoldsStart members s nodes
holds_start s members alive bits nodes same told (kept, hold, can, is, known) =
    let comes : ComesBy s.component s.matrix members s bits None kept = record { state = is.0; follows = subst (Follows members s bits None) (sym is.1) (follows_quiet members s bits None (λ a outcome e. absurd (cc))) } in
    let Such : Kept → Type 0 = λ k. CanStandThere s.component s.matrix k × ComesBy s.component s.matrix members s bits None k in (
      kept ∷ [],
      hold members,
      (
        bits,
        subst (ArePossible members []) (sym same) told,
        record { there = (zero, kept, refl, comes); grows = (kept ∷ [], refl, All-cons Such kept [] (can, comes) (All-nil Such)) },
      ),
      known,
    )

-- what is searched with the members of a tree is told of its set
pub for_tree : {E : Type 0} (c : Component) (matrix : Matrix) (members : List (Vec SerialOp)) (set : List (List SerialOp)) (bound most : ℕ) (result : Result Ending E) → histories members ≡ set → FromEachStart c matrix (λ s. IfOk result (IsEnding (IsOneOf members) bound most s)) → FromEachStart c matrix (TellsEnding set bound most result)
for_tree c matrix members set bound most result same all s is =
    IfOk-weaker result (IsEnding (IsOneOf members) bound most s) (IsEnding (IsMember set) bound most s)
    (ending_too (IsOneOf members) (IsMember set) (λ q x. subst (λ z. IsMember z q) same (one_member members q x)) (λ q x. member_one members q (subst (λ z. IsMember z q) (sym same) x)) bound most s)
    (all s is)
