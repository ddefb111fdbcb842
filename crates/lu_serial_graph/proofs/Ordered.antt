-- Rests with and without their keys.
use Rattle.std.proofs.Common.{◌≡◌, List, [], ◌∷◌, ◌++◌, map, refl, sym, ◌∙◌, ap, subst, inl, append_assoc}
use Rattle.std.proofs.lemmas.List.{append-nil}
use Rattle.std.specs.List.Sorted.{IsPermutation}
use Rattle.std.proofs.lemmas.List.Sorted.{IsPermutation-map}
use Rattle.lu_machine.specs.declared.position.Position.{Position}
use Rattle.lu_serial_graph.specs.declared.ordering.KeyedRest.{KeyedRest}
use Rattle.lu_serial_graph.specs.Playing.{IsAmong}
use Rattle.lu_serial_graph.specs.Ordering.{position_of}
use Rattle.lu_serial_graph.proofs.FirstMoves.{among_right}

map_more : (keyed : List KeyedRest) (x : KeyedRest) → map position_of (keyed ++ x ∷ []) ≡ map position_of keyed ++ x.position ∷ []
map_more [] x = refl
map_more (y ∷ keyed) x = ap (λ ps. y.position ∷ ps) (map_more keyed x)

-- one more has its key
pub keyed_more : (keyed : List KeyedRest) (x : KeyedRest) (p : Position) (rest more all : List Position) → x.position ≡ p → rest ≡ p ∷ more → map position_of keyed ++ rest ≡ all → map position_of (keyed ++ x ∷ []) ++ more ≡ all
keyed_more keyed x p rest more all at is so =
    ap (λ ps. ps ++ more) (map_more keyed x)
    ∙ (append_assoc (map position_of keyed) (x.position ∷ []) more
    ∙ (ap (λ q. map position_of keyed ++ q ∷ more) at
    ∙ (ap (λ ps. map position_of keyed ++ ps) (sym is) ∙ so)))

pub keyed_all : (keyed : List KeyedRest) (rest all : List Position) → rest ≡ [] → map position_of keyed ++ rest ≡ all → map position_of keyed ≡ all
keyed_all keyed rest all none so = sym (append-nil (map position_of keyed)) ∙ (ap (λ ps. map position_of keyed ++ ps) (sym none) ∙ so)

-- the next one is among all
pub next_among : (keyed : List KeyedRest) (p : Position) (rest more all : List Position) → rest ≡ p ∷ more → map position_of keyed ++ rest ≡ all → IsAmong p all
next_among keyed p rest more all is so =
    subst (IsAmong p) so (among_right p (map position_of keyed) rest (subst (IsAmong p) (sym is) (inl refl)))

-- one more is without its key
pub unkeyed_more : (rests : List Position) (x : KeyedRest) (rest more : List KeyedRest) (all : List Position) → rest ≡ x ∷ more → rests ++ map position_of rest ≡ all → (rests ++ x.position ∷ []) ++ map position_of more ≡ all
unkeyed_more rests x rest more all is so =
    append_assoc rests (x.position ∷ []) (map position_of more) ∙ (ap (λ ks. rests ++ map position_of ks) (sym is) ∙ so)

pub unkeyed_all : (rests : List Position) (rest : List KeyedRest) (all : List Position) → rest ≡ [] → rests ++ map position_of rest ≡ all → rests ≡ all
unkeyed_all rests rest all none so = sym (append-nil rests) ∙ (ap (λ ks. rests ++ map position_of ks) (sym none) ∙ so)

-- sorted, they are the same
pub sorted_same : (keyed sorted : List KeyedRest) (rests ordered : List Position) → map position_of keyed ≡ rests → IsPermutation keyed sorted → ordered ≡ map position_of sorted → IsPermutation rests ordered
sorted_same keyed sorted rests ordered were is are =
    let P : List Position → Type 0 = λ ps. IsPermutation ps ordered in
    let Q : List Position → Type 0 = λ ps. IsPermutation (map position_of keyed) ps in
    subst P were (subst Q (sym are) (IsPermutation-map position_of keyed sorted is))
