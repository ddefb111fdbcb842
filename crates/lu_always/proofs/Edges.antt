-- How edges are added.
use Rattle.std.proofs.Common.{arith, ◌≡◌, ◌↔◌, ◌⊎◌, ℕ, ◌+◌, ◌<◌, ◌≤◌, Bool, true, false, eqb, List, [], ◌∷◌, ◌++◌, length, Some, slice_get, slice_set, refl, sym, ◌∙◌, ap, subst, inl, inr, length-append}
use Rattle.std.specs.Global.{Vec}
use Rattle.std.specs.Vec.{vec_len}
use Rattle.std.proofs.lemmas.Bool.{cases_lt, eq-eqb, eqb-true}
use Rattle.std.proofs.lemmas.List.{length-set, nil_from_length}
use Rattle.std.proofs.lemmas.Option.{same_Some, slice_get_within}
use Rattle.lu_history.proofs.Events.{at_push, kept_at, last_at}
use Rattle.lu_serial.proofs.Opening.{same_or_not, slice_get_set_other, slice_get_set_same}
use Rattle.lu_client.specs.Stages.{IsIn}
use Rattle.lu_always.specs.Sinks.{Graph, HasEdge, IsSink}
use Rattle.lu_always.specs.Marking.{AddsEdge, AddsEdges, AreSinks, AreSources, Gains, IsBare}
use Rattle.lu_always.proofs.Marked.{IsAmong, among_all, among_more, among_next, nothing_in}

pub adds_none : (P : ℕ → ℕ → Type 0) (a : Graph) → ((i j : ℕ) → P i j → i < length a → HasEdge a i j) → Gains P a a
adds_none P a all = record { same = refl; kept = λ i j e. e; added = all; only = λ i j e. inl e }

pub adds_edge : (old new : Graph) (from to : ℕ) (was row : Vec ℕ) → slice_get old from ≡ Some was → row.items ≡ was.items ++ to ∷ [] → new ≡ slice_set old from row → AddsEdge from to old new
adds_edge old new from to was row at is set =
    let here : slice_get new from ≡ Some row = ap (λ x. slice_get x from) set ∙ slice_get_set_same old from row was at in
    let other : (i : ℕ) → (i ≡ from → ⊥) → slice_get new i ≡ slice_get old i = (λ i apart. ap (λ x. slice_get x i) set ∙ slice_get_set_other old from i row apart) in
    record {
      same = ap (λ (x : Graph). length x) set ∙ length-set old from row;
      kept = λ i j edge.
          elim (same_or_not i from) as (λ _. HasEdge new i j) [
            | inl same ↦
                (let one : edge.0 ≡ was = same_Some edge.0 was (sym edge.1 ∙ (ap (slice_get old) same ∙ at)) in
                let k = edge.2.0 in
                (row, ap (slice_get new) same ∙ here, (k, ap (λ x. slice_get x k) is ∙ kept_at was.items (to ∷ []) j k (ap (λ (x : Vec ℕ). slice_get x.items k) (sym one) ∙ edge.2.1))))
            | inr apart ↦ (edge.0, other i apart ∙ edge.1, edge.2)
          ];
      added = λ i j p lt.
          (row, ap (slice_get new) p.0 ∙ here, (length was.items, ap (λ x. slice_get x (length was.items)) is ∙ (last_at was.items [] to ∙ ap Some (sym p.1))));
      only = λ i j edge.
          elim (same_or_not i from) as (λ _. HasEdge old i j ⊎ ((i ≡ from) × (j ≡ to))) [
            | inl same ↦
                (let one : edge.0 ≡ row = same_Some edge.0 row (sym edge.1 ∙ (ap (slice_get new) same ∙ here)) in
                let k = edge.2.0 in
                elim (at_push was.items to j k (ap (λ x. slice_get x k) (sym is) ∙ (ap (λ (x : Vec ℕ). slice_get x.items k) (sym one) ∙ edge.2.1))) as (λ _. HasEdge old i j ⊎ ((i ≡ from) × (j ≡ to))) [
                  | inl before ↦ inl (was, ap (slice_get old) same ∙ at, (k, before.1))
                  | inr last ↦ inr (same, last.1)
                ])
            | inr apart ↦ inl (edge.0, sym (other i apart) ∙ edge.1, edge.2)
          ];
    }

pub adds_on : (P Q R : ℕ → ℕ → Type 0) (a b c : Graph) → ((i j : ℕ) → R i j → P i j ⊎ Q i j) → ((i j : ℕ) → P i j → R i j) → ((i j : ℕ) → Q i j → R i j) → Gains P a b → Gains Q b c → Gains R a c
adds_on P Q R a b c parts first second x y = record {
  same = y.same ∙ x.same;
  kept = λ i j is. y.kept i j (x.kept i j is);
  added = λ i j r lt.
      elim (parts i j r) as (λ _. HasEdge c i j) [
        | inl p ↦ y.kept i j (x.added i j p lt)
        | inr q ↦ (let same = x.same in y.added i j q (omega (arith, same, lt)))
      ];
  only = λ i j is.
      elim (y.only i j is) as (λ _. HasEdge a i j ⊎ R i j) [
        | inl was ↦ elim (x.only i j was) as (λ _. HasEdge a i j ⊎ R i j) [ inl before ↦ inl before | inr p ↦ inr (first i j p) ]
        | inr q ↦ inr (second i j q)
      ];
}

-- edges from the first n of these vertices
abbrev pub FromAmong : ℕ → List ℕ → ℕ → ℕ → ℕ → Type 0
FromAmong n vertices to i j = IsAmong n vertices i × (j ≡ to)

pub edges_start : (vertices : List ℕ) (to : ℕ) (a : Graph) → Gains (FromAmong 0 vertices to) a a
edges_start vertices to a = adds_none (FromAmong 0 vertices to) a (λ i j p lt. (let less = p.0.1 in absurd (omega (arith, less))))

pub edges_next : (vertices : List ℕ) (n vertex to : ℕ) (a b c : Graph) → slice_get vertices n ≡ Some vertex → Gains (FromAmong n vertices to) a b → AddsEdge vertex to b c → Gains (FromAmong (n + 1) vertices to) a c
edges_next vertices n vertex to a b c at x y =
    adds_on (FromAmong n vertices to) (λ i j. (i ≡ vertex) × (j ≡ to)) (FromAmong (n + 1) vertices to) a b c
    (λ i j p. elim (among_next vertices n i vertex at p.0) as (λ _. FromAmong n vertices to i j ⊎ ((i ≡ vertex) × (j ≡ to))) [ inl before ↦ inl (before, p.1) | inr same ↦ inr (same, p.1) ])
    (λ i j p. (among_more vertices n i p.0, p.1))
    (λ i j p. ((n, omega arith, at ∙ ap Some (sym p.0)), p.1)) x y

pub edges_end : (vertices : List ℕ) (n to : ℕ) (a b : Graph) → length vertices ≤ n → Gains (FromAmong n vertices to) a b → AddsEdges vertices to a b
edges_end vertices n to a b past x = record {
  same = x.same;
  kept = x.kept;
  added = λ i j p lt. x.added i j (among_all vertices n i past p.0, p.1) lt;
  only = λ i j is. elim (x.only i j is) as (λ _. HasEdge a i j ⊎ (IsIn vertices i × (j ≡ to))) [ inl was ↦ inl was | inr p ↦ inr ((p.0.0, p.0.2), p.1) ];
}

-- ---- the edges of a graph backwards

-- those of the first n vertices
abbrev pub Backwards : Graph → ℕ → ℕ → ℕ → Type 0
Backwards graph n i j = (j < n) × HasEdge graph j i

pub back_start : (graph a : Graph) → Gains (Backwards graph 0) a a
back_start graph a = adds_none (Backwards graph 0) a (λ i j p lt. (let less = p.0 in absurd (omega (arith, less))))

pub back_next : (graph : Graph) (n : ℕ) (row : Vec ℕ) (a b c : Graph) → slice_get graph n ≡ Some row → Gains (Backwards graph n) a b → AddsEdges row.items n b c → Gains (Backwards graph (n + 1)) a c
back_next graph n row a b c at x y =
    adds_on (Backwards graph n) (λ i j. IsIn row.items i × (j ≡ n)) (Backwards graph (n + 1)) a b c
    (λ i j p.
    (let less = p.0 in
    elim (cases_lt j n) as (λ _. Backwards graph n i j ⊎ (IsIn row.items i × (j ≡ n))) [
      | inl before ↦ inl (before, p.1)
      | inr past ↦
          (let same : j ≡ n = omega (arith, less, past) in
          let one : p.1.0 ≡ row = same_Some p.1.0 row (sym p.1.1 ∙ (ap (slice_get graph) same ∙ at)) in
          inr (subst (λ (v : Vec ℕ). IsIn v.items i) one p.1.2, same))
    ]))
    (λ i j p. (let less = p.0 in (omega (arith, less), p.1)))
    (λ i j p. (let same = p.1 in (omega (arith, same), (row, ap (slice_get graph) same ∙ at, p.0)))) x y

pub back_end : (graph : Graph) (n : ℕ) (bare sources : Graph) → length graph ≤ n → IsBare (length graph) bare → Gains (Backwards graph n) bare sources → AreSources graph sources
back_end graph n bare sources past none x = record {
  same = x.same ∙ none.0;
  each = λ i j lt edge.
      (let there = slice_get_within graph i edge.0 edge.1 in
      let many = none.0 in
      x.added j i (omega (arith, there, past), edge) (omega (arith, lt, many)));
  only = λ i j edge.
      elim (x.only j i edge) as (λ _. HasEdge graph i j) [
        | inl was ↦ absurd (none.1 j i was)
        | inr p ↦ p.1
      ];
}

-- ---- sinks

-- these are the sinks of the first n vertices
abbrev pub AreSinksBefore : Graph → ℕ → List ℕ → Type 0
AreSinksBefore graph n sinks = (i : ℕ) → IsIn sinks i ↔ ((i < n) × IsSink graph i)

pub sinks_start : (graph : Graph) → AreSinksBefore graph 0 []
sinks_start graph i = ((λ is. absurd (nothing_in is.0 i is.1)), (λ p. (let less = p.0 in absurd (omega (arith, less)))))

pub sinks_more : (graph : Graph) (n : ℕ) (row : Vec ℕ) (sinks : List ℕ) → slice_get graph n ≡ Some row → row.items ≡ [] → AreSinksBefore graph n sinks → AreSinksBefore graph (n + 1) (sinks ++ n ∷ [])
sinks_more graph n row sinks at none are i = (
  (λ is.
      elim (at_push sinks n i is.0 is.1) as (λ _. (i < n + 1) × IsSink graph i) [
        | inl before ↦ (let was = (are i).0 (is.0, before.1) in let less = was.0 in (omega (arith, less), was.1))
        | inr last ↦ (let same = last.1 in (omega (arith, same), (row, ap (slice_get graph) same ∙ at, none)))
      ]),
  (λ p.
      (let less = p.0 in
      elim (cases_lt i n) as (λ _. IsIn (sinks ++ n ∷ []) i) [
        | inl before ↦ (let was = (are i).1 (before, p.1) in (was.0, kept_at sinks (n ∷ []) i was.0 was.1))
        | inr past ↦ (let same : n ≡ i = omega (arith, less, past) in (length sinks, last_at sinks [] n ∙ ap Some same))
      ])),
)

pub sinks_same : (graph : Graph) (n : ℕ) (row : Vec ℕ) (sinks : List ℕ) → slice_get graph n ≡ Some row → (row.items ≡ [] → ⊥) → AreSinksBefore graph n sinks → AreSinksBefore graph (n + 1) sinks
sinks_same graph n row sinks at some are i = (
  (λ is. (let was = (are i).0 is in let less = was.0 in (omega (arith, less), was.1))),
  (λ p.
      (let less = p.0 in
      elim (cases_lt i n) as (λ _. IsIn sinks i) [
        | inl before ↦ (are i).1 (before, p.1)
        | inr past ↦
            (let same : i ≡ n = omega (arith, less, past) in
            let one : p.1.0 ≡ row = same_Some p.1.0 row (sym p.1.1 ∙ (ap (slice_get graph) same ∙ at)) in
            absurd (some (subst (λ (v : Vec ℕ). v.items ≡ []) one p.1.2)))
      ])),
)

pub sinks_end : (graph : Graph) (n : ℕ) (sinks : List ℕ) → length graph ≤ n → AreSinksBefore graph n sinks → AreSinks graph sinks
sinks_end graph n sinks past are i = (
  (λ is. ((are i).0 is).1),
  (λ p. (let lt = slice_get_within graph i p.0 p.1 in (are i).1 (omega (arith, lt, past), p))),
)

-- ---- no edges

pub bare_more : (n : ℕ) (old new : Graph) (row : Vec ℕ) → new ≡ old ++ row ∷ [] → row.items ≡ [] → IsBare n old → IsBare (n + 1) new
bare_more n old new row is none bare = (
  (let a = ap (λ (x : Graph). length x) is in let b : length (old ++ row ∷ []) ≡ length old + 1 = length-append old (row ∷ []) in let many = bare.0 in omega (arith, a, b, many)),
  (λ i j edge.
      elim (at_push old row edge.0 i (ap (λ (x : Graph). slice_get x i) (sym is) ∙ edge.1)) [
        | inl before ↦ bare.1 i j (edge.0, before.1, edge.2)
        | inr last ↦ nothing_in edge.2.0 j (ap (λ (x : List ℕ). slice_get x edge.2.0) (sym (ap (λ (x : Vec ℕ). x.items) last.1 ∙ none)) ∙ edge.2.1)
      ]),
)

-- ---- rows

-- the edges that lead from a vertex
pub row_edges : (graph : Graph) (vertex : ℕ) (row : Vec ℕ) → slice_get graph vertex ≡ Some row → (i : ℕ) → IsIn row.items i ↔ HasEdge graph vertex i
row_edges graph vertex row at i = (
  (λ is. (row, at, is)),
  (λ edge. subst (λ (x : Vec ℕ). IsIn x.items i) (same_Some edge.0 row (sym edge.1 ∙ at)) edge.2),
)

pub row_empty : (row : Vec ℕ) (b : Bool) → b ≡ eqb (vec_len row) 0 → b ≡ true → row.items ≡ []
row_empty row b is set =
    let zero_long = eqb-true (vec_len row) 0 (sym is ∙ set) in
    nil_from_length row.items (sym row.ok.0 ∙ zero_long)

pub row_some : (row : Vec ℕ) (b : Bool) → b ≡ eqb (vec_len row) 0 → b ≡ false → row.items ≡ [] → ⊥
row_some row b is unset none =
    let long : vec_len row ≡ 0 = row.ok.0 ∙ ap (λ (x : List ℕ). length x) none in
    let e : false ≡ true = sym unset ∙ (is ∙ eq-eqb (vec_len row) 0 long) in
    cc
