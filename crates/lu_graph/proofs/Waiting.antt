-- The node that is gone through next.
use Rattle.std.proofs.Common.{arith, ◌≡◌, ℕ, ◌≤◌, List, length, Some, None, slice_get, sym, ◌∙◌, subst, inl, inr}
use Rattle.std.specs.Global.{Vec}
use Rattle.std.specs.List.{IsDistinct}
use Rattle.std.proofs.lemmas.Bool.{cases_lt}
use Rattle.std.proofs.lemmas.Option.{slice_get_within}
use Rattle.lu_machine.specs.States.{State}
use Rattle.lu_history.specs.declared.serial.SerialOp.{SerialOp}
use Rattle.lu_graph.specs.declared.holding.Nodes.{Nodes}
use Rattle.lu_graph.specs.declared.row.Row.{Row}
use Rattle.lu_graph.specs.Growing.{CanStandThere, state_of}
use Rattle.lu_graph.specs.Kept.{Kept}
use Rattle.lu_graph.specs.Holding.{Hold}
use Rattle.lu_graph.specs.Rows.{IsRowOf, IsSized}
use Rattle.lu_graph.proofs.Many.{equal_apart, some_at}
use Rattle.lu_graph.proofs.Same.{AreDifferent, row_eq, same_row, same_rows}

module _ (members : List (Vec SerialOp)) (nodes : Nodes) (list : List Kept) (hold : Hold members nodes list) where
  -- no two nodes are the same
  pub all_differ : IsDistinct row_eq nodes.rows.keys → AreDifferent nodes.parts.dead list
  all_differ distinct i j a b lt at there same =
      let many = hold.many in
      let first = slice_get_within list i a at in
      let second = slice_get_within list j b there in
      let r = some_at nodes.rows.keys i (omega (arith, first, many)) in
      let q = some_at nodes.rows.keys j (omega (arith, second, many)) in
      equal_apart row_eq nodes.rows.keys distinct i j r.0 q.0 lt r.1 q.1
      ((same_row r.0 q.0).1 (same_rows nodes.parts a b r.0 q.0 (hold.rows i r.0 a r.1 at) (hold.rows j q.0 b q.1 there) same))

  -- all were gone through
  pub none_waits : (place : ℕ) → None ≡ slice_get nodes.rows.keys place → length list ≤ place
  none_waits place none = elim (cases_lt place (length list)) as (λ _. length list ≤ place) [
    | inl lt ↦ (let many = hold.many in let one = some_at nodes.rows.keys place (omega (arith, lt, many)) in absurd (let wrong = none ∙ one.1 in cc))
    | inr le ↦ le
  ]

  -- the node at the place
  pub next_there : (place : ℕ) (row : Row) → Some row ≡ slice_get nodes.rows.keys place → (kept : Kept) × (slice_get list place ≡ Some kept) × IsRowOf nodes.parts kept row
  next_there place row at =
      let within = slice_get_within nodes.rows.keys place row (sym at) in
      let kept = some_at list place (let many = hold.many in omega (arith, within, many)) in
      (kept.0, kept.1, hold.rows place row kept.0 (sym at) kept.1)

-- a machine that can stand there has as many cells, locks and threads as it declares
pub sized_there : (m now : State) (kept : Kept) → CanStandThere m.component m.matrix kept → now ≡ state_of m.component m.matrix kept → IsSized now
sized_there m now kept is stands = subst IsSized (sym stands) (record { cells = is.cells; locks = is.locks; threads = is.threads })
