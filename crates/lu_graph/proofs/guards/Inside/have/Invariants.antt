use Rattle.std.proofs.Common.{◌≡◌, ◌<◌, ℕ, true, Some, slice_get}
use Rattle.lu_component.specs.declared.instr.Instr.{Instr}
use Rattle.lu_graph.specs.Guards.{array_of}
use Rattle.lu_graph.specs.Sections.{is_inside}
use Rattle.lu_graph.proofs.guards.Inside.have.Given as goal

abbrev pub invariant-loop-place : goal.invariant-loop-place
invariant-loop-place l =
    (p : ℕ) → p < l.place → (a : Instr) → slice_get l.code p ≡ Some a → array_of a ≡ Some l.array → is_inside l.self-inside.places.items p ≡ true
