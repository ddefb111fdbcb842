-- The code of an operation, as it is read.
use Rattle.std.proofs.Common.{◌≡◌, ℕ, ◌≤◌, [], length, Option, Some, None, slice_get, option_and_then, ap, subst}
use Rattle.std.proofs.lemmas.List.Elements.{All-get_or}
use Rattle.std.proofs.lemmas.Option.{get_or_from_slice_get, slice_get_within}
use Rattle.lu_component.specs.declared.component.Op.{Op}
use Rattle.lu_component.specs.Component.{Component, IsComponent, IsOp}
use Rattle.lu_machine.specs.States.{instr_at}
use Rattle.lu_horizon.specs.Tables.{IsCodeOf}

pub code_there : (c : Component) (op : ℕ) (o : Op) → slice_get c.operations op ≡ Some o → IsCodeOf c op o.code
unfolding instr_at
code_there c op o at place = ap (λ (x : Option Op). option_and_then (λ (y : Op). slice_get y.code place) x) at

pub no_code : (c : Component) (op : ℕ) → slice_get c.operations op ≡ None → IsCodeOf c op []
unfolding instr_at
no_code c op none place = ap (λ (x : Option Op). option_and_then (λ (y : Op). slice_get y.code place) x) none

pub few_there : (c : Component) (op : ℕ) (o : Op) → IsComponent c → slice_get c.operations op ≡ Some o → length o.code ≤ 64
few_there c op o sound at =
    let IsOne = IsOp (length c.arrays) (length c.locks) in
    let one : IsOne o = subst IsOne (get_or_from_slice_get c.operations op o o at) (All-get_or IsOne c.operations op o (slice_get_within c.operations op o at) sound.operations) in
    one.code.few
