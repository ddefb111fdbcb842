-- What has returned, one event on.
use Rattle.std.proofs.Common.{◌≡◌, ℕ, suc, ◌+◌, ◌<◌, List, [], ◌∷◌, ◌++◌, length, take, Some, slice_get, get_or, refl, ap, ◌∙◌, arith}
use Rattle.std.proofs.lemmas.Option.{slice_get-get_or}
use Rattle.lu_machine.specs.declared.event.Event.{Event}
use Rattle.lu_machine.specs.declared.event.Event.TheVariants.{Call, Return}
use Rattle.lu_history.specs.declared.serial.SerialOp.{SerialOp}
use Rattle.lu_history.specs.Parts.{as_serial}
use Rattle.lu_history.proofs.Events.{take_next}
use Rattle.lu_judge.specs.Returned.{returned}

pub returned-append : (h g : List Event) → returned (h ++ g) ≡ returned h ++ returned g
returned-append [] g = refl
returned-append (Call t k ∷ h) g = returned-append h g
returned-append (Return t k o ∷ h) g = ap (λ (q : List SerialOp). record { thread = t; outcome = as_serial o } ∷ q) (returned-append h g)

-- with the event at i
pub returned_next : (h : List Event) (i : ℕ) (d e : Event) → i < length h → get_or h i d ≡ e → returned (take (i + 1) h) ≡ returned (take i h) ++ returned (e ∷ [])
returned_next h i d e lt is =
    let next : ◌≡◌ {A = ℕ} (i + 1) (suc i) = omega arith in
    let at : slice_get h i ≡ Some e = slice_get-get_or h i d lt ∙ ap Some is in
    ap (λ n. returned (take n h)) next ∙ (ap returned (take_next h e i at) ∙ returned-append (take i h) (e ∷ []))
