-- What is found after an instruction says no more than its outlook.
use Rattle.std.proofs.Common.{◌≡◌, ◌≢◌, ℕ, zero, suc, ◌+◌, ◌-◌, ◌<◌, Bool, true, false, List, Some, slice_get, refl, arith}
use Rattle.lu_component.specs.declared.instr.Instr.{Instr}
use Rattle.lu_component.specs.declared.instr.Instr.TheVariants.{Set, Compute, Load, Store, Cas, Lock, Unlock, Await, AwaitNot, Pick, Jump, JumpIfZero, Return}
use Rattle.lu_component.specs.declared.instr.Operand.{Operand}
use Rattle.lu_component.specs.Component.{Component}
use Rattle.lu_machine.specs.Steps.{is_local}
use Rattle.lu_horizon.specs.declared.outlook.Outlook.{Outlook}
use Rattle.lu_horizon.specs.Code.{after_local, outlook_at, run_on, unless_there}
use Rattle.lu_horizon.specs.Outlooks.{IsWeaker, one_before}
use Rattle.lu_horizon.proofs.SureLaws.{either_less, within_before, within_itself, within_more}

-- one local instruction more
pub run_over : (code : List Instr) (known : ℕ → Outlook) (n place : ℕ) (instr : Instr) → slice_get code place ≡ Some instr → is_local instr ≡ true → 0 < n → run_on code known n place ≡ after_local (run_on code known (n - 1)) place instr
run_over code known zero place instr at is some = absurd (omega arith)
run_over code known (suc n) place instr at is some =
    let e : suc n - 1 ≡ n = omega arith in
    rw (e, at, is) refl

-- one that is no jump goes to the next place
pub after_next : (on : ℕ → Outlook) (place : ℕ) (instr : Instr) → ((target : ℕ) → instr ≢ Jump target) → ((v : Operand) (target : ℕ) → instr ≢ JumpIfZero v target) → after_local on place instr ≡ on (place + 1)
after_next on place (Set to v) jump branch = refl
after_next on place (Compute by to a b) jump branch = refl
after_next on place (Load to w i) jump branch = refl
after_next on place (Store w i v) jump branch = refl
after_next on place (Cas to w i x y) jump branch = refl
after_next on place (Lock l) jump branch = refl
after_next on place (Unlock l) jump branch = refl
after_next on place (Await w i v) jump branch = refl
after_next on place (AwaitNot w i v) jump branch = refl
after_next on place (Pick to count) jump branch = refl
after_next on place (Jump target) jump branch = absurd (jump target refl)
after_next on place (JumpIfZero v target) jump branch = absurd (branch v target refl)
after_next on place (Return v) jump branch = refl

pub unless_less : (there : Bool) (a x rest : Outlook) → IsWeaker a x → IsWeaker (unless_there there a rest) (unless_there there x rest)
unless_less true a x rest less = less
unless_less false a x rest less = either_less a rest x rest less (within_itself rest)

-- a move more
pub move_less : (result behind o : Outlook) → IsWeaker result (one_before behind) → IsWeaker behind o → IsWeaker result (one_before o)
move_less result behind o found less = within_more result (one_before behind) (one_before o) found (within_before behind o less)

-- what is found at an instruction
pub instr_less : (c : Component) (on : ℕ → Outlook) (rest : Outlook) (place : ℕ) (instr other : Instr) → instr ≡ other → (result behind o : Outlook) → IsWeaker result (one_before behind) → IsWeaker behind o → outlook_at c on rest place other ≡ one_before o → IsWeaker result (outlook_at c on rest place instr)
instr_less c on rest place instr other is result behind o found less same = rw (is, same) (move_less result behind o found less)
