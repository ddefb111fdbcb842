use Rattle.std.proofs.Common.{◌+◌, refl, inl, inr}
use Rattle.lu_component.specs.declared.instr.Instr.TheVariants.{Set, Compute, Load, Store, Cas, Unlock, Jump, JumpIfZero, Return}
use Rattle.lu_horizon.specs.Code.{ahead_at, is_certain_cell, more_after, run_on, unless_there}
use Rattle.lu_horizon.specs.Outlooks.{IsWeaker, either, one_before}
use Rattle.lu_horizon.specs.Tables.{outlook_of}
use Rattle.lu_horizon.proofs.RunLaws.{instr_less, unless_less}
use Rattle.lu_horizon.proofs.SureLaws.{either_less, within_itself}
use Rattle.lu_horizon.proofs.certain.certain.Goals.{in-Set, in-Unlock, in-Jump, in-JumpIfZero, in-Return, in-Load2}
use Rattle.lu_horizon.proofs.certain.certain.Goals as goal

pub returns : goal.returns
returns c =
    let d = c.args.component.now in
    let place = c.args.place in
    let rest = c.args.rest in
    let instr = c.args.instr.now in
    let result = c.one_before.result in
    let after = c.match-instr.after in
    let on = run_on c.args.code.now (outlook_of c.args.known.now) (more_after d instr) in
    let next : IsWeaker c.run_on-next.result (on (place + 1)) = rw c.more_after-most.ensures at c.run_on-next.ensures in
    let found : IsWeaker result (one_before after) = c.one_before.ensures in
    let all : IsWeaker result (ahead_at d c.args.code.now (outlook_of c.args.known.now) rest place instr) = elim c.match-instr.branch [
      | in-Set w ↦ elim w.in-Set.is [
        | inl h ↦ instr_less d on rest place instr (Set h.0 h.1) h.2 result after (on (place + 1)) found (rw w.after-is next) refl
        | inr h ↦ instr_less d on rest place instr (Compute h.0 h.1 h.2 h.3) h.4 result after (on (place + 1)) found (rw w.after-is next) refl
      ]
      | in-Unlock w ↦
          (let less : IsWeaker after (either (on (place + 1)) rest) = rw (w.after-is, w.either-after.ensures) (either_less c.run_on-next.result rest (on (place + 1)) rest next (within_itself rest)) in
          instr_less d on rest place instr (Unlock w.in-Unlock.field-0) w.in-Unlock.is result after (either (on (place + 1)) rest) found less refl)
      | in-Jump w ↦
          (let target = w.in-Jump.target in
          let there : IsWeaker w.run_on-after.result (on target) = rw (c.more_after-most.ensures, w.from.ensures) at w.run_on-after.ensures in
          instr_less d on rest place instr (Jump target) w.in-Jump.is result after (on target) found (rw w.after-is there) refl)
      | in-JumpIfZero w ↦
          (let target = w.in-JumpIfZero.target in
          let there : IsWeaker w.run_on.result (on target) = rw (c.more_after-most.ensures, w.from-in-JumpIfZero.ensures) at w.run_on.ensures in
          let less : IsWeaker after (either (on target) (on (place + 1))) = rw (w.after-is, w.either-after-in-JumpIfZero.ensures) (either_less w.run_on.result c.run_on-next.result (on target) (on (place + 1)) there next) in
          instr_less d on rest place instr (JumpIfZero w.in-JumpIfZero.value target) w.in-JumpIfZero.is result after (either (on target) (on (place + 1))) found less refl)
      | in-Return w ↦ instr_less d on rest place instr (Return w.in-Return.field-0) w.in-Return.is result after rest found (rw w.after-is (within_itself rest)) refl
      | in-Load2 w ↦
          (let array = w.in-Load.array in
          let index = w.in-Load.index in
          let there = is_certain_cell d array index in
          let o = unless_there there (on (place + 1)) rest in
          let less : IsWeaker after o = rw (w.after-is, w.after_cell-after.ensures) (unless_less there c.run_on-next.result (on (place + 1)) rest next) in
          let all : IsWeaker result (ahead_at d c.args.code.now (outlook_of c.args.known.now) rest place instr) = elim w.in-Load.is [
            | inl h ↦ instr_less d on rest place instr (Load h.0 array index) h.1 result after o found less refl
            | inr h ↦ elim h [
              | inl s ↦ instr_less d on rest place instr (Store array index s.0) s.1 result after o found less refl
              | inr s ↦ instr_less d on rest place instr (Cas s.0 array index s.1 s.2) s.3 result after o found less refl
            ]
          ] in
          all)
    ] in
    all
