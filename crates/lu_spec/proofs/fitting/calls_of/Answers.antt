use Rattle.std.proofs.Common.{arith, ◌≡◌, ◌<◌, ℕ, length, get_or, set, refl, sym, ap, ◌∙◌, inl, inr}
use Rattle.std.proofs.lemmas.Bool.{cases_lt}
use Rattle.std.proofs.lemmas.List.{get_or-set_same, get_or-set_other, length-set}
use Rattle.lu_test.specs.Matrix.{calls_of}
use Rattle.lu_spec.proofs.Rooms.{all_zero, calls_past}
use Rattle.lu_spec.proofs.fitting.calls_of.Goals as goal

pub loop-t-init : goal.loop-t-init
loop-t-init c = record {
  size = refl;
  made = λ t below. absurd (omega arith);
  others = λ t above. all_zero 8 t;
}

pub loop-t-preserved : goal.loop-t-preserved
loop-t-preserved c =
    let within : c.from.result < length c.loop-t.calls = omega (arith, c.loop-t.invariant.size, c.from.ensures, c.threads-t-end.ensures.threads, c.threads-t-end.ensures.sound.limits.few) in
    record {
      size = length-set c.loop-t.calls c.from.result c.calls.result ∙ c.loop-t.invariant.size;
      made = λ t below. elim (cases_lt t c.loop-t.t) [
        | inl less ↦ get_or-set_other c.loop-t.calls c.from.result t c.calls.result 0 (λ e. absurd (omega (arith, c.from.ensures))) ∙ c.loop-t.invariant.made t less
        | inr least ↦
            let here : t ≡ c.from.result = omega (arith, c.from.ensures) in
            let number : t ≡ c.loop-t.t = omega arith in
            ap (λ (i : ℕ). get_or (set c.loop-t.calls c.from.result c.calls.result) i 0) here ∙ (get_or-set_same c.loop-t.calls c.from.result c.calls.result 0 within ∙ (c.calls.ensures ∙ ap (λ (i : ℕ). length (calls_of c.args.matrix.now i)) (sym number)))
      ];
      others = λ t above. get_or-set_other c.loop-t.calls c.from.result t c.calls.result 0 (λ e. absurd (omega (arith, c.from.ensures))) ∙ c.loop-t.invariant.others t (omega arith);
    }

pub returns-clause-calls : goal.returns-clause-calls
returns-clause-calls c = λ t. elim (cases_lt t c.loop-t.t) [
  | inl less ↦ c.loop-t.invariant.made t less
  | inr least ↦ c.loop-t.invariant.others t least ∙ sym (calls_past c.args.matrix.now t (omega (arith, c.threads-t-end.ensures.threads)))
]
