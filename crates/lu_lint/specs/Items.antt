-- What a vector holds that is handed out where there is memory.
use Rattle.std.specs.Prelude.{◌≡◌, List, ◌++◌, Result, IfOk, Vec}

-- where it succeeds, its items are those of before, and these after them
abbrev pub Extends : {T E Y Z : Type 0} → Result (Vec T Z) E → Vec T Y → List T → Type 0
Extends result before items = IfOk result (λ v. v.items ≡ before.items ++ items)
