use Rattle.std.proofs.Common.{◌≡◌, ◌++◌, string_bytes, take}
use Rattle.lu_lint.specs.Messages.{remarks_text}
use Rattle.lu_lint.proofs.writing.write_remarks.Given as goal

abbrev pub invariant-loop-remark : goal.invariant-loop-remark
invariant-loop-remark l =
    string_bytes l.text ≡ string_bytes l.fn.text ++ remarks_text (take l.remark-index l.remarks)
