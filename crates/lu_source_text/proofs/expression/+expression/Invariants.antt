use Rattle.std.proofs.Common.{◌+◌, ◌*◌}
use Rattle.lu_source_text.proofs.expression.+expression.Given as goal

abbrev pub decreases-expr_from : goal.decreases-expr_from
decreases-expr_from l = 6 * l.steps

abbrev pub decreases-infix_from : goal.decreases-infix_from
decreases-infix_from l = 6 * l.steps

abbrev pub decreases-closed_with : goal.decreases-closed_with
decreases-closed_with l = 6 * l.steps + 1

abbrev pub decreases-cell_with : goal.decreases-cell_with
decreases-cell_with l = 6 * l.steps + 2

abbrev pub decreases-name_with : goal.decreases-name_with
decreases-name_with l = 6 * l.steps + 3

abbrev pub decreases-swap_with : goal.decreases-swap_with
decreases-swap_with l = 6 * l.steps + 2

abbrev pub decreases-fetch_with : goal.decreases-fetch_with
decreases-fetch_with l = 6 * l.steps + 2

abbrev pub decreases-call_with : goal.decreases-call_with
decreases-call_with l = 6 * l.steps + 4

abbrev pub decreases-plain_with : goal.decreases-plain_with
decreases-plain_with l = 6 * l.steps + 4

abbrev pub decreases-unary_with : goal.decreases-unary_with
decreases-unary_with l = 6 * l.steps + 5
