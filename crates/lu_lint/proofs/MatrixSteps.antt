-- Going on after the faults of a matrix.
use Rattle.std.proofs.Common.{◌≡◌, ℕ, ◌+◌, List, [], ◌∷◌, ◌++◌, append-nil, Option, Some, None, Result, Ok, Err, refl, sym, ap, subst, ◌∙◌}
use Rattle.lu_component.specs.Component.{Component, IsComponent}
use Rattle.lu_test.specs.declared.matrix_fault.MatrixFaultKind.{MatrixFaultKind}
use Rattle.lu_test.specs.MatrixText.{MatrixDraft, HasRoom, finished, line_of, nothing}
use Rattle.lu_test.specs.Signatures.{Signature, signatures}
use Rattle.lu_text.specs.Faults.{fault_in, going_on}
use Rattle.lu_test.proofs.Threads.{line_fits, line_limits, line_room, nothing_fits, nothing_limits}
use Rattle.lu_test.proofs.MatrixLeft.{IsKept, mend_kept, mend_room}
use Rattle.lu_lint.specs.declared.remark.Said.{Said}
use Rattle.lu_lint.specs.Said.{said_faults}
use Rattle.lu_lint.specs.declared.remark.FaultKind.TheVariants as part
use Rattle.lu_lint.specs.declared.remark.Position.{Position}
use Rattle.lu_lint.specs.Lint as lint
use Rattle.lu_lint.specs.Lint.{end_messages, line_messages, messages_beside, faults_after, with_words}
use Rattle.lu_lint.proofs.Going as lines
use Rattle.lu_lint.specs.Matrix.{FitsBy, LeavesDraft, fault_said, left_by, line_read, matrix_lint, matrix_mend}

-- there is room still after a line
pub room_kept : (all : List Signature) (d d1 next : MatrixDraft) (fault : Option MatrixFaultKind) (line : List ℕ) → HasRoom d → (d1, fault) ≡ going_on d (line_of all d line) → next ≡ left_by d1 line fault → HasRoom next
room_kept all d d1 next fault line room e left = go (line_of all d line) refl e
  where
    go : (r : Result MatrixDraft MatrixFaultKind) → line_of all d line ≡ r → (d1, fault) ≡ going_on d r → HasRoom next
    go (Ok y) read f =
        let same : d1 ≡ y = ap (λ (x : MatrixDraft × Option MatrixFaultKind). x.0) f in
        let none : fault ≡ None = ap (λ (x : MatrixDraft × Option MatrixFaultKind). x.1) f in
        rw (left, none, same) (line_room all d room line y read)
    go (Err k) read f =
        let same : d1 ≡ d = ap (λ (x : MatrixDraft × Option MatrixFaultKind). x.0) f in
        let some : fault ≡ Some k = ap (λ (x : MatrixDraft × Option MatrixFaultKind). x.1) f in
        rw (left, some, same) (mend_room d room line)

-- the limits hold of what a line leaves
step_kept : (c : Component) → IsComponent c → (d d1 next : MatrixDraft) (fault : Option MatrixFaultKind) (line : List ℕ) → IsKept c d → (d1, fault) ≡ going_on d (line_of (signatures c.operations) d line) → next ≡ left_by d1 line fault → IsKept c next
step_kept c is d d1 next fault line kept e left = go (line_of (signatures c.operations) d line) refl e
  where
    go : (r : Result MatrixDraft MatrixFaultKind) → line_of (signatures c.operations) d line ≡ r → (d1, fault) ≡ going_on d r → IsKept c next
    go (Ok y) read f =
        let same : d1 ≡ y = ap (λ (x : MatrixDraft × Option MatrixFaultKind). x.0) f in
        let none : fault ≡ None = ap (λ (x : MatrixDraft × Option MatrixFaultKind). x.1) f in
        rw (left, same, none) (record { limits = line_limits c is d kept.limits kept.fits line y read; fits = line_fits c is d kept.limits kept.fits line y read })
    go (Err k) read f =
        let same : d1 ≡ d = ap (λ (x : MatrixDraft × Option MatrixFaultKind). x.0) f in
        let some : fault ≡ Some k = ap (λ (x : MatrixDraft × Option MatrixFaultKind). x.1) f in
        rw (left, same, some) (mend_kept c d kept line)

-- and the calls are those of the component whose signatures these are
pub fits_kept : (all : List Signature) (d d1 next : MatrixDraft) (fault : Option MatrixFaultKind) (line : List ℕ) → FitsBy all d → (d1, fault) ≡ going_on d (line_of all d line) → next ≡ left_by d1 line fault → FitsBy all next
fits_kept all d d1 next fault line fits e left c is same =
    let before = fits c is same in
    let kept = step_kept c is d d1 next fault line (record { limits = before.0; fits = before.1 }) (subst (λ (xs : List Signature). (d1, fault) ≡ going_on d (line_of xs d line)) same e) left in
    (kept.limits, kept.fits)

both : (p : MatrixDraft × Option MatrixFaultKind) → (p.0, p.1) ≡ p
both (d, fault) = refl

-- a line that was read went on to a draft, and left one by its fault
pub as_read : (all : List Signature) (at : Position) (d : MatrixDraft) (line : List ℕ) (before now : List Said) (next : MatrixDraft) (fault : Option MatrixFaultKind) → LeavesDraft all at d line before now next fault
    → (d1 : MatrixDraft) × ((d1, fault) ≡ going_on d (line_of all d line)) × (next ≡ left_by d1 line fault) × (now ≡ before ++ fault_said at fault)
as_read all at d line before now next fault h =
    let r = line_read all d line in
    let same = sym h.fault_is in
    (r.0, ap (λ (k : Option MatrixFaultKind). (r.0, k)) h.fault_is ∙ both r, h.left_is ∙ ap (λ (k : Option MatrixFaultKind). left_by r.0 line k) same, h.said ∙ ap (λ (k : Option MatrixFaultKind). before ++ fault_said at k) same)

-- no line is read yet
pub nothing_by : (all : List Signature) → FitsBy all nothing
nothing_by all c is same = (nothing_limits, nothing_fits c)

-- nothing is reported beside the fault of a line
alone : (all : List Signature) (seen : List ℕ) (n : ℕ) (d : MatrixDraft) (line : List ℕ) (lines : List (List ℕ)) (fault : Option MatrixFaultKind) (above : ℕ) (before : List Said) → before ++ said_faults part.Matrix above (messages_beside (matrix_lint all) seen n d line lines fault) ≡ before
alone all seen n d line lines None above before = append-nil before
alone all seen n d line lines (Some kind) above before = append-nil before

-- what stands after the line says nothing of what it leaves
pub left_same : (d : MatrixDraft) (line : List ℕ) (lines : List (List ℕ)) (fault : Option MatrixFaultKind) → left_by d line fault ≡ lint.left_by matrix_mend d line lines fault
left_same d line lines None = refl
left_same d line lines (Some kind) = refl

-- a fault is said of its line
said_here : (all : List Signature) (at : Position) (d : MatrixDraft) (line : List ℕ) (fault : Option MatrixFaultKind) → fault_said at fault ≡ said_faults part.Matrix at.above (line_messages (matrix_lint all) at.seen.items at.line d line fault)
said_here all at d line None = refl
said_here all at d line (Some kind) = refl

said_at_end : (at : Position) (fault : Option MatrixFaultKind) → fault_said at fault ≡ said_faults part.Matrix at.above (end_messages at.seen.items at.line [] fault)
said_at_end at None = refl
said_at_end at (Some kind) = refl

-- the fault of a line is said, where it has one, and the rest is read from the draft that it leaves
pub goes_on : (all : List Signature) (at : Position) (d d1 next : MatrixDraft) (fault : Option MatrixFaultKind) (line : List ℕ) (rest : List (List ℕ)) (before now total : List Said)
    → (d1, fault) ≡ going_on d (line_of all d line) → next ≡ left_by d1 line fault → now ≡ before ++ fault_said at fault
    → before ++ said_faults part.Matrix at.above (faults_after (matrix_lint all) at.seen.items at.line d (line ∷ rest)) ≡ total → now ++ said_faults part.Matrix at.above (faults_after (matrix_lint all) (with_words at.seen.items at.line line) (at.line + 1) next rest) ≡ total
goes_on all at d d1 next fault line rest before now total e left more so_far =
    let l = matrix_lint all in
    let here = before ++ said_faults part.Matrix at.above (line_messages l at.seen.items at.line d1 line fault) in
    let others = said_faults part.Matrix at.above (faults_after l (with_words at.seen.items at.line line) (at.line + 1) next rest) in
    let is : now ≡ here = more ∙ ap (λ (x : List Said). before ++ x) (said_here all at d1 line fault) in
    ap (λ (x : List Said). x ++ others) (is ∙ sym (alone all at.seen.items at.line d1 line rest fault at.above here))
    ∙ lines.goes_on l part.Matrix at.above at.seen.items at.line d d1 next fault line rest rest before total e (left ∙ left_same d1 line rest fault) refl so_far

-- no line is left
pub is_done : (all : List Signature) (at : Position) (n : ℕ) (d : MatrixDraft) (before now total : List Said)
    → n ≡ at.line → now ≡ before ++ fault_said at (fault_in (finished d)) → before ++ said_faults part.Matrix at.above (faults_after (matrix_lint all) at.seen.items n d []) ≡ total → now ≡ total
is_done all at n d before now total e more so_far =
    let fault = fault_in (finished d) in
    more
    ∙ (ap (λ (x : List Said). before ++ x) (said_at_end at fault)
    ∙ lines.is_done (matrix_lint all) part.Matrix at.above at.seen.items n at.line d fault before total e (λ r. lines.matrix_end at.seen.items n [] fault (finished d) r refl) so_far)
