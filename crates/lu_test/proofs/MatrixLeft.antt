-- What a line with a fault leaves of a matrix keeps the limits, and its calls are the component's.
use Rattle.std.proofs.Common.{◌≡◌, ℕ, ◌+◌, ◌≤◌, Bool, true, false, cond, List, [], ◌∷◌, ◌++◌, length, Some, refl, arith}
use Rattle.std.specs.Prelude.{◌&&◌, nat_le, All, sum_by, codes}
use Rattle.std.specs.Str.{bytes_eq}
use Rattle.std.proofs.lemmas.Bool.{leb-false}
use Rattle.std.proofs.lemmas.List.{length-append}
use Rattle.std.proofs.lemmas.List.Elements.{All-nil}
use Rattle.std.proofs.lemmas.List.Sums.{sum_by-append}
use Rattle.lu_text.specs.Words.{Word}
use Rattle.lu_text.proofs.Written.{All-last}
use Rattle.lu_component.specs.Component.{Component}
use Rattle.lu_test.specs.declared.matrix.Call.{Call}
use Rattle.lu_test.specs.Matrix.{AreArguments, AreThreads, IsOf, IsCallOf}
use Rattle.lu_test.specs.MatrixText.{MatrixDraft, HasRoom, IsDraft, is_nothing, matrix_of, parts_in}
use Rattle.lu_test.specs.MatrixGoing.{with_empty, mend_parts, mend}

-- the limits hold, and the calls are the component's
pub record IsKept (c : Component) (draft : MatrixDraft) : Type 0 where
  pub limits : IsDraft draft
  pub fits : IsOf (matrix_of draft) c

empty_kept : (c : Component) (d : MatrixDraft) → IsKept c d → (b : Bool) → nat_le 8 (length d.threads) ≡ b → IsKept c (cond b d (record d { threads = d.threads ++ [] ∷ [] }))
empty_kept c d h true e = h
empty_kept c d h false e =
    let threads = d.threads in
    let none : List Call = [] in
    let room = leb-false 8 (length threads) e in
    let longer : length (threads ++ none ∷ []) ≡ length threads + 1 = simp length-append in
    let sum : sum_by length (threads ++ none ∷ []) ≡ sum_by length threads = rw (sum_by-append length threads (none ∷ [])) (omega arith) in
    let limits : AreThreads (threads ++ none ∷ []) = record {
      few = omega (arith, room, longer);
      each = All-last (λ calls. length calls ≤ 8) threads none h.limits.0.each (omega arith);
      calls = omega (arith, sum, h.limits.0.calls);
      arguments = All-last (λ calls. All (λ call. AreArguments call.args) calls) threads none h.limits.0.arguments (All-nil (λ call. AreArguments call.args));
    } in
    record {
      limits = (limits, h.limits.1);
      fits = (h.fits.0, All-last (λ calls. All (IsCallOf c) calls) threads none h.fits.1 (All-nil (IsCallOf c)));
    }

parts_kept : (c : Component) (d : MatrixDraft) → IsKept c d → (parts : List (List Word)) → IsKept c (mend_parts d parts)
parts_kept c d h [] = h
parts_kept c d h ([] ∷ []) = h
parts_kept c d h ([] ∷ part ∷ parts) = empty_kept c d h (nat_le 8 (length d.threads)) refl
parts_kept c d h ((word ∷ words) ∷ parts) = go (bytes_eq word (codes "setup") && is_nothing d)
  where
    go : (b : Bool) → IsKept c (cond b (record d { setup = Some [] }) (with_empty d))
    go true = record {
      limits = (h.limits.0, record { few = omega arith; arguments = All-nil (λ call. AreArguments call.args) });
      fits = (All-nil (IsCallOf c), h.fits.1);
    }
    go false = empty_kept c d h (nat_le 8 (length d.threads)) refl

-- there is room still
empty_room : (d : MatrixDraft) → HasRoom d → (b : Bool) → HasRoom (cond b d (record d { threads = d.threads ++ [] ∷ [] }))
empty_room d h true = h
empty_room d h false =
    let none : List Call = [] in
    let sum : sum_by length (d.threads ++ none ∷ []) ≡ sum_by length d.threads = rw (sum_by-append length d.threads (none ∷ [])) (omega arith) in
    omega (arith, h, sum)

parts_room : (d : MatrixDraft) → HasRoom d → (parts : List (List Word)) → HasRoom (mend_parts d parts)
parts_room d h [] = h
parts_room d h ([] ∷ []) = h
parts_room d h ([] ∷ part ∷ parts) = empty_room d h (nat_le 8 (length d.threads))
parts_room d h ((word ∷ words) ∷ parts) = go (bytes_eq word (codes "setup") && is_nothing d)
  where
    go : (b : Bool) → HasRoom (cond b (record d { setup = Some [] }) (with_empty d))
    go true = h
    go false = empty_room d h (nat_le 8 (length d.threads))

pub mend_room : (d : MatrixDraft) → HasRoom d → (line : List ℕ) → HasRoom (mend d line)
mend_room d h line = parts_room d h (parts_in line)

pub mend_kept : (c : Component) (d : MatrixDraft) → IsKept c d → (line : List ℕ) → IsKept c (mend d line)
mend_kept c d h line = parts_kept c d h (parts_in line)
