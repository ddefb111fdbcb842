use Rattle.std.proofs.Common.{rules, arith, ◌≡◌, ◌∙◌, ◌-◌, ℕ, get_or, refl, sym, ap}
use Rattle.std.proofs.lemmas.List.{get_or_past, length-set}
use Rattle.lu_spec.proofs.Rooms.{none_first, fits_first}
use Rattle.lu_spec.proofs.fitting.+fits_in.Goals.{then-thread-ge-MOST_THREADS-via-then-thread-ge-MOST_THREADS, then-thread-ge-MOST_THREADS-via-else-thread-ge-MOST_THREADS+then-left-thread-eq0}
use Rattle.lu_spec.proofs.fitting.+fits_in.Goals as goal

pub returns-then-thread-ge-MOST_THREADS : goal.returns-then-thread-ge-MOST_THREADS
returns-then-thread-ge-MOST_THREADS t c =
    let none : get_or c.args.left c.from-thread.result 0 ≡ 0 = elim c.then-thread-ge-MOST_THREADS.branch [
      | then-thread-ge-MOST_THREADS-via-then-thread-ge-MOST_THREADS w ↦ get_or_past c.args.left c.from-thread.result 0 (omega (arith, w.if-thread-ge-MOST_THREADS.true, c.requires))
      | then-thread-ge-MOST_THREADS-via-else-thread-ge-MOST_THREADS+then-left-thread-eq0 w ↦ w.if-left-thread-eq0.true
    ] in
    (λ is. absurd cc, λ fits. absurd (none_first c.args.left c.args.history.now _ c.in-len1-up.len_at_least (ap (λ (i : ℕ). get_or c.args.left i 0) (sym c.from-thread.ensures) ∙ none) fits))

pub fits_in-requires : goal.fits_in-requires
fits_in-requires t c = (search rules, length-set c.args.left c.from-thread.result (get_or c.args.left c.from-thread.result 0 - 1) ∙ c.requires)

pub returns-else-left-thread-eq0 : goal.returns-else-left-thread-eq0
returns-else-left-thread-eq0 t c = fits_first c.args.left _ c.args.history.now _ _ c.from-thread.result c.fits_in.result c.in-len1-up.len_at_least c.from-thread.ensures (omega (arith, c.requires)) c.if-left-thread-eq0.false refl refl c.fits_in.ensures
