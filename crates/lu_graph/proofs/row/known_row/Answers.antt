use Rattle.std.proofs.Common.{refl, ◌∙◌, subst}
use Rattle.std.specs.Prelude.{nat_eq}
use Rattle.std.specs.Option.{option_eq}
use Rattle.lu_graph.specs.Numbered.{IsNumber, is_list}
use Rattle.lu_graph.proofs.Same.{grow_none}
use Rattle.lu_graph.proofs.row.known_row.Goals as goal

pub returns : goal.returns
returns c =
    let threads = c.in_ok-known_threads.ensures in
    let sized = c.requires in
    let parts = c.args.parts.now in
    record {
      live = threads.live;
      are = threads.are;
      can = record { cells = sized.cells; locks = sized.locks; threads = threads.are.many ∙ sized.threads; stand = threads.stand; in_code = threads.in_code };
      is = record {
        cells = subst (λ xs. IsNumber (is_list nat_eq xs) parts.cells.keys c.in_ok-known_number.field-0) c.cells.ensures c.in_ok-known_number.ensures;
        locks = subst (λ xs. IsNumber (is_list (option_eq nat_eq) xs) parts.locks.keys c.in_ok-known_number-2.field-0) c.locks.ensures c.in_ok-known_number-2.ensures;
        threads = threads.have;
      };
      alive = refl;
      grows = grow_none parts;
      same = refl;
    }
