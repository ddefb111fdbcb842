use Rattle.std.proofs.Common.{refl, subst}
use Rattle.std.specs.Prelude.{nat_eq}
use Rattle.std.specs.Option.{option_eq}
use Rattle.std.proofs.Common.{◌∙◌}
use Rattle.lu_graph.specs.Numbered.{IsNumber, is_list}
use Rattle.lu_graph.proofs.Numbers.{extends_none}
use Rattle.lu_graph.proofs.row.row_at.Goals as goal

pub returns : goal.returns
returns c =
    let threads = c.in_ok-number_threads.ensures in
    let sized = c.requires in
    record {
      live = threads.live;
      are = threads.are;
      can = record { cells = sized.cells; locks = sized.locks; threads = threads.are.many ∙ sized.threads; stand = threads.stand; in_code = threads.in_code };
      is = record {
        cells = subst (λ xs. IsNumber (is_list nat_eq xs) c.number_of_list.new.table.keys c.in_ok-number_of_list.field-0) c.cells.ensures c.in_ok-number_of_list.ensures.number;
        locks = subst (λ xs. IsNumber (is_list (option_eq nat_eq) xs) c.number_of_list-2.new.table.keys c.in_ok-number_of_list-2.field-0) c.locks.ensures c.in_ok-number_of_list-2.ensures.number;
        threads = threads.have;
      };
      alive = refl;
      grows = record {
        dead = refl;
        cells = c.in_ok-number_of_list.ensures.grows;
        locks = c.in_ok-number_of_list-2.ensures.grows;
        threads = threads.grows;
        alive = extends_none c.args.parts.now.alive.lists.keys;
      };
      same = refl;
    }
