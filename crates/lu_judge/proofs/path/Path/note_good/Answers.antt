use Rattle.std.proofs.Common.{true, sym, refl, subst, arith}
use Rattle.std.proofs.lemmas.List.{length-set}
use Rattle.lu_history.specs.Histories.{IsWellFormed}
use Rattle.lu_judge.specs.declared.path.Beginning.{Beginning}
use Rattle.lu_judge.proofs.Linking.{set_history, set_back, set_links, set_right}
use Rattle.lu_judge.proofs.Moving.{found_at}
use Rattle.lu_judge.proofs.path.Path.note_good.Goals as goal

pub returns-clause-path : goal.returns-clause-path
returns-clause-path c =
    let p = c.args.self.now in
    let bs = p.beginnings.items in
    let b = c.index_mut.result.now in
    let marked : Beginning = record { event = b.event; shorter = b.shorter; next = b.next; longer = b.longer; good = true } in
    let at = found_at bs p.number b c.requires.number c.index_mut.ensures.value in
    let own = c.requires.links p.number b at in
    record {
      room = c.requires.room;
      few = omega (arith, c.requires.few, length-set bs p.number marked);
      number = omega (arith, c.requires.number, length-set bs p.number marked);
      back = set_back bs p.number b marked at refl refl c.requires.back;
      links = set_links bs p.number b marked at refl refl c.requires.links record { lower = own.lower; beside = own.beside; above = own.above };
      well_formed = subst IsWellFormed (sym (set_history bs p.number b marked at refl refl p.number)) c.requires.well_formed;
    }

pub returns-clause-history : goal.returns-clause-history
returns-clause-history c =
    let p = c.args.self.now in
    let b = c.index_mut.result.now in
    set_history p.beginnings.items p.number b (record { event = b.event; shorter = b.shorter; next = b.next; longer = b.longer; good = true }) (found_at p.beginnings.items p.number b c.requires.number c.index_mut.ensures.value) refl refl p.number

pub returns-clause-good : goal.returns-clause-good
returns-clause-good c = λ members right good.
    let p = c.args.self.now in
    let b = c.index_mut.result.now in
    set_right p.beginnings.items p.number b (record { event = b.event; shorter = b.shorter; next = b.next; longer = b.longer; good = true }) (found_at p.beginnings.items p.number b c.requires.number c.index_mut.ensures.value) refl refl members right (λ _. good)
