use Rattle.std.proofs.Common.{refl, ap, sym, ◌∙◌, not, rules}
use Rattle.lu_trie.proofs.Kids.{branches-set, branches-insert, full-at, one_not_empty}
use Rattle.lu_trie.proofs.Membership.{node-at, node-gap, node-empty}
use Rattle.lu_trie.proofs.Insertions.{kept_full, label-read, on_ok, adds-set, adds-insert}
use Rattle.lu_trie.specs.Branches.{members_from}
use Rattle.lu_trie.proofs.Serial.{serial_rest, serial_adds, serial_ends, kept_serial, on_err, set_same}
use Rattle.lu_trie.proofs.trie.Trie.+insert.Goals as goal

pub invariant_of-self-in-Ok : goal.invariant_of-self-in-Ok
invariant_of-self-in-Ok g t c =
    let kids = c.self.inside.kids.items in
    let at = rw c.deref.ensures.value at c.in-Ok.ensures.found in
    let read = c.index_mut.result.now in
    let label = label-read kids _ c.in-Ok.i read at c.index_mut.ensures.value in
    let full = full-at kids c.in-Ok.i read at.in_range c.self.invariant.are.full in
    let kept = kept_full c.insert.result read.1 c.insert.new.self _ c.insert.ensures.ok c.insert.ensures.err (rw c.index_mut.ensures.value full) in
    let h = c.args.history.now in
    record {
      are = branches-set kids c.in-Ok.i _ at.in_range (label ∙ sym (at.has_label _)) kept c.self.invariant.are;
      serial = kept_serial c.insert.result (members_from c.self.inside.ends kids) _ h c.requires c.self.invariant.serial
          (on_ok c.insert.result (adds-set c.self.inside.ends kids h _ c.in-len1-up.len_at_least c.in-Ok.i _ read c.index_mut.ensures.value at label) c.insert.ensures.ok)
          (on_err c.insert.result (set_same c.self.inside.ends kids c.in-Ok.i read c.insert.new.self c.index_mut.ensures.value) c.insert.ensures.err);
    }

pub invariant_of-self-in-Err : goal.invariant_of-self-in-Err
invariant_of-self-in-Err g t c =
    let gap = rw c.deref.ensures.value at c.in-Err.ensures.absent in
    let kids = c.self.inside.kids.items in
    rw c.in_ok-insert-in-Err.ensures.items record {
      are = branches-insert kids c.in-Err.i _ gap (one_not_empty _ _ c.in_ok-below-in-Err.ensures) c.self.invariant.are;
      serial = serial_adds (members_from c.self.inside.ends kids) _ c.args.history.now c.requires c.self.invariant.serial (adds-insert c.self.inside.ends kids c.args.history.now _ c.in-len1-up.len_at_least c.in-Err.i _ refl c.in_ok-below-in-Err.ensures);
    }

pub insert-requires : goal.insert-requires
insert-requires g t c κs within = (search rules, (within, serial_rest c.args.history.now c.requires))

pub of_one-requires : goal.of_one-requires
of_one-requires g t c = serial_rest c.args.history.now c.requires

pub returns-in-empty-clause-fresh : goal.returns-in-empty-clause-fresh
returns-in-empty-clause-fresh g t c = ap not (sym (rw (← c.self.view_is) (node-empty c.self.inside.ends c.self.inside.kids.items c.args.history.now c.in-empty.len_below)))

pub returns-in-Ok-clause-ok : goal.returns-in-Ok-clause-ok
returns-in-Ok-clause-ok g t c =
    let kids = c.self.inside.kids.items in
    let at = rw c.deref.ensures.value at c.in-Ok.ensures.found in
    let read = c.index_mut.result.now in
    let label = label-read kids _ c.in-Ok.i read at c.index_mut.ensures.value in
    rw (← c.self.view_is) (on_ok c.insert.result (adds-set c.self.inside.ends kids c.args.history.now _ c.in-len1-up.len_at_least c.in-Ok.i _ read c.index_mut.ensures.value at label) c.insert.ensures.ok)

pub returns-in-Ok-clause-fresh : goal.returns-in-Ok-clause-fresh
returns-in-Ok-clause-fresh g t c =
    let at = rw c.deref.ensures.value at c.in-Ok.ensures.found in
    let whole = node-at c.self.inside.ends c.self.inside.kids.items c.args.history.now _ c.in-len1-up.len_at_least c.self.invariant.are c.in-Ok.i at c.index_mut.result.now c.index_mut.ensures.value in
    rw (← c.self.view_is, whole) c.insert.ensures.fresh

pub returns-in_ok-insert-in-Err-clause-ok : goal.returns-in_ok-insert-in-Err-clause-ok
returns-in_ok-insert-in-Err-clause-ok g t c =
    rw (← c.self.view_is, c.in_ok-insert-in-Err.ensures.items) (adds-insert c.self.inside.ends c.self.inside.kids.items c.args.history.now _ c.in-len1-up.len_at_least c.in-Err.i _ refl c.in_ok-below-in-Err.ensures)

pub returns-in_ok-insert-in-Err-clause-fresh : goal.returns-in_ok-insert-in-Err-clause-fresh
returns-in_ok-insert-in-Err-clause-fresh g t c =
    let gap = rw c.deref.ensures.value at c.in-Err.ensures.absent in
    rw (← c.self.view_is, node-gap c.self.inside.ends c.self.inside.kids.items c.args.history.now _ c.in-len1-up.len_at_least _ gap) refl

pub invariant_of-self : goal.invariant_of-self
invariant_of-self g t c = record { are = c.self.invariant.are; serial = serial_ends c.self.inside.ends c.self.inside.kids.items c.self.invariant.serial }
