use Rattle.std.proofs.Common.{◌≡◌, false, ◌+◌, length, ap, ◌∙◌, arith, rules}
use Rattle.std.proofs.lemmas.List.{length_push, length-set}
use Rattle.lu_judge.specs.declared.path.Beginning.{Beginning}
use Rattle.lu_judge.proofs.Moving.{added_back, added_links, added_history, added_well, added_right}
use Rattle.lu_judge.proofs.path.Path.add.Goals as goal

pub returns-clause-path : goal.returns-clause-path
returns-clause-path c =
    let p = c.args.self.now in
    let bs = p.beginnings.items in
    let xs = c.push_reserved.new.self.items in
    let long : c.len-added.result ≡ length bs = search rules in
    let more : length xs ≡ length bs + 1 = ap length c.push_reserved.ensures.items ∙ length_push bs (record { event = c.args.event; shorter = p.number; next = c.index.result.now.longer; longer = 0; good = false }) in
    let r = c.index_mut.result.now in
    let first : Beginning = record { event = r.event; shorter = r.shorter; next = r.next; longer = c.len-added.result; good = r.good } in
    let back = added_back bs xs p.number c.len-added.result c.args.event c.index.result.now c.index_mut.result.now c.requires.path.number c.requires.path.back c.requires.path.links c.index.ensures c.push_reserved.ensures.items long c.index_mut.ensures.value in
    let links = added_links bs xs p.number c.len-added.result c.args.event c.index.result.now c.index_mut.result.now c.requires.path.number c.requires.path.back c.requires.path.links c.index.ensures c.push_reserved.ensures.items long c.index_mut.ensures.value in
    let well = added_well bs xs p.number c.len-added.result c.args.event c.index.result.now c.index_mut.result.now c.requires.path.number c.requires.path.back c.requires.path.links c.index.ensures c.push_reserved.ensures.items long c.index_mut.ensures.value c.requires.path.well_formed c.requires.fits in
    record {
      room = omega (arith, c.push_reserved.ensures.capacity, c.requires.path.room);
      few = omega (arith, more, c.requires.room, length-set xs p.number first);
      number = omega (arith, more, long, length-set xs p.number first);
      back = back;
      links = links;
      well_formed = well;
    }

pub returns-clause-history : goal.returns-clause-history
returns-clause-history c =
    let p = c.args.self.now in
    let long : c.len-added.result ≡ length p.beginnings.items = search rules in
    added_history p.beginnings.items c.push_reserved.new.self.items p.number c.len-added.result c.args.event c.index.result.now c.index_mut.result.now c.requires.path.number c.requires.path.back c.requires.path.links c.index.ensures c.push_reserved.ensures.items long c.index_mut.ensures.value

pub returns-clause-good : goal.returns-clause-good
returns-clause-good c =
    let p = c.args.self.now in
    let long : c.len-added.result ≡ length p.beginnings.items = search rules in
    added_right p.beginnings.items c.push_reserved.new.self.items p.number c.len-added.result c.args.event c.index.result.now c.index_mut.result.now c.requires.path.number c.requires.path.back c.requires.path.links c.index.ensures c.push_reserved.ensures.items long c.index_mut.ensures.value
