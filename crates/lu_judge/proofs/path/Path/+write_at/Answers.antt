use Rattle.std.proofs.Common.{◌≡◌, ◌≢◌, ◌<◌, ◌+◌, length, ap, ◌∙◌, arith, rules}
use Rattle.std.proofs.lemmas.List.{length_push}
use Rattle.lu_judge.specs.Paths.{history_at}
use Rattle.lu_judge.proofs.Moving.{found_at, shorter_lower, shorter_history}
use Rattle.lu_judge.proofs.path.Path.+write_at.Goals as goal

pub write_at-requires : goal.write_at-requires
write_at-requires t c =
    let bs = c.args.self.now.beginnings.items in
    let b = c.index-beginning.result.now in
    let ne : c.args.number ≢ 0 = search rules in
    let at = found_at bs c.args.number b c.requires.number c.index-beginning.ensures in
    let lt : b.shorter < c.args.number = shorter_lower bs c.requires.path.back c.args.number b ne at in
    let one : length (history_at bs c.args.number) ≡ length (history_at bs b.shorter) + 1 = ap length (shorter_history bs c.requires.path.back c.args.number b ne at) ∙ length_push (history_at bs b.shorter) b.event in
    (search (rules, lt), (c.requires.path, (omega (arith, lt, c.requires.number), omega (arith, one, c.requires.few))))

pub push-requires : goal.push-requires
push-requires t c =
    let bs = c.args.self.now.beginnings.items in
    let b = c.index-beginning.result.now in
    let ne : c.args.number ≢ 0 = search rules in
    let at = found_at bs c.args.number b c.requires.number c.index-beginning.ensures in
    let one : length (history_at bs c.args.number) ≡ length (history_at bs b.shorter) + 1 = ap length (shorter_history bs c.requires.path.back c.args.number b ne at) ∙ length_push (history_at bs b.shorter) b.event in
    omega (arith, one, c.requires.few, ap length c.write_at.ensures)

pub returns : goal.returns
returns t c =
    let bs = c.args.self.now.beginnings.items in
    let b = c.index-beginning.result.now in
    let ne : c.args.number ≢ 0 = search rules in
    let at = found_at bs c.args.number b c.requires.number c.index-beginning.ensures in
    search (rules, shorter_history bs c.requires.path.back c.args.number b ne at)
