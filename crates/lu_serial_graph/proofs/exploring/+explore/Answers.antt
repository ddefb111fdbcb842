use Rattle.std.proofs.Common.{rules, ◌≡◌, ◌↔◌, ◌+◌, ◌<◌, [], true, false, length, refl, sym, ◌∙◌, ap, subst, ◌-◌}
use Rattle.lu_machine.specs.declared.position.Position.{Position}
use Rattle.lu_machine.specs.States.{State}
use Rattle.lu_machine.specs.Steps.{picks_of}
use Rattle.lu_trie.proofs.Kids.{no_branches}
use Rattle.lu_serial_graph.specs.declared.answering.Answer.{Answer}
use Rattle.lu_serial_graph.specs.Graphs.{HoldsFrom}
use Rattle.lu_serial_graph.specs.Playing.{IsAmong, state_at}
use Rattle.lu_serial_graph.specs.Answers.{IsAnswer, MayCall}
use Rattle.lu_serial_graph.specs.Exploring.{IsKept, IsKnown, IsReached, is_stuck, Entry}
use Rattle.lu_serial_graph.proofs.FlatGraphs.{grown_same}
use Rattle.lu_serial_graph.proofs.Sifting.{stands_here}
use Rattle.lu_serial_graph.proofs.Explored.{KnownAll, all_kept, all_more, all_moved, first_among, grown_on, leaf_known, leaf_serial, may_call, asked_offends, members_serial, node_known, not_over, offends_same, reached_after, recalled, same_call, stage_more, stage_none, stage_skip}
use Rattle.lu_serial_graph.proofs.exploring.+explore.Goals as goal

pub push_node-requires-clause-branches : goal.push_node-requires-clause-branches
push_node-requires-clause-branches g t c = no_branches

pub push_node-requires-clause-serial : goal.push_node-requires-clause-serial
push_node-requires-clause-serial g t c = leaf_serial

pub returns-then-stuck : goal.returns-then-stuck
returns-then-stuck g t c =
    let old = c.args.search.now in
    let x = old.machine.component in
    let m = old.machine.matrix in
    let holds : HoldsFrom old.table true [] c.push_node.new.self c.in_ok-place.place = search rules in
    rw c.if-stuck.true (record {
      component = refl;
      matrix = refl;
      bound = refl;
      grows = c.in_ok-place.ensures.grows;
      known = all_more x m old.bound old.table c.push_node.new.self old.known.entries c.in_ok-place.ensures.grows c.requires.known;
      here = leaf_known x m old.bound old.table c.push_node.new.self c.args.rests.positions.items c.in_ok-place.place c.in_ok-place.ensures.place holds;
    })

pub returns-in-Some : goal.returns-in-Some
returns-in-Some g t c =
    let old = c.args.search.now in
    let kept : IsKept old.known.entries c.args.rests c.in-Some.place = c.in-Some.ensures in
    let k : Entry = kept.0 in
    rw c.if-stuck.false (record {
      component = refl;
      matrix = refl;
      bound = refl;
      grows = grown_same old.table;
      known = c.requires.known;
      here = recalled old.machine.component old.machine.matrix old.bound old.table c.args.rests.positions.items k.0.positions.items c.in-Some.place k.1 kept.2 kept.3 (c.requires.known k kept.1);
    })

pub loop-t-init : goal.loop-t-init
loop-t-init g t c =
    let old = c.args.search.now in
    let x = old.machine.component in
    let m = old.machine.matrix in
    let component = ap (λ (s : State). s.component) c.stand_at.ensures in
    let matrix = ap (λ (s : State). s.matrix) c.stand_at.ensures in
    record {
      component = component;
      matrix = matrix;
      bound = refl;
      grows = grown_same old.table;
      known = all_moved x c.stand_at.new.self.component m c.stand_at.new.self.matrix old.bound old.bound old.table old.known.entries component matrix refl c.requires.known;
      stage = rw c.new-links.ensures.items (stage_none x m old.bound old.table c.args.rests.positions.items);
    }

pub stand_at-requires-in-loop-t : goal.stand_at-requires-in-loop-t
stand_at-requires-in-loop-t g t c =
    let p : Position = c.index-in-loop-t.result.now in
    let here : IsAmong p c.args.rests.positions.items = first_among c.args.search.now.machine.component c.args.search.now.machine.matrix c.args.rests.positions.items c.args.left p (rw c.if-stuck.false at c.requires.reached) (search rules) in
    rw (c.loop-t.invariant.component, c.loop-t.invariant.matrix) (c.requires.stand p here)

pub loop-t-preserved-then-picks-eq0 : goal.loop-t-preserved-then-picks-eq0
loop-t-preserved-then-picks-eq0 g t c =
    let old = c.args.search.now in
    let now = c.loop-t.search in
    let inv = c.loop-t.invariant in
    let p : Position = c.index-in-loop-t.result.now in
    let here : IsAmong p c.args.rests.positions.items = first_among c.args.search.now.machine.component c.args.search.now.machine.matrix c.args.rests.positions.items c.args.left p (rw c.if-stuck.false at c.requires.reached) (search rules) in
    let x = old.machine.component in
    let m = old.machine.matrix in
    let component = ap (λ (s : State). s.component) c.stand_at-in-loop-t.ensures in
    let matrix = ap (λ (s : State). s.matrix) c.stand_at-in-loop-t.ensures in
    let is : c.stand_at-in-loop-t.new.self ≡ state_at x m p = c.stand_at-in-loop-t.ensures ∙ stands_here now.machine x m p inv.component inv.matrix in
    let none : picks_of c.stand_at-in-loop-t.new.self c.loop-t.t ≡ 0 = search rules in
    record {
      component = component ∙ inv.component;
      matrix = matrix ∙ inv.matrix;
      bound = inv.bound;
      grows = inv.grows;
      known = all_moved now.machine.component c.stand_at-in-loop-t.new.self.component now.machine.matrix c.stand_at-in-loop-t.new.self.matrix now.bound now.bound now.table now.known.entries component matrix refl inv.known;
      stage = stage_skip x m old.bound now.table c.args.rests.positions.items c.loop-t.links.items c.loop-t.t p here (ap (λ (s : State). picks_of s c.loop-t.t) (sym is) ∙ none) inv.stage;
    }

pub ask-requires-clause-calls : goal.ask-requires-clause-calls
ask-requires-clause-calls g t c =
    let old = c.args.search.now in
    let now = c.loop-t.search in
    let inv = c.loop-t.invariant in
    let p : Position = c.index-in-loop-t.result.now in
    let here : IsAmong p c.args.rests.positions.items = first_among c.args.search.now.machine.component c.args.search.now.machine.matrix c.args.rests.positions.items c.args.left p (rw c.if-stuck.false at c.requires.reached) (search rules) in
    let x = old.machine.component in
    let m = old.machine.matrix in
    let component = ap (λ (s : State). s.component) c.stand_at-in-loop-t.ensures ∙ inv.component in
    let matrix = ap (λ (s : State). s.matrix) c.stand_at-in-loop-t.ensures ∙ inv.matrix in
    let is : c.stand_at-in-loop-t.new.self ≡ state_at x m p = c.stand_at-in-loop-t.ensures ∙ stands_here now.machine x m p inv.component inv.matrix in
    let some : 0 < picks_of c.stand_at-in-loop-t.new.self c.loop-t.t = search rules in
    let reached : IsReached x m false c.args.rests.positions.items c.args.left = rw c.if-stuck.false at c.requires.reached in
    let may : MayCall x m c.args.rests.positions.items c.loop-t.t = may_call x m c.args.rests.positions.items c.loop-t.t c.args.left p reached here (subst (λ (s : State). 0 < picks_of s c.loop-t.t) is some) in
    same_call x c.stand_at-in-loop-t.new.self.component m c.stand_at-in-loop-t.new.self.matrix c.args.rests.positions.items c.deref.result.now c.loop-t.t component matrix (search rules) may

pub explore-requires : goal.explore-requires
explore-requires g t c = λ κs within.
    (let old = c.args.search.now in
    let now = c.loop-t.search in
    let inv = c.loop-t.invariant in
    let x = old.machine.component in
    let m = old.machine.matrix in
    let answer : Answer = c.in-Some-2.answer in
    let stood = ap (λ (s : State). s.component) c.stand_at-in-loop-t.ensures ∙ inv.component in
    let stood_matrix = ap (λ (s : State). s.matrix) c.stand_at-in-loop-t.ensures ∙ inv.matrix in
    let asked = rw c.in-Some-2.is at c.in_ok-answer.ensures.component in
    let asked_matrix = rw c.in-Some-2.is at c.in_ok-answer.ensures.matrix in
    let component : c.ask.new.machine.component ≡ x = asked ∙ stood in
    let matrix : c.ask.new.machine.matrix ≡ m = asked_matrix ∙ stood_matrix in
    let shown : c.deref.result.now ≡ c.args.rests.positions.items = search rules in
    let said = rw (c.in-Some-2.is, stood, stood_matrix, shown, inv.bound) at c.in_ok-answer.ensures.answer in
    let is : IsAnswer x m c.args.rests.positions.items c.loop-t.t (old.bound + 1) answer = said in
    let reached : IsReached x m false c.args.rests.positions.items c.args.left = rw c.if-stuck.false at c.requires.reached in
    let after : IsReached x m (is_stuck answer.outcome) answer.rests.items (c.args.left - 1) = reached_after x m old.bound c.args.rests.positions.items c.loop-t.t answer is c.args.left (search rules) reached in
    let stuck : c.is_stuck.result ≡ is_stuck answer.outcome = search rules in
    let known = all_moved now.machine.component c.ask.new.machine.component now.machine.matrix c.ask.new.machine.matrix now.bound now.bound now.table now.known.entries (component ∙ sym inv.component) (matrix ∙ sym inv.matrix) refl inv.known in
    (search rules, (within, (known, (rw inv.bound c.requires.few, (rw matrix c.requires.limits, (rw (component, matrix, stuck) after, rw (component, matrix) is.stand)))))))

pub loop-t-preserved : goal.loop-t-preserved
loop-t-preserved g t c =
    let old = c.args.search.now in
    let now = c.loop-t.search in
    let inv = c.loop-t.invariant in
    let x = old.machine.component in
    let m = old.machine.matrix in
    let answer : Answer = c.in-Some-2.answer in
    let new = c.explore.new.search in
    let stood = ap (λ (s : State). s.component) c.stand_at-in-loop-t.ensures ∙ inv.component in
    let stood_matrix = ap (λ (s : State). s.matrix) c.stand_at-in-loop-t.ensures ∙ inv.matrix in
    let asked = rw c.in-Some-2.is at c.in_ok-answer.ensures.component in
    let asked_matrix = rw c.in-Some-2.is at c.in_ok-answer.ensures.matrix in
    let component : c.ask.new.machine.component ≡ x = asked ∙ stood in
    let matrix : c.ask.new.machine.matrix ≡ m = asked_matrix ∙ stood_matrix in
    let shown : c.deref.result.now ≡ c.args.rests.positions.items = search rules in
    let said = rw (c.in-Some-2.is, stood, stood_matrix, shown, inv.bound) at c.in_ok-answer.ensures.answer in
    let is : IsAnswer x m c.args.rests.positions.items c.loop-t.t (old.bound + 1) answer = said in
    let stuck : c.is_stuck.result ≡ is_stuck answer.outcome = search rules in
    let e = rw (c.in-Some-3.is, stuck) at c.in_ok-place-2.ensures in
    let here : IsKnown x m old.bound new.table (is_stuck answer.outcome) answer.rests.items c.in-Some-3.place = rw (component, matrix, inv.bound) at e.here in
    record {
      component = e.component ∙ component;
      matrix = e.matrix ∙ matrix;
      bound = e.bound ∙ inv.bound;
      grows = grown_on old.table now.table new.table inv.grows e.grows;
      known = e.known;
      stage = rw c.in_ok-push.ensures.items (stage_more x m old.bound c.args.rests.positions.items c.loop-t.t answer is now.table new.table c.loop-t.links.items c.in-Some-3.place inv.stage e.grows here);
    }

pub push_node-requires-2-clause-serial : goal.push_node-requires-2-clause-serial
push_node-requires-2-clause-serial g t c =
    let old = c.args.search.now in
    let inv = c.loop-t.invariant in
    let x = old.machine.component in
    let m = old.machine.matrix in
    let p : Position = c.index.result.now in
    let among : IsAmong p c.args.rests.positions.items = first_among c.args.search.now.machine.component c.args.search.now.machine.matrix c.args.rests.positions.items c.args.left p (rw c.if-stuck.false at c.requires.reached) (search rules) in
    let reached : IsReached x m false c.args.rests.positions.items c.args.left = rw c.if-stuck.false at c.requires.reached in
    let count : c.loop-t.t ≡ length (state_at x m p).threads = (let a : c.loop-t.t ≡ c.threads-t-end.result = search rules in a ∙ (c.threads-t-end.ensures.value ∙ ap (λ (s : State). length s.threads) c.stand_at.ensures)) in
    let ends : (c.is_empty.result ≡ true) ↔ (length c.loop-t.links.items ≡ 0) = search rules in
    let shown : c.deref-2.result.now ≡ c.loop-t.links.items = search rules in
    rw shown (members_serial x m old.bound c.loop-t.search.table c.args.rests.positions.items c.loop-t.links.items c.loop-t.t p among count inv.stage c.is_empty.result ends c.args.left reached)

pub returns : goal.returns
returns g t c =
    let old = c.args.search.now in
    let now = c.loop-t.search in
    let inv = c.loop-t.invariant in
    let x = old.machine.component in
    let m = old.machine.matrix in
    let p : Position = c.index.result.now in
    let among : IsAmong p c.args.rests.positions.items = first_among c.args.search.now.machine.component c.args.search.now.machine.matrix c.args.rests.positions.items c.args.left p (rw c.if-stuck.false at c.requires.reached) (search rules) in
    let count : c.loop-t.t ≡ length (state_at x m p).threads = (let a : c.loop-t.t ≡ c.threads-t-end.result = search rules in a ∙ (c.threads-t-end.ensures.value ∙ ap (λ (s : State). length s.threads) c.stand_at.ensures)) in
    let ends : (c.is_empty.result ≡ true) ↔ (length c.loop-t.links.items ≡ 0) = search rules in
    let new = c.push_node-2.new.self in
    let place = c.in_ok-place-3.place in
    let holds : HoldsFrom now.table c.is_empty.result c.loop-t.links.items new place = rw c.deref-2.ensures.value at c.in_ok-place-3.ensures.members in
    let here : IsKnown x m old.bound new false c.args.rests.positions.items place = node_known x m old.bound now.table c.args.rests.positions.items c.loop-t.links.items c.loop-t.t p among count inv.stage c.is_empty.result ends new place c.in_ok-place-3.ensures.place holds in
    let kept : KnownAll now.machine.component now.machine.matrix now.bound new c.keep.new.known.entries = all_kept now.machine.component now.machine.matrix now.bound new now.known.entries c.keep.new.known.entries c.args.rests place (rw (inv.component, inv.matrix, inv.bound) here) c.in_ok-keep.ensures (all_more now.machine.component now.machine.matrix now.bound now.table new now.known.entries c.in_ok-place-3.ensures.grows inv.known) in
    rw c.if-stuck.false (record {
      component = inv.component;
      matrix = inv.matrix;
      bound = inv.bound;
      grows = grown_on old.table now.table new inv.grows c.in_ok-place-3.ensures.grows;
      known = kept;
      here = here;
    })

pub returns-then-left-eq0 : goal.returns-then-left-eq0
returns-then-left-eq0 g t c =
    let old = c.args.search.now in
    let x = old.machine.component in
    let m = old.machine.matrix in
    let none : c.args.left ≡ 0 = search rules in
    let reached : IsReached x m false c.args.rests.positions.items 0 = rw (c.if-stuck.false, none) at c.requires.reached in
    absurd (not_over x m c.args.rests.positions.items c.requires.limits reached)

pub returns-in_default-2 : goal.returns-in_default-2
returns-in_default-2 g t c =
    let old = c.args.search.now in
    let now = c.loop-t.search in
    let inv = c.loop-t.invariant in
    let x = old.machine.component in
    let m = old.machine.matrix in
    let stood = ap (λ (s : State). s.component) c.stand_at-in-loop-t.ensures ∙ inv.component in
    let stood_matrix = ap (λ (s : State). s.matrix) c.stand_at-in-loop-t.ensures ∙ inv.matrix in
    let shown : c.deref.result.now ≡ c.args.rests.positions.items = search rules in
    let asked = rw (c.in_default-2.is, stood, stood_matrix, shown, inv.bound) at c.in_ok-answer.ensures.answer in
    let reached : IsReached x m false c.args.rests.positions.items c.args.left = rw c.if-stuck.false at c.requires.reached in
    asked_offends x m old.bound c.args.left c.args.rests.positions.items c.loop-t.t reached asked

pub returns-in_default-3 : goal.returns-in_default-3
returns-in_default-3 g t c =
    let old = c.args.search.now in
    let now = c.loop-t.search in
    let inv = c.loop-t.invariant in
    let x = old.machine.component in
    let m = old.machine.matrix in
    let stood = ap (λ (s : State). s.component) c.stand_at-in-loop-t.ensures ∙ inv.component in
    let stood_matrix = ap (λ (s : State). s.matrix) c.stand_at-in-loop-t.ensures ∙ inv.matrix in
    let asked = rw c.in-Some-2.is at c.in_ok-answer.ensures.component in
    let asked_matrix = rw c.in-Some-2.is at c.in_ok-answer.ensures.matrix in
    let offends = rw c.in_default-3.is at c.in_ok-place-2.ensures in
    offends_same x c.ask.new.machine.component m c.ask.new.machine.matrix old.bound now.bound (asked ∙ stood) (asked_matrix ∙ stood_matrix) inv.bound offends
