use Rattle.std.proofs.Common.{◌≡◌, ◌∷◌, [], map, refl, ap, ◌∙◌}
use Rattle.lu_trie.specs.Members.{Adds}
use Rattle.lu_spec.proofs.HistoryKeys.{all_moved, first_serial, none_moved, one_moved, rest_serial}
use Rattle.lu_spec.proofs.history_set.HistorySet.into_trie.Goals as goal

pub loop-history-init : goal.loop-history-init
loop-history-init c =
    let all : map (λ history. history.items) c.into_iter-history-iterator.result ≡ c.args.self = ap (map (λ history. history.items)) c.into_iter-history-iterator.ensures.into_iter_gives.0 ∙ c.self.view_is in
    record {
      moved = rw all (none_moved c.new-trie.result c.args.self c.new-trie.ensures);
      serial = rw all c.requires;
    }

pub insert-requires : goal.insert-requires
insert-requires c =
    let left : map (λ history. history.items) c.loop-history.history-iterator ≡ c.in-Some.history.now.items ∷ map (λ history. history.items) c.next.new.self = ap (map (λ history. history.items)) c.in-Some.ensures.steps in
    rw c.deref.ensures.value (first_serial c.in-Some.history.now.items (map (λ history. history.items) c.next.new.self) (rw left at c.loop-history.invariant.serial))

pub same-trie : goal.same-trie
same-trie c = refl

pub loop-history-preserved : goal.loop-history-preserved
loop-history-preserved c =
    let rest = map (λ history. history.items) c.next.new.self in
    let h = c.in-Some.history.now.items in
    let left : map (λ history. history.items) c.loop-history.history-iterator ≡ h ∷ rest = ap (map (λ history. history.items)) c.in-Some.ensures.steps in
    let adds : Adds c.loop-history.trie c.insert.new.self h = rw c.deref.ensures.value at c.in_ok-insert.ensures.ok in
    record {
      moved = one_moved c.loop-history.trie c.insert.new.self rest c.args.self h (rw left at c.loop-history.invariant.moved) adds;
      serial = rest_serial h rest (rw left at c.loop-history.invariant.serial);
    }

pub returns : goal.returns
returns c =
    let none : map (λ history. history.items) c.loop-history.history-iterator ≡ [] = ap (map (λ history. history.items)) c.in-None.ensures.steps.0 in
    all_moved c.loop-history.trie c.args.self (rw none at c.loop-history.invariant.moved)
