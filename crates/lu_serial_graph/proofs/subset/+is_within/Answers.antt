use Rattle.std.proofs.Common.{rules, ◌≡◌, ◌<◌, ◌≤◌, true, [], length, refl, sym, ◌∙◌, arith}
use Rattle.std.specs.Prelude.{slice_index_or}
use Rattle.lu_trie.specs.Members.{contains}
use Rattle.lu_trie.specs.Branches.{branches_of}
use Rattle.lu_trie.proofs.Trees.{branch_lighter}
use Rattle.lu_serial_graph.specs.Subsets.{IsWithin}
use Rattle.lu_serial_graph.proofs.Within.{all_within, more_within, not_after, not_below, one_more_within}
use Rattle.lu_serial_graph.proofs.subset.+is_within.Goals.{else-ends-via-then-ends+else-not-ends, else-ends-via-else-ends}
use Rattle.lu_serial_graph.proofs.subset.+is_within.Goals as goal

pub returns-then-is_known-clause-within : goal.returns-then-is_known-clause-within
returns-then-is_known-clause-within g t c = (
  (λ _. c.requires.known (c.args.here, c.args.there) (c.is_known.ensures.0 c.if-is_known.true)),
  (λ _. search rules),
)

pub returns-in_default-clause-within : goal.returns-in_default-clause-within
returns-in_default-clause-within g t c =
    let hs = slice_index_or c.args.one.now.0 c.args.here [] in
    let other = slice_index_or c.args.other.now.0 c.args.there [] in
    let below = slice_index_or c.args.one.now.0 c.kid-below.result.1 [] in
    let lt : c.loop-i.i < length (branches_of hs) = omega (arith, c.loop-i-test.true, c.kid_count-i-end.ensures) in (
      (λ e. absurd cc),
      (λ within. absurd (not_after hs c.requires.place.1 other c.loop-i.i (c.kid-below.result.0, below) lt c.kid-below.ensures.kid c.in_default.ensures.none within)),
    )

pub is_within-requires : goal.is_within-requires
is_within-requires g t c κs within =
    let hs = slice_index_or c.args.one.now.0 c.args.here [] in
    (let lt = branch_lighter hs c.requires.place.1 c.loop-i.i _ c.kid-below.ensures.kid in search (rules, lt), (within.0, (within.1, (c.kid-below.ensures.place, (c.in-Some.ensures.place, c.loop-i.invariant.known)))))

pub returns-then-not-branch-clause-within : goal.returns-then-not-branch-clause-within
returns-then-not-branch-clause-within g t c =
    let hs = slice_index_or c.args.one.now.0 c.args.here [] in
    let other = slice_index_or c.args.other.now.0 c.args.there [] in
    let below = slice_index_or c.args.one.now.0 c.kid-below.result.1 [] in
    let beside = slice_index_or c.args.other.now.0 c.in-Some.beside [] in
    let lt : c.loop-i.i < length (branches_of hs) = omega (arith, c.loop-i-test.true, c.kid_count-i-end.ensures) in (
      (λ e. absurd cc),
      (λ within. absurd (not_below hs c.requires.place.1 other beside c.loop-i.i (c.kid-below.result.0, below) lt c.kid-below.ensures.kid c.in-Some.ensures.child
          (λ all. let yes_it_is = c.in_ok-is_within.ensures.within.1 all in let no_it_is_not = c.if-not-branch.true in cc) within)),
    )

pub loop-i-preserved : goal.loop-i-preserved
loop-i-preserved g t c =
    let hs = slice_index_or c.args.one.now.0 c.args.here [] in
    let other = slice_index_or c.args.other.now.0 c.args.there [] in
    let below = slice_index_or c.args.one.now.0 c.kid-below.result.1 [] in
    let beside = slice_index_or c.args.other.now.0 c.in-Some.beside [] in
    record {
      known = c.in_ok-is_within.ensures.known;
      first =
          more_within (branches_of hs) other beside c.loop-i.i (c.kid-below.result.0, below) c.kid-below.ensures.kid c.in-Some.ensures.child
          (c.in_ok-is_within.ensures.within.0 c.if-not-branch.false) c.loop-i.invariant.first;
    }

pub returns-clause-known : goal.returns-clause-known
returns-clause-known g t c =
    let one = c.args.one.now.0 in
    let other = c.args.other.now.0 in
    let hs = slice_index_or one c.args.here [] in
    let empty : contains hs [] ≡ true → contains (slice_index_or other c.args.there []) [] ≡ true =
    elim c.else-ends.branch [
      | else-ends-via-then-ends+else-not-ends w ↦ λ _. sym w.ends-then-ends.ensures ∙ w.if-not-ends.false
      | else-ends-via-else-ends w ↦ λ has. (let no_it_does_not = w.if-ends.false in let yes_it_does = c.ends.ensures in absurd cc)
    ] in
    let all : length (branches_of hs) ≤ c.loop-i.i = omega (arith, c.loop-i-test.false, c.kid_count-i-end.ensures) in
    let within : IsWithin one other (c.args.here, c.args.there) = all_within hs c.requires.place.1 (slice_index_or other c.args.there []) c.loop-i.i all empty c.loop-i.invariant.first in
    one_more_within one other (c.args.here, c.args.there) c.loop-i.known.keys c.add_known.new.known.keys within c.in_ok-add_known.ensures c.loop-i.invariant.known

pub returns-clause-within : goal.returns-clause-within
returns-clause-within g t c =
    let hs = slice_index_or c.args.one.now.0 c.args.here [] in
    let other = slice_index_or c.args.other.now.0 c.args.there [] in
    let empty : contains hs [] ≡ true → contains other [] ≡ true =
    elim c.else-ends.branch [
      | else-ends-via-then-ends+else-not-ends w ↦ λ _. sym w.ends-then-ends.ensures ∙ w.if-not-ends.false
      | else-ends-via-else-ends w ↦ λ has. (let no_it_does_not = w.if-ends.false in let yes_it_does = c.ends.ensures in absurd cc)
    ] in
    let all : length (branches_of hs) ≤ c.loop-i.i = omega (arith, c.loop-i-test.false, c.kid_count-i-end.ensures) in
    ((λ _. all_within hs c.requires.place.1 other c.loop-i.i all empty c.loop-i.invariant.first), (λ _. refl))
