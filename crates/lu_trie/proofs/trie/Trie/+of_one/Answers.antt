use Rattle.std.proofs.Common.{[], refl, rules, false, true}
use Rattle.lu_trie.specs.Branches.{members_from}
use Rattle.lu_trie.proofs.Kids.{no_branches, one_branch, one_not_empty}
use Rattle.lu_trie.proofs.Serial.{one_serial, one_after_serial, serial_rest}
use Rattle.lu_trie.proofs.trie.Trie.+of_one.Goals as goal

pub invariant_of-result : goal.invariant_of-result
invariant_of-result g t c = rw c.new-kids.ensures.items record { are = no_branches; serial = one_serial (members_from true []) [] refl tt }

pub of_one-requires : goal.of_one-requires
of_one-requires g t c κs within = (search rules, (within, serial_rest c.args.history.now c.requires))

pub invariant_of-result-in-len1-up : goal.invariant_of-result-in-len1-up
invariant_of-result-in-len1-up g t c =
    rw (c.in_ok-push-in-len1-up.ensures.items, c.new-kids.ensures.items) record {
      are = one_branch _ (one_not_empty _ _ c.in_ok-below-in-len1-up.ensures);
      serial = one_after_serial false c.args.history.now _ c.in-len1-up.len_at_least refl c.in_ok-below-in-len1-up.ensures c.requires;
    }
