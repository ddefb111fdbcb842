-- Where all matrices of one round are linearizable without livelocks, a certificate decides.
use Rattle.std.proofs.Common.{Some}
use Rattle.lu_machine.proofs.Starting.{start_there}
use Rattle.lu_refute.proofs.Outside.{whole_cut}
use Rattle.lu_client.specs.Rounds.{IsUnrolledFrom}
use Rattle.lu_client.specs.Rounds.Way.{InOrder}
use Rattle.lu_always.proofs.Decided.{always_serves}
use Rattle.lu_always.proofs.Endings.{livelocks_never}
use Rattle.lu_always.proofs.OneRound.{one_round_is_cut}
use Rattle.lu_forever.specs.Certified.{OneRoundDecides}

pub one_round_decides : OneRoundDecides
one_round_decides c matrix bound members settles clear begins =
    let there = start_there c matrix settles in
    let whole : IsUnrolledFrom (InOrder (Some 1)) matrix matrix = (one_round_is_cut matrix matrix).1 (whole_cut matrix) in (
      always_serves c matrix (InOrder (Some 1)) bound matrix there.0 members clear.0 whole there.1 (begins there.0 there.1),
      λ smaller is start starts u lost.
          livelocks_never c matrix (InOrder (Some 1)) u clear.1 (record {
            big = smaller;
            unrolled = (one_round_is_cut matrix smaller).1 is;
            start = start;
            is_start = starts;
            lost = lost;
          }),
    )
