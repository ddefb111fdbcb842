use Rattle.lu_lang.proofs.RoundTrip.{component_again}
use Rattle.lu_lang.proofs.laws.round_trip.Goals as goal

pub returns : goal.returns
returns c = λ component is. component_again component is
