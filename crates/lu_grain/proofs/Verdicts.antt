-- What is known of good schedules, of linearizability and by certificates holds however many local instructions run with a move.
use Rattle.std.proofs.Common.{◌≡◌, ◌≤◌, ◌+◌, ◌*◌, ℕ, List, length, IsTrue, Result, Ok, Err, sym, ap, subst, inl, inr}
use Rattle.std.specs.Prelude.{IfOk}
use Rattle.lu_component.specs.Component.{Component}
use Rattle.lu_test.specs.Matrix.{Matrix}
use Rattle.lu_test.specs.declared.schedule.Move.{Move}
use Rattle.lu_machine.specs.declared.event.Event.{Event}
use Rattle.lu_machine.specs.Ends.{IsEnded}
use Rattle.lu_machine.specs.Schedules.{IsCutAt, IsSchedule, Reaches}
use Rattle.lu_machine.specs.Starts.{CanRun, Settles}
use Rattle.lu_machine.specs.States.{State}
use Rattle.lu_machine.proofs.Paths.{leads_same}
use Rattle.lu_machine.proofs.Starting.{settles_too, start_component, start_there}
use Rattle.lu_history.specs.declared.serial.SerialOp.{SerialOp}
use Rattle.lu_trie.specs.Members.{contains}
use Rattle.lu_serial.specs.Serial.{IsSerialHistory}
use Rattle.lu_graph.specs.Hopeless.{LosesHope}
use Rattle.lu_witness.specs.Goodness.{Any, IsGoodAt}
use Rattle.lu_refute.specs.Linearizable.{IsLinearizable}
use Rattle.lu_refute.proofs.Every.{failing_is_not_linearizable}
use Rattle.lu_certify.specs.declared.certificate.Certificate.{Certificate}
use Rattle.lu_certify.specs.declared.certificate.Certificate.TheVariants.{Linearizable, Livelock, NotLinearizable, Undecided}
use Rattle.lu_certify.specs.Certificates.{AreBeginnings, IsCertificate}
use Rattle.lu_certify.specs.Laws.{Decides, LosesHopeOnCut, NoCutLosesHope}
use Rattle.lu_certify.proofs.Fitted.{reaches_more}
use Rattle.lu_certify.proofs.Linear.{full_at}
use Rattle.lu_certify.proofs.One.{decided}
use Rattle.lu_certify.proofs.Within.{ended_within, none_of}
use Rattle.lu_grain.specs.Grains.{grained, with_local}
use Rattle.lu_grain.specs.Laws.{Agree, AllEndedGood, CertificatesAgree, DecidesAlike, DecidesToo, FailureRefutesToo, GoodToo, LinearizableAlike, LinearizableToo, PassesEnd, PassesToo, SomeLosesHope}
use Rattle.lu_grain.proofs.Bounded.{ends_too}
use Rattle.lu_grain.proofs.Carried.{stuck_grained}
use Rattle.lu_grain.proofs.Ended.{same_ends}
use Rattle.lu_grain.proofs.NeverEnded.{ended_grained, loses_hope_too}
use Rattle.lu_grain.proofs.Serially.{beginnings_alike, history_too}
use Rattle.lu_grain.proofs.Setups.{same_start, settles_further}

-- ---- good schedules

module _ (Set : List SerialOp → Type 0) where
  good_grained : (end : State) (n : ℕ) (h : List Event) → IsGoodAt Set end h → IsGoodAt Set (grained end n) h
  good_grained end n h (inl done) = inl done
  good_grained end n h (inr stops) = inr (stuck_grained end n stops.0, stops.1)

  all_good_too : (s : State) (n : ℕ) → AllEndedGood s Set → AllEndedGood (grained s n) Set
  all_good_too s n good v r =
      let l = s.component.local in
      let other = same_ends (grained s n) l v r.end r.history r.leads r.holds in
      let end = grained r.end l in
      let there = good other.moves (record { end = end; history = r.history; leads = other.leads; holds = ended_grained r.end l r.holds }) in
      let same = leads_same s other.moves there.end end there.history r.history there.leads other.leads in
      let is_good : IsGoodAt Set end r.history = subst (λ h. IsGoodAt Set end h) same.1 (subst (λ x. IsGoodAt Set x there.history) same.0 there.holds) in
      record { end = r.end; history = r.history; leads = r.leads; holds = good_grained end r.end.component.local r.history is_good }

  linear_too : (c : Component) (n : ℕ) (matrix : Matrix) → Settles c matrix → IsLinearizable c matrix Set → IsLinearizable (with_local c n) matrix Set
  linear_too c n matrix settles linear smaller r v is from ended =
      let setup : smaller.setup ≡ matrix.setup = ap (λ (x : Matrix). x.setup) is.2 in
      let there = start_there c smaller (settles_too c matrix smaller settles setup) in
      let s = there.0 in
      let same : r ≡ grained s n = same_start c n smaller s r there.1 from in
      let good : AllEndedGood s Set = (λ u e. linear smaller s u is there.1 e) in
      subst (λ x. Reaches x v (IsGoodAt Set)) (sym same)
      (all_good_too s n good v (subst (λ x. Reaches x v (λ end _. IsEnded end)) same ended))

pub good_too : GoodToo
good_too s n spec good = all_good_too (λ q. IsTrue (spec q)) s n good

pub linearizable_too : LinearizableToo
linearizable_too c n matrix spec settles linear = linear_too (λ q. IsTrue (spec q)) c n matrix settles linear

pub linearizable_alike : LinearizableAlike
linearizable_alike c n matrix spec settles other = (
  linearizable_too c n matrix spec settles,
  linearizable_too (with_local c n) c.local matrix spec other,
)

-- ---- checks

pub passes_too : PassesToo
passes_too c n matrix bound serial r settles is pass x from =
    let there = start_there c matrix settles in
    let s = there.0 in
    let same : x ≡ grained s n = same_start c n matrix s x there.1 from in
    let full = full_at c matrix bound serial (r, is, pass) s there.1 in
    let good : AllEndedGood s (IsSerialHistory s) = (λ u ended. full.good.good u tt (ended_within s bound full.counts full.good.numbers full.uncut u ended)) in
    let too : AllEndedGood (grained s n) (IsSerialHistory (grained s n)) =
    (λ u ended. reaches_more (IsSerialHistory s) (IsSerialHistory (grained s n)) (λ q z. history_too s n q z) (grained s n) u (all_good_too (IsSerialHistory s) s n good u ended)) in
    subst (λ y. AllEndedGood y (IsSerialHistory y)) (sym same) too

pub passes_end : PassesEnd
passes_end c n matrix bound serial r settles is pass x from =
    let there = start_there c matrix settles in
    let s = there.0 in
    let same : x ≡ grained s n = same_start c n matrix s x there.1 from in
    let full = full_at c matrix bound serial (r, is, pass) s there.1 in
    let none : (v : List Move) → IsCutAt s bound v → ⊥ = (λ v cut. none_of (λ y. Any y × IsCutAt s bound y) full.counts.cut full.good.numbers.cut full.uncut v (tt, cut)) in
    let local : s.component.local ≡ c.local = ap (λ (d : Component). d.local) (start_component c matrix s there.1) in
    let bounded : (u : List Move) → IsSchedule (grained s n) u → length u ≤ (c.local + 1) * bound =
    (λ u is_one. subst (λ l. length u ≤ (l + 1) * bound) local (ends_too s n bound u none is_one)) in
    subst (λ y. (u : List Move) → IsSchedule y u → length u ≤ (c.local + 1) * bound) (sym same) bounded

pub failure_refutes_too : FailureRefutesToo
failure_refutes_too c n matrix bound serial r spec settles other is fails deterministic linear =
    failing_is_not_linearizable c matrix bound serial r spec settles is fails deterministic
    (linearizable_too (with_local c n) c.local matrix spec other linear)

-- ---- certificates

loses_with : (c : Component) (n : ℕ) (matrix smaller : Matrix) (u : List Move) → Settles c matrix → LosesHopeOnCut c matrix smaller u → SomeLosesHope (with_local c n) matrix smaller
loses_with c n matrix smaller u settles (is, lost) = (
  is,
  λ r from.
      (let setup : smaller.setup ≡ matrix.setup = ap (λ (x : Matrix). x.setup) is.2 in
      let there = start_there c smaller (settles_too c matrix smaller settles setup) in
      let same : r ≡ grained there.0 n = same_start c n smaller there.0 r there.1 from in
      subst (λ x. (v : List Move) × LosesHope x v) (sym same) (loses_hope_too there.0 n u (lost there.0 there.1))),
)

never_with : (c : Component) (n : ℕ) (matrix : Matrix) → Settles c matrix → NoCutLosesHope c matrix → NoCutLosesHope (with_local c n) matrix
never_with c n matrix settles never smaller is r from u lost =
    let setup : smaller.setup ≡ matrix.setup = ap (λ (x : Matrix). x.setup) is.2 in
    let there = start_there c smaller (settles_too c matrix smaller settles setup) in
    let same : r ≡ grained there.0 n = same_start c n smaller there.0 r there.1 from in
    let back = loses_hope_too (grained there.0 n) there.0.component.local u (subst (λ x. LosesHope x u) same lost) in
    never smaller is there.0 there.1 back.0 back.1

-- a livelock and its absence
never_both : (c : Component) (matrix smaller : Matrix) → Settles c matrix → NoCutLosesHope c matrix → SomeLosesHope c matrix smaller → ⊥
never_both c matrix smaller settles never (is, lost) =
    let setup : smaller.setup ≡ matrix.setup = ap (λ (x : Matrix). x.setup) is.2 in
    let there = start_there c smaller (settles_too c matrix smaller settles setup) in
    let found = lost there.0 there.1 in
    never smaller is there.0 there.1 found.0 found.1

decides_with : (c : Component) (n : ℕ) (matrix : Matrix) → Settles c matrix → Settles (with_local c n) matrix → (certificate : Certificate) → Decides c matrix certificate → DecidesAlike (with_local c n) matrix certificate
decides_with c n matrix settles other (Linearizable members) h = ((h.0.0, linearizable_too c n matrix (contains members) settles h.0.1), never_with c n matrix settles h.1)
decides_with c n matrix settles other (NotLinearizable smaller r) h =
    λ spec serves. h spec (serves.0, linearizable_too (with_local c n) c.local matrix spec other serves.1)
decides_with c n matrix settles other (Livelock smaller u) h = loses_with c n matrix smaller u settles h
decides_with c n matrix settles other (Undecided smaller r) h = tt

pub decides_too : DecidesToo
decides_too c n matrix limits certificate settles other is =
    decides_with c n matrix settles other certificate (decided c matrix limits settles certificate is)

pub certificates_agree : CertificatesAgree
certificates_agree c n matrix limits within a b settles other x y = by_kind a b x y
  where
    by_kind : (a b : Certificate) → IsCertificate c matrix limits a → IsCertificate (with_local c n) matrix within b → Agree a b
    by_kind (Linearizable members) (Linearizable others) x y =
        let there = start_there c matrix settles in
        let from = start_there (with_local c n) matrix other in
        let same : from.0 ≡ grained there.0 n = same_start c n matrix there.0 from.0 there.1 from.1 in
        let one = beginnings_alike there.0 n members (x.1 there.0 there.1) in
        let two = subst (λ z. AreBeginnings z others) same (y.1 from.0 from.1) in
        λ q. ((λ has. (two q).1 ((one q).0 has)), (λ has. (one q).1 ((two q).0 has)))
    by_kind (Linearizable members) (NotLinearizable smaller r) x y =
        decided (with_local c n) matrix within other (NotLinearizable smaller r) y (contains members)
        (decides_too c n matrix limits (Linearizable members) settles other x).0
    by_kind (Linearizable members) (Livelock smaller u) x y =
        let lost = decided (with_local c n) matrix within other (Livelock smaller u) y in
        never_both (with_local c n) matrix smaller other (decides_too c n matrix limits (Linearizable members) settles other x).1 (lost.0, (λ s at. (u, lost.1 s at)))
    by_kind (Linearizable members) (Undecided smaller r) x y = tt
    by_kind (NotLinearizable smaller r) (Linearizable others) x y =
        decides_too c n matrix limits (NotLinearizable smaller r) settles other x (contains others)
        (decided (with_local c n) matrix within other (Linearizable others) y).0
    by_kind (NotLinearizable smaller r) (NotLinearizable at q) x y = tt
    by_kind (NotLinearizable smaller r) (Livelock at u) x y = tt
    by_kind (NotLinearizable smaller r) (Undecided at q) x y = tt
    by_kind (Livelock smaller u) (Linearizable others) x y =
        never_both (with_local c n) matrix smaller other (decided (with_local c n) matrix within other (Linearizable others) y).1 (decides_too c n matrix limits (Livelock smaller u) settles other x)
    by_kind (Livelock smaller u) (NotLinearizable at q) x y = tt
    by_kind (Livelock smaller u) (Livelock at v) x y = tt
    by_kind (Livelock smaller u) (Undecided at q) x y = tt
    by_kind (Undecided smaller r) b x y = tt

-- what a certificate by longer moves decides, if there is one, it decides of the component as it is
pub decides_back : {E : Type 0} (c d : Component) (n : ℕ) (matrix : Matrix) → d ≡ with_local c n → c.local ≤ n → CanRun c matrix → (result : Result Certificate E) → IfOk result (Decides d matrix) → IfOk result (DecidesAlike c matrix)
decides_back c d n matrix is more runs (Ok certificate) h =
    let there : Decides (with_local c n) matrix certificate = subst (λ x. Decides x matrix certificate) is h in
    decides_with (with_local c n) c.local matrix (settles_further c n matrix runs.settles more) runs.settles certificate there
decides_back c d n matrix is more runs (Err e) h = tt
