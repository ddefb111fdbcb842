-- What a closed list of nodes, and a bad node, tell of all unrolled matrices.
use Rattle.std.specs.Prelude.{IsTrue}
use Rattle.std.proofs.Common.{◌≡◌, ℕ, zero, suc, true, List, [], ◌∷◌, ◌++◌, refl, sym, ◌∙◌, ap, subst, inl, inr}
use Rattle.lu_component.specs.Component.{Component}
use Rattle.lu_test.specs.declared.schedule.Move.{Move}
use Rattle.lu_test.specs.Matrix.{Matrix, cut}
use Rattle.lu_machine.specs.declared.event.Event.{Event}
use Rattle.lu_machine.specs.States.{State}
use Rattle.lu_machine.specs.Runs.{with_event}
use Rattle.lu_machine.specs.Starts.{IsStart, at_rest}
use Rattle.lu_horizon.specs.Dead.{DeadTable, IsDeadTable, is_dead}
use Rattle.lu_tree.proofs.AlikeRuns.{alike_back}
use Rattle.lu_machine.proofs.Keeping.{step_moved}
use Rattle.lu_machine.proofs.Orders.{smaller_cases}
use Rattle.lu_machine.proofs.Paths.{leads_same}
use Rattle.lu_machine.proofs.Starting.{other_start, settles_too, start_same, start_there}
use Rattle.lu_history.specs.declared.serial.SerialOp.{SerialOp}
use Rattle.lu_history.specs.declared.serial.SerialOutcome.{SerialOutcome}
use Rattle.lu_trie.specs.Conflicts.{ConflictAt}
use Rattle.lu_trie.proofs.Determinism.{conflict_back, no_self_conflict}
use Rattle.lu_serial.specs.Serial.{EndsAs, IsSerialHistory, IsSeriallyEnded}
use Rattle.lu_serial.specs.Offences.{IsSerialConflict, NoOffence}
use Rattle.lu_serial.proofs.CallsLeft.{none_at_start}
use Rattle.lu_serial.proofs.Single.{ends_same, one_along}
use Rattle.lu_graph.specs.Nodes.{EndsBadly}
use Rattle.lu_witness.specs.Witnesses.{IsMember}
use Rattle.lu_report.specs.declared.report.Finding.{Finding}
use Rattle.lu_report.specs.declared.report.Finding.TheVariants.{Fail, Nondeterministic, Pass, SerialCut}
use Rattle.lu_report.specs.Parts.{IsFailure}
use Rattle.lu_replay.specs.Reports.{IsFinding}
use Rattle.lu_spec.proofs.Closures.{conflict_on}
use Rattle.lu_serial.specs.Cuts.{IsCutOf}
use Rattle.lu_serial.proofs.Grounds.{seats_start}
use Rattle.lu_serial.proofs.Cuts.{cut_start, with_matrix}
use Rattle.lu_serial.proofs.Grounds.{Ground, ground_of, grounded, same_ground, start_on}
use Rattle.lu_serial.proofs.Moves.{HasSeats}
use Rattle.lu_serial.proofs.Ops.{NoCut}
use Rattle.lu_certify.proofs.Begun.{Starts, begun}
use Rattle.lu_certify.proofs.Fitted.{reaches_more}
use Rattle.lu_certify.proofs.Linear.{begun_deterministic, clear_at, clear_cut, never_bad}
use Rattle.lu_certify.proofs.Livelocks.{clear_never_lost}
use Rattle.lu_certify.proofs.Over.{cut_has}
use Rattle.lu_client.specs.Rounds.Way.{InOrder}
use Rattle.lu_client.specs.Rounds.{IsUnrolledFrom, Way}
use Rattle.lu_client.specs.Clients.{ClientLeads, client_matrix, client_of}
use Rattle.lu_client.specs.Alone.{rest_of}
use Rattle.lu_client.proofs.Cutting.{client_has_ended, ended_is_blocked}
use Rattle.lu_client.proofs.Played.{ready}
use Rattle.lu_client.proofs.Unrolled.{client_setup, client_starts, cut_is_unrolled}
use Rattle.lu_always.specs.Always.{AlwaysLinearizes, AlwaysServes, FailsNever, HasSpec, IsAlwaysLinearizable, IsSerialPrefix, IsWell, PrefixesAgree}
use Rattle.lu_always.specs.Certified.{CertifiedInOneRound, LivelockInOneRound, NoLivelockInOneRound, RefutedInOneRound}
use Rattle.lu_always.specs.OneRound.{OneRoundIsAllCuts}
use Rattle.lu_answers.specs.Tables.{IsTableOf, Table}
use Rattle.lu_always.specs.Nodes.{BadNodeFails, MovesLead, Node, NodesServeAll, NodesTellAll, NoneDead, Represents}
use Rattle.lu_always.proofs.Likeness.{alike_on, blocked_alike, client_alike, in_order_once}
use Rattle.lu_always.proofs.Followed.{good_end, good_node, node_there, path_for}
use Rattle.lu_always.proofs.OneRound.{one_round_is_cut}
use Rattle.lu_always.proofs.Refuting.{bad_serves_none}
use Rattle.lu_always.proofs.Spelled.{begun_spelled, spelled, spelled_determines}
use Rattle.lu_answers.proofs.ReadSerially.{none_offends}

-- ---- nodes

module _ (c : Component) (way : Way) (matrix : Matrix) (bound : ℕ) (start : State) (table : Table) (from : IsStart c (client_matrix way matrix) start) (are : IsTableOf c way matrix bound (rest_of start) table) where
  pub same_start : (big : Matrix) (s : State) → IsUnrolledFrom way matrix big → IsStart c big s → start ≡ client_of way matrix s
  same_start big s unrolled is = start_same c (client_matrix way matrix) start (client_of way matrix s) from (client_starts c way matrix big s unrolled is)

  pub table_here : (big : Matrix) (s : State) → IsUnrolledFrom way matrix big → IsStart c big s → IsTableOf c way matrix bound (rest_of s) table
  table_here big s unrolled is = subst (λ (x : State). IsTableOf c way matrix bound (rest_of x) table) (same_start big s unrolled is) are

pub nodes_tell_all : NodesTellAll
nodes_tell_all c way matrix bound start dead table list from sound are nodes big unrolled s is =
    let same = same_start c way matrix bound start table from are big s unrolled is in
    let mine = table_here c way matrix bound start table from are big s unrolled is in (
      none_offends c way matrix big bound s table unrolled is mine,
      (λ u ended.
          let has = node_there c way matrix big bound s dead sound table unrolled is mine start list nodes same u ended.end ended.history ended.leads in
          let known : IsDeadTable (client_of way matrix ended.end).component dead = subst (λ x. IsDeadTable x dead) (sym has.mine.component_is) sound in
          record {
            end = ended.end;
            history = ended.history;
            leads = ended.leads;
            holds =
                good_end c way matrix big bound s dead sound table unrolled is mine u ended.end ended.history ended.leads has.node has.state has.mine ended.holds
                (nodes.good has.node has.among (blocked_alike dead way (client_of way matrix ended.end) has.node.state known has.state (ended_is_blocked way matrix ended.end ended.holds)));
          }),
    )

-- a path of nodes, as one of the client
pub record ClientPath (dead : DeadTable) (way : Way) (c : Component) (a : State) (u : List Move) (last : Node) : Type 0 where
  pub b : State
  pub history : List Event
  pub leads : ClientLeads way a u b history
  pub state : Represents dead last b
  pub component : b.component ≡ c

pub client_path : (c : Component) (dead : DeadTable) → IsDeadTable c dead → (table : Table) (way : Way) (u : List Move) (node last : Node) (a : State) → a.component ≡ c → Represents dead node a → MovesLead dead table way node u last → ClientPath dead way c a u last
client_path c dead sound table way [] node last a component state path = record {
  b = a;
  history = [];
  leads = (refl, refl);
  state = subst (λ x. Represents dead x a) (sym path) state;
  component = component;
}
client_path c dead sound table way (m ∷ u) node last a component state path =
    let move = path.2 in
    let known : IsDeadTable node.state.component dead = subst (λ x. IsDeadTable x dead) (sym (state.component ∙ component)) sound in
    let there = client_alike dead way node.state a known (alike_back dead a node.state state) m move.0 path.1 move.1 in
    let kept : there.0.component ≡ c = ap (λ (x : State). x.component) there.1.2.2 ∙ ((step_moved (let x : State = record a { matrix = there.1.0 } in x) m there.1.2.0 path.1 there.1.2.1).component ∙ component) in
    let on = alike_on dead there.0 move.0 path.0.state (alike_back dead move.0 there.0 there.2) move.2 in
    let rest = client_path c dead sound table way u path.0 last there.0 kept on path.3 in
    record {
      b = rest.b;
      history = with_event path.1 rest.history;
      leads = (there.0, path.1, rest.history, there.1, rest.leads, refl);
      state = rest.state;
      component = rest.component;
    }

pub bad_node_fails : BadNodeFails
bad_node_fails c rounds matrix bound start dead table first u node from sound are is_first path blocked bad =
    let component : start.component ≡ c = (ready c (client_matrix (InOrder rounds) matrix) start from).component in
    let run = client_path c dead sound table (InOrder rounds) u first node start component is_first.0 path in
    let known : IsDeadTable node.state.component dead = subst (λ x. IsDeadTable x dead) (sym (run.state.component ∙ run.component)) sound in
    let all = blocked_alike dead (InOrder rounds) node.state run.b known (alike_back dead run.b node.state run.state) blocked in
    let it = client_has_ended c (InOrder rounds) matrix start u run.b run.history from run.leads all in
    let big = it.0 in
    let ended = it.2 in
    let s = ended.start in
    let same = same_start c (InOrder rounds) matrix bound start table from are big s ended.unrolled ended.is_start in
    let mine = table_here c (InOrder rounds) matrix bound start table from are big s ended.unrolled ended.is_start in
    let there = path_for c (InOrder rounds) matrix big bound s dead sound table ended.unrolled ended.is_start mine (in_order_once rounds) u first node start ended.end it.1 same is_first path ended.leads in
    let worse : EndsBadly (IsSerialHistory s) s u = record {
      end = ended.end;
      history = it.1;
      leads = ended.leads;
      holds = (ended.ended, (λ good. bad (good_node c (InOrder rounds) matrix big bound s dead sound table ended.unrolled ended.is_start mine u ended.end it.1 ended.leads node there.state there.mine good)));
    } in
    record {
      big = big;
      unrolled = ended.unrolled;
      start = s;
      is_start = ended.is_start;
      bad = worse;
      none = λ has. bad_serves_none c big s bound u ended.is_start (none_offends c (InOrder rounds) matrix big bound s table ended.unrolled ended.is_start mine) worse has;
    }

pub none_dead : NoneDead
none_dead c op place instr r is dead = absurd (never op place dead)
  where
    never : (op place : ℕ) → is_dead [] op place r ≡ true → ⊥
    never zero zero e = cc
    never zero (suc place) e = cc
    never (suc op) zero e = cc
    never (suc op) (suc place) e = cc

-- ---- serial histories of the cuts

begun_on : (g : Ground) (matrix : Matrix) (lengths : List ℕ) (bound : ℕ) → with_matrix (start_on g (cut matrix lengths)) matrix ≡ start_on g matrix → NoOffence (start_on g matrix) bound → (q : List SerialOp) → IsSerialHistory (start_on g (cut matrix lengths)) q → Starts (start_on g matrix) q
begun_on g matrix lengths bound same none q z =
    subst (λ x. Starts x q) same
    (begun matrix bound (start_on g (cut matrix lengths)) (cut_has matrix lengths)
    (subst HasSeats (sym same) (seats_start g matrix))
    (subst (λ x. NoCut x bound) (sym same) (λ u over. none u (inl over))) q z)

-- a serial history of a cut begins one of the matrix
begun_at_start : (c : Component) (matrix smaller : Matrix) (bound : ℕ) (s start : State) → IsCutOf matrix smaller → IsStart c matrix s → IsStart c smaller start → NoOffence s bound → (q : List SerialOp) → IsSerialHistory start q → Starts s q
begun_at_start c matrix smaller bound s start is at from none q z =
    let g = ground_of c s in
    let one : s ≡ start_on g matrix = grounded c matrix s at in
    let cut_from : IsStart c (cut matrix is.0) start = subst (λ x. IsStart c x start) is.2 from in
    let other : start ≡ start_on g (cut matrix is.0) = same_ground c matrix (cut matrix is.0) s start at refl cut_from in
    let same : with_matrix (start_on g (cut matrix is.0)) matrix ≡ start_on g matrix = ap (λ (x : State). with_matrix x matrix) (sym (cut_start g matrix is.0 is.1)) in
    subst (λ x. Starts x q) (sym one)
    (begun_on g matrix is.0 bound same (subst (λ x. NoOffence x bound) one none) q
    (subst (λ x. IsSerialHistory x q) other z))

-- ---- what follows

cut_unrolled : (way : Way) (matrix big smaller : Matrix) → IsUnrolledFrom way matrix big → IsCutOf big smaller → IsUnrolledFrom way matrix smaller
cut_unrolled way matrix big smaller unrolled is = subst (IsUnrolledFrom way matrix) (sym is.2) (cut_is_unrolled way matrix big is.0 unrolled is.1)

pub always_linearizes : AlwaysLinearizes
always_linearizes c matrix way bound big s always unrolled at smaller start u is from ended =
    let well = always smaller (cut_unrolled way matrix big smaller unrolled is) start from in
    let none = (always big unrolled s at).0 in
    reaches_more (IsSerialHistory start) (IsSerialPrefix s)
    (λ q z. let x = begun_at_start c big smaller bound s start is at from none q z in (x.1.0, subst (IsSerialHistory s) x.1.1 x.2))
    start u (well.1 u ended)

one_history : (c : Component) (matrix : Matrix) (s : State) → IsStart c matrix s → (u : List Move) (q p : List SerialOp) → IsSeriallyEnded s u q → IsSeriallyEnded s u p → q ≡ p
one_history c matrix s is u q p x y =
    let same = leads_same s u x.end y.end x.history y.history x.leads y.leads in
    let ends : EndsAs y.end y.history q = subst (λ h. EndsAs y.end h q) same.1 (subst (λ e. EndsAs e x.history q) same.0 x.holds) in
    ends_same y.end y.history (one_along s u y.end y.history (λ t i a b. absurd (none_at_start c matrix s is t a)) y.serial y.leads) q p ends y.holds

-- without offence no two serial histories conflict
serial_apart : (c : Component) (matrix : Matrix) (s : State) (bound : ℕ) → IsStart c matrix s → NoOffence s bound → (g h : List SerialOp) (i : ℕ) (o : SerialOutcome) → IsSerialHistory s g → IsSerialHistory s h → ConflictAt g h i o → ⊥
serial_apart c matrix s bound is none g h i o x y conflict =
    elim (smaller_cases x.0 y.0) [
      | inl z ↦ elim z [
        | inl less ↦
            (let back = conflict_back g h i o conflict in
            let clash : IsSerialConflict s y.0 i back.0 = record { history = h; ended = y.1; earlier = x.0; smaller = less; other = g; earlier_ended = x.1; conflict = back.1 } in
            none y.0 (inr (i, back.0, clash)))
        | inr less ↦
            (let clash : IsSerialConflict s x.0 i o = record { history = g; ended = x.1; earlier = y.0; smaller = less; other = h; earlier_ended = y.1; conflict = conflict } in
            none x.0 (inr (i, o, clash)))
      ]
      | inr e ↦
          (let same : g ≡ h = one_history c matrix s is y.0 g h (subst (λ v. IsSeriallyEnded s v g) e x.1) y.1 in
          no_self_conflict h i o (subst (λ z. ConflictAt z h i o) same conflict))
    ]

pub prefixes_agree : PrefixesAgree
prefixes_agree c matrix way bound big s p q i o always unrolled is x y conflict =
    serial_apart c big s bound is (always big unrolled s is).0 (p ++ x.0) (q ++ y.0) i o x.1 y.1
    (conflict_on p q (p ++ x.0) (q ++ y.0) i o (x.0, refl) (y.0, refl) conflict)

pub always_serves : AlwaysServes
always_serves c matrix way bound big s members always unrolled is are = (
  begun_deterministic c big s bound members is (always big unrolled s is).0 are,
  (λ smaller start u of from ended.
      reaches_more (IsSerialPrefix s) (IsMember members) (λ q z. (are q).1 (q ++ z.0, (z.0, refl), z.1)) start u
      (always_linearizes c matrix way bound big s always unrolled is smaller start u of from ended)),
)

pub fails_never : FailsNever
fails_never c matrix way bound u always fails =
    never_bad (IsSerialHistory fails.start) fails.start (always fails.big fails.unrolled fails.start fails.is_start).1 u fails.bad

-- ---- one round

pub one_round_is_all_cuts : OneRoundIsAllCuts
one_round_is_all_cuts c matrix bound = (
  (λ always smaller is s from. always smaller ((one_round_is_cut matrix smaller).1 is) s from),
  (λ all big unrolled s from. all big ((one_round_is_cut matrix big).0 unrolled) s from),
)

-- ---- certificates

pub certified_in_one_round : CertifiedInOneRound
certified_in_one_round c matrix limits members is big unrolled s from =
    let well = clear_at c big limits (clear_cut c matrix limits is.0 big ((one_round_is_cut matrix big).0 unrolled)) s from in
    (well.none, well.well)

never_fails : (s : State) (bound serial : ℕ) → IsWell serial s → (f : Finding) → IsFinding s bound serial f → IsFailure f → ⊥
never_fails s bound serial is (SerialCut u) finding failure = failure
never_fails s bound serial is (Nondeterministic u before earlier) finding failure = is.0 u finding.0.kind
never_fails s bound serial is (Fail u why) finding failure = never_bad (IsSerialHistory s) s is.1 u finding.1.bad.1
never_fails s bound serial is (Pass counts) finding failure = failure

pub refuted_in_one_round : RefutedInOneRound
refuted_in_one_round c matrix limits smaller r settles is always =
    let cut_is : IsCutOf matrix smaller = (is.lengths, is.are, is.is) in
    let there = start_there c smaller (settles_too c matrix smaller settles (ap (λ (x : Matrix). x.setup) is.is)) in
    let well = always smaller ((one_round_is_cut matrix smaller).1 cut_is) there.0 there.1 in
    elim is.fails [
      | inl here ↦ never_fails there.0 limits.bound limits.serial well r.finding (here.0.3 there.0 there.1) here.1
      | inr later ↦
          (let bad = later.1.2 there.0 there.1 in
          never_bad (IsSerialHistory there.0) there.0 well.1 bad.2.schedule bad.2.bad)
    ]

pub livelock_in_one_round : LivelockInOneRound
livelock_in_one_round c matrix limits smaller u settles is =
    let first = is.1 in
    let there = start_there c smaller (settles_too c matrix smaller settles (ap (λ (x : Matrix). x.setup) first.is)) in
    record {
      big = smaller;
      unrolled = (one_round_is_cut matrix smaller).1 (first.lengths, first.are, first.is);
      start = there.0;
      is_start = there.1;
      lost = (first.livelock there.0 there.1).2.lost;
    }

pub no_livelock_in_one_round : NoLivelockInOneRound
no_livelock_in_one_round c matrix limits members u settles is livelock =
    let big = livelock.big in
    let clear = clear_cut c matrix limits is.0 big ((one_round_is_cut matrix big).0 livelock.unrolled) in
    clear_never_lost c big limits (settles_too c matrix big settles livelock.unrolled.setup) clear livelock.start livelock.is_start u livelock.lost

-- ---- specifications

-- where all unrolled matrices are linearizable, each has one
pub always_has_spec : (c : Component) (way : Way) (matrix : Matrix) (bound : ℕ) (start : State) (table : Table) (big : Matrix) → IsStart c (client_matrix way matrix) start → IsTableOf c way matrix bound (rest_of start) table → IsAlwaysLinearizable c matrix way bound → IsUnrolledFrom way matrix big → HasSpec c big
always_has_spec c way matrix bound start table big from are always unrolled =
    let setup : big.setup ≡ (client_matrix way matrix).setup = unrolled.setup ∙ sym (client_setup way matrix) in
    let s = at_rest c big start.cells start.locks in
    let is = other_start c (client_matrix way matrix) big start from setup in
    let mine = table_here c way matrix bound start table from are big s unrolled is in (
      spelled table big 0 [],
      (
        spelled_determines table big,
        (λ smaller other u of at ended.
            reaches_more (IsSerialPrefix s) (λ q. IsTrue (spelled table big 0 [] q)) (begun_spelled c way matrix big bound s table unrolled is mine) other u
            (always_linearizes c matrix way bound big s always unrolled is smaller other u of at ended)),
      ),
    )

pub nodes_serve_all : NodesServeAll
nodes_serve_all c way matrix bound start dead table list big from sound are nodes unrolled =
    always_has_spec c way matrix bound start table big from are (nodes_tell_all c way matrix bound start dead table list from sound are nodes) unrolled
