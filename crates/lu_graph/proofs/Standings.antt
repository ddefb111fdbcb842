-- How many operations of a thread have ended, and are called.
use Rattle.std.proofs.Common.{arith, ◌≡◌, ℕ, ◌+◌, ◌<◌, ◌≤◌, false, List, length, map, set, get_or, if◌then◌else◌, Some, None, slice_get, inl, inr, sym, ap, subst, ◌∙◌}
use Rattle.std.specs.List.{slice_index}
use Rattle.std.specs.Option.{option_map}
use Rattle.std.proofs.lemmas.Bool.{cases_lt}
use Rattle.std.proofs.lemmas.List.{get_or_past, get_or-set_other, get_or-set_same, length-map, length-set}
use Rattle.std.proofs.lemmas.Option.{get_or_from_slice_get, slice_get-map, slice_get-get_or, slice_get_past, none-some}
use Rattle.lu_machine.specs.declared.thread.Activity.TheVariants.{Idle, Open}
use Rattle.lu_machine.specs.declared.thread.Frame.{Frame}
use Rattle.lu_machine.specs.declared.thread.Thread.{Thread}
use Rattle.lu_machine.specs.States.{State, is_open, progress, progress_of}
use Rattle.lu_history.specs.Standing.{Standing, standing_of}
use Rattle.lu_graph.specs.Judging.{called}
use Rattle.lu_graph.specs.Possibilities.{HaveCalls}

pub standing_at : (s : State) (t : ℕ) (thread : Thread) → Some thread ≡ slice_get s.threads t → standing_of (progress s) t ≡ progress_of thread
standing_at s t thread at =
    get_or_from_slice_get (map progress_of s.threads) t (progress_of thread) (0, false) (slice_get-map progress_of s.threads t ∙ ap (option_map progress_of) (sym at))

pub none_past : (threads : List Thread) (t : ℕ) → None ≡ slice_get threads t → length threads ≤ t
none_past threads t at =
    elim (cases_lt t (length threads)) as (λ _. length threads ≤ t) [
      | inl within ↦ absurd (let d : Thread = record { done = 0; activity = Idle } in let some = slice_get-get_or threads t d within in none-some (get_or threads t d) (at ∙ some))
      | inr past ↦ past
    ]

pub standing_past : (s : State) (t : ℕ) → None ≡ slice_get s.threads t → standing_of (progress s) t ≡ (0, false)
standing_past s t at =
    let many : length (progress s) ≡ length s.threads = length-map s.threads progress_of in
    let past = none_past s.threads t at in
    get_or_past (progress s) t (0, false) (omega (arith, many, past))

pub called_past : (s : State) (t : ℕ) → None ≡ slice_get s.threads t → called s t ≡ 0
called_past s t at = ap (λ (x : Standing). x.0 + (if x.1 then 1 else 0)) (standing_past s t at)

called_at : (s : State) (t : ℕ) (thread : Thread) → Some thread ≡ slice_get s.threads t → called s t ≡ thread.done + (if is_open thread.activity then 1 else 0)
called_at s t thread at = ap (λ (x : Standing). x.0 + (if x.1 then 1 else 0)) (standing_at s t thread at)

pub called_idle : (s : State) (t : ℕ) (thread : Thread) → Some thread ≡ slice_get s.threads t → thread.activity ≡ Idle → called s t ≡ thread.done
called_idle s t thread at idle = let is = called_at s t thread at ∙ ap (λ a. thread.done + (if is_open a then 1 else 0)) idle in omega (arith, is)

pub called_open : (s : State) (t : ℕ) (thread : Thread) (f : Frame) → Some thread ≡ slice_get s.threads t → thread.activity ≡ Open f → called s t ≡ thread.done + 1
called_open s t thread f at busy = called_at s t thread at ∙ ap (λ a. thread.done + (if is_open a then 1 else 0)) busy

pub called_after : (s : State) (t : ℕ) → length s.threads ≤ t → called s t ≡ 0
called_after s t past = called_past s t (sym (slice_get_past s.threads t past))

-- ---- how many of the first threads are called

pub record HaveCallsSoFar (s : State) (done : ℕ) (calls : List ℕ) : Type 0 where
  pub eight : length calls ≡ 8
  pub before : (u : ℕ) → u < done → slice_index calls u ≡ called s u
  pub behind : (u : ℕ) → done ≤ u → slice_index calls u ≡ 0

pub calls_more : (s : State) (done n : ℕ) (calls now : List ℕ) → HaveCallsSoFar s done calls → done < 8 → n ≡ called s done → now ≡ set calls done n → HaveCallsSoFar s (done + 1) now
calls_more s done n calls now known few is set_so =
    let eight = known.eight in
    let within : done < length calls = omega (arith, eight, few) in
    record {
      eight = ap (λ (xs : List ℕ). length xs) set_so ∙ (length-set calls done n ∙ eight);
      before = λ u lt. elim (cases_lt u done) as (λ _. slice_index now u ≡ called s u) [
        | inl less ↦ ap (λ (xs : List ℕ). slice_index xs u) set_so ∙ (get_or-set_other calls done u n 0 (λ e. omega (arith, e, less)) ∙ known.before u less)
        | inr ge ↦
            (let here : done ≡ u = omega (arith, ge, lt) in
            subst (λ k. slice_index now k ≡ called s k) here (ap (λ (xs : List ℕ). slice_index xs done) set_so ∙ (get_or-set_same calls done n 0 within ∙ is)))
      ];
      behind = λ u past. ap (λ (xs : List ℕ). slice_index xs u) set_so ∙ (get_or-set_other calls done u n 0 (λ e. omega (arith, e, past)) ∙ known.behind u (omega (arith, past)));
    }

pub calls_all : (s : State) (done : ℕ) (calls : List ℕ) → HaveCallsSoFar s done calls → length s.threads ≤ done → HaveCalls s calls
calls_all s done calls known all u = elim (cases_lt u done) as (λ _. slice_index calls u ≡ called s u) [
  | inl less ↦ known.before u less
  | inr ge ↦ known.behind u ge ∙ sym (called_after s u (omega (arith, all, ge)))
]
