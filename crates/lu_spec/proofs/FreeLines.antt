-- Lines that list histories with marks and without, in any order.
use Rattle.std.proofs.Common.{◌≡◌, ℕ, ◌+◌, ◌<◌, ◌≤◌, arith, length, drop, get_or, Bool, true, false, ◌⊎◌, List, [], ◌∷◌, ◌++◌, refl, sym, ap, subst, ◌∙◌, append_assoc, inl, inr}
use Rattle.std.specs.Prelude.{Contains, MatchBool, if◌then◌else◌}
use Rattle.std.proofs.lemmas.List.{append-nil, drop_all, length-map, map_push}
use Rattle.std.proofs.lemmas.List.Elements.{Contains-push_cases}
use denote.Ref.{Bor}
use Rattle.lu_text.specs.declared.fault.Fault.{Fault}
use Rattle.lu_text.specs.declared.fault.Fault.TheVariants.{At, Memory}
use Rattle.lu_text.specs.Lines.{lines_of, texts, words_of}
use Rattle.lu_text.specs.Words.{Word}
use Rattle.lu_text.proofs.Reading.{text_more}
use Rattle.lu_history.specs.declared.serial.SerialOp.{SerialOp}
use Rattle.lu_history.specs.declared.serial.SerialOutcome.{SerialOutcome}
use Rattle.lu_test.specs.Matrix.{Matrix}
use Rattle.lu_trie.proofs.Determinism.{conflict_back, no_self_conflict}
use Rattle.lu_spec.specs.declared.fault.SpecFaultKind.{SpecFaultKind}
use Rattle.lu_spec.specs.declared.fault.SpecFaultKind.TheVariants.{Form, Foreign, Nondeterministic}
use Rattle.lu_spec.specs.declared.free.FreeDraft.{FreeDraft}
use Rattle.lu_spec.specs.declared.marked_line.MarkedOp.{MarkedOp}
use Rattle.lu_spec.specs.Beginnings.{Has, IsClosureOf}
use Rattle.lu_spec.specs.Collecting.{has_begun, listing_from, listing_lines, lists}
use Rattle.lu_spec.specs.FirmEnds.{AddsFreely, CollectsFreely, IsOneMoreFree, ListsTheSame, RefusesFreely, RefusesSome}
use Rattle.lu_spec.specs.FreeSpecs.{AreFirmlyApart, AreListedFreely, FirmConflictAt, HasFirmConflictIn, IsFaultOfFree, IsFreeFault, IsFreeSpec, IsListedFreely, SayFreely, erased_all}
use Rattle.lu_spec.specs.MarkedEntries.{SayMarked, erased}
use Rattle.lu_spec.specs.SpecText.{IsListable}
use Rattle.lu_spec.specs.Specs.{AreOf, FitsMatrix}
use Rattle.lu_spec.proofs.Closures.{all_outcomes, all_serial, closure_of, is_closed}
use Rattle.lu_spec.proofs.FirmSets.{AreKeptOf, conflict_from, kept_more, none_kept, refused_from}
use Rattle.lu_spec.proofs.Nexts.{closure_more, either}

-- ---- one more history

no_firm_conflict_with_itself : (q : List MarkedOp) (i : ℕ) (o : SerialOutcome) → FirmConflictAt q q i o → ⊥
no_firm_conflict_with_itself q i o conflict = no_self_conflict (erased q) i o conflict.conflict

firm_back : (q p : List MarkedOp) (i : ℕ) (o : SerialOutcome) → FirmConflictAt q p i o → (u : SerialOutcome) × FirmConflictAt p q i u
firm_back q p i o conflict =
    let back = conflict_back (erased q) (erased p) i o conflict.conflict in
    (back.0, record { conflict = back.1; first = conflict.second; second = conflict.first })

module _ (listed : List (List MarkedOp)) (q : List MarkedOp) where
  pub apart_more : AreFirmlyApart listed → (HasFirmConflictIn listed q → ⊥) → AreFirmlyApart (listed ++ q ∷ [])
  apart_more were apart a among (b, also, i, o, conflict) = by_parts (Contains-push_cases listed q a among) (Contains-push_cases listed q b also)
    where
      by_parts : Contains listed a ⊎ (q ≡ a) → Contains listed b ⊎ (q ≡ b) → ⊥
      by_parts (inl was) (inl too) = were a was (b, too, i, o, conflict)
      by_parts (inl was) (inr is) =
          let back = firm_back a b i o conflict in
          apart (a, was, i, back.0, subst (λ (z : List MarkedOp). FirmConflictAt z a i back.0) (sym is) back.1)
      by_parts (inr is) (inl too) = apart (b, too, i, o, subst (λ (z : List MarkedOp). FirmConflictAt z b i o) (sym is) conflict)
      by_parts (inr is) (inr same) =
          no_firm_conflict_with_itself q i o (subst (λ (z : List MarkedOp). FirmConflictAt z q i o) (sym is) (subst (λ (z : List MarkedOp). FirmConflictAt a z i o) (sym same) conflict))

pub say_more : (matrix : Matrix) (lines : List (ℕ × List Word)) (listed : List (List MarkedOp)) (line : ℕ × List Word) (q : List MarkedOp) → SayFreely matrix lines listed → SayMarked line.1 q → FitsMatrix matrix (erased q) → SayFreely matrix (lines ++ line ∷ []) (listed ++ q ∷ [])
say_more matrix [] [] line q say said fits = (said, fits, tt)
say_more matrix [] (p ∷ listed) line q say said fits = absurd say
say_more matrix (a ∷ lines) [] line q say said fits = absurd say
say_more matrix (a ∷ lines) (p ∷ listed) line q (first, fit, more) said fits = (first, fit, say_more matrix lines listed line q more said fits)

-- ---- lines up to one

-- each history may be listed and is of the matrix
abbrev AreListable : Matrix → List (List SerialOp) → Type 0
AreListable matrix histories = (q : List SerialOp) → Has histories q → IsListable q × FitsMatrix matrix q

-- the lines before this one list histories, of which the draft is
pub record AreFreeTo (matrix : Matrix) (text : List ℕ) (draft : FreeDraft) (n : ℕ) (rest : List (List ℕ)) : Type 0 where
  pub before : List (ℕ × List Word)
  pub listed : List (List MarkedOp)
  pub are : AreListedFreely matrix before listed
  pub each : AreListable matrix (erased_all listed)
  pub closure : IsClosureOf (erased_all listed) draft.set
  pub kept : AreKeptOf listed draft.kept
  pub parts : listing_lines text ≡ before ++ listing_from draft.begun n rest

pub none_collected : (matrix : Matrix) (text : List ℕ) (draft : FreeDraft) → IsClosureOf [] draft.set → draft.kept.ends ≡ [] → draft.kept.asked ≡ [] → draft.begun ≡ false → AreFreeTo matrix text draft 1 (lines_of text)
none_collected matrix text draft closure ends asked begun = record {
  before = [];
  listed = [];
  are = record { say = tt; apart = λ q among. absurd (omega (arith, among.1)) };
  each = λ q has. absurd cc;
  closure = closure;
  kept = none_kept draft.kept ends asked;
  parts = ap (λ (b : Bool). listing_from b 1 (lines_of text)) (sym begun);
}

pub free_spec : (matrix : Matrix) (text : List ℕ) (draft : FreeDraft) (n : ℕ) (rest : List (List ℕ)) → AreFreeTo matrix text draft n rest → IsFreeSpec draft.set × AreOf matrix draft.set
free_spec matrix text draft n rest to =
    let listed = erased_all to.listed in (
      record {
        closed = is_closed listed draft.set to.closure;
        empty = (to.closure []).1 (inl refl);
        serial = all_serial listed draft.set to.closure (λ q has. (to.each q has).0.serial);
        outcomes = all_outcomes listed draft.set to.closure (λ q has k d within. ((to.each q has).0.entries k d within).1);
      },
      closure_of listed draft.set to.closure matrix (λ q has. (to.each q has).1),
    )

pub fault_of : (matrix : Matrix) (C D : List MarkedOp → Type 0) (words : List Word) (kind : SpecFaultKind) → ((q : List MarkedOp) → C q → D q) → IsFaultOfFree matrix C words kind → IsFaultOfFree matrix D words kind
fault_of matrix C D words Form f fault = fault
fault_of matrix C D words Foreign f fault = fault
fault_of matrix C D words Nondeterministic f (q, said, fits, conflict) = (q, said, fits, f q conflict)

module _ (matrix : Matrix) (text : List ℕ) (draft : FreeDraft) (n : ℕ) (line : List ℕ) (rest : List (List ℕ)) (to : AreFreeTo matrix text draft n (line ∷ rest)) where
  pub one_more : (next : FreeDraft) → next.begun ≡ has_begun draft.begun (words_of line) → CollectsFreely matrix draft (words_of line) next → AreFreeTo matrix text next (n + 1) rest
  one_more next begun adds = go (lists draft.begun (words_of line)) to.parts adds
    where
      go : (b : Bool) → listing_lines text ≡ to.before ++ ((if b then (n, words_of line) ∷ [] else []) ++ listing_from (has_begun draft.begun (words_of line)) (n + 1) rest)
          → MatchBool b ((q : List MarkedOp) × IsOneMoreFree matrix draft.kept (words_of line) q × AddsFreely draft next q) (ListsTheSame draft next)
          → AreFreeTo matrix text next (n + 1) rest
      go false parts same = record {
        before = to.before;
        listed = to.listed;
        are = to.are;
        each = to.each;
        closure = subst (IsClosureOf (erased_all to.listed)) (sym same.set) to.closure;
        kept = subst (AreKeptOf to.listed) (sym same.kept) to.kept;
        parts = rw begun parts;
      }
      go true parts (q, more, adds) =
          let pushed : erased_all (to.listed ++ q ∷ []) ≡ erased_all to.listed ++ erased q ∷ [] = map_push erased to.listed q in
          record {
            before = to.before ++ (n, words_of line) ∷ [];
            listed = to.listed ++ q ∷ [];
            are = record {
              say = say_more matrix to.before to.listed (n, words_of line) q to.are.say more.said more.fits;
              apart = apart_more to.listed q to.are.apart (λ conflict. more.apart (refused_from to.listed draft.kept to.kept q to.are.apart conflict));
            };
            each = λ x has. elim (either (erased_all to.listed) (erased q) x (subst (λ (s : List (List SerialOp)). Has s x) pushed has)) [
              | inl was ↦ to.each x was
              | inr is ↦ subst (λ (z : List SerialOp). IsListable z × FitsMatrix matrix z) (sym is) (more.said.0, more.fits)
            ];
            closure = subst (λ (s : List (List SerialOp)). IsClosureOf s next.set) (sym pushed) (closure_more (erased_all to.listed) (erased q) draft.set next.set to.closure adds.set);
            kept = kept_more to.listed q draft.kept next.kept to.kept adds.kept;
            parts = rw begun (parts ∙ sym (append_assoc to.before ((n, words_of line) ∷ []) (listing_from (has_begun draft.begun (words_of line)) (n + 1) rest)));
          }

  pub one_refused : (fault : Fault SpecFaultKind) → RefusesFreely matrix draft (words_of line) n fault → IsFreeFault matrix text fault
  one_refused Memory refused = tt
  one_refused (At kind number) (says, is, fault) = record {
    before = to.before;
    listed = to.listed;
    are = to.are;
    words = words_of line;
    rest = listing_from (has_begun draft.begun (words_of line)) (n + 1) rest;
    parts = rw (is, to.parts, says) refl;
    fault = fault_of matrix (RefusesSome draft.kept) (HasFirmConflictIn to.listed) (words_of line) kind (λ q refused. conflict_from to.listed draft.kept to.kept q refused) fault;
  }

-- ---- the lines of a text

module _ (matrix : Matrix) (text : List ℕ) (draft : FreeDraft) (items : List (Bor (List ℕ))) (i : ℕ) (to : AreFreeTo matrix text draft (i + 1) (drop i (texts items))) where
  module _ (d : Bor (List ℕ)) (words : List Word) (within : i < length items) (is : words ≡ words_of (get_or items i d).now) where
    here : AreFreeTo matrix text draft (i + 1) ((get_or items i d).now ∷ drop (i + 1) (texts items))
    here = subst (AreFreeTo matrix text draft (i + 1)) (text_more items i d within) to

    pub line_collected : (next : FreeDraft) → next.begun ≡ has_begun draft.begun words → CollectsFreely matrix draft words next → AreFreeTo matrix text next (i + 1 + 1) (drop (i + 1) (texts items))
    line_collected next e adds =
        one_more matrix text draft (i + 1) (get_or items i d).now (drop (i + 1) (texts items)) here next (e ∙ ap (has_begun draft.begun) is) (subst (λ (w : List Word). CollectsFreely matrix draft w next) is adds)

    pub line_refused : (fault : Fault SpecFaultKind) → RefusesFreely matrix draft words (i + 1) fault → IsFreeFault matrix text fault
    line_refused fault refused =
        one_refused matrix text draft (i + 1) (get_or items i d).now (drop (i + 1) (texts items)) here fault (subst (λ (w : List Word). RefusesFreely matrix draft w (i + 1) fault) is refused)

  pub all_collected : length items ≤ i → IsListedFreely matrix text draft.set
  all_collected past =
      let none : drop i (texts items) ≡ [] = drop_all i (texts items) (omega (arith, past, length_texts items)) in
      let whole : listing_lines text ≡ to.before = to.parts ∙ (ap (λ (x : List (List ℕ)). to.before ++ listing_from draft.begun (i + 1) x) none ∙ append-nil to.before) in
      (to.listed, subst (λ (x : List (ℕ × List Word)). AreListedFreely matrix x to.listed) (sym whole) to.are, to.closure)
    where
      length_texts : (xs : List (Bor (List ℕ))) → length (texts xs) ≡ length xs
      length_texts xs = simp length-map
