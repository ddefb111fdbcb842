-- Every fault of lines that are to list histories with marks or without.
use Rattle.std.proofs.Common.{◌≡◌, ℕ, ◌+◌, ◌<◌, ◌≤◌, arith, length, drop, get_or, Bool, true, false, List, [], ◌∷◌, ◌++◌, Option, Some, None, refl, sym, ap, subst, ◌∙◌, append_assoc}
use Rattle.std.specs.Prelude.{MatchBool, if◌then◌else◌}
use Rattle.std.specs.Option.{option_to_list}
use Rattle.std.proofs.lemmas.List.{append-nil, drop_all, length-map}
use denote.Ref.{Bor}
use Rattle.lu_text.specs.declared.fault.Fault.TheVariants.{At}
use Rattle.lu_text.specs.Lines.{lines_of, texts, words_of}
use Rattle.lu_text.specs.Words.{Word}
use Rattle.lu_text.proofs.Reading.{text_more}
use Rattle.lu_test.specs.Matrix.{Matrix}
use Rattle.lu_spec.specs.declared.fault.SpecLineFault.{SpecLineFault}
use Rattle.lu_spec.specs.declared.given.Marks.{Marks}
use Rattle.lu_spec.specs.declared.free.FreeDraft.{FreeDraft}
use Rattle.lu_spec.specs.declared.marked_line.MarkedOp.{MarkedOp}
use Rattle.lu_spec.specs.Collecting.{has_begun, listing_from, listing_lines, lists}
use Rattle.lu_spec.specs.EveryFault.{AreSpecFaults}
use Rattle.lu_spec.specs.EveryFreeFault.{AreFreeFaults, AreFreeFaultsFrom, AreGivenFaults, IsGivenListedAsRead, JudgesFreely, ListsFreely}
use Rattle.lu_spec.specs.FirmEnds.{AddsFreely, CollectsFreely, IsOneMoreFree, ListsTheSame, RefusesFreely, RefusesSome}
use Rattle.lu_spec.specs.FreeSpecs.{AreFirmlyApart, AreListedFreely, HasFirmConflictIn, IsFreeFault, is_marked}
use Rattle.lu_spec.specs.Laws.{IsListedAsRead}
use Rattle.lu_spec.proofs.FaultLines.{listed_as_read}
use Rattle.lu_spec.proofs.FirmSets.{AreKeptOf, conflict_from, kept_more, none_kept, refused_from}
use Rattle.lu_spec.proofs.FreeLines.{apart_more, fault_of, say_more}

-- ---- lines up to one

-- the faults so far, with those of the lines from here on, are those of the text
pub record AreToldTo (matrix : Matrix) (text : List ℕ) (draft : FreeDraft) (faults : List SpecLineFault) (n : ℕ) (rest : List (List ℕ)) : Type 0 where
  pub gathered : List (List MarkedOp)
  pub apart : AreFirmlyApart gathered
  pub kept : AreKeptOf gathered draft.kept
  pub so_far : (others : List SpecLineFault) → AreFreeFaultsFrom matrix gathered (listing_from draft.begun n rest) others → AreFreeFaults matrix text (faults ++ others)

pub none_told : (matrix : Matrix) (text : List ℕ) (draft : FreeDraft) (faults : List SpecLineFault) → draft.kept.ends ≡ [] → draft.kept.asked ≡ [] → draft.begun ≡ false → faults ≡ [] → AreToldTo matrix text draft faults 1 (lines_of text)
none_told matrix text draft faults ends asked begun none = record {
  gathered = [];
  apart = λ q among. absurd (omega (arith, among.1));
  kept = none_kept draft.kept ends asked;
  so_far = λ others are. rw none (subst (λ (b : Bool). AreFreeFaultsFrom matrix [] (listing_from b 1 (lines_of text)) others) begun are);
}

module _ (matrix : Matrix) (text : List ℕ) (draft : FreeDraft) (faults : List SpecLineFault) (n : ℕ) (line : List ℕ) (rest : List (List ℕ)) (to : AreToldTo matrix text draft faults n (line ∷ rest)) where
  abbrev others_of : Bool → List (ℕ × List Word)
  others_of b = (if b then (n, words_of line) ∷ [] else []) ++ listing_from (has_begun draft.begun (words_of line)) (n + 1) rest

  pub one_collected : (next : FreeDraft) → next.begun ≡ has_begun draft.begun (words_of line) → CollectsFreely matrix draft (words_of line) next → AreToldTo matrix text next faults (n + 1) rest
  one_collected next begun adds = go (lists draft.begun (words_of line)) to.so_far adds
    where
      go : (b : Bool) → ((others : List SpecLineFault) → AreFreeFaultsFrom matrix to.gathered (others_of b) others → AreFreeFaults matrix text (faults ++ others))
          → MatchBool b ((q : List MarkedOp) × IsOneMoreFree matrix draft.kept (words_of line) q × AddsFreely draft next q) (ListsTheSame draft next)
          → AreToldTo matrix text next faults (n + 1) rest
      go false so_far same = record {
        gathered = to.gathered;
        apart = to.apart;
        kept = subst (AreKeptOf to.gathered) (sym same.kept) to.kept;
        so_far = λ others are. so_far others (subst (λ (b : Bool). AreFreeFaultsFrom matrix to.gathered (listing_from b (n + 1) rest) others) begun are);
      }
      go true so_far (q, more, adds) =
          let clear : HasFirmConflictIn to.gathered q → ⊥ = λ conflict. more.apart (refused_from to.gathered draft.kept to.kept q to.apart conflict) in
          record {
            gathered = to.gathered ++ q ∷ [];
            apart = apart_more to.gathered q to.apart clear;
            kept = kept_more to.gathered q draft.kept next.kept to.kept adds.kept;
            so_far = λ others are.
                let behind = subst (λ (b : Bool). AreFreeFaultsFrom matrix (to.gathered ++ q ∷ []) (listing_from b (n + 1) rest) others) begun are in
                so_far others (None, to.gathered ++ q ∷ [], others, (q, record { said = more.said; fits = more.fits; apart = clear }, refl), behind, refl);
          }

  pub one_faulty : (next : FreeDraft) (fault : SpecLineFault) → next.begun ≡ has_begun draft.begun (words_of line) → ListsTheSame draft next → RefusesFreely matrix draft (words_of line) n (At fault.kind fault.line) → AreToldTo matrix text next (faults ++ fault ∷ []) (n + 1) rest
  one_faulty next fault begun same refused = record {
    gathered = to.gathered;
    apart = to.apart;
    kept = subst (AreKeptOf to.gathered) (sym same.kept) to.kept;
    so_far = λ others are.
        let behind = subst (λ (b : Bool). AreFreeFaultsFrom matrix to.gathered (listing_from b (n + 1) rest) others) begun are in
        let told = fault_of matrix (RefusesSome draft.kept) (HasFirmConflictIn to.gathered) (words_of line) fault.kind (λ q some. conflict_from to.gathered draft.kept to.kept q some) refused.2 in
        let lists_one = rw refused.0 at to.so_far in
        subst (AreFreeFaults matrix text) (sym (append_assoc faults (fault ∷ []) others))
        (lists_one (fault ∷ others) (Some fault, to.gathered, others, (refused.1, told, refl), behind, refl));
  }

  pub one_judged : (returned : FreeDraft × Option SpecLineFault) → JudgesFreely matrix draft (words_of line) n returned → AreToldTo matrix text returned.0 (faults ++ option_to_list returned.1) (n + 1) rest
  one_judged (next, None) judged = subst (λ (f : List SpecLineFault). AreToldTo matrix text next f (n + 1) rest) (sym (append-nil faults)) (one_collected next judged.0 judged.1)
  one_judged (next, Some fault) judged = one_faulty next fault judged.0 judged.1.0 judged.1.1

-- ---- the lines of a text

module _ (matrix : Matrix) (text : List ℕ) (draft : FreeDraft) (faults : List SpecLineFault) (items : List (Bor (List ℕ))) (i : ℕ) (to : AreToldTo matrix text draft faults (i + 1) (drop i (texts items))) where
  pub line_judged : (d : Bor (List ℕ)) (words : List Word) (returned : FreeDraft × Option SpecLineFault) (now : List SpecLineFault) → i < length items → words ≡ words_of (get_or items i d).now → JudgesFreely matrix draft words (i + 1) returned → now ≡ faults ++ option_to_list returned.1 → AreToldTo matrix text returned.0 now (i + 1 + 1) (drop (i + 1) (texts items))
  line_judged d words returned now within is judged e =
      let here : AreToldTo matrix text draft faults (i + 1) ((get_or items i d).now ∷ drop (i + 1) (texts items)) = subst (AreToldTo matrix text draft faults (i + 1)) (text_more items i d within) to in
      rw e (one_judged matrix text draft faults (i + 1) (get_or items i d).now (drop (i + 1) (texts items)) here returned (subst (λ (w : List Word). JudgesFreely matrix draft w (i + 1) returned) is judged))

  pub all_told : length items ≤ i → AreFreeFaults matrix text faults
  all_told past =
      let none : drop i (texts items) ≡ [] = drop_all i (texts items) (omega (arith, past, length_texts items)) in
      let nothing : AreFreeFaultsFrom matrix to.gathered (listing_from draft.begun (i + 1) (drop i (texts items))) [] = rw none refl in
      subst (AreFreeFaults matrix text) (append-nil faults) (to.so_far [] nothing)
    where
      length_texts : (xs : List (Bor (List ℕ))) → length (texts xs) ≡ length xs
      length_texts xs = simp length-map

-- ---- what is told agrees with the reader

-- nothing is told where the text lists histories; else the first fault is the reader's
abbrev FreelyTold : Matrix → List ℕ → List SpecLineFault → Type 0
FreelyTold matrix text [] = ListsFreely matrix text
FreelyTold matrix text (first ∷ others) = IsFreeFault matrix text (At first.kind first.line)

told_from : (matrix : Matrix) (text : List ℕ) (lines before : List (ℕ × List Word)) (listed : List (List MarkedOp)) (faults : List SpecLineFault) → listing_lines text ≡ before ++ lines → AreListedFreely matrix before listed → AreFreeFaultsFrom matrix listed lines faults → FreelyTold matrix text faults
told_from matrix text [] before listed faults parts are none =
    let whole : listing_lines text ≡ before = parts ∙ append-nil before in
    subst (FreelyTold matrix text) (sym none) (listed, subst (λ (x : List (ℕ × List Word)). AreListedFreely matrix x listed) (sym whole) are)
told_from matrix text (line ∷ lines) before listed faults parts are (None, after, others, judged, more, is) =
    let q = judged.0 in
    let taken = judged.1 in
    let longer : listing_lines text ≡ (before ++ line ∷ []) ++ lines = parts ∙ sym (append_assoc before (line ∷ []) lines) in
    let with_q : AreListedFreely matrix (before ++ line ∷ []) (listed ++ q ∷ []) = record {
      say = say_more matrix before listed line q are.say taken.said taken.fits;
      apart = apart_more listed q are.apart taken.apart;
    } in
    subst (FreelyTold matrix text) (sym is) (told_from matrix text lines (before ++ line ∷ []) (listed ++ q ∷ []) others longer with_q (subst (λ (x : List (List MarkedOp)). AreFreeFaultsFrom matrix x lines others) judged.2 more))
told_from matrix text (line ∷ lines) before listed faults parts are (Some fault, after, others, judged, more, is) =
    subst (FreelyTold matrix text) (sym is) (record {
      before = before;
      listed = listed;
      are = are;
      words = line.1;
      rest = lines;
      parts = parts ∙ ap (λ (k : ℕ). before ++ (k, line.1) ∷ lines) (sym judged.0);
      fault = judged.1;
    })

pub given_told : (marks : Marks) (matrix : Matrix) (text : List ℕ) (faults : List SpecLineFault) → AreGivenFaults marks matrix text faults → IsGivenListedAsRead marks matrix text faults
given_told marks matrix text faults are = go (is_marked marks text) refl faults are
  where
    free : (f : List SpecLineFault) → is_marked marks text ≡ true → FreelyTold matrix text f → IsGivenListedAsRead marks matrix text f
    free [] e told = rw e told
    free (first ∷ others) e told = rw e told

    plain : (f : List SpecLineFault) → is_marked marks text ≡ false → IsListedAsRead matrix text f → IsGivenListedAsRead marks matrix text f
    plain [] e told = rw e told
    plain (first ∷ others) e told = rw e told

    go : (b : Bool) → is_marked marks text ≡ b → (f : List SpecLineFault) → MatchBool b (AreFreeFaults matrix text f) (AreSpecFaults matrix text f) → IsGivenListedAsRead marks matrix text f
    go true e f told = free f e (told_from matrix text (listing_lines text) [] [] f refl (record { say = tt; apart = λ q among. absurd (omega (arith, among.1)) }) told)
    go false e f told = plain f e (listed_as_read matrix text f told)
