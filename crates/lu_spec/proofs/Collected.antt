-- Lines that list histories in any order.
use Rattle.std.proofs.Common.{◌≡◌, ℕ, ◌+◌, ◌<◌, ◌≤◌, arith, length, drop, get_or, Bool, true, false, ◌⊎◌, List, [], ◌∷◌, ◌++◌, refl, sym, ap, subst, ◌∙◌, append_assoc, inl, inr}
use Rattle.std.specs.Prelude.{MatchBool, if◌then◌else◌}
use Rattle.lu_text.specs.declared.fault.Fault.{Fault}
use Rattle.lu_text.specs.declared.fault.Fault.TheVariants.{At, Memory}
use Rattle.std.proofs.lemmas.List.{append-nil, drop_all, length-map}
use Rattle.lu_text.specs.Lines.{lines_of, texts, words_of}
use Rattle.lu_text.proofs.Reading.{text_more}
use denote.Ref.{Bor}
use Rattle.lu_text.specs.Words.{Word}
use Rattle.lu_history.specs.declared.serial.SerialOp.{SerialOp}
use Rattle.lu_test.specs.Matrix.{Matrix}
use Rattle.lu_trie.specs.Conflicts.{ConflictAt}
use Rattle.lu_spec.specs.declared.fault.SpecFaultKind.{SpecFaultKind}
use Rattle.lu_spec.specs.declared.fault.SpecFaultKind.TheVariants.{Form, Foreign, Nondeterministic}
use Rattle.lu_spec.specs.Beginnings.{Has, Begins, AddsBeginnings, IsClosureOf}
use Rattle.lu_spec.specs.Specs.{AreOf, FitsMatrix, IsSpec}
use Rattle.lu_spec.specs.SpecText.{HasConflictIn, SayHistory}
use Rattle.lu_spec.specs.Collecting.{AddsLine, AreCollected, IsCollectFault, IsCollectedAs, IsFaultOfWords, IsLineRefusal, IsOneMore, SayOf, has_begun, listing_from, listing_lines, lists}
use Rattle.lu_spec.proofs.Closures.{closure_of, conflict_on, is_spec, none_right}
use Rattle.lu_spec.proofs.Nexts.{closure_more, deterministic_more}
use Rattle.lu_spec.proofs.Sets.{begins_self, has_cons}

-- ---- conflicts with a set and with what it is the closure of

pub in_set : (listed set : List (List SerialOp)) (q : List SerialOp) → IsClosureOf listed set → HasConflictIn listed q → HasConflictIn set q
in_set listed set q closure (p, has, i, o, conflict) = (p, (closure p).1 (inr (p, begins_self p, has)), i, o, conflict)

pub in_listed : (listed set : List (List SerialOp)) (q : List SerialOp) → IsClosureOf listed set → HasConflictIn set q → HasConflictIn listed q
in_listed listed set q closure (p, has, i, o, conflict) = go ((closure p).0 has)
  where
    go : (p ≡ []) ⊎ ((h : List SerialOp) × Begins p h × Has listed h) → HasConflictIn listed q
    go (inl empty) = absurd (none_right q i o (subst (λ (x : List SerialOp). ConflictAt q x i o) empty conflict))
    go (inr (h, begins, member)) = (h, member, i, o, conflict_on q p q h i o (begins_self q) begins conflict)

words_fault : (matrix : Matrix) (listed set : List (List SerialOp)) (words : List Word) (kind : SpecFaultKind) → IsClosureOf listed set → IsFaultOfWords matrix set words kind → IsFaultOfWords matrix listed words kind
words_fault matrix listed set words Form closure fault = fault
words_fault matrix listed set words Foreign closure fault = fault
words_fault matrix listed set words Nondeterministic closure (q, said, fits, conflict) = (q, said, fits, in_listed listed set q closure conflict)

-- ---- what is said

say_more : (matrix : Matrix) (lines : List (ℕ × List Word)) (listed : List (List SerialOp)) (line : ℕ × List Word) (q : List SerialOp) → SayOf matrix lines listed → SayHistory line.1 q → FitsMatrix matrix q → SayOf matrix (lines ++ line ∷ []) (listed ++ q ∷ [])
say_more matrix [] [] line q say said fits = (said, fits, tt)
say_more matrix [] (p ∷ listed) line q say said fits = absurd say
say_more matrix (a ∷ lines) [] line q say said fits = absurd say
say_more matrix (a ∷ lines) (p ∷ listed) line q (first, fit, more) said fits = (first, fit, say_more matrix lines listed line q more said fits)

said_each : (matrix : Matrix) (lines : List (ℕ × List Word)) (listed : List (List SerialOp)) → SayOf matrix lines listed → (q : List SerialOp) → Has listed q → ((words : List Word) × SayHistory words q) × FitsMatrix matrix q
said_each matrix [] [] say q has = absurd cc
said_each matrix [] (p ∷ listed) say q has = absurd say
said_each matrix (a ∷ lines) [] say q has = absurd say
said_each matrix (a ∷ lines) (p ∷ listed) (first, fit, more) q has = elim (has_cons p listed q has) [
  | inl is ↦ subst (λ (x : List SerialOp). ((words : List Word) × SayHistory words x) × FitsMatrix matrix x) (sym is) ((a.1, first), fit)
  | inr member ↦ said_each matrix lines listed more q member
]

-- a line that lists a history adds its beginnings
pub adds_line : (matrix : Matrix) (begun : Bool) (set new : List (List SerialOp)) (words : List Word) (listing : Bool) (q : List SerialOp) → listing ≡ lists begun words → listing ≡ true → IsOneMore matrix set words q → AddsBeginnings set new q → AddsLine matrix begun set words new
adds_line matrix begun set new words listing q is says more adds = rw (sym is ∙ says) (q, more, adds)

-- ---- lines up to one

-- the lines before this one list histories, of which the set is the closure
pub record AreCollectedTo (matrix : Matrix) (text : List ℕ) (set : List (List SerialOp)) (begun : Bool) (n : ℕ) (rest : List (List ℕ)) : Type 0 where
  pub before : List (ℕ × List Word)
  pub listed : List (List SerialOp)
  pub are : AreCollected matrix before listed
  pub closure : IsClosureOf listed set
  pub parts : listing_lines text ≡ before ++ listing_from begun n rest

pub none_collected : (matrix : Matrix) (text : List ℕ) (set : List (List SerialOp)) → IsClosureOf [] set → AreCollectedTo matrix text set false 1 (lines_of text)
none_collected matrix text set closure = record {
  before = [];
  listed = [];
  are = record { say = tt; deterministic = λ h q i o has also conflict. absurd cc };
  closure = closure;
  parts = refl;
}

pub so_far_deterministic : (matrix : Matrix) (text : List ℕ) (set : List (List SerialOp)) (begun : Bool) (n : ℕ) (rest : List (List ℕ)) → AreCollectedTo matrix text set begun n rest → IsSpec set × AreOf matrix set
so_far_deterministic matrix text set begun n rest to =
    let each = said_each matrix to.before to.listed to.are.say in (
      is_spec to.listed set to.closure to.are.deterministic (λ q has. (each q has).0.1.0.serial) (λ q has k d within. ((each q has).0.1.0.entries k d within).1),
      closure_of to.listed set to.closure matrix (λ q has. (each q has).1),
    )

module _ (matrix : Matrix) (text : List ℕ) (set : List (List SerialOp)) (begun : Bool) (n : ℕ) (line : List ℕ) (rest : List (List ℕ)) (to : AreCollectedTo matrix text set begun n (line ∷ rest)) where
  pub one_more : (new : List (List SerialOp)) → AddsLine matrix begun set (words_of line) new → AreCollectedTo matrix text new (has_begun begun (words_of line)) (n + 1) rest
  one_more new adds = go (lists begun (words_of line)) to.parts adds
    where
      go : (b : Bool) → listing_lines text ≡ to.before ++ ((if b then (n, words_of line) ∷ [] else []) ++ listing_from (has_begun begun (words_of line)) (n + 1) rest)
          → MatchBool b ((q : List SerialOp) × IsOneMore matrix set (words_of line) q × AddsBeginnings set new q) (new ≡ set)
          → AreCollectedTo matrix text new (has_begun begun (words_of line)) (n + 1) rest
      go false parts same = record {
        before = to.before;
        listed = to.listed;
        are = to.are;
        closure = subst (IsClosureOf to.listed) (sym same) to.closure;
        parts = parts;
      }
      go true parts (q, more, adds) = record {
        before = to.before ++ (n, words_of line) ∷ [];
        listed = to.listed ++ q ∷ [];
        are = record {
          say = say_more matrix to.before to.listed (n, words_of line) q to.are.say more.said more.fits;
          deterministic = deterministic_more to.listed q to.are.deterministic (λ conflict. more.apart (in_set to.listed set q to.closure conflict));
        };
        closure = closure_more to.listed q set new to.closure adds;
        parts = parts ∙ sym (append_assoc to.before ((n, words_of line) ∷ []) (listing_from (has_begun begun (words_of line)) (n + 1) rest));
      }

  pub one_refused : (fault : Fault SpecFaultKind) → IsLineRefusal matrix begun set (words_of line) n fault → IsCollectFault matrix text fault
  one_refused Memory refused = tt
  one_refused (At kind number) (says, is, fault) = record {
    before = to.before;
    listed = to.listed;
    are = to.are;
    words = words_of line;
    rest = listing_from (has_begun begun (words_of line)) (n + 1) rest;
    parts = rw (is, to.parts, says) refl;
    fault = words_fault matrix to.listed set (words_of line) kind to.closure fault;
  }

-- ---- the lines of a text

module _ (matrix : Matrix) (text : List ℕ) (set : List (List SerialOp)) (begun : Bool) (items : List (Bor (List ℕ))) (i : ℕ) (to : AreCollectedTo matrix text set begun (i + 1) (drop i (texts items))) where
  module _ (d : Bor (List ℕ)) (words : List Word) (within : i < length items) (is : words ≡ words_of (get_or items i d).now) where
    here : AreCollectedTo matrix text set begun (i + 1) ((get_or items i d).now ∷ drop (i + 1) (texts items))
    here = subst (AreCollectedTo matrix text set begun (i + 1)) (text_more items i d within) to

    pub line_collected : (new : List (List SerialOp)) (now : Bool) → now ≡ has_begun begun words → AddsLine matrix begun set words new → AreCollectedTo matrix text new now (i + 1 + 1) (drop (i + 1) (texts items))
    line_collected new now e adds =
        let line : List ℕ = (get_or items i d).now in
        let of_line : AddsLine matrix begun set (words_of line) new = subst (λ (w : List Word). AddsLine matrix begun set w new) is adds in
        let more = one_more matrix text set begun (i + 1) line (drop (i + 1) (texts items)) here new of_line in
        subst (λ (b : Bool). AreCollectedTo matrix text new b (i + 1 + 1) (drop (i + 1) (texts items))) (sym (e ∙ ap (has_begun begun) is)) more

    pub line_refused : (fault : Fault SpecFaultKind) → IsLineRefusal matrix begun set words (i + 1) fault → IsCollectFault matrix text fault
    line_refused fault refused =
        let line : List ℕ = (get_or items i d).now in
        one_refused matrix text set begun (i + 1) line (drop (i + 1) (texts items)) here fault (subst (λ (w : List Word). IsLineRefusal matrix begun set w (i + 1) fault) is refused)

  pub all_collected : length items ≤ i → IsCollectedAs matrix text set
  all_collected past =
      let none : drop i (texts items) ≡ [] = drop_all i (texts items) (omega (arith, past, length_texts items)) in
      let whole : listing_lines text ≡ to.before = to.parts ∙ (ap (λ (x : List (List ℕ)). to.before ++ listing_from begun (i + 1) x) none ∙ append-nil to.before) in
      (to.listed, subst (λ (x : List (ℕ × List Word)). AreCollected matrix x to.listed) (sym whole) to.are, to.closure)
    where
      length_texts : (xs : List (Bor (List ℕ))) → length (texts xs) ≡ length xs
      length_texts xs = simp length-map
