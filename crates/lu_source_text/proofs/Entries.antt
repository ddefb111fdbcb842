-- Entries of instructions, after one line after the other.
use Rattle.std.proofs.Common.{◌≡◌, ◌≢◌, ℕ, zero, suc, add-one, ◌+◌, ◌-◌, ◌<◌, ◌≤◌, true, false, if◌then◌else◌, List, [], ◌∷◌, ◌++◌, length, get_or, map, take, drop, set, replicate, Option, Some, None, Result, Ok, Err, refl, sym, ap, subst, ◌∙◌, arith, length-append, append_assoc, ne_eqb, eq-eqb, inl, inr}
use Rattle.std.specs.Prelude.{min, reverse, nat_lt, IfOk, OnOk, Vec}
use Rattle.std.specs.Option.{option_map}
use Rattle.std.specs.List.{slice_get}
use Rattle.std.proofs.lemmas.Bool.{cases_eq, cases_lt}
use Rattle.std.proofs.lemmas.Bool.Decides.{nat_tests}
use Rattle.std.proofs.lemmas.List.{reverse-append, length-map, length-take-le, map-set, length-replicate, get_or-replicate, get_or_append_left, get_or-append_right, get_or-set_same, get_or-set_other, get_or-map}
use Rattle.std.proofs.lemmas.Option.{slice_get_past, slice_get-get_or}
use Rattle.std.proofs.Math.Seq.{take-length, take-suc}
use Rattle.lu_text.specs.Faults.{going_on, lines_after, on_line}
use Rattle.lu_text.proofs.Reading.{line_ok}
use Rattle.lu_text.specs.Words.{Word}
use Rattle.lu_text.specs.declared.fault.Fault.{Fault}
use Rattle.lu_text.specs.declared.fault.Fault.TheVariants.{At}
use Rattle.lu_source.specs.Code.{operation_code, size}
use Rattle.lu_source.specs.Trees.{Program}
use Rattle.lu_source.specs.Programs.{operation_of}
use Rattle.lu_source.specs.Shapes.{tree_of}
use Rattle.lu_source.specs.declared.origin.Origin.{Origin}
use Rattle.lu_source.specs.declared.origin.Origins.{Origins}
use Rattle.lu_source.specs.declared.tree.Operation.{Operation as HeldOperation}
use Rattle.lu_source_text.specs.declared.draft.Begun.{Begun as HeldBegun}
use Rattle.lu_source_text.specs.declared.draft.Draft.{Draft as HeldDraft}
use Rattle.lu_source_text.specs.declared.draft.Block.{Block as HeldBlock}
use Rattle.lu_source_text.specs.Drafts.{begun_of, block_of, blocks_of, drafted_of}
use Rattle.lu_source_text.specs.Grammar.{Block, Drafted, Kind, either, line_of, nothing, source_grammar}
use Rattle.lu_source_text.specs.Origins.{AreFilled, AreOrigins, Entry, FailsAs, Standing, are_indexed, entries, entries_at, entry_of, standings, after_line, after_lines, block_size, filled, if_there, origin_from, size_so_far, standing_at, alone_at, closed_at, closed_standing, open_standing}
use Rattle.lu_source_text.proofs.Drafts.{map_last}
use Rattle.lu_source_text.proofs.Innermost.{map_both}

-- ---- sizes

size_last : (xs : List Block) (b : Block) → size_so_far (xs ++ b ∷ []) ≡ block_size b + size_so_far xs
size_last [] b = refl
size_last (x ∷ xs) b =
    let is = size_last xs b in
    omega arith

-- the outermost block makes its instructions, and the others theirs
size_more : (b : HeldBlock) (bs : List HeldBlock) → size_so_far (blocks_of (b ∷ bs)) ≡ block_size (block_of b) + size_so_far (blocks_of bs)
size_more b bs =
    ap size_so_far (ap (map block_of) (reverse-append (b ∷ []) bs) ∙ map_both (reverse bs) (b ∷ []))
    ∙ size_last (blocks_of bs) (block_of b)

-- the same of a slice that is not empty
pub size_first : (bs : List HeldBlock) (b : HeldBlock) → 1 ≤ length bs → b ≡ get_or bs 0 b → size_so_far (blocks_of bs) ≡ block_size (block_of b) + size_so_far (blocks_of (take (length bs - 1) (drop 1 bs)))
size_first [] b h is = absurd (omega arith)
size_first (x ∷ bs) b h is =
    let len : length bs ≡ length (x ∷ bs) - 1 = omega arith in
    let rest : take (length (x ∷ bs) - 1) (drop 1 (x ∷ bs)) ≡ bs = subst (λ n. take n bs ≡ bs) len (take-length bs) in
    size_more x bs ∙ ap (λ x. block_size (block_of x) + size_so_far (blocks_of bs)) (sym is)
    ∙ ap (λ l. block_size (block_of b) + size_so_far (blocks_of l)) (sym rest)

-- ---- the entries of one operation

none_more : {X : Type 0} (xs : List X) (k : ℕ) (x : X) → k ≡ 0 → xs ++ replicate k x ≡ xs
none_more xs k x is = ap (λ k. xs ++ replicate k x) is ∙ append_nil xs
  where
    append_nil : {X : Type 0} (xs : List X) → xs ++ [] ≡ xs
    append_nil [] = refl
    append_nil (y ∷ ys) = ap (λ zs. y ∷ zs) (append_nil ys)

-- none is missing
pub filled_done : (n : ℕ) (s : Standing) (xs : List Entry) → s.0 ≤ length xs → filled n s xs ≡ xs
filled_done n s xs h = none_more xs (s.0 - length xs) (n, s.1) (omega arith)

-- one less is missing
pub filled_more : (n : ℕ) (s : Standing) (xs ys : List Entry) → length xs < s.0 → ys ≡ xs ++ (n, s.1) ∷ [] → filled n s ys ≡ filled n s xs
filled_more n s xs ys h is =
    let k : s.0 - length xs ≡ suc (s.0 - length ys) = omega (arith, ap length is, length-append xs ((n, s.1) ∷ [])) in
    ap (λ l. l ++ replicate (s.0 - length ys) (n, s.1)) is
    ∙ append_assoc xs ((n, s.1) ∷ []) (replicate (s.0 - length ys) (n, s.1))
    ∙ ap (λ k. xs ++ replicate k (n, s.1)) (sym k)

-- one entry more, in memory
pub fill_more : (line len : ℕ) (locals : List Word) (row new : List Origin) (one : Origin) → length row < len → new ≡ row ++ one ∷ [] → entry_of one ≡ (line, locals)
    → filled line (len, locals) (map entry_of new) ≡ filled line (len, locals) (map entry_of row)
fill_more line len locals row new one lt is entry =
    filled_more line (len, locals) (map entry_of row) (map entry_of new) (omega (arith, length-map row entry_of))
    (ap (map entry_of) is ∙ map_last entry_of row one ∙ ap (λ e. map entry_of row ++ e ∷ []) entry)

-- what is missing of an instruction comes from this line
pub filled_get : (n : ℕ) (s : Standing) (xs : List Entry) (p : ℕ) → slice_get (filled n s xs) p ≡ either (slice_get xs p) (if_there n s p)
filled_get n s xs p = elim (cases_lt p (length xs)) as (λ _. slice_get (filled n s xs) p ≡ either (slice_get xs p) (if_there n s p)) [
  | inl lt ↦ inside lt
  | inr ge ↦ outside ge
]
  where
    more : List Entry
    more = replicate (s.0 - length xs) (n, s.1)

    total : length (xs ++ more) ≡ length xs + (s.0 - length xs)
    total = length-append xs more ∙ ap (λ k. length xs + k) (length-replicate (s.0 - length xs) (n, s.1))

    inside : p < length xs → slice_get (filled n s xs) p ≡ either (slice_get xs p) (if_there n s p)
    inside lt =
        slice_get-get_or (xs ++ more) p (0, []) (omega (arith, total))
        ∙ ap Some (get_or_append_left xs more (0, []) p lt)
        ∙ sym (ap (λ o. either o (if_there n s p)) (slice_get-get_or xs p (0, []) lt))

    there : length xs ≤ p → p < s.0 → slice_get (filled n s xs) p ≡ if_there n s p
    there ge lt =
        let yes : nat_lt p s.0 ≡ true = grind (arith, nat_tests) in
        slice_get-get_or (xs ++ more) p (0, []) (omega (arith, total))
        ∙ ap Some (get_or-append_right xs more (length xs) p (0, []) refl ge
        ∙ get_or-replicate (s.0 - length xs) (p - length xs) (n, s.1) (0, []) (omega arith))
        ∙ sym (ap (λ t. if t then Some (n, s.1) else None) yes)

    gone : length xs ≤ p → s.0 ≤ p → slice_get (filled n s xs) p ≡ if_there n s p
    gone ge past =
        let no : nat_lt p s.0 ≡ false = grind (arith, nat_tests) in
        slice_get_past (xs ++ more) p (omega (arith, total))
        ∙ sym (ap (λ t. if t then Some (n, s.1) else None) no)

    outside : length xs ≤ p → slice_get (filled n s xs) p ≡ either (slice_get xs p) (if_there n s p)
    outside ge =
        elim (cases_lt p s.0) as (λ _. slice_get (filled n s xs) p ≡ if_there n s p) [
          | inl lt ↦ there ge lt
          | inr past ↦ gone ge past
        ]
        ∙ sym (ap (λ o. either o (if_there n s p)) (slice_get_past xs p ge))

-- ---- the entries of all operations

filled_none : (n : ℕ) (xs : List Entry) → filled n (0, []) xs ≡ xs
filled_none n xs = filled_done n (0, []) xs (omega arith)

-- at operation k, and elsewhere
at_same : (k : ℕ) (s : Standing) → alone_at k s k ≡ s
at_same k s = ap (λ t. if t then s else (0, [])) (eq-eqb k k refl)

at_other : (k : ℕ) (s : Standing) (o : ℕ) → o ≢ k → alone_at k s o ≡ (0, [])
at_other k s o ne = ap (λ t. if t then s else (0, [])) (ne_eqb o k ne)

by_place : (P : ℕ → Type 0) (k o : ℕ) → P k → (o ≢ k → P o) → P o
by_place P k o same other = elim (cases_eq o k) as (λ _. P o) [
  | inl e ↦ subst P (sym e) same
  | inr ne ↦ other ne
]

-- entry k is the filled one
pub filled_set : (n k : ℕ) (s : Standing) (xs ys : List (List Entry)) (y : List Entry) → k < length xs → y ≡ filled n s (get_or xs k []) → ys ≡ set xs k y → (o : ℕ) → get_or ys o [] ≡ filled n (alone_at k s o) (get_or xs o [])
filled_set n k s xs ys y lt is set_is o =
    by_place (λ o. get_or ys o [] ≡ filled n (alone_at k s o) (get_or xs o [])) k o
    (ap (λ l. get_or l k []) set_is ∙ get_or-set_same xs k y [] lt ∙ is ∙ sym (ap (λ s. filled n s (get_or xs k [])) (at_same k s)))
    (λ ne. ap (λ l. get_or l o []) set_is ∙ get_or-set_other xs k o y [] ne
    ∙ sym (ap (λ s. filled n s (get_or xs o [])) (at_other k s o ne) ∙ filled_none n (get_or xs o [])))

pub get_past : {X : Type 0} (xs : List X) (i : ℕ) (d : X) → length xs ≤ i → get_or xs i d ≡ d
get_past [] i d h = refl
get_past (x ∷ xs) zero d h = absurd (omega arith)
get_past (x ∷ xs) (suc i) d h = get_past xs i d (omega arith)

-- the last one, and another
last_at : {X : Type 0} (xs : List X) (y : X) (k : ℕ) (d : X) → length xs ≡ k → get_or (xs ++ y ∷ []) k d ≡ y
last_at {X = X} xs y k d e = ap (λ k. get_or (xs ++ y ∷ []) k d) (sym e) ∙ at xs
  where
    at : (zs : List X) → get_or (zs ++ y ∷ []) (length zs) d ≡ y
    at [] = refl
    at (z ∷ zs) = at zs

other_at : {X : Type 0} (xs : List X) (y : X) (o : ℕ) (d : X) → o ≢ length xs → get_or (xs ++ y ∷ []) o d ≡ get_or xs o d
other_at [] y zero d ne = absurd (ne refl)
other_at [] y (suc o) d ne = refl
other_at (x ∷ xs) y zero d ne = refl
other_at (x ∷ xs) y (suc o) d ne = other_at xs y o d (λ e. ne (ap suc e))

-- one operation more, of which nothing was there
pub filled_push : (n k : ℕ) (s : Standing) (xs ys : List (List Entry)) (y : List Entry) → length xs ≡ k → y ≡ filled n s [] → ys ≡ xs ++ y ∷ [] → (o : ℕ) → get_or ys o [] ≡ filled n (alone_at k s o) (get_or xs o [])
filled_push n k s xs ys y len is push_is o =
    by_place (λ o. get_or ys o [] ≡ filled n (alone_at k s o) (get_or xs o [])) k o
    (ap (λ l. get_or l k []) push_is ∙ last_at xs y k [] len ∙ is
    ∙ sym (ap (λ s. filled n s (get_or xs k [])) (at_same k s) ∙ ap (filled n s) (get_past xs k [] (omega arith))))
    (λ ne. ap (λ l. get_or l o []) push_is ∙ other_at xs y o [] (λ e. ne (e ∙ len))
    ∙ sym (ap (λ s. filled n s (get_or xs o [])) (at_other k s o ne) ∙ filled_none n (get_or xs o [])))

-- one operation more stands so
pub filled_next : (n k : ℕ) (ss next : List Standing) (s : Standing) (xs mid ys : List (List Entry)) → length ss ≡ k → next ≡ ss ++ s ∷ []
    → ((o : ℕ) → get_or mid o [] ≡ filled n (get_or ss o (0, [])) (get_or xs o []))
    → ((o : ℕ) → get_or ys o [] ≡ filled n (alone_at k s o) (get_or mid o []))
    → (o : ℕ) → get_or ys o [] ≡ filled n (get_or next o (0, [])) (get_or xs o [])
filled_next n k ss next s xs mid ys len is before after o =
    by_place (λ o. get_or ys o [] ≡ filled n (get_or next o (0, [])) (get_or xs o [])) k o
    (after k ∙ ap (λ s. filled n s (get_or mid k [])) (at_same k s)
    ∙ ap (filled n s) (before k ∙ ap (λ s. filled n s (get_or xs k [])) (get_past ss k (0, []) (omega arith)) ∙ filled_none n (get_or xs k []))
    ∙ sym (ap (λ s. filled n s (get_or xs k [])) (ap (λ l. get_or l k (0, [])) is ∙ last_at ss s k (0, []) len)))
    (λ ne. after o ∙ ap (λ s. filled n s (get_or mid o [])) (at_other k s o ne) ∙ filled_none n (get_or mid o [])
    ∙ before o
    ∙ sym (ap (λ s. filled n s (get_or xs o [])) (ap (λ l. get_or l o (0, [])) is ∙ other_at ss s o (0, []) (λ e. ne (e ∙ len)))))

-- ---- lines

either_both : {X : Type 0} (a b c : Option X) → either (either a b) c ≡ either a (either b c)
either_both None b c = refl
either_both (Some x) b c = refl

pub either_none : {X : Type 0} (a : Option X) → either a None ≡ a
either_none None = refl
either_none (Some x) = refl

pub after_is : (n : ℕ) (d next : Drafted) (line : List ℕ) → on_line n (line_of d line) ≡ Ok next → after_line d line ≡ next
after_is n d next line e = ap (λ r. (going_on d r).0) (line_ok n (line_of d line) next e)

-- a line more: what is missing comes from it, and then from the others
pub origins_go_on : (n : ℕ) (d next : Drafted) (line : List ℕ) (rest : List (List ℕ)) (xs ys : List (List Entry)) (total : ℕ → ℕ → Option Entry)
    → after_line d line ≡ next → ((o : ℕ) → get_or ys o [] ≡ filled n (standing_at next o) (get_or xs o []))
    → ((o p : ℕ) → either (slice_get (get_or xs o []) p) (origin_from n d (line ∷ rest) o p) ≡ total o p)
    → (o p : ℕ) → either (slice_get (get_or ys o []) p) (origin_from (n + 1) next rest o p) ≡ total o p
origins_go_on n d next line rest xs ys total is more so o p =
    ap (λ row. either (slice_get row p) (origin_from (n + 1) next rest o p)) (more o)
    ∙ ap (λ a. either a (origin_from (n + 1) next rest o p)) (filled_get n (standing_at next o) (get_or xs o []) p)
    ∙ either_both (slice_get (get_or xs o []) p) (if_there n (standing_at next o) p) (origin_from (n + 1) next rest o p)
    ∙ sym (ap (λ d. either (slice_get (get_or xs o []) p) (either (if_there n (standing_at d o) p) (origin_from (n + 1) d rest o p))) is)
    ∙ so o p

pub drafts_go_on : (d next : Drafted) (line : List ℕ) (rest : List (List ℕ)) (total : Drafted) → after_line d line ≡ next → after_lines d (line ∷ rest) ≡ total → after_lines next rest ≡ total
drafts_go_on d next line rest total is so = sym (ap (λ d. after_lines d rest) is) ∙ so

-- ---- faults

-- a fault that is answered is the one that is meant
pub fault_meant : {A : Type 0} (r : Result A (Fault Kind)) (meant : Result Program (Fault Kind)) (kind : Kind) (n : ℕ) → r ≡ Err (At kind n) → FailsAs r meant → meant ≡ Err (At kind n)
fault_meant {A = A} r meant kind n e h = subst (λ (r : Result A (Fault Kind)). FailsAs r meant) e h

-- the text may end here, or the fault is there
pub fails_done : {A : Type 0} (n m : ℕ) (d : Drafted) (r : Result A (Fault Kind)) (total : Result Program (Fault Kind)) → n ≡ m → FailsAs r (on_line m (source_grammar.finish d)) → lines_after source_grammar n d [] ≡ total → FailsAs r total
unfolding lines_after
fails_done n m d r total e h so = subst (FailsAs r) (ap (λ k. on_line k (source_grammar.finish d)) (sym e) ∙ so) h

-- what follows from two clauses on a value
pub IfOk-both : {X E : Type 0} (r : Result X E) (P Q R : X → Type 0) → IfOk r P → IfOk r Q → ((x : X) → P x → Q x → R x) → IfOk r R
IfOk-both (Ok x) P Q R p q f = f x p q
IfOk-both (Err e) P Q R p q f = tt

-- ---- in memory

module _ {Z : Type 0} where
  -- the entries of an operation that is there
  pub filled_here : {E : Type 0} (r : Result (Unit {0}) E) (n k : ℕ) (s : Standing) (rows : List (Vec Origin Z)) (old new : Vec Origin Z) → k < length rows → old ≡ get_or rows k old
      → OnOk r (map entry_of new.items ≡ filled n s (map entry_of old.items)) → OnOk r (AreFilled n (alone_at k s) rows (set rows k new))
  filled_here (Err e) n k s rows old new lt is h = tt
  filled_here (Ok u) n k s rows old new lt is h =
      filled_set n k s (entries rows) (entries (set rows k new)) (map entry_of new.items) (omega (arith, length-map rows (λ (row : Vec Origin Z). map entry_of row.items)))
      (h ∙ ap (filled n s) (ap (λ (row : Vec Origin Z). map entry_of row.items) is ∙ sym (get_or-map (λ (row : Vec Origin Z). map entry_of row.items) rows k old [] lt)))
      (map-set (λ (row : Vec Origin Z). map entry_of row.items) rows k new)

  -- one closed operation more
  pub closed_next : (line k : ℕ) (ops : List HeldOperation) (op : HeldOperation) (len : ℕ) (xs mid ys : List (Vec Origin Z)) → k < length ops → op ≡ get_or ops k op
      → len ≡ min (length (operation_code (tree_of op.body))) 64
      → AreFilled line (closed_at (map operation_of (take k ops))) xs mid → AreFilled line (alone_at k (len, [])) mid ys
      → AreFilled line (closed_at (map operation_of (take (k + 1) ops))) xs ys
  closed_next line k ops op len xs mid ys lt is size before after =
      let front : List Standing = map closed_standing (map operation_of (take k ops)) in
      let count : length front ≡ k = length-map (map operation_of (take k ops)) closed_standing ∙ length-map (take k ops) operation_of ∙ length-take-le k ops (omega arith) in
      let more : take (k + 1) ops ≡ take k ops ++ op ∷ [] = ap (λ n. take n ops) (add-one k) ∙ take-suc ops k op lt ∙ ap (λ x. take k ops ++ x ∷ []) (sym is) in
      let next : map closed_standing (map operation_of (take (k + 1) ops)) ≡ front ++ (len, []) ∷ [] =
      ap (λ l. map closed_standing (map operation_of l)) more ∙ ap (map closed_standing) (map_last operation_of (take k ops) op) ∙ map_last closed_standing (map operation_of (take k ops)) (operation_of op) ∙ ap (λ n. front ++ (n, []) ∷ []) (sym size) in
      filled_next line k front (map closed_standing (map operation_of (take (k + 1) ops))) (len, []) (entries xs) (entries mid) (entries ys) count next before after

  -- the open operation, after the closed ones
  pub all_next : {E : Type 0} (r : Result (Unit {0}) E) (line k len : ℕ) (locals : List Word) (d : HeldDraft) (b : HeldBegun) (blocks : List HeldBlock) (ops : List HeldOperation) (xs mid ys : List (Vec Origin Z))
      → d.begun ≡ Some b → blocks ≡ b.blocks.items → locals ≡ b.locals.items → ops ≡ d.operations.items → k ≡ length ops → len ≡ min (size_so_far (blocks_of blocks)) 64
      → AreFilled line (closed_at (map operation_of ops)) xs mid → OnOk r (AreFilled line (alone_at k (len, locals)) mid ys)
      → OnOk r (AreFilled line (standing_at (drafted_of d)) xs ys)
  all_next (Err e) line k len locals d b blocks ops xs mid ys begun is_blocks is_locals is_ops count size before after = tt
  all_next (Ok u) line k len locals d b blocks ops xs mid ys begun is_blocks is_locals is_ops count size before after =
      let front : List Standing = map closed_standing (map operation_of ops) in
      let total : length front ≡ k = length-map (map operation_of ops) closed_standing ∙ length-map ops operation_of ∙ sym count in
      let one : (min (size_so_far (blocks_of b.blocks.items)) 64, b.locals.items) ≡ (len, locals) =
      ap (λ l. (min (size_so_far (blocks_of l)) 64, b.locals.items)) (sym is_blocks) ∙ ap (λ n. (n, b.locals.items)) (sym size) ∙ ap (λ l. (len, l)) (sym is_locals) in
      let next : standings (drafted_of d) ≡ front ++ (len, locals) ∷ [] =
      ap (λ o. map closed_standing (map operation_of d.operations.items) ++ open_standing (option_map begun_of o)) begun
      ∙ ap (λ s. map closed_standing (map operation_of d.operations.items) ++ s ∷ []) one
      ∙ ap (λ l. map closed_standing (map operation_of l) ++ (len, locals) ∷ []) (sym is_ops) in
      filled_next line k front (standings (drafted_of d)) (len, locals) (entries xs) (entries mid) (entries ys) total next before after

  -- no line is left
  pub are_done : (n : ℕ) (d : Drafted) (rest lines : List (List ℕ)) (rows : List (Vec Origin Z)) (origins : Origins) (same : entries origins.operations.items ≡ entries rows) → rest ≡ []
      → ((o p : ℕ) → either (slice_get (entries_at rows o) p) (origin_from n d rest o p) ≡ origin_from 1 nothing lines o p)
      → after_lines d rest ≡ after_lines nothing lines → origins.indexed.items ≡ are_indexed d → AreOrigins lines origins
  are_done n d rest lines rows origins same none so drafts indexed = (
    (λ o p.
        ap (λ table. slice_get (get_or table o []) p) same
        ∙ sym (either_none (slice_get (entries_at rows o) p))
        ∙ ap (λ l. either (slice_get (entries_at rows o) p) (origin_from n d l o p)) (sym none)
        ∙ so o p),
    indexed ∙ ap are_indexed (ap (after_lines d) (sym none) ∙ drafts),
  )
