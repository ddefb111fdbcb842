-- Lines of a source: what they leave makes a component.
use Rattle.std.proofs.Common.{◌≡◌, ℕ, zero, suc, ◌+◌, ◌==◌, ◌<◌, ◌≤◌, nat_lt, Bool, true, false, not, ◌&&◌, ◌||◌, if◌then◌else◌, List, [], ◌∷◌, ◌++◌, length, Option, Some, None, MatchOption, refl, ap, ◌∙◌, lit<, arith, length-append}
use Rattle.std.specs.Prelude.{Result, Ok, Err, codes, nat_le, take}
use Rattle.std.specs.List.{AllByRecursion}
use Rattle.std.specs.Str.{bytes_eq}
use Rattle.std.proofs.lemmas.Bool.Decides.{nat_tests}
use Rattle.std.proofs.lemmas.Bool.{leb-false, ltb-false, not-false, not_from_true, and_parts}
use Rattle.std.proofs.lemmas.List.{length-take}
use Rattle.lu_text.specs.Names.{IsName, has_name_form, is_long}
use Rattle.lu_text.proofs.NameText.{name_from}
use Rattle.lu_text.specs.Words.{Word, exactly_one}
use Rattle.lu_component.specs.declared.instr.Operand.{Operand}
use Rattle.lu_component.specs.declared.instr.Operand.TheVariants.{Reg, Num}
use Rattle.lu_source.specs.declared.expr.Operator.{Operator}
use Rattle.lu_component.specs.Component.{IsInstr, IsOperand}
use Rattle.lu_source.specs.declared.expr.Operator.TheVariants.{Plus, Minus, Times, Equals, Differs, Below, Above, AtMost, AtLeast}
use Rattle.lu_source.specs.declared.tree.Action.{Action}
use Rattle.lu_source.specs.declared.tree.Action.TheVariants as action
use Rattle.lu_source.specs.Code.{falls, instr_of}
use Rattle.lu_source.specs.Expressions.{Coded, Expr, as_test, coded, needed, past, put}
use Rattle.lu_source.specs.Expressions.Expr.{Number, Local, Read, Swap, Fetch, Pick, Binary, Not, And, Or}
use Rattle.lu_source_text.specs.Grammar.{Begun, Block, Drafted, Kind, Opening, added, added_to, assert_tree, assign, assigned_in, await_cell, await_tree, awaiting, after_word, both_of, call_in, call_tree, call_with, cell_in, changed, changed_in, changing, closed_by, closing, code_for, compared, deeper, does_too, else_line, end_block, expr_at, expr_before_brace, expr_from, first_value, expr_in, if_line, in_loop, inner_of, is_free_name, is_still, is_word, last_word, leave, let_line, local_in, lock_number, loop_line, name_of, new_name, nothing_left, on_first, on_ok, or_fault, other_by, other_side, owner_tree, plain, position_from, return_tree, scope_of, set_cell, set_local, simple, statement, steps_for, tested, where_some, while_line, with_blocks, is_keyword, is_taken}
use Rattle.lu_source_text.specs.declared.fault.SourceFaultKind.TheVariants.{Form, Limit, Registers, Flow, Name}
use Rattle.lu_source_text.specs.Grammar.Opening.{Whole, Test, Other, Turns}
use Rattle.lu_source.specs.Sound.{IsExpr, IsTree}
use Rattle.lu_source.specs.Trees.{Tree}
use Rattle.lu_source.specs.Trees.Tree.{Nothing, Plain, Then, Break, BreakUnless, Continue}
use Rattle.lu_source_text.proofs.Kept.{AreValues, Holds, any_holds, if_holds, or_holds, then_holds, some_holds, unless_holds, whole_fine, call_fine, cell_fine, expr_fine}
use Rattle.lu_source_text.specs.declared.updates.CellCall.{CellCall}
use Rattle.lu_source.proofs.Registers.{coded_sound, put_sound}

-- ---- an open operation

-- what opened a block names what is there
abbrev pub IsOpening : ℕ → ℕ → Opening → Type 0
IsOpening arrays locks Whole = Unit {0}
IsOpening arrays locks (Test v) = IsOperand v
IsOpening arrays locks (Other v t) = IsOperand v × IsTree arrays locks t
IsOpening arrays locks Turns = Unit {0}

abbrev pub IsBlock : ℕ → ℕ → Block → Type 0
IsBlock arrays locks block = IsTree arrays locks block.does × IsOpening arrays locks block.opening

pub record IsGoing (arrays locks : ℕ) (b : Begun) : Type 0 where
  pub name : IsName b.name
  pub args : b.args ≤ 4
  pub locals : length b.locals ≤ 8
  pub named : AllByRecursion IsName b.locals
  pub blocks : AllByRecursion (IsBlock arrays locks) b.blocks

pub each_last : {X : Type 0} (P : X → Type 0) (xs : List X) (x : X) → AllByRecursion P xs → P x → AllByRecursion P (xs ++ x ∷ [])
each_last P [] x all last = (last, tt)
each_last P (y ∷ ys) x all last = (all.0, each_last P ys x all.1 last)

each_taken : {X : Type 0} (P : X → Type 0) (n : ℕ) (xs : List X) → AllByRecursion P xs → AllByRecursion P (take n xs)
each_taken P zero xs all = tt
each_taken P (suc n) [] all = tt
each_taken P (suc n) (x ∷ xs) all = (all.0, each_taken P n xs all.1)

pub free_name : (w : Word) → not (is_free_name w) ≡ false → not (has_name_form w) ≡ false
free_name w h = let parts = and_parts (has_name_form w) (not (is_keyword w)) (not-false (is_free_name w) h) in not_from_true (has_name_form w) parts.0

-- a word that is a name
pub name_fine : (w : Word) → Holds (λ name. IsName name × (name ≡ w)) (name_of w)
name_fine w =
    unless_holds (λ name. IsName name × (name ≡ w)) (not (is_free_name w)) Form _ (λ free.
    unless_holds (λ name. IsName name × (name ≡ w)) (is_long w) Limit (Ok w) (λ short. (name_from w (free_name w free) short, refl)))

-- a new name is one
pub new_named : (d : Drafted) (locals : List Word) (w : Word) → Holds IsName (new_name d locals w)
new_named d locals w =
    then_holds (λ name. IsName name × (name ≡ w)) IsName (name_of w) _ (name_fine w) (λ name is.
    unless_holds IsName (is_taken d locals w) Name (Ok name) (λ fresh. is.0))

-- an open operation that goes on, with the same name and locals
abbrev pub GoesOn : ℕ → ℕ → Begun → Begun → Type 0
GoesOn arrays locks b now = IsGoing arrays locks now × (now.locals ≡ b.locals) × (now.name ≡ b.name)

-- an open operation that goes on, with the same name
abbrev pub Goes : ℕ → ℕ → Begun → Begun → Type 0
Goes arrays locks b now = IsGoing arrays locks now × (now.name ≡ b.name)

place_within : (k : ℕ) (xs : List Word) (w : Word) (n : ℕ) → position_from k xs w ≡ Some n → n < k + length xs
place_within k [] w n is = cc
place_within k (x ∷ xs) w n is = by_test (bytes_eq x w) is (place_within (k + 1) xs w n)
  where
    by_test : (t : Bool) → (if t then Some k else position_from (k + 1) xs w) ≡ Some n → (position_from (k + 1) xs w ≡ Some n → n < k + 1 + length xs) → n < k + length (x ∷ xs)
    by_test true is rest = let same : k ≡ n = cc in omega arith
    by_test false is rest = let l = rest is in omega arith

awaiting_fine : (arrays locks : ℕ) (equal : Bool) (k : ℕ) (x y : Operand) → k < arrays → IsOperand x → IsOperand y → IsInstr arrays locks 0 (instr_of (awaiting equal k x y))
awaiting_fine arrays locks true k x y h i j = (h, i, j)
awaiting_fine arrays locks false k x y h i j = (h, i, j)

module _ (d : Drafted) (values : AreValues d.constants) where
  abbrev Fits : Begun → Begun → Type 0
  Fits b now = GoesOn (length d.words) (length d.locks) b now

  abbrev Sound : Tree → Type 0
  Sound t = IsTree (length d.words) (length d.locks) t

  too_fine : (block : Block) (t : Tree) → IsBlock (length d.words) (length d.locks) block → Sound t → Holds (IsBlock (length d.words) (length d.locks)) (does_too block t)
  too_fine block t one fine = unless_holds (IsBlock (length d.words) (length d.locks)) (not (falls block.does)) Flow _ (λ so. ((one.0, fine), one.1))

  -- open blocks name what is there
  abbrev AreBlocks : List Block → Type 0
  AreBlocks blocks = AllByRecursion (IsBlock (length d.words) (length d.locks)) blocks

  pub blocks_fine : (b : Begun) (r : Result (List Block) Kind) → IsGoing (length d.words) (length d.locks) b → Holds AreBlocks r → Holds (Fits b) (with_blocks b r)
  blocks_fine b r is all = then_holds AreBlocks (Fits b) r _ all (λ now h. (record { name = is.name; args = is.args; locals = is.locals; named = is.named; blocks = h }, refl, refl))

  added_fine : (b : Begun) (t : Tree) → IsGoing (length d.words) (length d.locks) b → Sound t → Holds (Fits b) (added b t)
  added_fine b t is fine = blocks_fine b (added_to t b.blocks) is (into b.blocks is.blocks)
    where
      into : (blocks : List Block) → AreBlocks blocks → Holds AreBlocks (added_to t blocks)
      into [] all = tt
      into (block ∷ blocks) all = then_holds (IsBlock (length d.words) (length d.locks)) AreBlocks (does_too block t) _ (too_fine block t all.0 fine) (λ now one. (one, all.1))

  tree_added : (b : Begun) (r : Result Tree Kind) → IsGoing (length d.words) (length d.locks) b → Holds Sound r → Holds (Fits b) (on_ok r (added b))
  tree_added b r is fine = then_holds Sound (Fits b) r (added b) fine (λ t h. added_fine b t is h)

  deeper_fine : (b : Begun) (opening : Opening) (chained : Bool) → IsGoing (length d.words) (length d.locks) b → IsOpening (length d.words) (length d.locks) opening → Holds (Fits b) (deeper b opening chained)
  deeper_fine b opening chained is fine =
      unless_holds (Fits b) (nat_le 16 (length b.blocks)) Limit _ (λ so.
      (record { name = is.name; args = is.args; locals = is.locals; named = is.named; blocks = ((tt, fine), is.blocks) }, refl, refl))

  -- with an expression's code
  code_fine : {A : Type 0} (P : A → Type 0) (e : Expr) (to free : ℕ) (go : Coded → Result A Kind) → IsExpr (length d.words) e → to ≤ free → ((x : Coded) → x ≡ coded e to free → Sound x.code → IsOperand x.at → Holds P (go x)) → Holds P (on_ok (code_for e to free) go)
  code_fine P e to free go fine le next =
      then_holds (λ x. (x ≡ coded e to free) × Sound x.code × IsOperand x.at) P (code_for e to free) go
      (unless_holds (λ x. (x ≡ coded e to free) × Sound x.code × IsOperand x.at) (nat_lt 8 (needed e to free)) Registers _ (λ so.
      let x = coded_sound (length d.words) (length d.locks) e to free fine (ltb-false 8 (needed e to free) so) le in
      (refl, x.0, x.1)))
      (λ x h. next x h.0 h.1 h.2)

  -- an expression of the line
  expr_holds : {A : Type 0} (P : A → Type 0) (b : Begun) (ws : List Word) (go : Expr → Result A Kind) → ((e : Expr) → IsExpr (length d.words) e → Holds P (go e)) → Holds P (on_ok (expr_in d b ws) go)
  expr_holds P b ws go next = then_holds (IsExpr (length d.words)) P (expr_in d b ws) go (whole_fine (scope_of d b) values ws) next

  words_hold : {A : Type 0} (P : A → Type 0) (text : List ℕ) (ws : List Word) (go : List Word → Result A Kind) → ((rest : List Word) → Holds P (go rest)) → Holds P (on_ok (after_word text ws) go)
  words_hold P text ws go next = then_holds (λ r. Unit {0}) P (after_word text ws) go (any_holds (after_word text ws)) (λ rest t. next rest)

  first_holds : {A : Type 0} (P : A → Type 0) (ws : List Word) (go : Word → List Word → Result A Kind) → ((w : Word) (rest : List Word) → Holds P (go w rest)) → Holds P (on_first ws go)
  first_holds P [] go next = tt
  first_holds P (w ∷ ws) go next = next w ws

  whatever : {A B : Type 0} (P : B → Type 0) (r : Result A Kind) (go : A → Result B Kind) → ((x : A) → Holds P (go x)) → Holds P (on_ok r go)
  whatever P r go next = then_holds (λ x. Unit {0}) P r go (any_holds r) (λ x t. next x)

  -- an expression after `=`
  assigned_holds : {A : Type 0} (P : A → Type 0) (b : Begun) (ws : List Word) (go : Expr → Result A Kind) → ((e : Expr) → IsExpr (length d.words) e → Holds P (go e)) → Holds P (on_ok (assigned_in d b ws) go)
  assigned_holds P b ws go next =
      then_holds (IsExpr (length d.words)) P (assigned_in d b ws) go
      (words_hold (IsExpr (length d.words)) (codes "=") ws _ (λ more. whole_fine (scope_of d b) values more)) next

  local_fine : (P : Tree → Type 0) (b : Begun) (r : ℕ) (e : Expr) → r ≤ length b.locals → r < 8 → IsExpr (length d.words) e → ((t : Tree) → Sound t → P t) → Holds P (set_local r b e)
  local_fine P b r e le small fine next =
      code_fine P e r (length b.locals) (λ x. Ok (Then x.code (put r x.at))) fine le (λ x is_x code at. next (Then x.code (put r x.at)) (code, put_sound _ _ r x.at small at))

  value_fine : (b : Begun) (ws : List Word) → Holds (λ t. Sound t × (length b.locals < 8)) (first_value d b ws)
  value_fine b ws =
      let P : Tree → Type 0 = λ t. Sound t × (length b.locals < 8) in
      assigned_holds P b ws _ (λ e fine. unless_holds P (nat_le 8 (length b.locals)) Registers _ (λ so.
      let small : length b.locals < 8 = omega (arith, leb-false 8 (length b.locals) so) in
      local_fine P b (length b.locals) e (omega arith) small fine (λ t sound. (sound, small))))

  let_fine : (b : Begun) (ws : List Word) → IsGoing (length d.words) (length d.locks) b → Holds (Goes (length d.words) (length d.locks) b) (let_line d b ws)
  let_fine b ws is =
      let P : Begun → Type 0 = Goes (length d.words) (length d.locks) b in
      first_holds P ws _ (λ w rest. then_holds IsName P (new_name d b.locals w) _ (new_named d b.locals w) (λ name named.
      then_holds (λ t. Sound t × (length b.locals < 8)) P (first_value d b rest) _ (value_fine b rest) (λ t new.
      let small : length b.locals < 8 = new.1 in
      then_holds (Fits b) P (added b t) _ (added_fine b t is new.0) (λ now g.
      let more_locals : length (now.locals ++ name ∷ []) ≤ 8 = (let l = ap length g.1 in omega (arith, length-append now.locals (name ∷ []), l)) in
      let after : Begun = record now { locals = now.locals ++ name ∷ [] } in
      let out : Goes (length d.words) (length d.locks) b after = (record { name = g.0.name; args = g.0.args; locals = more_locals; named = each_last IsName now.locals name g.0.named named; blocks = g.0.blocks }, g.2) in out))))

  both_fine : {A : Type 0} (P : A → Type 0) (b : Begun) (i e : Expr) (go : Coded → Coded → Result A Kind) → IsExpr (length d.words) i → IsExpr (length d.words) e → ((x y : Coded) → Sound x.code → IsOperand x.at → Sound y.code → IsOperand y.at → Holds P (go x y)) → Holds P (on_ok (both_of b i e) (λ (x, y). go x y))
  both_fine P b i e go fi fe next =
      then_holds (λ (z : Coded × Coded). Sound z.0.code × IsOperand z.0.at × Sound z.1.code × IsOperand z.1.at) P (both_of b i e) (λ (x, y). go x y)
      (code_fine (λ (z : Coded × Coded). Sound z.0.code × IsOperand z.0.at × Sound z.1.code × IsOperand z.1.at) i (length b.locals) (length b.locals) _ fi (omega arith) (λ x is_x cx ax.
      code_fine (λ (z : Coded × Coded). Sound z.0.code × IsOperand z.0.at × Sound z.1.code × IsOperand z.1.at) e (past (length b.locals) x.at) (past (length b.locals) x.at) _ fe (omega arith) (λ y is_y cy ay.
      (cx, ax, cy, ay))))
      (λ z h. next z.0 z.1 h.0 h.1 h.2 h.3)

  cell_holds : {A : Type 0} (P : A → Type 0) (b : Begun) (w : Word) (ws : List Word) (go : (ℕ × Expr) × List Word → Result A Kind) → ((r : (ℕ × Expr) × List Word) → r.0.0 < length d.words → IsExpr (length d.words) r.0.1 → Holds P (go r)) → Holds P (on_ok (cell_in w d b ws) go)
  cell_holds P b w ws go next = then_holds (λ (r : (ℕ × Expr) × List Word). (r.0.0 < length d.words) × IsExpr (length d.words) r.0.1) P (cell_in w d b ws) go (cell_fine (scope_of d b) values (expr_from (steps_for ws) (scope_of d b)) (expr_fine (scope_of d b) values (steps_for ws)) w ws) (λ r h. next r h.0 h.1)

  -- an expression after `=`, `+=` or `-=`
  changed_holds : {A : Type 0} (P : A → Type 0) (b : Begun) (ws : List Word) (go : Option Operator → Expr → Result A Kind) → ((by : Option Operator) (e : Expr) → IsExpr (length d.words) e → Holds P (go by e)) → Holds P (on_ok (changed_in d b ws) (λ (by, e). go by e))
  changed_holds P b ws go next =
      let Q : Option Operator × Expr → Type 0 = λ r. IsExpr (length d.words) r.1 in
      then_holds Q P (changed_in d b ws) _
      (first_holds Q ws _ (λ w rest. whatever Q (changing w) _ (λ by. expr_holds Q b rest _ (λ e fine. fine)))) (λ r fine. next r.0 r.1 fine)

  changed_fine : (by : Option Operator) (old e : Expr) → IsExpr (length d.words) old → IsExpr (length d.words) e → IsExpr (length d.words) (changed by old e)
  changed_fine None old e ho he = he
  changed_fine (Some by) old e ho he = (ho, he)

  at_fine : (at : Operand) → IsOperand at → IsExpr (length d.words) (expr_at at)
  at_fine (Reg r) h = tt
  at_fine (Num n) h = h

  cell_line_fine : (b : Begun) (w : Word) (ws : List Word) → Holds Sound (on_ok (cell_in w d b ws) (λ (cell, rest). on_ok (changed_in d b rest) (λ (by, e). set_cell by b cell e)))
  cell_line_fine b w ws =
      cell_holds Sound b w ws _ (λ r within fi. changed_holds Sound b r.1 _ (λ by e fe.
      code_fine Sound r.0.1 (length b.locals) (length b.locals) _ fi (omega arith) (λ x is_x cx ax.
      code_fine Sound (changed by (Read r.0.0 (expr_at x.at)) e) (past (length b.locals) x.at) (past (length b.locals) x.at) _
      (changed_fine by (Read r.0.0 (expr_at x.at)) e (within, at_fine x.at ax) fe) (omega arith) (λ y is_y cy ay.
      (cx, (cy, (within, ax, ay)))))))

  compared_fine : (b : Begun) (ws : List Word) → Holds (λ (r : Bool × Expr). IsExpr (length d.words) r.1) (compared d b ws)
  compared_fine b ws =
      first_holds (λ (r : Bool × Expr). IsExpr (length d.words) r.1) ws _ (λ by rest.
      unless_holds (λ (r : Bool × Expr). IsExpr (length d.words) r.1) (not (is_word by (codes "==")) && not (is_word by (codes "!="))) Form _ (λ so.
      expr_holds (λ (r : Bool × Expr). IsExpr (length d.words) r.1) b rest _ (λ e fe. fe)))

  await_holds : (b : Begun) (cell : ℕ × Expr) (equal : Bool) (e : Expr) → cell.0 < length d.words → IsExpr (length d.words) cell.1 → IsExpr (length d.words) e → Holds Sound (await_cell equal b cell e)
  await_holds b cell equal e within fi fe =
      unless_holds Sound (not (is_still cell.1) || not (is_still e)) Flow _ (λ still.
      both_fine Sound b cell.1 e _ fi fe (λ x y cx ax cy ay.
      (cx, (cy, awaiting_fine (length d.words) (length d.locks) equal cell.0 x.at y.at within ax ay))))

  await_fine : (b : Begun) (ws : List Word) → Holds Sound (await_tree d b ws)
  await_fine b ws =
      first_holds Sound ws _ (λ w rest. unless_holds Sound (not (is_free_name w)) Form _ (λ so.
      cell_holds Sound b w rest _ (λ r within fi.
      then_holds (λ (x : Bool × Expr). IsExpr (length d.words) x.1) Sound (compared d b r.1) _ (compared_fine b r.1) (λ x fe.
      await_holds b r.0 x.0 x.1 within fi fe))))

  test_fine : (e : Expr) → IsExpr (length d.words) e → IsExpr (length d.words) (as_test e)
  test_fine (Number n) h = h
  test_fine (Local r) h = h
  test_fine (Read w i) h = h
  test_fine (Swap answer w i x y) h = h
  test_fine (Fetch by w i x) h = h
  test_fine (Pick n) h = h
  test_fine (Binary Plus x y) h = h
  test_fine (Binary Minus x y) h = h
  test_fine (Binary Times x y) h = h
  test_fine (Binary Equals x y) h = h
  test_fine (Binary Differs x y) h = h
  test_fine (Binary Below x y) h = h
  test_fine (Binary Above x y) h = h
  test_fine (Binary AtMost x y) h = h
  test_fine (Binary AtLeast x y) h = h
  test_fine (Not x) h = h
  test_fine (And x y) h = h
  test_fine (Or x y) h = h

  assert_fine : (b : Begun) (ws : List Word) → Holds Sound (assert_tree d b ws)
  assert_fine b ws =
      unless_holds Sound (length d.words == 0) Form _ (λ some.
      let there : 0 < length d.words = grind (arith, nat_tests) in
      expr_holds Sound b ws _ (λ e fe. code_fine Sound (as_test e) (length b.locals) (length b.locals) _ (test_fine e fe) (omega arith) (λ x is_x cx ax.
      (cx, (ax, tt, (lit< tt, there, lit< tt))))))

  -- what follows on a state that goes on
  fits_on : (a b c : Begun) → Fits a b → Fits b c → Fits a c
  fits_on a b c one two = (two.0, two.1 ∙ one.1, two.2 ∙ one.2)

  fits_weaker : (a b : Begun) (r : Result Begun Kind) → Fits a b → Holds (Fits b) r → Holds (Fits a) r
  fits_weaker a b (Ok c) one two = fits_on a b c one two
  fits_weaker a b (Err kind) one two = tt

  goes_weaker : (a b : Begun) (r : Result Begun Kind) → b.name ≡ a.name → Holds (Goes (length d.words) (length d.locks) b) r → Holds (Goes (length d.words) (length d.locks) a) r
  goes_weaker a b (Ok c) one two = (two.0, two.1 ∙ one)
  goes_weaker a b (Err kind) one two = tt

  fits_goes : (a : Begun) (r : Result Begun Kind) → Holds (Fits a) r → Holds (Goes (length d.words) (length d.locks) a) r
  fits_goes a (Ok c) h = (h.0, h.2)
  fits_goes a (Err kind) h = tt

  tested_fine : (b : Begun) (e : Expr) (go : Begun → Operand → Result Begun Kind) → IsGoing (length d.words) (length d.locks) b → IsExpr (length d.words) e → ((now : Begun) (v : Operand) → IsGoing (length d.words) (length d.locks) now → IsOperand v → Holds (Fits now) (go now v)) → Holds (Fits b) (on_ok (tested b e) (λ (now, v). go now v))
  tested_fine b e go is fine next =
      then_holds (λ (r : Begun × Operand). Fits b r.0 × IsOperand r.1) (Fits b) (tested b e) (λ (now, v). go now v)
      (code_fine (λ (r : Begun × Operand). Fits b r.0 × IsOperand r.1) (as_test e) (length b.locals) (length b.locals) _ (test_fine e fine) (omega arith) (λ x is_x code at.
      then_holds (Fits b) (λ (r : Begun × Operand). Fits b r.0 × IsOperand r.1) (added b x.code) _ (added_fine b x.code is code) (λ now h. (h, at))))
      (λ r h. fits_weaker b r.0 (go r.0 r.1) h.0 (next r.0 r.1 h.0.0 h.1))

  brace_holds : (P : Begun → Type 0) (b : Begun) (ws : List Word) (go : Expr → Result Begun Kind) → ((e : Expr) → IsExpr (length d.words) e → Holds P (go e)) → Holds P (on_ok (expr_before_brace d b ws) go)
  brace_holds P b ws go next =
      then_holds (IsExpr (length d.words)) P (expr_before_brace d b ws) go
      (then_holds (λ (r : Expr × List Word). IsExpr (length d.words) r.0) (IsExpr (length d.words)) (expr_from (steps_for ws) (scope_of d b) 1 ws) _ (expr_fine (scope_of d b) values (steps_for ws) 1 ws) (λ r h.
      whatever (IsExpr (length d.words)) (last_word (codes "{") r.1) _ (λ t. h)))
      next

  if_fine : (b : Begun) (chained : Bool) (ws : List Word) → IsGoing (length d.words) (length d.locks) b → Holds (Fits b) (if_line chained d b ws)
  if_fine b chained ws is = brace_holds (Fits b) b ws _ (λ e fine. tested_fine b e _ is fine (λ now v going_now at. deeper_fine now (Test v) chained going_now at))

  while_fine : (b : Begun) (ws : List Word) → IsGoing (length d.words) (length d.locks) b → Holds (Fits b) (while_line d b ws)
  while_fine b ws is =
      then_holds (Fits b) (Fits b) (added b Nothing) _ (added_fine b Nothing is tt) (λ here g. fits_weaker b here _ g
      (brace_holds (Fits here) here ws _ (λ e fine. then_holds (Fits here) (Fits here) (deeper here Turns false) _ (deeper_fine here Turns false g.0 tt) (λ inner h.
      fits_weaker here inner (on_ok (tested inner e) (λ (now, v). added now (BreakUnless v))) h (tested_fine inner e _ h.0 fine (λ now v going_now at. added_fine now (BreakUnless v) going_now at))))))

  leave_fine : (b : Begun) (t : Tree) (ws : List Word) → Sound t → Holds Sound (leave b t ws)
  leave_fine b t ws fine = whatever Sound (nothing_left ws) _ (λ u. unless_holds Sound (not (in_loop b.blocks)) Flow (Ok t) (λ so. fine))

  return_fine : (b : Begun) (ws : List Word) → Holds Sound (return_tree d b ws)
  return_fine b [] = lit< tt
  return_fine b (w ∷ ws) =
      expr_holds Sound b (w ∷ ws) _ (λ e fine. code_fine Sound e (length b.locals) (length b.locals) (λ x. Ok (Then x.code (Plain (action.Return x.at)))) fine (omega arith) (λ x is_x code at. (code, at)))

  lock_there : (w : Word) → MatchOption (position_from 0 d.locks w) (Unit {0}) (λ l. l < 0 + length d.locks)
  lock_there w = by_place (position_from 0 d.locks w) refl
    where
      by_place : (o : Option ℕ) → position_from 0 d.locks w ≡ o → MatchOption o (Unit {0}) (λ l. l < 0 + length d.locks)
      by_place None at = tt
      by_place (Some l) at = place_within 0 d.locks w l at

  owner_fine : (act : ℕ → Action) (ws : List Word) → ((l : ℕ) → l < length d.locks → IsInstr (length d.words) (length d.locks) 0 (instr_of (act l))) → Holds Sound (owner_tree d act ws)
  owner_fine act ws fine =
      then_holds (λ l. l < 0 + length d.locks) Sound (lock_number d ws) _
      (whatever (λ l. l < 0 + length d.locks) (or_fault Form (exactly_one ws)) _ (λ name.
      or_holds (λ l. l < 0 + length d.locks) Name (position_from 0 d.locks name) (lock_there name)))
      (λ l within. fine l (omega arith))

  call_line_fine : (by : CellCall) (b : Begun) (ws : List Word) → Holds Sound (call_tree by d b ws)
  call_line_fine by b ws =
      then_holds (λ (r : Expr × List Word). IsExpr (length d.words) r.0) Sound (call_with by (inner_of (scope_of d b) ws) ws) _
      (call_fine (scope_of d b) values (expr_from (steps_for ws) (scope_of d b)) (expr_fine (scope_of d b) values (steps_for ws)) by ws) (λ r h.
      whatever Sound (nothing_left r.1) _ (λ u.
      code_fine Sound r.0 (length b.locals) (length b.locals) (λ x. Ok x.code) h (omega arith) (λ x is_x code at. code)))

  -- ---- `}`

  pub closed_sound : (opening : Opening) (t : Tree) → IsOpening (length d.words) (length d.locks) opening → Sound t → Sound (closed_by opening t)
  closed_sound Whole t is fine = fine
  closed_sound (Test v) t is fine = (is, fine)
  closed_sound (Other v x) t is fine = (is.0, is.1, fine)
  closed_sound Turns t is fine = fine

  pub closing_fine : (t : Tree) (both : Bool) (blocks : List Block) → Sound t → AreBlocks blocks → Holds AreBlocks (closing t both blocks)
  closing_fine t both [] fine all = tt
  closing_fine t both (block ∷ blocks) fine all =
      then_holds (IsBlock (length d.words) (length d.locks)) AreBlocks (does_too block t) _ (too_fine block t all.0 fine) (λ now one.
      if_holds AreBlocks both (closing (closed_by now.opening now.does) now.chained blocks) _
      (closing_fine (closed_by now.opening now.does) now.chained blocks (closed_sound now.opening now.does one.1 one.0) all.1)
      (one, all.1))

  fewer : (n : ℕ) (xs : List Word) → length xs ≤ 8 → length (take n xs) ≤ 8
  fewer n xs few = omega (arith, length-take n xs)

  other_fine : (b : Begun) (block : Block) (opening : Opening) → IsGoing (length d.words) (length d.locks) b → Sound block.does → IsOpening (length d.words) (length d.locks) opening → Holds (Goes (length d.words) (length d.locks) b) (other_by b block opening)
  other_fine b block Whole is fine h = tt
  other_fine b block (Other v t) is fine h = tt
  other_fine b block Turns is fine h = tt
  other_fine b block (Test v) is fine h =
      (record { name = is.name; args = is.args; locals = fewer block.locals b.locals is.locals; named = each_taken IsName block.locals b.locals is.named; blocks = ((tt, (h, fine)), is.blocks) }, refl)

  pub else_fine : (b : Begun) (block : Block) (ws : List Word) → IsGoing (length d.words) (length d.locks) b → IsBlock (length d.words) (length d.locks) block → Holds (Goes (length d.words) (length d.locks) b) (on_ok (other_side b block) (λ other. else_line d other ws))
  else_fine b block ws is one =
      then_holds (Goes (length d.words) (length d.locks) b) (Goes (length d.words) (length d.locks) b) (other_side b block) _ (other_fine b block block.opening is one.0 one.1) (λ other h.
      first_holds (Goes (length d.words) (length d.locks) b) ws _ (λ w rest.
      if_holds (Goes (length d.words) (length d.locks) b) (is_word w (codes "{")) _ _ (whatever (Goes (length d.words) (length d.locks) b) (nothing_left rest) _ (λ u. h))
      (if_holds (Goes (length d.words) (length d.locks) b) (is_word w (codes "if")) _ _ (goes_weaker b other (if_line true d other rest) h.1 (fits_goes other (if_line true d other rest) (if_fine other true rest h.0))) tt)))

  pub end_fine : (b : Begun) (block : Block) → IsGoing (length d.words) (length d.locks) b → IsBlock (length d.words) (length d.locks) block → Holds (Goes (length d.words) (length d.locks) b) (end_block b block)
  end_fine b block is one =
      let outer : Begun = record b { locals = take block.locals b.locals } in
      let going_outer : IsGoing (length d.words) (length d.locks) outer = record { name = is.name; args = is.args; locals = fewer block.locals b.locals is.locals; named = each_taken IsName block.locals b.locals is.named; blocks = is.blocks } in
      goes_weaker b outer (end_block b block) refl
      (fits_goes outer (end_block b block) (blocks_fine outer (closing (closed_by block.opening block.does) block.chained b.blocks) going_outer
      (closing_fine (closed_by block.opening block.does) block.chained b.blocks (closed_sound block.opening block.does one.1 one.0) is.blocks)))

  -- ---- statements

  assign_fine : (b : Begun) (w : Word) (ws : List Word) → length b.locals ≤ 8 → Holds Sound (assign w d b ws)
  assign_fine b w ws few = by_place (local_in b.locals w) refl
    where
      by_place : (o : Option ℕ) → local_in b.locals w ≡ o → Holds Sound (where_some o (on_ok (cell_in w d b ws) (λ (cell, rest). on_ok (changed_in d b rest) (λ (by, e). set_cell by b cell e))) (λ r. on_ok (changed_in d b ws) (λ (by, e). set_local r b (changed by (Local r) e))))
      by_place None at = cell_line_fine b w ws
      by_place (Some r) at =
          let within : r < length b.locals = (let l = place_within 0 b.locals w r at in omega arith) in
          changed_holds Sound b ws _ (λ by e fine. local_fine Sound b r (changed by (Local r) e) (omega arith) (omega arith) (changed_fine by (Local r) e tt fine) (λ t sound. sound))

  plain_line_fine : (b : Begun) (w : Word) (ws : List Word) → length b.locals ≤ 8 → Holds Sound (plain w d b ws)
  plain_line_fine b w ws few =
      if_holds Sound (is_word w (codes "break")) _ _ (leave_fine b Break ws tt)
      (if_holds Sound (is_word w (codes "continue")) _ _ (leave_fine b Continue ws tt)
      (if_holds Sound (is_word w (codes "return")) _ _ (return_fine b ws)
      (if_holds Sound (is_word w (codes "lock")) _ _ (owner_fine action.Lock ws (λ l h. h))
      (if_holds Sound (is_word w (codes "unlock")) _ _ (owner_fine action.Unlock ws (λ l h. h))
      (if_holds Sound (is_word w (codes "await")) _ _ (await_fine b ws)
      (if_holds Sound (is_word w (codes "assert")) _ _ (assert_fine b ws)
      (if_holds Sound (not (is_free_name w)) (Err Form) _ tt
      (assign_fine b w ws few))))))))

  simple_fine : (b : Begun) (w : Word) (ws : List Word) → length b.locals ≤ 8 → Holds Sound (simple w d b ws)
  simple_fine b w ws few =
      some_holds (λ by. Unit {0}) Sound (call_in w ws) _ (λ by. call_tree by d b ws) (any (call_in w ws)) (plain_line_fine b w ws few) (λ by t. call_line_fine by b ws)
    where
      any : (o : Option CellCall) → MatchOption o (Unit {0}) (λ by. Unit {0})
      any None = tt
      any (Some by) = tt

  loop_fine : (b : Begun) (ws : List Word) → IsGoing (length d.words) (length d.locks) b → Holds (Fits b) (loop_line b ws)
  loop_fine b ws is =
      then_holds (Fits b) (Fits b) (added b Nothing) _ (added_fine b Nothing is tt) (λ here g. fits_weaker b here _ g
      (whatever (Fits here) (last_word (codes "{") ws) _ (λ u. deeper_fine here Turns false g.0 tt)))

  pub statement_fine : (b : Begun) (w : Word) (ws : List Word) → IsGoing (length d.words) (length d.locks) b → Holds (Goes (length d.words) (length d.locks) b) (statement w d b ws)
  statement_fine b w ws is =
      let G = Goes (length d.words) (length d.locks) b in
      if_holds G (is_word w (codes "let")) _ _ (let_fine b ws is)
      (if_holds G (is_word w (codes "if")) _ _ (fits_goes b _ (if_fine b false ws is))
      (if_holds G (is_word w (codes "while")) _ _ (fits_goes b _ (while_fine b ws is))
      (if_holds G (is_word w (codes "loop")) _ _ (fits_goes b _ (loop_fine b ws is))
      (fits_goes b _ (tree_added b (simple w d b ws) is (simple_fine b w ws is.locals))))))
