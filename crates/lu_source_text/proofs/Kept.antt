-- What is read of a source names what is there.
use Rattle.std.proofs.Common.{◌≡◌, ℕ, zero, suc, ◌+◌, ◌-◌, ◌*◌, ◌==◌, ◌<◌, ◌^◌, nat_lt, Bool, true, false, ◌||◌, if◌then◌else◌, List, [], ◌∷◌, length, Option, Some, None, MatchOption, refl, lit<, arith}
use Rattle.std.specs.Prelude.{Result, Ok, Err, codes}
use Rattle.std.specs.List.{AllByRecursion}
use Rattle.std.specs.Option.{option_map, unwrap_or}
use Rattle.std.specs.Str.{bytes_eq}
use Rattle.std.proofs.Math.Nat.{mod-lt}
use Rattle.std.proofs.lemmas.Bool.{ltb-false, or_parts}
use Rattle.lu_text.specs.Numbers.{value_in}
use Rattle.lu_text.specs.Words.{Word}
use Rattle.lu_text.proofs.NumberText.{value_small}
use Rattle.lu_source.specs.Expressions.{Expr, opposite, result}
use Rattle.lu_source.specs.declared.expr.Operator.{Operator}
use Rattle.lu_source.specs.declared.expr.Operator.TheVariants.{Plus, Minus, Times, Equals, Differs, Below, Above, AtMost, AtLeast}
use Rattle.lu_source.specs.Expressions.Expr.{Number, Local, Read, Swap, Fetch, Pick, Binary, Not, And, Or}
use Rattle.lu_source.specs.declared.updating.Answer.{Answer}
use Rattle.lu_source.specs.declared.updating.Update.{Update}
use Rattle.lu_source_text.specs.declared.updates.CellCall.{CellCall}
use Rattle.lu_source_text.specs.declared.updates.CellCall.TheVariants as called
use Rattle.lu_source_text.specs.declared.infix.Infix.{Infix}
use Rattle.lu_source_text.specs.declared.infix.Infix.TheVariants.{Or as Or', And as And', Joins}
use Rattle.lu_source_text.specs.Grammar.{Inner, Kind, Read', Scope, all_read, alone, as_number, after_word, binding, call_in, call_with, cell_with, closed_with, constant_from, constants_alone, either, expr_from, fetch_with, first_constant, first_number, folded, infix_from, infix_in, inner_by, is_free_name, is_word, joined, local_in, most_after, name_with, negative, named_expr, on_first, of_both, on_ok, operands_with, or_fault, pick_from, plain_with, shared_from, steps_for, swap_with, unary_with, unless, where_some}
use Rattle.lu_source_text.specs.Constants.{Constant}
use Rattle.lu_source_text.specs.declared.draft.Shared.{Shared}
use Rattle.lu_source_text.specs.declared.fault.SourceFaultKind.TheVariants.{Byte, Missing, Form, Number as Number', Limit, Registers, Flow, Name}
use Rattle.lu_source.specs.Sound.{IsExpr}

-- ---- results

-- the fact holds of the value, if there is one
abbrev pub Holds : {A : Type 0} → (A → Type 0) → Result A Kind → Type 0
Holds P (Ok x) = P x
Holds P (Err kind) = Unit {0}

pub then_holds : {A B : Type 0} (P : A → Type 0) (Q : B → Type 0) (r : Result A Kind) (go : A → Result B Kind) → Holds P r → ((x : A) → P x → Holds Q (go x)) → Holds Q (on_ok r go)
then_holds P Q (Ok x) go h f = f x h
then_holds P Q (Err kind) go h f = tt

pub if_holds : {A : Type 0} (P : A → Type 0) (b : Bool) (x y : Result A Kind) → Holds P x → Holds P y → Holds P (if b then x else y)
if_holds P true x y hx hy = hx
if_holds P false x y hx hy = hy

pub unless_holds : {A : Type 0} (P : A → Type 0) (b : Bool) (kind : Kind) (r : Result A Kind) → (b ≡ false → Holds P r) → Holds P (unless b kind r)
unless_holds P true kind r h = tt
unless_holds P false kind r h = h refl

pub or_holds : {A : Type 0} (P : A → Type 0) (kind : Kind) (o : Option A) → MatchOption o (Unit {0}) P → Holds P (or_fault kind o)
or_holds P kind None h = tt
or_holds P kind (Some x) h = h

pub some_holds : {A B : Type 0} (P : A → Type 0) (Q : B → Type 0) (o : Option A) (other : Result B Kind) (go : A → Result B Kind) → MatchOption o (Unit {0}) P → Holds Q other → ((x : A) → P x → Holds Q (go x)) → Holds Q (where_some o other go)
some_holds P Q None other go h k f = k
some_holds P Q (Some x) other go h k f = f x h

-- nothing is claimed of the value
pub any_holds : {A : Type 0} (r : Result A Kind) → Holds (λ x. Unit {0}) r
any_holds (Ok x) = tt
any_holds (Err kind) = tt

pub match_if : {A : Type 0} (P : A → Type 0) (b : Bool) (x y : Option A) → MatchOption x (Unit {0}) P → MatchOption y (Unit {0}) P → MatchOption (if b then x else y) (Unit {0}) P
match_if P true x y hx hy = hx
match_if P false x y hx hy = hy

match_either : {A : Type 0} (P : A → Type 0) (x y : Option A) → MatchOption x (Unit {0}) P → MatchOption y (Unit {0}) P → MatchOption (either x y) (Unit {0}) P
match_either P None y hx hy = hy
match_either P (Some x) y hx hy = hx

match_map : {A B : Type 0} (P : A → Type 0) (Q : B → Type 0) (f : A → B) (o : Option A) → MatchOption o (Unit {0}) P → ((x : A) → P x → Q (f x)) → MatchOption (option_map f o) (Unit {0}) Q
match_map P Q f None h g = tt
match_map P Q f (Some x) h g = g x h

-- ---- numbers, and what names mean

IsValue : ℕ → Type 0
IsValue n = n < 2 ^ 32

value_fine : (w : Word) → MatchOption (value_in w) (Unit {0}) IsValue
unfolding IsValue
value_fine w = by_value (value_in w) (value_small w)
  where
    by_value : (o : Option ℕ) → unwrap_or o 0 < 2 ^ 32 → MatchOption o (Unit {0}) (λ n. n < 2 ^ 32)
    by_value None h = tt
    by_value (Some n) h = h

-- each constant is a value
abbrev pub AreValues : List Constant → Type 0
AreValues constants = AllByRecursion (λ c. c.value < 2 ^ 32) constants

constant_fine : (constants : List Constant) (w : Word) → AreValues constants → MatchOption (constant_from constants w) (Unit {0}) IsValue
unfolding IsValue
constant_fine [] w h = tt
constant_fine (c ∷ cs) w h = match_if (λ n. n < 2 ^ 32) (bytes_eq c.name w) (Some c.value) (constant_from cs w) h.0 (constant_fine cs w h.1)

shared_within : (k : ℕ) (xs : List Shared) (w : Word) → MatchOption (shared_from k xs w) (Unit {0}) (λ r. r.0 < k + length xs)
shared_within k [] w = tt
shared_within k (x ∷ xs) w =
    match_if (λ (r : ℕ × Bool). r.0 < k + length (x ∷ xs)) (bytes_eq x.array.name w) (Some (k, x.indexed)) (shared_from (k + 1) xs w) (omega arith)
    (weaker (shared_from (k + 1) xs w) (shared_within (k + 1) xs w))
  where
    weaker : (o : Option (ℕ × Bool)) → MatchOption o (Unit {0}) (λ r. r.0 < k + 1 + length xs) → MatchOption o (Unit {0}) (λ r. r.0 < k + length (x ∷ xs))
    weaker None h = tt
    weaker (Some r) h = omega arith

-- ---- expressions

module _ (s : Scope) (values : AreValues s.constants) where
  -- what is read is an expression of the source
  abbrev Fine : Expr × List Word → Type 0
  Fine r = IsExpr (length s.words) r.0

  abbrev FineCell : (ℕ × Expr) × List Word → Type 0
  FineCell r = (r.0.0 < length s.words) × IsExpr (length s.words) r.0.1

  joined_fine : (by : Infix) (a b : Expr) → IsExpr (length s.words) a → IsExpr (length s.words) b → IsExpr (length s.words) (joined by a b)
  joined_fine Or' a b x y = (x, y)
  joined_fine And' a b x y = (x, y)
  joined_fine (Joins by) a b x y = (x, y)

  named_fine : (w : Word) → MatchOption (named_expr s w) (Unit {0}) (IsExpr (length s.words))
  unfolding IsValue
  named_fine w =
      match_either (IsExpr (length s.words)) (option_map Local (local_in s.locals w)) (option_map Number (constant_from s.constants w))
      (match_map (λ k. Unit {0}) (IsExpr (length s.words)) Local (local_in s.locals w) (any (local_in s.locals w)) (λ k h. tt))
      (match_map (λ n. n < 2 ^ 32) (IsExpr (length s.words)) Number (constant_from s.constants w) (constant_fine s.constants w values) (λ n h. h))
    where
      any : (o : Option ℕ) → MatchOption o (Unit {0}) (λ k. Unit {0})
      any None = tt
      any (Some k) = tt

  -- after a word that stands there
  pub after_holds : {A : Type 0} (P : A → Type 0) (text : List ℕ) (ws : List Word) (go : List Word → Result A Kind) → ((rest : List Word) → Holds P (go rest)) → Holds P (on_ok (after_word text ws) go)
  after_holds P text ws go h = then_holds (λ r. Unit {0}) P (after_word text ws) go (any_holds (after_word text ws)) (λ rest t. h rest)

  -- a number
  literal_fine : (w : Word) (ws : List Word) → Holds Fine (on_ok (or_fault Number' (value_in w)) (λ k. Ok (Number k, ws)))
  unfolding IsValue
  literal_fine w ws = then_holds (λ n. n < 2 ^ 32) Fine (or_fault Number' (value_in w)) _ (or_holds (λ n. n < 2 ^ 32) Number' (value_in w) (value_fine w)) (λ k h. h)

  -- ---- inside of an expression

  module _ (read : ℕ → List Word → Read' Expr) (inner_fine : (least : ℕ) (ws : List Word) → Holds Fine (read least ws)) where
    abbrev inner : Inner
    inner = record { scope = s; read = read }

    closed_fine : (text : List ℕ) (ws : List Word) → Holds Fine (closed_with text inner ws)
    closed_fine text ws = then_holds Fine Fine (read 1 ws) _ (inner_fine 1 ws) (λ r h. after_holds Fine text r.1 _ (λ more. h))

    pub cell_fine : (w : Word) (ws : List Word) → Holds FineCell (cell_with w inner ws)
    cell_fine w ws =
        then_holds (λ (r : ℕ × Bool). r.0 < 0 + length s.words) FineCell (or_fault Name (shared_from 0 s.words w)) _
        (or_holds (λ (r : ℕ × Bool). r.0 < 0 + length s.words) Name (shared_from 0 s.words w) (shared_within 0 s.words w)) (λ r h.
        if_holds FineCell r.1 _ _
        (after_holds FineCell (codes "[") ws _ (λ index.
        then_holds Fine FineCell (closed_with (codes "]") inner index) _ (closed_fine (codes "]") index) (λ e k. (omega arith, k))))
        (omega arith, lit< tt))

    name_fine : (w : Word) (ws : List Word) → Holds Fine (name_with w inner ws)
    name_fine w ws =
        some_holds (IsExpr (length s.words)) Fine (named_expr s w) _ (λ e. Ok (e, ws)) (named_fine w)
        (then_holds FineCell Fine (cell_with w inner ws) _ (cell_fine w ws) (λ r h. h)) (λ e h. h)

    swap_fine : (answer : Answer) (cell : ℕ × Expr) (ws : List Word) → cell.0 < length s.words → IsExpr (length s.words) cell.1 → Holds Fine (swap_with answer cell inner ws)
    swap_fine answer cell ws there index =
        then_holds Fine Fine (closed_with (codes ",") inner ws) _ (closed_fine (codes ",") ws) (λ old k.
        then_holds Fine Fine (closed_with (codes ")") inner old.1) _ (closed_fine (codes ")") old.1) (λ new l. (there, index, k, l)))

    fetch_fine : (by : Update) (cell : ℕ × Expr) (ws : List Word) → cell.0 < length s.words → IsExpr (length s.words) cell.1 → Holds Fine (fetch_with by cell inner ws)
    fetch_fine by cell ws there index =
        then_holds Fine Fine (closed_with (codes ")") inner ws) _ (closed_fine (codes ")") ws) (λ e k. (there, index, k))

    operands_fine : (by : CellCall) (cell : ℕ × Expr) (ws : List Word) → cell.0 < length s.words → IsExpr (length s.words) cell.1 → Holds Fine (operands_with by cell inner ws)
    operands_fine (called.Swap answer) cell ws there index = swap_fine answer cell ws there index
    operands_fine (called.Fetch by) cell ws there index = fetch_fine by cell ws there index

    pub call_fine : (by : CellCall) (ws : List Word) → Holds Fine (call_with by inner ws)
    call_fine by ws = after_holds Fine (codes "(") ws _ (λ inside. of_first inside)
      where
        of_first : (inside : List Word) → Holds Fine (on_first inside (λ w first.
            on_ok (cell_with w inner first) (λ (cell, second). on_ok (after_word (codes ",") second) (operands_with by cell inner))))
        of_first [] = tt
        of_first (w ∷ first) =
            then_holds FineCell Fine (cell_with w inner first) _ (cell_fine w first) (λ cell h.
            after_holds Fine (codes ",") cell.1 _ (λ third. operands_fine by cell.0 third h.0 h.1))

    pick_fine : (ws : List Word) → Holds Fine (pick_from s.constants ws)
    pick_fine ws =
        after_holds Fine (codes "(") ws _ (λ inside.
        then_holds (λ r. Unit {0}) Fine (first_number s.constants inside) _ (any_holds (first_number s.constants inside)) (λ r t.
        unless_holds Fine (nat_lt r.0 1 || nat_lt 8 r.0) Limit _ (λ small.
        let parts = or_parts (nat_lt r.0 1) (nat_lt 8 r.0) small in
        let low = ltb-false r.0 1 parts.0 in
        let high = ltb-false 8 r.0 parts.1 in
        after_holds Fine (codes ")") r.1 _ (λ more. (low, high)))))

    negative_fine : (e : Expr) → IsExpr (length s.words) e → IsExpr (length s.words) (negative e)
    negative_fine (Number n) h = mod-lt (0 + (2 ^ 32 - n)) (lit< tt)
    negative_fine (Local r) h = (lit< tt, h)
    negative_fine (Read w i) h = (lit< tt, h)
    negative_fine (Swap answer w i old new) h = (lit< tt, h)
    negative_fine (Fetch by w i e) h = (lit< tt, h)
    negative_fine (Pick n) h = (lit< tt, h)
    negative_fine (Binary by a b) h = (lit< tt, h)
    negative_fine (Not a) h = (lit< tt, h)
    negative_fine (And a b) h = (lit< tt, h)
    negative_fine (Or a b) h = (lit< tt, h)

    -- an expression that calls nothing of a cell
    plain_fine : (w : Word) (ws : List Word) → Holds Fine (plain_with w inner ws)
    plain_fine w ws =
        if_holds Fine (is_word w (codes "!")) _ _ (then_holds Fine Fine (read 6 ws) _ (inner_fine 6 ws) (λ r h. h))
        (if_holds Fine (is_word w (codes "-")) _ _ (then_holds Fine Fine (read 6 ws) _ (inner_fine 6 ws) (λ r h. negative_fine r.0 h))
        (if_holds Fine (is_word w (codes "(")) _ _ (closed_fine (codes ")") ws)
        (if_holds Fine (is_word w (codes "pick")) _ _ (pick_fine ws)
        (if_holds Fine (is_word w (codes "true")) (Ok (Number 1, ws)) _ (lit< tt)
        (if_holds Fine (is_word w (codes "false")) (Ok (Number 0, ws)) _ (lit< tt)
        (if_holds Fine (is_free_name w) _ _ (name_fine w ws)
        (literal_fine w ws)))))))

    unary_fine : (w : Word) (ws : List Word) → Holds Fine (unary_with w inner ws)
    unary_fine w ws =
        some_holds (λ by. Unit {0}) Fine (call_in w ws) _ (λ by. call_with by inner ws) (any (call_in w ws)) (plain_fine w ws) (λ by t. call_fine by ws)
      where
        any : (o : Option CellCall) → MatchOption o (Unit {0}) (λ by. Unit {0})
        any None = tt
        any (Some by) = tt

  mutual
    pub expr_fine : (n least : ℕ) (ws : List Word) → Holds Fine (expr_from n s least ws)
    expr_fine zero least ws = tt
    expr_fine (suc n) least [] = tt
    expr_fine (suc n) least (w ∷ ws) =
        then_holds Fine Fine (unary_with w (inner_by n s) ws) (λ (left, more). infix_from n s least 5 left more) (unary_fine (expr_from n s) (expr_fine n) w ws) (λ r h. chain_fine n least 5 r.0 r.1 h)

    chain_fine : (n least most : ℕ) (left : Expr) (ws : List Word) → IsExpr (length s.words) left → Holds Fine (infix_from n s least most left ws)
    chain_fine zero least most left ws h = tt
    chain_fine (suc n) least most left [] h = h
    chain_fine (suc n) least most left (w ∷ ws) h =
        some_holds (λ by. Unit {0}) Fine (infix_in w) (Ok (left, w ∷ ws)) _ (any (infix_in w)) h (λ by t.
        if_holds Fine (nat_lt (binding by) least) (Ok (left, w ∷ ws)) _ h
        (if_holds Fine (nat_lt most (binding by)) (Err Form) _ tt
        (then_holds Fine Fine (expr_from n s (binding by + 1) ws) _ (expr_fine n (binding by + 1) ws) (λ r k.
        chain_fine n least (most_after by) (joined by left r.0) r.1 (joined_fine by left r.0 h k)))))
      where
        any : (o : Option Infix) → MatchOption o (Unit {0}) (λ by. Unit {0})
        any None = tt
        any (Some by) = tt

  -- of a whole line's words
  pub whole_fine : (ws : List Word) → Holds (IsExpr (length s.words)) (on_ok (expr_from (steps_for ws) s 1 ws) all_read)
  whole_fine ws = then_holds Fine (IsExpr (length s.words)) (expr_from (steps_for ws) s 1 ws) all_read (expr_fine (steps_for ws) 1 ws) (λ r h. all_fine r h)
    where
      all_fine : (r : Expr × List Word) → Fine r → Holds (IsExpr (length s.words)) (all_read r)
      all_fine (e, []) h = h
      all_fine (e, w ∷ ws) h = tt

-- ---- constant expressions

bit_small : (b : Bool) → (if b then 1 else 0) < 2 ^ 32
bit_small true = lit< tt
bit_small false = lit< tt

result_small : (by : Operator) (m n : ℕ) → result by m n < 2 ^ 32
result_small Plus m n = mod-lt (m + n) (lit< tt)
result_small Minus m n = mod-lt (m + (2 ^ 32 - n)) (lit< tt)
result_small Times m n = mod-lt (m * n) (lit< tt)
result_small Equals m n = bit_small (m == n)
result_small Differs m n = bit_small ((if m == n then 1 else 0) == 0)
result_small Below m n = bit_small (nat_lt m n)
result_small Above m n = bit_small (nat_lt n m)
result_small AtMost m n = bit_small ((if nat_lt n m then 1 else 0) == 0)
result_small AtLeast m n = bit_small ((if nat_lt m n then 1 else 0) == 0)

folded_small : (k : ℕ) (e : Expr) → IsExpr k e → MatchOption (folded e) (Unit {0}) (λ n. n < 2 ^ 32)
folded_small k (Number n) h = h
folded_small k (Local r) h = tt
folded_small k (Read w i) h = tt
folded_small k (Swap answer w i old new) h = tt
folded_small k (Fetch by w i e) h = tt
folded_small k (Pick n) h = tt
folded_small k (Binary by a b) h = of_two (folded a) (folded b)
  where
    of_two : (x y : Option ℕ) → MatchOption (of_both by x y) (Unit {0}) (λ n. n < 2 ^ 32)
    of_two None y = tt
    of_two (Some m) None = tt
    of_two (Some m) (Some n) = result_small by m n
folded_small k (Not a) h = of_one (folded a)
  where
    of_one : (x : Option ℕ) → MatchOption (option_map opposite x) (Unit {0}) (λ n. n < 2 ^ 32)
    of_one None = tt
    of_one (Some n) = bit_small (n == 0)
folded_small k (And a b) h = tt
folded_small k (Or a b) h = tt

number_holds_too : {A : Type 0} (P : A → Type 0) (r : Result A Kind) → Holds P r → Holds P (as_number r)
number_holds_too P (Ok x) h = h
number_holds_too P (Err Byte) h = tt
number_holds_too P (Err Missing) h = tt
number_holds_too P (Err Form) h = tt
number_holds_too P (Err Number') h = tt
number_holds_too P (Err Limit) h = tt
number_holds_too P (Err Registers) h = tt
number_holds_too P (Err Flow) h = tt
number_holds_too P (Err Name) h = tt

pub constant_small : (constants : List Constant) (ws : List Word) → AreValues constants → Holds (λ r. r.0 < 2 ^ 32) (first_constant constants ws)
constant_small constants ws values =
    let Fits : Expr × List Word → Type 0 = λ r. IsExpr 0 r.0 in
    then_holds Fits (λ (r : ℕ × List Word). r.0 < 2 ^ 32) (alone constants ws) _
    (number_holds_too Fits (expr_from (steps_for ws) (constants_alone constants) 1 ws) (expr_fine (constants_alone constants) values (steps_for ws) 1 ws)) (λ r h.
    then_holds (λ n. n < 2 ^ 32) (λ (r : ℕ × List Word). r.0 < 2 ^ 32) (or_fault Number' (folded r.0)) _
    (or_holds (λ n. n < 2 ^ 32) Number' (folded r.0) (folded_small 0 r.0 h)) (λ n small. small))
