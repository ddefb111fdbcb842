-- Each line without a fault keeps what is declared within the rules, and at the end it is a component.
use Rattle.std.proofs.Common.{◌≡◌, ℕ, zero, suc, ◌+◌, ◌-◌, ◌<◌, ◌≤◌, Bool, true, false, cond, List, [], ◌∷◌, ◌++◌, length, get_or, Option, Some, None, Result, Ok, Err, refl, subst, sym, ap, arith}
use Rattle.std.specs.Prelude.{◌||◌, not, nat_le, nat_lt, is_some, map, All, IfSome, slice_get, codes, find}
use Rattle.std.specs.List.{position, position_or_len, prefix_len, AllByRecursion, IsDistinct, list_all}
use Rattle.std.specs.Str.{bytes_eq}
use Rattle.std.specs.Option.{unwrap_or, option_map}
use Rattle.std.proofs.lemmas.Bool.{or_parts, leb-false, ltb-false, not-false}
use Rattle.std.proofs.lemmas.List.{length-append, length-map}
use Rattle.std.proofs.lemmas.Option.{slice_get-map}
use Rattle.std.proofs.lemmas.List.Elements.{All-nil, All-map}
use Rattle.lu_text.specs.Names.{has_name_form, is_long, IsName}
use Rattle.lu_text.specs.Lines.{is_allowed, words_of}
use Rattle.lu_text.specs.Words.{Word, exactly_one, exactly_two, exactly_three}
use Rattle.lu_text.specs.Faults.{Tests, says}
use Rattle.lu_component.specs.declared.instr.Instr.{Instr}
use Rattle.lu_component.specs.declared.instr.Instr.TheVariants as instr
use Rattle.lu_component.specs.declared.component.Array.{Array}
use Rattle.lu_component.specs.declared.component.Op.{Op}
use Rattle.lu_lang.specs.declared.draft.Label.{Label}
use Rattle.lu_lang.specs.declared.draft.Statement.{Statement}
use Rattle.lu_lang.specs.declared.draft.Statement.TheVariants.{Plain, Jump, JumpIfZero}
use Rattle.lu_lang.specs.declared.fault.LangFaultKind.{LangFaultKind}
use Rattle.lu_lang.specs.declared.fault.LangFaultKind.TheVariants.{Byte, Missing, Form, Number, Limit, Flow, Name}
use Rattle.lu_component.specs.Component.{operation_number, AreDistinct, Component, EndsWell, IsArray, IsComponent, IsInstr, IsOp}
use Rattle.lu_lang.specs.Draft.{OpenOp, ComponentDraft, nothing, named}
use Rattle.lu_lang.specs.Grammar.{value, is_value, found_array, found_lock, component_line, local_line, array_line, lock_line, op_line, declaration, statement, sooner, place_fault, with_label, with_statement, placed, instr_line, are_there, is_last, ends_well, target, resolved, op_of, end_line, by_label, by_state, closed, by_words, declared_or_left, line_of, label_in}
use Rattle.lu_lang.specs.Words.{keyword_in}
use Rattle.lu_lang.specs.Sound.{IsStatement, IsBegun, IsSoundDraft}
use Rattle.lu_text.proofs.Says.{NoneHold, said}
use Rattle.lu_text.proofs.NameText.{name_from}
use Rattle.lu_text.proofs.Written.{All-last}
use Rattle.lu_text.proofs.NumberText.{value_small}
use Rattle.lu_lang.proofs.Statements.{statement_sound}
use Rattle.lu_lang.proofs.Placing.{has_room}

-- ---- lists

All-weaker : {X : Type 0} (P Q : X → Type 0) → ((x : X) → P x → Q x) → (xs : List X) → All P xs → All Q xs
All-weaker P Q h xs all k d within = h (get_or xs k d) (all k d within)

length-last : {X : Type 0} (xs : List X) (x : X) → length (xs ++ x ∷ []) ≡ length xs + 1
length-last xs x = simp length-append

map-last : {X Y : Type 0} (f : X → Y) (xs : List X) (x : X) → map f (xs ++ x ∷ []) ≡ map f xs ++ f x ∷ []
map-last f [] x = refl
map-last f (y ∷ ys) x = ap (λ zs. f y ∷ zs) (map-last f ys x)

-- ---- names that are not there yet

fails_each : {X : Type 0} (p : X → Bool) (xs : List X) → length xs ≤ prefix_len (λ x. not (p x)) xs → AllByRecursion (λ x. p x ≡ false) xs
fails_each p [] h = tt
fails_each p (x ∷ xs) h = go (p x) refl (fails_each p xs) h
  where
    go : (b : Bool) → p x ≡ b → (length xs ≤ prefix_len (λ x. not (p x)) xs → AllByRecursion (λ x. p x ≡ false) xs) → length (x ∷ xs) ≤ cond (not b) (1 + prefix_len (λ x. not (p x)) xs) 0 → AllByRecursion (λ x. p x ≡ false) (x ∷ xs)
    go true e rest k = absurd (omega arith)
    go false e rest k = (e, rest (omega arith))

absent : {X : Type 0} (p : X → Bool) (xs : List X) → is_some (position p xs) ≡ false → AllByRecursion (λ x. p x ≡ false) xs
absent p xs e = go (nat_lt (position_or_len p xs) (length xs)) refl e
  where
    go : (b : Bool) → nat_lt (position_or_len p xs) (length xs) ≡ b → is_some (cond b (Some (position_or_len p xs)) None) ≡ false → AllByRecursion (λ x. p x ≡ false) xs
    go true t f = absurd cc
    go false t f = fails_each p xs (ltb-false (position_or_len p xs) (length xs) t)

each_last : {X : Type 0} (P : X → Type 0) (xs : List X) (x : X) → AllByRecursion P xs → P x → AllByRecursion P (xs ++ x ∷ [])
each_last P [] x all last = (last, tt)
each_last P (y ∷ ys) x all last = (all.0, each_last P ys x all.1 last)

each_map : {X : Type 0} (P : List ℕ → Type 0) (f : X → List ℕ) (xs : List X) → AllByRecursion (λ x. P (f x)) xs → AllByRecursion P (map f xs)
each_map P f [] all = tt
each_map P f (x ∷ xs) all = (all.0, each_map P f xs all.1)

distinct_last : (names : List (List ℕ)) (name : List ℕ) → AreDistinct names → AllByRecursion (λ x. bytes_eq x name ≡ false) names → AreDistinct (names ++ name ∷ [])
unfolding IsDistinct
distinct_last [] name h e = (tt, tt)
distinct_last (x ∷ xs) name h e = (each_last (λ y. bytes_eq x y ≡ false) xs name h.0 e.0, distinct_last xs name h.1 e.1)

-- one more name, which none of them is
distinct_more : {X : Type 0} (f : X → List ℕ) (xs : List X) (x : X) → AreDistinct (map f xs) → is_some (position (λ y. bytes_eq (f y) (f x)) xs) ≡ false → AreDistinct (map f (xs ++ x ∷ []))
distinct_more f xs x h e =
    rw (map-last f xs x) (distinct_last (map f xs) (f x) h (each_map (λ y. bytes_eq y (f x) ≡ false) f xs (absent (λ y. bytes_eq (f y) (f x)) xs e)))

map-same : (names : List (List ℕ)) → map (λ x. x) names ≡ names
map-same [] = refl
map-same (x ∷ xs) = ap (λ ys. x ∷ ys) (map-same xs)

distinct_name : (names : List (List ℕ)) (name : List ℕ) → AreDistinct names → is_some (position (λ y. bytes_eq y name) names) ≡ false → AreDistinct (names ++ name ∷ [])
distinct_name names name h e = distinct_last names name h (absent (λ y. bytes_eq y name) names e)

-- ---- more arrays and locks

instr_weaker : (a l a' l' p : ℕ) → a ≤ a' → l ≤ l' → (i : Instr) → IsInstr a l p i → IsInstr a' l' p i
instr_weaker a l a' l' p x y (instr.Set to v) h = h
instr_weaker a l a' l' p x y (instr.Compute by to u v) h = h
instr_weaker a l a' l' p x y (instr.Load to w i) (r, s, t) = (r, omega arith, t)
instr_weaker a l a' l' p x y (instr.Store w i v) (r, s, t) = (omega arith, s, t)
instr_weaker a l a' l' p x y (instr.Cas to w i u v) (r, s, t, b, c) = (r, omega arith, t, b, c)
instr_weaker a l a' l' p x y (instr.Lock k) h = omega arith
instr_weaker a l a' l' p x y (instr.Unlock k) h = omega arith
instr_weaker a l a' l' p x y (instr.Await w i v) (r, s, t) = (omega arith, s, t)
instr_weaker a l a' l' p x y (instr.AwaitNot w i v) (r, s, t) = (omega arith, s, t)
instr_weaker a l a' l' p x y (instr.Pick to n) h = h
instr_weaker a l a' l' p x y (instr.Jump t) h = h
instr_weaker a l a' l' p x y (instr.JumpIfZero v t) h = h
instr_weaker a l a' l' p x y (instr.Return v) h = h

op_weaker : (a l a' l' : ℕ) → a ≤ a' → l ≤ l' → (op : Op) → IsOp a l op → IsOp a' l' op
op_weaker a l a' l' x y op h = record {
  name = h.name;
  args = h.args;
  code = record { few = h.code.few; ends = h.code.ends; instrs = All-weaker (IsInstr a l (length op.code)) (IsInstr a' l' (length op.code)) (instr_weaker a l a' l' (length op.code) x y) op.code h.code.instrs };
}

-- ---- declarations

abbrev Keeps : Result ComponentDraft LangFaultKind → Type 0
Keeps r = (next : ComponentDraft) → r ≡ Ok next → IsSoundDraft next

-- what holds of the draft that is said holds of the result
kept : (tests : Tests LangFaultKind) (d : ComponentDraft) → (NoneHold tests → IsSoundDraft d) → Keeps (says tests d)
kept tests d h next e = let x = said tests d next e in subst IsSoundDraft x.same (h x.none)

refused : (kind : LangFaultKind) → Keeps (Err kind)
refused kind next e = absurd cc

component_keeps : (d : ComponentDraft) → IsSoundDraft d → (o : Option Word) → Keeps (component_line d o)
component_keeps d h None = refused _
component_keeps d h (Some name) = kept
    ((not (has_name_form name), Form) ∷ (is_long name, Limit) ∷ [])
    (record d { name = Some name })
    (λ n. record {
      name = name_from name n.0 n.1.0;
      declared = h.declared;
      begun = h.begun;
    })

local_keeps : (d : ComponentDraft) → IsSoundDraft d → d.begun ≡ None → (o : Option Word) → Keeps (local_line d o)
local_keeps d h none None = refused _
local_keeps d h none (Some most) = kept
    ((is_some d.local || nat_le 1 (length d.operations), Form)
    ∷ (not (is_value most), Number)
    ∷ (nat_lt 16 (value most), Limit) ∷ [])
    (record d { local = Some (value most) })
    (λ n. record {
      name = h.name;
      declared = λ own is. let c = h.declared own is in record {
        name = is;
        local_few = ltb-false 16 (value most) n.1.1.0;
        arrays_few = c.arrays_few;
        arrays = c.arrays;
        arrays_apart = c.arrays_apart;
        locks_few = c.locks_few;
        locks = c.locks;
        locks_apart = c.locks_apart;
        operations_few = c.operations_few;
        operations = c.operations;
        operations_apart = c.operations_apart;
      };
      begun = rw none tt;
    })

array_keeps : (d : ComponentDraft) → IsSoundDraft d → d.begun ≡ None → (o : Option (Word × Word × Word)) → Keeps (array_line d o)
array_keeps d h none None = refused _
array_keeps d h none (Some (name, len, init)) = kept
    ((not (has_name_form name), Form)
    ∷ (not (is_value len) || not (is_value init), Number)
    ∷ (is_long name || (nat_le 16 (length d.arrays) || (nat_lt (value len) 1 || nat_lt 64 (value len))), Limit)
    ∷ (is_some (found_array d name), Name) ∷ [])
    (record d { arrays = d.arrays ++ record { name = name; len = value len; init = value init } ∷ [] })
    (λ n.
    let new : Array = record { name = name; len = value len; init = value init } in
    let long = or_parts (is_long name) (nat_le 16 (length d.arrays) || (nat_lt (value len) 1 || nat_lt 64 (value len))) n.1.1.0 in
    let full = or_parts (nat_le 16 (length d.arrays)) (nat_lt (value len) 1 || nat_lt 64 (value len)) long.1 in
    let size = or_parts (nat_lt (value len) 1) (nat_lt 64 (value len)) full.1 in
    let few : length d.arrays < 16 = omega (arith, leb-false 16 (length d.arrays) full.0) in
    let more : length (d.arrays ++ new ∷ []) ≡ length d.arrays + 1 = length-last d.arrays new in
    record {
      name = h.name;
      declared = λ own is. let c = h.declared own is in record {
        name = is;
        local_few = c.local_few;
        arrays_few = omega arith;
        arrays = All-last IsArray d.arrays new c.arrays (record { name = name_from name n.0 long.0; some = ltb-false (value len) 1 size.0; few = ltb-false 64 (value len) size.1; init = value_small init });
        arrays_apart = distinct_more (λ a. a.name) d.arrays new c.arrays_apart n.1.1.1.0;
        locks_few = c.locks_few;
        locks = c.locks;
        locks_apart = c.locks_apart;
        operations_few = c.operations_few;
        operations = All-weaker (IsOp (length d.arrays) (length d.locks)) (IsOp (length (d.arrays ++ new ∷ [])) (length d.locks)) (op_weaker (length d.arrays) (length d.locks) (length (d.arrays ++ new ∷ [])) (length d.locks) (omega arith) (omega arith)) d.operations c.operations;
        operations_apart = c.operations_apart;
      };
      begun = rw none tt;
    })

lock_keeps : (d : ComponentDraft) → IsSoundDraft d → d.begun ≡ None → (o : Option Word) → Keeps (lock_line d o)
lock_keeps d h none None = refused _
lock_keeps d h none (Some name) = kept
    ((not (has_name_form name), Form)
    ∷ (is_long name || nat_le 8 (length d.locks), Limit)
    ∷ (is_some (found_lock d name), Name) ∷ [])
    (record d { locks = d.locks ++ name ∷ [] })
    (λ n.
    let long = or_parts (is_long name) (nat_le 8 (length d.locks)) n.1.0 in
    let few : length d.locks < 8 = omega (arith, leb-false 8 (length d.locks) long.1) in
    let more : length (d.locks ++ name ∷ []) ≡ length d.locks + 1 = length-last d.locks name in
    record {
      name = h.name;
      declared = λ own is. let c = h.declared own is in record {
        name = is;
        local_few = c.local_few;
        arrays_few = c.arrays_few;
        arrays = c.arrays;
        arrays_apart = c.arrays_apart;
        locks_few = omega arith;
        locks = All-last IsName d.locks name c.locks (name_from name n.0 long.0);
        locks_apart = distinct_name d.locks name c.locks_apart n.1.1.0;
        operations_few = c.operations_few;
        operations = All-weaker (IsOp (length d.arrays) (length d.locks)) (IsOp (length d.arrays) (length (d.locks ++ name ∷ []))) (op_weaker (length d.arrays) (length d.locks) (length d.arrays) (length (d.locks ++ name ∷ [])) (omega arith) (omega arith)) d.operations c.operations;
        operations_apart = c.operations_apart;
      };
      begun = rw none tt;
    })

op_keeps : (d : ComponentDraft) → IsSoundDraft d → (o : Option (Word × Word)) → Keeps (op_line d o)
op_keeps d h None = refused _
op_keeps d h (Some (name, args)) = kept
    ((not (has_name_form name), Form)
    ∷ (not (is_value args), Number)
    ∷ (is_long name || (nat_le 16 (length d.operations) || nat_lt 4 (value args)), Limit)
    ∷ (is_some (operation_number d.operations name), Name) ∷ [])
    (record d { begun = Some (record { name = name; args = value args; statements = []; labels = [] }) })
    (λ n.
    let long = or_parts (is_long name) (nat_le 16 (length d.operations) || nat_lt 4 (value args)) n.1.1.0 in
    let full = or_parts (nat_le 16 (length d.operations)) (nat_lt 4 (value args)) long.1 in
    record {
      name = h.name;
      declared = h.declared;
      begun = record {
        room = omega (arith, leb-false 16 (length d.operations) full.0);
        apart = n.1.1.1.0;
        name = name_from name n.0 long.0;
        args = ltb-false 4 (value args) full.1;
        few = omega arith;
        statements = All-nil (IsStatement (length d.arrays) (length d.locks));
        labels = λ k label within. absurd (omega arith);
      };
    })

keeps_if : (b : Bool) (x y : Result ComponentDraft LangFaultKind) → Keeps x → Keeps y → Keeps (cond b x y)
keeps_if true x y p q = p
keeps_if false x y p q = q

declaration_keeps : (d : ComponentDraft) → IsSoundDraft d → d.begun ≡ None → (word : Word) (words : List Word) → Keeps (declaration d word words)
declaration_keeps d h none word words =
    keeps_if (bytes_eq word (codes "word")) (array_line d (exactly_three words)) _ (array_keeps d h none (exactly_three words))
    (keeps_if (bytes_eq word (codes "lock")) (lock_line d (exactly_one words)) _ (lock_keeps d h none (exactly_one words))
    (keeps_if (bytes_eq word (codes "op")) (op_line d (exactly_two words)) _ (op_keeps d h (exactly_two words))
    (keeps_if (bytes_eq word (codes "local")) (local_line d (exactly_one words)) (Err Form) (local_keeps d h none (exactly_one words)) (refused Form))))

-- ---- instructions

label_weaker : (n m : ℕ) → n ≤ m → (labels : List Label) → All (λ l. l.place < n) labels → All (λ l. l.place < m) labels
label_weaker n m le labels all = All-weaker (λ l. l.place < n) (λ l. l.place < m) (λ l h. omega arith) labels all

labels_kept : (b : OpenOp) (label : Option Word) (s : Statement) → All (λ l. l.place < length b.statements) b.labels → All (λ l. l.place < length (b.statements ++ s ∷ [])) (with_label b label)
labels_kept b None s all = label_weaker (length b.statements) (length (b.statements ++ s ∷ [])) (omega (arith, length-last b.statements s)) b.labels all
labels_kept b (Some label) s all =
    All-last (λ l. l.place < length (b.statements ++ s ∷ [])) b.labels (record { name = label; place = length b.statements })
    (label_weaker (length b.statements) (length (b.statements ++ s ∷ [])) (omega (arith, length-last b.statements s)) b.labels all)
    (omega (arith, length-last b.statements s))

begun_kept : (a l : ℕ) (operations : List Op) (b : OpenOp) (label : Option Word) (s : Statement) → IsBegun a l operations b → length b.statements < 64 → IsStatement a l s → IsBegun a l operations (with_statement b label s)
begun_kept a l operations b label s h room is = record {
  room = h.room;
  apart = h.apart;
  name = h.name;
  args = h.args;
  few = omega (arith, length-last b.statements s);
  statements = All-last (IsStatement a l) b.statements s h.statements is;
  labels = labels_kept b label s h.labels;
}

instr_keeps : (d : ComponentDraft) → IsSoundDraft d → (b : OpenOp) → IsBegun (length d.arrays) (length d.locks) d.operations b → (label : Option Word) (word : Word) (words : List Word) → Keeps (instr_line d b label word words)
instr_keeps d h b begun label word words = go (statement d (keyword_in word) words) (λ s e. statement_sound d (keyword_in word) words s e) (place_fault b label) (λ e. has_room b label e)
  where
    go : (r : Result Statement LangFaultKind) → ((s : Statement) → r ≡ Ok s → IsStatement (length d.arrays) (length d.locks) s) → (fault : Option LangFaultKind) → (fault ≡ None → length b.statements < 64) → Keeps (placed d b label fault r)
    go (Err kind) is fault room = refused (sooner fault kind)
    go (Ok s) is (Some kind) room = refused kind
    go (Ok s) is None room = λ next e.
        let same : record d { begun = Some (with_statement b label s) } ≡ next = cc in
        subst IsSoundDraft same (record {
          name = h.name;
          declared = h.declared;
          begun = begun_kept (length d.arrays) (length d.locks) d.operations b label s begun (room refl) (is s refl);
        })

-- ---- `end`

find_kept : {X : Type 0} (P : X → Type 0) (p : X → Bool) (xs : List X) → All P xs → IfSome (find p xs) P
find_kept P p [] all = tt
find_kept P p (x ∷ xs) all = go (p x) (all zero x (omega arith)) (find_kept P p xs (λ k d within. all (suc k) d (omega arith)))
  where
    go : (b : Bool) → P x → IfSome (find p xs) P → IfSome (cond b (Some x) (find p xs)) P
    go true h rest = h
    go false h rest = rest

target_small : (n : ℕ) (labels : List Label) (label : Word) → 0 < n → All (λ l. l.place < n) labels → target labels label < n
target_small n labels label some all = go (find (λ l. bytes_eq l.name label) labels) (find_kept (λ l. l.place < n) (λ l. bytes_eq l.name label) labels all)
  where
    go : (o : Option Label) → IfSome o (λ l. l.place < n) → unwrap_or (option_map (λ l. l.place) o) 0 < n
    go None h = some
    go (Some l) h = h

resolved_sound : (a l n : ℕ) (labels : List Label) → 0 < n → All (λ l. l.place < n) labels → (s : Statement) → IsStatement a l s → IsInstr a l n (resolved labels s)
resolved_sound a l n labels some all (Plain i) h = h n
resolved_sound a l n labels some all (Jump label) h = target_small n labels label some all
resolved_sound a l n labels some all (JumpIfZero v label) h = (h, target_small n labels label some all)

last_resolved : (labels : List Label) (o : Option Statement) → is_last o ≡ true → EndsWell (option_map (resolved labels) o)
last_resolved labels None e = absurd cc
last_resolved labels (Some (Jump label)) e = tt
last_resolved labels (Some (JumpIfZero v label)) e = absurd cc
last_resolved labels (Some (Plain (instr.Return v))) e = tt
last_resolved labels (Some (Plain (instr.Jump t))) e = absurd cc
last_resolved labels (Some (Plain (instr.Set to v))) e = absurd cc
last_resolved labels (Some (Plain (instr.Compute by to u v))) e = absurd cc
last_resolved labels (Some (Plain (instr.Load to w i))) e = absurd cc
last_resolved labels (Some (Plain (instr.Store w i v))) e = absurd cc
last_resolved labels (Some (Plain (instr.Cas to w i u v))) e = absurd cc
last_resolved labels (Some (Plain (instr.Lock k))) e = absurd cc
last_resolved labels (Some (Plain (instr.Unlock k))) e = absurd cc
last_resolved labels (Some (Plain (instr.Await w i v))) e = absurd cc
last_resolved labels (Some (Plain (instr.AwaitNot w i v))) e = absurd cc
last_resolved labels (Some (Plain (instr.Pick to n))) e = absurd cc
last_resolved labels (Some (Plain (instr.JumpIfZero v t))) e = absurd cc

some_statement : (statements : List Statement) → is_last (slice_get statements (length statements - 1)) ≡ true → 0 < length statements
some_statement [] e = absurd cc
some_statement (s ∷ ss) e = omega arith

op_sound : (a l : ℕ) (operations : List Op) (b : OpenOp) → IsBegun a l operations b → ends_well b ≡ true → IsOp a l (op_of b)
op_sound a l operations b h ends =
    let n = length b.statements in
    let some : 0 < n = some_statement b.statements ends in
    let same : length (map (resolved b.labels) b.statements) ≡ n = simp length-map in
    record {
      name = h.name;
      args = h.args;
      code = record {
        few = omega (arith, h.few);
        ends = rw (same, slice_get-map (resolved b.labels) b.statements (n - 1)) (last_resolved b.labels (slice_get b.statements (n - 1)) ends);
        instrs = subst (λ (k : ℕ). All (IsInstr a l k) (map (resolved b.labels) b.statements)) (sym same) (All-map (IsInstr a l n) (resolved b.labels) b.statements
            (All-weaker (IsStatement a l) (λ s. IsInstr a l n (resolved b.labels s)) (resolved_sound a l n b.labels some h.labels) b.statements h.statements));
      };
    }

end_keeps : (d : ComponentDraft) → IsSoundDraft d → d.begun ≡ None → (b : OpenOp) → IsBegun (length d.arrays) (length d.locks) d.operations b → (words : List Word) → Keeps (end_line d b words)
end_keeps d h none b begun (word ∷ words) = refused Form
end_keeps d h none b begun [] = kept
    ((not (ends_well b), Flow) ∷ (not (are_there b), Name) ∷ [])
    (record d { operations = d.operations ++ op_of b ∷ []; begun = None })
    (λ n. record {
      name = h.name;
      declared = λ own is. let c = h.declared own is in record {
        name = is;
        local_few = c.local_few;
        arrays_few = c.arrays_few;
        arrays = c.arrays;
        arrays_apart = c.arrays_apart;
        locks_few = c.locks_few;
        locks = c.locks;
        locks_apart = c.locks_apart;
        operations_few = omega (arith, begun.room, length-last d.operations (op_of b));
        operations = All-last (IsOp (length d.arrays) (length d.locks)) d.operations (op_of b) c.operations (op_sound (length d.arrays) (length d.locks) d.operations b begun (not-false (ends_well b) n.0));
        operations_apart = distinct_more (λ o. o.name) d.operations (op_of b) c.operations_apart begun.apart;
      };
      begun = tt;
    })

-- ---- lines

inside_keeps : (d : ComponentDraft) → IsSoundDraft d → d.begun ≡ None → (b : OpenOp) → IsBegun (length d.arrays) (length d.locks) d.operations b → (label : Option Word) (word : Word) (words : List Word) → Keeps (by_label d b label word words)
inside_keeps d h none b begun (Some label) word [] = refused Form
inside_keeps d h none b begun (Some label) word (next ∷ words) = instr_keeps d h b begun (Some label) next words
inside_keeps d h none b begun None word words =
    keeps_if (bytes_eq word (codes "end")) (end_line d b words) (instr_line d b None word words) (end_keeps d h none b begun words) (instr_keeps d h b begun None word words)

closed_draft : (d : ComponentDraft) → IsSoundDraft d → IsSoundDraft (closed d)
closed_draft d h = record {
  name = h.name;
  declared = h.declared;
  begun = tt;
}

state_keeps : (d : ComponentDraft) → IsSoundDraft d → (name : Option Word) (begun : Option OpenOp) → d.begun ≡ begun → IfSome begun (IsBegun (length d.arrays) (length d.locks) d.operations) → (word : Word) (words : List Word) → Keeps (by_state d name begun word words)
state_keeps d h None begun same is word words =
    keeps_if (bytes_eq word (codes "component")) (component_line d (exactly_one words)) (Err Missing) (component_keeps d h (exactly_one words)) (refused Missing)
state_keeps d h (Some name) None same is word words = declaration_keeps d h same word words
state_keeps d h (Some name) (Some b) same is word words = inside_keeps (closed d) (closed_draft d h) refl b is (label_in word) word words

words_keep : (d : ComponentDraft) → IsSoundDraft d → (words : List Word) → Keeps (by_words d words)
words_keep d h [] = λ next e. let same : d ≡ next = cc in subst IsSoundDraft same h
words_keep d h (word ∷ words) = state_keeps d h d.name d.begun refl h.begun word words

-- a line without a fault keeps what is declared within the rules
pub line_keeps : (d : ComponentDraft) → IsSoundDraft d → (line : List ℕ) (next : ComponentDraft) → line_of d line ≡ Ok next → IsSoundDraft next
unfolding line_of
line_keeps d h line = keeps_if (list_all is_allowed line) (by_words d (words_of line)) (Err Byte) (words_keep d h (words_of line)) (refused Byte)

-- nothing is declared yet
pub nothing_draft : IsSoundDraft nothing
unfolding IsDistinct
nothing_draft = record {
  name = tt;
  declared = λ own is. record {
    name = is;
    local_few = omega arith;
    arrays_few = omega arith;
    arrays = All-nil IsArray;
    arrays_apart = tt;
    locks_few = omega arith;
    locks = All-nil IsName;
    locks_apart = tt;
    operations_few = omega arith;
    operations = All-nil (IsOp 0 0);
    operations_apart = tt;
  };
  begun = tt;
}

-- what is declared at the end is a component
pub draft_component : (d : ComponentDraft) → IsSoundDraft d → (name : Word) → IsName name → IsComponent (named d name)
draft_component d h name is = h.declared name is

-- what is declared, or what is wrong, without the draft
abbrev pub without_draft : Result Component (LangFaultKind × ComponentDraft) → Result Component LangFaultKind
without_draft (Ok c) = Ok c
without_draft (Err (kind, d)) = Err kind

pub told_without : (d : ComponentDraft) (r : Result Component LangFaultKind) (left : Result Component (LangFaultKind × ComponentDraft)) → left ≡ declared_or_left d r → without_draft left ≡ r
told_without d (Ok c) left e = ap without_draft e
told_without d (Err kind) left e = ap without_draft e
