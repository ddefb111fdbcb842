-- Schedules: what is read is spelled so, and what is spelled so is read.
use Rattle.std.proofs.Common.{◌≡◌, ℕ, zero, suc, ◌+◌, ◌<◌, ◌≤◌, Bool, true, false, cond, List, [], ◌∷◌, ◌++◌, length, get_or, take, drop, All, Option, Some, None, Result, Ok, Err, refl, sym, ap, subst, ◌∙◌, append_assoc, arith}
use Rattle.std.specs.Prelude.{IfOk, map, nat_lt, ◌==◌, ◌&&◌, not, codes}
use Rattle.std.specs.List.{flat_map, join_with_byte, list_all, position, prefix_len, slice_split, AllByRecursion}
use Rattle.std.specs.Str.{bytes_eq}
use Rattle.std.proofs.lemmas.Bool.{eqb-true, eq-eqb, lt-ltb, ltb-true}
use Rattle.std.proofs.Math.ListN.{drop_of_length-le}
use Rattle.std.proofs.lemmas.List.{append-nil, length-append, take_at}
use Rattle.std.proofs.lemmas.List.Elements.{All-from_recursion}
use Rattle.std.proofs.lemmas.List.Splits.{slice_split_at, slice_split_none, join_with_byte-slice_split}
use Rattle.lu_test.specs.declared.schedule.Move.{Move}
use Rattle.lu_test.specs.declared.schedule_fault.ScheduleFault.{ScheduleFault}
use Rattle.lu_test.specs.declared.schedule_fault.ScheduleFault.TheVariants.{Form, Limit}
use Rattle.lu_test.specs.ScheduleText.{◌>>=◌, GivesSchedule, has_form, line_to, one_line, move_of, move_text, moves_by, moves_in, moves_of, schedule_of, schedule_text}
use Rattle.lu_text.proofs.NumberText.{bytes_same}
use Rattle.lu_text.proofs.Written.{each_append}
use Rattle.lu_test.specs.Schedule.{IsMove, AreMoves}
use Rattle.lu_test.proofs.Words.{is_at, move_again, move_takes, lacks, some_byte}

-- ---- lists of moves

bind_ok : {A B : Type 0} (r : Result A ScheduleFault) (f : A → Result B ScheduleFault) (y : B) → (r >>= f) ≡ Ok y → (x : A) × (r ≡ Ok x) × (f x ≡ Ok y)
bind_ok (Ok x) f y e = (x, refl, e)
bind_ok (Err d) f y e = absurd cc

ok_else : {A : Type 0} (b : Bool) (r : Result A ScheduleFault) (y : A) → cond b r (Err Limit) ≡ Ok y → (b ≡ true) × (r ≡ Ok y)
ok_else true r y e = (refl, e)
ok_else false r y e = absurd cc

ok_is : {A : Type 0} (r : Result A ScheduleFault) (x y : A) → r ≡ Ok x → r ≡ Ok y → x ≡ y
ok_is r x y p q = cc

pub record Spell (before : ℕ) (words : List (List ℕ)) (ms : List Move) : Type 0 where
  pub texts : map move_text ms ≡ words
  pub few : before + length ms ≤ 4112
  pub each : AllByRecursion IsMove ms

pub moves_take : (before : ℕ) (words : List (List ℕ)) (ms : List Move) → before ≤ 4112 → moves_of before words ≡ Ok ms → Spell before words ms
unfolding moves_of
moves_take before [] ms h e = subst (Spell before []) (ok_is (Ok []) [] ms refl e) (record { texts = refl; few = omega arith; each = tt })
moves_take before (word ∷ words) ms h e =
    let a = bind_ok (move_of word) (λ m. cond (nat_lt before 4112) (moves_of (before + 1) words) (Err Limit) >>= λ others. Ok (m ∷ others)) ms e in
    let b = bind_ok (cond (nat_lt before 4112) (moves_of (before + 1) words) (Err Limit)) (λ others. Ok (a.0 ∷ others)) ms a.2 in
    let c = ok_else (nat_lt before 4112) (moves_of (before + 1) words) b.0 b.1 in
    let lt : before < 4112 = ltb-true before 4112 c.0 in
    let rest = moves_take (before + 1) words b.0 (omega arith) c.1 in
    let first = move_takes word a.0 a.1 in
    subst (Spell before (word ∷ words)) (ok_is (Ok (a.0 ∷ b.0)) (a.0 ∷ b.0) ms refl b.2) (record {
      texts = (let x = first.0 in let y = rest.texts in cc);
      few = omega (arith, rest.few);
      each = (first.1, rest.each);
    })

pub moves_again : (before : ℕ) (ms : List Move) → before + length ms ≤ 4112 → AllByRecursion IsMove ms → moves_of before (map move_text ms) ≡ Ok ms
unfolding moves_of
moves_again before [] h all = refl
moves_again before (m ∷ ms) h all =
    let below : nat_lt before 4112 ≡ true = lt-ltb before 4112 (omega arith) in
    let rest = moves_again (before + 1) ms (omega arith) all.1 in
    rw (move_again m all.0, below, rest) refl

-- ---- the line

abbrev parts : List Move → List (List ℕ)
parts ms = codes "schedule" ∷ map move_text ms

-- words after one space each
abbrev spaced : List (List ℕ) → List ℕ
spaced words = flat_map (λ word. 32 ∷ word) words

joined : (first : List ℕ) (words : List (List ℕ)) → join_with_byte 32 (first ∷ words) ≡ first ++ spaced words
joined first [] = sym (append-nil first)
joined first (word ∷ words) = ap (λ (x : List ℕ). first ++ (32 ∷ x)) (joined word words)

spaced_moves : (ms : List Move) → spaced (map move_text ms) ≡ flat_map (λ m. 32 ∷ move_text m) ms
spaced_moves [] = refl
spaced_moves (m ∷ ms) = ap (λ (x : List ℕ). (32 ∷ move_text m) ++ x) (spaced_moves ms)

-- a line that splits into these parts
pub line_takes : (line : List ℕ) (ms : List Move) → slice_split (λ b. b == 32) line ≡ parts ms → line ≡ codes "schedule" ++ flat_map (λ m. 32 ∷ move_text m) ms
line_takes line ms e = sym (join_with_byte-slice_split 32 line) ∙ (ap (join_with_byte 32) e ∙ (joined (codes "schedule") (map move_text ms) ∙ ap (λ (x : List ℕ). codes "schedule" ++ x) (spaced_moves ms)))

-- what holds of a line whose form is right
abbrev form_rest : List (List ℕ) → List (List ℕ)
form_rest words = drop 1 words

form_takes : (words : List (List ℕ)) → has_form words ≡ true → words ≡ codes "schedule" ∷ drop 1 words
form_takes [] e = absurd cc
form_takes (first ∷ words) e = go (bytes_eq first (codes "schedule")) refl e
  where
    go : (b : Bool) → bytes_eq first (codes "schedule") ≡ b → (b && list_all (λ word. not (length word == 0)) words) ≡ true → first ∷ words ≡ codes "schedule" ∷ words
    go true t u = ap (λ (x : List ℕ). x ∷ words) (bytes_same first (codes "schedule") t)
    go false t u = absurd cc

ok_form : (b : Bool) (r : Result (List Move) ScheduleFault) (ms : List Move) → cond b r (Err Form) ≡ Ok ms → (b ≡ true) × (r ≡ Ok ms)
ok_form true r ms e = (refl, e)
ok_form false r ms e = absurd cc

each_move : (ms : List Move) → All IsMove ms → AllByRecursion IsMove ms
each_move [] all = tt
each_move (m ∷ ms) all = (all zero m (omega arith), each_move ms (λ k d h. all (suc k) d (omega arith)))

-- what is read is spelled so
pub schedule_takes : (text : List ℕ) (ms : List Move) → schedule_of text ≡ Ok ms → AreMoves ms × (text ≡ schedule_text ms)
schedule_takes text ms e = go (position (λ b. b == 10) text) refl e
  where
    from_line : (line : List ℕ) → moves_by (slice_split (λ b. b == 32) line) ≡ Ok ms → AreMoves ms × (line ≡ codes "schedule" ++ flat_map (λ m. 32 ∷ move_text m) ms)
    from_line line u =
        let words = slice_split (λ b. b == 32) line in
        let f = ok_form (has_form words) (moves_of 0 (drop 1 words)) ms u in
        let s = moves_take 0 (drop 1 words) ms (omega arith) f.1 in
        let w : words ≡ parts ms = form_takes words f.0 ∙ ap (λ (x : List (List ℕ)). codes "schedule" ∷ x) (sym s.texts) in
        ((omega (arith, s.few), All-from_recursion IsMove ms s.each), line_takes line ms w)

    last : (place : ℕ) (b : Bool) → (place + 1 == length text) ≡ b → position (λ b. b == 10) text ≡ Some place → moves_in (cond b (Some (take place text)) None) ≡ Ok ms → AreMoves ms × (text ≡ schedule_text ms)
    last place false t at u = absurd cc
    last place true t at u =
        let l = from_line (take place text) u in
        let p = is_at (λ b. b == 10) text place at in
        let lf : get_or text place 0 ≡ 10 = eqb-true (get_or text place 0) 10 p.passes in
        let end : drop (place + 1) text ≡ [] = drop_of_length-le text (let z = eqb-true (place + 1) (length text) t in omega arith) in
        let whole : text ≡ take place text ++ (10 ∷ []) = sym p.cut ∙ rw (lf, end) refl in
        (l.0, whole ∙ (ap (λ (x : List ℕ). x ++ (10 ∷ [])) l.1 ∙ append_assoc (codes "schedule") (flat_map (λ m. 32 ∷ move_text m) ms) (10 ∷ [])))

    go : (p : Option ℕ) → position (λ b. b == 10) text ≡ p → moves_in (line_to text p) ≡ Ok ms → AreMoves ms × (text ≡ schedule_text ms)
    go None at u = absurd cc
    go (Some place) at u = last place (place + 1 == length text) refl at u

-- ---- what is spelled so is read

abbrev line_of : List Move → List ℕ
line_of ms = flat_map (λ m. 32 ∷ move_text m) ms

no_lf : (ms : List Move) → AllByRecursion IsMove ms → AllByRecursion (λ b. (b == 10) ≡ false) (line_of ms)
no_lf [] h = tt
no_lf (m ∷ ms) h = (refl, each_append (λ b. (b == 10) ≡ false) (move_text m) (line_of ms) (lacks 10 m (omega arith) h.0) (no_lf ms h.1))

until_lf : (line : List ℕ) → AllByRecursion (λ b. (b == 10) ≡ false) line → prefix_len (λ b. not (b == 10)) (line ++ 10 ∷ []) ≡ length line
until_lf [] h = refl
until_lf (b ∷ bs) h = rw (h.0, until_lf bs h.1) (omega arith)

line_again : (line : List ℕ) → AllByRecursion (λ b. (b == 10) ≡ false) line → one_line (line ++ 10 ∷ []) ≡ Some line
line_again line h =
    let n : length (line ++ 10 ∷ []) ≡ length line + 1 = simp length-append in
    let t : nat_lt (length line) (length (line ++ 10 ∷ [])) ≡ true = lt-ltb (length line) (length (line ++ 10 ∷ [])) (omega arith) in
    let e : (length line + 1 == length (line ++ 10 ∷ [])) ≡ true = eq-eqb (length line + 1) (length (line ++ 10 ∷ [])) (omega arith) in
    rw (until_lf line h, t, e, take_at line (10 ∷ []) (length line) refl) refl

split_again : (first : List ℕ) (ms : List Move) → AllByRecursion (λ b. (b == 32) ≡ false) first → AllByRecursion IsMove ms → slice_split (λ b. b == 32) (first ++ line_of ms) ≡ first ∷ map move_text ms
split_again first [] f h = rw append-nil (slice_split_none (λ b. b == 32) first (All-from_recursion (λ b. (b == 32) ≡ false) first f))
split_again first (m ∷ ms) f h =
    slice_split_at (λ b. b == 32) first 32 (move_text m ++ line_of ms) (All-from_recursion (λ b. (b == 32) ≡ false) first f) refl
    ∙ ap (λ (x : List (List ℕ)). first ∷ x) (split_again (move_text m) ms (lacks 32 m (omega arith) h.0) h.1)

words_again : (ms : List Move) → AllByRecursion IsMove ms → list_all (λ word. not (length word == 0)) (map move_text ms) ≡ true
words_again [] h = refl
words_again (m ∷ ms) h = rw (some_byte m h.0, words_again ms h.1) refl

pub schedule_again : (ms : List Move) → AreMoves ms → schedule_of (schedule_text ms) ≡ Ok ms
schedule_again ms h =
    let each = each_move ms h.1 in
    let word : List ℕ = codes "schedule" in
    let line : List ℕ = word ++ line_of ms in
    let text : schedule_text ms ≡ line ++ 10 ∷ [] = sym (append_assoc word (line_of ms) (10 ∷ [])) in
    let plain : AllByRecursion (λ b. (b == 10) ≡ false) line = each_append (λ b. (b == 10) ≡ false) word (line_of ms) (refl, (refl, (refl, (refl, (refl, (refl, (refl, (refl, tt)))))))) (no_lf ms each) in
    let one : one_line (schedule_text ms) ≡ Some line = ap one_line text ∙ line_again line plain in
    let split : slice_split (λ b. b == 32) line ≡ word ∷ map move_text ms = split_again word ms (refl, (refl, (refl, (refl, (refl, (refl, (refl, (refl, tt)))))))) each in
    ap moves_in one ∙ (ap moves_by split ∙ rw (words_again ms each) (moves_again 0 ms (omega (arith, h.0)) each))

pub is_found : (text : List ℕ) (r : Result (List Move) ScheduleFault) → GivesSchedule r (schedule_of text) → IfOk r (λ s. AreMoves s × (text ≡ schedule_text s))
is_found text (Ok s) e = schedule_takes text s e
is_found text (Err f) e = tt

pub made : (words : List (List ℕ)) (ms : List Move) → moves_of 0 words ≡ Ok ms → AreMoves ms
made words ms e = let s = moves_take 0 words ms (omega arith) e in (omega (arith, s.few), All-from_recursion IsMove ms s.each)

-- what is written of moves is read as they were
pub written_again : (ms : List Move) → AreMoves ms → (text : List ℕ) → text ≡ schedule_text ms → schedule_of text ≡ Ok ms
written_again ms h text e = rw e (schedule_again ms h)
