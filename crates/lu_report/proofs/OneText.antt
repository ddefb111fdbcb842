-- Each report has one text, and no two have the same.
use Rattle.std.proofs.Common.{◌≡◌, ℕ, zero, suc, ◌+◌, ◌<◌, ◌≤◌, ◌^◌, Bool, true, false, List, [], ◌∷◌, ◌++◌, take, drop, get_or, subst, All, Option, Some, None, Result, Ok, Err, refl, sym, ◌∙◌, ap, append_assoc, arith}
use Rattle.std.specs.Prelude.{codes, ◌==◌, not, nat_le, IfOk, IfErr, IfSome}
use Rattle.std.specs.Char.{is_ascii_digit}
use Rattle.std.specs.Fmt.{decimal}
use Rattle.std.specs.List.{concat, flat_map, list_all, AllByRecursion}
use Rattle.std.specs.Str.{all_ascii_digits}
use Rattle.std.proofs.lemmas.Bool.{and_parts, leb-true, ne_eqb}
use Rattle.std.proofs.lemmas.List.Folds.{list_all-append}
use Rattle.lu_test.specs.declared.schedule.Move.{Move}
use Rattle.lu_test.specs.Schedule.{IsMove, AreMoves}
use Rattle.lu_test.specs.ScheduleText.{move_text, schedule_of, schedule_text}
use Rattle.lu_test.proofs.RoundTrip.{schedule_again}
use Rattle.lu_test.proofs.Words.{lacks}
use Rattle.lu_text.specs.Numbers.{is_number, read_on}
use Rattle.lu_text.proofs.NumberText.{number_again, some_if}
use Rattle.lu_machine.specs.declared.counts.Counts.{Counts}
use Rattle.lu_history.specs.declared.serial.SerialOutcome.{SerialOutcome}
use Rattle.lu_history.specs.declared.serial.SerialOutcome.TheVariants as serial
use Rattle.lu_witness.specs.declared.judgement.Why.{Why}
use Rattle.lu_witness.specs.declared.judgement.Why.TheVariants.{Complete, Stuck}
use Rattle.lu_report.specs.declared.report.Finding.{Finding}
use Rattle.lu_report.specs.declared.report.Finding.TheVariants.{SerialCut, Nondeterministic, Fail, Pass}
use Rattle.lu_report.specs.declared.report.Report.{Report}
use Rattle.lu_report.specs.declared.version.Version.{Version}
use Rattle.lu_report.specs.declared.version.Version.TheVariants.{One, Two, Three}
use Rattle.lu_text.specs.declared.fault.Fault.{Fault}
use Rattle.lu_text.specs.declared.fault.Fault.TheVariants.{At, Memory}
use Rattle.lu_report.specs.declared.fault.ReportFaultKind.{ReportFaultKind}
use Rattle.lu_report.specs.declared.fault.ReportFaultKind.TheVariants.{Form}
use Rattle.lu_report.specs.Parts.{Report as AReport, AreLimits, IsSerialBound, IsThreadOf, parts_of}
use Rattle.lu_report.specs.Text.{number_line, earlier_line, fail_line, finding_lines, version_of, version_line, serial_lines, local_lines, report_lines, report_text}
use Rattle.lu_text.specs.Lines.{kept_lines}
use Rattle.lu_history.specs.Serial.{IsOutcome}
use Rattle.lu_report.specs.Forms.{IsSoundFinding, IsFault, GivesReport, Spells}
use Rattle.lu_report.proofs.PartLines.{byte_at, clash, fail_byte, same_number, version_same}

-- ---- the lines of a report's text are its lines

abbrev no_lf : List ℕ → Bool
no_lf bytes = list_all (λ b. not (b == 10)) bytes

record IsLine (line : List ℕ) : Type 0 where
  front : List ℕ
  plain : no_lf front ≡ true
  whole : line ≡ front ++ 10 ∷ []

not_true : (b : Bool) → not b ≡ true → b ≡ false
not_true true e = absurd cc
not_true false e = refl

line_kept : (front rest : List ℕ) → no_lf front ≡ true → kept_lines (front ++ 10 ∷ rest) ≡ (front ++ 10 ∷ []) ∷ kept_lines rest
line_kept [] rest e = refl
line_kept (b ∷ bs) rest e =
    let p = and_parts (not (b == 10)) (no_lf bs) e in
    let other : (b == 10) ≡ false = not_true (b == 10) p.0 in
    rw (other, line_kept bs rest p.1) refl

lines_again : (lines : List (List ℕ)) → AllByRecursion IsLine lines → kept_lines (concat lines) ≡ lines
lines_again [] h = refl
lines_again (line ∷ lines) h =
    let is = h.0 in
    let text : concat (line ∷ lines) ≡ is.front ++ 10 ∷ concat lines = ap (λ x. x ++ concat lines) is.whole ∙ append_assoc is.front (10 ∷ []) (concat lines) in
    ap kept_lines text ∙ (line_kept is.front (concat lines) is.plain ∙ (ap (λ (x : List ℕ). x ∷ kept_lines (concat lines)) (sym is.whole) ∙ ap (λ (x : List (List ℕ)). line ∷ x) (lines_again lines h.1)))

digits_plain : (ds : List ℕ) → all_ascii_digits ds ≡ true → no_lf ds ≡ true
digits_plain [] e = refl
digits_plain (c ∷ cs) e =
    let p = and_parts (is_ascii_digit c) (all_ascii_digits cs) e in
    let low : 48 ≤ c = leb-true 48 c (and_parts (nat_le 48 c) (nat_le c 57) p.0).0 in
    let other : (c == 10) ≡ false = ne_eqb c 10 (λ z. omega arith) in
    rw (other, digits_plain cs p.1) refl

number_digits : (word : List ℕ) → is_number word ≡ true → all_ascii_digits word ≡ true
number_digits [] e = absurd cc
number_digits (c ∷ cs) e = (and_parts (all_ascii_digits (c ∷ cs)) _ e).0

decimal_plain : (n : ℕ) → n < 2 ^ 64 → no_lf (decimal n) ≡ true
decimal_plain n small = digits_plain (decimal n) (number_digits (decimal n) (some_if (is_number (decimal n)) (read_on 0 (decimal n)) n (number_again n small)).0)

joined_plain : (a b : List ℕ) → no_lf a ≡ true → no_lf b ≡ true → no_lf (a ++ b) ≡ true
joined_plain a b e f = list_all-append (λ b. not (b == 10)) a b ∙ rw (e, f) refl

number_is_line : (front : List ℕ) (n : ℕ) → no_lf front ≡ true → n < 2 ^ 64 → IsLine (number_line front n)
number_is_line front n plain small = record { front = front ++ decimal n; plain = joined_plain front (decimal n) plain (decimal_plain n small); whole = refl }

plain_from : (bytes : List ℕ) → AllByRecursion (λ b. (b == 10) ≡ false) bytes → no_lf bytes ≡ true
plain_from [] h = refl
plain_from (b ∷ bs) h = rw (h.0, plain_from bs h.1) refl

moves_plain : (u : List Move) → All IsMove u → no_lf (flat_map (λ m. 32 ∷ move_text m) u) ≡ true
moves_plain [] all = refl
moves_plain (m ∷ u) all =
    joined_plain (32 ∷ move_text m) (flat_map (λ m. 32 ∷ move_text m) u) (plain_from (move_text m) (lacks 10 m (omega arith) (all zero m (omega arith)))) (moves_plain u (λ k d h. all (suc k) d (omega arith)))

schedule_is_line : (u : List Move) → AreMoves u → IsLine (schedule_text u)
schedule_is_line u moves = record { front = codes "schedule" ++ flat_map (λ m. 32 ∷ move_text m) u; plain = joined_plain (codes "schedule") (flat_map (λ m. 32 ∷ move_text m) u) refl (moves_plain u moves.1); whole = refl }

earlier_is_line : (o : SerialOutcome) → IsOutcome o → IsLine (earlier_line o)
earlier_is_line (serial.Ret n) is = number_is_line (codes "earlier ret ") n refl (omega arith)
earlier_is_line serial.Trap is = record { front = codes "earlier trap"; plain = refl; whole = refl }
earlier_is_line serial.Stuck is = record { front = codes "earlier stuck"; plain = refl; whole = refl }

fail_is_line : (why : Why) → IsThreadOf why → IsLine (fail_line why)
fail_is_line Complete is = record { front = codes "fail complete"; plain = refl; whole = refl }
fail_is_line (Stuck t) is = number_is_line (codes "fail stuck ") t refl (omega arith)

finding_are_lines : (f : Finding) → IsSoundFinding f → AllByRecursion IsLine (finding_lines f)
finding_are_lines (SerialCut u) is = (record { front = codes "serial-cut"; plain = refl; whole = refl }, (schedule_is_line u is.1, tt))
finding_are_lines (Nondeterministic u before earlier) is =
    let few = is.0 in
    (record { front = codes "nondeterministic"; plain = refl; whole = refl }, (schedule_is_line u is.1.0, (number_is_line (codes "before ") before refl (omega arith), (earlier_is_line earlier is.1.1, tt))))
finding_are_lines (Fail u why) is = (fail_is_line why is.0, (schedule_is_line u is.1, tt))
finding_are_lines (Pass counts) is =
    (record { front = codes "pass"; plain = refl; whole = refl }, (number_is_line (codes "complete ") counts.complete refl is.1.complete, (number_is_line (codes "stuck ") counts.stuck refl is.1.stuck, (number_is_line (codes "cut ") counts.cut refl is.1.cut, tt))))

version_is_line : (version : Version) → IsLine (version_line version)
version_is_line One = record { front = codes "lineup report 1"; plain = refl; whole = refl }
version_is_line Two = record { front = codes "lineup report 2"; plain = refl; whole = refl }
version_is_line Three = record { front = codes "lineup report 3"; plain = refl; whole = refl }

serial_are_lines : (serial : Option ℕ) → IfSome serial IsSerialBound → (t : List (List ℕ)) → AllByRecursion IsLine t → AllByRecursion IsLine (serial_lines serial ++ t)
serial_are_lines None some t are = are
serial_are_lines (Some n) some t are = (number_is_line (codes "serial ") n refl (omega (arith, some.1)), are)

local_are_lines : (version : Version) (local : ℕ) → local ≤ 16 → (t : List (List ℕ)) → AllByRecursion IsLine t → AllByRecursion IsLine (local_lines version local ++ t)
local_are_lines One local low t are = are
local_are_lines Two local low t are = (number_is_line (codes "local ") local refl (omega arith), are)
local_are_lines Three local low t are = (number_is_line (codes "local ") local refl (omega arith), are)

pub report_again : (r : Report) → AreLimits r → IsSoundFinding r.finding → kept_lines (report_text r) ≡ report_lines r
report_again r limits is =
    let most = limits.most in
    let version : Version = version_of r.serial r.local in
    let behind = local_are_lines version r.local limits.local_few (finding_lines r.finding) (finding_are_lines r.finding is) in
    lines_again (report_lines r) (version_is_line version, (number_is_line (codes "bound ") r.bound refl (omega arith), serial_are_lines r.serial limits.serial _ behind))

-- ---- reports with the same lines are the same

-- line k
abbrev line_at : ℕ → List (List ℕ) → List ℕ
line_at k lines = get_or lines k []

schedule_same : (u v : List Move) → AreMoves u → AreMoves v → schedule_text u ≡ schedule_text v → u ≡ v
schedule_same u v moves others e = let f = sym (schedule_again u moves) ∙ (ap schedule_of e ∙ schedule_again v others) in cc

earlier_same : (o p : SerialOutcome) → IsOutcome o → IsOutcome p → earlier_line o ≡ earlier_line p → o ≡ p
earlier_same (serial.Ret m) (serial.Ret n) is also e = ap (λ (x : ℕ). serial.Ret x) (same_number (codes "earlier ret ") m n (omega arith) (omega arith) e)
earlier_same (serial.Ret m) serial.Trap is also e = absurd (clash 114 116 refl (ap (λ x. get_or x 8 0) e))
earlier_same (serial.Ret m) serial.Stuck is also e = absurd (clash 114 115 refl (ap (λ x. get_or x 8 0) e))
earlier_same serial.Trap (serial.Ret n) is also e = absurd (clash 116 114 refl (ap (λ x. get_or x 8 0) e))
earlier_same serial.Trap serial.Trap is also e = refl
earlier_same serial.Trap serial.Stuck is also e = absurd (clash 116 115 refl (ap (λ x. get_or x 8 0) e))
earlier_same serial.Stuck (serial.Ret n) is also e = absurd (clash 115 114 refl (ap (λ x. get_or x 8 0) e))
earlier_same serial.Stuck serial.Trap is also e = absurd (clash 115 116 refl (ap (λ x. get_or x 8 0) e))
earlier_same serial.Stuck serial.Stuck is also e = refl

reason_same : (w x : Why) → IsThreadOf w → IsThreadOf x → fail_line w ≡ fail_line x → w ≡ x
reason_same Complete Complete is also e = refl
reason_same Complete (Stuck t) is also e = absurd (clash 99 115 refl (ap (λ x. get_or x 5 0) e))
reason_same (Stuck t) Complete is also e = absurd (clash 115 99 refl (ap (λ x. get_or x 5 0) e))
reason_same (Stuck t) (Stuck i) is also e = ap (λ (x : ℕ). Stuck x) (same_number (codes "fail stuck ") t i (omega arith) (omega arith) e)

counts_same : (a b : Counts) → a.complete ≡ b.complete → a.stuck ≡ b.stuck → a.cut ≡ b.cut → a ≡ b
counts_same a b e f g =
    ap (λ (x : ℕ). let y : Counts = record { complete = x; stuck = a.stuck; cut = a.cut } in y) e
    ∙ (ap (λ (x : ℕ). let y : Counts = record { complete = b.complete; stuck = x; cut = a.cut } in y) f
    ∙ ap (λ (x : ℕ). let y : Counts = record { complete = b.complete; stuck = b.stuck; cut = x } in y) g)

finding_same : (f g : Finding) → IsSoundFinding f → IsSoundFinding g → finding_lines f ≡ finding_lines g → f ≡ g
finding_same (SerialCut u) (SerialCut v) is also e = ap SerialCut (schedule_same u v is.1 also.1 (ap (line_at 1) e))
finding_same (SerialCut u) (Nondeterministic v j p) is also e = absurd (clash 115 110 refl (ap (byte_at 0) e))
finding_same (SerialCut u) (Fail v x) is also e = absurd (clash 115 102 refl (ap (byte_at 0) e ∙ fail_byte x (schedule_text v ∷ [])))
finding_same (SerialCut u) (Pass b) is also e = absurd (clash 115 112 refl (ap (byte_at 0) e))
finding_same (Nondeterministic u i o) (SerialCut v) is also e = absurd (clash 110 115 refl (ap (byte_at 0) e))
finding_same (Nondeterministic u i o) (Nondeterministic v j p) is also e =
    let few = is.0 in
    let less = also.0 in
    let a : u ≡ v = schedule_same u v is.1.0 also.1.0 (ap (line_at 1) e) in
    let b : i ≡ j = same_number (codes "before ") i j (omega arith) (omega arith) (ap (line_at 2) e) in
    let d : o ≡ p = earlier_same o p is.1.1 also.1.1 (ap (line_at 3) e) in
    ap (λ (x : List Move). Nondeterministic x i o) a ∙ (ap (λ (x : ℕ). Nondeterministic v x o) b ∙ ap (λ (x : SerialOutcome). Nondeterministic v j x) d)
finding_same (Nondeterministic u i o) (Fail v x) is also e = absurd (clash 110 102 refl (ap (byte_at 0) e ∙ fail_byte x (schedule_text v ∷ [])))
finding_same (Nondeterministic u i o) (Pass b) is also e = absurd (clash 110 112 refl (ap (byte_at 0) e))
finding_same (Fail u w) (SerialCut v) is also e = absurd (clash 102 115 refl (sym (fail_byte w (schedule_text u ∷ [])) ∙ ap (byte_at 0) e))
finding_same (Fail u w) (Nondeterministic v j p) is also e = absurd (clash 102 110 refl (sym (fail_byte w (schedule_text u ∷ [])) ∙ ap (byte_at 0) e))
finding_same (Fail u w) (Fail v x) is also e =
    let a : u ≡ v = schedule_same u v is.1 also.1 (ap (line_at 1) e) in
    let b : w ≡ x = reason_same w x is.0 also.0 (ap (line_at 0) e) in
    ap (λ (y : List Move). Fail y w) a ∙ ap (λ (y : Why). Fail v y) b
finding_same (Fail u w) (Pass b) is also e = absurd (clash 102 112 refl (sym (fail_byte w (schedule_text u ∷ [])) ∙ ap (byte_at 0) e))
finding_same (Pass a) (SerialCut v) is also e = absurd (clash 112 115 refl (ap (byte_at 0) e))
finding_same (Pass a) (Nondeterministic v j p) is also e = absurd (clash 112 110 refl (ap (byte_at 0) e))
finding_same (Pass a) (Fail v x) is also e = absurd (clash 112 102 refl (ap (byte_at 0) e ∙ fail_byte x (schedule_text v ∷ [])))
finding_same (Pass a) (Pass b) is also e =
    ap Pass (counts_same a b
    (same_number (codes "complete ") a.complete b.complete is.1.complete also.1.complete (ap (line_at 1) e))
    (same_number (codes "stuck ") a.stuck b.stuck is.1.stuck also.1.stuck (ap (line_at 2) e))
    (same_number (codes "cut ") a.cut b.cut is.1.cut also.1.cut (ap (line_at 3) e)))

-- the lines of the bound of serial runs, and those after them
serials_same : (a b : Option ℕ) (m n : ℕ) (t u : List (List ℕ)) → IfSome a IsSerialBound → IfSome b IsSerialBound → version_of a m ≡ version_of b n → serial_lines a ++ t ≡ serial_lines b ++ u → (a ≡ b) × (t ≡ u)
serials_same None None m n t u some also is e = (refl, e)
serials_same None (Some y) m zero t u some also is e = absurd cc
serials_same None (Some y) m (suc n) t u some also is e = absurd cc
serials_same (Some x) None zero n t u some also is e = absurd cc
serials_same (Some x) None (suc m) n t u some also is e = absurd cc
serials_same (Some x) (Some y) m n t u some also is e =
    (ap (λ (z : ℕ). Some z) (same_number (codes "serial ") x y (omega (arith, some.1)) (omega (arith, also.1)) (ap (line_at 0) e)), ap (λ (z : List (List ℕ)). drop 1 z) e)

-- a report of this version may say so many local instructions
abbrev IsLocalOf : Version → ℕ → Type 0
IsLocalOf One local = local ≡ 0
IsLocalOf Two local = (1 ≤ local) × (local ≤ 16)
IsLocalOf Three local = local ≤ 16

local_back : (version : Version) (serial : Option ℕ) (local : ℕ) → version ≡ version_of serial local → local ≤ 16 → IsLocalOf version local
local_back One None local e low = absurd cc
local_back One (Some n) zero e low = refl
local_back One (Some n) (suc k) e low = absurd cc
local_back Two None local e low = absurd cc
local_back Two (Some n) zero e low = absurd cc
local_back Two (Some n) (suc k) e low = (omega arith, low)
local_back Three serial local e low = low

-- the lines of local instructions, and those after them
locals_same : (version : Version) (a b : ℕ) (t u : List (List ℕ)) → a ≤ 16 → b ≤ 16 → IsLocalOf version a → IsLocalOf version b → local_lines version a ++ t ≡ local_lines version b ++ u → (a ≡ b) × (t ≡ u)
locals_same One a b t u low less is also e = (is ∙ sym also, e)
locals_same Two a b t u low less is also e = (same_number (codes "local ") a b (omega arith) (omega arith) (ap (line_at 0) e), ap (λ (x : List (List ℕ)). drop 1 x) e)
locals_same Three a b t u low less is also e = (same_number (codes "local ") a b (omega arith) (omega arith) (ap (line_at 0) e), ap (λ (x : List (List ℕ)). drop 1 x) e)

pub same_parts : (a b : AReport) → a.bound ≡ b.bound → a.serial ≡ b.serial → a.local ≡ b.local → a.finding ≡ b.finding → a ≡ b
same_parts a b e f g h =
    ap (λ (x : ℕ). parts_of x a.serial a.local a.finding) e
    ∙ (ap (λ (x : Option ℕ). parts_of b.bound x a.local a.finding) f
    ∙ (ap (λ (x : ℕ). parts_of b.bound b.serial x a.finding) g
    ∙ ap (λ (x : Finding). parts_of b.bound b.serial b.local x) h))

pub report_same : (r s : Report) → AreLimits r → IsSoundFinding r.finding → AreLimits s → IsSoundFinding s.finding → report_lines r ≡ report_lines s → r ≡ s
report_same r s limits is others also e =
    let most = limits.most in
    let most' = others.most in
    let v : Version = version_of r.serial r.local in
    let w : Version = version_of s.serial s.local in
    let version : v ≡ w = version_same v w (ap (line_at 0) e) in
    let serial = serials_same r.serial s.serial r.local s.local _ _ limits.serial others.serial version (ap (λ (x : List (List ℕ)). drop 2 x) e) in
    let behind : local_lines v r.local ++ finding_lines r.finding ≡ local_lines v s.local ++ finding_lines s.finding =
    subst (λ (x : Version). local_lines v r.local ++ finding_lines r.finding ≡ local_lines x s.local ++ finding_lines s.finding) (sym version) serial.1 in
    let rest = locals_same v r.local s.local (finding_lines r.finding) (finding_lines s.finding) limits.local_few others.local_few
    (local_back v r.serial r.local refl limits.local_few) (local_back v s.serial s.local version others.local_few) behind in
    same_parts r s
    (same_number (codes "bound ") r.bound s.bound (omega arith) (omega arith) (ap (line_at 1) e))
    serial.0
    rest.0
    (finding_same r.finding s.finding is also rest.1)

-- a text spells one report
pub one_spelt : (text : List ℕ) (r s : Report) → Spells text r → Spells text s → r ≡ s
one_spelt text r s is also =
    report_same r s is.0 is.1 also.0 also.1 (sym (report_again r is.0 is.1) ∙ (ap kept_lines (sym is.2 ∙ also.2) ∙ report_again s also.0 also.1))

-- a report's text is read as the report
pub text_read : (text : List ℕ) (result : Result Report (Fault ReportFaultKind)) → IfOk result (Spells text) → IfErr result (IsFault text) → (r : Report) → Spells text r → GivesReport result r
text_read text (Ok x) found fault r is = one_spelt text x r found is
text_read text (Err Memory) found fault r is = refl
text_read text (Err (At Form line)) found fault r is =
    absurd (fault.2.there (report_lines r) (r, (is.0, is.1, refl)) (ap (take (fault.0 + 1)) (sym (ap kept_lines is.2 ∙ report_again r is.0 is.1))))
