-- An operation is read as it was written: a label stands exactly at the places to which a jump leads, and
-- at `end` each target is the place of its label again.
use Rattle.std.proofs.Common.{◌≡◌, ℕ, ◌+◌, ◌-◌, ◌^◌, ◌<◌, ◌≤◌, Bool, true, false, List, [], ◌∷◌, ◌++◌, length, Option, Some, None, Ok, refl, sym, ap, ◌∙◌, append_assoc, inl, inr, arith}
use Rattle.std.specs.Prelude.{codes, map, find, is_some, slice_get, nat_le}
use Rattle.std.specs.List.{flat_map, join_with_byte, list_any, list_all, enumerate_from, AllByRecursion}
use Rattle.std.specs.Str.{bytes_eq}
use Rattle.std.specs.Option.{option_map}
use Rattle.std.proofs.lemmas.Bool.{cases_lt, lt-leb, eq-eqb, or_left, or_right}
use Rattle.std.proofs.lemmas.List.{append-nil, length-append, length-map, length_push, map_push}
use Rattle.std.proofs.lemmas.Option.{slice_get-map}
use Rattle.std.proofs.lemmas.List.Elements.{recursion_from_All}
use Rattle.lu_text.specs.Words.{Word}
use Rattle.lu_text.proofs.NumberText.{bytes_self}
use Rattle.lu_text.proofs.Written.{Reads, reads_nothing, reads_on, each_weaker}
use Rattle.lu_text.proofs.WordText.{literal_text}
use Rattle.lu_component.specs.declared.instr.Instr.{Instr}
use Rattle.lu_component.specs.declared.instr.Instr.TheVariants as instr
use Rattle.lu_component.specs.declared.component.Op.{Op}
use Rattle.lu_lang.specs.declared.draft.Label.{Label}
use Rattle.lu_lang.specs.declared.draft.Statement.{Statement}
use Rattle.lu_component.specs.Component.{Component, IsComponent, IsInstr, EndsWell, IsOp}
use Rattle.lu_lang.specs.Draft.{OpenOp, ComponentDraft}
use Rattle.lu_lang.specs.Words.{keyword_word}
use Rattle.lu_lang.specs.Grammar.{component_grammar, find_label, label_used, is_there, are_there, is_last, ends_well, target, resolved, op_of}
use Rattle.lu_lang.specs.ComponentText.{label_word, leads_to, instr_words, code_line, code_text, line_of_words}
use Rattle.lu_component.proofs.Named.{find_first, find_later}
use Rattle.lu_lang.proofs.WrittenWords.{is_keyword_word, is_name_word, label_name, labels_apart, label_text_is, label_again}
use Rattle.lu_lang.proofs.WrittenLines.{so_far, said_local, line_reads}
use Rattle.lu_lang.proofs.WrittenInstrs.{keyword_of, arguments_of, statement_of, IsSaid, is_said}

-- ---- labels

abbrev Labels : Type 0
Labels = List Label

-- the label that is written at this place
abbrev label_of : ℕ → Label
label_of n = record { name = label_word n; place = n }

abbrev label_at : Labels → ℕ → Option Label
label_at labels t = find (λ l. bytes_eq l.name (label_word t)) labels

-- before place n of the code stand the labels of these places, where a jump leads there
pub record AreLabels (code : List Instr) (n : ℕ) (labels : Labels) : Type 0 where
  pub there : (t : ℕ) → t < n → t < 2 ^ 64 → list_any (leads_to t) code ≡ true → label_at labels t ≡ Some (label_of t)
  pub fresh : (t : ℕ) → n ≤ t → t < 2 ^ 64 → label_at labels t ≡ None

no_labels : (code : List Instr) → AreLabels code 0 []
no_labels code = record { there = λ t lt small led. absurd (omega arith); fresh = λ t le small. refl }

new_label : (code : List Instr) (n : ℕ) (labels : Labels) → n < 2 ^ 64 → AreLabels code n labels → AreLabels code (n + 1) (labels ++ label_of n ∷ [])
new_label code n labels small are = record {
  there = λ t lt fits led. elim (cases_lt t n) [
    | inl before ↦ find_first (λ l. bytes_eq l.name (label_word t)) labels (label_of n ∷ []) (label_of t) (are.there t before fits led)
    | inr here ↦ (let same : n ≡ t = omega arith in
        find_later (λ l. bytes_eq l.name (label_word t)) labels (label_of n ∷ []) (are.fresh t here fits)
        ∙ rw (same, bytes_self (label_word t)) refl)
  ];
  fresh = λ t le fits.
      find_later (λ l. bytes_eq l.name (label_word t)) labels (label_of n ∷ []) (are.fresh t (omega arith) fits)
      ∙ rw (labels_apart n t small fits (λ e. omega arith)) refl;
}

no_label : (code : List Instr) (n : ℕ) (labels : Labels) → list_any (leads_to n) code ≡ false → AreLabels code n labels → AreLabels code (n + 1) labels
no_label code n labels none are = record {
  there = λ t lt fits led. elim (cases_lt t n) [
    | inl before ↦ are.there t before fits led
    | inr here ↦ (let same : n ≡ t = omega arith in let not_led : list_any (leads_to t) code ≡ false = rw (← same) none in absurd cc)
  ];
  fresh = λ t le fits. are.fresh t (omega arith) fits;
}

-- ---- a line of an operation

-- the draft inside an operation
abbrev in_op : Component → List Op → OpenOp → ComponentDraft
in_op c operations b = so_far c.name (said_local c.local) c.arrays c.locks operations (Some b)

abbrev begun : Word → ℕ → List Statement → Labels → OpenOp
begun name args statements labels = record { name = name; args = args; statements = statements; labels = labels }

plain_reads : (c : Component) (operations : List Op) (name : Word) (args : ℕ) (statements : List Statement) (labels : Labels) (i : Instr) → IsSaid c operations i → length statements < 64
    → Reads component_grammar (in_op c operations (begun name args statements labels)) (line_of_words (instr_words c i)) (in_op c operations (begun name args (statements ++ statement_of i ∷ []) labels))
plain_reads c operations name args statements labels i said room =
    let k = is_keyword_word (keyword_of i) in
    rw said.words
    (line_reads (in_op c operations (begun name args statements labels)) (in_op c operations (begun name args (statements ++ statement_of i ∷ []) labels)) (keyword_word (keyword_of i) ∷ arguments_of c i) (k.text, said.text)
    (rw (k.no_label, k.no_end, k.again, said.says, lt-leb 64 (length statements) room) refl))

labelled_text : (label text : List ℕ) → (label ++ 58 ∷ 32 ∷ []) ++ (text ++ 10 ∷ []) ≡ ((label ++ 58 ∷ []) ++ 32 ∷ text) ++ 10 ∷ []
labelled_text label text =
    append_assoc label (58 ∷ 32 ∷ []) (text ++ 10 ∷ [])
    ∙ (sym (append_assoc label (58 ∷ 32 ∷ text) (10 ∷ []))
    ∙ ap (λ (t : List ℕ). t ++ 10 ∷ []) (sym (append_assoc label (58 ∷ []) (32 ∷ text))))

labelled_reads : (c : Component) (operations : List Op) (name : Word) (args n : ℕ) (statements : List Statement) (labels : Labels) (i : Instr) → IsSaid c operations i → n ≡ length statements → n < 64 → label_at labels n ≡ None
    → Reads component_grammar (in_op c operations (begun name args statements labels)) ((label_word n ++ codes ": ") ++ line_of_words (instr_words c i)) (in_op c operations (begun name args (statements ++ statement_of i ∷ []) (labels ++ label_of n ∷ [])))
labelled_reads c operations name args n statements labels i said is room fresh =
    let k = is_keyword_word (keyword_of i) in
    let l = is_name_word (label_word n) (label_name n (omega arith)) in
    let new : is_some (find_label labels (label_word n)) ≡ false = ap (λ (o : Option Label). is_some o) fresh in
    let free : nat_le 64 (length statements) ≡ false = lt-leb 64 (length statements) (omega arith) in
    rw (said.words, labelled_text (label_word n) (join_with_byte 32 (keyword_word (keyword_of i) ∷ arguments_of c i)))
    (line_reads (in_op c operations (begun name args statements labels)) (in_op c operations (begun name args (statements ++ statement_of i ∷ []) (labels ++ label_of n ∷ [])))
    ((label_word n ++ 58 ∷ []) ∷ keyword_word (keyword_of i) ∷ arguments_of c i) (label_text_is (label_word n) l.text, (k.text, said.text))
    (rw (label_again (label_word n), k.again, said.says, l.form, l.short, free, new, ← is) refl))

-- ---- the lines of an operation

-- from these labels on the rest of the code is read, after what is done
record IsRead (c : Component) (operations : List Op) (name : Word) (args : ℕ) (code done rest : List Instr) (labels : Labels) : Type 0 where
  to : Labels
  are : AreLabels code (length code) to
  reads : Reads component_grammar (in_op c operations (begun name args (map statement_of done) labels)) (flat_map (code_line c code) (enumerate_from (length done) rest)) (in_op c operations (begun name args (map statement_of code) to))

more_read : (c : Component) (operations : List Op) (name : Word) (args : ℕ) (code done rest : List Instr) (i : Instr) (labels next : Labels)
    → Reads component_grammar (in_op c operations (begun name args (map statement_of done) labels)) (code_line c code (length done, i)) (in_op c operations (begun name args (map statement_of done ++ statement_of i ∷ []) next))
    → IsRead c operations name args code (done ++ i ∷ []) rest next → IsRead c operations name args code done (i ∷ rest) labels
more_read c operations name args code done rest i labels next line is =
    let before : ComponentDraft = in_op c operations (begun name args (map statement_of done) labels) in
    let between : ComponentDraft = in_op c operations (begun name args (map statement_of done ++ statement_of i ∷ []) next) in
    let after : ComponentDraft = in_op c operations (begun name args (map statement_of code) is.to) in
    let rest_text : List ℕ = flat_map (code_line c code) (enumerate_from (length done + 1) rest) in
    let others : Reads component_grammar between rest_text after = rw (map_push statement_of done i, length_push done i) at is.reads in
    record {
      to = is.to;
      are = is.are;
      reads = reads_on component_grammar before between after (code_line c code (length done, i)) rest_text line others;
    }

code_read : (c : Component) (operations : List Op) (name : Word) (args : ℕ) (code done rest : List Instr) (labels : Labels) → code ≡ done ++ rest → AllByRecursion (IsSaid c operations) rest → length code ≤ 64 → AreLabels code (length done) labels
    → IsRead c operations name args code done rest labels
code_read c operations name args code done [] labels is said few are =
    let same : code ≡ done = is ∙ append-nil done in
    record {
      to = labels;
      are = rw (ap length same) are;
      reads = rw (ap (λ (x : List Instr). map statement_of x) same) (reads_nothing component_grammar (in_op c operations (begun name args (map statement_of done) labels)));
    }
code_read c operations name args code done (i ∷ rest) labels is said few are =
    go (list_any (leads_to (length done)) code) refl
    (λ next fits. code_read c operations name args code (done ++ i ∷ []) rest next (is ∙ sym (append_assoc done (i ∷ []) rest)) said.1 few (rw (length_push done i) fits))
  where
    here : length done < 64
    here = let n : length (done ++ i ∷ rest) ≡ length done + length (i ∷ rest) = simp length-append in let whole : length code ≡ length (done ++ i ∷ rest) = ap length is in omega arith

    same_length : length done ≡ length (map statement_of done)
    same_length = simp length-map

    go : (b : Bool) → list_any (leads_to (length done)) code ≡ b → ((next : Labels) → AreLabels code (length done + 1) next → IsRead c operations name args code (done ++ i ∷ []) rest next) → IsRead c operations name args code done (i ∷ rest) labels
    go true led again =
        let next : Labels = labels ++ label_of (length done) ∷ [] in
        more_read c operations name args code done rest i labels next
        (rw led (labelled_reads c operations name args (length done) (map statement_of done) labels i said.0 same_length here (are.fresh (length done) (omega arith) (omega (arith, here)))))
        (again next (new_label code (length done) labels (omega (arith, here)) are))
    go false none again =
        more_read c operations name args code done rest i labels labels
        (rw none (plain_reads c operations name args (map statement_of done) labels i said.0 (omega (arith, here, same_length))))
        (again labels (no_label code (length done) labels none are))

-- ---- `end`

-- each place to which the instruction leads has a label in this code
abbrev HasTargets : List Instr → Instr → Type 0
HasTargets code i = (t : ℕ) → leads_to t i ≡ true → list_any (leads_to t) code ≡ true

each_target : (code xs : List Instr) → ((t : ℕ) → list_any (leads_to t) xs ≡ true → list_any (leads_to t) code ≡ true) → AllByRecursion (HasTargets code) xs
each_target code [] h = tt
each_target code (x ∷ xs) h = (
  (λ t e. h t (or_left (leads_to t x) (list_any (leads_to t) xs) e)),
  each_target code xs (λ t e. h t (or_right (leads_to t x) (list_any (leads_to t) xs) e)),
)

-- the instruction again, and its label is there
record IsResolved (labels : Labels) (i : Instr) : Type 0 where
  again : resolved labels (statement_of i) ≡ i
  there : is_there labels (label_used (statement_of i)) ≡ true

target_again : (code : List Instr) (labels : Labels) (t : ℕ) → AreLabels code (length code) labels → length code ≤ 64 → t < length code → list_any (leads_to t) code ≡ true
    → (target labels (label_word t) ≡ t) × (is_some (find_label labels (label_word t)) ≡ true)
target_again code labels t are few lt led =
    let at : label_at labels t ≡ Some (label_of t) = are.there t lt (omega arith) led in
    (rw at refl, ap (λ (o : Option Label). is_some o) at)

is_resolved : (arrays locks : ℕ) (code : List Instr) (labels : Labels) → AreLabels code (length code) labels → length code ≤ 64 → (i : Instr) → IsInstr arrays locks (length code) i → HasTargets code i → IsResolved labels i
is_resolved a l code labels are few (instr.Set to v) h led = record { again = refl; there = refl }
is_resolved a l code labels are few (instr.Compute by to u v) h led = record { again = refl; there = refl }
is_resolved a l code labels are few (instr.Load to array i) h led = record { again = refl; there = refl }
is_resolved a l code labels are few (instr.Store array i v) h led = record { again = refl; there = refl }
is_resolved a l code labels are few (instr.Cas to array i u v) h led = record { again = refl; there = refl }
is_resolved a l code labels are few (instr.Lock lock) h led = record { again = refl; there = refl }
is_resolved a l code labels are few (instr.Unlock lock) h led = record { again = refl; there = refl }
is_resolved a l code labels are few (instr.Await array i v) h led = record { again = refl; there = refl }
is_resolved a l code labels are few (instr.AwaitNot array i v) h led = record { again = refl; there = refl }
is_resolved a l code labels are few (instr.Pick to count) h led = record { again = refl; there = refl }
is_resolved a l code labels are few (instr.Jump t) h led =
    let x = target_again code labels t are few h (led t (eq-eqb t t refl)) in
    record { again = ap (λ (k : ℕ). instr.Jump k) x.0; there = x.1 }
is_resolved a l code labels are few (instr.JumpIfZero v t) h led =
    let x = target_again code labels t are few h.1 (led t (eq-eqb t t refl)) in
    record { again = ap (λ (k : ℕ). instr.JumpIfZero v k) x.0; there = x.1 }
is_resolved a l code labels are few (instr.Return v) h led = record { again = refl; there = refl }

each_resolved : (arrays locks : ℕ) (code : List Instr) (labels : Labels) → AreLabels code (length code) labels → length code ≤ 64 → (xs : List Instr) → AllByRecursion (IsInstr arrays locks (length code)) xs → AllByRecursion (HasTargets code) xs → AllByRecursion (IsResolved labels) xs
each_resolved a l code labels are few [] h led = tt
each_resolved a l code labels are few (i ∷ xs) h led = (is_resolved a l code labels are few i h.0 led.0, each_resolved a l code labels are few xs h.1 led.1)

code_again : (labels : Labels) (xs : List Instr) → AllByRecursion (IsResolved labels) xs → map (resolved labels) (map statement_of xs) ≡ xs
code_again labels [] h = refl
code_again labels (i ∷ xs) h = let first = h.0.again in let rest = code_again labels xs h.1 in cc

all_there : (labels : Labels) (xs : List Instr) → AllByRecursion (IsResolved labels) xs → list_all (λ s. is_there labels (label_used s)) (map statement_of xs) ≡ true
all_there labels [] h = refl
all_there labels (i ∷ xs) h = rw (h.0.there, all_there labels xs h.1) refl

last_again : (o : Option Instr) → EndsWell o → is_last (option_map statement_of o) ≡ true
last_again None h = absurd h
last_again (Some (instr.Set to v)) h = absurd h
last_again (Some (instr.Compute by to u v)) h = absurd h
last_again (Some (instr.Load to array i)) h = absurd h
last_again (Some (instr.Store array i v)) h = absurd h
last_again (Some (instr.Cas to array i u v)) h = absurd h
last_again (Some (instr.Lock lock)) h = absurd h
last_again (Some (instr.Unlock lock)) h = absurd h
last_again (Some (instr.Await array i v)) h = absurd h
last_again (Some (instr.AwaitNot array i v)) h = absurd h
last_again (Some (instr.Pick to count)) h = absurd h
last_again (Some (instr.Jump t)) h = refl
last_again (Some (instr.JumpIfZero v t)) h = absurd h
last_again (Some (instr.Return v)) h = refl

end_reads : (c : Component) (operations : List Op) (op : Op) (labels : Labels) → AllByRecursion (IsResolved labels) op.code → EndsWell (slice_get op.code (length op.code - 1))
    → Reads component_grammar (in_op c operations (begun op.name op.args (map statement_of op.code) labels)) (line_of_words (codes "end" ∷ [])) (so_far c.name (said_local c.local) c.arrays c.locks (operations ++ op ∷ []) None)
end_reads c operations op labels each ends =
    let b : OpenOp = begun op.name op.args (map statement_of op.code) labels in
    let n : length (map statement_of op.code) ≡ length op.code = simp length-map in
    let well : ends_well b ≡ true = rw (n, slice_get-map statement_of op.code (length op.code - 1)) (last_again (slice_get op.code (length op.code - 1)) ends) in
    let found : are_there b ≡ true = all_there labels op.code each in
    let same : op_of b ≡ op = ap (λ (code : List Instr). record { name = op.name; args = op.args; code = code }) (code_again labels op.code each) in
    line_reads (in_op c operations b) (so_far c.name (said_local c.local) c.arrays c.locks (operations ++ op ∷ []) None) (codes "end" ∷ []) (literal_text (codes "end") (omega arith) refl, tt)
    (rw (well, found) (ap (λ (o : Op). Ok (so_far c.name (said_local c.local) c.arrays c.locks (operations ++ o ∷ []) None)) same))

-- ---- operations

pub operation_read : (c : Component) → IsComponent c → (operations : List Op) (op : Op) → IsOp (length c.arrays) (length c.locks) op
    → Reads component_grammar (so_far c.name (said_local c.local) c.arrays c.locks operations (Some (record { name = op.name; args = op.args; statements = []; labels = [] }))) (code_text c op.code ++ line_of_words (codes "end" ∷ [])) (so_far c.name (said_local c.local) c.arrays c.locks (operations ++ op ∷ []) None)
operation_read c is operations op h =
    let instrs = recursion_from_All (IsInstr (length c.arrays) (length c.locks) (length op.code)) op.code h.code.instrs in
    let said : AllByRecursion (IsSaid c operations) op.code = each_weaker (IsInstr (length c.arrays) (length c.locks) (length op.code)) (IsSaid c operations) (is_said c is operations (length op.code) h.code.few) op.code instrs in
    let read = code_read c operations op.name op.args op.code [] op.code [] refl said h.code.few (no_labels op.code) in
    let each = each_resolved (length c.arrays) (length c.locks) op.code read.to read.are h.code.few op.code instrs (each_target op.code op.code (λ t e. e)) in
    reads_on component_grammar (in_op c operations (begun op.name op.args [] [])) (in_op c operations (begun op.name op.args (map statement_of op.code) read.to)) (so_far c.name (said_local c.local) c.arrays c.locks (operations ++ op ∷ []) None) (code_text c op.code) (line_of_words (codes "end" ∷ []))
    read.reads (end_reads c operations op read.to each h.code.ends)
