-- Warnings, line by line.
use Rattle.std.proofs.Common.{◌≡◌, ℕ, ◌+◌, ◌<◌, Bool, true, false, cond, add-one, List, [], ◌∷◌, ◌++◌, get_or, length, replicate, take, map, filter, Option, Some, None, Result, Ok, Err, refl, sym, ap, ◌∙◌}
use Rattle.std.specs.Prelude.{◌&&◌, is_none, is_some, not}
use Rattle.std.specs.List.{cons_option}
use Rattle.std.specs.Option.{unwrap_or}
use Rattle.std.proofs.lemmas.List.{append_assoc, append-nil, map-append, take_more}
use Rattle.lu_text.specs.Faults.{going_on}
use Rattle.lu_component.specs.Component.{Component}
use Rattle.lu_lang.specs.declared.fault.LangFaultKind.{LangFaultKind}
use Rattle.lu_lang.specs.Draft.{ComponentDraft, OpenOp}
use Rattle.lu_lang.specs.Faulty.{FaultyDraft, MeantName}
use Rattle.lu_lang.specs.Grammar.{line_of}
use Rattle.lu_lang.specs.Meant.{faulty_grammar, meant_line, mend_faulty, read_as as meant_as, with_draft}
use Rattle.lu_lang.proofs.Understood.{same_line}
use Rattle.lu_lint.specs.declared.component.ReadComponent.{ReadComponent}
use Rattle.lu_lint.specs.declared.component.ReadComponent.TheVariants as read
use Rattle.lu_lint.specs.declared.remark.Position.{Position}
use Rattle.lu_lint.specs.declared.remark.Remark.{Remark}
use Rattle.lu_lint.specs.declared.remark.Said.{Said}
use Rattle.lu_lint.specs.declared.warning.FoundHint.{FoundHint}
use Rattle.lu_lint.specs.declared.warning.PossibleWarning.{PossibleWarning}
use Rattle.lu_lint.specs.Bundle.{held_of, warnings_said}
use Rattle.lu_lint.specs.Component.{read_as, read_of_lines}
use Rattle.lu_lint.specs.Lint.{left_by, line_before, with_words}
use Rattle.lu_lint.specs.Said.{said_of}
use Rattle.lu_lint.specs.Warnings.{Possible, found_at, held, holds, line_hints, next_draft, next_returns, possible, possible_after, possible_of_lines, remarks_held, returns_within, warned, without_words}
use Rattle.lu_lint.proofs.WhileSound.{free}

-- one warning more
pub one_more : (all : List PossibleWarning) (w : PossibleWarning) → map without_words (all ++ w ∷ []) ≡ map without_words all ++ without_words w ∷ []
one_more all w = map-append without_words all (w ∷ [])

-- one hint more is found at a line
pub found_more : (at : Position) (hints : List FoundHint) (i : ℕ) (d : FoundHint) (place : ℕ) (before now next : List Possible) → i < length hints → place ≡ line_before at.seen.items at.line (get_or hints i d).back → now ≡ before ++ map (found_at at) (take i hints)
    → next ≡ now ++ record { line = place; hint = (get_or hints i d).hint; unless_named = (get_or hints i d).unless_named } ∷ [] → next ≡ before ++ map (found_at at) (take (i + 1) hints)
found_more at hints i d place before now next within is so_far more =
    let here = map (found_at at) (take i hints) in
    let one : ℕ → Possible = λ n. record { line = n; hint = (get_or hints i d).hint; unless_named = (get_or hints i d).unless_named } in
    rw (take_more hints i d within) (more
    ∙ (ap (λ (x : List Possible). x ++ one place ∷ []) so_far
    ∙ (append_assoc before here (one place ∷ [])
    ∙ (ap (λ (n : ℕ). before ++ (here ++ one n ∷ [])) is
    ∙ ap (λ (x : List Possible). before ++ x) (sym (map-append (found_at at) (take i hints) (get_or hints i d ∷ [])))))))

-- while no line has had a fault, the warnings found, and those of the lines to come, are these
abbrev pub Finds : Bool → List Possible → List ℕ → ℕ → FaultyDraft → List (List ℕ) → List Possible → Type 0
Finds true found seen n f lines total = (f.meant ≡ []) × (found ++ possible_after seen n f.draft lines ≡ total)
Finds false found seen n f lines total = Unit {0}

-- one line more
pub finds_on : (sound none : Bool) (found more : List Possible) (hints : List FoundHint) (seen : List ℕ) (n : ℕ) (d : ComponentDraft) (f f1 next : FaultyDraft) (fault : Option LangFaultKind) (line : List ℕ) (after rest : List (List ℕ)) (total : List Possible)
    → d ≡ f.draft → is_some fault ≡ not none → (f1, fault) ≡ going_on f (faulty_grammar.line f line) → next ≡ left_by mend_faulty f1 line after fault → more ≡ found ++ map (possible seen n) hints → hints ≡ cond sound (line_hints d line) []
    → Finds sound found seen n f (line ∷ rest) total → Finds (sound && none) more (with_words seen n line) (n + 1) next rest total
unfolding possible_after
finds_on false none found more hints seen n d f f1 next fault line after rest total inside is e left also are h = tt
finds_on true none found more hints seen n d f f1 next fault line after rest total inside is e left also are h = rw (free (is_some fault) none is) (go (line_of f.draft (meant_as f line)) refl e)
  where
    others : ComponentDraft → List Possible
    others x = possible_after (with_words seen n line) (n + 1) x rest

    here : List Possible
    here = map (possible seen n) (line_hints f.draft line)

    plain : meant_as f line ≡ line
    plain = ap (λ (o : Option (List ℕ)). unwrap_or o line) (ap (λ (ms : List MeantName). meant_line (record { draft = f.draft; meant = ms }) line) h.0 ∙ same_line f.draft line)

    all_found : more ≡ found ++ here
    all_found = also ∙ ap (λ (xs : List FoundHint). found ++ map (possible seen n) xs) (are ∙ ap (λ (x : ComponentDraft). line_hints x line) inside)

    go : (r : Result ComponentDraft LangFaultKind) → line_of f.draft (meant_as f line) ≡ r → (f1, fault) ≡ going_on f (with_draft f r) → Finds (true && is_none fault) more (with_words seen n line) (n + 1) next rest total
    go (Ok y) read g =
        let same : f1 ≡ record f { draft = y } = ap (λ (x : FaultyDraft × Option LangFaultKind). x.0) g in
        let free : fault ≡ None = ap (λ (x : FaultyDraft × Option LangFaultKind). x.1) g in
        let from : y ≡ next_draft f.draft line = ap (λ (r : Result ComponentDraft LangFaultKind). (going_on f.draft r).0) (sym read ∙ ap (line_of f.draft) plain) in
        let all : more ++ others y ≡ total = ap (λ (x : List Possible). x ++ others y) all_found ∙ (ap (λ (x : ComponentDraft). (found ++ here) ++ others x) from ∙ (append_assoc found here (others (next_draft f.draft line)) ∙ h.1)) in
        rw (left, free, same) (h.0, all)
    go (Err kind) read g =
        let some : fault ≡ Some kind = ap (λ (x : FaultyDraft × Option LangFaultKind). x.1) g in
        rw some tt

-- no line is left
pub finds_all : (sound : Bool) (found : List Possible) (seen : List ℕ) (n : ℕ) (f : FaultyDraft) (total : List Possible) → Finds sound found seen n f [] total → held_of (read_as f sound) found ≡ held_of (read_as f sound) total
unfolding possible_after
finds_all false found seen n f total h = refl
finds_all true found seen n f total h = ap (held_of (read_as f true)) (sym (append-nil found) ∙ h.1)

held_lines : (c : ReadComponent) (lines : List (List ℕ)) → held_of c (possible_of_lines lines) ≡ warnings_said c lines
held_lines (read.Faulty f) lines = refl
held_lines (read.Sound c) lines = refl

-- what is said of those that are found
pub found_said : (sound : Bool) (found : List Possible) (seen : List ℕ) (n : ℕ) (f : FaultyDraft) (lines : List (List ℕ)) (c : ReadComponent) → Finds sound found seen n f [] (possible_of_lines lines) → c ≡ read_as f sound → c ≡ read_of_lines lines → held_of c found ≡ warnings_said (read_of_lines lines) lines
found_said sound found seen n f lines c h is read =
    ap (λ (x : ReadComponent). held_of x found) is
    ∙ (finds_all sound found seen n f (possible_of_lines lines) h
    ∙ (ap (λ (x : ReadComponent). held_of x (possible_of_lines lines)) (sym is ∙ read) ∙ held_lines (read_of_lines lines) lines))

-- the remarks of those that hold say so
remarks_said : (c : Component) (warnings : List PossibleWarning) → said_of (remarks_held c warnings) ≡ held c (map without_words warnings)
remarks_said c [] = refl
remarks_said c (w ∷ ws) = go (holds c w.unless_named) (remarks_said c ws)
  where
    others : List Possible
    others = filter (λ x. holds c x.unless_named) (map without_words ws)

    go : (b : Bool) → said_of (remarks_held c ws) ≡ map warned others → said_of (cons_option (cond b (Some (record { said = warned (without_words w); words = w.words })) None) (remarks_held c ws)) ≡ map warned (cond b (without_words w ∷ others) others)
    go true e = ap (λ (x : List Said). warned (without_words w) ∷ x) e
    go false e = e

pub held_more : (c : Component) (r : ReadComponent) (warnings : List PossibleWarning) (all these next : List Remark) → r ≡ read.Sound c → these ≡ remarks_held c warnings → next ≡ all ++ these → said_of next ≡ said_of all ++ held_of r (map without_words warnings)
held_more c r warnings all these next is e more =
    rw (more, e, is) (map-append (λ r. r.said) all (remarks_held c warnings) ∙ ap (λ (x : List Said). said_of all ++ x) (remarks_said c warnings))

-- no round is made
pub no_round : (b : OpenOp) (row : List Bool) → row ≡ replicate (length b.statements) false → row ≡ returns_within b 0
unfolding returns_within
no_round b row e = e

-- one round more
pub round_more : (b : OpenOp) (n : ℕ) (row next : List Bool) → row ≡ returns_within b n → next ≡ next_returns b row → next ≡ returns_within b (n + 1)
unfolding returns_within
round_more b n row next is more = rw (add-one n) (more ∙ ap (next_returns b) is)
