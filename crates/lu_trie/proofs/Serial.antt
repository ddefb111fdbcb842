-- The members of a node stay serial histories.
use Rattle.std.proofs.Common.{◌≡◌, ℕ, ◌≤◌, ◌-◌, arith, Bool, true, false, List, [], ◌∷◌, length, get_or, set, Result, Ok, Err, OnOk, OnErr, sym, ap, ◌∙◌, subst}
use Rattle.std.proofs.lemmas.List.{set-get_or, take_all}
use Rattle.lu_history.specs.declared.serial.SerialOp.{SerialOp}
use Rattle.lu_history.specs.declared.serial.SerialOutcome.TheVariants.{Ret}
use Rattle.lu_history.specs.Serial.{IsSerial}
use Rattle.lu_trie.specs.Members.{same_history, contains, Adds, AllSerial}
use Rattle.lu_trie.specs.Branches.{Branch, members_from}
use Rattle.lu_trie.proofs.Ops.{same_histories_are}
use Rattle.lu_trie.proofs.Histories.{first_and_rest}
use Rattle.lu_trie.proofs.Membership.{split_or, node-cons, rest_of}

pub none_serial : AllSerial []
none_serial h is = cc

pub one_serial : (hs : List (List SerialOp)) (h : List SerialOp) → hs ≡ h ∷ [] → IsSerial h → AllSerial hs
one_serial hs h one s q is = split_or (same_history q h) false (IsSerial q) (λ e. subst IsSerial (sym (same_histories_are q h e)) s) (λ e. cc) (ap (λ x. contains x q) (sym one) ∙ is)

pub serial_rest : (h : List SerialOp) → IsSerial h → IsSerial (rest_of h)
serial_rest [] s = tt
serial_rest (op ∷ h) s = subst IsSerial (sym (take_all (length (op ∷ h) - 1) h (omega arith))) s.1

-- what a slice's pattern reads past the end
abbrev pub no_op : SerialOp
no_op = record { thread = 0; outcome = Ret 0 }

pub one_after_serial : (ends : Bool) (h : List SerialOp) (below : List (List SerialOp)) → 1 ≤ length h → ends ≡ false → below ≡ rest_of h ∷ [] → IsSerial h → AllSerial (members_from ends ((get_or h 0 no_op, below) ∷ []))
one_after_serial ends h below some none one s =
    one_serial _ h (ap (λ e. members_from e ((get_or h 0 no_op, below) ∷ [])) none ∙ ap (λ hs. members_from false ((get_or h 0 no_op, hs) ∷ [])) one ∙ ap (λ x. x ∷ []) (sym (first_and_rest h no_op some))) s

pub serial_adds : (old new : List (List SerialOp)) (h : List SerialOp) → IsSerial h → AllSerial old → Adds old new h → AllSerial new
serial_adds old new h s all adds q is = split_or (same_history q h) (contains old q) (IsSerial q) (λ e. subst IsSerial (sym (same_histories_are q h e)) s) (all q) (sym (adds q) ∙ is)

pub serial_ends : (ends : Bool) (bs : List Branch) → AllSerial (members_from ends bs) → AllSerial (members_from true bs)
serial_ends ends bs all [] is = tt
serial_ends ends bs all (p ∷ q) is = all (p ∷ q) (node-cons ends bs p q ∙ sym (node-cons true bs p q) ∙ is)

pub kept_serial : {B E : Type 0} (r : Result B E) (old new : List (List SerialOp)) (h : List SerialOp) → IsSerial h → AllSerial old → OnOk r (Adds old new h) → OnErr r (new ≡ old) → AllSerial new
kept_serial (Ok b) old new h s all adds same = serial_adds old new h s all adds
kept_serial (Err e) old new h s all adds same = subst AllSerial (sym same) all

pub on_err : {B E P Q : Type 0} (r : Result B E) → (P → Q) → OnErr r P → OnErr r Q
on_err (Ok b) f p = tt
on_err (Err e) f p = f p

pub set_same : (ends : Bool) (bs : List Branch) (i : ℕ) (read : Branch) (hs : List (List SerialOp)) → read ≡ get_or bs i read → hs ≡ read.1 → members_from ends (set bs i (read.0, hs)) ≡ members_from ends bs
set_same ends bs i read hs is same = ap (λ x. members_from ends (set bs i (read.0, x))) same ∙ ap (λ x. members_from ends (set bs i x)) is ∙ ap (members_from ends) (set-get_or bs i read)
