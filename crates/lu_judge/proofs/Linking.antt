-- What holds of the beginnings of a path stays when one is added.
use Rattle.std.proofs.Common.{◌≡◌, ◌≢◌, ℕ, suc, ◌<◌, ◌≤◌, List, [], ◌∷◌, ◌++◌, length, Some, IsTrue, slice_get, slice_set, inl, inr, sym, ap, ◌∙◌, subst, arith}
use Rattle.std.proofs.lemmas.Option.{slice_get_within}
use Rattle.lu_history.specs.declared.serial.SerialOp.{SerialOp}
use Rattle.lu_history.proofs.Events.{at_push, kept_at, last_at}
use Rattle.lu_witness.specs.Witnesses.{IsMember, IsGood}
use Rattle.lu_judge.specs.declared.path.Beginning.{Beginning}
use Rattle.lu_judge.specs.Paths.{Line, lines, read_back, history_at, IsBack, IsAfter, AreLinks}
use Rattle.lu_judge.proofs.Reading.{grown_read, read_longer, lines_push, lines_length, lines_set, at_set}

pub after_more : (ls more : List Line) (shorter number : ℕ) → IsAfter ls shorter number → IsAfter (ls ++ more) shorter number
after_more ls more shorter number is = (is.0, kept_at ls more (shorter, is.0) number is.1)

pub links_more : (ls more : List Line) (number : ℕ) (b : Beginning) → AreLinks ls number b → AreLinks (ls ++ more) number b
links_more ls more number b are = record {
  lower = are.lower;
  beside = λ ne. after_more ls more b.shorter b.next (are.beside ne);
  above = λ ne. after_more ls more number b.longer (are.above ne);
}

back_push : (ls : List Line) (line : Line) → IsBack ls → line.0 < length ls → IsBack (ls ++ line ∷ [])
back_push ls line back lt i other is = elim (at_push ls line other (suc i) is) as (λ _. other.0 ≤ i) [
  | inl b ↦ back i other b.1
  | inr b ↦ omega (arith, b.0, ap (λ (l : Line). l.0) b.1)
]

abbrev pub Linked : List Beginning → Type 0
Linked bs = (i : ℕ) (b : Beginning) → slice_get bs i ≡ Some b → AreLinks (lines bs) i b

abbrev pub Right : List (List SerialOp) → List Beginning → Type 0
Right members bs = (i : ℕ) (b : Beginning) → slice_get bs i ≡ Some b → IsTrue b.good → IsGood (IsMember members) (history_at bs i)

-- a beginning is changed, but for its shorter one and its event
module _ (bs : List Beginning) (k : ℕ) (b c : Beginning) (is : slice_get bs k ≡ Some b) (shorter : c.shorter ≡ b.shorter) (event : c.event ≡ b.event) where
  same : lines bs ≡ lines (slice_set bs k c)
  same = sym (lines_set bs k b c is shorter event)

  pub set_history : (i : ℕ) → history_at (slice_set bs k c) i ≡ history_at bs i
  set_history i = ap (λ ls. read_back i ls i) (sym same)

  pub set_back : IsBack (lines bs) → IsBack (lines (slice_set bs k c))
  set_back back = subst IsBack same back

  pub set_links : Linked bs → AreLinks (lines bs) k c → Linked (slice_set bs k c)
  set_links links own i x at = subst (λ ls. AreLinks ls i x) same (elim (at_set bs k i c x at) as (λ _. AreLinks (lines bs) i x) [
    | inl e ↦ subst (λ j. AreLinks (lines bs) j x) (sym e.0) (subst (AreLinks (lines bs) k) (sym e.1) own)
    | inr e ↦ links i x e.1
  ])

  pub set_right : (members : List (List SerialOp)) → Right members bs → (IsTrue c.good → IsGood (IsMember members) (history_at bs k)) → Right members (slice_set bs k c)
  set_right members right own i x at good = subst (IsGood (IsMember members)) (sym (set_history i)) (elim (at_set bs k i c x at) as (λ _. IsGood (IsMember members) (history_at bs i)) [
    | inl e ↦ subst (λ j. IsGood (IsMember members) (history_at bs j)) (sym e.0) (own (subst (λ (y : Beginning). IsTrue y.good) e.1 good))
    | inr e ↦ right i x e.1 good
  ])

-- a beginning is added after the others
module _ (bs : List Beginning) (b : Beginning) (back : IsBack (lines bs)) (lt : b.shorter < length bs) where
  more : lines bs ++ (b.shorter, b.event) ∷ [] ≡ lines (bs ++ b ∷ [])
  more = sym (lines_push bs b)

  pub push_history : (i : ℕ) → i < length bs → history_at (bs ++ b ∷ []) i ≡ history_at bs i
  push_history i within = ap (λ ls. read_back i ls i) (sym more) ∙ grown_read (lines bs) ((b.shorter, b.event) ∷ []) back i i (omega (arith, lines_length bs))

  pub push_back : IsBack (lines (bs ++ b ∷ []))
  push_back = subst IsBack more (back_push (lines bs) (b.shorter, b.event) back (omega (arith, lines_length bs)))

  push_line : slice_get (lines (bs ++ b ∷ [])) (length bs) ≡ Some (b.shorter, b.event)
  push_line = ap (λ ls. slice_get ls (length bs)) (sym more) ∙ ap (slice_get (lines bs ++ (b.shorter, b.event) ∷ [])) (sym (lines_length bs)) ∙ last_at (lines bs) [] (b.shorter, b.event)

  pub push_last : history_at (bs ++ b ∷ []) (length bs) ≡ history_at bs b.shorter ++ b.event ∷ []
  push_last = read_longer (lines (bs ++ b ∷ [])) push_back (length bs) b.shorter b.event (λ e. absurd (omega arith)) push_line ∙ ap (λ h. h ++ b.event ∷ []) (push_history b.shorter lt)

  pub push_after : IsAfter (lines (bs ++ b ∷ [])) b.shorter (length bs)
  push_after = (b.event, push_line)

  pub push_links : Linked bs → (b.next ≢ 0 → IsAfter (lines bs) b.shorter b.next) → b.longer ≡ 0 → Linked (bs ++ b ∷ [])
  push_links links beside none i x at = subst (λ ls. AreLinks ls i x) more (elim (at_push bs b x i at) as (λ _. AreLinks (lines bs ++ (b.shorter, b.event) ∷ []) i x) [
    | inl e ↦ links_more (lines bs) ((b.shorter, b.event) ∷ []) i x (links i x e.1)
    | inr e ↦ subst (λ j. AreLinks (lines bs ++ (b.shorter, b.event) ∷ []) j x) (sym e.0) (subst (AreLinks (lines bs ++ (b.shorter, b.event) ∷ []) (length bs)) (sym e.1) record {
      lower = λ ne. omega (arith, lines_length bs, slice_get_within (lines bs) b.next (b.shorter, (beside ne).0) (beside ne).1);
      beside = λ ne. after_more (lines bs) ((b.shorter, b.event) ∷ []) b.shorter b.next (beside ne);
      above = λ ne. absurd (ne none);
    })
  ])

  pub push_right : (members : List (List SerialOp)) → Right members bs → (IsTrue b.good → ⊥) → Right members (bs ++ b ∷ [])
  push_right members right not i x at good = elim (at_push bs b x i at) as (λ _. IsGood (IsMember members) (history_at (bs ++ b ∷ []) i)) [
    | inl e ↦ subst (IsGood (IsMember members)) (sym (push_history i e.0)) (right i x e.1 good)
    | inr e ↦ absurd (not (subst (λ (y : Beginning). IsTrue y.good) e.1 good))
  ]
