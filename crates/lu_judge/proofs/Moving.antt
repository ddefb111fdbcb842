-- A path that goes on, goes back or is judged.
use Rattle.std.proofs.Common.{◌≡◌, ◌≢◌, ℕ, zero, suc, ◌+◌, ◌<◌, false, List, [], ◌∷◌, ◌++◌, length, take, add-one, Some, slice_get, slice_set, get_or, refl, sym, ap, ◌∙◌, subst, arith}
use Rattle.std.proofs.lemmas.Option.{same_Some, slice_get_within, slice_get_read}
use Rattle.lu_machine.specs.declared.event.Event.{Event}
use Rattle.lu_history.specs.declared.serial.SerialOp.{SerialOp}
use Rattle.lu_history.specs.Histories.{Fits, IsWellFormed}
use Rattle.lu_history.proofs.Events.{kept_at, push_history as well_push}
use Rattle.lu_judge.specs.declared.path.Beginning.{Beginning}
use Rattle.lu_judge.specs.Paths.{Line, lines, history_at, IsBack, IsAfter}
use Rattle.lu_judge.proofs.Reading.{read_longer, lines_at, lines_length}
use Rattle.lu_judge.proofs.Linking.{Linked, Right, set_history, set_back, set_links, set_right, push_back, push_last, push_after, push_links, push_right}

-- what stands at a number that was read
pub found_at : (bs : List Beginning) (i : ℕ) (b : Beginning) → i < length bs → b ≡ get_or bs i b → slice_get bs i ≡ Some b
found_at bs i b lt read = slice_get_read bs (length bs) i b refl lt read

pub some_number : (bs : List Beginning) (number : ℕ) → history_at bs number ≢ [] → number ≢ 0
some_number bs zero ne = absurd (ne refl)
some_number bs (suc number) ne = λ e. absurd (omega (arith, e))

pub shorter_lower : (bs : List Beginning) → IsBack (lines bs) → (number : ℕ) (b : Beginning) → number ≢ 0 → slice_get bs number ≡ Some b → b.shorter < number
shorter_lower bs back zero b ne at = absurd (ne refl)
shorter_lower bs back (suc number) b ne at = omega (arith, back number (b.shorter, b.event) (lines_at bs (suc number) b at))

pub shorter_history : (bs : List Beginning) → IsBack (lines bs) → (number : ℕ) (b : Beginning) → number ≢ 0 → slice_get bs number ≡ Some b → history_at bs number ≡ history_at bs b.shorter ++ b.event ∷ []
shorter_history bs back number b ne at = read_longer (lines bs) back number b.shorter b.event ne (lines_at bs number b at)

-- a number has one shorter one
pub one_shorter : (bs : List Beginning) (i : ℕ) (b : Beginning) (shorter : ℕ) (event : Event) → slice_get bs i ≡ Some b → slice_get (lines bs) i ≡ Some (shorter, event) → b.shorter ≡ shorter
one_shorter bs i b shorter event at is = ap (λ (l : Line). l.0) (same_Some (b.shorter, b.event) (shorter, event) (sym (lines_at bs i b at) ∙ is))

pub after_within : (bs : List Beginning) (shorter number : ℕ) → IsAfter (lines bs) shorter number → number < length bs
after_within bs shorter number is = omega (arith, slice_get_within (lines bs) number (shorter, is.0) is.1, lines_length bs)

pub lower_next : (n number : ℕ) → (n ≢ 0 → n < number) → number ≢ 0 → n < number
lower_next zero zero lower ne = absurd (ne refl)
lower_next zero (suc number) lower ne = omega arith
lower_next (suc n) number lower ne = lower (λ e. absurd (omega (arith, e)))

-- a beginning is added after the one at the number, and becomes its first longer one
module _ (bs xs : List Beginning) (number added : ℕ) (event : Event) (b r : Beginning) (within : number < length bs) (back : IsBack (lines bs)) (links : Linked bs)
    (read : b ≡ get_or bs number b) (pushed : xs ≡ bs ++ record { event = event; shorter = number; next = b.longer; longer = 0; good = false } ∷ []) (long : added ≡ length bs) (again : r ≡ get_or xs number r) where
  abbrev pub new : Beginning
  new = record { event = event; shorter = number; next = b.longer; longer = 0; good = false }

  abbrev pub first : Beginning
  first = record { event = r.event; shorter = r.shorter; next = r.next; longer = added; good = r.good }

  was : slice_get bs number ≡ Some b
  was = found_at bs number b within read

  stays : slice_get xs number ≡ Some b
  stays = subst (λ ys. slice_get ys number ≡ Some b) (sym pushed) (kept_at bs (new ∷ []) b number was)

  more : number < length xs
  more = slice_get_within xs number b stays

  now : slice_get xs number ≡ Some r
  now = found_at xs number r more again

  same : r ≡ b
  same = cc (now, stays)

  links_now : Linked xs
  links_now = subst Linked (sym pushed) (push_links bs new back within links (λ ne. (links number b was).above ne) refl)

  back_now : IsBack (lines xs)
  back_now = subst (λ ys. IsBack (lines ys)) (sym pushed) (push_back bs new back within)

  pub added_back : IsBack (lines (slice_set xs number first))
  added_back = set_back xs number r first now refl refl back_now

  pub added_links : Linked (slice_set xs number first)
  added_links =
      let own = links_now number r now in
      set_links xs number r first now refl refl links_now record {
        lower = own.lower;
        beside = own.beside;
        above = λ ne. subst (IsAfter (lines xs) number) (sym long) (subst (λ ys. IsAfter (lines ys) number (length bs)) (sym pushed) (push_after bs new back within));
      }

  pub added_history : history_at (slice_set xs number first) added ≡ history_at bs number ++ event ∷ []
  added_history =
      ap (history_at (slice_set xs number first)) long
      ∙ set_history xs number r first now refl refl (length bs)
      ∙ ap (λ ys. history_at ys (length bs)) pushed
      ∙ push_last bs new back within

  pub added_well : IsWellFormed (history_at bs number) → Fits (history_at bs number) event → IsWellFormed (history_at (slice_set xs number first) added)
  added_well well fits = subst IsWellFormed (sym added_history) (well_push (history_at bs number) event well fits)

  pub added_right : (members : List (List SerialOp)) → Right members bs → Right members (slice_set xs number first)
  added_right members right =
      let right_now : Right members xs = subst (Right members) (sym pushed) (push_right bs new back within members right (λ e. cc)) in
      set_right xs number r first now refl refl members right_now (λ good. right_now number r now good)

pub take_set : {X : Type 0} (xs : List X) (n : ℕ) (x : X) → n < length xs → take (suc n) (slice_set xs n x) ≡ take n xs ++ x ∷ []
take_set [] n x lt = absurd (omega arith)
take_set (y ∷ xs) zero x lt = refl
take_set (y ∷ xs) (suc n) x lt = ap (λ ys. y ∷ ys) (take_set xs n x (omega arith))

pub written : (h g : List Event) (e : Event) (xs : List Event) (n : ℕ) → h ≡ g ++ e ∷ [] → take n xs ≡ g → n < length xs → take (n + 1) (slice_set xs n e) ≡ h
written h g e xs n is done lt = ap (λ k. take k (slice_set xs n e)) (add-one n) ∙ take_set xs n e lt ∙ ap (λ ys. ys ++ e ∷ []) done ∙ sym is
