-- How many schedules of a kind there are.
use Rattle.std.proofs.Common.{◌≡◌, ℕ, ◌+◌, ◌≤◌, ◌⊎◌, List, [], ◌∷◌, ◌++◌, length, refl, sym, ◌∙◌, ap, subst, inl, inr, arith, length-append}
use Rattle.lu_test.specs.declared.schedule.Move.{Move}
use Rattle.lu_machine.specs.declared.counts.Counts.{Counts}
use Rattle.lu_machine.specs.States.{State}
use Rattle.lu_machine.specs.Order.{IsSmaller}
use Rattle.lu_machine.specs.Sums.{capped}
use Rattle.lu_machine.specs.Schedules.{Lists, IsRising, IsNumber, AreAll, AreNumbers, IsLeast, IsCompleteWithin, IsStuckWithin, IsCutAt}
use Rattle.lu_machine.proofs.Orders.{smaller_asym, smaller_cases}

pub lists_append : (us vs : List (List Move)) (w : List Move) → Lists (us ++ vs) w → Lists us w ⊎ Lists vs w
lists_append [] vs w h = inr h
lists_append (u ∷ us) vs w (inl e) = inl (inl e)
lists_append (u ∷ us) vs w (inr h) =
    elim (lists_append us vs w h) [ inl k ↦ inl (inr k) | inr k ↦ inr k ]

pub append_lists : (us vs : List (List Move)) (w : List Move) → Lists us w ⊎ Lists vs w → Lists (us ++ vs) w
append_lists [] vs w (inl h) = absurd h
append_lists [] vs w (inr h) = h
append_lists (u ∷ us) vs w (inl (inl e)) = inl e
append_lists (u ∷ us) vs w (inl (inr h)) = inr (append_lists us vs w (inl h))
append_lists (u ∷ us) vs w (inr h) = inr (append_lists us vs w (inr h))

pub rising_append : (us vs : List (List Move)) → IsRising us → IsRising vs → ((u v : List Move) → Lists us u → Lists vs v → IsSmaller u v) → IsRising (us ++ vs)
rising_append [] vs h k below = k
rising_append (u ∷ us) vs h k below = (
  λ w l. elim (lists_append us vs w l) [ inl x ↦ h.0 w x | inr y ↦ below u w (inl refl) y ],
  rising_append us vs h.1 k (λ x y i j. below x y (inr i) j),
)

pub all_join : (A B Both : List Move → Type 0) (a b : List (List Move)) → AreAll A a → AreAll B b → ((u v : List Move) → A u → B v → IsSmaller u v) → ((u : List Move) → A u → Both u) → ((u : List Move) → B u → Both u) → ((u : List Move) → Both u → A u ⊎ B u) → AreAll Both (a ++ b)
all_join A B Both a b x y below left right cases =
    record {
      rising = rising_append a b x.rising y.rising (λ u v h k. below u v (x.only u h) (y.only v k));
      only = λ u l. elim (lists_append a b u l) [ inl h ↦ left u (x.only u h) | inr h ↦ right u (y.only u h) ];
      each = λ u k. append_lists a b u (elim (cases u k) as (λ _. Lists a u ⊎ Lists b u) [ inl h ↦ inl (x.each u h) | inr h ↦ inr (y.each u h) ]);
    }

pub number_none : (Kind : List Move → Type 0) → ((u : List Move) → Kind u → ⊥) → IsNumber Kind 0
number_none Kind none =
    record { list = []; all = record { rising = tt; only = λ u h. absurd h; each = λ u k. absurd (none u k) }; number = omega arith }

pub number_one : (Kind : List Move → Type 0) (v : List Move) → Kind v → ((u : List Move) → Kind u → v ≡ u) → IsNumber Kind 1
number_one Kind v kind one =
    record {
      list = v ∷ [];
      all = record {
        rising = (λ u h. absurd h, tt);
        only = λ u h. elim h [ inl e ↦ subst Kind e kind | inr x ↦ absurd x ];
        each = λ u k. inl (one u k);
      };
      number = omega arith;
    }

pub number_same : (Kind Other : List Move → Type 0) (n : ℕ) → IsNumber Kind n → ((u : List Move) → Kind u → Other u) → ((u : List Move) → Other u → Kind u) → IsNumber Other n
number_same Kind Other n h to from =
    record { list = h.list; all = record { rising = h.all.rising; only = λ u l. to u (h.all.only u l); each = λ u k. h.all.each u (from u k) }; number = h.number }

-- two kinds, all of the one below all of the other
pub number_join : (A B Both : List Move → Type 0) (m n : ℕ) → IsNumber A m → IsNumber B n → ((u v : List Move) → A u → B v → IsSmaller u v) → ((u : List Move) → A u → Both u) → ((u : List Move) → B u → Both u) → ((u : List Move) → Both u → A u ⊎ B u) → IsNumber Both (capped (m + n))
number_join A B Both m n a b below left right cases =
    record {
      list = a.list ++ b.list;
      all = all_join A B Both a.list b.list a.all b.all below left right cases;
      number = (let x = a.number in let y = b.number in rw (length-append a.list b.list) (omega arith));
    }

-- a rising list is no longer than one that holds all of it
pub rising_length : (a b : List (List Move)) → IsRising a → IsRising b → ((u : List Move) → Lists a u → Lists b u) → length a ≤ length b
rising_length [] b ra rb within = omega arith
rising_length (x ∷ a) [] ra rb within = absurd (within x (inl refl))
rising_length (x ∷ a) (y ∷ b) ra rb within =
    elim (within x (inl refl)) [
      | inl e ↦ (let h = rising_length a b ra.1 rb.1 (λ u l. tail u l e (within u (inr l))) in omega arith)
      | inr k ↦ (let h = rising_length (x ∷ a) b ra rb.1 (λ u l. past u l k (within u l)) in omega arith)
    ]
  where
    tail : (u : List Move) → Lists a u → y ≡ x → (y ≡ u) ⊎ Lists b u → Lists b u
    tail u l e (inl f) = absurd (let twice : IsSmaller x u = ra.0 u l in let same : IsSmaller u u = subst (λ z. IsSmaller z u) (sym e ∙ f) twice in smaller_asym u u same same)
    tail u l e (inr k) = k

    past_at : (u : List Move) → (x ≡ u) ⊎ Lists a u → Lists b x → y ≡ u → ⊥
    past_at u (inl f) k e = (let low : IsSmaller y x = rb.0 x k in let same : IsSmaller x x = subst (λ z. IsSmaller z x) (e ∙ sym f) low in smaller_asym x x same same)
    past_at u (inr l) k e = (let low : IsSmaller y x = rb.0 x k in let high : IsSmaller x y = subst (IsSmaller x) (sym e) (ra.0 u l) in smaller_asym x y high low)

    past : (u : List Move) → (x ≡ u) ⊎ Lists a u → Lists b x → (y ≡ u) ⊎ Lists b u → Lists b u
    past u l k (inl e) = absurd (past_at u l k e)
    past u l k (inr h) = h

number_le : (Kind : List Move → Type 0) (m n : ℕ) → IsNumber Kind m → IsNumber Kind n → m ≤ n
number_le Kind m n a b =
    let l : length a.list ≤ length b.list = rising_length a.list b.list a.all.rising b.all.rising (λ u h. b.all.each u (a.all.only u h)) in
    let x = a.number in
    let y = b.number in
    omega arith

-- a kind has one number
pub number_one_value : (Kind : List Move → Type 0) (m n : ℕ) → IsNumber Kind m → IsNumber Kind n → m ≡ n
number_one_value Kind m n a b =
    let x = number_le Kind m n a b in
    let y = number_le Kind n m b a in
    omega arith

same_counts : (a b : Counts) → a.complete ≡ b.complete → a.stuck ≡ b.stuck → a.cut ≡ b.cut → a ≡ b
same_counts a b e f g =
    ap (λ (x : ℕ). let y : Counts = record { complete = x; stuck = a.stuck; cut = a.cut } in y) e
    ∙ (ap (λ (x : ℕ). let y : Counts = record { complete = b.complete; stuck = x; cut = a.cut } in y) f
    ∙ ap (λ (x : ℕ). let y : Counts = record { complete = b.complete; stuck = b.stuck; cut = x } in y) g)

-- a part has one triple of numbers
pub numbers_same : (s : State) (bound : ℕ) (Part : List Move → Type 0) (a b : Counts) → AreNumbers s bound Part a → AreNumbers s bound Part b → a ≡ b
numbers_same s bound Part a b x y =
    same_counts a b
    (number_one_value (λ u. Part u × IsCompleteWithin s bound u) a.complete b.complete x.complete y.complete)
    (number_one_value (λ u. Part u × IsStuckWithin s bound u) a.stuck b.stuck x.stuck y.stuck)
    (number_one_value (λ u. Part u × IsCutAt s bound u) a.cut b.cut x.cut y.cut)

-- a kind has one least schedule
pub least_same : (Kind : List Move → Type 0) (u v : List Move) → IsLeast Kind u → IsLeast Kind v → u ≡ v
least_same Kind u v x y =
    elim (smaller_cases u v) [
      | inl z ↦ elim z [ inl less ↦ absurd (y.least u less x.kind) | inr more ↦ absurd (x.least v more y.kind) ]
      | inr e ↦ e
    ]
