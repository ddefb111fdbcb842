-- Rows of numbers, and what they stand for.
use Rattle.std.proofs.Common.{arith, ◌≡◌, ℕ, zero, suc, ◌+◌, ◌<◌, ◌≤◌, Bool, ◌&&◌, List, [], ◌∷◌, ◌++◌, length, take, set, replicate, ◌⊎◌, Option, Some, None, Result, Ok, Err, IfOk, slice_get, refl, sym, ◌∙◌, ap, subst, inl, inr}
use Rattle.std.specs.Prelude.{nat_eq, position, OnErr, OnOk}
use Rattle.std.specs.Bool.{Decides}
use Rattle.std.specs.Global.{Vec}
use Rattle.std.specs.List.{slice_index}
use Rattle.std.specs.Map.{keys_of}
use Rattle.std.specs.Option.{option_eq, option_map, option_map_or}
use Rattle.std.proofs.lemmas.Bool.{cases_lt}
use Rattle.std.proofs.lemmas.Bool.Decides.{Decides-and, Decides-eqb, Decides-like}
use Rattle.std.proofs.lemmas.List.{append-nil, get_or-set_other, get_or-set_same, map-append}
use Rattle.std.proofs.lemmas.Option.{same_Some, slice_get-map}
use Rattle.std.proofs.lemmas.Slice.Eq.{slice_eq-Decides}
use lib.Pointwise.{pointwise}
use Rattle.lu_machine.specs.contracts.thread.ActivityPartialEq as activity
use Rattle.lu_machine.specs.contracts.thread.FramePartialEq as frame
use Rattle.lu_machine.specs.contracts.thread.ThreadPartialEq as thread
use Rattle.lu_machine.specs.declared.thread.Activity.{Activity}
use Rattle.lu_machine.specs.declared.thread.Activity.TheVariants.{Idle, Open}
use Rattle.lu_machine.specs.declared.thread.Frame.{Frame}
use Rattle.lu_machine.specs.declared.thread.Thread.{Thread}
use Rattle.lu_machine.specs.States.{State}
use Rattle.lu_linearization.specs.declared.configuration.Configuration.{Configuration as Shown}
use Rattle.lu_history.proofs.Events.{at_push, kept_at, last_at}
use Rattle.lu_linearization.specs.Monitors.{Holds}
use Rattle.lu_always.specs.contracts.rows.RowPartialEq as rows
use Rattle.lu_always.specs.declared.stored.Arrival.{Arrival}
use Rattle.lu_always.specs.declared.rows.Parts.{Parts}
use Rattle.lu_always.specs.declared.rows.Row.{Row}
use Rattle.lu_always.specs.Numbered.{Extends, IsNumber, is_list, with_number}
use Rattle.lu_always.specs.Rows.{AddsEntry, AreWhole, Entry, Grow, HasNumber, HasPosition, HasRow, HaveNumbers, HaveRead, IsCoveredBy, IsListOf, IsMonitorOf, IsRowAt, IsWhole, list_at, monitor_at, position_at, stored_in, stored_of, threads_at}
use Rattle.lu_always.specs.Stored.{StoredNode, StoredPosition, Stores, position_in, stored_for}
use Rattle.lu_always.proofs.Tabled.{extends_none, extends_on, first_there, number_stays}

-- ---- equal values

abbrev frame_eq : Frame → Frame → Bool
frame_eq = (frame.TheImpl.ghosts).eq

abbrev activity_eq : Activity → Activity → Bool
activity_eq = (activity.TheImpl.ghosts).eq

abbrev pub thread_eq : Thread → Thread → Bool
thread_eq = (thread.TheImpl.ghosts).eq

pub same_numbers : (xs ys : List ℕ) → Decides (pointwise nat_eq xs ys) (xs ≡ ys)
same_numbers xs ys = slice_eq-Decides {E = nat_eq} Decides-eqb xs ys (pointwise nat_eq xs ys) refl

same_owner : (a b : Option ℕ) → Decides (option_eq nat_eq a b) (a ≡ b)
same_owner None None = ((λ is. refl), (λ is. refl))
same_owner None (Some n) = ((λ is. absurd cc), (λ is. absurd cc))
same_owner (Some m) None = ((λ is. absurd cc), (λ is. absurd cc))
same_owner (Some m) (Some n) = Decides-like (nat_eq m n) (λ is. ap Some is) (λ is. same_Some m n is) (Decides-eqb m n)

pub same_owners : (xs ys : List (Option ℕ)) → Decides (pointwise (option_eq nat_eq) xs ys) (xs ≡ ys)
same_owners xs ys = slice_eq-Decides {E = option_eq nat_eq} same_owner xs ys (pointwise (option_eq nat_eq) xs ys) refl

frames : (f g : Frame) → f.registers ≡ g.registers → f.op ≡ g.op → f.place ≡ g.place → f ≡ g
frames f g a b c =
    let make : List ℕ → ℕ → ℕ → Frame = λ r o p. record { registers = r; op = o; place = p } in
    ap (λ r. make r f.op f.place) a ∙ (ap (λ o. make g.registers o f.place) b ∙ ap (λ p. make g.registers g.op p) c)

same_frame : (f g : Frame) → Decides (frame_eq f g) (f ≡ g)
same_frame f g =
    Decides-like (frame_eq f g)
    (λ is. frames f g is.0 is.1.0 is.1.1)
    (λ is. (ap (λ (x : Frame). x.registers) is, (ap (λ (x : Frame). x.op) is, ap (λ (x : Frame). x.place) is)))
    (Decides-and (pointwise nat_eq f.registers g.registers) (nat_eq f.op g.op && nat_eq f.place g.place) (same_numbers f.registers g.registers)
    (Decides-and (nat_eq f.op g.op) (nat_eq f.place g.place) (Decides-eqb f.op g.op) (Decides-eqb f.place g.place)))

same_activity : (a b : Activity) → Decides (activity_eq a b) (a ≡ b)
same_activity Idle Idle = ((λ is. refl), (λ is. refl))
same_activity Idle (Open g) = ((λ is. absurd cc), (λ is. absurd cc))
same_activity (Open f) Idle = ((λ is. absurd cc), (λ is. absurd cc))
same_activity (Open f) (Open g) = Decides-like (frame_eq f g) (λ is. ap Open is) (λ is. cc) (same_frame f g)

threads_same : (a b : Thread) → a.done ≡ b.done → a.activity ≡ b.activity → a ≡ b
threads_same a b p q =
    let make : ℕ → Activity → Thread = λ d x. record { done = d; activity = x } in
    ap (λ d. make d a.activity) p ∙ ap (λ x. make b.done x) q

pub same_thread : (a b : Thread) → Decides (thread_eq a b) (a ≡ b)
same_thread a b =
    Decides-like (thread_eq a b)
    (λ is. threads_same a b is.0 is.1)
    (λ is. (ap (λ (x : Thread). x.done) is, ap (λ (x : Thread). x.activity) is))
    (Decides-and (nat_eq a.done b.done) (activity_eq a.activity b.activity) (Decides-eqb a.done b.done) (same_activity a.activity b.activity))

-- ---- what has a number

pub list_is : {A : Type 0} (eq : A → A → Bool) (decides : (xs ys : List A) → Decides (pointwise eq xs ys) (xs ≡ ys)) (table : List (Vec A)) (xs : List A) (n : ℕ) → IsNumber (is_list eq xs) table n → IsListOf table xs n
list_is eq decides table xs n (v, at, is) = (v, at, sym ((decides xs v.items).0 is))

thread_is : (table : List Thread) (a : Thread) (n : ℕ) → IsNumber (thread_eq a) table n → with_number table n ≡ Some a
thread_is table a n (one, at, is) = at ∙ ap Some (sym ((same_thread a one).0 is))

has_stays : (old new : List Thread) → Extends old new → (o : Option Thread) (n : ℕ) → HasNumber old o n → HasNumber new o n
has_stays old new grown None n is = is
has_stays old new grown (Some a) n is = number_stays old new grown n a is

-- ---- the numbers of threads

zero_at : (n t : ℕ) → slice_index (replicate n 0) t ≡ 0
zero_at zero t = refl
zero_at (suc n) zero = refl
zero_at (suc n) (suc t) = zero_at n t

pub no_numbers : (table : List Thread) (n : ℕ) → HaveNumbers table [] (replicate n 0)
no_numbers table n t = subst (λ o. HasNumber table o (slice_index (replicate n 0) t)) (sym (nothing t)) (zero_at n t)
  where
    nothing : (t : ℕ) → slice_get {X = Thread} [] t ≡ None
    nothing zero = refl
    nothing (suc t) = refl

at_taken : {A : Type 0} (n : ℕ) (xs : List A) (t : ℕ) → t < n → slice_get (take n xs) t ≡ slice_get xs t
at_taken zero xs t lt = absurd (omega (arith, lt))
at_taken (suc n) [] t lt = refl
at_taken (suc n) (x ∷ xs) zero lt = refl
at_taken (suc n) (x ∷ xs) (suc t) lt = at_taken n xs t (omega (arith, lt))

past_taken : {A : Type 0} (n : ℕ) (xs : List A) (t : ℕ) → n ≤ t → slice_get (take n xs) t ≡ None
past_taken zero xs t le = nothing t
  where
    nothing : {A : Type 0} (t : ℕ) → slice_get {X = A} [] t ≡ None
    nothing zero = refl
    nothing (suc t) = refl
past_taken (suc n) [] t le = nothing t
  where
    nothing : {A : Type 0} (t : ℕ) → slice_get {X = A} [] t ≡ None
    nothing zero = refl
    nothing (suc t) = refl
past_taken (suc n) (x ∷ xs) zero le = absurd (omega (arith, le))
past_taken (suc n) (x ∷ xs) (suc t) le = past_taken n xs t (omega (arith, le))

-- one more thread has a number
pub numbers_next : (threads old new : List Thread) (numbers now : List ℕ) (k n : ℕ) (a : Thread) → length numbers ≡ 8 → k < 8 → HaveNumbers old (take k threads) numbers → slice_get threads k ≡ Some a → Extends old new → IsNumber (thread_eq a) new n → now ≡ set numbers k n → HaveNumbers new (take (k + 1) threads) now
numbers_next threads old new numbers now k n a eight few have at grown is set_so t =
    elim (cases_lt t k) as (λ _. HasNumber new (slice_get (take (k + 1) threads) t) (slice_index now t)) [
      | inl less ↦
          (let same : slice_index now t ≡ slice_index numbers t = ap (λ xs. slice_index xs t) set_so ∙ get_or-set_other numbers k t n 0 (λ e. omega (arith, e, less)) in
          let there : slice_get (take (k + 1) threads) t ≡ slice_get (take k threads) t = at_taken (k + 1) threads t (omega (arith, less)) ∙ sym (at_taken k threads t less) in
          subst (λ o. HasNumber new o (slice_index now t)) (sym there) (subst (HasNumber new (slice_get (take k threads) t)) (sym same) (has_stays old new grown (slice_get (take k threads) t) (slice_index numbers t) (have t))))
      | inr ge ↦ elim (cases_lt k t) as (λ _. HasNumber new (slice_get (take (k + 1) threads) t) (slice_index now t)) [
        | inl past ↦
            (let same : slice_index now t ≡ slice_index numbers t = ap (λ xs. slice_index xs t) set_so ∙ get_or-set_other numbers k t n 0 (λ e. omega (arith, e, past)) in
            let none : slice_get (take k threads) t ≡ None = past_taken k threads t (omega (arith, past)) in
            let none_now : slice_get (take (k + 1) threads) t ≡ None = past_taken (k + 1) threads t (omega (arith, past)) in
            subst (λ o. HasNumber new o (slice_index now t)) (sym none_now) (same ∙ subst (λ o. HasNumber old o (slice_index numbers t)) none (have t)))
        | inr le ↦
            (let here : k ≡ t = omega (arith, ge, le) in
            let first : slice_index now k ≡ n = ap (λ xs. slice_index xs k) set_so ∙ get_or-set_same numbers k n 0 (omega (arith, eight, few)) in
            let there : slice_get (take (k + 1) threads) k ≡ Some a = at_taken (k + 1) threads k (omega arith) ∙ at in
            subst (λ i. HasNumber new (slice_get (take (k + 1) threads) i) (slice_index now i)) here
            (subst (λ o. HasNumber new o (slice_index now k)) (sym there) (ap (with_number new) first ∙ thread_is new a n is)))
      ]
    ]

-- those that have these numbers are the threads
pub threads_is : (table threads : List Thread) (numbers : List ℕ) → HaveNumbers table threads numbers → threads_at table numbers ≡ threads
threads_is table [] [] have = refl
threads_is table [] (n ∷ ns) have = ap (λ m. option_map_or (λ a. a ∷ threads_at table ns) (with_number table m) []) (have 0)
threads_is table (a ∷ threads) [] have = absurd (let none : None ≡ Some a = have 0 in cc)
threads_is table (a ∷ threads) (n ∷ ns) have =
    ap (λ o. option_map_or (λ b. b ∷ threads_at table ns) o []) (have 0) ∙ ap (λ xs. a ∷ xs) (threads_is table threads ns (λ t. have (suc t)))

-- and so they are read
pub read_is : (table : List Thread) (numbers : List ℕ) (read : List Thread) → ((t : ℕ) (a : Thread) → t < length numbers → with_number table (slice_index numbers t) ≡ Some a → slice_get read t ≡ Some a) → take (length (threads_at table numbers)) read ≡ threads_at table numbers
read_is table [] read each = refl
read_is table (n ∷ ns) [] each = by (with_number table n) refl
  where
    by : (o : Option Thread) → with_number table n ≡ o → take (length (option_map_or (λ a. a ∷ threads_at table ns) o [])) [] ≡ option_map_or (λ a. a ∷ threads_at table ns) o []
    by None is = refl
    by (Some a) is = absurd (let none : None ≡ Some a = each 0 a (omega arith) is in cc)
read_is table (n ∷ ns) (x ∷ read) each = by (with_number table n) refl (read_is table ns read (λ t b lt at. each (suc t) b (omega (arith, lt)) at))
  where
    by : (o : Option Thread) → with_number table n ≡ o → take (length (threads_at table ns)) read ≡ threads_at table ns → take (length (option_map_or (λ a. a ∷ threads_at table ns) o [])) (x ∷ read) ≡ option_map_or (λ a. a ∷ threads_at table ns) o []
    by None is rest = refl
    by (Some a) is rest =
        let same : x ≡ a = same_Some x a (each 0 a (omega arith) is) in
        ap (λ y. y ∷ take (length (threads_at table ns)) read) same ∙ ap (λ xs. a ∷ xs) rest

pub threads_read : (table : List Thread) (numbers : List ℕ) (read : List Thread) (count : ℕ) → HaveRead table numbers read → count ≡ length (threads_at table numbers) → take count read ≡ threads_at table numbers
threads_read table numbers read count have many = ap (λ n. take n read) many ∙ read_is table numbers read have.each

-- ---- rows

-- a row has one position
pub position_is : (parts : Parts) (row : Row) (p : StoredPosition) → HasPosition parts p row → position_at parts row ≡ p
position_is parts row p is =
    let cells : list_at parts.cells.keys row.cells ≡ p.cells = ap (λ o. option_map_or (λ (v : Vec ℕ). v.items) o []) is.cells.1 ∙ is.cells.2 in
    let locks : list_at parts.locks.keys row.locks ≡ p.locks = ap (λ o. option_map_or (λ (v : Vec (Option ℕ)). v.items) o []) is.locks.1 ∙ is.locks.2 in
    let threads : threads_at parts.threads.keys row.threads ≡ p.threads = threads_is parts.threads.keys p.threads row.threads is.threads in
    let make : List ℕ → List (Option ℕ) → List Thread → StoredPosition = λ c l t. record { cells = c; locks = l; threads = t } in
    ap (λ c. make c (list_at parts.locks.keys row.locks) (threads_at parts.threads.keys row.threads)) cells
    ∙ (ap (λ l. make p.cells l (threads_at parts.threads.keys row.threads)) locks ∙ ap (λ t. make p.cells p.locks t) threads)

-- and a number one monitor
pub one_monitor : (parts : Parts) (n : ℕ) (monitor : List Shown) → IsMonitorOf parts n monitor → monitor_at parts n ≡ monitor
one_monitor parts n monitor is = ap (λ o. option_map_or (λ m. m) o []) is

list_stays : {A : Type 0} (old new : List (Vec A)) → Extends old new → (xs : List A) (n : ℕ) → IsListOf old xs n → IsListOf new xs n
list_stays old new grown xs n (v, at, is) = (v, number_stays old new grown n v at, is)

pub position_stays : (old new : Parts) → Grow old new → (p : StoredPosition) (row : Row) → HasPosition old p row → HasPosition new p row
position_stays old new grow p row is = record {
  cells = list_stays old.cells.keys new.cells.keys grow.cells p.cells row.cells is.cells;
  locks = list_stays old.locks.keys new.locks.keys grow.locks p.locks row.locks is.locks;
  threads = λ t. has_stays old.threads.keys new.threads.keys grow.threads (slice_get p.threads t) (slice_index row.threads t) (is.threads t);
}

pub monitor_stays : (old new : Parts) → Grow old new → (n : ℕ) (monitor : List Shown) → IsMonitorOf old n monitor → IsMonitorOf new n monitor
monitor_stays old new grow n monitor is = ap (λ (xs : List (List Shown)). slice_get xs n) grow.monitors.1 ∙ kept_at old.monitors grow.monitors.0 monitor n is

pub whole_from : (parts : Parts) (row : Row) (p : StoredPosition) (monitor : List Shown) → HasPosition parts p row → IsMonitorOf parts row.monitor monitor → IsWhole parts row
whole_from parts row p monitor position is = record {
  position = subst (λ x. HasPosition parts x row) (sym (position_is parts row p position)) position;
  monitor = subst (IsMonitorOf parts row.monitor) (sym (one_monitor parts row.monitor monitor is)) is;
}

pub whole_stays : (old new : Parts) → Grow old new → (row : Row) → IsWhole old row → IsWhole new row
whole_stays old new grow row is =
    whole_from new row (position_at old row) (monitor_at old row.monitor) (position_stays old new grow (position_at old row) row is.position) (monitor_stays old new grow row.monitor (monitor_at old row.monitor) is.monitor)

pub grow_none : (parts : Parts) → Grow parts parts
grow_none parts = record { cells = extends_none parts.cells.keys; locks = extends_none parts.locks.keys; threads = extends_none parts.threads.keys; monitors = extends_none parts.monitors }

pub grow_on : (old mid new : Parts) → Grow old mid → Grow mid new → Grow old new
grow_on old mid new a b = record {
  cells = extends_on old.cells.keys mid.cells.keys new.cells.keys a.cells b.cells;
  locks = extends_on old.locks.keys mid.locks.keys new.locks.keys a.locks b.locks;
  threads = extends_on old.threads.keys mid.threads.keys new.threads.keys a.threads b.threads;
  monitors = extends_on old.monitors mid.monitors new.monitors a.monitors b.monitors;
}

-- a monitor that may have been added
pub monitors_grow : {E : Type 0} (old new : List (List Shown)) (monitor : List Shown) (r : Result ℕ E) → OnOk r (new ≡ old ++ monitor ∷ []) → OnErr r (new ≡ old) → Extends old new
monitors_grow old new monitor (Ok n) is same = (monitor ∷ [], is)
monitors_grow old new monitor (Err e) is same = ([], same ∙ sym (append-nil old))

pub monitor_joins : {E : Type 0} (old new : List (List Shown)) (monitor : List Shown) (r : Result ℕ E) → OnOk r (new ≡ old ++ monitor ∷ []) → IfOk r (λ n. n ≡ length old) → IfOk r (λ n. slice_get new n ≡ Some monitor)
monitor_joins old new monitor (Ok n) is last = ap (λ (xs : List (List Shown)). slice_get xs n) is ∙ (ap (slice_get (old ++ monitor ∷ [])) last ∙ last_at old [] monitor)
monitor_joins old new monitor (Err e) is last = tt

-- ---- all rows

abbrev pub row_eq : Row → Row → Bool
row_eq = (rows.TheImpl.ghosts).eq

rows_same : (a b : Row) → a.cells ≡ b.cells → a.locks ≡ b.locks → a.threads ≡ b.threads → a.monitor ≡ b.monitor → a ≡ b
rows_same a b cells locks threads monitor =
    let make : ℕ → ℕ → List ℕ → ℕ → Row = λ c l t m. record { cells = c; locks = l; threads = t; monitor = m } in
    ap (λ c. make c a.locks a.threads a.monitor) cells ∙ (ap (λ l. make b.cells l a.threads a.monitor) locks
    ∙ (ap (λ t. make b.cells b.locks t a.monitor) threads ∙ ap (λ m. make b.cells b.locks b.threads m) monitor))

pub same_row : (a b : Row) → Decides (row_eq a b) (a ≡ b)
same_row a b =
    Decides-like (row_eq a b)
    (λ is. rows_same a b is.0 is.1.0 is.1.1.0 is.1.1.1)
    (λ is. (ap (λ (x : Row). x.cells) is, (ap (λ (x : Row). x.locks) is, (ap (λ (x : Row). x.threads) is, ap (λ (x : Row). x.monitor) is))))
    (Decides-and (nat_eq a.cells b.cells) (nat_eq a.locks b.locks && (pointwise nat_eq a.threads b.threads && nat_eq a.monitor b.monitor)) (Decides-eqb a.cells b.cells)
    (Decides-and (nat_eq a.locks b.locks) (pointwise nat_eq a.threads b.threads && nat_eq a.monitor b.monitor) (Decides-eqb a.locks b.locks)
    (Decides-and (pointwise nat_eq a.threads b.threads) (nat_eq a.monitor b.monitor) (same_numbers a.threads b.threads) (Decides-eqb a.monitor b.monitor))))

key_at : (entries : List Entry) (i : ℕ) (row : Row) → slice_get (keys_of entries) i ≡ Some row → (entry : Entry) × (slice_get entries i ≡ Some entry) × (entry.0 ≡ row)
key_at [] i row at = absurd cc
key_at (e ∷ entries) zero row at = (e, refl, same_Some e.0 row at)
key_at (e ∷ entries) (suc i) row at = key_at entries i row at

-- a row that is found is there
pub row_there : (entries : List Entry) (row : Row) (i : ℕ) → position (row_eq row) (keys_of entries) ≡ Some i → HasRow entries row i
row_there entries row i at =
    let found = first_there (row_eq row) (keys_of entries) i at in
    let entry = key_at entries i found.0 found.1 in
    (entry.0, entry.1, entry.2 ∙ sym ((same_row row found.0).0 found.2))

-- what is at an index of the nodes is at that of the rows
pub entry_at : (parts : Parts) (entries : List Entry) (i : ℕ) (stored : StoredNode) → slice_get (stored_in parts entries) i ≡ Some stored → (entry : Entry) × (slice_get entries i ≡ Some entry) × (stored_of parts entry ≡ stored)
entry_at parts [] i stored at = absurd cc
entry_at parts (e ∷ entries) zero stored at = (e, refl, same_Some (stored_of parts e) stored at)
entry_at parts (e ∷ entries) (suc i) stored at = entry_at parts entries i stored at

pub stored_at : (parts : Parts) (entries : List Entry) (i : ℕ) (entry : Entry) → slice_get entries i ≡ Some entry → slice_get (stored_in parts entries) i ≡ Some (stored_of parts entry)
stored_at parts entries i entry at = slice_get-map (stored_of parts) entries i ∙ ap (option_map (stored_of parts)) at

pub are_stay : (old new : Parts) → Grow old new → (entries : List Entry) → AreWhole old entries → AreWhole new entries
are_stay old new grow entries whole i entry at = whole_stays old new grow entry.0 (whole i entry at)

-- a node stays the same
stored_stays : (old new : Parts) → Grow old new → (entry : Entry) → IsWhole old entry.0 → stored_of new entry ≡ stored_of old entry
stored_stays old new grow entry whole =
    let position = position_is new entry.0 (position_at old entry.0) (position_stays old new grow (position_at old entry.0) entry.0 whole.position) in
    let monitor = one_monitor new entry.0.monitor (monitor_at old entry.0.monitor) (monitor_stays old new grow entry.0.monitor (monitor_at old entry.0.monitor) whole.monitor) in
    let make : StoredPosition → List Shown → StoredNode = λ p m. record { position = p; monitor = m; arrival = entry.1 } in
    ap (λ p. make p (monitor_at new entry.0.monitor)) position ∙ ap (make (position_at old entry.0)) monitor

-- and so do all
pub nodes_stay : (old new : Parts) → Grow old new → (entries : List Entry) → AreWhole old entries → stored_in new entries ≡ stored_in old entries
nodes_stay old new grow [] whole = refl
nodes_stay old new grow (e ∷ entries) whole =
    ap (λ x. x ∷ stored_in new entries) (stored_stays old new grow e (whole 0 e refl))
    ∙ ap (λ xs. stored_of old e ∷ xs) (nodes_stay old new grow entries (λ i. whole (suc i)))

-- a row that was added is whole too
pub are_more : (parts : Parts) (row : Row) (arrival : Option Arrival) (old new : List Entry) → IsWhole parts row → AreWhole parts old → AddsEntry row arrival old new → AreWhole parts new
are_more parts row arrival old new mine whole adds i entry at =
    elim adds as (λ _. IsWhole parts entry.0) [
      | inl same ↦ whole i entry (ap (λ (xs : List Entry). slice_get xs i) (sym same) ∙ at)
      | inr more ↦ elim (at_push old (row, arrival) entry i (ap (λ (xs : List Entry). slice_get xs i) (sym more) ∙ at)) as (λ _. IsWhole parts entry.0) [
        | inl before ↦ whole i entry before.1
        | inr last ↦ subst (λ (e : Entry). IsWhole parts e.0) (sym last.1) mine
      ]
    ]

-- a row that is there stands for itself
pub row_covers : (parts : Parts) (entries : List Entry) (row : Row) (index : ℕ) → HasRow entries row index → IsCoveredBy parts entries row index
row_covers parts entries row index (entry, at, is) = (
  entry,
  at,
  (ap (λ (r : Row). r.cells) is, ap (λ (r : Row). r.locks) is, ap (λ (r : Row). r.threads) is, (λ d held. subst (λ (r : Row). Holds (monitor_at parts r.monitor) d) is held)),
)

-- rows with the same parts have the same position
same_place : (parts : Parts) (one row : Row) → one.cells ≡ row.cells → one.locks ≡ row.locks → one.threads ≡ row.threads → position_at parts one ≡ position_at parts row
same_place parts one row cells locks threads =
    let make : ℕ → ℕ → List ℕ → StoredPosition = λ c l t. record { cells = list_at parts.cells.keys c; locks = list_at parts.locks.keys l; threads = threads_at parts.threads.keys t } in
    ap (λ c. make c one.locks one.threads) cells ∙ (ap (λ l. make row.cells l one.threads) locks ∙ ap (λ t. make row.cells row.locks t) threads)

-- what is stored when a row was added
pub stores : (old new : Parts) (s : State) (monitor : List Shown) (arrival : Option Arrival) (before after : List Entry) (row : Row) (index : ℕ) → Grow old new → AreWhole old before → HasPosition new (position_in s) row → IsMonitorOf new row.monitor monitor → AddsEntry row arrival before after → IsCoveredBy new after row index → Stores s monitor arrival (stored_in old before) (stored_in new after) index
stores old new s monitor arrival before after row index grow whole position is adds there =
    let mine : position_at new row ≡ position_in s = position_is new row (position_in s) position in
    let its : monitor_at new row.monitor ≡ monitor = one_monitor new row.monitor monitor is in
    let stay : stored_in new before ≡ stored_in old before = nodes_stay old new grow before whole in
    let (entry, at, (cells, locks, threads, less)) = there in
    record {
      stored = stored_of new entry;
      at = stored_at new after index entry at;
      position = same_place new entry.0 row cells locks threads ∙ mine;
      within = λ d held. subst (λ m. Holds m d) its (less d held);
      only = elim adds as (λ _. (stored_in new after ≡ stored_in old before) ⊎ (stored_in new after ≡ stored_in old before ++ stored_for s monitor arrival ∷ [])) [
        | inl same ↦ inl (ap (stored_in new) same ∙ stay)
        | inr more ↦
            (let make : StoredPosition → List Shown → StoredNode = λ p m. record { position = p; monitor = m; arrival = arrival } in
            let one : stored_of new (row, arrival) ≡ stored_for s monitor arrival = ap (λ p. make p (monitor_at new row.monitor)) mine ∙ ap (make (position_in s)) its in
            inr (ap (stored_in new) more ∙ (map-append (stored_of new) before ((row, arrival) ∷ [])
            ∙ (ap (λ xs. xs ++ stored_of new (row, arrival) ∷ []) stay ∙ ap (λ x. stored_in old before ++ x ∷ []) one))))
      ];
    }

-- the monitor of a node that is stored
pub its_monitor : (parts : Parts) (entries : List Entry) → AreWhole parts entries → (i : ℕ) (row : Row) → IsRowAt entries i row → (stored : StoredNode) → slice_get (stored_in parts entries) i ≡ Some stored → IsMonitorOf parts row.monitor stored.monitor
its_monitor parts entries whole i row is stored at =
    let entry = entry_at parts entries i stored at in
    subst (λ (r : Row). IsMonitorOf parts r.monitor stored.monitor) (sym (is entry.0 entry.1))
    (subst (IsMonitorOf parts entry.0.0.monitor) (ap (λ (x : StoredNode). x.monitor) entry.2) (whole i entry.0 entry.1).monitor)
