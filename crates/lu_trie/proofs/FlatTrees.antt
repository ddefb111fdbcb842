-- A flat tree, and what further nodes and links leave of it.
use Rattle.std.proofs.Common.{◌≡◌, ℕ, zero, suc, ◌+◌, ◌<◌, ◌≤◌, Bool, List, [], ◌∷◌, ◌++◌, length, take, drop, get_or, refl, sym, ap, ◌∙◌, subst, arith, add-zero, append_assoc, append-nil, length-append, length-take, length-drop, get_or-take, get_or-drop, slice_get, Some}
use Rattle.std.proofs.lemmas.Option.{slice_get_read}
use Rattle.std.proofs.Math.Seq.{drop-append_seam, take-length}
use Rattle.lu_history.specs.declared.serial.SerialOp.{SerialOp}
use Rattle.std.proofs.lemmas.List.{length-map}
use Rattle.lu_trie.specs.Members.{weight, empty_if, contains, AllSerial}
use Rattle.lu_trie.specs.Weights.{weight-append}
use Rattle.lu_trie.proofs.Membership.{node-nil}
use Rattle.lu_trie.proofs.Grouping.{node-branches, node-branching}
use Rattle.lu_trie.proofs.Trees.{lighter-at}
use Rattle.lu_trie.specs.declared.packed.PackedNode.{PackedNode}
use Rattle.lu_trie.specs.Branches.{Branch, joined, members_from, branches_of, AreBranches, IsBranching}
use Rattle.lu_trie.specs.Packed.{Link, links_of, resolve, AllBelow, members_at, table_from, IsPacked, ArePacked}

abbrev Table : Type 0
Table = List (List (List SerialOp))

at_left : {X : Type 0} (xs ys : List X) (k : ℕ) (d : X) → k < length xs → get_or (xs ++ ys) k d ≡ get_or xs k d
at_left [] ys k d lt = absurd (omega arith)
at_left (x ∷ xs) ys zero d lt = refl
at_left (x ∷ xs) ys (suc k) d lt = at_left xs ys k d (omega arith)

at_end : {X : Type 0} (xs : List X) (x : X) (ys : List X) (d : X) → get_or (xs ++ x ∷ ys) (length xs) d ≡ x
at_end [] x ys d = refl
at_end (y ∷ xs) x ys d = at_end xs x ys d

pub below-more : (m n : ℕ) (ls : List Link) → m ≤ n → AllBelow m ls → AllBelow n ls
below-more m n [] le all = tt
below-more m n (l ∷ ls) le all = (omega (arith, all.0), below-more m n ls le all.1)

pub resolve-more : (t more : Table) (ls : List Link) → AllBelow (length t) ls → resolve (t ++ more) ls ≡ resolve t ls
resolve-more t more [] all = refl
resolve-more t more (l ∷ ls) all = ap (λ hs. (l.0, hs) ∷ resolve (t ++ more) ls) (at_left t more l.1 [] all.0) ∙ ap (λ bs. (l.0, get_or t l.1 []) ∷ bs) (resolve-more t more ls all.1)

pub resolve-push : (t : Table) (ls : List Link) (l : Link) → resolve t (ls ++ l ∷ []) ≡ resolve t ls ++ (l.0, get_or t l.1 []) ∷ []
resolve-push t [] l = refl
resolve-push t (k ∷ ls) l = ap (λ bs. (k.0, get_or t k.1 []) ∷ bs) (resolve-push t ls l)

pub below-push : (n : ℕ) (ls : List Link) (l : Link) → AllBelow n ls → l.1 < n → AllBelow n (ls ++ l ∷ [])
below-push n [] l all lt = (lt, tt)
below-push n (k ∷ ls) l all lt = (all.0, below-push n ls l all.1 lt)

taken-more : (links more : List Link) (f c : ℕ) → f + c ≤ length links → take c (drop f (links ++ more)) ≡ take c (drop f links)
taken-more links more zero zero le = refl
taken-more [] more zero (suc c) le = absurd (omega arith)
taken-more (l ∷ ls) more zero (suc c) le = ap (λ x. l ∷ x) (taken-more ls more zero c (omega arith))
taken-more [] more (suc f) c le = absurd (omega arith)
taken-more (l ∷ ls) more (suc f) c le = taken-more ls more f c (omega arith)

pub table-links : (links more : List Link) (t : Table) (ns : List PackedNode) → ArePacked links t ns → table_from (links ++ more) t ns ≡ table_from links t ns
table-links links more t [] packed = refl
table-links links more t (n ∷ ns) packed =
    ap (λ ls. table_from (links ++ more) (t ++ members_from n.ends (resolve t ls) ∷ []) ns) (taken-more links more n.first n.count packed.0.in_range)
    ∙ table-links links more (t ++ members_at links t n ∷ []) ns packed.1

pub packed-links : (links more : List Link) (t : Table) (ns : List PackedNode) → ArePacked links t ns → ArePacked (links ++ more) t ns
packed-links links more t [] packed = tt
packed-links links more t (n ∷ ns) packed =
    let same = sym (taken-more links more n.first n.count packed.0.in_range) in (
      record {
        in_range = omega (arith, packed.0.in_range, length-append links more);
        below = subst (AllBelow (length t)) same packed.0.below;
        branches = subst (λ ls. AreBranches (resolve t ls)) same packed.0.branches;
        serial = subst (λ ls. AllSerial (members_from n.ends (resolve t ls))) same packed.0.serial;
      },
      subst (λ ls. ArePacked (links ++ more) (t ++ members_from n.ends (resolve t ls) ∷ []) ns) same (packed-links links more (t ++ members_at links t n ∷ []) ns packed.1),
    )

pub table-push : (links : List Link) (t : Table) (ns : List PackedNode) (n : PackedNode) → table_from links t (ns ++ n ∷ []) ≡ table_from links t ns ++ members_at links (table_from links t ns) n ∷ []
table-push links t [] n = refl
table-push links t (k ∷ ns) n = table-push links (t ++ members_at links t k ∷ []) ns n

pub packed-push : (links : List Link) (t : Table) (ns : List PackedNode) (n : PackedNode) → ArePacked links t ns → IsPacked links (table_from links t ns) n → ArePacked links t (ns ++ n ∷ [])
packed-push links t [] n packed is = (is, tt)
packed-push links t (k ∷ ns) n packed is = (packed.0, packed-push links (t ++ members_at links t k ∷ []) ns n packed.1 is)

pub length-table : (links : List Link) (t : Table) (ns : List PackedNode) → length (table_from links t ns) ≡ length t + length ns
length-table links t [] = omega arith
length-table links t (n ∷ ns) = omega (arith, length-table links (t ++ members_at links t n ∷ []) ns, length-append t (members_at links t n ∷ []))

extends : (links : List Link) (t : Table) (ns : List PackedNode) → (more : Table) × (table_from links t ns ≡ t ++ more)
extends links t [] = ([], sym (append-nil t))
extends links t (n ∷ ns) =
    let e = extends links (t ++ members_at links t n ∷ []) ns in
    (members_at links t n ∷ e.0, e.1 ∙ append_assoc t (members_at links t n ∷ []) e.0)

-- what stands at a place of the table
pub record IsAt (links : List Link) (table : Table) (place : ℕ) (node : PackedNode) : Type 0 where
  pub in_range : node.first + node.count ≤ length links
  pub below : AllBelow (length table) (links_of links node)
  pub branches : AreBranches (resolve table (links_of links node))
  pub serial : AllSerial (members_from node.ends (resolve table (links_of links node)))
  pub members : get_or table place [] ≡ members_from node.ends (resolve table (links_of links node))

first_at : (links : List Link) (t : Table) (m : PackedNode) (more : Table) → IsPacked links t m → (rest : Table) → more ≡ members_at links t m ∷ rest → IsAt links (t ++ more) (length t) m
first_at links t m more packed rest is =
    let same = resolve-more t more (links_of links m) packed.below in
    record {
      in_range = packed.in_range;
      below = below-more (length t) (length (t ++ more)) (links_of links m) (omega (arith, length-append t more)) packed.below;
      branches = subst AreBranches (sym same) packed.branches;
      serial = subst (λ bs. AllSerial (members_from m.ends bs)) (sym same) packed.serial;
      members = ap (λ x. get_or (t ++ x) (length t) []) is ∙ at_end t (members_at links t m) rest [] ∙ ap (members_from m.ends) (sym same);
    }

pub at : (links : List Link) (t : Table) (ns : List PackedNode) → ArePacked links t ns → (k : ℕ) (n : PackedNode) → k < length ns → n ≡ get_or ns k n → (place : ℕ) → place ≡ length t + k → IsAt links (table_from links t ns) place n
at links t [] packed k n lt read place e = absurd (omega arith)
at links t (m ∷ ns) packed zero n lt read place e =
    let here = members_at links t m in
    let rest = extends links (t ++ here ∷ []) ns in
    let whole : table_from links (t ++ here ∷ []) ns ≡ t ++ (here ∷ rest.0) = rest.1 ∙ append_assoc t (here ∷ []) rest.0 in
    subst (λ x. IsAt links x place n) (sym whole)
    (subst (λ x. IsAt links (t ++ (here ∷ rest.0)) x n) (sym (e ∙ add-zero (length t)))
    (subst (λ x. IsAt links (t ++ (here ∷ rest.0)) (length t) x) (sym read) (first_at links t m (here ∷ rest.0) packed.0 rest.0 refl)))
at links t (m ∷ ns) packed (suc k) n lt read place e =
    at links (t ++ members_at links t m ∷ []) ns packed.1 k n (omega arith) read place (omega (arith, e, length-append t (members_at links t m ∷ [])))

pub grown_same : (t : Table) → (more : Table) × (t ≡ t ++ more)
grown_same t = ([], sym (append-nil t))

pub grown_more : (old mid new : Table) → ((more : Table) × (mid ≡ old ++ more)) → ((more : Table) × (new ≡ mid ++ more)) → (more : Table) × (new ≡ old ++ more)
grown_more old mid new a b = (a.0 ++ b.0, b.1 ∙ ap (λ x. x ++ b.0) a.1 ∙ append_assoc old a.0 b.0)

pub kid_lighter : (ends : Bool) (bs : List Branch) → AreBranches bs → (i : ℕ) (kid : Branch) → i < length bs → kid ≡ get_or bs i kid → weight kid.1 < weight (members_from ends bs)
kid_lighter ends bs are i kid lt read = omega (arith, weight-append (empty_if ends) (joined bs), lighter-at bs i kid are.full (slice_get_read bs (length bs) i kid refl lt read))

-- one more link, to a place of a table that has grown
pub linked_more : (t u : Table) (ls : List Link) (bs : List Branch) (label : SerialOp) (place : ℕ) (hs : List (List SerialOp)) → ((more : Table) × (u ≡ t ++ more)) → AllBelow (length t) ls → resolve t ls ≡ bs → place < length u → get_or u place [] ≡ hs
    → record { below : AllBelow (length u) (ls ++ (label, place) ∷ []); done : resolve u (ls ++ (label, place) ∷ []) ≡ bs ++ (label, hs) ∷ [] }
linked_more t u ls bs label place hs grown all done lt is = record {
  below = below-push (length u) ls (label, place) (below-more (length t) (length u) ls (omega (arith, ap length grown.1, length-append t grown.0)) all) lt;
  done = resolve-push u ls (label, place)
      ∙ ap (λ x. x ++ (label, get_or u place []) ∷ []) (ap (λ x. resolve x ls) grown.1 ∙ resolve-more t grown.0 ls all ∙ done)
      ∙ ap (λ x. bs ++ (label, x) ∷ []) is;
}

taken-end : (links more : List Link) → take (length more) (drop (length links) (links ++ more)) ≡ more
taken-end links more = ap (take (length more)) (drop-append_seam links more) ∙ take-length more

module _ (links more : List Link) (ns : List PackedNode) (t : Table) (view : table_from links [] ns ≡ t) (packed : ArePacked links [] ns) where
  pub kept : table_from (links ++ more) [] ns ≡ t
  kept = table-links links more [] ns packed ∙ view

  module _ (n : PackedNode) (bs : List Branch) (first : n.first ≡ length links) (count : n.count ≡ length more) (all : AllBelow (length t) more) (done : resolve t more ≡ bs) (are : AreBranches bs) (serial : AllSerial (members_from n.ends bs)) where
    own : links_of (links ++ more) n ≡ more
    own = ap (λ c. take c (drop n.first (links ++ more))) count ∙ ap (λ f. take (length more) (drop f (links ++ more))) first ∙ taken-end links more

    pub added_packed : ArePacked (links ++ more) [] (ns ++ n ∷ [])
    added_packed = packed-push (links ++ more) [] ns n (packed-links links more [] ns packed) record {
      in_range = omega (arith, first, count, length-append links more);
      below = subst (λ x. AllBelow (length x) (links_of (links ++ more) n)) (sym kept) (subst (AllBelow (length t)) (sym own) all);
      branches = subst (λ x. AreBranches (resolve x (links_of (links ++ more) n))) (sym kept) (subst (λ ls. AreBranches (resolve t ls)) (sym own) (subst AreBranches (sym done) are));
      serial = subst (λ x. AllSerial (members_from n.ends (resolve x (links_of (links ++ more) n)))) (sym kept) (subst (λ ls. AllSerial (members_from n.ends (resolve t ls))) (sym own) (subst (λ x. AllSerial (members_from n.ends x)) (sym done) serial));
    }

    pub added_view : table_from (links ++ more) [] (ns ++ n ∷ []) ≡ t ++ members_from n.ends bs ∷ []
    added_view = table-push (links ++ more) [] ns n
        ∙ ap (λ x. x ++ members_at (links ++ more) x n ∷ []) kept
        ∙ ap (λ ls. t ++ members_from n.ends (resolve t ls) ∷ []) own
        ∙ ap (λ x. t ++ members_from n.ends x ∷ []) done

    pub added_place : get_or (t ++ members_from n.ends bs ∷ []) (length ns) [] ≡ members_from n.ends bs
    added_place =
        let same : length ns ≡ length t = omega (arith, length-table links [] ns, ap length view) in
        ap (λ k. get_or (t ++ members_from n.ends bs ∷ []) k []) same ∙ at_end t (members_from n.ends bs) [] []

    pub added_in_range : length ns < length (t ++ members_from n.ends bs ∷ [])
    added_in_range = omega (arith, length-table links [] ns, ap length view, length-append t (members_from n.ends bs ∷ []))

-- what a link of a node leads to
resolved : (t : Table) (ls : List Link) (i : ℕ) (link : Link) → i < length ls → link ≡ get_or ls i link → slice_get (resolve t ls) i ≡ Some (link.0, get_or t link.1 [])
resolved t [] i link lt read = absurd (omega arith)
resolved t (l ∷ ls) zero link lt read = ap (λ (x : Link). Some (x.0, get_or t x.1 [])) (sym read)
resolved t (l ∷ ls) (suc i) link lt read = resolved t ls i link (omega arith) read

below_at : (n : ℕ) (ls : List Link) (i : ℕ) (link : Link) → i < length ls → link ≡ get_or ls i link → AllBelow n ls → link.1 < n
below_at n [] i link lt read all = absurd (omega arith)
below_at n (l ∷ ls) zero link lt read all = subst (λ (x : Link). x.1 < n) (sym read) all.0
below_at n (l ∷ ls) (suc i) link lt read all = below_at n ls i link (omega arith) read all.1

module _ (links : List Link) (ns : List PackedNode) (t : Table) (view : table_from links [] ns ≡ t) (packed : ArePacked links [] ns) where
  pub as_many : length t ≡ length ns
  as_many = omega (arith, length-table links [] ns, ap length view)

  module _ (k : ℕ) (n : PackedNode) (lt : k < length ns) (read : n ≡ get_or ns k n) where
    here : IsAt links t k n
    here = subst (λ x. IsAt links x k n) view (at links [] ns packed k n lt read k (omega arith))

    pub flat_ends : contains (get_or t k []) [] ≡ n.ends
    flat_ends = ap (λ hs. contains hs []) here.members ∙ node-nil n.ends (resolve t (links_of links n))

    flat_branches : branches_of (get_or t k []) ≡ resolve t (links_of links n)
    flat_branches = ap branches_of here.members ∙ node-branches n.ends (resolve t (links_of links n)) here.branches

    pub flat_branching : IsBranching (get_or t k [])
    flat_branching = subst IsBranching (sym here.members) (node-branching n.ends (resolve t (links_of links n)) here.branches)

    links_count : length (links_of links n) ≡ n.count
    links_count = simp (length-take, length-drop) (omega (arith, here.in_range))

    pub flat_count : length (branches_of (get_or t k [])) ≡ n.count
    flat_count = ap length flat_branches ∙ length-map (links_of links n) (λ (link : Link). (link.0, get_or t link.1 [])) ∙ links_count

    pub flat_in_range : n.first + n.count ≤ length links
    flat_in_range = here.in_range

    module _ (i : ℕ) (link : Link) (lower : i < n.count) (is : link ≡ get_or links (n.first + i) link) where
      link_read : link ≡ get_or (links_of links n) i link
      link_read = is ∙ sym (get_or-take n.count (drop n.first links) i link lower ∙ get_or-drop n.first links i link)

      pub flat_kid : slice_get (branches_of (get_or t k [])) i ≡ Some (link.0, get_or t link.1 [])
      flat_kid = ap (λ bs. slice_get bs i) flat_branches ∙ resolved t (links_of links n) i link (omega (arith, links_count)) link_read

      pub flat_below : link.1 < length t
      flat_below = below_at (length t) (links_of links n) i link (omega (arith, links_count)) link_read here.below
