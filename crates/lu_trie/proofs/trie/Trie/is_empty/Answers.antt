use Rattle.std.proofs.Common.{◌≡◌, ℕ, List, [], ◌∷◌, length, ◌↔◌, true, false, Bool, refl, ap, sym, ◌∙◌, arith}
use Rattle.std.specs.Prelude.{◌==◌}
use Rattle.std.proofs.lemmas.Bool.{eqb-true, eq-eqb}
use Rattle.lu_trie.specs.Branches.{Branch, joined, members_from, NoneBare}
use Rattle.lu_trie.proofs.trie.Trie.is_empty.Goals as goal

none_joined : (branches : List Branch) → NoneBare branches → joined branches ≡ [] → branches ≡ []
none_joined [] full none = refl
none_joined ((label, []) ∷ branches) full none = absurd (full.0 refl)
none_joined ((label, (history ∷ histories)) ∷ branches) full none = cc

no_branches : (branches : List Branch) → length branches ≡ 0 → branches ≡ []
no_branches [] none = refl
no_branches (branch ∷ branches) none = absurd (omega arith)

-- a node that ends nothing is empty where it has no branches
tells_empty : (ends : Bool) (branches : List Branch) (count : ℕ) → ends ≡ false → NoneBare branches → count ≡ length branches → ((count == 0) ≡ true) ↔ (members_from ends branches ≡ [])
tells_empty ends branches count bare full same = (
  λ e. ap (λ b. members_from b branches) bare ∙ ap joined (no_branches branches (sym same ∙ eqb-true count 0 e)),
  λ e. eq-eqb count 0 (same ∙ ap length (none_joined branches full (sym (ap (λ b. members_from b branches) bare) ∙ e))),
)

pub returns-then-not-self : goal.returns-then-not-self
returns-then-not-self g c =
    let kids = c.self.inside.kids in
    rw (c.is_empty.ensures, ← c.self.view_is) (tells_empty c.self.inside.ends kids.items _ c.if-not-self.true c.self.invariant.are.full kids.ok.0)
