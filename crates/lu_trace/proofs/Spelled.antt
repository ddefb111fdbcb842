-- Bytes that spell a text, and others.
use Rattle.std.proofs.Common.{◌≡◌, ℕ, Bool, true, false, if◌then◌else◌, List, [], IsUtf8, refl}
use Rattle.std.specs.Str.{is_utf8}
use Rattle.std.proofs.lemmas.Str.{IsUtf8-from_is_utf8, is_utf8-from_IsUtf8}
use Rattle.lu_trace.specs.Wordings.{text_of}

pub spells : (bytes text : List ℕ) → text ≡ bytes → IsUtf8 bytes → text ≡ text_of bytes
spells bytes text same valid = rw (is_utf8-from_IsUtf8 bytes valid) same

pub spells_none : (bytes : List ℕ) → (IsUtf8 bytes → ⊥) → [] ≡ text_of bytes
spells_none bytes invalid = by_test (is_utf8 bytes) refl
  where
    by_test : (test : Bool) → is_utf8 bytes ≡ test → [] ≡ (if test then bytes else [])
    by_test true h = absurd (invalid (IsUtf8-from_is_utf8 bytes h))
    by_test false h = refl
