-- Levels dropped one after another, until none is open.
use Rattle.std.proofs.Common.{◌≡◌, ℕ, false, List, [], ◌∷◌, length, is_ok, Ok, Err, Result, sym, refl, ◌∙◌, arith}
use Rattle.std.proofs.lemmas.Bool.{true≢false}
use Rattle.words.specs.Meaning.{Meaning, Drops}
use Rattle.words.specs.declared.store.StoreRefusal.{StoreRefusal}
use Rattle.editor.specs.Calls.{emptied}

same_shut : (d : ℕ) (image : List ℕ) (saved : List (List ℕ)) → length saved ≡ 0
    → emptied (record { limit = d; image = image; saved = saved }) ≡ record { limit = d; image = image; saved = saved }
same_shut d image [] shut = refl
same_shut d image (ws ∷ saved) shut = absurd (omega arith)

-- a drop that is refused has left nothing to take back
pub refused_drop : (a b first : Meaning) (r : Result (Unit {0}) StoreRefusal) → is_ok r ≡ false → Drops a b r → emptied a ≡ emptied first → b ≡ emptied first
refused_drop a b first (Ok _) refused h e = absurd (true≢false refused)
refused_drop a b first (Err x) refused h e = h.2 ∙ sym (same_shut a.limit a.image a.saved h.1) ∙ e
