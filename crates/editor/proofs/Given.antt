-- Edits made in turn give one board.
use Rattle.std.proofs.Common.{◌≡◌, ℕ, List, [], ◌∷◌, ◌++◌, Ok, sym, refl, subst}
use Rattle.netlist.specs.declared.edit.Edit.{Edit}
use Rattle.netlist.specs.Edits.{Board, Edits}
use Rattle.netlist.proofs.Determined.{edits_determined}
use Rattle.editor.specs.Laws.{EditsGiveOneBoard}
use Rattle.editor.specs.Log.{Gives, none, more}

-- ---- lists with one more at the end

more_than_none : {A : Type 0} (xs : List A) (x : A) → [] ≡ xs ++ x ∷ [] → ⊥
more_than_none [] x e = cc
more_than_none (y ∷ xs) x e = cc

same_parts : {A : Type 0} (xs ys : List A) (x y : A) → xs ++ x ∷ [] ≡ ys ++ y ∷ [] → (xs ≡ ys) × (x ≡ y)
same_parts [] [] x y e = (refl, cc)
same_parts [] (b ∷ ys) x y e = absurd (let none : [] ≡ ys ++ y ∷ [] = cc in more_than_none ys y none)
same_parts (a ∷ xs) [] x y e = absurd (let none : [] ≡ xs ++ x ∷ [] = cc in more_than_none xs x none)
same_parts (a ∷ xs) (b ∷ ys) x y e =
    let same : xs ++ x ∷ [] ≡ ys ++ y ∷ [] = cc in
    let first : a ≡ b = cc in
    let (rest, last) = same_parts xs ys x y same in
    ((λ i. first i ∷ rest i), last)

-- ---- the board

gives_same : (m : ℕ) (es fs : List Edit) (b c : Board) → es ≡ fs → Gives m es b → Gives m fs c → b ≡ c
gives_same m es fs b c e none none = refl
gives_same m es fs b c e none (more {edits} {e = f} count g edit) = absurd (more_than_none edits f e)
gives_same m es fs b c e (more {edits} {e = f} count g edit) none = absurd (more_than_none edits f (sym e))
gives_same m es fs b c e (more {edits = xs} {b = b₁} {b' = b₂} {e = f} count g edit) (more {edits = ys} {b = c₁} {b' = c₂} {e = h} total k other) =
    let (front, last) = same_parts xs ys f h e in
    let before : b₁ ≡ c₁ = gives_same m xs ys b₁ c₁ front g k in
    let again : Edits m 1 c₁ h b₂ (Ok count) = subst (λ z. Edits m 1 c₁ z b₂ (Ok count)) last (subst (λ z. Edits m 1 z f b₂ (Ok count)) before edit) in
    (edits_determined m 1 c₁ h b₂ c₂ (Ok count) (Ok total) again other).0

pub one_board : EditsGiveOneBoard
one_board m edits b c g h = gives_same m edits edits b c refl g h
