-- A name comes into the map of a name table, and goes.
use Rattle.std.proofs.Common.{◌≡◌, ℕ, ◌^◌, ◌<◌, List, [], ◌∷◌, ◌++◌, length, Some, None, sym, refl, ap, ◌∙◌, ⊎_elim, le_refl}
use denote.RawPtr.{null_ptr}
use Rattle.std.specs.declared.alloc.Global.{Global}
use Rattle.std.specs.BTreeMap.{get, get_by, IsOrdered, Updates}
use Rattle.std.specs.Str.{bytes_eq as same_text}
use Rattle.std.specs.Ordering.{nat_cmp, is_eq}
use Rattle.std.specs.Cmp.Lexicographic.{slice_cmp, bytes_decides, nat_list_eq_equiv}
use Rattle.std.proofs.lemmas.Map.Text.{is_eq-slice_cmp}
use Rattle.std.proofs.lemmas.Bool.{cond-true, cond-false, cases_Bool}
use Rattle.names.specs.Names.{position}
use Rattle.names.specs.Maps.{Name, Map, name_cmp, Numbered}
use Rattle.names.proofs.Places.{position_last, position_other, apart_push, fresh-pop, apart_pop}

-- a name that holds given bytes, for a proof that must name one
abbrev holding : Global → (bs : List ℕ) → length bs < 2 ^ 63 → Name
holding heap bs small = record { ptr = null_ptr; len = length bs; cap = length bs; alloc = heap; items = bs; ok = (refl, le_refl (length bs)); small = small }

pub numbered_find : (m : Map) (ns : List (List ℕ)) (heap : Global) (bs : List ℕ) → length bs < 2 ^ 63 → Numbered m ns → get_by (λ k. slice_cmp nat_cmp bs k.items) m ≡ position ns bs
numbered_find m ns heap bs small s = s.agree (holding heap bs small)

-- the map looks for a name by its bytes
tie : (k q : Name) → is_eq (name_cmp k q) ≡ same_text q.items k.items
tie k q = is_eq-slice_cmp k.items q.items ∙ nat_list_eq_equiv.symm k.items q.items

module _ (m n : Map) (ns : List (List ℕ)) (k : Name) where
  pub numbered-push : (v : ℕ) → Numbered m ns → IsOrdered name_cmp n → Updates name_cmp m n k (Some v) → v ≡ length ns → position ns k.items ≡ None → Numbered n (ns ++ k.items ∷ [])
  numbered-push v s lawful h is new =
      record {
        lawful = lawful;
        agree = λ q.
            ⊎_elim
            (λ t.
            let same : q.items ≡ k.items = (bytes_decides q.items k.items).0 t in
            h.0 q ∙ cond-true (is_eq (name_cmp k q)) (Some v) (get name_cmp m q) (tie k q ∙ t) ∙ ap Some is ∙ sym (position_last ns k.items new) ∙ ap (position (ns ++ k.items ∷ [])) (sym same))
            (λ t. h.0 q ∙ cond-false (is_eq (name_cmp k q)) (Some v) (get name_cmp m q) (tie k q ∙ t) ∙ s.agree q ∙ sym (position_other ns k.items q.items t))
            (cases_Bool (same_text q.items k.items));
        apart = apart_push ns k.items s.apart new;
      }

  pub numbered-pop : Numbered m (ns ++ k.items ∷ []) → IsOrdered name_cmp n → Updates name_cmp m n k None → Numbered n ns
  numbered-pop s lawful h =
      record {
        lawful = lawful;
        agree = λ q.
            ⊎_elim
            (λ t.
            let same : q.items ≡ k.items = (bytes_decides q.items k.items).0 t in
            h.0 q ∙ cond-true (is_eq (name_cmp k q)) None (get name_cmp m q) (tie k q ∙ t) ∙ sym (fresh-pop ns k.items s.apart) ∙ ap (position ns) (sym same))
            (λ t. h.0 q ∙ cond-false (is_eq (name_cmp k q)) None (get name_cmp m q) (tie k q ∙ t) ∙ s.agree q ∙ position_other ns k.items q.items t)
            (cases_Bool (same_text q.items k.items));
        apart = apart_pop ns k.items s.apart;
      }
