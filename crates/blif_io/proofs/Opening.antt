-- A gate whose cover is to come.
use Rattle.std.proofs.Common.{◌≡◌, ℕ, zero, suc, ◌<◌, ◌≤◌, ◌⊎◌, ⊎_elim, List, [], ◌∷◌, map, length, get_or, Ok, Result, sym, refl, ap, ◌∙◌, subst, arith}
use Rattle.std.specs.Prelude.{slice_index, slice_index_or}
use Rattle.text.specs.declared.words.Word.{Word}
use Rattle.names.specs.Names.{spellings}
use Rattle.blif.specs.Statement.{Name}
use Rattle.netlist.specs.declared.edit.Edit.TheVariants.{Latch}
use Rattle.desk.specs.State.{State}
use Rattle.blif.specs.declared.form.Form.{Form}
use Rattle.blif.specs.declared.form.Form.TheVariants as form
use Rattle.blif_io.specs.declared.calls.Listing.{Listing}
use Rattle.blif_io.specs.declared.calls.Listing.TheVariants as listing
use Rattle.blif_io.specs.declared.place.Refused.{Refused}
use Rattle.blif.specs.Description.{Claim, drives, marks, input}
use Rattle.blif.specs.Calls.{four, number_of, edit_of, all}
use Rattle.blif.specs.Leaf.{saying}
use Rattle.blif_io.specs.Taking.{Plays, listed, claims_now}

pub four_nets : (xs : List ℕ) → length xs ≤ 4 → slice_index xs 0 ∷ slice_index xs 1 ∷ slice_index xs 2 ∷ slice_index xs 3 ∷ [] ≡ four xs
four_nets [] h = refl
four_nets (a ∷ []) h = refl
four_nets (a ∷ (b ∷ [])) h = refl
four_nets (a ∷ (b ∷ (c ∷ []))) h = refl
four_nets (a ∷ (b ∷ (c ∷ (d ∷ [])))) h = refl
four_nets (a ∷ (b ∷ (c ∷ (d ∷ (e ∷ xs))))) h = absurd (omega (arith, h))

pub at_number : (f : Name → ℕ) (ws : List Word) (i : ℕ) (w : Word) → i < length ws → w ≡ get_or ws i w → f w.bytes.now ≡ slice_index (map f (spellings ws)) i
at_number f [] i w lt e = absurd (omega arith)
at_number f (v ∷ ws) zero w lt e = ap (λ x. f x.bytes.now) e
at_number f (v ∷ ws) (suc i) w lt e = at_number f ws i w (omega arith) e

pub at_word : (ws : List Word) (i : ℕ) (w : Word) → i < length ws → w ≡ get_or ws i w → w.bytes.now ≡ slice_index_or (spellings ws) i []
at_word [] i w lt e = absurd (omega arith)
at_word (v ∷ ws) zero w lt e = ap (λ x. x.bytes.now) e
at_word (v ∷ ws) (suc i) w lt e = at_word ws i w (omega arith) e

-- ---- the edits of a line

pub edits_listed : (l : Listing) (ns xs : List Name) (f : Name → Claim) → ((x : Name) → edit_of ns (f x) ≡ listed l (number_of ns x)) → map (edit_of ns) (map f xs) ≡ map (λ x. listed l (number_of ns x)) xs
edits_listed l ns [] f h = refl
edits_listed l ns (x ∷ xs) f h = ap (λ e. e ∷ map (edit_of ns) (map f xs)) (h x) ∙ ap (λ es. listed l (number_of ns x) ∷ es) (edits_listed l ns xs f h)

module _ (d d' : State) (ns : List Name) (ws : List Name) (r : Result ℕ Refused) where
  pub inputs_made : (f : Form) → f ≡ form.Inputs → Plays d (map (λ x. listed listing.Inputs (number_of ns x)) ws) d' r → Plays d (map (edit_of ns) (claims_now (saying f ws))) d' r
  inputs_made f is p =
      subst (λ g. Plays d (map (edit_of ns) (claims_now (saying g ws))) d' r) (sym is)
      (subst (λ es. Plays d es d' r) (sym (edits_listed listing.Inputs ns ws (λ x. drives x input) (λ x. refl))) p)

  pub outputs_made : (f : Form) → f ≡ form.Outputs → Plays d (map (λ x. listed listing.Outputs (number_of ns x)) ws) d' r → Plays d (map (edit_of ns) (claims_now (saying f ws))) d' r
  outputs_made f is p =
      subst (λ g. Plays d (map (edit_of ns) (claims_now (saying g ws))) d' r) (sym is)
      (subst (λ es. Plays d es d' r) (sym (edits_listed listing.Outputs ns ws marks (λ x. refl))) p)

-- a line without a call of its own
pub nothing_made : (d : State) (ns ws : List Name) (f : Form) → ((ws : List Name) → claims_now (saying f ws) ≡ []) → Plays d (map (edit_of ns) (claims_now (saying f ws))) d (Ok 0)
nothing_made d ns ws f h = subst (λ cs. Plays d (map (edit_of ns) cs) d (Ok 0)) (sym (h ws)) ([], refl, all)

pub calls_nothing : (f : Form) → (f ≡ form.Model) ⊎ ((f ≡ form.Names) ⊎ (f ≡ form.End)) → (ws : List Name) → claims_now (saying f ws) ≡ []
calls_nothing f is ws =
    ⊎_elim (λ e. ap (λ g. claims_now (saying g ws)) e) (λ k. ⊎_elim (λ e. ap (λ g. claims_now (saying g ws)) e) (λ e. ap (λ g. claims_now (saying g ws)) e) k) is

pub spelled_at : (ws : List Word) (i : ℕ) (w : Word) → i < length ws → (slice_index_or ws i w).bytes.now ≡ slice_index_or (spellings ws) i []
spelled_at [] i w lt = absurd (omega arith)
spelled_at (v ∷ ws) zero w lt = refl
spelled_at (v ∷ ws) (suc i) w lt = spelled_at ws i w (omega arith)

-- the edit of a latch, whose names are words of its line
pub latch_is : (ns : List Name) (ws : List Word) (a b start : ℕ) (v w : Word) → 2 ≤ length ws → a ≡ number_of ns (slice_index_or ws 1 v).bytes.now → b ≡ number_of ns (slice_index_or ws 0 w).bytes.now
    → Latch a b start ≡ Latch (number_of ns (slice_index_or (spellings ws) 1 [])) (number_of ns (slice_index_or (spellings ws) 0 [])) start
latch_is ns ws a b start v w two e f =
    ap (λ s. Latch s b start) (e ∙ ap (number_of ns) (spelled_at ws 1 v (omega arith))) ∙ ap (λ s. Latch (number_of ns (slice_index_or (spellings ws) 1 [])) s start) (f ∙ ap (number_of ns) (spelled_at ws 0 w (omega arith)))
