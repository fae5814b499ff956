-- A whole text, line by line.
use Rattle.std.proofs.Common.{◌≡◌, ℕ, List, [], ◌∷◌, ◌++◌, map, Some, Ok, Err, Option, sym, refl, ap, ◌∙◌, subst, append_assoc}
use Rattle.std.proofs.lemmas.List.{map_push}
use Rattle.text.specs.declared.faults.ReadFault.{ReadFault}
use Rattle.text.specs.declared.faults.ReadFault.TheVariants.{Text, Memory}
use Rattle.text.specs.declared.words.Line.{Line}
use Rattle.text.specs.Lines.{Item, holds, faulty, Wrong, wrong_of, first, first_fault_lem, told, Ready, Gives, Reads}

first_fault-after : (ls : List Line) (is : List Item) → first_fault_lem (map told ls ++ is) ≡ first_fault_lem is
first_fault-after [] is = refl
first_fault-after (l ∷ ls) is = first_fault-after ls is

fault_first : (is : List Item) (n : ℕ) (f : Wrong) → first is ≡ Some (faulty n f) → first_fault_lem is ≡ Some (faulty n f)
fault_first [] n f e = cc
fault_first (holds m ws ∷ is) n f e = cc
fault_first (faulty m g ∷ is) n f e = e

-- behind lines that hold words a line that holds words is the first or a later one
ready-behind : (ls : List Line) (is : List Item) → Ready is → Ready (map told ls ++ is)
ready-behind [] is h = h
ready-behind (l ∷ ls) is h = tt

pub reads_fault : (whole old new : List Item) (ls : List Line) → whole ≡ map told ls ++ old → (e : ReadFault) → Gives old new (Err e) → Reads whole (Err e)
reads_fault whole old new ls is (Text f) h = ap first_fault_lem is ∙ first_fault-after ls old ∙ fault_first old f.line (wrong_of f) h.1
reads_fault whole old new ls is Memory h = subst Ready (sym is) (ready-behind ls old h.1)

-- want of memory to keep a line that was read
pub reads_unkept : (whole old new : List Item) (ls : List Line) (l : Line) → whole ≡ map told ls ++ old → old ≡ told l ∷ new → Reads whole (Err Memory)
reads_unkept whole old new ls l is e = subst Ready (sym is) (ready-behind ls old (subst Ready (sym e) tt))

pub reads_more : (whole old new : List Item) (ls more : List Line) (l : Line) → whole ≡ map told ls ++ old → old ≡ told l ∷ new → more ≡ ls ++ l ∷ [] → whole ≡ map told more ++ new
reads_more whole old new ls more l is e m =
    is ∙ ap (λ t. map told ls ++ t) e ∙ sym (append_assoc (map told ls) (told l ∷ []) new) ∙ ap (λ t. t ++ new) (sym (map_push told ls l) ∙ ap (map told) (sym m))

pub gives_some : (old new : List Item) (o : Option Line) (l : Line) → o ≡ Some l → Gives old new (Ok o) → old ≡ told l ∷ new
gives_some old new o l e h = subst (λ x. Gives old new (Ok x)) e h
