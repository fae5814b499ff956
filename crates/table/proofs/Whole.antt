-- The lines of a whole cover, taken one after the other.
use Rattle.std.proofs.Common.{◌≡◌, ℕ, suc, ◌<◌, ◌≤◌, List, ◌∷◌, map, length, get_or, take, drop, ap, ◌∙◌, subst}
use lib.Seq.{split_at}
use Rattle.std.proofs.lemmas.List.{map-append, take_all}
use Rattle.table.specs.declared.shape.Cover.{Cover}
use Rattle.table.specs.declared.fault.CoverFault.{CoverFault}
use Rattle.table.specs.Line.{Line, IsCover, Gives}
use Rattle.table.specs.Cover.{Read, Refuses}
use Rattle.table.specs.Reading.{Stops}
use Rattle.table.proofs.Lines.{known_cover}

-- The cover, of a gate with so many pins, has taken the first i lines.
pub record Taken {X : Type 0} (line : X → Line) (xs : List X) (pins i : ℕ) (cover : Cover) : Type 0 where
  pub few : pins ≤ 4
  pub same : cover.listed.pins ≡ pins
  pub read : Read (map line (take i xs)) cover

module _ {X : Type 0} (line : X → Line) (xs : List X) (pins i : ℕ) (cover : Cover) (taken : Taken line xs pins i cover) where
  pub taken-stops :
      (d : X) (at : ℕ) (fault : CoverFault) → i < length xs → at ≡ cover.listed.pins
      → Refuses at (map line (take i xs)) (line (get_or xs i d)) fault → Stops pins (map line xs) fault
  taken-stops d at fault h same refused = record {
    before = map line (take i xs);
    line = line (get_or xs i d);
    after = map line (drop (suc i) xs);
    parts = ap (map line) (split_at xs i d h) ∙ map-append line (take i xs) (get_or xs i d ∷ drop (suc i) xs);
    cover = subst (λ n. IsCover n (map line (take i xs))) taken.same (known_cover cover.listed.pins cover.listed.bits cover.output (map line (take i xs)) taken.read);
    refused = subst (λ n. Refuses n (map line (take i xs)) (line (get_or xs i d)) fault) (same ∙ taken.same) refused;
  }

  pub taken-all :
      (bits : ℕ) → length xs ≤ i → ((lines : List Line) → Read lines cover → Gives cover.listed.pins lines bits)
      → Gives pins (map line xs) bits
  taken-all bits h gives =
      let all : Read (map line xs) cover = subst (λ ys. Read (map line ys) cover) (take_all i xs h) taken.read in
      subst (λ n. Gives n (map line xs) bits) taken.same (gives (map line xs) all)
