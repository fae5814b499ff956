-- A cover line is taken or refused.
use Rattle.std.proofs.Common.{◌≡◌, ℕ, List, Some, None, Ok, Err, sym, refl, ap, ◌∙◌, subst}
use Rattle.table.specs.Line.{Line, Formed}
use Rattle.table.specs.Cover.{Refuses, Takes}
use Rattle.table.specs.Reading.{line_of}
use Rattle.table.specs.declared.shape.Cover.{Cover}
use Rattle.table.specs.declared.shape.CoverLine.{CoverLine}
use Rattle.table.specs.declared.fault.CoverFault.{CoverFault}
use Rattle.blif.specs.declared.fault.FormFault.{FormFault}
use Rattle.blif.specs.declared.fault.FormFault.TheVariants.{WordCount}
use Rattle.blif_io.specs.declared.place.OpenGate.{OpenGate}
use Rattle.blif.specs.Form.{cover_line, CoverSays, CoverFaulty, of_cover}
use Rattle.blif_io.specs.Taking.{TakesCover, LineOf}

module _ (g : OpenGate) (ws : List (List ℕ)) (k : ℕ) (many : k ≡ g.cover.listed.pins) (cover : List Line) where
  pub no_line : LineOf (cover_line k ws) None → CoverSays g.cover.listed.pins cover ws (Err WordCount)
  no_line e = subst (λ o. CoverFaulty g.cover.listed.pins cover o WordCount) (sym (ap (λ j. cover_line j ws) (sym many) ∙ e)) refl

  module _ (l : CoverLine) (is : LineOf (cover_line k ws) (Some l)) where
    there : cover_line g.cover.listed.pins ws ≡ Some (line_of l)
    there = ap (λ j. cover_line j ws) (sym many) ∙ is

    pub line_more : (after : Cover) → after.listed.pins ≡ g.cover.listed.pins → Takes cover (line_of l) after (Ok tt) → TakesCover g cover ws (Ok (record g { cover = after }))
    line_more after same t = (line_of l, (there, subst (λ j. Formed j (line_of l)) same t.0, t.1), t.2, refl, refl, refl, same)

    pub line_refused : (after : Cover) → after.listed.pins ≡ g.cover.listed.pins → (fault : CoverFault) → Takes cover (line_of l) after (Err fault) → (f : FormFault) → f ≡ of_cover fault
        → CoverSays g.cover.listed.pins cover ws (Err f)
    line_refused after same fault t f e =
        subst (λ o. CoverFaulty g.cover.listed.pins cover o f) (sym there) (fault, subst (λ j. Refuses j cover (line_of l) fault) same t, e)
