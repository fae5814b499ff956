use Rattle.std.proofs.Common.{refl, sym, subst, ⊎_elim}
use lib.Bits.{or_lt}
use Rattle.table.specs.Cover.{Ends}
use Rattle.table.proofs.Lines.{known_more, ends_first, ends_more, not_differs, no_differs}
use Rattle.table.proofs.shape.Cover.with.Goals as goal

pub invariant_of-result : goal.invariant_of-result
invariant_of-result c =
    let listed = c.args.self.listed in
    let covered = c.args.row.covered in
    record { few = listed.few; fits = or_lt _ listed.bits covered.bits listed.fits (rw (sym c.requires) covered.fits) }

pub returns : goal.returns
returns c = record {
  same = refl;
  joins = λ lines line read stands.
      let self = c.args.self in
      let row = c.args.row in
      let more = known_more self.listed.pins self.listed.bits lines self.output line row read stands in
      ⊎_elim
      (λ first. let ends = subst (λ o. Ends o lines) first read.ends in
      (no_differs lines line ends, more (ends_first lines line row.output stands.ends ends)))
      (λ same. let ends = subst (λ o. Ends o lines) same read.ends in
      (not_differs lines line row.output stands.ends ends, more (ends_more lines line row.output stands.ends ends)))
      c.if-not-allows.ensures;
}
