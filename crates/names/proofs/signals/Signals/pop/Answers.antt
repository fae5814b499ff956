use Rattle.std.proofs.Common.{◌≡◌, [], ◌∷◌, ◌++◌, map, vec_items, ap, ◌∙◌, subst}
use Rattle.std.proofs.lemmas.List.{map_push}
use Rattle.names.specs.Names.{listed}
use Rattle.names.specs.Maps.{Numbered}
use Rattle.names.proofs.Maps.{numbered-pop}
use Rattle.names.proofs.signals.Signals.pop.Goals as goal

pub invariant_of-self : goal.invariant_of-self
invariant_of-self c =
    let s = c.self.inside in
    let left = listed c.pop.new.self in
    let was : listed s.names ≡ left ++ vec_items c.in-Some.name ∷ [] = ap (map vec_items) c.in-Some.ensures.items ∙ map_push vec_items (vec_items c.pop.new.self) c.in-Some.name in
    numbered-pop s.numbers c.remove.new.self left c.in-Some.name (subst (Numbered s.numbers) was c.self.invariant) c.remove.ensures.ordered c.remove.ensures.updates
