use Rattle.std.proofs.Common.{◌≡◌, [], ◌∷◌, ◌++◌, map, length, vec_items, sym, ap, ◌∙◌, subst}
use Rattle.std.proofs.lemmas.List.{map_push}
use Rattle.names.specs.Names.{position, listed}
use Rattle.names.specs.Maps.{Numbered}
use Rattle.names.proofs.Maps.{numbered-push}
use Rattle.names.proofs.signals.Signals.push.Goals as goal

pub invariant_of-self-2 : goal.invariant_of-self-2
invariant_of-self-2 c =
    let s = c.self.inside in
    let old = listed s.names in
    let key = c.in_ok-key.key in
    let copy = c.in_ok-copy.copy in
    let same = c.in_ok-key.ensures.items in
    let grown : listed c.push_reserved.new.self ≡ old ++ vec_items copy ∷ [] = ap (map vec_items) (c.push_reserved.ensures.items ∙ ap (λ l. l ++ copy ∷ []) c.reserve.ensures.items) ∙ map_push vec_items (vec_items s.names) copy in
    let next = c.requires.next ∙ ap length (sym c.self.view_is) in
    let fresh = ap (position old) same ∙ ap (λ ns. position ns c.args.name.now) c.self.view_is ∙ c.requires.fresh in
    let put = numbered-push s.numbers c.insert.new.self old key c.args.number c.self.invariant c.in_ok-insert.ensures.ordered c.in_ok-insert.ensures.updates next fresh in
    subst (Numbered c.insert.new.self) (sym (grown ∙ ap (λ w. old ++ w ∷ []) (c.in_ok-copy.ensures.items ∙ sym same))) put
