use Rattle.std.proofs.Common.{◌≡◌, ℕ, List, length, get_or, IfOk, sym, refl, subst, arith, rules, tests}
use Rattle.std.proofs.lemmas.Iterator.{items_from_collect, YieldsList-from_map, YieldsList-from_range}
use Rattle.std.proofs.lemmas.List.FromFn.{fill_by_all}
use Rattle.store_script.proofs.player.image_of.Goals as goal

pub returns : goal.returns
returns g c =
    let image : List ℕ = (g.S.Store.model c.args.store.now).image in
    subst (λ xs. IfOk c.collect.result (λ v. v.items ≡ xs)) (sym (fill_by_all (λ at. get_or image at 0) image (length image) 0 refl (λ k h. refl)))
    (items_from_collect _ c.collect.ensures.ran
    (YieldsList-from_map _ (λ at. get_or image at 0) (YieldsList-from_range 0 c.size.result (length image) c.map.ensures.source (omega (arith, c.size.ensures.size))) c.map.ensures.closure (λ x r q k. search (rules, tests))))
