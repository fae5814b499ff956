use Rattle.std.proofs.Common.{ℕ, suc, Err, refl, sym, ap, ◌∙◌, subst}
use Rattle.std.proofs.lemmas.Result.{err_from_is_err_and}
use Rattle.places.specs.Put.{PutsPin}
use Rattle.reach.specs.Listed.{listed, along}
use Rattle.netlist.specs.Places.{Arranges}
use Rattle.board.specs.Board.{order_of}
use Rattle.places.specs.Refill.{Range, Renumbered}
use Rattle.places.proofs.Placed.{looped, moved}
use Rattle.places.proofs.put.put_pin.Goals as goal

pub returns-in_err-moved-clause-puts : goal.returns-in_err-moved-clause-puts
returns-in_err-moved-clause-puts g c =
    let b = c.args.board.now in
    let path = c.in_err-moved.field-0.0 in
    let (e, is, same) = err_from_is_err_and c.from_residual.result c.from_residual.ensures.1 in
    λ ready.
    subst (PutsPin b.signals b.words c.args.gate c.args.net b.words) (sym (is ∙ ap Err same))
    (refl, looped b.signals b.words.image c.args.gate c.args.net ready c.read-2.result (along path) c.in_err-moved.ensures.answers.0)

pub returns-clause-puts : goal.returns-clause-puts
returns-clause-puts g c =
    let b = c.args.board.now in
    let ws₁ = c.refill.new.board.words.image in
    let ws₂ = c.renumber.new.board.words.image in
    let low = c.read.result in
    let high = c.read-2.result in
    let looked = c.run.new.self in
    λ ready.
    moved b.signals b.words.image c.args.gate c.args.net ready low high c.read.ensures c.read-2.ensures c.if-span.false looked.flags.now (listed looked.queue)
    c.in_ok-moved.moved c.in_ok-moved.ensures.answers ws₁ ws₂ c.refill.ensures.fills
    (let P : ℕ → Type 0 = λ k. Range k ws₁ low high → Arranges k (order_of k ws₁) → Renumbered k ws₁ low (suc high) ws₂ in
    subst P c.refill.ensures.only.stays.signals c.renumber.ensures.seats)
