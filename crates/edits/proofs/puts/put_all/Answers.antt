use Rattle.std.proofs.Common.{◌≡◌, ℕ, get_or, take, Ok, Err, Result, sym, refl, ap, ◌∙◌, subst, arith}
use Rattle.std.proofs.lemmas.Result.{err_from_is_err_and}
use Rattle.words.specs.Meaning.{Meaning}
use Rattle.reach.specs.Listed.{along}
use Rattle.reach.specs.declared.path.Path.{Path}
use Rattle.netlist.specs.Netlist.{Loop}
use Rattle.board.proofs.Writes.{only_words-refl, only_words-trans}
use Rattle.places.specs.Put.{Ready, PutsPin}
use Rattle.edits.specs.Puts.{PutsPins}
use Rattle.edits.proofs.Putting.{so_far_none, so_far_more, so_far_all, placed_ready, among_at}
use Rattle.edits.proofs.puts.put_all.Goals as goal

-- what a put says, at as many signals
put-same : (k m : ℕ) (before : Meaning) (s a : ℕ) (after : Meaning) (r : Result ℕ Path) → k ≡ m → (Ready k before.image s a → PutsPin k before s a after r) →
    Ready m before.image s a → PutsPin m before s a after r
put-same k m before s a after r e h = subst (λ n. Ready n before.image s a → PutsPin n before s a after r) e h

pub loop-net-init : goal.loop-net-init
loop-net-init g c =
    let b = c.args.board.now in
    (λ r. so_far_none b.signals b.words.image c.args.gate c.args.nets.now r, only_words-refl b, refl)

pub loop-net-preserved : goal.loop-net-preserved
loop-net-preserved g c =
    let b = c.args.board.now in
    let l = c.loop-net.board in (
      λ r.
          so_far_more b.signals b.words.image c.args.gate c.args.nets.now c.loop-net.net-index l.words.image c.put_pin.new.board.words.image
          c.loop-net.total c.in_ok-put_pin.field-0 c.saturating_add-total.result c.requires (omega arith) r (c.loop-net.invariant.0 r)
          (put-same l.signals b.signals l.words c.args.gate (get_or c.args.nets.now c.loop-net.net-index 0) c.put_pin.new.board.words (Ok c.in_ok-put_pin.field-0)
          c.loop-net.invariant.1.stays.signals c.in_ok-put_pin.ensures.puts)
          c.saturating_add-total.ensures,
      only_words-trans b l c.put_pin.new.board c.loop-net.invariant.1 c.put_pin.ensures.only,
      c.put_pin.ensures.lent ∙ c.loop-net.invariant.2,
    )

pub returns-in_err-put_pin-clause-puts : goal.returns-in_err-put_pin-clause-puts
returns-in_err-put_pin-clause-puts g c =
    let b = c.args.board.now in
    let l = c.loop-net.board in
    let a = get_or c.args.nets.now c.loop-net.net-index 0 in
    let path = c.in_err-put_pin.field-0.0 in
    λ r.
    let h = c.loop-net.invariant.0 r in
    let among = among_at c.args.nets.now c.loop-net.net-index (omega arith) in
    let put = put-same l.signals b.signals l.words c.args.gate a c.put_pin.new.board.words (Err path) c.loop-net.invariant.1.stays.signals c.in_err-put_pin.ensures.puts
    (placed_ready b.signals b.words.image c.args.gate c.args.nets.now (take c.loop-net.net-index c.args.nets.now) l.words.image c.loop-net.total r h.placed a among) in
    let (e, is, same) = err_from_is_err_and c.from_residual.result c.from_residual.ensures.1 in
    subst (PutsPins b.signals b.words c.args.gate c.args.nets.now c.put_pin.new.board.words) (sym (is ∙ ap Err same))
    (subst (λ n. Loop n (along path)) h.placed.netlist put.1)

pub returns : goal.returns
returns g c =
    let b = c.args.board.now in
    record {
      puts = λ r. so_far_all b.signals b.words.image c.args.gate c.args.nets.now c.loop-net.net-index c.loop-net.board.words.image c.loop-net.total (omega arith) (c.loop-net.invariant.0 r);
      only = c.loop-net.invariant.1;
      lent = c.loop-net.invariant.2;
    }
