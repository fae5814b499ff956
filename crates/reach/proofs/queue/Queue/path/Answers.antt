use Rattle.std.proofs.Common.{◌≡◌, [], ◌∷◌, ◌++◌, ◌<◌, length, get_or, None, rules, arith, append_assoc, sym, ap, ◌∙◌}
use Rattle.reach.specs.declared.queue.Found.{Found}
use Rattle.reach.specs.Listed.{listed, told_by}
use Rattle.reach.proofs.Listed.{listing, length-trails, trail_told, left_told}
use Rattle.reach.proofs.queue.Queue.path.Goals as goal

pub loop-next-preserved : goal.loop-next-preserved
loop-next-preserved c =
    let found = c.args.self.now.found.items in
    let within : c.in-Some.at < length (listed c.args.self.now) = search (rules, listing) in
    let lt : c.in-Some.at < length found = omega (arith, within, length-trails found) in
    let none : Found = record { number = 0; teller = None } in
    let earlier = c.args.self.now.earlier c.in-Some.at none lt in
    let same : c.deref-found.result.now ≡ found = search rules in
    let held = get_or c.deref-found.result.now c.in-Some.at none in
    let told : get_or (listed c.args.self.now) c.in-Some.at [] ≡ held.number ∷ told_by held.teller (listed c.args.self.now) =
    rw same (trail_told found c.in-Some.at none lt earlier) in
    let fewer = left_told _ _ earlier in
    let walked = c.loop-next.numbers.items in
    let rest = told_by held.teller (listed c.args.self.now) in
    record {
      joins = ap (λ xs. xs ++ rest) c.push.ensures.items ∙ append_assoc walked (held.number ∷ []) rest ∙ ap (λ xs. walked ++ xs) (sym told)
          ∙ ap (λ next. walked ++ told_by next (listed c.args.self.now)) (sym c.in-Some.is) ∙ c.loop-next.invariant.joins;
      room = search (rules, fewer);
    }
