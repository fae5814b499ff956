use Rattle.std.proofs.Common.{◌≡◌, [], ◌+◌, ◌≤◌, ◌++◌, Ok, Err, Result, length, sym, ap, ◌∙◌, subst, arith, rules}
use Rattle.std.specs.List.{refill}
use Rattle.std.specs.Result.{IsOk, OnOk}
use Rattle.netlist.specs.Netlist.{Loop}
use Rattle.editor.proofs.Rotation.{refilled_whole, shows_loop, turned}
use Rattle.editor.proofs.shown.Shown.show.Goals as goal

given : {T E P : Type 0} (r : Result T E) → OnOk r P → IsOk r → P
given (Ok x) h ok = h
given (Err e) h ok = search (rules, ok)

pub returns : goal.returns
returns c = λ n loop.
    let xs = c.numbers-numbers.result.now in
    let k = c.smallest_at-from.result in
    let none : c.self.inside.numbers.items ≡ [] = c.self.view_is ∙ c.clear.ensures in
    let fit : length c.self.inside.numbers.items + length xs ≤ 1024 = omega (arith, ap length none, c.numbers-numbers.ensures.few) in
    let all : c.try_extend_from_slice.new.self.items ≡ xs = given c.try_extend_from_slice.result c.try_extend_from_slice.ensures.ok (c.try_extend_from_slice.ensures.variant.1 fit) ∙ ap (λ l. l ++ xs) none in
    let whole = c.rotate_left.ensures.after ∙ ap (turned k) (c.as_mut_slice.ensures.value ∙ all) in
    let is : refill (length c.try_extend_from_slice.new.self.items) c.try_extend_from_slice.new.self.items c.rotate_left.new.self ≡ turned k xs =
    refilled_whole c.try_extend_from_slice.new.self.items c.rotate_left.new.self (c.rotate_left.ensures.len ∙ ap length c.as_mut_slice.ensures.value) ∙ whole in
    shows_loop n k xs _ c.smallest_at-from.ensures.one c.smallest_at-from.ensures.least is
    (subst (Loop n) (sym c.numbers-numbers.ensures.numbers) loop)
