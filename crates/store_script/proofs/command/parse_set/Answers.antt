use Rattle.std.proofs.Common.{◌+◌, sym, ◌∙◌, subst}
use Rattle.std.proofs.lemmas.List.{take_rest}
use Rattle.std.proofs.lemmas.Option.{none-some}
use Rattle.store_script.specs.Commands.{Decimal}
use Rattle.store_script.proofs.Reading.{blank_is, first_is, second_is, operands}
use Rattle.store_script.proofs.command.parse_set.Goals as goal

pub returns-in_err-blank : goal.returns-in_err-blank
returns-in_err-blank c = rw c.from_residual.ensures (λ at word said. none-some _ (c.in_err-blank.ensures ∙ blank_is c.args.text.now at word said))

pub returns-in_err-at : goal.returns-in_err-at
returns-in_err-at c =
    rw c.from_residual-in_err-at.ensures
    (λ at word said. c.in_err-at.ensures at (subst (λ xs. Decimal xs at) (sym (first_is c.args.text.now at word said c.in_ok-blank.blank (sym c.in_ok-blank.ensures))) said.number))

pub returns-in_err-word : goal.returns-in_err-word
returns-in_err-word c =
    rw c.from_residual-in_err-word.ensures
    (λ at word said.
    c.in_err-word.ensures word
    (subst (λ xs. Decimal xs word) (sym (take_rest c.args.text.now (c.in_ok-blank.blank + 1) ∙ second_is c.args.text.now at word said c.in_ok-blank.blank (sym c.in_ok-blank.ensures))) said.value))

pub returns : goal.returns
returns c =
    operands c.args.text.now c.in_ok-blank.blank c.in_ok-at.at c.in_ok-word.word (sym c.in_ok-blank.ensures) c.in_ok-at.ensures
    (subst (λ xs. Decimal xs c.in_ok-word.word) (take_rest c.args.text.now (c.in_ok-blank.blank + 1)) c.in_ok-word.ensures)
