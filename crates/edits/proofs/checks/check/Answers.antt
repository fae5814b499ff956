use Rattle.std.proofs.Common.{◌≡◌, ℕ, Bool, Decides, subst, arith}
use Rattle.std.proofs.lemmas.Bool.Decides.{not_from_Decides}
use Rattle.words.specs.Meaning.{levels}
use Rattle.netlist.specs.declared.edit.Edit.{Edit}
use Rattle.netlist.specs.Edits.{Beyond, named, no_batch, no_signal, out_of_range, driven, wrong_kind, no_pin, in_use}
use Rattle.board.specs.Board.{netlist_of}
use Rattle.edits.proofs.Smallest.{no_less}
use Rattle.edits.proofs.checks.check.Goals as goal

-- the test of the numbers, at M
decided : (k m : ℕ) (e : Edit) (r : Bool) → k ≡ m → Decides r (Beyond k (named e)) → Decides r (Beyond m (named e))
decided k m e r same h = subst (λ n. Decides r (Beyond n (named e))) same h

pub returns-then-levels-eq0 : goal.returns-then-levels-eq0
returns-then-levels-eq0 g c = let b = c.args.board.now in record {
  same = tt;
  checks = λ few sound. (
    no_batch (omega (arith, c.levels.ensures)),
    omega arith,
    no_less b.signals (levels b.words) (netlist_of b.signals b.words.image) c.args.edit 10 (omega arith)
        (λ lt _. absurd (omega arith))
        (λ lt _. absurd (omega arith))
        (λ lt _. absurd (omega arith))
        (λ lt _. absurd (omega arith))
        (λ lt _. absurd (omega arith))
        (λ lt _. absurd (omega arith))
        (λ lt _. absurd (omega arith)),
  );
}

pub returns-then-beyond-clause-checks : goal.returns-then-beyond-clause-checks
returns-then-beyond-clause-checks g c = λ few sound. let b = c.args.board.now in (
  no_signal ((decided c.signals.result b.signals c.args.edit c.beyond.result c.signals.ensures.signals c.beyond.ensures).0 c.if-beyond.true),
  omega arith,
  no_less b.signals (levels b.words) (netlist_of b.signals b.words.image) c.args.edit 12 (omega arith)
      (λ _ z. absurd (omega (arith, c.levels.ensures)))
      (λ lt _. absurd (omega arith))
      (λ lt _. absurd (omega arith))
      (λ lt _. absurd (omega arith))
      (λ lt _. absurd (omega arith))
      (λ lt _. absurd (omega arith))
      (λ lt _. absurd (omega arith)),
)

pub returns-then-unranged-clause-checks : goal.returns-then-unranged-clause-checks
returns-then-unranged-clause-checks g c = λ few sound. let b = c.args.board.now in (
  out_of_range (c.unranged.ensures.0 c.if-unranged.true),
  omega arith,
  no_less b.signals (levels b.words) (netlist_of b.signals b.words.image) c.args.edit 13 (omega arith)
      (λ _ z. absurd (omega (arith, c.levels.ensures)))
      (λ _. not_from_Decides c.beyond.result (decided c.signals.result b.signals c.args.edit c.beyond.result c.signals.ensures.signals c.beyond.ensures) c.if-beyond.false)
      (λ lt _. absurd (omega arith))
      (λ lt _. absurd (omega arith))
      (λ lt _. absurd (omega arith))
      (λ lt _. absurd (omega arith))
      (λ lt _. absurd (omega arith)),
)

pub returns-then-driven_already-clause-checks : goal.returns-then-driven_already-clause-checks
returns-then-driven_already-clause-checks g c = λ few sound. let b = c.args.board.now in (
  driven (c.driven_already.ensures.0 c.if-driven_already.true),
  omega arith,
  no_less b.signals (levels b.words) (netlist_of b.signals b.words.image) c.args.edit 14 (omega arith)
      (λ _ z. absurd (omega (arith, c.levels.ensures)))
      (λ _. not_from_Decides c.beyond.result (decided c.signals.result b.signals c.args.edit c.beyond.result c.signals.ensures.signals c.beyond.ensures) c.if-beyond.false)
      (λ _. not_from_Decides c.unranged.result c.unranged.ensures c.if-unranged.false)
      (λ lt _. absurd (omega arith))
      (λ lt _. absurd (omega arith))
      (λ lt _. absurd (omega arith))
      (λ lt _. absurd (omega arith)),
)

pub returns-then-wrong_kind-clause-checks : goal.returns-then-wrong_kind-clause-checks
returns-then-wrong_kind-clause-checks g c = λ few sound. let b = c.args.board.now in (
  wrong_kind (c.wrong_kind.ensures.0 c.if-wrong_kind.true),
  omega arith,
  no_less b.signals (levels b.words) (netlist_of b.signals b.words.image) c.args.edit 15 (omega arith)
      (λ _ z. absurd (omega (arith, c.levels.ensures)))
      (λ _. not_from_Decides c.beyond.result (decided c.signals.result b.signals c.args.edit c.beyond.result c.signals.ensures.signals c.beyond.ensures) c.if-beyond.false)
      (λ _. not_from_Decides c.unranged.result c.unranged.ensures c.if-unranged.false)
      (λ _. not_from_Decides c.driven_already.result c.driven_already.ensures c.if-driven_already.false)
      (λ lt _. absurd (omega arith))
      (λ lt _. absurd (omega arith))
      (λ lt _. absurd (omega arith)),
)

pub returns-then-pin_beyond-clause-checks : goal.returns-then-pin_beyond-clause-checks
returns-then-pin_beyond-clause-checks g c = λ few sound. let b = c.args.board.now in (
  no_pin ((c.pin_beyond.ensures.beyond sound).0 c.if-pin_beyond.true),
  omega arith,
  no_less b.signals (levels b.words) (netlist_of b.signals b.words.image) c.args.edit 16 (omega arith)
      (λ _ z. absurd (omega (arith, c.levels.ensures)))
      (λ _. not_from_Decides c.beyond.result (decided c.signals.result b.signals c.args.edit c.beyond.result c.signals.ensures.signals c.beyond.ensures) c.if-beyond.false)
      (λ _. not_from_Decides c.unranged.result c.unranged.ensures c.if-unranged.false)
      (λ _. not_from_Decides c.driven_already.result c.driven_already.ensures c.if-driven_already.false)
      (λ _. not_from_Decides c.wrong_kind.result c.wrong_kind.ensures c.if-wrong_kind.false)
      (λ lt _. absurd (omega arith))
      (λ lt _. absurd (omega arith)),
)

pub returns-then-still_used-clause-checks : goal.returns-then-still_used-clause-checks
returns-then-still_used-clause-checks g c = λ few sound. let b = c.args.board.now in (
  in_use ((c.still_used.ensures sound).0 c.if-still_used.true),
  omega arith,
  no_less b.signals (levels b.words) (netlist_of b.signals b.words.image) c.args.edit 19 (omega arith)
      (λ _ z. absurd (omega (arith, c.levels.ensures)))
      (λ _. not_from_Decides c.beyond.result (decided c.signals.result b.signals c.args.edit c.beyond.result c.signals.ensures.signals c.beyond.ensures) c.if-beyond.false)
      (λ _. not_from_Decides c.unranged.result c.unranged.ensures c.if-unranged.false)
      (λ _. not_from_Decides c.driven_already.result c.driven_already.ensures c.if-driven_already.false)
      (λ _. not_from_Decides c.wrong_kind.result c.wrong_kind.ensures c.if-wrong_kind.false)
      (λ _. not_from_Decides c.pin_beyond.result (c.pin_beyond.ensures.beyond sound) c.if-pin_beyond.false)
      (λ lt _. absurd (omega arith)),
)

pub returns-clause-checks : goal.returns-clause-checks
returns-clause-checks g c = λ few sound. let b = c.args.board.now in
    no_less b.signals (levels b.words) (netlist_of b.signals b.words.image) c.args.edit 25 (omega arith)
    (λ _ z. absurd (omega (arith, c.levels.ensures)))
    (λ _. not_from_Decides c.beyond.result (decided c.signals.result b.signals c.args.edit c.beyond.result c.signals.ensures.signals c.beyond.ensures) c.if-beyond.false)
    (λ _. not_from_Decides c.unranged.result c.unranged.ensures c.if-unranged.false)
    (λ _. not_from_Decides c.driven_already.result c.driven_already.ensures c.if-driven_already.false)
    (λ _. not_from_Decides c.wrong_kind.result c.wrong_kind.ensures c.if-wrong_kind.false)
    (λ _. not_from_Decides c.pin_beyond.result (c.pin_beyond.ensures.beyond sound) c.if-pin_beyond.false)
    (λ _. not_from_Decides c.still_used.result (c.still_used.ensures sound) c.if-still_used.false)
