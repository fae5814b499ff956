use Rattle.std.proofs.Common.{sym, ◌∙◌}
use Rattle.board.proofs.Writes.{stays-trans}
use Rattle.editor.proofs.Emptied.{refused_drop}
use Rattle.editor.proofs.batch.drop_all.Goals as goal

pub returns : goal.returns
returns g c = record {
  empties = refused_drop c.loop.board.words c.drop_level.new.self.words c.args.board.now.words c.drop_level.result
      (sym c.is_ok.ensures.value ∙ c.loop-test.false) c.drop_level.ensures.drops c.loop.invariant.0;
  stays = stays-trans c.args.board.now c.loop.board c.drop_level.new.self c.loop.invariant.1 c.drop_level.ensures.stays;
}
