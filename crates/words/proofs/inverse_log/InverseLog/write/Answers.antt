use Rattle.std.proofs.Common.{refl}
use Rattle.std.proofs.lemmas.List.{drop-set-lt}
use Rattle.words.proofs.Logs.{lent_rest}
use Rattle.words.proofs.inverse_log.InverseLog.write.Goals as goal

pub returns-clause-stays : goal.returns-clause-stays
returns-clause-stays c =
    let log = c.args.self.now in
    record {
      shape = refl;
      depth = refl;
      lent =
          lent_rest _ _ log.words.now _ log.shape.size log.shape.limit refl (drop-set-lt log.shape.size log.words.now c.args.at _ c.requires);
    }
