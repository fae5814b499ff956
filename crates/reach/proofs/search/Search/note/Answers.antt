use Rattle.reach.specs.Listed.{listed}
use Rattle.reach.proofs.Standing.{not_new, hear_known, has_room, noted, unmet_push}
use Rattle.reach.proofs.search.Search.note.Goals as goal

pub returns-then-not-mark-clause-heard : goal.returns-then-not-mark-clause-heard
returns-then-not-mark-clause-heard c =
    hear_known _ c.args.number _ (not_new _ (listed c.args.self.now.queue) c.requires.kept.stand c.args.number c.if-not-mark.ensures.0)

pub push-requires-clause-room : goal.push-requires-clause-room
push-requires-clause-room c = let free = c.if-not-mark.ensures in has_room _ _ c.requires.kept.stand c.args.number free.0 free.1

pub returns-then-eq-clause-heard : goal.returns-then-eq-clause-heard
returns-then-eq-clause-heard c =
    let free = c.if-not-mark.ensures in (noted _ _ c.requires.kept.stand c.args.number free.0 free.1 _ _ _ free.2 c.push.ensures).1

pub returns-then-eq-clause-stand : goal.returns-then-eq-clause-stand
returns-then-eq-clause-stand c =
    let free = c.if-not-mark.ensures in (noted _ _ c.requires.kept.stand c.args.number free.0 free.1 _ _ _ free.2 c.push.ensures).0

pub returns-else-eq-clause-heard : goal.returns-else-eq-clause-heard
returns-else-eq-clause-heard c =
    let free = c.if-not-mark.ensures in (noted _ _ c.requires.kept.stand c.args.number free.0 free.1 _ _ _ free.2 c.push.ensures).1

pub returns-else-eq-clause-stand : goal.returns-else-eq-clause-stand
returns-else-eq-clause-stand c =
    let free = c.if-not-mark.ensures in (noted _ _ c.requires.kept.stand c.args.number free.0 free.1 _ _ _ free.2 c.push.ensures).0

pub returns-else-eq-clause-sought : goal.returns-else-eq-clause-sought
returns-else-eq-clause-sought c = unmet_push c.args.sought _ c.args.number _ _ c.push.ensures c.if-eq.ensures c.requires.kept.unmet
