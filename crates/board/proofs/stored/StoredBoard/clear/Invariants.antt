use Rattle.std.proofs.Common.{◌≡◌, ℕ, ◌<◌, length}
use Rattle.board.specs.Layout.{word}
use Rattle.board.specs.Stored.{OnlyWords}
use Rattle.board.proofs.stored.StoredBoard.clear.Given as goal

abbrev pub invariant-loop-at : goal.invariant-loop-at
invariant-loop-at g l =
    OnlyWords l.initial.self l.self × (length l.self.words.image ≡ length l.initial.self.words.image) × ((k : ℕ) → k < l.at → word l.self.words.image k ≡ 0)
