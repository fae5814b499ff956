use Rattle.std.proofs.Common.{◌≡◌, ◌<◌, subst, rules}
use Rattle.std.specs.List.{slice_index}
use Rattle.board.specs.Board.{order_of}
use Rattle.editor.proofs.Told.{signal-told}
use Rattle.editor.proofs.editor.Editor.signal_at.Goals as goal

pub returns : goal.returns
returns g c =
    let b = c.self.inside.board in
    let told : c.args.place < c.args.self.now.signals → c.read.result ≡ slice_index (order_of c.args.self.now.signals c.args.self.now.words.image) c.args.place =
    subst (λ s. c.args.place < s.signals → c.read.result ≡ slice_index (order_of s.signals s.words.image) c.args.place) c.self.view_is
    (λ below. signal-told b.signals b.words.image c.args.place c.read.result below c.read.ensures) in
    search (rules, told)
