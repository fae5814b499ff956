use Rattle.std.proofs.Common.{◌∷◌, take}
use Rattle.std.specs.Fmt.{HasWritten, IsPlainFormatter}
use Rattle.std.specs.List.{flat_map}
use Rattle.text.specs.Printed.{bytes_text}
use Rattle.blif.specs.Description.{name_of}
use Rattle.netedit.proofs.report.LoopDisplay.fmt.Given as goal

abbrev pub invariant-loop-signal : goal.invariant-loop-signal
invariant-loop-signal g l =
    IsPlainFormatter l.initial.f → HasWritten g.W.Write.write_str_gives l.initial.f (flat_map (λ s. 44 ∷ bytes_text (name_of l.self.names.now.signals s)) (take l.signal-index l.signal-items)) l.f
