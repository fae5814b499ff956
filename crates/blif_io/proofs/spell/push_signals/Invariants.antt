use Rattle.std.proofs.Common.{◌≡◌, ◌++◌, drop, map}
use Rattle.blif.specs.Description.{name_of}
use Rattle.blif.specs.Written.{spelled_names}
use Rattle.blif_io.proofs.spell.push_signals.Given as goal

abbrev pub invariant-loop-signal : goal.invariant-loop-signal
invariant-loop-signal l =
    l.out.items ++ spelled_names (map (name_of l.names.signals) (drop l.signal-index l.signals)) ≡ l.initial.out.items ++ spelled_names (map (name_of l.names.signals) l.signals)
