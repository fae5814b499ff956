-- Words that are written over a host's are those that a store gives back.
use Rattle.std.proofs.Common.{◌≡◌, ◌∙◌, ap, ℕ, List, ◌++◌, length, take, drop}
use Rattle.std.specs.Vec.{with_items}
use Rattle.memory.specs.Room.{Host}
use Rattle.memory.specs.Lending.{returned}
use Rattle.memory.specs.contracts.Memory.{the_view}
use Rattle.memory.specs.declared.Memory.TheInside.{Inside}

pub view-returned : (inside : Inside) (host : Host) (ws : List ℕ) → the_view inside ≡ host → the_view (record { words = with_items inside.words ws; size = inside.size; limit = inside.limit }) ≡ returned host ws
view-returned inside host ws is =
    ap (λ (long : ℕ). record { words = take long (ws ++ drop (length ws) inside.words.items); size = inside.size; limit = inside.limit }) inside.words.ok.0
    ∙ ap (λ (h : Host). returned h ws) is
