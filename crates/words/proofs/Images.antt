-- The image that is the front of a memory.
use Rattle.std.proofs.Common.{◌≡◌}
use Rattle.words.specs.Meaning.{Meaning}

pub same_meaning : {m m' : Meaning} → m.limit ≡ m'.limit → m.image ≡ m'.image → m.saved ≡ m'.saved → m ≡ m'
same_meaning p q r = λ i. record { limit = p i; image = q i; saved = r i }
