-- The numbers of a slice of bytes are bytes.
-- Serves: canonical_text
use Rattle.std.proofs.Common.{◌<◌, ℕ, suc, List, [], ◌∷◌, get_or}
use Rattle.pegread.specs.Formed.{AreBytes}

pub are-bytes : (xs : List ℕ) → ((i : ℕ) → get_or xs i 0 < 256) → AreBytes xs
are-bytes [] h = tt
are-bytes (x ∷ xs) h = (h 0, are-bytes xs (λ i. h (suc i)))
