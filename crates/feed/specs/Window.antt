-- What a feed ends as once its window has been lent.
use Rattle.std.specs.Prelude.{ℕ, List, [], length}
use Rattle.std.specs.List.{refill}
use Rattle.std.specs.Borrow.{Fml, RattleType, MutBor, Array, Lends, u8}
use Rattle.circular_buffer.specs.Buffer.{buffer}
use mir.Syntax.{named}
use Rattle.feed.specs.Feed.{bytes_of, capacity_of}
use Rattle.feed.specs.declared.feed.Feed.{Feed}
use Rattle.feed.specs.contracts.feed.Feed.{the_row}

-- the bytes are the last ones written through r
abbrev pub LendsWindow : (R : RattleType) → MutBor (Feed R.Denot) → MutBor (List ℕ) → Fml
LendsWindow R f r = Lends (the_row (record { mir = named 1; lft = [] }) R) (Array u8 0) f r
    (λ ws. record f.now { ring = buffer (refill (length (bytes_of f.now)) (bytes_of f.now) ws) (capacity_of f.now) })
