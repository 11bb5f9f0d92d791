-- What can stand after tokens, as far as their kinds say: the reader's machine without what it makes.
use Rattle.std.specs.Prelude.{ℕ, zero, suc, Bool, true, false, Option, Some, None, is_some}
use Rattle.pegread.specs.declared.kind.Kind.{Kind}
use Rattle.pegread.specs.declared.kind.Kind.TheVariants.{Ident, Arrow, Begin, EndCap, Slash, Amp, Bang, Quest, Star}
use Rattle.pegread.specs.declared.kind.Kind.TheVariants.{Plus, Dot, LParen, RParen, Literal, Class, Action, End}
use Rattle.pegread.specs.Machine.{Config, start, named, body, done, no_mark, not_mark, and_mark, fresh}
use Rattle.pegread.specs.Machine.{read, read_name, levels_in}
use Rattle.pegprint.specs.declared.faults.stand.Stand.{Stand}
use Rattle.pegprint.specs.declared.faults.stand.Stand.TheVariants.{Start, Named, Fresh, Not, And, Primary, Name}
use Rattle.pegprint.specs.declared.faults.stand.Stand.TheVariants.{PrefixedName, Done}
use Rattle.pegprint.specs.declared.faults.stand.Position.{Position}

-- where the machine's configuration stands
abbrev pub stand_of : Config → Stand
stand_of start = Start
stand_of (named n p) = Named
stand_of (body h o bs es no_mark fresh) = Fresh
stand_of (body h o bs es not_mark fresh) = Not
stand_of (body h o bs es and_mark fresh) = And
stand_of (body h o bs es m (read x)) = Primary
stand_of (body h o bs es no_mark (read_name n p)) = Name
stand_of (body h o bs es _ (read_name n p)) = PrefixedName
stand_of (done rules) = Done

abbrev pub position_at : Stand → ℕ → Position
position_at s n = record { stand = s; depth = n }

abbrev pub position_of : Config → Position
position_of c = position_at (stand_of c) (levels_in c)

-- after a closing bracket, where n are open
abbrev pub closed : ℕ → Option Position
closed zero = None
closed (suc n) = Some (position_at Primary n)

-- after the end
abbrev pub ended : ℕ → Option Position
ended zero = Some (position_at Done 0)
ended (suc n) = None

-- after a definition's arrow
abbrev pub begun : ℕ → Option Position
begun zero = Some (position_at Fresh 0)
begun (suc n) = None

-- after a primary that is neither a name nor an action
abbrev pub primary : ℕ → Kind → Option Position
primary n Literal = Some (position_at Primary n)
primary n Class = Some (position_at Primary n)
primary n Dot = Some (position_at Primary n)
primary n Begin = Some (position_at Primary n)
primary n EndCap = Some (position_at Primary n)
primary n LParen = Some (position_at Fresh (suc n))
primary n _ = None

-- where no prefix waits
abbrev pub unmarked : ℕ → Kind → Option Position
unmarked n Ident = Some (position_at Name n)
unmarked n Action = Some (position_at Primary n)
unmarked n Bang = Some (position_at Not n)
unmarked n Amp = Some (position_at And n)
unmarked n Slash = Some (position_at Fresh n)
unmarked n RParen = closed n
unmarked n End = ended n
unmarked n k = primary n k

-- where a prefix waits, which an action may follow or not
abbrev pub prefixed : ℕ → Kind → Bool → Option Position
prefixed n Ident acts = Some (position_at PrefixedName n)
prefixed n Action true = Some (position_at Primary n)
prefixed n Action false = None
prefixed n k acts = primary n k

-- after a primary
abbrev pub after_primary : ℕ → Kind → Option Position
after_primary n Quest = Some (position_at Fresh n)
after_primary n Star = Some (position_at Fresh n)
after_primary n Plus = Some (position_at Fresh n)
after_primary n k = unmarked n k

-- the position after a token of the kind, where n brackets are open
abbrev pub goes : Stand → ℕ → Kind → Option Position
goes Start n Ident = Some (position_at Named n)
goes Start n _ = None
goes Named n Arrow = Some (position_at Fresh n)
goes Named n _ = None
goes Fresh n k = unmarked n k
goes Not n k = prefixed n k true
goes And n k = prefixed n k false
goes Primary n k = after_primary n k
goes Name n Arrow = begun n
goes Name n k = after_primary n k
goes PrefixedName n k = after_primary n k
goes Done n k = None

-- whether a token of the kind can stand there
abbrev pub allows : Position → Kind → Bool
allows p k = is_some (goes p.stand p.depth k)
