-- What can stand after tokens, as far as their kinds and marks say: the reader's machine without what it makes.
use Rattle.std.specs.Prelude.{Bool, true, false, ◌&&◌, not, Option, Some, None, List, [], ◌∷◌}
use Rattle.abnfread.specs.declared.kind.AbnfKind.{AbnfKind}
use Rattle.abnfread.specs.declared.kind.AbnfKind.TheVariants.{Name, Is, Adds, Slash, LParen, RParen, LBrack, RBrack}
use Rattle.abnfread.specs.declared.kind.AbnfKind.TheVariants.{Repeat, Text, Num, Prose, Bad, End}
use Rattle.abnfexplain.specs.declared.abnf_stand.OpenBracket.{OpenBracket}
use Rattle.abnfexplain.specs.declared.abnf_stand.OpenBracket.TheVariants.{Paren, Brack}
use Rattle.abnfexplain.specs.declared.abnf_stand.Form.{Form}
use Rattle.abnfexplain.specs.declared.abnf_stand.Stand.{Stand}
use Rattle.abnfexplain.specs.declared.abnf_stand.Stand.TheVariants.{Start, Named, Fresh, Awaits, Read, Done}

-- whether it begins an element
abbrev pub is_inner : AbnfKind → Bool
is_inner Name = true
is_inner Text = true
is_inner Num = true
is_inner Prose = true
is_inner LParen = true
is_inner LBrack = true
is_inner _ = false

-- whether it begins a repetition
abbrev pub is_item : AbnfKind → Bool
is_item Repeat = true
is_item k = is_inner k

abbrev pub is_name : AbnfKind → Bool
is_name Name = true
is_name _ = false

abbrev pub is_paren : Option OpenBracket → Bool
is_paren (Some Paren) = true
is_paren _ = false

abbrev pub is_brack : Option OpenBracket → Bool
is_brack (Some Brack) = true
is_brack _ = false

abbrev pub is_outside : Option OpenBracket → Bool
is_outside None = true
is_outside (Some b) = false

-- after a repetition, where `top` is the innermost bracket that is open
abbrev pub allows_read : Option OpenBracket → AbnfKind → Bool → Bool
allows_read top Slash gap = true
allows_read top RParen gap = is_paren top
allows_read top RBrack gap = is_brack top
allows_read top End gap = is_outside top
allows_read top k gap = gap && is_item k

abbrev pub defines : AbnfKind → Bool
defines Is = true
defines Adds = true
defines _ = false

-- a token that is the first of no line that begins a rule
abbrev pub allows_later : Stand → Option OpenBracket → AbnfKind → Bool → Bool
allows_later Named top k gap = defines k
allows_later Fresh top k gap = is_item k
allows_later Awaits top k gap = not gap && is_inner k
allows_later Read top k gap = allows_read top k gap
allows_later _ top k gap = false

-- and one that is
abbrev pub allows_first : Stand → Option OpenBracket → AbnfKind → Bool
allows_first Start top k = is_name k
allows_first Read top k = is_outside top && is_name k
allows_first _ top k = false

abbrev pub allows_marked : Stand → Option OpenBracket → AbnfKind → Bool → Bool → Bool
allows_marked s top k gap true = allows_first s top k
allows_marked s top k gap false = allows_later s top k gap

-- whether such a token can stand there
abbrev pub allows : Stand → Option OpenBracket → Form → Bool
allows s top form = allows_marked s top form.kind form.gap form.first

abbrev pub after_later : AbnfKind → Stand
after_later Is = Fresh
after_later Adds = Fresh
after_later Slash = Fresh
after_later LParen = Fresh
after_later LBrack = Fresh
after_later Repeat = Awaits
after_later End = Done
after_later Bad = Done
after_later _ = Read

abbrev pub after_marked : AbnfKind → Bool → Stand
after_marked k true = Named
after_marked k false = after_later k

-- where the next token stands, after one that can stand
abbrev pub next_stand : Form → Stand
next_stand form = after_marked form.kind form.first

abbrev pub without_first : List OpenBracket → List OpenBracket
without_first [] = []
without_first (b ∷ bs) = bs

-- the brackets that are open after it, the innermost first
abbrev pub brackets_after : AbnfKind → List OpenBracket → List OpenBracket
brackets_after LParen bs = Paren ∷ bs
brackets_after LBrack bs = Brack ∷ bs
brackets_after RParen bs = without_first bs
brackets_after RBrack bs = without_first bs
brackets_after k bs = bs

abbrev pub innermost : List OpenBracket → Option OpenBracket
innermost [] = None
innermost (b ∷ bs) = Some b
