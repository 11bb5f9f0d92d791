-- Usual mistakes in a grammar's text: what the token that decides shows, if it is no token of peg(1).
use Prim.Native.Char.{code}
use Rattle.std.specs.Prelude.{ℕ, ◌==◌, ◌&&◌, Bool, false, List, [], ◌∷◌, ◌++◌, drop, codes, if◌then◌else◌}
use Rattle.std.specs.List.{list_any}
use Rattle.std.specs.Option.{option_map_or}
use Rattle.diagnostics.specs.CodePoints.{in_utf16, point_rows, quote_rows}
use Rattle.diagnostics.specs.FirstBytes.{Row, row, fact_line, first_fact, first_reported}
use Rattle.pegread.specs.declared.kind.Kind.TheVariants.{Bad, Ident}
use Rattle.lexer.specs.TokenLists.{tok}
use Rattle.pegread.specs.Slices.{starts_name}
use Rattle.pegread.specs.Tokens.{Tok}

-- the token is a name that ends at an offset of the text
abbrev pub names_to : ℕ → Tok → Bool
names_to n (tok Ident z p) = p.end == n
names_to n (tok _ z p) = false

-- bytes that begin with ":" and a byte that begins a name
abbrev pub begins_label : List ℕ → Bool
begins_label (c ∷ b ∷ bs) = (c == code ":") && starts_name b
begins_label _ = false

-- `name:element` of leg(1): the bytes begin so, and a name that is not the text's first token ends right before them
abbrev pub is_label : List Tok → ℕ → List ℕ → Bool
is_label all start z = begins_label z && list_any (names_to start) (drop 1 all)

-- first bytes that leg(1) has and peg(1) has not
abbrev pub leg_rows : List Row
leg_rows =
    row (codes "%{") (codes "\"%{\", \"%}\", \"%%\" are of leg(1)")
    ∷ row (codes "%}") (codes "\"%{\", \"%}\", \"%%\" are of leg(1)")
    ∷ row (codes "%%") (codes "\"%{\", \"%}\", \"%%\" are of leg(1)")
    ∷ row (codes "@") (codes "\"@{ .. }\" is of leg(1)")
    ∷ row (codes ";") (codes "\";\" is of leg(1): leave it out")
    ∷ row (codes "=") (codes "a rule is defined by \"<-\": \"=\" is of leg(1)") ∷ []

-- first bytes of tokens without an end, and of other notations
abbrev pub other_rows : List Row
other_rows =
    row (codes "'") (codes "the literal has no closing quote")
    ∷ row (codes "\"") (codes "the literal has no closing quote")
    ∷ row (codes "[") (codes "the class has no closing \"]\"")
    ∷ row (codes "{") (codes "the action has no closing \"}\"")
    ∷ row (0xE2 ∷ 0x86 ∷ 0x90 ∷ []) (codes "a rule is defined by \"<-\"")
    ∷ row (codes ":") (codes "a rule is defined by \"<-\"")
    ∷ row (codes "|") (codes "alternatives have \"/\" between them")
    ∷ row (codes "-") (codes "names hold letters, digits and \"_\"") ∷ []

-- what the first bytes of what begins no token show
abbrev pub bad_rows : List Row
bad_rows = quote_rows (codes "literals stand in ' or \"") ++ (leg_rows ++ other_rows)

-- The line of the first mistake that a text with these tokens shows, or nothing, if bytes that begin no token decide.
abbrev pub bad_reported : List ℕ → List Tok → ℕ → List ℕ → List ℕ
bad_reported text all start z =
    if in_utf16 text then fact_line (codes "the text is UTF-16, not UTF-8")
    else if is_label all start z then fact_line (codes "\"name:element\" is of leg(1)")
    else option_map_or fact_line (first_fact point_rows z) (first_reported bad_rows z)

-- the same of the token that decides
abbrev pub mistake_reported : List ℕ → List Tok → Tok → List ℕ
mistake_reported text all (tok Bad z p) = bad_reported text all p.start z
mistake_reported text all (tok _ z p) = []
