-- The canonical text of a grammar in ABNF (RFC 5234, section 4; RFC 7405).
use Prim.Native.Char.{code}
use Rattle.std.specs.Prelude.{ℕ, ◌==◌, nat_lt, cond, codes, Bool, true, false, List, [], ◌∷◌, ◌++◌, map, decimal}
use Rattle.std.specs.Prelude.{Option, Some, None}
use Rattle.std.specs.Fmt.{digit_glyph}
use Rattle.std.specs.Int.Digits.{digits_of}
use Rattle.std.specs.List.{flat_map}
use Rattle.abnfread.specs.Element.{Element, Elements, Text, Values, Range, Concat, Alt, Rep, Opt, Name, Prose, none}
use Rattle.abnfread.specs.Element.{more, Rule}
use Rattle.abnfprint.specs.declared.position.Context.{Context}
use Rattle.abnfprint.specs.declared.position.Context.TheVariants.{Alternative, Member, Repeated}

-- how tightly an element holds together
abbrev pub rank : Element → ℕ
rank (Alt xs) = 0
rank (Concat xs) = 1
rank (Rep a b x) = 2
rank x = 3

-- how tightly it must hold together to stand there without parentheses
abbrev pub least : Context → ℕ
least Alternative = 1
least Member = 2
least Repeated = 3

-- whether parentheses stand round the element there
abbrev pub wraps : Context → Element → Bool
wraps p x = nat_lt (rank x) (least p)

-- a text, in parentheses or not
abbrev pub around : Bool → List ℕ → List ℕ
around true s = code "(" ∷ (s ++ code ")" ∷ [])
around false s = s

-- upper-case hexadecimal digits without leading zeros, and none for 0
abbrev pub upper_digits : ℕ → List ℕ
upper_digits v = map (λ d. digit_glyph true d) (digits_of 16 v)

-- a value in upper-case hexadecimal digits, at least two
abbrev pub hexadecimal : ℕ → List ℕ
hexadecimal v = cond (nat_lt v 16) (code "0" ∷ digit_glyph true v ∷ []) (upper_digits v)

-- further values, each after a dot
abbrev pub dotted : List ℕ → List ℕ
dotted vs = flat_map (λ v. code "." ∷ hexadecimal v) vs

-- values with dots between
abbrev pub values_text : List ℕ → List ℕ
values_text [] = []
values_text (v ∷ vs) = hexadecimal v ++ dotted vs

-- a number before the star, but for 0
abbrev pub least_text : ℕ → List ℕ
least_text a = cond (a == 0) [] (decimal a)

-- one number if both are the same, else each on its side of the star
abbrev pub repeat_text : ℕ → Option ℕ → List ℕ
repeat_text a None = least_text a ++ codes "*"
repeat_text a (Some b) = cond (a == b) (decimal a) (least_text a ++ code "*" ∷ decimal b)

abbrev pub quoted : List ℕ → List ℕ
quoted t = code "\"" ∷ (t ++ code "\"" ∷ [])

abbrev mutual
  -- the text of an element as a rule's body, where it needs no parentheses
  pub text_of : Element → List ℕ
  text_of (Text true t) = quoted t
  text_of (Text false t) = code "%" ∷ code "s" ∷ quoted t
  text_of (Values vs) = code "%" ∷ code "x" ∷ values_text vs
  text_of (Range a b) = code "%" ∷ code "x" ∷ (hexadecimal a ++ code "-" ∷ hexadecimal b)
  text_of (Concat xs) = joined Member (codes " ") xs
  text_of (Alt xs) = joined Alternative (codes " / ") xs
  text_of (Rep a b x) = repeat_text a b ++ around (wraps Repeated x) (text_of x)
  text_of (Opt x) = code "[" ∷ (text_of x ++ code "]" ∷ [])
  text_of (Name n) = n
  text_of (Prose t) = code "<" ∷ (t ++ code ">" ∷ [])

  -- members or alternatives, with a mark between each two
  pub joined : Context → List ℕ → Elements → List ℕ
  joined p mark none = []
  joined p mark (more x xs) = around (wraps p x) (text_of x) ++ more_joined p mark xs

  -- with one before each
  pub more_joined : Context → List ℕ → Elements → List ℕ
  more_joined p mark none = []
  more_joined p mark (more x xs) = mark ++ (around (wraps p x) (text_of x) ++ more_joined p mark xs)

-- a definition: the name, ` = `, the body and LF
abbrev pub definition_text : List ℕ → Element → List ℕ
definition_text n x = n ++ (codes " = " ++ (text_of x ++ code "\n" ∷ []))

abbrev pub rule_text : Rule → List ℕ
rule_text rule = definition_text rule.name rule.body

-- the text of the rules, in order
abbrev pub grammar_text : List Rule → List ℕ
grammar_text rules = flat_map rule_text rules
