-- The canonical text, on examples whose texts are known.
use Rattle.std.proofs.Common.{◌≡◌, true, false, Some, None, [], ◌∷◌, refl, codes}
use Rattle.std.specs.Fmt.{digits}
use Rattle.abnfread.specs.Element.{Element, Elements, Text, Values, Range, Concat, Alt, Rep, Opt, Name, Prose, none}
use Rattle.abnfread.specs.Element.{more}
use Rattle.abnfprint.specs.CanonicalAbnf.{text_of, definition_text}

abbrev a : Element
a = Text true (codes "a")

abbrev b : Element
b = Text true (codes "b")

abbrev x : Element
x = Name (codes "x")

abbrev two : Element → Element → Elements
two e f = more e (more f none)

from-nothing : text_of (Concat (two (Rep 0 (Some 5) (Values (13 ∷ []))) (Opt a))) ≡ codes "*5%x0D [\"a\"]"
unfolding digits
from-nothing = refl

exactly-once : text_of (Rep 1 (Some 1) (Concat (two a b))) ≡ codes "1(\"a\" \"b\")"
unfolding digits
exactly-once = refl

nested-alternatives : text_of (Alt (two (Text true (codes "X")) (Alt (two (Text true (codes "y")) (Text true
    (codes "z"))))))
    ≡ codes "\"X\" / (\"y\" / \"z\")"
nested-alternatives = refl

repeated-twice : text_of (Rep 2 (Some 2) (Rep 0 None x)) ≡ codes "2(*x)"
unfolding digits
repeated-twice = refl

three-digits : text_of (Values (256 ∷ [])) ≡ codes "%x100"
three-digits = refl

listed-values : text_of (Values (65 ∷ 0 ∷ 511 ∷ [])) ≡ codes "%x41.00.1FF"
listed-values = refl

value-range : text_of (Range 48 57) ≡ codes "%x30-39"
value-range = refl

repeats-bounds : text_of (Concat (more (Rep 2 None x) (more (Rep 2 (Some 10) x) (two (Rep 0 (Some 0) x)
    (Rep 0 None x)))))
    ≡ codes "2*x 2*10x 0x *x"
unfolding digits
repeats-bounds = refl

by-case : text_of (Rep 3 (Some 4) (Text false (codes "a B"))) ≡ codes "3*4%s\"a B\""
unfolding digits
by-case = refl

within-option : text_of (Opt (Alt (two (Concat (two a (Alt (two b x)))) (Opt x)))) ≡ codes "[\"a\" (\"b\" / x) / [x]]"
within-option = refl

sequence-member : text_of (Concat (two (Concat (two a b)) (Prose (codes "any octet"))))
    ≡ codes "(\"a\" \"b\") <any octet>"
sequence-member = refl

choice-repeated : text_of (Rep 1 None (Alt (two (Concat (two a b)) (Rep 2 (Some 2) x)))) ≡ codes "1*(\"a\" \"b\" / 2x)"
unfolding digits
choice-repeated = refl

rule-line : definition_text (codes "s") (Rep 0 None (Opt x)) ≡ codes "s = *[x]\n"
rule-line = refl
