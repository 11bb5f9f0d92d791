-- The core rules (RFC 5234, appendix B.1).
use Prim.Native.Char.{code}
use Rattle.std.specs.Prelude.{ℕ, true, codes, List, [], ◌∷◌, map, None}
use Rattle.ruletable.specs.declared.span.Span.{Span}
use Rattle.abnfread.specs.Element.{Element, Elements, Text, Values, Range, Concat, Alt, Rep, Name, none, more, Rule}

-- core rules stand nowhere in a text
abbrev pub nowhere : Span
nowhere = record { start = 0; end = 0 }

abbrev pub pair : Element → Element → Elements
pair x y = more x (more y none)

-- a plain text, and one value
abbrev pub plain : List ℕ → Element
plain t = Text true t

abbrev pub value : ℕ → Element
value v = Values (v ∷ [])

abbrev pub hexdig : Elements
hexdig = more (Name (codes "DIGIT")) (more (plain (codes "A"))
    (more (plain (codes "B")) (more (plain (codes "C"))
    (more (plain (codes "D")) (pair (plain (codes "E")) (plain (codes "F")))))))

abbrev pub lwsp : Element
lwsp = Rep 0 None (Alt (pair (Name (codes "WSP")) (Concat (pair (Name (codes "CRLF")) (Name (codes "WSP"))))))

abbrev pub core_rule : List ℕ → Element → Rule
core_rule n x = record { name = n; body = x; span = nowhere }

abbrev pub core_list : List Rule
core_list =
    core_rule (codes "ALPHA") (Alt (pair (Range (code "A") (code "Z")) (Range (code "a") (code "z"))))
    ∷ core_rule (codes "BIT") (Alt (pair (plain (codes "0")) (plain (codes "1"))))
    ∷ core_rule (codes "CHAR") (Range 1 127)
    ∷ core_rule (codes "CR") (value (code "\r"))
    ∷ core_rule (codes "CRLF") (Concat (pair (Name (codes "CR")) (Name (codes "LF"))))
    ∷ core_rule (codes "CTL") (Alt (pair (Range 0 31) (value 127)))
    ∷ core_rule (codes "DIGIT") (Range (code "0") (code "9"))
    ∷ core_rule (codes "DQUOTE") (value (code "\""))
    ∷ core_rule (codes "HEXDIG") (Alt hexdig)
    ∷ core_rule (codes "HTAB") (value (code "\t"))
    ∷ core_rule (codes "LF") (value (code "\n"))
    ∷ core_rule (codes "LWSP") lwsp
    ∷ core_rule (codes "OCTET") (Range 0 255)
    ∷ core_rule (codes "SP") (value (code " "))
    ∷ core_rule (codes "VCHAR") (Range 33 126)
    ∷ core_rule (codes "WSP") (Alt (pair (Name (codes "SP")) (Name (codes "HTAB"))))
    ∷ []

abbrev pub core_names : List (List ℕ)
core_names = map (λ rule. rule.name) core_list

abbrev pub core_bodies : List Element
core_bodies = map (λ rule. rule.body) core_list
