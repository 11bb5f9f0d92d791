-- Where lists stand among the tokens of a text (RFC 5234, section 4).
use Prim.Native.Char.{code}
use Rattle.std.specs.Prelude.{◌≡◌, ℕ, ◌+◌, ◌-◌, ◌==◌, nat_lt, List, [], ◌∷◌, ◌++◌, if◌then◌else◌}
use Rattle.lexer.specs.GrammarLimits.{max_open}
use Rattle.lexer.specs.TokenLists.{Tok, kind_of, slice_of, start_of, end_of}
use Rattle.abnfread.specs.MarkedTokens.{AreTokens}
use Rattle.abnfread.specs.declared.kind.AbnfKind.{AbnfKind}
use Rattle.abnfread.specs.declared.kind.AbnfKind.TheVariants.{Name, Is, Adds, LParen, RParen, LBrack, RBrack}
use Rattle.abnfread.specs.declared.kind.AbnfKind.TheVariants.{Repeat, Text, Num, Prose, Bad, End}
use Rattle.rfcforms.specs.declared.lists.mark.MarkSearch.{MarkSearch}
use Rattle.rfcforms.specs.declared.lists.mark.MarkSearch.TheVariants.{Before, Mark}
use Rattle.rfcforms.specs.declared.lists.element.ElementSearch.{ElementSearch}
use Rattle.rfcforms.specs.declared.lists.element.ElementSearch.TheVariants.{Awaited, Inside, Ends, Missing}

-- The search for the first bytes that begin no token, after one of that kind, which starts and ends there. A repeat
-- directly before these bytes can be a count.
abbrev pub mark_from : ℕ → ℕ → AbnfKind → ℕ → ℕ → MarkSearch
mark_from count end Bad start after = Mark (if end == start then count else start) start
mark_from count end Repeat start after = Before start after
mark_from count end _ start after = Before after after

abbrev pub mark_after : MarkSearch → Tok AbnfKind → MarkSearch
mark_after (Before count end) x = mark_from count end (kind_of x) (start_of x) (end_of x)
mark_after (Mark count position) x = Mark count position

abbrev pub marks_after : MarkSearch → List (Tok AbnfKind) → MarkSearch
marks_after search [] = search
marks_after search (x ∷ xs) = marks_after (mark_after search x) xs

-- what is found in a text
abbrev pub HasMark : List ℕ → MarkSearch → Type 0
HasMark text search = (ts : List (Tok AbnfKind)) × AreTokens text ts × (search ≡ marks_after (Before 0 0) ts)

-- An element is a name, a text, numbers or prose, or what stands in brackets with these. This is known of it after its
-- first token, which ends there.
abbrev pub element_begun : AbnfKind → ℕ → ElementSearch
element_begun Name end = Ends end
element_begun Text end = Ends end
element_begun Num end = Ends end
element_begun Prose end = Ends end
element_begun LParen end = Inside 1
element_begun LBrack end = Inside 1
element_begun _ end = Missing

-- And this after a token in so many brackets. No element has `=` or bytes that begin no token, nor more brackets than
-- may be open.
abbrev pub element_inner : ℕ → AbnfKind → ℕ → ElementSearch
element_inner depth LParen end = if nat_lt depth max_open then Inside (depth + 1) else Missing
element_inner depth LBrack end = if nat_lt depth max_open then Inside (depth + 1) else Missing
element_inner depth RParen end = if nat_lt 1 depth then Inside (depth - 1) else Ends end
element_inner depth RBrack end = if nat_lt 1 depth then Inside (depth - 1) else Ends end
element_inner depth Is end = Missing
element_inner depth Adds end = Missing
element_inner depth Bad end = Missing
element_inner depth End end = Missing
element_inner depth _ end = Inside depth

abbrev pub element_after : ElementSearch → Tok AbnfKind → ElementSearch
element_after Awaited x = if start_of x == 0 then element_begun (kind_of x) (end_of x) else Missing
element_after (Inside depth) x = element_inner depth (kind_of x) (end_of x)
element_after (Ends size) x = Ends size
element_after Missing x = Missing

abbrev pub elements_after : ElementSearch → List (Tok AbnfKind) → ElementSearch
elements_after search [] = search
elements_after search (x ∷ xs) = elements_after (element_after search x) xs

-- what is known of the element that begins a text
abbrev pub HasElement : List ℕ → ElementSearch → Type 0
HasElement text search = (ts : List (Tok AbnfKind)) × AreTokens text ts × (search ≡ elements_after Awaited ts)

-- tokens after that position, with a space where bytes stand before one
abbrev pub token_joined : ℕ → Tok AbnfKind → List ℕ
token_joined at x = if start_of x == at then slice_of x else code " " ∷ slice_of x

abbrev pub tokens_joined : ℕ → List (Tok AbnfKind) → List ℕ
tokens_joined at [] = []
tokens_joined at (x ∷ xs) = token_joined at x ++ tokens_joined (end_of x) xs

-- the tokens of a text on one line
abbrev pub IsOnOneLine : List ℕ → List ℕ → Type 0
IsOnOneLine text line = (ts : List (Tok AbnfKind)) × AreTokens text ts × (line ≡ tokens_joined 0 ts)
