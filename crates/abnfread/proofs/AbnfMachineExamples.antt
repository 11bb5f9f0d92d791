-- Lists that go on, and lists that do not.
use Rattle.std.proofs.Common.{◌≡◌, true, false, Some, None, [], ◌∷◌, refl}
use Rattle.ruletable.specs.declared.span.Span.{Span}
use Rattle.abnfread.specs.Element as e
use Rattle.abnfread.specs.Element.{none, more}
use Rattle.abnfread.specs.AbnfWords.{Word, word, Said, Name, Is, Slash, LParen, RParen, LBrack, Repeat, Text, End}
use Rattle.abnfread.specs.AbnfSpelling.{definition}
use Rattle.abnfread.specs.AbnfMachine.{start, done, run}

no_span : Span
no_span = record { start = 0; end = 0 }

-- a word with no white space before it, with some, and the first of a line that begins a rule
abbrev near : Said → Word
near s = word false false s

abbrev far : Said → Word
far s = word true false s

abbrev head : Said → Word
head s = word true true s

abbrev x : Said
x = Text false (120 ∷ [])

abbrev a : Said
a = Name (97 ∷ []) no_span

-- `a = "x" / "x"`
two-alternatives : run start (head a ∷ far Is ∷ far x ∷ far Slash ∷ far x ∷ near End ∷ [])
    ≡ Some (done (definition false (97 ∷ []) no_span
    (e.Alt (more (e.Text false (120 ∷ [])) (more (e.Text false (120 ∷ [])) none))) ∷ []))
two-alternatives = refl

-- a rule's name that is not the first of such a line
not-first : run start (far a ∷ []) ≡ None
not-first = refl

-- a slash that is
slash-first : run start (head a ∷ far Is ∷ far x ∷ head Slash ∷ []) ≡ None
slash-first = refl

-- a rule's name within brackets, and one where a repetition must begin
name-inside : run start (head a ∷ far Is ∷ far LParen ∷ near x ∷ head a ∷ []) ≡ None
name-inside = refl

name-early : run start (head a ∷ far Is ∷ head a ∷ []) ≡ None
name-early = refl

-- an element after a repeat and white space, and a repeat after a repeat
repeat-far : run start (head a ∷ far Is ∷ far (Repeat 2 (Some 2)) ∷ far x ∷ []) ≡ None
repeat-far = refl

repeat-repeat : run start (head a ∷ far Is ∷ far (Repeat 2 (Some 2)) ∷ near (Repeat 2 (Some 2)) ∷ []) ≡ None
repeat-repeat = refl

-- a second repetition with no white space before it
no-gap : run start (head a ∷ far Is ∷ far x ∷ near (Repeat 2 (Some 2)) ∷ []) ≡ None
no-gap = refl

-- the end within brackets, in place of a body, and one that is the first of such a line
end-inside : run start (head a ∷ far Is ∷ far LBrack ∷ near x ∷ near End ∷ []) ≡ None
end-inside = refl

end-early : run start (head a ∷ far Is ∷ near End ∷ []) ≡ None
end-early = refl

end-first : run start (head a ∷ far Is ∷ far x ∷ head End ∷ []) ≡ None
end-first = refl

-- a bracket of the other form
other-bracket : run start (head a ∷ far Is ∷ far LBrack ∷ near x ∷ near RParen ∷ []) ≡ None
other-bracket = refl

-- an empty group, and an empty alternative
empty-group : run start (head a ∷ far Is ∷ far LParen ∷ near RParen ∷ []) ≡ None
empty-group = refl

empty-alternative : run start (head a ∷ far Is ∷ far x ∷ far Slash ∷ far Slash ∷ []) ≡ None
empty-alternative = refl
