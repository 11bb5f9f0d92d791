-- Searches among tokens, and tokens on one line, step by step.
-- Serves: expanded_text
use Rattle.std.proofs.Common.{◌≡◌, ◌∙◌, ℕ, List, [], ◌∷◌, ◌++◌, append_assoc, append-nil, ap, map, refl, sym}
use Rattle.std.proofs.lemmas.List.{map-append}
use Rattle.lexer.specs.TokenLists.{Tok, end_of, tok_of}
use Rattle.lexer.specs.declared.token_iter.Token.{Token}
use Rattle.abnfread.specs.declared.kind.AbnfKind.{AbnfKind}
use Rattle.rfcforms.specs.ListSearches.{element_after, elements_after, mark_after, marks_after, token_joined}
use Rattle.rfcforms.specs.ListSearches.{tokens_joined}
use Rattle.rfcforms.specs.declared.lists.element.ElementSearch.{ElementSearch}
use Rattle.rfcforms.specs.declared.lists.mark.MarkSearch.{MarkSearch}

-- one token more
pub marks-snoc : (ts : List (Tok AbnfKind)) (x : Tok AbnfKind) (s : MarkSearch)
    → marks_after s (ts ++ x ∷ []) ≡ mark_after (marks_after s ts) x
marks-snoc [] x s = refl
marks-snoc (t ∷ ts) x s = marks-snoc ts x (mark_after s t)

pub elements-snoc : (ts : List (Tok AbnfKind)) (x : Tok AbnfKind) (s : ElementSearch)
    → elements_after s (ts ++ x ∷ []) ≡ element_after (elements_after s ts) x
elements-snoc [] x s = refl
elements-snoc (t ∷ ts) x s = elements-snoc ts x (element_after s t)

pub joined-more : (at : ℕ) (done : List (Token AbnfKind)) (x : Token AbnfKind) (old new : List ℕ)
    → new ≡ old ++ token_joined at (tok_of x)
    → ((items : List (Tok AbnfKind)) → old ++ tokens_joined at items ≡ tokens_joined 0 (map tok_of done ++ items))
    → (items : List (Tok AbnfKind)) → new ++ tokens_joined (end_of (tok_of x)) items
    ≡ tokens_joined 0 (map tok_of (done ++ x ∷ []) ++ items)
joined-more at done x old new more so items =
    let rest = tokens_joined (end_of (tok_of x)) items in
    ap (λ (z : List ℕ). z ++ rest) more
    ∙ append_assoc old (token_joined at (tok_of x)) rest
    ∙ so (tok_of x ∷ items)
    ∙ ap (λ (ts : List (Tok AbnfKind)). tokens_joined 0 ts)
    (sym (append_assoc (map tok_of done) (tok_of x ∷ []) items)
    ∙ ap (λ (ts : List (Tok AbnfKind)). ts ++ items) (sym (map-append tok_of done (x ∷ []))))

pub joined-all : (at : ℕ) (ts : List (Tok AbnfKind)) (line : List ℕ)
    → ((items : List (Tok AbnfKind)) → line ++ tokens_joined at items ≡ tokens_joined 0 (ts ++ items))
    → line ≡ tokens_joined 0 ts
joined-all at ts line so =
    sym (append-nil line) ∙ so [] ∙ ap (λ (us : List (Tok AbnfKind)). tokens_joined 0 us) (append-nil ts)
