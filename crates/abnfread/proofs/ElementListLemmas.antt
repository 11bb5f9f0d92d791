-- The elements of vectors, and what pushes do to the machine's configurations.
-- Serves: read_abnf, core_rules
use Rattle.std.proofs.Common.{◌≡◌, List, [], ◌∷◌, ◌++◌, map, Some, refl, ap, sym, ◌∙◌}
use Rattle.std.proofs.lemmas.List.{map_push}
use Rattle.lexer.specs.ReadBodies.{Closes, Has, IsNode, IsWhole, Part, part, alternatives_of, brackets_of, items_of}
use Rattle.lexer.specs.declared.body.Body.{Body}
use Rattle.abnfread.specs.declared.elem.Elem.{Elem}
use Rattle.abnfread.specs.declared.reader.Opened.{Opened}
use Rattle.abnfread.specs.declared.reader.Bracket.{Bracket as CodeBracket}
use Rattle.abnfread.specs.declared.reader.Bracket.TheVariants as brackets
use Rattle.abnfread.specs.declared.definition.Definition.{Definition}
use Rattle.abnfread.specs.AbnfMachine.{apply, close_step, enclosed, finish, snoc, Config, Head, Last, Level, Times}
use Rattle.abnfread.specs.AbnfMachine.{body, level, read}
use Rattle.abnfread.specs.AbnfReader.{bracket_of, level_of, times_of}
use Rattle.abnfread.specs.AbnfSpelling.{concatenation, alternation, definition}
use Rattle.abnfread.specs.Element.{Element, Elements, none, more}
use Rattle.abnfread.specs.AbnfViews.{definition_from, definitions_from, element_of, elements_of, IsChoice}
use Rattle.abnfread.specs.AbnfViews.{IsSequence}

-- a concatenation of one item is that item
pub sequence-node : (es : List Elem) (e : Elem) → IsNode IsSequence es e → element_of e ≡ concatenation (elements_of es)
sequence-node [] e h = h
sequence-node (x ∷ []) e h = ap element_of h
sequence-node (x ∷ y ∷ ys) e h = h

-- an alternation of one alternative is that alternative
pub choice-node : (es : List Elem) (e : Elem) → IsNode IsChoice es e → element_of e ≡ alternation (elements_of es)
choice-node [] e h = h
choice-node (x ∷ []) e h = ap element_of h
choice-node (x ∷ y ∷ ys) e h = h

elements_of-snoc : (xs : List Elem) (e : Elem) → elements_of (xs ++ e ∷ []) ≡ snoc (elements_of xs) (element_of e)
elements_of-snoc [] e = refl
elements_of-snoc (x ∷ xs) e = ap (more (element_of x)) (elements_of-snoc xs e)

-- what a push does
pub elements_of-push : (xs ys : List Elem) (e : Elem) → ys ≡ xs ++ e ∷ []
    → elements_of ys ≡ snoc (elements_of xs) (element_of e)
elements_of-push xs ys e h = ap elements_of h ∙ elements_of-snoc xs e

-- the whole of a body
pub whole-element : (bs es : List Elem) (e : Elem) → IsWhole IsSequence IsChoice bs es e
    → element_of e ≡ finish (elements_of bs) (elements_of es)
whole-element bs es e w = choice-node (bs ++ w.last ∷ []) e w.choice ∙ ap alternation (elements_of-snoc bs w.last
    ∙ ap (λ (x : Element). snoc (elements_of bs) x) (sequence-node es w.last w.sequence))

-- what is read of a body, in the machine's words
abbrev body_at : Head → List (Part Elem Opened) → List Elem → List Elem → Last → Config
body_at h o bs es l = body h (map level_of o) (elements_of bs) (elements_of es) l

at-same : (h : Head) (o p : List (Part Elem Opened)) (bs cs es fs : List Elem) (l : Last) → p ≡ o → cs ≡ bs → fs ≡ es
    → body_at h o bs es l ≡ body_at h p cs fs l
at-same h o p bs cs es fs l e f g = rw (e, f, g) refl

module _ (h : Head) (b : Body Elem Opened) (o : List (Part Elem Opened)) (l : Last) where
  abbrev body_of : Config
  body_of = body_at h (brackets_of b) (alternatives_of b) (items_of b) l

  pub body-has : (bs es : List Elem) → Has b o bs es → body_at h o bs es l ≡ body_of
  body-has bs es has = at-same h o (brackets_of b) bs (alternatives_of b) es (items_of b) l has.brackets
      has.alternatives has.items

  -- one item more
  pub body-item : (bs es : List Elem) (x : Elem) (y : Element) → Has b o bs (es ++ x ∷ []) → element_of x ≡ y
      → body h (map level_of o) (elements_of bs) (snoc (elements_of es) y) l ≡ body_of
  body-item bs es x y has e = rw (sym e, sym (elements_of-snoc es x)) (body-has bs (es ++ x ∷ []) has)

  -- the items become one alternative more
  pub body-alternative : (bs es : List Elem) (x : Elem) → IsNode IsSequence es x → Has b o (bs ++ x ∷ []) []
      → body h (map level_of o) (snoc (elements_of bs) (concatenation (elements_of es))) none l ≡ body_of
  body-alternative bs es x s has =
      rw (sym (sequence-node es x s), sym (elements_of-snoc bs x)) (body-has (bs ++ x ∷ []) [] has)

pub elements_of-pair : (a b c : List Elem) (x y : Elem) → a ≡ [] → b ≡ a ++ x ∷ [] → c ≡ b ++ y ∷ []
    → elements_of c ≡ more (element_of x) (more (element_of y) none)
elements_of-pair a b c x y e f g = rw (g, f, e) refl

-- one definition more
pub definitions-push : (ds es : List Definition) (d : Definition) (x : Element) → es ≡ ds ++ d ∷ []
    → element_of d.body ≡ x → definitions_from es ≡ definitions_from ds ++ definition d.adds d.name.now d.span x ∷ []
definitions-push ds es d x e f = rw (e, map_push definition_from ds d, f) refl

-- a bracket of that form closes
module _ (h : Head) (b : Body Elem Opened) where
  same-bracket : (m : CodeBracket) (bs es : Elements) (t : Times) (o : List Level) (x : Element)
      → close_step (bracket_of m) (level bs es t (bracket_of m) ∷ o) h x
      ≡ Some (body h o bs (snoc es (apply t (enclosed (bracket_of m) x))) read)
  same-bracket brackets.Paren bs es t o x = refl
  same-bracket brackets.Brack bs es t o x = refl

  part-same : (o p : List (Part Elem Opened)) (bs cs es fs : List Elem) (y : Element) → p ≡ o → cs ≡ bs → fs ≡ es
      → Some (body h (map level_of o) (elements_of bs) (snoc (elements_of es) y) read)
      ≡ Some (body h (map level_of p) (elements_of cs) (snoc (elements_of fs) y) read)
  part-same o p bs cs es fs y e f g = rw (e, f, g) refl

  pub body-closes : (o : List (Part Elem Opened)) (bs es : List Elem) (m : CodeBracket) (n : Opened) (e : Elem)
      (x : Element) → Closes IsSequence IsChoice o bs es (Some (n, e)) b → n.bracket ≡ m
      → x ≡ enclosed (bracket_of m) (element_of e)
      → close_step (bracket_of m) (map level_of o) h (finish (elements_of bs) (elements_of es))
      ≡ Some (body h (map level_of (brackets_of b)) (elements_of (alternatives_of b)) (snoc (elements_of (items_of b))
      (apply (times_of n.times) x)) read)
  body-closes [] bs es m n e x k q f = cc
  body-closes (part cs fs n' ∷ o) bs es m n e x k q f = rw (f, sym q, k.0, whole-element bs es e k.1)
      (same-bracket n'.bracket (elements_of cs) (elements_of fs) (times_of n'.times) (map level_of o)
      (finish (elements_of bs) (elements_of es))
      ∙ part-same o (brackets_of b) cs (alternatives_of b) fs (items_of b) _ k.2.brackets k.2.alternatives k.2.items)
