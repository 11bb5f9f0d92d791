-- The patterns of expressions in vectors, and what pushes do to the machine's configurations.
-- Serves: read_peg
use Rattle.std.proofs.Common.{◌≡◌, List, [], ◌∷◌, ◌++◌, map, Some, refl, ap, sym, ◌∙◌, Vec, Global}
use Rattle.std.proofs.lemmas.List.{map_push}
use Rattle.lexer.specs.ReadBodies.{Closes, Has, IsNode, IsWhole, Part, part, alternatives_of, brackets_of, items_of}
use Rattle.lexer.specs.declared.body.Body.{Body}
use Rattle.pegread.specs.declared.expr.Expr.{Expr}
use Rattle.pegread.specs.declared.expr.Expr.TheOpen.{Expr-F}
use Rattle.pegread.specs.declared.expr.Expr.TheFolds.{fold-roll-Expr}
use Rattle.pegread.specs.declared.expr.Expr.TheVariants as exprs
use Rattle.pegread.specs.Pattern.{Pattern, Seq, Choice, none, more}
use Rattle.pegread.specs.Spelling.{sequence, choice, rule_at}
use Rattle.pegread.specs.Machine.{close_step, snoc, finish, Config, Head, Last, Mark, body, read}
use Rattle.pegread.specs.declared.reader.Prefix.{Prefix}
use Rattle.pegread.specs.declared.reader.Definition.{Definition}
use Rattle.pegread.specs.Steps.{level_of, mark_of, rule_from, rules_from}
use Rattle.pegread.specs.PegViews.{pattern_of, patterns_of, node_pattern, IsChoice, IsSequence}

pub pattern_of-seq : (v : Vec Expr Global) → pattern_of (exprs.Seq v) ≡ Seq (patterns_of v.items)
pattern_of-seq v = ap pattern_of (sym (exprs.rolls-Seq v)) ∙ fold-roll-Expr Pattern node_pattern (Expr-F.Seq v)

pub pattern_of-choice : (v : Vec Expr Global) → pattern_of (exprs.Choice v) ≡ Choice (patterns_of v.items)
pattern_of-choice v = ap pattern_of (sym (exprs.rolls-Choice v)) ∙ fold-roll-Expr Pattern node_pattern (Expr-F.Choice v)

-- a sequence of one item is that item
pub sequence-node : (es : List Expr) (e : Expr) → IsNode IsSequence es e → pattern_of e ≡ sequence (patterns_of es)
sequence-node [] e h = h
sequence-node (x ∷ []) e h = ap pattern_of h
sequence-node (x ∷ y ∷ ys) e h = h

-- a choice of one alternative is that alternative
pub choice-node : (es : List Expr) (e : Expr) → IsNode IsChoice es e → pattern_of e ≡ choice (patterns_of es)
choice-node [] e h = h
choice-node (x ∷ []) e h = ap pattern_of h
choice-node (x ∷ y ∷ ys) e h = h

patterns_of-snoc : (xs : List Expr) (e : Expr) → patterns_of (xs ++ e ∷ []) ≡ snoc (patterns_of xs) (pattern_of e)
patterns_of-snoc [] e = refl
patterns_of-snoc (x ∷ xs) e = ap (more (pattern_of x)) (patterns_of-snoc xs e)

-- the whole of a body
pub whole-pattern : (bs es : List Expr) (e : Expr) → IsWhole IsSequence IsChoice bs es e
    → pattern_of e ≡ finish (patterns_of bs) (patterns_of es)
whole-pattern bs es e w = choice-node (bs ++ w.last ∷ []) e w.choice ∙ ap choice (patterns_of-snoc bs w.last
    ∙ ap (λ (x : Pattern). snoc (patterns_of bs) x) (sequence-node es w.last w.sequence))

-- what is read of a body, in the machine's words
abbrev body_at : Head → List (Part Expr Prefix) → List Expr → List Expr → Mark → Last → Config
body_at h o bs es m l = body h (map level_of o) (patterns_of bs) (patterns_of es) m l

at-same : (h : Head) (o p : List (Part Expr Prefix)) (bs cs es fs : List Expr) (m : Mark) (l : Last) → p ≡ o → cs ≡ bs
    → fs ≡ es → body_at h o bs es m l ≡ body_at h p cs fs m l
at-same h o p bs cs es fs m l e f g = rw (e, f, g) refl

module _ (h : Head) (b : Body Expr Prefix) (o : List (Part Expr Prefix)) (m : Mark) (l : Last) where
  abbrev body_of : Config
  body_of = body_at h (brackets_of b) (alternatives_of b) (items_of b) m l

  pub body-has : (bs es : List Expr) → Has b o bs es → body_at h o bs es m l ≡ body_of
  body-has bs es has = at-same h o (brackets_of b) bs (alternatives_of b) es (items_of b) m l has.brackets
      has.alternatives has.items

  -- one item more
  pub body-item : (bs es : List Expr) (x : Expr) (y : Pattern) → Has b o bs (es ++ x ∷ []) → pattern_of x ≡ y
      → body h (map level_of o) (patterns_of bs) (snoc (patterns_of es) y) m l ≡ body_of
  body-item bs es x y has e = rw (sym e, sym (patterns_of-snoc es x)) (body-has bs (es ++ x ∷ []) has)

  -- the items become one alternative more
  pub body-alternative : (bs es : List Expr) (x : Expr) → IsNode IsSequence es x → Has b o (bs ++ x ∷ []) []
      → body h (map level_of o) (snoc (patterns_of bs) (sequence (patterns_of es))) none m l ≡ body_of
  body-alternative bs es x s has =
      rw (sym (sequence-node es x s), sym (patterns_of-snoc bs x)) (body-has (bs ++ x ∷ []) [] has)

-- a bracket closes
pub body-closes : (h : Head) (b : Body Expr Prefix) (o : List (Part Expr Prefix)) (bs es : List Expr) (p : Prefix)
    (e : Expr) → Closes IsSequence IsChoice o bs es (Some (p, e)) b
    → close_step (map level_of o) h (finish (patterns_of bs) (patterns_of es))
    ≡ Some (body_of h b [] (mark_of p) (read (pattern_of e)))
body-closes h b [] bs es p e k = cc
body-closes h b (part cs fs m ∷ o) bs es p e k = rw (k.0, whole-pattern bs es e k.1)
    (ap Some (body-has h b o (mark_of m) (read (finish (patterns_of bs) (patterns_of es))) cs fs k.2))

-- one definition more
pub rules-push : (ds es : List Definition) (d : Definition) (x : Pattern) → es ≡ ds ++ d ∷ [] → pattern_of d.body ≡ x
    → rules_from es ≡ rules_from ds ++ rule_at d.name.now d.span x ∷ []
rules-push ds es d x e f = rw (e, map_push rule_from ds d, f) refl
