-- The canonical text of a grammar.
use Prim.Native.Char.{code}
use Rattle.std.specs.Prelude.{ℕ, codes, List, [], ◌∷◌, ◌++◌}
use Rattle.std.specs.List.{flat_map}
use Rattle.pegprint.specs.declared.position.Context.{Context}
use Rattle.pegprint.specs.declared.position.Context.TheVariants.{Alternative, Member, OfPrefix, OfAmp, OfSuffix}
use Rattle.pegprint.specs.Brackets.{wraps, around}
use Rattle.pegread.specs.Escapes.{escaped, class_text}
use Rattle.pegread.specs.Pattern.{Pattern, Any, Bytes, Set, Name, Seq, Choice, Star, Plus, Opt, And, Not, Act, Open}
use Rattle.pegread.specs.Pattern.{Close, Patterns, none, more, Rule}

abbrev mutual
  -- the text of a pattern as a rule's body, where it needs no parentheses
  pub text_of : Pattern → List ℕ
  text_of Any = codes "."
  text_of (Bytes bs) = code "\"" ∷ (flat_map escaped bs ++ code "\"" ∷ [])
  text_of (Set f) = class_text f
  text_of (Name n) = n
  text_of (Seq es) = joined Member (codes " ") es
  text_of (Choice es) = joined Alternative (codes " / ") es
  text_of (Star e) = around (wraps OfSuffix e) (text_of e) ++ codes "*"
  text_of (Plus e) = around (wraps OfSuffix e) (text_of e) ++ codes "+"
  text_of (Opt e) = around (wraps OfSuffix e) (text_of e) ++ codes "?"
  text_of (And e) = code "&" ∷ around (wraps OfAmp e) (text_of e)
  text_of (Not e) = code "!" ∷ around (wraps OfPrefix e) (text_of e)
  text_of (Act t) = code "{" ∷ (t ++ code "}" ∷ [])
  text_of Open = codes "<"
  text_of Close = codes ">"

  -- members or alternatives, with a mark between each two
  pub joined : Context → List ℕ → Patterns → List ℕ
  joined p mark none = []
  joined p mark (more e es) = around (wraps p e) (text_of e) ++ more_joined p mark es

  -- with one before each
  pub more_joined : Context → List ℕ → Patterns → List ℕ
  more_joined p mark none = []
  more_joined p mark (more e es) = mark ++ (around (wraps p e) (text_of e) ++ more_joined p mark es)

-- a definition: the name, ` <- `, the body and LF
abbrev pub definition_text : List ℕ → Pattern → List ℕ
definition_text n e = n ++ (codes " <- " ++ (text_of e ++ code "\n" ∷ []))

abbrev pub rule_text : Rule → List ℕ
rule_text rule = definition_text rule.name rule.body

-- the text of the rules, in order
abbrev pub grammar_text : List Rule → List ℕ
grammar_text rules = flat_map rule_text rules
