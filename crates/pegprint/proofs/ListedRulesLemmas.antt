-- The words of a pattern's canonical text, put before what follows, and that they spell it.
-- Serves: is_read_back
use Rattle.std.proofs.Common.{Bool, true, false, List, [], ◌∷◌, ◌≡◌, refl, sym, subst}
use Rattle.pegprint.specs.declared.position.Context.TheVariants.{Alternative, Member, OfPrefix, OfAmp, OfSuffix}
use Rattle.pegprint.specs.Brackets.{wraps, is_act}
use Rattle.pegread.proofs.GrammarViabilityLemmas.{nowhere}
use Rattle.pegread.specs.Pattern.{Pattern, Any, Bytes, Set, Name, Seq, Choice, Star, Plus, Opt, And, Not, Act, Open}
use Rattle.pegread.specs.Pattern.{Close, Patterns, none, more, Rule}
use Rattle.pegread.specs.Words.{Word, Slash}
use Rattle.pegread.specs.Formed.{IsFormed, AreFormed, AreFormedRules, IsNotOne, AreMany, IsSome}
use Rattle.pegread.specs.Spelling.{sequence, choice, NoAction, Primary, name, literal, class, dot, action, begin}
use Rattle.pegread.specs.Spelling.{end_cap, parens, Suffixed, bare, quest, star, plus, Prefixed, plain, bang, amp}
use Rattle.pegread.specs.Spelling.{Items, no_item, item, Alternatives, only, further, Expression, expression, Grammar}
use Rattle.pegread.specs.Spelling.{last_definition, more_definitions}
use Rattle.pegread.specs.Words as words
use Rattle.pegread.specs.Pattern as e

abbrev pub wrapped : (List Word → List Word) → List Word → List Word
wrapped f ws = words.LParen ∷ f (words.RParen ∷ ws)

abbrev pub within : Bool → (List Word → List Word) → List Word → List Word
within true f ws = wrapped f ws
within false f ws = f ws

abbrev mutual
  pub listed : Pattern → List Word → List Word
  listed Any ws = words.Dot ∷ ws
  listed (Bytes bs) ws = words.Literal bs ∷ ws
  listed (Set f) ws = words.Class f ∷ ws
  listed (Name n) ws = words.Ident n nowhere ∷ ws
  listed (Seq es) ws = listed_members es ws
  listed (Choice es) ws = listed_alternatives es ws
  listed (Star e) ws = within (wraps OfSuffix e) (listed e) (words.Star ∷ ws)
  listed (Plus e) ws = within (wraps OfSuffix e) (listed e) (words.Plus ∷ ws)
  listed (Opt e) ws = within (wraps OfSuffix e) (listed e) (words.Quest ∷ ws)
  listed (And e) ws = words.Amp ∷ within (wraps OfAmp e) (listed e) ws
  listed (Not e) ws = words.Bang ∷ within (wraps OfPrefix e) (listed e) ws
  listed (Act t) ws = words.Action t ∷ ws
  listed Open ws = words.Begin ∷ ws
  listed Close ws = words.EndCap ∷ ws

  pub listed_members : Patterns → List Word → List Word
  listed_members none ws = ws
  listed_members (more e es) ws = within (wraps Member e) (listed e) (listed_members es ws)

  pub listed_alternatives : Patterns → List Word → List Word
  listed_alternatives none ws = ws
  listed_alternatives (more e es) ws = within (wraps Alternative e) (listed e) (listed_more es ws)

  pub listed_more : Patterns → List Word → List Word
  listed_more none ws = ws
  listed_more (more e es) ws = words.Slash ∷ within (wraps Alternative e) (listed e) (listed_more es ws)

abbrev pub listed_rules : List Rule → List Word
listed_rules [] = words.End ∷ []
listed_rules (rule ∷ rules) = words.Ident rule.name rule.span ∷ words.Arrow ∷ listed rule.body (listed_rules rules)

-- the items of one sequence, and the pattern of it
pub record SpellsOne (s r : List Word) (x : Pattern) : Type 0 where
  pub items : Patterns
  pub same : sequence items ≡ x
  pub spelled : Items s r items

-- what a pattern's words spell at each position: the operand of a suffix, that of a prefix, a member, an alternative, a
-- body
pub record Fits (suffix prefix member alternative body : List Word → List Word) (x : Pattern) : Type 0 where
  pub primary : (ws : List Word) → Primary (suffix ws) ws x
  pub suffixed : (ws : List Word) → Suffixed (prefix ws) ws x
  pub prefixed : (ws : List Word) → Prefixed (member ws) ws x
  pub one : (ws : List Word) → SpellsOne (alternative ws) ws x
  pub whole : (ws : List Word) → Expression (body ws) ws x

abbrev pub Spelled : Pattern → Type 0
Spelled x = Fits (within (wraps OfSuffix x) (listed x)) (within (wraps OfPrefix x) (listed x))
    (within (wraps Member x) (listed x)) (within (wraps Alternative x) (listed x)) (listed x) x

spells-single : {s r : List Word} {x : Pattern} → Prefixed s r x → SpellsOne s r x
spells-single {s} {r} {x} p = record { items = more x none; same = refl; spelled = item p no_item }

expression-alone : {s r : List Word} {x : Pattern} → SpellsOne s r x → Expression s r x
expression-alone {s} {r} {x} o = subst (λ (y : Pattern). Expression s r y) o.same (expression (only o.spelled))

-- one maker a rank
fits-primary : {f : List Word → List Word} {x : Pattern} → ((ws : List Word) → Primary (f ws) ws x) → Fits f f f f f x
fits-primary p = record {
  primary = p;
  suffixed = λ ws. bare (p ws);
  prefixed = λ ws. plain (bare (p ws));
  one = λ ws. spells-single (plain (bare (p ws)));
  whole = λ ws. expression-alone (spells-single (plain (bare (p ws))));
}

fits-suffixed : {f : List Word → List Word} {x : Pattern} → ((ws : List Word) → Suffixed (f ws) ws x)
    → Fits (wrapped f) f f f f x
fits-suffixed p = record {
  primary = λ ws. parens (expression-alone (spells-single (plain (p _))));
  suffixed = p;
  prefixed = λ ws. plain (p ws);
  one = λ ws. spells-single (plain (p ws));
  whole = λ ws. expression-alone (spells-single (plain (p ws)));
}

fits-prefixed : {f : List Word → List Word} {x : Pattern} → ((ws : List Word) → Prefixed (f ws) ws x)
    → Fits (wrapped f) (wrapped f) f f f x
fits-prefixed p = record {
  primary = λ ws. parens (expression-alone (spells-single (p _)));
  suffixed = λ ws. bare (parens (expression-alone (spells-single (p _))));
  prefixed = p;
  one = λ ws. spells-single (p ws);
  whole = λ ws. expression-alone (spells-single (p ws));
}

fits-one : {f : List Word → List Word} {x : Pattern} → ((ws : List Word) → SpellsOne (f ws) ws x)
    → Fits (wrapped f) (wrapped f) (wrapped f) f f x
fits-one p = record {
  primary = λ ws. parens (expression-alone (p _));
  suffixed = λ ws. bare (parens (expression-alone (p _)));
  prefixed = λ ws. plain (bare (parens (expression-alone (p _))));
  one = p;
  whole = λ ws. expression-alone (p ws);
}

fits-whole : {f : List Word → List Word} {x : Pattern} → ((ws : List Word) → Expression (f ws) ws x)
    → Fits (wrapped f) (wrapped f) (wrapped f) (wrapped f) f x
fits-whole p = record {
  primary = λ ws. parens (p _);
  suffixed = λ ws. bare (parens (p _));
  prefixed = λ ws. plain (bare (parens (p _)));
  one = λ ws. spells-single (plain (bare (parens (p _))));
  whole = p;
}

-- an operand of a suffix that is no action begins with none
operand-no_action : (x : Pattern) (ws : List Word) → is_act x ≡ false
    → NoAction (within (wraps OfSuffix x) (listed x) ws)
operand-no_action (Name n) ws h = tt
operand-no_action (Bytes bs) ws h = tt
operand-no_action (Set f) ws h = tt
operand-no_action Any ws h = tt
operand-no_action (Act t) ws h = cc
operand-no_action Open ws h = tt
operand-no_action Close ws h = tt
operand-no_action x ws h = tt

-- a suffixed expression as the operand of `&`: in parentheses where an action leads it
suffix-amp : {f : List Word → List Word} {x : Pattern} (b : Bool) (c : Bool) (ws : List Word) → b ≡ c
    → ((ws : List Word) → Expression (f ws) ws x) → ((ws : List Word) → Suffixed (f ws) ws x)
    → ((ws : List Word) → c ≡ false → NoAction (f ws)) → NoAction (within b f ws) × Suffixed (within b f ws) ws x
suffix-amp true c ws h w p n = (tt, bare (parens (w _)))
suffix-amp false c ws h w p n = (n ws (sym h), p ws)

-- the operand of `&`
pub amp-operand : (x : Pattern) → Spelled x → (ws : List Word) → NoAction (within (wraps OfAmp x) (listed x) ws)
    × Suffixed (within (wraps OfAmp x) (listed x) ws) ws x
amp-operand (Name n) p ws = (tt, p.suffixed ws)
amp-operand (Bytes bs) p ws = (tt, p.suffixed ws)
amp-operand (Set f) p ws = (tt, p.suffixed ws)
amp-operand Any p ws = (tt, p.suffixed ws)
amp-operand (Act t) p ws = (tt, bare (parens (p.whole _)))
amp-operand Open p ws = (tt, p.suffixed ws)
amp-operand Close p ws = (tt, p.suffixed ws)
amp-operand (Opt x) p ws = suffix-amp (is_act x) _ ws refl p.whole p.suffixed (λ us h. operand-no_action x _ h)
amp-operand (e.Star x) p ws = suffix-amp (is_act x) _ ws refl p.whole p.suffixed (λ us h. operand-no_action x _ h)
amp-operand (e.Plus x) p ws = suffix-amp (is_act x) _ ws refl p.whole p.suffixed (λ us h. operand-no_action x _ h)
amp-operand x p ws = (tt, p.suffixed ws)

sequence-same : (es : Patterns) → IsNotOne es → sequence es ≡ Seq es
sequence-same none h = refl
sequence-same (more x none) h = absurd h
sequence-same (more x (more y es)) h = refl

choice-same : (es : Patterns) → AreMany es → choice es ≡ Choice es
choice-same none h = absurd h
choice-same (more x none) h = absurd h
choice-same (more x (more y es)) h = refl

alternatives-last : {s r : List Word} {x : Pattern} → SpellsOne s r x → Alternatives s r (more x none)
alternatives-last {s} {r} {x} o = subst (λ (y : Pattern). Alternatives s r (more y none)) o.same (only o.spelled)

and-more : {s m r : List Word} {x : Pattern} {bs : Patterns} → SpellsOne s (Slash ∷ m) x → Alternatives m r bs
    → Alternatives s r (more x bs)
and-more {s} {m} {r} {x} {bs} o h = subst (λ (y : Pattern). Alternatives s r (more y bs)) o.same (further o.spelled h)

-- there is at least one
abbrev pub IsFull : Patterns → Type 0
IsFull none = ⊥
IsFull (more x es) = Unit {0}

many-full : (es : Patterns) → AreMany es → IsFull es
many-full none h = h
many-full (more x es) h = tt

mutual
  pub pattern-spelled : (x : Pattern) → IsFormed x → Spelled x
  pattern-spelled (Name n) w = fits-primary (λ ws. name)
  pattern-spelled (Bytes bs) w = fits-primary (λ ws. literal)
  pattern-spelled (Set f) w = fits-primary (λ ws. class)
  pattern-spelled Any w = fits-primary (λ ws. dot)
  pattern-spelled (Act t) w = fits-primary (λ ws. action)
  pattern-spelled Open w = fits-primary (λ ws. begin)
  pattern-spelled Close w = fits-primary (λ ws. end_cap)
  pattern-spelled (Opt x) w = let h = pattern-spelled x w in fits-suffixed (λ ws. quest (h.primary _))
  pattern-spelled (e.Star x) w = let h = pattern-spelled x w in fits-suffixed (λ ws. star (h.primary _))
  pattern-spelled (e.Plus x) w = let h = pattern-spelled x w in fits-suffixed (λ ws. plus (h.primary _))
  pattern-spelled (And x) w =
      let h = pattern-spelled x w in
      fits-prefixed (λ ws. (let a = amp-operand x h ws in amp a.0 a.1))
  pattern-spelled (Not x) w = let h = pattern-spelled x w in fits-prefixed (λ ws. bang (h.suffixed ws))
  pattern-spelled (Seq es) w = fits-one (λ ws. record {
    items = es;
    same = sequence-same es w.0;
    spelled = spelled-members es w.1 ws;
  })
  pattern-spelled (Choice es) w = fits-whole (λ ws. subst (λ (x : Pattern). Expression (listed_alternatives es ws) ws x)
      (choice-same es w.0) (expression (spelled-alternatives es w.1 (many-full es w.0) ws)))

  pub spelled-members : (es : Patterns) → AreFormed es → (ws : List Word) → Items (listed_members es ws) ws es
  spelled-members none w ws = no_item
  spelled-members (more x es) w ws = item ((pattern-spelled x w.0).prefixed _) (spelled-members es w.1 ws)

  pub spelled-alternatives : (es : Patterns) → AreFormed es → IsFull es → (ws : List Word)
      → Alternatives (listed_alternatives es ws) ws es
  spelled-alternatives none w h ws = absurd h
  spelled-alternatives (more x none) w h ws = alternatives-last ((pattern-spelled x w.0).one _)
  spelled-alternatives (more x (more y es)) w h ws =
      and-more ((pattern-spelled x w.0).one _) (spelled-alternatives (more y es) w.1 tt ws)

pub spelled-rules : (rules : List Rule) → IsSome rules → AreFormedRules rules → Grammar (listed_rules rules) rules
spelled-rules [] h w = absurd h
spelled-rules (rule ∷ []) h w = last_definition ((pattern-spelled rule.body w.1).whole _)
spelled-rules (rule ∷ next ∷ rules) h w = more_definitions ((pattern-spelled rule.body w.1).whole _)
    (spelled-rules (next ∷ rules) tt w.2)
