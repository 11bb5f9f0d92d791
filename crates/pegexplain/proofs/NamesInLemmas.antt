-- The names among the tokens of a text are those of its tree.
-- Serves: no_name_left_out
use Rattle.std.proofs.Common.{◌≡◌, ℕ, false, Option, Some, None, List, [], ◌∷◌, ◌++◌, length, map, refl, sym, ◌∙◌}
use Rattle.std.proofs.Common.{ap, append-nil, flat_map}
use Rattle.ruletable.specs.declared.lines.LineRule.TheVariants.{Any}
use Rattle.lexer.specs.Viability.{say_none, say_more}
use Rattle.diagnostics.specs.BodyMentions.{mentions_in}
use Rattle.diagnostics.specs.DefinitionHeads.{definitions_in, sign_at}
use Rattle.diagnostics.specs.ReportedTrees.{Heading, headings, placed_uses, ReportTree}
use Rattle.diagnostics.proofs.ReportTreeLemmas.{placed, Keeps, keeps-none, keeps-both, keeps-names, keeps-before}
use Rattle.diagnostics.proofs.ReportTreeLemmas.{keeps-after}
use Rattle.gramcheck.specs.Uses.{names_in, names_in_all}
use Rattle.pegread.specs.Pattern.{Pattern, Patterns, none, more, Rule}
use Rattle.pegread.specs.Reading.{Reads}
use Rattle.pegread.specs.Spelling.{choice, sequence, Primary, name, literal, class, dot, action, begin, end_cap, parens}
use Rattle.pegread.specs.Spelling.{Suffixed, bare, quest, star, plus, Prefixed, plain, bang, amp, Items, no_item, item}
use Rattle.pegread.specs.Spelling.{Alternatives, only, further, Expression, expression, Grammar, last_definition}
use Rattle.pegread.specs.Spelling.{more_definitions}
use Rattle.pegread.specs.Tokens.{Tok, AreTokens}
use Rattle.pegread.specs.Words.{Word, Ident, Arrow, Begin, EndCap, Slash, Amp, Bang, Quest, Star, Plus, Dot, LParen}
use Rattle.pegread.specs.Words.{RParen, Literal, Class, Action, Says, says_name, says_arrow, SayAll}
use Rattle.pegread.proofs.SliceLemmas.{tokens-one}
use Rattle.ruletable.specs.declared.span.Span.{Span}
use Rattle.pegexplain.specs.PegNotes.{sign_of, tree_rules}

-- the names that words use, each with the position of the definition around it
abbrev word_uses : Option ℕ → List Word → List (ℕ × List ℕ)
word_uses within [] = []
word_uses within (w ∷ []) = []
word_uses within (Ident n p ∷ Arrow ∷ ws) = word_uses (Some p.start) (Arrow ∷ ws)
word_uses (Some d) (Ident n p ∷ v ∷ ws) = (d, n) ∷ word_uses (Some d) (v ∷ ws)
word_uses within (w ∷ v ∷ ws) = word_uses within (v ∷ ws)

-- the definitions that they begin
abbrev word_heads : List Word → List Heading
word_heads [] = []
word_heads (w ∷ []) = []
word_heads (Ident n p ∷ Arrow ∷ ws) = (n, p.start, false) ∷ word_heads (Arrow ∷ ws)
word_heads (w ∷ v ∷ ws) = word_heads (v ∷ ws)

abbrev uses_within : ℕ → List Word → List (ℕ × List ℕ)
uses_within d ws = word_uses (Some d) ws

-- no arrow is first
abbrev NoArrow : List Word → Type 0
NoArrow [] = ⊥
NoArrow (Arrow ∷ ws) = ⊥
NoArrow _ = Unit {0}

abbrev NoName : Word → Type 0
NoName (Ident n p) = ⊥
NoName _ = Unit {0}

skip-uses : (w : Word) → NoName w → (ws : List Word) (d : ℕ) → uses_within d (w ∷ ws) ≡ uses_within d ws
skip-uses w h [] d = refl
skip-uses (Ident n p) h (v ∷ ws) d = absurd h
skip-uses w h (v ∷ ws) d = refl

skip-heads : (w : Word) → NoName w → (ws : List Word) → word_heads (w ∷ ws) ≡ word_heads ws
skip-heads w h [] = refl
skip-heads (Ident n p) h (v ∷ ws) = absurd h
skip-heads w h (v ∷ ws) = refl

name-used : (n : List ℕ) (p : Span) (ws : List Word) → NoArrow ws → (d : ℕ)
    → uses_within d (Ident n p ∷ ws) ≡ (d, n) ∷ uses_within d ws
name-used n p [] o d = absurd o
name-used n p (Arrow ∷ ws) o d = absurd o
name-used n p (v ∷ ws) o d = refl

name-heads : (n : List ℕ) (p : Span) (ws : List Word) → NoArrow ws → word_heads (Ident n p ∷ ws) ≡ word_heads ws
name-heads n p [] o = absurd o
name-heads n p (Arrow ∷ ws) o = absurd o
name-heads n p (v ∷ ws) o = refl

abbrev Uses : List Word → List Word → List (List ℕ) → Type 0
Uses = Keeps uses_within word_heads NoArrow

one-more : (w : Word) → NoName w → {s r : List Word} {names : List (List ℕ)} → NoArrow (w ∷ s) → Uses s r names
    → Uses (w ∷ s) r names
one-more w h {s} o k = keeps-before uses_within word_heads NoArrow w (skip-uses w h s) (skip-heads w h s) o k

one-within : (w : Word) → NoName w → {s r : List Word} {names : List (List ℕ)} → Uses s (w ∷ r) names
    → Uses s r names
one-within w h {r = r} k = keeps-after uses_within word_heads NoArrow w (skip-uses w h r) (skip-heads w h r) k

-- a word alone
word-alone : (w : Word) → NoName w → (r : List Word) → NoArrow r → NoArrow (w ∷ r) → Uses (w ∷ r) r []
word-alone w h r o k = one-more w h k (keeps-none uses_within word_heads NoArrow r o)

sequence-names : (es : Patterns) → names_in_all es ≡ names_in (sequence es)
sequence-names none = refl
sequence-names (more e none) = append-nil (names_in e)
sequence-names (more e (more f es)) = refl

choice-names : (es : Patterns) → names_in_all es ≡ names_in (choice es)
choice-names none = refl
choice-names (more e none) = append-nil (names_in e)
choice-names (more e (more f es)) = refl

mutual
  primary-uses : {s r : List Word} {x : Pattern} → Primary s r x → NoArrow r → Uses s r (names_in x)
  primary-uses (name {n} {p} {r}) o =
      record { uses_are = name-used n p r o; heads_are = name-heads n p r o; onward = tt }
  primary-uses (literal {bs} {r}) o = word-alone (Literal bs) tt r o tt
  primary-uses (class {f} {r}) o = word-alone (Class f) tt r o tt
  primary-uses (dot {r}) o = word-alone Dot tt r o tt
  primary-uses (action {t} {r}) o = word-alone (Action t) tt r o tt
  primary-uses (begin {r}) o = word-alone Begin tt r o tt
  primary-uses (end_cap {r}) o = word-alone EndCap tt r o tt
  primary-uses (parens h) o = one-more LParen tt tt (one-within RParen tt (expression-uses h tt))

  suffixed-uses : {s r : List Word} {x : Pattern} → Suffixed s r x → NoArrow r → Uses s r (names_in x)
  suffixed-uses (bare h) o = primary-uses h o
  suffixed-uses (quest h) o = one-within Quest tt (primary-uses h tt)
  suffixed-uses (star h) o = one-within Star tt (primary-uses h tt)
  suffixed-uses (plus h) o = one-within Plus tt (primary-uses h tt)

  prefixed-uses : {s r : List Word} {x : Pattern} → Prefixed s r x → NoArrow r → Uses s r (names_in x)
  prefixed-uses (plain h) o = suffixed-uses h o
  prefixed-uses (bang h) o = one-more Bang tt tt (suffixed-uses h o)
  prefixed-uses (amp n h) o = one-more Amp tt tt (suffixed-uses h o)

  items-use : {s r : List Word} {es : Patterns} → Items s r es → NoArrow r → Uses s r (names_in_all es)
  items-use (no_item {r}) o = keeps-none uses_within word_heads NoArrow r o
  items-use (item h k) o =
      let i = items-use k o in
      keeps-both uses_within word_heads NoArrow (prefixed-uses h i.onward) i

  alternatives-use : {s r : List Word} {bs : Patterns} → Alternatives s r bs → NoArrow r → Uses s r (names_in_all bs)
  alternatives-use (only {xs = es} h) o = keeps-names uses_within word_heads NoArrow
      (sequence-names es ∙ sym (append-nil (names_in (sequence es)))) (items-use h o)
  alternatives-use (further {xs = es} h a) o =
      keeps-both uses_within word_heads NoArrow
      (one-within Slash tt (keeps-names uses_within word_heads NoArrow (sequence-names es) (items-use h tt)))
      (alternatives-use a o)

  expression-uses : {s r : List Word} {x : Pattern} → Expression s r x → NoArrow r → Uses s r (names_in x)
  expression-uses (expression {ys = bs} h) o = keeps-names uses_within word_heads NoArrow (choice-names bs)
      (alternatives-use h o)

-- the words report the rules
record ReportRules (ws : List Word) (rules : List Rule) : Type 0 where
  uses_are : (within : Option ℕ) → word_uses within ws ≡ flat_map (λ r. placed r.start r.uses) (tree_rules rules)
  heads_are : word_heads ws ≡ map (λ r. (r.name, r.start, r.adds)) (tree_rules rules)
  onward : NoArrow ws

grammar-reports : {ws : List Word} {rules : List Rule} → Grammar ws rules → ReportRules ws rules
grammar-reports (last_definition {n} {p} {s} {x} h) =
    let k = expression-uses h tt in
    record {
      uses_are = λ within. skip-uses Arrow tt s p.start ∙ k.uses_are p.start;
      heads_are = ap (λ (hs : List Heading). (n, p.start, false) ∷ hs) (skip-heads Arrow tt s ∙ k.heads_are);
      onward = tt;
    }
grammar-reports (more_definitions {n} {p} {s} {m} {x} h g) =
    let i = grammar-reports g in
    let k = expression-uses h i.onward in
    record {
      uses_are = λ within. skip-uses Arrow tt s p.start ∙ k.uses_are p.start
          ∙ ap (λ (us : List (ℕ × List ℕ)). placed p.start (names_in x) ++ us) (i.uses_are (Some p.start));
      heads_are = ap (λ (hs : List Heading). (n, p.start, false) ∷ hs)
          (skip-heads Arrow tt s ∙ k.heads_are ∙ i.heads_are);
      onward = tt;
    }

module _ (text : List ℕ) where
  abbrev token_uses : Option ℕ → List Tok → List (ℕ × List ℕ)
  token_uses within ts = placed_uses (mentions_in Any text within (map (sign_at sign_of) ts))

  abbrev token_heads : List Tok → List Heading
  token_heads ts = headings (definitions_in Any text (map (sign_at sign_of) ts))

  uses-step : {t u : Tok} {w v : Word} (within : Option ℕ) → Says t w → Says u v → (ts : List Tok) (ws : List Word)
      → ((d : Option ℕ) → token_uses d (u ∷ ts) ≡ word_uses d (v ∷ ws))
      → token_uses within (t ∷ u ∷ ts) ≡ word_uses within (w ∷ v ∷ ws)
  uses-step within (says_name {z} {p}) says_arrow ts ws same = same (Some p.start)
  uses-step None says_name k ts ws same = same None
  uses-step (Some d) (says_name {z} {p}) k ts ws same =
      ap (λ (us : List (ℕ × List ℕ)). (d, z) ∷ us) (same (Some d))
  uses-step None h k ts ws same = same None
  uses-step (Some d) h k ts ws same = same (Some d)

  heads-step : {t u : Tok} {w v : Word} → Says t w → Says u v → (ts : List Tok) (ws : List Word)
      → token_heads (u ∷ ts) ≡ word_heads (v ∷ ws) → token_heads (t ∷ u ∷ ts) ≡ word_heads (w ∷ v ∷ ws)
  heads-step (says_name {z} {p}) says_arrow ts ws same = ap (λ (hs : List Heading). (z, p.start, false) ∷ hs) same
  heads-step says_name k ts ws same = same
  heads-step h k ts ws same = same

  tokens-use : {ts : List Tok} {ws : List Word} → SayAll ts ws → (within : Option ℕ)
      → token_uses within ts ≡ word_uses within ws
  tokens-use say_none within = refl
  tokens-use (say_more h say_none) within = refl
  tokens-use (say_more h (say_more {ts} {ws} k hs)) within =
      uses-step within h k ts ws (tokens-use (say_more k hs))

  tokens-head : {ts : List Tok} {ws : List Word} → SayAll ts ws → token_heads ts ≡ word_heads ws
  tokens-head say_none = refl
  tokens-head (say_more h say_none) = refl
  tokens-head (say_more h (say_more {ts} {ws} k hs)) = heads-step h k ts ws (tokens-head (say_more k hs))

pub tree-reported : (text : List ℕ) (tokens : List Tok) (definitions : List Rule)
    → AreTokens (length text) text tokens → Reads text definitions
    → ReportTree (definitions_in Any text (map (sign_at sign_of) tokens))
    (mentions_in Any text None (map (sign_at sign_of) tokens)) (tree_rules definitions)
tree-reported text tokens definitions are h =
    let same : h.tokens ≡ tokens = tokens-one h.are_tokens are in
    let g = grammar-reports h.grammar in
    let there : ReportTree (definitions_in Any text (map (sign_at sign_of) h.tokens))
    (mentions_in Any text None (map (sign_at sign_of) h.tokens)) (tree_rules definitions) = record {
      definitions_are = tokens-head text h.say ∙ g.heads_are;
      uses_are = tokens-use text h.say None ∙ g.uses_are None;
    } in
    rw same at there
