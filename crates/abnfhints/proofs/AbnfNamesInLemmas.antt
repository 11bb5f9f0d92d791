-- The names among the tokens of a text are those of its tree.
-- Serves: no_name_left_out
use Rattle.std.proofs.Common.{◌≡◌, ℕ, Bool, true, false, Option, Some, None, List, [], ◌∷◌, ◌++◌, map, refl}
use Rattle.std.proofs.Common.{sym, ◌∙◌, ap, append-nil, flat_map}
use Rattle.ruletable.specs.declared.lines.LineRule.TheVariants.{Lf}
use Rattle.ruletable.specs.declared.span.Span.{Span}
use Rattle.lexer.specs.TokenLists.{Tok}
use Rattle.lexer.specs.Viability.{say_none, say_more}
use Rattle.diagnostics.specs.BodyMentions.{mentions_in}
use Rattle.diagnostics.specs.DefinitionHeads.{definitions_in, sign_at}
use Rattle.diagnostics.specs.ReportedTrees.{Heading, headings, placed_uses, ReportTree}
use Rattle.diagnostics.proofs.ReportTreeLemmas.{placed, Keeps, keeps-none, keeps-both, keeps-names, keeps-before}
use Rattle.diagnostics.proofs.ReportTreeLemmas.{keeps-after}
use Rattle.abnfcheck.specs.AbnfUses.{names_in, names_in_all}
use Rattle.abnfread.specs.declared.kind.AbnfKind.{AbnfKind}
use Rattle.abnfread.specs.AbnfReading.{Reads}
use Rattle.abnfread.specs.AbnfSays.{says_name, says_is, says_adds}
use Rattle.abnfread.specs.AbnfSays.{says_num}
use Rattle.abnfread.specs.AbnfSays.{Says, says, SayAll}
use Rattle.abnfread.specs.AbnfSpelling.{concatenation, alternation, OneElement, name, text, values, range, prose}
use Rattle.abnfread.specs.AbnfSpelling.{parens, brackets, Repetition, once, repeated, Parts, one, further, Alternatives}
use Rattle.abnfread.specs.AbnfSpelling.{only, others, Alternation, alternatives, Assigns, defines, extends, Grammar}
use Rattle.abnfread.specs.AbnfSpelling.{last_rule, more_rules}
use Rattle.abnfread.specs.AbnfWords.{Said, Word, word, Name, Is, Adds, Slash, LParen, RParen, LBrack, RBrack, Repeat}
use Rattle.abnfread.specs.AbnfWords.{Text, Values, Range, Prose}
use Rattle.abnfread.specs.Element.{Element, Elements, none, more, Definition}
use Rattle.abnfread.specs.MarkedTokens.{Marked, tok_of, marks, margin, AreTokens}
use Rattle.abnfread.specs.Numerals.{says_values, says_range}
use Rattle.abnfread.proofs.AbnfFaultLemmas.{marked-one}
use Rattle.abnfexplain.specs.AbnfNoteLines.{sign_of}
use Rattle.abnfexplain.proofs.AbnfExplainedLemmas.{marks-tokens}
use Rattle.abnfhints.specs.AbnfTrees.{tree_definitions}

-- the names that words use, each with the position of the definition around it
abbrev word_uses : Option ℕ → List Word → List (ℕ × List ℕ)
word_uses within [] = []
word_uses within (w ∷ []) = []
word_uses within (word g f (Name n p) ∷ word h e Is ∷ ws) = word_uses (Some p.start) (word h e Is ∷ ws)
word_uses within (word g f (Name n p) ∷ word h e Adds ∷ ws) = word_uses (Some p.start) (word h e Adds ∷ ws)
word_uses (Some d) (word g f (Name n p) ∷ v ∷ ws) = (d, n) ∷ word_uses (Some d) (v ∷ ws)
word_uses within (w ∷ v ∷ ws) = word_uses within (v ∷ ws)

-- the definitions that they begin
abbrev word_heads : List Word → List Heading
word_heads [] = []
word_heads (w ∷ []) = []
word_heads (word g f (Name n p) ∷ word h e Is ∷ ws) = (n, p.start, false) ∷ word_heads (word h e Is ∷ ws)
word_heads (word g f (Name n p) ∷ word h e Adds ∷ ws) = (n, p.start, true) ∷ word_heads (word h e Adds ∷ ws)
word_heads (w ∷ v ∷ ws) = word_heads (v ∷ ws)

abbrev uses_within : ℕ → List Word → List (ℕ × List ℕ)
uses_within d ws = word_uses (Some d) ws

-- neither `=` nor `=/` is first
abbrev NoSign : List Word → Type 0
NoSign [] = ⊥
NoSign (word g f Is ∷ ws) = ⊥
NoSign (word g f Adds ∷ ws) = ⊥
NoSign _ = Unit {0}

abbrev NoName : Said → Type 0
NoName (Name n p) = ⊥
NoName _ = Unit {0}

skip-uses : (g f : Bool) (s : Said) → NoName s → (ws : List Word) (d : ℕ)
    → uses_within d (word g f s ∷ ws) ≡ uses_within d ws
skip-uses g f s h [] d = refl
skip-uses g f (Name n p) h (v ∷ ws) d = absurd h
skip-uses g f s h (v ∷ ws) d = refl

skip-heads : (g f : Bool) (s : Said) → NoName s → (ws : List Word) → word_heads (word g f s ∷ ws) ≡ word_heads ws
skip-heads g f s h [] = refl
skip-heads g f (Name n p) h (v ∷ ws) = absurd h
skip-heads g f s h (v ∷ ws) = refl

name-used : (g f : Bool) (n : List ℕ) (p : Span) (ws : List Word) → NoSign ws → (d : ℕ)
    → uses_within d (word g f (Name n p) ∷ ws) ≡ (d, n) ∷ uses_within d ws
name-used g f n p [] o d = absurd o
name-used g f n p (word h e Is ∷ ws) o d = absurd o
name-used g f n p (word h e Adds ∷ ws) o d = absurd o
name-used g f n p (word h e s ∷ ws) o d = refl

name-heads : (g f : Bool) (n : List ℕ) (p : Span) (ws : List Word) → NoSign ws
    → word_heads (word g f (Name n p) ∷ ws) ≡ word_heads ws
name-heads g f n p [] o = absurd o
name-heads g f n p (word h e Is ∷ ws) o = absurd o
name-heads g f n p (word h e Adds ∷ ws) o = absurd o
name-heads g f n p (word h e s ∷ ws) o = refl

abbrev Uses : List Word → List Word → List (List ℕ) → Type 0
Uses = Keeps uses_within word_heads NoSign

one-more : (g f : Bool) (s : Said) → NoName s → {ws r : List Word} {names : List (List ℕ)} → NoSign (word g f s ∷ ws)
    → Uses ws r names → Uses (word g f s ∷ ws) r names
one-more g f s h {ws} o k =
    keeps-before uses_within word_heads NoSign (word g f s) (skip-uses g f s h ws) (skip-heads g f s h ws) o k

one-within : (g f : Bool) (s : Said) → NoName s → {ws r : List Word} {names : List (List ℕ)}
    → Uses ws (word g f s ∷ r) names → Uses ws r names
one-within g f s h {r = r} k =
    keeps-after uses_within word_heads NoSign (word g f s) (skip-uses g f s h r) (skip-heads g f s h r) k

-- a word alone
word-alone : (g f : Bool) (s : Said) → NoName s → (r : List Word) → NoSign r → NoSign (word g f s ∷ r)
    → Uses (word g f s ∷ r) r []
word-alone g f s h r o k = one-more g f s h k (keeps-none uses_within word_heads NoSign r o)

concatenation-names : (es : Elements) → names_in_all es ≡ names_in (concatenation es)
concatenation-names none = refl
concatenation-names (more e none) = append-nil (names_in e)
concatenation-names (more e (more f es)) = refl

alternation-names : (es : Elements) → names_in_all es ≡ names_in (alternation es)
alternation-names none = refl
alternation-names (more e none) = append-nil (names_in e)
alternation-names (more e (more f es)) = refl

mutual
  element-uses : {s r : List Word} {x : Element} → OneElement s r x → NoSign r → Uses s r (names_in x)
  element-uses (name {g} {n} {p} {r}) o =
      record { uses_are = name-used g false n p r o; heads_are = name-heads g false n p r o; onward = tt }
  element-uses (text {g} {c} {t} {r}) o = word-alone g false (Text c t) tt r o tt
  element-uses (values {g} {vs} {r}) o = word-alone g false (Values vs) tt r o tt
  element-uses (range {g} {a} {b} {r}) o = word-alone g false (Range a b) tt r o tt
  element-uses (prose {g} {t} {r}) o = word-alone g false (Prose t) tt r o tt
  element-uses (parens {g} {h} k) o =
      one-more g false LParen tt tt (one-within h false RParen tt (alternation-uses k tt))
  element-uses (brackets {g} {h} k) o =
      one-more g false LBrack tt tt (one-within h false RBrack tt (alternation-uses k tt))

  repetition-uses : {s r : List Word} {x : Element} → Repetition s r x → NoSign r → Uses s r (names_in x)
  repetition-uses (once h) o = element-uses h o
  repetition-uses (repeated {g} {a} {b} n h) o = one-more g false (Repeat a b) tt tt (element-uses h o)

  parts-use : {s r : List Word} {es : Elements} → Parts s r es → NoSign r → Uses s r (names_in_all es)
  parts-use (one {x} h) o =
      keeps-names uses_within word_heads NoSign (sym (append-nil (names_in x))) (repetition-uses h o)
  parts-use (further h n k) o =
      let i = parts-use k o in
      keeps-both uses_within word_heads NoSign (repetition-uses h i.onward) i

  alternatives-use : {s r : List Word} {es : Elements} → Alternatives s r es → NoSign r → Uses s r (names_in_all es)
  alternatives-use (only {xs = es} h) o = keeps-names uses_within word_heads NoSign
      (concatenation-names es ∙ sym (append-nil (names_in (concatenation es)))) (parts-use h o)
  alternatives-use (others {g} {xs = es} h a) o =
      keeps-both uses_within word_heads NoSign
      (one-within g false Slash tt
      (keeps-names uses_within word_heads NoSign (concatenation-names es) (parts-use h tt)))
      (alternatives-use a o)

  alternation-uses : {s r : List Word} {x : Element} → Alternation s r x → NoSign r → Uses s r (names_in x)
  alternation-uses (alternatives {ys = es} h) o = keeps-names uses_within word_heads NoSign (alternation-names es)
      (alternatives-use h o)

-- the words report the definitions
record ReportRules (ws : List Word) (ds : List Definition) : Type 0 where
  uses_are : (within : Option ℕ) → word_uses within ws ≡ flat_map (λ r. placed r.start r.uses) (tree_definitions ds)
  heads_are : word_heads ws ≡ map (λ r. (r.name, r.start, r.adds)) (tree_definitions ds)
  onward : NoSign ws

assigns-uses : {w : Word} {a : Bool} → Assigns w a → (g f : Bool) (n : List ℕ) (p : Span) (ws : List Word)
    (within : Option ℕ) → word_uses within (word g f (Name n p) ∷ w ∷ ws) ≡ uses_within p.start ws
assigns-uses (defines {g = h}) g f n p ws within = skip-uses h false Is tt ws p.start
assigns-uses (extends {g = h}) g f n p ws within = skip-uses h false Adds tt ws p.start

assigns-heads : {w : Word} {a : Bool} → Assigns w a → (g f : Bool) (n : List ℕ) (p : Span) (ws : List Word)
    → word_heads (word g f (Name n p) ∷ w ∷ ws) ≡ (n, p.start, a) ∷ word_heads ws
assigns-heads (defines {g = h}) g f n p ws =
    ap (λ (hs : List Heading). (n, p.start, false) ∷ hs) (skip-heads h false Is tt ws)
assigns-heads (extends {g = h}) g f n p ws =
    ap (λ (hs : List Heading). (n, p.start, true) ∷ hs) (skip-heads h false Adds tt ws)

grammar-reports : {ws : List Word} {ds : List Definition} → Grammar ws ds → ReportRules ws ds
grammar-reports (last_rule {g} {a = a} {n} {p} {s = s} is h) =
    let k = alternation-uses h tt in
    record {
      uses_are = λ within. assigns-uses is g true n p s within ∙ k.uses_are p.start;
      heads_are = assigns-heads is g true n p s ∙ ap (λ (hs : List Heading). (n, p.start, a) ∷ hs) k.heads_are;
      onward = tt;
    }
grammar-reports (more_rules {g} {a} {n} {p} {s = s} {x = x} is h after) =
    let i = grammar-reports after in
    let k = alternation-uses h i.onward in
    record {
      uses_are = λ within. assigns-uses is g true n p s within ∙ k.uses_are p.start
          ∙ ap (λ (us : List (ℕ × List ℕ)). placed p.start (names_in x) ++ us) (i.uses_are (Some p.start));
      heads_are = assigns-heads is g true n p s
          ∙ ap (λ (hs : List Heading). (n, p.start, a) ∷ hs) (k.heads_are ∙ i.heads_are);
      onward = tt;
    }

module _ (z : List ℕ) where
  abbrev token_uses : Option ℕ → List Marked → List (ℕ × List ℕ)
  token_uses within ms = placed_uses (mentions_in Lf z within (map (sign_at sign_of) (map tok_of ms)))

  abbrev token_heads : List Marked → List Heading
  token_heads ms = headings (definitions_in Lf z (map (sign_at sign_of) (map tok_of ms)))

  uses-step : {m l : Marked} {w v : Word} (within : Option ℕ) → Says m w → Says l v → (ms : List Marked)
      (ws : List Word) → ((d : Option ℕ) → token_uses d (l ∷ ms) ≡ word_uses d (v ∷ ws))
      → token_uses within (m ∷ l ∷ ms) ≡ word_uses within (w ∷ v ∷ ws)
  uses-step within (says (says_name {z = n} {p})) (says says_is) ms ws same = same (Some p.start)
  uses-step within (says (says_name {z = n} {p})) (says says_adds) ms ws same = same (Some p.start)
  uses-step None (says says_name) (says (says_num (says_values a b))) ms ws same = same None
  uses-step None (says says_name) (says (says_num (says_range a b c d))) ms ws same = same None
  uses-step None (says says_name) (says k) ms ws same = same None
  uses-step (Some d) (says (says_name {z = n} {p})) (says (says_num (says_values a b))) ms ws same =
      ap (λ (us : List (ℕ × List ℕ)). (d, n) ∷ us) (same (Some d))
  uses-step (Some d) (says (says_name {z = n} {p})) (says (says_num (says_range a b c e))) ms ws same =
      ap (λ (us : List (ℕ × List ℕ)). (d, n) ∷ us) (same (Some d))
  uses-step (Some d) (says (says_name {z = n} {p})) (says k) ms ws same =
      ap (λ (us : List (ℕ × List ℕ)). (d, n) ∷ us) (same (Some d))
  uses-step None (says (says_num (says_values a b))) k ms ws same = same None
  uses-step None (says (says_num (says_range a b c d))) k ms ws same = same None
  uses-step None (says h) k ms ws same = same None
  uses-step (Some d) (says (says_num (says_values a b))) k ms ws same = same (Some d)
  uses-step (Some d) (says (says_num (says_range a b c e))) k ms ws same = same (Some d)
  uses-step (Some d) (says h) k ms ws same = same (Some d)

  heads-step : {m l : Marked} {w v : Word} → Says m w → Says l v → (ms : List Marked) (ws : List Word)
      → token_heads (l ∷ ms) ≡ word_heads (v ∷ ws) → token_heads (m ∷ l ∷ ms) ≡ word_heads (w ∷ v ∷ ws)
  heads-step (says (says_name {z = n} {p})) (says says_is) ms ws same =
      ap (λ (hs : List Heading). (n, p.start, false) ∷ hs) same
  heads-step (says (says_name {z = n} {p})) (says says_adds) ms ws same =
      ap (λ (hs : List Heading). (n, p.start, true) ∷ hs) same
  heads-step (says says_name) (says (says_num (says_values a b))) ms ws same = same
  heads-step (says says_name) (says (says_num (says_range a b c d))) ms ws same = same
  heads-step (says says_name) (says k) ms ws same = same
  heads-step (says (says_num (says_values a b))) k ms ws same = same
  heads-step (says (says_num (says_range a b c d))) k ms ws same = same
  heads-step (says h) k ms ws same = same

  tokens-use : {ms : List Marked} {ws : List Word} → SayAll ms ws → (within : Option ℕ)
      → token_uses within ms ≡ word_uses within ws
  tokens-use say_none within = refl
  tokens-use (say_more h say_none) within = refl
  tokens-use (say_more h (say_more {ts = ms} {ws} k hs)) within =
      uses-step within h k ms ws (tokens-use (say_more k hs))

  tokens-head : {ms : List Marked} {ws : List Word} → SayAll ms ws → token_heads ms ≡ word_heads ws
  tokens-head say_none = refl
  tokens-head (say_more h say_none) = refl
  tokens-head (say_more h (say_more {ts = ms} {ws} k hs)) = heads-step h k ms ws (tokens-head (say_more k hs))

pub tree-reported : (z : List ℕ) (tokens : List (Tok AbnfKind)) (definitions : List Definition) → AreTokens z tokens
    → Reads z definitions → ReportTree (definitions_in Lf z (map (sign_at sign_of) tokens))
    (mentions_in Lf z None (map (sign_at sign_of) tokens)) (tree_definitions definitions)
tree-reported z tokens definitions are h =
    let marked_same = marked-one z h.tokens (marks z (margin z tokens) 0 tokens) h.are_tokens
    (record { tokens = tokens; are_tokens = are; same = refl }) in
    let same : map tok_of h.tokens ≡ tokens = ap (map tok_of) marked_same ∙ marks-tokens z (margin z tokens) 0 tokens in
    let g = grammar-reports h.grammar in
    let there : ReportTree (definitions_in Lf z (map (sign_at sign_of) (map tok_of h.tokens)))
    (mentions_in Lf z None (map (sign_at sign_of) (map tok_of h.tokens))) (tree_definitions definitions) = record {
      definitions_are = tokens-head z h.say ∙ g.heads_are;
      uses_are = tokens-use z h.say None ∙ g.uses_are None;
    } in
    rw same at there
