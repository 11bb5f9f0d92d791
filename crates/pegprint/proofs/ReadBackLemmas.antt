-- Printing never nests deeper than the source, and the canonical text is read as the rules again.
-- Serves: is_read_back, print_peg
use Rattle.std.proofs.Common.{◌≡◌, ℕ, suc, ◌+◌, ◌≤◌, max, Bool, true, false, List, [], ◌∷◌, sym, subst, arith}
use Rattle.std.proofs.Common.{length, ap, ◌∙◌}
use Rattle.pegprint.specs.declared.position.Context.{Context}
use Rattle.pegprint.specs.declared.position.Context.TheVariants.{Alternative, Member, OfPrefix, OfAmp, OfSuffix}
use Rattle.pegprint.specs.Brackets.{wraps, is_act}
use Rattle.pegread.specs.Limits.{IsShallow}
use Rattle.pegread.specs.Pattern.{Pattern, Any, Bytes, Set, Name, Seq, Choice, Opt, And, Not, Act, Open, Close}
use Rattle.pegread.specs.Pattern.{Patterns, none, more, Rule}
use Rattle.pegread.specs.Spelling.{sequence, choice, NoAction, Primary, name, literal, class, dot, action, begin}
use Rattle.pegread.specs.Spelling.{end_cap, parens, Suffixed, bare, quest, star, plus, Prefixed, plain, bang, amp}
use Rattle.pegread.specs.Spelling.{Items, no_item, item, Alternatives, only, further, Expression, expression, Grammar}
use Rattle.pegread.specs.Spelling.{last_definition, more_definitions}
use Rattle.lexer.specs.TokenLists.{tok}
use Rattle.pegread.specs.Tokens.{Tok}
use Rattle.lexer.specs.Viability.{say_none, say_more}
use Rattle.pegread.specs.Words.{Word, Says, says_lparen, says_rparen, SayAll}
use Rattle.pegread.proofs.IsShallowLemmas.{after_word, word-opens}
use Rattle.pegprint.proofs.ListedRulesLemmas.{within, listed, listed_members, listed_alternatives, listed_more}
use Rattle.pegprint.proofs.ListedRulesLemmas.{listed_rules, spelled-rules}
use Rattle.pegprint.proofs.SameWordsLemmas.{same_word, same_name, SameWords, same_none, same_more, grammar-again}
use Rattle.pegprint.proofs.SameWordsLemmas.{spans-unseen}
use Rattle.pegread.specs.declared.expr.Expr.{Expr}
use Rattle.lexer.specs.declared.limits.TheConstants.{MAX_GRAMMAR, MAX_OPEN}
use Rattle.pegprint.specs.Canon.{grammar_text}
use Rattle.pegread.specs.Formed.{AreBytes}
use Rattle.pegprint.specs.ReadBack.{ReadsAs, IsRead}
use Rattle.pegread.specs.Reading.{Reads}
use Rattle.pegread.specs.PegViews.{rules_of}
use Rattle.pegprint.proofs.CutsLemmas.{cuts-placed, cuts-rules}
use Rattle.pegread.proofs.IsFaultOfLemmas.{one-reading}
use Rattle.pegprint.proofs.ReadsFormedLemmas.{reads-formed}
use Rattle.pegread.proofs.IsTableOfLemmas.{none-again}
use Rattle.pegread.specs.Pattern as e
use Rattle.pegread.specs.Words as words
use Rattle.ruletable.specs.Rules as table

-- with d brackets open before the words, at most m are open anywhere in them
abbrev pub StaysIn : ℕ → ℕ → List Word → Type 0
StaysIn m d [] = d ≤ m
StaysIn m d (w ∷ ws) = (d ≤ m) × StaysIn m (after_word w d) ws

pub words-stay : (m d : ℕ) {ts : List Tok} {ws : List Word} → SayAll ts ws → IsShallow m d ts → StaysIn m d ws
words-stay m d say_none h = h
words-stay m d (say_more {t = tok k z p} {ts = ts} y ys) h =
    (h.0, words-stay m _ ys (subst (λ (n : ℕ). IsShallow m n ts) (sym (word-opens d y)) h.1))

pub tokens-stay : (m d : ℕ) {ts : List Tok} {ws : List Word} → SayAll ts ws → StaysIn m d ws → IsShallow m d ts
tokens-stay m d say_none h = h
tokens-stay m d (say_more {t = tok k z p} {ws = ws} y ys) h =
    (h.0, tokens-stay m _ ys (subst (λ (n : ℕ). StaysIn m n ws) (word-opens d y) h.1))

pub same-stay : (m d : ℕ) {vs ws : List Word} → SameWords vs ws → StaysIn m d vs → StaysIn m d ws
same-stay m d same_none h = h
same-stay m d (same_more same_word k) h = (h.0, same-stay m _ k h.1)
same-stay m d (same_more same_name k) h = (h.0, same-stay m _ k h.1)

abbrev lift : Bool → ℕ → ℕ
lift true n = suc n
lift false n = n

-- how deeply the canonical words nest
abbrev mutual
  nest : Pattern → ℕ
  nest (Name n) = 0
  nest (Bytes bs) = 0
  nest (Set f) = 0
  nest Any = 0
  nest (Act t) = 0
  nest Open = 0
  nest Close = 0
  nest (Opt x) = lift (wraps OfSuffix x) (nest x)
  nest (e.Star x) = lift (wraps OfSuffix x) (nest x)
  nest (e.Plus x) = lift (wraps OfSuffix x) (nest x)
  nest (And x) = lift (wraps OfAmp x) (nest x)
  nest (Not x) = lift (wraps OfPrefix x) (nest x)
  nest (Seq es) = nest_all Member es
  nest (Choice es) = nest_all Alternative es

  nest_all : Context → Patterns → ℕ
  nest_all p none = 0
  nest_all p (more x es) = max (lift (wraps p x) (nest x)) (nest_all p es)

abbrev nest_at : Context → Pattern → ℕ
nest_at p x = lift (wraps p x) (nest x)

-- words before whatever follows
record Keeps (n : ℕ) (f : List Word → List Word) : Type 0 where
  keeps : (m d : ℕ) (ws : List Word) → d + n ≤ m → StaysIn m d ws → StaysIn m d (f ws)

keeps-within : {n : ℕ} {f : List Word → List Word} (b : Bool) → Keeps n f → Keeps (lift b n) (within b f)
keeps-within true k = record { keeps = λ m d ws h s. (omega arith, k.keeps m (suc d) _ (omega arith) (omega arith, s)) }
keeps-within false k = k

keeps-both : {n l : ℕ} {f g : List Word → List Word} → Keeps n f → Keeps l g → Keeps (max n l) (λ ws. f (g ws))
keeps-both k i = record { keeps = λ m d ws h s. k.keeps m d _ (omega arith) (i.keeps m d ws (omega arith) s) }

keeps-nothing : Keeps 0 (λ ws. ws)
keeps-nothing = record { keeps = λ m d ws h s. s }

mutual
  listed-keeps : (x : Pattern) → Keeps (nest x) (listed x)
  listed-keeps (Name n) = record { keeps = λ m d ws h s. (omega arith, s) }
  listed-keeps (Bytes bs) = record { keeps = λ m d ws h s. (omega arith, s) }
  listed-keeps (Set f) = record { keeps = λ m d ws h s. (omega arith, s) }
  listed-keeps Any = record { keeps = λ m d ws h s. (omega arith, s) }
  listed-keeps (Act t) = record { keeps = λ m d ws h s. (omega arith, s) }
  listed-keeps Open = record { keeps = λ m d ws h s. (omega arith, s) }
  listed-keeps Close = record { keeps = λ m d ws h s. (omega arith, s) }
  listed-keeps (Opt x) = let k = keeps-within (wraps OfSuffix x) (listed-keeps x) in
      record { keeps = λ m d ws h s. k.keeps m d _ h (omega arith, s) }
  listed-keeps (e.Star x) = let k = keeps-within (wraps OfSuffix x) (listed-keeps x) in
      record { keeps = λ m d ws h s. k.keeps m d _ h (omega arith, s) }
  listed-keeps (e.Plus x) = let k = keeps-within (wraps OfSuffix x) (listed-keeps x) in
      record { keeps = λ m d ws h s. k.keeps m d _ h (omega arith, s) }
  listed-keeps (And x) = let k = keeps-within (wraps OfAmp x) (listed-keeps x) in
      record { keeps = λ m d ws h s. (omega arith, k.keeps m d ws h s) }
  listed-keeps (Not x) = let k = keeps-within (wraps OfPrefix x) (listed-keeps x) in
      record { keeps = λ m d ws h s. (omega arith, k.keeps m d ws h s) }
  listed-keeps (Seq es) = members-keep es
  listed-keeps (Choice es) = alternatives-keep es

  members-keep : (es : Patterns) → Keeps (nest_all Member es) (listed_members es)
  members-keep none = keeps-nothing
  members-keep (more x es) = keeps-both (keeps-within (wraps Member x) (listed-keeps x)) (members-keep es)

  alternatives-keep : (es : Patterns) → Keeps (nest_all Alternative es) (listed_alternatives es)
  alternatives-keep none = keeps-nothing
  alternatives-keep (more x es) = keeps-both (keeps-within (wraps Alternative x) (listed-keeps x)) (more-keep es)

  more-keep : (es : Patterns) → Keeps (nest_all Alternative es) (listed_more es)
  more-keep none = keeps-nothing
  more-keep (more x es) =
      let k = keeps-both (keeps-within (wraps Alternative x) (listed-keeps x)) (more-keep es) in
      record { keeps = λ m d ws h s. (omega arith, k.keeps m d ws h s) }

-- what a spelled list says of the pattern: it nests as deeply, and so does what follows
record Holds (m d n : ℕ) (r : List Word) : Type 0 where
  low : d + n ≤ m
  rest : StaysIn m d r

lift-le : (b : Bool) (n : ℕ) → lift b n ≤ suc n
lift-le true n = omega arith
lift-le false n = omega arith

prefix-suffix : (x : Pattern) → nest_at OfPrefix x ≤ nest_at OfSuffix x
prefix-suffix (Opt x) = omega arith
prefix-suffix (e.Star x) = omega arith
prefix-suffix (e.Plus x) = omega arith
prefix-suffix (And x) = omega arith
prefix-suffix (Not x) = omega arith
prefix-suffix (Seq es) = omega arith
prefix-suffix (Choice es) = omega arith
prefix-suffix x = omega arith

member-prefix : (x : Pattern) → nest_at Member x ≤ nest_at OfPrefix x
member-prefix (And x) = omega arith
member-prefix (Not x) = omega arith
member-prefix (Seq es) = omega arith
member-prefix (Choice es) = omega arith
member-prefix x = omega arith

alternative-member : (x : Pattern) → nest_at Alternative x ≤ nest_at Member x
alternative-member (Seq es) = omega arith
alternative-member (Choice es) = omega arith
alternative-member x = omega arith

body-alternative : (x : Pattern) → nest x ≤ nest_at Alternative x
body-alternative (Choice es) = omega arith
body-alternative x = omega arith

sequence-nest : (es : Patterns) → nest_at Alternative (sequence es) ≤ nest_all Member es
sequence-nest none = omega arith
sequence-nest (more x none) = let h = alternative-member x in omega arith
sequence-nest (more x (more y es)) = omega arith

choice-nest : (es : Patterns) → nest (choice es) ≤ nest_all Alternative es
choice-nest none = omega arith
choice-nest (more x none) = let h = body-alternative x in omega arith
choice-nest (more x (more y es)) = omega arith

stays-low : (m d : ℕ) (ws : List Word) → StaysIn m d ws → d ≤ m
stays-low m d [] h = h
stays-low m d (w ∷ ws) h = h.0

act-suffix : (x : Pattern) → lift (is_act x) (nest_at OfSuffix x) ≤ suc (nest x)
act-suffix (Act t) = omega arith
act-suffix x = lift-le (wraps OfSuffix x) (nest x)

amp-suffix : (x : Pattern) → nest_at OfAmp x ≤ lift (is_act x) (nest_at OfSuffix x)
amp-suffix (Opt x) = lift-le (is_act x) (nest (Opt x))
amp-suffix (e.Star x) = lift-le (is_act x) (nest (e.Star x))
amp-suffix (e.Plus x) = lift-le (is_act x) (nest (e.Plus x))
amp-suffix x = omega arith

mutual
  primary-holds : {s r : List Word} {x : Pattern} → Primary s r x → (m d : ℕ) → StaysIn m d s
      → Holds m d (nest_at OfSuffix x) r
  primary-holds name m d w = record { low = omega arith; rest = w.1 }
  primary-holds literal m d w = record { low = omega arith; rest = w.1 }
  primary-holds class m d w = record { low = omega arith; rest = w.1 }
  primary-holds dot m d w = record { low = omega arith; rest = w.1 }
  primary-holds action m d w = record { low = omega arith; rest = w.1 }
  primary-holds begin m d w = record { low = omega arith; rest = w.1 }
  primary-holds end_cap m d w = record { low = omega arith; rest = w.1 }
  primary-holds (parens {x = x} h) m d w = let g = expression-holds h m (suc d) w.1 in let l =
      lift-le (wraps OfSuffix x) (nest x) in record { low = omega arith; rest = g.rest.1 }

  -- one that begins with no action
  amp-holds : {s r : List Word} {x : Pattern} → NoAction s → Primary s r x → (m d : ℕ) → StaysIn m d s
      → Holds m d (lift (is_act x) (nest_at OfSuffix x)) r
  amp-holds n name m d w = record { low = omega arith; rest = w.1 }
  amp-holds n literal m d w = record { low = omega arith; rest = w.1 }
  amp-holds n class m d w = record { low = omega arith; rest = w.1 }
  amp-holds n dot m d w = record { low = omega arith; rest = w.1 }
  amp-holds n action m d w = absurd n
  amp-holds n begin m d w = record { low = omega arith; rest = w.1 }
  amp-holds n end_cap m d w = record { low = omega arith; rest = w.1 }
  amp-holds n (parens {x = x} h) m d w = let g = expression-holds h m (suc d) w.1 in let l = act-suffix x in
      record { low = omega arith; rest = g.rest.1 }

  suffixed-holds : {s r : List Word} {x : Pattern} → Suffixed s r x → (m d : ℕ) → StaysIn m d s
      → Holds m d (nest_at OfPrefix x) r
  suffixed-holds (bare {x = x} h) m d w = let g = primary-holds h m d w in let l = prefix-suffix x in
      record { low = omega arith; rest = g.rest }
  suffixed-holds (quest h) m d w = let g = primary-holds h m d w in record { low = g.low; rest = g.rest.1 }
  suffixed-holds (star h) m d w = let g = primary-holds h m d w in record { low = g.low; rest = g.rest.1 }
  suffixed-holds (plus h) m d w = let g = primary-holds h m d w in record { low = g.low; rest = g.rest.1 }

  operand-holds : {s r : List Word} {x : Pattern} → NoAction s → Suffixed s r x → (m d : ℕ) → StaysIn m d s
      → Holds m d (nest_at OfAmp x) r
  operand-holds n (bare {x = x} h) m d w = let g = amp-holds n h m d w in let l = amp-suffix x in
      record { low = omega arith; rest = g.rest }
  operand-holds n (quest h) m d w = let g = amp-holds n h m d w in record { low = g.low; rest = g.rest.1 }
  operand-holds n (star h) m d w = let g = amp-holds n h m d w in record { low = g.low; rest = g.rest.1 }
  operand-holds n (plus h) m d w = let g = amp-holds n h m d w in record { low = g.low; rest = g.rest.1 }

  prefixed-holds : {s r : List Word} {x : Pattern} → Prefixed s r x → (m d : ℕ) → StaysIn m d s
      → Holds m d (nest_at Member x) r
  prefixed-holds (plain {x = x} h) m d w = let g = suffixed-holds h m d w in let l = member-prefix x in
      record { low = omega arith; rest = g.rest }
  prefixed-holds (bang h) m d w = let g = suffixed-holds h m d w.1 in record { low = g.low; rest = g.rest }
  prefixed-holds (amp n h) m d w = let g = operand-holds n h m d w.1 in record { low = g.low; rest = g.rest }

  items-hold : {s r : List Word} {es : Patterns} → Items s r es → (m d : ℕ) → StaysIn m d s
      → Holds m d (nest_all Member es) r
  items-hold (no_item {r}) m d w = let l = stays-low m d r w in record { low = omega arith; rest = w }
  items-hold (item h k) m d w = let g = prefixed-holds h m d w in let i = items-hold k m d g.rest in let a = g.low in
      let b = i.low in record { low = omega arith; rest = i.rest }

  alternatives-hold : {s r : List Word} {bs : Patterns} → Alternatives s r bs → (m d : ℕ) → StaysIn m d s
      → Holds m d (nest_all Alternative bs) r
  alternatives-hold (only {xs = es} h) m d w = let i = items-hold h m d w in let l = sequence-nest es in
      record { low = omega arith; rest = i.rest }
  alternatives-hold (further {xs = es} h a) m d w = let i = items-hold h m d w in let l = sequence-nest es in let b =
      alternatives-hold a m d i.rest.1 in record { low = omega arith; rest = b.rest }

  expression-holds : {s r : List Word} {x : Pattern} → Expression s r x → (m d : ℕ) → StaysIn m d s
      → Holds m d (nest x) r
  expression-holds (expression {ys = bs} h) m d w = let a = alternatives-hold h m d w in let l = choice-nest bs in
      record { low = omega arith; rest = a.rest }

pub stays-again : {ws : List Word} {rules : List Rule} (m : ℕ) → Grammar ws rules → StaysIn m 0 ws
    → StaysIn m 0 (listed_rules rules)
stays-again m (last_definition {x = x} h) w =
    let g = expression-holds h m 0 w.1.1 in
    (omega arith, (omega arith, (listed-keeps x).keeps m 0 (words.End ∷ []) g.low (omega arith, omega arith)))
stays-again m (more_definitions {x = x} {rules = rules} h k) w =
    let g = expression-holds h m 0 w.1.1 in
    (omega arith, (omega arith, (listed-keeps x).keeps m 0 (listed_rules rules) g.low (stays-again m k g.rest)))

pub read-back : (source : List ℕ) (rules : List Rule) → AreBytes source → Reads source rules
    → length (grammar_text rules) ≤ MAX_GRAMMAR → ReadsAs (grammar_text rules) rules
read-back source rules w h le =
    let f = reads-formed source rules w h in
    let p = cuts-placed (length (grammar_text rules)) (omega arith) (cuts-rules rules f.1) in
    let g = grammar-again (spelled-rules rules f.0 f.1) p.same in
    let reads : Reads (grammar_text rules) g.again = record {
      within = le;
      tokens = p.tokens;
      are_tokens = p.are_tokens;
      words = p.words;
      say = p.say;
      grammar = g.grammar;
      shallow = tokens-stay MAX_OPEN 0 p.say (same-stay MAX_OPEN 0 p.same
          (stays-again MAX_OPEN h.grammar (words-stay MAX_OPEN 0 h.say h.shallow)));
    } in
    record {
      again = g.again;
      same = g.same;
      reads = reads;
      only = λ other k. one-reading (grammar_text rules) other g.again k reads;
    }

pub prints-itself : (source : List ℕ) (rules again : List Rule) → AreBytes source → Reads source rules
    → Reads (grammar_text rules) again → grammar_text again ≡ grammar_text rules
prints-itself source rules again w h k =
    let r = read-back source rules w h k.within in
    ap grammar_text (r.only again k) ∙ sym (spans-unseen rules r.again r.same)

-- where no name is defined again, the table's rules are the definitions
pub table-back : (source : List ℕ) (rules : table.Rules Expr) (redefined : List ℕ) → IsRead source rules redefined
    → length (grammar_text (rules_of rules)) ≤ MAX_GRAMMAR → ReadsAs (grammar_text (rules_of rules)) (rules_of rules)
table-back source rules redefined h le =
    let same : rules_of rules ≡ h.definitions = h.kept.kept
    ∙ none-again [] h.definitions (sym h.kept.again ∙ h.unique) in
    read-back source (rules_of rules) h.bytes (subst (λ (ds : List Rule). Reads source ds) (sym same) h.reads) le
