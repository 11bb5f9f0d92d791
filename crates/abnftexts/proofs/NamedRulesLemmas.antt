-- Names lose angle brackets step by step.
-- Serves: join_texts
use Rattle.std.proofs.Common.{◌≡◌, ◌≢◌, ℕ, ◌+◌, ◌<◌, ◌≤◌, ◌||◌, Bool, List, [], ◌∷◌, ◌++◌, codes, length, get_or, map}
use Rattle.std.proofs.Common.{take, drop, sym, ap, ◌∙◌, subst, append_assoc, append-nil, Global, Vec, true, false}
use Rattle.std.proofs.Common.{Option, None, Some, refl, option_map}
use Rattle.std.proofs.Math.Path.{fun_ext}
use Rattle.std.proofs.lemmas.List.{at_drop_all, map-append}
use Rattle.std.specs.List.{list_any}
use Rattle.lexer.specs.TokenLists.{Tok, tok_of, end_of, start_of}
use Rattle.lexer.specs.declared.token_iter.Token.{Token}
use Rattle.ruletable.specs.Rules.{Rules, same_name}
use Rattle.ruletable.specs.declared.table.NameCase.TheVariants.{Fold}
use Rattle.abnfread.specs.CoreRules.{core_names}
use Rattle.abnfread.specs.declared.kind.AbnfKind.{AbnfKind}
use Rattle.abnfblocks.specs.TextLines.{NumberedLine, numbered}
use Rattle.abnfblocks.specs.declared.rfctext.text_line.TextLine.{TextLine}
use Rattle.diagnostics.specs.NumberLists.{numbers_for}
use Rattle.abnftexts.specs.CodeUses.{is_defined}
use Rattle.abnftexts.specs.GivenRules.{text_rule, RuleGiven, is_same_rule}
use Rattle.abnftexts.specs.ListedRules.{ListNames, is_listed_for}
use Rattle.abnftexts.specs.NamedRules.{AreLinesNamed, IsLineNamed, bare_line, comment_of, next_line, no_lines}
use Rattle.abnftexts.specs.NamedRules.{token_named, tokens_named, SpellsNamed, source_of}
use Rattle.abnftexts.specs.UsedNames.{is_known_name}
use Rattle.abnftexts.specs.declared.join.given.GivenRule.{GivenRule}
use Rattle.abnftexts.proofs.ListNamesLemmas.{any-listed}
use Rattle.abnftexts.proofs.RulesTakenLemmas.{one-after}
use Rattle.std.specs.Char.{is_ascii_alphabetic}
use Rattle.std.specs.Prelude.{slice_get, unwrap_or}
use Rattle.std.specs.Option.{option_copied}
use Rattle.std.specs.Borrow.{Bor}
use Rattle.abnfread.specs.AbnfReading.{Reads}
use Rattle.abnfread.specs.Element.{Definition}
use Rattle.abnfread.proofs.AbnfFaultLemmas.{one-reading}
use Rattle.abnfblocks.specs.RuleLines.{begins_letter}
use Rattle.abnftexts.specs.TakenRules.{IsNamedOutcome, IsRuleOf}
use Rattle.abnftexts.specs.TextRules.{SpellRule, given_by}
use Rattle.abnftexts.specs.declared.join.by_name.Listed.TheVariants as kinds

-- what is listed for rules is what is known of them
pub names-known : (rules : List GivenRule) (names : Rules (Vec ℕ Global)) → ListNames kinds.Rules rules names
    → is_defined names ≡ is_known_name (map text_rule rules)
names-known rules names listed = fun_ext (λ (name : List ℕ).
    ap (λ (t : Bool). t || list_any (same_name Fold name) core_names)
    (any-listed (is_listed_for kinds.Rules) rules name (numbers_for names name) (listed.1 name)))

pub some-text : (text : List ℕ) → length text ≢ 0 → text ≢ []
some-text text some e = some (ap length e)

-- one token more
pub token-more : (known : List ℕ → Bool) (own line : List ℕ) (at : ℕ) (done : List (Token AbnfKind))
    (x : Token AbnfKind) (old middle new gap text : List ℕ) → gap ≡ drop at (take (start_of (tok_of x)) line)
    → text ≡ token_named known own (tok_of x) → middle ≡ old ++ gap → new ≡ middle ++ text
    → ((items : List (Tok AbnfKind)) → old ++ tokens_named known own line at items
    ≡ tokens_named known own line 0 (map tok_of done ++ items))
    → (items : List (Tok AbnfKind)) → new ++ tokens_named known own line (end_of (tok_of x)) items
    ≡ tokens_named known own line 0 (map tok_of (done ++ x ∷ []) ++ items)
token-more known own line at done x old middle new gap text gap_is text_is mid more so items =
    let rest = tokens_named known own line (end_of (tok_of x)) items in
    ap (λ (z : List ℕ). z ++ rest) (more ∙ ap (λ (z : List ℕ). z ++ text) mid)
    ∙ append_assoc (old ++ gap) text rest ∙ append_assoc old gap (text ++ rest)
    ∙ ap (λ (z : List ℕ). old ++ (z ++ (text ++ rest))) gap_is
    ∙ ap (λ (z : List ℕ). old ++ (drop at (take (start_of (tok_of x)) line) ++ (z ++ rest))) text_is
    ∙ so (tok_of x ∷ items)
    ∙ ap (λ (ts : List (Tok AbnfKind)). tokens_named known own line 0 ts)
    (sym (append_assoc (map tok_of done) (tok_of x ∷ []) items)
    ∙ ap (λ (ts : List (Tok AbnfKind)). ts ++ items) (sym (map-append tok_of done (x ∷ []))))

pub tokens-all : (known : List ℕ → Bool) (own line : List ℕ) (at : ℕ) (ts : List (Tok AbnfKind)) (new : List ℕ)
    → ((items : List (Tok AbnfKind)) → new ++ tokens_named known own line at items
    ≡ tokens_named known own line 0 (ts ++ items)) → new ≡ tokens_named known own line 0 ts
tokens-all known own line at ts new so =
    sym (append-nil new) ∙ so [] ∙ ap (λ (us : List (Tok AbnfKind)). tokens_named known own line 0 us) (append-nil ts)

-- the first of the sources, or else the line
pub source-first : (sources : List TextLine) (line source : Bor TextLine) (first : Option (Bor TextLine))
    → option_copied first ≡ slice_get sources 0 → source ≡ unwrap_or first line
    → numbered source.now ≡ source_of (map numbered sources) (numbered line.now)
source-first [] line source None e is = ap (λ (s : Bor TextLine). numbered s.now) is
source-first [] line source (Some x) e is = cc
source-first (s ∷ sources) line source None e is = cc
source-first (s ∷ sources) line source (Some x) e is =
    let same : x.now ≡ s = cc in
    ap (λ (y : Bor TextLine). numbered y.now) is ∙ ap numbered same

-- one line more; the sources are what is left of them
pub line-more : (known : List ℕ → Bool) (own : List ℕ) (m : ℕ) (sources left : List NumberedLine)
    (lines : List TextLine) (i : ℕ) (d : TextLine) (bare new source c t d1 u more others : List ℕ) → i < length lines
    → bare ≡ bare_line m (numbered (get_or lines i d))
    → source ≡ bare_line m (source_of left (numbered (get_or lines i d)))
    → IsLineNamed known own bare new → d1 ≡ c ++ comment_of source new → u ≡ t ++ (new ++ codes "\n")
    → ((x y : List ℕ) → AreLinesNamed known own m left (map numbered (drop i lines)) x y
    → AreLinesNamed known own m sources (map numbered lines) (c ++ x) (t ++ y))
    → AreLinesNamed known own m (drop 1 left) (map numbered (drop (i + 1) lines)) more others
    → AreLinesNamed known own m sources (map numbered lines) (d1 ++ more) (u ++ others)
line-more known own m sources left lines i d bare new source c t d1 u more others lt bare_is from named comments text
    so rest =
    let row = numbered (get_or lines i d) in
    let line = bare_line m (source_of left row) in
    let here : map numbered (drop i lines) ≡ row ∷ map numbered (drop (i + 1) lines) =
    ap (λ (xs : List TextLine). map numbered xs) (one-after lines i d lt) in
    let one : IsLineNamed known own (bare_line m row) new =
    subst (λ (b : List ℕ). IsLineNamed known own b new) bare_is named in
    let whole = so (comment_of line new ++ more) (new ++ (codes "\n" ++ others))
    (subst (λ (rows : List NumberedLine). AreLinesNamed known own m left rows (comment_of line new ++ more)
    (new ++ (codes "\n" ++ others))) (sym here) (next_line one rest)) in
    let first : c ++ (comment_of line new ++ more) ≡ d1 ++ more =
    ap (λ (b : List ℕ). c ++ (comment_of b new ++ more)) (sym from)
    ∙ sym (append_assoc c (comment_of source new) more) ∙ ap (λ (z : List ℕ). z ++ more) (sym comments) in
    let second : t ++ (new ++ (codes "\n" ++ others)) ≡ u ++ others =
    ap (λ (z : List ℕ). t ++ z) (sym (append_assoc new (codes "\n") others))
    ∙ sym (append_assoc t (new ++ codes "\n") others) ∙ ap (λ (z : List ℕ). z ++ others) (sym text) in
    subst (λ (z : List ℕ). AreLinesNamed known own m sources (map numbered lines) (d1 ++ more) z) second
    (subst (λ (z : List ℕ). AreLinesNamed known own m sources (map numbered lines) z
    (t ++ (new ++ (codes "\n" ++ others)))) first whole)

pub lines-all : (known : List ℕ → Bool) (own : List ℕ) (m : ℕ) (sources left : List NumberedLine)
    (lines : List TextLine) (i : ℕ) (c t : List ℕ) → length lines ≤ i
    → ((x y : List ℕ) → AreLinesNamed known own m left (map numbered (drop i lines)) x y
    → AreLinesNamed known own m sources (map numbered lines) (c ++ x) (t ++ y))
    → AreLinesNamed known own m sources (map numbered lines) c t
lines-all known own m sources left lines i c t le so =
    let none : AreLinesNamed known own m left (map numbered (drop i lines)) [] [] =
    subst (λ (xs : List TextLine). AreLinesNamed known own m left (map numbered xs) [] [])
    (sym (at_drop_all (λ xs. xs) lines i le)) no_lines in
    subst (λ (z : List ℕ). AreLinesNamed known own m sources (map numbered lines) c z) (append-nil t)
    (subst (λ (z : List ℕ). AreLinesNamed known own m sources (map numbered lines) z (t ++ [])) (append-nil c)
    (so [] [] none))

-- rows of two lists give those of a third, pair by pair
module _ {A B C X Y Z : Type 0} (f : A → X) (g : B → Y) (h : C → Z) (Pairs : List X → List Y → List Z → Type 0)
    (All : List Z → Type 0) where
  pub pair-more : (left after : List A) (a : A) (rest next : List B) (b : B) (named new : List C) (c : C)
      → left ≡ a ∷ after → rest ≡ b ∷ next → new ≡ named ++ c ∷ []
      → ((zs : List Z) → Pairs (map f after) (map g next) zs
      → Pairs (f a ∷ map f after) (g b ∷ map g next) (h c ∷ zs))
      → ((zs : List Z) → Pairs (map f left) (map g rest) zs → All (map h named ++ zs))
      → (zs : List Z) → Pairs (map f after) (map g next) zs → All (map h new ++ zs)
  pair-more left after a rest next b named new c front more done one so zs others =
      let pairs : Pairs (map f left) (map g rest) (h c ∷ zs) =
      subst (λ (xs : List A). Pairs (map f xs) (map g rest) (h c ∷ zs)) (sym front)
      (subst (λ (ys : List B). Pairs (f a ∷ map f after) (map g ys) (h c ∷ zs)) (sym more) (one zs others)) in
      let rows : map h named ++ (h c ∷ zs) ≡ map h new ++ zs =
      sym (append_assoc (map h named) (h c ∷ []) zs)
      ∙ ap (λ (xs : List Z). xs ++ zs) (sym (map-append h named (c ∷ []))
      ∙ ap (λ (xs : List C). map h xs) (sym done)) in
      subst All rows (so (h c ∷ zs) pairs)

  pub pairs-done : (left : List X) (rest : List Y) (named : List C) → Pairs left rest []
      → ((zs : List Z) → Pairs left rest zs → All (map h named ++ zs)) → All (map h named)
  pairs-done left rest named none so = subst All (append-nil (map h named)) (so [] none)

pub no-items : {A : Type 0} (xs : List A) → length xs ≡ 0 → xs ≡ []
no-items [] e = refl
no-items (x ∷ xs) e = cc

-- the rule that was read, or that there is none
module _ {text : List ℕ} (t : List ℕ) (found : Option GivenRule) (same : t ≡ text)
    (h : IsRuleOf t (option_map text_rule found)) where
  pub rule-of : (rule : GivenRule) → found ≡ Some rule → SpellRule text (text_rule rule)
  rule-of rule is = subst (λ (z : List ℕ). SpellRule z (text_rule rule)) same
      (subst (λ (o : Option GivenRule). IsRuleOf t (option_map text_rule o)) is h)

  pub no_rule-of : found ≡ None → (d : Definition) → Reads text (d ∷ []) → ⊥
  no_rule-of is d reads = subst (λ (o : Option GivenRule). IsRuleOf t (option_map text_rule o)) is h d
      (subst (λ (z : List ℕ). Reads z (d ∷ [])) (sym same) reads)

-- the rule that was read is that of the definition
pub rule-is : (text t : List ℕ) (found : Option GivenRule) (rule : GivenRule) (d : Definition) → t ≡ text
    → found ≡ Some rule → IsRuleOf t (option_map text_rule found) → Reads text (d ∷ []) → text_rule rule ≡ given_by d
rule-is text t found rule d same is h reads =
    let spells = rule-of t found same h rule is in
    let all : spells.definition ∷ [] ≡ d ∷ [] = one-reading text (spells.definition ∷ []) (d ∷ []) spells.reads reads in
    let one : spells.definition ≡ d = cc in
    spells.is ∙ ap given_by one

pub letter-begins : (text : List ℕ) (b : ℕ) → Some b ≡ slice_get text 0 → is_ascii_alphabetic b ≡ true
    → begins_letter text ≡ true
letter-begins [] b e letter = cc
letter-begins (x ∷ text) b e letter = let same : b ≡ x = cc in rw same at letter

spelled-same : (text : List ℕ) (a b : RuleGiven) → SpellRule text a → SpellRule text b → a ≡ b
spelled-same text a b x y =
    let all : x.definition ∷ [] ≡ y.definition ∷ [] =
    one-reading text (x.definition ∷ []) (y.definition ∷ []) x.reads y.reads in
    let same : x.definition ≡ y.definition = cc in
    x.is ∙ ap given_by same ∙ sym y.is

-- whether the text spells the rule with its names
pub named-outcome : (rule given : RuleGiven) (text : List ℕ) (same : Bool) → begins_letter text ≡ true
    → SpellRule text given → same ≡ is_same_rule true rule given → IsNamedOutcome rule text same
named-outcome rule given text true letter spells e =
    record { letter = letter; given = given; spells = spells; like = sym e }
named-outcome rule given text false letter spells e = λ s.
    let other = s.spells in
    let one = spelled-same text s.given given other spells in
    let yes : is_same_rule true rule given ≡ true =
    subst (λ (g : RuleGiven). is_same_rule true rule g ≡ true) one s.like in
    let no : false ≡ true = e ∙ yes in
    absurd (cc no)

-- the yes_outcome that was found for a text
module _ {rule : RuleGiven} {text : List ℕ} (t : List ℕ) (same : t ≡ text) (found : Bool)
    (h : IsNamedOutcome rule t found) where
  pub yes_outcome : found ≡ true → SpellsNamed rule text
  yes_outcome is = subst (SpellsNamed rule) same (subst (λ (b : Bool). IsNamedOutcome rule t b) is h)

  pub no_outcome : found ≡ false → SpellsNamed rule text → ⊥
  no_outcome is spells =
      subst (λ (b : Bool). IsNamedOutcome rule t b) is h (subst (SpellsNamed rule) (sym same) spells)
