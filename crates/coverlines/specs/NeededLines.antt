-- Lines that others make needless: a line that comes before gives the rule of the goal the list that is known of it.
use Rattle.std.specs.Prelude.{◌≡◌, ◌⊎◌, ℕ, ◌<◌, List, ◌++◌, length, Contains, Option, Some}
use Rattle.std.proofs.Common.{Vec, Global}
use Rattle.fixpoint.specs.Reach.{Reaches}
use Rattle.fixpoint.specs.StepRows.{Step, rows_of}
use Rattle.abnfread.specs.AbnfViews.{rules_of}
use Rattle.abnfread.specs.Element.{Name, id_of}
use Rattle.coverlines.specs.CoverLines.{line_items}
use Rattle.coverlines.specs.KnownWords.{known_at}
use Rattle.coverlines.specs.RuleContexts.{context_at, sites_at}
use Rattle.coverlines.specs.Sites.{Stood}
use Rattle.coverlines.specs.declared.context.LineContext.{LineContext}
use Rattle.coverlines.specs.declared.cover.CoverLine.{CoverLine}
use Rattle.coverlines.specs.declared.needed.Bases.{Bases}
use Rattle.coverlines.specs.declared.needed.RuleWord.{RuleWord}
use Rattle.coverlines.specs.declared.sites.Site.{Site}
use Rattle.coverlines.specs.declared.words.Words.{Words}

-- a site names a rule, and what stands round it has the list that is known of the rule between
pub record IsNamedWord (words : Words) (s : Stood) (found : RuleWord) : Type 0 where
  pub name : List ℕ
  pub list : Vec ℕ Global
  pub element_is : s.element ≡ Name name
  pub id_is : found.id ≡ id_of (rules_of words.rules.now) name
  pub inside : found.id < length words.known.now
  pub known_is : known_at words.known.now found.id ≡ Some list
  pub is : found.word.items ≡ s.before ++ (list.items ++ s.after)

-- a rule at one of these sites
pub record IsNamedAt (words : Words) (sites : List Stood) (found : RuleWord) : Type 0 where
  pub site : Stood
  pub among : Contains sites site
  pub named : IsNamedWord words site found

abbrev pub AreNamedWords : Words → List Stood → List RuleWord → Type 0
AreNamedWords words sites found = (n : RuleWord) → Contains found n → IsNamedAt words sites n

-- one of them is the rule of that id with that list
pub record HasWord (named : List RuleWord) (word : List ℕ) (id : ℕ) : Type 0 where
  pub one : RuleWord
  pub among : Contains named one
  pub id_is : one.id ≡ id
  pub word_is : one.word.items ≡ word

-- one of them is the rule of that id with the list that is known
pub record HasKnownWord (known : Option (Vec ℕ Global)) (named : List RuleWord) (id : ℕ) : Type 0 where
  pub list : Vec ℕ Global
  pub known_is : known ≡ Some list
  pub has : HasWord named list.items id

abbrev pub AreRowIds : Option (Vec ℕ Global) → List RuleWord → List ℕ → Type 0
AreRowIds known named ids = (id : ℕ) → Contains ids id → HasKnownWord known named id

-- a rule with its list in a context
pub record IsNamedLine (context : Option LineContext) (named : List RuleWord) (line : RuleWord) : Type 0 where
  pub outer : LineContext
  pub one : RuleWord
  pub outer_is : context ≡ Some outer
  pub among : Contains named one
  pub id_is : line.id ≡ one.id
  pub word_is : line.word.items ≡ outer.before.items ++ (one.word.items ++ outer.after.items)

abbrev pub AddsNamedLines : Option LineContext → List RuleWord → List RuleWord → List RuleWord → Type 0
AddsNamedLines context named old new = (l : RuleWord) → Contains new l → Contains old l ⊎ IsNamedLine context named l

abbrev pub HaveIdsBelow : ℕ → List RuleWord → Type 0
HaveIdsBelow n lines = (l : RuleWord) → Contains lines l → l.id < n

-- steps lead to the rule from one of the rules with that list
pub record IsReachedIn (lines : List RuleWord) (rows : List (List ℕ)) (word : List ℕ) (id : ℕ) : Type 0 where
  pub root : ℕ
  pub has : HasWord lines word root
  pub chain : Reaches rows root id

-- a line has in the context of its rule the list that is known of the rule
pub record IsBaseLine (known : List (Option (Vec ℕ Global))) (contexts : List (Option LineContext)) (line : CoverLine)
    : Type 0 where
  pub list : Vec ℕ Global
  pub context : LineContext
  pub known_is : known_at known line.goal.rule ≡ Some list
  pub context_is : context_at contexts line.goal.rule ≡ Some context
  pub is : line.line.items ≡ context.before.items ++ (list.items ++ context.after.items)

-- one of the lines, copied
pub record IsCopyIn (lines : List CoverLine) (copy : CoverLine) : Type 0 where
  pub line : CoverLine
  pub among : Contains lines line
  pub goal_is : copy.goal ≡ line.goal
  pub line_is : copy.line.items ≡ line.line.items

module _ (words : Words) (sites : List (Vec Site Global)) where
  -- the list that is known of a rule has in it that of another one, which a site of the rule names
  pub record IsPart (outer id : ℕ) : Type 0 where
    pub list : Vec ℕ Global
    pub one : RuleWord
    pub known_is : known_at words.known.now outer ≡ Some list
    pub at : IsNamedAt words (sites_at sites outer) one
    pub id_is : one.id ≡ id
    pub is : one.word.items ≡ list.items

  -- .. by a chain of rules
  pub data IsWithin (outer : ℕ) : ℕ → Type 0 where
    itself : IsWithin outer outer
    part_of : {middle id : ℕ} → IsWithin outer middle → IsPart middle id → IsWithin outer id

  module _ (contexts : List (Option LineContext)) where
    -- a line has the list that is known of a rule, which a site names, in shortest contexts
    pub record NamesIn (line : List ℕ) (id : ℕ) : Type 0 where
      pub rule : ℕ
      pub context : LineContext
      pub one : RuleWord
      pub context_is : context_at contexts rule ≡ Some context
      pub at : IsNamedAt words (sites_at sites rule) one
      pub id_is : one.id ≡ id
      pub is : line ≡ context.before.items ++ (one.word.items ++ context.after.items)

    -- .. or that of a rule within which it is
    pub record HasKnown (line : List ℕ) (id : ℕ) : Type 0 where
      pub root : ℕ
      pub names : NamesIn line root
      pub within : IsWithin root id

    pub record AreBases (found : Bases) : Type 0 where
      pub count : length found.rows.items ≡ length sites
      pub rows : (outer id : ℕ) → Step (rows_of found.rows.items) outer id → IsPart outer id
      pub below : (outer id : ℕ) → Step (rows_of found.rows.items) outer id → id < length words.known.now
      pub lines : (l : RuleWord) → Contains found.lines.items l → NamesIn l.word.items l.id
      pub within : HaveIdsBelow (length words.known.now) found.lines.items

    -- a line that is kept has the list that is known of a rule
    pub record IsKeptKnown (kept : List CoverLine) (id : ℕ) : Type 0 where
      pub other : CoverLine
      pub among : Contains kept other
      pub has : HasKnown other.line.items id

    -- a line that is kept has the list that is known of the rule of another line, and that list makes the other line
    pub record IsNeedless (kept : List CoverLine) (line : CoverLine) : Type 0 where
      pub base : IsBaseLine words.known.now contexts line
      pub kept_known : IsKeptKnown kept line.goal.rule

    abbrev pub IsCovered : List CoverLine → CoverLine → Type 0
    IsCovered kept line = Contains (line_items kept) line.line.items ⊎ IsNeedless kept line

    -- Each line that is kept is one of the lines. Each of these is kept, or needless.
    pub record AreNeeded (lines kept : List CoverLine) : Type 0 where
      pub right : (k : CoverLine) → Contains kept k → IsCopyIn lines k
      pub covered : (l : CoverLine) → Contains lines l → IsCovered kept l
