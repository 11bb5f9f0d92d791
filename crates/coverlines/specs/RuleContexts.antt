-- What stands before and after rules in derivations, in shortest lists.
use Rattle.std.specs.Prelude.{◌≡◌, ◌≢◌, ℕ, zero, suc, ◌+◌, ◌<◌, ◌≤◌, Bool, true, false, List, [], ◌∷◌, ◌++◌, length}
use Rattle.std.specs.Prelude.{map}
use Rattle.std.specs.Prelude.{slice_get, Contains, Option, Some, None}
use Rattle.std.proofs.Common.{Vec, Global, set}
use Rattle.abnfread.specs.Element.{Element, Name, Rule, bodies, id_of}
use Rattle.abnfcheck.specs.Derivable.{AreLetters}
use Rattle.ruletable.specs.Letters.{has}
use Rattle.coverlines.specs.Goals.{Around}
use Rattle.coverlines.specs.Sites.{AreSites, StandsAt, Stood, room_of, stood_of}
use Rattle.coverlines.specs.Shortest.{may}
use Rattle.coverlines.specs.declared.bounds.LineBounds.{LineBounds}
use Rattle.coverlines.specs.declared.context.LineContext.{LineContext}
use Rattle.coverlines.specs.declared.sites.Site.{Site}
use Rattle.coverlines.specs.declared.rule_contexts.Named.{Named}

-- how many symbols a context has
abbrev pub size_of : LineContext → ℕ
size_of c = length c.before.items + length c.after.items

-- the context that is known of a rule
abbrev pub context_at : List (Option LineContext) → ℕ → Option LineContext
context_at [] id = None
context_at (c ∷ cs) zero = c
context_at (c ∷ cs) (suc id) = context_at cs id

-- the sites in the body of a rule
abbrev pub sites_at : List (Vec Site Global) → ℕ → List Stood
sites_at [] id = []
sites_at (ps ∷ all) zero = map stood_of ps.items
sites_at (ps ∷ all) (suc id) = sites_at all id

-- its size; one more than the limit, where none is known
abbrev pub context_cost : ℕ → Option LineContext → ℕ
context_cost limit None = limit + 1
context_cost limit (Some c) = size_of c

abbrev pub context_total : ℕ → List (Option LineContext) → ℕ
context_total limit [] = 0
context_total limit (c ∷ cs) = context_cost limit c + context_total limit cs

-- the context of a rule was set to a shorter one; or nothing was, and it is no longer than the other one
abbrev pub IsImproved : ℕ → ℕ → LineContext → List (Option LineContext) → List (Option LineContext) → Bool → Type 0
IsImproved limit id c old new true = (new ≡ set old id (Some c)) × (size_of c ≤ limit)
    × (size_of c < context_cost limit (context_at old id))
IsImproved limit id c old new false = (new ≡ old) × (size_of c ≤ limit
    → context_cost limit (context_at old id) ≤ size_of c)

-- the rule that a site names, by a context of the rule in whose body it stands
pub record NamesIn (rules : List Rule) (outer : Option LineContext) (s : Stood) (named : Named) : Type 0 where
  pub context : LineContext
  pub name : List ℕ
  pub outer_is : outer ≡ Some context
  pub element_is : s.element ≡ Name name
  pub id_is : named.id ≡ id_of rules name
  pub inside : named.id < length rules
  pub before : named.context.before.items ≡ context.before.items ++ s.before
  pub after : named.context.after.items ≡ s.after ++ context.after.items

-- .. or it names none, or no context is given
abbrev pub IsNamedIn : List Rule → Option LineContext → Stood → Option Named → Type 0
IsNamedIn rules outer s None = (name : List ℕ) (c : LineContext) → outer ≡ Some c → s.element ≡ Name name
    → length rules ≤ id_of rules name
IsNamedIn rules outer s (Some named) = NamesIn rules outer s named

-- a site in the body of the rule of that id
pub record IsSiteOf (b : LineBounds) (rules : List Rule) (id : ℕ) (s : Stood) : Type 0 where
  pub body : Element
  pub site : List ℕ
  pub is : slice_get (bodies rules) id ≡ Some body
  pub stands : StandsAt b rules body site s

abbrev pub AreSitesOf : LineBounds → List Rule → ℕ → List Stood → Type 0
AreSitesOf b rules id all = (s : Stood) → Contains all s → IsSiteOf b rules id s

-- the context that is known of a rule at first: the empty one of the judged rule
abbrev pub IsFirstContext : ℕ → ℕ → Option LineContext → Type 0
IsFirstContext judged id None = id ≢ judged
IsFirstContext judged id (Some c) = (id ≡ judged) × (c.before.items ≡ []) × (c.after.items ≡ [])

-- .. of so many rules
pub record AreFirstContexts (judged n : ℕ) (known : Vec (Option LineContext) Global) : Type 0 where
  pub count : length known.items ≡ n
  pub each : (id : ℕ) → id < n → IsFirstContext judged id (context_at known.items id)

module _ (b : LineBounds) (rules : List Rule) where
  -- by a site that stands in the body of a rule the rule that is named there has no shorter context than the known one
  abbrev pub IsSettledAt : List (Option LineContext) → ℕ → Stood → Type 0
  IsSettledAt known id s = (name : List ℕ) (c : LineContext) → s.element ≡ Name name → context_at known id ≡ Some c
      → id_of rules name < length rules
      → context_cost b.limit (context_at known (id_of rules name)) ≤ size_of c + room_of s

  -- a step for one site
  abbrev pub IsSiteStep : ℕ → Stood → List (Option LineContext) → List (Option LineContext) → Bool → Type 0
  IsSiteStep id s old new true = context_total b.limit new < context_total b.limit old
  IsSiteStep id s old new false = (new ≡ old) × IsSettledAt old id s

  -- steps for some sites: what is known is shorter; or it is as it was, and settled at them
  abbrev pub AreSitesPassed : ℕ → List Stood → List (Option LineContext) → List (Option LineContext) → Bool → Type 0
  AreSitesPassed id all old new true = context_total b.limit new < context_total b.limit old
  AreSitesPassed id all old new false = (new ≡ old) × ((s : Stood) → Contains all s → IsSettledAt old id s)

  -- steps for the sites of the first so many rules
  abbrev pub AreRulesPassed : List (Vec Site Global) → ℕ → List (Option LineContext) → List (Option LineContext) → Bool
      → Type 0
  AreRulesPassed sites n old new true = context_total b.limit new < context_total b.limit old
  AreRulesPassed sites n old new false = (new ≡ old)
      × ((id : ℕ) (s : Stood) → id < n → Contains (sites_at sites id) s → IsSettledAt old id s)

  -- the sites of the body of each rule
  pub record AreRuleSites (sites : List (Vec Site Global)) : Type 0 where
    pub count : length sites ≡ length rules
    pub each : (id : ℕ) (body : Element) → slice_get (bodies rules) id ≡ Some body
        → AreSites b rules body (sites_at sites id)

module _ (b : LineBounds) (rules : List Rule) (judged : ℕ) where
  -- a derivation from the judged rule has the rule with that context, of symbols that a line may have
  pub record StandsAround (id : ℕ) (x y : List ℕ) : Type 0 where
    pub around : Around (has b.alphabet) (may b) rules judged id x y
    pub before : AreLetters (may b) x
    pub after : AreLetters (may b) y

  abbrev pub IsContext : ℕ → Option LineContext → Type 0
  IsContext id None = Unit {0}
  IsContext id (Some c) = StandsAround id c.before.items c.after.items × (size_of c ≤ b.limit)

  -- each context that is known is one of the rule, and that of the judged rule is empty
  pub record AreContexts (known : List (Option LineContext)) : Type 0 where
    pub count : length known ≡ length rules
    pub stands : (id : ℕ) → IsContext id (context_at known id)
    pub first : context_cost b.limit (context_at known judged) ≡ 0

  -- the context that is known of each rule is as short as may be, if it has at most `limit` symbols
  pub record AreShortestContexts (known : List (Option LineContext)) : Type 0 where
    pub count : length known ≡ length rules
    pub stands : (id : ℕ) → IsContext id (context_at known id)
    pub least : (id : ℕ) (x y : List ℕ) → id < length rules → StandsAround id x y → length x + length y ≤ b.limit
        → context_cost b.limit (context_at known id) ≤ length x + length y
