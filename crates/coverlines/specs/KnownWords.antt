-- Lists that are known of rules.
use Rattle.std.specs.Prelude.{◌≡◌, ℕ, zero, suc, ◌+◌, ◌<◌, ◌≤◌, Bool, true, false, List, [], ◌∷◌, length, slice_get}
use Rattle.std.specs.Prelude.{Option, Some, None}
use Rattle.std.proofs.Common.{Vec, Global}
use Rattle.abnfread.specs.AbnfViews.{rules_of}
use Rattle.abnfread.specs.Element.{Element, Text, Alt, Name, none, Rule, bodies, id_of}
use Rattle.ruletable.specs.declared.table.NameCase.TheVariants.{Fold}
use Rattle.coverlines.specs.Shortest.{IsShortest, Spells}
use Rattle.coverlines.specs.declared.bounds.LineBounds.{LineBounds}
use Rattle.coverlines.specs.declared.words.Words.{Words}

-- what is known of a rule by its id
abbrev pub known_at : List (Option (Vec ℕ Global)) → ℕ → Option (Vec ℕ Global)
known_at [] id = None
known_at (k ∷ ks) zero = k
known_at (k ∷ ks) (suc id) = known_at ks id

-- the same list, or none
abbrev pub IsCopy : Option (Vec ℕ Global) → Option (Vec ℕ Global) → Type 0
IsCopy None None = Unit {0}
IsCopy None (Some w) = ⊥
IsCopy (Some v) None = ⊥
IsCopy (Some v) (Some w) = w.items ≡ v.items

-- names compare without case, and each rule has a list that is known, or none
pub record AreWords (words : Words) : Type 0 where
  pub names : words.rules.now.names ≡ Fold
  pub count : length words.known.now ≡ length words.rules.now.rules

-- of each name the list that is known of its rule is a shortest one that it derives by those rules
abbrev pub AreKnownOf : Words → List Rule → Type 0
AreKnownOf words rules = (name : List ℕ) → IsShortest (Spells words.bounds rules (Name name)) words.bounds.limit
    (known_at words.known.now (id_of (rules_of words.rules.now) name))

-- the one list that is known of a rule, as its body; or a body that derives none
abbrev pub fixed_body : Option (Vec ℕ Global) → Element
fixed_body None = Alt none
fixed_body (Some w) = Text false w.items

-- rules that derive just what is known of them
abbrev pub fixed_rules : List Rule → List (Option (Vec ℕ Global)) → List Rule
fixed_rules [] ks = []
fixed_rules (rule ∷ rules) [] = []
fixed_rules (rule ∷ rules) (k ∷ ks) =
    record { name = rule.name; body = fixed_body k; span = rule.span } ∷ fixed_rules rules ks

-- the length of what is known of a rule; one more than the limit, where nothing is
abbrev pub known_cost : ℕ → Option (Vec ℕ Global) → ℕ
known_cost limit None = limit + 1
known_cost limit (Some w) = length w.items

abbrev pub total : ℕ → List (Option (Vec ℕ Global)) → ℕ
total limit [] = 0
total limit (k ∷ ks) = known_cost limit k + total limit ks

module _ (b : LineBounds) (rules : List Rule) where
  -- an element derives it, and it may be a line
  abbrev pub IsFound : Element → Option (Vec ℕ Global) → Type 0
  IsFound e None = Unit {0}
  IsFound e (Some w) = Spells b rules e w.items × (length w.items ≤ b.limit)

  -- each rule derives what is known of it
  pub record AreFound (known : List (Option (Vec ℕ Global))) : Type 0 where
    pub count : length known ≡ length rules
    pub found : (id : ℕ) (body : Element) → slice_get (bodies rules) id ≡ Some body → IsFound body (known_at known id)

  -- by what is known of the rules, a rule has no shorter list than the one that is known of it
  abbrev pub IsSettled : List (Option (Vec ℕ Global)) → ℕ → Type 0
  IsSettled known id = (body : Element) (v : List ℕ) → slice_get (bodies rules) id ≡ Some body
      → Spells b (fixed_rules rules known) body v → length v ≤ b.limit
      → known_cost b.limit (known_at known id) ≤ length v

  -- a step for one rule: what is known is shorter; or the rule has no shorter list
  abbrev pub IsStep : ℕ → List (Option (Vec ℕ Global)) → List (Option (Vec ℕ Global)) → Bool → Type 0
  IsStep id old new true = total b.limit new < total b.limit old
  IsStep id old new false = (new ≡ old) × IsSettled old id

  -- steps for the first so many rules
  abbrev pub ArePassed : ℕ → List (Option (Vec ℕ Global)) → List (Option (Vec ℕ Global)) → Bool → Type 0
  ArePassed n old new true = total b.limit new < total b.limit old
  ArePassed n old new false = (new ≡ old) × ((id : ℕ) → id < n → IsSettled old id)

  -- what is known of each rule is a shortest list that it derives
  pub record AreShortestWords (known : List (Option (Vec ℕ Global))) : Type 0 where
    pub count : length known ≡ length rules
    pub shortest : (id : ℕ) (body : Element) → slice_get (bodies rules) id ≡ Some body
        → IsShortest (Spells b rules body) b.limit (known_at known id)
