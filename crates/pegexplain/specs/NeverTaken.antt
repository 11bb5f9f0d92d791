-- Alternatives of an ordered choice that are never taken (Ford 2004, section 3.3).
use Rattle.std.specs.Prelude.{◌≡◌, ◌↔◌, ℕ, ◌<◌, Bool, List, ◌∷◌, ◌++◌, length, map, Some, slice_get}
use Rattle.gramcheck.specs.Left.{Nullable}
use Rattle.gramcheck.specs.Outcome.{Event, Fails, Gives, Takes}
use Rattle.pegread.specs.Pattern.{Pattern, Patterns, Any, Bytes, Name, Seq, Rule, body_of, more}
use Rattle.pegexplain.specs.FailsNowhere.{FailsNowhere, SettlesSure}
use Rattle.pegexplain.specs.HiddenAlternatives.{HiddenBy, described, hiding, named_literal, shown_of}
use Rattle.pegexplain.specs.LeftNotes.{SettlesNullable}
use Rattle.pegexplain.specs.declared.hints.why.Why.{Why}
use Rattle.pegexplain.specs.declared.hints.why.Why.TheVariants.{NeverFails, TakesAny, Prefix}

-- a literal begins with another
pub record IsFront (front bytes : List ℕ) : Type 0 where
  pub rest : List ℕ
  pub whole : bytes ≡ front ++ rest

module _ (rules : List Rule) where
  -- an expression is a literal, or the name of a rule that is one
  pub data SpellsLiteral : Pattern → List ℕ → Type 0 where
    is_literal : {bytes : List ℕ} → SpellsLiteral (Bytes bytes) bytes
    names_literal : {name bytes : List ℕ} → body_of rules name ≡ Some (Bytes bytes) → SpellsLiteral (Name name) bytes

  -- the literal with which an alternative begins
  pub data BeginsWith : Pattern → List ℕ → Type 0 where
    is_whole : {e : Pattern} {bytes : List ℕ} → SpellsLiteral e bytes → BeginsWith e bytes
    leads_sequence : {e : Pattern} {bytes : List ℕ} {es : Patterns} → SpellsLiteral e bytes
        → BeginsWith (Seq (more e es)) bytes

  -- the first of two alternatives is taken wherever the other one would be
  pub data Hides (d e : Pattern) : Why → Type 0 where
    never_fails : FailsNowhere rules d → Hides d e NeverFails
    takes_any : d ≡ Any → (Nullable rules e → ⊥) → Hides d e TakesAny
    is_front : {front whole : List ℕ} → (FailsNowhere rules d → ⊥) → SpellsLiteral d front → BeginsWith e whole
        → IsFront front whole → Hides d e Prefix

  -- alternative k is hidden by the first one before it that hides it
  pub record NeverTaken (alternatives : List Pattern) (k : ℕ) (hidden : HiddenBy) : Type 0 where
    pub alternative : Pattern
    pub there : slice_get alternatives k ≡ Some alternative
    pub position : ℕ
    pub before : position < k
    pub earlier : slice_get alternatives position ≡ Some hidden.earlier
    pub hides : Hides hidden.earlier alternative hidden.why
    pub first : (j : ℕ) (d : Pattern) (why : Why) → j < position → slice_get alternatives j ≡ Some d
        → Hides d alternative why → ⊥
    pub shown : hidden.later ≡ shown_of hidden.why alternative

-- a choice of these alternatives takes alternative k at position p: those before fail there, and it succeeds
pub record IsTaken (rules : List Rule) (x : List ℕ) (alternatives : List Pattern) (k p : ℕ) : Type 0 where
  pub fail : (j : ℕ) (e : Pattern) → j < k → slice_get alternatives j ≡ Some e → (n : ℕ) × Gives rules x e p Fails n
  pub alternative : Pattern
  pub there : slice_get alternatives k ≡ Some alternative
  pub end : ℕ
  pub events : List Event
  pub looked : ℕ
  pub takes : Gives rules x alternative p (Takes end events) looked

-- an alternative after others is hidden exactly if it is never taken
abbrev pub ReportsNeverTaken : Type 0
ReportsNeverTaken = (rules : List Rule) (sure null : Pattern → Bool) → SettlesSure rules sure
    → SettlesNullable rules null → (before after : List Pattern) (e : Pattern) (hidden : HiddenBy)
    → (hiding (named_literal rules) sure null (map (described (named_literal rules) sure null) before) e ≡ Some hidden)
    ↔ NeverTaken rules (before ++ e ∷ after) (length before) hidden
