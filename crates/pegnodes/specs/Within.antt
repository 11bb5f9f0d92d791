-- Expressions that stand within others, and in the bodies of a grammar's rules.
use Rattle.std.specs.Prelude.{◌≡◌, ℕ, List, map, slice_get, Some}
use Rattle.pegread.specs.Pattern.{Pattern, Patterns, Rule, Seq, Choice, Star, Plus, Opt, And, Not, more}

mutual
  -- `Within e d`: d is e, or stands within an operand, a member or an alternative of e; of a Plus, within the Star that
  -- goes on with its operand
  pub data Within : Pattern → Pattern → Type 0 where
    itself : {e : Pattern} → Within e e
    of_seq : {es : Patterns} {d : Pattern} → WithinSome es d → Within (Seq es) d
    of_choice : {es : Patterns} {d : Pattern} → WithinSome es d → Within (Choice es) d
    of_star : {e d : Pattern} → Within e d → Within (Star e) d
    of_plus : {e d : Pattern} → Within (Star e) d → Within (Plus e) d
    of_opt : {e d : Pattern} → Within e d → Within (Opt e) d
    of_and : {e d : Pattern} → Within e d → Within (And e) d
    of_not : {e d : Pattern} → Within e d → Within (Not e) d

  pub data WithinSome : Patterns → Pattern → Type 0 where
    of_first : {e d : Pattern} {es : Patterns} → Within e d → WithinSome (more e es) d
    of_later : {e d : Pattern} {es : Patterns} → WithinSome es d → WithinSome (more e es) d

-- an expression stands in the body of some rule
pub record StandsIn (rules : List Rule) (e : Pattern) : Type 0 where
  pub id : ℕ
  pub body : Pattern
  pub rule : slice_get (map (λ rule. rule.body) rules) id ≡ Some body
  pub within : Within body e
