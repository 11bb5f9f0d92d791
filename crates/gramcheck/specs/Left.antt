-- Nullable expressions, left steps and left recursion (Ford 2004, section 3, where "nullable" is made conservative),
-- and repeated nullable expressions.
use Rattle.std.specs.Prelude.{◌≡◌, ℕ, List, [], Some}
use Rattle.pegread.specs.Pattern.{Pattern, Patterns, Rule, body_of, Bytes, Name, Seq, Choice, Star, Plus, Opt, And, Not}
use Rattle.pegread.specs.Pattern.{Act, Open, Close, none, more}

module _ (rules : List Rule) where
  mutual
    -- The least set of expressions that may take nothing. A predicate, an action and a capture's ends are among them;
    -- the name of no rule isn't.
    pub data Nullable : Pattern → Type 0 where
      no_bytes : Nullable (Bytes [])
      an_act : {t : List ℕ} → Nullable (Act t)
      an_open : Nullable Open
      a_close : Nullable Close
      an_and : {e : Pattern} → Nullable (And e)
      a_not : {e : Pattern} → Nullable (Not e)
      an_opt : {e : Pattern} → Nullable (Opt e)
      a_star : {e : Pattern} → Nullable (Star e)
      a_plus : {e : Pattern} → Nullable e → Nullable (Plus e)
      a_seq : {es : Patterns} → AllNullable es → Nullable (Seq es)
      a_choice : {es : Patterns} → SomeNullable es → Nullable (Choice es)
      a_name : {n : List ℕ} {e : Pattern} → body_of rules n ≡ Some e → Nullable e → Nullable (Name n)

    pub data AllNullable : Patterns → Type 0 where
      all_none : AllNullable none
      all_more : {e : Pattern} {es : Patterns} → Nullable e → AllNullable es → AllNullable (more e es)

    pub data SomeNullable : Patterns → Type 0 where
      some_first : {e : Pattern} {es : Patterns} → Nullable e → SomeNullable (more e es)
      some_later : {e : Pattern} {es : Patterns} → SomeNullable es → SomeNullable (more e es)

  -- one of the alternatives
  pub data Among : Patterns → Pattern → Type 0 where
    among_first : {e : Pattern} {es : Patterns} → Among (more e es) e
    among_later : {d e : Pattern} {es : Patterns} → Among es e → Among (more d es) e

  -- a member that only nullable ones stand before
  pub data Front : Patterns → Pattern → Type 0 where
    front_first : {e : Pattern} {es : Patterns} → Front (more e es) e
    front_later : {d e : Pattern} {es : Patterns} → Nullable d → Front es e → Front (more d es) e

  -- what an expression may ask for at its own position: an expression, and one of which it asks there
  pub data LeftStep : Pattern → Pattern → Type 0 where
    to_body : {n : List ℕ} {e : Pattern} → body_of rules n ≡ Some e → LeftStep (Name n) e
    to_alternative : {e : Pattern} {es : Patterns} → Among es e → LeftStep (Choice es) e
    to_member : {e : Pattern} {es : Patterns} → Front es e → LeftStep (Seq es) e
    to_starred : {e : Pattern} → LeftStep (Star e) e
    to_repeated : {e : Pattern} → LeftStep (Plus e) e
    to_optional : {e : Pattern} → LeftStep (Opt e) e
    to_asserted : {e : Pattern} → LeftStep (And e) e
    to_denied : {e : Pattern} → LeftStep (Not e) e

  -- a chain of at least one left step
  pub data LeftChain : Pattern → Pattern → Type 0 where
    one_step : {d e : Pattern} → LeftStep d e → LeftChain d e
    more_steps : {c d e : Pattern} → LeftChain c d → LeftStep d e → LeftChain c e

  -- a chain leads from the rule's body to its own name
  abbrev pub IsLeftRecursive : Rule → Type 0
  IsLeftRecursive rule = LeftChain rule.body (Name rule.name)

  mutual
    -- somewhere within an expression a nullable one is repeated
    pub data RepeatsNullable : Pattern → Type 0 where
      loop_star : {e : Pattern} → Nullable e → RepeatsNullable (Star e)
      loop_plus : {e : Pattern} → Nullable e → RepeatsNullable (Plus e)
      in_star : {e : Pattern} → RepeatsNullable e → RepeatsNullable (Star e)
      in_plus : {e : Pattern} → RepeatsNullable e → RepeatsNullable (Plus e)
      in_opt : {e : Pattern} → RepeatsNullable e → RepeatsNullable (Opt e)
      in_and : {e : Pattern} → RepeatsNullable e → RepeatsNullable (And e)
      in_not : {e : Pattern} → RepeatsNullable e → RepeatsNullable (Not e)
      in_seq : {es : Patterns} → SomeRepeats es → RepeatsNullable (Seq es)
      in_choice : {es : Patterns} → SomeRepeats es → RepeatsNullable (Choice es)

    pub data SomeRepeats : Patterns → Type 0 where
      repeats_first : {e : Pattern} {es : Patterns} → RepeatsNullable e → SomeRepeats (more e es)
      repeats_later : {e : Pattern} {es : Patterns} → SomeRepeats es → SomeRepeats (more e es)

  -- the rule's body repeats a nullable expression
  abbrev pub Loops : Rule → Type 0
  Loops rule = RepeatsNullable rule.body
