-- Expressions that fail nowhere (Ford 2004, section 3.3).
use Rattle.std.specs.Prelude.{◌≡◌, ◌↔◌, ℕ, Bool, true, List, [], Some}
use Rattle.pegread.specs.Pattern.{Pattern, Patterns, Rule, body_of, Bytes, Name, Seq, Choice, Star, Plus, Opt, And, Act}
use Rattle.pegread.specs.Pattern.{Open, Close, none, more}

module _ (rules : List Rule) where
  mutual
    -- The least set of expressions that fail nowhere by their form. An action and a capture's ends are among them; the
    -- name of no rule isn't.
    pub data FailsNowhere : Pattern → Type 0 where
      sure_bytes : FailsNowhere (Bytes [])
      sure_act : {t : List ℕ} → FailsNowhere (Act t)
      sure_open : FailsNowhere Open
      sure_close : FailsNowhere Close
      sure_opt : {e : Pattern} → FailsNowhere (Opt e)
      sure_star : {e : Pattern} → FailsNowhere (Star e)
      sure_plus : {e : Pattern} → FailsNowhere e → FailsNowhere (Plus e)
      sure_and : {e : Pattern} → FailsNowhere e → FailsNowhere (And e)
      sure_seq : {es : Patterns} → AllFailNowhere es → FailsNowhere (Seq es)
      sure_choice : {es : Patterns} → SomeFailsNowhere es → FailsNowhere (Choice es)
      sure_name : {n : List ℕ} {e : Pattern} → body_of rules n ≡ Some e → FailsNowhere e → FailsNowhere (Name n)

    pub data AllFailNowhere : Patterns → Type 0 where
      sure_none : AllFailNowhere none
      sure_more : {e : Pattern} {es : Patterns} → FailsNowhere e → AllFailNowhere es → AllFailNowhere (more e es)

    pub data SomeFailsNowhere : Patterns → Type 0 where
      sure_first : {e : Pattern} {es : Patterns} → FailsNowhere e → SomeFailsNowhere (more e es)
      sure_later : {e : Pattern} {es : Patterns} → SomeFailsNowhere es → SomeFailsNowhere (more e es)

-- the test says exactly which expressions fail nowhere
abbrev pub SettlesSure : List Rule → (Pattern → Bool) → Type 0
SettlesSure rules sure = (e : Pattern) → (sure e ≡ true) ↔ FailsNowhere rules e
