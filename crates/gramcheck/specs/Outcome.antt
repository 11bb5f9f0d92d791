-- What an expression gives at a position of the input (Ford 2004, section 3.3, with captures and actions), and how far
-- that looks.
use Rattle.std.specs.Prelude.{◌≡◌, ℕ, zero, suc, ◌+◌, max, Bool, true, false, ◌&&◌, List, [], ◌∷◌, ◌++◌, length, map}
use Rattle.std.specs.Prelude.{drop, slice_get, Some, None, if◌then◌else◌, ◌==◌}
use Rattle.pegread.specs.Pattern.{Pattern, Patterns, Any, Bytes, Set, Name, Seq, Choice, Star, Plus, Opt, And, Not, Act}
use Rattle.pegread.specs.Pattern.{Open, Close, none, more, Rule, body_of}

-- what a success leaves: a capture's ends, with their positions, and the template of an action
pub data Event : Type 0 where
  Opened : (position : ℕ) → Event
  Closed : (position : ℕ) → Event
  Acted : (template : List ℕ) → Event

-- a failure, or the position where a success ends, with its events in order
pub data Outcome : Type 0 where
  Fails : Outcome
  Takes : (end : ℕ) → (events : List Event) → Outcome

abbrev pub begins_with : List ℕ → List ℕ → Bool
begins_with bytes [] = true
begins_with [] (b ∷ bs) = false
begins_with (c ∷ cs) (b ∷ bs) = (c == b) && begins_with cs bs

-- how many bytes a literal compares: up to the first mismatch, and that one too
abbrev pub compared : List ℕ → List ℕ → ℕ
compared bytes [] = 0
compared [] (b ∷ bs) = 0
compared (c ∷ cs) (b ∷ bs) = if c == b then compared cs bs + 1 else 1

-- one more than the position of the last byte of n compared from p on, or 0 where n is 0
abbrev pub looked_at : ℕ → ℕ → ℕ
looked_at p zero = 0
looked_at p (suc n) = p + suc n

module _ (rules : List Rule) (x : List ℕ) where
  mutual
    -- `Gives e p o k`: at position p, e gives o, and k is one more than the last position looked at, or 0
    pub data Gives : Pattern → ℕ → Outcome → ℕ → Type 0 where
      any_takes : {p b : ℕ} → slice_get x p ≡ Some b → Gives Any p (Takes (p + 1) []) (p + 1)
      any_at_end : {p : ℕ} → slice_get x p ≡ None → Gives Any p Fails 0
      set_takes : {s : ℕ → Bool} {p b : ℕ} → slice_get x p ≡ Some b → s b ≡ true
          → Gives (Set s) p (Takes (p + 1) []) (p + 1)
      set_fails : {s : ℕ → Bool} {p b : ℕ} → slice_get x p ≡ Some b → s b ≡ false → Gives (Set s) p Fails (p + 1)
      set_at_end : {s : ℕ → Bool} {p : ℕ} → slice_get x p ≡ None → Gives (Set s) p Fails 0
      bytes_take : {bs : List ℕ} {p : ℕ} → begins_with (drop p x) bs ≡ true →
          Gives (Bytes bs) p (Takes (p + length bs) []) (looked_at p (compared (drop p x) bs))
      bytes_fail : {bs : List ℕ} {p : ℕ} → begins_with (drop p x) bs ≡ false →
          Gives (Bytes bs) p Fails (looked_at p (compared (drop p x) bs))
      act : {t : List ℕ} {p : ℕ} → Gives (Act t) p (Takes p (Acted t ∷ [])) 0
      open_at : {p : ℕ} → Gives Open p (Takes p (Opened p ∷ [])) 0
      close_at : {p : ℕ} → Gives Close p (Takes p (Closed p ∷ [])) 0
      name : {n : List ℕ} {e : Pattern} {p k : ℕ} {o : Outcome} → body_of rules n ≡ Some e → Gives e p o k
          → Gives (Name n) p o k
      seq : {es : Patterns} {p k : ℕ} {o : Outcome} → GivesAll es p o k → Gives (Seq es) p o k
      choice : {es : Patterns} {p k : ℕ} {o : Outcome} → GivesFirst es p o k → Gives (Choice es) p o k
      opt_takes : {e : Pattern} {p q k : ℕ} {es : List Event} → Gives e p (Takes q es) k
          → Gives (Opt e) p (Takes q es) k
      opt_none : {e : Pattern} {p k : ℕ} → Gives e p Fails k → Gives (Opt e) p (Takes p []) k
      star_none : {e : Pattern} {p k : ℕ} → Gives e p Fails k → Gives (Star e) p (Takes p []) k
      star_more : {e : Pattern} {p q r j k : ℕ} {es fs : List Event} → Gives e p (Takes q es) j →
          Gives (Star e) q (Takes r fs) k → Gives (Star e) p (Takes r (es ++ fs)) (max j k)
      plus_fails : {e : Pattern} {p k : ℕ} → Gives e p Fails k → Gives (Plus e) p Fails k
      plus_takes : {e : Pattern} {p q r j k : ℕ} {es fs : List Event} → Gives e p (Takes q es) j →
          Gives (Star e) q (Takes r fs) k → Gives (Plus e) p (Takes r (es ++ fs)) (max j k)
      and_takes : {e : Pattern} {p q k : ℕ} {es : List Event} → Gives e p (Takes q es) k
          → Gives (And e) p (Takes p []) k
      and_fails : {e : Pattern} {p k : ℕ} → Gives e p Fails k → Gives (And e) p Fails k
      not_takes : {e : Pattern} {p k : ℕ} → Gives e p Fails k → Gives (Not e) p (Takes p []) k
      not_fails : {e : Pattern} {p q k : ℕ} {es : List Event} → Gives e p (Takes q es) k → Gives (Not e) p Fails k

    -- the members in order, each from the position of the one before
    pub data GivesAll : Patterns → ℕ → Outcome → ℕ → Type 0 where
      all_done : {p : ℕ} → GivesAll none p (Takes p []) 0
      one_fails : {e : Pattern} {rest : Patterns} {p k : ℕ} → Gives e p Fails k → GivesAll (more e rest) p Fails k
      rest_fails : {e : Pattern} {rest : Patterns} {p q j k : ℕ} {es : List Event} → Gives e p (Takes q es) j →
          GivesAll rest q Fails k → GivesAll (more e rest) p Fails (max j k)
      rest_takes : {e : Pattern} {rest : Patterns} {p q r j k : ℕ} {es fs : List Event} → Gives e p (Takes q es) j →
          GivesAll rest q (Takes r fs) k → GivesAll (more e rest) p (Takes r (es ++ fs)) (max j k)

    -- the first alternative that succeeds
    pub data GivesFirst : Patterns → ℕ → Outcome → ℕ → Type 0 where
      all_failed : {p : ℕ} → GivesFirst none p Fails 0
      first_takes : {e : Pattern} {rest : Patterns} {p q k : ℕ} {es : List Event} → Gives e p (Takes q es) k →
          GivesFirst (more e rest) p (Takes q es) k
      first_fails : {e : Pattern} {rest : Patterns} {p j k : ℕ} {o : Outcome} → Gives e p Fails j →
          GivesFirst rest p o k → GivesFirst (more e rest) p o (max j k)

-- what the body of the rule with that id gives at the front of x
pub record RuleGives (rules : List Rule) (start : ℕ) (x : List ℕ) (o : Outcome) (k : ℕ) : Type 0 where
  pub body : Pattern
  pub rule : slice_get (map (λ rule. rule.body) rules) start ≡ Some body
  pub gives : Gives rules x body 0 o k
