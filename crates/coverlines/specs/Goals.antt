-- The goals of the rules of a grammar, and the derivations that reach them.
use Rattle.std.specs.Prelude.{◌≡◌, ◌⊎◌, ℕ, zero, suc, ◌+◌, ◌-◌, ◌≤◌, Bool, true, false, ◌&&◌, ltb, if◌then◌else◌}
use Rattle.std.specs.Prelude.{List, [], ◌∷◌, ◌++◌, map, slice_get, Option, Some, None}
use Rattle.abnfread.specs.Element.{Element, Elements, Text, Values, Range, Concat, Alt, Rep, Opt, Name, none, more}
use Rattle.abnfread.specs.Element.{Rule, bodies, id_of}
use Rattle.abnfcheck.specs.Derivable.{AreLetters, AtMost, Derives, DerivesAll, DerivesTimes}
use Rattle.coverlines.specs.declared.way.GoalWay.{GoalWay}
use Rattle.coverlines.specs.declared.way.GoalWay.TheVariants.{Chosen, Taken, LeftOut, Rounds, First, Last, Same}
use Rattle.coverlines.specs.declared.way.GoalWay.TheVariants.{OtherCase}

-- the element of that number
abbrev pub member_at : Elements → ℕ → Option Element
member_at none i = None
member_at (more e es) zero = Some e
member_at (more e es) (suc i) = member_at es i

-- a letter in the other case, any other symbol as it is
abbrev pub swapped_case : ℕ → ℕ
swapped_case c = if ltb 64 c && ltb c 91 then c + 32 else (if ltb 96 c && ltb c 123 then c - 32 else c)

-- no value from low to high is a symbol that a line may have
abbrev pub HasNoneIn : (ℕ → Bool) → ℕ → ℕ → Type 0
HasNoneIn may low high = (c : ℕ) → low ≤ c → c ≤ high → may c ≡ false

-- the least one that is
pub record IsFirstIn (may : ℕ → Bool) (low high c : ℕ) : Type 0 where
  pub from : low ≤ c
  pub to : c ≤ high
  pub is : may c ≡ true
  pub least : (d : ℕ) → low ≤ d → d ≤ high → may d ≡ true → c ≤ d

-- the greatest one that is
pub record IsLastIn (may : ℕ → Bool) (low high c : ℕ) : Type 0 where
  pub from : low ≤ c
  pub to : c ≤ high
  pub is : may c ≡ true
  pub most : (d : ℕ) → low ≤ d → d ≤ high → may d ≡ true → d ≤ c

-- The rounds of a repetition that are goals: as few as may be; as many as may be, or one more than the fewest where
-- there is no bound; and one, where there is a bound.
abbrev pub IsRoundGoal : ℕ → Option ℕ → ℕ → Type 0
IsRoundGoal least None k = (k ≡ least) ⊎ (k ≡ least + 1)
IsRoundGoal least (Some most) k = (k ≡ least) ⊎ (k ≡ most) ⊎ (k ≡ 1)

-- `has` marks the symbols of the alphabet, and `may` those that a line may have
module _ (has may : ℕ → Bool) (rules : List Rule) where
  -- an element derives a list in the way of a goal
  pub data Makes : Element → GoalWay → List ℕ → Type 0 where
    chosen : {i : ℕ} {es : Elements} {e : Element} {w : List ℕ} → member_at es i ≡ Some e → Derives has rules e w
        → Makes (Alt es) (Chosen i) w
    taken : {e : Element} {w : List ℕ} → Derives has rules e w → Makes (Opt e) Taken w
    left_out : {e : Element} → Makes (Opt e) LeftOut []
    rounds : {a k : ℕ} {b : Option ℕ} {e : Element} {w : List ℕ} → IsRoundGoal a b k → a ≤ k → AtMost k b
        → DerivesTimes has rules e k w → Makes (Rep a b e) (Rounds k) w
    first : {low high c : ℕ} → IsFirstIn may low high c → Makes (Range low high) First (c ∷ [])
    last : {low high c : ℕ} → IsLastIn may low high c → Makes (Range low high) Last (c ∷ [])
    same_text : {folds : Bool} {t : List ℕ} → Makes (Text folds t) Same t
    other_text : {t : List ℕ} → Makes (Text true t) OtherCase (map swapped_case t)
    same_values : {vs : List ℕ} → AreLetters has vs → Makes (Values vs) Same vs

  -- the member of a number, and what those before it and those after it derive
  pub data Beside : Elements → ℕ → Element → List ℕ → List ℕ → Type 0 where
    first_member : {e : Element} {es : Elements} {v : List ℕ} → DerivesAll has rules es v
        → Beside (more e es) 0 e [] v
    later_member : {e d : Element} {es : Elements} {i : ℕ} {u w v : List ℕ} → Derives has rules e u
        → Beside es i d w v → Beside (more e es) (suc i) d (u ++ w) v

  -- In a derivation of an element another one stands at a site, with the first list before it and the second after
  -- it. The site is the numbers of the operands that lead to it.
  pub data Inside : Element → List ℕ → Element → List ℕ → List ℕ → Type 0 where
    itself : {e : Element} → Inside e [] e [] []
    in_concat : {es : Elements} {i : ℕ} {m d : Element} {u v x y p : List ℕ} → Beside es i m u v → Inside m p d x y
        → Inside (Concat es) (i ∷ p) d (u ++ x) (y ++ v)
    in_alt : {es : Elements} {i : ℕ} {m d : Element} {x y p : List ℕ} → member_at es i ≡ Some m → Inside m p d x y
        → Inside (Alt es) (i ∷ p) d x y
    in_rep : {a k l : ℕ} {b : Option ℕ} {e d : Element} {u v x y p : List ℕ} → a ≤ k + 1 + l → AtMost (k + 1 + l) b
        → DerivesTimes has rules e k u → DerivesTimes has rules e l v → Inside e p d x y
        → Inside (Rep a b e) (0 ∷ p) d (u ++ x) (y ++ v)
    in_opt : {e d : Element} {x y p : List ℕ} → Inside e p d x y → Inside (Opt e) (0 ∷ p) d x y

  -- in a derivation from the judged rule the rule of that id stands with the first list before it and the second after
  -- it
  pub data Around (judged : ℕ) : ℕ → List ℕ → List ℕ → Type 0 where
    judged_rule : Around judged judged [] []
    by_name : {id : ℕ} {body : Element} {name u v x y p : List ℕ} → Around judged id x y
        → slice_get (bodies rules) id ≡ Some body → Inside body p (Name name) u v
        → Around judged (id_of rules name) (x ++ u) (v ++ y)

-- what an element at a site in the body of a rule does
pub record Goal : Type 0 where
  pub rule : ℕ
  pub site : List ℕ
  pub way : GoalWay

-- a derivation of a list from the judged rule does what the goal asks for
pub record Does (has may : ℕ → Bool) (rules : List Rule) (judged : ℕ) (g : Goal) (w : List ℕ) : Type 0 where
  pub body : Element
  pub element : Element
  pub before : List ℕ
  pub after : List ℕ
  pub left : List ℕ
  pub right : List ℕ
  pub word : List ℕ
  pub around : Around has may rules judged g.rule before after
  pub body_is : slice_get (bodies rules) g.rule ≡ Some body
  pub inside : Inside has may rules body g.site element left right
  pub makes : Makes has may rules element g.way word
  pub is : w ≡ (before ++ left) ++ (word ++ (right ++ after))
