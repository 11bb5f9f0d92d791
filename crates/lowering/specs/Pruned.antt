-- Elements and rules without the parts that derive no list of symbols.
use Rattle.std.specs.Prelude.{◌≡◌, ℕ, ◌+◌, ◌≤◌, Bool, List, [], length, map, slice_get, Option, Some, None}
use Rattle.abnfread.specs.Element.{Element, Elements, Text, Values, Range, Concat, Alt, Rep, Opt, Name, Prose, none}
use Rattle.abnfread.specs.Element.{more, Rule, bodies, id_of}
use Rattle.abnfread.specs.AbnfViews.{element_of}
use Rattle.abnfread.specs.declared.elem.Elem.{Elem}
use Rattle.abnfcheck.specs.Derivable.{AreLetters, Derives, DerivesAll, AtMost}
use Rattle.flatgrammar.specs.Flat.{Flat}
use Rattle.lowering.specs.Lowered.{IsLowered}
use Rattle.flatgrammar.specs.Positions.{positions}
use Rattle.lowering.specs.Sizes.{sizes}
use Rattle.ruletable.specs.Letters.{HasLetter}

-- `has` marks the symbols of the alphabet
module _ (has : ℕ → Bool) (rules : List Rule) where
  -- an element derives some list of symbols
  pub record IsProductive (e : Element) : Type 0 where
    pub word : List ℕ
    pub letters : AreLetters has word
    pub derives : Derives has rules e word

  -- the members one after another derive some list of symbols
  pub record AreAllProductive (es : Elements) : Type 0 where
    pub word : List ℕ
    pub letters : AreLetters has word
    pub derives : DerivesAll has rules es word

  mutual
    -- `Keeps e d`: e is productive, and d is e with its productive parts alone
    pub data Keeps : Element → Element → Type 0 where
      keep_text : {folds : Bool} {t : List ℕ} → AreLetters has t → Keeps (Text folds t) (Text folds t)
      keep_values : {vs : List ℕ} → AreLetters has vs → Keeps (Values vs) (Values vs)
      keep_range : {low high : ℕ} → HasLetter has low high → Keeps (Range low high) (Range low high)
      keep_concat : {es ds : Elements} → KeepsAll es ds → Keeps (Concat es) (Concat ds)
      keep_alt : {es ds : Elements} → IsProductive (Alt es) → KeepsSome es ds → Keeps (Alt es) (Alt ds)
      keep_rep : {a : ℕ} {b : Option ℕ} {e d : Element} → AtMost a b → Keeps e d → Keeps (Rep a b e) (Rep a b d)
      empty_rep : {b : Option ℕ} {e : Element} → (IsProductive e → ⊥) → Keeps (Rep 0 b e) (Concat none)
      keep_opt : {e d : Element} → Keeps e d → Keeps (Opt e) (Opt d)
      empty_opt : {e : Element} → (IsProductive e → ⊥) → Keeps (Opt e) (Concat none)
      keep_name : {n : List ℕ} → IsProductive (Name n) → Keeps (Name n) (Name n)

    -- each member is kept
    pub data KeepsAll : Elements → Elements → Type 0 where
      keep_none : KeepsAll none none
      keep_more : {e d : Element} {es ds : Elements} → Keeps e d → KeepsAll es ds → KeepsAll (more e es) (more d ds)

    -- an alternative that is not productive is dropped
    pub data KeepsSome : Elements → Elements → Type 0 where
      some_none : KeepsSome none none
      kept : {e d : Element} {es ds : Elements} → Keeps e d → KeepsSome es ds → KeepsSome (more e es) (more d ds)
      dropped : {e : Element} {es ds : Elements} → (IsProductive e → ⊥) → KeepsSome es ds → KeepsSome (more e es) ds

  -- what is left of an element: nothing, if it is not productive
  abbrev pub IsLeft : Element → Option Element → Type 0
  IsLeft e None = IsProductive e → ⊥
  IsLeft e (Some d) = Keeps e d

  -- the body of a rule that is not productive becomes one that derives nothing
  pub data IsLeftBody : Element → Element → Type 0 where
    left_body : {e d : Element} → Keeps e d → IsLeftBody e d
    no_body : {e : Element} → (IsProductive e → ⊥) → IsLeftBody e (Prose [])

-- the same names with what is left of the bodies
pub record ArePruned (has : ℕ → Bool) (rules left : List Rule) : Type 0 where
  pub count : length left ≡ length rules
  pub names : map (λ rule. rule.name) left ≡ map (λ rule. rule.name) rules
  pub spans : map (λ rule. rule.span) left ≡ map (λ rule. rule.span) rules
  pub ids : (n : List ℕ) → id_of left n ≡ id_of rules n
  pub left_of : (id : ℕ) (e d : Element) → slice_get (bodies rules) id ≡ Some e → slice_get (bodies left) id ≡ Some d
      → IsLeftBody has rules e d

-- the nodes spell what is left of the rules, and have no more dotted rules than that, and two for the augmented start
pub record SpellsProductive (has : ℕ → Bool) (rules : List Rule) (judged : ℕ) (flat : Flat) : Type 0 where
  pub left : List Rule
  pub pruned : ArePruned has rules left
  pub spelled : IsLowered left judged flat
  pub within : positions flat.nodes ≤ sizes flat.limit (bodies left) + 2

abbrev pub some_element : Option Elem → Option Element
some_element None = None
some_element (Some e) = Some (element_of e)
