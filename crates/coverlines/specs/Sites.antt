-- Elements within an element, with shortest contexts.
use Rattle.std.specs.Prelude.{◌≡◌, ℕ, ◌+◌, ◌<◌, ◌≤◌, List, [], ◌∷◌, ◌++◌, map, length, Contains, Option, Some}
use Rattle.std.specs.Prelude.{None}
use Rattle.std.proofs.Common.{Vec, Global}
use Rattle.abnfread.specs.Element.{Element, Rule}
use Rattle.abnfread.specs.AbnfViews.{element_of}
use Rattle.abnfcheck.specs.Derivable.{AreLetters, AtMost}
use Rattle.ruletable.specs.Letters.{has}
use Rattle.coverlines.specs.Goals.{Inside}
use Rattle.coverlines.specs.Shortest.{SpellsTimes, may}
use Rattle.coverlines.specs.declared.bounds.LineBounds.{LineBounds}
use Rattle.coverlines.specs.declared.sites.Site.{Site}

-- an element, and what stands before and after it
pub record Stood : Type 0 where
  pub element : Element
  pub before : List ℕ
  pub after : List ℕ

abbrev pub stood_of : Site → Stood
stood_of site = record {
  element = element_of site.elem.now;
  before = site.context.before.items;
  after = site.context.after.items;
}

-- with more before it and after it
abbrev pub stood_in : List ℕ → List ℕ → Stood → Stood
stood_in front back s = record { element = s.element; before = front ++ s.before; after = s.after ++ back }

-- how many symbols stand round it
abbrev pub room_of : Stood → ℕ
room_of s = length s.before + length s.after

-- the site is the whole, or it leads through one of the first so many operands
abbrev pub IsSiteBelow : ℕ → List ℕ → Type 0
IsSiteBelow n [] = Unit {0}
IsSiteBelow n (i ∷ p) = i < n

module _ (b : LineBounds) (rules : List Rule) where
  module _ (e : Element) where
    -- it stands so at a site
    pub record StandsAt (p : List ℕ) (s : Stood) : Type 0 where
      pub inside : Inside (has b.alphabet) (may b) rules e p s.element s.before s.after
      pub before : AreLetters (may b) s.before
      pub after : AreLetters (may b) s.after

    -- it stands so at a site, with as few symbols round it as may be
    pub record IsLeastAt (p : List ℕ) (s : Stood) : Type 0 where
      pub stands : StandsAt p s
      pub least : (t : Stood) → StandsAt p t → room_of s ≤ room_of t

    -- one of them stands at that site, with no more symbols round it
    pub record HasShorter (all : List Stood) (p : List ℕ) (s : Stood) : Type 0 where
      pub other : Stood
      pub among : Contains all other
      pub stands : StandsAt p other
      pub same : other.element ≡ s.element
      pub within : room_of other ≤ room_of s

    -- Each stands at some site, with as few symbols round it as may be. Of each site through the first so many operands
    -- one does, if that are at most `limit` symbols.
    pub record AreSitesTo (n : ℕ) (all : List Stood) : Type 0 where
      pub right : (s : Stood) → Contains all s → (p : List ℕ) × IsLeastAt p s
      pub complete : (p : List ℕ) (s : Stood) → IsSiteBelow n p → StandsAt p s → room_of s ≤ b.limit
          → HasShorter all p s

    -- .. of each site
    pub record AreSites (all : List Stood) : Type 0 where
      pub right : (s : Stood) → Contains all s → (p : List ℕ) × IsLeastAt p s
      pub complete : (p : List ℕ) (s : Stood) → StandsAt p s → room_of s ≤ b.limit → HasShorter all p s

  -- the sites of an operand were added, each with these lists round it
  pub record AddsSites (d : Element) (front back : List ℕ) (old new : List Stood) : Type 0 where
    pub inner : List Stood
    pub sites : AreSites d inner
    pub is : new ≡ old ++ map (stood_in front back) inner

  -- .. if both lists are there
  abbrev pub MayAddSites : Element → Option (Vec ℕ Global) → Option (Vec ℕ Global) → List Stood → List Stood → Type 0
  MayAddSites d None back old new = new ≡ old
  MayAddSites d (Some u) None old new = new ≡ old
  MayAddSites d (Some u) (Some v) old new = AddsSites d u.items v.items old new

  -- the other rounds of a repetition, where one is taken out
  pub record OtherRounds (least : ℕ) (most : Option ℕ) (e : Element) (w : List ℕ) : Type 0 where
    pub count : ℕ
    pub low : least ≤ count + 1
    pub high : AtMost (count + 1) most
    pub spelled : SpellsTimes b rules e count w
