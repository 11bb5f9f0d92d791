-- What is read of a body, within its open brackets.
use Rattle.std.specs.Prelude.{◌≡◌, List, [], ◌∷◌, ◌++◌, map, reverse, Option, None, MatchOption}
use Rattle.lexer.specs.declared.body.Level.{Level}
use Rattle.lexer.specs.declared.body.Body.{Body}

-- what an open bracket interrupts: the alternatives that ended, the items of the last one, and the mark of the bracket
pub data Part (N M : Type 0) : Type 0 where
  part : List N → List N → M → Part N M

module _ {N M : Type 0} where
  abbrev pub part_of : Level N M → Part N M
  part_of l = part l.alternatives.items l.items.items l.mark

  -- the open brackets, the innermost first
  abbrev pub brackets_of : Body N M → List (Part N M)
  brackets_of b = reverse (map part_of b.outer.items)

  -- within the innermost of them: the alternatives that ended
  abbrev pub alternatives_of : Body N M → List N
  alternatives_of b = b.alternatives.items

  -- and the items of the last one so far
  abbrev pub items_of : Body N M → List N
  items_of b = b.items.items

  -- these three
  pub record Has (b : Body N M) (o : List (Part N M)) (ended last : List N) : Type 0 where
    pub brackets : brackets_of b ≡ o
    pub alternatives : alternatives_of b ≡ ended
    pub items : items_of b ≡ last

-- the node of these members: a sequence or choice of one member is that member
abbrev pub IsNode : {N : Type 0} → (List N → N → Type 0) → List N → N → Type 0
IsNode Is [] x = Is [] x
IsNode Is (y ∷ []) x = x ≡ y
IsNode Is (y ∷ z ∷ zs) x = Is (y ∷ z ∷ zs) x

-- the items become one alternative more, their sequence
pub record EndsAlternative {N M : Type 0} (IsSequence : List N → N → Type 0) (old new : Body N M) : Type 0 where
  pub last : N
  pub sequence : IsNode IsSequence (items_of old) last
  pub rest : Has new (brackets_of old) (alternatives_of old ++ last ∷ []) []

module _ {N : Type 0} (IsSequence IsChoice : List N → N → Type 0) where
  -- the choice of these alternatives and of one more, the sequence of these items
  pub record IsWhole (alternatives items : List N) (x : N) : Type 0 where
    pub last : N
    pub sequence : IsNode IsSequence items last
    pub choice : IsNode IsChoice (alternatives ++ last ∷ []) x

  -- The innermost bracket is closed: its mark and the node within it are taken, and what it interrupted goes on. With
  -- none open there is nothing to close.
  abbrev pub Closes : {M : Type 0} → List (Part N M) → List N → List N → Option (M × N) → Body N M → Type 0
  Closes [] alternatives items r b = r ≡ None
  Closes (part bs es m ∷ o) alternatives items r b = MatchOption r ⊥
      (λ y. (y.0 ≡ m) × IsWhole alternatives items y.1 × Has b o bs es)
