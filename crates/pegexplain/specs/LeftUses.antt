-- To which names left steps lead from an expression.
use Rattle.std.specs.Prelude.{ℕ, ◌&&◌, Bool, true, List, [], ◌∷◌, ◌++◌, Option, Some, None, bytes_eq}
use Rattle.std.specs.Prelude.{if◌then◌else◌, option_map, option_to_list}
use Rattle.std.specs.List.{flat_map}
use Rattle.pegread.specs.Pattern.{Pattern, Patterns, Any, Bytes, Set, Name, Seq, Choice, Star, Plus, Opt, And, Not, Act}
use Rattle.pegread.specs.Pattern.{Open, Close, none, more}

-- a name that an expression uses, and whether left steps lead to it
pub record NameUse : Type 0 where
  pub name : List ℕ
  pub is_left : Bool

-- what comes first of two
abbrev pub or_else : {A : Type 0} → Option A → Option A → Option A
or_else None b = b
or_else (Some a) b = Some a

-- where it is known which expressions may take nothing
module _ (null : Pattern → Bool) where
  abbrev mutual
    -- the names in an expression, from left to right, if left steps lead to it or not
    pub uses_in : Bool → Pattern → List NameUse
    uses_in left Any = []
    uses_in left (Bytes bytes) = []
    uses_in left (Set test) = []
    uses_in left (Name name) = record { name = name; is_left = left } ∷ []
    uses_in left (Seq es) = member_uses left es
    uses_in left (Choice es) = alternative_uses left es
    uses_in left (Star e) = uses_in left e
    uses_in left (Plus e) = uses_in left e
    uses_in left (Opt e) = uses_in left e
    uses_in left (And e) = uses_in left e
    uses_in left (Not e) = uses_in left e
    uses_in left (Act template) = []
    uses_in left Open = []
    uses_in left Close = []

    -- in a sequence they lead to the members that only nullable ones stand before
    pub member_uses : Bool → Patterns → List NameUse
    member_uses left none = []
    member_uses left (more e es) = uses_in left e ++ member_uses (left && null e) es

    pub alternative_uses : Bool → Patterns → List NameUse
    alternative_uses left none = []
    alternative_uses left (more e es) = uses_in left e ++ alternative_uses left es

  module _ (name : List ℕ) where
    abbrev mutual
      -- the members before the first use of a name to which left steps lead, in each sequence on the way, outermost
      -- first; none if they lead to no use of it
      pub skipped_in : Pattern → Option (List Pattern)
      skipped_in Any = None
      skipped_in (Bytes bytes) = None
      skipped_in (Set test) = None
      skipped_in (Name n) = if bytes_eq n name then Some [] else None
      skipped_in (Seq es) = members_skipped es
      skipped_in (Choice es) = alternatives_skipped es
      skipped_in (Star e) = skipped_in e
      skipped_in (Plus e) = skipped_in e
      skipped_in (Opt e) = skipped_in e
      skipped_in (And e) = skipped_in e
      skipped_in (Not e) = skipped_in e
      skipped_in (Act template) = None
      skipped_in Open = None
      skipped_in Close = None

      pub members_skipped : Patterns → Option (List Pattern)
      members_skipped none = None
      members_skipped (more e es) =
          or_else (skipped_in e) (if null e then option_map (λ ds. e ∷ ds) (members_skipped es) else None)

      pub alternatives_skipped : Patterns → Option (List Pattern)
      alternatives_skipped none = None
      alternatives_skipped (more e es) = or_else (skipped_in e) (alternatives_skipped es)

-- the rules to which left steps lead from a body: those of the names to which they do, where the id of a name is known
abbrev pub use_ids : (List ℕ → Option ℕ) → NameUse → List ℕ
use_ids id_of_name u = if u.is_left then option_to_list (id_of_name u.name) else []

abbrev pub left_row : (List ℕ → Option ℕ) → (Pattern → Bool) → Pattern → List ℕ
left_row id_of_name null body = flat_map (use_ids id_of_name) (uses_in null true body)
