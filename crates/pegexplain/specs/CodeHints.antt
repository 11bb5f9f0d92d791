-- What the code found. It serves private helpers alone.
use Rattle.std.specs.Prelude.{◌≡◌, ℕ, ◌==◌, Bool, true, false, List, [], ◌∷◌, length, min, Option, Some, None, map}
use Rattle.std.specs.Prelude.{option_map, slice_get}
use Rattle.std.specs.List.{list_any}
use Rattle.std.specs.Option.{is_some}
use Rattle.diagnostics.specs.NumberLists.{numbers_for, positions_from}
use Rattle.pegread.specs.PegViews.{pattern_of}
use Rattle.pegread.specs.Pattern.{Pattern}
use Rattle.pegread.specs.declared.expr.Expr.{Expr}
use Rattle.ruletable.specs.Rules as table
use Rattle.ruletable.specs.Rules.{bodies_of, find_in, same_name}
use Rattle.ruletable.specs.declared.table.NameCase.TheVariants.{Exact}
use Rattle.pegexplain.specs.HiddenAlternatives.{AlternativeAt, HiddenBy, HintAt, is_any, literal_if, why_by}
use Rattle.pegexplain.specs.NullTests.{null_mark_of, nullable_by}
use Rattle.pegexplain.specs.SureNodes.{sure_by}
use Rattle.pegexplain.specs.declared.hints.alternatives.Alternative.{Alternative}
use Rattle.pegexplain.specs.declared.hints.alternatives.Earlier.{Earlier}
use Rattle.pegexplain.specs.declared.hints.alternatives.Hidden.{Hidden}
use Rattle.pegexplain.specs.declared.hints.hints.Hint.{Hint}
use Rattle.pegexplain.specs.declared.hints.known.KnownRules.{KnownRules}

-- the pattern of a body with an id
abbrev pub pattern_at : List Expr → Option ℕ → Option Pattern
pattern_at bodies None = None
pattern_at bodies (Some id) = option_map pattern_of (slice_get bodies id)

-- the bytes of the literal that is the rule of a name, by a table
abbrev pub literal_at : table.Rules Expr → List ℕ → Option (List ℕ)
literal_at rules name = literal_if (pattern_at (bodies_of rules) (find_in rules name))

-- what is known of rules
abbrev pub known_literal : KnownRules → List ℕ → Option (List ℕ)
known_literal known = literal_at known.rules.now

abbrev pub sure_in : KnownRules → Pattern → Bool
sure_in known = sure_by (null_mark_of known.rules.now known.sure.now)

abbrev pub null_in : KnownRules → Pattern → Bool
null_in known = nullable_by (null_mark_of known.rules.now known.nulls.now)

-- what the code's alternative stands for
abbrev pub alternative_found : Alternative → AlternativeAt
alternative_found a =
    record { e = pattern_of a.e.now; sure = a.sure; literal = option_map (λ b. b.now) a.literal }

abbrev pub alternatives_found : List Alternative → List AlternativeAt
alternatives_found alternatives = map alternative_found alternatives

-- what the code's hidden alternative stands for
abbrev pub hidden_found : Hidden → HiddenBy
hidden_found h = record { later = pattern_of h.later.now; earlier = pattern_of h.earlier.now; why = h.why }

-- what the code's hint stands for
abbrev pub hint_found : Hint → HintAt
hint_found h = record {
  rule = h.rule.now;
  body = pattern_of h.body.now;
  position = h.position;
  hidden = hidden_found h.hidden;
}

-- where the first alternative stands that passes
abbrev pub first_at : (AlternativeAt → Bool) → List AlternativeAt → Option ℕ
first_at passes alternatives = slice_get (positions_from 0 passes alternatives) 0

-- the earlier of two positions
abbrev pub earlier_position : Option ℕ → Option ℕ → Option ℕ
earlier_position None b = b
earlier_position (Some a) None = Some a
earlier_position (Some a) (Some b) = Some (min a b)

-- whether an alternative hides one that may take nothing or not, and begins with a literal
abbrev pub hides : Bool → Option (List ℕ) → AlternativeAt → Bool
hides null whole a = is_some (why_by a.sure (is_any a.e) a.literal null whole)

-- whether a literal has these bytes
abbrev pub is_literal : List ℕ → Option (List ℕ) → Bool
is_literal bytes None = false
is_literal bytes (Some literal) = same_name Exact bytes literal

-- whether the size of a literal is among some
abbrev pub is_sized : List ℕ → Option (List ℕ) → Bool
is_sized sizes None = true
is_sized sizes (Some literal) = list_any (λ n. n == length literal) sizes

-- the sizes of before and that of a literal are among the new ones
pub record IsSized (old new : List ℕ) (literal : Option (List ℕ)) : Type 0 where
  pub kept : (other : Option (List ℕ)) → is_sized old other ≡ true → is_sized new other ≡ true
  pub sized : is_sized new literal ≡ true

-- the sizes of all literals are among these
abbrev pub AreSizes : List ℕ → List AlternativeAt → Type 0
AreSizes sizes [] = Unit {0}
AreSizes sizes (x ∷ xs) = (is_sized sizes x.literal ≡ true) × AreSizes sizes xs

-- Of alternatives the code has where the first ones stand that fail nowhere and that are dots, where those of each
-- literal stand, and the sizes of the literals.
pub record IsIndexed (before : Earlier) : Type 0 where
  pub sure : before.sure ≡ first_at (λ a. a.sure) (alternatives_found before.all.items)
  pub dot : before.dot ≡ first_at (λ a. is_any a.e) (alternatives_found before.all.items)
  pub exact : before.literals.names ≡ Exact
  pub literals : (bytes : List ℕ) → numbers_for before.literals bytes
      ≡ positions_from 0 (λ a. is_literal bytes a.literal) (alternatives_found before.all.items)
  pub sizes : AreSizes before.sizes.items (alternatives_found before.all.items)
