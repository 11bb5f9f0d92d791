-- Elements that are the same but for case: names compare without case (RFC 5234, section 2.1), and so do the letters of
-- a text that folds (RFC 7405, section 2.1). White space between elements is nothing that an element has. RFC 5234,
-- section 2.1 allows angle brackets round a name: where that counts, a name is the same as a prose of that name.
use Rattle.std.specs.Prelude.{ℕ, ◌==◌, ◌&&◌, bytes_eq, Bool, true, false, List, Option, None, Some, not, if◌then◌else◌}
use Rattle.ruletable.specs.Rules.{same_name}
use Rattle.ruletable.specs.declared.table.NameCase.TheVariants.{Fold}
use Rattle.abnfread.specs.Element.{Element, Elements, Text, Values, Range, Concat, Alt, Rep, Opt, Name, Prose, none}
use Rattle.abnfread.specs.Element.{more}

abbrev pub same_bound : Option ℕ → Option ℕ → Bool
same_bound None None = true
same_bound (Some n) (Some m) = n == m
same_bound None (Some m) = false
same_bound (Some n) None = false

abbrev pub same_spelling : Bool → List ℕ → List ℕ → Bool
same_spelling folds a b = if folds then same_name Fold a b else bytes_eq a b

abbrev pub same_flag : Bool → Bool → Bool
same_flag true b = b
same_flag false b = not b

abbrev mutual
  -- the same, or where `named` is true, a prose and a name that it says
  pub same_as : Bool → Element → Element → Bool
  same_as named (Text f a) (Text g b) = same_flag f g && same_spelling f a b
  same_as named (Values a) (Values b) = bytes_eq a b
  same_as named (Range l h) (Range m k) = (l == m) && (h == k)
  same_as named (Concat xs) (Concat ys) = all_same named xs ys
  same_as named (Alt xs) (Alt ys) = all_same named xs ys
  same_as named (Rep a b x) (Rep c d y) = (a == c) && (same_bound b d && same_as named x y)
  same_as named (Opt x) (Opt y) = same_as named x y
  same_as named (Name a) (Name b) = same_name Fold a b
  same_as named (Prose a) (Prose b) = bytes_eq a b
  same_as named (Prose a) (Name b) = named && same_name Fold a b
  same_as named _ _ = false

  -- the same elements, in the same order
  pub all_same : Bool → Elements → Elements → Bool
  all_same named none none = true
  all_same named (more x xs) (more y ys) = same_as named x y && all_same named xs ys
  all_same named none (more y ys) = false
  all_same named (more x xs) none = false
