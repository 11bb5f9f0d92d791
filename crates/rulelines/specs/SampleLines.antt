-- Lines of symbols each of which comes before all that no set distinguishes from it.
use Rattle.std.specs.Prelude.{◌≡◌, ◌↔◌, ℕ, ◌≤◌, Bool, true, List, [], ◌∷◌}
use Rattle.abnfcheck.specs.AlikeSymbols.{AreAlikeFor}
use Rattle.abnfread.specs.Element.{Rule}
use Rattle.ruletable.specs.declared.alphabet.Alphabet.{Alphabet}
use Rattle.rulelines.specs.FirstLines.{sort_key}
use Rattle.rulelines.specs.LineSets.{IsLineIn, IsRuleLine, LineSet, is_line_symbol}

-- of the symbols that are alike it is the first
abbrev pub IsFirstOf : (ℕ → Bool) → (ℕ → ℕ → Type 0) → ℕ → Type 0
IsFirstOf has alike c = (d : ℕ) → has d ≡ true → alike d c → sort_key c ≤ sort_key d

-- each symbol is
abbrev pub AreFirstOf : (ℕ → Bool) → (ℕ → ℕ → Type 0) → List ℕ → Type 0
AreFirstOf has alike [] = Unit {0}
AreFirstOf has alike (c ∷ w) = IsFirstOf has alike c × AreFirstOf has alike w

-- a line of the rule of an id; of the symbols that no set of a rule that is reached distinguishes from one of its own,
-- that is the first
pub record IsSampleLine (alphabet : Alphabet) (terminator limit : ℕ) (rules : List Rule) (id : ℕ) (w : List ℕ)
    : Type 0 where
  pub line : IsRuleLine alphabet terminator limit rules id w
  pub firsts : AreFirstOf (is_line_symbol alphabet terminator) (AreAlikeFor rules id) w

-- the lines are those
abbrev pub AreSampleLines : Alphabet → ℕ → ℕ → List Rule → ℕ → LineSet → Type 0
AreSampleLines alphabet terminator limit rules id set =
    (w : List ℕ) → IsLineIn set w ↔ IsSampleLine alphabet terminator limit rules id w
