-- What the first bytes of a text show.
use Rattle.std.specs.Prelude.{ℕ, ◌==◌, List, [], ◌∷◌, ◌++◌, Option, Some, None, codes, if◌then◌else◌}
use Rattle.std.specs.List.{starts_with}
use Rattle.std.specs.Option.{option_map_or}

-- what is reported of a text that begins so
pub record Row : Type 0 where
  pub begins : List ℕ
  pub reported : List ℕ

abbrev pub row : List ℕ → List ℕ → Row
row begins reported = record { begins = begins; reported = reported }

-- a line of it, after two spaces
abbrev pub fact_line : List ℕ → List ℕ
fact_line z = codes "  " ++ (z ++ codes "\n")

-- what the first row reports with which the text begins
abbrev pub first_fact : List Row → List ℕ → Option (List ℕ)
first_fact [] z = None
first_fact (r ∷ rs) z = if starts_with (λ a b. a == b) z r.begins then Some r.reported else first_fact rs z

-- the line of it, or nothing
abbrev pub first_reported : List Row → List ℕ → List ℕ
first_reported rows z = option_map_or fact_line (first_fact rows z) []
