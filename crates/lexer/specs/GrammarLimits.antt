-- The limits of a grammar's text.
use Rattle.std.specs.Prelude.{ℕ}

-- how many bytes it has at most
abbrev pub max_grammar : ℕ
max_grammar = 1048576

-- how many of its brackets are open at once, at most
abbrev pub max_open : ℕ
max_open = 200
