-- The line of a byte from that of one before it.
-- Serves: heads_of
use Rattle.std.proofs.Common.{◌≡◌, ℕ, zero, suc, ◌+◌, ◌-◌, ◌≤◌, List, [], ◌∷◌, length, take, drop, arith}
use Rattle.std.proofs.Common.{length-drop}
use Rattle.std.proofs.lemmas.List.{take_all}
use Rattle.ruletable.specs.Lines.{line_ends, line_at}
use Rattle.ruletable.specs.declared.lines.LineRule.{LineRule}

pub ends-split : (rule : LineRule) (text : List ℕ) (a b : ℕ) → line_ends rule text (a + b)
    ≡ line_ends rule text a + line_ends rule (drop a text) b
ends-split rule [] zero b = grind arith
ends-split rule [] (suc a) b = grind arith
ends-split rule (x ∷ text) zero b = grind arith
ends-split rule (x ∷ text) (suc a) b = grind (arith, ends-split rule text a b)

pub ends-few : (rule : LineRule) (text : List ℕ) (n : ℕ) → line_ends rule text n ≤ n
ends-few rule [] n = grind arith
ends-few rule (x ∷ text) zero = grind arith
ends-few rule (x ∷ text) (suc n) = grind (arith, ends-few rule text n)

pub line-after : (rule : LineRule) (text : List ℕ) (at offset : ℕ) → at ≤ offset → line_at rule text at
    + (line_at rule (take (length text - at) (drop at text)) (offset - at) - 1) ≡ line_at rule text offset
line-after rule text at offset le =
    let all : take (length text - at) (drop at text) ≡ drop at text = take_all (length text - at) (drop at text)
    (omega (arith, length-drop at text)) in
    let e : at + (offset - at) ≡ offset = omega (arith, le) in
    let s = ends-split rule text at (offset - at) in
    let t = rw e at s in
    rw all (omega (arith, t))
