-- Nodes that are added change nothing of what the others spell.
-- Serves: lower.
use Rattle.std.proofs.Common.{◌≡◌, ℕ, zero, suc, ◌+◌, ◌<◌, List, [], ◌∷◌, ◌++◌, length, sym, subst, arith}
use Rattle.std.specs.Prelude.{slice_get, Some}
use Rattle.abnfread.specs.Element.{Element, Elements, Rule}
use Rattle.flatgrammar.specs.Flat.{Node}
use Rattle.lowering.specs.Lowered.{Spells, spells, Shows, shows_text, shows_values, shows_range, shows_concat}
use Rattle.lowering.specs.Lowered.{shows_alt, shows_rep, shows_iterations, shows_reversed, shows_opt, shows_name}
use Rattle.lowering.specs.Lowered.{shows_prose, SpellAll, spell_none, spell_more}
use Rattle.flatgrammar.specs.Positions.{width, positions}
use Rattle.flatgrammar.specs.Operands.{IsOperand}
use Rattle.flatgrammar.proofs.SliceGetLemmas.{get_below}
use Rattle.flatgrammar.proofs.SliceGetLemmas.{get_kept}

module _ (rules : List Rule) (limit : ℕ) (xs ys : List Node) where
  mutual
    pub still_spells : {s : ℕ} {el : Element} → Spells rules limit xs s el → Spells rules limit (xs ++ ys) s el
    still_spells (spells {s = s} is shown) = spells (get_kept xs ys s is) (still_shows shown)

    pub still_shows : {node : Node} {el : Element} → Shows rules limit xs node el → Shows rules limit (xs ++ ys) node el
    still_shows (shows_text is) = shows_text is
    still_shows (shows_values is) = shows_values is
    still_shows shows_range = shows_range
    still_shows (shows_concat all) = shows_concat (still_spell_all all)
    still_shows (shows_alt all) = shows_alt (still_spell_all all)
    still_shows (shows_rep low high bounds never sp) = shows_rep low high bounds never (still_spells sp)
    still_shows (shows_iterations high within empty sp) = shows_iterations high within empty (still_spells sp)
    still_shows (shows_reversed lt) = shows_reversed lt
    still_shows (shows_opt sp) = shows_opt (still_spells sp)
    still_shows (shows_name is) = shows_name is
    still_shows shows_prose = shows_prose

    pub still_spell_all : {ms : List ℕ} {es : Elements} → SpellAll rules limit xs ms es
        → SpellAll rules limit (xs ++ ys) ms es
    still_spell_all spell_none = spell_none
    still_spell_all (spell_more sp all) = spell_more (still_spells sp) (still_spell_all all)

pub positions_more : (xs ys : List Node) → positions (xs ++ ys) ≡ positions xs + positions ys
positions_more [] ys = omega arith
positions_more (x ∷ xs) ys = let rest = positions_more xs ys in omega (arith, rest)

pub positions_push : (xs : List Node) (node : Node) → positions (xs ++ node ∷ []) ≡ positions xs + width node
positions_push xs node = let all = positions_more xs (node ∷ []) in omega (arith, all)

pub spells_below : (rules : List Rule) (limit : ℕ) (xs : List Node) {m : ℕ} {el : Element} → Spells rules limit xs m el
    → m < length xs
spells_below rules limit xs (spells {s = s} is shown) = get_below xs s is

pub all_below : (rules : List Rule) (limit : ℕ) (xs : List Node) {ms : List ℕ} {es : Elements}
    → SpellAll rules limit xs ms es → (k m : ℕ) → slice_get ms k ≡ Some m → m < length xs
all_below rules limit xs spell_none k m h = absurd (cc h)
all_below rules limit xs (spell_more {m = first} sp all) zero m h =
    let same : first ≡ m = cc h in
    subst (λ v. v < length xs) same (spells_below rules limit xs sp)
all_below rules limit xs (spell_more sp all) (suc k) m h = all_below rules limit xs all k m h

-- the operands of a node that shows an element are there
pub operand_below : (rules : List Rule) (limit : ℕ) (xs : List Node) {node : Node} {el : Element}
    → Shows rules limit xs node el → (m : ℕ) → IsOperand node m → m < length xs
operand_below rules limit xs (shows_text is) m h = absurd h
operand_below rules limit xs (shows_values is) m h = absurd h
operand_below rules limit xs shows_range m h = absurd h
operand_below rules limit xs (shows_concat all) m h = all_below rules limit xs all h.0 m h.1
operand_below rules limit xs (shows_alt all) m h = all_below rules limit xs all h.0 m h.1
operand_below rules limit xs (shows_rep low high bounds never sp) m h =
    subst (λ v. v < length xs) (sym h) (spells_below rules limit xs sp)
operand_below rules limit xs (shows_iterations high within empty sp) m h =
    subst (λ v. v < length xs) (sym h) (spells_below rules limit xs sp)
operand_below rules limit xs (shows_reversed lt) m h = absurd h
operand_below rules limit xs (shows_opt sp) m h = subst (λ v. v < length xs) (sym h) (spells_below rules limit xs sp)
operand_below rules limit xs (shows_name is) m h = absurd h
operand_below rules limit xs shows_prose m h = absurd h
