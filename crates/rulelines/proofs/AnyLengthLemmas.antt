-- A flat grammar without a count above its limit serves lines of any length.
-- Serves: lower_any.
use Rattle.std.proofs.Common.{◌≡◌, ℕ, ◌+◌, ◌≤◌, Bool, true, leb, List, length, refl, ◌∙◌}
use Rattle.std.proofs.Common.{arith, ◌↔◌, le-leb}
use Rattle.std.specs.Prelude.{Option, Some, None}
use Rattle.std.proofs.lemmas.Bool.Decides.{nat_tests}
use Rattle.abnfread.specs.Element.{Element, Elements, Rule}
use Rattle.abnfcheck.specs.Derivable.{AreLetters, RuleDerives}
use Rattle.flatgrammar.specs.Flat.{calls, Calls, capped, Ends, ends, Flat, name_ends, name_starts}
use Rattle.flatgrammar.specs.Flat.{Node, Dot, reads, Reads, Set, Starts, starts, Takes, in_iterations}
use Rattle.flatgrammar.specs.FlatVerdicts.{DerivesLine}
use Rattle.flatgrammar.specs.Holds.{begins, called, has_read, Holds, returned}
use Rattle.lowering.specs.Lowered.{capped_most, IsLowered, Shows, shows_alt, shows_concat, shows_name, shows_opt}
use Rattle.lowering.specs.Lowered.{shows_prose, shows_range, shows_rep, shows_reversed, shows_text, shows_iterations}
use Rattle.lowering.specs.Lowered.{shows_values, spell_more, spell_none, SpellAll, Spells, spells}
use Rattle.lowering.proofs.RuleDerivesLemmas.{derives_exactly}
use Rattle.abnfcheck.specs.CountsWithin.{AllCountsWithin, CountsWithin, MostWithin, RuleCountsWithin}

-- the same grammar for lines of at most m symbols
abbrev with_limit : Flat → ℕ → Flat
with_limit flat m = record { nodes = flat.nodes; bodies = flat.bodies; start = flat.start; limit = m }

module _ (flat : Flat) (l m : ℕ) where
  starts_same : {s : ℕ} {p : Dot} → Starts (with_limit flat l) s p → Starts (with_limit flat m) s p
  starts_same (starts is b) = starts is b
  starts_same (name_starts is at st) = name_starts is at (starts_same st)

  ends_same : {s : ℕ} {p : Dot} → Ends (with_limit flat l) p s → Ends (with_limit flat m) p s
  ends_same (ends is d) = ends is d
  ends_same (name_ends is at en) = name_ends is at (ends_same en)

  reads_same : {p r : Dot} {set : Set} → Reads (with_limit flat l) p set r → Reads (with_limit flat m) p set r
  reads_same (reads is rd) = reads is rd

  calls_same : {p r : Dot} {s : ℕ} → Calls (with_limit flat l) p s r → Calls (with_limit flat m) p s r
  calls_same (calls is c) = calls is c

  takes_same : {p : Dot} → Takes (with_limit flat m) p → Takes (with_limit flat l) p
  takes_same (in_iterations is t) = in_iterations is t

  holds_same : (x : List ℕ) {j i : ℕ} {p : Dot} → Holds (with_limit flat l) x j p i
      → Holds (with_limit flat m) x j p i
  holds_same x (begins st) = begins (starts_same st)
  holds_same x (called h c st) = called (holds_same x h) (calls_same c) (starts_same st)
  holds_same x (has_read h rd is lies) = has_read (holds_same x h) (reads_same rd) is lies
  holds_same x (returned h en g c takes) =
      returned (holds_same x h) (ends_same en) (holds_same x g) (calls_same c) (λ t. takes (takes_same t))

least_same : (l m a : ℕ) → a ≤ l → l ≤ m → capped l a ≡ capped m a
least_same l m a small le = grind (arith, nat_tests)

most_same : (l m : ℕ) (b : Option ℕ) → MostWithin l b → l ≤ m → capped_most l b ≡ capped_most m b
most_same l m None small le = refl
most_same l m (Some most) small le =
    let low : leb most l ≡ true = le-leb most l small in
    let high : leb most m ≡ true = le-leb most m (omega (arith, small, le)) in
    grind (arith, nat_tests, low, high)

module _ (rules : List Rule) (l m : ℕ) (le : l ≤ m) (nodes : List Node) where
  mutual
    spells_more : {s : ℕ} {el : Element} → Spells rules l nodes s el → CountsWithin l el → Spells rules m nodes s el
    spells_more (spells {s = s} is shown) all = spells is (shows_more shown all)

    shows_more : {node : Node} {el : Element} → Shows rules l nodes node el → CountsWithin l el
        → Shows rules m nodes node el
    shows_more (shows_text is) all = shows_text is
    shows_more (shows_values is) all = shows_values is
    shows_more shows_range all = shows_range
    shows_more (shows_concat ms) all = shows_concat (spell_all_more ms all)
    shows_more (shows_alt ms) all = shows_alt (spell_all_more ms all)
    shows_more (shows_rep {a = a} {b = b} low high bounds never sp) all = shows_rep (low ∙ least_same l m a all.0 le)
        (high ∙ most_same l m b all.1 le) bounds never (spells_more sp all.2)
    shows_more (shows_iterations {a = a} {b = b} high bounds empty sp) all =
        shows_iterations (high ∙ most_same l m b all.1 le) bounds empty (spells_more sp all.2)
    shows_more (shows_reversed lt) all = shows_reversed lt
    shows_more (shows_opt sp) all = shows_opt (spells_more sp all)
    shows_more (shows_name is) all = shows_name is
    shows_more shows_prose all = shows_prose

    spell_all_more : {ms : List ℕ} {es : Elements} → SpellAll rules l nodes ms es → AllCountsWithin l es
        → SpellAll rules m nodes ms es
    spell_all_more spell_none all = spell_none
    spell_all_more (spell_more sp rest) all = spell_more (spells_more sp all.0) (spell_all_more rest all.1)

module _ (has : ℕ → Bool) (rules : List Rule) (judged : ℕ) (flat : Flat) (lowered : IsLowered rules judged flat)
    (within : RuleCountsWithin flat.limit rules) (x : List ℕ) (symbols : AreLetters has x) where
  lowered_more : (m : ℕ) → flat.limit ≤ m → IsLowered rules judged (with_limit flat m)
  lowered_more m le = record {
    spelled = record {
      count = lowered.spelled.count;
      spelled = λ id s is.
          let g = lowered.spelled.spelled id s is in
          (g.0, g.1, spells_more rules flat.limit m le flat.nodes g.2 (within id g.0 g.1));
    };
    body = lowered.body;
    body_is = lowered.body_is;
    whole = lowered.whole;
    placed = record {
      forest = lowered.placed.forest;
      apart = lowered.placed.apart;
      above = lowered.placed.above;
      start = lowered.placed.start;
      no_body = lowered.placed.no_body;
    };
  }

  derives_any : (m : ℕ) → flat.limit ≤ m → length x ≤ m → DerivesLine flat x ↔ RuleDerives has rules judged x
  derives_any m le short =
      let g = derives_exactly has rules judged (with_limit flat m) (lowered_more m le) x short symbols in
      (λ h. g.0 (holds_same flat flat.limit m x h), λ d. holds_same flat m flat.limit x (g.1 d))

  pub any_line : DerivesLine flat x ↔ RuleDerives has rules judged x
  any_line = derives_any (flat.limit + length x) (omega arith) (omega arith)
