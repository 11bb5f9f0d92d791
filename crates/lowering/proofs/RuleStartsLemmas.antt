-- The node of what derives something has a start.
-- Serves: items_decide.
use Rattle.std.proofs.Common.{◌≡◌, ℕ, ◌<◌, Bool, List, length, Some, sym, ◌∙◌, subst, arith}
use Rattle.std.specs.Prelude.{slice_get}
use Rattle.abnfread.specs.Element as e
use Rattle.abnfread.specs.Element.{Element, Elements, Rule}
use Rattle.abnfcheck.specs.Derivable as der
use Rattle.abnfcheck.specs.Derivable.{Derives, DerivesSome, RuleDerives, this, later}
use Rattle.abnfcheck.proofs.RuleIdLemmas.{body_at_id}
use Rattle.flatgrammar.specs.Flat.{Flat, Dot, at, Begins, Name, Starts, starts, name_starts}
use Rattle.lowering.specs.Lowered.{IsLowered, Spells, spells, shows_text, shows_values, shows_range, shows_concat}
use Rattle.lowering.specs.Lowered.{shows_alt, shows_rep, shows_iterations, shows_reversed, shows_opt, shows_name}
use Rattle.lowering.specs.Lowered.{SpellAll, spell_more}
use Rattle.lowering.proofs.RuleNodeLemmas.{node_of_rule}

module _ (has : ℕ → Bool) (rules : List Rule) (judged : ℕ) (flat : Flat) (lowered : IsLowered rules judged flat) where
  some_node : {es : Elements} {w ms : List ℕ} → DerivesSome has rules es w
      → SpellAll rules flat.limit flat.nodes ms es → 0 < length ms
  some_node (this d) (spell_more sp all) = omega arith
  some_node (later ds) (spell_more sp all) = omega arith

  element_starts : {el : Element} {w : List ℕ} → Derives has rules el w → (s : ℕ)
      → Spells rules flat.limit flat.nodes s el → (p : Dot) × Starts flat s p
  element_starts (der.text d) s (spells is (shows_text same)) = (at s 0, starts is Begins.letters)
  element_starts (der.values d) s (spells is (shows_values same)) = (at s 0, starts is Begins.letters)
  element_starts (der.range low high d) s (spells is shows_range) = (at s 0, starts is Begins.letters)
  element_starts (der.concat d) s (spells is (shows_concat all)) = (at s 0, starts is Begins.concat)
  element_starts (der.alt d) s (spells is (shows_alt all)) = (at s 0, starts is (Begins.alt (some_node d all)))
  element_starts (der.rep low within d) s (spells is (shows_rep least most bounds never sp)) =
      (at s 0, starts is Begins.rep)
  element_starts (der.rep low within d) s (spells is (shows_iterations most bounds empty sp)) =
      (at s 0, starts is Begins.iterations)
  element_starts (der.rep low within d) s (spells is (shows_reversed lt)) = absurd (omega (arith, low, within, lt))
  element_starts der.opt_empty s (spells is (shows_opt sp)) = (at s 0, starts is Begins.opt)
  element_starts (der.opt d) s (spells is (shows_opt sp)) = (at s 0, starts is Begins.opt)
  element_starts (der.name {e = el} found d) s (spells is (shows_name {n = n} {r = r} number_is)) =
      let h = node_of_rule rules flat.limit flat.nodes flat.bodies lowered.spelled r el
      (subst (λ v. slice_get (e.bodies rules) v ≡ Some el) (sym number_is) (sym (body_at_id rules n) ∙ found)) in
      let start = element_starts d h.node h.spelled in
      (start.0, name_starts is h.at start.1)

  pub rule_starts : (s id : ℕ) (w : List ℕ) → slice_get flat.nodes s ≡ Some (Name id) → RuleDerives has rules id w
      → (p : Dot) × Starts flat s p
  rule_starts s id w is d =
      let h = node_of_rule rules flat.limit flat.nodes flat.bodies lowered.spelled id d.body d.is in
      let start = element_starts d.derives h.node h.spelled in
      (start.0, name_starts is h.at start.1)
