-- The lines that explain that no unit goes on are one text.
-- Serves: one_no_match
use Rattle.std.proofs.Common.{◌≡◌, ℕ, List, drop, Option, Some, None, refl, sym, ap, ◌∙◌, subst}
use Rattle.matchfailure.specs.Farthest.{IsFarthest, NoneFails}
use Rattle.matchfailure.specs.declared.farthest.visit.Visit.{Visit}
use Rattle.pegnodes.specs.NodeLists.{bodies_of_rules, nodes_of_rules}
use Rattle.pegnodes.specs.Nodes.{Shape}
use Rattle.pegread.specs.Pattern.{Rule}
use Rattle.matchfailure.specs.NoMatches.{IsNoMatchReported, IsFailureOf, IsUnitFailure, UnitFailure, lines_of_failure}
use Rattle.matchfailure.specs.NoMatches.{AreReportedOf, no_match_lines, reported_failure}
use Rattle.matchfailure.specs.NodeTexts.{name_of_rule}
use Rattle.gramcheck.specs.Outcome.{Outcome, RuleGives}
use Rattle.matchfailure.proofs.ReportOrderLemmas.{one-in_report_order}

-- a start rule has one farthest failure
abbrev pub OneFarthest : Type 0
OneFarthest = (rules : List Rule) (nodes : List Shape) (bodies x : List ℕ) (start f h : ℕ) (vs ws : List Visit)
    → IsFarthest rules nodes bodies x start f vs → IsFarthest rules nodes bodies x start h ws → (f ≡ h) × (vs ≡ ws)

abbrev pub FarthestOrNone : Type 0
FarthestOrNone = (rules : List Rule) (nodes : List Shape) (bodies x : List ℕ) (start f : ℕ) (vs : List Visit)
    → IsFarthest rules nodes bodies x start f vs → NoneFails rules nodes bodies x start → ⊥

-- a start rule gives one outcome
abbrev pub OneOutcome : Type 0
OneOutcome = (rules : List Rule) (start : ℕ) (x : List ℕ) (k j : ℕ) (o c : Outcome) → RuleGives rules start x o k
    → RuleGives rules start x c j → (o ≡ c) × (k ≡ j)

same-failure : (f g : UnitFailure) → f.unit ≡ g.unit → f.position ≡ g.position → f.expected ≡ g.expected → f ≡ g
same-failure f g a b c = λ i. record { unit = a i; position = b i; expected = c i }

module _ (one : OneFarthest) (never : FarthestOrNone) (single : OneOutcome) (rules : List Rule) (start : ℕ)
    (text : List ℕ) where
  one-unit-failure : (nodes : List Shape) (bodies : List ℕ) (unit : ℕ) (a b : Option UnitFailure)
      → IsUnitFailure rules start nodes bodies text unit a → IsUnitFailure rules start nodes bodies text unit b → a ≡ b
  one-unit-failure nodes bodies unit None None f g = refl
  one-unit-failure nodes bodies unit None (Some b) f g = absurd (never _ _ _ _ _ _ _ g.1 f)
  one-unit-failure nodes bodies unit (Some a) None f g = absurd (never _ _ _ _ _ _ _ f.1 g)
  one-unit-failure nodes bodies unit (Some a) (Some b) f g =
      let same = one rules nodes bodies (drop unit text) start a.position b.position a.expected b.expected f.1 g.1 in
      ap Some (same-failure a b (f.0 ∙ sym g.0) same.0 same.1)

  one-failure : (nodes : List Shape) (bodies : List ℕ) (unit : Option ℕ) (a b : Option UnitFailure)
      → IsFailureOf rules start nodes bodies text unit a → IsFailureOf rules start nodes bodies text unit b → a ≡ b
  one-failure nodes bodies None a b f g = f ∙ sym g
  one-failure nodes bodies (Some unit) a b f g = one-unit-failure nodes bodies unit a b f g

  -- of the nodes that the rules have
  same-nodes : (nodes ns : List Shape) (bodies bs : List ℕ) (unit : Option ℕ) (a : Option UnitFailure) → nodes ≡ ns
      → bodies ≡ bs → IsFailureOf rules start nodes bodies text unit a → IsFailureOf rules start ns bs text unit a
  same-nodes nodes ns bodies bs unit a e h f =
      subst (λ m. IsFailureOf rules start ns m text unit a) h
      (subst (λ m. IsFailureOf rules start m bodies text unit a) e f)

  abbrev own-nodes : List Shape
  own-nodes = nodes_of_rules rules 0 rules

  abbrev own-bodies : List ℕ
  own-bodies = bodies_of_rules 0 rules

  abbrev lines-of : Outcome → Option UnitFailure → List Visit → List ℕ
  lines-of outcome failure reported =
      no_match_lines outcome (name_of_rule rules start) (lines_of_failure rules own-nodes own-bodies text failure
      reported)

  -- what is reported of a failure is one list
  one-list-of : (failure : Option UnitFailure) (a b : List Visit)
      → AreReportedOf rules start own-nodes own-bodies failure a
      → AreReportedOf rules start own-nodes own-bodies failure b → a ≡ b
  one-list-of None a b f g = f ∙ sym g
  one-list-of (Some u) a b f g =
      one-in_report_order rules start own-nodes own-bodies u.unit u.position u.expected a b f g

  record Own (before : Option ℕ) (last : ℕ) (a : List ℕ) (t : IsNoMatchReported rules start text before last a)
      : Type 0 where
    before_fails : IsFailureOf rules start own-nodes own-bodies text before t.of_before
    last_fails : IsFailureOf rules start own-nodes own-bodies text (Some last) t.of_last
    in_report_order : AreReportedOf rules start own-nodes own-bodies (reported_failure t.of_before t.of_last) t.reported
    are : a ≡ lines-of t.outcome (reported_failure t.of_before t.of_last) t.reported

  reported-own : (before : Option ℕ) (last : ℕ) (a : List ℕ) → (t : IsNoMatchReported rules start text before last a)
      → Own before last a t
  reported-own before last a t =
      let ns = t.numbered.nodes_are in
      let bs = t.numbered.bodies_are in record {
        before_fails = same-nodes t.nodes own-nodes t.bodies own-bodies before t.of_before ns bs t.before_fails;
        last_fails = same-nodes t.nodes own-nodes t.bodies own-bodies (Some last) t.of_last ns bs t.last_fails;
        in_report_order = subst (λ m. AreReportedOf rules start own-nodes m
            (reported_failure t.of_before t.of_last) t.reported) bs
            (subst (λ n. AreReportedOf rules start n t.bodies (reported_failure t.of_before t.of_last) t.reported) ns
            t.in_report_order);
        are = t.are
            ∙ ap (λ n. no_match_lines t.outcome (name_of_rule rules start)
            (lines_of_failure rules n t.bodies text (reported_failure t.of_before t.of_last) t.reported)) ns
            ∙ ap (λ m. no_match_lines t.outcome (name_of_rule rules start)
            (lines_of_failure rules own-nodes m text (reported_failure t.of_before t.of_last) t.reported)) bs;
      }

  pub one-reported : (before : Option ℕ) (last : ℕ) (a b : List ℕ) → IsNoMatchReported rules start text before last a
      → IsNoMatchReported rules start text before last b → a ≡ b
  one-reported before last a b t u =
      let f = reported-own before last a t in
      let g = reported-own before last b u in
      let first = one-failure own-nodes own-bodies before t.of_before u.of_before f.before_fails g.before_fails in
      let second = one-failure own-nodes own-bodies (Some last) t.of_last u.of_last f.last_fails g.last_fails in
      let failure : reported_failure t.of_before t.of_last ≡ reported_failure u.of_before u.of_last =
      ap (λ o. reported_failure o t.of_last) first ∙ ap (reported_failure u.of_before) second in
      let outcome = single rules start (drop last text) t.looked u.looked t.outcome u.outcome t.gives u.gives in
      let list = one-list-of (reported_failure u.of_before u.of_last) t.reported u.reported
      (subst (λ o. AreReportedOf rules start own-nodes own-bodies o t.reported) failure f.in_report_order)
      g.in_report_order in
      f.are ∙ ap (λ o. lines-of o (reported_failure t.of_before t.of_last) t.reported) outcome.0
      ∙ ap (λ o. lines-of u.outcome o t.reported) failure
      ∙ ap (lines-of u.outcome (reported_failure u.of_before u.of_last)) list ∙ sym g.are
