-- Rules lose the angle brackets of names in one way.
-- Serves: one_joining
use Rattle.std.proofs.Common.{◌≡◌, ℕ, Bool, List, [], ◌∷◌, ◌++◌, codes, refl, sym, ap, ap₂, ◌∙◌, subst}
use Rattle.lexer.specs.TokenLists.{Tok}
use Rattle.abnfread.specs.declared.kind.AbnfKind.{AbnfKind}
use Rattle.abnfblocks.specs.TextLines.{NumberedLine}
use Rattle.abnftexts.specs.GivenRules.{RuleGiven}
use Rattle.abnftexts.specs.NamedRules.{AreLinesNamed, AreRenamed, ArePositionsNamed, AreRulesNamed, IsLineNamed}
use Rattle.abnftexts.specs.NamedRules.{IsPositionNamed, IsRuleNamed, SpellsNamed, bare_line, comment_of, is_named}
use Rattle.abnftexts.specs.NamedRules.{source_of}
use Rattle.abnftexts.specs.NamedRules.{next_line, no_lines, no_more_positions, no_more_rules, one_position, one_rule}
use Rattle.abnftexts.specs.NamedRules.{positions_end, read_again}
use Rattle.abnftexts.specs.NamedRules.{rules_end, same_rule, stays, tokens_named, with_prose}
use Rattle.abnftexts.specs.RulesGathered.{ListEntry, ReportedRule, RuleLines, RulesGathered}
use Rattle.abnftexts.specs.TextRules.{SpellRule, given_by}
use Rattle.abnftexts.proofs.TextRulesLemmas.{OneReading}

abbrev gathered_with : List RuleLines → List RuleGiven → List ReportedRule → List ListEntry → RulesGathered
gathered_with positions rules reported list =
    record { positions = positions; rules = rules; reported = reported; list = list }

module _ (one : OneReading) where
  spelled-same : {text : List ℕ} {a b : RuleGiven} → SpellRule text a → SpellRule text b → a ≡ b
  spelled-same {text} x y =
      let all : x.definition ∷ [] ≡ y.definition ∷ [] =
      one.definitions text (x.definition ∷ []) (y.definition ∷ []) x.reads y.reads in
      let same : x.definition ≡ y.definition = cc in
      x.is ∙ ap given_by same ∙ sym y.is

  module _ {known : List ℕ → Bool} where
    line-same : (own line a b : List ℕ) → IsLineNamed known own line a → IsLineNamed known own line b → a ≡ b
    line-same own line a b x y =
        x.is ∙ ap (λ (ts : List (Tok AbnfKind)). tokens_named known own line 0 ts)
        (one.tokens line x.tokens y.tokens x.are_tokens y.are_tokens) ∙ sym y.is

    lines-same : {own : List ℕ} {m : ℕ} {sources lines : List NumberedLine} {c d t u : List ℕ}
        → AreLinesNamed known own m sources lines c t → AreLinesNamed known own m sources lines d u → (c ≡ d) × (t ≡ u)
    lines-same no_lines no_lines = (refl, refl)
    lines-same {own} {m} {sources} (next_line {line} {new = a} {comments = c} {text = t} x h)
        (next_line {new = b} {comments = d} {text = u} y k) =
        let rest = lines-same h k in
        let same : a ≡ b = line-same own (bare_line m line) a b x y in (
          ap₂ (λ (n r : List ℕ). comment_of (bare_line m (source_of sources line)) n ++ r) same rest.0,
          ap₂ (λ (n r : List ℕ). n ++ (codes "\n" ++ r)) same rest.1,
        )

    position-same : {rule : RuleGiven} {position a b : RuleLines} → IsPositionNamed known rule position a
        → IsPositionNamed known rule position b → a ≡ b
    position-same {position = position} (is_named x some s) (is_named y other r) =
        let same = lines-same x y in
        ap₂ (λ (comments text : List ℕ). record {
          name = position.name;
          margin = position.margin;
          sources = position.sources;
          lines = position.lines;
          blanks = position.blanks;
          comments = comments;
          text = text;
        }) same.0 same.1
    position-same {rule} (is_named x some s) (stays y none) =
        let same = lines-same x y in
        absurd (none (λ e. some (same.0 ∙ e)) (subst (SpellsNamed rule) same.1 s))
    position-same {rule} (stays x none) (is_named y some s) =
        let same = lines-same y x in
        absurd (none (λ e. some (same.0 ∙ e)) (subst (SpellsNamed rule) same.1 s))
    position-same (stays x none) (stays y other) = refl

    positions-same : {rules : List RuleGiven} {positions a b : List RuleLines}
        → ArePositionsNamed known rules positions a
        → ArePositionsNamed known rules positions b → a ≡ b
    positions-same rules_end rules_end = refl
    positions-same rules_end positions_end = refl
    positions-same positions_end rules_end = refl
    positions-same positions_end positions_end = refl
    positions-same (one_position x h) (one_position y k) = ap₂ (λ p ps. p ∷ ps) (position-same x y) (positions-same h k)

  rule-same : {position : RuleLines} {rule a b : RuleGiven} → IsRuleNamed position rule a → IsRuleNamed position rule b
      → a ≡ b
  rule-same (same_rule e) (same_rule f) = refl
  rule-same (same_rule e) (read_again n s) = absurd (n e)
  rule-same (read_again n s) (same_rule e) = absurd (n e)
  rule-same {rule = rule} (read_again n s) (read_again m r) = ap (with_prose rule.is_prose) (spelled-same s r)

  rules-same : {positions : List RuleLines} {rules a b : List RuleGiven} → AreRulesNamed positions rules a
      → AreRulesNamed positions rules b → a ≡ b
  rules-same no_more_positions no_more_positions = refl
  rules-same no_more_positions no_more_rules = refl
  rules-same no_more_rules no_more_positions = refl
  rules-same no_more_rules no_more_rules = refl
  rules-same (one_rule x h) (one_rule y k) = ap₂ (λ r rs. r ∷ rs) (rule-same x y) (rules-same h k)

  pub naming-same : {given a b : RulesGathered} → AreRenamed given a → AreRenamed given b → a ≡ b
  naming-same {given} {a} {b} x y =
      let positions : a.positions ≡ b.positions = positions-same x.positions y.positions in
      let here : AreRulesNamed b.positions given.rules a.rules =
      subst (λ (ps : List RuleLines). AreRulesNamed ps given.rules a.rules) positions x.rules in
      let rules : a.rules ≡ b.rules = rules-same here y.rules in
      let reported : a.reported ≡ b.reported = x.reported ∙ sym y.reported in
      let list : a.list ≡ b.list = x.list ∙ sym y.list in
      all-same a b positions rules reported list
    where
      all-same : (a b : RulesGathered) → a.positions ≡ b.positions → a.rules ≡ b.rules → a.reported ≡ b.reported
          → a.list ≡ b.list → a ≡ b
      all-same a b positions rules reported list =
          ap (λ (ps : List RuleLines). gathered_with ps a.rules a.reported a.list) positions
          ∙ ap (λ (rs : List RuleGiven). gathered_with b.positions rs a.reported a.list) rules
          ∙ ap (λ (rs : List ReportedRule). gathered_with b.positions b.rules rs a.list) reported
          ∙ ap (λ (es : List ListEntry). gathered_with b.positions b.rules b.reported es) list
