-- What texts give is one list of rules, and one text of reports; and the names that rules use are one list.
-- Serves: one_joining
use Rattle.std.proofs.Common.{◌≡◌, ◌≢◌, ℕ, suc, Bool, List, [], ◌∷◌, ◌++◌, Option, None, Some, drop, take, map}
use Rattle.std.proofs.Common.{refl, sym, ap, ◌∙◌, subst, true≢false}
use Rattle.std.specs.List.{flat_map}
use Rattle.lexer.specs.TokenLists.{Tok}
use Rattle.diagnostics.specs.BodyMentions.{mentions_in}
use Rattle.diagnostics.specs.DefinitionHeads.{SignAt, sign_at}
use Rattle.ruletable.specs.declared.lines.LineRule.TheVariants.{Lf}
use Rattle.abnfread.specs.MarkedTokens.{AreTokens}
use Rattle.abnfread.specs.declared.kind.AbnfKind.{AbnfKind}
use Rattle.abnfexplain.specs.AbnfNoteLines.{sign_of}
use Rattle.ruletable.specs.declared.fault.ReadFault.{ReadFault}
use Rattle.ruletable.specs.declared.fault.ReadFault.TheVariants as faults
use Rattle.abnfread.specs.AbnfReading.{IsFaultOf, Reads}
use Rattle.abnfread.specs.Element.{Definition}
use Rattle.abnftexts.specs.GivenRules.{RuleGiven}
use Rattle.abnfblocks.specs.MaskedLines.{AreRead}
use Rattle.abnfblocks.specs.TextLines.{NumberedLine}
use Rattle.abnfblocks.specs.FoundRules.{AreFound}
use Rattle.abnfblocks.specs.declared.found.RuleSearch.{RuleSearch}
use Rattle.abnftexts.specs.RulesGathered.{NamedText, RuleLines, RulesGathered, both_given, one_rule, reported_alone}
use Rattle.abnfblocks.specs.RuleCuts.{lines_text}
use Rattle.rfcforms.specs.Lists.{CutsLines, Expands}
use Rattle.rfcforms.specs.declared.lists.written.ListForm.{ListForm}
use Rattle.abnftexts.specs.TextPositions.{list_reported}
use Rattle.abnftexts.specs.WrittenLists.{AreExpanded, IsFirstList, WritesLists, as_they_are, lines_alike}
use Rattle.abnftexts.specs.WrittenLists.{lines_written, with_lists}
use Rattle.rfcvalues.specs.AssignedValues.{AreValueMarks}
use Rattle.rfcvalues.specs.RuleSketches.{RuleSeen, SketchedRule}
use Rattle.abnftexts.specs.ValueRuns.{FoundRule}
use Rattle.abnftexts.specs.TextRules.{AreSketches, FindTexts, FindsText, GiveFound, GivesFound, GivesGroup, GivesGroups}
use Rattle.abnftexts.specs.TextRules.{GiveTexts, TextFound, a_run, each_alone, given_by, next_rule, next_sketch}
use Rattle.abnftexts.specs.TextRules.{next_group, next_text, next_there, no_groups, no_rule, no_sketches, none_there}
use Rattle.abnftexts.specs.TextRules.{rules_seen}
use Rattle.abnftexts.specs.TextRules.{IsRuleReported, asks_lists, for_fault, for_list, no_texts, none_found}
use Rattle.abnftexts.specs.TextRules.{position_in, report_with}
use Rattle.rfcvalues.proofs.OneSketchLemmas.{marks-same, sketch-same}
use Rattle.abnftexts.specs.UsedNames.{AreRuleUses, AreNameUses, UsedName, next_uses, no_rules, used_at}

abbrev found_with : List ℕ → List NumberedLine → List NumberedLine → List RuleSearch → TextFound
found_with name kept lines its = record { name = name; kept = kept; lines = lines; all_found = its }

both-same : (a b c d : RulesGathered) → a ≡ b → c ≡ d → both_given a c ≡ both_given b d
both-same a b c d e f = rw (e, f) refl

-- what is known of readings, of lines that are read, of what is found, and of tokens
pub record OneReading : Type 0 where
  pub definitions : (text : List ℕ) (a b : List Definition) → Reads text a → Reads text b → a ≡ b
  pub no_fault : (text : List ℕ) (definitions : List Definition) (fault : ReadFault) → IsFaultOf text fault
      → fault ≢ faults.Memory → Reads text definitions → ⊥
  pub one_fault : (text : List ℕ) (a b : ReadFault) → IsFaultOf text a → IsFaultOf text b → a ≢ faults.Memory
      → b ≢ faults.Memory → a ≡ b
  pub kept : (text : List ℕ) (a b : List NumberedLine) → AreRead text a → AreRead text b → a ≡ b
  pub found : (i : ℕ) (lines : List NumberedLine) (a b : List RuleSearch) → AreFound i lines a → AreFound i lines b
      → a ≡ b
  pub tokens : (text : List ℕ) (a b : List (Tok AbnfKind)) → AreTokens text a → AreTokens text b → a ≡ b
  pub expanded : (form : ListForm) (text a b : List ℕ) → Expands form text a → Expands form text b → a ≡ b
  pub lines : (text : List ℕ) (a b : List (List ℕ)) → CutsLines text a → CutsLines text b → a ≡ b

module _ (one : OneReading) where
  -- lines are written in one way
  written-same : {form : ListForm} {lines a b : List NumberedLine} {t u : List ℕ} → WritesLists form lines t a
      → WritesLists form lines u b → (t ≡ u) × (a ≡ b)
  written-same {form} {lines} {t = t} {u} x y =
      let texts : t ≡ u = one.expanded form (lines_text 0 lines) t u x.expands y.expands in
      let here : CutsLines u x.parts = subst (λ (text : List ℕ). CutsLines text x.parts) texts x.cuts in
      let parts : x.parts ≡ y.parts = one.lines u x.parts y.parts here y.cuts in
      (texts, x.is ∙ ap (λ (p : List (List ℕ)). lines_written lines p) parts ∙ sym y.is)

  expanded-same : {lists : Option ListForm} {kept a b : List NumberedLine} → AreExpanded lists kept a
      → AreExpanded lists kept b → a ≡ b
  expanded-same as_they_are as_they_are = refl
  expanded-same (with_lists x) (with_lists y) = (written-same x y).1

  -- one line is the first with a list
  list-same : {lines : List NumberedLine} {n m : ℕ} → IsFirstList lines (Some n) → IsFirstList lines (Some m) → n ≡ m
  list-same {lines} x y =
      let same = (written-same x.1.writes y.1.writes).1 in
      x.2 ∙ ap (λ (written : List NumberedLine). suc (lines_alike lines written)) same ∙ sym y.2

  reported-same : {asks : Bool} {name : List ℕ} {lines : List NumberedLine} {fault : ReadFault} {a b : List ℕ}
      → IsRuleReported asks name lines fault a → IsRuleReported asks name lines fault b → a ≡ b
  reported-same {name = name} {lines} (for_list e x) (for_list f y) =
      ap (λ (n : ℕ). list_reported name lines n) (list-same x y)
  reported-same (for_list e x) (for_fault none) = absurd (none e x.0 x.1)
  reported-same (for_fault none) (for_list e x) = absurd (none e x.0 x.1)
  reported-same (for_fault none) (for_fault others) = refl

  module _ (asks : Bool) (name : List ℕ) where
    found-same : {kept lines : List NumberedLine} {all : List RuleSearch} {a b : RulesGathered}
        → GivesFound asks name kept lines all a → GivesFound asks name kept lines all b → a ≡ b
    found-same none_found none_found = refl
    found-same {kept} {lines} (next_rule {first} {count} {given = r} x h) (next_rule {given = s} y k) =
        let all : x.definition ∷ [] ≡ y.definition ∷ [] =
        one.definitions _ (x.definition ∷ []) (y.definition ∷ []) x.reads y.reads in
        let same : x.definition ≡ y.definition = cc in
        let rules : r ≡ s = x.is ∙ ap given_by same ∙ sym y.is in
        both-same _ _ _ _ (ap (λ (g : RuleGiven).
        one_rule (position_in name (drop first kept) (drop first lines) count) g)
        rules)
        (found-same h k)
    found-same {lines = lines} (no_rule {first} {count} x h) (no_rule y k) =
        both-same _ _ _ _ (ap (λ (message : List ℕ).
        reported_alone (report_with message (take count (drop first lines)))) (reported-same x y))
        (found-same h k)

    group-same : {kept lines : List NumberedLine} {group : List FoundRule} {a b : RulesGathered}
        → GivesGroup asks name kept lines group a → GivesGroup asks name kept lines group b → a ≡ b
    group-same (a_run e) (a_run f) = refl
    group-same (a_run e) (each_alone f x) = absurd (true≢false (sym e ∙ f))
    group-same (each_alone e x) (a_run f) = absurd (true≢false (sym f ∙ e))
    group-same (each_alone e x) (each_alone f y) = found-same x y

    groups-same : {kept lines : List NumberedLine} {groups : List (List FoundRule)} {a b : RulesGathered}
        → GivesGroups asks name kept lines groups a → GivesGroups asks name kept lines groups b → a ≡ b
    groups-same no_groups no_groups = refl
    groups-same (next_group x h) (next_group y k) = both-same _ _ _ _ (group-same x y) (groups-same h k)

  finds-same : {lists : Option ListForm} {text : NamedText} (a b : TextFound) → FindsText lists text a
      → FindsText lists text b → a ≡ b
  finds-same {lists} {text} a b x y =
      let kept : a.kept ≡ b.kept = one.kept _ a.kept b.kept x.keeps y.keeps in
      let written : AreExpanded lists b.kept a.lines =
      subst (λ (rows : List NumberedLine). AreExpanded lists rows a.lines) kept x.written in
      let lines : a.lines ≡ b.lines = expanded-same written y.written in
      let here : AreFound 0 b.lines a.all_found =
      subst (λ (rows : List NumberedLine). AreFound 0 rows a.all_found) lines x.are_found in
      let all : a.all_found ≡ b.all_found = one.found 0 b.lines a.all_found b.all_found here y.are_found in
      ap (λ (name : List ℕ). found_with name a.kept a.lines a.all_found) (x.name ∙ sym y.name)
      ∙ ap (λ (rows : List NumberedLine). found_with b.name rows a.lines a.all_found) kept
      ∙ ap (λ (rows : List NumberedLine). found_with b.name b.kept rows a.all_found) lines
      ∙ ap (λ (its : List RuleSearch). found_with b.name b.kept b.lines its) all

  find-same : {lists : Option ListForm} {texts : List NamedText} {a b : List TextFound} → FindTexts lists texts a
      → FindTexts lists texts b → a ≡ b
  find-same no_texts no_texts = refl
  find-same (next_text {there} {others} x h) (next_text {there = other} {others = more} y k) =
      ap (λ (t : TextFound). t ∷ others) (finds-same there other x y)
      ∙ ap (λ (ts : List TextFound). other ∷ ts) (find-same h k)

  sketches-same : {rules : List RuleSeen} {a b : List SketchedRule} → AreSketches rules a → AreSketches rules b → a ≡ b
  sketches-same no_sketches no_sketches = refl
  sketches-same (next_sketch {sketch} {sketches} x h) (next_sketch {sketch = other} {sketches = others} y k) =
      ap (λ (s : SketchedRule). s ∷ sketches) (sketch-same one.tokens x y)
      ∙ ap (λ (ss : List SketchedRule). other ∷ ss) (sketches-same h k)

  given-same : {asks : Bool} {texts : List TextFound} {sketches : List SketchedRule} {marks : List Bool}
      {a b : RulesGathered} → GiveFound asks texts sketches marks a → GiveFound asks texts sketches marks b → a ≡ b
  given-same none_there none_there = refl
  given-same {asks} (next_there {there} x h) (next_there y k) =
      both-same _ _ _ _ (groups-same asks there.name x y) (given-same h k)

  pub texts-same : {lists : Option ListForm} {texts : List NamedText} {a b : RulesGathered} → GiveTexts lists texts a
      → GiveTexts lists texts b → a ≡ b
  texts-same {lists} {a = a} x y =
      let there : x.there ≡ y.there = find-same x.finds y.finds in
      let seen : AreSketches (rules_seen y.there) x.sketches =
      subst (λ (ts : List TextFound). AreSketches (rules_seen ts) x.sketches) there x.are_sketches in
      let sketches : x.sketches ≡ y.sketches = sketches-same seen y.are_sketches in
      let values : AreValueMarks y.sketches x.marks =
      subst (λ (ss : List SketchedRule). AreValueMarks ss x.marks) sketches x.are_values in
      let marks : x.marks ≡ y.marks = marks-same y.sketches x.marks y.marks values y.are_values in
      let asks = asks_lists lists in
      let first : GiveFound asks y.there x.sketches x.marks a =
      subst (λ (ts : List TextFound). GiveFound asks ts x.sketches x.marks a) there x.gives in
      let second : GiveFound asks y.there y.sketches x.marks a =
      subst (λ (ss : List SketchedRule). GiveFound asks y.there ss x.marks a) sketches first in
      given-same (subst (λ (ms : List Bool). GiveFound asks y.there y.sketches ms a) marks second) y.gives

  rule-uses : (position : RuleLines) (a b : List UsedName) → AreRuleUses position a → AreRuleUses position b → a ≡ b
  rule-uses position a b x y =
      let text = position.text in
      let signs : List (Tok AbnfKind) → List SignAt = λ ts. map (sign_at sign_of) ts in
      x.are
      ∙ ap (λ (ts : List (Tok AbnfKind)). flat_map (used_at position) (mentions_in Lf text None (signs ts)))
      (one.tokens text x.tokens y.tokens x.are_tokens y.are_tokens) ∙ sym y.are

  pub uses-same : {positions : List RuleLines} {a b : List UsedName} → AreNameUses positions a → AreNameUses positions b
      → a ≡ b
  uses-same no_rules no_rules = refl
  uses-same (next_uses {position} {here} {after} x h) (next_uses {here = other} y k) =
      ap (λ (us : List UsedName). us ++ after) (rule-uses position here other x y)
      ∙ ap (λ (us : List UsedName). other ++ us) (uses-same h k)
