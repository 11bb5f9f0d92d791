-- Each rule that texts give has lines of its own, which alone spell it.
-- Serves: join_texts, joined_reading
use Rattle.std.proofs.Common.{◌≡◌, ℕ, Bool, Option, true, List, [], ◌∷◌, ◌++◌, take, drop, map, cond, false, refl, sym}
use Rattle.std.proofs.Common.{ap, ◌∙◌, subst}
use Rattle.std.proofs.lemmas.List.{drop-drop}
use Rattle.abnfread.specs.AbnfReading.{Reads}
use Rattle.abnfread.specs.Element.{Definition}
use Rattle.abnfblocks.specs.FoundRules.{AreFound, IsFoundOf, IsLongestCut, none_left, no_rule as no_rule_there, a_rule}
use Rattle.abnfblocks.specs.FoundRules.{it_reads, it_is_none}
use Rattle.abnfblocks.specs.RuleCuts.{cut_text, lines_text, margin_at, opens_rule, first_rule}
use Rattle.abnfblocks.specs.RuleLines.{margin_of}
use Rattle.abnfblocks.specs.TextLines.{NumberedLine, after_mark}
use Rattle.abnfblocks.specs.declared.found.RuleSearch.{RuleSearch}
use Rattle.abnfblocks.specs.declared.found.RuleSearch.TheVariants as found
use Rattle.abnftexts.specs.GivenRules.{RuleGiven}
use Rattle.abnftexts.specs.RulesGathered.{NamedText, RuleLines, RulesGathered}
use Rattle.std.specs.List.{flat_map}
use Rattle.rfcvalues.specs.RuleSketches.{SketchedRule}
use Rattle.abnftexts.specs.ValueRuns.{FoundRule, before_groups, found_rules, groups_of, join_values}
use Rattle.abnftexts.specs.TextRules.{FindTexts, FindsText, GiveFound, GivesFound, GivesGroup, GivesGroups, GiveTexts}
use Rattle.abnftexts.specs.TextRules.{SpellRule, TextFound, a_run, each_alone, next_group, next_rule, next_text}
use Rattle.abnftexts.specs.TextRules.{next_there, no_groups}
use Rattle.abnftexts.specs.TextRules.{no_rule, no_texts, none_found, none_there}
use Rattle.abnftexts.proofs.ClearLinesLemmas.{IsClear, kept-clear}
use Rattle.abnftexts.proofs.EachLemmas.{Each, each_none, each_next, each-drop, each-take}
use Rattle.abnftexts.proofs.ExpandedLinesLemmas.{expanded-clear}
use Rattle.rfcforms.specs.declared.lists.written.ListForm.{ListForm}
use Rattle.abnftexts.proofs.OwnLinesLemmas.{OwnLines, cut-lines, first-margin, own-lines}
use Rattle.abnftexts.proofs.RuleTextLemmas.{rule-one, rule-text, text-spells}

-- a rule with its lines, as texts give it: they are written without the margin
pub record IsPlaced (position : RuleLines) (given : RuleGiven) : Type 0 where
  pub own : OwnLines position.margin position.lines
  pub sources : Each IsClear position.sources
  pub none : position.comments ≡ []
  pub text : position.text ≡ lines_text position.margin position.lines
  pub spells : SpellRule position.text given

pub data ArePlaced : List RuleLines → List RuleGiven → Type 0 where
  none_placed : ArePlaced [] []
  next_placed : {position : RuleLines} {given : RuleGiven} {positions : List RuleLines} {rules : List RuleGiven}
      → IsPlaced position given → ArePlaced positions rules → ArePlaced (position ∷ positions) (given ∷ rules)

placed-both : {ps qs : List RuleLines} {rs ss : List RuleGiven} → ArePlaced ps rs → ArePlaced qs ss
    → ArePlaced (ps ++ qs) (rs ++ ss)
placed-both none_placed k = k
placed-both (next_placed is h) k = next_placed is (placed-both h k)

abbrev Placed : RulesGathered → Type 0
Placed g = ArePlaced g.positions g.rules

-- the lines alone spell one definition
pub record ReadAlone (lines : List NumberedLine) : Type 0 where
  pub definition : Definition
  pub reads : Reads (lines_text (margin_at lines) lines) (definition ∷ [])
  pub own : OwnLines (margin_at lines) lines

definition-alone : (lines : List NumberedLine) {ds : List Definition} → OwnLines (margin_at lines) lines
    → Reads (lines_text (margin_at lines) lines) ds → ReadAlone lines
definition-alone lines own h =
    let t = rule-text own in
    let one = rule-one own (text-spells t.whole t.letter h) in
    let is = one.1 in
    record { definition = one.0; reads = rw is at h; own = own }

cut-alone : (line : NumberedLine) (lines : List NumberedLine) (n : ℕ) → opens_rule line ≡ true
    → IsLongestCut (first_rule (line ∷ lines)) n → Each IsClear (line ∷ lines) → ReadAlone (take n (line ∷ lines))
cut-alone line lines n opens is clear =
    let rows = take n (line ∷ lines) in
    let cut = is.cut in
    let reads = is.reads in
    let own = own-lines line lines n opens cut clear in
    let margin : margin_of line.bytes ≡ margin_at rows = first-margin line lines n cut.some in
    let same : cut_text (first_rule (line ∷ lines)) n ≡ lines_text (margin_at rows) rows =
    ap (lines_text (margin_of line.bytes)) (cut-lines line lines n cut)
    ∙ ap (λ (m : ℕ). lines_text m rows) margin in
    definition-alone rows own (subst (λ (text : List ℕ). Reads text reads.0) same reads.1)

-- so it is with each rule that is found
abbrev pub IsReadAlone : List NumberedLine → RuleSearch → Type 0
IsReadAlone kept (found.Rule first count) = ReadAlone (take count (drop first kept))
IsReadAlone kept (found.NotAbnf first count fault) = Unit {0}

it-alone : (kept : List NumberedLine) {i : ℕ} {it : RuleSearch} (line : NumberedLine) (lines : List NumberedLine)
    → opens_rule line ≡ true → line ∷ lines ≡ drop i kept → Each IsClear (line ∷ lines)
    → IsFoundOf i (first_rule (line ∷ lines)) it → IsReadAlone kept it
it-alone kept line lines opens e clear (it_reads {n} is) =
    subst (λ (rows : List NumberedLine). ReadAlone (take n rows)) e (cut-alone line lines n opens is clear)
it-alone kept line lines opens e clear (it_is_none is) = tt

pub found-alone : {kept lines : List NumberedLine} {i : ℕ} {all : List RuleSearch} → Each IsClear kept
    → AreFound i lines all → lines ≡ drop i kept → Each (IsReadAlone kept) all
found-alone clear none_left e = each_none
found-alone {kept} {i = i} clear (no_rule_there p more) e =
    found-alone clear more (ap (drop 1) e ∙ drop-drop 1 i kept)
found-alone {kept} {i = i} clear (a_rule {line} {lines} opens is more) e =
    let there : Each IsClear (line ∷ lines) =
    subst (λ (xs : List NumberedLine). Each IsClear xs) (sym e) (each-drop i clear) in
    each_next (it-alone kept line lines opens e there is) (found-alone clear more (ap (drop 1) e ∙ drop-drop 1 i kept))

found-placed : {asks : Bool} {name : List ℕ} {kept lines : List NumberedLine} {all : List RuleSearch}
    {g : RulesGathered} → Each IsClear kept → GivesFound asks name kept lines all g → Each (IsReadAlone lines) all
    → Placed g
found-placed clear none_found e = none_placed
found-placed clear (next_rule {first} {count} spells h) (each_next r e) =
    next_placed (record {
      own = r.own;
      sources = each-take count (each-drop first clear);
      none = refl;
      text = refl;
      spells = spells;
    }) (found-placed clear h e)
found-placed clear (no_rule r h) (each_next s e) = found-placed clear h e

-- a part of what is found
pub alone-front : {P : RuleSearch → Type 0} (xs ys : List RuleSearch) → Each P (xs ++ ys) → Each P xs
alone-front [] ys h = each_none
alone-front (x ∷ xs) ys (each_next p h) = each_next p (alone-front xs ys h)

pub alone-back : {P : RuleSearch → Type 0} (xs ys : List RuleSearch) → Each P (xs ++ ys) → Each P ys
alone-back [] ys h = h
alone-back (x ∷ xs) ys (each_next p h) = alone-back xs ys h

abbrev all_in : List (List FoundRule) → List RuleSearch
all_in groups = flat_map (λ group. map (λ rule. rule.it) group) groups

before-all : (lines : List NumberedLine) (rule : FoundRule) (groups : List (List FoundRule))
    → all_in (before_groups lines rule groups) ≡ rule.it ∷ all_in groups
before-all lines rule [] = refl
before-all lines rule ([] ∷ groups) = refl
before-all lines rule ((next ∷ run) ∷ groups) = by (join_values lines rule next)
  where
    by : (b : Bool) → all_in (cond b ((rule ∷ next ∷ run) ∷ groups) ((rule ∷ []) ∷ (next ∷ run) ∷ groups))
        ≡ rule.it ∷ all_in ((next ∷ run) ∷ groups)
    by true = refl
    by false = refl

groups-all : (lines : List NumberedLine) (rules : List FoundRule)
    → all_in (groups_of lines rules) ≡ map (λ rule. rule.it) rules
groups-all lines [] = refl
groups-all lines (rule ∷ rules) =
    before-all lines rule (groups_of lines rules)
    ∙ ap (λ (its : List RuleSearch). rule.it ∷ its) (groups-all lines rules)

-- those that have sketches and marks are the first of what is found
zipped-front : (found : List RuleSearch) (sketches : List SketchedRule) (marks : List Bool) {P : RuleSearch → Type 0}
    → Each P found → Each P (map (λ rule. rule.it) (found_rules found sketches marks))
zipped-front [] sketches marks h = each_none
zipped-front (it ∷ found) [] marks h = each_none
zipped-front (it ∷ found) (s ∷ sketches) [] h = each_none
zipped-front (it ∷ found) (s ∷ sketches) (m ∷ marks) (each_next p h) =
    each_next p (zipped-front found sketches marks h)

group-placed : {asks : Bool} {name : List ℕ} {kept lines : List NumberedLine} {group : List FoundRule}
    {g : RulesGathered} → Each IsClear kept → GivesGroup asks name kept lines group g
    → Each (IsReadAlone lines) (map (λ rule. rule.it) group) → Placed g
group-placed clear (a_run t) e = none_placed
group-placed clear (each_alone t x) e = found-placed clear x e

groups-placed : {asks : Bool} {name : List ℕ} {kept lines : List NumberedLine} {groups : List (List FoundRule)}
    {g : RulesGathered} → Each IsClear kept → GivesGroups asks name kept lines groups g
    → Each (IsReadAlone lines) (all_in groups) → Placed g
groups-placed clear no_groups e = none_placed
groups-placed clear (next_group {group} {groups} x h) e =
    placed-both (group-placed clear x (alone-front (map (λ rule. rule.it) group) (all_in groups) e))
    (groups-placed clear h (alone-back (map (λ rule. rule.it) group) (all_in groups) e))

text-placed : {lists : Option ListForm} (text : NamedText) {there : TextFound} (sketches : List SketchedRule)
    (marks : List Bool) {asks : Bool} {g : RulesGathered} → FindsText lists text there
    → GivesGroups asks there.name there.kept there.lines
    (groups_of there.lines (found_rules there.all_found sketches marks)) g → Placed g
text-placed text {there} sketches marks x h =
    let clear = kept-clear (after_mark text.bytes) x.keeps in
    let alone = found-alone (expanded-clear clear x.written) x.are_found refl in
    groups-placed clear h (subst (λ (its : List RuleSearch). Each (IsReadAlone there.lines) its)
    (sym (groups-all there.lines (found_rules there.all_found sketches marks)))
    (zipped-front there.all_found sketches marks alone))

given-placed : {lists : Option ListForm} {asks : Bool} {texts : List NamedText} {there : List TextFound}
    {sketches : List SketchedRule} {marks : List Bool} {g : RulesGathered} → FindTexts lists texts there
    → GiveFound asks there sketches marks g → Placed g
given-placed no_texts none_there = none_placed
given-placed (next_text {text} x h) (next_there {sketches} {marks} y k) =
    placed-both (text-placed text sketches marks x y) (given-placed h k)

pub texts-placed : {lists : Option ListForm} {texts : List NamedText} {g : RulesGathered} → GiveTexts lists texts g
    → ArePlaced g.positions g.rules
texts-placed x = given-placed x.finds x.gives
