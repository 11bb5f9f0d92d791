-- The grammar that texts make up, joined, and what is reported of it.
use Prim.Native.Char.{code}
use Rattle.std.specs.Prelude.{◌≡◌, ℕ, ◌+◌, ◌==◌, ◌&&◌, ◌||◌, bytes_eq, nat_lt, Bool, true, false, List, [], ◌∷◌}
use Rattle.std.specs.Prelude.{◌++◌, length, map, replicate, Option, None, Some, codes, slice_get, if◌then◌else◌}
use Rattle.std.specs.List.{filter_map, flat_map, list_any, zip}
use Rattle.abnftexts.specs.GivenRules.{RuleGiven, fates_of}
use Rattle.abnftexts.specs.JoinedRules.{clashes_of, joined_order}
use Rattle.abnftexts.specs.declared.join.fate.Fate.{Fate}
use Rattle.abnftexts.specs.declared.join.fate.Fate.TheVariants.{Stands, Again, Yields}
use Rattle.abnftexts.specs.declared.join.order.Clash.{Clash}
use Rattle.abnftexts.specs.RulesGathered.{ListEntry, NamedText, OfRule, OfValue, ReportedRule, RuleLines, RulesGathered}
use Rattle.rfcforms.specs.declared.lists.written.ListForm.{ListForm}
use Rattle.abnftexts.specs.NamedRules.{AreRenamed}
use Rattle.abnftexts.specs.TextRules.{GiveTexts}
use Rattle.abnftexts.specs.UsedNames.{AreNameUses, UsedName, undefined_reported}
use Rattle.abnftexts.specs.TextPositions.{number_at, position_shown}

abbrev pub has_stayed : Fate → Bool
has_stayed Stands = true
has_stayed (Again n) = false
has_stayed (Yields n) = false

-- what stands beside those fates that say that a rule stands
abbrev pub standing : {A : Type 0} → List Fate → List A → List A
standing fates [] = []
standing [] (x ∷ xs) = []
standing (fate ∷ fates) (x ∷ xs) = if has_stayed fate then x ∷ standing fates xs else standing fates xs

-- the number of a rule's first line, and of its last one
abbrev pub first_number : RuleLines → ℕ
first_number position = number_at position.lines 1

abbrev pub last_number : RuleLines → ℕ
last_number position = number_at position.lines (length position.lines)

-- only blank lines stand between a rule and the one before it in its text
abbrev pub goes_after_it : RuleLines → RuleLines → Bool
goes_after_it before position = bytes_eq before.name position.name
    && (last_number before + before.blanks + 1 == first_number position)

-- a comment that names the position of a rule
abbrev pub comment_before : RuleLines → List ℕ
comment_before position = codes "; " ++ (position_shown position.name (first_number position) ++ codes "\n")

-- what stands before a rule: the comment, or as many empty lines as blank ones stand between it and the rule before it
abbrev pub gap_before : Option RuleLines → RuleLines → List ℕ
gap_before None position = comment_before position
gap_before (Some before) position =
    if goes_after_it before position then replicate before.blanks (code "\n") else comment_before position

-- the rule as it is printed: what is written for it
abbrev pub rule_printed : Option RuleLines → RuleLines → List ℕ
rule_printed before position = gap_before before position ++ (position.comments ++ position.text)

-- the rules with these numbers, in their order
abbrev pub ordered_rules : List RuleLines → List ℕ → List RuleLines
ordered_rules positions order = filter_map (slice_get positions) order

-- each rule beside the one before it, where that one stands before the first
abbrev pub beside_last : Option RuleLines → List RuleLines → List (Option RuleLines × RuleLines)
beside_last before rows = zip (before ∷ map Some rows) rows

-- the rules as they are printed one after another, where that one is printed before them
abbrev pub printed_after : Option RuleLines → List RuleLines → List ℕ
printed_after before rows = flat_map (λ p. rule_printed p.0 p.1) (beside_last before rows)

-- the position of the rule with that number
abbrev pub numbered_position : List RuleLines → ℕ → List ℕ
numbered_position positions n = elim (slice_get positions n) [
  | None ↦ []
  | Some position ↦ position_shown position.name (first_number position)
]

-- and its name
abbrev pub numbered_name : List RuleGiven → ℕ → List ℕ
numbered_name rules n = elim (slice_get rules n) [ None ↦ [] | Some rule ↦ rule.name ]

-- the report of two definitions of one name
abbrev pub clash_reported : List RuleLines → List RuleGiven → Clash → List ℕ
clash_reported positions rules clash = numbered_position positions clash.second ++ (codes ": '"
    ++ (numbered_name rules clash.second ++ (codes "' is defined otherwise at "
    ++ (numbered_position positions clash.first ++ codes "\n"))))

-- what becomes of a rule
abbrev pub fate_reported : List RuleLines → Fate → List ℕ
fate_reported positions Stands = codes "stands"
fate_reported positions (Again n) = codes "is given at " ++ numbered_position positions n
fate_reported positions (Yields n) = codes "yields to " ++ numbered_position positions n

-- the line of the rule with that number
abbrev pub rule_listed : List RuleLines → List RuleGiven → ℕ → Fate → List ℕ
rule_listed positions rules n fate = numbered_position positions n ++ (codes ": '" ++ (numbered_name rules n
    ++ (codes "' " ++ (fate_reported positions fate ++ codes "\n"))))

-- The lines of the list, where these are the fates of the rules from that number on: each entry of a rule stands for
-- the next one, and for none where there are no more.
abbrev pub listed_from : List RuleLines → List RuleGiven → ℕ → List Fate → List ListEntry → List ℕ
listed_from positions rules n fates [] = []
listed_from positions rules n fates (OfValue line ∷ list) = line ++ listed_from positions rules n fates list
listed_from positions rules n [] (OfRule ∷ list) = listed_from positions rules n [] list
listed_from positions rules n (fate ∷ fates) (OfRule ∷ list) =
    rule_listed positions rules n fate ++ listed_from positions rules (n + 1) fates list

abbrev pub rules_listed : List RuleLines → List RuleGiven → List Fate → List ListEntry → List ℕ
rules_listed positions rules fates list = listed_from positions rules 0 fates list

-- the report where there is no rule
abbrev pub none_reported : List RuleGiven → List ℕ
none_reported [] = codes "no rules found\n"
none_reported (rule ∷ rules) = []

-- the report is that of a rule that is no ABNF
abbrev pub has_lines : ReportedRule → Bool
has_lines report = elim report.lines [ None ↦ false | Some lines ↦ true ]

-- the grammar, the reports of rules that are no ABNF and of lines that assign values, the other reports, a line for
-- each rule that is given or assigns a value, and whether a rule is no ABNF or a name has two definitions
pub record GrammarJoined : Type 0 where
  pub grammar : List ℕ
  pub reports : List ReportedRule
  pub reported : List ℕ
  pub listed : List ℕ
  pub is_faulty : Bool

-- of the rules that stand, where these are their lines, the names that they use, the reports of rules that are no ABNF,
-- and the list
abbrev pub joined_of : List RuleLines → List RuleGiven → List UsedName → List ReportedRule → List ℕ → GrammarJoined
joined_of positions rules uses reports listed = record {
  grammar = printed_after None (ordered_rules positions (joined_order rules));
  reports = reports;
  reported = flat_map (clash_reported positions rules) (clashes_of rules) ++ undefined_reported rules uses
      ++ none_reported rules;
  listed = listed;
  is_faulty = list_any has_lines reports || nat_lt 0 (length (clashes_of rules));
}

-- the rules that stand of what was gathered
abbrev pub standing_rules : RulesGathered → List RuleGiven
standing_rules g = standing (fates_of g.rules) g.rules

-- and their lines
abbrev pub standing_positions : RulesGathered → List RuleLines
standing_positions g = standing (fates_of g.rules) g.positions

-- the names that rules use, in the order in which these are printed
abbrev pub UsesPrinted : List RuleLines → List RuleGiven → List UsedName → Type 0
UsesPrinted positions rules uses = AreNameUses (ordered_rules positions (joined_order rules)) uses

-- of what was gathered: the rules are joined that stand
abbrev pub gathered_joined : RulesGathered → List UsedName → GrammarJoined
gathered_joined g uses = joined_of (standing_positions g) (standing_rules g) uses g.reported
    (rules_listed g.positions g.rules (fates_of g.rules) g.list)

-- that of all texts: what they give, with lists in that form, where names lose angle brackets
pub record AreTextsJoined (lists : Option ListForm) (texts : List NamedText) (joined : GrammarJoined) : Type 0 where
  pub given : RulesGathered
  pub gives : GiveTexts lists texts given
  pub gathered : RulesGathered
  pub names : AreRenamed given gathered
  pub uses : List UsedName
  pub are_uses : UsesPrinted (standing_positions gathered) (standing_rules gathered) uses
  pub is : joined ≡ gathered_joined gathered uses
