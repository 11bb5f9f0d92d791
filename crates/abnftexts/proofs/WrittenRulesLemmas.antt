-- What is written for each rule spells it, and names that lose angle brackets leave it so.
-- Serves: join_texts, joined_reading
use Rattle.std.proofs.Common.{◌≡◌, ℕ, zero, suc, Bool, Option, Some, None, List, [], ◌∷◌, ◌++◌}
use Rattle.std.proofs.Common.{refl, sym, ap, ◌∙◌, inl, inr, min, subst}
use Rattle.std.proofs.lemmas.Bool.{cases_Bool}
use Rattle.std.specs.List.{filter_map, slice_get, cons_option}
use Rattle.std.specs.Prelude.{bytes_eq}
use Rattle.abnfblocks.specs.RuleLines.{margin_of}
use Rattle.abnfblocks.specs.TextLines.{NumberedLine}
use Rattle.abnftexts.specs.GivenRules.{RuleGiven}
use Rattle.abnftexts.specs.JoinedGrammar.{has_stayed, standing}
use Rattle.abnfblocks.specs.LinkedLines.{EndsLine, lf, after_byte}
use Rattle.abnftexts.specs.NamedRules.{source_of}
use Rattle.abnftexts.specs.NamedRules.{AreLinesNamed, no_lines, next_line, ArePositionsNamed, rules_end, positions_end}
use Rattle.abnftexts.specs.NamedRules.{one_position, IsPositionNamed, is_named, stays, IsRuleNamed, same_rule}
use Rattle.abnftexts.specs.NamedRules.{read_again}
use Rattle.abnftexts.specs.NamedRules.{AreRulesNamed, no_more_positions, no_more_rules, one_rule, bare_line, with_prose}
use Rattle.abnftexts.specs.RulesGathered.{RuleLines}
use Rattle.abnftexts.specs.SpelledRules.{as_written}
use Rattle.abnftexts.specs.TextRules.{SpellRule}
use Rattle.abnftexts.specs.declared.join.fate.Fate.{Fate}
use Rattle.abnftexts.proofs.ClearLinesLemmas.{AreInside, IsClear}
use Rattle.std.proofs.Common.{drop}
use Rattle.abnftexts.proofs.EachLemmas.{Each, each_none, each_next, each-both, each-drop}
use Rattle.abnftexts.proofs.PlacedRulesLemmas.{ArePlaced, IsPlaced, none_placed, next_placed}
use Rattle.abnftexts.proofs.RuleTextLemmas.{LetterFirst, letter-first, line-after, rule-text}

-- comments of one line each
pub data AreComments : List ℕ → Type 0 where
  no_comments : AreComments []
  a_comment : {rest : List ℕ} (bytes : List ℕ) → AreInside bytes → AreComments rest
      → AreComments ((59 ∷ (bytes ++ 10 ∷ [])) ++ rest)

-- what is written for a rule: comments, and a text that begins with a letter, ends with LF, and spells it
pub record IsWritten (position : RuleLines) (given : RuleGiven) : Type 0 where
  pub comments : AreComments position.comments
  pub first : LetterFirst position.text
  pub line : EndsLine position.text
  pub spells : SpellRule position.text (as_written given)

pub data AreWritten : List RuleLines → List RuleGiven → Type 0 where
  none_written : AreWritten [] []
  next_written : {position : RuleLines} {given : RuleGiven} {positions : List RuleLines} {rules : List RuleGiven}
      → IsWritten position given → AreWritten positions rules → AreWritten (position ∷ positions) (given ∷ rules)

-- a rule that a text spells, whatever is said of prose
spells-written : {text : List ℕ} {given : RuleGiven} (rule : RuleGiven) → SpellRule text given
    → as_written rule ≡ as_written given → SpellRule text (as_written rule)
spells-written rule spells e = record {
  definition = spells.definition;
  reads = spells.reads;
  is = e ∙ ap as_written spells.is;
}

placed-written : {position : RuleLines} {given : RuleGiven} → IsPlaced position given → IsWritten position given
placed-written {position} {given} is =
    let t = rule-text is.own in record {
      comments = subst AreComments (sym is.none) no_comments;
      first = record { first = t.first; tail = t.tail; is_letter = is.text ∙ t.whole; letter = t.letter };
      line = subst EndsLine (sym is.text) t.line;
      spells = spells-written given is.spells refl;
    }

-- a line as its text has it is clear
source-clear : {sources : List NumberedLine} {line : NumberedLine} → Each IsClear sources → IsClear line
    → IsClear (source_of sources line)
source-clear each_none c = c
source-clear (each_next d clear) c = d

module _ {known : List ℕ → Bool} {own : List ℕ} {m : ℕ} where
  named-end : {sources : List NumberedLine} {line : NumberedLine} {lines : List NumberedLine} {comments text : List ℕ}
      → AreLinesNamed known own m sources (line ∷ lines) comments text → EndsLine text
  named-end (next_line {new} h no_lines) = line-after new lf
  named-end {sources} (next_line {new} h (next_line {line} {lines} k more)) =
      line-after new (after_byte (named-end {sources = drop 1 sources} {line = line} {lines = lines}
      (next_line {line = line} k more)))

  named-comments : {sources lines : List NumberedLine} {comments text : List ℕ} → Each IsClear sources
      → Each IsClear lines → AreLinesNamed known own m sources lines comments text → AreComments comments
  named-comments sources clear no_lines = no_comments
  named-comments {sources = others} sources (each_next {x = line} c clear) (next_line {new} h more) =
      let bare = bare_line m (source_of others line) in
      let rest = named-comments (each-drop 1 sources) clear more in
      let own = source-clear sources c in
      elim (cases_Bool (bytes_eq bare new)) [
        | inl e ↦ rw e rest
        | inr e ↦ rw e (a_comment (32 ∷ 102 ∷ 114 ∷ 111 ∷ 109 ∷ 58 ∷ 32 ∷ bare)
            (each-both (each_next refl (each_next refl (each_next refl (each_next refl (each_next refl (each_next refl
            (each_next refl each_none)))))))
            (each-drop (min m (margin_of (source_of others line).bytes)) own.inside)) rest)
      ]

-- a rule with its names is written so
rule-written : {known : List ℕ → Bool} {position new : RuleLines} {rule named : RuleGiven} → IsPlaced position rule
    → IsPositionNamed known rule position new → IsRuleNamed new rule named → IsWritten new named
rule-written is (stays lines none) (same_rule e) = placed-written is
rule-written is (stays lines none) (read_again n spells) = absurd (n is.none)
rule-written is (is_named lines some spells) (same_rule e) = absurd (some e)
rule-written {rule = rule} is (is_named {comments} {text} lines some named) (read_again {given} n spells) =
    let own = is.own in
    let rows = own.whole in
    record {
      comments = named-comments is.sources own.clear lines;
      first = letter-first text named.letter;
      line = (let here = rw rows at lines in named-end here);
      spells = spells-written (with_prose rule.is_prose given) spells refl;
    }

pub named-written : {known : List ℕ → Bool} {positions new : List RuleLines} {rules named : List RuleGiven}
    → ArePlaced positions rules → ArePositionsNamed known rules positions new → AreRulesNamed new rules named
    → AreWritten new named
named-written none_placed rules_end no_more_positions = none_written
named-written none_placed rules_end no_more_rules = none_written
named-written none_placed positions_end no_more_positions = none_written
named-written none_placed positions_end no_more_rules = none_written
named-written (next_placed is h) (one_position p ps) (one_rule r rs) =
    next_written (rule-written is p r) (named-written h ps rs)

pub written-standing : (fates : List Fate) {positions : List RuleLines} {rules : List RuleGiven}
    → AreWritten positions rules
    → AreWritten (standing fates positions) (standing fates rules)
written-standing [] none_written = none_written
written-standing [] (next_written is h) = none_written
written-standing (fate ∷ fates) none_written = none_written
written-standing (fate ∷ fates) (next_written is h) = elim (cases_Bool (has_stayed fate)) [
  | inl e ↦ rw e (next_written is (written-standing fates h))
  | inr e ↦ rw e (written-standing fates h)
]

-- the rule with a number, and what is written for it
data WrittenAt : Option RuleLines → Option RuleGiven → Type 0 where
  none_there : WrittenAt None None
  some_there : {position : RuleLines} {given : RuleGiven} → IsWritten position given
      → WrittenAt (Some position) (Some given)

written-at : (n : ℕ) {positions : List RuleLines} {rules : List RuleGiven} → AreWritten positions rules
    → WrittenAt (slice_get positions n) (slice_get rules n)
written-at n none_written = none_there
written-at zero (next_written is h) = some_there is
written-at (suc n) (next_written is h) = written-at n h

written-cons : {p : Option RuleLines} {r : Option RuleGiven} {positions : List RuleLines} {rules : List RuleGiven}
    → WrittenAt p r → AreWritten positions rules → AreWritten (cons_option p positions) (cons_option r rules)
written-cons none_there h = h
written-cons (some_there is) h = next_written is h

pub written-ordered : (order : List ℕ) {positions : List RuleLines} {rules : List RuleGiven}
    → AreWritten positions rules
    → AreWritten (filter_map (slice_get positions) order) (filter_map (slice_get rules) order)
written-ordered [] h = none_written
written-ordered (n ∷ order) h = written-cons (written-at n h) (written-ordered order h)
