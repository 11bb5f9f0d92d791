use Rattle.std.proofs.Common.{◌≡◌, ◌∙◌, ℕ, List, [], ap, drop, get_or, length, map, refl, subst, sym}
use Rattle.abnftexts.specs.GivenRules.{text_rule}
use Rattle.abnftexts.specs.RulesGathered.{RulesGathered, entry_listed, lines_placed, none_given, reported_rule}
use Rattle.abnftexts.specs.RulesGathered.{rules_gathered}
use Rattle.abnftexts.specs.TakenRules.{TakesGroups, TakesMore, text_found, text_rows}
use Rattle.abnftexts.specs.TextRules.{GiveFound, asks_lists}
use Rattle.abnftexts.specs.declared.gathered.FoundText.{FoundText}
use Rattle.abnftexts.specs.declared.gathered.ListLine.{ListLine}
use Rattle.abnftexts.specs.declared.gathered.RulePosition.{RulePosition}
use Rattle.abnftexts.specs.declared.gathered.RuleReport.{RuleReport}
use Rattle.abnftexts.specs.declared.join.given.GivenRule.{GivenRule}
use Rattle.rfcvalues.specs.RuleSketches.{rule_sketched}
use Rattle.abnftexts.proofs.RulesTakenLemmas.{GivesLeft, room-next, text-more, texts-end}
use Rattle.abnftexts.proofs.taken.take_all.Goals as goal

abbrev given_of : List RulePosition → List GivenRule → List RuleReport → List ListLine → RulesGathered
given_of positions rules reports list = record {
  positions = map lines_placed positions;
  rules = map text_rule rules;
  reported = map reported_rule reports;
  list = map entry_listed list;
}

none-yet : (positions : List RulePosition) (rules : List GivenRule) (reports : List RuleReport) (list : List ListLine)
    → positions ≡ [] → rules ≡ [] → reports ≡ [] → list ≡ [] → given_of positions rules reports list ≡ none_given
none-yet positions rules reports list a b d e = rw (a, b, d, e) refl

pub loop-text-init : goal.loop-text-init
loop-text-init c = λ lists named are many enough. (
  many,
  enough,
  λ end more. subst (λ (g : RulesGathered). TakesMore (GivesLeft lists c.args.texts.now 0 c.args.sketches.now
      c.args.values.now) g end)
      (none-yet c.new.result.items c.new-2.result.items c.new-3.result.items c.new-4.result.items c.new.ensures.items
      c.new-2.ensures.items c.new-3.ensures.items c.new-4.ensures.items) more,
)

pub loop-text-preserved : goal.loop-text-preserved
loop-text-preserved c = λ lists named are many enough.
    let texts = c.args.texts.now in
    let i = c.loop-text.text-index in
    let text = c.text-item.result in
    let own = c.loop-text.own.now in
    let marks = c.loop-text.marks.now in
    let count : ℕ = length (get_or texts i text).found.items in
    let size : length text.found.items ≡ count = ap (λ (t : FoundText). length t.found.items) c.text-item.is in
    let held : text.found.len ≡ length text.found.items = text.found.ok.0 in
    let own_is : c.items_after-own.result.now ≡ drop count own =
    c.items_after-own.ensures ∙ ap (λ (n : ℕ). drop n own) (c.len.ensures ∙ held ∙ size) in
    let marks_are : c.items_after-marks.result.now ≡ drop count marks =
    c.items_after-marks.ensures ∙ ap (λ (n : ℕ). drop n marks) (c.len-in-loop-text.ensures ∙ held ∙ size) in
    let known = c.loop-text.invariant lists named are many enough in
    let room = room-next lists texts i own marks text c.loop-text-test.true known.0 known.1 in
    let takes = subst (λ (t : FoundText). TakesGroups (text_rows t.rows) t.found.items (map rule_sketched own) marks
    (rules_gathered c.loop-text.gathered) (rules_gathered c.take_found.new.gathered)) c.text-item.is
    c.in_ok-take_found.ensures in (
      rw own_is room.0,
      rw marks_are room.1,
      λ end more. known.2 end (text-more lists texts i own marks named text (rules_gathered c.loop-text.gathered)
          (rules_gathered c.take_found.new.gathered) end are c.loop-text-test.true known.0 known.1 takes
          (rw (own_is, marks_are) at more)),
    )

pub returns : goal.returns
returns c = λ lists named are many enough.
    let known = c.loop-text.invariant lists named are many enough in
    let all = known.2 (rules_gathered c.loop-text.gathered)
    (texts-end lists c.args.texts.now c.loop-text.text-index c.loop-text.own.now c.loop-text.marks.now
    (rules_gathered c.loop-text.gathered) c.loop-text-test.false) in
    subst (λ (g : RulesGathered). GiveFound (asks_lists lists)
    (map text_found c.args.texts.now) (map rule_sketched c.args.sketches.now) c.args.values.now g) (sym all.2) all.1
