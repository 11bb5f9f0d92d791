use Rattle.std.proofs.Common.{◌∙◌, List, [], ◌∷◌, ap, append-nil, map, subst, sym}
use Rattle.std.proofs.lemmas.List.{map-append, take_all}
use Rattle.abnfblocks.specs.declared.found.RuleSearch.{RuleSearch}
use Rattle.abnftexts.specs.TakenRules.{AddSketches, text_rows}
use Rattle.abnftexts.specs.TextRules.{no_sketches}
use Rattle.rfcvalues.specs.RuleSketches.{rule_sketched}
use Rattle.rfcvalues.specs.declared.sketch.RuleSketch.{RuleSketch}
use Rattle.abnftexts.proofs.RulesTakenLemmas.{sketch-more}
use Rattle.abnftexts.proofs.values.push_sketches.Goals as goal

pub loop-it-init : goal.loop-it-init
loop-it-init c = ([], no_sketches, sym (append-nil (map rule_sketched c.args.sketches.now.items)))

pub loop-it-preserved : goal.loop-it-preserved
loop-it-preserved c =
    let now = c.loop-it.sketches.items in
    sketch-more (text_rows c.args.rows.now) c.args.found.now c.loop-it.it-index _ (rule_sketched c.in_ok-sketch.sketch)
    (map rule_sketched c.args.sketches.now.items) (map rule_sketched now) (map rule_sketched c.push.new.self.items)
    c.loop-it-test.true c.in_ok-sketch.ensures c.loop-it.invariant
    (ap (λ (xs : List RuleSketch). map rule_sketched xs) c.in_ok-push.ensures.items
    ∙ map-append rule_sketched now (c.in_ok-sketch.sketch ∷ []))

pub returns : goal.returns
returns c =
    subst (λ (its : List RuleSearch). AddSketches (text_rows c.args.rows.now) its
    (map rule_sketched c.args.sketches.now.items) (map rule_sketched c.loop-it.sketches.items))
    (take_all c.loop-it.it-index c.args.found.now c.loop-it-test.false) c.loop-it.invariant
