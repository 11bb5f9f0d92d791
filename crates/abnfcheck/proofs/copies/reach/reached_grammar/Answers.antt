-- The rules that are kept are those that are reached.
use Rattle.std.proofs.Common.{◌≡◌, ◌∙◌, ap, List, ℕ, subst, sym}
use Rattle.abnfread.specs.AbnfViews.{rules_of}
use Rattle.abnfread.specs.Element.{Rule}
use Rattle.abnfcheck.specs.AbnfGrammar.{IsSound}
use Rattle.abnfcheck.specs.ReachedGrammar.{AreReachedOf, rules_kept}
use Rattle.abnfcheck.proofs.ReachedGrammarLemmas.{reached_kept, reached_sound}
use Rattle.abnfcheck.proofs.copies.reach.reached_grammar.Goals as goal

pub new-requires : goal.new-requires
new-requires c =
    let g = c.args.grammar.now in
    let rules = rules_of g.rules in
    let sound = c.judged.ensures.sound.sound in
    let marks = c.in_ok-marks.marks.items in
    let is : rules_of c.in_ok-rules.rules ≡ rules_kept marks rules =
    rw (c.deref.ensures.value, c.rules.ensures.rules) at c.in_ok-rules.ensures.rules in
    record {
      folds = c.in_ok-rules.ensures.names;
      sound = subst (λ (v : List Rule). IsSound v c.judged.result) (sym is)
          (subst (λ (j : ℕ). IsSound (rules_kept marks rules) j) (sym c.judged.ensures.id)
          (reached_sound rules g.judged (rules_kept marks rules)
          (reached_kept rules g.judged marks sound c.in_ok-marks.ensures) sound));
    }

pub returns : goal.returns
returns c =
    let g = c.args.grammar.now in
    let rules = rules_of g.rules in
    let marks = c.in_ok-marks.marks.items in
    let is : rules_of c.in_ok-rules.rules ≡ rules_kept marks rules =
    rw (c.deref.ensures.value, c.rules.ensures.rules) at c.in_ok-rules.ensures.rules in
    record {
      judged = c.new.ensures.judged ∙ c.judged.ensures.id;
      rules = subst (λ (v : List Rule). AreReachedOf rules g.judged v) (sym (ap rules_of c.new.ensures.rules ∙ is))
          (reached_kept rules g.judged marks c.judged.ensures.sound.sound c.in_ok-marks.ensures);
    }
