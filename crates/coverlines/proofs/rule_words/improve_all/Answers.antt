-- One rule more.
use Rattle.std.proofs.Common.{◌+◌, ◌||◌, ◌∙◌, sym, ap, subst}
use Rattle.abnfread.specs.AbnfViews.{rules_of}
use Rattle.coverlines.specs.KnownWords.{ArePassed}
use Rattle.coverlines.proofs.KnownWordsLemmas.{next_passed}
use Rattle.coverlines.proofs.rule_words.improve_all.Goals.{then-improved, else-improved}
use Rattle.coverlines.proofs.rule_words.improve_all.Goals as goal

pub loop-id-preserved : goal.loop-id-preserved
loop-id-preserved c = record {
  found = c.in_ok-step.ensures.found;
  passed =
      let both = next_passed c.args.bounds (rules_of c.args.rules.now) c.loop-id.id c.args.known.now.items
      c.loop-id.known.items c.improve.new.known.items c.loop-id.improved c.in_ok-step.step
      c.loop-id.invariant.passed c.in_ok-step.ensures.step in
      elim c.if-improved.branch [
        | then-improved w ↦ subst (λ flag. ArePassed c.args.bounds (rules_of c.args.rules.now) (c.loop-id.id + 1)
            c.args.known.now.items c.improve.new.known.items flag)
            (ap (λ flag. flag || c.in_ok-step.step) w.if-improved.true ∙ sym w.if-improved.true
            ∙ sym w.improved-is) both
        | else-improved w ↦ subst (λ flag. ArePassed c.args.bounds (rules_of c.args.rules.now) (c.loop-id.id + 1)
            c.args.known.now.items c.improve.new.known.items flag)
            (ap (λ flag. flag || c.in_ok-step.step) w.if-improved.false ∙ sym w.improved-is) both
      ];
}
