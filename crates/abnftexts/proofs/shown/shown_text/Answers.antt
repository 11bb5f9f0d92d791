use Rattle.std.proofs.Common.{refl}
use Rattle.abnftexts.specs.RulesGathered.{named_text}
use Rattle.abnftexts.proofs.RulesTakenLemmas.{shown-made}
use Rattle.abnftexts.proofs.shown.shown_text.Goals as goal

pub returns : goal.returns
returns c = shown-made c.args.lists (named_text c.args.text.now) _ c.without_mark-source.result.now refl
    c.without_mark-source.ensures c.is_xml-of_xml.ensures c.in_ok-bytes.ensures
    (let out = c.in_ok-written.ensures in rw c.deref.ensures.value at out)
