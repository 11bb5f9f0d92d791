use Rattle.std.proofs.Common.{ap, map, sym, ◌∙◌, ◌==◌}
use Rattle.std.specs.Prelude.{option_map}
use Rattle.diagnostics.specs.DefinitionHeads.{defined_at}
use Rattle.diagnostics.specs.FirstMentions.{rule_standing, stands_in}
use Rattle.diagnostics.proofs.MentionsUnderLemmas.{find-mapped}
use Rattle.diagnostics.proofs.noteplaces.uses.rule_around.Goals as goal

pub head_at-requires : goal.head_at-requires
head_at-requires c = rw c.deref.ensures.value c.args.positions.now.rise

pub returns-in_default : goal.returns-in_default
returns-in_default c =
    let positions = c.args.positions.now in
    let none = (let h = c.in_default.ensures in rw c.deref.ensures.value at h) in
    sym (ap (rule_standing positions.names (map defined_at positions.heads.items))
    (find-mapped defined_at (λ d. d.start == c.args.start) positions.heads.items
    ∙ ap (option_map defined_at) (sym none)))

pub returns : goal.returns
returns c =
    let positions = c.args.positions.now in
    let head = c.in-Some.head.now in
    let some = (let h = c.in-Some.ensures in rw c.deref.ensures.value at h) in
    let rule = (let r = c.in_ok-rule.ensures in rw c.as_slice.ensures.value at r) in
    c.standing_in.ensures ∙ ap (stands_in (defined_at head)) rule
    ∙ sym (ap (rule_standing positions.names (map defined_at positions.heads.items))
    (find-mapped defined_at (λ d. d.start == c.args.start) positions.heads.items
    ∙ ap (option_map defined_at) (sym some)))
