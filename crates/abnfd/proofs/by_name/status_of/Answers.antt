-- A grammar is rejected, or the rules are unchanged, or a search was made.
use Rattle.std.proofs.Common.{◌∙◌, sym}
use Rattle.std.proofs.lemmas.Bool.{both_ways}
use Rattle.std.proofs.lemmas.Result.{IfOk-weaker}
use Rattle.abnfd.proofs.StatusLemmas.{ends_found, ends_unchanged, new_rejected, old_rejected, sound_at}
use Rattle.abnfd.proofs.by_name.status_of.Goals as goal

pub rule_id-requires : goal.rule_id-requires
rule_id-requires c = c.requires.2.olds_are.folds

pub rule_id-requires-2 : goal.rule_id-requires-2
rule_id-requires-2 c = c.requires.2.news_are.folds

pub returns-then-not-old_passes : goal.returns-then-not-old_passes
returns-then-not-old_passes c = λ old new are.
    let both = c.args.both.now in
    let off = sym (rw c.as_slice.ensures.value at c.is_marked-old_passes.ensures) ∙ c.if-not-old_passes.true in
    old_rejected c.args.settings.now.letters old new both are c.args.name.now c.in_ok-id.id 0 c.in_ok-id.ensures
    (λ on. both_ways _ off on)

pub returns-then-not-new_passes : goal.returns-then-not-new_passes
returns-then-not-new_passes c = λ old new are.
    let both = c.args.both.now in
    let off = sym (rw c.as_slice-2.ensures.value at c.is_marked-new_passes.ensures) ∙ c.if-not-new_passes.true in
    new_rejected c.args.settings.now.letters old new both are c.args.name.now c.in_ok-id.id c.in_ok-new_id.new_id
    c.in_ok-id.ensures c.in_ok-new_id.ensures (λ on. both_ways _ off on)

pub returns-then-is_unchanged : goal.returns-then-is_unchanged
returns-then-is_unchanged c = λ old new are.
    let both = c.args.both.now in
    let on = sym (rw c.as_slice.ensures.value at c.is_marked-old_passes.ensures) ∙ c.if-not-old_passes.false in
    let new_on = sym (rw c.as_slice-2.ensures.value at c.is_marked-new_passes.ensures) ∙ c.if-not-new_passes.false in
    ends_unchanged c.args.settings.now.letters old new both are c.args.name.now c.in_ok-id.id c.in_ok-new_id.new_id
    c.in_ok-id.ensures c.in_ok-new_id.ensures on new_on
    (rw c.as_slice-3.ensures.value at (c.is_partner-is_unchanged.ensures c.if-is_unchanged.true))

pub searched_status-requires-clause-old : goal.searched_status-requires-clause-old
searched_status-requires-clause-old c =
    sound_at c.requires.0 c.args.both.now.old c.requires.2.olds_are c.args.name.now c.in_ok-id.id c.in_ok-id.ensures
    (sym (rw c.as_slice.ensures.value at c.is_marked-old_passes.ensures) ∙ c.if-not-old_passes.false)

pub searched_status-requires-clause-new : goal.searched_status-requires-clause-new
searched_status-requires-clause-new c =
    sound_at c.requires.1 c.args.both.now.new c.requires.2.news_are c.args.name.now c.in_ok-new_id.new_id
    c.in_ok-new_id.ensures
    (sym (rw c.as_slice-2.ensures.value at c.is_marked-new_passes.ensures) ∙ c.if-not-new_passes.false)

pub returns : goal.returns
returns c = IfOk-weaker c.searched_status.result _ _
    (λ status found old new are.
    let both = c.args.both.now in
    let on = sym (rw c.as_slice.ensures.value at c.is_marked-old_passes.ensures) ∙ c.if-not-old_passes.false in
    let new_on = sym (rw c.as_slice-2.ensures.value at c.is_marked-new_passes.ensures) ∙ c.if-not-new_passes.false in
    ends_found c.args.settings.now.letters old new both are c.args.name.now c.in_ok-id.id c.in_ok-new_id.new_id
    c.in_ok-id.ensures c.in_ok-new_id.ensures on new_on found.0 status found.1 found.2) c.searched_status.ensures
