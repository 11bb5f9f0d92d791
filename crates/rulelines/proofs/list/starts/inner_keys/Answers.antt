use Rattle.std.proofs.Common.{◌+◌, ◌∙◌, subst, sym}
use Rattle.std.proofs.lemmas.Option.{slice_get-get_or}
use Rattle.rulelines.specs.LineSets.{is_line_symbol}
use Rattle.rulelines.proofs.StartsLemmas.{HaveKeysTo, keys_of_all, keys_passed, keys_pushed}
use Rattle.rulelines.proofs.list.starts.inner_keys.Goals as goal
use Rattle.rulelines.proofs.list.starts.inner_keys.Goals.{then-is_inner+in_ok-push, else-is_inner}

pub returns : goal.returns
returns c =
    keys_of_all (is_line_symbol c.args.inner.alphabet c.args.inner.terminator) c.args.bounds.now
    c.loop-bound.bound-index c.loop-bound.keys.items c.loop-bound-test.false c.loop-bound.invariant

pub loop-bound-preserved : goal.loop-bound-preserved
loop-bound-preserved c =
    let has = is_line_symbol c.args.inner.alphabet c.args.inner.terminator in
    let at_n = slice_get-get_or c.args.bounds.now c.loop-bound.bound-index 0 c.loop-bound-test.true in
    elim c.if-is_inner.branch [
      | then-is_inner+in_ok-push w ↦
          subst (λ v. HaveKeysTo has c.args.bounds.now (c.loop-bound.bound-index + 1) v.items) (sym w.keys-is)
          (keys_pushed has c.args.bounds.now c.loop-bound.bound-index _ w.key_of.result c.loop-bound.keys.items
          w.push.new.self.items at_n c.loop-bound.invariant w.key_of.ensures w.in_ok-push.ensures.items)
      | else-is_inner w ↦
          subst (λ v. HaveKeysTo has c.args.bounds.now (c.loop-bound.bound-index + 1) v.items) (sym w.keys-is)
          (keys_passed has c.args.bounds.now c.loop-bound.bound-index _ c.loop-bound.keys.items at_n
          c.loop-bound.invariant (sym c.is_inner.ensures ∙ w.if-is_inner.false))
    ]
