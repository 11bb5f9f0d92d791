use Rattle.std.proofs.Common.{◌≡◌, ◌⊎◌, inl, inr, [], Some, Vec, Global, ap, ◌∙◌, sym, subst, length, slice_get}
use Rattle.flatgrammar.specs.ItemClosures.{Picks, Reads}
use Rattle.flatgrammar.specs.declared.closure.DottedRule.{DottedRule}
use Rattle.flatgrammar.proofs.SliceGetLemmas.{push_cases}
use Rattle.flatgrammar.proofs.dot_list.no_readers.Goals as goal

pub loop-letter-preserved : goal.loop-letter-preserved
loop-letter-preserved c flat k list at = by (push_cases c.loop-letter.lists.items c.new.result k list
    (subst (λ v. slice_get v k ≡ Some list) c.in_ok-push.ensures.items at))
  where
    by : (slice_get c.loop-letter.lists.items k ≡ Some list)
        ⊎ ((k ≡ length c.loop-letter.lists.items) × (c.new.result ≡ list)) → Picks (Reads flat k) [] list.items
    by (inl before) = c.loop-letter.invariant flat k list before
    by (inr same) = subst (λ v. Picks (Reads flat k) [] v)
        (sym c.new.ensures.items ∙ ap (λ (v : Vec DottedRule Global). v.items) same.1)
        ((λ p h. h), (λ p h is. h), (λ d. d))
