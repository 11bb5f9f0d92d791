-- The bytes before b, and then b.
use Rattle.std.proofs.Common.{◌≡◌, ◌||◌, ◌==◌, ap, sym, ◌∙◌, refl, arith, inr, false, get_or, ◌&&◌, nat_le, nat_lt}
use Rattle.std.proofs.Math.Bool.{or-false, or_assoc}
use Rattle.ruletable.proofs.ByteSetLemmas.{range-none, range-more, range-past}
use Rattle.ruletable.proofs.byte_set.ByteSet.add_range.Goals as goal

pub loop-b-init : goal.loop-b-init
loop-b-init c = record {
  upto = inr refl;
  count = refl;
  members = λ k.
      sym (or-false (get_or c.args.self.now k false)) ∙ ap (λ t. get_or c.args.self.now k false || t)
      (sym (range-none c.args.first k));
}

pub returns-clause-members : goal.returns-clause-members
returns-clause-members c k =
    c.loop-b.invariant.members k
    ∙ ap (λ t. get_or c.args.self.now k false || t)
    (range-past c.args.first c.args.last c.loop-b.b k c.loop-b.invariant.upto c.loop-b-test.false)

pub returns-2-clause-members : goal.returns-2-clause-members
returns-2-clause-members c k =
    let end : c.loop-b.b ≡ c.args.last = omega arith in
    c.put.ensures.members k
    ∙ ap (λ t. t || (k == c.loop-b.b)) (c.loop-b.invariant.members k)
    ∙ or_assoc (get_or c.args.self.now k false) (nat_le c.args.first k && nat_lt k c.loop-b.b) (k == c.loop-b.b)
    ∙ ap (λ t. get_or c.args.self.now k false || t) (range-more c.args.first c.loop-b.b k c.loop-b.auto.b
    ∙ ap (λ n. nat_le c.args.first k && nat_le k n) end)
