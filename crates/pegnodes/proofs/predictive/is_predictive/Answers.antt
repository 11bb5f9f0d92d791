use Rattle.std.proofs.Common.{true, ◌≡◌, inl, inr, ℕ, zero, suc, ◌<◌, ◌∙◌, refl, sym, subst, arith}
use Rattle.std.proofs.lemmas.List.{length-map}
use Rattle.pegnodes.specs.Nodes.{shape_of, shapes_of}
use Rattle.pegnodes.specs.Predictive.{IsDecisive}
use Rattle.pegnodes.proofs.ForesightLemmas.{below_or_from}
use Rattle.pegnodes.proofs.predictive.is_predictive.Goals as goal

pub loop-b-init : goal.loop-b-init
loop-b-init c = λ b lt. absurd (omega (arith, lt))

pub loop-b-preserved : goal.loop-b-preserved
loop-b-preserved c = λ b lt. elim (below_or_from c.loop-b.b b) [
  | inl low ↦ c.loop-b.invariant b low
  | inr high ↦
      let is : c.loop-b.b ≡ b = omega (arith, lt, high) in
      subst (IsDecisive (shapes_of c.args.nodes.now) c.args.bodies.now) is here
]
  where
    as_before : c.are_alike.result ≡ true → (k : ℕ) → c.loop-b.b ≡ suc k → k < c.loop-b.b
        → IsDecisive (shapes_of c.args.nodes.now) c.args.bodies.now c.loop-b.b
    as_before t k is lt =
        let d = c.loop-b.invariant k lt in
        record {
          of = d.of;
          decided = λ n shape at. d.decided n shape at
              ∙ sym (c.are_alike.ensures.alike t k is c.args.bodies.now d.of n shape at);
          settled = d.settled;
        }

    positive : (n : ℕ) → 0 < n → (k : ℕ) × (n ≡ suc k)
    positive zero lt = absurd (omega (arith, lt))
    positive (suc k) lt = (k, refl)

    here : IsDecisive (shapes_of c.args.nodes.now) c.args.bodies.now c.loop-b.b
    here = elim c.else-not-are_alike.branch [
      | goal.else-not-are_alike-via-then-not-are_alike+in_ok-is_decisive-2+else-not-branch-3 w ↦
          w.in_ok-is_decisive-2.ensures w.if-not-branch-3.false c.loop-b.b (inl refl)
      | goal.else-not-are_alike-via-else-not-are_alike w ↦
          let t = w.if-not-are_alike.false in
          let k = positive c.loop-b.b (c.are_alike.ensures.some t) in
          as_before t k.0 k.1 (let is = k.1 in omega (arith, is))
    ]

pub returns : goal.returns
returns c = λ t. record {
  apart = λ l lt. let same = length-map c.args.nodes.now shape_of in
      c.in_ok-are_apart.ensures c.if-not-branch-2.false l (omega (arith, lt, same));
  at = λ n. let end = c.loop-b-test.false in elim (below_or_from 256 n) [
    | inl low ↦ c.loop-b.invariant n (omega (arith, low, end))
    | inr high ↦ c.in_ok-is_decisive.ensures c.if-not-branch.false n (inr (omega arith, high))
  ];
}
