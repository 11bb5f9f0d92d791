-- One mention more, before those so far.
use Rattle.std.proofs.Common.{◌≡◌, ◌-◌, ◌<◌, ◌∙◌, ap, ℕ, suc, sym, subst, ◌∷◌, length, map, drop, arith}
use Rattle.std.proofs.Math.Seq.{drop-cons}
use Rattle.std.specs.Prelude.{option_map}
use Rattle.diagnostics.specs.BodyMentions.{mentioned_at}
use Rattle.diagnostics.specs.DefinitionHeads.{defined_at}
use Rattle.diagnostics.specs.FirstMentions.{IsFirstIfAny}
use Rattle.diagnostics.specs.FoundMentions.{mention_found}
use Rattle.diagnostics.proofs.noteplaces.uses.earliest_of.Goals as goal

pub loop-left-preserved : goal.loop-left-preserved
loop-left-preserved c =
    let i = c.loop-left.invariant in
    let some = c.loop-left-test.true in
    let inside = i.within in
    let there : suc (c.loop-left.left - 1) ≡ c.loop-left.left = omega (arith, some) in
    let lt : c.loop-left.left - 1 < length c.args.mentions.now = omega (arith, some, inside) in
    let next : drop (c.loop-left.left - 1) c.args.mentions.now
    ≡ c.index-mentions-left.result ∷ drop c.loop-left.left c.args.mentions.now =
    drop-cons c.args.mentions.now (c.loop-left.left - 1) c.index-mentions-left.result lt
    ∙ ap (λ v. v ∷ drop (suc (c.loop-left.left - 1)) c.args.mentions.now) (sym c.index-mentions-left.is)
    ∙ ap (λ (k : ℕ). c.index-mentions-left.result ∷ drop k c.args.mentions.now) there in
    record {
      within = omega (arith, inside);
      first = subst (λ l. IsFirstIfAny c.args.positions.now.names (map defined_at c.args.positions.now.heads.items)
          (map (λ m. mentioned_at m.now) l) (option_map mention_found c.earlier_of-found.result)) (sym next)
          (c.earlier_of-found.ensures c.args.positions.now.names (map defined_at c.args.positions.now.heads.items)
          (map (λ m. mentioned_at m.now) (drop c.loop-left.left c.args.mentions.now)) c.in_ok-rule.ensures i.first);
    }
