use Rattle.std.proofs.Common.{sym, ap, ◌∙◌}
use Rattle.std.specs.Borrow.{Bor}
use Rattle.diagnostics.specs.BodyMentions.{mentioned_at}
use Rattle.diagnostics.specs.DefinitionHeads.{defined_at}
use Rattle.diagnostics.specs.declared.noteplaces.mentions.Mention.{Mention}
use Rattle.diagnostics.proofs.StandingProseLemmas.{is_prose_in}
use Rattle.diagnostics.proofs.noteplaces.prose.standing_prose.Goals as goal
use Rattle.std.proofs.Common.{◌≡◌, ℕ, ◌<◌, Bool, true, false, List, length, get_or, drop, map, refl, Some, ◌+◌, add-one}
use Rattle.std.proofs.Math.Seq.{drop-cons}
use Rattle.std.specs.List.{find}

-- the first that passes, among those from a position on
module _ {A B : Type 0} (f : A → B) (p : B → Bool) (xs : List A) (i : ℕ) (d : A) (lt : i < length xs) where
  find-passed : p (f (get_or xs i d)) ≡ false → find p (map f (drop i xs)) ≡ find p (map f (drop (i + 1) xs))
  find-passed e = rw (add-one, drop-cons xs i d lt, e) refl

  find-there : p (f (get_or xs i d)) ≡ true → find p (map f (drop i xs)) ≡ Some (f (get_or xs i d))
  find-there e = rw (drop-cons xs i d lt, e) refl

pub returns-then-is_standing_prose : goal.returns-then-is_standing_prose
returns-then-is_standing_prose c =
    let test = is_prose_in (map defined_at c.args.heads.now) (defined_at c.args.rule.now) in
    ap (λ (m : Bor Mention). Some (mentioned_at m.now)) c.mention-item.is
    ∙ sym (find-there (λ m. mentioned_at m.now) test c.args.mentions.now c.loop-mention.mention-index
    c.mention-item.result c.loop-mention-test.true
    (ap (λ (m : Bor Mention). test (mentioned_at m.now)) (sym c.mention-item.is)
    ∙ sym c.is_standing_prose.ensures ∙ c.if-is_standing_prose.true))
    ∙ c.loop-mention.invariant

pub loop-mention-preserved : goal.loop-mention-preserved
loop-mention-preserved c =
    let test = is_prose_in (map defined_at c.args.heads.now) (defined_at c.args.rule.now) in
    sym (find-passed (λ m. mentioned_at m.now) test c.args.mentions.now c.loop-mention.mention-index
    c.mention-item.result c.loop-mention-test.true
    (ap (λ (m : Bor Mention). test (mentioned_at m.now)) (sym c.mention-item.is)
    ∙ sym c.is_standing_prose.ensures ∙ c.if-is_standing_prose.false))
    ∙ c.loop-mention.invariant
