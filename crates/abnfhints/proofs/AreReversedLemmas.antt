-- The reversed numbers among mentions, one by one, and that there is one list of them.
-- Serves: abnf_hints, one_text_of_abnf_hints
use Rattle.std.proofs.Common.{◌≡◌, ℕ, ◌+◌, ◌<◌, List, [], ◌∷◌, ◌++◌, length, map, take, get_or, refl, sym, ◌∙◌, ap}
use Rattle.std.proofs.Common.{add-one, subst}
use Rattle.std.proofs.lemmas.List.{map-append}
use Rattle.std.proofs.Math.Seq.{take-suc}
use Rattle.diagnostics.specs.BodyMentions.{MentionedAt, mentioned_at}
use Rattle.diagnostics.specs.declared.noteplaces.mentions.Mention.{Mention}
use Rattle.abnfhints.specs.AbnfHints.{AreReversed, IsReversedMention, none_reversed, one_reversed, other_mention}

reversed_push : {ms rs : List MentionedAt} (m : MentionedAt) → AreReversed ms rs → IsReversedMention m
    → AreReversed (ms ++ m ∷ []) (rs ++ m ∷ [])
reversed_push m none_reversed k = one_reversed k none_reversed
reversed_push m (one_reversed j rest) k = one_reversed j (reversed_push m rest k)
reversed_push m (other_mention other rest) k = other_mention other (reversed_push m rest k)

reversed_pass : {ms rs : List MentionedAt} (m : MentionedAt) → AreReversed ms rs
    → (IsReversedMention m → ⊥) → AreReversed (ms ++ m ∷ []) rs
reversed_pass m none_reversed f = other_mention f none_reversed
reversed_pass m (one_reversed j rest) f = one_reversed j (reversed_pass m rest f)
reversed_pass m (other_mention other rest) f = other_mention other (reversed_pass m rest f)

module _ (ms : List Mention) (i : ℕ) (m : Mention) (lt : i < length ms) (is : m ≡ get_or ms i m)
    (rs : List MentionedAt) (are : AreReversed (map mentioned_at (take i ms)) rs) where
  next_mentions : map mentioned_at (take (i + 1) ms) ≡ map mentioned_at (take i ms) ++ mentioned_at m ∷ []
  next_mentions = ap (λ (k : ℕ). map mentioned_at (take k ms)) (add-one i) ∙ ap (map mentioned_at) (take-suc ms i m lt)
      ∙ ap (λ v. map mentioned_at (take i ms ++ v ∷ [])) (sym is) ∙ map-append mentioned_at (take i ms) (m ∷ [])

  pub next_reversed : IsReversedMention (mentioned_at m)
      → AreReversed (map mentioned_at (take (i + 1) ms)) (rs ++ mentioned_at m ∷ [])
  next_reversed k = subst (λ v. AreReversed v (rs ++ mentioned_at m ∷ [])) (sym next_mentions)
      (reversed_push (mentioned_at m) are k)

  pub next_other : (IsReversedMention (mentioned_at m) → ⊥)
      → AreReversed (map mentioned_at (take (i + 1) ms)) rs
  next_other f = subst (λ v. AreReversed v rs) (sym next_mentions) (reversed_pass (mentioned_at m) are f)

pub one_reversed_list : {ms a b : List MentionedAt} → AreReversed ms a → AreReversed ms b → a ≡ b
one_reversed_list none_reversed none_reversed = refl
one_reversed_list (one_reversed {m = m} k rest) (one_reversed j others) =
    ap (λ l. m ∷ l) (one_reversed_list rest others)
one_reversed_list (one_reversed k rest) (other_mention f others) = absurd (f k)
one_reversed_list (other_mention f rest) (one_reversed k others) = absurd (f k)
one_reversed_list (other_mention f rest) (other_mention g others) = one_reversed_list rest others
