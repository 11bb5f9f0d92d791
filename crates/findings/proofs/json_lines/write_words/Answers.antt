-- The three members stand after what was written.
use Rattle.std.proofs.Common.{◌≡◌, ◌∙◌, ◌++◌, ◌∷◌, [], ℕ, List, ap, append_assoc, codes}
use Rattle.json.specs.Token.{key, string}
use Rattle.findings.proofs.json_lines.write_words.Goals as goal

three_added : {T : Type 0} (t0 t1 t2 t3 a b : List T) (text : List ℕ → List T) (m n : List ℕ)
    → t1 ≡ t0 ++ a → t2 ≡ t1 ++ b → t3 ≡ t2 ++ text m → m ≡ n → t3 ≡ t0 ++ (a ++ (b ++ text n))
three_added t0 t1 t2 t3 a b text m n first second third same =
    third ∙ (ap (λ x. t2 ++ text x) same ∙ (ap (λ t. t ++ text n) (second ∙ ap (λ t. t ++ b) first)
    ∙ (append_assoc (t0 ++ a) b (text n) ∙ append_assoc t0 a (b ++ text n))))

pub returns-clause-tokens : goal.returns-clause-tokens
returns-clause-tokens c = three_added _ _ _ _ _ _ (λ x. key (codes "message") ∷ string x ∷ []) _ _
    (rw c.name.ensures at c.in_ok-write_text.ensures.tokens)
    (rw c.name-2.ensures at c.in_ok-write_text-2.ensures.tokens) c.in_ok-write_text-3.ensures.tokens
    (c.deref.ensures ∙ c.in_ok-message.ensures)
