-- The row of one rule more.
-- Serves: left_rows
use Rattle.std.proofs.Common.{◌≡◌, ◌≤◌, ℕ, zero, suc, ◌+◌, List, [], ◌∷◌, ◌++◌, length, map, take, Some}
use Rattle.std.proofs.Common.{refl, sym, ap, ◌∙◌, add-one, arith, Vec, Global}
use Rattle.std.specs.Prelude.{slice_get}
use Rattle.std.proofs.lemmas.List.{map-append}
use Rattle.fixpoint.specs.StepRows.{rows_of}
use Rattle.ruletable.specs.Rules as table
use Rattle.pegread.specs.declared.expr.Expr.{Expr}

body-next : (f : Expr → List ℕ) (rules : List (table.Rule Expr)) (id : ℕ) (e : Expr)
    → slice_get (map (λ rule. rule.body) rules) id ≡ Some e
    → map (λ rule. f rule.body) (take (suc id) rules) ≡ map (λ rule. f rule.body) (take id rules) ++ f e ∷ []
body-next f [] id e at = absurd (cc at)
body-next f (rule ∷ rules) zero e at = (let same : rule.body ≡ e = cc at in ap (λ d. f d ∷ []) same)
body-next f (rule ∷ rules) (suc id) e at = ap (λ (l : List (List ℕ)). f rule.body ∷ l) (body-next f rules id e at)

pub rows-next : (f : Expr → List ℕ) (rules : List (table.Rule Expr)) (id : ℕ) (e : Expr)
    (rows new : List (Vec ℕ Global)) (row : Vec ℕ Global) → slice_get (map (λ rule. rule.body) rules) id ≡ Some e
    → row.items ≡ f e → new ≡ rows ++ row ∷ [] → rows_of rows ≡ map (λ rule. f rule.body) (take id rules)
    → rows_of new ≡ map (λ rule. f rule.body) (take (id + 1) rules)
rows-next f rules id e rows new row at is pushed before =
    ap rows_of pushed ∙ map-append (λ (r : Vec ℕ Global). r.items) rows (row ∷ [])
    ∙ ap (λ (l : List (List ℕ)). l ++ row.items ∷ []) before
    ∙ ap (λ (r : List ℕ). map (λ rule. f rule.body) (take id rules) ++ r ∷ []) is
    ∙ sym (body-next f rules id e at)
    ∙ ap (λ (k : ℕ). map (λ rule. f rule.body) (take k rules)) (sym (add-one id))

pub rules-taken : {A : Type 0} (xs : List A) (n : ℕ) → length xs ≤ n → take n xs ≡ xs
rules-taken [] zero le = refl
rules-taken [] (suc n) le = refl
rules-taken (x ∷ xs) zero le = absurd (omega (arith, le))
rules-taken (x ∷ xs) (suc n) le = ap (λ l. x ∷ l) (rules-taken xs n (omega (arith, le)))
