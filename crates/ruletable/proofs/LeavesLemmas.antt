-- Texts that are written piece by piece, and what is left of one.
-- Serves: print_peg, print_abnf
use Rattle.std.proofs.Common.{◌≡◌, ℕ, zero, suc, ◌+◌, ◌<◌, ◌==◌, cond, Bool, true, false, Option, Some, List, []}
use Rattle.std.proofs.Common.{◌∷◌, ◌++◌, length, drop, get_or, slice_get, map, refl, sym, ◌∙◌, ap, subst, append_assoc}
use Rattle.std.proofs.Common.{arith, add-one, drop-cons}
use Rattle.std.proofs.lemmas.List.{append-nil}
use Rattle.std.proofs.lemmas.Bool.{eqb-true}
use Rattle.std.specs.Io.KnownBytes.{Appends}
use Rattle.std.specs.Prelude.{Result, Ok, Err}
use Rattle.ruletable.specs.Rules.{Rule}
use Rattle.ruletable.specs.Writing.{AppendsPart, Writes}
use Rattle.ruletable.proofs.AppendsLemmas.{Appends-join, Appends-same, AppendsPart-join, AppendsPart-first}

-- A prefix of the whole text has been taken, and what is left goes on from there.
pub record Leaves (a b : Option (List ℕ)) (whole left : List ℕ) : Type 0 where
  pub part : List ℕ
  pub cut : whole ≡ part ++ left
  pub taken : Appends a b part

pub leaves-all : (a : Option (List ℕ)) (whole : List ℕ) → Leaves a a whole whole
leaves-all a whole = record { part = []; cut = refl; taken = Appends-same a }

-- a step
pub leaves-rest : {a b c : Option (List ℕ)} {whole : List ℕ} (x left : List ℕ) → Leaves a b whole (x ++ left)
    → Appends b c x → Leaves a c whole left
leaves-rest {a} {b} {c} x left h s = record {
  part = h.part ++ x;
  cut = h.cut ∙ sym (append_assoc h.part x left);
  taken = Appends-join a b c h.part x h.taken s;
}

-- a step that fails
pub leaves-part : {a b : Option (List ℕ)} {whole : List ℕ} (c : Option (List ℕ)) (x left : List ℕ)
    → Leaves a b whole (x ++ left) → AppendsPart b c x → AppendsPart a c whole
leaves-part {a} {b} {whole} c x left h s =
    subst (λ (w : List ℕ). AppendsPart a c w) (sym h.cut)
    (AppendsPart-join a b c h.part (x ++ left) h.taken (AppendsPart-first b c x left s))

-- the last step, which may fail
pub leaves-last : {A E : Type 0} {a b : Option (List ℕ)} {whole : List ℕ} (c : Option (List ℕ)) (left : List ℕ)
    (r : Result A E) → Leaves a b whole left → Writes b c left r → Writes a c whole r
leaves-last {a = a} {b} {whole} c left (Ok x) h s = subst (λ (w : List ℕ). Appends a c w) (sym h.cut)
    (Appends-join a b c h.part left h.taken s)
leaves-last {a = a} {b} {whole} c left (Err x) h s = subst (λ (w : List ℕ). AppendsPart a c w) (sym h.cut)
    (AppendsPart-join a b c h.part left h.taken s)

pub leaves-none : {a b : Option (List ℕ)} {whole : List ℕ} → Leaves a b whole [] → Appends a b whole
leaves-none {a} {b} h = subst (λ (w : List ℕ). Appends a b w) (sym (h.cut ∙ append-nil h.part)) h.taken

pub leaves-at : {a b : Option (List ℕ)} {whole x y : List ℕ} → x ≡ y → Leaves a b whole x → Leaves a b whole y
leaves-at {a} {b} {whole} e h = subst (λ (w : List ℕ). Leaves a b whole w) e h

-- a list from one item on
pub from-item : {A : Type 0} (xs : List A) (i : ℕ) (x : A) → x ≡ get_or xs i x → i < length xs → drop i xs ≡ x
    ∷ drop (i + 1) xs
from-item xs i x same h =
    let e : drop i xs ≡ get_or xs i x ∷ drop (i + 1) xs = rw (add-one, drop-cons xs i x) refl in
    e ∙ ap (λ y. y ∷ drop (i + 1) xs) (sym same)

-- what stands after the first item
pub later-left : (i : ℕ) (b : Bool) (x y : List ℕ) → ((i + 1) == 0) ≡ b → y ≡ cond b x y
later-left i true x y h = absurd (let e = eqb-true (i + 1) 0 h in omega arith)
later-left i false x y h = refl

-- an item, with a mark before it unless it is the first, and what is left after it
pub marked-left : (i : ℕ) (mark item first later : List ℕ) → cond (i == 0) (item ++ later) (mark ++ (item ++ later))
    ≡ cond (i == 0) [] mark ++ (item ++ cond ((i + 1) == 0) first later)
marked-left i mark item first later =
    by (i == 0) ∙ ap (λ (w : List ℕ). cond (i == 0) [] mark ++ (item ++ w))
    (later-left i ((i + 1) == 0) first later refl)
  where
    by : (b : Bool) → cond b (item ++ later) (mark ++ (item ++ later)) ≡ cond b [] mark ++ (item ++ later)
    by true = refl
    by false = refl

pub same-left : (b : Bool) (xs : List ℕ) → cond b xs xs ≡ xs
same-left true xs = refl
same-left false xs = refl

-- what is left of a table's text, from one rule on
module _ {B : Type 0} (text : List (Rule B) → List ℕ) (one : List ℕ → B → List ℕ)
    (cons : (rule : Rule B) (rules : List (Rule B)) → text (rule ∷ rules) ≡ one rule.name rule.body ++ text rules) where
  rule-first : (rules : List (Rule B)) (i : ℕ) (n : List ℕ) (e : B) →
      slice_get (map (λ rule. rule.name) rules) i ≡ Some n → slice_get (map (λ rule. rule.body) rules) i ≡ Some e →
      text (drop i rules) ≡ one n e ++ text (drop (suc i) rules)
  rule-first [] i n e h k = cc
  rule-first (rule ∷ rules) zero n e h k =
      let name : rule.name ≡ n = cc in
      let body : rule.body ≡ e = cc in
      rw (← name, ← body) (cons rule rules)
  rule-first (rule ∷ rules) (suc i) n e h k = rule-first rules i n e h k

  pub rule-left : (rules : List (Rule B)) (i : ℕ) (n : List ℕ) (e : B) →
      slice_get (map (λ rule. rule.name) rules) i ≡ Some n → slice_get (map (λ rule. rule.body) rules) i ≡ Some e →
      text (drop i rules) ≡ one n e ++ text (drop (i + 1) rules)
  rule-left rules i n e h k = rw add-one (rule-first rules i n e h k)
