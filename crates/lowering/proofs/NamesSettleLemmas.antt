-- Marks of rules that derive the empty list, and of names.
-- Serves: lower, lower_viable.
use Rattle.std.proofs.Common.{◌≡◌, ◌↔◌, ℕ, zero, suc, ◌<◌, Bool, true, false, List, [], ◌∷◌, length, get_or, Some, refl}
use Rattle.std.proofs.Common.{sym, ◌∙◌, ap, subst, arith}
use Rattle.std.specs.Prelude.{slice_get}
use Rattle.std.proofs.lemmas.List.{length-map}
use Rattle.std.proofs.lemmas.Option.{get_or_from_slice_get, slice_get_within}
use Rattle.abnfread.specs.Element as e
use Rattle.abnfread.specs.Element.{Element, Rule, bodies, body_of, id_of}
use Rattle.abnfcheck.specs.Derivable as der
use Rattle.abnfcheck.specs.Derivable.{Derives, RuleDerives}
use Rattle.abnfcheck.specs.RuleMarks.{AreNullMarks}
use Rattle.lowering.specs.NullElements.{AreNullRules, AreNullAlike}
use Rattle.lowering.specs.Numbers.{NamesSettle}
use Rattle.flatgrammar.proofs.SliceGetLemmas.{get_below}
use Rattle.abnfcheck.proofs.RuleIdLemmas.{body_at_id}
use Rattle.flatgrammar.proofs.SliceGetLemmas.{get_there}

get_here : (marks : List Bool) (k : ℕ) (mark : Bool) → slice_get marks k ≡ Some mark → get_or marks k false ≡ mark
get_here [] k mark is = absurd (cc is)
get_here (m ∷ marks) zero mark is = let same : m ≡ mark = cc is in same
get_here (m ∷ marks) (suc k) mark is = get_here marks k mark is

get_true : (marks : List Bool) (k : ℕ) → get_or marks k false ≡ true → slice_get marks k ≡ Some true
get_true [] k is = absurd (cc is)
get_true (m ∷ marks) zero is = ap Some is
get_true (m ∷ marks) (suc k) is = get_true marks k is

-- a name derives what its rule does
module _ (has : ℕ → Bool) (rules : List Rule) (n : List ℕ) where
  by_rule : {w : List ℕ} → RuleDerives has rules (id_of rules n) w → Derives has rules (e.Name n) w
  by_rule d = der.name (body_at_id rules n ∙ d.is) d.derives

  of_rule : {w : List ℕ} → Derives has rules (e.Name n) w → RuleDerives has rules (id_of rules n) w
  of_rule (der.name {e = el} found d) = record { body = el; is = sym (body_at_id rules n) ∙ found; derives = d }

pub names_settle : (rules others : List Rule) (marks : List Bool) → AreNullRules rules marks → AreNullAlike rules others
    → NamesSettle others marks
names_settle rules others marks are alike n = record {
  yes = λ m has. by_rule has others n ((alike.alike has (id_of others n)).1
      ((are.each (id_of others n) true (get_true marks (id_of others n) m) has).0 refl));
  no = λ m has d. refused has m (of_rule has others n d);
}
  where
    refused : (has : ℕ → Bool) → get_or marks (id_of others n) false ≡ false
        → RuleDerives has others (id_of others n) [] → ⊥
    refused has m d =
        let below = get_below (bodies others) (id_of others n) d.is in
        let long = length-map others (λ rule. rule.body) in
        let one = alike.count in
        let two = are.count in
        let at = get_there marks (id_of others n) (omega (arith, below, long, one, two)) in
        let yes = (are.each (id_of others n) at.0 at.1 has).1 ((alike.alike has (id_of others n)).0 d) in
        let no = sym (get_here marks (id_of others n) at.0 at.1) ∙ m in
        absurd (cc (yes, no))

pub alike_itself : (rules : List Rule) → AreNullAlike rules rules
alike_itself rules = record { count = refl; alike = λ has id. ((λ d. d), (λ d. d)) }

-- of each rule there is a mark
pub null_rules : (rules : List Rule) (marks : List Bool) → length marks ≡ length rules → AreNullMarks rules marks
    → AreNullRules rules marks
null_rules rules marks count are = record {
  count = count;
  each = λ id mark at has.
      let below = slice_get_within marks id mark at in
      subst (λ (b : Bool). (b ≡ true) ↔ RuleDerives has rules id []) (get_here marks id mark at)
      (are has id (omega (arith, below, count)));
}

-- the mark of a rule that is there
pub null_at : (rules : List Rule) (marks : List Bool) (id : ℕ) (mark : Bool) → AreNullRules rules marks
    → id < length rules → mark ≡ get_or marks id mark → (has : ℕ → Bool) → (mark ≡ true) ↔ RuleDerives has rules id []
null_at rules marks id mark are lt is has =
    let count = are.count in
    let at = get_there marks id (omega (arith, lt, count)) in
    subst (λ (b : Bool). (b ≡ true) ↔ RuleDerives has rules id [])
    (sym (is ∙ get_or_from_slice_get marks id at.0 mark at.1)) (are.each id at.0 at.1 has)

-- the same holds of a rule of both
pub null_alike : (rules others : List Rule) (id : ℕ) (null : Bool) → AreNullAlike rules others
    → ((has : ℕ → Bool) → (null ≡ true) ↔ RuleDerives has rules id [])
    → (has : ℕ → Bool) → (null ≡ true) ↔ RuleDerives has others id []
null_alike rules others id null alike is has =
    ((λ m. (alike.alike has id).1 ((is has).0 m)), (λ d. (is has).1 ((alike.alike has id).0 d)))

-- the judged rule is one of them
pub judged_there : (rules others : List Rule) (judged : ℕ) → AreNullAlike rules others → judged < length rules
    → judged < length others
judged_there rules others judged alike lt = let same = alike.count in omega (arith, same, lt)
