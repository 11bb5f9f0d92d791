-- No two of the first definitions have one name, so one rule is the start rule.
-- Serves: one_statement
use Rattle.std.proofs.Common.{◌≡◌, ℕ, zero, suc, ◌<◌, ◌≤◌, List, [], ◌∷◌, ◌++◌, length, Option, Some, None, refl, sym}
use Rattle.std.proofs.Common.{◌∙◌, ap, bytes_eq, arith, get_or, slice_get, true}
use Rattle.std.specs.List.{position_or_len}
use Rattle.std.proofs.lemmas.Grind.{common_steps}
use Rattle.std.proofs.lemmas.List.Sums.{fails_before_first}
use Rattle.std.proofs.lemmas.Option.{slice_get_within, get_or_from_slice_get, slice_get-map}
use Rattle.std.proofs.lemmas.Slice.Eq.{bytes_eq-Decides}
use Rattle.pegread.specs.Definitions.{id_in, firsts}
use Rattle.pegread.specs.Pattern.{Rule}
use Rattle.gramcheck.specs.Checked.{IsStart}
use Rattle.gramcheck.specs.Uses.{rule_names}

-- none of these has the name of one of those
abbrev AreNew : List Rule → List Rule → Type 0
AreNew known new = (i k : ℕ) (old rule : Rule) → slice_get known k ≡ Some old → slice_get new i ≡ Some rule
    → old.name ≡ rule.name → ⊥

-- where no rule of the name is found, none has it
none_has_name : (known : List Rule) (n : List ℕ) → id_in known n ≡ None → (k : ℕ) (rule : Rule) →
    slice_get known k ≡ Some rule → rule.name ≡ n → ⊥
none_has_name known n none k rule there same =
    let inside : k < length known = slice_get_within known k rule there in
    let long : length known ≤ position_or_len (λ (r : Rule). bytes_eq n r.name) known = grind (arith, common_steps) in
    let fails = fails_before_first (λ (r : Rule). bytes_eq n r.name) known k rule (omega arith) in
    let is : get_or known k rule ≡ rule = get_or_from_slice_get known k rule rule there in
    let equal : bytes_eq n rule.name ≡ true = (bytes_eq-Decides n rule.name).1 (sym same) in
    absurd (cc)

known_stays : (known more : List Rule) (k : ℕ) (rule : Rule) → slice_get known k ≡ Some rule →
    slice_get (known ++ more) k ≡ Some rule
known_stays [] more k rule there = absurd (cc there)
known_stays (x ∷ known) more zero rule there = there
known_stays (x ∷ known) more (suc k) rule there = known_stays known more k rule there

last_is_there : (known : List Rule) (d : Rule) → slice_get (known ++ d ∷ []) (length known) ≡ Some d
last_is_there [] d = refl
last_is_there (x ∷ known) d = last_is_there known d

firsts_are_new_by : (known ds : List Rule) (d : Rule) (x : Option ℕ) → id_in known d.name ≡ x →
    ((rules : List Rule) → AreNew rules (firsts rules ds)) → AreNew known (firsts known (d ∷ ds))
firsts_are_new_by known ds d None e more i k old rule there = rw (e, firsts) (here i k old rule there)
  where
    here : AreNew known (d ∷ firsts (known ++ d ∷ []) ds)
    here zero k old rule there is same = none_has_name known d.name e k old there (let s = is in cc)
    here (suc i) k old rule there is same =
        more (known ++ d ∷ []) i k old rule (known_stays known (d ∷ []) k old there) is same
firsts_are_new_by known ds d (Some id) e more i k old rule there = rw (e, firsts) (more known i k old rule there)

firsts_are_new : (ds known : List Rule) → AreNew known (firsts known ds)
firsts_are_new [] known = λ i k old rule there is same. absurd (cc is)
firsts_are_new (d ∷ ds) known = firsts_are_new_by known ds d (id_in known d.name) refl (firsts_are_new ds)

-- no two have one name
abbrev AreApart : List Rule → Type 0
AreApart rules = (i j : ℕ) (a b : Rule) → slice_get rules i ≡ Some a → slice_get rules j ≡ Some b → a.name ≡ b.name
    → i ≡ j

firsts_are_apart_by : (known ds : List Rule) (d : Rule) (x : Option ℕ) → id_in known d.name ≡ x →
    ((rules : List Rule) → AreApart (firsts rules ds)) → AreApart (firsts known (d ∷ ds))
firsts_are_apart_by known ds d None e more = rw (e, firsts) here
  where
    all : List Rule
    all = known ++ d ∷ []

    here : AreApart (d ∷ firsts all ds)
    here zero zero a b at bt same = refl
    here zero (suc j) a b at bt same =
        absurd (firsts_are_new ds all j (length known) d b (last_is_there known d) bt (let s = at in cc))
    here (suc i) zero a b at bt same =
        absurd (firsts_are_new ds all i (length known) d a (last_is_there known d) at (let s = bt in cc))
    here (suc i) (suc j) a b at bt same = ap suc (more all i j a b at bt same)
firsts_are_apart_by known ds d (Some id) e more = rw (e, firsts) (more known)

pub firsts_are_apart : (ds known : List Rule) → AreApart (firsts known ds)
firsts_are_apart [] known = λ i j a b at bt same. absurd (cc at)
firsts_are_apart (d ∷ ds) known = firsts_are_apart_by known ds d (id_in known d.name) refl (firsts_are_apart ds)

-- the rule at a position of the names
record HasName (rules : List Rule) (id : ℕ) (n : List ℕ) : Type 0 where
  rule : Rule
  there : slice_get rules id ≡ Some rule
  named : rule.name ≡ n

has_name_by : (rules : List Rule) (id : ℕ) (n : List ℕ) (x : Option Rule) → slice_get rules id ≡ x →
    slice_get (rule_names rules) id ≡ Some n → HasName rules id n
has_name_by rules id n None e h =
    absurd (let m = slice_get-map (λ (r : Rule). r.name) rules id in let c = rw e at m in cc)
has_name_by rules id n (Some rule) e h =
    let m = slice_get-map (λ (r : Rule). r.name) rules id in
    let c = rw e at m in
    record { rule = rule; there = e; named = cc }

pub start_is_one : (start : Option (List ℕ)) (ds : List Rule) (i j : ℕ) → IsStart start (firsts [] ds) i →
    IsStart start (firsts [] ds) j → i ≡ j
start_is_one start ds i j g h =
    let rules = firsts [] ds in
    let name : g.name ≡ h.name = (let a = g.is_start in let b = h.is_start in cc) in
    let a = has_name_by rules i g.name (slice_get rules i) refl g.there in
    let b = has_name_by rules j h.name (slice_get rules j) refl h.there in
    firsts_are_apart ds [] i j a.rule b.rule a.there b.there (a.named ∙ name ∙ sym b.named)
