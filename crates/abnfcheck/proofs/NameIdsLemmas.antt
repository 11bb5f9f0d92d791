-- Names by id, with one use more.
-- Serves: check_abnf (notes, sound)
use Rattle.std.proofs.Common.{◌≡◌, ℕ, zero, suc, ◌+◌, ◌<◌, ◌≤◌, inl, inr, ⊎_elim, cond, List, [], ◌∷◌, ◌++◌, length}
use Rattle.std.proofs.Common.{map, take, get_or, Option, Some, None, refl, sym, ◌∙◌, ap, subst, arith, append_assoc}
use Rattle.std.proofs.Common.{append-nil, length-append, add-one}
use Rattle.std.specs.Prelude.{slice_get, option_to_list}
use Rattle.std.specs.Option.{option_map}
use Rattle.std.proofs.Math.Seq.{take-suc, get_or-append_seam}
use Rattle.std.proofs.lemmas.Bool.{cases_eq}
use Rattle.std.proofs.lemmas.List.{map-append, length-map, get_or_past, get_or_append_left}
use Rattle.std.proofs.lemmas.Option.{slice_get-map}
use Rattle.std.proofs.lemmas.Simd.{map-map}
use Rattle.ruletable.specs.Rules.{Rules}
use Rattle.ruletable.specs.Rules as table
use Rattle.ruletable.specs.declared.table.NameCase.TheVariants.{Fold}
use Rattle.fixpoint.specs.StepRows.{row_at}
use Rattle.fixpoint.specs.FirstUses.{news}
use Rattle.fixpoint.specs.NameUses.{IsPosition, here, there, AreIdsOf, IsScanned}
use Rattle.fixpoint.proofs.IsPositionLemmas.{position_append}
use Rattle.fixpoint.proofs.IsScannedLemmas.{ids_more, scan_grows, used_next as next_uses}
use Rattle.abnfread.specs.declared.elem.Elem.{Elem}
use Rattle.abnfread.specs.Element.{Element, Rule, bodies, id_of}
use Rattle.abnfread.specs.AbnfViews.{elements, element_of, elements_of, rule_of}
use Rattle.abnfcheck.specs.AbnfUses.{names_in, names_in_all, names_used, rule_names}
use Rattle.abnfcheck.specs.AbnfNotes.{judged_in}
use Rattle.abnfcheck.specs.NameIds.{IsIdAt, AreRowsTo, IsGraph, IsJudged}

-- the id of a name
rest_id : (c k m id : ℕ) → IsIdAt c m id → IsIdAt (suc c) (suc m) (id + 1)
rest_id c k m id (inl (lt, is)) = inl (omega (arith, lt), omega (arith, is))
rest_id c k m id (inr (le, is)) = inr (omega (arith, le), omega (arith, is))

pub position_id : (rules : List Rule) (more : List (List ℕ)) {name : List ℕ} {m : ℕ}
    → IsPosition Fold name (rule_names rules ++ more) m → IsIdAt (length rules) m (id_of rules name)
position_id [] more p = inr (omega arith, refl)
position_id (rule ∷ rules) more {name = name} (here is) = inl
    (omega arith, ap (λ b. cond b 0 (id_of rules name + 1)) is)
position_id (rule ∷ rules) more {name = name} (there {i = i} other p) =
    subst (λ v. IsIdAt (suc (length rules)) (suc i) v) (sym (ap (λ b. cond b 0 (id_of rules name + 1)) other))
    (rest_id (length rules) 0 i (id_of rules name) (position_id rules more p))

first_id : (rules : List Rule) → IsIdAt (length rules) 0 0
first_id [] = inr (omega arith, refl)
first_id (rule ∷ rules) = inl (omega arith, refl)

pub judged_id : (given : Option (List ℕ)) (rules : List Rule) (more : List (List ℕ)) (judged : ℕ)
    → IsJudged given (rule_names rules ++ more) judged →
    IsIdAt (length rules) judged (judged_in given rules)
judged_id None rules more judged is = subst (λ v. IsIdAt (length rules) v 0) (sym is) (first_id rules)
judged_id (Some name) rules more judged p = position_id rules more p

pub judged_append : (given : Option (List ℕ)) (xs ys : List (List ℕ)) (judged : ℕ) → IsJudged given xs judged
    → IsJudged given (xs ++ ys) judged
judged_append None xs ys judged is = is
judged_append (Some name) xs ys judged p = position_append Fold ys p

-- the elements and names of a table's rules
pub body_shown : (rules : List (table.Rule Elem)) (id : ℕ) (el : Elem) → slice_get (map (λ rule. rule.body) rules) id
    ≡ Some el → slice_get (bodies (map rule_of rules)) id ≡ Some (element_of el)
body_shown [] id el is = absurd (cc is)
body_shown (rule ∷ rules) zero el is = let same : rule.body ≡ el = cc is in ap (λ v. Some (element_of v)) same
body_shown (rule ∷ rules) (suc id) el is = body_shown rules id el is

pub names_same : (rules : List (table.Rule Elem)) → map (λ (rule : Rule). rule.name) (map rule_of rules)
    ≡ map (λ rule. rule.name) rules
names_same rules = map-map (λ (rule : Rule). rule.name) rule_of rules

-- the names in one more member
all_more : (es : List Element) (el : Element) → names_in_all (elements (es ++ el ∷ [])) ≡ names_in_all (elements es)
    ++ names_in el
all_more [] el = append-nil (names_in el)
all_more (first ∷ es) el = ap (λ l. names_in first ++ l) (all_more es el)
    ∙ sym (append_assoc (names_in first) (names_in_all (elements es)) (names_in el))

all_next : (es : List Elem) (i : ℕ) (e : Elem) → i < length es → e ≡ get_or es i e →
    names_in_all (elements_of (take (i + 1) es)) ≡ names_in_all (elements_of (take i es)) ++ names_in (element_of e)
all_next es i e lt is =
    ap (λ (l : List Elem). names_in_all (elements_of l)) (ap (λ (k : ℕ). take k es) (add-one i) ∙ take-suc es i e lt
    ∙ ap (λ x. take i es ++ x ∷ []) (sym is))
    ∙ ap (λ (l : List Element). names_in_all (elements l)) (map-append element_of (take i es) (e ∷ []))
    ∙ all_more (map element_of (take i es)) (element_of e)

pub scan_next : (known seen uses : List (List ℕ)) (es : List Elem) (i : ℕ) (e : Elem) (names : Rules (Unit {0}))
    (row : List ℕ) → i < length es → e ≡ get_or es i e →
    IsScanned Fold known ((seen ++ names_in_all (elements_of (take i es))) ++ names_in (element_of e))
    ((uses ++ names_in_all (elements_of (take i es))) ++ names_in (element_of e)) names row →
    IsScanned Fold known (seen ++ names_in_all (elements_of (take (i + 1) es)))
    (uses ++ names_in_all (elements_of (take (i + 1) es))) names row
scan_next known seen uses es i e names row lt is s =
    let same : (l : List (List ℕ)) → (l ++ names_in_all (elements_of (take i es))) ++ names_in (element_of e) ≡ l
    ++ names_in_all (elements_of (take (i + 1) es)) =
    λ l. append_assoc l (names_in_all (elements_of (take i es))) (names_in (element_of e))
    ∙ ap (λ v. l ++ v) (sym (all_next es i e lt is)) in
    subst (λ v. IsScanned Fold known (seen ++ names_in_all (elements_of (take (i + 1) es))) v names row) (same uses)
    (subst (λ v. IsScanned Fold known v ((uses ++ names_in_all (elements_of (take i es))) ++ names_in (element_of e))
    names row) (same seen) s)

-- the names in one more rule
pub used_next : (rules : List Rule) (i : ℕ) (body : Element) → slice_get (bodies rules) i ≡ Some body
    → names_used (take (i + 1) rules) ≡ names_used (take i rules) ++ names_in body
used_next rules i body is =
    next_uses (λ (rule : Rule). names_in rule.body) rules i (names_in body)
    (ap (λ l. slice_get l i) (sym (map-map names_in (λ (rule : Rule). rule.body) rules))
    ∙ slice_get-map names_in (bodies rules) i ∙ ap (option_map names_in) is)

pub next_names : (rules : List Rule) (known seen : List (List ℕ)) (names : List (List ℕ)) (i : ℕ) (body : Element)
    → slice_get (bodies rules) i ≡ Some body →
    names ≡ known ++ news Fold known ((seen ++ names_used (take i rules)) ++ names_in body) → names ≡ known
    ++ news Fold known (seen ++ names_used (take (i + 1) rules))
next_names rules known seen names i body at is =
    is ∙ ap (λ l. known ++ news Fold known l) (append_assoc seen (names_used (take i rules)) (names_in body)
    ∙ ap (λ l. seen ++ l) (sym (used_next rules i body at)))

-- one row more
pub next_rows : (rules : List Rule) (old new : List (List ℕ)) (more : List (List ℕ)) (rows : List (List ℕ))
    (row : List ℕ) (i : ℕ) (body : Element) → slice_get (bodies rules) i ≡ Some body →
    new ≡ old ++ more → AreRowsTo rules old rows i → AreIdsOf Fold new (names_in body) row
    → AreRowsTo rules new (rows ++ row ∷ []) (i + 1)
next_rows rules old new more rows row i body at is r ids = record {
  count_is = let l = length-append rows (row ∷ []) in let c = r.count_is in omega (arith, l, c);
  ids = λ id other lt here. ⊎_elim
      (λ same.
      let one : body ≡ other = let h = subst (λ v. slice_get (bodies rules) v ≡ Some other) same here in cc (at, h) in
      let row_is : row_at (rows ++ row ∷ []) id ≡ row = ap (λ v. row_at (rows ++ row ∷ []) v) (same ∙ sym r.count_is)
      ∙ get_or-append_seam rows row [] [] in
      subst (λ v. AreIdsOf Fold new (names_in other) v) (sym row_is)
      (subst (λ v. AreIdsOf Fold new (names_in v) row) one ids))
      (λ ne.
      let less : id < i = omega (arith, lt, ne) in
      let low : id < length rows = let c = r.count_is in omega (arith, less, c) in
      subst (λ v. AreIdsOf Fold new (names_in other) v) (sym (get_or_append_left rows (row ∷ []) [] id low))
      (subst (λ v. AreIdsOf Fold v (names_in other) (row_at rows id)) (sym is)
      (ids_more Fold more (r.ids id other less here))))
      (cases_eq id i);
}

pub no_rows : (rules : List Rule) (names : List (List ℕ)) → AreRowsTo rules names [] 0
no_rows rules names = record { count_is = refl; ids = λ id body lt at. absurd (omega (arith, lt)) }

-- all of it together
body_under : (rules : List Rule) (id : ℕ) (body : Element) → slice_get (bodies rules) id ≡ Some body → id < length rules
body_under [] id body is = absurd (cc is)
body_under (rule ∷ rules) zero body is = omega arith
body_under (rule ∷ rules) (suc id) body is = let lt = body_under rules id body is in omega (arith, lt)

pub first_known : (known given : List (List ℕ)) (n0 n1 : List (List ℕ)) → n0 ≡ known → n1 ≡ n0 ++ news Fold n0 given
    → n1 ≡ known ++ news Fold known given
first_known known given n0 n1 is now = now ∙ ap (λ l. l ++ news Fold l given) is

pub graph_from : (rules : List Rule) (given : Option (List ℕ)) (n1 n2 : List (List ℕ)) (rows0 rows1 : List (List ℕ))
    (judged : ℕ) →
    n1 ≡ rule_names rules ++ news Fold (rule_names rules) (option_to_list given) → IsJudged given n1 judged →
    n2 ≡ rule_names rules ++ news Fold (rule_names rules) (option_to_list given ++ names_used rules)
    → AreRowsTo rules n2 rows0 (length rules) →
    length rows1 ≡ length n2 → ((n : ℕ) → row_at rows1 n ≡ row_at rows0 n) → IsGraph rules given n2 rows1 judged
graph_from rules given n1 n2 rows0 rows1 judged first is all r count same = record {
  all = all;
  are_rows = record {
    count = count;
    ids = λ id body at. subst (λ v. AreIdsOf Fold n2 (names_in body) v) (sym (same id))
        (r.ids id body (body_under rules id body at) at);
    others = λ id le. same id ∙ get_or_past rows0 id [] (let c = r.count_is in omega (arith, le, c));
  };
  is_judged = subst (λ l. IsJudged given l judged)
      (sym (scan_grows Fold (rule_names rules) (option_to_list given) (names_used rules) n1 n2 first all))
      (judged_append given n1 (news Fold (rule_names rules ++ news Fold (rule_names rules) (option_to_list given))
      (names_used rules)) judged is);
}

pub rows_fit : (rules : List Rule) (given : List (List ℕ)) (n2 : List (List ℕ)) (rows0 : List (List ℕ))
    → n2 ≡ rule_names rules ++ news Fold (rule_names rules) given → AreRowsTo rules n2 rows0 (length rules) →
    length rows0 ≤ length n2
rows_fit rules given n2 rows0 all r =
    let a = ap length all ∙ length-append (rule_names rules) (news Fold (rule_names rules) given) in
    let b = length-map rules (λ (rule : Rule). rule.name) in let c = r.count_is in omega (arith, a, b, c)
