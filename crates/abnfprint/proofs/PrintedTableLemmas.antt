-- The rules that a text's definitions make are formed and not too deep, and a text of them has the same table.
-- Serves: print_abnf, is_abnf_read_back
use Rattle.std.proofs.Common.{◌≡◌, ℕ, suc, ◌≤◌, ◌&&◌, cond, Bool, true, false, Option, Some, None, List, [], ◌∷◌}
use Rattle.std.proofs.Common.{◌++◌, map, position, refl, sym, ap, ◌∙◌, subst, arith, codes}
use Rattle.std.proofs.lemmas.List.Elements.{All-cons, All-nil}
use Rattle.ruletable.specs.Rules.{same_name}
use Rattle.ruletable.specs.declared.span.Span.{Span}
use Rattle.ruletable.specs.declared.table.NameCase.TheVariants.{Fold}
use Rattle.lexer.specs.declared.limits.TheConstants.{MAX_OPEN}
use Rattle.abnfread.specs.declared.number.TheConstants.{MAX_VALUE}
use Rattle.abnfread.specs.AbnfSlices as slices
use Rattle.abnfread.specs.AbnfSlices.{Run, continues_name, is_quotable}
use Rattle.abnfread.specs.AbnfSpelling.{definition}
use Rattle.abnfread.specs.AbnfTable.{alternatives_of, with_alternatives, id_in, added, extended, first_body, begun}
use Rattle.abnfread.specs.AbnfTable.{grown}
use Rattle.abnfread.specs.AbnfTable.{firsts, agains, earlies}
use Rattle.abnfread.specs.CoreRules.{core_list, core_bodies}
use Rattle.abnfread.specs.Element.{Element, Elements, Text, Values, Alt, Name, none, more, append, Rule, bodies}
use Rattle.abnfread.specs.Element.{body_of}
use Rattle.abnfread.specs.Element.{Definition}
use Rattle.abnfprint.specs.AbnfReadBack.{file_rules, SameButSpans}
use Rattle.abnfprint.specs.declared.position.Context.TheVariants.{Alternative}
use Rattle.abnfprint.specs.FormedAbnf.{IsName, named, IsFormed, AreFormed, AreFormedRules, AreMany, IsSome}
use Rattle.abnfprint.proofs.AbnfSpelledLemmas.{IsFull}
use Rattle.abnfprint.proofs.FormedAbnfLemmas.{nest, nest_all, alternation-nest, alternation-formed, IsFit, AreFit}
use Rattle.abnfprint.proofs.SameWordLemmas.{AreAgain, again_none, again_more}

append-formed : (xs ys : Elements) → AreFormed xs → AreFormed ys → AreFormed (append xs ys)
append-formed none ys h k = k
append-formed (more x xs) ys h k = (h.0, append-formed xs ys h.1 k)

append-full : (xs ys : Elements) → IsFull xs → IsFull (append xs ys)
append-full none ys h = absurd h
append-full (more x xs) ys h = tt

append-nest : (n : ℕ) (xs ys : Elements) → nest_all Alternative xs ≤ n → nest_all Alternative ys ≤ n
    → nest_all Alternative (append xs ys) ≤ n
append-nest n none ys h k = k
append-nest n (more x xs) ys h k = let ih = append-nest n xs ys (omega arith) k in omega arith

alternatives-formed : (x : Element) → IsFormed x → AreFormed (alternatives_of x)
alternatives-formed (Alt xs) h = h.1
alternatives-formed x h = (h, tt)

many-full : (xs : Elements) → AreMany xs → IsFull xs
many-full none h = h
many-full (more x xs) h = tt

alternatives-full : (x : Element) → IsFormed x → IsFull (alternatives_of x)
alternatives-full (Alt xs) h = many-full xs h.0
alternatives-full x h = tt

alternatives-nest : (x : Element) → nest_all Alternative (alternatives_of x) ≤ nest x
alternatives-nest (Alt xs) = omega arith
alternatives-nest x = omega arith

alternatives-fit : (x y : Element) → IsFit x → IsFit y → IsFit (with_alternatives x y)
alternatives-fit x y h k =
    let xs = alternatives_of x in
    let ys = alternatives_of y in
    let a = alternatives-nest x in
    let b = alternatives-nest y in
    let l = h.low in
    let m = k.low in
    let n = append-nest MAX_OPEN xs ys (omega arith) (omega arith) in
    let o = alternation-nest (append xs ys) in
    record {
      formed = alternation-formed (append xs ys) (append-full xs ys (alternatives-full x h.formed))
          (append-formed xs ys (alternatives-formed x h.formed) (alternatives-formed y k.formed));
      low = omega arith;
    }

abbrev AreFitBodies : List Element → Type 0
AreFitBodies [] = Unit {0}
AreFitBodies (x ∷ xs) = IsFit x × AreFitBodies xs

-- a test that computes
abbrev all_pass : (ℕ → Bool) → List ℕ → Bool
all_pass f [] = true
all_pass f (b ∷ bs) = f b && all_pass f bs

first-passes : (x y : Bool) → x && y ≡ true → x ≡ true
first-passes true y e = refl
first-passes false y e = e

others-pass : (x y : Bool) → x && y ≡ true → y ≡ true
others-pass true y e = e
others-pass false y e = cc

all_pass-run : (f : ℕ → Bool) (bs : List ℕ) → all_pass f bs ≡ true → Run f bs []
all_pass-run f [] e = slices.none
all_pass-run f (b ∷ bs) e = slices.more (first-passes (f b) (all_pass f bs) e)
    (all_pass-run f bs (others-pass (f b) (all_pass f bs) e))

name-fit : (b : ℕ) (bs : List ℕ) → IsName (b ∷ bs) → IsFit (Name (b ∷ bs))
name-fit b bs h = record { formed = h; low = omega arith }

-- bodies of core rules
text-fit : (b : ℕ) → is_quotable b ≡ true → IsFormed (Text true (b ∷ []))
text-fit b e = slices.more e slices.none

value-fit : (v : ℕ) → v ≤ MAX_VALUE → IsFormed (Values (v ∷ []))
value-fit v h = (tt, All-cons (λ x. x ≤ MAX_VALUE) v [] h (All-nil _))

wsp-formed : IsFormed (Name (codes "WSP"))
wsp-formed = named refl (all_pass-run continues_name (codes "SP") refl)

fit-flat : (x : Element) → IsFormed x → nest x ≤ 1 → IsFit x
fit-flat x h l = record { formed = h; low = omega arith }

core-fit : AreFitBodies core_bodies
core-fit = (
  fit-flat _ (tt, ((omega arith, omega arith), ((omega arith, omega arith), tt))) (omega arith),
  (
    fit-flat _ (tt, (text-fit 48 refl, (text-fit 49 refl, tt))) (omega arith),
    (
      fit-flat _ (omega arith, omega arith) (omega arith),
      (
        fit-flat _ (value-fit 13 (omega arith)) (omega arith),
        (
          fit-flat _ (
            tt,
            (
              named refl (all_pass-run continues_name (codes "R") refl),
              (named refl (all_pass-run continues_name (codes "F") refl), tt),
            ),
          ) (omega arith),
          (
            fit-flat _ (tt, ((omega arith, omega arith), (value-fit 127 (omega arith), tt))) (omega arith),
            (
              fit-flat _ (omega arith, omega arith) (omega arith),
              (
                fit-flat _ (value-fit 34 (omega arith)) (omega arith),
                (
                  fit-flat _ (
                    tt,
                    (
                      named refl (all_pass-run continues_name (codes "IGIT") refl),
                      (
                        text-fit 65 refl,
                        (
                          text-fit 66 refl,
                          (
                            text-fit 67 refl,
                            (text-fit 68 refl, (text-fit 69 refl, (text-fit 70 refl, tt))),
                          ),
                        ),
                      ),
                    ),
                  ) (omega arith),
                  (
                    fit-flat _ (value-fit 9 (omega arith)) (omega arith),
                    (
                      fit-flat _ (value-fit 10 (omega arith)) (omega arith),
                      (
                        fit-flat _ (
                          (omega arith, tt),
                          (
                            tt,
                            (
                              wsp-formed,
                              (
                                (
                                  tt,
                                  (
                                    named refl (all_pass-run continues_name (codes "RLF") refl),
                                    (wsp-formed, tt),
                                  ),
                                ),
                                tt,
                              ),
                            ),
                          ),
                        )
                            (omega arith),
                        (
                          fit-flat _ (omega arith, omega arith) (omega arith),
                          (
                            fit-flat _ (value-fit 32 (omega arith)) (omega arith),
                            (
                              fit-flat _ (omega arith, omega arith) (omega arith),
                              (
                                fit-flat _ (
                                  tt,
                                  (
                                    named refl (all_pass-run continues_name (codes "P") refl),
                                    (named refl (all_pass-run continues_name (codes "TAB") refl), tt),
                                  ),
                                ) (omega arith),
                                tt,
                              ),
                            ),
                          ),
                        ),
                      ),
                    ),
                  ),
                ),
              ),
            ),
          ),
        ),
      ),
    ),
  ),
)

first-fit : (b : Bool) (body : Element) (later : Option Element) (x : Element) → IsFit body
    → (later ≡ Some x → IsFit x) → cond b (Some body) later ≡ Some x → IsFit x
first-fit true body later x h k e = let same : body ≡ x = cc in subst IsFit same h
first-fit false body later x h k e = k e

of-fit : (rules : List Rule) → AreFitBodies (bodies rules) → (n : List ℕ) (x : Element) → body_of rules n ≡ Some x
    → IsFit x
of-fit [] h n x e = cc
of-fit (rule ∷ rules) h n x e = first-fit (same_name Fold n rule.name) rule.body (body_of rules n) x h.0
    (λ later. of-fit rules h.1 n x later) e

begun-by : (a : Bool) (o : Option Element) (x : Element) → ((c : Element) → o ≡ Some c → IsFit c) → IsFit x
    → IsFit (cond a (elim o [ None ↦ x | Some c ↦ with_alternatives c x ]) x)
begun-by true None x f h = h
begun-by true (Some c) x f h = alternatives-fit c x (f c refl) h
begun-by false o x f h = h

begun-fit : (d : Definition) → IsFit d.body → IsFit (first_body (body_of core_list) d)
begun-fit d h = begun-by d.adds (body_of core_list d.name) d.body
    (λ c e. of-fit core_list core-fit d.name c e) h

added-by : (b : Bool) (x : Element) (xs : List Element) → IsFit x → AreFitBodies xs → AreFitBodies (cond b (x ∷ xs) xs)
added-by true x xs h k = (h, k)
added-by false x xs h k = k

added-fit : (n : List ℕ) (ds : List Definition) → AreFit ds → AreFitBodies (added n ds)
added-fit n [] h = tt
added-fit n (d ∷ ds) h = added-by (d.adds && same_name Fold d.name n) d.body (added n ds) h.1 (added-fit n ds h.2)

extended-fit : (x : Element) (ys : List Element) → IsFit x → AreFitBodies ys → IsFit (extended x ys)
extended-fit x [] h k = h
extended-fit x (y ∷ ys) h k = extended-fit (with_alternatives x y) ys (alternatives-fit x y h k.0) k.1

abbrev pub AreFitRules : List Rule → Type 0
AreFitRules [] = Unit {0}
AreFitRules (rule ∷ rules) = IsName rule.name × IsFit rule.body × AreFitRules rules

firsts-by : (o : Option ℕ) (rule : Rule) (rules others : List Rule) → IsName rule.name → IsFit rule.body
    → AreFitRules rules → AreFitRules others → AreFitRules (elim o [ None ↦ rule ∷ rules | Some id ↦ others ])
firsts-by None rule rules others n h k l = (n, h, k)
firsts-by (Some id) rule rules others n h k l = l

firsts-fit : (known : List (List ℕ)) (ds : List Definition) → AreFit ds
    → AreFitRules (firsts (body_of core_list) known ds)
firsts-fit known [] h = tt
firsts-fit known (d ∷ ds) h =
    firsts-by (id_in known d) (grown ds (begun (body_of core_list) d))
    (firsts (body_of core_list) (known ++ d.name ∷ []) ds) (firsts (body_of core_list) known ds) h.0
    (extended-fit (first_body (body_of core_list) d) (added d.name ds) (begun-fit d h.1) (added-fit d.name ds h.2))
    (firsts-fit (known ++ d.name ∷ []) ds h.2) (firsts-fit known ds h.2)

pub table-fit : (ds : List Definition) → AreFit ds → AreFitRules (file_rules ds)
table-fit ds h = firsts-fit [] ds h

pub table-some : (ds : List Definition) → IsSome ds → IsSome (file_rules ds)
table-some [] h = absurd h
table-some (d ∷ ds) h = tt

pub rules-formed : (rules : List Rule) → AreFitRules rules → AreFormedRules rules
rules-formed [] h = tt
rules-formed (rule ∷ rules) h = let f = h.1 in (h.0, f.formed, rules-formed rules h.2)

-- the table of definitions by `=` of these rules
pub record IsTable (known : List (List ℕ)) (rules : List Rule) (again : List Definition) : Type 0 where
  pub same : SameButSpans rules (firsts (body_of core_list) known again)
  pub no_again : agains (body_of core_list) known again ≡ []
  pub no_early : (n : ℕ) → earlies (body_of core_list) n known again ≡ []

added-none : {rules : List Rule} {ds : List Definition} (n : List ℕ) → AreAgain rules ds → added n ds ≡ []
added-none n again_none = refl
added-none n (again_more h) = added-none n h

new-table : (known : List (List ℕ)) (rule : Rule) (rules : List Rule) (q : Span) (ds : List Definition)
    → position (same_name Fold rule.name) known ≡ None → added rule.name ds ≡ [] →
    IsTable (known ++ rule.name ∷ []) rules ds → IsTable known (rule ∷ rules)
    (definition false rule.name q rule.body ∷ ds)
new-table known rule rules q ds new nothing t =
    let d = definition false rule.name q rule.body in
    let rest = firsts (body_of core_list) (known ++ rule.name ∷ []) ds in
    let alone = firsts (body_of core_list) known ds in
    let first : grown ds (begun (body_of core_list) d) ≡ record { name = rule.name; body = rule.body; span = q } =
    ap (λ (ys : List Element). record { name = rule.name; body = extended rule.body ys; span = q }) nothing in
    let whole : firsts (body_of core_list) known (d ∷ ds) ≡ record { name = rule.name; body = rule.body; span = q }
    ∷ rest =
    ap (λ (o : Option ℕ). elim o [ None ↦ grown ds (begun (body_of core_list) d) ∷ rest | Some id ↦ alone ]) new
    ∙ ap (λ (r : Rule). r ∷ rest) first in
    record {
      same = record {
        names = ap (λ (ns : List (List ℕ)). rule.name ∷ ns) t.same.names ∙ sym (ap (map (λ (r : Rule). r.name)) whole);
        bodies = ap (λ (xs : List Element). rule.body ∷ xs) t.same.bodies ∙ sym (ap (map (λ (r : Rule). r.body)) whole);
      };
      no_again = ap (λ (o : Option ℕ). elim o [
        | None ↦ agains (body_of core_list) (known ++ rule.name ∷ []) ds
        | Some id ↦ id ∷ agains (body_of core_list) known ds
      ]) new ∙ t.no_again;
      no_early = λ n. ap (λ (o : Option ℕ). elim o [
        | None ↦ earlies (body_of core_list) (suc n)
            (known ++ rule.name ∷ []) ds
        | Some id ↦ earlies (body_of core_list) n known ds
      ]) new ∙ t.no_early (suc n);
    }

table-by : (known : List (List ℕ)) (d : Definition) (ds : List Definition) (o : Option ℕ) → id_in known d ≡ o →
    ((again : List Definition) → AreAgain (firsts (body_of core_list) (known ++ d.name ∷ []) ds) again
    → IsTable (known ++ d.name ∷ []) (firsts (body_of core_list) (known ++ d.name ∷ []) ds) again) →
    ((again : List Definition) → AreAgain (firsts (body_of core_list) known ds) again
    → IsTable known (firsts (body_of core_list) known ds) again) →
    (again : List Definition) → AreAgain (elim o [
      | None ↦ grown ds (begun (body_of core_list) d)
          ∷ firsts (body_of core_list) (known ++ d.name ∷ []) ds
      | Some id ↦ firsts (body_of core_list) known ds
    ])
    again →
    IsTable known (elim o [
      | None ↦ grown ds (begun (body_of core_list) d)
          ∷ firsts (body_of core_list) (known ++ d.name ∷ []) ds
      | Some id ↦ firsts (body_of core_list) known ds
    ]) again
table-by known d ds None e f g again (again_more {q = q} {ds = others} k) =
    new-table known (grown ds (begun (body_of core_list) d)) (firsts (body_of core_list) (known ++ d.name ∷ []) ds) q
    others e (added-none d.name k) (f others k)
table-by known d ds (Some id) e f g again h = g again h

pub table-again : (ds : List Definition) (known : List (List ℕ)) (again : List Definition)
    → AreAgain (firsts (body_of core_list) known ds) again → IsTable known (firsts (body_of core_list) known ds) again
table-again [] known again again_none = record {
  same = record { names = refl; bodies = refl };
  no_again = refl;
  no_early = λ n. refl;
}
table-again (d ∷ ds) known again h = table-by known d ds (id_in known d) refl
    (λ a k. table-again ds (known ++ d.name ∷ []) a k) (λ a k. table-again ds known a k) again h
