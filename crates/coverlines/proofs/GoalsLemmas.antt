-- A line that does what a goal asks for is derived by the judged rule.
-- Serves: cover_lines
use Rattle.std.proofs.Common.{◌≡◌, ℕ, zero, suc, Bool, true, false, List, [], ◌∷◌, ◌++◌, map, append_assoc}
use Rattle.std.proofs.Common.{append-nil, Some, refl, sym, ◌∙◌, subst, arith}
use Rattle.abnfread.specs.Element as e
use Rattle.abnfread.specs.Element.{Element, Elements, Rule, none, more}
use Rattle.abnfcheck.specs.Derivable as der
use Rattle.abnfcheck.specs.Derivable.{Derives, DerivesAll, DerivesSome, DerivesTimes, RuleDerives, Spelled}
use Rattle.abnfcheck.specs.Derivable.{StandsFor}
use Rattle.abnfcheck.proofs.RuleIdLemmas.{body_at_id}
use Rattle.ruletable.specs.Letters.{has}
use Rattle.coverlines.specs.Goals as g
use Rattle.coverlines.specs.Goals.{Around, Beside, Does, Goal, Inside, Makes, member_at, swapped_case}
use Rattle.coverlines.specs.Shortest.{may}
use Rattle.coverlines.specs.declared.bounds.LineBounds.{LineBounds}
use Rattle.coverlines.specs.declared.way.GoalWay.{GoalWay}
use Rattle.coverlines.proofs.ShortestLemmas.{once_derived, times_both}
use Rattle.coverlines.proofs.SymbolsLemmas.{swapped_stands}
use Rattle.coverlines.proofs.WordsLemmas.{may_has}

-- a text stands for itself, and with each letter in the other case, if it folds
same_spelled : (folds : Bool) (t : List ℕ) → Spelled folds t t
same_spelled folds [] = der.end
same_spelled folds (c ∷ t) = der.next (stands folds) (same_spelled folds t)
  where
    stands : (folds : Bool) → StandsFor folds c c
    stands true = refl
    stands false = refl

other_spelled : (t : List ℕ) → Spelled true t (map swapped_case t)
other_spelled [] = der.end
other_spelled (c ∷ t) = der.next (swapped_stands c) (other_spelled t)

-- what stands round two lists
pub round_both : (u x w y v : List ℕ) → u ++ ((x ++ (w ++ y)) ++ v) ≡ (u ++ x) ++ (w ++ (y ++ v))
round_both u x w y v = simp append_assoc

module _ (b : LineBounds) (rules : List Rule) where
  some_member : (es : Elements) (i : ℕ) {m : Element} {w : List ℕ} → member_at es i ≡ Some m
      → Derives (has b.alphabet) rules m w → DerivesSome (has b.alphabet) rules es w
  some_member none i is d = absurd (cc is)
  some_member (more x es) zero {m} {w} is d =
      let same : m ≡ x = cc is in der.this (subst (λ k. Derives (has b.alphabet) rules k w) same d)
  some_member (more x es) (suc i) is d = der.later (some_member es i is d)

  makes_derived : {el : Element} {way : GoalWay} {w : List ℕ} → Makes (has b.alphabet) (may b) rules el way w
      → Derives (has b.alphabet) rules el w
  makes_derived (g.chosen {i = i} {es = es} is d) = der.alt (some_member es i is d)
  makes_derived (g.taken d) = der.opt d
  makes_derived g.left_out = der.opt_empty
  makes_derived (g.rounds goal low high d) = der.rep low high d
  makes_derived (g.first {c = c} f) = der.range f.from f.to (may_has b c f.is)
  makes_derived (g.last {c = c} f) = der.range f.from f.to (may_has b c f.is)
  makes_derived (g.same_text {folds = folds} {t = t}) = der.text (same_spelled folds t)
  makes_derived (g.other_text {t = t}) = der.text (other_spelled t)
  makes_derived (g.same_values a) = der.values a

  beside_derived : {es : Elements} {i : ℕ} {m : Element} {u v w : List ℕ}
      → Beside (has b.alphabet) (may b) rules es i m u v → Derives (has b.alphabet) rules m w
      → DerivesAll (has b.alphabet) rules es (u ++ (w ++ v))
  beside_derived (g.first_member ds) d = der.then d ds
  beside_derived {v = v} {w = w} (g.later_member {es = es} {u = u} {w = x} f h) d =
      subst (DerivesAll (has b.alphabet) rules _) (sym (append_assoc u x (w ++ v))) (der.then f (beside_derived h d))

  inside_derived : {el d : Element} {p x y w : List ℕ} → Inside (has b.alphabet) (may b) rules el p d x y
      → Derives (has b.alphabet) rules d w → Derives (has b.alphabet) rules el (x ++ (w ++ y))
  inside_derived {el = el} {w = w} g.itself d = subst (Derives (has b.alphabet) rules el) (sym (append-nil w)) d
  inside_derived {w = w} (g.in_concat {es = es} {u = u} {v = v} {x = x} {y = y} beside h) d =
      subst (Derives (has b.alphabet) rules (e.Concat es)) (round_both u x w y v)
      (der.concat (beside_derived beside (inside_derived h d)))
  inside_derived (g.in_alt {es = es} {i = i} is h) d = der.alt (some_member es i is (inside_derived h d))
  inside_derived {w = w} (g.in_rep {a = a} {k = k} {l = l} {b = most} {e = el} {u = u} {v = v} {x = x} {y = y}
      low high front back h) d =
      subst (Derives (has b.alphabet) rules (e.Rep a most el)) (round_both u x w y v)
      (der.rep low high (subst (λ n. DerivesTimes (has b.alphabet) rules el n (u ++ ((x ++ (w ++ y)) ++ v)))
      (omega arith) (times_both b rules front (times_both b rules (once_derived b rules (inside_derived h d)) back))))
  inside_derived (g.in_opt h) d = der.opt (inside_derived h d)

  around_derived : {judged id : ℕ} {x y w : List ℕ} → Around (has b.alphabet) (may b) rules judged id x y
      → RuleDerives (has b.alphabet) rules id w → RuleDerives (has b.alphabet) rules judged (x ++ (w ++ y))
  around_derived {judged = judged} {w = w} g.judged_rule d =
      subst (RuleDerives (has b.alphabet) rules judged) (sym (append-nil w)) d
  around_derived {judged = judged} {w = w} (g.by_name {id = id} {body = body} {name = name} {u = u} {v = v} {x = x}
      {y = y} a is inside) d =
      subst (RuleDerives (has b.alphabet) rules judged) (round_both x u w v y) (around_derived a (record {
        body = body;
        is = is;
        derives = inside_derived inside (der.name (body_at_id rules name ∙ d.is) d.derives);
      }))

  pub does_derived : (judged : ℕ) (goal : Goal) (w : List ℕ) → Does (has b.alphabet) (may b) rules judged goal w
      → RuleDerives (has b.alphabet) rules judged w
  does_derived judged goal w d = subst (RuleDerives (has b.alphabet) rules judged)
      (round_both d.before d.left d.word d.right d.after ∙ sym d.is) (around_derived d.around (record {
        body = d.body;
        is = d.body_is;
        derives = inside_derived d.inside (makes_derived d.makes);
      }))

  -- a site has one element
  member_is : {es : Elements} {i : ℕ} {m : Element} {u v : List ℕ} → Beside (has b.alphabet) (may b) rules es i m u v
      → member_at es i ≡ Some m
  member_is (g.first_member d) = refl
  member_is (g.later_member d h) = member_is h

  pub one_element : {el c d : Element} {p u v x y : List ℕ} → Inside (has b.alphabet) (may b) rules el p c u v
      → Inside (has b.alphabet) (may b) rules el p d x y → c ≡ d
  one_element g.itself g.itself = refl
  one_element {d = d} (g.in_concat {m = m} beside h) (g.in_concat {m = n} {x = x} {y = y} {p = p} other k) =
      let one = member_is beside in
      let two = member_is other in
      let same : n ≡ m = cc (one, two) in
      one_element h (subst (λ z. Inside (has b.alphabet) (may b) rules z p d x y) same k)
  one_element {d = d} (g.in_alt {m = m} one h) (g.in_alt {m = n} {x = x} {y = y} {p = p} two k) =
      let same : n ≡ m = cc (one, two) in
      one_element h (subst (λ z. Inside (has b.alphabet) (may b) rules z p d x y) same k)
  one_element (g.in_rep low high front back h) (g.in_rep low' high' front' back' k) = one_element h k
  one_element (g.in_opt h) (g.in_opt k) = one_element h k
