-- What is awaited at a site is the element there.
-- Serves: items_decide.
use Rattle.std.proofs.Common.{◌≡◌, ℕ, suc, ◌+◌, Bool, Some, List, ◌∷◌, refl, sym, ◌∙◌, ap, subst, arith}
use Rattle.std.specs.Prelude.{slice_get}
use Rattle.abnfread.specs.Element.{Element, Elements, more, Concat, Alt, Rule, bodies}
use Rattle.lowering.specs.AwaitedParts as w
use Rattle.lowering.specs.AwaitedParts.{Awaits, AwaitsNext, AwaitsSome, IsAwaited, element_at, member_at}

module _ (has : ℕ → Bool) (rules : List Rule) where
  -- a site that begins in one of the members, numbered from i on
  record IsAt (es : Elements) (i : ℕ) (site : List ℕ) (p : Element) : Type 0 where
    number : ℕ
    rest : List ℕ
    site_is : site ≡ (i + number) ∷ rest
    there : member_at es number rest ≡ Some p

  at_first : (e : Element) (es : Elements) (i : ℕ) (z : List ℕ) {p : Element} → element_at e z ≡ Some p
      → IsAt (more e es) i (i ∷ z) p
  at_first e es i z there =
      let on : i ≡ i + 0 = omega arith in
      record { number = 0; rest = z; site_is = ap (λ v. v ∷ z) on; there = there }

  at_next : (e : Element) (es : Elements) (i : ℕ) (site : List ℕ) {p : Element} → IsAt es (suc i) site p
      → IsAt (more e es) i site p
  at_next e es i site a =
      let on : suc i + a.number ≡ i + suc a.number = omega arith in
      record {
        number = suc a.number;
        rest = a.rest;
        site_is = a.site_is ∙ ap (λ v. v ∷ a.rest) on;
        there = a.there;
      }

  in_members : (es : Elements) (site : List ℕ) {p : Element} → IsAt es 0 site p → (e : Element)
      → ((i : ℕ) (z : List ℕ) → element_at e (i ∷ z) ≡ member_at es i z) → element_at e site ≡ Some p
  in_members es site a e is =
      let on : 0 + a.number ≡ a.number = omega arith in
      ap (λ v. element_at e v) (a.site_is ∙ ap (λ v. v ∷ a.rest) on) ∙ (is a.number a.rest ∙ a.there)

  mutual
    pub awaits_element : {e p : Element} {v site : List ℕ} {k : ℕ} → Awaits has rules e v site p k
        → element_at e site ≡ Some p
    awaits_element (w.text lt d) = refl
    awaits_element (w.values lt d) = refl
    awaits_element w.range = refl
    awaits_element w.name = refl
    awaits_element (w.concat {es = es} a) = in_members es _ (next_at a) (Concat es) (λ i z. refl)
    awaits_element (w.alt {es = es} a) = in_members es _ (some_at a) (Alt es) (λ i z. refl)
    awaits_element (w.rep bounds within ds a) = awaits_element a
    awaits_element (w.opt a) = awaits_element a

    next_at : {es : Elements} {i k : ℕ} {v site : List ℕ} {p : Element} → AwaitsNext has rules es i v site p k
        → IsAt es i site p
    next_at (w.here {e = e} {es = es} {z = z} {i = i} a) = at_first e es i z (awaits_element a)
    next_at (w.after {e = e} {es = es} {z = z} {i = i} d a) = at_next e es i z (next_at a)

    some_at : {es : Elements} {i k : ℕ} {v site : List ℕ} {p : Element} → AwaitsSome has rules es i v site p k
        → IsAt es i site p
    some_at (w.this {e = e} {es = es} {z = z} {i = i} a) = at_first e es i z (awaits_element a)
    some_at (w.later {e = e} {es = es} {z = z} {i = i} a) = at_next e es i z (some_at a)

  pub awaited_element : (judged : ℕ) (x : List ℕ) (n rule : ℕ) (site : List ℕ) (p : Element) (k : ℕ) (body : Element)
      → slice_get (bodies rules) rule ≡ Some body → IsAwaited has rules judged x n rule site p k
      → element_at body site ≡ Some p
  awaited_element judged x n rule site p k body is a =
      let both : Some a.body ≡ Some body = sym a.body_is ∙ is in
      let same : a.body ≡ body = cc both in
      subst (λ v. element_at v site ≡ Some p) same (awaits_element a.awaits)
