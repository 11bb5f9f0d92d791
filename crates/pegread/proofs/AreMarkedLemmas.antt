-- What makes the slice of an identifier, literal, class or action is a fact of the slice alone.
-- Serves: are_marked, is_read_back, one_tree
use Rattle.std.proofs.Common.{◌≡◌, ℕ, ◌<◌, List, [], ◌∷◌, ◌++◌, length, refl, sym, ap, ◌∙◌, subst, arith, append_assoc}
use Rattle.std.proofs.Common.{append-nil}
use Rattle.std.proofs.lemmas.List.{append_cancel_right}
use Rattle.ruletable.specs.declared.span.Span.{Span}
use Rattle.pegread.specs.declared.kind.Kind.TheVariants.{Ident, Literal, Class, Action}
use Rattle.lexer.specs.SliceEnds.{found}
use Rattle.pegread.specs.Slices.{Names, none, more, Closes, close, escape, plain, Body, last, nested, other, Stands}
use Rattle.pegread.specs.Slices.{ident, single, double, class, action, First}
use Rattle.pegread.specs.Literals.{IsLiteral, single_quoted, double_quoted}
use Rattle.pegread.specs.Classes.{IsClass, bracketed}
use Rattle.pegread.specs.Names.{IsName, named}
use Rattle.pegread.specs.Actions.{IsAction, braced, IsBraced}
use Rattle.lexer.specs.TokenLists.{tok}
use Rattle.pegread.specs.Tokens.{Next}
use Rattle.pegread.proofs.SpellsBytesLemmas.{closes-alone}

names-front : {t r : List ℕ} → Names t r → (s : List ℕ) × (t ≡ s ++ r) × Names s []
names-front none = ([], refl, none)
names-front (more {b} h n) = let x = names-front n in (b ∷ x.0, ap (λ (z : List ℕ). b ∷ z) x.1, more h x.2)

name-stands : {t r : List ℕ} → Stands Ident t r → (s : List ℕ) → t ≡ s ++ r → IsName s
name-stands {r = r} (ident {b} h n) s e =
    let x = names-front n in
    let whole : b ∷ x.0 ≡ s = append_cancel_right (b ∷ x.0) s r (sym (ap (λ (z : List ℕ). b ∷ z) x.1) ∙ e) in
    subst IsName whole (named h x.2)

closes-shorter : {mark : ℕ} {t r : List ℕ} → Closes mark t r → length r < length t
closes-shorter close = omega arith
closes-shorter (escape c) = let x = closes-shorter c in omega arith
closes-shorter (plain p q c) = let x = closes-shorter c in omega arith

-- a slice that a first byte begins and a mark closes: what follows the first byte closes by itself
token-alone : {mark first : ℕ} {bs r : List ℕ} → Closes mark bs r → (s : List ℕ) → first ∷ bs ≡ s ++ r → (u : List ℕ)
    × (s ≡ first ∷ u) × Closes mark u []
token-alone c [] e = absurd (let x = closes-shorter c in omega (arith, ap length e))
token-alone {first = first} {bs = bs} {r = r} c (b ∷ u) e =
    let same : b ≡ first = cc in
    let after : bs ≡ u ++ r = cc in
    (u, ap (λ (v : ℕ). v ∷ u) same, closes-alone c u after)

literal-stands : {t r : List ℕ} → Stands Literal t r → (s : List ℕ) → t ≡ s ++ r → IsLiteral s
literal-stands (single c) s e = let x = token-alone c s e in rw (x.1) (single_quoted x.2)
literal-stands (double c) s e = let x = token-alone c s e in rw (x.1) (double_quoted x.2)

class-stands : {t r : List ℕ} → Stands Class t r → (s : List ℕ) → t ≡ s ++ r → IsClass s
class-stands (class c) s e = let x = token-alone c s e in rw (x.1) (bracketed x.2)

-- an action's text after its first brace, which is one whatever follows it
record Matched (t r : List ℕ) : Type 0 where
  text : List ℕ
  cut : t ≡ text ++ r
  alone : (s : List ℕ) → Body (text ++ s) s

body-matched : {t r : List ℕ} → Body t r → Matched t r
body-matched last = record { text = 125 ∷ []; cut = refl; alone = λ s. last }
body-matched (nested {r} h k) =
    let x = body-matched h in
    let y = body-matched k in
    record {
      text = 123 ∷ (x.text ++ y.text);
      cut = ap (λ (z : List ℕ). 123 ∷ z) (x.cut ∙ ap (λ (z : List ℕ). x.text ++ z) y.cut
          ∙ sym (append_assoc x.text y.text r));
      alone = λ s. subst (λ (z : List ℕ). Body (123 ∷ z) s) (sym (append_assoc x.text y.text s))
          (nested (x.alone (y.text ++ s)) (y.alone s));
    }
body-matched (other {b} p q h) = let x = body-matched h in
    record { text = b ∷ x.text; cut = ap (λ (z : List ℕ). b ∷ z) x.cut; alone = λ s. other p q (x.alone s) }

action-stands : {t r : List ℕ} → Stands Action t r → (s : List ℕ) → t ≡ s ++ r → IsAction s
action-stands {r = r} (action h) s e =
    let x = body-matched h in
    let whole : 123 ∷ x.text ≡ s = append_cancel_right (123 ∷ x.text) s r
    (sym (ap (λ (z : List ℕ). 123 ∷ z) x.cut) ∙ e) in
    subst IsAction whole (braced (subst (λ (z : List ℕ). Body z []) (append-nil x.text) (x.alone [])))

body-ends : {t r : List ℕ} → Body t r → (bs : List ℕ) × (t ≡ bs ++ 125 ∷ r)
body-ends last = ([], refl)
body-ends (nested {r} u v) =
    let h = body-ends u in
    let k = body-ends v in (
      123 ∷ (h.0 ++ 125 ∷ k.0),
      ap (λ (x : List ℕ). 123 ∷ x) (h.1 ∙ ap (λ (x : List ℕ). h.0 ++ 125 ∷ x) k.1
          ∙ sym (append_assoc h.0 (125 ∷ k.0) (125 ∷ r))),
    )
body-ends (other {b} p q c) = let h = body-ends c in (b ∷ h.0, ap (λ (x : List ℕ). b ∷ x) h.1)

action-braced : {s : List ℕ} → IsAction s → IsBraced s
action-braced (braced h) = let x = body-ends h in (x.0, ap (λ (z : List ℕ). 123 ∷ z) x.1)

first-name : {t r : List ℕ} → First Ident t r → (s : List ℕ) → t ≡ s ++ r → IsName s
first-name (found h) = name-stands h.stands

first-literal : {t r : List ℕ} → First Literal t r → (s : List ℕ) → t ≡ s ++ r → IsLiteral s
first-literal (found h) = literal-stands h.stands

first-class : {t r : List ℕ} → First Class t r → (s : List ℕ) → t ≡ s ++ r → IsClass s
first-class (found h) = class-stands h.stands

first-action : {t r : List ℕ} → First Action t r → (s : List ℕ) → t ≡ s ++ r → IsAction s
first-action (found h) = action-stands h.stands

pub name-token : (total : ℕ) (t r z : List ℕ) (p : Span) → Next total t (tok Ident z p) r → IsName z
name-token total t r z p n = first-name n.first z n.cut

pub literal-token : (total : ℕ) (t r z : List ℕ) (p : Span) → Next total t (tok Literal z p) r → IsLiteral z
literal-token total t r z p n = first-literal n.first z n.cut

pub class-token : (total : ℕ) (t r z : List ℕ) (p : Span) → Next total t (tok Class z p) r → IsClass z
class-token total t r z p n = first-class n.first z n.cut

pub action-token : (total : ℕ) (t r z : List ℕ) (p : Span) → Next total t (tok Action z p) r → IsAction z
action-token total t r z p n = first-action n.first z n.cut

pub braced-token : (total : ℕ) (t r z : List ℕ) (p : Span) → Next total t (tok Action z p) r → IsBraced z
braced-token total t r z p n = action-braced (action-token total t r z p n)
