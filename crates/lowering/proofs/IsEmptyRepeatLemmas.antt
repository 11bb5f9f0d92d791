-- Marks of texts, values and repetitions.
-- Serves: lower, lower_viable.
use Rattle.std.proofs.Common.{◌≡◌, ◌↔◌, ℕ, ◌<◌, Bool, true, List, Option, Some, [], ◌∷◌, length, refl, ap, arith}
use Rattle.abnfread.specs.Element as e
use Rattle.abnfread.specs.Element.{Element, Rule}
use Rattle.abnfcheck.specs.Derivable.{AtMost}
use Rattle.lowering.specs.NullElements.{Settles}
use Rattle.flatgrammar.specs.Flat.{Node, Nothing}
use Rattle.lowering.specs.Lowered.{Shows, shows_reversed}
use Rattle.lowering.proofs.SettlesLemmas.{rep_empty, rep_never, text_settles, values_settle}

empty_of_length : (xs : List ℕ) → length xs ≡ 0 → xs ≡ []
empty_of_length [] is = refl
empty_of_length (x ∷ xs) is = absurd (omega (arith, is))

pub rep_zero : (rules : List Rule) (a : ℕ) (b : Option ℕ) (el : Element) (z : Bool) → z ≡ true → a ≡ 0 → AtMost a b
    → Settles rules z (e.Rep a b el)
rep_zero rules a b el z is zero_is within = record {
  yes = λ m. rep_empty rules a b el within (λ lt. absurd (omega (arith, lt, zero_is)));
  no = λ m. absurd (cc (m, is));
}

pub rep_operand : (rules : List Rule) (a : ℕ) (b : Option ℕ) (el : Element) (c : Bool) → 0 < a → AtMost a b
    → Settles rules c el → Settles rules c (e.Rep a b el)
rep_operand rules a b el c lt within t = record {
  yes = λ m. rep_empty rules a b el within (λ more. t.yes m);
  no = λ m. rep_never rules a b el lt (t.no m);
}

pub text_marked : (rules : List Rule) (folds : Bool) (t : List ℕ) (mark : Bool) → (mark ≡ true) ↔ (length t ≡ 0)
    → Settles rules mark (e.Text folds t)
text_marked rules folds t mark is = text_settles rules folds t mark (λ m. empty_of_length t (is.0 m))
    (λ m e. absurd (cc (is.1 (ap length e), m)))

pub values_marked : (rules : List Rule) (vs : List ℕ) (mark : Bool) → (mark ≡ true) ↔ (length vs ≡ 0)
    → Settles rules mark (e.Values vs)
values_marked rules vs mark is = values_settle rules vs mark (λ m. empty_of_length vs (is.0 m))
    (λ m e. absurd (cc (is.1 (ap length e), m)))

-- what no number of iterations meets
pub reversed_is_nothing : (rules : List Rule) (limit : ℕ) (nodes : List Node) (least : ℕ) (most : Option ℕ)
    (el : Element)
    → (b : ℕ) × (most ≡ Some b) × (b < least) → Shows rules limit nodes Nothing (e.Rep least most el)
reversed_is_nothing rules limit nodes least most el h = rw h.1 (shows_reversed h.2)
