-- Whether a rule derives the empty list is the same, whatever the letters.
-- Serves: lower_viable.
use Rattle.std.proofs.Common.{◌≡◌, ℕ, Bool, List, [], ◌∷◌, refl}
use Rattle.abnfread.specs.Element.{Element, Elements, Rule}
use Rattle.abnfcheck.specs.Derivable as der
use Rattle.abnfcheck.specs.Derivable.{Derives, DerivesAll, DerivesSome, DerivesTimes, all_done, then, this, later}
use Rattle.abnfcheck.specs.Derivable.{no_more, one_more, RuleDerives}

module _ (has test : ℕ → Bool) (rules : List Rule) where
  mutual
    derives_empty : {el : Element} {w : List ℕ} → Derives has rules el w → w ≡ [] → Derives test rules el w
    derives_empty (der.text s) is = der.text s
    derives_empty (der.values {vs = []} letters) is = der.values tt
    derives_empty (der.values {vs = v ∷ vs} letters) is = absurd (cc is)
    derives_empty (der.range low high letter) is = absurd (cc is)
    derives_empty (der.concat d) is = der.concat (all_empty d is)
    derives_empty (der.alt d) is = der.alt (some_empty d is)
    derives_empty (der.rep low within d) is = der.rep low within (times_empty d is)
    derives_empty der.opt_empty is = der.opt_empty
    derives_empty (der.opt d) is = der.opt (derives_empty d is)
    derives_empty (der.name found d) is = der.name found (derives_empty d is)

    all_empty : {es : Elements} {w : List ℕ} → DerivesAll has rules es w → w ≡ [] → DerivesAll test rules es w
    all_empty all_done is = all_done
    all_empty (then {w = []} d ds) is = then (derives_empty d refl) (all_empty ds is)
    all_empty (then {w = c ∷ w} d ds) is = absurd (cc is)

    some_empty : {es : Elements} {w : List ℕ} → DerivesSome has rules es w → w ≡ [] → DerivesSome test rules es w
    some_empty (this d) is = this (derives_empty d is)
    some_empty (later d) is = later (some_empty d is)

    times_empty : {el : Element} {k : ℕ} {w : List ℕ} → DerivesTimes has rules el k w → w ≡ []
        → DerivesTimes test rules el k w
    times_empty no_more is = no_more
    times_empty (one_more {w = []} d ds) is = one_more (derives_empty d refl) (times_empty ds is)
    times_empty (one_more {w = c ∷ w} d ds) is = absurd (cc is)

  pub any_letters : {id : ℕ} → RuleDerives has rules id [] → RuleDerives test rules id []
  any_letters d = record { body = d.body; is = d.is; derives = derives_empty d.derives refl }
