-- What is left of an element derives the same lists of letters, and is no larger.
-- Serves: lower_viable.
use Rattle.std.proofs.Common.{◌≡◌, ℕ, zero, suc, ◌≤◌, Bool, List, [], ◌∷◌, ◌++◌, Option, Some, None, refl, subst, arith}
use Rattle.abnfread.specs.Element as e
use Rattle.abnfread.specs.Element.{Element, Elements, none, more, Rule, body_of}
use Rattle.abnfcheck.specs.Derivable as der
use Rattle.abnfcheck.specs.Derivable.{AreLetters, AtMost, Derives, DerivesAll, DerivesSome, DerivesTimes, all_done}
use Rattle.abnfcheck.specs.Derivable.{then, this, later, no_more, one_more}
use Rattle.abnfcheck.proofs.AimLemmas.{spelled_itself}
use Rattle.abnfcheck.proofs.YieldsLemmas.{letters_both, letters_parts}
use Rattle.lowering.specs.Sizes.{count, size, size_all}
use Rattle.lowering.specs.Pruned.{IsProductive, AreAllProductive, Keeps, keep_text, keep_values, keep_range}
use Rattle.lowering.specs.Pruned.{keep_concat}
use Rattle.lowering.specs.Pruned.{keep_alt, keep_rep, empty_rep, keep_opt, empty_opt, keep_name, KeepsAll, keep_none}
use Rattle.lowering.specs.Pruned.{keep_more, KeepsSome, some_none, kept, dropped}

pub within_none : (b : Option ℕ) → AtMost 0 b
within_none None = tt
within_none (Some most) = omega arith

module _ (has : ℕ → Bool) (rules : List Rule) where
  pub no_prose : {t w : List ℕ} → Derives has rules (e.Prose t) w → ⊥
  no_prose d = elim d [ ]

  pub times_derived : (el : Element) (k : ℕ) → IsProductive has rules el → (w : List ℕ) × AreLetters has w
      × DerivesTimes has rules el k w
  times_derived el zero p = ([], tt, no_more)
  times_derived el (suc k) p = let rest = times_derived el k p in
      (p.word ++ rest.0, letters_both has p.word rest.0 p.letters rest.1, one_more p.derives rest.2)

  mutual
    -- what is kept of an element, is kept of one that is productive
    pub keeps_productive : {el d : Element} → Keeps has rules el d → IsProductive has rules el
    keeps_productive (keep_text {folds = folds} {t = t} letters) =
        record { word = t; letters = letters; derives = der.text (spelled_itself folds t) }
    keeps_productive (keep_values {vs = vs} letters) =
        record { word = vs; letters = letters; derives = der.values letters }
    keeps_productive (keep_range some) = record {
      word = some.letter ∷ [];
      letters = (some.is, tt);
      derives = der.range some.from some.to some.is;
    }
    keeps_productive (keep_concat ks) =
        let p = keeps_all_productive ks in record { word = p.word; letters = p.letters; derives = der.concat p.derives }
    keeps_productive (keep_alt p ks) = p
    keeps_productive (keep_rep {a = a} {e = el} within k) =
        let p = times_derived el a (keeps_productive k) in record {
          word = p.0;
          letters = p.1;
          derives = der.rep {k = a} (omega arith) within p.2;
        }
    keeps_productive (empty_rep {b = b} not) = record {
      word = [];
      letters = tt;
      derives = der.rep {k = 0} (omega arith) (within_none b) no_more;
    }
    keeps_productive (keep_opt k) = record { word = []; letters = tt; derives = der.opt_empty }
    keeps_productive (empty_opt not) = record { word = []; letters = tt; derives = der.opt_empty }
    keeps_productive (keep_name p) = p

    keeps_all_productive : {es ds : Elements} → KeepsAll has rules es ds → AreAllProductive has rules es
    keeps_all_productive keep_none = record { word = []; letters = tt; derives = all_done }
    keeps_all_productive (keep_more k ks) =
        let p = keeps_productive k in let ps = keeps_all_productive ks in
        record {
          word = p.word ++ ps.word;
          letters = letters_both has p.word ps.word p.letters ps.letters;
          derives = then p.derives ps.derives;
        }

-- of each name of a productive rule what is left of its body
pub record LeftBody (has : ℕ → Bool) (rules left : List Rule) (n : List ℕ) (el : Element) : Type 0 where
  pub body : Element
  pub keeps : Keeps has rules el body
  pub is : body_of left n ≡ Some body

module _ (has : ℕ → Bool) (rules left : List Rule)
    (names : (n : List ℕ) (el : Element) → body_of rules n ≡ Some el → IsProductive has rules el
    → LeftBody has rules left n el) where
  mutual
    pub kept_derives : {el d : Element} {w : List ℕ} → Derives has rules el w → AreLetters has w → Keeps has rules el d
        → Derives has left d w
    kept_derives (der.text s) letters (keep_text all) = der.text s
    kept_derives (der.values vs) letters (keep_values all) = der.values vs
    kept_derives (der.range low high letter) letters (keep_range some) = der.range low high letter
    kept_derives (der.concat d) letters (keep_concat ks) = der.concat (forth_all d letters ks)
    kept_derives (der.alt d) letters (keep_alt p ks) = der.alt (forth_some d letters ks)
    kept_derives (der.rep low within d) letters (keep_rep bounds k) = der.rep low within (forth_times d letters k)
    kept_derives (der.rep low within no_more) letters (empty_rep not) = der.concat all_done
    kept_derives (der.rep low within (one_more {w = w} {v = v} d ds)) letters (empty_rep not) =
        absurd (not (record { word = w; letters = (letters_parts has w v letters).0; derives = d }))
    kept_derives der.opt_empty letters (keep_opt k) = der.opt_empty
    kept_derives der.opt_empty letters (empty_opt not) = der.concat all_done
    kept_derives (der.opt d) letters (keep_opt k) = der.opt (kept_derives d letters k)
    kept_derives (der.opt {w = w} d) letters (empty_opt not) =
        absurd (not (record { word = w; letters = letters; derives = d }))
    kept_derives (der.name {n = n} {e = el} {w = w} found d) letters (keep_name p) =
        let b = names n el found (record { word = w; letters = letters; derives = d }) in
        der.name b.is (kept_derives d letters b.keeps)

    forth_all : {es ds : Elements} {w : List ℕ} → DerivesAll has rules es w → AreLetters has w
        → KeepsAll has rules es ds → DerivesAll has left ds w
    forth_all all_done letters keep_none = all_done
    forth_all (then {w = w} {v = v} d rest) letters (keep_more k ks) =
        let both = letters_parts has w v letters in then (kept_derives d both.0 k) (forth_all rest both.1 ks)

    forth_some : {es ds : Elements} {w : List ℕ} → DerivesSome has rules es w → AreLetters has w
        → KeepsSome has rules es ds →
        DerivesSome has left ds w
    forth_some (this d) letters (kept k ks) = this (kept_derives d letters k)
    forth_some {w = w} (this d) letters (dropped not ks) =
        absurd (not (record { word = w; letters = letters; derives = d }))
    forth_some (later d) letters (kept k ks) = later (forth_some d letters ks)
    forth_some (later d) letters (dropped not ks) = forth_some d letters ks

    forth_times : {el d : Element} {k : ℕ} {w : List ℕ} → DerivesTimes has rules el k w → AreLetters has w
        → Keeps has rules el d →
        DerivesTimes has left d k w
    forth_times no_more letters keeps = no_more
    forth_times (one_more {w = w} {v = v} d rest) letters keeps =
        let both = letters_parts has w v letters in one_more (kept_derives d both.0 keeps)
        (forth_times rest both.1 keeps)

  -- the body of a productive name
  named_productive : (n : List ℕ) → IsProductive has rules (e.Name n) → (el : Element) × (body_of rules n ≡ Some el)
      × IsProductive has rules el
  named_productive n p = by p.letters p.derives
    where
      by : {w : List ℕ} → AreLetters has w → Derives has rules (e.Name n) w → (el : Element)
          × (body_of rules n ≡ Some el) × IsProductive has rules el
      by letters (der.name {e = el} {w = w} found d) = (el, found, record { word = w; letters = letters; derives = d })

  mutual
    pub derives_back : {el d : Element} {w : List ℕ} → Derives has left d w → Keeps has rules el d
        → Derives has rules el w
    derives_back (der.text s) (keep_text letters) = der.text s
    derives_back (der.values letters) (keep_values all) = der.values letters
    derives_back (der.range low high letter) (keep_range some) = der.range low high letter
    derives_back (der.concat d) (keep_concat ks) = der.concat (back_all d ks)
    derives_back (der.concat all_done) (empty_rep {b = b} not) = der.rep {k = 0} (omega arith) (within_none b) no_more
    derives_back (der.concat all_done) (empty_opt not) = der.opt_empty
    derives_back (der.alt d) (keep_alt p ks) = der.alt (back_some d ks)
    derives_back (der.rep low within d) (keep_rep bounds k) = der.rep low within (back_times d k)
    derives_back der.opt_empty (keep_opt k) = der.opt_empty
    derives_back (der.opt d) (keep_opt k) = der.opt (derives_back d k)
    derives_back (der.name {n = n} {e = el} found d) (keep_name p) =
        let body = named_productive n p in
        let b = names n body.0 body.1 body.2 in
        let same : b.body ≡ el = cc (b.is, found) in
        der.name body.1 (derives_back d (subst (λ v. Keeps has rules body.0 v) same b.keeps))

    back_all : {es ds : Elements} {w : List ℕ} → DerivesAll has left ds w → KeepsAll has rules es ds
        → DerivesAll has rules es w
    back_all all_done keep_none = all_done
    back_all (then d rest) (keep_more k ks) = then (derives_back d k) (back_all rest ks)

    back_some : {es ds : Elements} {w : List ℕ} → DerivesSome has left ds w → KeepsSome has rules es ds
        → DerivesSome has rules es w
    back_some d some_none = elim d [ ]
    back_some d (dropped not ks) = later (back_some d ks)
    back_some (this d) (kept k ks) = this (derives_back d k)
    back_some (later d) (kept k ks) = later (back_some d ks)

    back_times : {el d : Element} {k : ℕ} {w : List ℕ} → DerivesTimes has left d k w → Keeps has rules el d
        → DerivesTimes has rules el k w
    back_times no_more keeps = no_more
    back_times (one_more d rest) keeps = one_more (derives_back d keeps) (back_times rest keeps)

-- it has no more dotted rules
module _ (has : ℕ → Bool) (rules : List Rule) (limit : ℕ) where
  all_counted : {es ds : Elements} → KeepsAll has rules es ds → count ds ≡ count es
  all_counted keep_none = refl
  all_counted (keep_more k ks) = let rest = all_counted ks in omega (arith, rest)

  some_counted : {es ds : Elements} → KeepsSome has rules es ds → count ds ≤ count es
  some_counted some_none = omega arith
  some_counted (kept k ks) = let rest = some_counted ks in omega (arith, rest)
  some_counted (dropped not ks) = let rest = some_counted ks in omega (arith, rest)

  mutual
    pub keeps_sized : {el d : Element} → Keeps has rules el d → size limit d ≤ size limit el
    keeps_sized (keep_text letters) = omega arith
    keeps_sized (keep_values letters) = omega arith
    keeps_sized (keep_range some) = omega arith
    keeps_sized (keep_concat ks) = let n = all_counted ks in let s = all_sized ks in omega (arith, n, s)
    keeps_sized (keep_alt p ks) = let n = some_counted ks in let s = some_sized ks in omega (arith, n, s)
    keeps_sized (keep_rep bounds k) = let s = keeps_sized k in omega (arith, s)
    keeps_sized (empty_rep not) = omega arith
    keeps_sized (keep_opt k) = let s = keeps_sized k in omega (arith, s)
    keeps_sized (empty_opt not) = omega arith
    keeps_sized (keep_name p) = omega arith

    all_sized : {es ds : Elements} → KeepsAll has rules es ds → size_all limit ds ≤ size_all limit es
    all_sized keep_none = omega arith
    all_sized (keep_more k ks) = let s = keeps_sized k in let rest = all_sized ks in omega (arith, s, rest)

    some_sized : {es ds : Elements} → KeepsSome has rules es ds → size_all limit ds ≤ size_all limit es
    some_sized some_none = omega arith
    some_sized (kept k ks) = let s = keeps_sized k in let rest = some_sized ks in omega (arith, s, rest)
    some_sized (dropped not ks) = let rest = some_sized ks in omega (arith, rest)
