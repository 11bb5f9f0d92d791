-- A shortest list of each kind of element.
-- Serves: shortest
use Rattle.std.proofs.Common.{◌≡◌, ℕ, zero, suc, ◌+◌, ◌<◌, ◌≤◌, Bool, true, false, ◌&&◌, List, [], ◌∷◌, ◌++◌}
use Rattle.std.proofs.Common.{length}
use Rattle.std.proofs.Common.{map, take, get_or, Option, Some, None, Vec, Global, refl, sym, ◌∙◌, ap, subst, arith}
use Rattle.std.proofs.Common.{add-one}
use Rattle.std.proofs.Math.Seq.{take-suc}
use Rattle.std.proofs.lemmas.List.{map-append}
use Rattle.std.specs.Prelude.{MatchOption}
use Rattle.abnfread.specs.AbnfViews.{element_of, elements, elements_of, rules_of}
use Rattle.abnfread.specs.Element as e
use Rattle.abnfread.specs.Element.{Element, Elements, Rule, none, more, append, id_of}
use Rattle.abnfread.specs.declared.elem.Elem.{Elem}
use Rattle.abnfcheck.specs.Derivable as der
use Rattle.abnfcheck.specs.Derivable.{AreLetters, AtMost, Derives, Spelled, StandsFor}
use Rattle.ruletable.specs.Letters.{has}
use Rattle.coverlines.specs.Goals.{HasNoneIn, IsFirstIn}
use Rattle.coverlines.specs.KnownWords.{AreKnownOf, IsCopy, known_at}
use Rattle.coverlines.specs.Shortest.{Admitted, IsShortest, IsShortestOf, may, Spells, SpellsAll, SpellsSome}
use Rattle.coverlines.specs.declared.bounds.LineBounds.{LineBounds}
use Rattle.coverlines.specs.declared.words.Words.{Words}
use Rattle.coverlines.proofs.ShortestLemmas.{alike_shortest, same_shortest}

-- a symbol of a line is one of the alphabet
both_true : (x y : Bool) → (x && y) ≡ true → x ≡ true
both_true true y is = refl
both_true false y is = is

pub may_has : (b : LineBounds) (c : ℕ) → may b c ≡ true → has b.alphabet c ≡ true
may_has b c is = both_true (has b.alphabet c) _ is

pub letters_has : (b : LineBounds) (w : List ℕ) → AreLetters (may b) w → AreLetters (has b.alphabet) w
letters_has b [] a = tt
letters_has b (c ∷ w) a = (may_has b c a.0, letters_has b w a.1)

-- what is known of rules
pub known_index : (ks : List (Option (Vec ℕ Global))) (id : ℕ) (x : Option (Vec ℕ Global)) → id < length ks
    → x ≡ get_or ks id x → known_at ks id ≡ x
known_index [] id x lt is = absurd (omega (arith, lt))
known_index (k ∷ ks) zero x lt is = sym is
known_index (k ∷ ks) (suc id) x lt is = known_index ks id x (omega (arith, lt)) is

pub known_past : (ks : List (Option (Vec ℕ Global))) (id : ℕ) → length ks ≤ id → known_at ks id ≡ None
known_past [] id le = refl
known_past (k ∷ ks) zero le = absurd (omega (arith, le))
known_past (k ∷ ks) (suc id) le = known_past ks id (omega (arith, le))

pub copy_shortest : (lists : List ℕ → Type 0) (limit : ℕ) (old found : Option (Vec ℕ Global)) → IsCopy old found
    → IsShortest lists limit old → IsShortest lists limit found
copy_shortest lists limit None None is h = h
copy_shortest lists limit None (Some w) is h = absurd is
copy_shortest lists limit (Some v) None is h = absurd is
copy_shortest lists limit (Some v) (Some w) is h = subst (IsShortestOf lists limit) (sym is) h

-- spellings
pub spelled_snoc : {folds : Bool} {ts cs : List ℕ} (t c : ℕ) → Spelled folds ts cs → StandsFor folds t c
    → Spelled folds (ts ++ t ∷ []) (cs ++ c ∷ [])
spelled_snoc t c der.end s = der.next s der.end
spelled_snoc t c (der.next r rest) s = der.next r (spelled_snoc t c rest s)

pub record Snoc (folds : Bool) (ts : List ℕ) (t : ℕ) (w : List ℕ) : Type 0 where
  pub front : List ℕ
  pub last : ℕ
  pub is : w ≡ front ++ last ∷ []
  pub spelled : Spelled folds ts front
  pub stands : StandsFor folds t last

pub spelled_parts : (folds : Bool) (ts : List ℕ) (t : ℕ) (w : List ℕ) → Spelled folds (ts ++ t ∷ []) w
    → Snoc folds ts t w
spelled_parts folds [] t w (der.next {c = c} s der.end) =
    record { front = []; last = c; is = refl; spelled = der.end; stands = s }
spelled_parts folds (x ∷ ts) t w (der.next {c = c} {cs = cs} r rest) =
    let h = spelled_parts folds ts t cs rest in record {
      front = c ∷ h.front;
      last = h.last;
      is = ap (λ v. c ∷ v) h.is;
      spelled = der.next r h.spelled;
      stands = h.stands;
    }

letters_snoc : (test : ℕ → Bool) (w : List ℕ) (c : ℕ) → AreLetters test w → test c ≡ true
    → AreLetters test (w ++ c ∷ [])
letters_snoc test [] c a is = (is, tt)
letters_snoc test (x ∷ w) c a is = (a.0, letters_snoc test w c a.1 is)

letters_last : (test : ℕ → Bool) (w : List ℕ) (c : ℕ) → AreLetters test (w ++ c ∷ [])
    → AreLetters test w × (test c ≡ true)
letters_last test [] c a = (tt, a.0)
letters_last test (x ∷ w) c a = let h = letters_last test w c a.1 in ((a.0, h.0), h.1)

pub next_taken : (text : List ℕ) (i : ℕ) → i < length text → take (i + 1) text ≡ take i text ++ get_or text i 0 ∷ []
next_taken text i lt = ap (λ (k : ℕ). take k text) (add-one i) ∙ take-suc text i 0 lt

-- a symbol more
pub next_spelled : (folds : Bool) (text : List ℕ) (i : ℕ) (word new : List ℕ) (c : ℕ) → i < length text
    → Spelled folds (take i text) word → StandsFor folds (get_or text i 0) c → new ≡ word ++ c ∷ []
    → Spelled folds (take (i + 1) text) new
next_spelled folds text i word new c lt s stands is = rw (next_taken text i lt, is)
    (spelled_snoc (get_or text i 0) c s stands)

pub next_best : (b : LineBounds) (folds : Bool) (text : List ℕ) (i : ℕ) (word new : List ℕ) (c : ℕ) → i < length text →
    ((w : List ℕ) → Spelled folds (take i text) w → AreLetters (may b) w → AreLetters (may b) word) →
    ((d : ℕ) → StandsFor folds (get_or text i 0) d → may b d ≡ true → may b c ≡ true) → new ≡ word ++ c ∷ [] →
    (w : List ℕ) → Spelled folds (take (i + 1) text) w → AreLetters (may b) w → AreLetters (may b) new
next_best b folds text i word new c lt best one is w s a =
    let h = spelled_parts folds (take i text) (get_or text i 0) w
    (subst (λ v. Spelled folds v w) (next_taken text i lt) s) in
    let two = letters_last (may b) h.front h.last (subst (AreLetters (may b)) h.is a) in
    subst (AreLetters (may b)) (sym is) (letters_snoc (may b) word c (best h.front h.spelled two.0)
    (one h.last h.stands two.1))

spelled_length : {folds : Bool} {t w : List ℕ} → Spelled folds t w → length w ≡ length t
spelled_length der.end = refl
spelled_length (der.next s rest) = ap suc (spelled_length rest)

-- members and alternatives
elements_snoc : (xs : List Element) (y : Element) → elements (xs ++ y ∷ []) ≡ append (elements xs) (more y none)
elements_snoc [] y = refl
elements_snoc (x ∷ xs) y = ap (more x) (elements_snoc xs y)

pub next_elements : (es : List Elem) (i : ℕ) (el : Elem) → i < length es → el ≡ get_or es i el
    → elements_of (take (i + 1) es) ≡ append (elements_of (take i es)) (more (element_of el) none)
next_elements es i el lt is = ap elements_of (ap (λ (k : ℕ). take k es) (add-one i) ∙ take-suc es i el lt
    ∙ ap (λ x. take i es ++ x ∷ []) (sym is)) ∙ ap elements (map-append element_of (take i es) (el ∷ []))
    ∙ elements_snoc (map element_of (take i es)) (element_of el)

module _ (b : LineBounds) (rules : List Rule) where
  pub text_shortest : (folds : Bool) (t word : List ℕ) (found : Option (Vec ℕ Global)) → Spelled folds t word →
      ((w : List ℕ) → Spelled folds t w → AreLetters (may b) w → AreLetters (may b) word) →
      IsShortest (Admitted b (λ w. w ≡ word)) b.limit found → IsShortest (Spells b rules (e.Text folds t)) b.limit found
  text_shortest folds t word found s best h = same_shortest b.limit found
      (λ w a. record {
        symbols = a.symbols;
        is = subst (Derives (has b.alphabet) rules (e.Text folds t)) (sym a.is) (der.text s);
      })
      (λ w a. by w a.symbols a.is) h
    where
      by : (w : List ℕ) → AreLetters (may b) w → Derives (has b.alphabet) rules (e.Text folds t) w
          → (v : List ℕ) × Admitted b (λ w. w ≡ word) v × length v ≤ length w
      by w a (der.text d) =
          let n = spelled_length s in
          let m = spelled_length d in
          (word, record { symbols = best w d a; is = refl }, omega (arith, n, m))

  pub values_shortest : (vs : List ℕ) (found : Option (Vec ℕ Global)) →
      IsShortest (Admitted b (λ w. w ≡ vs)) b.limit found → IsShortest (Spells b rules (e.Values vs)) b.limit found
  values_shortest vs found h = alike_shortest b.limit found
      (λ w a. record {
        symbols = a.symbols;
        is = subst (Derives (has b.alphabet) rules (e.Values vs)) (sym a.is)
            (der.values (letters_has b vs (subst (AreLetters (may b)) a.is a.symbols)));
      })
      (λ w a. record { symbols = a.symbols; is = by w a.is }) h
    where
      by : (w : List ℕ) → Derives (has b.alphabet) rules (e.Values vs) w → w ≡ vs
      by w (der.values d) = refl

  pub range_shortest : (low high : ℕ) (first : Option ℕ) (found : Option (Vec ℕ Global)) →
      MatchOption first (HasNoneIn (may b) low high) (IsFirstIn (may b) low high) →
      MatchOption first (found ≡ None) (λ c. IsShortest (Admitted b (λ v. v ≡ c ∷ [])) b.limit found) →
      IsShortest (Spells b rules (e.Range low high)) b.limit found
  range_shortest low high None found never is = subst (IsShortest (Spells b rules (e.Range low high)) b.limit) (sym is)
      (λ w a. absurd (by w a.symbols a.is))
    where
      by : (w : List ℕ) → AreLetters (may b) w → Derives (has b.alphabet) rules (e.Range low high) w → ⊥
      by w a (der.range {c = c} from to is) = let f = never c from to in let y = a.0 in cc (f, y)
  range_shortest low high (Some c) found first h = same_shortest b.limit found
      (λ w a. record {
        symbols = a.symbols;
        is = subst (Derives (has b.alphabet) rules (e.Range low high)) (sym a.is)
            (der.range first.from first.to (may_has b c first.is));
      })
      (λ w a. by w a.is) h
    where
      by : (w : List ℕ) → Derives (has b.alphabet) rules (e.Range low high) w
          → (v : List ℕ) × Admitted b (λ v. v ≡ c ∷ []) v × length v ≤ length w
      by w (der.range from to is) = (c ∷ [], record { symbols = (first.is, tt); is = refl }, omega arith)

  pub concat_shortest : (es : Elements) (found : Option (Vec ℕ Global))
      → IsShortest (SpellsAll b rules es) b.limit found
      → IsShortest (Spells b rules (e.Concat es)) b.limit found
  concat_shortest es found h = alike_shortest b.limit found
      (λ w a. record { symbols = a.symbols; is = der.concat a.is })
      (λ w a. record { symbols = a.symbols; is = by w a.is }) h
    where
      by : (w : List ℕ) → Derives (has b.alphabet) rules (e.Concat es) w
          → der.DerivesAll (has b.alphabet) rules es w
      by w (der.concat d) = d

  pub alt_shortest : (es : Elements) (found : Option (Vec ℕ Global)) → IsShortest (SpellsSome b rules es) b.limit found
      → IsShortest (Spells b rules (e.Alt es)) b.limit found
  alt_shortest es found h = alike_shortest b.limit found
      (λ w a. record { symbols = a.symbols; is = der.alt a.is })
      (λ w a. record { symbols = a.symbols; is = by w a.is }) h
    where
      by : (w : List ℕ) → Derives (has b.alphabet) rules (e.Alt es) w → der.DerivesSome (has b.alphabet) rules es w
      by w (der.alt d) = d

  pub opt_shortest : (el : Element) (w : List ℕ) → w ≡ [] → IsShortestOf (Spells b rules (e.Opt el)) b.limit w
  opt_shortest el w is = subst (IsShortestOf (Spells b rules (e.Opt el)) b.limit) (sym is) (record {
    is = record { symbols = tt; is = der.opt_empty };
    within = omega arith;
    least = λ v s. omega arith;
  })

  -- no member
  pub all_of_none : (w : List ℕ) → w ≡ [] → IsShortestOf (SpellsAll b rules none) b.limit w
  all_of_none w is = subst (IsShortestOf (SpellsAll b rules none) b.limit) (sym is) (record {
    is = record { symbols = tt; is = der.all_done };
    within = omega arith;
    least = λ v s. omega arith;
  })

  -- no alternative
  pub some_of_none : (w : List ℕ) → SpellsSome b rules none w → b.limit < length w
  some_of_none w s = elim s.is [ ]

  pub no_prose : (t w : List ℕ) → Spells b rules (e.Prose t) w → b.limit < length w
  no_prose t w s = elim s.is [ ]

  -- no rounds are allowed
  pub no_rep : (a : ℕ) (most : Option ℕ) (el : Element) → (AtMost a most → ⊥) → (w : List ℕ)
      → Spells b rules (e.Rep a most el) w → b.limit < length w
  no_rep a most el not w s = absurd (by most not w s.is)
    where
      by : (most : Option ℕ) → (AtMost a most → ⊥) → (w : List ℕ) → Derives (has b.alphabet) rules (e.Rep a most el) w
          → ⊥
      by None not w d = not tt
      by (Some most) not w (der.rep low within d) = not (omega (arith, low, within))

pub none_known : (words : Words) (rules : List Rule) (name : List ℕ) → AreKnownOf words rules
    → known_at words.known.now (id_of (rules_of words.rules.now) name) ≡ None → (v : List ℕ)
    → Spells words.bounds rules (e.Name name) v → words.bounds.limit < length v
none_known words rules name h is = rw is at (h name)
