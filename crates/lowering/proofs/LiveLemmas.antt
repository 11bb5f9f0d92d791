-- Elements whose parts are productive: what lies before a step of a node goes on to what the element derives.
-- Serves: lower_viable.
use Rattle.std.proofs.Common.{◌≡◌, ℕ, zero, suc, ◌+◌, ◌-◌, ◌<◌, ◌≤◌, min, ◌⊎◌, inl, inr, Bool, Option, Some, None, List}
use Rattle.std.proofs.Common.{[], ◌∷◌, ◌++◌, length, take, drop, refl, sym, subst, arith, append_assoc, length-append}
use Rattle.std.proofs.lemmas.Bool.{cases_lt}
use Rattle.std.proofs.lemmas.List.{append-nil}
use Rattle.abnfread.specs.Element as e
use Rattle.abnfread.specs.Element.{Element, Elements, none, more, Rule}
use Rattle.abnfcheck.specs.Derivable as der
use Rattle.abnfcheck.specs.Derivable.{AreLetters, Derives, DerivesAll, DerivesTimes, all_done, then, this, no_more}
use Rattle.abnfcheck.specs.Derivable.{one_more}
use Rattle.abnfcheck.proofs.YieldsLemmas.{letters_both}
use Rattle.flatgrammar.specs.Flat.{Node, Concat, Set, Iterations, Between, Calling}
use Rattle.lowering.specs.Lowered.{Spells, Shows, shows_text, shows_values, shows_range, shows_concat, shows_alt}
use Rattle.lowering.specs.Lowered.{shows_rep, shows_iterations, shows_reversed, shows_opt, shows_name, shows_prose}
use Rattle.lowering.specs.Lowered.{SpellAll, spell_none, spell_more}
use Rattle.flatgrammar.specs.Positions.{width}
use Rattle.lowering.proofs.CappedMostLemmas.{free_within}
use Rattle.lowering.proofs.BeforeLemmas.{Fit, fit_none, fit_more, fit_text, fit_values, text_fits, values_fit, first}
use Rattle.lowering.proofs.BeforeLemmas.{nth, turned_more, iterations_most, few_counted, next_within, next_counted}
use Rattle.lowering.proofs.BeforeLemmas.{all_snoc, times_snoc, some_of, Before, in_letters, in_concat, alt_begun}
use Rattle.lowering.proofs.BeforeLemmas.{alt_done, in_rep, in_iterations, opt_begun, opt_done, opt_passed, member_at}
use Rattle.flatgrammar.proofs.SliceGetLemmas.{get_below}
use Rattle.lowering.specs.Pruned.{IsProductive}

-- each part of an element is productive
module _ (has : ℕ → Bool) (rules : List Rule) where
  mutual
    pub data IsLive : Element → Type 0 where
      live_text : {folds : Bool} {t : List ℕ} → IsProductive has rules (e.Text folds t) → IsLive (e.Text folds t)
      live_values : {vs : List ℕ} → IsProductive has rules (e.Values vs) → IsLive (e.Values vs)
      live_range : {low high : ℕ} → IsProductive has rules (e.Range low high) → IsLive (e.Range low high)
      live_concat : {es : Elements} → AreLive es → IsLive (e.Concat es)
      live_alt : {es : Elements} → AreLive es → IsLive (e.Alt es)
      live_rep : {a : ℕ} {b : Option ℕ} {el : Element} → der.AtMost a b → IsProductive has rules el → IsLive el
          → IsLive (e.Rep a b el)
      live_opt : {el : Element} → IsLive el → IsLive (e.Opt el)
      live_name : {n : List ℕ} → IsProductive has rules (e.Name n) → IsLive (e.Name n)

    pub data AreLive : Elements → Type 0 where
      no_live : AreLive none
      more_live : {el : Element} {es : Elements} → IsProductive has rules el → IsLive el → AreLive es
          → AreLive (more el es)

letters_drop : (has : ℕ → Bool) (k : ℕ) (w : List ℕ) → AreLetters has w → AreLetters has (drop k w)
letters_drop has zero w a = a
letters_drop has (suc k) [] a = a
letters_drop has (suc k) (c ∷ w) a = letters_drop has k w a.1

-- the front of a word that fits, with the rest of another
fit_rest : (sets : List Set) (k : ℕ) (w u : List ℕ) → Fit (take k sets) w → Fit sets u → Fit sets (w ++ drop k u)
fit_rest sets zero w u fit_none g = g
fit_rest [] (suc k) w u fit_none fit_none = fit_none
fit_rest (s ∷ sets) (suc k) w u (fit_more {w = w'} h f) (fit_more {w = u'} h' g) =
    fit_more h (fit_rest sets k w' u' f g)

module _ (has : ℕ → Bool) (rules : List Rule) where
  -- some list of letters goes on to what the element derives
  pub record GoesOn (el : Element) (w : List ℕ) : Type 0 where
    pub rest : List ℕ
    pub letters : AreLetters has rest
    pub derives : Derives has rules el (w ++ rest)

  as_is : {el : Element} (w : List ℕ) → Derives has rules el w → GoesOn el w
  as_is {el = el} w d = record {
    rest = [];
    letters = tt;
    derives = subst (λ v. Derives has rules el v) (sym (append-nil w)) d;
  }

  record AllGoOn (es : Elements) (w : List ℕ) : Type 0 where
    rest : List ℕ
    letters : AreLetters has rest
    derives : DerivesAll has rules es (w ++ rest)

  all_rest : (es : Elements) (k : ℕ) (w : List ℕ) → AreLive has rules es → DerivesAll has rules (first k es) w
      → AllGoOn es w
  all_rest none zero w ls all_done = record { rest = []; letters = tt; derives = all_done }
  all_rest none (suc k) w ls all_done = record { rest = []; letters = tt; derives = all_done }
  all_rest (more el es) zero w (more_live one l ls) all_done =
      let r = all_rest es zero [] ls all_done in
      record {
        rest = one.word ++ r.rest;
        letters = letters_both has one.word r.rest one.letters r.letters;
        derives = then one.derives r.derives;
      }
  all_rest (more el es) (suc k) w (more_live one l ls) (then {w = u} {v = u'} d ds) =
      let r = all_rest es k u' ls ds in
      record {
        rest = r.rest;
        letters = r.letters;
        derives = subst (λ v. DerivesAll has rules (more el es) v) (sym
            (append_assoc u u' r.rest)) (then d r.derives);
      }

  -- n more iterations
  record IterationsGoOn (el : Element) (w : List ℕ) (count : ℕ) : Type 0 where
    rest : List ℕ
    letters : AreLetters has rest
    derives : DerivesTimes has rules el count (w ++ rest)

  more_iterations : {el : Element} {j : ℕ} {w : List ℕ} (n : ℕ) → IsProductive has rules el
      → DerivesTimes has rules el j w
      → IterationsGoOn el w (n + j)
  more_iterations {el = el} {j = j} {w = w} zero one d =
      let same : j ≡ zero + j = omega arith in
      record {
        rest = [];
        letters = tt;
        derives = subst (λ v. DerivesTimes has rules el v (w ++ [])) same (subst
            (λ v. DerivesTimes has rules el j v) (sym (append-nil w)) d);
      }
  more_iterations {el = el} {j = j} {w = w} (suc n) one d =
      let r = more_iterations n one d in
      let same : suc (n + j) ≡ suc n + j = omega arith in
      record {
        rest = r.rest ++ one.word;
        letters = letters_both has r.rest one.word r.letters one.letters;
        derives = subst (λ v. DerivesTimes has rules el v (w ++ (r.rest ++ one.word))) same
            (subst (λ v. DerivesTimes has rules el (suc (n + j)) v) (append_assoc w r.rest one.word)
            (times_snoc has rules r.derives one.derives));
      }

  -- as many iterations as are asked for, at least
  rep_rest : (a j : ℕ) (b : Option ℕ) {el : Element} {w : List ℕ} → der.AtMost a b → der.AtMost j b
      → IsProductive has rules el →
      DerivesTimes has rules el j w → GoesOn (e.Rep a b el) w
  rep_rest a j b {el = el} {w = w} low high one d = by (cases_lt j a)
    where
      by : ((j < a) ⊎ (a ≤ j)) → GoesOn (e.Rep a b el) w
      by (inl less) =
          let r = more_iterations (a - j) one d in
          let all : a - j + j ≡ a = omega (arith, less) in
          record {
            rest = r.rest;
            letters = r.letters;
            derives = der.rep {k = a} (omega arith) low
                (subst (λ v. DerivesTimes has rules el v (w ++ r.rest)) all r.derives);
          }
      by (inr le) = as_is w (der.rep {k = j} le high d)

  range_of : (low high : ℕ) (w : List ℕ) → AreLetters has w → Fit (Between low high ∷ []) w
      → Derives has rules (e.Range low high) w
  range_of low high w letters (fit_more h fit_none) = der.range h.0 h.1 letters.0

  module _ (limit : ℕ) (nodes : List Node) where
    pub goes_on : {node : Node} {el : Element} {k : ℕ} {w : List ℕ} → Shows rules limit nodes node el
        → IsLive has rules el → k < width node →
        AreLetters has w → Before has rules node el k w → GoesOn el w
    goes_on {k = k} {w = w} (shows_text {folds = folds} {t = t} is) (live_text one) lt letters
        (in_letters {sets = sets} f) = by one.letters one.derives
      where
        by : {u : List ℕ} → AreLetters has u → Derives has rules (e.Text folds t) u → GoesOn (e.Text folds t) w
        by {u = u} all (der.text d) =
            let g = fit_rest sets k w u f (subst (λ v. Fit v u) (sym is) (text_fits d)) in
            record {
              rest = drop k u;
              letters = letters_drop has k u all;
              derives = der.text (fit_text folds t (w ++ drop k u) (subst (λ v. Fit v (w ++ drop k u)) is g));
            }
    goes_on {k = k} {w = w} (shows_values {vs = vs} is) (live_values one) lt letters (in_letters {sets = sets} f) =
        by one.derives
      where
        by : {u : List ℕ} → Derives has rules (e.Values vs) u → GoesOn (e.Values vs) w
        by (der.values all) =
            let g = fit_rest sets k w vs f (subst (λ v. Fit v vs) (sym is) (values_fit vs)) in
            let same = fit_values vs (w ++ drop k vs) (subst (λ v. Fit v (w ++ drop k vs)) is g) in
            record {
              rest = drop k vs;
              letters = letters_drop has k vs all;
              derives = subst (λ v. Derives has rules (e.Values vs) v) (sym same) (der.values all);
            }
    goes_on {k = k} {w = w} (shows_range {low = low} {high = high}) (live_range one) lt letters
        (in_letters {sets = sets} f) = by one.derives
      where
        by : {u : List ℕ} → Derives has rules (e.Range low high) u → GoesOn (e.Range low high) w
        by (der.range {c = c} ge le is) =
            let g = fit_rest (Between low high ∷ []) k w (c ∷ []) f (fit_more (ge, le) fit_none) in
            let rest = letters_drop has k (c ∷ []) (is, tt) in
            record {
              rest = drop k (c ∷ []);
              letters = rest;
              derives = range_of low high (w ++ drop k (c ∷ []))
                  (letters_both has w (drop k (c ∷ [])) letters rest) g;
            }
    goes_on {k = k} {w = w} (shows_concat {es = es} all) (live_concat ls) lt letters (in_concat d) =
        let r = all_rest es k w ls d in record { rest = r.rest; letters = r.letters; derives = der.concat r.derives }
    goes_on (shows_alt all) (live_alt ls) lt letters (alt_begun less) = by all ls less
      where
        by : {ms : List ℕ} {es : Elements} {k : ℕ} → SpellAll rules limit nodes ms es → AreLive has rules es
            → k < length ms → GoesOn (e.Alt es) []
        by spell_none no_live less = absurd (omega (arith, less))
        by (spell_more sp all) (more_live one l ls) less =
            record { rest = one.word; letters = one.letters; derives = der.alt (this one.derives) }
    goes_on {w = w} (shows_alt {es = es} all) live lt letters (alt_done m same is d) =
        as_is w (der.alt (some_of has rules es m is d))
    goes_on (shows_rep {a = a} {b = b} least most bounds never sp) (live_rep within one l) lt letters
        (in_rep {j = j} ds turned inside) =
        rep_rest a j b within inside one ds
    goes_on (shows_iterations {a = a} {b = b} most some empty sp) (live_rep within one l) lt letters
        (in_iterations {j = j} ds turned few inside) =
        rep_rest a j b within inside one ds
    goes_on (shows_reversed less) live lt letters part = absurd (omega (arith, lt))
    goes_on (shows_name is) live lt letters part = absurd (omega (arith, lt))
    goes_on shows_prose live lt letters part = absurd (omega (arith, lt))
    goes_on (shows_opt sp) live lt letters opt_begun = as_is [] der.opt_empty
    goes_on {w = w} (shows_opt sp) live lt letters (opt_done d) = as_is w (der.opt d)
    goes_on (shows_opt sp) live lt letters opt_passed = as_is [] der.opt_empty

    -- the part that a called node spells, in its place
    pub record Part (node : Node) (el : Element) (t l : ℕ) (w : List ℕ) : Type 0 where
      pub of : Element
      pub spelled : Spells rules limit nodes t of
      pub live : IsLive has rules of
      pub on : (v : List ℕ) → Derives has rules of v → Before has rules node el l (w ++ v)

    live_at : {es : Elements} {el : Element} (k : ℕ) → AreLive has rules es → nth es k ≡ Some el → IsLive has rules el
    live_at k no_live is = absurd (cc is)
    live_at zero (more_live {el = first} one l ls) is = subst (λ v. IsLive has rules v) (cc is) l
    live_at (suc k) (more_live one l ls) is = live_at k ls is

    pub part_of : {node : Node} {el : Element} {k t l : ℕ} {w : List ℕ} → Calling node k t l
        → Shows rules limit nodes node el → IsLive has rules el →
        Before has rules node el k w → length w ≤ limit → Part node el t l w
    part_of {w = w} (Calling.member {ms = ms} {k = k} {s = s} is) (shows_concat {es = es} all) (live_concat ls)
        (in_concat d) short =
        let h = member_at has rules limit nodes k s all is in
        let one : suc k ≡ k + 1 = omega arith in
        record {
          of = h.el;
          spelled = h.spelled;
          live = live_at k ls h.is;
          on = λ v c. subst (λ z. Before has rules (Concat ms) (e.Concat es) z (w ++ v)) one
              (in_concat (all_snoc has rules es k w d h.is c));
        }
    part_of (Calling.alternative {k = k} {s = s} is) (shows_alt all) (live_alt ls) (alt_begun lt) short =
        let h = member_at has rules limit nodes k s all is in
        record { of = h.el; spelled = h.spelled; live = live_at k ls h.is; on = λ v c. alt_done k refl h.is c }
    part_of (Calling.alternative {ms = ms} {k = k} is) (shows_alt all) live (alt_done m same found d) short =
        absurd (let lt = get_below ms k is in omega (arith, lt, same))
    part_of (Calling.iteration {a = a} {k = k} {b = d} lt) (shows_rep {b = b} {el = el} least most bounds never s)
        (live_rep within one l) (in_rep {j = j} ds is inside) short =
        let few = iterations_most has rules never ds in
        let under : j ≤ limit = omega (arith, few, short) in
        record {
          of = el;
          spelled = s;
          live = l;
          on = λ v c. in_rep (times_snoc has rules ds c) (turned_more a j k d lt
              is) (next_within limit a j k b d most under lt is);
        }
    part_of (Calling.iteration_uncounted {a = a}) (shows_rep {b = b} {el = el} least most bounds never s)
        (live_rep within one l) (in_rep {j = j} ds is inside) short =
        let few = iterations_most has rules never ds in
        let under : j ≤ limit = omega (arith, few, short) in
        record {
          of = el;
          spelled = s;
          live = l;
          on = λ v c. in_rep (times_snoc has rules ds c) (omega
              (arith, is)) (free_within limit j b most under);
        }
    part_of {w = w} (Calling.takes {k = k} {b = d} lt) (shows_iterations {b = b} {el = el} most some empty s)
        (live_rep within one l) (in_iterations {j = j} ds is few inside) short =
        record {
          of = el;
          spelled = s;
          live = l;
          on = λ v c. in_iterations (times_snoc has rules ds c) (turned_more 0 j k d lt is)
              (few_counted d (suc j) k (w ++ v) lt) (next_counted limit j k b d most lt is);
        }
    part_of {w = w} (Calling.takes_uncounted {m = m}) (shows_iterations {a = a} {b = b} {el = el} most some empty s)
        (live_rep within one l) (in_iterations {j = j} ds is few inside) short =
        record { of = el; spelled = s; live = l; on = on }
      where
        -- an iteration without a letter is none
        on : (v : List ℕ) → Derives has rules el v → Before has rules (Iterations None m) (e.Rep a b el) 0 (w ++ v)
        on [] c = subst (λ u. Before has rules (Iterations None m) (e.Rep a b el) 0 u) (sym (append-nil w))
            (in_iterations ds is few inside)
        on (x ∷ v) c =
            let long = length-append w (x ∷ v) in
            let more : suc j ≤ length (w ++ x ∷ v) = omega (arith, long, few) in
            let enough : 0 ≡ min (suc j) 0 = omega arith in
            in_iterations (times_snoc has rules ds c) enough more
            (free_within limit j b most (omega (arith, few, short)))
    part_of Calling.operand (shows_opt {el = el} s) (live_opt l) opt_begun short =
        record { of = el; spelled = s; live = l; on = λ v c. opt_done c }
