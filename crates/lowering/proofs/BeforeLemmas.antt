-- What lies before a step of a node.
-- Serves: items_decide, lower, judge, lower_viable.
use Rattle.std.proofs.Common.{◌≡◌, ℕ, zero, suc, ◌+◌, ◌<◌, ◌≤◌, min, Bool, true, false, List, [], ◌∷◌, ◌++◌, map}
use Rattle.std.proofs.Common.{length, take, refl, sym, ap, subst, arith, append_assoc, length-append, ◌-◌, ◌⊎◌, inl}
use Rattle.std.proofs.Common.{inr}
use Rattle.std.specs.Prelude.{slice_get, Option, Some, None}
use Rattle.std.proofs.lemmas.List.{append-nil}
use Rattle.std.proofs.lemmas.Bool.{cases_lt}
use Rattle.abnfread.specs.Element as e
use Rattle.abnfread.specs.Element.{Element, Elements, none, more, Rule, body_of}
use Rattle.abnfcheck.specs.Derivable as der
use Rattle.abnfcheck.specs.Derivable.{AreLetters, Derives, DerivesAll, DerivesSome, DerivesTimes, Spelled, all_done}
use Rattle.abnfcheck.specs.Derivable.{then, this, later, no_more, one_more}
use Rattle.flatgrammar.specs.Flat.{Node, Set, Has, Exactly, Between, Letters, Concat, Alt, Rep, Iterations, Opt, top}
use Rattle.flatgrammar.specs.Flat.{Begins}
use Rattle.flatgrammar.proofs.SliceGetLemmas.{get_below}
use Rattle.flatgrammar.specs.Flat.{IsDone, Reading, Calling, IsTaking, is_taking}
use Rattle.flatgrammar.specs.Flat.{capped}
use Rattle.lowering.proofs.CappedMostLemmas.{free_within, counted_within}
use Rattle.lowering.specs.NullElements.{IsNeverEmpty}
use Rattle.lowering.specs.Lowered.{letter_set, capped_most, Spells, Shows, shows_text, shows_values, shows_range}
use Rattle.lowering.specs.Lowered.{shows_concat, shows_alt, shows_rep, shows_iterations, shows_opt, SpellAll}
use Rattle.lowering.specs.Lowered.{spell_none}
use Rattle.lowering.specs.Lowered.{spell_more}

-- letters that lie in sets, one by one
pub data Fit : List Set → List ℕ → Type 0 where
  fit_none : Fit [] []
  fit_more : {set : Set} {sets : List Set} {c : ℕ} {w : List ℕ} → Has set c → Fit sets w → Fit (set ∷ sets) (c ∷ w)

fit_snoc : (sets : List Set) (k : ℕ) (w : List ℕ) (c : ℕ) {set : Set} → Fit (take k sets) w
    → slice_get sets k ≡ Some set → Has set c →
    Fit (take (suc k) sets) (w ++ c ∷ [])
fit_snoc [] k w c f is h = absurd cc
fit_snoc (s ∷ sets) zero w c {set = set} fit_none is h = let same : set ≡ s = cc in
    fit_more (subst (λ v. Has v c) same h) fit_none
fit_snoc (s ∷ sets) (suc k) w c (fit_more {w = v} g f) is h = fit_more g (fit_snoc sets k v c f is h)

fit_all : (sets : List Set) (w : List ℕ) → Fit (take (length sets) sets) w → Fit sets w
fit_all [] w f = f
fit_all (s ∷ sets) w (fit_more {w = v} g f) = fit_more g (fit_all sets v f)

-- the first k members, and member k
abbrev pub first : ℕ → Elements → Elements
first zero es = none
first (suc k) none = none
first (suc k) (more e es) = more e (first k es)

abbrev pub nth : Elements → ℕ → Option Element
nth none k = None
nth (more e es) zero = Some e
nth (more e es) (suc k) = nth es k

pub fit_text : (folds : Bool) (t w : List ℕ) → Fit (map (letter_set folds) t) w → Spelled folds t w
fit_text folds [] w fit_none = der.end
fit_text true (b ∷ t) w (fit_more {w = v} h f) = der.next h (fit_text true t v f)
fit_text false (b ∷ t) w (fit_more {w = v} h f) = der.next h (fit_text false t v f)

pub fit_values : (vs w : List ℕ) → Fit (map Exactly vs) w → w ≡ vs
fit_values [] w fit_none = refl
fit_values (b ∷ vs) w (fit_more {c = c} {w = v} h f) = let rest = fit_values vs v f in let same : c ≡ b = h in cc

pub text_fits : {folds : Bool} {t w : List ℕ} → Spelled folds t w → Fit (map (letter_set folds) t) w
text_fits der.end = fit_none
text_fits {folds = true} (der.next h d) = fit_more h (text_fits d)
text_fits {folds = false} (der.next h d) = fit_more h (text_fits d)

pub values_fit : (vs : List ℕ) → Fit (map Exactly vs) vs
values_fit [] = fit_none
values_fit (v ∷ vs) = fit_more refl (values_fit vs)

-- how many iterations were taken where the step is k
abbrev pub Turned : ℕ → Option ℕ → ℕ → ℕ → Type 0
Turned least None j k = k ≡ min j least
Turned least (Some most) j k = k ≡ j

-- iterations that are not counted take a letter each
abbrev pub Few : Option ℕ → ℕ → List ℕ → Type 0
Few None j w = j ≤ length w
Few (Some most) j w = Unit {0}

few_none : (b : Option ℕ) → Few b 0 []
few_none None = omega arith
few_none (Some b) = tt

none_within : (b : Option ℕ) → der.AtMost 0 b
none_within None = tt
none_within (Some b) = omega arith

pub few_counted : (b : Option ℕ) (j k : ℕ) (w : List ℕ) → k < top 0 b → Few b j w
few_counted None j k w lt = absurd (omega (arith, lt))
few_counted (Some b) j k w lt = tt

-- a further iteration is within the bounds of the element
pub next_within : (limit a j k : ℕ) (b d : Option ℕ) → d ≡ capped_most limit b → j ≤ limit → k < top a d
    → Turned a d j k → der.AtMost (suc j) b
next_within limit a j k b None is under lt turned = free_within limit j b is under
next_within limit a j k b (Some n) is under lt turned = counted_within limit j k n b is lt turned

pub next_counted : (limit j k : ℕ) (b d : Option ℕ) → d ≡ capped_most limit b → k < top 0 d → Turned 0 d j k
    → der.AtMost (suc j) b
next_counted limit j k b None is lt turned = absurd (omega (arith, lt))
next_counted limit j k b (Some n) is lt turned = counted_within limit j k n b is lt turned

pub turned_none : (a : ℕ) (b : Option ℕ) → Turned a b 0 0
turned_none a None = omega arith
turned_none a (Some b) = refl

pub turned_more : (a j k : ℕ) (b : Option ℕ) → k < top a b → Turned a b j k → Turned a b (suc j) (k + 1)
turned_more a j k None lt is = omega arith
turned_more a j k (Some b) lt is = omega arith

pub turned_enough : (a j k : ℕ) (b : Option ℕ) → a ≤ k → k ≤ top a b → Turned a b j k → (a ≤ j) × der.AtMost j b
turned_enough a j k None low high is = (omega arith, tt)
turned_enough a j k (Some b) low high is = (omega arith, omega arith)

first_all : (rules : List Rule) (limit : ℕ) (nodes : List Node) {ms : List ℕ} {es : Elements}
    → SpellAll rules limit nodes ms es → first (length ms) es ≡ es
first_all rules limit nodes spell_none = refl
first_all rules limit nodes (spell_more {el = el} s all) = ap (λ v. more el v) (first_all rules limit nodes all)

module _ (has : ℕ → Bool) (rules : List Rule) where
  pub all_snoc : (es : Elements) (k : ℕ) (w : List ℕ) {el : Element} {v : List ℕ} → DerivesAll has rules (first k es) w
      → nth es k ≡ Some el → Derives has rules el v →
      DerivesAll has rules (first (suc k) es) (w ++ v)
  all_snoc none k w d is c = absurd cc
  all_snoc (more e es) zero w {el = el} {v = v} all_done is c =
      let same : el ≡ e = cc in
      subst (λ u. DerivesAll has rules (more e none) u) (append-nil v)
      (then (subst (λ u. Derives has rules u v) same c) all_done)
  all_snoc (more e es) (suc k) w {v = v} (then {w = u} {v = u'} d ds) is c =
      subst (λ z. DerivesAll has rules (more e (first (suc k) es)) z) (sym (append_assoc u u' v))
      (then d (all_snoc es k u' ds is c))

  pub times_snoc : {k : ℕ} {el : Element} {w v : List ℕ} → DerivesTimes has rules el k w → Derives has rules el v
      → DerivesTimes has rules el (suc k) (w ++ v)
  times_snoc {el = el} {v = v} no_more c = subst (λ u. DerivesTimes has rules el 1 u) (append-nil v)
      (one_more c no_more)
  times_snoc {el = el} {v = v} (one_more {k = k} {w = u} {v = u'} d ds) c =
      subst (λ z. DerivesTimes has rules el (suc (suc k)) z) (sym (append_assoc u u' v)) (one_more d (times_snoc ds c))

  pub some_of : (es : Elements) (k : ℕ) {el : Element} {w : List ℕ} → nth es k ≡ Some el → Derives has rules el w
      → DerivesSome has rules es w
  some_of none k is d = absurd cc
  some_of (more e es) zero {el = el} {w = w} is d =
      this (let same : el ≡ e = cc in subst (λ u. Derives has rules u w) same d)
  some_of (more e es) (suc k) is d = later (some_of es k is d)

  -- `Before node el k w`: w lies before step k of the node, which spells el
  pub data Before : Node → Element → ℕ → List ℕ → Type 0 where
    in_letters : {sets : List Set} {el : Element} {k : ℕ} {w : List ℕ} → Fit (take k sets) w
        → Before (Letters sets) el k w
    in_concat : {ms : List ℕ} {es : Elements} {k : ℕ} {w : List ℕ} → DerivesAll has rules (first k es) w
        → Before (Concat ms) (e.Concat es) k w
    alt_begun : {ms : List ℕ} {es : Elements} {k : ℕ} → k < length ms → Before (Alt ms) (e.Alt es) k []
    alt_done : {ms : List ℕ} {es : Elements} {el : Element} {k : ℕ} {w : List ℕ} (m : ℕ) → k ≡ length ms + m
        → nth es m ≡ Some el → Derives has rules el w →
        Before (Alt ms) (e.Alt es) k w
    in_iterations : {m j k : ℕ} {c : ℕ} {b d : Option ℕ} {el : Element} {w : List ℕ} → DerivesTimes has rules el j w
        → Turned 0 b j k → Few b j w → der.AtMost j d →
        Before (Iterations b m) (e.Rep c d el) k w
    in_rep : {a c m j k : ℕ} {b d : Option ℕ} {el : Element} {w : List ℕ} → DerivesTimes has rules el j w
        → Turned a b j k → der.AtMost j d →
        Before (Rep a b m) (e.Rep c d el) k w
    opt_begun : {m : ℕ} {el : Element} → Before (Opt m) (e.Opt el) 0 []
    opt_done : {m : ℕ} {el : Element} {w : List ℕ} → Derives has rules el w → Before (Opt m) (e.Opt el) 2 w
    opt_passed : {m : ℕ} {el : Element} → Before (Opt m) (e.Opt el) 1 []

  start_part_rep : (a c m : ℕ) (b d : Option ℕ) (el : Element) → Before (Rep a b m) (e.Rep c d el) 0 []
  start_part_rep a c m b d el = in_rep no_more (turned_none a b) (none_within d)

  start_part_iterations : (c m : ℕ) (b d : Option ℕ) (el : Element) → Before (Iterations b m) (e.Rep c d el) 0 []
  start_part_iterations c m b d el = in_iterations no_more (turned_none 0 b) (few_none b) (none_within d)

  pub read_part : {node : Node} {el : Element} {k l : ℕ} {set : Set} {w : List ℕ} (c : ℕ) → Reading node k set l
      → Has set c → Before node el k w → Before node el l (w ++ c ∷ [])
  read_part c (Reading.letter {sets = sets} {k = k} is) h (in_letters {el = el} {w = w} f) =
      let one : suc k ≡ k + 1 = omega arith in
      subst (λ v. Before (Letters sets) el v (w ++ c ∷ [])) one (in_letters (fit_snoc sets k w c f is h))

  -- iterations of an element that never derives the empty list take as many letters at least
  pub iterations_most : {el : Element} {k : ℕ} {w : List ℕ} → IsNeverEmpty rules el → DerivesTimes has rules el k w
      → k ≤ length w
  iterations_most never no_more = omega arith
  iterations_most never (one_more {w = []} d ds) = absurd (never has d)
  iterations_most never (one_more {k = k} {w = c ∷ w} {v = v} d ds) =
      let rest = iterations_most never ds in let all = length-append w v in omega (arith, rest, all)

  -- where an element derives the empty list, more iterations of it change nothing
  pub padded_times : {el : Element} {w : List ℕ} {k : ℕ} (n : ℕ) → Derives has rules el []
      → DerivesTimes has rules el k w
      → DerivesTimes has rules el (n + k) w
  padded_times {el = el} {w = w} {k = k} zero empty d = let same : k ≡ zero + k = omega arith in
      subst (λ v. DerivesTimes has rules el v w) same d
  padded_times {el = el} {w = w} {k = k} (suc n) empty d =
      let same : suc (n + k) ≡ suc n + k = omega arith in subst (λ v. DerivesTimes has rules el v w) same
      (one_more empty (padded_times n empty d))

  module _ (limit : ℕ) (nodes : List Node) where
    pub start_part : {node : Node} {el : Element} {k : ℕ} → Begins node k → Shows rules limit nodes node el
        → Before node el k []
    start_part Begins.letters shown = in_letters fit_none
    start_part Begins.concat (shows_concat all) = in_concat all_done
    start_part (Begins.alt lt) (shows_alt all) = alt_begun lt
    start_part Begins.rep (shows_rep {a = a} {c = c} {m = m} {b = b} {d = d} {el = el} low high bounds never s) =
        start_part_rep c a m d b el
    start_part Begins.iterations (shows_iterations {a = a} {m = m} {b = b} {d = d} {el = el} high within empty s) =
        start_part_iterations a m d b el
    start_part Begins.opt (shows_opt s) = opt_begun
    start_part Begins.opt_empty (shows_opt s) = opt_passed

    pub record Member (es : Elements) (k t : ℕ) : Type 0 where
      pub el : Element
      pub is : nth es k ≡ Some el
      pub spelled : Spells rules limit nodes t el

    pub member_at : {ms : List ℕ} {es : Elements} (k t : ℕ) → SpellAll rules limit nodes ms es → slice_get ms k ≡ Some t
        → Member es k t
    member_at k t spell_none is = absurd cc
    member_at zero t (spell_more {m = m} {el = el} s all) is =
        record {
          el = el;
          is = refl;
          spelled = (let same : m ≡ t = cc in subst (λ v. Spells rules limit nodes v el) same
              s);
        }
    member_at (suc k) t (spell_more s all) is = let h = member_at k t all is in
        record { el = h.el; is = h.is; spelled = h.spelled }

    pub call_part : {node : Node} {el : Element} {k t l : ℕ} {w v : List ℕ} → Calling node k t l
        → Shows rules limit nodes node el → Before node el k w → length w ≤ limit → (IsTaking node → 0 < length v) →
        ((el' : Element) → Spells rules limit nodes t el' → Derives has rules el' v) → Before node el l (w ++ v)
    call_part {v = v} (Calling.member {k = k} {s = s} is) (shows_concat {ms = ms} {es = es} all) (in_concat {w = w} d)
        short some from =
        let h = member_at k s all is in
        let one : suc k ≡ k + 1 = omega arith in
        subst (λ z. Before (Concat ms) (e.Concat es) z (w ++ v)) one
        (in_concat (all_snoc es k w d h.is (from h.el h.spelled)))
    call_part (Calling.alternative {k = k} {s = s} is) (shows_alt all) (alt_begun lt) short some from =
        let h = member_at k s all is in alt_done k refl h.is (from h.el h.spelled)
    call_part (Calling.alternative {ms = ms} {k = k} is) (shows_alt all) (alt_done m same at d) short some from =
        absurd (omega (arith, get_below ms k is))
    call_part {w = w} (Calling.iteration {a = a} {k = k} {b = d} lt)
        (shows_rep {b = b} {el = el} low high bounds never s)
        (in_rep {j = j} ds is within) short some from =
        let few = iterations_most never ds in
        let under : j ≤ limit = omega (arith, few, short) in
        in_rep (times_snoc ds (from el s)) (turned_more a j k d lt is) (next_within limit a j k b d high under lt is)
    call_part {w = w} (Calling.iteration_uncounted {a = a}) (shows_rep {b = b} {el = el} low high bounds never s)
        (in_rep {j = j} ds is within) short some from =
        let few = iterations_most never ds in
        let under : j ≤ limit = omega (arith, few, short) in
        let enough : a ≡ min (suc j) a = omega arith in
        in_rep (times_snoc ds (from el s)) enough (free_within limit j b high under)
    call_part {w = w} {v = v} (Calling.takes {k = k} {b = d} lt)
        (shows_iterations {b = b} {el = el} high bounds empty s)
        (in_iterations {j = j} ds is few within) short some from =
        in_iterations (times_snoc ds (from el s)) (turned_more 0 j k d lt is) (few_counted d (suc j) k (w ++ v) lt)
        (next_counted limit j k b d high lt is)
    call_part {w = w} {v = v} Calling.takes_uncounted (shows_iterations {b = b} {el = el} high bounds empty s)
        (in_iterations {j = j} ds is few within) short some from =
        let enough : 0 ≡ min (suc j) 0 = omega arith in
        let long = length-append w v in
        let one = some is_taking in
        let more : suc j ≤ length (w ++ v) = omega (arith, long, one, few) in
        in_iterations (times_snoc ds (from el s)) enough more (free_within limit j b high (omega (arith, few, short)))
    call_part Calling.operand (shows_opt {el = el} s) opt_begun short some from = opt_done (from el s)

    pub end_part : {node : Node} {el : Element} {k : ℕ} {w : List ℕ} → IsDone node k → Shows rules limit nodes node el
        → AreLetters has w → length w ≤ limit → Before node el k w → Derives has rules el w
    end_part (IsDone.letters {sets = sets} at) (shows_text {folds = folds} {t = t} is) letters short
        (in_letters {w = w} f) =
        let g = fit_all sets w (subst (λ v. Fit (take v sets) w) at f) in
        der.text (fit_text folds t w (subst (λ v. Fit v w) is g))
    end_part (IsDone.letters {sets = sets} at) (shows_values {vs = vs} is) letters short (in_letters {w = w} f) =
        let g = fit_all sets w (subst (λ v. Fit (take v sets) w) at f) in
        let same = fit_values vs w (subst (λ v. Fit v w) is g) in
        subst (λ v. Derives has rules (e.Values vs) v) (sym same) (der.values (subst (AreLetters has) same letters))
    end_part (IsDone.letters {sets = sets} at) (shows_range {low = low} {high = high}) letters short
        (in_letters {w = w} f) =
        range_of low high w letters (fit_all sets w (subst (λ v. Fit (take v sets) w) at f))
      where
        range_of : (low high : ℕ) (w : List ℕ) → AreLetters has w → Fit (Between low high ∷ []) w
            → Derives has rules (e.Range low high) w
        range_of low high w letters (fit_more h fit_none) = der.range h.0 h.1 letters.0
    end_part (IsDone.concat at) (shows_concat {ms = ms} {es = es} all) letters short (in_concat {w = w} d) =
        der.concat (subst (λ v. DerivesAll has rules v w) (first_all rules limit nodes all)
        (subst (λ v. DerivesAll has rules (first v es) w) at d))
    end_part (IsDone.alt lt) (shows_alt all) letters short (alt_begun less) = absurd (omega arith)
    end_part (IsDone.alt {k = k} lt) (shows_alt {es = es} all) letters short (alt_done {el = el} m same is d) =
        der.alt (some_of es m is d)
    end_part (IsDone.rep {a = c} {k = k} {b = d} low high) (shows_rep {a = a} least most bounds never s) letters short
        (in_rep {j = j} ds is within) =
        let h = turned_enough c j k d low high is in
        let few = iterations_most never ds in
        let under : j ≤ limit = omega (arith, few, short) in
        der.rep (uncapped a c j least under h.0) within ds
      where
        uncapped : (a c j : ℕ) → c ≡ capped limit a → j ≤ limit → c ≤ j → a ≤ j
        uncapped a c j is under le = omega (arith, is, under, le)
    end_part (IsDone.iterations high) (shows_iterations {a = a} {b = b} {el = el} most bounds empty s) letters short
        (in_iterations {j = j} {w = w} ds is few within) =
        by (cases_lt j a)
      where
        by : ((j < a) ⊎ (a ≤ j)) → Derives has rules (e.Rep a b el) w
        by (inl less) =
            let all : a - j + j ≡ a = omega (arith, less) in
            der.rep {k = a} (omega arith) bounds (subst (λ v. DerivesTimes has rules el v w) all
            (padded_times (a - j) (empty has) ds))
        by (inr le) = der.rep {k = j} le within ds
    end_part IsDone.opt (shows_opt s) letters short (opt_done d) = der.opt d
    end_part IsDone.opt_empty (shows_opt s) letters short opt_passed = der.opt_empty
