-- The tokens that a canonical text is made of, each before what stands after.
-- Serves: print_abnf, is_abnf_read_back
use Rattle.std.proofs.Common.{◌≡◌, ℕ, ◌^◌, ◌<◌, ◌≤◌, ◌==◌, cond, Bool, true, false, Option, Some, None, List, [], ◌∷◌}
use Rattle.std.proofs.Common.{◌++◌, length, refl, sym, ap, ◌∙◌, subst, arith, append_assoc, append-nil, inl, inr}
use Rattle.std.proofs.Common.{decimal, MatchOption}
use Rattle.std.proofs.lemmas.Bool.{eqb-true}
use Rattle.std.specs.Str.Parse.{digits_value}
use Rattle.ruletable.specs.declared.span.Span.{Span}
use Rattle.lexer.specs.SliceEnds.{Lacks, Longest, found}
use Rattle.abnfread.specs.declared.kind.AbnfKind.{AbnfKind}
use Rattle.abnfread.specs.declared.kind.AbnfKind.TheVariants as kinds
use Rattle.abnfread.specs.AbnfKinds.{ends_list}
use Rattle.abnfread.specs.AbnfSays.{says_name, says_is, says_slash, says_lparen, says_rparen, says_lbrack, says_rbrack}
use Rattle.abnfread.specs.AbnfSays.{says_repeat, says_text, says_cased, says_num, says_prose}
use Rattle.abnfread.specs.AbnfSlices.{continues_name, is_quotable, is_prose, is_blank, is_inside, Run, none, more}
use Rattle.abnfread.specs.AbnfSlices.{Stops, Digits, digits, Dotted, no_dot, dot, Stands, slash, lparen, rparen}
use Rattle.abnfread.specs.AbnfSlices.{lbrack, rbrack, First, exactly, values}
use Rattle.abnfread.specs.AbnfWords as words
use Rattle.abnfread.specs.AbnfWords.{Said, Word, word}
use Rattle.abnfread.specs.BaseDigits.{is_digit, hexadecimal as sixteen}
use Rattle.abnfread.specs.MarkedTokens.{begins_rule}
use Rattle.abnfread.specs.Numerals.{SaysRepeat, says_exactly, says_between, most, Listed, last_number, more_numbers}
use Rattle.abnfread.specs.Numerals.{SaysNum, says_values, says_range}
use Rattle.abnfread.proofs.AbnfFirstLemmas.{longest-name, longest-count, longest-star, longest-is, longest-sign}
use Rattle.abnfread.proofs.AbnfFirstLemmas.{longest-text, longest-cased, longest-prose, longest-num, letter-dark}
use Rattle.abnfread.proofs.AbnfFirstLemmas.{digit-dark}
use Rattle.abnfread.proofs.ByteRunLemmas.{no-digit, dotted-none, dotted-back, dotted-shorter, dotted-longest}
use Rattle.abnfread.proofs.ByteRunLemmas.{numbers-range, range-longest, count-star, star-longest, count-longest}
use Rattle.abnfread.proofs.NumeralLemmas.{run-before, digits-run}
use Rattle.abnfprint.specs.CanonicalAbnf.{hexadecimal, dotted, values_text, least_text, repeat_text, quoted}
use Rattle.abnfprint.specs.FormedAbnf.{IsName, named}
use Rattle.abnfprint.proofs.AbnfCutsLemmas.{SaysLike, IsDark, Cuts, next, says-like, inside-of, run-map, run-both}
use Rattle.abnfprint.proofs.AbnfCutsLemmas.{run-dark}
use Rattle.abnfprint.proofs.PrintedNumberLemmas.{decimal-numeral, hexadecimal-numeral}
use Rattle.abnfprint.proofs.SameWordLemmas.{same_name}

pub refuted-false : (x : Bool) → (x ≡ true → ⊥) → x ≡ false
refuted-false true f = absurd (f refl)
refuted-false false f = refl

-- what stands after a name, a text or a number of a canonical text
pub data Follows : List ℕ → Type 0 where
  space : {r : List ℕ} → Follows (32 ∷ r)
  line : {r : List ℕ} → Follows (10 ∷ r)
  paren : {r : List ℕ} → Follows (41 ∷ r)
  brack : {r : List ℕ} → Follows (93 ∷ r)

stops-name : {r : List ℕ} → Follows r → Stops continues_name r
stops-name space = refl
stops-name line = refl
stops-name paren = refl
stops-name brack = refl

stops-hex : {r : List ℕ} → Follows r → Stops (is_digit 16) r
stops-hex space = refl
stops-hex line = refl
stops-hex paren = refl
stops-hex brack = refl

lacks-dot : {r : List ℕ} → Follows r → Lacks 46 r
lacks-dot space = omega arith
lacks-dot line = omega arith
lacks-dot paren = omega arith
lacks-dot brack = omega arith

lacks-dash : {r : List ℕ} → Follows r → Lacks 45 r
lacks-dash space = omega arith
lacks-dash line = omega arith
lacks-dash paren = omega arith
lacks-dash brack = omega arith

digits-before : {base : ℕ} {ds : List ℕ} (r : List ℕ) → Digits base ds [] → Digits base (ds ++ r) r
digits-before r (digits e h) = digits e (run-before r h)

digits-inside : {base : ℕ} {ds : List ℕ} → base ≤ 36 → Digits base ds [] → Run is_inside ds []
digits-inside {base} w h = run-map (inside-of (is_digit base) (no-digit base 10 36 refl w)) (digits-run h)

digit-light : (b : ℕ) → is_digit 10 b ≡ true → is_blank b ≡ false
digit-light b h = refuted-false (is_blank b) (λ e. digit-dark b h e)

-- anything may stand after it
abbrev pub Anything : List ℕ → Type 0
Anything r = Unit {0}

-- no count goes on with it
abbrev pub NoCount : List ℕ → Type 0
NoCount r = Stops (is_digit 10) r × Lacks 42 r

-- the slice is a token before what may stand after it, and says that
pub record IsToken (Follows : List ℕ → Type 0) (z : List ℕ) (w : Said) : Type 0 where
  pub kind : AbnfKind
  pub first : (r : List ℕ) → Follows r → First kind (z ++ r) r
  pub goes_on : ends_list kind ≡ false
  pub darkens : IsDark z
  pub like : (p : Span) → SaysLike kind z p w

pub token-cut : {Follows : List ℕ → Type 0} {z : List ℕ} {w : Said} {i : Option ℕ} {g : Bool} {ws : List Word}
    → IsToken Follows z w → (r : List ℕ) → Follows r → Cuts None false r ws →
    Cuts i g (z ++ r) (word g (begins_rule (Some 0) i) w ∷ ws)
token-cut t r h c = next (t.first r h) refl t.goes_on t.darkens t.like c

pub name-token : {n : List ℕ} (q : Span) → IsName n → IsToken Follows n (words.Name n q)
name-token q (named {b} {bs} h k) = record {
  kind = kinds.Name;
  first = λ r f. found (longest-name h (run-before r k) (stops-name f));
  goes_on = refl;
  darkens = run-dark b bs (refuted-false (is_blank b) (λ e. letter-dark b h e)) (run-map
      (inside-of continues_name refl) k);
  like = λ p. record { said = words.Name (b ∷ bs) p; same = same_name; says = says_name };
}

pub is-token : IsToken (Lacks 47) (61 ∷ []) words.Is
is-token = record {
  kind = kinds.Is;
  first = λ r h. found (longest-is h);
  goes_on = refl;
  darkens = run-dark 61 [] refl none;
  like = says-like (λ p. says_is);
}

pub slash-token : IsToken Anything (47 ∷ []) words.Slash
slash-token = record {
  kind = kinds.Slash;
  first = λ r h. found (longest-sign refl refl refl refl slash);
  goes_on = refl;
  darkens = run-dark 47 [] refl none;
  like = says-like (λ p. says_slash);
}

pub lparen-token : IsToken Anything (40 ∷ []) words.LParen
lparen-token = record {
  kind = kinds.LParen;
  first = λ r h. found (longest-sign refl refl refl refl lparen);
  goes_on = refl;
  darkens = run-dark 40 [] refl none;
  like = says-like (λ p. says_lparen);
}

pub rparen-token : IsToken Anything (41 ∷ []) words.RParen
rparen-token = record {
  kind = kinds.RParen;
  first = λ r h. found (longest-sign refl refl refl refl rparen);
  goes_on = refl;
  darkens = run-dark 41 [] refl none;
  like = says-like (λ p. says_rparen);
}

pub lbrack-token : IsToken Anything (91 ∷ []) words.LBrack
lbrack-token = record {
  kind = kinds.LBrack;
  first = λ r h. found (longest-sign refl refl refl refl lbrack);
  goes_on = refl;
  darkens = run-dark 91 [] refl none;
  like = says-like (λ p. says_lbrack);
}

pub rbrack-token : IsToken Anything (93 ∷ []) words.RBrack
rbrack-token = record {
  kind = kinds.RBrack;
  first = λ r h. found (longest-sign refl refl refl refl rbrack);
  goes_on = refl;
  darkens = run-dark 93 [] refl none;
  like = says-like (λ p. says_rbrack);
}

-- what a mark closes
run-closed : {f : ℕ → Bool} (c : ℕ) (t r : List ℕ) → Run f t [] → Run f ((t ++ c ∷ []) ++ r) (c ∷ r)
run-closed {f} c t r h =
    subst (λ (x : List ℕ). Run f x (c ∷ r)) (sym (append_assoc t (c ∷ []) r)) (run-before (c ∷ r) h)

quoted-inside : {t : List ℕ} → Run is_quotable t [] → Run is_inside (t ++ 34 ∷ []) []
quoted-inside h = run-both (run-map (inside-of is_quotable refl) h) (more refl none)

pub text-token : (t : List ℕ) → Run is_quotable t [] → IsToken Anything (quoted t) (words.Text true t)
text-token t h = record {
  kind = kinds.Text;
  first = λ r x. found (longest-text refl (run-closed 34 t r h));
  goes_on = refl;
  darkens = run-dark 34 (t ++ 34 ∷ []) refl (quoted-inside h);
  like = says-like (λ p. says_text refl);
}

pub cased-token : (t : List ℕ) → Run is_quotable t [] → IsToken Anything (37 ∷ 115 ∷ quoted t) (words.Text false t)
cased-token t h = record {
  kind = kinds.Text;
  first = λ r x. found (longest-cased refl refl (run-closed 34 t r h));
  goes_on = refl;
  darkens = run-dark 37 (115 ∷ quoted t) refl (more refl (more refl (quoted-inside h)));
  like = says-like (λ p. says_cased {c = 115} refl refl);
}

pub prose-token : (t : List ℕ) → Run is_prose t [] → IsToken Anything (60 ∷ (t ++ 62 ∷ [])) (words.Prose t)
prose-token t h = record {
  kind = kinds.Prose;
  first = λ r x. found (longest-prose refl (run-closed 62 t r h));
  goes_on = refl;
  darkens = run-dark 60 (t ++ 62 ∷ []) refl (run-both (run-map (inside-of is_prose refl) h) (more refl none));
  like = says-like (λ p. says_prose refl);
}

-- further values
record AreDots (t r : List ℕ) : Type 0 where
  dots : Dotted 16 t r
  farthest : (u : List ℕ) → Dotted 16 t u → length r ≤ length u
  stops : Stops (is_digit 16) t
  no_dash : Lacks 45 t

are-dots : (vs r : List ℕ) → Follows r → AreDots (dotted vs ++ r) r
are-dots [] r f = record {
  dots = no_dot;
  farthest = λ u h. (let e = dotted-none (lacks-dot f) h in rw e (omega arith));
  stops = stops-hex f;
  no_dash = lacks-dash f;
}
are-dots (v ∷ vs) r f =
    let rest = are-dots vs r f in
    let m = dotted vs ++ r in
    let own : Digits 16 ((hexadecimal v ++ dotted vs) ++ r) m =
    subst (λ (x : List ℕ). Digits 16 x m) (sym (append_assoc (hexadecimal v) (dotted vs) r))
    (digits-before m (hexadecimal-numeral v).are_digits) in
    record {
      dots = dot own rest.dots;
      farthest = λ u h. elim (dotted-back (omega arith) refl own rest.stops h)
          [ inl l ↦ (let s = dotted-shorter rest.dots in omega arith) | inr k ↦ rest.farthest u k ];
      stops = refl;
      no_dash = omega arith;
    }

hex-inside : (v : ℕ) → Run is_inside (hexadecimal v) []
hex-inside v = digits-inside (omega arith) (hexadecimal-numeral v).are_digits

dotted-inside : (vs : List ℕ) → Run is_inside (dotted vs) []
dotted-inside [] = none
dotted-inside (v ∷ vs) = more refl (run-both (hex-inside v) (dotted-inside vs))

values-listed : (v : ℕ) (vs : List ℕ) → Listed 16 (values_text (v ∷ vs)) (v ∷ vs)
values-listed v [] =
    let n = hexadecimal-numeral v in
    subst (λ (x : List ℕ). Listed 16 x (v ∷ [])) (sym (append-nil (hexadecimal v)))
    (subst (λ (y : ℕ). Listed 16 (hexadecimal v) (y ∷ [])) n.value (last_number n.are_digits))
values-listed v (u ∷ us) =
    let n = hexadecimal-numeral v in
    subst (λ (y : ℕ). Listed 16 (values_text (v ∷ u ∷ us)) (y ∷ u ∷ us)) n.value
    (more_numbers refl n.are_digits (values-listed u us))

pub values-token : (v : ℕ) (vs : List ℕ) → IsToken Follows (37 ∷ 120 ∷ values_text (v ∷ vs)) (words.Values (v ∷ vs))
values-token v vs = record {
  kind = kinds.Num;
  first = λ r f. (
      let d = are-dots vs r f in
      let own : Digits 16 ((hexadecimal v ++ dotted vs) ++ r) (dotted vs ++ r) =
      subst (λ (x : List ℕ). Digits 16 x (dotted vs ++ r)) (sym (append_assoc (hexadecimal v) (dotted vs) r))
      (digits-before (dotted vs ++ r) (hexadecimal-numeral v).are_digits) in
      found (longest-num refl (sixteen refl) (values own d.dots)
      (λ s x. dotted-longest (omega arith) own d.stops d.no_dash d.dots d.farthest x)));
  goes_on = refl;
  darkens = run-dark 37 (120 ∷ values_text (v ∷ vs)) refl (more refl (run-both (hex-inside v) (dotted-inside vs)));
  like = says-like (λ p. says_num (says_values (sixteen refl) (values-listed v vs)));
}

pub range-token : (a b : ℕ) → IsToken Follows (37 ∷ 120 ∷ (hexadecimal a ++ 45 ∷ hexadecimal b)) (words.Range a b)
range-token a b = record {
  kind = kinds.Num;
  first = λ r f. (
      let m = 45 ∷ (hexadecimal b ++ r) in
      let low : Digits 16 ((hexadecimal a ++ 45 ∷ hexadecimal b) ++ r) m =
      subst (λ (x : List ℕ). Digits 16 x m) (sym (append_assoc (hexadecimal a) (45 ∷ hexadecimal b) r))
      (digits-before m (hexadecimal-numeral a).are_digits) in
      let high = digits-before r (hexadecimal-numeral b).are_digits in
      found (longest-num refl (sixteen refl) (numbers-range low refl high)
      (λ s x. range-longest (omega arith) low refl refl high (stops-hex f) x)));
  goes_on = refl;
  darkens = run-dark 37 (120 ∷ (hexadecimal a ++ 45 ∷ hexadecimal b)) refl
      (more refl (run-both (hex-inside a) (more refl (hex-inside b))));
  like = says-like (λ p. says_num (range-said a b));
}
  where
    range-said : (a b : ℕ) → SaysNum (37 ∷ 120 ∷ (hexadecimal a ++ 45 ∷ hexadecimal b)) (words.Range a b)
    range-said a b =
        let x = hexadecimal-numeral a in
        let y = hexadecimal-numeral b in
        let z = 37 ∷ 120 ∷ (hexadecimal a ++ 45 ∷ hexadecimal b) in
        subst (λ (k : ℕ). SaysNum z (words.Range k b)) x.value
        (subst (λ (k : ℕ). SaysNum z (words.Range (digits_value 16 (hexadecimal a)) k)) y.value
        (says_range (sixteen refl) refl x.are_digits y.are_digits))

-- a repeat's slice, and what it says
record IsCount (z : List ℕ) (a : ℕ) (b : Option ℕ) : Type 0 where
  longest : (r : List ℕ) → NoCount r → Longest Stands kinds.Repeat (z ++ r) r
  darkens : IsDark z
  says : SaysRepeat z a b

digits-dark : {ds : List ℕ} (es : List ℕ) → Digits 10 ds [] → Run is_inside es [] → IsDark (ds ++ es)
digits-dark es (digits {b} {bs} e h) k = run-dark b (bs ++ es) (digit-light b e)
    (run-both (run-map (inside-of (is_digit 10) refl) h) k)

exactly-longest : {ds : List ℕ} (r : List ℕ) → Digits 10 ds [] → NoCount r → Longest Stands kinds.Repeat (ds ++ r) r
exactly-longest r (digits e h) n = longest-count e (exactly (run-before r h))
    (λ s x. count-longest (run-before r h) n.0 n.1 x)

between-longest : {ds es : List ℕ} (r : List ℕ) → Digits 10 ds [] → Run (is_digit 10) es [] → NoCount r
    → Longest Stands kinds.Repeat ((ds ++ 42 ∷ es) ++ r) r
between-longest {es = es} r (digits {bs} e h) k n =
    let first : Run (is_digit 10) ((bs ++ 42 ∷ es) ++ r) (42 ∷ (es ++ r)) =
    subst (λ (x : List ℕ). Run (is_digit 10) x (42 ∷ (es ++ r))) (sym (append_assoc bs (42 ∷ es) r))
    (run-before (42 ∷ (es ++ r)) h) in
    longest-count e (count-star first refl (run-before r k))
    (λ s x. star-longest first refl refl (run-before r k) n.0 x)

star-count : {es : List ℕ} → Run (is_digit 10) es [] → IsCount (42 ∷ es) 0 (most es)
star-count {es} k = record {
  longest = λ r n. longest-star refl (run-before r k) n.0;
  darkens = run-dark 42 es refl (run-map (inside-of (is_digit 10) refl) k);
  says = says_between {ds = []} refl none k;
}

between-count : {ds es : List ℕ} → Digits 10 ds [] → Run (is_digit 10) es []
    → IsCount (ds ++ 42 ∷ es) (digits_value 10 ds) (most es)
between-count {ds} {es} d k = record {
  longest = λ r n. between-longest r d k n;
  darkens = digits-dark (42 ∷ es) d (more refl (run-map (inside-of (is_digit 10) refl) k));
  says = says_between refl (digits-run d) k;
}

exactly-count : {ds : List ℕ} → Digits 10 ds [] → IsCount ds (digits_value 10 ds) (Some (digits_value 10 ds))
exactly-count {ds} d = record {
  longest = λ r n. exactly-longest r d n;
  darkens = subst IsDark (append-nil ds) (digits-dark [] d none);
  says = says_exactly d;
}

most-is : {ds : List ℕ} → Digits 10 ds [] → most ds ≡ Some (digits_value 10 ds)
most-is (digits e h) = refl

-- the number before the star, if any, the star, and what stands after it
least-count : (a : ℕ) {es : List ℕ} → a < 2 ^ 64 → Run (is_digit 10) es []
    → IsCount (least_text a ++ 42 ∷ es) a (most es)
least-count a {es} h k = by (a == 0) refl
  where
    by : (x : Bool) → (a == 0) ≡ x → IsCount (cond x [] (decimal a) ++ 42 ∷ es) a (most es)
    by true e = let zero_is = eqb-true a 0 e in rw zero_is (star-count k)
    by false e = let n = decimal-numeral a h in subst (λ (m : ℕ). IsCount (decimal a ++ 42 ∷ es) m (most es)) n.value
        (between-count n.are_digits k)

count-of : (a : ℕ) (b : Option ℕ) → a < 2 ^ 64 → MatchOption b (Unit {0}) (λ n. n < 2 ^ 64)
    → IsCount (repeat_text a b) a b
count-of a None h k = least-count a h none
count-of a (Some b) h k = by (a == b) refl
  where
    by : (x : Bool) → (a == b) ≡ x → IsCount (cond x (decimal a) (least_text a ++ 42 ∷ decimal b)) a (Some b)
    by true e =
        let n = decimal-numeral a h in
        let same : digits_value 10 (decimal a) ≡ b = n.value ∙ eqb-true a b e in
        subst (λ (m : ℕ). IsCount (decimal a) m (Some b)) n.value
        (subst (λ (m : ℕ). IsCount (decimal a) (digits_value 10 (decimal a)) (Some m)) same
        (exactly-count n.are_digits))
    by false e =
        let n = decimal-numeral b k in
        subst (λ (o : Option ℕ). IsCount (least_text a ++ 42 ∷ decimal b) a o)
        (most-is n.are_digits ∙ ap (λ (m : ℕ). Some m) n.value) (least-count a h (digits-run n.are_digits))

pub repeat-token : (a : ℕ) (b : Option ℕ) → a < 2 ^ 64 → MatchOption b (Unit {0}) (λ n. n < 2 ^ 64)
    → IsToken NoCount (repeat_text a b) (words.Repeat a b)
repeat-token a b h k =
    let c = count-of a b h k in
    record {
      kind = kinds.Repeat;
      first = λ r n. found (c.longest r n);
      goes_on = refl;
      darkens = c.darkens;
      like = says-like (λ p. says_repeat c.says);
    }
