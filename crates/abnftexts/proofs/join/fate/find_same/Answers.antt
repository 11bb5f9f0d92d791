-- Rules that are the same have one key, so the first that is the same stands where the first one of its key does.
use Prim.Native.Char.{code}
use Rattle.std.proofs.Common.{◌≡◌, ℕ, ◌≤◌, ◌+◌, ◌&&◌, ◌==◌, not, Bool, true, false, List, [], ◌∷◌, ◌++◌, Option, None}
use Rattle.std.proofs.Common.{Some, refl, sym, ap, ◌∙◌, subst, arith, length, map, drop}
use Rattle.std.specs.List.{prefix_len}
use Rattle.std.specs.Option.{unwrap_or}
use Rattle.std.specs.Prelude.{bytes_eq, slice_get}
use Rattle.std.specs.Str.{str_to_ascii_lowercase}
use Rattle.std.proofs.lemmas.Bool.{eqb-true}
use Rattle.std.proofs.lemmas.List.{length-map}
use Rattle.std.proofs.lemmas.List.Sums.{prefix_len-le-length}
use Rattle.std.proofs.lemmas.Slice.Eq.{bytes_eq-Decides}
use Rattle.ruletable.specs.Rules.{same_name}
use Rattle.ruletable.specs.declared.table.NameCase.TheVariants.{Fold}
use Rattle.abnfread.specs.Element.{Element, Elements, Text, Values, Range, Concat, Alt, Rep, Opt, Name, Prose, none}
use Rattle.abnfread.specs.Element.{more}
use Rattle.diagnostics.specs.NumberLists.{positions_from}
use Rattle.abnftexts.specs.GivenRules.{RuleGiven, first_same, is_same_rule, text_rule}
use Rattle.abnftexts.specs.ListedRules.{has_key}
use Rattle.abnftexts.specs.RuleKeys.{element_key, exact_key, folded_key, members_key, numbers_key, rule_key, rule_mark}
use Rattle.abnftexts.specs.SameElements.{all_same, same_as, same_bound, same_flag, same_spelling}
use Rattle.abnftexts.specs.declared.join.given.GivenRule.{GivenRule}
use Rattle.abnftexts.proofs.FatesLemmas.{one-fails, one-passes}
use Rattle.abnftexts.proofs.ListNamesLemmas.{first-listed, search-later}
use Rattle.abnftexts.proofs.join.fate.find_same.Goals as goal

both-true : (a b : Bool) → (a && b) ≡ true → (a ≡ true) × (b ≡ true)
both-true true b h = (refl, h)
both-true false b h = absurd (cc h)

flag-same : (f g : Bool) → same_flag f g ≡ true → f ≡ g
flag-same true true h = refl
flag-same true false h = absurd (cc h)
flag-same false true h = absurd (cc h)
flag-same false false h = refl

bytes-same : (a b : List ℕ) → bytes_eq a b ≡ true → a ≡ b
bytes-same a b = (bytes_eq-Decides a b).0

name-same : (mark : ℕ) (a b : List ℕ) → same_name Fold a b ≡ true → folded_key mark a ≡ folded_key mark b
name-same mark a b h = ap (λ (t : List ℕ). mark ∷ (t ++ code "\n" ∷ []))
    (bytes-same (str_to_ascii_lowercase a) (str_to_ascii_lowercase b) h)

bound-same : (a b : Option ℕ) → same_bound a b ≡ true → a ≡ b
bound-same None None h = refl
bound-same (Some n) (Some m) h = ap (λ (k : ℕ). Some k) (eqb-true n m h)
bound-same None (Some m) h = absurd (cc h)
bound-same (Some n) None h = absurd (cc h)

text-same : (f g : Bool) (a b : List ℕ) → (same_flag f g && same_spelling f a b) ≡ true
    → element_key (Text f a) ≡ element_key (Text g b)
text-same true true a b h = name-same (code "\"") a b h
text-same true false a b h = absurd (cc h)
text-same false true a b h = absurd (cc h)
text-same false false a b h = ap (exact_key (code "'")) (bytes-same a b h)

range-same : (l h m k : ℕ) → ((l == m) && (h == k)) ≡ true → element_key (Range l h) ≡ element_key (Range m k)
range-same l h m k e =
    let ends = both-true (l == m) (h == k) e in
    let low : l ≡ m = eqb-true l m ends.0 in
    let high : h ≡ k = eqb-true h k ends.1 in
    rw (low, high) refl

repeat-same : (a c : ℕ) (b d : Option ℕ) (x y : List ℕ) → (a == c) ≡ true → same_bound b d ≡ true → x ≡ y
    → numbers_key (code "*") (a ∷ unwrap_or b 4294967295 ∷ []) ++ x
    ≡ numbers_key (code "*") (c ∷ unwrap_or d 4294967295 ∷ []) ++ y
repeat-same a c b d x y least most e =
    let low : a ≡ c = eqb-true a c least in
    let high : b ≡ d = bound-same b d most in
    rw (low, high, e) refl

mutual
  element-same : (a b : Element) → same_as false a b ≡ true → element_key a ≡ element_key b
  element-same (Text f a) (Text g b) h = text-same f g a b h
  element-same (Values a) (Values b) h = ap (numbers_key (code "%")) (bytes-same a b h)
  element-same (Range l h) (Range m k) e = range-same l h m k e
  element-same (Concat xs) (Concat ys) h = ap (λ (t : List ℕ). code "(" ∷ t) (members-same xs ys h)
  element-same (Alt xs) (Alt ys) h = ap (λ (t : List ℕ). code "/" ∷ t) (members-same xs ys h)
  element-same (Rep a b x) (Rep c d y) h =
      let parts = both-true (a == c) (same_bound b d && same_as false x y) h in
      let rest = both-true (same_bound b d) (same_as false x y) parts.1 in
      repeat-same a c b d (element_key x) (element_key y) parts.0 rest.0 (element-same x y rest.1)
  element-same (Opt x) (Opt y) h = ap (λ (t : List ℕ). code "[" ∷ t) (element-same x y h)
  element-same (Name a) (Name b) h = name-same (code "n") a b h
  element-same (Prose a) (Prose b) h = ap (exact_key (code "<")) (bytes-same a b h)
  element-same _ _ h = absurd (cc h)

  members-same : (xs ys : Elements) → all_same false xs ys ≡ true → members_key xs ≡ members_key ys
  members-same none none h = refl
  members-same (more x xs) (more y ys) h =
      let parts = both-true (same_as false x y) (all_same false xs ys) h in
      ap (λ (t : List ℕ). t ++ members_key xs) (element-same x y parts.0)
      ∙ ap (λ (t : List ℕ). element_key y ++ t) (members-same xs ys parts.1)
  members-same none (more y ys) h = absurd (cc h)
  members-same (more x xs) none h = absurd (cc h)

key-same : (a b : RuleGiven) → is_same_rule false a b ≡ true → rule_key a ≡ rule_key b
key-same a b h =
    let alike = both-true (same_flag a.is_prose b.is_prose) (same_flag a.adds b.adds
    && (same_name Fold a.name b.name && same_as false a.body b.body)) h in
    let parts = both-true (same_flag a.adds b.adds) (same_name Fold a.name b.name && same_as false a.body b.body)
    alike.1 in
    let rest = both-true (same_name Fold a.name b.name) (same_as false a.body b.body) parts.1 in
    let prose : a.is_prose ≡ b.is_prose = flag-same a.is_prose b.is_prose alike.0 in
    let sign : a.adds ≡ b.adds = flag-same a.adds b.adds parts.0 in
    ap (λ (adds : Bool). folded_key (rule_mark adds a.is_prose) a.name ++ element_key a.body) sign
    ∙ ap (λ (is_prose : Bool). folded_key (rule_mark b.adds is_prose) a.name ++ element_key a.body) prose
    ∙ ap (λ (t : List ℕ). t ++ element_key a.body) (name-same (rule_mark b.adds b.is_prose) a.name b.name rest.0)
    ∙ ap (λ (t : List ℕ). folded_key (rule_mark b.adds b.is_prose) b.name ++ t)
    (element-same a.body b.body rest.1)

-- what is the same as a rule has its key
same-keyed : (key : List ℕ) (rule other : RuleGiven) → key ≡ rule_key rule → is_same_rule false rule other ≡ true
    → has_key key other ≡ true
same-keyed key rule other is h = (bytes_eq-Decides key (rule_key other)).1 (is ∙ key-same rule other h)

-- where the first rule of a key stands, the search for one that is the same can begin
same-later : (rules : List GivenRule) (rule : RuleGiven) (key numbers : List ℕ) (first : ℕ) → key ≡ rule_key rule
    → numbers ≡ positions_from 0 (λ r. has_key key (text_rule r)) rules
    → first ≡ unwrap_or (slice_get numbers 0) (length rules) → (first ≤ length rules)
    × (first + prefix_len (λ r. not (is_same_rule false rule r)) (drop first (map text_rule rules))
    ≡ first_same rule (map text_rule rules))
same-later rules rule key numbers first is listed e =
    let rows = map text_rule rules in
    let position : first ≡ prefix_len (λ r. not (has_key key r)) rows =
    e ∙ first-listed has_key rules key numbers listed in
    let later = search-later (is_same_rule false rule) (has_key key) (λ r. same-keyed key rule r is) rows in (
      omega (arith, position, prefix_len-le-length (λ r. not (has_key key r)) rows, length-map rules text_rule),
      subst (λ (k : ℕ). k + prefix_len (λ r. not (is_same_rule false rule r)) (drop k rows) ≡ first_same rule rows)
          (sym position) later,
    )

pub loop-position-init : goal.loop-position-init
loop-position-init c =
    let at = same-later c.args.rules.now (text_rule c.args.rule.now) c.args.key.now _ c.in_ok-position.position
    c.requires.key (c.requires.listed.1 c.args.key.now) c.in_ok-position.ensures in
    record { within = at.0; same = at.1 }

pub loop-position-preserved : goal.loop-position-preserved
loop-position-preserved c =
    let more = one-fails (is_same_rule false (text_rule c.args.rule.now)) c.args.rules.now c.loop-position.position
    c.index-rules-position.result c.is_same.result c.loop-position-test.true c.index-rules-position.is c.is_same.ensures
    c.if-not-is_same.true in
    record { within = omega arith; same = omega (arith, more, c.loop-position.invariant.same) }

pub returns-else-not-is_same : goal.returns-else-not-is_same
returns-else-not-is_same c =
    let none = one-passes (is_same_rule false (text_rule c.args.rule.now)) c.args.rules.now c.loop-position.position
    c.index-rules-position.result c.is_same.result c.loop-position-test.true c.index-rules-position.is c.is_same.ensures
    c.if-not-is_same.false in
    omega (arith, none, c.loop-position.invariant.same)
