-- The items of the pruned rules answer what the rules derive, and which prefixes are viable.
-- Serves: lower_viable.
use Rattle.std.proofs.Common.{◌≡◌, ◌↔◌, ℕ, zero, suc, ◌<◌, ◌≤◌, Bool, List, [], ◌∷◌, length, take, Some, refl, sym, ◌∙◌}
use Rattle.std.proofs.Common.{ap, subst, arith}
use Rattle.std.specs.Prelude.{slice_get}
use Rattle.std.proofs.lemmas.List.{length-map}
use Rattle.abnfread.specs.Element as e
use Rattle.abnfread.specs.Element.{Element, Rule, bodies, body_of, id_of}
use Rattle.abnfcheck.specs.Prefixes.{BeginsMember}
use Rattle.abnfcheck.specs.Derivable.{AreLetters, Derives, RuleDerives}
use Rattle.abnfcheck.proofs.YieldsLemmas.{letters_both}
use Rattle.flatgrammar.specs.Flat.{Nothing, Flat}
use Rattle.lowering.specs.Lowered.{Spells, spells, shows_prose, IsLowered}
use Rattle.lowering.specs.NullElements.{AreNullAlike}
use Rattle.lowering.specs.Sizes.{size, sizes}
use Rattle.flatgrammar.specs.Holds.{HasItem}
use Rattle.lowering.specs.GivenPrefixes.{GivesPrefixes}
use Rattle.flatgrammar.proofs.SliceGetLemmas.{get_below}
use Rattle.lowering.proofs.RuleDerivesLemmas.{derives_exactly}
use Rattle.abnfcheck.proofs.RuleIdLemmas.{body_at_id}
use Rattle.flatgrammar.proofs.SliceGetLemmas.{get_there}
use Rattle.lowering.specs.Pruned.{IsProductive, Keeps, keep_text, keep_values, keep_range, keep_concat, keep_alt}
use Rattle.lowering.specs.Pruned.{keep_rep, empty_rep, keep_opt, empty_opt, keep_name, KeepsAll, keep_none, keep_more}
use Rattle.lowering.specs.Pruned.{KeepsSome, some_none, kept, dropped, IsLeftBody, left_body, no_body, ArePruned}
use Rattle.lowering.proofs.AreNullAlikeLemmas.{any_letters}
use Rattle.lowering.proofs.ContextLemmas.{AreLiveBodies, items_go_on}
use Rattle.lowering.proofs.HasItemLemmas.{has_item}
use Rattle.lowering.proofs.KeepsLemmas.{LeftBody, no_prose, keeps_productive, kept_derives, derives_back, keeps_sized}
use Rattle.lowering.proofs.LiveLemmas.{IsLive, live_text, live_values, live_range, live_concat, live_alt, live_rep}
use Rattle.lowering.proofs.LiveLemmas.{live_opt, live_name, AreLive, no_live, more_live}
use Rattle.lowering.proofs.NothingLemmas.{no_item}

letters_take : (has : ℕ → Bool) (n : ℕ) (x : List ℕ) → AreLetters has x → AreLetters has (take n x)
letters_take has zero x all = tt
letters_take has (suc n) [] all = tt
letters_take has (suc n) (c ∷ x) all = (all.0, letters_take has n x all.1)

module _ (has : ℕ → Bool) (rules left : List Rule) (pruned : ArePruned has rules left) where
  -- the rules have as many bodies
  body_left : (id : ℕ) (el : Element) → slice_get (bodies rules) id ≡ Some el →
      (d : Element) × (slice_get (bodies left) id ≡ Some d) × IsLeftBody has rules el d
  body_left id el is =
      let below = get_below (bodies rules) id is in
      let all = length-map rules (λ rule. rule.body) in
      let same = length-map left (λ rule. rule.body) in
      let count = pruned.count in
      let d = get_there (bodies left) id (omega (arith, below, all, same, count)) in
      (d.0, d.1, pruned.left_of id el d.0 is d.1)

  pub body_was : (id : ℕ) (d : Element) → slice_get (bodies left) id ≡ Some d →
      (el : Element) × (slice_get (bodies rules) id ≡ Some el) × IsLeftBody has rules el d
  body_was id d is =
      let below = get_below (bodies left) id is in
      let all = length-map rules (λ rule. rule.body) in
      let same = length-map left (λ rule. rule.body) in
      let count = pruned.count in
      let el = get_there (bodies rules) id (omega (arith, below, all, same, count)) in
      (el.0, el.1, pruned.left_of id el.0 d el.1 is)

  keeps_body : {el d : Element} → IsLeftBody has rules el d → IsProductive has rules el → Keeps has rules el d
  keeps_body (left_body k) p = k
  keeps_body (no_body not) p = absurd (not p)

  at_id : (n : List ℕ) → body_of left n ≡ slice_get (bodies left) (id_of rules n)
  at_id n = body_at_id left n ∙ ap (λ v. slice_get (bodies left) v) (pruned.ids n)

  name_left : (n : List ℕ) (el : Element) → body_of rules n ≡ Some el → IsProductive has rules el
      → LeftBody has rules left n el
  name_left n el is p =
      let d = body_left (id_of rules n) el (sym (body_at_id rules n) ∙ is) in
      record { body = d.0; keeps = keeps_body d.2 p; is = at_id n ∙ d.1 }

  rule_forth : {id : ℕ} {w : List ℕ} → AreLetters has w → RuleDerives has rules id w → RuleDerives has left id w
  rule_forth {id = id} {w = w} letters r =
      let d = body_left id r.body r.is in
      let k = keeps_body d.2 (record { word = w; letters = letters; derives = r.derives }) in
      record { body = d.0; is = d.1; derives = kept_derives has rules left name_left r.derives letters k }

  rule_back : {id : ℕ} {w : List ℕ} → RuleDerives has left id w → RuleDerives has rules id w
  rule_back {id = id} {w = w} r = let el = body_was id r.body r.is in
      record { body = el.0; is = el.1; derives = by el.2 r.derives }
    where
      by : {el d : Element} → IsLeftBody has rules el d → Derives has left d w → Derives has rules el w
      by (left_body k) d = derives_back has rules left name_left d k
      by (no_body not) d = absurd (no_prose has left d)

  -- what is kept has productive parts alone
  pub still_productive : {el d : Element} → Keeps has rules el d → IsProductive has left d
  still_productive k =
      let p = keeps_productive has rules k in record {
        word = p.word;
        letters = p.letters;
        derives = kept_derives has rules left name_left p.derives p.letters k;
      }

  mutual
    keeps_live : {el d : Element} → Keeps has rules el d → IsLive has left d
    keeps_live (keep_text letters) = live_text (still_productive (keep_text letters))
    keeps_live (keep_values letters) = live_values (still_productive (keep_values letters))
    keeps_live (keep_range some) = live_range (still_productive (keep_range some))
    keeps_live (keep_concat ks) = live_concat (all_live ks)
    keeps_live (keep_alt p ks) = live_alt (some_live ks)
    keeps_live (keep_rep within k) = live_rep within (still_productive k) (keeps_live k)
    keeps_live (empty_rep not) = live_concat no_live
    keeps_live (keep_opt k) = live_opt (keeps_live k)
    keeps_live (empty_opt not) = live_concat no_live
    keeps_live (keep_name p) = live_name (still_productive (keep_name p))

    all_live : {es ds : e.Elements} → KeepsAll has rules es ds → AreLive has left ds
    all_live keep_none = no_live
    all_live (keep_more k ks) = more_live (still_productive k) (keeps_live k) (all_live ks)

    some_live : {es ds : e.Elements} → KeepsSome has rules es ds → AreLive has left ds
    some_live some_none = no_live
    some_live (kept k ks) = more_live (still_productive k) (keeps_live k) (some_live ks)
    some_live (dropped not ks) = some_live ks

  live_bodies : (judged : ℕ) {el d : Element} → slice_get (bodies left) judged ≡ Some d → Keeps has rules el d
      → AreLiveBodies has left judged
  live_bodies judged {el = el} {d = d} is k = record {
    named = λ n b found p. let was = body_was (id_of rules n) b (sym (at_id n) ∙ found) in by was.2 p;
    whole = λ b here. let same : d ≡ b = cc (is, here) in
        let kb = subst (λ v. Keeps has rules el v) same k in (still_productive kb, keeps_live kb);
  }
    where
      by : {c b : Element} → IsLeftBody has rules c b → IsProductive has left b → IsLive has left b
      by (left_body kb) p = keeps_live kb
      by (no_body not) p = absurd (no_prose has left p.derives)

  module _ (judged : ℕ) (flat : Flat) (lowered : IsLowered left judged flat) where
    forth_member : (x : List ℕ) (n : ℕ) → AreLetters has x → BeginsMember has rules judged x n
        → BeginsMember has left judged x n
    forth_member x n letters b = record {
      rest = b.rest;
      letters = b.letters;
      derives = rule_forth (letters_both has (take n x) b.rest (letters_take has n x letters) b.letters) b.derives;
    }

    back_member : (x : List ℕ) (n : ℕ) → BeginsMember has left judged x n → BeginsMember has rules judged x n
    back_member x n b = record { rest = b.rest; letters = b.letters; derives = rule_back b.derives }

    is_nothing : {m : ℕ} {t : List ℕ} → Spells left flat.limit flat.nodes m (e.Prose t)
        → slice_get flat.nodes m ≡ Some Nothing
    is_nothing (spells is shows_prose) = is

    viable_exactly : (x : List ℕ) (n : ℕ) → length x ≤ flat.limit → AreLetters has x → 0 < n → n ≤ length x
        → HasItem flat x n
        ↔ BeginsMember has rules judged x n
    viable_exactly x n line letters past le = by was.2 body.2 body.1
      where
        body : (d : Element) × (slice_get (bodies left) judged ≡ Some d)
            × Spells left flat.limit flat.nodes lowered.body d
        body = lowered.spelled.spelled judged lowered.body lowered.body_is

        was : (el : Element) × (slice_get (bodies rules) judged ≡ Some el) × IsLeftBody has rules el body.0
        was = body_was judged body.0 body.1

        by : {el d : Element} → IsLeftBody has rules el d → Spells left flat.limit flat.nodes lowered.body d
            → slice_get (bodies left) judged ≡ Some d →
            HasItem flat x n ↔ BeginsMember has rules judged x n
        by (left_body k) sp is = (
          (λ h. back_member x n (items_go_on has left judged flat lowered (live_bodies judged is k) x line letters n
              h)),
          (λ b. has_item has left judged flat lowered x line n le (forth_member x n letters b)),
        )
        by (no_body not) sp is = (
          (λ h. absurd (no_item flat lowered.body lowered.whole (is_nothing sp) x n past h)),
          (λ b. has_item has left judged flat lowered x line n le (forth_member x n letters b)),
        )

    pub gives_prefixes : GivesPrefixes has rules judged flat
    gives_prefixes = record {
      lines = λ x line letters.
          let exact = derives_exactly has left judged flat lowered x line letters in
          ((λ h. rule_back (exact.0 h)), (λ d. exact.1 (rule_forth letters d)));
      viable = viable_exactly;
    }

-- the same rules derive the empty list, whatever the letters
pub null_alike : (has : ℕ → Bool) (rules left : List Rule) → ArePruned has rules left → AreNullAlike rules left
null_alike has rules left pruned = record {
  count = pruned.count;
  alike = λ test id. (
    (λ d. any_letters has test rules (rule_back has rules left pruned (any_letters test has left d))),
    (λ d. any_letters has test left (rule_forth has rules left pruned tt (any_letters test has rules d))),
  );
}

-- the bodies have no more dotted rules
body_sized : (has : ℕ → Bool) (rules : List Rule) (limit : ℕ) {el d : Element} → IsLeftBody has rules el d
    → size limit d ≤ size limit el
body_sized has rules limit (left_body k) = keeps_sized has rules limit k
body_sized has rules limit (no_body not) = omega arith

sizes_less : (limit : ℕ) (els ds : List Element) → length ds ≡ length els →
    ((id : ℕ) (el d : Element) → slice_get els id ≡ Some el → slice_get ds id ≡ Some d → size limit d ≤ size limit el)
    → sizes limit ds ≤ sizes limit els
sizes_less limit [] [] count each = omega arith
sizes_less limit [] (d ∷ ds) count each = absurd (omega (arith, count))
sizes_less limit (el ∷ els) [] count each = omega arith
sizes_less limit (el ∷ els) (d ∷ ds) count each =
    let first = each 0 el d refl refl in
    let rest = sizes_less limit els ds (omega (arith, count)) (λ id c b was is. each (suc id) c b was is) in
    omega (arith, first, rest)

pub positions_left : (has : ℕ → Bool) (rules left : List Rule) (limit : ℕ) → ArePruned has rules left
    → sizes limit (bodies left) ≤ sizes limit (bodies rules)
positions_left has rules left limit pruned =
    let all = length-map rules (λ rule. rule.body) in
    let same = length-map left (λ rule. rule.body) in
    let count = pruned.count in
    sizes_less limit (bodies rules) (bodies left) (omega (arith, all, same, count))
    (λ id el d was is. body_sized has rules limit (pruned.left_of id el d was is))
