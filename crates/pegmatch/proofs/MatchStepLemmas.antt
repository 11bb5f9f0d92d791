-- How the steps of the matcher make up what an expression gives.
-- Serves: Plain::match_unit, match_any, match_bytes, match_set
use Rattle.std.proofs.Common.{◌≡◌, ℕ, ◌+◌, ◌<◌, ◌≤◌, max, true, false, List, [], ◌∷◌, ◌++◌, length, drop, refl, sym}
use Rattle.std.proofs.Common.{◌∙◌, ap, subst, arith, append_assoc, append-nil, add-one, drop-cons, take, Bool, get_or}
use Rattle.std.proofs.Math.Seq.{take-append_seam}
use Rattle.std.proofs.lemmas.Grind.{common_steps}
use Rattle.std.proofs.lemmas.Option.{slice_get-get_or, slice_get_past}
use Rattle.pegread.specs.Pattern.{Pattern, Patterns, none, more, Rule, Any, Bytes, Set}
use Rattle.pegnodes.specs.Nodes.{Shape, Spells, SpellAll, spell_none, spell_more}
use Rattle.gramcheck.specs.Outcome.{Outcome, Fails, Takes, Gives, any_takes, any_at_end, set_takes, set_fails}
use Rattle.gramcheck.specs.Outcome.{set_at_end, bytes_take, bytes_fail, GivesAll, all_done, one_fails, rest_fails}
use Rattle.gramcheck.specs.Outcome.{rest_takes, seq, choice, GivesFirst, all_failed, first_takes, first_fails}
use Rattle.gramcheck.specs.Outcome.{begins_with, compared, looked_at}
use Rattle.gramcheck.specs.Outcome as event
use Rattle.pegmatch.specs.KeptEvents.{StandFor, no_event, one_event, MatchesBy, IsMatch}
use Rattle.pegmatch.specs.declared.event.Kept.{Kept}
use Rattle.memo.specs.declared.found.Found.{Found}
use Rattle.pegmatch.specs.declared.leaves.Tried.{Tried}

-- the outcome of what comes after these events
abbrev pub after : List event.Event → Outcome → Outcome
after events Fails = Fails
after events (Takes end more_events) = Takes end (events ++ more_events)

-- What the members from here on give is, after these events, what they all give.
pub record GoesOn (rules : List Rule) (x : List ℕ) (all : Patterns) (p : ℕ) (rest : Patterns) (q : ℕ)
    (events : List event.Event) (looked : ℕ) : Type 0 where
  pub on : (o : Outcome) (k : ℕ) → GivesAll rules x rest q o k → GivesAll rules x all p (after events o) (max looked k)

-- What the alternatives from here on give is what they all give.
pub record TriesOn (rules : List Rule) (x : List ℕ) (all rest : Patterns) (p looked : ℕ) : Type 0 where
  pub on : (o : Outcome) (k : ℕ) → GivesFirst rules x rest p o k → GivesFirst rules x all p o (max looked k)

pub max-zero : (k : ℕ) → max 0 k ≡ k
max-zero k = omega arith

pub max-assoc : (i j k : ℕ) → max i (max j k) ≡ max (max i j) k
max-assoc i j k = omega arith

after-nil : (o : Outcome) → after [] o ≡ o
after-nil Fails = refl
after-nil (Takes q es) = refl

module _ (rules : List Rule) (x : List ℕ) where
  pub goes_on_start : (all : Patterns) (p : ℕ) → GoesOn rules x all p all p [] 0
  goes_on_start all p = record { on = λ o k d. rw (after-nil o, max-zero k) d }

  next_member : (e : Pattern) (rest : Patterns) (q r j k : ℕ) (es : List event.Event) (o : Outcome) →
      Gives rules x e q (Takes r es) j → GivesAll rules x rest r o k → GivesAll rules x (more e rest) q (after es o)
      (max j k)
  next_member e rest q r j k es Fails d c = rest_fails d c
  next_member e rest q r j k es (Takes s fs) d c = rest_takes d c

  after-append : (es fs : List event.Event) (o : Outcome) → after es (after fs o) ≡ after (es ++ fs) o
  after-append es fs Fails = refl
  after-append es fs (Takes s gs) = simp append_assoc

  pub goes_on_step : (all : Patterns) (p : ℕ) (e : Pattern) (rest : Patterns) (q r j k : ℕ) (es fs : List event.Event) →
      GoesOn rules x all p (more e rest) q es j → Gives rules x e q (Takes r fs) k
      → GoesOn rules x all p rest r (es ++ fs) (max j k)
  goes_on_step all p e rest q r j k es fs h d = record {
    on = λ o m c. subst (λ v. GivesAll rules x all p v (max (max j k) m)) (after-append es fs o)
        (subst (λ v. GivesAll rules x all p (after es (after fs o)) v) (max-assoc j k m)
        (h.on _ _ (next_member e rest q r k m fs o d c)));
  }

  pub goes_on_fails : (all : Patterns) (p : ℕ) (e : Pattern) (rest : Patterns) (q j k : ℕ) (es : List event.Event) →
      GoesOn rules x all p (more e rest) q es j → Gives rules x e q Fails k → GivesAll rules x all p Fails (max j k)
  goes_on_fails all p e rest q j k es h d = h.on _ _ (one_fails d)

  pub goes_on_ends : (all : Patterns) (p q j : ℕ) (es : List event.Event) →
      GoesOn rules x all p none q es j → GivesAll rules x all p (Takes q es) j
  goes_on_ends all p q j es h =
      let d = h.on _ _ (all_done {p = q}) in
      let is : max j 0 ≡ j = omega arith in
      let same : es ++ [] ≡ es = simp append-nil in
      subst (λ v. GivesAll rules x all p (Takes q v) j) same
      (subst (λ v. GivesAll rules x all p (Takes q (es ++ [])) v) is d)

  pub tries_on_step : (all : Patterns) (e : Pattern) (rest : Patterns) (p j k : ℕ) →
      TriesOn rules x all (more e rest) p j → Gives rules x e p Fails k → TriesOn rules x all rest p (max j k)
  tries_on_step all e rest p j k h d = record {
    on = λ o m c. subst (λ v. GivesFirst rules x all p o v) (max-assoc j k m) (h.on _ _ (first_fails d c));
  }

  pub tries_on_takes : (all : Patterns) (e : Pattern) (rest : Patterns) (p q j k : ℕ) (es : List event.Event) →
      TriesOn rules x all (more e rest) p j → Gives rules x e p (Takes q es) k
      → GivesFirst rules x all p (Takes q es) (max j k)
  tries_on_takes all e rest p q j k es h d = h.on _ _ (first_takes d)

  pub tries_on_ends : (all : Patterns) (p j : ℕ) → TriesOn rules x all none p j → GivesFirst rules x all p Fails j
  tries_on_ends all p j h =
      let is : max j 0 ≡ j = omega arith in
      subst (λ v. GivesFirst rules x all p Fails v) is (h.on _ _ (all_failed {p = p}))

  pub any_found : (p : ℕ) → p < length x → Gives rules x Any p (Takes (p + 1) []) (p + 1)
  any_found p h = any_takes (slice_get-get_or x p 0 h)

  pub any_missing : (p : ℕ) → length x ≤ p → Gives rules x Any p Fails 0
  any_missing p h = any_at_end (slice_get_past x p h)

  pub set_found : (s : ℕ → Bool) (p b : ℕ) → p < length x → b ≡ get_or x p 0 → s b ≡ true
      → Gives rules x (Set s) p (Takes (p + 1) []) (p + 1)
  set_found s p b h is member = let here = slice_get-get_or x p 0 h in set_takes (rw is here) member

  pub set_other : (s : ℕ → Bool) (p b : ℕ) → p < length x → b ≡ get_or x p 0 → s b ≡ false
      → Gives rules x (Set s) p Fails (p + 1)
  set_other s p b h is other = let here = slice_get-get_or x p 0 h in set_fails (rw is here) other

  pub set_missing : (s : ℕ → Bool) (p : ℕ) → length x ≤ p → Gives rules x (Set s) p Fails 0
  set_missing s p h = set_at_end (slice_get_past x p h)

  pub bytes_found : (bs rest : List ℕ) (p n m : ℕ) (b : Bool) → rest ≡ drop p x → b ≡ begins_with rest bs → b ≡ true →
      m ≡ compared rest bs → n ≡ looked_at p m → Gives rules x (Bytes bs) p (Takes (p + length bs) []) n
  bytes_found bs rest p n m b same begins found far is =
      let h : begins_with (drop p x) bs ≡ true = cc in
      let k : n ≡ looked_at p (compared (drop p x) bs) = cc in
      rw k (bytes_take h)

  pub bytes_missing : (bs rest : List ℕ) (p n m : ℕ) (b : Bool) → rest ≡ drop p x → b ≡ begins_with rest bs
      → b ≡ false →
      m ≡ compared rest bs → n ≡ looked_at p m → Gives rules x (Bytes bs) p Fails n
  bytes_missing bs rest p n m b same begins missing far is =
      let h : begins_with (drop p x) bs ≡ false = cc in
      let k : n ≡ looked_at p (compared (drop p x) bs) = cc in
      rw k (bytes_fail h)

pub StandFor-append : (nodes : List Shape) {ks ls : List Kept} {es fs : List event.Event} →
    StandFor nodes ks es → StandFor nodes ls fs → StandFor nodes (ks ++ ls) (es ++ fs)
StandFor-append nodes no_event r = r
StandFor-append nodes (one_event h s) r = one_event h (StandFor-append nodes s r)

-- The members before i took what is between p and q, and added these events.
pub record HaveTaken (rules : List Rule) (nodes : List Shape) (x ns : List ℕ) (p i q : ℕ) (old new : List Kept)
    (looked : ℕ) (es : Patterns) : Type 0 where
  pub added : List Kept
  pub events : List event.Event
  pub rest : Patterns
  pub stand : StandFor nodes added events
  pub is : new ≡ old ++ added
  pub spelled : SpellAll rules nodes (drop i ns) rest
  pub goes : GoesOn rules x es p rest q events looked

-- The alternatives before i failed, and left no event.
pub record HaveFailed (rules : List Rule) (nodes : List Shape) (x ns : List ℕ) (p i : ℕ) (old new : List Kept)
    (looked : ℕ) (es : Patterns) : Type 0 where
  pub rest : Patterns
  pub is : new ≡ old
  pub spelled : SpellAll rules nodes (drop i ns) rest
  pub tries : TriesOn rules x es rest p looked

module _ (rules : List Rule) (nodes : List Shape) (ns : List ℕ) where
  -- the first number spells the first pattern, and the others the others
  abbrev Spelled : List ℕ → Patterns → Type 0
  Spelled [] es = es ≡ none
  Spelled (m ∷ ms) es = (e : Pattern) × (rest : Patterns) × (es ≡ more e rest) × Spells rules nodes m e
      × SpellAll rules nodes ms rest

  spelled_all : {ms : List ℕ} {es : Patterns} → SpellAll rules nodes ms es → Spelled ms es
  spelled_all spell_none = refl
  spelled_all (spell_more s ss) = (_, _, refl, s, ss)

  next_spelled : (i : ℕ) (es : Patterns) → i < length ns → SpellAll rules nodes (drop i ns) es →
      (e : Pattern) × (rest : Patterns) × (es ≡ more e rest) × Spells rules nodes (get_or ns i 0) e
      × SpellAll rules nodes (drop (i + 1) ns) rest
  next_spelled i es h s = let s' = rw (drop-cons ns i 0) at s in rw (add-one i) (spelled_all s')

  none_spelled : (i : ℕ) (es : Patterns) → length ns ≤ i → SpellAll rules nodes (drop i ns) es → es ≡ none
  none_spelled i es h s =
      let empty : drop i ns ≡ [] = grind (arith, common_steps) in
      let s' = rw empty at s in
      spelled_all s'

module _ {rules : List Rule} {nodes : List Shape} {x ns : List ℕ} where
  pub none_taken : {p : ℕ} {old : List Kept} (es : Patterns) → SpellAll rules nodes ns es
      → HaveTaken rules nodes x ns p 0 p old old 0 es
  none_taken {p} {old} es s = record {
    added = [];
    events = [];
    rest = es;
    stand = no_event;
    is = sym (append-nil old);
    spelled = s;
    goes = goes_on_start rules x es p;
  }

  -- the next member takes what is between q and r
  pub one_taken : {p i q r : ℕ} {old mid new : List Kept} (tried : Tried) {j k : ℕ} (es : Patterns) →
      i < length ns → HaveTaken rules nodes x ns p i q old mid j es →
      IsMatch rules nodes x (get_or ns i 0) q tried mid new → tried.found ≡ Found.Took r → k ≡ max j tried.looked →
      HaveTaken rules nodes x ns p (i + 1) r old new k es
  one_taken {p} {i} {q} {r} {old} {mid} {new} tried {j} es h t match found looked =
      let s = next_spelled rules nodes ns i t.rest h t.spelled in
      let m : MatchesBy nodes (Gives rules x s.0 q) (Found.Took r) tried.looked mid new = rw found at match s.0 s.3 in
      let goes' = rw s.2 at t.goes in
      rw looked (record {
        added = t.added ++ m.0;
        events = t.events ++ m.1;
        rest = s.1;
        stand = StandFor-append nodes t.stand m.2;
        is = m.4 ∙ ap (λ v. v ++ m.0) t.is ∙ append_assoc old t.added m.0;
        spelled = s.4;
        goes = goes_on_step rules x es p s.0 s.1 q r j tried.looked _ _ goes' m.3;
      })

  -- the next member fails
  pub one_failed : {p i q n : ℕ} {old mid : List Kept} (new : List Kept) {cut : List Kept} (tried : Tried) {j k : ℕ}
      (es : Patterns) → i < length ns → HaveTaken rules nodes x ns p i q old mid j es →
      IsMatch rules nodes x (get_or ns i 0) q tried mid new → tried.found ≡ Found.Failed → k ≡ max j tried.looked →
      n ≡ length old → cut ≡ take n new →
      GivesAll rules x es p Fails k × (cut ≡ old)
  one_failed {p} {i} {q} {old} {mid} new tried {j} es h t match found looked n_is cut_is =
      let s = next_spelled rules nodes ns i t.rest h t.spelled in
      let m : MatchesBy nodes (Gives rules x s.0 q) Found.Failed tried.looked mid new = rw found at match s.0 s.3 in
      let goes' = rw s.2 at t.goes in (
        rw looked (goes_on_fails rules x es p s.0 s.1 q j tried.looked _ goes' m.0),
        rw (cut_is, n_is, m.1, t.is) (take-append_seam old t.added),
      )

  pub all_taken : {p i q : ℕ} {old new : List Kept} {k : ℕ} (es : Patterns) → length ns ≤ i →
      HaveTaken rules nodes x ns p i q old new k es → MatchesBy nodes (GivesAll rules x es p) (Found.Took q) k old new
  all_taken {p} {i} {q} {k} es h t =
      let goes' = rw (none_spelled rules nodes ns i t.rest h t.spelled) at t.goes in
      (t.added, t.events, t.stand, goes_on_ends rules x es p q k _ goes', t.is)

  pub next_tried : {p i : ℕ} {old mid new : List Kept} (tried : Tried) {j k : ℕ} (es : Patterns) →
      i < length ns → HaveFailed rules nodes x ns p i old mid j es →
      IsMatch rules nodes x (get_or ns i 0) p tried mid new → tried.found ≡ Found.Failed → k ≡ max j tried.looked →
      HaveFailed rules nodes x ns p (i + 1) old new k es
  next_tried {p} {i} {mid} {new} tried {j} es h t match found looked =
      let s = next_spelled rules nodes ns i t.rest h t.spelled in
      let m : MatchesBy nodes (Gives rules x s.0 p) Found.Failed tried.looked mid new = rw found at match s.0 s.3 in
      let tries' = rw s.2 at t.tries in
      rw looked (record {
        rest = s.1;
        is = m.1 ∙ t.is;
        spelled = s.4;
        tries = tries_on_step rules x es s.0 s.1 p j tried.looked tries' m.0;
      })

  pub one_found : {p i q : ℕ} {old mid new : List Kept} (tried : Tried) {j k : ℕ} (es : Patterns) →
      i < length ns → HaveFailed rules nodes x ns p i old mid j es →
      IsMatch rules nodes x (get_or ns i 0) p tried mid new → tried.found ≡ Found.Took q → k ≡ max j tried.looked →
      MatchesBy nodes (GivesFirst rules x es p) (Found.Took q) k old new
  one_found {p} {i} {q} {mid} {new} tried {j} es h t match found looked =
      let s = next_spelled rules nodes ns i t.rest h t.spelled in
      let m : MatchesBy nodes (Gives rules x s.0 p) (Found.Took q) tried.looked mid new = rw found at match s.0 s.3 in
      let tries' = rw s.2 at t.tries in (
        m.0,
        m.1,
        m.2,
        rw looked (tries_on_takes rules x es s.0 s.1 p q j tried.looked _ tries' m.3),
        m.4 ∙ ap (λ v. v ++ m.0) t.is,
      )

  pub all_tried : {p i k : ℕ} {old new : List Kept} (es : Patterns) → length ns ≤ i
      → HaveFailed rules nodes x ns p i old new k es →
      GivesFirst rules x es p Fails k × (new ≡ old)
  all_tried {p} {i} {k} es h t =
      let tries' = rw (none_spelled rules nodes ns i t.rest h t.spelled) at t.tries in
      (tries_on_ends rules x es p k tries', t.is)
