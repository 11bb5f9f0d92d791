-- The units of an input and how a run on it ends are determined, and so is its reply.
-- Serves: one_reply, one_statement, explanations_change_no_answer
use Rattle.std.proofs.Common.{◌≡◌, ℕ, ◌+◌, ◌<◌, ◌≤◌, true, false, List, [], ◌++◌, length, refl, sym, ◌∙◌, ap, subst}
use Rattle.std.proofs.Common.{Option, Some, take, arith, inl, inr}
use Rattle.pegread.specs.Pattern.{Rule}
use Rattle.gramcheck.specs.Outcome.{Event, Outcome, Fails, Takes, RuleGives}
use Rattle.gramcheck.proofs.StartRuleLemmas.{same_of_start}
use Rattle.pegmatch.specs.Text.{text_of}
use Rattle.toolrun.specs.Input.{Input}
use Rattle.matchfailure.specs.NoMatches.{IsNoMatchReported}
use Rattle.pegrun.specs.PegReply.{PlainReplies, Replies}
use Rattle.pegrun.specs.StopsExplained.{StopLines, UnitBefore, WhyStopped, none_before, one_before}
use Rattle.toolrun.specs.Reply.{Reply, explained_reply}
use Rattle.toolrun.specs.Status.{code_of}
use Rattle.toolrun.specs.Stop.{message_of, status_of}
use Rattle.pegrun.specs.Units.{taken_at, rest_from, MayRun, GivesAt, IsUnit, Units, none, one_more, Ends, broken}
use Rattle.pegrun.specs.Units.{overlong, no_match, finished, no_unit, empty_before_end, empty_at_end, is_after_whole}
use Rattle.pegrun.specs.Units.{IsSettled, IsWithin, costly, over_before_end, over_at_end, runs_at_lines}
use Rattle.pegrun.specs.PegSettings.{PegSettings}
use Rattle.toolrun.specs.declared.stop.Stop.{Stop}
use Rattle.toolrun.specs.declared.stop.Stop.TheVariants.{Quiet, NoMatch, LongUnit, LongLine, Broken, NoMemory, Refused}
use Rattle.toolrun.specs.declared.stop.Stop.TheVariants.{CostlyUnit, CostlyLine, Unreadable}
use Rattle.toolrun.proofs.OneStatementLemmas.{one-explained}

-- what explains that no unit goes on is one text
abbrev pub NoMatchesAreOne : Type 0
NoMatchesAreOne = (rules : List Rule) (start : ℕ) (text : List ℕ) (before : Option ℕ) (last : ℕ) (a b : List ℕ)
    → IsNoMatchReported rules start text before last a → IsNoMatchReported rules start text before last b → a ≡ b

-- two replies of the same parts
same_reply : (a b : Reply) → a.out ≡ b.out → a.err ≡ b.err → a.status ≡ b.status → a.taken ≡ b.taken → a ≡ b
same_reply a b out err status taken =
    let is : record { out = a.out; err = a.err; status = a.status; taken = a.taken }
    ≡ record { out = b.out; err = b.err; status = b.status; taken = b.taken } = cc in is

module _ (rules : List Rule) (start : ℕ) (settings : PegSettings) (input : Input) where
  abbrev Gives : ℕ → Outcome → Type 0
  Gives s o = GivesAt rules start settings input s o

  abbrev UnitAt : ℕ → ℕ → List ℕ → Type 0
  UnitAt s k text = IsUnit rules start settings input s k text

  abbrev UnitsTo : ℕ → List ℕ → Type 0
  UnitsTo s text = Units rules start settings input s text

  abbrev EndsAt : ℕ → List ℕ → Stop → Type 0
  EndsAt s last stop = Ends rules start settings input s last stop

  -- one outcome at a position
  one_gift : (s : ℕ) (o c : Outcome) (d : Gives s o) (g : Gives s c) → o ≡ c
  one_gift s o c d g =
      (same_of_start rules start (rest_from input s) d.looked g.looked o c d.gives g.gives).outcome

  -- two units are the same
  record OneUnit (k j : ℕ) (text other : List ℕ) : Type 0 where
    bytes : k ≡ j
    texts : text ≡ other

  -- one number of bytes and one text at a position
  one_unit : (s k j : ℕ) (text other : List ℕ) → UnitAt s k text → UnitAt s j other → OneUnit k j text other
  one_unit s k j text other u v =
      let h = one_gift s (Takes k u.events) (Takes j v.events) u.gives v.gives in
      let events : u.events ≡ v.events = cc in
      record { bytes = cc; texts = let p = u.prints in let q = v.prints in cc }

  -- a unit of some bytes leads from s to s' or before it
  record Reaches (s s' : ℕ) : Type 0 where
    bytes : ℕ
    text : List ℕ
    unit : UnitAt s bytes text
    some : 0 < bytes
    within : s + bytes ≤ s'

  -- two positions to which units lead: the same, with the same text, or from one of them a unit leads on towards the
  -- other
  data Compares (s : ℕ) (text : List ℕ) (s' : ℕ) (text' : List ℕ) : Type 0 where
    same : s ≡ s' → text ≡ text' → Compares s text s' text'
    before : Reaches s s' → Compares s text s' text'
    after : Reaches s' s → Compares s text s' text'

  -- one more unit after units that begin so
  begins_further : (at k : ℕ) (front more : List ℕ) → UnitAt at k more → 0 < k → Compares 0 [] at front
      → Compares 0 [] (at + k) (front ++ more)
  begins_further at k front more unit some (same here text) =
      before (record {
        bytes = k;
        text = more;
        unit = subst (λ v. UnitAt v k more) (sym here) unit;
        some = some;
        within = omega (arith, here);
      })
  begins_further at k front more unit some (before r) =
      before (record { bytes = r.bytes; text = r.text; unit = r.unit; some = r.some; within = omega (arith, r.within) })
  begins_further at k front more unit some (after r) = absurd (omega (arith, r.some, r.within))

  -- units lead nowhere, or begin with one of some bytes
  compares_begin : (s : ℕ) (text : List ℕ) → UnitsTo s text → Compares 0 [] s text
  compares_begin s text none = same refl refl
  compares_begin s text (one_more at k front more u unit some) =
      begins_further at k front more unit some (compares_begin at front u)

  -- the other way round
  compares_turned : (s s' : ℕ) (text text' : List ℕ) → Compares s text s' text' → Compares s' text' s text
  compares_turned s s' text text' (same here is) = same (sym here) (sym is)
  compares_turned s s' text text' (before r) = after r
  compares_turned s s' text text' (after r) = before r

  -- both go on by a unit
  module _ (s k s' k' : ℕ) (text more text' more' : List ℕ) (unit : UnitAt s k more) (unit' : UnitAt s' k' more')
      (some : 0 < k) (some' : 0 < k') where
    -- the second went on from the end of the first without its last unit
    both_before : Reaches s s' → Compares (s + k) (text ++ more) s' text' → Compares (s + k) (text ++ more) (s' + k')
        (text' ++ more')
    both_before r (same here is) =
        before (record {
          bytes = k';
          text = more';
          unit = subst (λ v. UnitAt v k' more') (sym here) unit';
          some = some';
          within = omega (arith, here);
        })
    both_before r (before q) =
        before (record {
          bytes = q.bytes;
          text = q.text;
          unit = q.unit;
          some = q.some;
          within = omega (arith, q.within);
        })
    both_before r (after q) =
        let h = one_unit s k r.bytes more r.text unit r.unit in
        absurd (omega (arith, h.bytes, r.within, q.some, q.within))

    -- the first went on from the end of the second without its last unit
    both_after : Reaches s' s → Compares s text (s' + k') (text' ++ more') → Compares (s + k) (text ++ more) (s' + k')
        (text' ++ more')
    both_after r (same here is) =
        after (record {
          bytes = k;
          text = more;
          unit = subst (λ v. UnitAt v k more) here unit;
          some = some;
          within = omega (arith, here);
        })
    both_after r (after q) =
        after (record {
          bytes = q.bytes;
          text = q.text;
          unit = q.unit;
          some = q.some;
          within = omega (arith, q.within);
        })
    both_after r (before q) =
        let h = one_unit s' k' r.bytes more' r.text unit' r.unit in
        absurd (omega (arith, h.bytes, r.within, q.some, q.within))

    -- the two ends compare, whichever came first without the last units
    compares_both : Compares s text s' text' → Compares s text (s' + k') (text' ++ more')
        → Compares (s + k) (text ++ more) s' text' →
        Compares (s + k) (text ++ more) (s' + k') (text' ++ more')
    compares_both (same here is) whole whole' =
        let h = one_unit s k k' more more' unit (subst (λ v. UnitAt v k' more') (sym here) unit') in
        let e = h.bytes in
        let t = h.texts in
        same (omega (arith, here, e)) cc
    compares_both (before r) whole whole' = both_before r whole'
    compares_both (after r) whole whole' = both_after r whole

  -- the first goes on by a unit, and up to there all compare with it
  goes_on : (s k : ℕ) (text more : List ℕ) → UnitsTo s text → (unit : UnitAt s k more) → (some : 0 < k) →
      ((s' : ℕ) (text' : List ℕ) → UnitsTo s' text' → Compares s text s' text') →
      (s' : ℕ) (text' : List ℕ) → UnitsTo s' text' → Compares (s + k) (text ++ more) s' text'
  goes_on s k text more u unit some so_far s' text' none =
      compares_turned 0 (s + k) [] (text ++ more)
      (compares_begin (s + k) (text ++ more) (one_more s k text more u unit some))
  goes_on s k text more u unit some so_far s' text' (one_more at k' front more' u' unit' some') =
      compares_both s k at k' text more front more' unit unit' some some' (so_far at front u')
      (so_far (at + k') (front ++ more') (one_more at k' front more' u' unit' some'))
      (goes_on s k text more u unit some so_far at front u')

  -- all positions to which units lead compare
  units_compare : (s : ℕ) (text : List ℕ) → UnitsTo s text → (s' : ℕ) (text' : List ℕ) → UnitsTo s' text'
      → Compares s text s' text'
  units_compare s text none s' text' u' = compares_begin s' text' u'
  units_compare s text (one_more at k front more u unit some) s' text' u' =
      goes_on at k front more u unit some (λ t other v. units_compare at front u t other v) s' text' u'

  -- what looks further than the limit is no outcome within it
  not_long : (s looked : ℕ) (o c : Outcome) → RuleGives rules start (rest_from input s) o looked
      → settings.limit < looked → Gives s c → ⊥
  not_long s looked o c d over g =
      let h = (same_of_start rules start (rest_from input s) looked g.looked o c d g.gives).looked in
      omega (arith, h, over, g.within)

  -- no failure where a unit stands
  not_both : (s k : ℕ) (text : List ℕ) → Gives s Fails → UnitAt s k text → ⊥
  not_both s k text d u = let h = one_gift s Fails (Takes k u.events) d u.gives in absurd cc

  -- no failure where something is taken
  not_failed : (s k : ℕ) (events : List Event) → Gives s Fails → Gives s (Takes k events) → ⊥
  not_failed s k events d g = let h = one_gift s Fails (Takes k events) d g in absurd cc

  -- the text of a unit is within the budget
  not_costly : (s j : ℕ) (text : List ℕ) (k budget : ℕ) (events : List Event) → UnitAt s j text
      → Gives s (Takes k events) → settings.options.budget ≡ Some budget
      → budget < length (text_of settings.options.style (rest_from input s) events) → ⊥
  not_costly s j text k budget events u d is over =
      let h = one_gift s (Takes j u.events) (Takes k events) u.gives d in
      let same : u.events ≡ events = cc in
      let within : length text ≤ budget = subst (λ v. IsWithin v text) is u.within in
      let l = ap length (u.prints ∙ ap (text_of settings.options.style (rest_from input s)) same) in
      omega (arith, within, l, over)

  -- after a fault no unit is run on too few bytes, if it looks further
  few_bytes : (s : ℕ) → input.fault ≡ true → length input.bytes < s + settings.limit + 1
      → (runs_at_lines settings ≡ true → IsSettled rules start settings input s → ⊥)
      → MayRun rules start settings input s → ⊥
  few_bytes s fault few never may = elim (may fault) [ inl m ↦ omega (arith, m, few) | inr is ↦ never is.0 is.1 ]

  -- where no unit is tried, none is
  not_over : (s : ℕ) → is_after_whole settings s ≡ false → is_after_whole settings s ≡ true → ⊥
  not_over s goes over = cc (goes, over)

  -- no run ends where a unit of some bytes stands
  no_end : (s s' : ℕ) (last : List ℕ) (stop : Stop) → Reaches s s' → EndsAt s last stop → ⊥
  no_end s s' last stop r (broken fault few never) = few_bytes s fault few never r.unit.gives.may_run
  no_end s s' last stop r (overlong o looked goes may d over) = not_long s looked o (Takes r.bytes r.unit.events) d over
      r.unit.gives
  no_end s s' last stop r (costly k budget events d is over) =
      not_costly s r.bytes r.text k budget events r.unit d is over
  no_end s s' last stop r (no_match d inside) = not_both s r.bytes r.text d r.unit
  no_end s s' last stop r (finished w d all) = not_both s r.bytes r.text d r.unit
  no_end s s' last stop r (no_unit w d all) = not_both s r.bytes r.text d r.unit
  no_end s s' last stop r (empty_before_end text u inside) = let h = one_unit s 0 r.bytes last r.text u r.unit in
      omega (arith, h.bytes, r.some)
  no_end s s' last stop r (empty_at_end text u all) = let h = one_unit s 0 r.bytes last r.text u r.unit in
      omega (arith, h.bytes, r.some)
  no_end s s' last stop r (over_before_end is may lt) = not_over s r.unit.gives.goes is
  no_end s s' last stop r (over_at_end is may all) = not_over s r.unit.gives.goes is

  -- two ends are the same
  record OneEnd (last other : List ℕ) (stop end : Stop) : Type 0 where
    lasts : last ≡ other
    stops : stop ≡ end

  -- one end at a position
  one_end : (s : ℕ) (last other : List ℕ) (stop end : Stop) → EndsAt s last stop → EndsAt s other end
      → OneEnd last other stop end
  one_end s last other stop end (broken f few wait) (broken f' few' wait') = record { lasts = refl; stops = refl }
  one_end s last other stop end (broken f few wait) (overlong o' n' goes' may' d' over') =
      absurd (few_bytes s f few wait may')
  one_end s last other stop end (broken f few wait) (costly k' n' es' d' is' over') =
      absurd (few_bytes s f few wait d'.may_run)
  one_end s last other stop end (broken f few wait) (no_match d' lt') = absurd (few_bytes s f few wait d'.may_run)
  one_end s last other stop end (broken f few wait) (finished w' d' all') = absurd (few_bytes s f few wait d'.may_run)
  one_end s last other stop end (broken f few wait) (no_unit w' d' all') = absurd (few_bytes s f few wait d'.may_run)
  one_end s last other stop end (broken f few wait) (empty_before_end text' u' lt') =
      absurd (few_bytes s f few wait u'.gives.may_run)
  one_end s last other stop end (broken f few wait) (empty_at_end text' u' all') =
      absurd (few_bytes s f few wait u'.gives.may_run)
  one_end s last other stop end (broken f few wait) (over_before_end is' may' lt') =
      absurd (few_bytes s f few wait may')
  one_end s last other stop end (broken f few wait) (over_at_end is' may' all') = absurd (few_bytes s f few wait may')
  one_end s last other stop end (overlong o n goes may d over) (broken f' few' wait') =
      absurd (few_bytes s f' few' wait' may)
  one_end s last other stop end (overlong o n goes may d over) (overlong o' n' goes' may' d' over') =
      record { lasts = refl; stops = refl }
  one_end s last other stop end (overlong o n goes may d over) (costly k' n' es' d' is' over') =
      absurd (not_long s n o (Takes k' es') d over d')
  one_end s last other stop end (overlong o n goes may d over) (no_match d' lt') =
      absurd (not_long s n o Fails d over d')
  one_end s last other stop end (overlong o n goes may d over) (finished w' d' all') =
      absurd (not_long s n o Fails d over d')
  one_end s last other stop end (overlong o n goes may d over) (no_unit w' d' all') =
      absurd (not_long s n o Fails d over d')
  one_end s last other stop end (overlong o n goes may d over) (empty_before_end text' u' lt') =
      absurd (not_long s n o (Takes 0 u'.events) d over u'.gives)
  one_end s last other stop end (overlong o n goes may d over) (empty_at_end text' u' all') =
      absurd (not_long s n o (Takes 0 u'.events) d over u'.gives)
  one_end s last other stop end (overlong o n goes may d over) (over_before_end is' may' lt') =
      absurd (not_over s goes is')
  one_end s last other stop end (overlong o n goes may d over) (over_at_end is' may' all') =
      absurd (not_over s goes is')
  one_end s last other stop end (costly k n es d is over) (broken f' few' wait') =
      absurd (few_bytes s f' few' wait' d.may_run)
  one_end s last other stop end (costly k n es d is over) (overlong o' n' goes' may' d' over') =
      absurd (not_long s n' o' (Takes k es) d' over' d)
  one_end s last other stop end (costly k n es d is over) (costly k' n' es' d' is' over') =
      record { lasts = refl; stops = let same : n ≡ n' = cc (is, is') in ap (λ (m : ℕ). CostlyUnit s m) same }
  one_end s last other stop end (costly k n es d is over) (no_match d' lt') = absurd (not_failed s k es d' d)
  one_end s last other stop end (costly k n es d is over) (finished w' d' all') = absurd (not_failed s k es d' d)
  one_end s last other stop end (costly k n es d is over) (no_unit w' d' all') = absurd (not_failed s k es d' d)
  one_end s last other stop end (costly k n es d is over) (empty_before_end text' u' lt') =
      absurd (not_costly s 0 text' k n es u' d is over)
  one_end s last other stop end (costly k n es d is over) (empty_at_end text' u' all') =
      absurd (not_costly s 0 text' k n es u' d is over)
  one_end s last other stop end (costly k n es d is over) (over_before_end is' may' lt') =
      absurd (not_over s d.goes is')
  one_end s last other stop end (costly k n es d is over) (over_at_end is' may' all') = absurd (not_over s d.goes is')
  one_end s last other stop end (no_match d lt) (broken f' few' wait') = absurd (few_bytes s f' few' wait' d.may_run)
  one_end s last other stop end (no_match d lt) (overlong o' n' goes' may' d' over') =
      absurd (not_long s n' o' Fails d' over' d)
  one_end s last other stop end (no_match d lt) (costly k' n' es' d' is' over') =
      absurd (not_failed s k' es' d d')
  one_end s last other stop end (no_match d lt) (no_match d' lt') = record { lasts = refl; stops = refl }
  one_end s last other stop end (no_match d lt) (finished w' d' all') = absurd (omega (arith, lt, all'))
  one_end s last other stop end (no_match d lt) (no_unit w' d' all') = absurd (omega (arith, lt, all'))
  one_end s last other stop end (no_match d lt) (empty_before_end text' u' lt') = absurd (not_both s 0 text' d u')
  one_end s last other stop end (no_match d lt) (empty_at_end text' u' all') = absurd (not_both s 0 text' d u')
  one_end s last other stop end (no_match d lt) (over_before_end is' may' lt') = absurd (not_over s d.goes is')
  one_end s last other stop end (no_match d lt) (over_at_end is' may' all') = absurd (not_over s d.goes is')
  one_end s last other stop end (finished w d all) (broken f' few' wait') = absurd (few_bytes s f' few' wait' d.may_run)
  one_end s last other stop end (finished w d all) (overlong o' n' goes' may' d' over') =
      absurd (not_long s n' o' Fails d' over' d)
  one_end s last other stop end (finished w d all) (costly k' n' es' d' is' over') =
      absurd (not_failed s k' es' d d')
  one_end s last other stop end (finished w d all) (no_match d' lt') = absurd (omega (arith, all, lt'))
  one_end s last other stop end (finished w d all) (finished w' d' all') = record { lasts = refl; stops = refl }
  one_end s last other stop end (finished w d all) (no_unit w' d' all') = absurd (cc)
  one_end s last other stop end (finished w d all) (empty_before_end text' u' lt') = absurd (not_both s 0 text' d u')
  one_end s last other stop end (finished w d all) (empty_at_end text' u' all') = absurd (not_both s 0 text' d u')
  one_end s last other stop end (finished w d all) (over_before_end is' may' lt') = absurd (not_over s d.goes is')
  one_end s last other stop end (finished w d all) (over_at_end is' may' all') = absurd (not_over s d.goes is')
  one_end s last other stop end (no_unit w d all) (broken f' few' wait') = absurd (few_bytes s f' few' wait' d.may_run)
  one_end s last other stop end (no_unit w d all) (overlong o' n' goes' may' d' over') =
      absurd (not_long s n' o' Fails d' over' d)
  one_end s last other stop end (no_unit w d all) (costly k' n' es' d' is' over') =
      absurd (not_failed s k' es' d d')
  one_end s last other stop end (no_unit w d all) (no_match d' lt') = absurd (omega (arith, all, lt'))
  one_end s last other stop end (no_unit w d all) (finished w' d' all') = absurd (cc)
  one_end s last other stop end (no_unit w d all) (no_unit w' d' all') = record { lasts = refl; stops = refl }
  one_end s last other stop end (no_unit w d all) (empty_before_end text' u' lt') = absurd (not_both s 0 text' d u')
  one_end s last other stop end (no_unit w d all) (empty_at_end text' u' all') = absurd (not_both s 0 text' d u')
  one_end s last other stop end (no_unit w d all) (over_before_end is' may' lt') = absurd (not_over s d.goes is')
  one_end s last other stop end (no_unit w d all) (over_at_end is' may' all') = absurd (not_over s d.goes is')
  one_end s last other stop end (empty_before_end text u lt) (broken f' few' wait') =
      absurd (few_bytes s f' few' wait' u.gives.may_run)
  one_end s last other stop end (empty_before_end text u lt) (overlong o' n' goes' may' d' over') =
      absurd (not_long s n' o' (Takes 0 u.events) d' over' u.gives)
  one_end s last other stop end (empty_before_end text u lt) (costly k' n' es' d' is' over') =
      absurd (not_costly s 0 text k' n' es' u d' is' over')
  one_end s last other stop end (empty_before_end text u lt) (no_match d' lt') = absurd (not_both s 0 text d' u)
  one_end s last other stop end (empty_before_end text u lt) (finished w' d' all') = absurd (not_both s 0 text d' u)
  one_end s last other stop end (empty_before_end text u lt) (no_unit w' d' all') = absurd (not_both s 0 text d' u)
  one_end s last other stop end (empty_before_end text u lt) (empty_before_end text' u' lt') =
      record { lasts = (one_unit s 0 0 text text' u u').texts; stops = refl }
  one_end s last other stop end (empty_before_end text u lt) (empty_at_end text' u' all') =
      absurd (omega (arith, lt, all'))
  one_end s last other stop end (empty_before_end text u lt) (over_before_end is' may' lt') =
      absurd (not_over s u.gives.goes is')
  one_end s last other stop end (empty_before_end text u lt) (over_at_end is' may' all') =
      absurd (not_over s u.gives.goes is')
  one_end s last other stop end (empty_at_end text u all) (broken f' few' wait') =
      absurd (few_bytes s f' few' wait' u.gives.may_run)
  one_end s last other stop end (empty_at_end text u all) (overlong o' n' goes' may' d' over') =
      absurd (not_long s n' o' (Takes 0 u.events) d' over' u.gives)
  one_end s last other stop end (empty_at_end text u all) (costly k' n' es' d' is' over') =
      absurd (not_costly s 0 text k' n' es' u d' is' over')
  one_end s last other stop end (empty_at_end text u all) (no_match d' lt') = absurd (not_both s 0 text d' u)
  one_end s last other stop end (empty_at_end text u all) (finished w' d' all') = absurd (not_both s 0 text d' u)
  one_end s last other stop end (empty_at_end text u all) (no_unit w' d' all') = absurd (not_both s 0 text d' u)
  one_end s last other stop end (empty_at_end text u all) (empty_before_end text' u' lt') =
      absurd (omega (arith, all, lt'))
  one_end s last other stop end (empty_at_end text u all) (empty_at_end text' u' all') =
      record { lasts = (one_unit s 0 0 text text' u u').texts; stops = refl }
  one_end s last other stop end (empty_at_end text u all) (over_before_end is' may' lt') =
      absurd (not_over s u.gives.goes is')
  one_end s last other stop end (empty_at_end text u all) (over_at_end is' may' all') =
      absurd (not_over s u.gives.goes is')
  one_end s last other stop end (over_before_end is may lt) (broken f' few' wait') =
      absurd (few_bytes s f' few' wait' may)
  one_end s last other stop end (over_before_end is may lt) (overlong o' n' goes' may' d' over') =
      absurd (not_over s goes' is)
  one_end s last other stop end (over_before_end is may lt) (costly k' n' es' d' is' over') =
      absurd (not_over s d'.goes is)
  one_end s last other stop end (over_before_end is may lt) (no_match d' lt') = absurd (not_over s d'.goes is)
  one_end s last other stop end (over_before_end is may lt) (finished w' d' all') = absurd (not_over s d'.goes is)
  one_end s last other stop end (over_before_end is may lt) (no_unit w' d' all') = absurd (not_over s d'.goes is)
  one_end s last other stop end (over_before_end is may lt) (empty_before_end text' u' lt') =
      absurd (not_over s u'.gives.goes is)
  one_end s last other stop end (over_before_end is may lt) (empty_at_end text' u' all') =
      absurd (not_over s u'.gives.goes is)
  one_end s last other stop end (over_before_end is may lt) (over_before_end is' may' lt') =
      record { lasts = refl; stops = refl }
  one_end s last other stop end (over_before_end is may lt) (over_at_end is' may' all') =
      absurd (omega (arith, lt, all'))
  one_end s last other stop end (over_at_end is may all) (broken f' few' wait') = absurd (few_bytes s f' few' wait' may)
  one_end s last other stop end (over_at_end is may all) (overlong o' n' goes' may' d' over') =
      absurd (not_over s goes' is)
  one_end s last other stop end (over_at_end is may all) (costly k' n' es' d' is' over') =
      absurd (not_over s d'.goes is)
  one_end s last other stop end (over_at_end is may all) (no_match d' lt') = absurd (not_over s d'.goes is)
  one_end s last other stop end (over_at_end is may all) (finished w' d' all') = absurd (not_over s d'.goes is)
  one_end s last other stop end (over_at_end is may all) (no_unit w' d' all') = absurd (not_over s d'.goes is)
  one_end s last other stop end (over_at_end is may all) (empty_before_end text' u' lt') =
      absurd (not_over s u'.gives.goes is)
  one_end s last other stop end (over_at_end is may all) (empty_at_end text' u' all') =
      absurd (not_over s u'.gives.goes is)
  one_end s last other stop end (over_at_end is may all) (over_before_end is' may' lt') =
      absurd (omega (arith, all, lt'))
  one_end s last other stop end (over_at_end is may all) (over_at_end is' may' all') =
      record { lasts = refl; stops = refl }

  abbrev PlainReply : Reply → Type 0
  PlainReply reply = PlainReplies rules start settings input reply

  -- two runs of the units end in one way at one position
  record OneRun (a b : Reply) (r : PlainReply a) (q : PlainReply b) : Type 0 where
    replies : a ≡ b
    points : r.point ≡ q.point
    stops : r.stop ≡ q.stop

  -- two replies whose units compare so
  replies_settled : (a b : Reply) (r : PlainReply a) (q : PlainReply b) →
      Compares r.point r.before q.point q.before → OneRun a b r q
  replies_settled a b r q (same here is) =
      let h = one_end r.point r.last q.last r.stop q.stop r.ends
      (subst (λ v. EndsAt v q.last q.stop) (sym here) q.ends) in
      let last = h.lasts in
      let stop = h.stops in
      record {
        replies = same_reply a b (r.out ∙ ap (λ t. t ++ r.last) is ∙ ap (λ t. q.before ++ t) last ∙ sym q.out)
            (r.err ∙ ap (λ w. message_of w) stop ∙ sym q.err)
            (r.status ∙ ap (λ w. code_of (status_of w)) stop ∙ sym q.status)
            (r.taken ∙ ap (λ v. taken_at settings input v) here ∙ sym q.taken);
        points = here;
        stops = stop;
      }
  replies_settled a b r q (before to) = absurd (no_end r.point q.point r.last r.stop to r.ends)
  replies_settled a b r q (after to) = absurd (no_end q.point r.point q.last q.stop to q.ends)

  one_run : (a b : Reply) (r : PlainReply a) (q : PlainReply b) → OneRun a b r q
  one_run a b r q = replies_settled a b r q (units_compare r.point r.before r.steps q.point q.before q.steps)

  -- the unit before a position is one, as compared
  one_before_of : (s k s' k' : ℕ) (text last text' last' : List ℕ) → UnitAt s k last → UnitAt s' k' last' → 0 < k
      → 0 < k' → s + k ≡ s' + k' → Compares s text s' text' → s ≡ s'
  one_before_of s k s' k' text last text' last' unit unit' some some' e (same here is) = here
  one_before_of s k s' k' text last text' last' unit unit' some some' e (before r) =
      let h = one_unit s k r.bytes last r.text unit r.unit in
      absurd (omega (arith, h.bytes, r.within, e, some'))
  one_before_of s k s' k' text last text' last' unit unit' some some' e (after r) =
      let h = one_unit s' k' r.bytes last' r.text unit' r.unit in
      absurd (omega (arith, h.bytes, r.within, e, some))

  one_before_at : (s : ℕ) (u : Option ℕ) → UnitBefore rules start settings input s u → (t : ℕ) (v : Option ℕ)
      → UnitBefore rules start settings input t v → s ≡ t → u ≡ v
  one_before_at s u none_before t v none_before e = refl
  one_before_at s u none_before t v (one_before s' k' text' last' units' unit' some') e =
      absurd (omega (arith, e, some'))
  one_before_at s u (one_before at k text last units unit some) t v none_before e = absurd (omega (arith, e, some))
  one_before_at s u (one_before at k text last units unit some) t v (one_before s' k' text' last' units' unit' some')
      e =
      ap (λ (x : ℕ). Some x) (one_before_of at k s' k' text last text' last' unit unit' some some' e
      (units_compare at text units s' text' units'))

  module _ (one_reported : NoMatchesAreOne) where
    -- what explains a stop is one text
    one_lines : (s : ℕ) (stop : Stop) (a b : List ℕ) → StopLines rules start settings input s stop a
        → StopLines rules start settings input s stop b → a ≡ b
    one_lines s (Quiet status) a b g h = g ∙ sym h
    one_lines s (NoMatch at) a b (first, is, reported) (other, too, reports) =
        let same = one_before_at s first is s other too refl in
        let seen : List ℕ = take (taken_at settings input s) input.bytes in
        one_reported rules start seen other s a b
        (subst (λ (v : Option ℕ). IsNoMatchReported rules start seen v s a) same reported) reports
    one_lines s (LongUnit at limit) a b g h = g ∙ sym h
    one_lines s (CostlyUnit at budget) a b g h = g ∙ sym h
    one_lines s (LongLine line limit) a b g h = g ∙ sym h
    one_lines s (CostlyLine line budget) a b g h = g ∙ sym h
    one_lines s Broken a b g h = g ∙ sym h
    one_lines s NoMemory a b g h = g ∙ sym h
    one_lines s (Refused fault) a b g h = g ∙ sym h
    one_lines s Unreadable a b g h = g ∙ sym h

    one_why : (s t : ℕ) (stop end : Stop) (a b : List ℕ) → s ≡ t → stop ≡ end
        → WhyStopped rules start settings input s stop a → WhyStopped rules start settings input t end b → a ≡ b
    one_why s t stop end a b here is g h =
        one-explained settings (StopLines rules start settings input t end) (one_lines t end) a b
        (subst (λ (v : Stop). WhyStopped rules start settings input t v a) is
        (subst (λ (v : ℕ). WhyStopped rules start settings input v stop a) here g)) h

    one_reported_reply : (a b : Reply) → Replies rules start settings input a → Replies rules start settings input b
        → a ≡ b
    one_reported_reply a b r q =
        let run = one_run r.plain q.plain r.replies q.replies in
        let why = one_why r.replies.point q.replies.point r.replies.stop q.replies.stop r.why q.why run.points run.stops
        r.explains q.explains in
        r.reported ∙ ap (λ t. explained_reply t r.plain r.why) (r.reports ∙ sym q.reports)
        ∙ ap (λ (v : Reply). explained_reply q.before v r.why) run.replies
        ∙ ap (explained_reply q.before q.plain) why ∙ sym q.reported

-- one reply without explanations
pub one_plain : (rules : List Rule) (start : ℕ) (settings : PegSettings) (input : Input) (a b : Reply)
    → PlainReplies rules start settings input a → PlainReplies rules start settings input b → a ≡ b
one_plain rules start settings input a b r q = let run = one_run rules start settings input a b r q in run.replies

-- one reply
pub one_reply : NoMatchesAreOne → (rules : List Rule) (start : ℕ) (settings : PegSettings) (input : Input) (a b : Reply)
    → Replies rules start settings input a → Replies rules start settings input b → a ≡ b
one_reply one_reported rules start settings input a b r q = one_reported_reply rules start settings input one_reported a
    b r q
