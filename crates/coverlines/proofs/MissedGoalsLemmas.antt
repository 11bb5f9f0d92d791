-- Goals that do not fit are those that no line reaches.
-- Serves: cover_lines
use Rattle.std.proofs.Common.{◌≡◌, ⊎_elim, Bool, false, ℕ, zero, suc, ◌+◌, ◌<◌, ◌≤◌, List, [], ◌∷◌, ◌++◌, map, take}
use Rattle.std.proofs.Common.{drop, get_or, length, append-nil, append_assoc, Contains, Option, Some, None}
use Rattle.std.proofs.Common.{Vec, Global, refl, sym, ◌∙◌, ap, subst, arith}
use Rattle.std.specs.Prelude.{slice_get, slice_index_or}
use Rattle.std.proofs.lemmas.List.Elements.{Contains-append_cases}
use Rattle.std.proofs.lemmas.List.{length-map, length-take-le, map-append}
use Rattle.abnfread.specs.AbnfViews.{element_of, elements, elements_of}
use Rattle.abnfread.specs.Element as e
use Rattle.abnfread.specs.Element.{Element, Rule, bodies}
use Rattle.abnfread.specs.declared.elem.Elem.{Elem}
use Rattle.abnfcheck.specs.AbnfGrammar.{Reachable}
use Rattle.ruletable.specs.Letters.{has}
use Rattle.coverlines.specs.CoverLines.{line_around}
use Rattle.coverlines.specs.Goals as g
use Rattle.coverlines.specs.Goals.{Inside, member_at}
use Rattle.coverlines.specs.MadeWords.{AreMade, HasMade, MakesSo}
use Rattle.coverlines.specs.MissedGoals.{AreMissedFrom, AreSifted, HasLine, HasNoLine, IsGoalOf, SitedGoal}
use Rattle.coverlines.specs.MissedGoals.{goal_of, goals_from, goals_in, named_rule, no_goal, no_rule, one_hit, one_miss}
use Rattle.coverlines.specs.MissedGoals.{own_goal, under, unnamed_rule}
use Rattle.coverlines.specs.MissedSteps.{AddsGoals, FitsAt, HasMadeIn, HasMadeWithin, IsRoomInside, MayFit}
use Rattle.coverlines.specs.MissedSteps.{room_of_context}
use Rattle.coverlines.specs.RuleContexts.{AreShortestContexts, IsContext, context_at, context_cost}
use Rattle.coverlines.specs.Shortest.{IsShortest, SpellsAll, may}
use Rattle.coverlines.specs.Sites.{OtherRounds, StandsAt, Stood, room_of, stood_in}
use Rattle.coverlines.specs.declared.bounds.LineBounds.{LineBounds}
use Rattle.coverlines.specs.declared.context.LineContext.{LineContext}
use Rattle.coverlines.specs.declared.made.MadeWord.{MadeWord}
use Rattle.coverlines.specs.declared.way.CoverGoal.{CoverGoal}
use Rattle.coverlines.specs.declared.way.GoalWay.{GoalWay}
use Rattle.coverlines.proofs.CoverLinesLemmas.{line_length, line_reaches, parts_of}
use Rattle.coverlines.proofs.KnownWordsLemmas.{body_below}
use Rattle.coverlines.proofs.MemberLemmas.{item_in, none_in, only_in, taken_more, taken_past}
use Rattle.coverlines.proofs.SitesLemmas as p
use Rattle.coverlines.proofs.SitesLemmas.{LeastPair, Split, room_in}

-- goals one after the other
module _ (rule : ℕ) (H M : SitedGoal → Type 0) where
  sifted_append : {xs ys : List SitedGoal} {ms ns : List CoverGoal} → AreSifted rule H M xs ms
      → AreSifted rule H M ys ns → AreSifted rule H M (xs ++ ys) (ms ++ ns)
  sifted_append no_goal t = t
  sifted_append (one_hit h s) t = one_hit h (sifted_append s t)
  sifted_append (one_miss h is s) t = one_miss h is (sifted_append s t)

  module _ (H' M' : SitedGoal → Type 0) where
    sifted_under : (i : ℕ) → ((x : SitedGoal) → H x → H' (under i x)) → ((x : SitedGoal) → M x → M' (under i x))
        → {xs : List SitedGoal} {ms : List CoverGoal} → AreSifted rule H M xs ms
        → AreSifted rule H' M' (map (under i) xs) ms
    sifted_under i hit miss no_goal = no_goal
    sifted_under i hit miss (one_hit {g = x} h s) = one_hit (hit x h) (sifted_under i hit miss s)
    sifted_under i hit miss (one_miss {g = x} h is s) = one_miss (miss x h)
        (record { rule_is = is.rule_is; element_is = is.element_is; way_is = is.way_is }) (sifted_under i hit miss s)

    sifted_as : ((x : SitedGoal) → H x → H' x) → ((x : SitedGoal) → M x → M' x)
        → {xs : List SitedGoal} {ms : List CoverGoal} → AreSifted rule H M xs ms → AreSifted rule H' M' xs ms
    sifted_as hit miss no_goal = no_goal
    sifted_as hit miss (one_hit {g = x} h s) = one_hit (hit x h) (sifted_as hit miss s)
    sifted_as hit miss (one_miss {g = x} h is s) = one_miss (miss x h) is (sifted_as hit miss s)

-- the goals of the first so many operands
goals_more : (k : ℕ) (xs : List Element) (x : Element) → goals_from k (elements (xs ++ x ∷ []))
    ≡ goals_from k (elements xs) ++ map (under (k + length xs)) (goals_in x)
goals_more k [] x =
    let same : k ≡ k + 0 = omega arith in
    append-nil (map (under k) (goals_in x)) ∙ ap (λ (n : ℕ). map (under n) (goals_in x)) same
goals_more k (y ∷ xs) x =
    let same : suc k + length xs ≡ k + length (y ∷ xs) = omega arith in
    ap (λ v. map (under k) (goals_in y) ++ v) (goals_more (suc k) xs x
    ∙ ap (λ (n : ℕ). goals_from (suc k) (elements xs) ++ map (under n) (goals_in x)) same)
    ∙ sym (append_assoc (map (under k) (goals_in y)) (goals_from (suc k) (elements xs))
    (map (under (k + length (y ∷ xs))) (goals_in x)))

goals_next : (es : List Elem) (i : ℕ) (el : Elem) → i < length es → el ≡ get_or es i el
    → goals_from 0 (elements_of (take (i + 1) es))
    ≡ goals_from 0 (elements_of (take i es)) ++ map (under i) (goals_in (element_of el))
goals_next es i el lt is =
    let n = length-map (take i es) element_of in
    let m = length-take-le i es (omega (arith, lt)) in
    let same : 0 + length (map element_of (take i es)) ≡ i = omega (arith, n, m) in
    ap (λ (xs : List Elem). goals_from 0 (elements_of xs)) (taken_more es i el lt is)
    ∙ ap (λ (xs : List Element). goals_from 0 (elements xs)) (map-append element_of (take i es) (el ∷ []))
    ∙ goals_more 0 (map element_of (take i es)) (element_of el)
    ∙ ap (λ (n : ℕ). goals_from 0 (elements_of (take i es)) ++ map (under n) (goals_in (element_of el))) same

module _ (b : LineBounds) (rules : List Rule) (rule : ℕ) where
  module _ (whole : Element) (room : Option ℕ) where
    pub adds_no_goals : (old : List CoverGoal) → AddsGoals b rules rule whole room [] old old
    adds_no_goals old = record { added = []; sifted = no_goal; is = sym (append-nil old) }

    pub adds_goals : (xs ys : List SitedGoal) (old mid new : List CoverGoal)
        → AddsGoals b rules rule whole room xs old mid → AddsGoals b rules rule whole room ys mid new
        → AddsGoals b rules rule whole room (xs ++ ys) old new
    adds_goals xs ys old mid new one two = record {
      added = one.added ++ two.added;
      sifted = sifted_append rule (MayFit b rules whole room) (λ x. MayFit b rules whole room x → ⊥) one.sifted
          two.sifted;
      is = two.is ∙ ap (λ v. v ++ two.added) one.is ∙ append_assoc old one.added two.added;
    }

    operand_goals : (d : Element) (i : ℕ) (inner : Option ℕ)
        → ((x : SitedGoal) → MayFit b rules d inner x → MayFit b rules whole room (under i x))
        → ((x : SitedGoal) → MayFit b rules whole room (under i x) → MayFit b rules d inner x)
        → (old new : List CoverGoal) → AddsGoals b rules rule d inner (goals_in d) old new
        → AddsGoals b rules rule whole room (map (under i) (goals_in d)) old new
    operand_goals d i inner into out old new h = record {
      added = h.added;
      sifted = sifted_under rule (MayFit b rules d inner) (λ x. MayFit b rules d inner x → ⊥)
          (MayFit b rules whole room) (λ x. MayFit b rules whole room x → ⊥) i into
          (λ x never fit. never (out x fit)) h.sifted;
      is = h.is;
    }

module _ (b : LineBounds) (rules : List Rule) where
  module _ (whole d : Element) (i : ℕ) (C : List ℕ → List ℕ → Type 0)
      (make : (q : List ℕ) (s : Stood) (u v : List ℕ) → C u v → StandsAt b rules d q s
      → StandsAt b rules whole (i ∷ q) (stood_in u v s))
      (split : (q : List ℕ) (s : Stood) → StandsAt b rules whole (i ∷ q) s → Split C (StandsAt b rules d q) s) where
    -- with shortest lists round the operand
    fits_into : (room inner : Option ℕ) (front back : Option (Vec ℕ Global)) → LeastPair C b.limit front back
        → IsRoomInside b.limit room front back inner → (x : SitedGoal) → MayFit b rules d inner x
        → MayFit b rules whole room (under i x)
    fits_into None inner front back least is x fit = subst (λ k. MayFit b rules d k x) is fit
    fits_into (Some n) inner None back least is x fit = absurd (subst (λ k. MayFit b rules d k x) is fit)
    fits_into (Some n) inner (Some f) None least is x fit = absurd (subst (λ k. MayFit b rules d k x) is fit)
    fits_into (Some n) None (Some f) (Some k) least is x fit = absurd fit
    fits_into (Some n) (Some m) (Some f) (Some k) least is x fit = record {
      stood = stood_in f.items k.items fit.stood;
      word = fit.word;
      stands = make x.site fit.stood f.items k.items least.0 fit.stands;
      makes = fit.makes;
      within = let l = room_in f.items k.items fit.stood in let few = fit.within in omega (arith, l, is, few);
    }

    inner_fits : (n m : ℕ) (x : SitedGoal) (fit : FitsAt b rules whole n (i ∷ x.site) x.way)
        → ((t : Split C (StandsAt b rules d x.site) fit.stood)
        → m + room_of t.inner ≤ n + ((length t.front + length t.back) + room_of t.inner))
        → FitsAt b rules d m x.site x.way
    inner_fits n m x fit few = record {
      stood = t.inner;
      word = fit.word;
      stands = t.stands;
      makes = subst (λ v. MakesSo b rules v x.way fit.word) (ap (λ (s : Stood). s.element) t.is) fit.makes;
      within = let l = ap room_of t.is ∙ room_in t.front t.back t.inner in let le = few t in let w = fit.within in
          omega (arith, l, le, w);
    }
      where
        t : Split C (StandsAt b rules d x.site) fit.stood
        t = split x.site fit.stood fit.stands

    too_many : (n : ℕ) (x : SitedGoal) → FitsAt b rules whole n (i ∷ x.site) x.way
        → ((u v : List ℕ) → C u v → b.limit < n + (length u + length v)) → ⊥
    too_many n x fit far =
        let t = split x.site fit.stood fit.stands in
        let more = far t.front t.back t.round in
        let l = ap room_of t.is ∙ room_in t.front t.back t.inner in
        let w = fit.within in omega (arith, more, l, w)

    fits_out : (room inner : Option ℕ) (front back : Option (Vec ℕ Global)) → LeastPair C b.limit front back
        → IsRoomInside b.limit room front back inner → (x : SitedGoal) → MayFit b rules whole room (under i x)
        → MayFit b rules d inner x
    fits_out None inner front back least is x fit = absurd fit
    fits_out (Some n) inner None back least is x fit = absurd (too_many n x fit
        (λ u v c. let far = least u v c in omega (arith, far)))
    fits_out (Some n) inner (Some f) None least is x fit = absurd (too_many n x fit
        (λ u v c. let far = least u v c in omega (arith, far)))
    fits_out (Some n) None (Some f) (Some k) least is x fit = too_many n x fit
        (λ u v c. let few = least.1 u v c in omega (arith, few, is))
    fits_out (Some n) (Some m) (Some f) (Some k) least is x fit = inner_fits n m x fit
        (λ t. let few = least.1 t.front t.back t.round in omega (arith, few, is))

    -- with nothing round it
    same_into : C [] [] → (room : Option ℕ) (x : SitedGoal) → MayFit b rules d room x
        → MayFit b rules whole room (under i x)
    same_into bare None x fit = fit
    same_into bare (Some n) x fit = record {
      stood = stood_in [] [] fit.stood;
      word = fit.word;
      stands = make x.site fit.stood [] [] bare fit.stands;
      makes = fit.makes;
      within = let l = room_in [] [] fit.stood in let few = fit.within in omega (arith, l, few);
    }

    same_out : (room : Option ℕ) (x : SitedGoal) → MayFit b rules whole room (under i x) → MayFit b rules d room x
    same_out None x fit = fit
    same_out (Some n) x fit = inner_fits n n x fit (λ t. omega arith)

  -- the goals of an element itself
  module _ (el : Element) (all : List MadeWord) (are : AreMade b rules el all) where
    made_fits : (way : GoalWay) (room : Option ℕ) → HasMadeIn all way b.limit room
        → MayFit b rules el room (own_goal el way)
    made_fits way None h = h
    made_fits way (Some n) h = record {
      stood = record { element = el; before = []; after = [] };
      word = h.made.word.items;
      stands = record { inside = g.itself; before = tt; after = tt };
      makes = subst (λ v. MakesSo b rules el v h.made.word.items) h.same (are.right h.made h.among).is;
      within = let few = h.within in omega (arith, few);
    }

    fits_made : (way : GoalWay) (room : Option ℕ)
        → MayFit b rules el room (own_goal el way) → HasMadeIn all way b.limit room
    fits_made way None fit = fit
    fits_made way (Some n) fit =
        let makes : MakesSo b rules el way fit.word = subst (λ v. MakesSo b rules v way fit.word)
        (sym (element_is fit.stands.inside)) fit.makes in
        let few = fit.within in
        let m : HasMade b rules el all way fit.word = are.complete way fit.word makes (omega (arith, few)) in
        let le = m.within in record {
          made = m.made;
          among = m.among;
          same = m.same;
          within = omega (arith, few, le);
        }
      where
        element_is : {a d : Element} {x y : List ℕ} → Inside (has b.alphabet) (may b) rules a [] d x y → a ≡ d
        element_is g.itself = refl

    module _ (rule : ℕ) (room : Option ℕ) (ways : List GoalWay) (i : ℕ) (way : GoalWay) (old mid : List CoverGoal)
        (lt : i < length ways) (is : way ≡ get_or ways i way)
        (h : AddsGoals b rules rule el room (map (own_goal el) (take i ways)) old
        mid) where
      next_own : (new : List CoverGoal)
          → AddsGoals b rules rule el room (own_goal el way ∷ []) mid new
          → AddsGoals b rules rule el room
          (map (own_goal el) (take (i + 1) ways)) old new
      next_own new one = subst (λ (xs : List SitedGoal). AddsGoals b rules rule el room xs old new)
          (sym (ap (map (own_goal el)) (taken_more ways i way lt is)
          ∙ map-append (own_goal el) (take i ways) (way ∷ [])))
          (adds_goals b rules rule el room (map (own_goal el) (take i ways))
          (own_goal el way ∷ []) old mid new h one)

      pub own_fits : HasMadeIn all way b.limit room → AddsGoals b rules rule el room
          (map (own_goal el) (take (i + 1) ways)) old mid
      own_fits made = next_own mid (record {
        added = [];
        sifted = one_hit (made_fits way room made) no_goal;
        is = sym (append-nil mid);
      })

      pub own_missed : (m : CoverGoal) (new : List CoverGoal) → (HasMadeIn all way b.limit room → ⊥)
          → IsGoalOf rule (own_goal el way) m → new ≡ mid ++ m ∷ []
          → AddsGoals b rules rule el room
          (map (own_goal el) (take (i + 1) ways)) old new
      own_missed m new never is at = next_own new (record {
        added = m ∷ [];
        sifted = one_miss (λ fit. never (fits_made way room fit)) is no_goal;
        is = at;
      })

  -- the goals within operands
  module _ (rule : ℕ) where
    pub option_goals : (d : Element) (room : Option ℕ) (old new : List CoverGoal)
        → AddsGoals b rules rule d room (goals_in d) old new
        → AddsGoals b rules rule (e.Opt d) room (map (under 0) (goals_in d)) old new
    option_goals d room old new h = operand_goals b rules rule (e.Opt d) room d 0 room
        (same_into (e.Opt d) d 0 (λ u v. (u ≡ []) × (v ≡ [])) (p.opt_make b rules d) (p.opt_split b rules d)
        (refl, refl) room)
        (same_out (e.Opt d) d 0 (λ u v. (u ≡ []) × (v ≡ [])) (p.opt_make b rules d) (p.opt_split b rules d) room)
        old new h

    pub rounds_goals : (a : ℕ) (most : Option ℕ) (d : Element) (f : Vec ℕ Global) (back : Option (Vec ℕ Global))
        (room inner : Option ℕ) (old new : List CoverGoal) → f.items ≡ []
        → IsShortest (OtherRounds b rules a most d) b.limit back
        → IsRoomInside b.limit room (Some f) back inner → AddsGoals b rules rule d inner (goals_in d) old new
        → AddsGoals b rules rule (e.Rep a most d) room (map (under 0) (goals_in d)) old new
    rounds_goals a most d f back room inner old new bare few is h =
        let least = p.rounds_least b rules a most d f back bare few in
        operand_goals b rules rule (e.Rep a most d) room d 0 inner
        (fits_into (e.Rep a most d) d 0 (p.Rounds b rules a most d) (p.rep_make b rules a most d)
        (p.rep_split b rules a most d) room inner (Some f) back least is)
        (fits_out (e.Rep a most d) d 0 (p.Rounds b rules a most d) (p.rep_make b rules a most d)
        (p.rep_split b rules a most d) room inner (Some f) back least is) old new h

    module _ (es : List Elem) (i : ℕ) (el : Elem) (lt : i < length es) (is : el ≡ get_or es i el) where
      member_there : member_at (elements_of es) i ≡ Some (element_of el)
      member_there = p.member_get b rules es i el lt is

      pub next_alternative : (room : Option ℕ) (old mid new : List CoverGoal)
          → AddsGoals b rules rule (e.Alt (elements_of es)) room (goals_from 0 (elements_of (take i es))) old mid
          → AddsGoals b rules rule (element_of el) room (goals_in (element_of el)) mid new
          → AddsGoals b rules rule (e.Alt (elements_of es)) room (goals_from 0 (elements_of (take (i + 1) es))) old new
      next_alternative room old mid new h one =
          subst (λ (xs : List SitedGoal). AddsGoals b rules rule (e.Alt (elements_of es)) room xs old new)
          (sym (goals_next es i el lt is))
          (adds_goals b rules rule (e.Alt (elements_of es)) room (goals_from 0 (elements_of (take i es)))
          (map (under i) (goals_in (element_of el))) old mid new h
          (operand_goals b rules rule (e.Alt (elements_of es)) room (element_of el) i room
          (same_into (e.Alt (elements_of es)) (element_of el) i (λ u v. (u ≡ []) × (v ≡ []))
          (p.alt_make b rules (elements_of es) (element_of el) i member_there)
          (p.alt_split b rules (elements_of es) (element_of el) i member_there) (refl, refl) room)
          (same_out (e.Alt (elements_of es)) (element_of el) i (λ u v. (u ≡ []) × (v ≡ []))
          (p.alt_make b rules (elements_of es) (element_of el) i member_there)
          (p.alt_split b rules (elements_of es) (element_of el) i member_there) room) mid new one))

      pub next_member : (front back : Option (Vec ℕ Global)) (room inner : Option ℕ) (old mid new : List CoverGoal)
          → IsShortest (SpellsAll b rules (elements_of (take i es))) b.limit front
          → IsShortest (SpellsAll b rules (elements_of (drop (suc i) es))) b.limit back
          → IsRoomInside b.limit room front back inner
          → AddsGoals b rules rule (e.Concat (elements_of es)) room (goals_from 0 (elements_of (take i es))) old mid
          → AddsGoals b rules rule (element_of el) inner (goals_in (element_of el)) mid new
          → AddsGoals b rules rule (e.Concat (elements_of es)) room (goals_from 0 (elements_of (take (i + 1) es))) old
          new
      next_member front back room inner old mid new one two inside h own =
          let least = p.members_least b rules es i el lt is front back one two in
          subst (λ (xs : List SitedGoal). AddsGoals b rules rule (e.Concat (elements_of es)) room xs old new)
          (sym (goals_next es i el lt is))
          (adds_goals b rules rule (e.Concat (elements_of es)) room (goals_from 0 (elements_of (take i es)))
          (map (under i) (goals_in (element_of el))) old mid new h
          (operand_goals b rules rule (e.Concat (elements_of es)) room (element_of el) i inner
          (fits_into (e.Concat (elements_of es)) (element_of el) i
          (p.Members b rules (elements_of es) (element_of el) i)
          (p.concat_make b rules (elements_of es) (element_of el) i)
          (p.concat_split b rules (elements_of es) (element_of el) i member_there) room inner front back least inside)
          (fits_out (e.Concat (elements_of es)) (element_of el) i
          (p.Members b rules (elements_of es) (element_of el) i)
          (p.concat_make b rules (elements_of es) (element_of el) i)
          (p.concat_split b rules (elements_of es) (element_of el) i member_there) room inner front back least inside)
          mid new own))

    pub all_operands : (whole : Element) (room : Option ℕ) (es : List Elem) (n : ℕ) (old new : List CoverGoal)
        → length es ≤ n
        → AddsGoals b rules rule whole room (goals_from 0 (elements_of (take n es))) old new
        → AddsGoals b rules rule whole room (goals_from 0 (elements_of es)) old new
    all_operands whole room es n old new le h =
        subst (λ (xs : List Elem). AddsGoals b rules rule whole room (goals_from 0 (elements_of xs)) old new)
        (taken_past es n le) h

-- the rule with an id
rule_there : (rules : List Rule) (i : ℕ) → i < length rules
    → (rule : Rule) × (rule ≡ get_or rules i rule) × (slice_get (bodies rules) i ≡ Some rule.body)
rule_there [] i lt = absurd (omega (arith, lt))
rule_there (rule ∷ rules) zero lt = (rule, refl, refl)
rule_there (rule ∷ rules) (suc i) lt = rule_there rules i (omega (arith, lt))

pub mark_at : (marks : List Bool) (i : ℕ) (x : Bool) → i < length marks → x ≡ get_or marks i x
    → slice_index_or marks i false ≡ x
mark_at [] i x lt is = absurd (omega (arith, lt))
mark_at (m ∷ marks) zero x lt is = sym is
mark_at (m ∷ marks) (suc i) x lt is = mark_at marks i x (omega (arith, lt)) is

-- the goals of rules
module _ (b : LineBounds) (rules : List Rule) (judged : ℕ) where
  module _ (contexts : List (Option LineContext)) (h : AreShortestContexts b rules judged contexts) (id : ℕ)
      (body : Element) (is : slice_get (bodies rules) id ≡ Some body) where
    fit_reached : (c : Option LineContext) → context_at contexts id ≡ c → (x : SitedGoal)
        → MayFit b rules body (room_of_context c) x → HasLine b rules judged id x
    fit_reached None at x fit = absurd fit
    fit_reached (Some c) at x fit =
        let n = line_length c fit.stood fit.word in
        let w = fit.within in (
          line_around c fit.stood fit.word,
          line_reaches b rules judged (goal_of id x) c fit.stood body fit.word
              (subst (IsContext b rules judged id) at (h.stands id)).0 is fit.stands fit.makes
              (omega (arith, n, w)),
        )

    reached_fits : (c : Option LineContext) → context_at contexts id ≡ c → (x : SitedGoal)
        → HasLine b rules judged id x → MayFit b rules body (room_of_context c) x
    reached_fits c at x line = by c at
      where
        by : (c : Option LineContext) → context_at contexts id ≡ c → MayFit b rules body (room_of_context c) x
        by None at =
            let q = parts_of b rules judged (goal_of id x) line.0 line.1 in
            let long = q.long in
            let few = line.1.line.within in
            let lt = body_below rules id body is in
            let cost = subst (λ v. context_cost b.limit v ≤ length q.does.before + length q.does.after) at
            (h.least id q.does.before q.does.after lt q.around (omega (arith, long, few))) in
            absurd (omega (arith, cost, long, few))
        by (Some c) at =
            let q = parts_of b rules judged (goal_of id x) line.0 line.1 in
            let long = q.long in
            let few = line.1.line.within in
            let lt = body_below rules id body is in
            let cost = subst (λ v. context_cost b.limit v ≤ length q.does.before + length q.does.after) at
            (h.least id q.does.before q.does.after lt q.around (omega (arith, long, few))) in
            let there = q.does.body_is in
            let same : q.does.body ≡ body = cc (there, is) in record {
              stood = record { element = q.does.element; before = q.does.left; after = q.does.right };
              word = q.does.word;
              stands = subst (λ v. StandsAt b rules v x.site (record {
                element = q.does.element;
                before = q.does.left;
                after = q.does.right;
              })) same q.stands;
              makes = q.makes;
              within = omega (arith, cost, long, few);
            }

    rule_goals : (c : Option LineContext) → context_at contexts id ≡ c → (old new : List CoverGoal)
        → AddsGoals b rules id body (room_of_context c) (goals_in body) old new
        → (own : List CoverGoal) × (new ≡ old ++ own)
        × AreSifted id (HasLine b rules judged id) (HasNoLine b rules judged id) (goals_in body) own
    rule_goals c at old new a = (
      a.added,
      a.is,
      sifted_as id (MayFit b rules body (room_of_context c)) (λ x. MayFit b rules body (room_of_context c) x → ⊥)
          (HasLine b rules judged id) (HasNoLine b rules judged id) (fit_reached c at)
          (λ x never w r. never (reached_fits c at x (w, r))) a.sifted,
    )

  -- one rule more
  more_unnamed : {id : ℕ} {rs : List Rule} {ms : List CoverGoal} → AreMissedFrom b rules judged id rs ms
      → (k : ℕ) → k ≡ id + length rs → (rule : Rule) → (Reachable rules judged k → ⊥)
      → AreMissedFrom b rules judged id (rs ++ rule ∷ []) ms
  more_unnamed {id = id} no_rule k at rule never =
      let same : k ≡ id = omega (arith, at) in
      unnamed_rule (subst (λ n. Reachable rules judged n → ⊥) same never) no_rule
  more_unnamed {id = id} (unnamed_rule other m) k at rule never =
      unnamed_rule other (more_unnamed m k (omega (arith, at)) rule never)
  more_unnamed {id = id} (named_rule there own m) k at rule never =
      named_rule there own (more_unnamed m k (omega (arith, at)) rule never)

  more_named : {id : ℕ} {rs : List Rule} {ms : List CoverGoal} → AreMissedFrom b rules judged id rs ms
      → (k : ℕ) → k ≡ id + length rs → (rule : Rule) (own : List CoverGoal) → Reachable rules judged k
      → AreSifted k (HasLine b rules judged k) (HasNoLine b rules judged k) (goals_in rule.body) own
      → AreMissedFrom b rules judged id (rs ++ rule ∷ []) (ms ++ own)
  more_named {id = id} no_rule k at rule own there sifted =
      let same : k ≡ id = omega (arith, at) in
      subst (AreMissedFrom b rules judged id (rule ∷ [])) (append-nil own) (named_rule
      (subst (Reachable rules judged) same there)
      (subst (λ n. AreSifted n (HasLine b rules judged n) (HasNoLine b rules judged n) (goals_in rule.body) own) same
      sifted) no_rule)
  more_named {id = id} (unnamed_rule other m) k at rule own there sifted =
      unnamed_rule other (more_named m k (omega (arith, at)) rule own there sifted)
  more_named {id = id} (named_rule {rule = first} {rest = rest} {own = front} {ms = back} other s m) k at rule own
      there sifted = subst (AreMissedFrom b rules judged id ((first ∷ rest) ++ rule ∷ []))
      (sym (append_assoc front back own)) (named_rule other s (more_named m k (omega (arith, at)) rule own there
      sifted))

  module _ (i : ℕ) (mid : List CoverGoal) (lt : i < length rules)
      (m : AreMissedFrom b rules judged 0 (take i rules) mid) where
    taken_count : 0 + length (take i rules) ≡ i
    taken_count = let n = length-take-le i rules (omega (arith, lt)) in omega (arith, n)

    pub next_unnamed : (Reachable rules judged i → ⊥) → AreMissedFrom b rules judged 0 (take (i + 1) rules) mid
    next_unnamed never =
        let r = rule_there rules i lt in
        subst (λ rs. AreMissedFrom b rules judged 0 rs mid) (sym (taken_more rules i r.0 lt r.1))
        (more_unnamed m i (sym taken_count) r.0 never)

    pub next_named : (contexts : List (Option LineContext)) → AreShortestContexts b rules judged contexts
        → (c : Option LineContext) → context_at contexts i ≡ c → (body : Element)
        → slice_get (bodies rules) i ≡ Some body → Reachable rules judged i → (new : List CoverGoal)
        → AddsGoals b rules i body (room_of_context c) (goals_in body) mid new
        → AreMissedFrom b rules judged 0 (take (i + 1) rules) new
    next_named contexts h c at body here there new a =
        let r = rule_there rules i lt in
        let at_rule = r.2 in
        let same : body ≡ r.0.body = cc (here, at_rule) in
        let own = rule_goals contexts h i body here c at mid new a in
        subst (λ rs. AreMissedFrom b rules judged 0 rs new) (sym (taken_more rules i r.0 lt r.1))
        (subst (AreMissedFrom b rules judged 0 (take i rules ++ r.0 ∷ [])) (sym own.1)
        (more_named m i (sym taken_count) r.0 own.0 there (subst (λ e. AreSifted i (HasLine b rules judged i)
        (HasNoLine b rules judged i) (goals_in e) own.0) same own.2)))

  pub all_rules_missed : (n : ℕ) (ms : List CoverGoal) → length rules ≤ n
      → AreMissedFrom b rules judged 0 (take n rules) ms → AreMissedFrom b rules judged 0 rules ms
  all_rules_missed n ms le m = subst (λ (rs : List Rule). AreMissedFrom b rules judged 0 rs ms)
      (taken_past rules n le) m

-- whether one of the lists is made in a way and fits
module _ (all : List MadeWord) (way : GoalWay) (limit room : ℕ) where
  pub none_fits : HasMadeWithin (take 0 all) way limit room → ⊥
  none_fits h = none_in h.made h.among

  pub next_unfit : (i : ℕ) (m : MadeWord) → i < length all → m ≡ get_or all i m
      → (HasMadeWithin (take i all) way limit room → ⊥)
      → ((m.way ≡ way) × (room + length m.word.items ≤ limit) → ⊥)
      → HasMadeWithin (take (i + 1) all) way limit room → ⊥
  next_unfit i m lt is none never h = ⊎_elim
      (λ l. none (record { made = h.made; among = l; same = h.same; within = h.within }))
      (λ r. let same : m ≡ h.made = only_in m h.made r in
      never (subst (λ (v : MadeWord). (v.way ≡ way) × (room + length v.word.items ≤ limit)) (sym same)
      (h.same, h.within)))
      (Contains-append_cases (take i all) (m ∷ []) h.made
      (subst (λ (xs : List MadeWord). Contains xs h.made) (taken_more all i m lt is) h.among))

  pub one_fits : (i : ℕ) (m : MadeWord) → i < length all → m ≡ get_or all i m
      → (m.way ≡ way) × (room + length m.word.items ≤ limit) → HasMadeWithin all way limit room
  one_fits i m lt is h = record { made = m; among = item_in all i m lt is; same = h.0; within = h.1 }

  pub all_unfit : (n : ℕ) → length all ≤ n → (HasMadeWithin (take n all) way limit room → ⊥)
      → HasMadeWithin all way limit room → ⊥
  all_unfit n le none h = none (subst (λ (xs : List MadeWord). HasMadeWithin xs way limit room)
      (sym (taken_past all n le)) h)
