-- A line reaches the goals that the list which is known of a rule reaches, if it gives the rule that list.
-- Serves: cover_lines
use Rattle.std.proofs.Common.{◌≡◌, inl, inr, ℕ, ◌+◌, ◌<◌, ◌≤◌, List, ◌++◌, get_or, length, Contains, Option}
use Rattle.std.proofs.Common.{Some, None, Vec, Global, refl, sym, ◌∙◌, ap, subst, arith}
use Rattle.std.specs.Prelude.{slice_get}
use Rattle.std.specs.List.{AllPairs}
use Rattle.std.proofs.lemmas.List.{append_cancel_left, append_cancel_right}
use Rattle.std.proofs.lemmas.List.Elements.{Contains-get_or}
use Rattle.abnfread.specs.AbnfViews.{rules_of}
use Rattle.abnfread.specs.Element.{Element, Name, Rule, bodies, id_of}
use Rattle.ruletable.specs.Letters.{has}
use Rattle.coverlines.specs.CoverLines.{AreGoalLines, ComesLater, IsCover, IsLine, IsReached, IsRight, Reaches}
use Rattle.coverlines.specs.CoverLines.{line_around}
use Rattle.coverlines.specs.Goals as g
use Rattle.coverlines.specs.Goals.{Around, Does, Goal, Inside}
use Rattle.coverlines.specs.KnownWords.{known_at}
use Rattle.coverlines.specs.MadeWords.{AreMade, HasMade, MakesSo}
use Rattle.coverlines.specs.NeededLines.{AreNeeded, HasKnown, IsCovered, IsNamedAt, IsPart}
use Rattle.coverlines.specs.NeededLines.{IsWithin, itself, part_of}
use Rattle.coverlines.specs.RuleContexts.{AreRuleSites, AreShortestContexts, IsContext, StandsAround, context_at}
use Rattle.coverlines.specs.RuleContexts.{context_cost, sites_at}
use Rattle.coverlines.specs.Shortest.{may}
use Rattle.coverlines.specs.Sites.{HasShorter, StandsAt, Stood}
use Rattle.coverlines.specs.declared.bounds.LineBounds.{LineBounds}
use Rattle.coverlines.specs.declared.context.LineContext.{LineContext}
use Rattle.coverlines.specs.declared.cover.CoverLine.{CoverLine}
use Rattle.coverlines.specs.declared.made.MadeWord.{MadeWord}
use Rattle.coverlines.specs.declared.needed.RuleWord.{RuleWord}
use Rattle.coverlines.specs.declared.sites.Site.{Site}
use Rattle.coverlines.specs.declared.words.Words.{Words}
use Rattle.coverlines.proofs.CoverLinesLemmas.{Parts, line_length, line_reaches, parts_of, right_line}
use Rattle.coverlines.proofs.CoverLinesLemmas.{site_below}
use Rattle.coverlines.proofs.GoalsLemmas.{round_both}
use Rattle.coverlines.proofs.KnownWordsLemmas.{body_below, body_there}
use Rattle.coverlines.proofs.MemberLemmas.{from_mapped}

-- the list that is known of a rule, in a line of its context
pub base_made : (c : LineContext) (s : Stood) (list word : List ℕ)
    → c.before.items ++ (list ++ c.after.items) ≡ line_around c s word → list ≡ s.before ++ (word ++ s.after)
base_made c s list word e = append_cancel_right list (s.before ++ (word ++ s.after)) c.after.items
    (append_cancel_left c.before.items (list ++ c.after.items) ((s.before ++ (word ++ s.after)) ++ c.after.items)
    (e ∙ sym (round_both c.before.items s.before word s.after c.after.items)))

module _ (b : LineBounds) (rules : List Rule) (words : Words) (sites : List (Vec Site Global))
    (own : rules ≡ rules_of words.rules.now) (all : AreRuleSites b rules sites) where
  -- a derivation from a rule gives another rule the list that is known of it
  pub record Gives (outer : ℕ) (w : List ℕ) (id : ℕ) : Type 0 where
    pub before : List ℕ
    pub after : List ℕ
    pub list : Vec ℕ Global
    pub around : Around (has b.alphabet) (may b) rules outer id before after
    pub known_is : known_at words.known.now id ≡ Some list
    pub is : w ≡ before ++ (list.items ++ after)

  named_given : (outer rule : ℕ) (x y : List ℕ) (n : RuleWord)
      → Around (has b.alphabet) (may b) rules outer rule x y → IsNamedAt words (sites_at sites rule) n
      → Gives outer (x ++ (n.word.items ++ y)) n.id
  named_given outer rule x y n around at =
      let s = at.site in
      let named = at.named in
      let lt : rule < length rules = (let k = all.count in
      let m = site_below sites rule s at.among in omega (arith, m, k)) in
      let body = body_there rules rule lt in
      let least = (all.each rule body.0 body.1).right s at.among in
      let inside : Inside (has b.alphabet) (may b) rules body.0 least.0 (Name named.name) s.before s.after =
      subst (λ e. Inside (has b.alphabet) (may b) rules body.0 least.0 e s.before s.after) named.element_is
      least.1.stands.inside in
      let id : id_of rules named.name ≡ n.id = ap (λ rs. id_of rs named.name) own ∙ sym named.id_is in
      record {
        before = x ++ s.before;
        after = s.after ++ y;
        list = named.list;
        around = subst (λ i. Around (has b.alphabet) (may b) rules outer i (x ++ s.before) (s.after ++ y)) id
            (g.by_name around body.1 inside);
        known_is = named.known_is;
        is = ap (λ (v : List ℕ). x ++ (v ++ y)) named.is ∙ round_both x s.before named.list.items s.after y;
      }

  part_given : (outer middle id : ℕ) (w : List ℕ) → Gives outer w middle → IsPart words sites middle id
      → Gives outer w id
  part_given outer middle id w h p =
      let known = h.known_is in
      let other = p.known_is in
      let same : h.list ≡ p.list = cc (known, other) in
      let e : w ≡ h.before ++ (p.one.word.items ++ h.after) = h.is
      ∙ ap (λ (v : List ℕ). h.before ++ (v ++ h.after)) (ap (λ (v : Vec ℕ Global). v.items) same ∙ sym p.is) in
      subst (λ v. Gives outer v id) (sym e) (subst (λ i. Gives outer (h.before ++ (p.one.word.items ++ h.after)) i)
      p.id_is (named_given outer middle h.before h.after p.one h.around p.at))

  within_given : (outer root : ℕ) (w : List ℕ) {id : ℕ} → Gives outer w root → IsWithin words sites root id
      → Gives outer w id
  within_given outer root w h itself = h
  within_given outer root w h (part_of {middle = middle} {id = id} inner p) =
      part_given outer middle id w (within_given outer root w h inner) p

  module _ (judged : ℕ) (contexts : List (Option LineContext)) (h : AreShortestContexts b rules judged contexts) where
    stands_around : (id : ℕ) (c : LineContext) → context_at contexts id ≡ Some c
        → StandsAround b rules judged id c.before.items c.after.items
    stands_around id c is = (subst (IsContext b rules judged id) is (h.stands id)).0

    known_given : (w : List ℕ) (id : ℕ) → HasKnown words sites contexts w id → Gives judged w id
    known_given w id k =
        let n = k.names in
        let c = n.context in
        let round = stands_around n.rule c n.context_is in
        let root : Gives judged w k.root =
        subst (λ v. Gives judged v k.root) (sym n.is)
        (subst (λ i. Gives judged (c.before.items ++ (n.one.word.items ++ c.after.items)) i) n.id_is
        (named_given judged n.rule c.before.items c.after.items n.one round.around n.at)) in
        within_given judged k.root w root k.within

    -- a line that gives a rule the known list reaches the goal that this list reaches
    given_reaches : (goal : Goal) (s : Stood) (body : Element) (word w : List ℕ)
        → slice_get (bodies rules) goal.rule ≡ Some body → StandsAt b rules body goal.site s
        → MakesSo b rules s.element goal.way word → (k : Gives judged w goal.rule)
        → k.list.items ≡ s.before ++ (word ++ s.after) → IsLine b rules judged w → Reaches b rules judged goal w
    given_reaches goal s body word w is stands makes k made line = record { line = line; does = does }
      where
        does : Does (has b.alphabet) (may b) rules judged goal w
        does = record {
          body = body;
          element = s.element;
          before = k.before;
          after = k.after;
          left = s.before;
          right = s.after;
          word = word;
          around = k.around;
          body_is = is;
          inside = stands.inside;
          makes = makes.is;
          is = k.is ∙ ap (λ (v : List ℕ). k.before ++ (v ++ k.after)) made
              ∙ round_both k.before s.before word s.after k.after;
        }

    module _ (lines kept : List CoverLine) (found : AreGoalLines b rules contexts sites (length rules) lines)
        (needed : AreNeeded words sites contexts lines kept) where
      right_kept : (k : CoverLine) → Contains kept k → IsRight b rules judged k
      right_kept k among =
          let copy = needed.right k among in
          copied copy.line k copy.goal_is copy.line_is
          (right_line b rules judged contexts sites lines all h found copy.line copy.among)
        where
          copied : (l k : CoverLine) → k.goal ≡ l.goal → k.line.items ≡ l.line.items → IsRight b rules judged l
              → IsRight b rules judged k
          copied l k goal_is line_is right = record {
            site = right.site;
            shortest = rw (goal_is, line_is) right.shortest;
          }

      is_line : (k : CoverLine) → Contains kept k → IsLine b rules judged k.line.items
      is_line k among = (right_kept k among).shortest.is.line

      reached_goal : (goal : Goal) (w : List ℕ) → Reaches b rules judged goal w → IsReached b rules judged kept goal
      reached_goal goal w r = by (context_at contexts goal.rule) refl
        where
          p : Parts b rules judged goal w
          p = parts_of b rules judged goal w r

          lt : goal.rule < length rules
          lt = body_below rules goal.rule p.does.body p.does.body_is

          few : length p.does.before + length p.does.after ≤ b.limit
          few = let long = p.long in let le = r.line.within in omega (arith, long, le)

          cost : context_cost b.limit (context_at contexts goal.rule) ≤ length p.does.before + length p.does.after
          cost = h.least goal.rule p.does.before p.does.after lt p.around few

          site : HasShorter b rules p.does.body (sites_at sites goal.rule) goal.site (record {
            element = p.does.element;
            before = p.does.left;
            after = p.does.right;
          })
          site = (all.each goal.rule p.does.body p.does.body_is).complete goal.site (record {
            element = p.does.element;
            before = p.does.left;
            after = p.does.right;
          }) p.stands (let long = p.long in let le = r.line.within in omega (arith, long, le))

          made : (ms : List MadeWord) → AreMade b rules site.other.element ms
              → HasMade b rules site.other.element ms goal.way p.does.word
          made ms are = are.complete goal.way p.does.word
              (subst (λ e. MakesSo b rules e goal.way p.does.word) (sym site.same) p.makes)
              (let long = p.long in let le = r.line.within in omega (arith, long, le))

          -- a line that is kept, or one that gives the goal's rule the known list
          shown : (c : LineContext) (line : CoverLine) (word : List ℕ) → context_at contexts goal.rule ≡ Some c
              → MakesSo b rules site.other.element goal.way word → length (line_around c site.other word) ≤ b.limit
              → line.goal.rule ≡ goal.rule → line.line.items ≡ line_around c site.other word
              → IsCovered words sites contexts kept line → IsReached b rules judged kept goal
          shown c line word at makes fits rule_is line_is (inl among) =
              let k = from_mapped (λ (l : CoverLine). l.line.items) line.line.items kept among in record {
                line = k.0;
                among = k.1;
                reaches = subst (Reaches b rules judged goal) (sym (k.2 ∙ line_is))
                    (line_reaches b rules judged goal c site.other p.does.body word
                    (stands_around goal.rule c at) p.does.body_is site.stands makes fits);
              }
          shown c line word at makes fits rule_is line_is (inr n) =
              let base = n.base in
              let o = n.kept_known in
              let there : context_at contexts goal.rule ≡ Some base.context =
              subst (λ i. context_at contexts i ≡ Some base.context) rule_is base.context_is in
              let same : base.context ≡ c = cc (there, at) in
              let e : c.before.items ++ (base.list.items ++ c.after.items) ≡ line_around c site.other word =
              subst (λ (d : LineContext). d.before.items ++ (base.list.items ++ d.after.items)
              ≡ line_around c site.other word) same (sym base.is ∙ line_is) in
              let k = known_given o.other.line.items goal.rule
              (subst (HasKnown words sites contexts o.other.line.items) rule_is o.has) in
              let known : known_at words.known.now goal.rule ≡ Some base.list =
              subst (λ i. known_at words.known.now i ≡ Some base.list) rule_is base.known_is in
              let given = k.known_is in
              let one : k.list ≡ base.list = cc (given, known) in record {
                line = o.other;
                among = o.among;
                reaches = given_reaches goal site.other p.does.body word o.other.line.items p.does.body_is site.stands
                    makes k (ap (λ (v : Vec ℕ Global). v.items) one ∙ base_made c site.other base.list.items word e)
                    (is_line o.other o.among);
              }

          by : (x : Option LineContext) → context_at contexts goal.rule ≡ x → IsReached b rules judged kept goal
          by None at = let c = subst (λ x. context_cost b.limit x ≤ length p.does.before + length p.does.after) at cost
              in absurd (omega (arith, c, few))
          by (Some c) at =
              let cheap = subst (λ x. context_cost b.limit x ≤ length p.does.before + length p.does.after) at cost in
              let there = found.complete goal.rule c site.other lt at site.among in
              let m = made there.all there.are in
              let long = p.long in
              let le = r.line.within in
              let n = line_length c site.other m.made.word.items in
              let room = site.within in
              let word = m.within in
              let fits : length (line_around c site.other m.made.word.items) ≤ b.limit =
              omega (arith, long, le, n, cheap, room, word) in
              let item = there.each m.made m.among fits in
              let makes = (there.are.right m.made m.among).is in
              shown c item.line m.made.word.items at
              (subst (λ v. MakesSo b rules site.other.element v m.made.word.items) m.same makes) fits item.rule_is
              item.is (needed.covered item.line item.among)

      pub lines_cover : AllPairs ComesLater kept → IsCover b rules judged kept
      lines_cover order = record {
        right = λ k d lt. right_kept (get_or kept k d) (Contains-get_or kept k d lt);
        complete = reached_goal;
        order = order;
      }
