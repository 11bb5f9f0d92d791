-- The parts that are found by dotted rules awaited in the flat grammar are those that are reported.
-- Serves: awaited_parts.
use Rattle.std.proofs.Common.{◌≡◌, ◌⊎◌, inl, inr, ℕ, zero, suc, ◌<◌, ◌≤◌, Bool, true, false, ◌&&◌, eqb}
use Rattle.std.proofs.Common.{if◌then◌else◌, ◌↔◌, List, [], ◌∷◌, length, filter, get_or, Option, Some, None}
use Rattle.std.proofs.Common.{slice_get, refl, sym}
use Rattle.std.proofs.Common.{◌∙◌, ap, subst, arith, eqb-true, eq-eqb}
use Rattle.std.specs.List.{AllByRecursion}
use Rattle.std.proofs.lemmas.Bool.{and_from, and_parts, cases_lt}
use Rattle.std.proofs.lemmas.List.{length-map}
use Rattle.abnfread.specs.Element as e
use Rattle.abnfread.specs.Element.{Element, Rule, bodies, id_of}
use Rattle.abnfcheck.specs.Derivable.{AreLetters, RuleDerives}
use Rattle.flatgrammar.specs.CalledParts.{AreAwaited}
use Rattle.flatgrammar.specs.Flat as g
use Rattle.flatgrammar.specs.Flat.{Dot, at, Flat, Node, Starts, starts, Begins}
use Rattle.flatgrammar.specs.ItemClosures.{dot}
use Rattle.flatgrammar.specs.OldItems as old
use Rattle.flatgrammar.specs.OldItems.{HasPart, IsOld}
use Rattle.flatgrammar.specs.declared.closure.DottedRule.{DottedRule}
use Rattle.flatgrammar.proofs.SliceGetLemmas.{get_below}
use Rattle.lowering.specs.AwaitedParts.{IsAwaited, StandsIn, itself, inside, element_at}
use Rattle.lowering.specs.Lowered.{IsLowered, OperandAt, Shows, shows_name, Spells, spells}
use Rattle.lowering.specs.MoreMarks.{DerivesMore}
use Rattle.lowering.proofs.AwaitedItemsLemmas.{awaited_part}
use Rattle.lowering.proofs.AwaitsLemmas.{HavePart}
use Rattle.ruletable.specs.Letters.{has}
use Rattle.ruletable.specs.declared.alphabet.Alphabet.{Alphabet}
use Rattle.refusedlines.specs.RefusedParts.{AreReportedParts, IsPartReported, NamesMore, RulePart, parts_from}
use Rattle.refusedlines.specs.SoughtParts.{has_dot, is_marked_at, names_marked, operand_at, operand_in, operand_of}
use Rattle.refusedlines.specs.SoughtParts.{sought_from}
use Rattle.refusedlines.proofs.FoundPartsLemmas.{all_found, is_found, is_sought_at, node_below, on_node, on_there}
use Rattle.refusedlines.proofs.FoundPartsLemmas.{site_node}
use Rattle.refusedlines.proofs.PartSitesLemmas.{all_placed, IsPlaced}
use Rattle.refusedlines.proofs.RefusedPartsLemmas.{chosen_by}
use Rattle.refusedlines.proofs.SoughtPartsLemmas.{dot_in, in_dot}

-- the only operand of a node
only_there : (i m d : ℕ) (b : Bool) → eqb i 0 ≡ b → (if b then Some d else None) ≡ Some m → (i ≡ 0) × (m ≡ d)
only_there i m d true first is = let same : d ≡ m = cc is in (eqb-true i 0 first, sym same)
only_there i m d false other is = absurd (cc is)

there_only : (i d : ℕ) → i ≡ 0 → (if eqb i 0 then Some d else None) ≡ Some d
there_only i d first = ap (λ (b : Bool). if b then Some d else None) (eq-eqb i 0 first)

operand_there : (node : Node) (i m : ℕ) → operand_in node i ≡ Some m → OperandAt node i m
operand_there (g.Letters sets) i m is = absurd (cc is)
operand_there (g.Concat ms) i m is = is
operand_there (g.Alt ms) i m is = is
operand_there (g.Rep a b d) i m is = only_there i m d (eqb i 0) refl is
operand_there (g.Iterations b d) i m is = only_there i m d (eqb i 0) refl is
operand_there (g.Opt d) i m is = only_there i m d (eqb i 0) refl is
operand_there (g.Name r) i m is = absurd (cc is)
operand_there g.Nothing i m is = absurd (cc is)

there_operand : (node : Node) (i m : ℕ) → OperandAt node i m → operand_in node i ≡ Some m
there_operand (g.Letters sets) i m op = absurd op
there_operand (g.Concat ms) i m op = op
there_operand (g.Alt ms) i m op = op
there_operand (g.Rep a b d) i m op = there_only i d op.0 ∙ ap (λ (v : ℕ). Some v) (sym op.1)
there_operand (g.Iterations b d) i m op = there_only i d op.0 ∙ ap (λ (v : ℕ). Some v) (sym op.1)
there_operand (g.Opt d) i m op = there_only i d op.0 ∙ ap (λ (v : ℕ). Some v) (sym op.1)
there_operand (g.Name r) i m op = absurd op
there_operand g.Nothing i m op = absurd op

marks_true : (marks : List Bool) (node : Node) → ((r : ℕ) → node ≡ g.Name r → get_or marks r false ≡ true)
    → names_marked marks node ≡ true
marks_true marks (g.Letters sets) named = refl
marks_true marks (g.Concat ms) named = refl
marks_true marks (g.Alt ms) named = refl
marks_true marks (g.Rep a b d) named = refl
marks_true marks (g.Iterations b d) named = refl
marks_true marks (g.Opt d) named = refl
marks_true marks (g.Name r) named = named r refl
marks_true marks g.Nothing named = refl

past_marks : (marks : List Bool) (r : ℕ) → length marks ≤ r → get_or marks r false ≡ false
past_marks [] r le = none_marked r
  where
    none_marked : (r : ℕ) → get_or [] r false ≡ false
    none_marked zero = refl
    none_marked (suc r) = refl
past_marks (b ∷ marks) zero le = absurd (omega (arith, le))
past_marks (b ∷ marks) (suc r) le = past_marks marks r (omega (arith, le))

marked_below : (marks : List Bool) (r : ℕ) → get_or marks r false ≡ true → r < length marks
marked_below marks r is = by (cases_lt r (length marks))
  where
    by : (r < length marks) ⊎ (length marks ≤ r) → r < length marks
    by (inl lt) = lt
    by (inr le) = let past = past_marks marks r le in absurd (cc (past, is))

-- where a node stands
module _ (flat : Flat) (sought : ℕ → ℕ → Bool) where
  abbrev node_from : ℕ → List ℕ → Option ℕ
  node_from n z = node_below flat.bodies (operand_of flat) sought n z

  operand_node : (n i m : ℕ) → operand_of flat n i ≡ Some m → (node : Node) × (slice_get flat.nodes n ≡ Some node)
      × OperandAt node i m
  operand_node n i m is = by (slice_get flat.nodes n) refl
    where
      by : (o : Option Node) → slice_get flat.nodes n ≡ o → (node : Node) × (slice_get flat.nodes n ≡ Some node)
          × OperandAt node i m
      by None none = let nothing = ap (λ v. operand_at v i) none in absurd (cc (nothing, is))
      by (Some node) there =
          (node, there, operand_there node i m (sym (ap (λ v. operand_at v i) there) ∙ is))

  node_operand : (n i m : ℕ) (node : Node) → slice_get flat.nodes n ≡ Some node → OperandAt node i m
      → operand_of flat n i ≡ Some m
  node_operand n i m node is op = ap (λ v. operand_at v i) is ∙ there_operand node i m op

  stands_below : {s t : ℕ} {z : List ℕ} → StandsIn flat s z t → node_from s z ≡ Some t
  stands_below itself = refl
  stands_below (inside {s = s} {m = m} {i = i} {z = z} {node = node} is op stands) =
      ap (λ (o : Option ℕ). on_node o (λ n. node_from n z)) (node_operand s i m node is op) ∙ stands_below stands

  below_stands : (z : List ℕ) (s t : ℕ) → node_from s z ≡ Some t → StandsIn flat s z t
  below_stands [] s t is =
      let same : s ≡ t = cc is in
      subst (λ (v : ℕ). StandsIn flat s [] v) same itself
  below_stands (i ∷ z) s t is =
      let first = on_there (operand_of flat s i) (λ n. node_from n z) is in
      let node = operand_node s i first.0 first.1 in
      inside node.1 node.2 (below_stands z first.0 t first.2)

module _ (test : ℕ → Bool) (rules : List Rule) where
  -- a node that shows a name
  shown_name : {limit : ℕ} {nodes : List Node} {node : Node} {n : List ℕ} → Shows rules limit nodes node (e.Name n)
      → node ≡ g.Name (id_of rules n)
  shown_name (shows_name same) = ap (λ (v : ℕ). g.Name v) same

  name_shown : {limit : ℕ} {nodes : List Node} {r : ℕ} {el : Element} → Shows rules limit nodes (g.Name r) el
      → NamesMore test rules el → DerivesMore test rules r
  name_shown (shows_name same) more = subst (λ (v : ℕ). DerivesMore test rules v) (sym same) more

  names_more : (el : Element) → ((n : List ℕ) → el ≡ e.Name n → DerivesMore test rules (id_of rules n))
      → NamesMore test rules el
  names_more (e.Text folds t) named = tt
  names_more (e.Values vs) named = tt
  names_more (e.Range low high) named = tt
  names_more (e.Concat es) named = tt
  names_more (e.Alt es) named = tt
  names_more (e.Rep a b el) named = tt
  names_more (e.Opt el) named = tt
  names_more (e.Name n) named = named n refl
  names_more (e.Prose t) named = tt

-- the laws of `items_decide` as they are needed
pub record Laws (test : ℕ → Bool) (rules : List Rule) (judged : ℕ) (flat : Flat) (x : List ℕ) (n : ℕ) : Type 0 where
  pub awaited : (rule top s k : ℕ) (site : List ℕ) → slice_get flat.bodies rule ≡ Some top → StandsIn flat top site s
      → ((part : Element) × IsAwaited test rules judged x n rule site part k) ↔ HasPart flat x n (IsOld flat x n) s k
  pub element : (rule k : ℕ) (site : List ℕ) (body part : Element) → slice_get (bodies rules) rule ≡ Some body
      → IsAwaited test rules judged x n rule site part k → element_at body site ≡ Some part
  pub starts : (s id : ℕ) (w : List ℕ) → slice_get flat.nodes s ≡ Some (g.Name id) → RuleDerives test rules id w
      → (p : Dot) × Starts flat s p

module _ (alphabet : Alphabet) (rules : List Rule) (judged : ℕ) (flat : Flat) (x : List ℕ) (n : ℕ)
    (lowered : IsLowered rules judged flat) (short : length x ≤ flat.limit)
    (letters : AreLetters (has alphabet) x) (laws : Laws (has alphabet) rules judged flat x n)
    (marks : List Bool) (count : length marks ≡ length rules)
    (marked : (id : ℕ) → id < length rules → (get_or marks id false ≡ true) ↔ DerivesMore (has alphabet) rules id)
    (dots : List DottedRule) (awaited : AreAwaited flat x n dots) (sought : ℕ → ℕ → Bool)
    (sought_is : (s k : ℕ) → sought s k
    ≡ (has_dot dots s k && is_marked_at marks (slice_get flat.nodes s))) where
  abbrev found_so : RulePart → Bool
  found_so p = is_found flat.bodies (operand_of flat) sought p

  abbrev node_at_site : RulePart → Option ℕ
  node_at_site p = site_node flat.bodies (operand_of flat) sought p.rule p.site

  part_had : (p : RulePart) → IsAwaited (has alphabet) rules judged x n p.rule p.site p.element p.read
      → HavePart rules flat x n p.rule p.site p.element p.read
  part_had p is = awaited_part (has alphabet) rules judged flat lowered x short letters n p.rule p.site
      p.element p.read is

  part_at : (p : RulePart) (h : HavePart rules flat x n p.rule p.site p.element p.read)
      → node_at_site p ≡ Some h.node
  part_at p h =
      ap (λ (o : Option ℕ). on_node o (λ top. node_below flat.bodies (operand_of flat) sought top p.site))
      h.is.top_is
      ∙ stands_below flat sought h.is.stands

  one_node : (p : RulePart) (h : HavePart rules flat x n p.rule p.site p.element p.read) (s : ℕ)
      → node_at_site p ≡ Some s → s ≡ h.node
  one_node p h s is = let there = part_at p h in cc (is, there)

  mark_there : (p : RulePart) (h : HavePart rules flat x n p.rule p.site p.element p.read) (s : ℕ)
      → node_at_site p ≡ Some s → is_marked_at marks (slice_get flat.nodes s) ≡ true
      → is_marked_at marks (slice_get flat.nodes h.node) ≡ true
  mark_there p h s is passed =
      subst (λ (v : ℕ). is_marked_at marks (slice_get flat.nodes v) ≡ true) (one_node p h s is) passed

  -- a node that is a name, of a part that is reported
  rule_more : (p : RulePart) (h : HavePart rules flat x n p.rule p.site p.element p.read)
      → NamesMore (has alphabet) rules p.element → (r : ℕ) → slice_get flat.nodes h.node ≡ Some (g.Name r)
      → DerivesMore (has alphabet) rules r
  rule_more p h more r is = by h.is.spelled is
    where
      by : {s : ℕ} → Spells rules flat.limit flat.nodes s p.element
          → slice_get flat.nodes s ≡ Some (g.Name r) → DerivesMore (has alphabet) rules r
      by (spells {node = node} at_s shown) is =
          let same : node ≡ g.Name r = cc (at_s, is) in
          name_shown (has alphabet) rules
          (subst (λ (v : Node). Shows rules flat.limit flat.nodes v p.element) same shown) more

  mark_true : (r : ℕ) → DerivesMore (has alphabet) rules r → get_or marks r false ≡ true
  mark_true r more =
      let below = get_below (bodies rules) r more.derives.is in
      let size = length-map rules (λ rule. rule.body) in
      (marked r (omega (arith, below, size))).1 more

  start_of : (p : RulePart) (h : HavePart rules flat x n p.rule p.site p.element p.read)
      → NamesMore (has alphabet) rules p.element → (q : Dot) × Starts flat h.node q
  start_of p h more = by h.has_part refl
    where
      by : {s k : ℕ} → HasPart flat x n (IsOld flat x n) s k → s ≡ h.node → (q : Dot)
          × Starts flat h.node q
      by (old.reads {s = s} held o is lt) same =
          subst (λ (v : ℕ). ((q : Dot) × Starts flat v q)) same (at s 0, starts is Begins.letters)
      by (old.calls held o c name) same =
          let is = subst (λ (v : ℕ). slice_get flat.nodes v ≡ Some (g.Name name.0)) same name.1 in
          let derived = rule_more p h more name.0 is in
          laws.starts h.node name.0 (derived.first ∷ derived.rest) is derived.derives

  pub reported_found : (p : RulePart) → IsPartReported alphabet rules judged x n p → found_so p ≡ true
  reported_found p r =
      let h = part_had p r.0 in
      let start = start_of p h r.1 in
      let among = awaited.whole (dot h.node p.read) start.0 h.has_part start.1 in
      ap (λ (o : Option ℕ). is_sought_at flat.bodies (operand_of flat) sought o p.read) (part_at p h)
      ∙ (sought_is h.node p.read
      ∙ and_from (has_dot dots h.node p.read) (is_marked_at marks (slice_get flat.nodes h.node))
      (in_dot dots (dot h.node p.read) among) (by h (slice_get flat.nodes h.node) refl))
    where
      by : (h : HavePart rules flat x n p.rule p.site p.element p.read) (o : Option Node)
          → slice_get flat.nodes h.node ≡ o → is_marked_at marks o ≡ true
      by h None is = refl
      by h (Some node) is = marks_true marks node (λ q same.
          mark_true q (rule_more p h r.1 q (is ∙ ap (λ (v : Node). Some v) same)))

  -- the name of a part that is found
  name_more : (p : RulePart) (h : HavePart rules flat x n p.rule p.site p.element p.read)
      → is_marked_at marks (slice_get flat.nodes h.node) ≡ true → (m : List ℕ) → p.element ≡ e.Name m
      → DerivesMore (has alphabet) rules (id_of rules m)
  name_more p h passed m is = by h.is.spelled refl is
    where
      by : {s : ℕ} {el : Element} → Spells rules flat.limit flat.nodes s el → s ≡ h.node
          → el ≡ e.Name m → DerivesMore (has alphabet) rules (id_of rules m)
      by (spells {s = s} {node = node} at_s shown) same named =
          let node_is = shown_name (has alphabet) rules
          (subst (λ (v : Element). Shows rules flat.limit flat.nodes node v) named shown) in
          let there = subst (λ (v : ℕ). slice_get flat.nodes v ≡ Some (g.Name (id_of rules m))) same
          (at_s ∙ ap (λ (v : Node). Some v) node_is) in
          let mark : get_or marks (id_of rules m) false ≡ true = sym (ap (λ v. is_marked_at marks v) there) ∙ passed in
          let below = marked_below marks (id_of rules m) mark in
          (marked (id_of rules m) (omega (arith, below, count))).0 mark

  as_element : (p : RulePart) (el : Element) → el ≡ p.element
      → IsAwaited (has alphabet) rules judged x n p.rule p.site el p.read
      → IsAwaited (has alphabet) rules judged x n p.rule p.site p.element p.read
  as_element p el same is =
      subst (λ (v : Element). IsAwaited (has alphabet) rules judged x n p.rule p.site v p.read) same is

  pub found_reported : (p : RulePart) → IsPlaced rules p → found_so p ≡ true
      → IsPartReported alphabet rules judged x n p
  found_reported p placed passed = by (node_at_site p) refl passed
    where
      by : (o : Option ℕ) → node_at_site p ≡ o
          → is_sought_at flat.bodies (operand_of flat) sought o p.read ≡ true
          → IsPartReported alphabet rules judged x n p
      by None is passed = absurd (cc passed)
      by (Some s) is passed =
          let both = and_parts (has_dot dots s p.read) (is_marked_at marks (slice_get flat.nodes s))
          (sym (sought_is s p.read) ∙ passed) in
          let top = on_there (slice_get flat.bodies p.rule)
          (λ t. node_below flat.bodies (operand_of flat) sought t p.site) is in
          let stands = below_stands flat sought p.site top.0 s top.2 in
          let part = (laws.awaited p.rule top.0 s p.read p.site top.1 stands).1
          (awaited.sound (dot s p.read) (dot_in dots s p.read both.0)) in
          let there = laws.element p.rule p.read p.site placed.body part.0 placed.body_is part.1 in
          let same : part.0 ≡ p.element = cc (there, placed.there) in
          let reported = as_element p part.0 same part.1 in
          let h = part_had p reported in (
            reported,
            names_more (has alphabet) rules p.element (name_more p h (mark_there p h s is both.1)),
          )

  each_decided : (all : List RulePart) → AllByRecursion (IsPlaced rules) all
      → AllByRecursion (λ p. (IsPartReported alphabet rules judged x n p → found_so p ≡ true)
      × (found_so p ≡ true → IsPartReported alphabet rules judged x n p)) all
  each_decided [] each = tt
  each_decided (p ∷ all) each =
      ((reported_found p, found_reported p each.0), each_decided all each.1)

  pub are_reported : AreReportedParts (IsPartReported alphabet rules judged x n) (parts_from 0 rules)
      (sought_from (operand_of flat) sought flat.bodies 0 rules)
  are_reported = record {
    parts = filter found_so (parts_from 0 rules);
    chosen = chosen_by (IsPartReported alphabet rules judged x n) found_so (parts_from 0 rules)
        (each_decided (parts_from 0 rules) (all_placed rules));
    shown_as = sym (all_found flat.bodies (operand_of flat) sought rules 0);
  }
