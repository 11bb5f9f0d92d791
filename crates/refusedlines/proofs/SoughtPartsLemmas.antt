-- Sought parts, one more at a time.
-- Serves: awaited_parts.
use Rattle.std.proofs.Common.{◌≡◌, ℕ, zero, suc, ◌+◌, ◌<◌, ◌≤◌, Bool, true, false, cond, ◌&&◌, ◌||◌, eqb, List, [], ◌∷◌}
use Rattle.std.proofs.Common.{◌++◌, length, get_or, take, drop, map, filter, Option, Some, slice_get, refl, sym}
use Rattle.std.proofs.Common.{◌∙◌, ap, arith, append_assoc, append-nil, drop-cons, drop_of_length-le}
use Rattle.std.proofs.Common.{eqb-true, eq-eqb}
use Rattle.std.specs.List.{list_any}
use Rattle.std.proofs.lemmas.Bool.{and_from, and_parts}
use Rattle.std.proofs.lemmas.List.{map-append, take_more}
use Rattle.std.proofs.lemmas.List.Elements.{filter-append}
use Rattle.std.proofs.lemmas.List.Folds.{list_any-append}
use Rattle.abnfread.specs.AbnfViews.{element_of, elements_of, rule_of}
use Rattle.abnfread.specs.Element.{Element, Elements, more}
use Rattle.abnfread.specs.declared.elem.Elem.{Elem}
use Rattle.flatgrammar.specs.ItemClosures.{dot}
use Rattle.flatgrammar.specs.Positions.{In, now, on}
use Rattle.flatgrammar.specs.declared.closure.DottedRule.{DottedRule}
use Rattle.flatgrammar.proofs.CallOfLemmas.{get_unmap}
use Rattle.ruletable.specs.Rules as table
use Rattle.refusedlines.specs.RefusedParts.{ShownPart, counts}
use Rattle.refusedlines.specs.ShownParts.{awaited_part}
use Rattle.refusedlines.specs.SoughtParts.{at_node, has_dot, is_pair, sought_reads, sought_in, sought_operands}
use Rattle.refusedlines.specs.SoughtParts.{sought_from}
use Rattle.refusedlines.specs.declared.parts.AwaitedPart.{AwaitedPart}

counts_more : (k n : ℕ) → counts k (suc n) ≡ counts k n ++ (k + n) ∷ []
counts_more k zero = let same : k ≡ k + 0 = omega arith in ap (λ (v : ℕ). v ∷ []) same
counts_more k (suc n) =
    let same : k + 1 + n ≡ k + suc n = omega arith in
    ap (λ (v : List ℕ). k ∷ v) (counts_more (k + 1) n ∙ ap (λ (v : ℕ). counts (k + 1) n ++ v ∷ []) same)

counts_next : (n : ℕ) → counts 0 (n + 1) ≡ counts 0 n ++ n ∷ []
counts_next n =
    let next : n + 1 ≡ suc n = omega arith in
    let same : 0 + n ≡ n = omega arith in
    ap (λ (v : ℕ). counts 0 v) next ∙ (counts_more 0 n ∙ ap (λ (v : ℕ). counts 0 n ++ v ∷ []) same)

-- the numbers that pass a test, each as a part
module _ (test : ℕ → Bool) (shown : ℕ → ShownPart) where
  split_next : (n : ℕ) → map shown (filter test (counts 0 (n + 1)))
      ≡ map shown (filter test (counts 0 n)) ++ map shown (cond (test n) (n ∷ []) [])
  split_next n =
      ap (λ (v : List ℕ). map shown (filter test v)) (counts_next n)
      ∙ (ap (λ (v : List ℕ). map shown v) (filter-append test (counts 0 n) (n ∷ []))
      ∙ map-append shown (filter test (counts 0 n)) (filter test (n ∷ [])))

  one_taken : (n : ℕ) → test n ≡ true → map shown (filter test (counts 0 (n + 1)))
      ≡ map shown (filter test (counts 0 n)) ++ shown n ∷ []
  one_taken n is =
      split_next n
      ∙ ap (λ (b : Bool). map shown (filter test (counts 0 n)) ++ map shown (cond b (n ∷ []) [])) is

  one_passed : (n : ℕ) → test n ≡ false → map shown (filter test (counts 0 (n + 1)))
      ≡ map shown (filter test (counts 0 n))
  one_passed n is =
      split_next n
      ∙ (ap (λ (b : Bool). map shown (filter test (counts 0 n)) ++ map shown (cond b (n ∷ []) [])) is
      ∙ append-nil (map shown (filter test (counts 0 n))))

next_elements : (es : List Elem) (i : ℕ) (e : Elem) → i < length es → e ≡ get_or es i e
    → elements_of (drop i es) ≡ more (element_of e) (elements_of (drop (i + 1) es))
next_elements es i e lt is =
    let next : suc i ≡ i + 1 = omega arith in
    ap (λ (v : List Elem). elements_of v) (drop-cons es i e lt)
    ∙ (ap (λ (v : Elem). more (element_of v) (elements_of (drop (suc i) es))) (sym is)
    ∙ ap (λ (k : ℕ). more (element_of e) (elements_of (drop k es))) next)

drop_there : {A : Type 0} (xs : List A) (k : ℕ) {y : A} → slice_get xs k ≡ Some y → drop k xs ≡ y ∷ drop (suc k) xs
drop_there [] k is = absurd (cc is)
drop_there (x ∷ xs) zero {y = y} is = let same : x ≡ y = cc is in ap (λ v. v ∷ xs) same
drop_there (x ∷ xs) (suc k) is = drop_there xs k is

next_rules : (rows : List (table.Rule Elem)) (id : ℕ) (e : Elem)
    → slice_get (map (λ (r : table.Rule Elem). r.body) rows) id ≡ Some e → (row : table.Rule Elem)
    × (map rule_of (drop id rows) ≡ rule_of row ∷ map rule_of (drop (id + 1) rows)) × (row.body ≡ e)
next_rules rows id e is =
    let u = get_unmap (λ (r : table.Rule Elem). r.body) rows id e is in
    let next : suc id ≡ id + 1 = omega arith in (
      u.from,
      ap (λ (v : List (table.Rule Elem)). map rule_of v) (drop_there rows id u.at)
          ∙ ap (λ (k : ℕ). rule_of u.from ∷ map rule_of (drop k rows)) next,
      u.is,
    )

module _ (operand : ℕ → ℕ → Option ℕ) (sought : ℕ → ℕ → Bool) where
  -- after one more number of symbols
  pub read_added : (rule node : ℕ) (e : Element) (n : ℕ) (old : List ShownPart) (parts added : List AwaitedPart)
      (part : AwaitedPart) → map awaited_part parts ≡ old ++ sought_reads operand sought rule node e n
      → added ≡ parts ++ part ∷ [] → awaited_part part ≡ record { rule = rule; element = e; read = n }
      → sought node n ≡ true → map awaited_part added ≡ old ++ sought_reads operand sought rule node e (n + 1)
  read_added rule node e n old parts added part so_far is shown passed =
      let reads = sought_reads operand sought rule node e n in
      ap (λ (v : List AwaitedPart). map awaited_part v) is
      ∙ (map-append awaited_part parts (part ∷ [])
      ∙ (ap (λ (v : List ShownPart). v ++ awaited_part part ∷ []) so_far
      ∙ (append_assoc old reads (awaited_part part ∷ [])
      ∙ (ap (λ (v : ShownPart). old ++ (reads ++ v ∷ [])) shown
      ∙ ap (λ (v : List ShownPart). old ++ v)
      (sym (one_taken (sought node) (λ k. record { rule = rule; element = e; read = k }) n passed))))))

  pub read_passed : (rule node : ℕ) (e : Element) (n : ℕ) (old : List ShownPart) (parts : List ShownPart)
      → parts ≡ old ++ sought_reads operand sought rule node e n → sought node n ≡ false
      → parts ≡ old ++ sought_reads operand sought rule node e (n + 1)
  read_passed rule node e n old parts so_far failed =
      so_far
      ∙ ap (λ (v : List ShownPart). old ++ v)
      (sym (one_passed (sought node) (λ k. record { rule = rule; element = e; read = k }) n failed))

  -- with one more operand
  pub operand_added : (rule node : ℕ) (es : List Elem) (i : ℕ) (e : Elem) (parts added total : List ShownPart)
      → i < length es → e ≡ get_or es i e
      → parts ++ sought_operands operand sought rule node i (elements_of (drop i es)) ≡ total
      → added ≡ parts ++ at_node (operand node i) (λ m. sought_in operand sought rule m (element_of e))
      → added ++ sought_operands operand sought rule node (i + 1) (elements_of (drop (i + 1) es)) ≡ total
  operand_added rule node es i e parts added total lt is so_far more_is =
      let here = at_node (operand node i) (λ m. sought_in operand sought rule m (element_of e)) in
      let rest = sought_operands operand sought rule node (i + 1) (elements_of (drop (i + 1) es)) in
      ap (λ (v : List ShownPart). v ++ rest) more_is
      ∙ (append_assoc parts here rest
      ∙ (ap (λ (v : Elements). parts ++ sought_operands operand sought rule node i v) (sym (next_elements es i e lt is))
      ∙ so_far))

  pub operands_added : (rule node : ℕ) (es : List Elem) (i : ℕ) (parts total : List ShownPart) → length es ≤ i
      → parts ++ sought_operands operand sought rule node i (elements_of (drop i es)) ≡ total → parts ≡ total
  operands_added rule node es i parts total le so_far =
      sym (append-nil parts)
      ∙ (ap (λ (v : List Elem). parts ++ sought_operands operand sought rule node i (elements_of v))
      (sym (drop_of_length-le es le)) ∙ so_far)

  -- with one more rule
  pub rule_added : (bodies : List ℕ) (rows : List (table.Rule Elem)) (id : ℕ) (e : Elem) (node : Option ℕ)
      (parts added total : List ShownPart) → slice_get (map (λ (r : table.Rule Elem). r.body) rows) id ≡ Some e
      → node ≡ slice_get bodies id
      → parts ++ sought_from operand sought bodies id (map rule_of (drop id rows)) ≡ total
      → added ≡ parts ++ at_node node (λ m. sought_in operand sought id m (element_of e))
      → added ++ sought_from operand sought bodies (id + 1) (map rule_of (drop (id + 1) rows)) ≡ total
  rule_added bodies rows id e top parts added total body top_is so_far more_is =
      let next = next_rules rows id e body in
      let rest = sought_from operand sought bodies (id + 1) (map rule_of (drop (id + 1) rows)) in
      let here = at_node (slice_get bodies id) (λ m. sought_in operand sought id m (element_of e)) in
      ap (λ (v : List ShownPart). v ++ rest) more_is
      ∙ (ap (λ (o : Option ℕ). (parts ++ at_node o (λ m. sought_in operand sought id m (element_of e))) ++ rest)
      top_is
      ∙ (append_assoc parts here rest
      ∙ (ap (λ (v : Elem). parts ++ (at_node (slice_get bodies id) (λ m. sought_in operand sought id m (element_of v))
      ++ rest)) (sym next.2)
      ∙ (ap (λ v. parts ++ sought_from operand sought bodies id v) (sym next.1) ∙ so_far))))

  pub rules_added : (bodies : List ℕ) (rows : List (table.Rule Elem)) (id : ℕ) (parts total : List ShownPart)
      → length rows ≤ id → parts ++ sought_from operand sought bodies id (map rule_of (drop id rows)) ≡ total
      → parts ≡ total
  rules_added bodies rows id parts total le so_far =
      sym (append-nil parts)
      ∙ (ap (λ (v : List (table.Rule Elem)). parts ++ sought_from operand sought bodies id (map rule_of v))
      (sym (drop_of_length-le rows le)) ∙ so_far)

-- one more dotted rule
or_last : (a b : Bool) → (a || (b || false)) ≡ cond b true a
or_last true true = refl
or_last true false = refl
or_last false true = refl
or_last false false = refl

pub dot_added : (dots : List DottedRule) (i : ℕ) (d : DottedRule) → i < length dots → (n k : ℕ)
    → has_dot (take (i + 1) dots) n k
    ≡ cond (is_pair ((get_or dots i d).node, (get_or dots i d).step) (n, k)) true (has_dot (take i dots) n k)
dot_added dots i d lt n k =
    let test = λ (v : DottedRule). eqb v.node n && eqb v.step k in
    ap (λ (v : List DottedRule). list_any test v) (take_more dots i d lt)
    ∙ (list_any-append test (take i dots) (get_or dots i d ∷ [])
    ∙ or_last (list_any test (take i dots)) (test (get_or dots i d)))

pub dot_in : (dots : List DottedRule) (n k : ℕ) → has_dot dots n k ≡ true → In (dot n k) dots
dot_in [] n k is = absurd (cc is)
dot_in (d ∷ dots) n k is = by (eqb d.node n && eqb d.step k) refl (λ later. dot_in dots n k later)
  where
    by : (b : Bool) → (eqb d.node n && eqb d.step k) ≡ b → (has_dot dots n k ≡ true → In (dot n k) dots)
        → In (dot n k) (d ∷ dots)
    by true here rest =
        let both = and_parts (eqb d.node n) (eqb d.step k) here in
        let node = eqb-true d.node n both.0 in
        let step = eqb-true d.step k both.1 in
        now (ap (λ (v : ℕ). dot v k) (sym node) ∙ ap (λ (v : ℕ). dot d.node v) (sym step))
    by false other rest = on (rest (ap (λ (v : Bool). v || has_dot dots n k) (sym other) ∙ is))

pub in_dot : (dots : List DottedRule) (d : DottedRule) → In d dots → has_dot dots d.node d.step ≡ true
in_dot [] d h = elim h [ ]
in_dot (b ∷ dots) d (now same) =
    let node : eqb b.node d.node ≡ true = eq-eqb b.node d.node (ap (λ (v : DottedRule). v.node) (sym same)) in
    let step : eqb b.step d.step ≡ true = eq-eqb b.step d.step (ap (λ (v : DottedRule). v.step) (sym same)) in
    ap (λ (v : Bool). v || has_dot dots d.node d.step) (and_from (eqb b.node d.node) (eqb b.step d.step) node step)
in_dot (b ∷ dots) d (on h) =
    ap (λ (v : Bool). (eqb b.node d.node && eqb b.step d.step) || v) (in_dot dots d h)
    ∙ or_true (eqb b.node d.node && eqb b.step d.step)
  where
    or_true : (b : Bool) → (b || true) ≡ true
    or_true true = refl
    or_true false = refl
