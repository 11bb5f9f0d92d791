-- The sought parts are those of all parts that a test finds by their sites.
-- Serves: awaited_parts.
use Rattle.std.proofs.Common.{◌≡◌, ℕ, ◌+◌, Bool, true, false, cond, List, [], ◌∷◌, ◌++◌, length, map, filter}
use Rattle.std.proofs.Common.{Option, Some, None, slice_get, refl, ◌∙◌, ap}
use Rattle.std.proofs.lemmas.List.{map-append}
use Rattle.std.proofs.lemmas.List.Elements.{filter-append}
use Rattle.abnfread.specs.Element.{Element, Elements, Text, Values, Range, Concat, Alt, Rep, Opt, Name, Prose, none}
use Rattle.abnfread.specs.Element.{more, Rule}
use Rattle.refusedlines.specs.RefusedParts.{RulePart, ShownPart, part_as_shown, counts, reads_of, parts_in, operands_in}
use Rattle.refusedlines.specs.RefusedParts.{parts_from}
use Rattle.refusedlines.specs.SoughtParts.{at_node, sought_reads, sought_in, sought_operands, sought_from}

abbrev pub on_node : Option ℕ → (ℕ → Option ℕ) → Option ℕ
on_node None f = None
on_node (Some n) f = f n

on_some : (o : Option ℕ) → on_node o (λ n. Some n) ≡ o
on_some None = refl
on_some (Some n) = refl

at_nothing : (o : Option ℕ) → [] ≡ at_node o (λ n. [])
at_nothing None = refl
at_nothing (Some n) = refl

at_both : (o : Option ℕ) (f g : ℕ → List ShownPart) → at_node o f ++ at_node o g ≡ at_node o (λ n. f n ++ g n)
at_both None f g = refl
at_both (Some n) f g = refl

at_on : (o : Option ℕ) (g : ℕ → Option ℕ) (f : ℕ → List ShownPart) → at_node (on_node o g) f
    ≡ at_node o (λ n. at_node (g n) f)
at_on None g f = refl
at_on (Some n) g f = refl

pub on_there : (o : Option ℕ) (f : ℕ → Option ℕ) {s : ℕ} → on_node o f ≡ Some s → (t : ℕ) × (o ≡ Some t)
    × (f t ≡ Some s)
on_there None f is = absurd (cc is)
on_there (Some t) f is = (t, refl, is)

module _ (bodies : List ℕ) (operand : ℕ → ℕ → Option ℕ) (sought : ℕ → ℕ → Bool) where
  -- the node at a site below a node
  abbrev pub node_below : ℕ → List ℕ → Option ℕ
  node_below n [] = Some n
  node_below n (i ∷ z) = on_node (operand n i) (λ m. node_below m z)

  below_then : (n : ℕ) (z y : List ℕ) → node_below n (z ++ y) ≡ on_node (node_below n z) (λ m. node_below m y)
  below_then n [] y = refl
  below_then n (i ∷ z) y =
      elim (operand n i) as (λ (o : Option ℕ). on_node o (λ m. node_below m (z ++ y))
      ≡ on_node (on_node o (λ m. node_below m z)) (λ m. node_below m y)) [
        | None ↦ refl
        | Some m ↦ below_then m z y
      ]

  -- .. at a site of a rule's body
  abbrev pub site_node : ℕ → List ℕ → Option ℕ
  site_node rule z = on_node (slice_get bodies rule) (λ top. node_below top z)

  last_operand : (o : Option ℕ) (i : ℕ) → on_node o (λ m. node_below m (i ∷ [])) ≡ on_node o (λ m. operand m i)
  last_operand None i = refl
  last_operand (Some m) i = on_some (operand m i)

  site_then : (rule : ℕ) (z : List ℕ) (i : ℕ) → site_node rule (z ++ i ∷ [])
      ≡ on_node (site_node rule z) (λ m. operand m i)
  site_then rule z i =
      elim (slice_get bodies rule) as (λ (o : Option ℕ). on_node o (λ top. node_below top (z ++ i ∷ []))
      ≡ on_node (on_node o (λ top. node_below top z)) (λ m. operand m i)) [
        | None ↦ refl
        | Some top ↦ below_then top z (i ∷ []) ∙ last_operand (node_below top z) i
      ]

  abbrev pub is_sought_at : Option ℕ → ℕ → Bool
  is_sought_at None k = false
  is_sought_at (Some n) k = sought n k

  -- the part is sought at the node at its site
  abbrev pub is_found : RulePart → Bool
  is_found p = is_sought_at (site_node p.rule p.site) p.read

  module _ (rule : ℕ) (site : List ℕ) (e : Element) where
    abbrev after_read : ℕ → RulePart
    after_read k = record { rule = rule; site = site; element = e; read = k }

    abbrev shown_read : ℕ → ShownPart
    shown_read k = record { rule = rule; element = e; read = k }

    none_found : (ks : List ℕ) → site_node rule site ≡ None → filter is_found (map after_read ks) ≡ []
    none_found [] is = refl
    none_found (k ∷ ks) is =
        let rest = filter is_found (map after_read ks) in
        ap (λ (o : Option ℕ). cond (is_sought_at o k) (after_read k ∷ rest) rest) is ∙ none_found ks is

    some_found : (ks : List ℕ) (n : ℕ) → site_node rule site ≡ Some n
        → map part_as_shown (filter is_found (map after_read ks)) ≡ map shown_read (filter (sought n) ks)
    some_found [] n is = refl
    some_found (k ∷ ks) n is =
        let rest = filter is_found (map after_read ks) in
        let same = some_found ks n is in
        ap (λ (o : Option ℕ). map part_as_shown (cond (is_sought_at o k) (after_read k ∷ rest) rest)) is
        ∙ elim (sought n k) as (λ (b : Bool). map part_as_shown (cond b (after_read k ∷ rest) rest)
        ≡ map shown_read (cond b (k ∷ filter (sought n) ks) (filter (sought n) ks))) [
          | true ↦ ap (λ (v : List ShownPart). shown_read k ∷ v) same
          | false ↦ same
        ]

    reads_found : (n : ℕ) (o : Option ℕ) → site_node rule site ≡ o
        → map part_as_shown (filter is_found (reads_of rule site e n))
        ≡ at_node o (λ m. sought_reads operand sought rule m e n)
    reads_found n None is = ap (λ (v : List RulePart). map part_as_shown v) (none_found (counts 0 n) is)
    reads_found n (Some m) is = some_found (counts 0 n) m is

  -- the parts of an operand
  at_operand : (rule : ℕ) (site : List ℕ) (i : ℕ) (o : Option ℕ) → site_node rule site ≡ o → (f : ℕ → List ShownPart)
      → at_node (site_node rule (site ++ i ∷ [])) f ≡ at_node o (λ n. at_node (operand n i) f)
  at_operand rule site i o is f =
      ap (λ (v : Option ℕ). at_node v f)
      (site_then rule site i ∙ ap (λ (v : Option ℕ). on_node v (λ m. operand m i)) is)
      ∙ at_on o (λ m. operand m i) f

  found_both : (xs ys : List RulePart) → map part_as_shown (filter is_found (xs ++ ys))
      ≡ map part_as_shown (filter is_found xs) ++ map part_as_shown (filter is_found ys)
  found_both xs ys =
      ap (λ (v : List RulePart). map part_as_shown v) (filter-append is_found xs ys)
      ∙ map-append part_as_shown (filter is_found xs) (filter is_found ys)

  mutual
    parts_found : (e : Element) (rule : ℕ) (site : List ℕ) (o : Option ℕ) → site_node rule site ≡ o
        → map part_as_shown (filter is_found (parts_in rule site e))
        ≡ at_node o (λ m. sought_in operand sought rule m e)
    parts_found (Text folds t) rule site o is = reads_found rule site (Text folds t) (length t) o is
    parts_found (Values vs) rule site o is = reads_found rule site (Values vs) (length vs) o is
    parts_found (Range low high) rule site o is = reads_found rule site (Range low high) 1 o is
    parts_found (Concat es) rule site o is = operands_found es rule site 0 o is
    parts_found (Alt es) rule site o is = operands_found es rule site 0 o is
    parts_found (Rep a b e) rule site o is =
        parts_found e rule (site ++ 0 ∷ []) (site_node rule (site ++ 0 ∷ [])) refl
        ∙ at_operand rule site 0 o is (λ m. sought_in operand sought rule m e)
    parts_found (Opt e) rule site o is =
        parts_found e rule (site ++ 0 ∷ []) (site_node rule (site ++ 0 ∷ [])) refl
        ∙ at_operand rule site 0 o is (λ m. sought_in operand sought rule m e)
    parts_found (Name n) rule site o is = reads_found rule site (Name n) 1 o is
    parts_found (Prose t) rule site o is = at_nothing o

    operands_found : (es : Elements) (rule : ℕ) (site : List ℕ) (i : ℕ) (o : Option ℕ) → site_node rule site ≡ o
        → map part_as_shown (filter is_found (operands_in rule site i es))
        ≡ at_node o (λ m. sought_operands operand sought rule m i es)
    operands_found none rule site i o is = at_nothing o
    operands_found (more e es) rule site i o is =
        found_both (parts_in rule (site ++ i ∷ []) e) (operands_in rule site (i + 1) es)
        ∙ (ap (λ (v : List ShownPart). v ++ map part_as_shown (filter is_found (operands_in rule site (i + 1) es)))
        (parts_found e rule (site ++ i ∷ []) (site_node rule (site ++ i ∷ [])) refl
        ∙ at_operand rule site i o is (λ m. sought_in operand sought rule m e))
        ∙ (ap (λ (v : List ShownPart). at_node o (λ n. at_node (operand n i) (λ m. sought_in operand sought rule m e))
        ++ v)
        (operands_found es rule site (i + 1) o is)
        ∙ at_both o (λ n. at_node (operand n i) (λ m. sought_in operand sought rule m e))
        (λ n. sought_operands operand sought rule n (i + 1) es)))

  pub all_found : (rules : List Rule) (id : ℕ) → map part_as_shown (filter is_found (parts_from id rules))
      ≡ sought_from operand sought bodies id rules
  all_found [] id = refl
  all_found (r ∷ rules) id =
      found_both (parts_in id [] r.body) (parts_from (id + 1) rules)
      ∙ (ap (λ (v : List ShownPart). v ++ map part_as_shown (filter is_found (parts_from (id + 1) rules)))
      (parts_found r.body id [] (slice_get bodies id) (on_some (slice_get bodies id)))
      ∙ ap (λ (v : List ShownPart). at_node (slice_get bodies id) (λ m. sought_in operand sought id m r.body) ++ v)
      (all_found rules (id + 1)))
