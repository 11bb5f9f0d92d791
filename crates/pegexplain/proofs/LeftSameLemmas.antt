-- Tests that say the same of every expression lead to the same left steps and lines.
-- Serves: explain_peg_note, one_note_explanation
use Rattle.std.proofs.Common.{◌≡◌, ◌&&◌, ℕ, zero, suc, Bool, true, List, [], ◌∷◌, ◌++◌, Option, Some, None, map}
use Rattle.std.proofs.Common.{refl, ap, ◌∙◌, if◌then◌else◌}
use Rattle.std.specs.Prelude.{option_map, option_to_list, slice_get, slice_index_or}
use Rattle.std.specs.List.{flat_map}
use Rattle.ruletable.specs.Rules as table
use Rattle.pegread.specs.Pattern.{Pattern, Patterns, Any, Bytes, Set, Name, Seq, Choice, Star, Plus, Opt, And, Not, Act}
use Rattle.pegread.specs.Pattern.{Open, Close, none, more, Rule}
use Rattle.pegread.specs.PegViews.{pattern_of, rule_of}
use Rattle.pegread.specs.declared.expr.Expr.{Expr}
use Rattle.pegexplain.specs.LeftLines.{is_left_use, line_of_first, skipped_if, step_between, step_line, step_reported}
use Rattle.pegexplain.specs.LeftLines.{steps_reported, way_reported}
use Rattle.pegexplain.specs.LeftUses.{NameUse, alternative_uses, alternatives_skipped, left_row, member_uses}
use Rattle.pegexplain.specs.LeftUses.{members_skipped, or_else, skipped_in, use_ids, uses_in}
use Rattle.pegexplain.specs.declared.left_lines.TheConstants.{MAX_STEPS}

module _ (null other : Pattern → Bool) (same : (e : Pattern) → null e ≡ other e) where
  mutual
    uses-same : (left : Bool) (e : Pattern) → uses_in null left e ≡ uses_in other left e
    uses-same left Any = refl
    uses-same left (Bytes bytes) = refl
    uses-same left (Set test) = refl
    uses-same left (Name name) = refl
    uses-same left (Seq es) = members-same left es
    uses-same left (Choice es) = alternatives-same left es
    uses-same left (Star e) = uses-same left e
    uses-same left (Plus e) = uses-same left e
    uses-same left (Opt e) = uses-same left e
    uses-same left (And e) = uses-same left e
    uses-same left (Not e) = uses-same left e
    uses-same left (Act template) = refl
    uses-same left Open = refl
    uses-same left Close = refl

    members-same : (left : Bool) (es : Patterns) → member_uses null left es ≡ member_uses other left es
    members-same left none = refl
    members-same left (more e es) =
        ap (λ (us : List NameUse). us ++ member_uses null (left && null e) es) (uses-same left e)
        ∙ ap (λ (b : Bool). uses_in other left e ++ member_uses null (left && b) es) (same e)
        ∙ ap (λ (us : List NameUse). uses_in other left e ++ us) (members-same (left && other e) es)

    alternatives-same : (left : Bool) (es : Patterns) → alternative_uses null left es ≡ alternative_uses other left es
    alternatives-same left none = refl
    alternatives-same left (more e es) =
        ap (λ (us : List NameUse). us ++ alternative_uses null left es) (uses-same left e)
        ∙ ap (λ (us : List NameUse). uses_in other left e ++ us) (alternatives-same left es)

  module _ (name : List ℕ) where
    mutual
      skipped-same : (e : Pattern) → skipped_in null name e ≡ skipped_in other name e
      skipped-same Any = refl
      skipped-same (Bytes bytes) = refl
      skipped-same (Set test) = refl
      skipped-same (Name n) = refl
      skipped-same (Seq es) = before-same es
      skipped-same (Choice es) = in-one-same es
      skipped-same (Star e) = skipped-same e
      skipped-same (Plus e) = skipped-same e
      skipped-same (Opt e) = skipped-same e
      skipped-same (And e) = skipped-same e
      skipped-same (Not e) = skipped-same e
      skipped-same (Act template) = refl
      skipped-same Open = refl
      skipped-same Close = refl

      before-same : (es : Patterns) → members_skipped null name es ≡ members_skipped other name es
      before-same none = refl
      before-same (more e es) =
          ap (λ (o : Option (List Pattern)). or_else o
          (if null e then option_map (λ ds. e ∷ ds) (members_skipped null name es) else None)) (skipped-same e)
          ∙ ap (λ (b : Bool). or_else (skipped_in other name e)
          (if b then option_map (λ ds. e ∷ ds) (members_skipped null name es) else None)) (same e)
          ∙ ap (λ (o : Option (List Pattern)). or_else (skipped_in other name e)
          (if other e then option_map (λ ds. e ∷ ds) o else None)) (before-same es)

      in-one-same : (es : Patterns) → alternatives_skipped null name es ≡ alternatives_skipped other name es
      in-one-same none = refl
      in-one-same (more e es) =
          ap (λ (o : Option (List Pattern)). or_else o (alternatives_skipped null name es)) (skipped-same e)
          ∙ ap (λ (o : Option (List Pattern)). or_else (skipped_in other name e) o) (in-one-same es)

  module _ (lines others : List ℕ → List ℕ) (same-lines : (name : List ℕ) → lines name ≡ others name) where
    step-same : (a b : Rule) → step_reported null lines a b ≡ step_reported other others a b
    step-same a b =
        ap (λ (us : List NameUse). step_line (line_of_first (is_left_use b.name) us (lines a.name)) a.name b.name
        (skipped_if (skipped_in null b.name a.body))) (uses-same true a.body)
        ∙ ap (λ (ls : List ℕ). step_line (line_of_first (is_left_use b.name) (uses_in other true a.body) ls) a.name
        b.name (skipped_if (skipped_in null b.name a.body))) (same-lines a.name)
        ∙ ap (λ (o : Option (List Pattern)). step_line (line_of_first (is_left_use b.name) (uses_in other true a.body)
        (others a.name)) a.name b.name (skipped_if o)) (skipped-same b.name a.body)

    between-same : (a b : Option Rule) → step_between null lines a b ≡ step_between other others a b
    between-same None b = refl
    between-same (Some a) None = refl
    between-same (Some a) (Some b) = step-same a b

    steps-same : (rules : List Rule) (first budget : ℕ) (ids : List ℕ)
        → steps_reported rules null lines first budget ids ≡ steps_reported rules other others first budget ids
    steps-same rules first budget [] = refl
    steps-same rules first zero (id ∷ ids) = refl
    steps-same rules first (suc budget) (id ∷ ids) =
        ap (λ (z : List ℕ). z ++ steps_reported rules null lines first budget ids)
        (between-same (slice_get rules id) (slice_get rules (slice_index_or ids 0 first)))
        ∙ ap (λ (z : List ℕ). step_between other others (slice_get rules id)
        (slice_get rules (slice_index_or ids 0 first)) ++ z) (steps-same rules first budget ids)

    pub way-same : (rules : List Rule) (first : ℕ) (chain : Option (List ℕ))
        → way_reported rules null lines first chain ≡ way_reported rules other others first chain
    way-same rules first None = refl
    way-same rules first (Some ids) = steps-same rules first MAX_STEPS ids

  module _ (f g : List ℕ → Option ℕ) (agree : (name : List ℕ) → f name ≡ g name) where
    ids-same : (us : List NameUse) → flat_map (use_ids f) us ≡ flat_map (use_ids g) us
    ids-same [] = refl
    ids-same (u ∷ us) =
        ap (λ (o : Option ℕ). (if u.is_left then option_to_list o else []) ++ flat_map (use_ids f) us) (agree u.name)
        ∙ ap (λ (ids : List ℕ). use_ids g u ++ ids) (ids-same us)

    row-same : (body : Pattern) → left_row f null body ≡ left_row g other body
    row-same body = ap (λ (us : List NameUse). flat_map (use_ids f) us) (uses-same true body)
        ∙ ids-same (uses_in other true body)

    pub rows-same : (rules : List Rule)
        → map (λ rule. left_row f null rule.body) rules ≡ map (λ rule. left_row g other rule.body) rules
    rows-same [] = refl
    rows-same (rule ∷ rules) =
        ap (λ (row : List ℕ). row ∷ map (λ (r : Rule). left_row f null r.body) rules) (row-same rule.body)
        ∙ ap (λ (rows : List (List ℕ)). left_row g other rule.body ∷ rows) (rows-same rules)

    -- the rows of the code's rules
    pub own-rows : (rules : List (table.Rule Expr)) → map (λ rule. left_row f null (pattern_of rule.body)) rules
        ≡ map (λ rule. left_row g other rule.body) (map rule_of rules)
    own-rows [] = refl
    own-rows (rule ∷ rules) =
        ap (λ (row : List ℕ). row ∷ map (λ (r : table.Rule Expr). left_row f null (pattern_of r.body)) rules)
        (row-same (pattern_of rule.body))
        ∙ ap (λ (rows : List (List ℕ)). left_row g other (pattern_of rule.body) ∷ rows) (own-rows rules)
