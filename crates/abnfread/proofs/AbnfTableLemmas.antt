-- The table of a list of definitions is made from the left, one definition at a time.
-- Serves: read_abnf
use Rattle.std.proofs.Common.{◌≡◌, ℕ, suc, ◌+◌, arith, Bool, true, false, cond, ◌&&◌, List, [], ◌∷◌, ◌++◌, map, length}
use Rattle.std.proofs.Common.{nat_lt, position, Option, Some, None, refl, sym, ◌∙◌, ap, append_assoc, append-nil}
use Rattle.std.specs.List.{position_or_len}
use Rattle.std.proofs.lemmas.List.{map-append}
use Rattle.std.proofs.lemmas.Bool.{ltb-false, le-ltb}
use Rattle.ruletable.specs.Rules.{same_name}
use Rattle.ruletable.specs.declared.table.NameCase.TheVariants.{Fold}
use Rattle.abnfread.specs.Element.{Element, Rule, Definition}
use Rattle.abnfread.specs.AbnfTable.{with_alternatives, id_in, added, extended, begun, grown, firsts, grow_named}

abbrev with_body : Rule → Element → Rule
with_body rule x = record { name = rule.name; body = x; span = rule.span }

abbrev pub name_of : Rule → List ℕ
name_of rule = rule.name

-- what one definition does to the rules so far
abbrev pub take_definition : (List ℕ → Option Element) → List Rule → Definition → List Rule
take_definition core rules d = elim (id_in (map name_of rules) d)
    [ None ↦ rules ++ begun core d ∷ [] | Some id ↦ cond d.adds (map (grow_named d) rules) rules ]

abbrev pub take_all : (List ℕ → Option Element) → List Rule → List Definition → List Rule
take_all core rules [] = rules
take_all core rules (d ∷ ds) = take_all core (take_definition core rules d) ds

grown-none : (rules : List Rule) → map (grown []) rules ≡ rules
grown-none [] = refl
grown-none (rule ∷ rules) = ap (λ (x : List Rule). rule ∷ x) (grown-none rules)

grow-name : (d : Definition) (b : Bool) (rule : Rule) (x : Element) → name_of (cond b (with_body rule x) rule)
    ≡ rule.name
grow-name d true rule x = refl
grow-name d false rule x = refl

pub grow-names : (d : Definition) (rules : List Rule) → map name_of (map (grow_named d) rules) ≡ map name_of rules
grow-names d [] = refl
grow-names d (rule ∷ rules) = ap (λ (n : List ℕ). n ∷ map name_of (map (grow_named d) rules))
    (grow-name d (same_name Fold d.name rule.name) rule (with_alternatives rule.body d.body))
    ∙ ap (λ (ns : List (List ℕ)). rule.name ∷ ns) (grow-names d rules)

map-same : (f g : Rule → Rule) (rules : List Rule) → ((rule : Rule) → f rule ≡ g rule) → map f rules ≡ map g rules
map-same f g [] h = refl
map-same f g (rule ∷ rules) h = ap (λ (x : Rule). x ∷ map f rules) (h rule)
    ∙ ap (λ (x : List Rule). g rule ∷ x) (map-same f g rules h)

map-map : (f g : Rule → Rule) (rules : List Rule) → map f (map g rules) ≡ map (λ rule. f (g rule)) rules
map-map f g [] = refl
map-map f g (rule ∷ rules) = ap (λ (x : List Rule). f (g rule) ∷ x) (map-map f g rules)

cond-none : (b : Bool) (n : ℕ) → cond b (Some n) None ≡ None → b ≡ false
cond-none true n h = cc
cond-none false n h = refl

position-there : (f : List ℕ → Bool) (x : List ℕ) (xs : List (List ℕ)) → f x ≡ true → position f (x ∷ xs) ≡ None → ⊥
position-there f x xs e h = let k = ltb-false 0 (suc (length xs)) (cond-none (nat_lt 0 (suc (length xs))) 0 (rw e at h))
    in absurd (omega arith)

position-rest : (f : List ℕ → Bool) (x : List ℕ) (xs : List (List ℕ)) → f x ≡ false → position f (x ∷ xs) ≡ None
    → position f xs ≡ None
position-rest f x xs e h =
    let n = position_or_len f xs in
    let k = ltb-false (1 + n) (suc (length xs)) (cond-none (nat_lt (1 + n) (suc (length xs))) (1 + n) (rw e at h)) in
    let l : nat_lt n (length xs) ≡ false = le-ltb n (length xs) (omega arith) in
    ap (λ (b : Bool). cond b (Some n) None) l

module _ (d : Definition) (ds : List Definition) where
  picked_rule : Bool → Rule → Rule
  picked_rule b rule = with_body rule (extended rule.body (cond b (d.body ∷ added rule.name ds) (added rule.name ds)))

  -- a rule that the definition names, or does not
  grown-at : (b : Bool) (rule : Rule) → picked_rule b rule
      ≡ grown ds (cond b (with_body rule (with_alternatives rule.body d.body)) rule)
  unfolding picked_rule
  grown-at true rule = refl
  grown-at false rule = refl

  adds-one : d.adds ≡ true → (rule : Rule) → grown (d ∷ ds) rule ≡ grown ds (grow_named d rule)
  unfolding picked_rule
  adds-one k rule = ap (λ (a : Bool). picked_rule (a && same_name Fold d.name rule.name) rule) k
      ∙ grown-at (same_name Fold d.name rule.name) rule

  drops-one : d.adds ≡ false → (rule : Rule) → grown (d ∷ ds) rule ≡ grown ds rule
  unfolding picked_rule
  drops-one k rule = ap (λ (a : Bool). picked_rule (a && same_name Fold d.name rule.name) rule) k

  and-false : (a b : Bool) → b ≡ false → (a && b) ≡ false
  and-false true b h = h
  and-false false b h = refl

  passes-by : (rule : Rule) → same_name Fold d.name rule.name ≡ false → grown (d ∷ ds) rule ≡ grown ds rule
  unfolding picked_rule
  passes-by rule h = ap (λ (b : Bool). picked_rule b rule) (and-false d.adds (same_name Fold d.name rule.name) h)

  passes-first : (rule : Rule) (rules : List Rule)
      → (id_in (map name_of rules) d ≡ None → map (grown (d ∷ ds)) rules ≡ map (grown ds) rules) → (b : Bool)
      → same_name Fold d.name rule.name ≡ b → id_in (rule.name ∷ map name_of rules) d ≡ None →
      grown (d ∷ ds) rule ∷ map (grown (d ∷ ds)) rules ≡ grown ds rule ∷ map (grown ds) rules
  passes-first rule rules f true e h = absurd (position-there (same_name Fold d.name) rule.name (map name_of rules) e h)
  passes-first rule rules f false e h = ap (λ (x : Rule). x ∷ map (grown (d ∷ ds)) rules) (passes-by rule e)
      ∙ ap (λ (x : List Rule). grown ds rule ∷ x) (f
      (position-rest (same_name Fold d.name) rule.name (map name_of rules) e h))

  -- none of the rules has the definition's name
  passes-all : (rules : List Rule) → id_in (map name_of rules) d ≡ None → map (grown (d ∷ ds)) rules
      ≡ map (grown ds) rules
  passes-all [] h = refl
  passes-all (rule ∷ rules) h = passes-first rule rules (λ k. passes-all rules k) (same_name Fold d.name rule.name)
      refl h

at-known : (core : List ℕ → Option Element) (rules : List Rule) (d : Definition) (ds : List Definition)
    → ((more : List Rule) → take_all core more ds ≡ map (grown ds) more ++ firsts core (map name_of more) ds)
    → (a : Bool) → d.adds ≡ a →
    take_all core (cond a (map (grow_named d) rules) rules) ds ≡ map (grown (d ∷ ds)) rules
    ++ firsts core (map name_of rules) ds
at-known core rules d ds f true k =
    f (map (grow_named d) rules) ∙ ap (λ (x : List Rule). x ++ firsts core (map name_of (map (grow_named d) rules)) ds)
    (map-map (grown ds) (grow_named d) rules)
    ∙ ap (λ (x : List Rule). x ++ firsts core (map name_of (map (grow_named d) rules)) ds)
    (sym (map-same (grown (d ∷ ds)) (λ rule. grown ds (grow_named d rule)) rules (adds-one d ds k)))
    ∙ ap (λ (ns : List (List ℕ)). map (grown (d ∷ ds)) rules ++ firsts core ns ds) (grow-names d rules)
at-known core rules d ds f false k =
    f rules ∙ ap (λ (x : List Rule). x ++ firsts core (map name_of rules) ds)
    (sym (map-same (grown (d ∷ ds)) (grown ds) rules (drops-one d ds k)))

at-take : (core : List ℕ → Option Element) (rules : List Rule) (d : Definition) (ds : List Definition)
    → ((more : List Rule) → take_all core more ds ≡ map (grown ds) more ++ firsts core (map name_of more) ds)
    → (o : Option ℕ) → id_in (map name_of rules) d ≡ o →
    take_all core (elim o [
      | None ↦ rules ++ begun core d ∷ []
      | Some id ↦ cond d.adds (map (grow_named d) rules) rules
    ]) ds
    ≡ map (grown (d ∷ ds)) rules ++ (elim o [
      | None ↦ grown ds (begun core d)
          ∷ firsts core (map name_of rules ++ d.name ∷ []) ds
      | Some id ↦ firsts core (map name_of rules) ds
    ])
at-take core rules d ds f None h =
    f (rules ++ begun core d ∷ []) ∙ ap (λ (x : List Rule). x ++ firsts core (map name_of (rules ++ begun core d ∷ []))
    ds) (map-append (grown ds) rules (begun core d ∷ []))
    ∙ ap (λ (ns : List (List ℕ)). (map (grown ds) rules ++ grown ds (begun core d) ∷ []) ++ firsts core ns ds)
    (map-append name_of rules (begun core d ∷ []))
    ∙ append_assoc (map (grown ds) rules) (grown ds (begun core d) ∷ [])
    (firsts core (map name_of rules ++ d.name ∷ []) ds)
    ∙ ap (λ (x : List Rule). x ++ grown ds (begun core d) ∷ firsts core (map name_of rules ++ d.name ∷ []) ds)
    (sym (passes-all d ds rules h))
at-take core rules d ds f (Some id) h = at-known core rules d ds f d.adds refl

-- taking the definitions one by one gives each known rule with what they add, and then the first ones of new names
pub take-all : (core : List ℕ → Option Element) (rules : List Rule) (ds : List Definition)
    → take_all core rules ds ≡ map (grown ds) rules ++ firsts core (map name_of rules) ds
take-all core rules [] = sym (append-nil (map (grown []) rules) ∙ grown-none rules)
take-all core rules (d ∷ ds) = at-take core rules d ds (λ more. take-all core more ds) (id_in (map name_of rules) d)
    refl
