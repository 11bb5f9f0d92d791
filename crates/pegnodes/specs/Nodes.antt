-- Numbered nodes that spell expressions.
use Rattle.std.specs.Prelude.{◌≡◌, ℕ, ◌+◌, Bool, false, List, [], ◌∷◌, map, slice_get, get_or, Some, bytes_eq}
use Rattle.std.specs.Prelude.{if◌then◌else◌}
use Rattle.pegread.specs.Pattern as e
use Rattle.pegread.specs.Pattern.{Pattern, Patterns, Rule}
use Rattle.pegnodes.specs.declared.node.Node.{Node}
use Rattle.pegnodes.specs.declared.node.Node.TheVariants as code

-- the case of an expression, with the numbers of its operands, and of a name the id of its rule
pub data Shape : Type 0 where
  Any : Shape
  Bytes : List ℕ → Shape
  Set : (ℕ → Bool) → Shape
  Name : ℕ → Shape
  Seq : List ℕ → Shape
  Choice : List ℕ → Shape
  Star : ℕ → Shape
  Plus : (operand : ℕ) → (star : ℕ) → Shape
  Opt : ℕ → Shape
  And : ℕ → Shape
  Not : ℕ → Shape
  Act : List ℕ → Shape
  Open : Shape
  Close : Shape

abbrev pub shape_of : Node → Shape
shape_of code.Any = Any
shape_of (code.Bytes bytes) = Bytes bytes.items
shape_of (code.Set members) = Set (λ b. get_or members b false)
shape_of (code.Name id) = Name id
shape_of (code.Seq members) = Seq members.items
shape_of (code.Choice alternatives) = Choice alternatives.items
shape_of (code.Star n) = Star n
shape_of (code.Plus n k) = Plus n k
shape_of (code.Opt n) = Opt n
shape_of (code.And n) = And n
shape_of (code.Not n) = Not n
shape_of (code.Act template) = Act template.items
shape_of code.Open = Open
shape_of code.Close = Close

abbrev pub shapes_of : List Node → List Shape
shapes_of nodes = map shape_of nodes

-- the id of the first rule of that name, or the number of rules
abbrev pub id_of : List Rule → List ℕ → ℕ
id_of [] name = 0
id_of (rule ∷ rules) name = if bytes_eq rule.name name then 0 else id_of rules name + 1

module _ (rules : List Rule) (nodes : List Shape) where
  mutual
    -- node n spells an expression
    pub data Spells : ℕ → Pattern → Type 0 where
      spells_any : {n : ℕ} → slice_get nodes n ≡ Some Any → Spells n e.Any
      spells_bytes : {n : ℕ} {bs : List ℕ} → slice_get nodes n ≡ Some (Bytes bs) → Spells n (e.Bytes bs)
      spells_set : {n : ℕ} {s : ℕ → Bool} → slice_get nodes n ≡ Some (Set s) → Spells n (e.Set s)
      spells_name : {n : ℕ} {name : List ℕ} → slice_get nodes n ≡ Some (Name (id_of rules name))
          → Spells n (e.Name name)
      spells_seq : {n : ℕ} {ms : List ℕ} {ps : Patterns} → slice_get nodes n ≡ Some (Seq ms) → SpellAll ms ps
          → Spells n (e.Seq ps)
      spells_choice : {n : ℕ} {ms : List ℕ} {ps : Patterns} → slice_get nodes n ≡ Some (Choice ms) → SpellAll ms ps
          → Spells n (e.Choice ps)
      spells_star : {n m : ℕ} {p : Pattern} → slice_get nodes n ≡ Some (Star m) → Spells m p → Spells n (e.Star p)
      spells_plus : {n m k : ℕ} {p : Pattern} → slice_get nodes n ≡ Some (Plus m k) → Spells m p
          → slice_get nodes k ≡ Some (Star m) → Spells n (e.Plus p)
      spells_opt : {n m : ℕ} {p : Pattern} → slice_get nodes n ≡ Some (Opt m) → Spells m p → Spells n (e.Opt p)
      spells_and : {n m : ℕ} {p : Pattern} → slice_get nodes n ≡ Some (And m) → Spells m p → Spells n (e.And p)
      spells_not : {n m : ℕ} {p : Pattern} → slice_get nodes n ≡ Some (Not m) → Spells m p → Spells n (e.Not p)
      spells_act : {n : ℕ} {t : List ℕ} → slice_get nodes n ≡ Some (Act t) → Spells n (e.Act t)
      spells_open : {n : ℕ} → slice_get nodes n ≡ Some Open → Spells n e.Open
      spells_close : {n : ℕ} → slice_get nodes n ≡ Some Close → Spells n e.Close

    pub data SpellAll : List ℕ → Patterns → Type 0 where
      spell_none : SpellAll [] e.none
      spell_more : {n : ℕ} {ns : List ℕ} {p : Pattern} {ps : Patterns} → Spells n p → SpellAll ns ps
          → SpellAll (n ∷ ns) (e.more p ps)
