-- What the prediction of a target implies, as a table made once: the dotted rules where it and the nodes that it alone
-- calls begin.
use Rattle.std.specs.Prelude.{◌≡◌, ℕ, ◌<◌, ◌≤◌, ◌⊎◌, ◌||◌, if◌then◌else◌, nat_lt, true, false, List, [], map}
use Rattle.std.specs.Prelude.{◌++◌, ◌∷◌}
use Rattle.std.specs.Prelude.{slice_get, Option, Some, None}
use Rattle.std.proofs.Common.{Vec, Global}
use Rattle.flatgrammar.specs.declared.flat_item.Item.{Item}
use Rattle.flatgrammar.specs.declared.closure.DottedRule.{DottedRule}
use Rattle.flatgrammar.specs.declared.closure.ItemClosure as code_closure
use Rattle.flatgrammar.specs.declared.inlined.Inlined.{Inlined}
use Rattle.flatgrammar.specs.declared.flat_node.Ends.{Ends}
use Rattle.flatgrammar.specs.declared.dot_list.Ask.{Ask}
use Rattle.flatgrammar.specs.declared.dot_list.DotList.{DotList}
use Rattle.flatgrammar.specs.declared.tables.Tables as code_flat
use Rattle.flatgrammar.specs.NodeSteps.{flat_of, IfSomeSet}
use Rattle.flatgrammar.specs.TableViews.{call_of, count_in, null_of, start_target, takes_of, read_of, GiveTargets}
use Rattle.flatgrammar.specs.TableViews.{AreNulls}
use Rattle.flatgrammar.specs.Positions.{In, AreDifferent}

abbrev pub item_at : ℕ → DottedRule → Item
item_at j p = record { node = p.node; step = p.step; origin = j }

abbrev pub dot : ℕ → ℕ → DottedRule
dot n k = record { node = n; step = k }

pub record ItemClosure : Type 0 where
  pub dots : List DottedRule  -- where something begins
  pub calls : List ℕ  -- the targets that have closures of their own
  pub passes : List DottedRule  -- what goes on at once

abbrev pub closure_in : Option code_closure.ItemClosure → ItemClosure
closure_in None = record { dots = []; calls = []; passes = [] }
closure_in (Some b) = record { dots = b.dots.items; calls = b.calls.items; passes = b.passes.items }

abbrev pub closure_of : code_flat.Tables → ℕ → ItemClosure
closure_of flat h = closure_in (slice_get flat.closures.items h)

abbrev pub begin_count : code_flat.Tables → ℕ → ℕ
begin_count flat t = count_in (slice_get flat.nodes.items t)

-- the target that a dotted rule calls, and the step after it
abbrev pub call_at : code_flat.Tables → DottedRule → Option (ℕ × ℕ)
call_at flat p = call_of flat (item_at 0 p)

-- the dotted rules that begin wherever a target is predicted
pub data Inside (flat : code_flat.Tables) (h : ℕ) : DottedRule → Type 0 where
  begun : {k : ℕ} → k < begin_count flat h → Inside flat h (record { node = h; step = k })
  called : {p : DottedRule} {t l k : ℕ} → Inside flat h p → call_at flat p ≡ Some (t, l) → k < begin_count flat t
      → Inside flat h (record { node = t; step = k })

pub record IsPassing (flat : code_flat.Tables) (dots : List DottedRule) (r : DottedRule) : Type 0 where
  pub from : DottedRule
  pub stands : In from dots
  pub target : ℕ
  pub call : call_at flat from ≡ Some (target, r.step)
  pub null : null_of flat target ≡ true
  pub free : takes_of flat (item_at 0 from) ≡ false  -- an iteration that takes a letter is not passed
  pub node : r.node ≡ from.node

pub record IsCalling (flat : code_flat.Tables) (dots : List DottedRule) (t : ℕ) : Type 0 where
  pub from : DottedRule
  pub stands : In from dots
  pub next : ℕ
  pub call : call_at flat from ≡ Some (t, next)

pub record IsItemClosure (flat : code_flat.Tables) (h : ℕ) (b : ItemClosure) : Type 0 where
  pub begun : (k : ℕ) → k < begin_count flat h → In (record { node = h; step = k }) b.dots
  pub inside : (p : DottedRule) → In p b.dots → Inside flat h p
  pub called : (t : ℕ) → IsCalling flat b.dots t → In t b.calls
      ⊎ ((k : ℕ) → k < begin_count flat t → In (record { node = t; step = k }) b.dots)
  pub calls : (t : ℕ) → In t b.calls → IsCalling flat b.dots t
  pub passed : (r : DottedRule) → IsPassing flat b.dots r → In r b.passes ⊎ In r b.dots
  pub passes : (r : DottedRule) → In r b.passes → IsPassing flat b.dots r
  pub late : (r : DottedRule) → In r b.passes → r.step < begin_count flat r.node → ⊥
  pub different : AreDifferent b.dots

-- a target whose closure begins with it
abbrev pub IsPrediction : code_flat.Tables → ℕ → Type 0
IsPrediction flat h = (k : ℕ) → k < begin_count flat h → In (record { node = h; step = k }) (closure_of flat h).dots

-- an item that something led to: it begins nothing, or calls itself back
abbrev pub IsLate : code_flat.Tables → Item → Type 0
IsLate flat a = (a.step < begin_count flat a.node → ⊥) ⊎ ((t : ℕ) × (call_of flat a ≡ Some (t, a.step)))

-- the tables of a grammar
pub record AreTables (flat : code_flat.Tables) : Type 0 where
  pub closure : (h : ℕ) → IsPrediction flat h → IsItemClosure flat h (closure_of flat h)
  pub apart : (g h : ℕ) → IsPrediction flat g → IsPrediction flat h → (p : DottedRule) → In p (closure_of flat g).dots
      → In p (closure_of flat h).dots → g ≡ h
  pub inlined : (h t : ℕ) → IsPrediction flat h → In t (closure_of flat h).calls → IsPrediction flat t
  pub outer : (a : Item) (t l : ℕ) → IsLate flat a → call_of flat a ≡ Some (t, l) → IsPrediction flat t
  pub whole : (t : ℕ) → start_target flat ≡ Some t → IsPrediction flat t

abbrev pub inlined_in : Option (Option Inlined) → Option Inlined
inlined_in None = None
inlined_in (Some inlined) = inlined

-- the dotted rule that alone calls a node, where another node of the same closure begins
abbrev pub inlined_of : code_flat.Tables → ℕ → Option Inlined
inlined_of flat t = inlined_in (slice_get flat.inlines.items t)

abbrev pub owner_or : Option Inlined → ℕ → ℕ
owner_or None t = t
owner_or (Some inlined) t = inlined.prediction

-- the prediction in whose closure a node stands
abbrev pub owner_of : code_flat.Tables → ℕ → ℕ
owner_of flat t = owner_or (inlined_of flat t) t

-- what a closure has is of nodes that stand in it
pub record AreOwners (flat : code_flat.Tables) : Type 0 where
  pub dots : (h : ℕ) (p : DottedRule) → In p (closure_of flat h).dots → owner_of flat p.node ≡ h
  pub passes : (h : ℕ) (p : DottedRule) → In p (closure_of flat h).passes → owner_of flat p.node ≡ h
  pub inlines : (t : ℕ) (inlined : Inlined) → inlined_of flat t ≡ Some inlined → owner_of flat inlined.node
      ≡ inlined.prediction

-- that dotted rule of the prediction's closure alone calls the node, and goes on elsewhere
pub record IsAlone (flat : code_flat.Tables) (t : ℕ) (inlined : Inlined) : Type 0 where
  pub stands : In (dot inlined.node inlined.step) (closure_of flat inlined.prediction).dots
  pub begins : inlined.step < begin_count flat inlined.node
  pub call : call_at flat (dot inlined.node inlined.step) ≡ Some (t, inlined.next)
  pub moves : inlined.next ≡ inlined.step → ⊥
  pub only : (n k l : ℕ) → call_at flat (dot n k) ≡ Some (t, l) → (inlined.node ≡ n) × (inlined.step ≡ k)

abbrev pub AreAlone : code_flat.Tables → Type 0
AreAlone flat = (t : ℕ) (inlined : Inlined) → inlined_of flat t ≡ Some inlined → IsAlone flat t inlined

-- a dotted rule calls a target with a closure of its own
abbrev pub Asks : code_flat.Tables → DottedRule → Type 0
Asks flat p = (t : ℕ) × (l : ℕ) × (call_at flat p ≡ Some (t, l)) × (inlined_of flat t ≡ None)

-- a dotted rule reads a letter
abbrev pub Reads : code_flat.Tables → ℕ → DottedRule → Type 0
Reads flat c p = IfSomeSet (read_of flat (item_at 0 p)) c

abbrev pub ReadsAny : code_flat.Tables → DottedRule → Type 0
ReadsAny flat p = (c : ℕ) × Reads flat c p

-- a list has members of the other alone, and all of Q, each once where they are different
abbrev pub Picks : (DottedRule → Type 0) → List DottedRule → List DottedRule → Type 0
Picks Q dots list = ((p : DottedRule) → In p list → In p dots) × ((p : DottedRule) → In p dots → Q p → In p list)
    × (AreDifferent dots → AreDifferent list)

-- lists by letter
abbrev pub AreByLetter : code_flat.Tables → List DottedRule → List (Vec DottedRule Global) → Type 0
AreByLetter flat dots lists = (c : ℕ) (list : Vec DottedRule Global) → slice_get lists c ≡ Some list
    → Picks (Reads flat c) dots list.items

-- a list has one more dotted rule at its end if P, and else is the list that it was
abbrev pub IsAdded : Type 0 → DottedRule → Option (Vec DottedRule Global) → Vec DottedRule Global → Type 0
IsAdded P d old list = (P × ((before : Vec DottedRule Global) × (old ≡ Some before)
    × (list.items ≡ before.items ++ d ∷ []))) ⊎ ((P → ⊥) × (old ≡ Some list))

-- so are lists by letter, for the letters of P
abbrev pub AreAdded : (ℕ → Type 0) → DottedRule → List (Vec DottedRule Global) → List (Vec DottedRule Global) → Type 0
AreAdded P d old new = (c : ℕ) (list : Vec DottedRule Global) → slice_get new c ≡ Some list
    → IsAdded (P c) d (slice_get old c) list

-- all letters that dotted rules of a list read are between the ends
abbrev pub AreEnds : code_flat.Tables → List DottedRule → Ends → Type 0
AreEnds flat dots ends = (c : ℕ) (p : DottedRule) → In p dots → Reads flat c p
    → (ends.least ≤ c) × (c ≤ ends.greatest)

abbrev pub dots_of : List Ask → List DottedRule
dots_of asks = map (λ a. a.dot) asks

-- each dotted rule calls what it is said to ask for
abbrev pub AreAsks : code_flat.Tables → List Ask → Type 0
AreAsks flat asks = (a : Ask) → In a asks → call_at flat a.dot ≡ Some (a.target, a.next)

pub record Lists : Type 0 where
  pub asks : List Ask
  pub readers : List DottedRule
  pub by_letter : List (Vec DottedRule Global)
  pub ends : Ends

abbrev pub lists_in : Option DotList → Lists
lists_in None = record { asks = []; readers = []; by_letter = []; ends = record { least = 0; greatest = 0 } }
lists_in (Some list) = record {
  asks = list.asks.items;
  readers = list.readers.items;
  by_letter = list.by_letter.items;
  ends = list.ends;
}

abbrev pub IsDotList : code_flat.Tables → List DottedRule → Lists → Type 0
IsDotList flat dots lists = Picks (Asks flat) dots (dots_of lists.asks) × Picks (ReadsAny flat) dots lists.readers
    × AreByLetter flat dots lists.by_letter × AreAsks flat lists.asks × AreEnds flat lists.readers lists.ends

abbrev pub lists_of : code_flat.Tables → ℕ → Lists
lists_of flat h = lists_in (slice_get flat.lists.items h)

abbrev pub list_or : Option (Vec DottedRule Global) → List DottedRule → List DottedRule
list_or None all = all
list_or (Some list) all = list.items

-- of lists the dotted rules that are tried on a letter
abbrev pub readers_in : Lists → ℕ → List DottedRule
readers_in lists c = if nat_lt c lists.ends.least || nat_lt lists.ends.greatest c then []
    else list_or (slice_get lists.by_letter c) lists.readers

-- of a closure's dotted rules those that are tried on a letter
abbrev pub readers_of : code_flat.Tables → ℕ → ℕ → List DottedRule
readers_of flat h c = readers_in (lists_of flat h) c

-- each closure has its lists
abbrev pub AreDotLists : code_flat.Tables → Type 0
AreDotLists flat = (h : ℕ) → IsDotList flat (closure_of flat h).dots (lists_of flat h)

-- the tables of a flat grammar are exact
pub record AreExact (tables : code_flat.Tables) : Type 0 where
  pub targets : GiveTargets (flat_of tables) tables.targets.items
  pub nulls : AreNulls (flat_of tables) tables.nulls.items
  pub closures : AreTables tables
  pub inlines : AreAlone tables
  pub lists : AreDotLists tables
  pub owners : AreOwners tables
