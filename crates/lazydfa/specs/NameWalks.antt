-- Walks that enter no rule, by the tables, and the terminals and names that are on top of them.
use Rattle.std.specs.Prelude.{◌≡◌, ◌↔◌, ◌⊎◌, ℕ, Bool, true, false, List, [], ◌∷◌, Some}
use Rattle.flatgrammar.specs.Flat.{Dot, at}
use Rattle.flatgrammar.specs.ItemClosures.{begin_count, item_at, dot}
use Rattle.flatgrammar.specs.CalledParts.{IsPartOf}
use Rattle.flatgrammar.specs.Positions.{In}
use Rattle.flatgrammar.specs.TableViews.{callee_of, done_of, name_of, null_of}
use Rattle.flatgrammar.specs.declared.closure.DottedRule.{DottedRule}
use Rattle.flatgrammar.specs.declared.tables.Tables as code_flat
use Rattle.flatgrammar.specs.Stacks.{Lifted}
use Rattle.lazydfa.specs.declared.conts.Cont.{Cont}
use Rattle.lazydfa.specs.Conts.{after, Begun, IsClosedBy, IsStackOf, LedBy}
use Rattle.lazydfa.specs.StackSuffixes.{below_of}

-- where a dotted rule over what is below goes by a call: into a node that is no name, or past a name that derives the
-- empty line
pub data WalkCalls (tables : code_flat.Tables) (n k : ℕ) (below : List Dot) : List Dot → Type 0 where
  enters : {s next : ℕ} {stack : List Dot} → callee_of tables (item_at 0 (dot n k)) ≡ Some (s, next)
      → name_of tables s ≡ false → Begun s (begin_count tables s) (after tables n next below) stack
      → WalkCalls tables n k below stack
  passes : {s next : ℕ} {stack : List Dot} → callee_of tables (item_at 0 (dot n k)) ≡ Some (s, next)
      → name_of tables s ≡ true → null_of tables s ≡ true → stack ≡ at n next ∷ below
      → WalkCalls tables n k below stack

-- where a stack goes without a symbol and into no rule
abbrev pub WalkGoes : code_flat.Tables → List Dot → List Dot → Type 0
WalkGoes tables [] stack = ⊥
WalkGoes tables (at n k ∷ below) stack = WalkCalls tables n k below stack
    ⊎ ((done_of tables (item_at 0 (dot n k)) ≡ true) × (stack ≡ below) × (below ≡ [] → ⊥))

-- all that ids are led on to so, and whether a dotted rule alone is done
abbrev pub IsWalked : code_flat.Tables → List Cont → List ℕ → List Cont → List ℕ → Bool → Type 0
IsWalked tables first given conts ids ended = IsClosedBy tables (WalkGoes tables) first given conts ids ended

-- a part of the dotted rule on top of one of some stacks
pub record IsPartOnTop (tables : code_flat.Tables) (stacks : List Dot → Type 0) (s : DottedRule) : Type 0 where
  pub node : ℕ
  pub step : ℕ
  pub below : List Dot
  pub is : stacks (at node step ∷ below)
  pub part : IsPartOf tables node step s

-- the parts on top of some stacks were added
abbrev pub AddsParts : code_flat.Tables → (List Dot → Type 0) → List DottedRule → List DottedRule → Type 0
AddsParts tables stacks old new = (s : DottedRule) → In s new ↔ (In s old ⊎ IsPartOnTop tables stacks s)

-- all that ids over suffixes are led on to so
abbrev pub IsWalkedOver : code_flat.Tables → List Cont → List ℕ → List ℕ → List Dot → Type 0
IsWalkedOver tables conts ids suffixes stack =
    LedBy (WalkGoes tables) (Lifted (IsStackOf conts ids) (below_of conts suffixes)) stack
