use Rattle.std.proofs.Common.{◌≡◌, ℕ, List, true, false, get_or, sym, subst}
use Rattle.std.proofs.lemmas.Option.{slice_get-get_or}
use Rattle.pegnodes.specs.KeyMarks.{AskedOnce}
use Rattle.pegnodes.specs.KeyNeeds.{AreKnown, AreSingles, IsPassed}
use Rattle.pegnodes.specs.Nodes.{Shape, shapes_of}
use Rattle.pegnodes.specs.declared.namers.Namer.{Namer}
use Rattle.pegnodes.proofs.KeyNeedsLemmas as o
use Rattle.pegnodes.proofs.keys.keys_by_namers.Goals as goal

module _ (c : goal.After-drop-namers-2) where
  abbrev nodes : List Shape
  nodes = shapes_of c.args.nodes.now

  abbrev root : ℕ
  root = get_or c.args.bodies.now c.args.start 0

  known : AreKnown c.args.start nodes c.args.bodies.now root c.in_ok-namers.namers.items
  known = record {
    root_at = slice_get-get_or c.args.bodies.now c.args.start 0 c.requires;
    named = c.in_ok-namers.ensures;
  }

  known_as : (namers : List Namer) → namers ≡ c.in_ok-namers.namers.items
      → AreKnown c.args.start nodes c.args.bodies.now root namers
  known_as namers is = subst (AreKnown c.args.start nodes c.args.bodies.now root) (sym is) known

  single : AreSingles c.args.start nodes c.args.bodies.now c.in_ok-singles.singles.items
  single = c.in_ok-singles.ensures c.args.start c.args.bodies.now (known_as c.deref.result.now c.deref.ensures.value)

  free : (m : ℕ) → get_or c.in_ok-keys.keys.items m true ≡ false
      → AskedOnce c.args.start nodes c.args.bodies.now m
  free = c.in_ok-keys.ensures c.args.start c.args.bodies.now (known_as c.deref-2.result.now c.deref-2.ensures.value)
      (subst (AreSingles c.args.start nodes c.args.bodies.now) (sym c.deref-3.ensures.value) single)

  passed : (m : ℕ) → get_or c.in_ok-after.after.items m true ≡ false
      → IsPassed c.in_ok-namers.namers.items c.in_ok-singles.singles.items c.in_ok-widths.widths.items m
  passed m is = rw (c.deref-4.ensures.value, c.deref-5.ensures.value, c.deref-6.ensures.value) at
      (c.in_ok-after.ensures m is)

pub returns : goal.returns
returns c = o.marks_are c.args.start (nodes c) c.args.bodies.now (root c) c.in_ok-namers.namers.items (known c)
    c.in_ok-keys.keys.items c.in_ok-after.after.items c.in_ok-singles.singles.items c.in_ok-widths.widths.items
    (single c) c.in_ok-widths.ensures (free c) (passed c)
