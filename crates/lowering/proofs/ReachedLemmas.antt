-- What an item says is derived.
-- Serves: items_decide, lower, judge.
use Rattle.std.proofs.Common.{◌≡◌, ℕ, List, [], ◌∷◌, ◌++◌, refl, sym, subst, ◌<◌, ◌≤◌, length, arith}
use Rattle.std.specs.Prelude.{slice_get, Bool, Some}
use Rattle.abnfread.specs.Element.{Element, Rule}
use Rattle.abnfcheck.specs.Derivable as der
use Rattle.abnfcheck.specs.Derivable.{AreLetters, Derives}
use Rattle.flatgrammar.specs.Flat.{Node, Flat, Dot, at, Name, Set, Has, Reading, Calling, IsDone, Begins, Starts}
use Rattle.flatgrammar.specs.Flat.{starts, name_starts, Ends, ends, name_ends, Reads, reads, Calls, calls, IsTaking}
use Rattle.flatgrammar.specs.Flat.{Takes, in_iterations}
use Rattle.flatgrammar.specs.Holds.{Holds, begins, called, has_read, returned}
use Rattle.lowering.specs.Lowered.{Spells, spells, Shows, shows_name, AreBodies}
use Rattle.abnfcheck.proofs.IsPathLemmas.{here, step, paths_join}
use Rattle.abnfcheck.proofs.LiesLemmas.{OnLine, Lies, are_letters}
use Rattle.lowering.proofs.OnLineLemmas.{short_on_line, lies_count}
use Rattle.lowering.proofs.RuleNodeLemmas.{body_of_number}
use Rattle.lowering.proofs.BeforeLemmas.{Before, start_part, read_part, call_part, end_part}

module _ (has : ℕ → Bool) (rules : List Rule) (limit : ℕ) (flat : Flat)
    (bodies : AreBodies rules limit flat.nodes flat.bodies) where
  -- w lies before the dotted rule, whatever its node spells
  abbrev pub PartOf : Dot → List ℕ → Type 0
  PartOf (at s k) w = (node : Node) (el : Element) → slice_get flat.nodes s ≡ Some node
      → Shows rules limit flat.nodes node el → Before has rules node el k w

  pub starts_empty : {s : ℕ} {p : Dot} → Starts flat s p → PartOf p []
  starts_empty (starts {k = k} {node = node'} is b) = λ node el is' shown.
      let same : node' ≡ node = cc in start_part has rules limit flat.nodes (subst (λ v. Begins v k) same b) shown
  starts_empty (name_starts is at_r st) = starts_empty st

  pub named_derives : {s t r : ℕ} {w : List ℕ} {el : Element} → slice_get flat.nodes s ≡ Some (Name r)
      → slice_get flat.bodies r
      ≡ Some t → Spells rules limit flat.nodes s el →
      ((body : Element) → Spells rules limit flat.nodes t body → Derives has rules body w) → Derives has rules el w
  named_derives {t = t} {r = r} {w = w} is at_r (spells {node = node} {el = el} is' shown) from =
      by (let same : node ≡ Name r = cc in subst (λ v. Shows rules limit flat.nodes v el) same shown)
    where
      by : {el : Element} → Shows rules limit flat.nodes (Name r) el → Derives has rules el w
      by (shows_name {n = n} {r = r} found) = let h = body_of_number rules limit flat.nodes flat.bodies bodies n r t
          found at_r in der.name h.1 (from h.0 h.2)

  pub ends_derive : {s : ℕ} {p : Dot} {w : List ℕ} → Ends flat p s → AreLetters has w → length w ≤ limit → PartOf p w
      → (el : Element) → Spells rules limit flat.nodes s el → Derives has rules el w
  ends_derive (ends {k = k} {node = node'} is d) letters short part = λ el sp. own is d letters short part sp
    where
      own : {s k : ℕ} {node' : Node} {w : List ℕ} {el : Element} → slice_get flat.nodes s ≡ Some node' → IsDone node' k
          → AreLetters has w → length w ≤ limit → PartOf (at s k) w → Spells rules limit flat.nodes s el
          → Derives has rules el w
      own {k = k} {node' = node'} is d letters short part (spells {node = node} {el = el} is' shown) =
          let same : node' ≡ node = cc in
          end_part has rules limit flat.nodes (subst (λ v. IsDone v k) same d) shown letters short
          (part node el is' shown)
  ends_derive (name_ends is at_r e) letters short part =
      λ el sp. named_derives is at_r sp (ends_derive e letters short part)

  read_on : {q r : Dot} {set : Set} (c : ℕ) (w : List ℕ) → Reads flat q set r → Has set c → PartOf q w
      → PartOf r (w ++ c ∷ [])
  read_on c w (reads {k = k} {l = l} {set = set} {node = node'} is r) h part = λ node el is' shown.
      let same : node' ≡ node = cc in read_part has rules c (subst (λ v. Reading v k set l) same r) h
      (part node el is' shown)

  pub call_on : {q r : Dot} {t : ℕ} (w v : List ℕ) → Calls flat q t r → PartOf q w → length w ≤ limit
      → (Takes flat q → 0 < length v) →
      ((el : Element) → Spells rules limit flat.nodes t el → Derives has rules el v) → PartOf r (w ++ v)
  call_on w v (calls {k = k} {t = t} {l = l} {node = node'} is c) part short some from = λ node el is' shown.
      let same : node' ≡ node = cc in call_part has rules limit flat.nodes (subst (λ v. Calling v k t l) same c) shown
      (part node el is' shown) short
      (λ t. some (in_iterations is (subst (λ v. IsTaking v) (sym same) t))) from

  module _ (x : List ℕ) (letters : AreLetters has x) (within : length x ≤ limit) where
    pub record Reached (i j : ℕ) (p : Dot) : Type 0 where
      pub word : List ℕ
      pub lies : Lies x i word j
      pub part : PartOf p word

    pub holds_reached : {i j : ℕ} {p : Dot} → Holds flat x j p i → Reached i j p
    holds_reached (begins st) = record { word = []; lies = here; part = starts_empty st }
    holds_reached (called h c st) = record { word = []; lies = here; part = starts_empty st }
    holds_reached (has_read {c = c} h r is lies_in) =
        let g = holds_reached h in
        record {
          word = g.word ++ c ∷ [];
          lies = paths_join (OnLine x) g.lies (step (is, refl) here);
          part = read_on c g.word r lies_in g.part;
        }
    holds_reached (returned h e g c takes) =
        let inner = holds_reached h in
        let outer = holds_reached g in
        record {
          word = outer.word ++ inner.word;
          lies = paths_join (OnLine x) outer.lies inner.lies;
          part = call_on outer.word inner.word c outer.part (let few = short_on_line x outer.lies in omega
              (arith, few, within))
              (λ t. let lt = takes t in let long = lies_count x inner.lies in omega (arith, lt, long))
              (ends_derive e (are_letters x has letters inner.lies)
              (let few = short_on_line x inner.lies in omega (arith, few, within)) inner.part);
        }
