use Rattle.std.proofs.Common.{◌≡◌, inl, inr, ℕ, zero, suc, ◌+◌, ◌<◌, ◌≤◌, List, [], ◌∷◌, ◌++◌, length, refl, sym}
use Rattle.std.proofs.Common.{◌∙◌, subst, ap, arith, slice_get, slice_set, Some, reverse}
use Rattle.std.proofs.Common.{get_or, length-append}
use Rattle.std.proofs.lemmas.Option.{slice_get_within, slice_get-get_or}
use Rattle.memo.specs.Parts.{IsIn}
use Rattle.memo.specs.KeyLog.{row_of, position_of, AreBelow}
use Rattle.memo.specs.LogEntries.{evals_of, stored_of, IsExtent, AreCovered, IsLog}
use Rattle.memo.specs.TaskLinks.{Position}
use Rattle.memo.specs.declared.entry.Entry.{Entry}
use Rattle.memo.specs.declared.entry.Extent.{Extent}
use Rattle.memo.specs.declared.key_log.Mark.{Mark}
use Rattle.memo.specs.declared.key_log.Stored.{Stored}
use Rattle.memo.proofs.PartsLemmas.{in_either}
use Rattle.memo.proofs.LogEntriesLemmas.{stored_push}
use Rattle.memo.proofs.TaskLinksLemmas.{push_cases}
use Rattle.memo.proofs.key_log.KeyLog.store.Goals as goal

-- a mark may be raised
record Raised (unit : ℕ) (high : List Mark) (j : ℕ) (m : Mark) : Type 0 where
  pub mark : Mark
  pub at : slice_get high j ≡ Some mark
  pub same : mark.unit ≡ unit
  pub more : m.highest ≤ mark.highest

module _ (unit : ℕ) where
  mark_raised : (high : List Mark) (r : ℕ) (v : Mark) (j : ℕ) (m : Mark) → slice_get high j ≡ Some m → m.unit ≡ unit
      → v.unit ≡ unit → (j ≡ r → m.highest ≤ v.highest) → Raised unit (slice_set high r v) j m
  mark_raised [] r v j m h u w le = absurd (cc h)
  mark_raised (k ∷ high) zero v zero m h u w le = record { mark = v; at = refl; same = w; more = le refl }
  mark_raised (k ∷ high) zero v (suc j) m h u w le = record { mark = m; at = h; same = u; more = omega arith }
  mark_raised (k ∷ high) (suc r) v zero m h u w le = record { mark = m; at = h; same = u; more = omega arith }
  mark_raised (k ∷ high) (suc r) v (suc j) m h u w le =
      let up = mark_raised high r v j m h u w (λ is. le (omega arith)) in
      record { mark = up.mark; at = up.at; same = up.same; more = up.more }

  own_mark : (high : List Mark) (r : ℕ) (v : Mark) → r < length high → slice_get (slice_set high r v) r ≡ Some v
  own_mark [] r v lt = absurd (omega arith)
  own_mark (k ∷ high) zero v lt = refl
  own_mark (k ∷ high) (suc r) v lt = own_mark high r v (omega arith)

  -- keys more of a row, whose mark is raised
  below_more : (high : List Mark) (more stored : List Stored) (r highest : ℕ) (now v : Mark) → AreBelow unit high stored
      → ((s : Stored) → IsIn s more → row_of s.task ≡ r) → ((s : Stored) → IsIn s more → position_of s.task ≤ highest)
      → slice_get high r ≡ Some now → v.unit ≡ unit → highest ≤ v.highest
      → (now.unit ≡ unit → now.highest ≤ v.highest) → AreBelow unit (slice_set high r v) (more ++ stored)
  below_more high more stored r highest now v below row position at w up kept s i =
      elim (in_either more stored i) [
        | inl l ↦
            let position_is = position s l in (
              v,
              subst (λ n. slice_get (slice_set high r v) n ≡ Some v) (sym (row s l))
                  (own_mark high r v (slice_get_within high r now at)),
              w,
              omega arith,
            )
        | inr k ↦
            let b = below s k in
            let raised = mark_raised high r v (row_of s.task) b.0 b.1 b.2 w (λ same.
            let there : slice_get high r ≡ Some b.0 = subst (λ n. slice_get high n ≡ Some b.0) same b.1 in
            let one : b.0 ≡ now = cc (at, there) in
            subst (λ m. m.highest ≤ v.highest) (sym one) (kept (subst (λ m. m.unit ≡ unit) one b.2))) in
            let below_it = b.3 in
            let more_it = raised.more in
            (raised.mark, raised.at, raised.same, omega arith)
      ]

covered_push : (covered : ℕ) (items : List Entry) (positions : List Position) (e : Entry)
    → AreCovered covered items positions
    → covered ≤ length items → AreCovered covered (items ++ e ∷ []) positions
covered_push covered items positions e h within i d s less at has = elim (push_cases items e i d at) [
  | inl old ↦ h i d s less old has
  | inr new ↦ let is = new.0 in absurd (omega arith)
]

-- an entry more
log_push : (unit count covered : ℕ) (high : List Mark) (items all : List Entry) (positions : List Position) (e : Entry)
    (x : Extent) (now v : Mark) (total : ℕ) → IsLog unit count covered high items positions → IsExtent e x
    → all ≡ items ++ e ∷ [] → total ≡ count + x.count → now ≡ get_or high x.row now → x.row < length high
    → v.unit ≡ unit → x.highest ≤ v.highest → (now.unit ≡ unit → now.highest ≤ v.highest)
    → IsLog unit total covered (slice_set high x.row v) all positions
log_push unit count covered high items all positions e x now v total log extent is sum read lt w up kept =
    let view : stored_of (reverse all) ≡ evals_of e ++ stored_of (reverse items) =
    ap (λ l. stored_of (reverse l)) is ∙ stored_push items e in
    let at : slice_get high x.row ≡ Some now =
    subst (λ m. slice_get high x.row ≡ Some m) (sym read) (slice_get-get_or high x.row now lt) in
    record {
      below = rw view (below_more unit high (evals_of e) (stored_of (reverse items)) x.row x.highest now v log.below
          extent.row extent.position at w up kept);
      narrow = λ s i. elim (in_either (evals_of e) (stored_of (reverse items)) (rw view at i)) [
        | inl l ↦ extent.narrow s l
        | inr r ↦ log.narrow s r
      ];
      indexed = rw is (covered_push covered items positions e log.indexed log.within);
      within = let low = log.within in omega (arith, ap length is, length-append items (e ∷ []));
      counted =
          let had = log.counted in
          let has = extent.count in
          omega (arith, ap length view, length-append (evals_of e) (stored_of (reverse items)));
    }

pub invariant_of-self-2 : goal.invariant_of-self-2
invariant_of-self-2 c =
    let room = ap (λ items. items ++ c.args.entry ∷ []) c.make_room.ensures.items in
    let within : c.extent-extent.result.row < length c.self.inside.high.items =
    let row = c.requires.row in
    let node = c.extent-extent.ensures.extent.node in
    let view = ap (λ v. v.rows) c.self.view_is in
    omega arith in
    let sum = rw c.in_ok-count.ensures.ok_part at c.checked_add.ensures in
    log_push c.self.inside.unit c.self.inside.count c.self.inside.covered c.self.inside.high.items
    c.self.inside.entries.items c.push_reserved.new.self.items c.self.inside.index c.args.entry c.extent-extent.result
    c.index.result.now c.raised.result c.in_ok-count.count c.self.invariant c.extent-extent.ensures.extent
    (c.push_reserved.ensures.items ∙ room) sum.1 c.index.ensures within c.raised.ensures.unit c.raised.ensures.highest
    c.raised.ensures.kept
