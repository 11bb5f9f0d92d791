use Rattle.std.proofs.Common.{◌≡◌, ◌∙◌, ℕ, suc, Bool, List, length, map, refl, subst, sym}
use Rattle.std.proofs.lemmas.List.{length-map}
use Rattle.std.specs.Prelude.{IfOk, nat_le}
use Rattle.abnfblocks.specs.FoundRules.{found_line}
use Rattle.abnfblocks.specs.RuleCuts.{lines_text, margin_at}
use Rattle.abnfblocks.specs.TextLines.{NumberedLine, numbered}
use Rattle.abnfblocks.specs.declared.found.RuleSearch.{RuleSearch}
use Rattle.abnftexts.specs.ValueRuns.{does_read, first_bytes, found_lines, line_count, seen_at}
use Rattle.abnftexts.specs.WrittenLists.{lines_alike}
use Rattle.rfcvalues.specs.RuleSketches.{IsSketch, RuleSeen, rule_sketched}
use Rattle.rfcvalues.specs.declared.sketch.RuleSketch.{RuleSketch}
use Rattle.abnftexts.proofs.RulesTakenLemmas.{lines-taken}
use Rattle.abnftexts.proofs.values.sketch_of.Goals as goal

abbrev seen_with : List ℕ → List ℕ → Bool → Bool → RuleSeen
seen_with first text reads has = record { first = first; text = text; reads = reads; has_list = has }

seen-is : (kept lines : List NumberedLine) (it : RuleSearch) (own like : List NumberedLine) (first text : List ℕ)
    (margin changed count : ℕ) (reads : Bool) → own ≡ found_lines lines it → like ≡ found_lines kept it
    → first ≡ first_bytes own → text ≡ lines_text margin own → margin ≡ margin_at own → reads ≡ does_read it
    → changed ≡ suc (lines_alike like own) → count ≡ length own
    → seen_with first text reads (nat_le changed count) ≡ seen_at kept lines it
seen-is kept lines it own like first text margin changed count reads o l f t m r c n =
    rw (f, t, m, r, c, n, o, l) refl

pub returns : goal.returns
returns c =
    let it = c.args.it in
    let lines = c.args.rows.now.lines.items in
    let kept = c.args.rows.now.kept.items in
    let own = c.items_before-own.result.now in
    let like = c.items_before-kept.result.now in
    let own_is = lines-taken lines c.items_after.result.now own (found_line it) (line_count it)
    (rw (c.deref.ensures.value, c.lines_of-at.ensures) at c.items_after.ensures)
    (rw c.lines_of-at.ensures at c.items_before-own.ensures) in
    let like_is = lines-taken kept c.items_after-2.result.now like (found_line it) (line_count it)
    (rw (c.deref-2.ensures.value, c.lines_of-at.ensures) at c.items_after-2.ensures)
    (rw c.lines_of-at.ensures at c.items_before-kept.ensures) in
    let reads : c.lines_of-at.result.reads ≡ does_read it = rw c.lines_of-at.ensures refl in
    subst (λ (seen : RuleSeen). IfOk c.rule_sketch.result
    (λ (sketch : RuleSketch). IsSketch seen (rule_sketched sketch)))
    (seen-is (map numbered kept) (map numbered lines) it (map numbered own) (map numbered like)
    c.first_bytes.result.now c.deref-3.result.now c.margin_in.result c.first_changed.result (length own)
    c.lines_of-at.result.reads own_is like_is c.first_bytes.ensures (c.deref-3.ensures.value ∙ c.in_ok-text.ensures)
    c.margin_in.ensures reads c.first_changed.ensures (sym (length-map own numbered))) c.rule_sketch.ensures
