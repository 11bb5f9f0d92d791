use Rattle.std.proofs.Common.{◌≡◌, ◌≢◌, ◌∙◌, ℕ, true, false, List, [], ◌∷◌, Some, map, ap, sym, subst}
use Rattle.std.specs.Prelude.{bytes_eq, slice_get}
use Rattle.std.proofs.lemmas.Slice.Eq.{bytes_eq-Decides}
use Rattle.abnfblocks.specs.FoundRules.{AreFound}
use Rattle.abnfblocks.specs.RuleCuts.{lines_text}
use Rattle.abnfblocks.specs.TextLines.{numbered}
use Rattle.abnfblocks.specs.declared.found.RuleSearch.{RuleSearch}
use Rattle.abnfblocks.specs.declared.found.RuleSearch.TheVariants as found
use Rattle.rfcforms.specs.declared.lists.written.ListForm.TheVariants.{Receive}
use Rattle.abnftexts.proofs.lists.first_list.Goals as goal

rule-first : (all : List RuleSearch) (it : RuleSearch) (first count : ℕ) → Some it ≡ slice_get all 0
    → it ≡ found.Rule first count → (others : List RuleSearch) × (all ≡ found.Rule first count ∷ others)
rule-first [] it first count e is = absurd (cc e)
rule-first (x ∷ others) it first count e is =
    let same : x ≡ it = cc in
    (others, ap (λ (y : RuleSearch). y ∷ others) (same ∙ is))

other-bytes : (a b c : List ℕ) → bytes_eq a b ≡ false → b ≡ c → a ≢ c
other-bytes a b c other is e =
    let same : bytes_eq a b ≡ true = (bytes_eq-Decides a b).1 (e ∙ sym is) in
    absurd (cc (sym same ∙ other))

pub returns-in-Some-Rule : goal.returns-in-Some-Rule
returns-in-Some-Rule c =
    let lines = map numbered c.args.lines.now in
    let written = map numbered c.in_ok-written.written.items in
    let expands = rw c.deref.ensures.value at c.in_ok-new.ensures in
    let writes = rw c.deref-2.ensures.value at c.in_ok-written.ensures in
    let finds = rw c.deref-3.ensures.value at c.in_ok-found.ensures in
    let value = rw c.deref-4.ensures.value at c.in-Some-Rule.ensures.value in
    let changed = rw c.deref-in-Some-Rule.ensures.value at c.first_changed.ensures in
    let all = rule-first c.in_ok-found.found.items c.in-Some-Rule.field-0.now c.in-Some-Rule.field-0-0
    c.in-Some-Rule.field-0-1 value c.in-Some-Rule.field-0-is in (
      c.if-not-asks.false,
      (
        written,
        record {
          text = c.in_ok-new.new.items;
          writes = writes c.in_ok-text.text.items Receive expands c.in_ok-text.ensures;
          some = other-bytes c.in_ok-new.new.items c.in_ok-text.text.items (lines_text 0 lines)
              (sym c.eq.ensures ∙ c.if-eq.false) c.in_ok-text.ensures;
          first = c.in-Some-Rule.field-0-0;
          count = c.in-Some-Rule.field-0-1;
          others = all.0;
          found = subst (λ (xs : List RuleSearch). AreFound 0 written xs) all.1 finds;
        },
        changed,
      ),
    )
