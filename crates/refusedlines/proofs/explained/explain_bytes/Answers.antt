use Rattle.std.proofs.Common.{List, ℕ, arith, length, sym, subst, take}
use Rattle.std.proofs.lemmas.List.{length-take-le, map-id}
use Rattle.abnfcheck.specs.Derivable.{AreLetters}
use Rattle.abnfread.specs.AbnfViews.{rules_of}
use Rattle.flatgrammar.specs.CalledParts.{AreAwaited}
use Rattle.refusedlines.proofs.CanFollowLemmas.{letters_front}
use Rattle.refusedlines.proofs.RefusalLemmas.{reported_bytes}
use Rattle.ruletable.specs.Letters.{has}
use Rattle.ruletable.specs.declared.alphabet.Alphabet.TheVariants.{Bytes}
use Rattle.refusedlines.proofs.explained.explain_bytes.Goals as goal

pub returns-clause-reported : goal.returns-clause-reported
returns-clause-reported c =
    let e = c.args.explainer.now in
    let grammar = e.grammar.now in
    let rules = rules_of grammar.rules in
    let pruned = e.pruned.now in
    let left = rules_of pruned.rules in
    let line = c.args.line.bytes.now in
    let f = c.in_ok-following.following in
    let found = c.in_ok-following.ensures in
    let name = rw (c.rules.ensures.rules, c.judged.ensures.id) at c.rule_name-name.ensures in
    let given = rw c.requires.letters at c.requires.pruned in
    let prefixes = c.items_decide.ensures.prefixes (has Bytes) rules left grammar.judged pruned.flat given.left
    given.lowered in
    let furthest = rw map-id at (found.furthest rules grammar.judged prefixes) in
    let letters = subst (λ (v : List ℕ). AreLetters (has Bytes) v) (map-id line) c.values_are_letters.ensures in
    let awaited = subst (λ (v : List ℕ). AreAwaited pruned.flat (take f.after v) f.after f.awaited.items) (map-id line)
    found.awaited in
    let size = length-take-le f.after line furthest.within in
    let within = c.requires.within in
    let texts = rw c.requires.letters at (c.in_ok-parts.ensures (take f.after line) f.after
    (omega (arith, size, within, furthest.within))
    (rw (sym c.requires.letters) at (letters_front (has Bytes) f.after line letters))
    (rw (sym c.deref.ensures.value) at awaited)) in
    reported_bytes c.args.line.unit rules grammar.judged line c.args.line.number
    f.runs.items f.ends c.rule_name-name.result.now
    c.refused_at-at.result f.after c.column_after-column.result c.args.out.now.items
    c.push_refusal.new.out.items name left _
    c.in_ok-push_refusal.ensures furthest
    (rw map-id at (found.following rules grammar.judged prefixes)) given.left texts
    c.refused_at-at.ensures (rw map-id at c.column_after-column.ensures)
