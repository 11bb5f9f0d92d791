use Rattle.std.proofs.Common.{◌≡◌, ◌+◌, ◌∙◌, get_or, subst, sym, true}
use Rattle.rulelines.specs.FirstLines.{sort_key}
use Rattle.std.proofs.lemmas.Option.{slice_get-get_or}
use Rattle.rulelines.specs.StateTables.{line_symbols}
use Rattle.rulelines.proofs.LineSamplesLemmas.{AreSymbolsTo, not_inner, symbols_all, symbols_ordered, symbols_passed}
use Rattle.rulelines.proofs.LineSamplesLemmas.{symbols_pushed}
use Rattle.rulelines.proofs.miss.symbols.symbols_of.Goals as goal
use Rattle.rulelines.proofs.miss.symbols.symbols_of.Goals.{else-is_inner, else-is_inner-via-else-is_inner}
use Rattle.rulelines.proofs.miss.symbols.symbols_of.Goals.{else-is_inner-via-then-is_inner+else-key_of-key}
use Rattle.rulelines.proofs.miss.symbols.symbols_of.Goals.{then-is_inner+then-key_of-key+in_ok-push}

pub returns-clause-all : goal.returns-clause-all
returns-clause-all c =
    symbols_all (line_symbols c.args.inner) c.args.keys.now c.loop-key.key-index c.loop-key.symbols.items
    c.loop-key-test.false c.loop-key.invariant

pub returns-clause-order : goal.returns-clause-order
returns-clause-order c =
    symbols_ordered (line_symbols c.args.inner) c.args.keys.now c.loop-key.key-index c.loop-key.symbols.items
    c.loop-key.invariant

pub loop-key-preserved : goal.loop-key-preserved
loop-key-preserved c =
    let has = line_symbols c.args.inner in
    let keys = c.args.keys.now in
    let n = c.loop-key.key-index in
    let key = get_or keys n 0 in
    let symbol = c.symbol_at-symbol.result in
    let at_n = slice_get-get_or keys n 0 c.loop-key-test.true in
    elim c.if-is_inner.branch [
      | then-is_inner+then-key_of-key+in_ok-push w ↦
          subst (λ v. AreSymbolsTo has keys (n + 1) v.items) (sym w.symbols-is)
          (symbols_pushed has keys c.requires.rise n key at_n c.loop-key.symbols.items c.loop-key.invariant symbol
          w.push.new.self.items (sym c.is_inner.ensures ∙ w.if-is_inner.true)
          (sym w.key_of.ensures ∙ w.if-key_of-key.true) w.in_ok-push.ensures.items)
      | else-is_inner w ↦
          let passed = λ (none : has symbol ≡ true → sort_key symbol ≡ key → ⊥).
          symbols_passed has keys c.requires.rise n key at_n c.loop-key.symbols.items c.loop-key.invariant
          (not_inner has key symbol c.symbol_at-symbol.ensures none) in
          subst (λ v. AreSymbolsTo has keys (n + 1) v.items) (sym w.symbols-is)
          (elim w.else-is_inner.branch [
            | else-is_inner-via-then-is_inner+else-key_of-key x ↦
                passed (λ inner same. x.if-key_of-key.false (x.key_of.ensures ∙ same))
            | else-is_inner-via-else-is_inner x ↦
                passed (λ inner same. cc (inner, sym c.is_inner.ensures ∙ x.if-is_inner.false))
          ])
    ]
