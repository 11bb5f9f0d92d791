use Rattle.std.proofs.Common.{◌≡◌, ◌∙◌, ◌+◌, ◌&&◌, ap, drop, map, sym, ℕ, List}
use Rattle.lexer.specs.TokenLists.{Tok, tok_of}
use Rattle.abnfread.specs.declared.kind.AbnfKind.{AbnfKind}
use Rattle.rfcvalues.specs.HexWords.{has_hex_word}
use Rattle.rfcvalues.specs.RuleSketches.{is_odd, is_tight, names_among, words_after}
use Rattle.rfcvalues.proofs.RuleSketchLemmas.{after-words, sketch-same}
use Rattle.rfcvalues.proofs.sketch.rule_sketch.Goals as goal

pub returns : goal.returns
returns c =
    let tokens = c.in_ok-all.all.tokens.items in
    let words : map tok_of c.items_after-words.result.now ≡ words_after (map tok_of tokens) =
    after-words tokens c.items_after-words.result.now
    (c.items_after-words.ensures ∙ ap (drop 2) c.deref.ensures.value) in
    let line = c.args.rule.first.now in
    let text = c.args.rule.text.now in
    record {
      end = c.in_ok-all.all.end;
      tokens = map tok_of tokens;
      are_tokens = c.in_ok-all.ensures;
      is = sketch-same _ _ _ _ _ _ _ _ _ _ _ _ _ (c.in_ok-name.ensures.items ∙ c.first_name.ensures)
          (c.in_ok-uses.ensures ∙ ap names_among words)
          c.has_mark.ensures
          c.ends_statement.ensures
          (c.is_compact.ensures
          ∙ ap (λ (ts : List (Tok AbnfKind)). is_tight line && is_odd c.in_ok-all.all.end ts) words)
          (c.has_hex_word.ensures
          ∙ ap has_hex_word (c.items_after.ensures
          ∙ ap (λ (n : ℕ). drop (n + 1) text) c.sign_position-sign.ensures.position));
    }
