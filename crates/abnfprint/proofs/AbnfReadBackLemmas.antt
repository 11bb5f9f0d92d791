-- The canonical text is read as the rules again.
-- Serves: print_abnf, is_abnf_read_back
use Rattle.std.proofs.Common.{◌≡◌, ℕ, ◌≤◌, false, length, map, List, [], ◌∷◌, ◌++◌, refl, sym, ap, ◌∙◌, subst}
use Rattle.ruletable.specs.Rules as table
use Rattle.lexer.specs.declared.limits.TheConstants.{MAX_GRAMMAR, MAX_OPEN}
use Rattle.abnfread.specs.declared.elem.Elem.{Elem}
use Rattle.abnfread.specs.AbnfReading.{Reads}
use Rattle.abnfread.specs.Element.{Rule, Definition}
use Rattle.abnfread.specs.AbnfViews.{rules_of}
use Rattle.abnfread.proofs.AbnfFaultLemmas.{one-reading}
use Rattle.abnfprint.specs.AbnfReadBack.{file_rules, SameButSpans, ReadsAs, IsRead}
use Rattle.abnfprint.specs.CanonicalAbnf.{definition_text, grammar_text}
use Rattle.abnfprint.specs.FormedAbnf.{AreFormedRules, IsSome}
use Rattle.abnfprint.proofs.AbnfCutsLemmas.{said-text}
use Rattle.abnfprint.proofs.AbnfListedLemmas.{Leads, listed_rules}
use Rattle.abnfprint.proofs.FormedAbnfLemmas.{reads-fit, some-definitions}
use Rattle.abnfprint.proofs.PrintedLimitLemmas.{same-shallow, same-small, rules-shallow, rules-small}
use Rattle.abnfprint.proofs.PrintedTableLemmas.{table-fit, table-some, rules-formed, table-again}
use Rattle.abnfprint.proofs.PrintedTextLemmas.{cuts-rules}
use Rattle.abnfprint.proofs.SameWordLemmas.{rules-again}

-- the canonical text sees no span
text-same : (rules again : List Rule) → map (λ rule. rule.name) rules ≡ map (λ rule. rule.name) again
    → map (λ rule. rule.body) rules ≡ map (λ rule. rule.body) again → grammar_text rules ≡ grammar_text again
text-same [] [] n b = refl
text-same [] (next ∷ again) n b = cc
text-same (rule ∷ rules) [] n b = cc
text-same (rule ∷ rules) (next ∷ again) n b =
    let name : rule.name ≡ next.name = cc in
    let names : map (λ r. r.name) rules ≡ map (λ r. r.name) again = cc in
    let body : rule.body ≡ next.body = cc in
    let bodies : map (λ r. r.body) rules ≡ map (λ r. r.body) again = cc in
    rw (name, body) (ap (λ (s : List ℕ). definition_text next.name next.body ++ s) (text-same rules again names bodies))

pub spans-unseen : (rules again : List Rule) → SameButSpans rules again → grammar_text rules ≡ grammar_text again
spans-unseen rules again h = text-same rules again h.names h.bodies

leads-rules : (rules : List Rule) → IsSome rules → Leads false (listed_rules false rules)
leads-rules [] h = absurd h
leads-rules (rule ∷ rules) h = refl

pub reads-formed : (source : List ℕ) (ds : List Definition) → Reads source ds → IsSome (file_rules ds)
    × AreFormedRules (file_rules ds)
reads-formed source ds h = (
  table-some ds (some-definitions h.grammar),
  rules-formed (file_rules ds) (table-fit ds (reads-fit h)),
)

pub read-back : (source : List ℕ) (ds : List Definition) → Reads source ds → length (grammar_text (file_rules ds))
    ≤ MAX_GRAMMAR → ReadsAs (grammar_text (file_rules ds)) (file_rules ds)
read-back source ds h le =
    let rules = file_rules ds in
    let fit = table-fit ds (reads-fit h) in
    let formed = rules-formed rules fit in
    let some = table-some ds (some-definitions h.grammar) in
    let a = said-text (leads-rules rules some) (cuts-rules false rules formed) in
    let g = rules-again false rules some formed a.same in
    let reads : Reads (grammar_text rules) g.again = record {
      size = le;
      tokens = a.tokens;
      are_tokens = a.are_tokens;
      words = a.words;
      say = a.say;
      grammar = g.grammar;
      shallow = same-shallow MAX_OPEN 0 a.same (rules-shallow false rules fit);
      small = same-small a.same (rules-small false rules fit);
    } in
    let t = table-again ds [] g.again g.are_again in
    record {
      again = g.again;
      reads = reads;
      only = λ other k. one-reading (grammar_text rules) other g.again k reads;
      same = t.same;
      no_again = t.no_again;
      no_early = t.no_early 0;
    }

pub prints-itself : (source : List ℕ) (ds again : List Definition) → Reads source ds
    → Reads (grammar_text (file_rules ds)) again → grammar_text (file_rules again) ≡ grammar_text (file_rules ds)
prints-itself source ds again h k =
    let r = read-back source ds h k.size in
    ap (λ (es : List Definition). grammar_text (file_rules es)) (r.only again k)
    ∙ sym (spans-unseen (file_rules ds) (file_rules r.again) r.same)

pub table-back : (source : List ℕ) (rules : table.Rules Elem) (redefined early : List ℕ)
    → IsRead source rules redefined early → length (grammar_text (rules_of rules)) ≤ MAX_GRAMMAR
    → ReadsAs (grammar_text (rules_of rules)) (rules_of rules)
table-back source rules redefined early h =
    subst (λ (rs : List Rule). length (grammar_text rs) ≤ MAX_GRAMMAR → ReadsAs (grammar_text rs) rs) (sym h.kept.kept)
    (read-back source h.definitions h.reads)
