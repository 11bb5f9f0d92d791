-- The canonical text is cut into tokens that say its words.
-- Serves: print_abnf, is_abnf_read_back
use Rattle.std.proofs.Common.{◌≡◌, ℕ, ◌^◌, ◌<◌, ◌≤◌, Bool, true, false, Option, Some, None, MatchOption, List, [], ◌∷◌}
use Rattle.std.proofs.Common.{◌++◌, refl, ap, sym, ◌∙◌, subst, arith, append_assoc, codes}
use Rattle.ruletable.specs.declared.span.Span.{Span}
use Rattle.abnfread.specs.declared.number.TheConstants.{MAX_REPEAT}
use Rattle.abnfread.specs.AbnfWords as words
use Rattle.abnfread.specs.AbnfWords.{Said, Word, word}
use Rattle.abnfread.specs.BaseDigits.{is_digit}
use Rattle.abnfread.specs.Element.{Element, Elements, Text, Values, Range, Concat, Alt, Rep, Opt, Name, Prose, none}
use Rattle.abnfread.specs.Element.{more, Rule}
use Rattle.abnfread.proofs.AbnfFirstLemmas.{letter-digit}
use Rattle.abnfprint.specs.CanonicalAbnf.{wraps, around, repeat_text, text_of, joined, more_joined, grammar_text}
use Rattle.abnfprint.specs.declared.position.Context.TheVariants.{Alternative, Member, Repeated}
use Rattle.abnfprint.specs.FormedAbnf.{IsName, named, IsFormed, AreFormed, AreFormedRules, AreMany}
use Rattle.abnfprint.proofs.AbnfCutsLemmas.{Cuts, nothing, blanked}
use Rattle.abnfprint.proofs.AbnfListedLemmas.{nowhere, within, listed, listed_members, listed_alternatives, listed_more}
use Rattle.abnfprint.proofs.AbnfListedLemmas.{listed_rules}
use Rattle.abnfprint.proofs.PrintedTokenLemmas.{refuted-false, Follows, space, line, paren, brack, Anything, NoCount}
use Rattle.abnfprint.proofs.PrintedTokenLemmas.{IsToken}
use Rattle.abnfprint.proofs.PrintedTokenLemmas.{token-cut, name-token, is-token, slash-token, lparen-token}
use Rattle.abnfprint.proofs.PrintedTokenLemmas.{rparen-token}
use Rattle.abnfprint.proofs.PrintedTokenLemmas.{lbrack-token, rbrack-token, text-token, cased-token, prose-token}
use Rattle.abnfprint.proofs.PrintedTokenLemmas.{values-token, range-token, repeat-token}

-- before whatever follows, the text adds the words
record Adds (s : List ℕ) (f : Bool → List Word → List Word) : Type 0 where
  adds : (g : Bool) (r : List ℕ) (ws : List Word) → Follows r → Cuts None false r ws → Cuts None g (s ++ r) (f g ws)

-- and right after a token
record Goes (s : List ℕ) (f : List Word → List Word) : Type 0 where
  goes : (r : List ℕ) (ws : List Word) → Follows r → Cuts None false r ws → Cuts None false (s ++ r) (f ws)

adds-token : {z : List ℕ} {w : Said} → IsToken Anything z w → Adds z (λ g ws. word g false w ∷ ws)
adds-token t = record { adds = λ g r ws f c. token-cut t r tt c }

adds-followed : {z : List ℕ} {w : Said} → IsToken Follows z w → Adds z (λ g ws. word g false w ∷ ws)
adds-followed t = record { adds = λ g r ws f c. token-cut t r f c }

adds-around : {s : List ℕ} {f : Bool → List Word → List Word} (b : Bool) → Adds s f → Adds (around b s) (within b f)
adds-around {s} {f} true a = record {
  adds = λ g r ws h c. token-cut lparen-token ((s ++ 41 ∷ []) ++ r) tt
      (subst (λ (x : List ℕ). Cuts None false x (f false (word false false words.RParen ∷ ws)))
      (sym (append_assoc s (41 ∷ []) r))
      (a.adds false (41 ∷ r) _ paren (token-cut rparen-token r tt c)));
}
adds-around false a = a

adds-option : {s : List ℕ} {f : Bool → List Word → List Word} → Adds s f
    → Adds (91 ∷ (s ++ 93 ∷ [])) (λ g ws. word g false words.LBrack ∷ f false (word false false words.RBrack ∷ ws))
adds-option {s} {f} a = record {
  adds = λ g r ws h c. token-cut lbrack-token ((s ++ 93 ∷ []) ++ r) tt
      (subst (λ (x : List ℕ). Cuts None false x (f false (word false false words.RBrack ∷ ws)))
      (sym (append_assoc s (93 ∷ []) r))
      (a.adds false (93 ∷ r) _ brack (token-cut rbrack-token r tt c)));
}

-- one text after another
adds-both : {s u : List ℕ} {f : Bool → List Word → List Word} {h : List Word → List Word}
    → ((r : List ℕ) → Follows r → Follows (u ++ r)) → Adds s f → Goes u h → Adds (s ++ u) (λ g ws. f g (h ws))
adds-both {s} {u} {f} {h} n a b = record {
  adds = λ g r ws w c. subst (λ (x : List ℕ). Cuts None g x (f g (h ws))) (sym
      (append_assoc s u r)) (a.adds g (u ++ r) (h ws) (n r w) (b.goes r ws w c));
}

goes-nothing : Goes [] (λ ws. ws)
goes-nothing = record { goes = λ r ws w c. c }

goes-member : {s : List ℕ} {f : Bool → List Word → List Word} → Adds s f → Goes (32 ∷ s) (λ ws. f true ws)
goes-member a = record { goes = λ r ws w c. blanked refl (a.adds true r ws w c) }

goes-alternative : {s : List ℕ} {f : Bool → List Word → List Word} → Adds s f
    → Goes (32 ∷ 47 ∷ 32 ∷ s) (λ ws. word true false words.Slash ∷ f true ws)
goes-alternative {s} a = record {
  goes = λ r ws w c. blanked refl (token-cut slash-token (32 ∷ (s ++ r)) tt
      (blanked refl (a.adds true r ws w c)));
}

follows-members : (xs : Elements) (r : List ℕ) → Follows r → Follows (more_joined Member (codes " ") xs ++ r)
follows-members none r w = w
follows-members (more x xs) r w = space

follows-alternatives : (xs : Elements) (r : List ℕ) → Follows r
    → Follows (more_joined Alternative (codes " / ") xs ++ r)
follows-alternatives none r w = w
follows-alternatives (more x xs) r w = space

-- no count goes on with a name
name-start : {n : List ℕ} (r : List ℕ) → IsName n → NoCount (n ++ r)
name-start r (named {b} h k) = (
  refuted-false (is_digit 10 b) (λ e. letter-digit b h e),
  λ e. (let g = rw e at h in let z : false ≡ true = g in cc),
)

operand-start : (x : Element) (r : List ℕ) → IsFormed x → NoCount (around (wraps Repeated x) (text_of x) ++ r)
operand-start (Text true t) r h = (refl, omega arith)
operand-start (Text false t) r h = (refl, omega arith)
operand-start (Values vs) r h = (refl, omega arith)
operand-start (Range a b) r h = (refl, omega arith)
operand-start (Concat xs) r h = (refl, omega arith)
operand-start (Alt xs) r h = (refl, omega arith)
operand-start (Rep a b x) r h = (refl, omega arith)
operand-start (Opt x) r h = (refl, omega arith)
operand-start (Name n) r h = name-start r h
operand-start (Prose t) r h = (refl, omega arith)

most-fits : (b : Option ℕ) → MatchOption b (Unit {0}) (λ n. n ≤ MAX_REPEAT) → MatchOption b (Unit {0}) (λ n. n < 2 ^ 64)
most-fits None h = tt
most-fits (Some n) h = omega arith

mutual
  text-adds : (x : Element) → IsFormed x → Adds (text_of x) (listed x)
  text-adds (Text true t) h = adds-token (text-token t h)
  text-adds (Text false t) h = adds-token (cased-token t h)
  text-adds (Values []) h = absurd h.0
  text-adds (Values (v ∷ vs)) h = adds-followed (values-token v vs)
  text-adds (Range a b) h = adds-followed (range-token a b)
  text-adds (Concat xs) h = adds-members xs h.0 h.1
  text-adds (Alt xs) h = adds-alternatives xs h.0 h.1
  text-adds (Rep a b x) h = record {
    adds = λ g r ws w c. (
        let rest = around (wraps Repeated x) (text_of x) in
        subst (λ (y : List ℕ). Cuts None g y (word g false (words.Repeat a b)
        ∷ within (wraps Repeated x) (listed x) false ws)) (sym (append_assoc (repeat_text a b) rest r))
        (token-cut (repeat-token a b (let l = h.0.0 in omega arith) (most-fits b h.0.1)) (rest ++ r)
        (operand-start x r h.1)
        ((adds-around (wraps Repeated x) (text-adds x h.1)).adds false r ws w c)));
  }
  text-adds (Opt x) h = adds-option (text-adds x h)
  text-adds (Name n) h = adds-followed (name-token nowhere h)
  text-adds (Prose t) h = adds-token (prose-token t h)

  adds-members : (xs : Elements) → AreMany xs → AreFormed xs → Adds (joined Member (codes " ") xs) (listed_members xs)
  adds-members none m h = absurd m
  adds-members (more x xs) m h = adds-both (follows-members xs) (adds-around (wraps Member x) (text-adds x h.0))
      (goes-members xs h.1)

  goes-members : (xs : Elements) → AreFormed xs → Goes (more_joined Member (codes " ") xs) (listed_members xs true)
  goes-members none h = goes-nothing
  goes-members (more x xs) h =
      goes-member (adds-both (follows-members xs) (adds-around (wraps Member x) (text-adds x h.0))
      (goes-members xs h.1))

  adds-alternatives : (xs : Elements) → AreMany xs → AreFormed xs → Adds (joined Alternative (codes " / ") xs)
      (listed_alternatives xs)
  adds-alternatives none m h = absurd m
  adds-alternatives (more x xs) m h = adds-both (follows-alternatives xs)
      (adds-around (wraps Alternative x) (text-adds x h.0)) (goes-alternatives xs h.1)

  goes-alternatives : (xs : Elements) → AreFormed xs → Goes (more_joined Alternative (codes " / ") xs) (listed_more xs)
  goes-alternatives none h = goes-nothing
  goes-alternatives (more x xs) h = goes-alternative
      (adds-both (follows-alternatives xs) (adds-around (wraps Alternative x) (text-adds x h.0))
      (goes-alternatives xs h.1))

adds-rule : (n : List ℕ) (q : Span) (x : Element) → IsName n → IsFormed x → {g : Bool} (r : List ℕ) (ws : List Word)
    → Cuts (Some 0) true r ws →
    Cuts (Some 0) g ((n ++ (codes " = " ++ (text_of x ++ 10 ∷ []))) ++ r)
    (word g true (words.Name n q) ∷ word true false words.Is ∷ listed x true ws)
adds-rule n q x h k {g} r ws c =
    let body = (text-adds x k).adds true (10 ∷ r) ws line (blanked refl c) in
    let front : Cuts (Some 0) g (n ++ (codes " = " ++ (text_of x ++ 10 ∷ r)))
    (word g true (words.Name n q) ∷ word true false words.Is ∷ listed x true ws) =
    token-cut (name-token q h) (codes " = " ++ (text_of x ++ 10 ∷ r)) space
    (blanked refl (token-cut is-token (32 ∷ (text_of x ++ 10 ∷ r)) (omega arith) (blanked refl body))) in
    subst (λ (y : List ℕ). Cuts (Some 0) g y (word g true (words.Name n q) ∷ word true false words.Is
    ∷ listed x true ws))
    (sym (append_assoc n (codes " = " ++ (text_of x ++ 10 ∷ [])) r ∙ ap (λ (y : List ℕ). n ++ (codes " = " ++ y))
    (append_assoc (text_of x) (10 ∷ []) r))) front

pub cuts-rules : (g : Bool) (rules : List Rule) → AreFormedRules rules
    → Cuts (Some 0) g (grammar_text rules) (listed_rules g rules)
cuts-rules g [] h = nothing
cuts-rules g (rule ∷ rules) h = adds-rule rule.name rule.span rule.body h.0 h.1 (grammar_text rules)
    (listed_rules true rules) (cuts-rules true rules h.2)
