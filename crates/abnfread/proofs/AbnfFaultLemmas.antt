-- A text has one list of definitions or one fault, unless memory runs out.
-- Serves: read_abnf, one_reading
use Rattle.std.proofs.Common.{◌≡◌, ◌≢◌, ℕ, ◌≤◌, inl, inr, ◌⊎◌, Some, List, length, refl, sym, ◌∙◌, ap, arith, slice_get}
use Rattle.std.proofs.Common.{true, false}
use Rattle.ruletable.specs.Lines.{line_at}
use Rattle.ruletable.specs.declared.lines.LineRule.TheVariants.{Lf}
use Rattle.ruletable.specs.declared.fault.ReadFault.{ReadFault}
use Rattle.ruletable.specs.declared.fault.ReadFault.TheVariants as faults
use Rattle.lexer.specs.GrammarLimits.{max_grammar}
use Rattle.lexer.specs.TokenLists.{Tok, start_of}
use Rattle.lexer.proofs.TokenListLemmas.{tokens-one}
use Rattle.lexer.proofs.ViabilityLemmas as lemmas
use Rattle.abnfread.specs.declared.kind.AbnfKind.{AbnfKind}
use Rattle.abnfread.specs.AbnfKinds.{ends_list}
use Rattle.abnfread.specs.AbnfReading.{Reads, IsDecidedAt, IsSyntax, IsTooDeep, IsTooLarge, IsFaultOf, is_bracket}
use Rattle.abnfread.specs.AbnfSays.{Says, Viable, AreWithin, IsHopeless, IsOver}
use Rattle.abnfread.specs.AbnfSlices.{White, First}
use Rattle.abnfread.specs.AbnfSpelling.{Grammar}
use Rattle.abnfread.specs.Element.{Definition}
use Rattle.abnfread.specs.MarkedTokens.{Marked, tok_of, marks, margin, AreMarked}
use Rattle.abnfread.proofs.AbnfMachineLemmas.{one-grammar}
use Rattle.abnfread.proofs.AbnfSliceLemmas.{one-next}
use Rattle.abnfread.proofs.HasTakenLemmas.{within-take}
use Rattle.abnfread.proofs.SaysKindLemmas.{one-word}

-- a text has one list of marked tokens
pub marked-one : (text : List ℕ) (ms ns : List Marked) → AreMarked text ms → AreMarked text ns → ms ≡ ns
marked-one text ms ns a b =
    let same = tokens-one White First ends_list one-next a.are_tokens b.are_tokens in
    a.same ∙ ap (λ (ts : List (Tok AbnfKind)). marks text (margin text ts) 0 ts) same ∙ sym b.same

pub one-reading : (text : List ℕ) (a b : List Definition) → Reads text a → Reads text b → a ≡ b
one-reading text a b r q =
    let tokens = marked-one text q.tokens r.tokens q.are_tokens r.are_tokens in
    let words = lemmas.one-words Says one-word (let s = q.say in rw tokens at s) r.say in
    one-grammar r.grammar (let g = q.grammar in rw words at g)

-- what decides is hopeless or over a limit
abbrev Decides : (List Marked → ℕ → Marked → Type 0) → Type 0
Decides D = (ms : List Marked) (i : ℕ) (m : Marked) → D ms i m → IsHopeless ms i ⊎ IsOver ms i

-- two tokens of a text that decide are one
record OnePosition (text : List ℕ) (a b : ℕ) (D E : List Marked → ℕ → Marked → Type 0) : Type 0 where
  all : List Marked
  number : ℕ
  token : Marked
  first : D all number token
  second : E all number token
  lines : a ≡ b

one-position : (text : List ℕ) (a b : ℕ) (D E : List Marked → ℕ → Marked → Type 0) → Decides D → Decides E
    → IsDecidedAt text a D → IsDecidedAt text b E → OnePosition text a b D E
one-position text a b D E f g h k =
    let all : k.all ≡ h.all = marked-one text k.all h.all k.are_tokens h.are_tokens in
    let there : E h.all k.number k.token = (let d = k.decides in rw all at d) in
    let number : k.number ≡ h.number = lemmas.one-deciding Viable AreWithin (lemmas.viable-take Says Grammar)
    within-take h.all k.number h.number (g h.all k.number k.token there) (f h.all h.number h.token h.decides) in
    let same : Some h.token ≡ Some k.token = sym h.there ∙ ap (λ (i : ℕ). slice_get h.all i) (sym number)
    ∙ ap (λ (ms : List Marked). slice_get ms k.number) (sym all) ∙ k.there in
    let token : h.token ≡ k.token = cc in
    record {
      all = h.all;
      number = h.number;
      token = h.token;
      first = h.decides;
      second = rw (number, ← token) at there;
      lines = h.line_is ∙ ap (λ (m : Marked). line_at Lf text (start_of (tok_of m))) token ∙ sym k.line_is;
    }

syntax-decides : Decides IsSyntax
syntax-decides ms i m h = inl h

deep-decides : Decides IsTooDeep
deep-decides ms i m h = inr h.0

large-decides : Decides IsTooLarge
large-decides ms i m h = inr h.0

module _ (text : List ℕ) (a b : ℕ) where
  both-syntax : IsDecidedAt text a IsSyntax → IsDecidedAt text b IsSyntax → a ≡ b
  both-syntax h k = (one-position text a b IsSyntax IsSyntax syntax-decides syntax-decides h k).lines

  both-deep : IsDecidedAt text a IsTooDeep → IsDecidedAt text b IsTooDeep → a ≡ b
  both-deep h k = (one-position text a b IsTooDeep IsTooDeep deep-decides deep-decides h k).lines

  both-large : IsDecidedAt text a IsTooLarge → IsDecidedAt text b IsTooLarge → a ≡ b
  both-large h k = (one-position text a b IsTooLarge IsTooLarge large-decides large-decides h k).lines

  not-over : (ms : List Marked) (i : ℕ) → IsHopeless ms i → IsOver ms i → ⊥
  not-over ms i h k = lemmas.not-both Viable AreWithin (lemmas.viable-take Says Grammar) within-take ms i h k

  syntax-deep : IsDecidedAt text a IsSyntax → IsDecidedAt text b IsTooDeep → ⊥
  syntax-deep h k = let p = one-position text a b IsSyntax IsTooDeep syntax-decides deep-decides h k in let d = p.second
      in
      not-over p.all p.number p.first d.0

  syntax-large : IsDecidedAt text a IsSyntax → IsDecidedAt text b IsTooLarge → ⊥
  syntax-large h k = let p = one-position text a b IsSyntax IsTooLarge syntax-decides large-decides h k in let d =
      p.second in not-over p.all p.number p.first d.0

  deep-large : IsDecidedAt text a IsTooDeep → IsDecidedAt text b IsTooLarge → ⊥
  deep-large h k =
      let p = one-position text a b IsTooDeep IsTooLarge deep-decides large-decides h k in
      let d : is_bracket p.token ≡ true = (let x = p.first in x.1) in
      let e : is_bracket p.token ≡ false = (let x = p.second in x.1) in
      cc

pub one-fault : (text : List ℕ) (a b : ReadFault) → IsFaultOf text a → IsFaultOf text b → a ≢ faults.Memory
    → b ≢ faults.Memory → a ≡ b
one-fault text faults.Memory b f g m n = absurd (m refl)
one-fault text a faults.Memory f g m n = absurd (n refl)
one-fault text (faults.CodePredicate a) b f g m n = absurd f
one-fault text a (faults.CodePredicate b) f g m n = absurd g
one-fault text faults.TooLong faults.TooLong f g m n = refl
one-fault text faults.TooLong (faults.Syntax b) f g m n = absurd (let w = g.size in omega arith)
one-fault text faults.TooLong (faults.Depth b) f g m n = absurd (let w = g.size in omega arith)
one-fault text faults.TooLong (faults.NumberTooLarge b) f g m n = absurd (let w = g.size in omega arith)
one-fault text (faults.Syntax a) faults.TooLong f g m n = absurd (let w = f.size in omega arith)
one-fault text (faults.Depth a) faults.TooLong f g m n = absurd (let w = f.size in omega arith)
one-fault text (faults.NumberTooLarge a) faults.TooLong f g m n = absurd (let w = f.size in omega arith)
one-fault text (faults.Syntax a) (faults.Syntax b) f g m n = ap (λ (l : ℕ). faults.Syntax l) (both-syntax text a b f g)
one-fault text (faults.Syntax a) (faults.Depth b) f g m n = absurd (syntax-deep text a b f g)
one-fault text (faults.Syntax a) (faults.NumberTooLarge b) f g m n = absurd (syntax-large text a b f g)
one-fault text (faults.Depth a) (faults.Syntax b) f g m n = absurd (syntax-deep text b a g f)
one-fault text (faults.Depth a) (faults.Depth b) f g m n = ap (λ (l : ℕ). faults.Depth l) (both-deep text a b f g)
one-fault text (faults.Depth a) (faults.NumberTooLarge b) f g m n = absurd (deep-large text a b f g)
one-fault text (faults.NumberTooLarge a) (faults.Syntax b) f g m n = absurd (syntax-large text b a g f)
one-fault text (faults.NumberTooLarge a) (faults.Depth b) f g m n = absurd (deep-large text b a g f)
one-fault text (faults.NumberTooLarge a) (faults.NumberTooLarge b) f g m n =
    ap (λ (l : ℕ). faults.NumberTooLarge l) (both-large text a b f g)

-- the fault of a text that is too long
pub long-fault : (text : List ℕ) → (length text ≤ max_grammar → ⊥) → (fault : ReadFault) → IsFaultOf text fault
    → fault ≡ faults.TooLong
long-fault text long (faults.Syntax line) h = absurd (long h.size)
long-fault text long (faults.Depth line) h = absurd (long h.size)
long-fault text long (faults.NumberTooLarge line) h = absurd (long h.size)
long-fault text long faults.TooLong h = refl
long-fault text long faults.Memory h = absurd (long h)
long-fault text long (faults.CodePredicate line) h = absurd h

-- no token of what is read decides
none-decides : (text : List ℕ) (ds : List Definition) (line : ℕ) (D : List Marked → ℕ → Marked → Type 0)
    → Decides D → Reads text ds → IsDecidedAt text line D → ⊥
none-decides text ds line D f r h =
    let all : h.all ≡ r.tokens = marked-one text h.all r.tokens h.are_tokens r.are_tokens in
    let there : D r.tokens h.number h.token = (let d = h.decides in rw all at d) in
    lemmas.none-deciding Viable AreWithin (lemmas.viable-take Says Grammar) within-take r.tokens h.number
    (lemmas.viable-whole Says Grammar ds r.say r.grammar)
    (record { words = r.words; say = r.say; shallow = r.shallow; small = r.small }) (f r.tokens h.number h.token there)

pub no-fault : (text : List ℕ) (ds : List Definition) (fault : ReadFault) → Reads text ds → IsFaultOf text fault
    → fault ≡ faults.Memory
no-fault text ds (faults.Syntax line) r f = absurd (none-decides text ds line IsSyntax syntax-decides r f)
no-fault text ds (faults.Depth line) r f = absurd (none-decides text ds line IsTooDeep deep-decides r f)
no-fault text ds (faults.NumberTooLarge line) r f = absurd (none-decides text ds line IsTooLarge large-decides r f)
no-fault text ds faults.TooLong r f = absurd (let w = r.size in omega arith)
no-fault text ds faults.Memory r f = refl
no-fault text ds (faults.CodePredicate line) r f = absurd f
