-- A text has one list of definitions or one fault, unless an allocation fails.
-- Serves: is_read_back, one_reading, read_peg
use Rattle.std.proofs.Common.{◌≡◌, ◌≢◌, ℕ, ◌⊎◌, inl, inr, take, Some, List, refl, sym, ◌∙◌, ap, arith, slice_get}
use Rattle.std.proofs.Common.{Result, Ok, Err, IfOk, IfErr, MatchResult}
use Rattle.lexer.proofs.ViabilityLemmas as viability
use Rattle.lexer.specs.declared.limits.TheConstants.{MAX_OPEN}
use Rattle.ruletable.specs.Lines.{line_at}
use Rattle.ruletable.specs.declared.lines.LineRule.TheVariants.{Any}
use Rattle.ruletable.specs.declared.fault.ReadFault.{ReadFault}
use Rattle.ruletable.specs.declared.fault.ReadFault.TheVariants as faults
use Rattle.pegread.specs.Pattern.{Rule}
use Rattle.pegread.specs.Spelling.{Grammar, Viable}
use Rattle.pegread.specs.Words.{Says}
use Rattle.pegread.specs.Reading.{AreWithin, Reads, IsCodePredicate, IsHopeless, IsTooDeep, IsDecidedAt, IsFaultOf}
use Rattle.lexer.specs.TokenLists.{start_of}
use Rattle.pegread.specs.Tokens.{Tok}
use Rattle.pegread.proofs.GrammarMachineLemmas.{one-grammar}
use Rattle.pegread.proofs.SaysLemmas.{one-word}
use Rattle.pegread.proofs.IsShallowLemmas.{shallow-take}
use Rattle.pegread.proofs.SliceLemmas.{tokens-one}

pub one-reading : (text : List ℕ) (a b : List Rule) → Reads text a → Reads text b → a ≡ b
one-reading text a b r q =
    let tokens = tokens-one q.are_tokens r.are_tokens in
    let words = viability.one-words Says one-word (let s = q.say in rw tokens at s) r.say in
    one-grammar r.grammar (rw words at q.grammar)

-- a token decides that the text spells no grammar, or that too many brackets are open
abbrev Decides : List Tok → ℕ → Type 0
Decides ts i = IsHopeless ts i ⊎ IsTooDeep ts i

viable-take : (i : ℕ) (ts : List Tok) → Viable ts → Viable (take i ts)
viable-take = viability.viable-take Says Grammar

within-take : (i : ℕ) (ts : List Tok) → AreWithin ts → AreWithin (take i ts)
within-take i ts h = shallow-take MAX_OPEN 0 i ts h

one-deciding : (ts : List Tok) (i j : ℕ) → Decides ts i → Decides ts j → i ≡ j
one-deciding = viability.one-deciding Viable AreWithin viable-take within-take

-- two tokens of a text that decide are one
record OnePosition (text : List ℕ) (a b : ℕ) (D E : List Tok → ℕ → Type 0) : Type 0 where
  all : List Tok
  number : ℕ
  first : D all number
  second : E all number
  lines : a ≡ b

one-position : (text : List ℕ) (a b : ℕ) (D E : List Tok → ℕ → Type 0)
    → ((ts : List Tok) (i : ℕ) → D ts i → Decides ts i)
    → ((ts : List Tok) (i : ℕ) → E ts i → Decides ts i) →
    IsDecidedAt text a D → IsDecidedAt text b E → OnePosition text a b D E
one-position text a b D E f g h k =
    let all : k.all ≡ h.all = tokens-one k.are_tokens h.are_tokens in
    let there : E h.all k.number = rw all at k.decides in
    let number : k.number ≡ h.number = one-deciding h.all k.number h.number (g h.all k.number there)
    (f h.all h.number h.decides) in
    let same : Some h.token ≡ Some k.token = sym h.there ∙ ap (λ (i : ℕ). slice_get h.all i) (sym number)
    ∙ ap (λ (ts : List Tok). slice_get ts k.number) (sym all) ∙ k.there in
    let token : h.token ≡ k.token = cc in
    record {
      all = h.all;
      number = h.number;
      first = h.decides;
      second = rw number at there;
      lines = h.line_is ∙ ap (λ (t : Tok). line_at Any text (start_of t)) token ∙ sym k.line_is;
    }

abbrev IsSyntax : List Tok → ℕ → Type 0
IsSyntax ts i = IsHopeless ts i × (IsCodePredicate ts i → ⊥)

abbrev IsCode : List Tok → ℕ → Type 0
IsCode ts i = IsHopeless ts i × IsCodePredicate ts i

syntax-decides : (ts : List Tok) (i : ℕ) → IsSyntax ts i → Decides ts i
syntax-decides ts i h = inl h.0

code-decides : (ts : List Tok) (i : ℕ) → IsCode ts i → Decides ts i
code-decides ts i h = inl h.0

deep-decides : (ts : List Tok) (i : ℕ) → IsTooDeep ts i → Decides ts i
deep-decides ts i h = inr h

module _ (text : List ℕ) (a b : ℕ) where
  both-syntax : IsDecidedAt text a IsSyntax → IsDecidedAt text b IsSyntax → a ≡ b
  both-syntax h k = (one-position text a b IsSyntax IsSyntax syntax-decides syntax-decides h k).lines

  both-code : IsDecidedAt text a IsCode → IsDecidedAt text b IsCode → a ≡ b
  both-code h k = (one-position text a b IsCode IsCode code-decides code-decides h k).lines

  both-deep : IsDecidedAt text a IsTooDeep → IsDecidedAt text b IsTooDeep → a ≡ b
  both-deep h k = (one-position text a b IsTooDeep IsTooDeep deep-decides deep-decides h k).lines

  syntax-code : IsDecidedAt text a IsSyntax → IsDecidedAt text b IsCode → ⊥
  syntax-code h k = let p = one-position text a b IsSyntax IsCode syntax-decides code-decides h k in let s = p.first in
      let c = p.second in s.1 c.1

  syntax-deep : IsDecidedAt text a IsSyntax → IsDecidedAt text b IsTooDeep → ⊥
  syntax-deep h k = let p = one-position text a b IsSyntax IsTooDeep syntax-decides deep-decides h k in let s = p.first
      in
      viability.not-both Viable AreWithin viable-take within-take p.all p.number s.0 p.second

  code-deep : IsDecidedAt text a IsCode → IsDecidedAt text b IsTooDeep → ⊥
  code-deep h k = let p = one-position text a b IsCode IsTooDeep code-decides deep-decides h k in let c = p.first in
      viability.not-both Viable AreWithin viable-take within-take p.all p.number c.0 p.second

pub one-fault : (text : List ℕ) (a b : ReadFault) → IsFaultOf text a → IsFaultOf text b → a ≢ faults.Memory
    → b ≢ faults.Memory → a ≡ b
one-fault text faults.Memory b f g m n = absurd (m refl)
one-fault text a faults.Memory f g m n = absurd (n refl)
one-fault text (faults.NumberTooLarge a) b f g m n = absurd f
one-fault text a (faults.NumberTooLarge b) f g m n = absurd g
one-fault text faults.TooLong faults.TooLong f g m n = refl
one-fault text faults.TooLong (faults.Syntax b) f g m n = absurd (let w = g.within in omega arith)
one-fault text faults.TooLong (faults.CodePredicate b) f g m n = absurd (let w = g.within in omega arith)
one-fault text faults.TooLong (faults.Depth b) f g m n = absurd (let w = g.within in omega arith)
one-fault text (faults.Syntax a) faults.TooLong f g m n = absurd (let w = f.within in omega arith)
one-fault text (faults.CodePredicate a) faults.TooLong f g m n = absurd (let w = f.within in omega arith)
one-fault text (faults.Depth a) faults.TooLong f g m n = absurd (let w = f.within in omega arith)
one-fault text (faults.Syntax a) (faults.Syntax b) f g m n = ap (λ (l : ℕ). faults.Syntax l) (both-syntax text a b f g)
one-fault text (faults.Syntax a) (faults.CodePredicate b) f g m n = absurd (syntax-code text a b f g)
one-fault text (faults.Syntax a) (faults.Depth b) f g m n = absurd (syntax-deep text a b f g)
one-fault text (faults.CodePredicate a) (faults.Syntax b) f g m n = absurd (syntax-code text b a g f)
one-fault text (faults.CodePredicate a) (faults.CodePredicate b) f g m n =
    ap (λ (l : ℕ). faults.CodePredicate l) (both-code text a b f g)
one-fault text (faults.CodePredicate a) (faults.Depth b) f g m n = absurd (code-deep text a b f g)
one-fault text (faults.Depth a) (faults.Syntax b) f g m n = absurd (syntax-deep text b a g f)
one-fault text (faults.Depth a) (faults.CodePredicate b) f g m n = absurd (code-deep text b a g f)
one-fault text (faults.Depth a) (faults.Depth b) f g m n = ap (λ (l : ℕ). faults.Depth l) (both-deep text a b f g)

-- no token of what is read decides
read-decides_none : (text : List ℕ) (rules : List Rule) (line : ℕ) (D : List Tok → ℕ → Type 0)
    → ((ts : List Tok) (i : ℕ) → D ts i → Decides ts i) → Reads text rules → IsDecidedAt text line D → ⊥
read-decides_none text rules line D f r h =
    let all : h.all ≡ r.tokens = tokens-one h.are_tokens r.are_tokens in
    let there : D r.tokens h.number = rw all at h.decides in
    viability.none-deciding Viable AreWithin viable-take within-take r.tokens h.number
    (viability.viable-whole Says Grammar rules r.say r.grammar) r.shallow (f r.tokens h.number there)

pub no-fault : (text : List ℕ) (rules : List Rule) (fault : ReadFault) → Reads text rules → IsFaultOf text fault
    → fault ≡ faults.Memory
no-fault text rules (faults.Syntax line) r f = absurd (read-decides_none text rules line IsSyntax syntax-decides r f)
no-fault text rules (faults.CodePredicate line) r f = absurd (read-decides_none text rules line IsCode code-decides r f)
no-fault text rules (faults.Depth line) r f = absurd (read-decides_none text rules line IsTooDeep deep-decides r f)
no-fault text rules faults.TooLong r f = absurd (let w = r.within in omega arith)
no-fault text rules faults.Memory r f = refl
no-fault text rules (faults.NumberTooLarge line) r f = absurd f

-- where a text spells definitions, what was read is of these, or an allocation failed
pub read-only : {T : Type 0} (text : List ℕ) (Is : List Rule → T → Type 0) (definitions : List Rule)
    → Reads text definitions → (r : Result T ReadFault) → IfOk r (λ t. (ds : List Rule) × Reads text ds × Is ds t)
    → IfErr r (IsFaultOf text) → MatchResult r (Is definitions) (λ f. f ≡ faults.Memory)
read-only text Is definitions reads (Ok t) found fault =
    let same = one-reading text definitions found.0 reads found.1 in
    rw same found.2
read-only text Is definitions reads (Err f) found fault = no-fault text definitions f reads fault
