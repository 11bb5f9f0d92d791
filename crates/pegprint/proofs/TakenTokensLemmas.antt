-- What the search for the deciding token has come to.
-- Serves: explain_fault
use Rattle.std.proofs.Common.{◌≡◌, ℕ, ◌<◌, ◌≤◌, ◌⊎◌, inl, inr, Some, None, List, [], ◌∷◌, ◌++◌, length, take}
use Rattle.std.proofs.Common.{slice_get, refl, sym, ap, ◌∙◌, append_assoc, append-nil, length-append, arith}
use Rattle.std.proofs.Math.Seq.{get_or-append_seam, take-append_seam}
use Rattle.std.proofs.lemmas.Option.{slice_get-get_or}
use Rattle.lexer.specs.TokenLists as lexed
use Rattle.lexer.specs.TokenLists.{kind_of, start_of}
use Rattle.lexer.specs.Viability.{say_none}
use Rattle.lexer.specs.declared.limits.TheConstants.{MAX_OPEN}
use Rattle.lexer.specs.declared.token_iter.TokenIter.{TokenIter}
use Rattle.lexer.proofs.ViabilityLemmas as viability
use Rattle.lexer.proofs.ViabilityLemmas.{run-snoc, say-snoc}
use Rattle.pegread.specs.declared.kind.Kind.{Kind}
use Rattle.pegread.specs.declared.kind.Kind.TheVariants as kinds
use Rattle.pegread.specs.Kinds.{is_end}
use Rattle.pegread.specs.Machine.{Config, start, step, run, levels_in}
use Rattle.pegread.specs.Reading.{AreWithin, IsHopeless, IsTooDeep}
use Rattle.pegread.specs.Slices.{White, First}
use Rattle.pegread.specs.Spelling.{Grammar, Viable}
use Rattle.pegread.specs.Tokens.{Tok, Next, AreTokens}
use Rattle.pegread.specs.Words.{Word, Says, SayAll}
use Rattle.pegread.proofs.GrammarViabilityLemmas.{hopeless-next, too_deep-next}
use Rattle.pegread.proofs.IsShallowLemmas.{shallow-none, shallow-next, shallow-take}
use Rattle.pegread.proofs.SaysLemmas.{token-says}
use Rattle.pegread.proofs.SliceLemmas.{tokens-one}
use Rattle.pegprint.specs.declared.faults.stand.Position.{Position}
use Rattle.pegprint.specs.declared.faults.stand.Stand.TheVariants.{Start}
use Rattle.pegprint.specs.PegAllFaults.{DecidesAfter, last_start}
use Rattle.pegprint.specs.PegDecisions.{IsTokenOf, ReportsKinds, NoneDecides}
use Rattle.pegprint.specs.PegStands.{position_of, position_at, goes}
use Rattle.pegprint.proofs.CanStandLemmas.{after-some, goes-bad, viable-taken, step-there, stops-there, can-stand}
use Rattle.pegprint.proofs.CanStandLemmas.{cannot-stand}
use Rattle.pegprint.proofs.StandLemmas.{says-kind}

-- the tokens so far and those that are left are the text's, and the machine took what those so far say
pub record HasTaken (text : List ℕ) (left : List Tok → Type 0) (position : Position) (ts : List Tok) : Type 0 where
  pub rest : List Tok
  pub are_left : left rest
  pub all : AreTokens (length text) text (ts ++ rest)
  pub words : List Word
  pub say : SayAll ts words
  pub config : Config
  pub reached : run start words ≡ Some config
  pub shallow : AreWithin ts
  pub stands : position_of config ≡ position
  pub few : position.depth ≤ MAX_OPEN

-- what is left of the text's tokens
abbrev pub AreLeft : TokenIter Kind → List Tok → Type 0
AreLeft = lexed.AreLeft White First is_end

-- before the first token
pub none-taken : (text : List ℕ) (left : List Tok → Type 0) (all : List Tok) → left all
    → AreTokens (length text) text all → (position : Position) → position ≡ position_at Start 0
    → HasTaken text left position []
none-taken text left all are h position e = record {
  rest = all;
  are_left = are;
  all = h;
  words = [];
  say = say_none;
  config = start;
  reached = refl;
  shallow = shallow-none MAX_OPEN;
  stands = sym e;
  few = (let d : position.depth ≡ 0 = ap (λ (p : Position). p.depth) e in omega arith);
}

get-seam : (ts : List Tok) (t : Tok) (us : List Tok) → slice_get (ts ++ t ∷ us) (length ts) ≡ Some t
get-seam ts t us = slice_get-get_or (ts ++ t ∷ us) (length ts) t (omega (arith, length-append ts (t ∷ us)))
    ∙ ap Some (get_or-append_seam ts t us t)

module _ {text : List ℕ} {left : List Tok → Type 0} {position : Position} {ts : List Tok}
    (h : HasTaken text left position ts)
    (t : Tok) (others : List Tok) (given : h.rest ≡ t ∷ others) where
  tokens-whole : AreTokens (length text) text (ts ++ t ∷ others)
  tokens-whole = (let a = h.all in rw given at a)

  there-is : (D : List Tok → ℕ → Type 0) → D (ts ++ t ∷ others) (length ts) → IsTokenOf text t D
  there-is D d = record {
    all = ts ++ t ∷ others;
    are_tokens = tokens-whole;
    number = length ts;
    there = get-seam ts t others;
    holds = d;
  }

  -- no token of its kind can stand there
  pub hopeless-there : goes position.stand position.depth (kind_of t) ≡ None
      → IsTokenOf text t (λ us i. IsHopeless us i × ReportsKinds position us i) × (position.depth ≤ MAX_OPEN)
  hopeless-there none = (
    there-is (λ us i. IsHopeless us i × ReportsKinds position us i) (
      hopeless-next h.config h.say h.reached h.shallow t others
          (stops-there h.config h.say h.reached h.shallow position h.stands t none),
      record {
        stand = λ k e. can-stand h.config h.say h.reached h.shallow position h.stands k e (t ∷ others);
        other = λ k e. cannot-stand h.config h.say h.reached h.shallow position h.stands k e (t ∷ others);
      },
    ),
    h.few,
  )

  -- what decides comes after the tokens so far
  after-there : (before : ℕ) → before ≡ last_start ts → IsHopeless (ts ++ t ∷ others) (length ts)
      ⊎ IsTooDeep (ts ++ t ∷ others) (length ts) → DecidesAfter text t before
  unfolding there-is
  after-there before e d = record {
    decides = there-is (λ us i. IsHopeless us i ⊎ IsTooDeep us i) d;
    is = e ∙ ap last_start (sym (take-append_seam ts (t ∷ others)));
  }

  pub hopeless-after : (before : ℕ) → before ≡ last_start ts
      → goes position.stand position.depth (kind_of t) ≡ None → DecidesAfter text t before
  hopeless-after before e none = after-there before e (inl (hopeless-next h.config h.say h.reached h.shallow t others
      (stops-there h.config h.say h.reached h.shallow position h.stands t none)))

  module _ {total : ℕ} {s r : List ℕ} (cut : Next total s t r) (next : Position)
      (some : goes position.stand position.depth (kind_of t) ≡ Some next) where
    no-bad : kind_of t ≡ kinds.Bad → ⊥
    no-bad e =
        let bad : goes position.stand position.depth kinds.Bad ≡ Some next = rw e at some in
        let no : None ≡ Some next = sym (goes-bad position) ∙ bad in
        cc

    -- the token's word, and the step by it
    record Onward : Type 0 where
      word : Word
      says : Says t word
      config : Config
      steps : step h.config word ≡ Some config
      stands : position_of config ≡ next

    goes-on : Onward
    goes-on =
        let w = token-says total s r t cut no-bad in
        let d = after-some (step h.config w.0) next
        (step-there h.config h.say h.reached h.shallow position h.stands w.0 (kind_of t) (says-kind w.1) ∙ some) in
        record { word = w.0; says = w.1; config = d.0; steps = d.1; stands = d.2 }

    -- too many brackets are open after it
    pub deep-there : MAX_OPEN < next.depth → IsTokenOf text t IsTooDeep
    deep-there lt =
        let o = goes-on in
        let depth : levels_in o.config ≡ next.depth = ap (λ (p : Position). p.depth) o.stands in
        there-is IsTooDeep (too_deep-next h.config h.say h.reached h.shallow t others o.config o.word o.says o.steps
        (omega arith))

    pub deep-after : (before : ℕ) → before ≡ last_start ts → MAX_OPEN < next.depth → DecidesAfter text t before
    deep-after before e lt =
        let o = goes-on in
        let depth : levels_in o.config ≡ next.depth = ap (λ (p : Position). p.depth) o.stands in
        after-there before e (inr (too_deep-next h.config h.say h.reached h.shallow t others o.config o.word o.says
        o.steps (omega arith)))

    -- one token more
    pub one-taken : (onward : List Tok → Type 0) → onward others → next.depth ≤ MAX_OPEN
        → HasTaken text onward next (ts ++ t ∷ [])
    one-taken onward are le =
        let o = goes-on in
        let depth : levels_in o.config ≡ next.depth = ap (λ (p : Position). p.depth) o.stands in
        record {
          rest = others;
          are_left = are;
          all = rw (append_assoc ts (t ∷ []) others) tokens-whole;
          words = h.words ++ o.word ∷ [];
          say = say-snoc Says h.say o.says;
          config = o.config;
          reached = run-snoc step h.words o.word start h.config h.reached ∙ o.steps;
          shallow = shallow-next h.config o.config h.say h.reached o.says o.steps MAX_OPEN h.shallow (omega arith);
          stands = o.stands;
          few = le;
        }

-- the last token is that which was added
pub last_start-snoc : (ts : List Tok) (t : Tok) → last_start (ts ++ t ∷ []) ≡ start_of t
last_start-snoc [] t = refl
last_start-snoc (u ∷ []) t = refl
last_start-snoc (u ∷ v ∷ ts) t = last_start-snoc (v ∷ ts) t

within-take : (i : ℕ) (ts : List Tok) → AreWithin ts → AreWithin (take i ts)
within-take i ts h = shallow-take MAX_OPEN 0 i ts h

-- no token is left
pub none-decide : {text : List ℕ} {left : List Tok → Type 0} {position : Position} {ts : List Tok}
    (h : HasTaken text left position ts) → h.rest ≡ [] → NoneDecides text
none-decide {text} {ts = ts} h none = λ all are i decides.
    let every : AreTokens (length text) text ts = (let a = h.all in simp (none, append-nil) at a) in
    let same : all ≡ ts = tokens-one are every in
    let here : IsHopeless ts i ⊎ IsTooDeep ts i = rw same at decides in
    viability.none-deciding Viable AreWithin (viability.viable-take Says Grammar) within-take ts i
    (viable-taken h.config h.say h.reached h.shallow) h.shallow here
