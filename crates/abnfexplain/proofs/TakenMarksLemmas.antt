-- What the search for the deciding token has come to.
-- Serves: explain_fault
use Rattle.std.proofs.Common.{◌≡◌, ℕ, ◌<◌, ◌≤◌, ◌⊎◌, Bool, true, false, Option, Some, None, List, []}
use Rattle.std.proofs.Common.{◌∷◌, ◌++◌, length, slice_get, refl, sym, ap, ◌∙◌, append-nil, arith}
use Rattle.std.proofs.Common.{length-append}
use Rattle.std.proofs.lemmas.List.{length-reverse}
use Rattle.std.proofs.Math.Seq.{get_or-append_seam, take-append_seam}
use Rattle.std.proofs.lemmas.Option.{slice_get-get_or}
use Rattle.std.specs.Option.{option_map, unwrap_or}
use Rattle.ruletable.specs.declared.span.Span.{Span}
use Rattle.lexer.specs.TokenLists.{tok}
use Rattle.lexer.specs.declared.limits.TheConstants.{MAX_OPEN}
use Rattle.lexer.proofs.ViabilityLemmas as lemmas
use Rattle.abnfread.specs.declared.kind.AbnfKind.{AbnfKind}
use Rattle.abnfread.specs.declared.kind.AbnfKind.TheVariants as kinds
use Rattle.abnfread.specs.declared.marks.MarkedToken.{MarkedToken}
use Rattle.abnfread.specs.AbnfMachine.{Config, start, step, levels_in}
use Rattle.abnfread.specs.AbnfReading.{is_bracket}
use Rattle.abnfread.specs.AbnfSays.{SaysKind, says_name, says_end, says_lparen, says_lbrack, Says, says, SayAll, Viable}
use Rattle.abnfread.specs.AbnfSays.{IsSmall, AreSmall, AreWithin, IsHopeless, IsOver}
use Rattle.abnfread.specs.AbnfSpelling.{Grammar}
use Rattle.abnfread.specs.AbnfWords.{Said, Word, word}
use Rattle.abnfread.specs.MarkedTokens.{Marked, marked, marked_of, AreMarked}
use Rattle.abnfread.proofs.AbnfFaultLemmas.{marked-one}
use Rattle.abnfread.proofs.AbnfViabilityLemmas.{runs-begins, stops-begins}
use Rattle.abnfread.proofs.HasTakenLemmas.{HasTaken, one-taken, within-take}
use Rattle.abnfread.proofs.OpenBracketLemmas.{step-opens, deeper-next, levels-within, opens-bracket}
use Rattle.abnfread.proofs.SaysKindLemmas.{one-word, said-there, marked-said}
use Rattle.abnfexplain.specs.declared.abnf_decide.Refused.{Refused}
use Rattle.abnfexplain.specs.declared.abnf_stand.Form.{Form}
use Rattle.abnfexplain.specs.declared.abnf_stand.Position.{Position}
use Rattle.abnfexplain.specs.declared.abnf_stand.Stand.TheVariants.{Start}
use Rattle.abnfexplain.specs.AbnfDecisions.{earlier_marked, first_marked, last_marked, IsTokenOf, IsRefused}
use Rattle.abnfexplain.specs.AbnfDecisions.{NoneDecides}
use Rattle.abnfexplain.specs.AbnfPositions.{brackets_of, position_allows, IsPositionAt}
use Rattle.abnfexplain.specs.AbnfStands.{next_stand, brackets_after, innermost}
use Rattle.abnfexplain.proofs.AbnfCanStandLemmas.{StandsAt, TestsForms, Onward, position-tests, goes-on, stops-there}
use Rattle.abnfexplain.proofs.AbnfCanStandLemmas.{can-stand, cannot-stand}
use Rattle.abnfexplain.proofs.AbnfCanStandLemmas.{said-kind, bad-nowhere}
use Rattle.abnfexplain.proofs.AbnfStandLemmas.{open-count}

-- the machine took what the tokens so far say, and stands at the position; the first of them and the last two
pub record IsTaken (text : List ℕ) (left : List Marked → Type 0) (position : Position)
    (origin before earlier : Option MarkedToken)
    (ms : List Marked) : Type 0 where
  pub config : Config
  pub taken : HasTaken text left config ms
  pub stands : StandsAt config position
  pub origin_is : option_map marked_of origin ≡ first_marked ms
  pub before_is : option_map marked_of before ≡ last_marked ms
  pub earlier_is : option_map marked_of earlier ≡ earlier_marked ms

-- before the first token
pub none-taken : (text : List ℕ) (left : List Marked → Type 0) (position : Position) → HasTaken text left start []
    → IsPositionAt position Start [] → IsTaken text left position None None None []
none-taken text left position h at = record {
  config = start;
  taken = h;
  stands = record { stand = sym at.stand; brackets = sym at.brackets };
  origin_is = refl;
  before_is = refl;
  earlier_is = refl;
}

pub last-snoc : (ms : List Marked) (m : Marked) → last_marked (ms ++ m ∷ []) ≡ Some m
last-snoc [] m = refl
last-snoc (n ∷ []) m = refl
last-snoc (n ∷ o ∷ ms) m = last-snoc (o ∷ ms) m

pub earlier-snoc : (ms : List Marked) (m : Marked) → earlier_marked (ms ++ m ∷ []) ≡ last_marked ms
earlier-snoc [] m = refl
earlier-snoc (n ∷ []) m = refl
earlier-snoc (n ∷ o ∷ []) m = refl
earlier-snoc (n ∷ o ∷ p ∷ ms) m = earlier-snoc (o ∷ p ∷ ms) m

pub first-snoc : (ms : List Marked) (m o : Marked) → first_marked ms ≡ Some o → first_marked (ms ++ m ∷ []) ≡ Some o
first-snoc [] m o e = absurd (let no : None ≡ Some o = e in cc)
first-snoc (n ∷ ms) m o e = e

pub first-alone : (ms : List Marked) (m : Marked) → first_marked ms ≡ None → first_marked (ms ++ m ∷ []) ≡ Some m
first-alone [] m e = refl
first-alone (n ∷ ms) m e = absurd (let no : Some n ≡ None = e in cc)

-- the first token stays the first
pub first-kept : (o : Option MarkedToken) (t : MarkedToken) (ms : List Marked)
    → option_map marked_of o ≡ first_marked ms
    → option_map marked_of (Some (unwrap_or o t)) ≡ first_marked (ms ++ marked_of t ∷ [])
first-kept None t ms e = sym (first-alone ms (marked_of t) (sym e))
first-kept (Some o) t ms e = sym (first-snoc ms (marked_of t) (marked_of o) (sym e))

get-seam : (ms : List Marked) (m : Marked) (us : List Marked) → slice_get (ms ++ m ∷ us) (length ms) ≡ Some m
get-seam ms m us = slice_get-get_or (ms ++ m ∷ us) (length ms) m (omega (arith, length-append ms (m ∷ us)))
    ∙ ap Some (get_or-append_seam ms m us m)

small-last : (ws : List Word) (g f : Bool) (s : Said) → AreSmall (ws ++ word g f s ∷ []) → IsSmall s
small-last [] g f s h = h.0
small-last (word a b t ∷ ws) g f s h = small-last ws g f s h.1

large-no_bracket : {k : AbnfKind} {z : List ℕ} {p : Span} {s : Said} (g f : Bool) → SaysKind k z p s → (IsSmall s → ⊥)
    → is_bracket (marked (tok k z p) g f) ≡ false
large-no_bracket g f says_name h = refl
large-no_bracket g f says_end h = refl
large-no_bracket g f says_lparen h = absurd (h tt)
large-no_bracket g f says_lbrack h = absurd (h tt)
large-no_bracket g f _ h = refl

module _ {text : List ℕ} {left : List Marked → Type 0} {position : Position}
    {origin before earlier : Option MarkedToken} {ms : List Marked}
    (t : IsTaken text left position origin before earlier ms) (k : AbnfKind) (z : List ℕ) (p : Span) (g f : Bool)
    (others : List Marked) (whole : AreMarked text (ms ++ marked (tok k z p) g f ∷ others)) where
  abbrev h : HasTaken text left t.config ms
  h = t.taken

  abbrev here : Marked
  here = marked (tok k z p) g f

  abbrev form : Form
  form = record { kind = k; gap = g; first = f }

  within-here : AreWithin ms
  within-here = record { words = h.words; say = h.say; shallow = h.shallow; small = h.small }

  there-is : (D : List Marked → ℕ → Type 0) → D (ms ++ here ∷ others) (length ms) → IsTokenOf text here D
  there-is D d = record {
    all = ms ++ here ∷ others;
    are_tokens = whole;
    number = length ms;
    there = get-seam ms here others;
    holds = d;
  }

  viable-so_far : Viable ms
  viable-so_far = lemmas.viable-run Says Grammar step start runs-begins stops-begins one-word t.config h.say h.reached

  form-tests : TestsForms t.config (position_allows position)
  form-tests = position-tests t.config position t.stands

  -- no such token can stand there
  pub refused-there : (r : Refused) → r.position ≡ position → r.origin ≡ origin → r.before ≡ before
      → r.earlier ≡ earlier → position_allows position form ≡ false → IsTokenOf text here (IsRefused r)
  refused-there r at first last next e = there-is (IsRefused r) (record {
    hopeless = lemmas.hopeless-at Viable AreWithin ms here others viable-so_far within-here
        (lemmas.not-viable Says Grammar step start runs-begins stops-begins one-word t.config h.say h.reached here
        (stops-there t.config (position_allows position) form-tests k z p g f e));
    reports = rw at (record {
      stand = λ other does. can-stand t.config (position_allows position) form-tests h.say h.reached other does
          (here ∷ others);
      other = λ other not. cannot-stand t.config (position_allows position) form-tests h.say h.reached other not
          (here ∷ others);
    });
    origin = rw (first, take-append_seam ms (here ∷ others)) t.origin_is;
    before = rw (last, take-append_seam ms (here ∷ others)) t.before_is;
    earlier = rw (next, take-append_seam ms (here ∷ others)) t.earlier_is;
  })

  module _ (does : position_allows position form ≡ true) where
    no-bad : k ≡ kinds.Bad → ⊥
    no-bad e =
        let bad : position_allows position (record { kind = kinds.Bad; gap = g; first = f }) ≡ true =
        ap (λ (j : AbnfKind). position_allows position (record { kind = j; gap = g; first = f })) (sym e) ∙ does in
        let none = bad-nowhere position.stand (innermost (brackets_of position)) g f in
        (let no : true ≡ false = sym bad ∙ none in cc)

    -- what it says
    said-here : (s : Said) × SaysKind k z p s
    said-here = said-there k z p (marked-said text ms k z p g f others whole) no-bad

    abbrev said : Said
    said = said-here.0

    step-onward : Onward t.config g f said
    step-onward = goes-on t.config (position_allows position) form-tests said g f
        (let kind = said-kind said-here.1 in
        ap (λ (j : AbnfKind). position_allows position (record { kind = j; gap = g; first = f })) kind ∙ does)

    over-there : (AreWithin (ms ++ here ∷ []) → ⊥) → IsOver (ms ++ here ∷ others) (length ms)
    over-there over =
        lemmas.over-at Viable AreWithin ms here others
        (lemmas.viable-next Says Grammar step start runs-begins stops-begins one-word t.config h.say h.reached here
        (word g f said) step-onward.config (says said-here.1) step-onward.steps) within-here over

    next-words : (vs : List Word) → SayAll (ms ++ here ∷ []) vs → vs ≡ h.words ++ word g f said ∷ []
    next-words vs all = lemmas.one-words Says one-word all (lemmas.say-snoc Says h.say (says said-here.1))

    pub large-there : ((s : Said) → SaysKind k z p s → IsSmall s → ⊥)
        → IsTokenOf text here (λ us i. IsOver us i × (is_bracket here ≡ false))
    large-there large = there-is (λ us i. IsOver us i × (is_bracket here ≡ false)) (
      over-there (λ v. large said said-here.1 (small-last h.words g f said
          (let e = next-words v.words v.say in let y = v.small in rw e at y))),
      large-no_bracket g f said-here.1 (large said said-here.1),
    )

    module _ (next : Position)
        (at : IsPositionAt next (next_stand form) (brackets_after k (brackets_of position))) where
      next-stands : StandsAt step-onward.config next
      next-stands =
          let kind = said-kind said-here.1 in
          record {
            stand = (let e = step-onward.stand in rw kind at e) ∙ sym at.stand;
            brackets = (let e = step-onward.brackets in let o = (t.stands).brackets in rw (kind, o) at e)
                ∙ sym at.brackets;
          }

      next-levels : levels_in step-onward.config ≡ length next.brackets.items
      next-levels = sym (open-count step-onward.config) ∙ ap length next-stands.brackets
          ∙ length-reverse next.brackets.items

      pub deep-there : MAX_OPEN < length next.brackets.items
          → IsTokenOf text here (λ us i. IsOver us i × (is_bracket here ≡ true))
      deep-there lt = there-is (λ us i. IsOver us i × (is_bracket here ≡ true)) (
        over-there (λ v. deeper-next h.words (word g f said) t.config step-onward.config h.reached step-onward.steps
            MAX_OPEN
            (let e = next-levels in omega arith)
            (let e = next-words v.words v.say in let y = v.shallow in rw e at y)),
        opens-bracket g f MAX_OPEN (levels_in t.config) said-here.1
            (levels-within h.words t.config MAX_OPEN h.reached h.shallow)
            (let e = step-opens t.config step-onward.config g f said step-onward.steps in
            let l = next-levels in
            omega arith),
      )

      -- one token more
      pub one-more : (onwards : List Marked → Type 0) (first last : Option MarkedToken)
          → ((us : List Marked) → left us → (vs : List Marked) × (us ≡ here ∷ vs) × onwards vs)
          → ((vs : List Marked) → onwards vs → left (here ∷ vs)) → ((s : Said) → SaysKind k z p s → IsSmall s)
          → length next.brackets.items ≤ MAX_OPEN
          → option_map marked_of first ≡ first_marked (ms ++ here ∷ []) → option_map marked_of last ≡ Some here →
          IsTaken text onwards next first last before (ms ++ here ∷ [])
      one-more onwards first last on back small le o b = record {
        config = step-onward.config;
        taken = one-taken h here onwards on back step-onward.config g f said (says said-here.1)
            (small said said-here.1) step-onward.steps (let e = next-levels in omega arith);
        stands = next-stands;
        origin_is = o;
        before_is = b ∙ sym (last-snoc ms here);
        earlier_is = t.before_is ∙ sym (earlier-snoc ms here);
      }

-- no token is left
pub none-decide : {text : List ℕ} {left : List Marked → Type 0} {position : Position}
    {origin before earlier : Option MarkedToken}
    {ms : List Marked} → IsTaken text left position origin before earlier ms → left [] → NoneDecides text
none-decide {text} {ms = ms} t none = λ all are i decides.
    let h = t.taken in
    let every : AreMarked text ms = (let a = h.before [] none in simp append-nil at a) in
    let same : all ≡ ms = marked-one text all ms are every in
    let here : IsHopeless ms i ⊎ IsOver ms i = rw same at decides in
    let within : AreWithin ms = record { words = h.words; say = h.say; shallow = h.shallow; small = h.small } in
    lemmas.none-deciding Viable AreWithin (lemmas.viable-take Says Grammar) within-take ms i
    (lemmas.viable-run Says Grammar step start runs-begins stops-begins one-word t.config h.say h.reached) within here
