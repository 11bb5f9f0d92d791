-- Which tokens can stand after tokens that the machine took.
-- Serves: explain_abnf_fault, nothing_left_out_of_abnf
use Rattle.std.proofs.Common.{◌≡◌, ℕ, ◌⊎◌, inl, inr, Bool, true, false, Option, Some, None, List, [], ◌∷◌, ◌++◌}
use Rattle.std.proofs.Common.{length, refl, sym, ap, ◌∙◌}
use Rattle.std.proofs.Math.Seq.{take-append_seam}
use Rattle.ruletable.specs.declared.span.Span.{Span}
use Rattle.lexer.specs.TokenLists.{Tok, tok, kind_of}
use Rattle.lexer.proofs.ViabilityLemmas as lemmas
use Rattle.abnfread.specs.declared.kind.AbnfKind.{AbnfKind}
use Rattle.abnfread.specs.declared.kind.AbnfKind.TheVariants as kinds
use Rattle.abnfread.specs.AbnfMachine.{Config, start, step, run}
use Rattle.abnfread.specs.AbnfSays.{SaysKind, says_name, says_is, says_adds, says_slash, says_lparen, says_rparen}
use Rattle.abnfread.specs.AbnfSays.{says_lbrack, says_rbrack, says_repeat, says_text, says_num, says_prose, says_end}
use Rattle.abnfread.specs.AbnfSays.{says_cased, Says, says, SayAll, Viable}
use Rattle.abnfread.specs.AbnfSlices.{none, digits}
use Rattle.abnfread.specs.AbnfSpelling.{Grammar}
use Rattle.abnfread.specs.AbnfWords as words
use Rattle.abnfread.specs.AbnfWords.{Said, Word, word}
use Rattle.abnfread.specs.BaseDigits.{hexadecimal}
use Rattle.abnfread.specs.MarkedTokens.{Marked, marked}
use Rattle.abnfread.specs.Numerals.{says_between, says_values, says_range, last_number}
use Rattle.abnfread.proofs.AbnfViabilityLemmas.{runs-begins, stops-begins}
use Rattle.abnfread.proofs.SaysKindLemmas.{one-word}
use Rattle.abnfexplain.specs.declared.abnf_stand.OpenBracket.{OpenBracket}
use Rattle.abnfexplain.specs.declared.abnf_stand.Form.{Form}
use Rattle.abnfexplain.specs.declared.abnf_stand.Position.{Position}
use Rattle.abnfexplain.specs.declared.abnf_stand.Stand.{Stand}
use Rattle.abnfexplain.specs.declared.abnf_stand.Stand.TheVariants as stands
use Rattle.abnfexplain.specs.AbnfExpected.{CanStand}
use Rattle.abnfexplain.specs.AbnfPositions.{brackets_of, position_allows}
use Rattle.abnfexplain.specs.AbnfStands.{allows_marked, allows_first, allows_later, allows_read, innermost}
use Rattle.abnfexplain.specs.AbnfStands.{after_marked, brackets_after}
use Rattle.abnfexplain.proofs.AbnfStandLemmas.{kind_said, stand_of, open_of, Comes, step-comes}

no_span : Span
no_span = record { start = 0; end = 0 }

-- a slice of a kind, and what it says
record Sample (k : AbnfKind) : Type 0 where
  slice : List ℕ
  said : Said
  says_so : SaysKind k slice no_span said

sample-of : (k : AbnfKind) (z : List ℕ) (s : Said) → SaysKind k z no_span s → Sample k
sample-of k z s h = record { slice = z; said = s; says_so = h }

-- each kind but `Bad` has one
some-sample : (k : AbnfKind) → (k ≡ kinds.Bad) ⊎ Sample k
some-sample kinds.Name = inr (sample-of kinds.Name [] (words.Name [] no_span) says_name)
some-sample kinds.Is = inr (sample-of kinds.Is [] words.Is says_is)
some-sample kinds.Adds = inr (sample-of kinds.Adds [] words.Adds says_adds)
some-sample kinds.Slash = inr (sample-of kinds.Slash [] words.Slash says_slash)
some-sample kinds.LParen = inr (sample-of kinds.LParen [] words.LParen says_lparen)
some-sample kinds.RParen = inr (sample-of kinds.RParen [] words.RParen says_rparen)
some-sample kinds.LBrack = inr (sample-of kinds.LBrack [] words.LBrack says_lbrack)
some-sample kinds.RBrack = inr (sample-of kinds.RBrack [] words.RBrack says_rbrack)
some-sample kinds.Repeat = inr (sample-of kinds.Repeat (42 ∷ []) (words.Repeat 0 None)
    (says_repeat (says_between {ds = []} {es = []} refl none none)))
some-sample kinds.Text = inr (sample-of kinds.Text (34 ∷ 34 ∷ []) (words.Text true []) (says_text {t = []} refl))
some-sample kinds.Num = inr (sample-of kinds.Num (37 ∷ 120 ∷ 49 ∷ []) (words.Values (1 ∷ []))
    (says_num (says_values {base = 16} {c = 120} (hexadecimal refl) (last_number (digits refl none)))))
some-sample kinds.Prose = inr (sample-of kinds.Prose (60 ∷ 62 ∷ []) (words.Prose []) (says_prose {t = []} refl))
some-sample kinds.Bad = inl refl
some-sample kinds.End = inr (sample-of kinds.End [] words.End says_end)

pub said-kind : {k : AbnfKind} {z : List ℕ} {p : Span} {s : Said} → SaysKind k z p s → kind_said s ≡ k
said-kind says_name = refl
said-kind says_is = refl
said-kind says_adds = refl
said-kind says_slash = refl
said-kind says_lparen = refl
said-kind says_rparen = refl
said-kind says_lbrack = refl
said-kind says_rbrack = refl
said-kind (says_repeat h) = refl
said-kind (says_text e) = refl
said-kind (says_cased i e) = refl
said-kind (says_num (says_values a h)) = refl
said-kind (says_num (says_range a e b c)) = refl
said-kind (says_prose e) = refl
said-kind says_end = refl

read-bad : (top : Option OpenBracket) (g : Bool) → allows_read top kinds.Bad g ≡ false
read-bad top true = refl
read-bad top false = refl

later-bad : (s : Stand) (top : Option OpenBracket) (g : Bool) → allows_later s top kinds.Bad g ≡ false
later-bad stands.Start top g = refl
later-bad stands.Named top g = refl
later-bad stands.Fresh top g = refl
later-bad stands.Awaits top true = refl
later-bad stands.Awaits top false = refl
later-bad stands.Read top g = read-bad top g
later-bad stands.Done top g = refl

first-bad : (s : Stand) (top : Option OpenBracket) → allows_first s top kinds.Bad ≡ false
first-bad stands.Start top = refl
first-bad stands.Named top = refl
first-bad stands.Fresh top = refl
first-bad stands.Awaits top = refl
first-bad stands.Read None = refl
first-bad stands.Read (Some b) = refl
first-bad stands.Done top = refl

-- what begins no token stands nowhere
pub bad-nowhere : (s : Stand) (top : Option OpenBracket) (g f : Bool) → allows_marked s top kinds.Bad g f ≡ false
bad-nowhere s top g true = first-bad s top
bad-nowhere s top g false = later-bad s top g

-- where the machine goes on
pub record Onward (c : Config) (g f : Bool) (s : Said) : Type 0 where
  pub config : Config
  pub steps : step c (word g f s) ≡ Some config
  pub stand : stand_of config ≡ after_marked (kind_said s) f
  pub brackets : open_of config ≡ brackets_after (kind_said s) (open_of c)

there-onward : (c : Config) (g f : Bool) (s : Said) (b : Bool) (x : Option Config) → step c (word g f s) ≡ x
    → Comes b (after_marked (kind_said s) f) (brackets_after (kind_said s) (open_of c)) x → b ≡ true
    → Onward c g f s
there-onward c g f s b None e h t = absurd (let no : true ≡ false = sym t ∙ h in cc)
there-onward c g f s b (Some d) e h t = record { config = d; steps = e; stand = h.1; brackets = h.2 }

none-there : (b : Bool) (s : Stand) (bs : List OpenBracket) (x : Option Config) → Comes b s bs x → b ≡ false → x ≡ None
none-there b s bs None h e = refl
none-there b s bs (Some d) h e = absurd (let no : true ≡ false = sym h.0 ∙ e in cc)

-- the configuration stands at that position
pub record StandsAt (c : Config) (position : Position) : Type 0 where
  pub stand : stand_of c ≡ position.stand
  pub brackets : open_of c ≡ brackets_of position

-- the test says which tokens can stand after the configuration
abbrev pub TestsForms : Config → (Form → Bool) → Type 0
TestsForms c can = (k : AbnfKind) (g f : Bool) → allows_marked (stand_of c) (innermost (open_of c)) k g f
    ≡ can (record { kind = k; gap = g; first = f })

pub position-tests : (c : Config) (position : Position) → StandsAt c position → TestsForms c (position_allows position)
position-tests c position at k g f = rw (at.stand, at.brackets) refl

module _ (c : Config) (can : Form → Bool) (same-test : TestsForms c can) where
  pub goes-on : (s : Said) (g f : Bool) → can (record { kind = kind_said s; gap = g; first = f }) ≡ true
      → Onward c g f s
  goes-on s g f e = there-onward c g f s _ (step c (word g f s)) refl (step-comes c g f s)
      (same-test (kind_said s) g f ∙ e)

  pub stops-there : (k : AbnfKind) (z : List ℕ) (p : Span) (g f : Bool)
      → can (record { kind = k; gap = g; first = f }) ≡ false → (w : Word)
      → Says (marked (tok k z p) g f) w → step c w ≡ None
  stops-there k z p g f e w (says {s} h) =
      let kind = said-kind h in
      none-there _ _ _ (step c (word g f s)) (step-comes c g f s)
      (same-test (kind_said s) g f
      ∙ ap (λ (j : AbnfKind). can (record { kind = j; gap = g; first = f })) kind ∙ e)

  module _ {ms : List Marked} {ws : List Word} (say : SayAll ms ws) (runs : run start ws ≡ Some c) where
    pub can-stand : (form : Form) → can form ≡ true → (us : List Marked)
        → CanStand (ms ++ us) (length ms) form
    can-stand form e us = by-sample (some-sample form.kind)
      where
        by-sample : (form.kind ≡ kinds.Bad) ⊎ Sample form.kind → CanStand (ms ++ us) (length ms) form
        by-sample (inl bad) =
            let none = bad-nowhere (stand_of c) (innermost (open_of c)) form.gap form.first in
            let some : allows_marked (stand_of c) (innermost (open_of c)) kinds.Bad form.gap form.first ≡ true =
            same-test kinds.Bad form.gap form.first
            ∙ ap (λ (j : AbnfKind). can (record { kind = j; gap = form.gap; first = form.first })) (sym bad) ∙ e in
            absurd (let no : true ≡ false = sym some ∙ none in cc)
        by-sample (inr s) =
            let kind = said-kind s.says_so in
            let there = goes-on s.said form.gap form.first
            (ap (λ (j : AbnfKind). can (record { kind = j; gap = form.gap; first = form.first })) kind ∙ e) in
            record {
              token = tok form.kind s.slice no_span;
              kind = refl;
              viable = rw (take-append_seam ms us)
                  (lemmas.viable-next Says Grammar step start runs-begins stops-begins one-word c say runs
                  (marked (tok form.kind s.slice no_span) form.gap form.first) (word form.gap form.first s.said)
                  there.config (says s.says_so) there.steps);
            }

    pub cannot-stand : (form : Form) → can form ≡ false → (us : List Marked)
        → CanStand (ms ++ us) (length ms) form → ⊥
    cannot-stand form e us h =
        let v = h.viable in
        let w : Viable (ms ++ marked h.token form.gap form.first ∷ []) = rw (take-append_seam ms us) at v in
        not-here h.token h.kind w
      where
        not-here : (t : Tok AbnfKind) → kind_of t ≡ form.kind → Viable (ms ++ marked t form.gap form.first ∷ []) → ⊥
        not-here (tok k z p) kind = lemmas.not-viable Says Grammar step start runs-begins stops-begins one-word c say
            runs (marked (tok k z p) form.gap form.first)
            (stops-there k z p form.gap form.first
            (ap (λ (j : AbnfKind). can (record { kind = j; gap = form.gap; first = form.first })) kind ∙ e))
