-- Which kinds can stand after tokens that the machine took.
-- Serves: explain_fault
use Rattle.std.proofs.Common.{◌≡◌, ℕ, ◌+◌, ◌⊎◌, inl, inr, true, false, Option, Some, None, List, []}
use Rattle.std.proofs.Common.{◌∷◌, ◌++◌, length, take, refl, sym, ap, ◌∙◌, arith, length-append, is_some}
use Rattle.std.proofs.Math.Seq.{take-append_seam}
use Rattle.std.proofs.lemmas.List.{take_all}
use Rattle.std.proofs.lemmas.Bool.{cases_lt}
use Rattle.ruletable.specs.declared.span.Span.{Span}
use Rattle.lexer.specs.TokenLists.{tok, kind_of}
use Rattle.lexer.specs.declared.limits.TheConstants.{MAX_OPEN}
use Rattle.lexer.proofs.ViabilityLemmas.{run-snoc, say-snoc}
use Rattle.pegread.specs.declared.kind.Kind.{Kind}
use Rattle.pegread.specs.declared.kind.Kind.TheVariants as kinds
use Rattle.pegread.specs.Chars.{no_chars}
use Rattle.pegread.specs.Classes.{positive, no_items, in_ranges, bytes_in, SpellsSet}
use Rattle.pegread.specs.Literals.{SpellsBytes}
use Rattle.pegread.specs.Machine.{Config, start, step, run, levels_in}
use Rattle.pegread.specs.Reading.{AreWithin}
use Rattle.pegread.specs.Spelling.{Viable}
use Rattle.pegread.specs.Tokens.{Tok}
use Rattle.pegread.specs.Words.{Word, Ident, Arrow, Begin, EndCap, Slash, Amp, Bang, Quest, Star, Plus, Dot, LParen}
use Rattle.pegread.specs.Words.{RParen, Literal, Class, Action, End, Says, says_name, says_arrow, says_begin}
use Rattle.pegread.specs.Words.{says_end_cap, says_slash, says_amp, says_bang, says_quest, says_star, says_plus}
use Rattle.pegread.specs.Words.{says_dot, says_lparen, says_rparen, says_literal, says_class, says_action, says_end}
use Rattle.pegread.specs.Words.{SayAll}
use Rattle.pegread.proofs.GrammarViabilityLemmas.{hopeless-next, too_deep-next}
use Rattle.pegread.proofs.IsShallowLemmas.{shallow-next}
use Rattle.pegread.proofs.SaysLemmas.{bad-silent}
use Rattle.pegprint.specs.declared.faults.stand.Position.{Position}
use Rattle.pegprint.specs.declared.faults.stand.Stand.{Stand}
use Rattle.pegprint.specs.declared.faults.stand.Stand.TheVariants as stands
use Rattle.pegprint.specs.PegExpected.{CanStand}
use Rattle.pegprint.specs.PegStands.{position_of, stand_of, goes, allows}
use Rattle.pegprint.proofs.StandLemmas.{kind_said, says-kind, position_after, step-goes}

no_span : Span
no_span = record { start = 0; end = 0 }

-- a token of a kind, and what it says
record Sample (k : Kind) : Type 0 where
  token : Tok
  word : Word
  kind : kind_of token ≡ k
  says : Says token word

sample-of : (k : Kind) (z : List ℕ) (w : Word) → Says (tok k z no_span) w → Sample k
sample-of k z w h = record { token = tok k z no_span; word = w; kind = refl; says = h }

-- each kind but `Bad` has one
some-sample : (k : Kind) → (k ≡ kinds.Bad) ⊎ Sample k
some-sample kinds.Ident = inr (sample-of kinds.Ident [] (Ident [] no_span) says_name)
some-sample kinds.Arrow = inr (sample-of kinds.Arrow [] Arrow says_arrow)
some-sample kinds.Begin = inr (sample-of kinds.Begin [] Begin says_begin)
some-sample kinds.EndCap = inr (sample-of kinds.EndCap [] EndCap says_end_cap)
some-sample kinds.Slash = inr (sample-of kinds.Slash [] Slash says_slash)
some-sample kinds.Amp = inr (sample-of kinds.Amp [] Amp says_amp)
some-sample kinds.Bang = inr (sample-of kinds.Bang [] Bang says_bang)
some-sample kinds.Quest = inr (sample-of kinds.Quest [] Quest says_quest)
some-sample kinds.Star = inr (sample-of kinds.Star [] Star says_star)
some-sample kinds.Plus = inr (sample-of kinds.Plus [] Plus says_plus)
some-sample kinds.Dot = inr (sample-of kinds.Dot [] Dot says_dot)
some-sample kinds.LParen = inr (sample-of kinds.LParen [] LParen says_lparen)
some-sample kinds.RParen = inr (sample-of kinds.RParen [] RParen says_rparen)
some-sample kinds.Literal =
    let empty : SpellsBytes (34 ∷ 34 ∷ []) [] = record { mark = 34; inside = []; cut = refl; chars = no_chars } in
    inr (sample-of kinds.Literal (34 ∷ 34 ∷ []) (Literal []) (says_literal empty))
some-sample kinds.Class =
    let empty : SpellsSet (91 ∷ 93 ∷ []) (bytes_in (in_ranges [])) =
    positive {inside = []} {xs = []} _ refl tt no_items (λ b. refl) in
    inr (sample-of kinds.Class (91 ∷ 93 ∷ []) (Class (bytes_in (in_ranges []))) (says_class empty))
some-sample kinds.Action = inr (sample-of kinds.Action (123 ∷ 125 ∷ []) (Action []) (says_action {t = []} refl))
some-sample kinds.Bad = inl refl
some-sample kinds.End = inr (sample-of kinds.End [] End says_end)

pub after-some : (x : Option Config) (p : Position) → position_after x ≡ Some p → (d : Config) × (x ≡ Some d)
    × (position_of d ≡ p)
after-some None p e = cc
after-some (Some d) p e = (d, refl, let same : position_of d ≡ p = cc in same)

pub after-none : (x : Option Config) → position_after x ≡ None → x ≡ None
after-none None e = refl
after-none (Some d) e = cc

some-there : (x : Option Position) → is_some x ≡ true → (p : Position) × (x ≡ Some p)
some-there None e = cc
some-there (Some p) e = (p, refl)

none-there : (x : Option Position) → is_some x ≡ false → x ≡ None
none-there None e = refl
none-there (Some p) e = cc

bad-at : (s : Stand) (n : ℕ) → goes s n kinds.Bad ≡ None
bad-at stands.Start n = refl
bad-at stands.Named n = refl
bad-at stands.Fresh n = refl
bad-at stands.Not n = refl
bad-at stands.And n = refl
bad-at stands.Primary n = refl
bad-at stands.Name n = refl
bad-at stands.PrefixedName n = refl
bad-at stands.Done n = refl

pub goes-bad : (p : Position) → goes p.stand p.depth kinds.Bad ≡ None
goes-bad p = bad-at p.stand p.depth

whole-taken : (ts : List Tok) (t : Tok) → take (length ts + 1) (ts ++ t ∷ []) ≡ ts ++ t ∷ []
whole-taken ts t = take_all (length ts + 1) (ts ++ t ∷ []) (omega (arith, length-append ts (t ∷ [])))

-- the machine took what the tokens ts say, and came to c
module _ {ts : List Tok} {ws : List Word} (c : Config) (say : SayAll ts ws) (runs : run start ws ≡ Some c)
    (within : AreWithin ts) where
  pub viable-taken : Viable ts
  viable-taken =
      let bad : Tok = tok kinds.Bad [] no_span in
      let h = hopeless-next c say runs within bad [] (λ w s. absurd (bad-silent [] no_span w s)) in
      let v = h.before in
      rw (take-append_seam ts (bad ∷ [])) at v

-- and goes on with the word of t
viable-onward : {ts : List Tok} {ws : List Word} (c : Config) (say : SayAll ts ws) (runs : run start ws ≡ Some c)
    (within : AreWithin ts) (t : Tok) (w : Word) (d : Config) → Says t w → step c w ≡ Some d → Viable (ts ++ t ∷ [])
viable-onward {ts} {ws} c say runs within t w d says steps = elim (cases_lt MAX_OPEN (levels_in d)) [
  | inl lt ↦
      (let h = too_deep-next c say runs within t [] d w says steps lt in
      let v = h.viable in
      rw (whole-taken ts t) at v)
  | inr le ↦ viable-taken d (say-snoc Says say says) (run-snoc step ws w start c runs ∙ steps)
      (shallow-next c d say runs says steps MAX_OPEN within le)
]

module _ {ts : List Tok} {ws : List Word} (c : Config) (say : SayAll ts ws) (runs : run start ws ≡ Some c)
    (within : AreWithin ts) (position : Position) (stands : position_of c ≡ position) where
  goes-there : (k : Kind) → goes (stand_of c) (levels_in c) k ≡ goes position.stand position.depth k
  goes-there k = ap (λ (p : Position). goes p.stand p.depth k) stands

  -- the step by a word goes where its kind does
  pub step-there : (w : Word) (k : Kind) → kind_said w ≡ k → position_after (step c w)
      ≡ goes position.stand position.depth k
  step-there w k e = step-goes c w ∙ ap (λ (j : Kind). goes (stand_of c) (levels_in c) j) e ∙ goes-there k

  pub stops-there : (t : Tok) → goes position.stand position.depth (kind_of t) ≡ None → (w : Word) → Says t w
      → step c w ≡ None
  stops-there t none w says = after-none (step c w) (step-there w (kind_of t) (says-kind says) ∙ none)

  pub can-stand : (k : Kind) → allows position k ≡ true → (us : List Tok) → CanStand (ts ++ us) (length ts) k
  can-stand k e us = by-sample (some-sample k) (some-there (goes position.stand position.depth k) e)
    where
      by-sample : (k ≡ kinds.Bad) ⊎ Sample k → (p : Position) × (goes position.stand position.depth k ≡ Some p)
          → CanStand (ts ++ us) (length ts) k
      by-sample (inl bad) p =
          let none = goes-bad position in
          let some : goes position.stand position.depth kinds.Bad ≡ Some p.0 = rw bad at p.1 in
          absurd (let no : None ≡ Some p.0 = sym none ∙ some in cc)
      by-sample (inr s) p =
          let d = after-some (step c s.word) p.0 (step-there s.word k (says-kind s.says ∙ s.kind) ∙ p.1) in
          record {
            token = s.token;
            kind = s.kind;
            viable = rw (take-append_seam ts us)
                (viable-onward c say runs within s.token s.word d.0 s.says d.1);
          }

  pub cannot-stand : (k : Kind) → allows position k ≡ false → (us : List Tok) → CanStand (ts ++ us) (length ts) k → ⊥
  cannot-stand k e us h =
      let none : goes position.stand position.depth (kind_of h.token) ≡ None =
      ap (λ (j : Kind). goes position.stand position.depth j) h.kind
      ∙ none-there (goes position.stand position.depth k) e in
      let stop = hopeless-next c say runs within h.token [] (stops-there h.token none) in
      let v = h.viable in
      let w : Viable (ts ++ h.token ∷ []) = rw (take-append_seam ts us) at v in
      stop.here (rw (whole-taken ts h.token) w)
