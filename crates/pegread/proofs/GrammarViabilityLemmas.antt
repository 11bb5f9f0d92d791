-- Words begin a grammar exactly if the machine can take them, and a token that it cannot take decides.
-- Serves: read_peg; is_read_back of pegprint
use Rattle.std.proofs.Common.{◌≡◌, ℕ, ◌<◌, Some, None, List, [], ◌∷◌, ◌++◌, length, refl, ap, ◌∙◌}
use Rattle.lexer.specs.declared.limits.TheConstants.{MAX_OPEN}
use Rattle.lexer.proofs.ViabilityLemmas as viability
use Rattle.ruletable.specs.declared.span.Span.{Span}
use Rattle.pegread.specs.Pattern.{Pattern, Any, Name, Patterns, Rule}
use Rattle.pegread.specs.Reading.{AreWithin, IsHopeless, IsTooDeep}
use Rattle.pegread.specs.Spelling.{Grammar, Begins, Viable}
use Rattle.pegread.specs.Tokens.{Tok}
use Rattle.pegread.specs.Words.{Word, Ident, Arrow, Dot, RParen, End, Says, SayAll}
use Rattle.pegread.specs.Machine.{snoc, finish, Mark, no_mark, not_mark, and_mark, apply, fresh, read, read_name, Level}
use Rattle.pegread.specs.Machine.{level, Head, ended, Config, start, named, body, done, end_step, step, run, levels_in}
use Rattle.pegread.proofs.GrammarMachineLemmas.{grammar-runs}
use Rattle.pegread.proofs.GrammarSpellingLemmas.{runs-grammar}
use Rattle.pegread.proofs.SaysLemmas.{one-word}
use Rattle.pegread.proofs.IsShallowLemmas.{deeper-next}

-- a span that says nothing
abbrev pub nowhere : Span
nowhere = record { start = 0; end = 0 }

end-step : (o : List Level) (rules : List Rule) (d : Config) → end_step o rules ≡ Some d → (all : List Rule)
    × (d ≡ done all)
end-step [] rules d h = (rules, cc)
end-step (l ∷ o) rules d h = cc

-- after the end the whole is taken
pub end-done : (c d : Config) → step c End ≡ Some d → (rules : List Rule) × (d ≡ done rules)
end-done start d h = cc
end-done (named n p) d h = cc
end-done (body i o bs es no_mark fresh) d h = end-step o _ d h
end-done (body i o bs es not_mark fresh) d h = cc
end-done (body i o bs es and_mark fresh) d h = cc
end-done (body i o bs es m (read x)) d h = end-step o _ d h
end-done (body i o bs es m (read_name n p)) d h = end-step o _ d h
end-done (done rules) d h = cc

-- what c still needs
record Completes (c : Config) (s : List Word) : Type 0 where
  rules : List Rule
  runs : run c s ≡ Some (done rules)

-- closes all brackets, and ends
abbrev closers : List Level → List Word
closers [] = End ∷ []
closers (l ∷ o) = RParen ∷ closers o

-- after a primary the brackets close as where nothing waits
read-closes : (o : List Level) (h : Head) (bs es : Patterns) (m : Mark) (x : Pattern)
    → run (body h o bs es m (read x)) (closers o) ≡ run (body h o bs (snoc es (apply m x)) no_mark fresh) (closers o)
read-closes [] h bs es m x = refl
read-closes (l ∷ o) h bs es m x = refl

name-closes : (o : List Level) (h : Head) (bs es : Patterns) (m : Mark) (n : List ℕ) (p : Span)
    → run (body h o bs es m (read_name n p)) (closers o) ≡ run (body h o bs (snoc es (apply m (Name n))) no_mark fresh)
    (closers o)
name-closes [] h bs es m n p = refl
name-closes (l ∷ o) h bs es m n p = refl

completes-fresh : (o : List Level) (h : Head) (bs es : Patterns) → Completes (body h o bs es no_mark fresh) (closers o)
completes-fresh [] h bs es = record { rules = ended h (finish bs es); runs = refl }
completes-fresh (level b f m ∷ o) h bs es =
    let c = completes-fresh o h b (snoc f (apply m (finish bs es))) in
    record { rules = c.rules; runs = read-closes o h b f m (finish bs es) ∙ c.runs }

completes-read : (o : List Level) (h : Head) (bs es : Patterns) (m : Mark) (x : Pattern)
    → Completes (body h o bs es m (read x)) (closers o)
completes-read o h bs es m x =
    let c = completes-fresh o h bs (snoc es (apply m x)) in
    record { rules = c.rules; runs = read-closes o h bs es m x ∙ c.runs }

config-completes : (c : Config) → (s : List Word) × Completes c s
config-completes start = (Ident [] nowhere ∷ Arrow ∷ End ∷ [], record { rules = _; runs = refl })
config-completes (named n p) = (Arrow ∷ End ∷ [], record { rules = _; runs = refl })
config-completes (body h o bs es no_mark fresh) = (closers o, completes-fresh o h bs es)
config-completes (body h o bs es not_mark fresh) = let c = completes-read o h bs es not_mark Any in
    (Dot ∷ closers o, record { rules = c.rules; runs = c.runs })
config-completes (body h o bs es and_mark fresh) = let c = completes-read o h bs es and_mark Any in
    (Dot ∷ closers o, record { rules = c.rules; runs = c.runs })
config-completes (body h o bs es m (read x)) = (closers o, completes-read o h bs es m x)
config-completes (body h o bs es m (read_name n p)) = let c = completes-fresh o h bs (snoc es (apply m (Name n))) in
    (closers o, record { rules = c.rules; runs = name-closes o h bs es m n p ∙ c.runs })
config-completes (done rules) = ([], record { rules = rules; runs = refl })

run-completes : (c : Config) → (s : List Word) × (rules : List Rule) × (run c s ≡ Some (done rules))
run-completes c = let q = config-completes c in (q.0, q.1.rules, q.1.runs)

runs-begins : (ws : List Word) (c : Config) → run start ws ≡ Some c → Begins ws
runs-begins = viability.runs-begins step Grammar start done (λ ws g h. grammar-runs h) (λ ws g h. runs-grammar g ws h)
    run-completes

pub stops-begins : (ws : List Word) → run start ws ≡ None → Begins ws → ⊥
stops-begins = viability.stops-begins step Grammar start done (λ ws g h. grammar-runs h) (λ ws g h. runs-grammar g ws h)
    run-completes

-- the machine took the tokens ts, and came to c
module _ {ts : List Tok} {ws : List Word} (c : Config) (say : SayAll ts ws) (runs : run start ws ≡ Some c)
    (within : AreWithin ts) (t : Tok) (us : List Tok) where
  -- a token of which it takes no word then
  pub hopeless-next : ((w : Word) → Says t w → step c w ≡ None) → IsHopeless (ts ++ t ∷ us) (length ts)
  hopeless-next stops =
      viability.hopeless-at Viable AreWithin ts t us
      (viability.viable-run Says Grammar step start runs-begins stops-begins one-word c say runs) within
      (viability.not-viable Says Grammar step start runs-begins stops-begins one-word c say runs t stops)

  -- a token of which it takes the word, with too many brackets open then
  pub too_deep-next : (d : Config) (w : Word) → Says t w → step c w ≡ Some d → MAX_OPEN < levels_in d
      → IsTooDeep (ts ++ t ∷ us) (length ts)
  too_deep-next d w says steps lt =
      viability.over-at Viable AreWithin ts t us (viability.viable-next Says Grammar step start runs-begins stops-begins
      one-word c say runs t w d says steps) within
      (deeper-next c d say runs says steps MAX_OPEN lt)

  -- of the one word that the token says
  pub hopeless-step : {w : Word} → Says t w → step c w ≡ None → IsHopeless (ts ++ t ∷ us) (length ts)
  hopeless-step {w} says stops = hopeless-next (λ v h. ap (step c) (one-word t v w h says) ∙ stops)
