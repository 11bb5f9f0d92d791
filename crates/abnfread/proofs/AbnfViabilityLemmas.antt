-- Words begin rules exactly if the machine can take them.
-- Serves: read_abnf
use Rattle.std.proofs.Common.{◌≡◌, true, false, Some, None, List, [], ◌∷◌, refl}
use Rattle.lexer.proofs.ViabilityLemmas as taking
use Rattle.ruletable.specs.declared.span.Span.{Span}
use Rattle.abnfread.specs.Element as e
use Rattle.abnfread.specs.Element.{Element, Elements, none, more, Opt, Definition}
use Rattle.abnfread.specs.AbnfWords.{Word, word, Name, Is, Text, End}
use Rattle.abnfread.specs.AbnfSpelling.{Grammar, Begins}
use Rattle.abnfread.specs.AbnfMachine.{snoc, finish, times, apply, paren, brack, Level, level, Head, ended, fresh}
use Rattle.abnfread.specs.AbnfMachine.{awaits, read, Config, start, named, body, done, step, run}
use Rattle.abnfread.proofs.AbnfMachineLemmas.{grammar-runs}
use Rattle.abnfread.proofs.AbnfSpellingLemmas.{closer, runs-grammar}

record Completes (c : Config) (s : List Word) : Type 0 where
  rules : List Definition
  runs : run c s ≡ Some (done rules)

-- closes all brackets, and ends
abbrev closers : List Level → List Word
closers [] = word false false End ∷ []
closers (level b f t k ∷ o) = word false false (closer k) ∷ closers o

-- an element
abbrev filler : Word
filler = word false false (Text false [])

completes-read : (o : List Level) (h : Head) (bs es : Elements) → Completes (body h o bs es read) (closers o)
completes-read [] h bs es = record { rules = ended h (finish bs es); runs = refl }
completes-read (level b f t paren ∷ o) h bs es = let c = completes-read o h b (snoc f (apply t (finish bs es))) in
    record { rules = c.rules; runs = c.runs }
completes-read (level b f t brack ∷ o) h bs es = let c = completes-read o h b (snoc f (apply t (Opt (finish bs es)))) in
    record { rules = c.rules; runs = c.runs }

no_span : Span
no_span = record { start = 0; end = 0 }

any-completes : (c : Config) → (s : List Word) × Completes c s
any-completes start = (
  word false true (Name [] no_span) ∷ word false false Is ∷ filler ∷ word false false End ∷ [],
  record { rules = _; runs = refl },
)
any-completes (named ds n p) = (
  word false false Is ∷ filler ∷ word false false End ∷ [],
  record { rules = _; runs = refl },
)
any-completes (body h o bs es fresh) = let c = completes-read o h bs (snoc es (e.Text false [])) in
    (filler ∷ closers o, record { rules = c.rules; runs = c.runs })
any-completes (body h o bs es (awaits a b)) =
    let c = completes-read o h bs (snoc es (apply (times a b) (e.Text false [])))
    in (filler ∷ closers o, record { rules = c.rules; runs = c.runs })
any-completes (body h o bs es read) = (closers o, completes-read o h bs es)
any-completes (done ds) = ([], record { rules = ds; runs = refl })

run-completed : (c : Config) → (s : List Word) × (g : List Definition) × (run c s ≡ Some (done g))
run-completed c = let q = any-completes c in (q.0, q.1.rules, q.1.runs)

pub runs-begins : (ws : List Word) (c : Config) → run start ws ≡ Some c → Begins ws
runs-begins = taking.runs-begins step Grammar start done (λ ws g h. grammar-runs h) (λ ws g h. runs-grammar g ws h)
    run-completed

pub stops-begins : (ws : List Word) → run start ws ≡ None → Begins ws → ⊥
stops-begins = taking.stops-begins step Grammar start done (λ ws g h. grammar-runs h) (λ ws g h. runs-grammar g ws h)
    run-completed
