-- Where the machine comes to definitions, what it took spells them: a relation for each configuration.
-- Serves: read_peg
use Rattle.std.proofs.Common.{◌≡◌, ℕ, Option, Some, None, List, [], ◌∷◌, ◌++◌, refl, ◌∙◌, ap, ◌⊎◌, inl, inr}
use Rattle.std.proofs.Common.{append_assoc as list_assoc}
use Rattle.ruletable.specs.declared.span.Span.{Span}
use Rattle.pegread.specs.Pattern as e
use Rattle.pegread.specs.Pattern.{Pattern, Opt, And, Not, Name, Patterns, none, more, Rule}
use Rattle.pegread.specs.Words.{Word, Ident, Arrow, Begin, EndCap, Slash, Amp, Bang, Quest, Star, Plus, Dot, LParen}
use Rattle.pegread.specs.Words.{RParen, Literal, Class, Action, End}
use Rattle.pegread.specs.Spelling.{sequence, choice, NoAction, Primary, name, literal, class, dot, action, begin}
use Rattle.pegread.specs.Spelling.{end_cap, parens, Suffixed, bare, quest, star, plus, Prefixed, plain, bang, amp}
use Rattle.pegread.specs.Spelling.{Items, no_item, item, Alternatives, only, further, expression, rule_at, Grammar}
use Rattle.pegread.specs.Spelling.{last_definition, more_definitions}
use Rattle.pegread.specs.Machine.{append, snoc, finish, Mark, no_mark, not_mark, and_mark, apply, fresh, read}
use Rattle.pegread.specs.Machine.{read_name, Level, level, Head, head, ended, Config, start, named, body, done}
use Rattle.pegread.specs.Machine.{fresh_step, read_step, name_step, step, run}
use Rattle.pegread.proofs.GrammarMachineLemmas.{append-none, append_assoc, MarkOk, ok-no_mark, ok-not_mark}
use Rattle.pegread.proofs.GrammarMachineLemmas.{ok-no_action}

-- the rest of an expression whose alternatives bs and last items es stand
pub data Tail (bs es : Patterns) : List Word → List Word → Patterns → Type 0 where
  ends : {s r : List Word} {fs : Patterns} → Items s r fs → Tail bs es s r (snoc bs (sequence (append es fs)))
  goes : {s m r : List Word} {fs cs : Patterns} → Items s (Slash ∷ m) fs → Alternatives m r cs
      → Tail bs es s r (append bs (more (sequence (append es fs)) cs))

-- a suffix, or none
pub data Suffix (x : Pattern) : List Word → List Word → Pattern → Type 0 where
  no_suffix : {r : List Word} → Suffix x r r x
  quested : {r : List Word} → Suffix x (Quest ∷ r) r (Opt x)
  starred : {r : List Word} → Suffix x (Star ∷ r) r (e.Star x)
  plused : {r : List Word} → Suffix x (Plus ∷ r) r (e.Plus x)

module _ (K : Pattern → List Word → Type 0) where
  -- the rest of the expression, and then K
  abbrev pub Going : Patterns → Patterns → List Word → Type 0
  Going bs es s = (r : List Word) × (cs : Patterns) × Tail bs es s r cs × K (choice cs) r

  -- after a primary
  abbrev pub After : Mark → Patterns → Patterns → Pattern → List Word → Type 0
  After m bs es x s = (r : List Word) × (y : Pattern) × Suffix x s r y × Going bs (snoc es (apply m y)) r

  -- after a prefix operator, or where none waits
  abbrev pub Marked : Mark → Patterns → Patterns → List Word → Type 0
  Marked no_mark bs es s = Going bs es s
  Marked not_mark bs es s = (r : List Word) × (x : Pattern) × Suffixed s r x × Going bs (snoc es (Not x)) r
  Marked and_mark bs es s = (r : List Word) × (x : Pattern) × NoAction s × Suffixed s r x × Going bs (snoc es (And x)) r

-- after the definitions ds: the end, or further ones
abbrev pub Finished : List Rule → List Rule → List Word → Type 0
Finished g ds s = ((s ≡ End ∷ []) × (g ≡ ds)) ⊎ ((rules : List Rule) × Grammar s rules × (g ≡ ds ++ rules))

-- after an expression that all these levels stand round
abbrev pub Close : List Rule → Head → List Level → Pattern → List Word → Type 0
Close g h [] x s = Finished g (ended h x) s
Close g h (level b f m ∷ o) x s = (r : List Word) × (s ≡ RParen ∷ r) × After (Close g h o) m b f x r

-- a name that was taken begins a definition
abbrev pub Defines : List Rule → Head → List Level → Patterns → Patterns → Mark → List ℕ → Span → List Word → Type 0
Defines g h [] bs es no_mark n p s = (rules : List Rule) × Grammar (Ident n p ∷ s) rules
    × (g ≡ ended h (finish bs es) ++ rules)
Defines g h _ bs es _ n p s = ⊥

-- s completes the configuration to the definitions g
abbrev pub Rest : List Rule → Config → List Word → Type 0
Rest g start s = Grammar s g
Rest g (named n p) s = Grammar (Ident n p ∷ s) g
Rest g (body h o bs es m fresh) s = Marked (Close g h o) m bs es s
Rest g (body h o bs es m (read x)) s = After (Close g h o) m bs es x s
Rest g (body h o bs es m (read_name n p)) s = After (Close g h o) m bs es (Name n) s ⊎ Defines g h o bs es m n p s
Rest g (done ds) s = (s ≡ []) × (g ≡ ds)

abbrev pub RestOf : List Rule → Option Config → List Word → Type 0
RestOf g None s = ⊥
RestOf g (Some c) s = Rest g c s

module _ (K : Pattern → List Word → Type 0) (bs es : Patterns) where
  join-tail : {s m r : List Word} {x : Pattern} {cs : Patterns} → Prefixed s m x → Tail bs (snoc es x) m r cs
      → Tail bs es s r cs
  join-tail {s} {m} {r} {x} p (ends {fs} xs) = let same = append_assoc es (more x none) fs in
      let t : Tail bs es s r (snoc bs (sequence (append es (more x fs)))) = ends (item p xs) in rw same t
  join-tail {s} {m} {r} {x} p (goes {fs} {cs} xs y) = let same = append_assoc es (more x none) fs in
      let t : Tail bs es s r (append bs (more (sequence (append es (more x fs))) cs)) = goes (item p xs) y in rw same t

  join-item : {s r : List Word} {x : Pattern} → Prefixed s r x → Going K bs (snoc es x) r → Going K bs es s
  join-item p h = (h.0, h.1, join-tail p h.2, h.3)

  suffixed-rest : (m : Mark) {s r : List Word} {x : Pattern} → MarkOk m s → Suffixed s r x
      → Going K bs (snoc es (apply m x)) r → Marked K m bs es s
  unfolding MarkOk
  suffixed-rest no_mark k x h = join-item (plain x) h
  suffixed-rest not_mark k x h = (_, _, x, h)
  suffixed-rest and_mark k x h = (_, _, k refl, x, h)

  suffix-of : {s t r : List Word} {x y : Pattern} → Primary s t x → Suffix x t r y → Suffixed s r y
  suffix-of p no_suffix = bare p
  suffix-of p quested = quest p
  suffix-of p starred = star p
  suffix-of p plused = plus p

  primary-rest : (m : Mark) {s t : List Word} {x : Pattern} → MarkOk m s → Primary s t x → After K m bs es x t
      → Marked K m bs es s
  primary-rest m k p h = suffixed-rest m k (suffix-of p h.2) h.3

-- the expression ends here
ends-here : (K : Pattern → List Word → Type 0) (bs es : Patterns) (s : List Word) → K (finish bs es) s → Going K bs es s
ends-here K bs es s h = (
  s,
  snoc bs (sequence es),
  (let t : Tail bs es s s (snoc bs (sequence (append es none))) = ends no_item in rw (append-none es) at t),
  h,
)

-- a slash ends the sequence
slash-tail : (bs es : Patterns) {s r : List Word} {cs : Patterns} → Tail (snoc bs (sequence es)) none s r cs
    → Tail bs es (Slash ∷ s) r cs
slash-tail bs es {s} {r} (ends {fs} x) =
    let t : Tail bs es (Slash ∷ s) r (append bs (more (sequence (append es none)) (more (sequence fs) none))) =
    goes no_item (only x) in
    let same = append_assoc bs (more (sequence es) none) (more (sequence fs) none) in
    rw same (rw (append-none es) at t)
slash-tail bs es {s} {r} (goes {fs} {cs} x y) =
    let t : Tail bs es (Slash ∷ s) r (append bs (more (sequence (append es none)) (more (sequence fs) cs))) =
    goes no_item (further x y) in
    let same = append_assoc bs (more (sequence es) none) (more (sequence fs) cs) in
    rw same (rw (append-none es) at t)

all-alternatives : {s r : List Word} {cs : Patterns} → Tail none none s r cs → Alternatives s r cs
all-alternatives (ends x) = only x
all-alternatives (goes x y) = further x y

back-fresh : (g : List Rule) (h : Head) (o : List Level) (bs es : Patterns) (m : Mark) (w : Word) (t : List Word)
    → RestOf g (fresh_step h o bs es m w) t → Marked (Close g h o) m bs es (w ∷ t)
back-fresh g h o bs es m (Ident n p) t (inl k) = primary-rest (Close g h o) bs es m (ok-no_action m _ tt) name k
back-fresh g h [] bs es no_mark (Ident n p) t (inr k) = ends-here (Close g h []) bs es (Ident n p ∷ t) (inr k)
back-fresh g h (l ∷ o) bs es no_mark (Ident n p) t (inr k) = absurd k
back-fresh g h [] bs es not_mark (Ident n p) t (inr k) = absurd k
back-fresh g h (l ∷ o) bs es not_mark (Ident n p) t (inr k) = absurd k
back-fresh g h [] bs es and_mark (Ident n p) t (inr k) = absurd k
back-fresh g h (l ∷ o) bs es and_mark (Ident n p) t (inr k) = absurd k
back-fresh g h o bs es m (Literal z) t k = primary-rest (Close g h o) bs es m (ok-no_action m _ tt) literal k
back-fresh g h o bs es m (Class f) t k = primary-rest (Close g h o) bs es m (ok-no_action m _ tt) class k
back-fresh g h o bs es m Dot t k = primary-rest (Close g h o) bs es m (ok-no_action m _ tt) dot k
back-fresh g h o bs es m Begin t k = primary-rest (Close g h o) bs es m (ok-no_action m _ tt) begin k
back-fresh g h o bs es m EndCap t k = primary-rest (Close g h o) bs es m (ok-no_action m _ tt) end_cap k
back-fresh g h o bs es no_mark (Action z) t k = primary-rest (Close g h o) bs es no_mark (ok-no_mark _) action k
back-fresh g h o bs es not_mark (Action z) t k = primary-rest (Close g h o) bs es not_mark (ok-not_mark _) action k
back-fresh g h o bs es and_mark (Action z) t k = absurd k
back-fresh g h o bs es m LParen t k =
    let inner = all-alternatives k.2 in
    let after = k.3 in
    primary-rest (Close g h o) bs es m (ok-no_action m _ tt) (parens (expression (rw after.1 at inner))) after.2
back-fresh g h o bs es no_mark Bang t k = join-item (Close g h o) bs es (bang k.2) k.3
back-fresh g h o bs es not_mark Bang t k = absurd k
back-fresh g h o bs es and_mark Bang t k = absurd k
back-fresh g h o bs es no_mark Amp t k = join-item (Close g h o) bs es (amp k.2 k.3) k.4
back-fresh g h o bs es not_mark Amp t k = absurd k
back-fresh g h o bs es and_mark Amp t k = absurd k
back-fresh g h o bs es no_mark Slash t k = (k.0, k.1, slash-tail bs es k.2, k.3)
back-fresh g h o bs es not_mark Slash t k = absurd k
back-fresh g h o bs es and_mark Slash t k = absurd k
back-fresh g h [] bs es no_mark RParen t k = absurd k
back-fresh g h (level b f m ∷ o) bs es no_mark RParen t k = ends-here (Close g h (level b f m ∷ o)) bs es (RParen ∷ t)
    (t, refl, k)
back-fresh g h o bs es not_mark RParen t k = absurd k
back-fresh g h o bs es and_mark RParen t k = absurd k
back-fresh g h [] bs es no_mark End t k = ends-here (Close g h []) bs es (End ∷ t)
    (inl (ap (λ (x : List Word). End ∷ x) k.0, k.1))
back-fresh g h (l ∷ o) bs es no_mark End t k = absurd k
back-fresh g h o bs es not_mark End t k = absurd k
back-fresh g h o bs es and_mark End t k = absurd k
back-fresh g h o bs es m Arrow t k = absurd k
back-fresh g h o bs es m Quest t k = absurd k
back-fresh g h o bs es m Star t k = absurd k
back-fresh g h o bs es m Plus t k = absurd k

back-read : (g : List Rule) (h : Head) (o : List Level) (bs es : Patterns) (m : Mark) (x : Pattern) (w : Word)
    (t : List Word) → RestOf g (read_step h o bs es m x w) t → After (Close g h o) m bs es x (w ∷ t)
back-read g h o bs es m x Quest t k = (t, Opt x, quested, k)
back-read g h o bs es m x Star t k = (t, e.Star x, starred, k)
back-read g h o bs es m x Plus t k = (t, e.Plus x, plused, k)
back-read g h o bs es m x w t k = (w ∷ t, x, no_suffix, back-fresh g h o bs (snoc es (apply m x)) no_mark w t k)

-- a definition and what follows it
marked-defines : {g : List Rule} {t : List Word} (ds : List Rule) (n : List ℕ) (p : Span)
    → Marked (Close g (head ds n p) []) no_mark none none t → (rules : List Rule)
    × Grammar (Ident n p ∷ Arrow ∷ t) rules × (g ≡ ds ++ rules)
marked-defines {g} {t} ds n p (r, cs, tail, inl x) = (
  rule_at n p (choice cs) ∷ [],
  last_definition (expression (let w = all-alternatives tail in rw x.0 at w)),
  x.1,
)
marked-defines {g} {t} ds n p (r, cs, tail, inr (rules, grammar, same)) = (
  rule_at n p (choice cs) ∷ rules,
  more_definitions (expression (all-alternatives tail)) grammar,
  same ∙ list_assoc ds (rule_at n p (choice cs) ∷ []) rules,
)

back-name : (g : List Rule) (h : Head) (o : List Level) (bs es : Patterns) (m : Mark) (n : List ℕ) (p : Span) (w : Word)
    (t : List Word) → RestOf g (name_step h o bs es m n p w) t → After (Close g h o) m bs es (Name n) (w ∷ t)
    ⊎ Defines g h o bs es m n p (w ∷ t)
back-name g h [] bs es no_mark n p Arrow t k = inr (marked-defines (ended h (finish bs es)) n p k)
back-name g h [] bs es not_mark n p Arrow t k = absurd k
back-name g h [] bs es and_mark n p Arrow t k = absurd k
back-name g h (l ∷ o) bs es m n p Arrow t k = absurd k
back-name g h o bs es m n p w t k = inl (back-read g h o bs es m (Name n) w t k)

step-back : (g : List Rule) (c : Config) (w : Word) (t : List Word) → RestOf g (step c w) t → Rest g c (w ∷ t)
step-back g start (Ident n p) t k = k
step-back g start _ t k = absurd k
step-back g (named n p) Arrow t k = let d = marked-defines [] n p k in rw (d.2) d.1
step-back g (named n p) _ t k = absurd k
step-back g (body h o bs es m fresh) w t k = back-fresh g h o bs es m w t k
step-back g (body h o bs es m (read x)) w t k = back-read g h o bs es m x w t k
step-back g (body h o bs es m (read_name n p)) w t k = back-name g h o bs es m n p w t k
step-back g (done ds) w t k = absurd k

at_end : (g : List Rule) (c : Config) → c ≡ done g → Rest g c []
at_end g c same = rw same (refl, refl)

rest-onwards : (g : List Rule) (s : List Word) → ((d : Config) → run d s ≡ Some (done g) → Rest g d s)
    → (x : Option Config)
    → (elim x [ None ↦ None | Some d ↦ run d s ]) ≡ Some (done g) → RestOf g x s
rest-onwards g s f None same = cc
rest-onwards g s f (Some d) same = f d same

-- what the machine takes on the way to definitions completes the configuration to them
run-rest : (g : List Rule) (s : List Word) (c : Config) → run c s ≡ Some (done g) → Rest g c s
run-rest g [] c h = at_end g c (let same : c ≡ done g = cc in same)
run-rest g (w ∷ s) c h = step-back g c w s (rest-onwards g s (λ d. run-rest g s d) (step c w) h)

pub runs-grammar : (rules : List Rule) (ws : List Word) → run start ws ≡ Some (done rules) → Grammar ws rules
runs-grammar rules ws h = run-rest rules ws start h
