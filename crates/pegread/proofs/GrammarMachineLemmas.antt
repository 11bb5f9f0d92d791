-- What spells a grammar leads the machine to its definitions.
-- Serves: is_read_back, one_tree, read_peg
use Rattle.std.proofs.Common.{◌≡◌, ℕ, Some, List, [], ◌∷◌, ◌++◌, refl, ◌∙◌, ap, append_assoc as list_assoc, ◌<◌, length}
use Rattle.std.proofs.Common.{arith}
use Rattle.ruletable.specs.declared.span.Span.{Span}
use Rattle.pegread.specs.Pattern as e
use Rattle.pegread.specs.Pattern.{Pattern, Any, Bytes, Set, Name, Opt, And, Not, Act, Open, Close, Patterns, none, more}
use Rattle.pegread.specs.Pattern.{Rule}
use Rattle.pegread.specs.Words.{Word, Ident, Arrow, Begin, EndCap, Slash, Amp, Bang, Quest, Star, Plus, Dot, LParen}
use Rattle.pegread.specs.Words.{RParen, Literal, Class, Action, End}
use Rattle.pegread.specs.Spelling.{sequence, choice, NoAction, Primary, name, literal, class, dot, action, begin}
use Rattle.pegread.specs.Spelling.{end_cap, parens, Suffixed, bare, quest, star, plus, Prefixed, plain, bang, amp}
use Rattle.pegread.specs.Spelling.{Items, no_item, item, Alternatives, only, further, Expression, expression, rule_at}
use Rattle.pegread.specs.Spelling.{Grammar, last_definition, more_definitions}
use Rattle.pegread.specs.Machine.{append, snoc, finish, Mark, no_mark, not_mark, and_mark, apply, Last, fresh, read}
use Rattle.pegread.specs.Machine.{read_name, Level, level, Head, head, ended, Config, start, body, done, run}

pub append-none : (es : Patterns) → append es none ≡ es
append-none none = refl
append-none (more x es) = ap (more x) (append-none es)

pub append_assoc : (es fs gs : Patterns) → append (append es fs) gs ≡ append es (append fs gs)
append_assoc none fs gs = refl
append_assoc (more x es) fs gs = ap (more x) (append_assoc es fs gs)

-- an action does not stand right after an `&`
unfoldable pub MarkOk : Mark → List Word → Type 0
MarkOk m s = m ≡ and_mark → NoAction s

pub ok-no_mark : (s : List Word) → MarkOk no_mark s
unfolding MarkOk
ok-no_mark s = λ h. cc

pub ok-not_mark : (s : List Word) → MarkOk not_mark s
unfolding MarkOk
ok-not_mark s = λ h. cc

pub ok-no_action : (m : Mark) (s : List Word) → NoAction s → MarkOk m s
unfolding MarkOk
ok-no_action m s n = λ h. n

-- the primary x was taken last
pub data IsLast : Last → Pattern → Type 0 where
  is_read : {x : Pattern} → IsLast (read x) x
  is_name : {n : List ℕ} {p : Span} → IsLast (read_name n p) (Name n)

-- a configuration in which the items of the sequence are es, whether the last one may still take a suffix or not
pub data Settled (h : Head) (o : List Level) (bs : Patterns) : Patterns → Config → Type 0 where
  at_fresh : {es : Patterns} → Settled h o bs es (body h o bs es no_mark fresh)
  at_last : {es : Patterns} {m : Mark} {x : Pattern} {l : Last} → IsLast l x
      → Settled h o bs (snoc es (apply m x)) (body h o bs es m l)

pub record Goes (h : Head) (o : List Level) (bs es : Patterns) (c : Config) (s r : List Word) : Type 0 where
  pub to : Config
  pub settled : Settled h o bs es to
  pub runs : run c s ≡ run to r

-- after an expression x was taken in a level of its own
pub record Over (h : Head) (o : List Level) (x : Pattern) (c : Config) (s r : List Word) : Type 0 where
  pub bs : Patterns
  pub es : Patterns
  pub goes : Goes h o bs es c s r
  pub whole : finish bs es ≡ x

-- the words that begin an item
abbrev pub IsStart : List Word → Type 0
IsStart (Ident n p ∷ s) = Unit {0}
IsStart (Literal z ∷ s) = Unit {0}
IsStart (Class f ∷ s) = Unit {0}
IsStart (Dot ∷ s) = Unit {0}
IsStart (Action t ∷ s) = Unit {0}
IsStart (Begin ∷ s) = Unit {0}
IsStart (EndCap ∷ s) = Unit {0}
IsStart (LParen ∷ s) = Unit {0}
IsStart (Bang ∷ s) = Unit {0}
IsStart (Amp ∷ s) = Unit {0}
IsStart _ = ⊥

primary-starts : {s r : List Word} {x : Pattern} → Primary s r x → IsStart s
primary-starts name = tt
primary-starts literal = tt
primary-starts class = tt
primary-starts dot = tt
primary-starts action = tt
primary-starts begin = tt
primary-starts end_cap = tt
primary-starts (parens y) = tt

prefixed-starts : {s r : List Word} {x : Pattern} → Prefixed s r x → IsStart s
prefixed-starts (plain (bare p)) = primary-starts p
prefixed-starts (plain (quest p)) = primary-starts p
prefixed-starts (plain (star p)) = primary-starts p
prefixed-starts (plain (plus p)) = primary-starts p
prefixed-starts (bang p) = tt
prefixed-starts (amp n p) = tt

-- an item begins alike after a primary and where nothing waits
read-joins : (h : Head) (o : List Level) (bs es : Patterns) (m : Mark) (x : Pattern) (s : List Word) → IsStart s
    → run (body h o bs es m (read x)) s ≡ run (body h o bs (snoc es (apply m x)) no_mark fresh) s
read-joins h o bs es m x (Ident n p ∷ s) i = refl
read-joins h o bs es m x (Literal z ∷ s) i = refl
read-joins h o bs es m x (Class f ∷ s) i = refl
read-joins h o bs es m x (Dot ∷ s) i = refl
read-joins h o bs es m x (Action t ∷ s) i = refl
read-joins h o bs es m x (Begin ∷ s) i = refl
read-joins h o bs es m x (EndCap ∷ s) i = refl
read-joins h o bs es m x (LParen ∷ s) i = refl
read-joins h o bs es m x (Bang ∷ s) i = refl
read-joins h o bs es m x (Amp ∷ s) i = refl
read-joins h o bs es m x _ i = absurd i

name-joins : (h : Head) (o : List Level) (bs es : Patterns) (m : Mark) (n : List ℕ) (p : Span) (s : List Word)
    → IsStart s → run (body h o bs es m (read_name n p)) s ≡ run (body h o bs es m (read (Name n))) s
name-joins h o bs es m n p (Ident k q ∷ s) i = refl
name-joins h o bs es m n p (Literal z ∷ s) i = refl
name-joins h o bs es m n p (Class f ∷ s) i = refl
name-joins h o bs es m n p (Dot ∷ s) i = refl
name-joins h o bs es m n p (Action t ∷ s) i = refl
name-joins h o bs es m n p (Begin ∷ s) i = refl
name-joins h o bs es m n p (EndCap ∷ s) i = refl
name-joins h o bs es m n p (LParen ∷ s) i = refl
name-joins h o bs es m n p (Bang ∷ s) i = refl
name-joins h o bs es m n p (Amp ∷ s) i = refl
name-joins h o bs es m n p _ i = absurd i

settled-joins : {h : Head} {o : List Level} {bs es : Patterns} {c : Config} (s : List Word) → Settled h o bs es c
    → IsStart s
    → run c s ≡ run (body h o bs es no_mark fresh) s
settled-joins s at_fresh i = refl
settled-joins s (at_last is_read) i = read-joins _ _ _ _ _ _ s i
settled-joins s (at_last is_name) i = name-joins _ _ _ _ _ _ _ s i ∙ read-joins _ _ _ _ _ _ s i

-- what a settled configuration does at the words that end a sequence
slash-goes : {h : Head} {o : List Level} {bs es : Patterns} {c : Config} (s : List Word) → Settled h o bs es c
    → run c (Slash ∷ s) ≡ run (body h o (snoc bs (sequence es)) none no_mark fresh) s
slash-goes s at_fresh = refl
slash-goes s (at_last is_read) = refl
slash-goes s (at_last is_name) = refl

close-goes : {h : Head} {o : List Level} {b f : Patterns} {m : Mark} {bs es : Patterns} {c : Config} (s : List Word)
    → Settled h (level b f m ∷ o) bs es c → run c (RParen ∷ s) ≡ run (body h o b f m (read (finish bs es))) s
close-goes s at_fresh = refl
close-goes s (at_last is_read) = refl
close-goes s (at_last is_name) = refl

end-goes : {h : Head} {bs es : Patterns} {c : Config} (s : List Word) → Settled h [] bs es c
    → run c (End ∷ s) ≡ run (done (ended h (finish bs es))) s
end-goes s at_fresh = refl
end-goes s (at_last is_read) = refl
end-goes s (at_last is_name) = refl

next-goes : {h : Head} {bs es : Patterns} {c : Config} (n : List ℕ) (p : Span) (s : List Word) → Settled h [] bs es c
    → run c (Ident n p ∷ Arrow ∷ s) ≡ run (body (head (ended h (finish bs es)) n p) [] none none no_mark fresh) s
next-goes n p s at_fresh = refl
next-goes n p s (at_last is_read) = refl
next-goes n p s (at_last is_name) = refl

pub record Primaried (h : Head) (o : List Level) (bs es : Patterns) (m : Mark) (x : Pattern) (s r : List Word) : Type
    0 where
  pub last : Last
  pub is_last : IsLast last x
  pub runs : run (body h o bs es m fresh) s ≡ run (body h o bs es m last) r

suffix-quest : (h : Head) (o : List Level) (bs es : Patterns) (m : Mark) {x : Pattern} {l : Last} (s : List Word)
    → IsLast l x → run (body h o bs es m l) (Quest ∷ s) ≡ run (body h o bs (snoc es (apply m (Opt x))) no_mark fresh) s
suffix-quest h o bs es m s is_read = refl
suffix-quest h o bs es m s is_name = refl

suffix-star : (h : Head) (o : List Level) (bs es : Patterns) (m : Mark) {x : Pattern} {l : Last} (s : List Word)
    → IsLast l x → run (body h o bs es m l) (Star ∷ s)
    ≡ run (body h o bs (snoc es (apply m (e.Star x))) no_mark fresh) s
suffix-star h o bs es m s is_read = refl
suffix-star h o bs es m s is_name = refl

suffix-plus : (h : Head) (o : List Level) (bs es : Patterns) (m : Mark) {x : Pattern} {l : Last} (s : List Word)
    → IsLast l x → run (body h o bs es m l) (Plus ∷ s)
    ≡ run (body h o bs (snoc es (apply m (e.Plus x))) no_mark fresh) s
suffix-plus h o bs es m s is_read = refl
suffix-plus h o bs es m s is_name = refl

action-goes : (h : Head) (o : List Level) (bs es : Patterns) (t : List ℕ) (r : List Word) (m : Mark)
    → MarkOk m (Action t ∷ r) → run (body h o bs es m fresh) (Action t ∷ r) ≡ run (body h o bs es m (read (Act t))) r
unfolding MarkOk
action-goes h o bs es t r no_mark k = refl
action-goes h o bs es t r not_mark k = refl
action-goes h o bs es t r and_mark k = absurd (k refl)

mutual
  pass-primary : (h : Head) (o : List Level) (bs es : Patterns) (m : Mark) {s r : List Word} {x : Pattern}
      → Primary s r x → MarkOk m s → Primaried h o bs es m x s r
  pass-primary h o bs es m (name {n} {p}) k = record { last = read_name n p; is_last = is_name; runs = refl }
  pass-primary h o bs es m (literal {bs = z}) k = record { last = read (Bytes z); is_last = is_read; runs = refl }
  pass-primary h o bs es m (class {f}) k = record { last = read (Set f); is_last = is_read; runs = refl }
  pass-primary h o bs es m dot k = record { last = read Any; is_last = is_read; runs = refl }
  pass-primary h o bs es m (action {t} {r}) k = record {
    last = read (Act t);
    is_last = is_read;
    runs = action-goes h o bs es t r m k;
  }
  pass-primary h o bs es m begin k = record { last = read Open; is_last = is_read; runs = refl }
  pass-primary h o bs es m end_cap k = record { last = read Close; is_last = is_read; runs = refl }
  pass-primary h o bs es m (parens {s} {r} {x} y) k =
      let p = pass-expression h (level bs es m ∷ o) y in
      record {
        last = read x;
        is_last = is_read;
        runs = p.goes.runs ∙ close-goes r p.goes.settled ∙ ap (λ (t : Pattern).
            run (body h o bs es m (read t)) r) p.whole;
      }

  pass-suffixed : (h : Head) (o : List Level) (bs es : Patterns) (m : Mark) {s r : List Word} {x : Pattern}
      → Suffixed s r x → MarkOk m s → Goes h o bs (snoc es (apply m x)) (body h o bs es m fresh) s r
  pass-suffixed h o bs es m (bare y) k = let p = pass-primary h o bs es m y k in
      record { to = body h o bs es m p.last; settled = at_last p.is_last; runs = p.runs }
  pass-suffixed h o bs es m (quest {s} {r} {x} y) k = let p = pass-primary h o bs es m y k in
      record {
        to = body h o bs (snoc es (apply m (Opt x))) no_mark fresh;
        settled = at_fresh;
        runs = p.runs ∙ suffix-quest h o bs es m r p.is_last;
      }
  pass-suffixed h o bs es m (star {s} {r} {x} y) k = let p = pass-primary h o bs es m y k in
      record {
        to = body h o bs (snoc es (apply m (e.Star x))) no_mark fresh;
        settled = at_fresh;
        runs = p.runs ∙ suffix-star h o bs es m r p.is_last;
      }
  pass-suffixed h o bs es m (plus {s} {r} {x} y) k = let p = pass-primary h o bs es m y k in
      record {
        to = body h o bs (snoc es (apply m (e.Plus x))) no_mark fresh;
        settled = at_fresh;
        runs = p.runs ∙ suffix-plus h o bs es m r p.is_last;
      }

  pass-prefixed : (h : Head) (o : List Level) (bs es : Patterns) {s r : List Word} {x : Pattern} → Prefixed s r x
      → Goes h o bs (snoc es x) (body h o bs es no_mark fresh) s r
  pass-prefixed h o bs es (plain y) = pass-suffixed h o bs es no_mark y (ok-no_mark _)
  pass-prefixed h o bs es (bang y) = let p = pass-suffixed h o bs es not_mark y (ok-not_mark _) in
      record { to = p.to; settled = p.settled; runs = p.runs }
  pass-prefixed h o bs es (amp n y) = let p = pass-suffixed h o bs es and_mark y (ok-no_action _ _ n) in
      record { to = p.to; settled = p.settled; runs = p.runs }

  pass-items : (h : Head) (o : List Level) (bs es : Patterns) (c : Config) → Settled h o bs es c
      → {s r : List Word} {fs : Patterns} → Items s r fs → Goes h o bs (append es fs) c s r
  pass-items h o bs es c k no_item = record { to = c; settled = rw (append-none es) k; runs = refl }
  pass-items h o bs es c k (item {s} {m} {r} {x} {xs = fs} y ys) =
      let p = pass-prefixed h o bs es y in
      let q = pass-items h o bs (snoc es x) p.to p.settled ys in
      record {
        to = q.to;
        settled = (let same = append_assoc es (more x none) fs in rw same at q.settled);
        runs = settled-joins s k (prefixed-starts y) ∙ p.runs ∙ q.runs;
      }

  pass-alternatives : (h : Head) (o : List Level) (bs : Patterns) {s r : List Word} {cs : Patterns}
      → Alternatives s r cs → Over h o (choice (append bs cs)) (body h o bs none no_mark fresh) s r
  pass-alternatives h o bs (only {s} {r} {xs} y) =
      record { bs = bs; es = xs; goes = pass-items h o bs none _ at_fresh y; whole = refl }
  pass-alternatives h o bs (further {s} {m} {r} {xs} {ys = cs} y z) =
      let p = pass-items h o bs none _ at_fresh y in
      let q = pass-alternatives h o (snoc bs (sequence xs)) z in
      record {
        bs = q.bs;
        es = q.es;
        goes = record {
          to = q.goes.to;
          settled = q.goes.settled;
          runs = p.runs ∙ slash-goes m p.settled ∙ q.goes.runs;
        };
        whole = q.whole ∙ ap choice (append_assoc bs (more (sequence xs) none) cs);
      }

  pass-expression : (h : Head) (o : List Level) {s r : List Word} {x : Pattern} → Expression s r x
      → Over h o x (body h o none none no_mark fresh) s r
  pass-expression h o (expression y) = pass-alternatives h o none y

-- a name and an arrow begin a definition after these
abbrev Enters : List Rule → Config → Type 0
Enters ds c = (n : List ℕ) (p : Span) (s : List Word) → run c (Ident n p ∷ Arrow ∷ s)
    ≡ run (body (head ds n p) [] none none no_mark fresh) s

pass-definitions : (ds : List Rule) (c : Config) → Enters ds c → {s : List Word} {rules : List Rule} → Grammar s rules
    → run c s ≡ Some (done (ds ++ rules))
pass-definitions ds c enters (last_definition {n} {p} {s} {x} y) =
    let q = pass-expression (head ds n p) [] y in
    enters n p s ∙ q.goes.runs ∙ end-goes [] q.goes.settled
    ∙ ap (λ (t : Pattern). Some (done (ds ++ rule_at n p t ∷ []))) q.whole
pass-definitions ds c enters (more_definitions {n} {p} {s} {m} {x} {rules} y ys) =
    let q = pass-expression (head ds n p) [] y in
    enters n p s ∙ q.goes.runs ∙ pass-definitions (ended (head ds n p) (finish q.bs q.es)) q.goes.to
    (λ k at t. next-goes k at t q.goes.settled) ys
    ∙ ap (λ (t : Pattern). Some (done ((ds ++ rule_at n p t ∷ []) ++ rules))) q.whole
    ∙ ap (λ (t : List Rule). Some (done t)) (list_assoc ds (rule_at n p x ∷ []) rules)

-- what spells a grammar leads the machine to it
pub grammar-runs : {ws : List Word} {rules : List Rule} → Grammar ws rules → run start ws ≡ Some (done rules)
grammar-runs g = pass-definitions [] start (λ n p s. refl) g

-- a list of words spells one grammar at most
pub one-grammar : {ws : List Word} {a b : List Rule} → Grammar ws a → Grammar ws b → a ≡ b
one-grammar g k = let same = grammar-runs g in let other = grammar-runs k in cc

-- a grammar has a definition
pub grammar-some : {ws : List Word} {rules : List Rule} → Grammar ws rules → 0 < length rules
grammar-some (last_definition h) = omega arith
grammar-some (more_definitions h hs) = omega arith
