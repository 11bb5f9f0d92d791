-- What spells rules leads the machine to them.
-- Serves: read_abnf
use Rattle.std.proofs.Common.{◌≡◌, ℕ, Bool, true, false, Option, Some, None, List, [], ◌∷◌, ◌++◌, refl, ◌∙◌, ap}
use Rattle.std.proofs.Common.{append_assoc as list_assoc}
use Rattle.ruletable.specs.declared.span.Span.{Span}
use Rattle.abnfread.specs.Element.{Element, Elements, none, more, append, Opt, Definition}
use Rattle.abnfread.specs.AbnfWords.{Word, word, Name}
use Rattle.abnfread.specs.AbnfSpelling.{concatenation, alternation, HasGap, HasNoGap, OneElement, name, text, values}
use Rattle.abnfread.specs.AbnfSpelling.{range, prose, parens, brackets, Repetition, once, repeated, Parts, one, further}
use Rattle.abnfread.specs.AbnfSpelling.{Alternatives, only, others, Alternation, alternatives, Assigns, defines}
use Rattle.abnfread.specs.AbnfSpelling.{extends, definition, Grammar, last_rule, more_rules}
use Rattle.abnfread.specs.AbnfMachine.{snoc, finish, Times, just, times, apply, paren, brack, Level, level}
use Rattle.abnfread.specs.AbnfMachine.{Head, head, ended, fresh, awaits, read, Config, start, named, body, done}
use Rattle.abnfread.specs.AbnfMachine.{element_step, fresh_step, run}

pub append-none : (es : Elements) → append es none ≡ es
append-none none = refl
append-none (more x es) = ap (more x) (append-none es)

pub append_assoc : (es fs gs : Elements) → append (append es fs) gs ≡ append es (append fs gs)
append_assoc none fs gs = refl
append_assoc (more x es) fs gs = ap (more x) (append_assoc es fs gs)

abbrev pub run_of : Option Config → List Word → Option Config
run_of None s = None
run_of (Some c) s = run c s

-- the run of a list that begins with an element, and of one that begins with a repetition, whatever stood before
abbrev enters : Head → List Level → Elements → Elements → Times → List Word → Option Config
enters h o bs es t [] = None
enters h o bs es t (word g f s ∷ ws) = run_of (element_step h o bs es t s) ws

abbrev begins : Head → List Level → Elements → Elements → List Word → Option Config
begins h o bs es [] = None
begins h o bs es (word g f s ∷ ws) = run_of (fresh_step h o bs es s) ws

fresh-element : (h : Head) (o : List Level) (bs es : Elements) {s r : List Word} {x : Element} → OneElement s r x
    → begins h o bs es s ≡ enters h o bs es just s
fresh-element h o bs es name = refl
fresh-element h o bs es text = refl
fresh-element h o bs es values = refl
fresh-element h o bs es range = refl
fresh-element h o bs es prose = refl
fresh-element h o bs es (parens y) = refl
fresh-element h o bs es (brackets y) = refl

awaits-element : (h : Head) (o : List Level) (bs es : Elements) (a : ℕ) (b : Option ℕ) {s r : List Word} {x : Element}
    → HasNoGap s → OneElement s r x → run (body h o bs es (awaits a b)) s ≡ enters h o bs es (times a b) s
awaits-element h o bs es a b n (name {g = true}) = cc
awaits-element h o bs es a b n (name {g = false}) = refl
awaits-element h o bs es a b n (text {g = true}) = cc
awaits-element h o bs es a b n (text {g = false}) = refl
awaits-element h o bs es a b n (values {g = true}) = cc
awaits-element h o bs es a b n (values {g = false}) = refl
awaits-element h o bs es a b n (range {g = true}) = cc
awaits-element h o bs es a b n (range {g = false}) = refl
awaits-element h o bs es a b n (prose {g = true}) = cc
awaits-element h o bs es a b n (prose {g = false}) = refl
awaits-element h o bs es a b n (parens {g = true} y) = cc
awaits-element h o bs es a b n (parens {g = false} y) = refl
awaits-element h o bs es a b n (brackets {g = true} y) = cc
awaits-element h o bs es a b n (brackets {g = false} y) = refl

-- where a repetition must begin
fresh-begins : (h : Head) (o : List Level) (bs es : Elements) {s r : List Word} {x : Element} → Repetition s r x
    → run (body h o bs es fresh) s ≡ begins h o bs es s
fresh-begins h o bs es (once name) = refl
fresh-begins h o bs es (once text) = refl
fresh-begins h o bs es (once values) = refl
fresh-begins h o bs es (once range) = refl
fresh-begins h o bs es (once prose) = refl
fresh-begins h o bs es (once (parens y)) = refl
fresh-begins h o bs es (once (brackets y)) = refl
fresh-begins h o bs es (repeated n y) = refl

-- after a repetition and white space
read-begins : (h : Head) (o : List Level) (bs es : Elements) {s r : List Word} {x : Element} → HasGap s
    → Repetition s r x → run (body h o bs es read) s ≡ begins h o bs es s
read-begins h o bs es n (once (name {g = true})) = refl
read-begins h o bs es n (once (name {g = false})) = cc
read-begins h o bs es n (once (text {g = true})) = refl
read-begins h o bs es n (once (text {g = false})) = cc
read-begins h o bs es n (once (values {g = true})) = refl
read-begins h o bs es n (once (values {g = false})) = cc
read-begins h o bs es n (once (range {g = true})) = refl
read-begins h o bs es n (once (range {g = false})) = cc
read-begins h o bs es n (once (prose {g = true})) = refl
read-begins h o bs es n (once (prose {g = false})) = cc
read-begins h o bs es n (once (parens {g = true} y)) = refl
read-begins h o bs es n (once (parens {g = false} y)) = cc
read-begins h o bs es n (once (brackets {g = true} y)) = refl
read-begins h o bs es n (once (brackets {g = false} y)) = cc
read-begins h o bs es n (repeated {g = true} k y) = refl
read-begins h o bs es n (repeated {g = false} k y) = cc

-- after an alternation x was taken in a level of its own
record Over (h : Head) (o : List Level) (x : Element) (c : Option Config) (r : List Word) : Type 0 where
  bs : Elements
  es : Elements
  runs : c ≡ run (body h o bs es read) r
  whole : finish bs es ≡ x

mutual
  pass-element : (h : Head) (o : List Level) (bs es : Elements) (t : Times) {s r : List Word} {x : Element}
      → OneElement s r x → enters h o bs es t s ≡ run (body h o bs (snoc es (apply t x)) read) r
  pass-element h o bs es t name = refl
  pass-element h o bs es t text = refl
  pass-element h o bs es t values = refl
  pass-element h o bs es t range = refl
  pass-element h o bs es t prose = refl
  pass-element h o bs es t (parens {r} y) =
      let p = pass-alternation h (level bs es t paren ∷ o) y in
      p.runs ∙ ap (λ (x : Element). run (body h o bs (snoc es (apply t x)) read) r) p.whole
  pass-element h o bs es t (brackets {r} y) =
      let p = pass-alternation h (level bs es t brack ∷ o) y in
      p.runs ∙ ap (λ (x : Element). run (body h o bs (snoc es (apply t (Opt x))) read) r) p.whole

  pass-repetition : (h : Head) (o : List Level) (bs es : Elements) {s r : List Word} {x : Element} → Repetition s r x
      → begins h o bs es s ≡ run (body h o bs (snoc es x) read) r
  pass-repetition h o bs es (once y) = fresh-element h o bs es y ∙ pass-element h o bs es just y
  pass-repetition h o bs es (repeated {a} {b} n y) = awaits-element h o bs es a b n y
      ∙ pass-element h o bs es (times a b) y

  pass-parts : (h : Head) (o : List Level) (bs es : Elements) {s r : List Word} {xs : Elements} → Parts s r xs
      → begins h o bs es s ≡ run (body h o bs (append es xs) read) r
  pass-parts h o bs es (one y) = pass-repetition h o bs es y
  pass-parts h o bs es (further {m} {r} {x} {xs} y n ys) =
      pass-repetition h o bs es y ∙ read-parts h o bs (snoc es x) n ys ∙ pass-parts h o bs (snoc es x) ys
      ∙ ap (λ (zs : Elements). run (body h o bs zs read) r) (append_assoc es (more x none) xs)

  read-parts : (h : Head) (o : List Level) (bs es : Elements) {s r : List Word} {xs : Elements} → HasGap s
      → Parts s r xs → run (body h o bs es read) s ≡ begins h o bs es s
  read-parts h o bs es n (one y) = read-begins h o bs es n y
  read-parts h o bs es n (further y k ys) = read-begins h o bs es n y

  fresh-parts : (h : Head) (o : List Level) (bs es : Elements) {s r : List Word} {xs : Elements} → Parts s r xs
      → run (body h o bs es fresh) s ≡ begins h o bs es s
  fresh-parts h o bs es (one y) = fresh-begins h o bs es y
  fresh-parts h o bs es (further y k ys) = fresh-begins h o bs es y

  pass-alternatives : (h : Head) (o : List Level) (bs : Elements) {s r : List Word} {ys : Elements}
      → Alternatives s r ys → Over h o (alternation (append bs ys)) (run (body h o bs none fresh) s) r
  pass-alternatives h o bs (only {xs} y) = record {
    bs = bs;
    es = xs;
    runs = fresh-parts h o bs none y ∙ pass-parts h o bs none y;
    whole = refl;
  }
  pass-alternatives h o bs (others {xs} {ys} y z) =
      let q = pass-alternatives h o (snoc bs (concatenation xs)) z in
      record {
        bs = q.bs;
        es = q.es;
        runs = fresh-parts h o bs none y ∙ pass-parts h o bs none y ∙ q.runs;
        whole = q.whole ∙ ap alternation (append_assoc bs (more (concatenation xs) none) ys);
      }

  pass-alternation : (h : Head) (o : List Level) {s r : List Word} {x : Element} → Alternation s r x
      → Over h o x (run (body h o none none fresh) s) r
  pass-alternation h o (alternatives y) = pass-alternatives h o none y

assigned-body : (ds : List Definition) (n : List ℕ) (p : Span) {w : Word} {a : Bool} (s : List Word) → Assigns w a
    → run (named ds n p) (w ∷ s) ≡ run (body (head ds a n p) [] none none fresh) s
assigned-body ds n p s defines = refl
assigned-body ds n p s extends = refl

-- a rule begins after these
abbrev Enters : List Definition → Config → Type 0
Enters ds c = (g : Bool) (n : List ℕ) (p : Span) (s : List Word) → run c (word g true (Name n p) ∷ s)
    ≡ run (named ds n p) s

pass-rules : (ds : List Definition) (c : Config) → Enters ds c → {s : List Word} {rules : List Definition}
    → Grammar s rules → run c s ≡ Some (done (ds ++ rules))
pass-rules ds c enter (last_rule {g} {a = a} {n} {p} {w = v} {s = s} w y) =
    let q = pass-alternation (head ds a n p) [] y in
    enter g n p (v ∷ s) ∙ assigned-body ds n p s w ∙ q.runs
    ∙ ap (λ (x : Element). Some (done (ds ++ definition a n p x ∷ []))) q.whole
pass-rules ds c enter (more_rules {g} {a} {n} {p} {w = v} {s = s} {ds = rules} w y zs) =
    let q = pass-alternation (head ds a n p) [] y in
    enter g n p (v ∷ s) ∙ assigned-body ds n p s w ∙ q.runs ∙ pass-rules (ended (head ds a n p) (finish q.bs q.es))
    (body (head ds a n p) [] q.bs q.es read) (λ g n p s. refl) zs
    ∙ ap (λ (x : Element). Some (done ((ds ++ definition a n p x ∷ []) ++ rules))) q.whole
    ∙ ap (λ (y : List Definition). Some (done y)) (list_assoc ds (definition a n p _ ∷ []) rules)

-- what spells rules leads the machine to them
pub grammar-runs : {ws : List Word} {rules : List Definition} → Grammar ws rules → run start ws ≡ Some (done rules)
grammar-runs g = pass-rules [] start (λ g n p s. refl) g

-- a list of words spells one list of rules at most
pub one-grammar : {ws : List Word} {a b : List Definition} → Grammar ws a → Grammar ws b → a ≡ b
one-grammar g k = let same = grammar-runs g in let other = grammar-runs k in cc
