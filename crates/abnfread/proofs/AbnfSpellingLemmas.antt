-- Where the machine comes to rules, what it took spells them: a relation for each configuration.
-- Serves: read_abnf
use Rattle.std.proofs.Common.{◌≡◌, ℕ, Bool, true, false, Option, Some, None, List, [], ◌∷◌, ◌++◌, refl, sym, ◌∙◌, ap}
use Rattle.std.proofs.Common.{◌⊎◌, inl, inr, append_assoc as list_assoc}
use Rattle.ruletable.specs.declared.span.Span.{Span}
use Rattle.abnfread.specs.Element as e
use Rattle.abnfread.specs.Element.{Element, Elements, none, more, append, Rep, Opt, Definition}
use Rattle.abnfread.specs.AbnfWords.{Word, word, Said, Name, Is, Adds, Slash, LParen, RParen, LBrack, RBrack, Repeat}
use Rattle.abnfread.specs.AbnfWords.{Text, Values, Range, Prose, End}
use Rattle.abnfread.specs.AbnfSpelling.{concatenation, alternation, HasGap, HasNoGap, OneElement, name, text, values}
use Rattle.abnfread.specs.AbnfSpelling.{range, prose, parens, brackets, Repetition, once, repeated, Parts, one, further}
use Rattle.abnfread.specs.AbnfSpelling.{Alternatives, only, others, Alternation, alternatives, Assigns, defines}
use Rattle.abnfread.specs.AbnfSpelling.{extends, definition, Grammar, last_rule, more_rules}
use Rattle.abnfread.specs.AbnfMachine.{snoc, finish, Times, just, times, apply, Bracket, paren, brack, enclosed}
use Rattle.abnfread.specs.AbnfMachine.{Level, level, Head, head, ended, fresh, awaits, read, Config, start, named, body}
use Rattle.abnfread.specs.AbnfMachine.{done, rule_step, named_step, element_step, fresh_step, read_step, step, run}
use Rattle.abnfread.proofs.AbnfMachineLemmas.{append_assoc}

-- the rest of a concatenation of which the parts es stand
pub data Further (es : Elements) : List Word → List Word → Elements → Type 0 where
  no_part : {r : List Word} → Further es r r es
  parts : {s r : List Word} {xs : Elements} → HasGap s → Parts s r xs → Further es s r (append es xs)

-- the rest of an alternation of which the alternatives bs and the parts es of the last stand
pub data Tail (bs es : Elements) : List Word → List Word → Elements → Type 0 where
  ends : {s r : List Word} {xs : Elements} → Further es s r xs → Tail bs es s r (snoc bs (concatenation xs))
  goes : {g : Bool} {s m r : List Word} {xs ys : Elements} → Further es s (word g false Slash ∷ m) xs
      → Alternatives m r ys → Tail bs es s r (append bs (more (concatenation xs) ys))

module _ (K : Element → List Word → Type 0) where
  -- the rest of the alternation after a repetition, and then K
  abbrev pub Going : Elements → Elements → List Word → Type 0
  Going bs es s = (r : List Word) × (ys : Elements) × Tail bs es s r ys × K (alternation ys) r

  -- where a repetition must begin
  abbrev pub Begun : Elements → Elements → List Word → Type 0
  Begun bs es s = (m : List Word) × (x : Element) × Repetition s m x × Going bs (snoc es x) m

  -- where an element must
  abbrev pub Entered : Elements → Elements → Times → List Word → Type 0
  Entered bs es t s = (m : List Word) × (x : Element) × OneElement s m x × Going bs (snoc es (apply t x)) m

-- after the definitions ds: the end, or further ones
abbrev pub Finished : List Definition → List Definition → List Word → Type 0
Finished g ds s = ((k : Bool) × (s ≡ word k false End ∷ []) × (g ≡ ds))
    ⊎ ((rules : List Definition) × Grammar s rules × (g ≡ ds ++ rules))

abbrev pub closer : Bracket → Said
closer paren = RParen
closer brack = RBrack

-- after an alternation within all these levels
abbrev pub Close : List Definition → Head → List Level → Element → List Word → Type 0
Close g h [] x s = Finished g (ended h x) s
Close g h (level b f t k ∷ o) x s = (r : List Word) × (i : Bool) × (s ≡ word i false (closer k) ∷ r)
    × Going (Close g h o) b (snoc f (apply t (enclosed k x))) r

-- s completes the configuration to the definitions g
abbrev pub Rest : List Definition → Config → List Word → Type 0
Rest g start s = Grammar s g
Rest g (named ds n p) s = (rules : List Definition) × ((i : Bool) → Grammar (word i true (Name n p) ∷ s) rules)
    × (g ≡ ds ++ rules)
Rest g (body h o bs es fresh) s = Begun (Close g h o) bs es s
Rest g (body h o bs es (awaits a b)) s = HasNoGap s × Entered (Close g h o) bs es (times a b) s
Rest g (body h o bs es read) s = Going (Close g h o) bs es s
Rest g (done ds) s = (s ≡ []) × (g ≡ ds)

abbrev pub RestOf : List Definition → Option Config → List Word → Type 0
RestOf g None s = ⊥
RestOf g (Some c) s = Rest g c s

-- a repetition and the rest of an alternation that begins with it
all-alternatives : (cs : Elements) {s m r : List Word} {x : Element} {ys : Elements} → Repetition s m x
    → Tail cs (more x none) m r ys → (zs : Elements) × Alternatives s r zs × (ys ≡ append cs zs)
all-alternatives cs y (ends no_part) = (_, only (one y), refl)
all-alternatives cs y (ends (parts n ys)) = (_, only (further y n ys), refl)
all-alternatives cs y (goes no_part z) = (_, others (one y) z, refl)
all-alternatives cs y (goes (parts n ys) z) = (_, others (further y n ys) z, refl)

-- an alternation begins where nothing stands
begun-whole : (K : Element → List Word → Type 0) {s : List Word} → Begun K none none s → (r : List Word) × (x : Element)
    × Alternation s r x × K x r
begun-whole K (m, x, y, (r, ys, tail, k)) =
    let a = all-alternatives none y tail in
    let same : ys ≡ a.0 = a.2 in
    (r, alternation ys, rw (sym same) at (alternatives a.1), k)

module _ (K : Element → List Word → Type 0) (bs es : Elements) where
  join-tail : {s m r : List Word} {x : Element} {ys : Elements} → HasGap s → Repetition s m x
      → Tail bs (snoc es x) m r ys → Tail bs es s r ys
  join-tail n y (ends no_part) = ends (parts n (one y))
  join-tail {s} {m} {r} {x} n y (ends (parts {xs} k ys)) = let same = append_assoc es (more x none) xs in
      let t : Tail bs es s r (snoc bs (concatenation (append es (more x xs)))) = ends (parts n (further y k ys)) in
      rw same t
  join-tail n y (goes no_part z) = goes (parts n (one y)) z
  join-tail {s} {m} {r} {x} n y (goes {ys = cs} (parts {xs} k ys) z) = let same = append_assoc es (more x none) xs in
      let t : Tail bs es s r (append bs (more (concatenation (append es (more x xs))) cs)) =
      goes (parts n (further y k ys)) z in rw same t

  -- after a repetition and white space another one begins
  going-joined : {s : List Word} → HasGap s → Begun K bs es s → Going K bs es s
  going-joined n (m, x, y, (r, ys, tail, k)) = (r, ys, join-tail n y tail, k)

  -- the alternation ends here
  ends-here : (s : List Word) → K (finish bs es) s → Going K bs es s
  ends-here s k = (s, snoc bs (concatenation es), ends no_part, k)

  -- a slash ends the concatenation
  going-slashed : (g : Bool) {s : List Word} → Begun K (snoc bs (concatenation es)) none s
      → Going K bs es (word g false Slash ∷ s)
  going-slashed g {s} (m, x, y, (r, ys, tail, k)) =
      let a = all-alternatives (snoc bs (concatenation es)) y tail in
      let same : ys ≡ append bs (more (concatenation es) a.0) = a.2 ∙ append_assoc bs (more (concatenation es) none)
      a.0 in
      let t : Tail bs es (word g false Slash ∷ s) r (append bs (more (concatenation es) a.0)) = goes no_part a.1 in
      (r, ys, rw (sym same) at t, k)

  just-one : {s : List Word} → Entered K bs es just s → Begun K bs es s
  just-one (m, x, y, k) = (m, x, once y, k)

  begun-counted : (g : Bool) (a : ℕ) (b : Option ℕ) {s : List Word} → HasNoGap s → Entered K bs es (times a b) s
      → Begun K bs es (word g false (Repeat a b) ∷ s)
  begun-counted g a b n (m, x, y, k) = (m, Rep a b x, repeated n y, k)

back-element : (d : List Definition) (h : Head) (o : List Level) (bs es : Elements) (t : Times) (g : Bool) (q : Said)
    (s : List Word) → RestOf d (element_step h o bs es t q) s → Entered (Close d h o) bs es t (word g false q ∷ s)
back-element d h o bs es t g (Name n p) s k = (s, e.Name n, name, k)
back-element d h o bs es t g (Text c z) s k = (s, e.Text c z, text, k)
back-element d h o bs es t g (Values vs) s k = (s, e.Values vs, values, k)
back-element d h o bs es t g (Range a b) s k = (s, e.Range a b, range, k)
back-element d h o bs es t g (Prose z) s k = (s, e.Prose z, prose, k)
back-element d h o bs es t g LParen s k =
    let w = begun-whole (Close d h (level bs es t paren ∷ o)) k in
    let c = w.3 in
    (c.0, w.1, parens (let a = w.2 in rw c.2 at a), c.3)
back-element d h o bs es t g LBrack s k =
    let w = begun-whole (Close d h (level bs es t brack ∷ o)) k in
    let c = w.3 in
    (c.0, Opt w.1, brackets (let a = w.2 in rw c.2 at a), c.3)
back-element d h o bs es t g Is s k = absurd k
back-element d h o bs es t g Adds s k = absurd k
back-element d h o bs es t g Slash s k = absurd k
back-element d h o bs es t g RParen s k = absurd k
back-element d h o bs es t g RBrack s k = absurd k
back-element d h o bs es t g (Repeat a b) s k = absurd k
back-element d h o bs es t g End s k = absurd k

back-fresh : (d : List Definition) (h : Head) (o : List Level) (bs es : Elements) (g : Bool) (q : Said) (s : List Word)
    → RestOf d (fresh_step h o bs es q) s → Begun (Close d h o) bs es (word g false q ∷ s)
back-fresh d h o bs es g (Repeat a b) s k = begun-counted (Close d h o) bs es g a b k.0 k.1
back-fresh d h o bs es g q s k = just-one (Close d h o) bs es (back-element d h o bs es just g q s k)

back-gapped : (d : List Definition) (h : Head) (o : List Level) (bs es : Elements) (g : Bool) (q : Said) (s : List Word)
    → RestOf d (read_step h o bs es g q) s → Going (Close d h o) bs es (word g false q ∷ s)
back-gapped d h o bs es g Slash s k = going-slashed (Close d h o) bs es g k
back-gapped d h [] bs es g RParen s k = absurd k
back-gapped d h (level b f t paren ∷ o) bs es g RParen s k = ends-here (Close d h (level b f t paren ∷ o)) bs es
    (word g false RParen ∷ s) (s, g, refl, k)
back-gapped d h (level b f t brack ∷ o) bs es g RParen s k = absurd k
back-gapped d h [] bs es g RBrack s k = absurd k
back-gapped d h (level b f t paren ∷ o) bs es g RBrack s k = absurd k
back-gapped d h (level b f t brack ∷ o) bs es g RBrack s k = ends-here (Close d h (level b f t brack ∷ o)) bs es
    (word g false RBrack ∷ s) (s, g, refl, k)
back-gapped d h [] bs es g End s k = ends-here (Close d h []) bs es (word g false End ∷ s)
    (inl (g, ap (λ (y : List Word). word g false End ∷ y) k.0, k.1))
back-gapped d h (l ∷ o) bs es g End s k = absurd k
back-gapped d h o bs es true q s k = going-joined (Close d h o) bs es refl (back-fresh d h o bs es true q s k)
back-gapped d h o bs es false q s k = absurd k

-- a rule's body and what follows
begun-defines : {g : List Definition} {s : List Word} (ds : List Definition) (a : Bool) (n : List ℕ) (p : Span)
    (w : Word)
    → Assigns w a → Begun (Close g (head ds a n p) []) none none s → (rules : List Definition)
    × ((i : Bool) → Grammar (word i true (Name n p) ∷ w ∷ s) rules) × (g ≡ ds ++ rules)
begun-defines {g} {s} ds a n p w y k = go (begun-whole (Close g (head ds a n p) []) k)
  where
    go : (r : List Word) × (x : Element) × Alternation s r x × Close g (head ds a n p) [] x r
        → (rules : List Definition) × ((i : Bool) → Grammar (word i true (Name n p) ∷ w ∷ s) rules) × (g ≡ ds ++ rules)
    go (r, x, z, inl c) = (definition a n p x ∷ [], λ i. last_rule y (rw c.1 at z), c.2)
    go (r, x, z, inr c) = (
      definition a n p x ∷ c.0,
      λ i. more_rules y z c.1,
      c.2 ∙ list_assoc ds (definition a n p x ∷ []) c.0,
    )

back-named : (d ds : List Definition) (n : List ℕ) (p : Span) (g : Bool) (q : Said) (s : List Word)
    → RestOf d (named_step ds n p q) s → Rest d (named ds n p) (word g false q ∷ s)
back-named d ds n p g Is s k = begun-defines ds false n p (word g false Is) defines k
back-named d ds n p g Adds s k = begun-defines ds true n p (word g false Adds) extends k
back-named d ds n p g _ s k = absurd k

back-rule : (d : List Definition) (h : Head) (o : List Level) (bs es : Elements) (g : Bool) (q : Said) (s : List Word)
    → RestOf d (rule_step o (ended h (finish bs es)) q) s → Going (Close d h o) bs es (word g true q ∷ s)
back-rule d h [] bs es g (Name n p) s (rules, grammar, same) =
    ends-here (Close d h []) bs es (word g true (Name n p) ∷ s) (inr (rules, grammar g, same))
back-rule d h (l ∷ o) bs es g (Name n p) s k = absurd k
back-rule d h [] bs es g _ s k = absurd k
back-rule d h (l ∷ o) bs es g _ s k = absurd k

back-start : (d : List Definition) (g : Bool) (q : Said) (s : List Word) → RestOf d (rule_step [] [] q) s
    → Grammar (word g true q ∷ s) d
back-start d g (Name n p) s (rules, grammar, same) = rw same (grammar g)
back-start d g _ s k = absurd k

step-back : (d : List Definition) (c : Config) (w : Word) (s : List Word) → RestOf d (step c w) s → Rest d c (w ∷ s)
step-back d start (word g true q) s k = back-start d g q s k
step-back d (named ds n p) (word g true q) s k = absurd k
step-back d (body h o bs es fresh) (word g true q) s k = absurd k
step-back d (body h o bs es (awaits a b)) (word g true q) s k = absurd k
step-back d (body h o bs es read) (word g true q) s k = back-rule d h o bs es g q s k
step-back d (done ds) (word g true q) s k = absurd k
step-back d start (word g false q) s k = absurd k
step-back d (named ds n p) (word g false q) s k = back-named d ds n p g q s k
step-back d (body h o bs es fresh) (word g false q) s k = back-fresh d h o bs es g q s k
step-back d (body h o bs es (awaits a b)) (word false false q) s k =
    (refl, back-element d h o bs es (times a b) false q s k)
step-back d (body h o bs es (awaits a b)) (word true false q) s k = absurd k
step-back d (body h o bs es read) (word g false q) s k = back-gapped d h o bs es g q s k
step-back d (done ds) (word g false q) s k = absurd k

at_end : (g : List Definition) (c : Config) → c ≡ done g → Rest g c []
at_end g c same = rw same (refl, refl)

rest-of_option : (g : List Definition) (s : List Word) → ((d : Config) → run d s ≡ Some (done g) → Rest g d s)
    → (x : Option Config) → (elim x [ None ↦ None | Some d ↦ run d s ]) ≡ Some (done g) → RestOf g x s
rest-of_option g s f None same = cc
rest-of_option g s f (Some d) same = f d same

-- what the machine takes on the way to definitions completes the configuration to them
run-rest : (g : List Definition) (s : List Word) (c : Config) → run c s ≡ Some (done g) → Rest g c s
run-rest g [] c h = at_end g c (let same : c ≡ done g = cc in same)
run-rest g (w ∷ s) c h = step-back g c w s (rest-of_option g s (λ d. run-rest g s d) (step c w) h)

pub runs-grammar : (rules : List Definition) (ws : List Word) → run start ws ≡ Some (done rules) → Grammar ws rules
runs-grammar rules ws h = run-rest rules ws start h
