-- The machine takes the words of a text after those of another as it takes them alone.
-- Serves: joined_reading, linked_reading
use Rattle.std.proofs.Common.{◌≡◌, ℕ, ◌≤◌, Bool, true, false, Option, Some, None, List, [], ◌∷◌, ◌++◌, map, refl}
use Rattle.std.proofs.Common.{sym, ap, ◌∙◌, append_assoc, append-nil, ◌⊎◌, inl, inr}
use Rattle.std.proofs.lemmas.List.{map-append}
use Rattle.ruletable.specs.declared.span.Span.{Span}
use Rattle.lexer.proofs.ViabilityLemmas.{run_of, run-append, run-snoc}
use Rattle.abnfread.specs.AbnfMachine.{Times, just, times, paren, brack, Level, level, Head, head, ended, finish}
use Rattle.abnfread.specs.AbnfMachine.{fresh, awaits, read, Config, start, named, body, done, element_step, fresh_step}
use Rattle.abnfread.specs.AbnfMachine.{read_step, step, run, levels_in}
use Rattle.abnfread.specs.AbnfSays.{IsSmall, AreSmall, IsShallow, open_after}
use Rattle.abnfread.specs.AbnfSpelling.{definition, Grammar, last_rule, more_rules}
use Rattle.abnfread.specs.AbnfWords.{Said, Name, Is, Adds, Slash, LParen, RParen, LBrack, RBrack, Repeat, Text, Values}
use Rattle.abnfread.specs.AbnfWords.{Range, Prose, End, Word, word}
use Rattle.abnfread.specs.Element.{Element, Elements, Definition}
use Rattle.abnfread.proofs.AbnfMachineLemmas.{grammar-runs}
use Rattle.abnfread.proofs.AbnfSpellingLemmas.{runs-grammar}
use Rattle.abnfread.proofs.OpenBracketLemmas.{step-opens, shallow-front, shallow-next}
use Rattle.abnfblocks.specs.LinkedLines.{moved_span}
use Rattle.abnftexts.specs.LinkedTexts.{moved_definition}

-- what a name says that stands so many bytes further on
abbrev pub moved_said : ℕ → Said → Said
moved_said n (Name z p) = Name z (moved_span n p)
moved_said n s = s

abbrev pub moved_word : ℕ → Word → Word
moved_word n (word g f s) = word g f (moved_said n s)

-- with white space before the first word
abbrev pub with_gap : List Word → List Word
with_gap [] = []
with_gap (word g f s ∷ ws) = word true f s ∷ ws

module _ (n : ℕ) (ds : List Definition) where
  abbrev after_them : List Definition → List Definition
  after_them more = ds ++ map (moved_definition n) more

  abbrev moved_head : Head → Head
  moved_head (head more a z p) = head (after_them more) a z (moved_span n p)

  abbrev pub moved_config : Config → Config
  moved_config start = start
  moved_config (named more z p) = named (after_them more) z (moved_span n p)
  moved_config (body h o bs es l) = body (moved_head h) o bs es l
  moved_config (done more) = done (after_them more)

  -- the step leads to the moved configuration, which is none at the start
  abbrev Moves : Option Config → Option Config → Type 0
  Moves None x = x ≡ None
  Moves (Some start) x = ⊥
  Moves (Some c) x = x ≡ Some (moved_config c)

  ended-moves : (h : Head) (x : Element) → ended (moved_head h) x ≡ after_them (ended h x)
  ended-moves (head more a z p) x =
      append_assoc ds (map (moved_definition n) more) (definition a z (moved_span n p) x ∷ [])
      ∙ ap (λ (y : List Definition). ds ++ y) (sym (map-append (moved_definition n) more (definition a z p x ∷ [])))

  element-moves : (h : Head) (o : List Level) (bs es : Elements) (t : Times) (s : Said)
      → Moves (element_step h o bs es t s) (element_step (moved_head h) o bs es t (moved_said n s))
  element-moves h o bs es t (Name z p) = refl
  element-moves h o bs es t (Text c z) = refl
  element-moves h o bs es t (Values vs) = refl
  element-moves h o bs es t (Range a b) = refl
  element-moves h o bs es t (Prose z) = refl
  element-moves h o bs es t LParen = refl
  element-moves h o bs es t LBrack = refl
  element-moves h o bs es t _ = refl

  fresh-moves : (h : Head) (o : List Level) (bs es : Elements) (s : Said)
      → Moves (fresh_step h o bs es s) (fresh_step (moved_head h) o bs es (moved_said n s))
  fresh-moves h o bs es (Repeat a b) = refl
  fresh-moves h o bs es s = element-moves h o bs es just s

  read-moves : (h : Head) (o : List Level) (bs es : Elements) (g : Bool) (s : Said)
      → Moves (read_step h o bs es g s) (read_step (moved_head h) o bs es g (moved_said n s))
  read-moves h o bs es g Slash = refl
  read-moves h [] bs es g RParen = refl
  read-moves h (level b f t paren ∷ o) bs es g RParen = refl
  read-moves h (level b f t brack ∷ o) bs es g RParen = refl
  read-moves h [] bs es g RBrack = refl
  read-moves h (level b f t paren ∷ o) bs es g RBrack = refl
  read-moves h (level b f t brack ∷ o) bs es g RBrack = refl
  read-moves h [] bs es g End = ap (λ (y : List Definition). Some (done y)) (ended-moves h (finish bs es))
  read-moves h (l ∷ o) bs es g End = refl
  read-moves h o bs es true s = fresh-moves h o bs es s
  read-moves h o bs es false s = refl

  step-moves : (c : Config) (w : Word) → (c ≡ start → ⊥) → Moves (step c w) (step (moved_config c) (moved_word n w))
  step-moves start w not_start = absurd (not_start refl)
  step-moves (named more z p) (word g true s) q = refl
  step-moves (named more z p) (word g false Is) q = refl
  step-moves (named more z p) (word g false Adds) q = refl
  step-moves (named more z p) (word g false _) q = refl
  step-moves (body h o bs es fresh) (word g true s) q = refl
  step-moves (body h o bs es fresh) (word g false s) q = fresh-moves h o bs es s
  step-moves (body h o bs es (awaits a b)) (word g true s) q = refl
  step-moves (body h o bs es (awaits a b)) (word true false s) q = refl
  step-moves (body h o bs es (awaits a b)) (word false false s) q = element-moves h o bs es (times a b) s
  step-moves (body h [] bs es read) (word g true (Name z p)) q =
      ap (λ (y : List Definition). Some (named y z (moved_span n p))) (ended-moves h (finish bs es))
  step-moves (body h [] bs es read) (word g true _) q = refl
  step-moves (body h (l ∷ o) bs es read) (word g true s) q = refl
  step-moves (body h o bs es read) (word g false s) q = read-moves h o bs es g s
  step-moves (done more) (word g true s) q = refl
  step-moves (done more) (word g false s) q = refl

  -- where that is so from each configuration but the start
  option-moved : {rules : List Definition} (ws : List Word) → ((c : Config) → (c ≡ start → ⊥)
      → run c ws ≡ Some (done rules)
      → run (moved_config c) (map (moved_word n) ws) ≡ Some (done (after_them rules))) → (x y : Option Config)
      → Moves x y → (elim x [ None ↦ None | Some d ↦ run d ws ]) ≡ Some (done rules)
      → (elim y [ None ↦ None | Some d ↦ run d (map (moved_word n) ws) ]) ≡ Some (done (after_them rules))
  option-moved ws f None y m k = cc
  option-moved ws f (Some start) y m k = absurd m
  option-moved ws f (Some (named more z p)) y m k = rw m (f (named more z p) (λ e. cc) k)
  option-moved ws f (Some (body i o bs es l)) y m k = rw m (f (body i o bs es l) (λ e. cc) k)
  option-moved ws f (Some (done more)) y m k = rw m (f (done more) (λ e. cc) k)

  run-moved : {rules : List Definition} (ws : List Word) (c : Config) → (c ≡ start → ⊥) → run c ws ≡ Some (done rules)
      → run (moved_config c) (map (moved_word n) ws) ≡ Some (done (after_them rules))
  run-moved {rules} [] c q h = let e : c ≡ done rules = cc in ap (λ (d : Config). Some (moved_config d)) e
  run-moved (w ∷ ws) c q h = option-moved ws (λ d r k. run-moved ws d r k) (step c w)
      (step (moved_config c) (moved_word n w)) (step-moves c w q) h

  option-back : {all : List Definition} (ws : List Word) → ((c : Config) → (c ≡ start → ⊥)
      → run (moved_config c) (map (moved_word n) ws) ≡ Some (done all)
      → (rules : List Definition) × (run c ws ≡ Some (done rules)) × (all ≡ after_them rules)) → (x y : Option Config)
      → Moves x y → (elim y [ None ↦ None | Some d ↦ run d (map (moved_word n) ws) ]) ≡ Some (done all)
      → (rules : List Definition) × ((elim x [ None ↦ None | Some d ↦ run d ws ]) ≡ Some (done rules))
      × (all ≡ after_them rules)
  option-back ws f None y m k = absurd (let l = rw m at k in cc)
  option-back ws f (Some start) y m k = absurd m
  option-back ws f (Some (named more z p)) y m k = f (named more z p) (λ e. cc) (rw m at k)
  option-back ws f (Some (body i o bs es l)) y m k = f (body i o bs es l) (λ e. cc) (rw m at k)
  option-back ws f (Some (done more)) y m k = f (done more) (λ e. cc) (rw m at k)

  -- where the moved configuration takes the moved words, the configuration takes the words
  pub run-back : {all : List Definition} (ws : List Word) (c : Config) → (c ≡ start → ⊥)
      → run (moved_config c) (map (moved_word n) ws) ≡ Some (done all)
      → (rules : List Definition) × (run c ws ≡ Some (done rules)) × (all ≡ after_them rules)
  run-back [] start q h = absurd (q refl)
  run-back [] (named more z p) q h = absurd (cc)
  run-back [] (body i o bs es l) q h = absurd (cc)
  run-back {all} [] (done more) q h = (more, refl, (let e : after_them more ≡ all = cc in sym e))
  run-back (w ∷ ws) c q h = option-back ws (λ d r k. run-back ws d r k) (step c w)
      (step (moved_config c) (moved_word n w)) (step-moves c w q) h

pub option-some : {C : Type 0} (x : Option C) → (x ≡ None) ⊎ ((c : C) × (x ≡ Some c))
option-some None = inl refl
option-some (Some c) = inr (c, refl)

abbrev pub run_after : List Word → Option Config → Option Config
run_after us x = elim x [ None ↦ None | Some d ↦ run d us ]

-- Where the end of a text may follow, a rule may, and no bracket is open.
record MayEnd (c : Config) (ds : List Definition) : Type 0 where
  next : (g : Bool) (z : List ℕ) (p : Span) → step c (word g true (Name z p)) ≡ Some (named ds z p)
  closed : levels_in c ≡ 0

may-end : (c : Config) (g : Bool) {ds : List Definition} → step c (word g false End) ≡ Some (done ds) → MayEnd c ds
may-end start g h = cc
may-end (named more z p) g h = cc
may-end (body i o bs es fresh) g h = cc
may-end (body i o bs es (awaits a b)) true h = cc
may-end (body i o bs es (awaits a b)) false h = cc
may-end (body i [] bs es read) g {ds} h =
    let e : ended i (finish bs es) ≡ ds = cc in
    record { next = λ k z p. ap (λ (y : List Definition). Some (named y z p)) e; closed = refl }
may-end (body i (l ∷ o) bs es read) g h = cc
may-end (done more) g h = cc

-- the machine takes these words to a configuration after which a text may end
record FrontTaken (front : List Word) (ds : List Definition) : Type 0 where
  config : Config
  reached : run start front ≡ Some config
  ends : MayEnd config ds

front-taken : (front : List Word) (g : Bool) {ds : List Definition} → Grammar (front ++ word g false End ∷ []) ds
    → FrontTaken front ds
front-taken front g {ds} h = elim (option-some (run start front)) [
  | inl e ↦ absurd (let k : Some (done ds) ≡ None = sym (grammar-runs h)
      ∙ run-append step front (word g false End ∷ []) start
      ∙ ap (λ (x : Option Config). run_of step x (word g false End ∷ [])) e in cc)
  | inr x ↦ record {
    config = x.0;
    reached = x.1;
    ends = may-end x.0 g (sym (run-snoc step front (word g false End) start x.0 x.1) ∙ grammar-runs h);
  }
]

-- the first word of rules
record RuleFirst (ws : List Word) : Type 0 where
  gap : Bool
  name : List ℕ
  span : Span
  rest : List Word
  whole : ws ≡ word gap true (Name name span) ∷ rest

rule-first : {ws : List Word} {ds : List Definition} → Grammar ws ds → RuleFirst ws
rule-first (last_rule {g} {n} {p} {w} {s} a h) = record { gap = g; name = n; span = p; rest = w ∷ s; whole = refl }
rule-first (more_rules {g} {n} {p} {w} {s} a h k) = record { gap = g; name = n; span = p; rest = w ∷ s; whole = refl }

-- the words of a text after those of another one
abbrev pub words_after : ℕ → List Word → List Word
words_after n ws = with_gap (map (moved_word n) ws)

runs-linked : {front : List Word} {first second : List Definition} (n : ℕ) (t : FrontTaken front first) (z : List ℕ)
    (p : Span) (g : Bool) (rest : List Word) → run start (word g true (Name z p) ∷ rest) ≡ Some (done second)
    → run start (front ++ words_after n (word g true (Name z p) ∷ rest))
    ≡ Some (done (first ++ map (moved_definition n) second))
runs-linked {front} {first} n t z p g rest h =
    let q = moved_span n p in
    let moved = run-moved n first rest (named [] z p) (λ e. cc) h in
    let there : run (named first z q) (map (moved_word n) rest)
    ≡ run (named (first ++ []) z q) (map (moved_word n) rest)
    = ap (λ (y : List Definition). run (named y z q) (map (moved_word n) rest)) (sym (append-nil first)) in
    run-append step front (words_after n (word g true (Name z p) ∷ rest)) start
    ∙ ap (λ (x : Option Config). run_of step x (words_after n (word g true (Name z p) ∷ rest))) t.reached
    ∙ ap (λ (x : Option Config). elim x [ None ↦ None | Some d ↦ run d (map (moved_word n) rest) ])
    (t.ends.next true z q) ∙ there ∙ moved

pub grammar-linked : (front : List Word) (g : Bool) (n : ℕ) {ws : List Word} {first second : List Definition}
    → Grammar (front ++ word g false End ∷ []) first → Grammar ws second
    → Grammar (front ++ words_after n ws) (first ++ map (moved_definition n) second)
grammar-linked front g n {ws} {first} {second} h k =
    let r = rule-first k in
    let whole = r.whole in
    let runs : run start (word r.gap true (Name r.name r.span) ∷ r.rest) ≡ Some (done second) =
    (let e = grammar-runs k in ap (λ (v : List Word). run start v) (sym whole) ∙ e) in
    let linked = runs-linked n (front-taken front g h) r.name r.span r.gap r.rest runs in
    runs-grammar (first ++ map (moved_definition n) second) (front ++ words_after n ws)
    (ap (λ (v : List Word). run start (front ++ words_after n v)) whole ∙ linked)

pub open-moved : (n : ℕ) (s : Said) (d : ℕ) → open_after (moved_said n s) d ≡ open_after s d
open-moved n (Name z p) d = refl
open-moved n _ d = refl

small-moved : (n : ℕ) (s : Said) → IsSmall s → IsSmall (moved_said n s)
small-moved n (Name z p) h = tt
small-moved n _ h = h

shallow-moved : (m d n : ℕ) (ws : List Word) → IsShallow m d ws → IsShallow m d (map (moved_word n) ws)
shallow-moved m d n [] h = h
shallow-moved m d n (word g f s ∷ ws) h = (h.0, rw (open-moved n s d) (shallow-moved m (open_after s d) n ws h.1))

shallow-gap : (m d : ℕ) (ws : List Word) → IsShallow m d ws → IsShallow m d (with_gap ws)
shallow-gap m d [] h = h
shallow-gap m d (word g f s ∷ ws) h = h

small-words : (n : ℕ) (ws : List Word) → AreSmall ws → AreSmall (map (moved_word n) ws)
small-words n [] h = h
small-words n (word g f s ∷ ws) h = (small-moved n s h.0, small-words n ws h.1)

small-gap : (ws : List Word) → AreSmall ws → AreSmall (with_gap ws)
small-gap [] h = h
small-gap (word g f s ∷ ws) h = h

small-join : (vs ws us : List Word) → AreSmall (vs ++ us) → AreSmall ws → AreSmall (vs ++ ws)
small-join [] ws us h k = k
small-join (word g f s ∷ vs) ws us h k = (h.0, small-join vs ws us h.1 k)

pub small-linked : (front : List Word) (g : Bool) (n : ℕ) (ws : List Word)
    → AreSmall (front ++ word g false End ∷ []) → AreSmall ws → AreSmall (front ++ words_after n ws)
small-linked front g n ws h k = small-join front (words_after n ws) (word g false End ∷ []) h
    (small-gap (map (moved_word n) ws) (small-words n ws k))

-- after words that open as many brackets as they close
shallow-more : (m : ℕ) (ws us : List Word) (c d : Config) → run start ws ≡ Some c → IsShallow m 0 ws
    → IsShallow m (levels_in c) us → run c us ≡ Some d → IsShallow m 0 (ws ++ us)
shallow-more m ws [] c d r h k e = rw (append-nil ws) h
shallow-more m ws (word g f s ∷ us) c d r h k e = elim (option-some (step c (word g f s))) [
  | inl x ↦ absurd (let y : None ≡ Some d = sym (ap (run_after us) x) ∙ e in cc)
  | inr x ↦
      let levels = step-opens c x.0 g f s x.1 in
      let inner : IsShallow m (levels_in x.0) us = (let z = k.1 in rw (sym levels) at z) in
      let less : levels_in x.0 ≤ m = shallow-head m (levels_in x.0) us inner in
      let more = shallow-more m (ws ++ word g f s ∷ []) us x.0 d (run-snoc step ws (word g f s) start c r ∙ x.1)
      (shallow-next ws (word g f s) c x.0 r x.1 m h less) inner (sym (ap (run_after us) x.1) ∙ e) in
      (let a = append_assoc ws (word g f s ∷ []) us in rw a at more)
]
  where
    shallow-head : (m d : ℕ) (ws : List Word) → IsShallow m d ws → d ≤ m
    shallow-head m d [] h = h
    shallow-head m d (word g f s ∷ ws) h = h.0

pub shallow-linked : (front : List Word) (g : Bool) (m n : ℕ) {ws : List Word} {first second : List Definition}
    → Grammar (front ++ word g false End ∷ []) first → Grammar ws second
    → IsShallow m 0 (front ++ word g false End ∷ []) → IsShallow m 0 ws
    → IsShallow m 0 (front ++ words_after n ws)
shallow-linked front g m n {ws} {first} {second} a b h k =
    let t = front-taken front g a in
    let closed = t.ends.closed in
    let whole = grammar-linked front g n a b in
    let runs = sym (run-append step front (words_after n ws) start) ∙ grammar-runs whole in
    let after : run t.config (words_after n ws) ≡ Some (done (first ++ map (moved_definition n) second)) =
    (let r = t.reached in rw r at runs) in
    let inner = shallow-gap m 0 (map (moved_word n) ws) (shallow-moved m 0 n ws k) in
    shallow-more m front (words_after n ws) t.config (done (first ++ map (moved_definition n) second)) t.reached
    (shallow-front m 0 front (word g false End ∷ []) h) (rw closed inner) after

-- the words of a text alone, where its bytes stand further on
pub grammar-after : (n : ℕ) {ws : List Word} {ds : List Definition} → Grammar ws ds
    → Grammar (words_after n ws) (map (moved_definition n) ds)
grammar-after n {ws} {ds} k =
    let r = rule-first k in
    let whole = r.whole in
    let runs : run start (word r.gap true (Name r.name r.span) ∷ r.rest) ≡ Some (done ds) =
    (let e = grammar-runs k in ap (λ (v : List Word). run start v) (sym whole) ∙ e) in
    let moved = run-moved n [] r.rest (named [] r.name r.span) (λ e. cc) runs in
    runs-grammar (map (moved_definition n) ds) (words_after n ws)
    (ap (λ (v : List Word). run start (words_after n v)) whole ∙ moved)

pub shallow-after : (m n : ℕ) (ws : List Word) → IsShallow m 0 ws → IsShallow m 0 (words_after n ws)
shallow-after m n ws h = shallow-gap m 0 (map (moved_word n) ws) (shallow-moved m 0 n ws h)

pub small-after : (n : ℕ) (ws : List Word) → AreSmall ws → AreSmall (words_after n ws)
small-after n ws h = small-gap (map (moved_word n) ws) (small-words n ws h)
