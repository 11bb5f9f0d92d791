-- Words begin something exactly if the machine can take them, and one token of a list decides at most.
-- Serves: one_tree, read_peg, read_abnf
use Rattle.std.proofs.Common.{◌≡◌, ℕ, ◌+◌, ◌<◌, ◌≤◌, Option, Some, None, List, [], ◌∷◌, ◌++◌, length, take, drop, refl}
use Rattle.std.proofs.Common.{sym, ◌∙◌, ap, arith, append_assoc, append-nil, length-append, ◌⊎◌, inl, inr}
use Rattle.std.proofs.Math.Seq.{take-append_seam}
use Rattle.std.proofs.lemmas.Bool.{cases_lt}
use Rattle.std.proofs.lemmas.List.{take-take, take-append-drop, take_at}
use Rattle.lexer.specs.Viability.{run, Begins, SayAll, say_none, say_more, Viable, IsHopeless, IsOver}

module _ {W C : Type 0} (step : C → W → Option C) where
  abbrev pub run_of : Option C → List W → Option C
  run_of None s = None
  run_of (Some c) s = run step c s

  append-on : (p s : List W) → ((d : C) → run step d (p ++ s) ≡ run_of (run step d p) s) → (x : Option C)
      → (elim x [ None ↦ None | Some d ↦ run step d (p ++ s) ])
      ≡ run_of (elim x [ None ↦ None | Some d ↦ run step d p ]) s
  append-on p s f None = refl
  append-on p s f (Some d) = f d

  pub run-append : (p s : List W) (c : C) → run step c (p ++ s) ≡ run_of (run step c p) s
  run-append [] s c = refl
  run-append (w ∷ p) s c = append-on p s (λ d. run-append p s d) (step c w)

  one-of : (x : Option C) → (elim x [ None ↦ None | Some d ↦ Some d ]) ≡ x
  one-of None = refl
  one-of (Some d) = refl

  -- one word more
  pub run-snoc : (ws : List W) (w : W) (c d : C) → run step c ws ≡ Some d → run step c (ws ++ w ∷ []) ≡ step d w
  run-snoc ws w c d h = run-append ws (w ∷ []) c ∙ ap (λ (x : Option C). run_of x (w ∷ [])) h ∙ one-of (step d w)

  module _ {G : Type 0} (Spells : List W → G → Type 0) (start : C) (done : G → C)
      (spelled : (ws : List W) (g : G) → Spells ws g → run step start ws ≡ Some (done g))
      (spells : (ws : List W) (g : G) → run step start ws ≡ Some (done g) → Spells ws g)
      (completion : (c : C) → (s : List W) × (g : G) × (run step c s ≡ Some (done g))) where
    pub runs-begins : (ws : List W) (c : C) → run step start ws ≡ Some c → Begins Spells ws
    runs-begins ws c h =
        let q = completion c in
        (q.0, q.1, spells (ws ++ q.0) q.1 (run-append ws q.0 start ∙ ap (λ (x : Option C). run_of x q.0) h ∙ q.2))

    pub stops-begins : (ws : List W) → run step start ws ≡ None → Begins Spells ws → ⊥
    stops-begins ws h (s, g, k) =
        let there : Some (done g) ≡ None = sym (spelled (ws ++ s) g k) ∙ run-append ws s start
        ∙ ap (λ (x : Option C). run_of x s) h in
        cc

module _ {T : Type 0} (Viable Within : List T → Type 0)
    (viable-front : (i : ℕ) (ts : List T) → Viable ts → Viable (take i ts))
    (within-front : (i : ℕ) (ts : List T) → Within ts → Within (take i ts)) where
  -- so far all is well
  abbrev Passes : List T → Type 0
  Passes ts = Viable ts × Within ts

  -- token i is the first with which it isn't
  abbrev pub Decides : List T → ℕ → Type 0
  Decides ts i = IsHopeless Viable Within ts i ⊎ IsOver Viable Within ts i

  passes-before : (i j : ℕ) (ts : List T) → i ≤ j → Passes (take j ts) → Passes (take i ts)
  passes-before i j ts le h =
      let same : take i (take j ts) ≡ take i ts = take-take i j ts le in
      (rw same at (viable-front i (take j ts) h.0), rw same at (within-front i (take j ts) h.1))

  decides-before : (ts : List T) (i : ℕ) → Decides ts i → Passes (take i ts)
  decides-before ts i (inl h) = (h.before, h.within)
  decides-before ts i (inr h) = (
    let same : take i (take (i + 1) ts) ≡ take i ts = take-take i (i
        + 1) ts (omega arith) in (rw same at (viable-front i (take (i + 1) ts) h.viable)),
    h.within,
  )

  decides-here : (ts : List T) (i : ℕ) → Decides ts i → Passes (take (i + 1) ts) → ⊥
  decides-here ts i (inl h) p = h.here p.0
  decides-here ts i (inr h) p = h.over p.1

  none-before : (ts : List T) (i j : ℕ) → Decides ts i → Decides ts j → i < j → ⊥
  none-before ts i j h k lt = decides-here ts i h (passes-before (i + 1) j ts (omega arith) (decides-before ts j k))

  pub one-deciding : (ts : List T) (i j : ℕ) → Decides ts i → Decides ts j → i ≡ j
  one-deciding ts i j h k = elim (cases_lt i j) [
    | inl lt ↦ absurd (none-before ts i j h k lt)
    | inr ge ↦ elim (cases_lt j i) [
      | inl lt ↦ absurd (none-before ts j i k h lt)
      | inr le ↦ omega arith
    ]
  ]

  -- and in one way
  pub not-both : (ts : List T) (i : ℕ) → IsHopeless Viable Within ts i → IsOver Viable Within ts i → ⊥
  not-both ts i h k = h.here k.viable

  pub none-deciding : (ts : List T) (i : ℕ) → Viable ts → Within ts → Decides ts i → ⊥
  none-deciding ts i v w h = decides-here ts i h (viable-front (i + 1) ts v, within-front (i + 1) ts w)

-- the words of a list's first part, and those of the rest
pub record Split {T W : Type 0} (Says : T → W → Type 0) (ts us : List T) (ws : List W) : Type 0 where
  pub front : List W
  pub back : List W
  pub whole : ws ≡ front ++ back
  pub first : SayAll Says ts front
  pub rest : SayAll Says us back

module _ {T W : Type 0} (Says : T → W → Type 0) where
  pub say-join : {ts us : List T} {vs ws : List W} → SayAll Says ts vs → SayAll Says us ws
      → SayAll Says (ts ++ us) (vs ++ ws)
  say-join say_none k = k
  say-join (say_more h hs) k = say_more h (say-join hs k)

  -- one token more
  pub say-snoc : {ts : List T} {ws : List W} {t : T} {w : W} → SayAll Says ts ws → Says t w
      → SayAll Says (ts ++ t ∷ []) (ws ++ w ∷ [])
  say-snoc hs h = say-join hs (say_more h say_none)

  pub say-split : (ts us : List T) {ws : List W} → SayAll Says (ts ++ us) ws → Split Says ts us ws
  say-split [] us {ws} h = record { front = []; back = ws; whole = refl; first = say_none; rest = h }
  say-split (t ∷ ts) us (say_more {w} h hs) =
      let s = say-split ts us hs in
      record {
        front = w ∷ s.front;
        back = s.back;
        whole = ap (λ (vs : List W). w ∷ vs) s.whole;
        first = say_more h s.first;
        rest = s.rest;
      }

  -- where a token says one word at most
  module _ (one-word : (t : T) (v w : W) → Says t v → Says t w → v ≡ w) where
    pub one-words : {ts : List T} {vs ws : List W} → SayAll Says ts vs → SayAll Says ts ws → vs ≡ ws
    one-words say_none say_none = refl
    one-words (say_more {w = v} {ws = vs} h hs) (say_more {w} k ks) = ap (λ (u : W). u ∷ vs) (one-word _ v w h k)
        ∙ ap (λ (us : List W). w ∷ us) (one-words hs ks)

  module _ {G : Type 0} (Spells : List W → G → Type 0) where
    pub begins-front : (ws vs : List W) → Begins Spells (ws ++ vs) → Begins Spells ws
    begins-front ws vs (s, g, h) = (vs ++ s, g, rw (← append_assoc ws vs s) h)

    -- a shorter prefix
    pub viable-front : (ts us : List T) → Viable Says Spells (ts ++ us) → Viable Says Spells ts
    viable-front ts us (ws, say, begins) =
        let s = say-split ts us say in
        (s.front, s.first, begins-front s.front s.back (let e = s.whole in rw e at begins))

    pub viable-take : (i : ℕ) (ts : List T) → Viable Says Spells ts → Viable Says Spells (take i ts)
    viable-take i ts v = viable-front (take i ts) (drop i ts) (rw (take-append-drop i ts) v)

    -- what is spelled is viable
    pub viable-whole : {ts : List T} {ws : List W} (g : G) → SayAll Says ts ws → Spells ws g → Viable Says Spells ts
    viable-whole {ws = ws} g say spells = (ws, say, ([], g, rw (append-nil ws) spells))

    -- the machine took what the tokens ts say, and came to c
    module _ {C : Type 0} (step : C → W → Option C) (start : C)
        (runs-begins : (ws : List W) (c : C) → run step start ws ≡ Some c → Begins Spells ws)
        (stops-begins : (ws : List W) → run step start ws ≡ None → Begins Spells ws → ⊥)
        (one-word : (t : T) (v w : W) → Says t v → Says t w → v ≡ w)
        {ts : List T} {ws : List W} (c : C) (say : SayAll Says ts ws) (runs : run step start ws ≡ Some c) where
      pub viable-run : Viable Says Spells ts
      viable-run = (ws, say, runs-begins ws c runs)

      pub viable-next : (t : T) (w : W) (d : C) → Says t w → step c w ≡ Some d → Viable Says Spells (ts ++ t ∷ [])
      viable-next t w d says steps = (
        ws ++ w ∷ [],
        say-snoc say says,
        runs-begins (ws ++ w ∷ []) d (run-snoc step ws w start c runs ∙ steps),
      )

      -- a token of which it takes no word then
      pub not-viable : (t : T) → ((w : W) → Says t w → step c w ≡ None) → Viable Says Spells (ts ++ t ∷ []) → ⊥
      not-viable t stops (vs, all, begins) = silent (say-split ts (t ∷ []) all).rest
        where
          silent : {us : List W} → SayAll Says (t ∷ []) us → ⊥
          silent (say_more {w} says none) =
              let same = one-words one-word all (say-snoc say says) in
              stops-begins (ws ++ w ∷ []) (run-snoc step ws w start c runs ∙ stops w says) (rw same at begins)

-- the first token that does not pass decides
module _ {T : Type 0} (Viable Within : List T → Type 0) (ts : List T) (t : T) (us : List T) where
  front-taken : take (length ts) (ts ++ t ∷ us) ≡ ts
  front-taken = take-append_seam ts (t ∷ us)

  next-taken : take (length ts + 1) (ts ++ t ∷ us) ≡ ts ++ t ∷ []
  next-taken = rw (← append_assoc ts (t ∷ []) us)
      (take_at (ts ++ t ∷ []) us (length ts + 1) (omega (arith, length-append ts (t ∷ []))))

  pub hopeless-at : Viable ts → Within ts → (Viable (ts ++ t ∷ []) → ⊥)
      → IsHopeless Viable Within (ts ++ t ∷ us) (length ts)
  hopeless-at v w h = record { before = rw front-taken v; here = rw next-taken h; within = rw front-taken w }

  pub over-at : Viable (ts ++ t ∷ []) → Within ts → (Within (ts ++ t ∷ []) → ⊥)
      → IsOver Viable Within (ts ++ t ∷ us) (length ts)
  over-at v w h = record { viable = rw next-taken v; within = rw front-taken w; over = rw next-taken h }
