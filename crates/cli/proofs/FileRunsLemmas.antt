-- The runs on several files: what is reported, and how one run follows those before.
-- Serves: lines_named, own_of, report_from, report_no_memory, run_inputs, run_grammars, check_and_run, run_several
use native.Mathlib.Numerals.{unary_clauses}
use Rattle.std.proofs.Common.{◌≡◌, ◌∙◌, ap, subst, sym, refl, true≢false, inl, inr, ℕ, Bool, true, false}
use Rattle.std.proofs.Common.{List, [], ◌∷◌, ◌++◌, append_assoc, append-nil, ◌≤◌, ◌⊎◌, Option, None, Some, map, take}
use Rattle.std.proofs.Common.{drop, length, ◌+◌, ◌<◌, arith}
use Rattle.std.specs.Prelude.{Result, Ok, Err, ◌==◌, max, option_map, unwrap_or}
use Rattle.std.proofs.lemmas.List.{map-append, take-append-drop, take_all}
use Rattle.std.specs.Borrow.{Bor}
use Rattle.clap.specs.Words.{Row, Text}
use Rattle.cli.specs.Asked.{Ask, files_in}
use Rattle.cli.specs.FileRuns.{AllRun, AreFew, AreFewAsked, HasRunFiles, HasRunSeveral, RunsInOrder}
use Rattle.cli.specs.FileRuns.{IsGrammarRun, IsReportedText, Manners, both_calls, lines_named, more, name_before, none}
use Rattle.cli.specs.FileRuns.{is_plain, writes_asked}
use Rattle.cli.specs.declared.settings.Asked.{Asked}
use Rattle.cli.specs.declared.settings.Format.{Format}
use Rattle.findings.specs.declared.messages.Syntax.{Syntax}
use Rattle.ruletable.specs.Writing.{Flags, Writes}
use Rattle.ruletable.specs.declared.sink.WriteFault.{WriteFault}
use Rattle.ruletable.proofs.AppendsLemmas.{IsPrefixOf-same}
use Rattle.toolrun.specs.Input.{Input}
use Rattle.toolrun.specs.Reply.{Reply}
use Rattle.toolrun.specs.Stream.{Stream}
use Rattle.toolrun.specs.declared.settings.Mode.{Mode}
use Rattle.toolrun.specs.declared.settings.Mode.TheVariants.{Check, Print, Run}
use Rattle.toolrun.specs.declared.settings.Settings.{Settings}

-- ---- what is reported

pub is_reported_text : {A : Type 0} (text : List ℕ) (err : Stream) (r : Result A WriteFault) → err.was ≡ false
    → Writes err.old err.new text r → Flags err.was err.failed r → IsReportedText text err
is_reported_text text err (Ok x) fresh writes flag = (text, writes, (IsPrefixOf-same text, λ ok. refl))
is_reported_text text err (Err fault) fresh writes flag =
    (writes.0, writes.2, (writes.1.0, λ ok. absurd (true≢false (sym flag ∙ ok))))

-- ---- the lines of a text

-- whether a line begins after these bytes
pub starts_after : Bool → List ℕ → Bool
starts_after starts [] = starts
starts_after starts (b ∷ rest) = starts_after (b == 10) rest

pub starts_more : (starts : Bool) (xs : List ℕ) (b : ℕ) → starts_after starts (xs ++ b ∷ []) ≡ (b == 10)
unfolding starts_after
starts_more starts [] b = refl
starts_more starts (x ∷ xs) b = starts_more (x == 10) xs b

lines_more : (name : Text) (starts : Bool) (xs : List ℕ) (b : ℕ) → lines_named name starts (xs ++ b ∷ [])
    ≡ lines_named name starts xs ++ (name_before name (starts_after starts xs) b ++ b ∷ [])
unfolding starts_after lines_named
lines_more name starts [] b = refl
lines_more name starts (x ∷ xs) b =
    ap (λ (z : List ℕ). name_before name starts x ++ x ∷ z) (lines_more name (x == 10) xs b)
    ∙ sym (append_assoc (name_before name starts x) (x ∷ lines_named name (x == 10) xs) _)

pub lines_none : (name : Text) → lines_named name true [] ≡ []
unfolding lines_named
lines_none name = refl

pub starts_none : starts_after true [] ≡ true
unfolding starts_after
starts_none = refl

-- a byte that is added with the name before it
pub line_pushed : (name : Text) (xs : List ℕ) (i b : ℕ) (starts : Bool) (old mid new : List ℕ)
    → take (i + 1) xs ≡ take i xs ++ b ∷ [] → old ≡ lines_named name true (take i xs)
    → starts ≡ starts_after true (take i xs) → mid ≡ old ++ name_before name starts b → new ≡ mid ++ b ∷ []
    → new ≡ lines_named name true (take (i + 1) xs)
line_pushed name xs i b starts old mid new front had begun named pushed =
    pushed ∙ ap (λ (z : List ℕ). z ++ b ∷ []) (named
    ∙ ap (λ (z : List ℕ). z ++ name_before name starts b) had
    ∙ ap (λ (s : Bool). lines_named name true (take i xs) ++ name_before name s b) begun)
    ∙ append_assoc (lines_named name true (take i xs)) (name_before name (starts_after true (take i xs)) b) (b ∷ [])
    ∙ sym (lines_more name true (take i xs) b) ∙ ap (lines_named name true) (sym front)

pub starts_pushed : (xs : List ℕ) (i b : ℕ) → take (i + 1) xs ≡ take i xs ++ b ∷ []
    → (b == 10) ≡ starts_after true (take (i + 1) xs)
starts_pushed xs i b front = sym (ap (starts_after true) front ∙ starts_more true (take i xs) b)

-- ---- one run after others

module _ (Runs : Text → Stream → Stream → ℕ → Type 0) (front : List Text) (names : List (Bor Text)) (i : ℕ) where
  abbrev now_of : Bor Text → Text
  now_of s = s.now

  -- these have run so far
  abbrev HaveFirst : Stream → Stream → ℕ → Type 0
  HaveFirst out err code = RunsInOrder Runs (front ++ map now_of (take i names)) out err code

  -- the run on the next name
  pub have_more : (name : Bor Text) (out out_next err err_next : Stream) (code next most : ℕ)
      → HaveFirst out err code → Runs name.now out_next err_next next → out.new ≡ out_next.old
      → err.new ≡ err_next.old → take (i + 1) names ≡ take i names ++ name ∷ [] → most ≡ max code next
      → RunsInOrder Runs (front ++ map now_of (take (i + 1) names)) (both_calls out out_next) (both_calls err err_next)
      most
  have_more name out out_next err err_next code next most have run out_same err_same taken is =
      subst (λ ns. RunsInOrder Runs ns (both_calls out out_next) (both_calls err err_next) most)
      (append_assoc front (map now_of (take i names)) (name.now ∷ [])
      ∙ ap (λ (ns : List Text). front ++ ns)
      (sym (ap (map now_of) taken ∙ map-append now_of (take i names) (name ∷ []))))
      (subst (λ n. RunsInOrder Runs ((front ++ map now_of (take i names)) ++ name.now ∷ []) (both_calls out out_next)
      (both_calls err err_next) n) (sym is)
      (more (front ++ map now_of (take i names)) name.now out out_next err err_next code next have run out_same
      err_same))

  -- the rest is left out
  pub some_run : (out err : Stream) (code : ℕ) → HaveFirst out err code
      → (4 ≤ code) ⊎ ((out.failed ≡ true) ⊎ (err.failed ≡ true)) → AllRun Runs (front ++ map now_of names) out err code
  some_run out err code have over = (
    front ++ map now_of (take i names),
    map now_of (drop i names),
    ap (λ (ns : List Text). front ++ ns)
        (sym (sym (map-append now_of (take i names) (drop i names)) ∙ ap (map now_of) (take-append-drop i names)))
        ∙ sym (append_assoc front (map now_of (take i names)) (map now_of (drop i names))),
    have,
    inr over,
  )

  -- none is left
  pub all_run : (out err : Stream) (code : ℕ) → HaveFirst out err code → length names ≤ i
      → AllRun Runs (front ++ map now_of names) out err code
  all_run out err code have over = (
    front ++ map now_of (take i names),
    [],
    ap (λ (ns : List (Bor Text)). front ++ map now_of ns) (sym (take_all i names over)) ∙ sym (append-nil _),
    have,
    inl refl,
  )

-- the first run of all
pub first_run : (Runs : Text → Stream → Stream → ℕ → Type 0) (name : Text) (out err : Stream) (code : ℕ)
    → Runs name out err code → RunsInOrder Runs (name ∷ []) out err code
first_run Runs name out err code run =
    let h : RunsInOrder Runs (name ∷ []) out err (max 0 code) =
    more [] name (record { old = out.old; new = out.old; was = out.was; failed = out.was }) out
    (record { old = err.old; new = err.old; was = err.was; failed = err.was }) err 0 code (none _ _ refl refl) run refl
    refl in
    simp unary_clauses at h

-- a status of 4 or 5 is none of 0
pub over_some : {X : Type 0} (code : ℕ) → (4 ≤ code) ⊎ X → (0 < code) ⊎ X
over_some code (inl most) = inl (omega arith)
over_some code (inr other) = inr other

-- ---- what the words ask for

-- the files that are named, none where no word names one
pub files_named : (o : Option (Bor (List (Bor Text)))) (d r : Bor (List (Bor Text))) (all : Option (List Text))
    → option_map (λ s. map (λ v. v.now) s.now) o ≡ all → d.now ≡ [] → r ≡ unwrap_or o d
    → map (λ v. v.now) r.now ≡ unwrap_or all []
files_named None d r all e empty is = rw (is, empty, sym e) refl
files_named (Some x) d r all e empty is = rw (is, sym e) refl

plain_asked : (f g : Format) (m n : Mode) (a b c d : Option Text) → f ≡ g → m ≡ n → a ≡ b → c ≡ d
    → is_plain f m a c ≡ is_plain g n b d
plain_asked f g m n a b c d format mode grammar file =
    ap (λ (x : Format). is_plain x m a c) format ∙ ap (λ (x : Mode). is_plain g x a c) mode
    ∙ ap (λ (x : Option Text). is_plain g n x c) grammar ∙ ap (λ (x : Option Text). is_plain g n b x) file

pub few_asked : {O : Type 0} (Asks : List Row → O → Type 0) (rows same : List Row) (asked : Asked O) (names : List Text)
    → rows ≡ same → Ask Asks rows asked → names ≡ files_in rows → AreFew asked.settings.mode names
    → is_plain asked.format asked.settings.mode (Some asked.path.now) (option_map (λ s. s.now) asked.file) ≡ true
    → AreFewAsked same
few_asked Asks rows same asked names e ask named few plain = subst AreFewAsked e (
  subst (λ (q : Mode). AreFew q (files_in rows)) ask.mode (subst (AreFew asked.settings.mode) named few),
  sym (plain_asked _ _ _ _ _ _ _ _ ask.format ask.mode (sym ask.grammar) ask.file) ∙ plain,
)

module _ {O : Type 0} (syntax_of : Syntax) (Asks : List Row → O → Type 0)
    (States : List ℕ → Settings O → Input → List ℕ → Reply → Type 0)
  where
    pub ran_asked : (rows same : List Row) (asked : Asked O) (names : List Text) (out err : Stream) (code : ℕ)
        → rows ≡ same → Ask Asks rows asked → names ≡ files_in rows
        → HasRunFiles (writes_asked syntax_of asked) States asked.settings.mode asked.settings asked.path.now names out
        err code → HasRunSeveral syntax_of Asks States same out err code
    ran_asked rows same asked names out err code e ask named ran = inl (
      asked,
      subst (λ r. Ask Asks r asked) e ask,
      subst (λ ns. HasRunFiles (writes_asked syntax_of asked) States asked.settings.mode asked.settings asked.path.now
          ns out err code)
          (named ∙ ap files_in e) ran,
    )

    pub grammars_ran : (Writes : Manners) (mode : Mode) (settings : Settings O) (path : Text) (names : List Text)
        (out err : Stream) (code : ℕ) → (mode ≡ Run → ⊥)
        → AllRun (IsGrammarRun Writes (λ g. States g settings)) (path ∷ names) out err code
        → HasRunFiles Writes States mode settings path names out err code
    grammars_ran Writes Run settings path names out err code isnt ran = absurd (isnt refl)
    grammars_ran Writes Check settings path names out err code isnt ran = ran
    grammars_ran Writes Print settings path names out err code isnt ran = ran
