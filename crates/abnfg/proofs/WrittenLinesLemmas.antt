-- Lines that a source returns, written one after another.
-- Serves: abnfg_main (right)
use Rattle.std.proofs.Common.{◌≡◌, inl, inr, ℕ, ◌+◌, ◌<◌, ◌≤◌, List, [], ◌∷◌, ◌++◌, length, refl, sym, ◌∙◌}
use Rattle.std.proofs.Common.{ap, subst, arith, length-append, append-nil, Option, None, Some, Bool, true, false}
use Rattle.std.proofs.Common.{Vec, Global}
use Rattle.std.specs.Prelude.{Result, Ok, Err}
use Rattle.std.specs.List.{flat_map}
use Rattle.std.specs.Io.KnownBytes.{Appends}
use Rattle.std.proofs.lemmas.Grind.{flat_map-append}
use Rattle.std.proofs.lemmas.List.{map-append}
use Rattle.abnfg.specs.ListModes.{AreLinesKept, explained_asked}
use Rattle.abnfg.specs.ListRefusals.{explained_lines, explains_by}
use Rattle.abnfg.specs.declared.lines.ListSettings.{ListSettings}
use Rattle.ruletable.specs.declared.alphabet.Alphabet.{Alphabet}
use Rattle.rulelines.specs.LineBytes.{line_bytes}
use Rattle.rulelines.specs.MissLists.{item_lines}
use Rattle.rulelines.proofs.MissLinesLemmas.{lines_more}
use Rattle.abnfg.specs.ListedLines.{AreWritten, IsHaltAt, IsRecordWritten, IsWrittenNext}
use Rattle.abnfg.specs.declared.lines.Halt.{Halt}
use Rattle.abnfg.specs.declared.lines.Halt.TheVariants.{NoMemory as HaltsUnroomed, Nothing, TooMany}
use Rattle.abnfg.specs.declared.lines.Halt.TheVariants.{All as Finished}
use Rattle.ruletable.proofs.AppendsLemmas.{Appends-join, Appends-same, AppendsPart-join}
use Rattle.ruletable.specs.Writing.{AppendsPart}
use Rattle.ruletable.specs.declared.sink.WriteFault.{WriteFault}

no_length : {A : Type 0} (xs : List A) → length xs ≡ 0 → xs ≡ []
no_length [] is = refl
no_length (x ∷ xs) is = absurd (omega (arith, is))

module _ (whole : List (List ℕ) → Type 0) (ws : List (List ℕ)) (done : ℕ) (count : length ws ≡ done) where
  -- why there is no line
  pub halt_none : done ≡ 0 → whole ws → IsHaltAt whole ws Nothing
  halt_none none all = (no_length ws (omega (arith, count, none)), all)

  pub halt_all : (done ≡ 0 → ⊥) → whole ws → IsHaltAt whole ws Finished
  halt_all some all = (λ same. some (let n = ap length same in omega (arith, count, n)), all)

-- the lines that are kept with one more
explained_push : (b : Bool) (alphabet : Alphabet) (ws : List (List ℕ)) (w : List ℕ)
    → explained_lines b alphabet (ws ++ w ∷ []) ≡ explained_lines b alphabet ws ++ explained_lines b alphabet (w ∷ [])
explained_push true alphabet ws w = map-append (λ v. line_bytes alphabet v) ws (w ∷ [])
explained_push false alphabet ws w = refl

kept_push : (s : ListSettings) (was now : List (Vec ℕ Global)) (ws : List (List ℕ)) (w : List ℕ) → AreLinesKept s was ws
    → item_lines now ≡ item_lines was ++ explained_asked s (w ∷ []) → AreLinesKept s now (ws ++ w ∷ [])
kept_push s was now ws w before more =
    more ∙ (ap (λ v. v ++ explained_asked s (w ∷ [])) before
    ∙ sym (explained_push (explains_by s.mode s.explain) s.letters ws w))

-- no line is explained
pub explained_none : (b : Bool) (alphabet : Alphabet) → [] ≡ explained_lines b alphabet []
explained_none true alphabet = refl
explained_none false alphabet = refl

-- nothing is kept of no line
pub none_kept : (s : ListSettings) (kept : List (Vec ℕ Global)) → kept ≡ [] → AreLinesKept s kept []
none_kept s kept none =
    ap (λ v. item_lines v) none ∙ explained_none (explains_by s.mode s.explain) s.letters

-- a line is kept, or it is not
pub line_kept : (s : ListSettings) (was now : List (Vec ℕ Global)) (line : List ℕ) (bytes : Vec ℕ Global)
    → explains_by s.mode s.explain ≡ true → bytes.items ≡ line_bytes s.letters line → now ≡ was ++ bytes ∷ []
    → item_lines now ≡ item_lines was ++ explained_asked s (line ∷ [])
line_kept s was now line bytes is same pushed =
    subst (λ (b : Bool). item_lines now ≡ item_lines was ++ explained_lines b s.letters (line ∷ [])) (sym is)
    (ap (λ v. item_lines v) pushed ∙ (lines_more was bytes ∙ ap (λ v. item_lines was ++ v ∷ []) same))

pub none_more : (s : ListSettings) (was : List (Vec ℕ Global)) (line : List ℕ) → explains_by s.mode s.explain ≡ false
    → item_lines was ≡ item_lines was ++ explained_asked s (line ∷ [])
none_more s was line is =
    subst (λ (b : Bool). item_lines was ≡ item_lines was ++ explained_lines b s.letters (line ∷ [])) (sym is)
    (sym (append-nil (item_lines was)))

module _ (text_of : List ℕ → List ℕ) where
  one_text : (ws : List (List ℕ)) (w : List ℕ) → flat_map text_of (ws ++ w ∷ []) ≡ flat_map text_of ws ++ text_of w
  one_text ws w =
      flat_map-append text_of ws (w ∷ []) ∙ ap (λ v. flat_map text_of ws ++ v) (append-nil (text_of w))

  -- the next line was written
  pub record_next : (s : ListSettings) (was now : List (Vec ℕ Global)) (returned whole : List (List ℕ) → Type 0)
      (ws : List (List ℕ)) (w : List ℕ) (old new : Option (List ℕ)) → returned (ws ++ w ∷ []) → AreLinesKept s was ws
      → (r : Result (Option Halt) WriteFault)
      → IsRecordWritten (item_lines was) (item_lines now) (explained_asked s (w ∷ [])) (text_of w) old new r
      → IsWrittenNext returned (AreLinesKept s now) whole text_of ws old new r
  record_next s was now returned whole ws w old new next before (Ok None) is =
      (w, next, kept_push s was now ws w before is.0, is.1)
  record_next s was now returned whole ws w old new next before (Ok (Some halt)) is =
      (halt_memory halt is.0, is.1 ∙ before, is.2)
    where
      halt_memory : (h : Halt) → h ≡ HaltsUnroomed → IsHaltAt whole ws h
      halt_memory h same = subst (λ v. IsHaltAt whole ws v) (sym same) tt
  record_next s was now returned whole ws w old new next before (Err fault) is =
      (w, next, kept_push s was now ws w before is.0, is.1)

  -- so many lines that were returned were written, and kept
  pub record AreWrittenTo (returned kept : List (List ℕ) → Type 0) (done : ℕ) (old new : Option (List ℕ)) : Type 0
    where
      pub ws : List (List ℕ)
      pub are : returned ws
      pub kept_are : kept ws
      pub count : length ws ≡ done
      pub text : Appends old new (flat_map text_of ws)

  pub none_written : (returned kept : List (List ℕ) → Type 0) (old : Option (List ℕ)) → returned [] → kept []
      → AreWrittenTo returned kept 0 old old
  none_written returned kept old none kept_none =
      record { ws = []; are = none; kept_are = kept_none; count = refl; text = Appends-same old }

  -- after some lines, of which the first ones are asked for
  module _ (first whole was kept now keeps : List (List ℕ) → Type 0) (done count : ℕ) (a b c : Option (List ℕ))
      (u : AreWrittenTo was kept done a b) where
    pub one_more : IsWrittenNext now keeps whole text_of u.ws b c (Ok None) → AreWrittenTo now keeps (done + 1) a c
    one_more is = record {
      ws = u.ws ++ is.0 ∷ [];
      are = is.1;
      kept_are = is.2;
      count = (let n = length-append u.ws (is.0 ∷ []) in let e = u.count in omega (arith, n, e));
      text = subst (λ v. Appends a c v) (sym (one_text u.ws is.0))
          (Appends-join a b c (flat_map text_of u.ws) (text_of is.0) u.text is.3);
    }

    pub halt_written : (halt : Halt) → ((ws : List (List ℕ)) → was ws → keeps ws → first ws) → done ≤ count
        → IsWrittenNext now keeps whole text_of u.ws b c (Ok (Some halt))
        → AreWritten first whole text_of count a c (Ok halt)
    halt_written halt on le is = by halt is.0 (subst (λ v. Appends a c v) (append-nil (flat_map text_of u.ws))
        (Appends-join a b c (flat_map text_of u.ws) [] u.text is.2))
      where
        within : length u.ws ≤ count
        within = let e = u.count in omega (arith, e, le)

        firsts : first u.ws
        firsts = on u.ws u.are is.1

        by : (h : Halt) → IsHaltAt whole u.ws h → Appends a c (flat_map text_of u.ws)
            → AreWritten first whole text_of count a c (Ok h)
        by Finished all text = (u.ws, firsts, inr (all.0, within, all.1), text)
        by Nothing none text = (
          subst (λ v. whole v) none.0 none.1,
          subst (λ v. Appends a c (flat_map text_of v)) none.0 text,
        )
        by TooMany none text = (u.ws, firsts, within, text)
        by HaltsUnroomed none text = (u.ws, firsts, within, text)

    pub cut_off : (fault : WriteFault) → ((ws : List (List ℕ)) → now ws → keeps ws → first ws) → done < count
        → IsWrittenNext now keeps whole text_of u.ws b c (Err fault)
        → AreWritten first whole text_of count a c (Err fault)
    cut_off fault on lt is = (
      u.ws ++ is.0 ∷ [],
      on (u.ws ++ is.0 ∷ []) is.1 is.2,
      (let e = u.count in let n = length-append u.ws (is.0 ∷ []) in omega (arith, e, n, lt)),
      subst (λ v. AppendsPart a c v) (sym (one_text u.ws is.0))
          (AppendsPart-join a b c (flat_map text_of u.ws) (text_of is.0) u.text is.3),
    )

  pub all_written : (first whole was kept : List (List ℕ) → Type 0) (done count : ℕ) (a b : Option (List ℕ))
      → AreWrittenTo was kept done a b → ((ws : List (List ℕ)) → was ws → kept ws → first ws) → done ≡ count
      → AreWritten first whole text_of count a b (Ok Finished)
  all_written first whole was kept done count a b u on same = (
    u.ws,
    on u.ws u.are u.kept_are,
    inl (let e = u.count in omega (arith, e, same)),
    u.text,
  )
