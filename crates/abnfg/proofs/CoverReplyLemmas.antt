-- What a run states of lines that reach goals.
-- Serves: abnfg_main (right)
use Rattle.std.proofs.Common.{◌≡◌, ◌⊎◌, inl, inr, ℕ, zero, suc, ◌<◌, ◌≤◌, Bool, List, [], ◌∷◌, ◌++◌, length, refl}
use Rattle.std.proofs.Common.{sym, ◌∙◌, ap, subst, arith, append-nil, Option, take, min, true}
use Rattle.std.specs.Prelude.{Result, Ok, Err}
use Rattle.std.specs.Io.KnownBytes.{Appends}
use Rattle.std.specs.List.{flat_map}
use Rattle.std.proofs.Math.Nat.{min-eq_left, min-eq_right, min-le_left, min-le_right}
use Rattle.std.proofs.Math.Seq.{take-nil}
use Rattle.std.proofs.lemmas.Bool.{cases_lt}
use Rattle.std.proofs.lemmas.List.{length-map, length-take, length-take-le, take-map, take_all}
use Rattle.abnfg.specs.CoverGoals.{asked_text}
use Rattle.abnfg.specs.CoverLists.{AreMissedBy, IsCoverOf, line_texts, listed_status}
use Rattle.abnfg.specs.ListedLines.{AreEnough, EndsExplained, EndsWith, end_of, listed, no_line, no_room, record_text}
use Rattle.abnfg.specs.ListModes.{AreExplained, AreFirstAsked, AreWholeAsked, ExplainedIn, FirstIn, WholeIn}
use Rattle.abnfg.specs.declared.lines.ListMode.{ListMode}
use Rattle.abnfg.specs.declared.lines.ListMode.TheVariants.{Cover}
use Rattle.abnfg.specs.declared.lines.ListSettings.{ListSettings}
use Rattle.abnfg.proofs.ListedReplyLemmas.{Fulfilled, cut_states, text_fulfils}
use Rattle.abnfg.proofs.ReturnedLinesLemmas.{none_first}
use Rattle.abnfread.specs.Element.{Rule}
use Rattle.abnfrun.specs.AbnfReply.{unit_for}
use Rattle.coverlines.specs.CoverLines.{line_items}
use Rattle.coverlines.specs.declared.way.CoverGoal.{CoverGoal}
use Rattle.coverlines.specs.declared.cover.CoverLine.{CoverLine}
use Rattle.ruletable.specs.Writing.{AppendsPart}
use Rattle.ruletable.specs.declared.sink.WriteFault.{WriteFault}
use Rattle.toolrun.specs.Stop.{message_of}
use Rattle.toolrun.specs.declared.ending.Ending.{Ending}
use Rattle.toolrun.specs.declared.status.Status.TheVariants.{Done, NoMatch, NoMemory as WithoutMemory}
use Rattle.toolrun.specs.declared.stop.Stop.TheVariants.{NoMemory}

-- the first ones of first ones
first_taken : (k n : ℕ) (xs : List CoverLine) → (j : ℕ) × (take k (take n xs) ≡ take j xs)
first_taken zero n xs = (0, refl)
first_taken (suc k) zero xs = (0, refl)
first_taken (suc k) (suc n) [] = (0, refl)
first_taken (suc k) (suc n) (x ∷ xs) = let t = first_taken k n xs in (suc t.0, ap (λ v. x ∷ v) t.1)

-- the texts of lines, by their symbols
texts_are : (text_of : List ℕ → List ℕ) (lines : List CoverLine)
    → line_texts text_of lines ≡ flat_map text_of (line_items lines)
texts_are text_of [] = refl
texts_are text_of (line ∷ lines) = ap (λ v. text_of line.line.items ++ v) (texts_are text_of lines)

taken_length : (n : ℕ) (lines : List CoverLine) → n ≤ length lines → length (line_items (take n lines)) ≡ n
taken_length n lines le = length-map (take n lines) (λ line. line.line.items) ∙ length-take-le n lines le

module _ (s : ListSettings) (rules : List Rule) (id : ℕ) (s0 s1 : Option (List ℕ)) (was failed : Bool)
    (mode : s.mode ≡ Cover) where
  abbrev text_of : List ℕ → List ℕ
  text_of = record_text s.letters (end_of s.nul)

  abbrev Ends : Result Ending WriteFault → Type 0
  Ends r = Fulfilled s rules id [] s0 s1 was failed r

  abbrev Memoryless : Ending → Type 0
  Memoryless ending = EndsWith (message_of NoMemory) WithoutMemory ending

  -- there is no memory for the lines
  pub cover_unroomed : (ending : Ending) → Appends s0 s1 [] → Memoryless ending → failed ≡ was → Ends (Ok ending)
  cover_unroomed ending none ends flag =
      text_fulfils s rules id [] s0 s1 was failed [] (message_of NoMemory) WithoutMemory ending
      (no_room (none_first s rules id s.mode) (omega arith)) none ends flag

  module _ (lines : List CoverLine) (missed : List CoverGoal) (cover : IsCoverOf s rules id lines)
      (are_missed : AreMissedBy s rules id missed) where
    first_cover : (n : ℕ) → AreFirstAsked s rules id (line_items (take n lines))
    first_cover n =
        subst (λ (m : ListMode). FirstIn m s.alike s.edges s.letters (end_of s.nul) s.limit rules id
        (line_items (take n lines))) (sym mode) (inr (record {
          lines = lines;
          cover = cover;
          are = (n, sym (take-map (λ line. line.line.items) n lines));
        }))

    whole_cover : AreWholeAsked s rules id (line_items lines)
    whole_cover =
        subst (λ (m : ListMode). WholeIn m s.alike s.edges s.letters (end_of s.nul) s.limit rules id (line_items lines))
        (sym mode) (record { lines = lines; cover = cover; are = refl })

    goals_reported : (n : ℕ) (text : List ℕ)
        → text ≡ asked_text s.explain (unit_for s.nul) rules (take n lines) missed
        → AreExplained s rules id (line_items (take n lines)) text
    goals_reported n text is =
        subst (λ (m : ListMode). ExplainedIn m s rules id (line_items (take n lines)) text) (sym mode) (record {
          lines = lines;
          missed = missed;
          count = n;
          cover = cover;
          are_missed = are_missed;
          are = refl;
          is = is;
        })

    -- the lines that are asked for are enough, if there is a line
    cover_enough : (n : ℕ) → n ≡ min (length lines) s.count → 0 < length lines
        → AreEnough (AreWholeAsked s rules id) s.count (line_items (take n lines))
    cover_enough n is some = by (cases_lt (length lines) s.count)
      where
        le : n ≤ length lines
        le = let m = min-le_left (length lines) s.count in omega (arith, is, m)

        by : (length lines < s.count) ⊎ (s.count ≤ length lines)
            → AreEnough (AreWholeAsked s rules id) s.count (line_items (take n lines))
        by (inr fewer) =
            inl (taken_length n lines le ∙ (is ∙ min-eq_right fewer))
        by (inl more) =
            let all : length lines ≤ n = (let m = min-eq_left {n = length lines} {m = s.count} (omega (arith, more)) in
            omega (arith, is, m)) in
            let same = take_all n lines all in
            inr (
              λ none. (let l = taken_length n lines le in let z = ap length none in omega (arith, l, z, all, some)),
              (let l = taken_length n lines le in omega (arith, l, le, more)),
              subst (λ (v : List CoverLine). AreWholeAsked s rules id (line_items v)) (sym same) whole_cover,
            )

    some_within : (k n : ℕ) → n ≡ min (length lines) s.count → length (line_items (take k (take n lines))) ≤ s.count
    some_within k n is =
        let a = length-map (take k (take n lines)) (λ line. line.line.items) in
        let b = length-take k (take n lines) in
        let c = length-take n lines in
        let m = min-le_right (length lines) s.count in
        omega (arith, a, b, c, m, is)

    first_within : (n : ℕ) → n ≡ min (length lines) s.count → length (line_items (take n lines)) ≤ s.count
    first_within n is =
        let a = length-map (take n lines) (λ line. line.line.items) in
        let c = length-take n lines in
        let m = min-le_right (length lines) s.count in
        omega (arith, a, c, m, is)

    -- so many lines are asked for
    module _ (n : ℕ) (is : n ≡ min (length lines) s.count) where
      abbrev written : List ℕ
      written = line_texts text_of (take n lines)

      texts_written : Appends s0 s1 written → Appends s0 s1 (flat_map text_of (line_items (take n lines)))
      texts_written is_written = subst (λ v. Appends s0 s1 v) (texts_are text_of (take n lines)) is_written

      goals_end : (l : List CoverLine) → lines ≡ l → (text : List ℕ)
          → text ≡ asked_text s.explain (unit_for s.nul) rules (take n lines) missed → (ending : Ending)
          → EndsWith text (listed_status l) ending → Appends s0 s1 written → failed ≡ was → Ends (Ok ending)
      goals_end [] none text why ending ends all flag =
          text_fulfils s rules id [] s0 s1 was failed [] text NoMatch ending
          (no_line (subst (λ (v : List CoverLine). AreWholeAsked s rules id (line_items v)) none whole_cover)
          (subst (λ (v : List (List ℕ)). AreExplained s rules id v text) same (goals_reported n text why)))
          (subst (λ (v : List (List ℕ)). Appends s0 s1 (flat_map text_of v)) same (texts_written all)) ends flag
        where
          same : line_items (take n lines) ≡ []
          same = ap (λ (v : List CoverLine). line_items (take n v)) none
              ∙ ap (λ (v : List CoverLine). line_items v) (take-nil {A = CoverLine} n)
      goals_end (x ∷ xs) some text why ending ends all flag =
          text_fulfils s rules id [] s0 s1 was failed (flat_map text_of (line_items (take n lines))) text Done ending
          (listed (first_cover n) (cover_enough n is (let l = ap length some in omega (arith, l)))
          (goals_reported n text why)) (texts_written all) ends flag

      -- the lines were written, and the end says what they are for
      pub cover_ends : (ending : Ending) → Appends s0 s1 written
          → EndsExplained (λ text. text ≡ asked_text s.explain (unit_for s.nul) rules (take n lines) missed) []
          (listed_status lines) ending → failed ≡ was → Ends (Ok ending)
      cover_ends ending all (inl ends) flag =
          goals_end lines refl ends.0 ends.1 ending (ends.2.0 ∙ append-nil ends.0, ends.2.1) all flag
      cover_ends ending all (inr ends) flag =
          text_fulfils s rules id [] s0 s1 was failed (flat_map text_of (line_items (take n lines)))
          (message_of NoMemory) WithoutMemory ending (no_room (first_cover n) (first_within n is)) (texts_written all)
          ends flag

      -- there is no memory for one of them
      pub cover_unwritten : (ending : Ending) (k : ℕ) → Appends s0 s1 (line_texts text_of (take k (take n lines)))
          → Memoryless ending → failed ≡ was → Ends (Ok ending)
      cover_unwritten ending k some ends flag =
          let t = first_taken k n lines in
          text_fulfils s rules id [] s0 s1 was failed (flat_map text_of (line_items (take k (take n lines))))
          (message_of NoMemory) WithoutMemory ending
          (no_room (subst (λ (v : List CoverLine). AreFirstAsked s rules id (line_items v)) (sym t.1)
          (first_cover t.0)) (some_within k n is))
          (subst (λ v. Appends s0 s1 v) (texts_are text_of (take k (take n lines))) some) ends flag

      -- the output failed
      pub cover_cut : (fault : WriteFault) → AppendsPart s0 s1 written → failed ≡ true → Ends (Err fault)
      cover_cut fault part flag =
          cut_states s rules id [] s0 s1 was failed (line_items (take n lines)) (first_cover n) (first_within n is)
          (subst (λ v. AppendsPart s0 s1 v) (texts_are text_of (take n lines)) part) fault flag
