-- The pieces that report a set of symbols: names of core rules, and the terms of ABNF for the rest.
use Rattle.std.specs.Prelude.{ℕ, ◌+◌, ◌-◌, ◌==◌, ◌&&◌, ◌++◌, max, min, nat_le, nat_lt, Bool, true, false, if◌then◌else◌}
use Rattle.std.specs.Prelude.{List, [], ◌∷◌, Option, Some, None, length, count_by}
use Rattle.std.specs.List.{flat_map, list_all, list_any}
use Rattle.ruletable.specs.declared.alphabet.Alphabet.{Alphabet}
use Rattle.refusedlines.specs.CoreSymbols.{core_runs, core_sets}
use Rattle.refusedlines.specs.ReportedLetters.{reported_letters}
use Rattle.refusedlines.specs.declared.letterruns.core_rule.CoreRule.{CoreRule}
use Rattle.refusedlines.specs.declared.letterruns.run.LetterRun.{LetterRun}
use Rattle.refusedlines.specs.declared.letterruns.reported.ReportedLetters.{ReportedLetters}
use Rattle.refusedlines.specs.declared.letterruns.reported.ReportedLetters.TheVariants.{Through, Named}

-- the last symbol of the run that begins at 0xE000, the first after the surrogates
abbrev pub last_across : List LetterRun → Option ℕ
last_across [] = None
last_across (run ∷ runs) = if run.first == 0xE000 then Some run.last else last_across runs

-- some run ends at 0xD7FF, the last before the surrogates
abbrev pub ends_before : List LetterRun → Bool
ends_before runs = list_any (λ run. run.last == 0xD7FF) runs

-- where a run ends, if 0xE000 follows 0xD7FF
abbrev pub end_across : ℕ → Option ℕ → ℕ
end_across last None = last
end_across last (Some further) = if last == 0xD7FF then further else last

-- a run of code points: one that goes on after the surrogates has them all, and what goes on there is no run
abbrev pub joined_run : List LetterRun → LetterRun → List LetterRun
joined_run runs run = if run.first == 0xE000 && ends_before runs then []
    else record { first = run.first; last = end_across run.last (last_across runs) } ∷ []

-- runs, where 0xD7FF and 0xE000 are neighbours
abbrev pub joined_runs : List LetterRun → List LetterRun
joined_runs runs = flat_map (joined_run runs) runs

-- the symbols of a run before those of another
abbrev pub run_before : LetterRun → LetterRun → List LetterRun
run_before cut run = if nat_lt run.first cut.first
    then record { first = run.first; last = min run.last (cut.first - 1) } ∷ [] else []

-- .. and after them
abbrev pub run_after : LetterRun → LetterRun → List LetterRun
run_after cut run = if nat_lt cut.last run.last then record { first = max run.first (cut.last + 1); last = run.last }
    ∷ [] else []

-- the symbols of runs but those of one run
abbrev pub without_run : LetterRun → List LetterRun → List LetterRun
without_run cut runs = flat_map (λ run. run_before cut run ++ run_after cut run) runs

-- .. but those of several
abbrev pub without_runs : List LetterRun → List LetterRun → List LetterRun
without_runs [] runs = runs
without_runs (cut ∷ cuts) runs = without_runs cuts (without_run cut runs)

-- maximal runs have all symbols of a run: one of them has its first and its last
abbrev pub has_run : List LetterRun → LetterRun → Bool
has_run runs part = list_any (λ run. nat_le run.first part.first && nat_le part.last run.last) runs

abbrev pub is_range : ReportedLetters → Bool
is_range (Through run) = true
is_range _ = false

-- what terms cost: two a range, one each of the others
abbrev pub reported_cost : List ReportedLetters → ℕ
reported_cost terms = length terms + count_by is_range terms

-- The symbols that are left without those of a core rule; none, if the runs lack a symbol of it, or if what is left
-- costs more.
abbrev pub rest_without : Alphabet → CoreRule → List LetterRun → Option (List LetterRun)
rest_without alphabet rule runs = if list_all (has_run runs) (core_runs rule)
    && nat_le (reported_cost (reported_letters alphabet (without_runs (core_runs rule) runs)))
    (reported_cost (reported_letters alphabet runs))
    then Some (without_runs (core_runs rule) runs) else None

-- the name of a core rule before the pieces for what is left without it, or the pieces for all
abbrev pub pieces_with : CoreRule → (List LetterRun → List ReportedLetters) → List LetterRun → Option (List LetterRun)
    → List ReportedLetters
pieces_with rule those runs None = those runs
pieces_with rule those runs (Some rest) = Named rule ∷ those rest

-- The pieces for runs: the name of each of these core rules that the runs have and that makes the rest no dearer, the
-- first ones first, and the terms for the rest.
abbrev pub pieces_by : Alphabet → List CoreRule → List LetterRun → List ReportedLetters
pieces_by alphabet [] runs = reported_letters alphabet runs
pieces_by alphabet (rule ∷ rules) runs = pieces_with rule (pieces_by alphabet rules) runs
    (rest_without alphabet rule runs)

abbrev pub pieces : Alphabet → List LetterRun → List ReportedLetters
pieces alphabet runs = pieces_by alphabet core_sets (joined_runs runs)
