-- What the program writes of a comparison, and its status.
use Rattle.std.specs.Prelude.{ℕ, List, ◌++◌, codes, decimal}
use Rattle.abnfd.specs.QuotedLines.{quoted_line}
use Rattle.abnfd.specs.declared.answer.LinesVerdict.{LinesVerdict}
use Rattle.abnfd.specs.declared.answer.LinesVerdict.TheVariants.{Same, Differ, NotKnown}
use Rattle.ruletable.specs.declared.alphabet.Alphabet.{Alphabet}
use Rattle.rulelines.specs.declared.alone.Alone.{Alone}
use Rattle.rulelines.specs.declared.alone.Alone.TheVariants.{First, Never, NeverUpTo, Unknown}
use Rattle.rulelines.specs.declared.comparison.Comparison.{Comparison}
use Rattle.toolrun.specs.declared.status.Status.{Status}
use Rattle.toolrun.specs.declared.status.Status.TheVariants.{Done, NoMatch, Overlong}

-- What is known of two rules, from what is known of the lines that each alone derives: one derives such a line, or
-- neither does.
abbrev pub verdict_between : Alone → Alone → LinesVerdict
verdict_between (First w) other = Differ
verdict_between Never (First w) = Differ
verdict_between Never Never = Same
verdict_between Never (NeverUpTo n) = NotKnown
verdict_between Never Unknown = NotKnown
verdict_between (NeverUpTo m) (First w) = Differ
verdict_between (NeverUpTo m) Never = NotKnown
verdict_between (NeverUpTo m) (NeverUpTo n) = NotKnown
verdict_between (NeverUpTo m) Unknown = NotKnown
verdict_between Unknown (First w) = Differ
verdict_between Unknown Never = NotKnown
verdict_between Unknown (NeverUpTo n) = NotKnown
verdict_between Unknown Unknown = NotKnown

-- 0 where both rules derive the same lines, 1 where they do not, 3 where that is not known
abbrev pub verdict_status : LinesVerdict → Status
verdict_status Same = Done
verdict_status Differ = NoMatch
verdict_status NotKnown = Overlong

-- what is known of the lines that one rule alone derives
abbrev pub alone_text : Alphabet → Alone → List ℕ
alone_text alphabet (First w) = quoted_line alphabet w.items
alone_text alphabet Never = codes "none"
alone_text alphabet (NeverUpTo n) = codes "none of at most " ++ (decimal n ++ codes " letters")
alone_text alphabet Unknown = codes "not known"

-- the lines of both rules, the old one first
abbrev pub sides_text : Alphabet → Comparison → List ℕ
sides_text alphabet found = codes "< " ++ (alone_text alphabet found.old_alone ++ (codes "\n> "
    ++ (alone_text alphabet found.new_alone ++ codes "\n")))

abbrev pub text_for : LinesVerdict → Alphabet → Comparison → List ℕ
text_for Same alphabet found = codes "same\n"
text_for Differ alphabet found = codes "differ\n" ++ sides_text alphabet found
text_for NotKnown alphabet found = codes "not known\n" ++ sides_text alphabet found

-- all that is written on the output
abbrev pub comparison_text : Alphabet → Comparison → List ℕ
comparison_text alphabet found = text_for (verdict_between found.old_alone found.new_alone) alphabet found
