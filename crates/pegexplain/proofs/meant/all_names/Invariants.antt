-- The names of the rules, and those of the mentions so far.
use Rattle.std.proofs.Common.{◌≡◌, map, take}
use Rattle.diagnostics.specs.BodyMentions.{mentioned_at}
use Rattle.ruletable.specs.Rules.{names_of}
use Rattle.ruletable.specs.declared.table.NameCase.TheVariants.{Exact}
use Rattle.pegexplain.specs.MeantRules.{all_names, used_names}
use Rattle.pegexplain.proofs.meant.all_names.Given as goal

abbrev pub invariant-loop-mention : goal.invariant-loop-mention
invariant-loop-mention l = record {
  compares : l.names.names ≡ Exact;
  all : names_of l.names ≡ all_names (names_of l.rules)
      (used_names (map mentioned_at (take l.mention-index l.mentions)));
}
