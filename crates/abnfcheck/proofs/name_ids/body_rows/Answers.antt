-- The names in one more body, and its row.
use Rattle.std.proofs.Common.{◌≡◌, ◌+◌, ◌++◌, [], ℕ, List, take}
use Rattle.std.specs.Prelude.{slice_get, Some}
use Rattle.std.proofs.lemmas.List.{map-append}
use Rattle.fixpoint.specs.StepRows.{rows_of}
use Rattle.ruletable.specs.Rules.{names_of}
use Rattle.ruletable.specs.declared.table.NameCase.TheVariants.{Fold}
use Rattle.fixpoint.specs.FirstUses.{news}
use Rattle.fixpoint.specs.NameUses.{IsScanned, no_uses}
use Rattle.fixpoint.proofs.IsScannedLemmas.{scan_grows}
use Rattle.abnfread.specs.Element.{bodies}
use Rattle.abnfread.specs.AbnfViews.{element_of, rules_of}
use Rattle.abnfcheck.specs.AbnfUses.{names_in, names_used}
use Rattle.abnfcheck.specs.NameIds.{AreRowsTo}
use Rattle.abnfcheck.proofs.NameIdsLemmas.{body_shown, next_names, next_rows}
use Rattle.abnfcheck.proofs.name_ids.body_rows.Goals as goal

module _ (c : goal.In_ok-push) where
  at : slice_get (bodies (rules_of c.args.rules.now)) c.loop-id.id ≡ Some (element_of c.body.result.now)
  at = body_shown c.args.rules.now.rules c.loop-id.id c.body.result.now c.body.ensures

  module _ (known seen : List (List ℕ)) (is : names_of c.args.names.now ≡ known ++ news Fold known seen) where
    scanned : IsScanned Fold known ((seen ++ names_used (take c.loop-id.id (rules_of c.args.rules.now)))
        ++ names_in (element_of c.body.result.now)) (names_in (element_of c.body.result.now)) c.add_names.new.names
        c.add_names.new.row.items
    scanned = c.in_ok-add_names.ensures.scanned known _ []
        (record {
          compares = c.loop-id.invariant.folds;
          all = c.loop-id.invariant.names known seen is;
          ids = rw c.new-row.ensures.items no_uses;
        })

    rows : AreRowsTo (rules_of c.args.rules.now) (names_of c.add_names.new.names) (rows_of c.push.new.self.items)
        (c.loop-id.id + 1)
    rows = rw (c.in_ok-push.ensures.items, map-append)
        (next_rows (rules_of c.args.rules.now) (names_of c.loop-id.names) (names_of c.add_names.new.names) _
        (rows_of c.loop-id.rows.items) c.add_names.new.row.items c.loop-id.id (element_of c.body.result.now) at
        (scan_grows Fold known _ (names_in (element_of c.body.result.now)) (names_of c.loop-id.names)
        (names_of c.add_names.new.names) (c.loop-id.invariant.names known seen is) scanned.all)
        (c.loop-id.invariant.rows known seen is) scanned.ids)

pub loop-id-preserved : goal.loop-id-preserved
loop-id-preserved c = record {
  folds = c.in_ok-add_names.ensures.folds;
  names = λ known seen is. next_names (rules_of c.args.rules.now) known seen (names_of c.add_names.new.names)
      c.loop-id.id (element_of c.body.result.now) (at c) (scanned c known seen is).all;
  rows = λ known seen is. rows c known seen is;
}
