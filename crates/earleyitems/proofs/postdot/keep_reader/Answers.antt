use Rattle.std.proofs.Common.{◌++◌, ◌∷◌, [], ap, sym, ◌∙◌, subst}
use Rattle.earleyitems.specs.Chosen.{items_of, ReadsSome, AreChosen}
use Rattle.earleyitems.proofs.AreChosenLemmas.{chosen_more, chosen_past}
use Rattle.earleyitems.proofs.ExpandLemmas.{map_end}
use Rattle.earleyitems.specs.ItemOwners.{AreReadersOwned}
use Rattle.earleyitems.proofs.ItemOwnersLemmas.{readers_push}
use Rattle.earleyitems.proofs.postdot.keep_reader.Goals as goal

pub returns-in_ok-push-clause-chosen : goal.returns-in_ok-push-clause-chosen
returns-in_ok-push-clause-chosen c flat seen reads are =
    subst (λ v. AreChosen (ReadsSome flat) (seen ++ c.args.at.item ∷ []) v)
    (sym (ap (λ v. items_of v) c.in_ok-push.ensures.items ∙ map_end (λ h. h.item) c.args.readers.now.items c.args.at))
    (chosen_more (ReadsSome flat) seen (items_of c.args.readers.now.items) c.args.at.item are)

pub returns-else-reads-clause-chosen : goal.returns-else-reads-clause-chosen
returns-else-reads-clause-chosen c flat seen reads are =
    chosen_past (ReadsSome flat) seen (items_of c.args.readers.now.items)
    c.args.at.item (λ r. let t = reads r in let f = c.if-reads.false in absurd cc) are

pub returns-in_ok-push-clause-owners : goal.returns-in_ok-push-clause-owners
returns-in_ok-push-clause-owners c flat rows is are =
    subst (λ v. AreReadersOwned flat rows v) (sym c.in_ok-push.ensures.items)
    (readers_push flat rows c.args.readers.now.items c.args.at is are)

pub returns-else-reads-clause-owners : goal.returns-else-reads-clause-owners
returns-else-reads-clause-owners c flat rows is are = are
