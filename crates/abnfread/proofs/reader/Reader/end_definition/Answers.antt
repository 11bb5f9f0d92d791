use Rattle.lexer.specs.ReadBodies.{alternatives_of, items_of}
use Rattle.abnfread.proofs.ElementListLemmas.{definitions-push, whole-element}
use Rattle.abnfread.proofs.reader.Reader.end_definition.Goals as goal

pub returns : goal.returns
returns c =
    let r = c.args.self.now in
    definitions-push r.definitions.items c.push.new.self.items _ _ c.in_ok-push.ensures.items
    (whole-element (alternatives_of r.body) (items_of r.body) c.in_ok-body.body c.in_ok-body.ensures.whole)
