-- What the getters read of matches in which all is there.
use Rattle.std.proofs.Common.{refl}
use Rattle.std.specs.Borrow.{Bor}
use Rattle.clap.specs.Words.{Text, found_of, rows_of}
use Rattle.cli.proofs.AskLemmas.{some_mapped, words_ask}
use Rattle.cli.proofs.settings.asked_of.Goals as goal

pub unwrap-requires : goal.unwrap-requires
unwrap-requires g c = some_mapped (λ (s : Bor Text). s.now) c.get_str.result _ c.get_str.ensures
    (c.follows.ensures.whole c.args.matches.now c.requires).grammar

pub returns : goal.returns
returns g c =
    let settings = c.settings_of.ensures in
    words_ask g.P.Program.asks (found_of c.args.matches.now) (rows_of (found_of c.args.matches.now)) refl
    (c.follows.ensures.whole c.args.matches.now c.requires) _ c.get_str.result
    settings.mode settings.limit settings.start settings.input settings.explain settings.options
    c.get_str.ensures c.unwrap.ensures c.get_str-2.ensures c.format_of.ensures
