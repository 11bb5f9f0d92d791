-- One form is asked for, or two, which is reported; and so it is with the forms of lists.
use Rattle.std.proofs.Common.{Bool, subst, sym}
use Rattle.toolrun.specs.Plan.{IsReportedAnd}
use Rattle.toolrun.specs.Status.{code_of}
use Rattle.toolrun.specs.Stream.{no_input, passed}
use Rattle.toolrun.specs.declared.status.Status.TheVariants as status
use Rattle.toolrun.specs.declared.stop.Stop.TheVariants.{Quiet}
use Rattle.clap.specs.Words.{found_of, rows_of}
use Rattle.abnfx.specs.JoinAnswers.{FilesJoined, JoinAnswers, asks, both, both_forms, both_lists, two_lists}
use Rattle.abnfx.specs.JoinWords.{paths_asked}
use Rattle.toolrun.proofs.IsRightLemmas.{comes_as}
use Rattle.abnfx.proofs.run.join_asked.Goals as goal

pub returns-in_default : goal.returns-in_default
returns-in_default g c =
    let rows = rows_of (found_of c.args.matches.now) in
    let none = (let e = c.form_of.ensures in rw c.in_default.is at e) in
    record {
      right = comes_as (IsReportedAnd both_forms (Quiet status.Refused)) (JoinAnswers rows)
          (λ input notes reply is. rw (is.0, is.1) (both (sym none)))
          no_input (passed g.O.Sink.contents g.O.Sink.failed c.args.out.now c.end_clash.new.out)
          (passed g.E.Sink.contents g.E.Sink.failed c.args.err.now c.end_clash.new.err) (code_of c.end_clash.result)
          c.end_clash.ensures.right;
    }

pub returns : goal.returns
returns g c =
    let rows = rows_of (found_of c.args.matches.now) in
    let lists = c.in-Some-lists_of.lists in
    let form = c.in-Some.form in
    record {
      right = comes_as (FilesJoined (paths_asked rows) lists form c.is_given.result) (JoinAnswers rows)
          (λ input notes reply is. asks (sym c.in-Some.ensures) (sym c.in-Some-lists_of.ensures)
          (subst (λ (b : Bool). FilesJoined (paths_asked rows) lists form b input notes reply) c.is_given.ensures is))
          no_input (passed g.O.Sink.contents g.O.Sink.failed c.args.out.now c.join_named.new.out)
          (passed g.E.Sink.contents g.E.Sink.failed c.args.err.now c.join_named.new.err) (code_of c.join_named.result)
          c.join_named.ensures.right;
    }

pub returns-in_default-lists_of : goal.returns-in_default-lists_of
returns-in_default-lists_of g c =
    let rows = rows_of (found_of c.args.matches.now) in
    let none = (let e = c.lists_of.ensures in rw c.in_default-lists_of.is at e) in
    record {
      right = comes_as (IsReportedAnd both_lists (Quiet status.Refused)) (JoinAnswers rows)
          (λ input notes reply is. rw (is.0, is.1) (two_lists (sym c.in-Some.ensures) (sym none)))
          no_input (passed g.O.Sink.contents g.O.Sink.failed c.args.out.now c.end_lists.new.out)
          (passed g.E.Sink.contents g.E.Sink.failed c.args.err.now c.end_lists.new.err) (code_of c.end_lists.result)
          c.end_lists.ensures.right;
    }
