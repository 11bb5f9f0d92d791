-- What is printed of a grammar is stated.
-- Serves: run_peg, run_abnf (right)
use Rattle.std.proofs.Common.{◌≡◌, ℕ, Bool, Option, Some, None, List, [], refl, arith}
use Rattle.std.specs.Prelude.{Result, Ok, Err, IfSome}
use Rattle.std.specs.Io.KnownBytes.{Appends, Consumes}
use Rattle.ruletable.specs.Writing.{Flags}
use Rattle.ruletable.specs.declared.sink.WriteFault.{WriteFault}
use Rattle.toolrun.specs.Reply.{text_alone}
use Rattle.toolrun.specs.RunEnd.{plainly}
use Rattle.toolrun.specs.Stopped.{EndedAs, Performs, Prints}
use Rattle.toolrun.specs.declared.stop.Stop.{Stop}
use Rattle.toolrun.proofs.PlainlyLemmas.{flags-plainly}

module _ (text : List ℕ) where
  prints_stop : (old a b : Option (List ℕ)) (r : Result Stop WriteFault) → Prints a b text r →
      IfSome old (λ given. (taken wrote : List ℕ) × Consumes old old taken × Appends a b wrote
      × EndedAs (λ reply. reply ≡ text_alone text) taken (plainly r) wrote)
  prints_stop None a b r p = tt
  prints_stop (Some xs) a b (Ok stop) p =
      let is = p.0 in (
        [],
        text,
        refl,
        p.1,
        record {
          stated = text_alone text;
          states = refl;
          written = (refl, rw is refl, rw is refl);
          within = omega arith;
          exact = λ other. refl;
        },
      )
  prints_stop (Some xs) a b (Err fault) p = (
    [],
    p.0,
    refl,
    p.2,
    record {
      stated = text_alone text;
      states = refl;
      written = p.1;
      within = omega arith;
      exact = tt;
    },
  )

  pub was_printed : (r0 s0 s1 : Option (List ℕ)) (r_was r_failed o_was o_failed : Bool) (r : Result Stop WriteFault)
      → Prints s0 s1 text r →
      Flags o_was o_failed r →
      Performs (λ input reply. reply ≡ text_alone text) (record { old = r0; new = r0; was = r_was; failed = r_failed })
      (record { old = s0; new = s1; was = o_was; failed = o_failed }) r
  was_printed r0 s0 s1 r_was r_failed o_was o_failed r p flag =
      record { stopped = prints_stop r0 s0 s1 r p; flag = flags-plainly o_was o_failed r flag }
