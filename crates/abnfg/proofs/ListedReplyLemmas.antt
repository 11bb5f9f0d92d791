-- What a run states of the lines that it wrote.
-- Serves: abnfg_main (right)
use Rattle.std.proofs.Common.{◌≡◌, ◌∙◌, ℕ, ◌≤◌, Bool, List, [], ◌++◌, Option, inl, inr, length, refl, sym, ap, subst}
use Rattle.std.proofs.Common.{arith, false, true}
use Rattle.std.proofs.Common.{append-nil, Vec, Global}
use Rattle.std.specs.Prelude.{Result, Ok, Err, codes}
use Rattle.std.specs.Io.KnownBytes.{Appends}
use Rattle.std.specs.List.{flat_map}
use Rattle.abnfg.specs.ListedLines.{AreEnough, AreWritten, EndsWith, HaltEnds, LinesReply, end_of, listed, no_line}
use Rattle.abnfg.specs.ListedLines.{no_room, record_text, too_many}
use Rattle.abnfg.specs.ListModes.{AreExplained, AreFirstAsked, AreRefused, AreWholeAsked, ExplainedIn, WithKept}
use Rattle.abnfg.specs.ListModes.{explained_asked, reaches_goals}
use Rattle.abnfg.specs.ListRefusals.{AreRefusalsFrom, explains_by}
use Rattle.abnfg.specs.declared.lines.ListMode.{ListMode}
use Rattle.abnfg.specs.declared.lines.ListMode.TheVariants.{All as InOrder, Cover, Miss, Random}
use Rattle.abnfg.proofs.WrittenLinesLemmas.{explained_none}
use Rattle.ruletable.specs.Writing.{AppendsPart}
use Rattle.abnfrun.specs.AbnfReply.{unit_for}
use Rattle.abnfg.specs.declared.lines.ListSettings.{ListSettings}
use Rattle.abnfread.specs.Element.{Rule}
use Rattle.rulelines.specs.MissLists.{item_lines}
use Rattle.abnfg.specs.declared.lines.Halt.{Halt}
use Rattle.abnfg.specs.declared.lines.Halt.TheVariants.{NoMemory as HaltsUnroomed, Nothing, TooMany}
use Rattle.abnfg.specs.declared.lines.Halt.TheVariants.{All as Finished}
use Rattle.ruletable.specs.declared.sink.WriteFault.{WriteFault}
use Rattle.toolrun.specs.Reply.{Reply, without_memory}
use Rattle.toolrun.specs.Status.{code_of}
use Rattle.toolrun.specs.Stop.{message_of}
use Rattle.toolrun.specs.Stopped.{Fulfils}
use Rattle.toolrun.specs.Stream.{no_input}
use Rattle.toolrun.specs.declared.ending.Ending.{Ending}
use Rattle.toolrun.specs.declared.status.Status.{Status}
use Rattle.toolrun.specs.declared.status.Status.TheVariants.{Done, NoMatch, NoMemory as WithoutMemory, Overlong}
use Rattle.toolrun.specs.declared.stop.Stop.TheVariants.{NoMemory}

-- the lines that are asked for, of which some are kept
module _ (s : ListSettings) (rules : List Rule) (id : ℕ) (kept : List (Vec ℕ Global)) (s0 s1 : Option (List ℕ))
    (was failed : Bool) where
  abbrev text_of : List ℕ → List ℕ
  text_of = record_text s.letters (end_of s.nul)

  abbrev FirstKept : List (List ℕ) → Type 0
  FirstKept = WithKept s kept (AreFirstAsked s rules id)

  abbrev Whole : List (List ℕ) → Type 0
  Whole = AreWholeAsked s rules id

  abbrev Stated : Reply → Type 0
  Stated = LinesReply (AreFirstAsked s rules id) Whole (AreExplained s rules id) text_of s.count

  abbrev pub Fulfilled : Result Ending WriteFault → Type 0
  Fulfilled r = Fulfils (λ input. Stated) no_input (record { old = s0; new = s1; was = was; failed = failed }) r

  -- a text was written, and the end writes another one
  pub text_fulfils : (out err : List ℕ) (status : Status) (ending : Ending)
      → Stated (record { out = out; err = err; status = code_of status; taken = 0 })
      → Appends s0 s1 out → EndsWith err status ending → failed ≡ was → Fulfilled (Ok ending)
  text_fulfils out err status ending states more ends flag = record {
    stopped = (
      [],
      out,
      refl,
      more,
      record {
        stated = record { out = out; err = err; status = code_of status; taken = 0 };
        states = states;
        written = (refl, sym ends.0, sym (ap code_of ends.1));
        within = omega arith;
        exact = λ other. refl;
      },
    );
    flag = flag;
  }

  -- lines that reach no goals are explained by why they are rejected
  refused_in : (mode : ListMode) → reaches_goals mode ≡ false → (ws : List (List ℕ)) (text : List ℕ)
      → AreRefused s rules id ws text → ExplainedIn mode s rules id ws text
  refused_in InOrder plain ws text is = is
  refused_in Cover plain ws text is = absurd (cc plain)
  refused_in Miss plain ws text is = is
  refused_in Random plain ws text is = is

  explained_as : reaches_goals s.mode ≡ false → (ws : List (List ℕ)) (text : List ℕ)
      → item_lines kept ≡ explained_asked s ws
      → AreRefusalsFrom (unit_for s.nul) s.letters rules id 1 (item_lines kept) text → AreExplained s rules id ws text
  explained_as plain ws text same why =
      refused_in s.mode plain ws text
      (subst (λ (v : List (List ℕ)). AreRefusalsFrom (unit_for s.nul) s.letters rules id 1 v text) same why)

  -- nothing explains no line
  none_explained : reaches_goals s.mode ≡ false → AreExplained s rules id [] []
  none_explained plain =
      refused_in s.mode plain [] []
      (subst (λ (v : List (List ℕ)). AreRefusalsFrom (unit_for s.nul) s.letters rules id 1 v [])
      (explained_none (explains_by s.mode s.explain) s.letters) refl)

  enough_within : (ws : List (List ℕ)) → AreEnough Whole s.count ws → length ws ≤ s.count
  enough_within ws (inl all) = omega (arith, all)
  enough_within ws (inr some) = some.1

  -- there is no memory to explain the lines that were written
  unroomed_fulfils : (ws : List (List ℕ)) (ending : Ending) → FirstKept ws → length ws ≤ s.count
      → Appends s0 s1 (flat_map text_of ws) → EndsWith (message_of NoMemory) WithoutMemory ending → failed ≡ was
      → Fulfilled (Ok ending)
  unroomed_fulfils ws ending first le text ends =
      text_fulfils (flat_map text_of ws) (message_of NoMemory) WithoutMemory ending (no_room first.0 le) text ends

  pub halt_fulfils : reaches_goals s.mode ≡ false → (halt : Halt) (ending : Ending)
      → AreWritten FirstKept Whole text_of s.count s0 s1 (Ok halt)
      → HaltEnds (AreRefusalsFrom (unit_for s.nul) s.letters rules id 1 (item_lines kept)) halt ending → failed ≡ was
      → Fulfilled (Ok ending)
  halt_fulfils plain Finished ending is (inl ends) =
      text_fulfils (flat_map text_of is.0) ends.0 Done ending
      (listed is.1.0 is.2 (explained_as plain is.0 ends.0 is.1.1 ends.1)) is.3
      (ends.2.0 ∙ append-nil ends.0, ends.2.1)
  halt_fulfils plain Finished ending is (inr ends) =
      unroomed_fulfils is.0 ending is.1 (enough_within is.0 is.2) is.3 ends
  halt_fulfils plain Nothing ending is ends =
      text_fulfils [] [] NoMatch ending (no_line is.0 (none_explained plain)) is.1 ends
  halt_fulfils plain TooMany ending is (inl ends) =
      text_fulfils (flat_map text_of is.0) (ends.0 ++ codes "too many stacks\n") Overlong ending
      (too_many is.1.0 is.2 (explained_as plain is.0 ends.0 is.1.1 ends.1)) is.3 ends.2
  halt_fulfils plain TooMany ending is (inr ends) = unroomed_fulfils is.0 ending is.1 is.2 is.3 ends
  halt_fulfils plain HaltsUnroomed ending is ends = unroomed_fulfils is.0 ending is.1 is.2 is.3 ends

  -- the output failed in the text of first lines
  pub cut_states : (ws : List (List ℕ)) → AreFirstAsked s rules id ws → length ws ≤ s.count
      → AppendsPart s0 s1 (flat_map text_of ws) → (fault : WriteFault) → failed ≡ true → Fulfilled (Err fault)
  cut_states ws first le part fault flag = record {
    stopped = (
      [],
      part.0,
      refl,
      part.2,
      record {
        stated = without_memory (flat_map text_of ws) 0;
        states = no_room first le;
        written = part.1;
        within = omega arith;
        exact = tt;
      },
    );
    flag = flag;
  }

  pub cut_fulfils : (fault : WriteFault) → AreWritten FirstKept Whole text_of s.count s0 s1 (Err fault)
      → failed ≡ true → Fulfilled (Err fault)
  cut_fulfils fault is flag = cut_states is.0 is.1.0 is.2 is.3 fault flag
