-- The lines that are listed, in order, and what a run states of them.
use Rattle.std.specs.Prelude.{◌≡◌, ◌≢◌, ◌⊎◌, ℕ, ◌≤◌, Bool, List, [], ◌∷◌, ◌++◌, codes, length, Contains}
use Rattle.std.specs.Prelude.{Option, None, Some, Result, Ok, Err, if◌then◌else◌}
use Rattle.std.specs.Io.KnownBytes.{Appends}
use Rattle.std.specs.List.{All, AllPairs, flat_map}
use Rattle.std.proofs.Common.{Vec, Global}
use Rattle.abnfg.specs.declared.lines.Halt.{Halt}
use Rattle.abnfg.specs.declared.lines.Halt.TheVariants.{NoMemory as HaltsUnroomed, Nothing, TooMany}
use Rattle.abnfg.specs.declared.lines.Halt.TheVariants.{All as Finished}
use Rattle.rulelines.specs.declared.list.lines.NextLine.{NextLine}
use Rattle.rulelines.specs.declared.list.lines.NextLine.TheVariants.{Line, Done as End}
use Rattle.ruletable.specs.declared.alphabet.Alphabet.{Alphabet}
use Rattle.ruletable.specs.Writing.{AppendsPart}
use Rattle.ruletable.specs.declared.sink.WriteFault.{WriteFault}
use Rattle.rulelines.specs.FirstLines.{ComesFirst, IsShortlexBefore}
use Rattle.rulelines.specs.LineBytes.{line_bytes}
use Rattle.toolrun.specs.Reply.{Reply, without_memory}
use Rattle.toolrun.specs.RunEnd.{ended_status, ended_text}
use Rattle.toolrun.specs.Status.{code_of}
use Rattle.toolrun.specs.Stop.{message_of}
use Rattle.toolrun.specs.declared.ending.Ending.{Ending}
use Rattle.toolrun.specs.declared.status.Status.{Status}
use Rattle.toolrun.specs.declared.status.Status.TheVariants.{Done, NoMatch, NoMemory as WithoutMemory, Overlong}
use Rattle.toolrun.specs.declared.stop.Stop.TheVariants.{NoMemory}

-- the byte that ends a line: LF, or NUL
abbrev pub end_of : Bool → ℕ
end_of nul = if nul then 0 else 10

-- a line with its end
abbrev pub record_text : Alphabet → ℕ → List ℕ → List ℕ
record_text alphabet end line = line_bytes alphabet line ++ end ∷ []

-- as many as are asked for, or some, and these are all
abbrev pub AreEnough : (List (List ℕ) → Type 0) → ℕ → List (List ℕ) → Type 0
AreEnough whole count ws = (length ws ≡ count) ⊎ ((ws ≢ []) × (length ws ≤ count) × whole ws)

-- of lists of lines the first ones, the whole ones, and what explains them
module _ (first whole : List (List ℕ) → Type 0) (why : List (List ℕ) → List ℕ → Type 0) (text_of : List ℕ → List ℕ)
    (count : ℕ) where
  -- The texts of first lines are written, and then what explains them. The status is 0 if they are enough, and 1 if
  -- there is no line at all. Or there are too many states of the grammar, after some first lines. Or an allocation
  -- fails after some first lines, and none is explained.
  pub data LinesReply : Reply → Type 0 where
    listed : {ws : List (List ℕ)} {text : List ℕ} → first ws → AreEnough whole count ws → why ws text
        → LinesReply (record { out = flat_map text_of ws; err = text; status = code_of Done; taken = 0 })
    no_line : {text : List ℕ} → whole [] → why [] text
        → LinesReply (record { out = []; err = text; status = code_of NoMatch; taken = 0 })
    too_many : {ws : List (List ℕ)} {text : List ℕ} → first ws → length ws ≤ count → why ws text → LinesReply (record {
      out = flat_map text_of ws;
      err = text ++ codes "too many stacks\n";
      status = code_of Overlong;
      taken = 0;
    })
    no_room : {ws : List (List ℕ)} → first ws → length ws ≤ count
        → LinesReply (without_memory (flat_map text_of ws) 0)

-- of lists of lines the first ones, and the whole ones
module _ (first whole : List (List ℕ) → Type 0) (text_of : List ℕ → List ℕ) (count : ℕ) where
  -- first lines were written, at most so many, and why no more are; or a part of their text
  abbrev pub AreWritten : Option (List ℕ) → Option (List ℕ) → Result Halt WriteFault → Type 0
  AreWritten old new (Ok Finished) = (ws : List (List ℕ)) × first ws × AreEnough whole count ws
      × Appends old new (flat_map text_of ws)
  AreWritten old new (Ok Nothing) = whole [] × Appends old new []
  AreWritten old new (Ok TooMany) = (ws : List (List ℕ)) × first ws × (length ws ≤ count)
      × Appends old new (flat_map text_of ws)
  AreWritten old new (Ok HaltsUnroomed) = (ws : List (List ℕ)) × first ws × (length ws ≤ count)
      × Appends old new (flat_map text_of ws)
  AreWritten old new (Err fault) = (ws : List (List ℕ)) × first ws × (length ws ≤ count)
      × AppendsPart old new (flat_map text_of ws)

module _ (lines : List ℕ → Type 0) where
  -- the first ones of some lines, each once and in order: each other line comes after all of them
  pub record AreFirstLines (ws : List (List ℕ)) : Type 0 where
    pub are : All lines ws
    pub rise : AllPairs IsShortlexBefore ws
    pub rest : (v : List ℕ) → lines v → Contains ws v ⊎ All (λ w. IsShortlexBefore w v) ws

  -- there is no more
  abbrev pub HoldAll : List (List ℕ) → Type 0
  HoldAll ws = (v : List ℕ) → lines v → Contains ws v

  -- the last of some first lines, if there are some
  abbrev pub IsLastOf : Option (Vec ℕ Global) → List (List ℕ) → Type 0
  IsLastOf None ws = ws ≡ []
  IsLastOf (Some last) ws = Contains ws last.items × All (λ w. ComesFirst w last.items) ws

  -- some first lines, the last of which is given
  pub record AreListed (last : Option (Vec ℕ Global)) (ws : List (List ℕ)) : Type 0 where
    pub first : AreFirstLines ws
    pub last_is : IsLastOf last ws

  -- the line after some first lines, or there is none
  abbrev pub IsStepOf : List (List ℕ) → NextLine → Type 0
  IsStepOf ws (Line line) = AreListed (Some line) (ws ++ line.items ∷ [])
  IsStepOf ws End = HoldAll ws

  -- it is the last one then
  abbrev pub IsListStep : Option (Vec ℕ Global) → List (List ℕ) → NextLine → Type 0
  IsListStep last ws (Line line) = AreListed last (ws ++ line.items ∷ [])
  IsListStep last ws End = HoldAll ws

-- why no line is written after some
module _ (whole : List (List ℕ) → Type 0) (ws : List (List ℕ)) where
  abbrev pub IsHaltAt : Halt → Type 0
  IsHaltAt Finished = (ws ≢ []) × whole ws
  IsHaltAt Nothing = (ws ≡ []) × whole ws
  IsHaltAt TooMany = Unit {0}
  IsHaltAt HaltsUnroomed = Unit {0}

-- of a source's lists of lines those that it has returned, those that were kept, and the whole ones
module _ (returned kept whole : List (List ℕ) → Type 0) (text_of : List ℕ → List ℕ) (ws : List (List ℕ)) where
  -- the next line after some was written, and kept; or none was, or a part of it was written
  abbrev pub IsWrittenNext : Option (List ℕ) → Option (List ℕ) → Result (Option Halt) WriteFault → Type 0
  IsWrittenNext old new (Ok None) = (w : List ℕ) × returned (ws ++ w ∷ []) × kept (ws ++ w ∷ [])
      × Appends old new (text_of w)
  IsWrittenNext old new (Ok (Some halt)) = IsHaltAt whole ws halt × kept ws × Appends old new []
  IsWrittenNext old new (Err fault) = (w : List ℕ) × returned (ws ++ w ∷ []) × kept (ws ++ w ∷ [])
      × AppendsPart old new (text_of w)

-- a text was written, and what was kept is more by that much; or an allocation failed, or a part of it was written
module _ (was kept more : List (List ℕ)) (text : List ℕ) where
  abbrev pub IsRecordWritten : Option (List ℕ) → Option (List ℕ) → Result (Option Halt) WriteFault → Type 0
  IsRecordWritten old new (Ok None) = (kept ≡ was ++ more) × Appends old new text
  IsRecordWritten old new (Ok (Some halt)) = (halt ≡ HaltsUnroomed) × (kept ≡ was) × Appends old new []
  IsRecordWritten old new (Err fault) = (kept ≡ was ++ more) × AppendsPart old new text

-- the message and the status of a run that writes no more lines; an allocation may fail in making the message
abbrev pub EndsWith : List ℕ → Status → Ending → Type 0
EndsWith text status ending = (ended_text ending ≡ text) × (ended_status ending ≡ status)

-- .. after a text that explains lines
abbrev pub EndsExplained : (List ℕ → Type 0) → List ℕ → Status → Ending → Type 0
EndsExplained why message status ending = ((text : List ℕ) × why text × EndsWith (text ++ message) status ending)
    ⊎ EndsWith (message_of NoMemory) WithoutMemory ending

abbrev pub HaltEnds : (List ℕ → Type 0) → Halt → Ending → Type 0
HaltEnds why Finished ending = EndsExplained why [] Done ending
HaltEnds why Nothing ending = EndsWith [] NoMatch ending
HaltEnds why TooMany ending = EndsExplained why (codes "too many stacks\n") Overlong ending
HaltEnds why HaltsUnroomed ending = EndsWith (message_of NoMemory) WithoutMemory ending
