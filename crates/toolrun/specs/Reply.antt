-- What a run of a tool states.
use Rattle.std.specs.Prelude.{◌≡◌, ℕ, Bool, false, List, [], ◌++◌, codes}
use Rattle.ruletable.specs.Faults.{fault_text}
use Rattle.ruletable.specs.declared.fault.ReadFault.{ReadFault}

-- both outputs, the status, and how many bytes of input are taken
pub record Reply : Type 0 where
  pub out : List ℕ
  pub err : List ℕ
  pub status : ℕ
  pub taken : ℕ

-- a grammar's text is rejected: its fault is reported with what explains it, and nothing is taken
abbrev pub refusal : ReadFault → List ℕ → Reply
refusal fault why = record { out = []; err = fault_text fault ++ why; status = 2; taken = 0 }

-- an allocation fails in explaining the fault of a grammar's text: its message stands whole
abbrev pub unexplained_fault : ReadFault → Reply
unexplained_fault fault = record { out = []; err = fault_text fault ++ codes "out of memory\n"; status = 5; taken = 0 }

-- nothing is written after the notes, and nothing is taken
abbrev pub notes_alone : ℕ → Reply
notes_alone status = record { out = []; err = []; status = status; taken = 0 }

-- this text alone is written, and nothing is taken
abbrev pub text_alone : List ℕ → Reply
text_alone text = record { out = text; err = []; status = 0; taken = 0 }

-- an allocation fails after this output and so many bytes of input
abbrev pub without_memory : List ℕ → ℕ → Reply
without_memory out taken = record { out = out; err = codes "out of memory\n"; status = 5; taken = taken }

-- an allocation fails after this output and so many bytes of input, where this was reported
abbrev pub cut_reply : List ℕ → List ℕ → ℕ → Reply
cut_reply reported out taken = record {
  out = out;
  err = reported ++ codes "out of memory\n";
  status = 5;
  taken =
      taken;
}

-- before the message of a reply stands what is reported of rejected lines, and after it stand lines that explain it
abbrev pub explained_reply : List ℕ → Reply → List ℕ → Reply
explained_reply reported plain why = record {
  out = plain.out;
  err = reported ++ (plain.err ++ why);
  status = plain.status;
  taken = plain.taken;
}

-- Two replies are the same but for what explains: without explanations they are the same.
pub record SameButWhy (asked : Bool) (a b : Reply) : Type 0 where
  pub out : a.out ≡ b.out
  pub status : a.status ≡ b.status
  pub taken : a.taken ≡ b.taken
  pub err : asked ≡ false → a.err ≡ b.err
