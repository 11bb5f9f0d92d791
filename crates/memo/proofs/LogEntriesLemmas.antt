-- What the entries of the log stand for.
-- Serves: KeyLog::get, KeyLog::put, KeyLog::put_run, KeyLog::put_steps
use Rattle.std.proofs.Common.{◌≡◌, inl, inr, ℕ, ◌+◌, List, [], ◌∷◌, ◌++◌}
use Rattle.std.proofs.Common.{ap, slice_get, Some, reverse}
use Rattle.std.proofs.lemmas.List.{reverse-append}
use Rattle.memo.specs.declared.found.Found.TheVariants.{Took}
use Rattle.memo.specs.Parts.{IsIn, in_here, in_later}
use Rattle.memo.specs.LogEntries.{evals_of, stored_of}
use Rattle.memo.specs.declared.entry.Entry.{Entry}
use Rattle.memo.specs.declared.key_log.Given.{Given}
use Rattle.memo.specs.declared.key_log.Stored.{Stored}
use Rattle.memo.specs.declared.task.MatchTask.TheVariants.{Eval}
use Rattle.memo.proofs.PartsLemmas.{in_left, in_right, in_either}
use Rattle.memo.proofs.KeyLogLemmas.{in_of_get, get_of_in, in_reverse, of_reverse}

abbrev pub at_eval : ℕ → (ℕ → Given) → ℕ → Stored
at_eval node given p = record { task = Eval node p; given = given p }

abbrev pub step_at : ℕ → Given
step_at p = record { found = Took (p + 1); events = 0 }

-- an entry that has a stored key
pub record HasEntry (entries : List Entry) (s : Stored) : Type 0 where
  pub index : ℕ
  pub entry : Entry
  pub at : slice_get entries index ≡ Some entry
  pub has : IsIn s (evals_of entry)

record EntryIn (entries : List Entry) (s : Stored) : Type 0 where
  pub entry : Entry
  pub there : IsIn entry entries
  pub has : IsIn s (evals_of entry)

entry_in : (entries : List Entry) (s : Stored) → IsIn s (stored_of entries) → EntryIn entries s
entry_in [] s i = elim i [ ]
entry_in (e ∷ es) s i = elim (in_either (evals_of e) (stored_of es) i) [
  | inl l ↦ record { entry = e; there = in_here; has = l }
  | inr r ↦ let h = entry_in es s r in record { entry = h.entry; there = in_later h.there; has = h.has }
]

pub entry_of_stored : (items : List Entry) (s : Stored) → IsIn s (stored_of (reverse items)) → HasEntry items s
entry_of_stored items s i =
    let h = entry_in (reverse items) s i in
    let g = get_of_in (of_reverse items h.entry h.there) in
    record { index = g.index; entry = h.entry; at = g.at; has = h.has }

stored_in : {e : Entry} {es : List Entry} (s : Stored) → IsIn e es → IsIn s (evals_of e) → IsIn s (stored_of es)
stored_in s (in_here {xs = xs}) i = in_left (stored_of xs) i
stored_in s (in_later {b = b} h) i = in_right (evals_of b) (stored_in s h i)

pub stored_of_entry : (items : List Entry) (at : ℕ) (e : Entry) (s : Stored) → slice_get items at ≡ Some e
    → IsIn s (evals_of e) → IsIn s (stored_of (reverse items))
stored_of_entry items at e s h i = stored_in s (in_reverse (in_of_get items at e h)) i

pub stored_push : (items : List Entry) (e : Entry)
    → stored_of (reverse (items ++ e ∷ [])) ≡ evals_of e ++ stored_of (reverse items)
stored_push items e = ap stored_of (reverse-append items (e ∷ []))
