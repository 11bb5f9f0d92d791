-- What is read up to a line feed.
-- Serves: run_peg (right)
use Rattle.std.proofs.Common.{◌≡◌, ◌≢◌, ℕ, zero, suc, ◌+◌, ◌<◌, ◌≤◌, Some, None, List, [], ◌++◌, length, drop}
use Rattle.std.proofs.Common.{refl, sym, ◌∙◌, ap, subst, arith, length-append, length-drop, get_or, append-nil}
use Rattle.std.proofs.Common.{Option, append_assoc, inl, inr}
use Rattle.std.specs.Prelude.{Result, Ok, Err}
use Prim.Native.Char.{code}
use Rattle.std.proofs.Math.Seq.{drop-append_seam}
use Rattle.std.proofs.lemmas.Bool.{eq-eqb}
use Rattle.std.proofs.lemmas.List.{get_or-drop}
use Rattle.std.proofs.lemmas.List.Elements.{All-from_get_or}
use Rattle.memchr.specs.Find.{IsLastByte, Nowhere, Passes, is_byte}
use Rattle.ruletable.proofs.AppendsLemmas.{Consumes-join}
use Rattle.ruletable.specs.declared.sink.WriteFault.{WriteFault}
use Rattle.feed.proofs.GrowsLemmas.{Consumes-same}
use Rattle.feed.specs.Feed.{Grows, bytes_of}
use Rattle.feed.specs.declared.feed.Feed.{Feed}
use Rattle.gramcheck.specs.Grammar.{Grammar}
use Rattle.pegrun.specs.LineReads.{HasNoLf, LooksPast, MustWait, ReadsForUnit, ReadsToLine, line_reads}
use Rattle.pegrun.specs.LineReads as reads
use Rattle.pegrun.specs.LineTries.{IsReadFor, IsReadForUnit}
use Rattle.pegrun.specs.declared.unit.UnitStep.{UnitStep}
use Rattle.pegrun.specs.declared.unit.UnitStep.TheVariants.{Stops, Takes}

-- a feed that stays as it was
pub grows_none : {R : Type 0} {remaining : R → Option (List ℕ)} (f : Feed R) → Grows remaining f f
grows_none f = record {
  more = [];
  bytes = sym (append-nil (bytes_of f));
  gives = Consumes-same _;
  allowance = omega arith;
  capacity = refl;
  stays = inr (refl, refl, refl);
}

-- a feed that grew twice
pub grows_twice : {R : Type 0} {remaining : R → Option (List ℕ)} (f g h : Feed R) → Grows remaining f g
    → Grows remaining g h → Grows remaining f h
grows_twice f g h first then_ = record {
  more = first.more ++ then_.more;
  bytes = then_.bytes ∙ ap (λ t. t ++ then_.more) first.bytes ∙ append_assoc (bytes_of f) first.more then_.more;
  gives = Consumes-join _ _ _ first.more then_.more first.gives then_.gives;
  allowance = omega (arith, first.allowance, then_.allowance, length-append first.more then_.more);
  capacity = then_.capacity ∙ first.capacity;
  stays = elim first.stays [
    | inl may ↦ inl may
    | inr same ↦ elim then_.stays [
      | inl may ↦ inl (sym same.0 ∙ may)
      | inr still ↦ inr (still.0 ∙ same.0, rw (same.1, still.1) refl, still.2 ∙ same.2)
    ]
  ];
}

-- no line feed stands at or after a position
no_line : (xs : List ℕ) (from : ℕ) → Nowhere (Passes (is_byte (code "\n")) xs) from (length xs) → HasNoLf (drop from xs)
no_line xs from none = All-from_get_or (λ b. b ≢ code "\n") (drop from xs) 0
    (λ i lt is.
    let l = length-drop from xs in
    let here : get_or xs (from + i) 0 ≡ code "\n" = sym (get_or-drop from xs i 0) ∙ is in
    none (from + i) (omega arith) (omega (arith, lt, l)) (rw here (eq-eqb (code "\n") (code "\n") refl)))

pub none_at_all : (xs : List ℕ) (from : ℕ) → IsLastByte (is_byte (code "\n")) xs None → HasNoLf (drop from xs)
none_at_all xs from none = no_line xs from (λ k low high. none k (omega arith) high)

pub none_after_last : (xs : List ℕ) (from k : ℕ) → IsLastByte (is_byte (code "\n")) xs (Some k) → k < from
    → HasNoLf (drop from xs)
none_after_last xs from k (last, there) lt = no_line xs from (λ i low high. last.after i (omega (arith, lt)) high)

-- A unit that looks past the first bytes that are held, if there are any, waits for a line feed after them.
pub record CanWait (g : Grammar) (from : ℕ) (held : List ℕ) : Type 0 where
  pub tried : List ℕ
  pub rest : List ℕ
  pub bytes : held ≡ tried ++ rest
  pub at : from ≡ length tried
  pub looks : 0 < length tried → LooksPast g tried

pub nothing_tried : (g : Grammar) (held : List ℕ) → CanWait g 0 held
nothing_tried g held =
    record { tried = []; rest = held; bytes = refl; at = refl; looks = λ some. absurd (omega (arith, some)) }

pub all_tried : (g : Grammar) (from : ℕ) (held : List ℕ) → from ≡ length held → LooksPast g held → CanWait g from held
all_tried g from held at looks =
    record { tried = held; rest = []; bytes = sym (append-nil held); at = at; looks = λ some. looks }

reads_grow : (from : ℕ) (first : List ℕ) (n : ℕ) (held : List ℕ) → ReadsToLine from first n held
    → (more : List ℕ) × (held ≡ first ++ more)
reads_grow from first n held reads.ReadsToLine.no_read = ([], sym (append-nil first))
reads_grow from first n held (reads.ReadsToLine.one_read m before more so_far none few) =
    let g = reads_grow from first m before so_far in
    (g.0 ++ more, ap (λ t. t ++ more) g.1 ∙ append_assoc first g.0 more)

must_wait : (g : Grammar) (from : ℕ) (first held more : List ℕ) → CanWait g from first → held ≡ first ++ more
    → HasNoLf (drop from held) → MustWait g held
must_wait g from first held more can is none =
    let whole : held ≡ can.tried ++ (can.rest ++ more) =
    is ∙ ap (λ t. t ++ more) can.bytes ∙ append_assoc can.tried can.rest more in
    let after : drop from held ≡ can.rest ++ more =
    subst (λ (n : ℕ). drop n held ≡ can.rest ++ more) (sym can.at)
    (ap (drop (length can.tried)) whole ∙ drop-append_seam can.tried (can.rest ++ more)) in
    record {
      tried = can.tried;
      rest = can.rest ++ more;
      bytes = whole;
      no_line = subst HasNoLf after none;
      looks = can.looks;
    }

pub reads_on : (g : Grammar) (first : List ℕ) (n from : ℕ) (held : List ℕ) → ReadsForUnit g first n held
    → (n < line_reads → CanWait g from held) → (m : ℕ) (now : List ℕ) → ReadsToLine from held m now
    → ReadsForUnit g first (n + m) now
reads_on g first n from held so_far can m now reads.ReadsToLine.no_read =
    subst (λ (k : ℕ). ReadsForUnit g first k held) (omega arith) so_far
reads_on g first n from held so_far can m now (reads.ReadsToLine.one_read k before more to_line none few) =
    subst (λ (j : ℕ). ReadsForUnit g first j (before ++ more)) (omega arith)
    (reads.ReadsForUnit.one_read (n + k) before more (reads_on g first n from held so_far can k before to_line) (λ lt.
    let there = reads_grow from held k before to_line in (
      must_wait g from held before there.0 (can (omega (arith, lt))) there.1 none,
      few,
    )))

-- later reads may give any bytes
pub reads_then : (g : Grammar) (first : List ℕ) (n : ℕ) (held more now : List ℕ) → ReadsForUnit g first n held
    → line_reads ≤ n → now ≡ held ++ more → (m : ℕ) × ReadsForUnit g first m now
reads_then g first n held more now so_far many is = (
  suc n,
  subst (λ (t : List ℕ). ReadsForUnit g first (suc n) t) (sym is)
      (reads.ReadsForUnit.one_read n held more so_far (λ lt. absurd (omega (arith, lt, many)))),
)

-- a line feed after all that was held takes a read
pub some_reads : (from : ℕ) (first : List ℕ) (n : ℕ) (held : List ℕ) → ReadsToLine from first n held
    → length first ≤ from → from < length held → 0 < n
some_reads from first n held reads.ReadsToLine.no_read le lt = absurd (omega (arith, le, lt))
some_reads from first n held (reads.ReadsToLine.one_read m before more so_far none few) le lt = omega arith

-- each try but the first follows a read
pub tries_within : (tries n m : ℕ) → tries ≤ n + 1 → (0 < tries → 0 < m) → tries + 1 ≤ n + m + 1
tries_within zero n m le some = omega arith
tries_within (suc tries) n m le some = let more = some (omega arith) in omega (arith, le, more)

-- a unit of which text was written was run on what was held then
pub run_reads : {R : Type 0} (g : Grammar) (first : List ℕ) (f1 f2 : Feed R) (r : Result UnitStep WriteFault)
    → IsReadFor r f1 f2 → (n : ℕ) → ReadsForUnit g first n (bytes_of f1) → IsReadForUnit g first (bytes_of f2) r
run_reads g first f1 f2 (Ok (Stops why)) read n so_far = tt
run_reads {R} g first f1 f2 (Ok (Takes k)) same n so_far =
    (n, subst (λ (f : Feed R). ReadsForUnit g first n (bytes_of f)) (sym same) so_far)
run_reads {R} g first f1 f2 (Err fault) same n so_far =
    (n, subst (λ (f : Feed R). ReadsForUnit g first n (bytes_of f)) (sym same) so_far)
