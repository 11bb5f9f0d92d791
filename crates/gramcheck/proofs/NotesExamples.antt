-- Worked examples of uses and notes, each by hand.
use Rattle.std.proofs.Common.{◌≡◌, [], ◌∷◌, Some, None, true, refl, ap, arith}
use Rattle.std.proofs.lemmas.Bool.{both_ways}
use Rattle.std.specs.Option.{unwrap_or}
use Rattle.std.specs.Str.{bytes_eq}
use Rattle.std.specs.Prelude.{codes}
use Rattle.ruletable.specs.Notes.{said}
use Rattle.ruletable.specs.declared.note.NoteKind.TheVariants.{Undefined, Unused}
use Rattle.ruletable.specs.declared.table.NameCase.TheVariants.{Exact}
use Rattle.pegread.specs.Pattern.{Pattern, Any, Bytes, Name, Seq, Choice, Star, And, none, more, Rule}
use Rattle.gramcheck.specs.Left.{LeftChain, one_step, more_steps}
use Rattle.gramcheck.specs.GrammarNotes.{AreNotes, no_more, this_one, not_this}
use Rattle.fixpoint.specs.FirstUses.{news}
use Rattle.gramcheck.specs.Uses.{names_used}

-- `S <- &B / 'a' (C S)*` and then `C <- B` use B, C, S and B
uses_in_order : names_used
    (record {
      name = codes "S";
      body = Choice (more (And (Name (codes "B")))
          (more (Seq (more (Bytes (codes "a")) (more (Star
          (Seq (more (Name (codes "C")) (more (Name (codes "S")) none))))
          none))) none));
      span = record { start = 0; end = 1 };
    }
    ∷ record { name = codes "C"; body = Name (codes "B"); span = record { start = 30; end = 31 } } ∷ [])
    ≡ codes "B" ∷ codes "C" ∷ codes "S" ∷ codes "B" ∷ []
uses_in_order = refl

-- of these S and C are rules, so B alone is new, once
new_names : news Exact (codes "S" ∷ codes "C" ∷ []) (codes "B" ∷ codes "C" ∷ codes "S" ∷ codes "B" ∷ []) ≡ codes "B"
    ∷ []
new_names = refl

-- by first use, and not by the alphabet
first_use : news Exact [] (codes "b" ∷ codes "a" ∷ codes "b" ∷ codes "c" ∷ []) ≡ codes "b" ∷ codes "a" ∷ codes "c" ∷ []
first_use = refl

-- `S <- .` with a start that no rule has: T is used but not defined, and S is defined but not used
abbrev any_rule : Rule
any_rule = record { name = codes "S"; body = Any; span = record { start = 0; end = 1 } }

no_step : {e : Pattern} → LeftChain (any_rule ∷ []) Any e → ⊥
no_step (one_step s) = elim s [ ]
no_step (more_steps c s) = no_step c

start_without_rule : AreNotes (any_rule ∷ []) [] (Some (codes "T"))
    (said Undefined (codes "T") ∷ said Unused (codes "S") ∷ [])
start_without_rule = record {
  redefined = [];
  unused = any_rule ∷ [];
  recursive = [];
  looping = [];
  are_redefined = not_this (λ c. omega (arith, c.1)) no_more;
  are_unused = this_one (
    (λ c. omega (arith, c.1)),
    (λ e. both_ways true (ap (λ o. bytes_eq (unwrap_or o []) (codes "T")) e) refl),
  ) no_more;
  are_recursive = not_this no_step no_more;
  are_looping = not_this (λ r. elim r [ ]) no_more;
  all = refl;
}

-- without one S is the start rule, and there is nothing to say
start_is_first : AreNotes (any_rule ∷ []) [] None []
start_is_first = record {
  redefined = [];
  unused = [];
  recursive = [];
  looping = [];
  are_redefined = not_this (λ c. omega (arith, c.1)) no_more;
  are_unused = not_this (λ u. u.1 refl) no_more;
  are_recursive = not_this no_step no_more;
  are_looping = not_this (λ r. elim r [ ]) no_more;
  all = refl;
}
