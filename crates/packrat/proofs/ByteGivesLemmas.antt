-- What an evaluation gives where the byte at its position decides it.
-- Serves: one_byte_decides, Packrat::match_unit
use Rattle.std.proofs.Common.{◌≡◌, ℕ, zero, suc, ◌+◌, ◌<◌, ◌≤◌, max, Bool, true, false, List, [], ◌∷◌, length}
use Rattle.std.proofs.Common.{drop, Some, None, refl, sym, subst, ap, arith, ◌∙◌}
use Rattle.std.specs.Prelude.{slice_get, ◌==◌}
use Rattle.std.proofs.lemmas.Bool.{eqb-true, eq-eqb}
use Rattle.pegread.specs.Pattern as expr
use Rattle.pegread.specs.Pattern.{Pattern, Patterns, Rule}
use Rattle.pegread.specs.PegViews.{rules_of}
use Rattle.pegnodes.specs.ByByte.{Succeeds, ByByte, by_shape, Below, below, ByShape, by_any, by_set_in, by_set_out}
use Rattle.pegnodes.specs.ByByte.{by_no_bytes, by_one_byte, by_other_byte, by_name, by_members, by_alternatives}
use Rattle.pegnodes.specs.ByByte.{by_opt_some, by_opt_none, by_and, by_and_fails, by_not, by_not_fails, by_no_iteration}
use Rattle.pegnodes.specs.ByByte.{by_no_plus, ByMembers, members_end, member_stays, member_fails, member_takes}
use Rattle.pegnodes.specs.ByByte.{member_leaves, LeavesEvent}
use Rattle.pegnodes.specs.ByByte.{ByAlternatives, alternatives_end, alternative_fails, alternative_succeeds}
use Rattle.gramcheck.specs.Grammar.{Grammar, IsSoundGrammar}
use Rattle.pegnodes.specs.Nodes as node
use Rattle.pegnodes.specs.Nodes.{Shape, shapes_of, Spells, SpellAll, spell_none, spell_more, spells_any, spells_set}
use Rattle.pegnodes.specs.Nodes.{spells_bytes}
use Rattle.gramcheck.specs.Outcome as outcome
use Rattle.gramcheck.specs.Outcome.{Event, Acted, Opened, Closed, Outcome, Gives, any_takes, set_takes, set_fails}
use Rattle.gramcheck.specs.Outcome.{bytes_take, bytes_fail, act, open_at, close_at, seq}
use Rattle.gramcheck.specs.Outcome.{choice}
use Rattle.gramcheck.specs.Outcome.{GivesAll, all_done, one_fails, rest_fails, rest_takes, GivesFirst, all_failed}
use Rattle.gramcheck.specs.Outcome.{first_takes, first_fails, begins_with, compared, looked_at}
use Rattle.gramcheck.specs.Sound.{IsRanked}
use Rattle.pegnodes.specs.declared.by_byte.ByteVerdict.{ByteVerdict}
use Rattle.pegnodes.specs.declared.by_byte.ByteVerdict.TheVariants.{Takes, Stays, Fails}
use Rattle.pegnodes.proofs.HasShapeLemmas.{has_shape}
use Rattle.pegmatch.specs.KeptEvents.{quiet_outcome, SpellsSome}
use Rattle.pegmatch.specs.Visits.{NodeGives}
use Rattle.pegmatch.proofs.GivesLemmas.{name_gives, star_gives_none, not_gives_takes, not_gives_fails, plus_gives_fails}
use Rattle.pegmatch.proofs.GivesLemmas.{opt_gives_takes, opt_gives_none, and_gives_takes, and_gives_fails}
use Rattle.pegmatch.proofs.NodeGivesLemmas.{gives_as}
use Rattle.memo.specs.declared.task.MatchTask.TheVariants.{Eval}
use Rattle.packrat.specs.ByteGives.{found_by, GivesBy}
use Rattle.packrat.specs.TaskGives.{IsQuiet, TaskGives}
use Rattle.packrat.proofs.TaskReachLemmas.{front_drop}

-- beyond the last member there is none
pub drop_end : (ms : List ℕ) (i : ℕ) → slice_get ms i ≡ None → drop i ms ≡ []
drop_end [] zero h = refl
drop_end [] (suc i) h = refl
drop_end (m ∷ ms) zero h = absurd (cc h)
drop_end (m ∷ ms) (suc i) h = drop_end ms i h

drop_zero : (ms : List ℕ) → ms ≡ drop zero ms
drop_zero [] = refl
drop_zero (m ∷ ms) = refl

-- a comparison of one byte at most looks no further than that byte
looked_near : (p k : ℕ) → k ≤ 1 → looked_at p k ≤ p + 1
looked_near p zero le = omega arith
looked_near p (suc k) le = omega arith

same_byte : (b c : ℕ) → c ≡ b → (b == c) ≡ true
same_byte b c is = eq-eqb b c (sym is)

other_byte : (b c : ℕ) → (c ≡ b → ⊥) → (b == c) ≡ false
other_byte b c not = by (b == c) refl
  where
    by : (v : Bool) → (b == c) ≡ v → v ≡ false
    by true is = absurd (not (sym (eqb-true b c is)))
    by false is = refl

-- the comparison of a literal's first byte
begins_one : (b c : ℕ) (rest : List ℕ) → c ≡ b → begins_with (b ∷ rest) (c ∷ []) ≡ true
begins_one b c rest is = let h = same_byte b c is in cc h

begins_not : (b c : ℕ) (rest cs : List ℕ) → (c ≡ b → ⊥) → begins_with (b ∷ rest) (c ∷ cs) ≡ false
begins_not b c rest cs not = let h = other_byte b c not in cc h

compared_one : (b c : ℕ) (rest : List ℕ) → compared (b ∷ rest) (c ∷ []) ≤ 1
compared_one b c rest = by (b == c) refl
  where
    by : (v : Bool) → (b == c) ≡ v → compared (b ∷ rest) (c ∷ []) ≤ 1
    by true is = rw is (omega arith)
    by false is = rw is (omega arith)

compared_not : (b c : ℕ) (rest cs : List ℕ) → (c ≡ b → ⊥) → compared (b ∷ rest) (c ∷ cs) ≤ 1
compared_not b c rest cs not = let h = other_byte b c not in rw h (omega arith)

compared_none : (bytes : List ℕ) → compared bytes [] ≤ 1
compared_none bytes = omega arith

begins_none : (bytes : List ℕ) → begins_with bytes [] ≡ true
begins_none bytes = refl

-- the first operand and the others
spelled_more : {rules : List Rule} {nodes : List Shape} {m : ℕ} {ns : List ℕ} {ps : Patterns}
    → SpellAll rules nodes (m ∷ ns) ps → (one : Pattern) × (rest : Patterns) × (ps ≡ expr.more one rest)
    × Spells rules nodes m one × SpellAll rules nodes ns rest
spelled_more (spell_more {p = one} {ps = rest} s ss) = (one, rest, refl, s, ss)

spelled_none : {rules : List Rule} {nodes : List Shape} {ps : Patterns} → SpellAll rules nodes [] ps
    → ps ≡ expr.none
spelled_none spell_none = refl

pub nth_spelled : (rules : List Rule) (nodes : List Shape) (ms : List ℕ) (ps : Patterns) (i m : ℕ)
    → SpellAll rules nodes ms ps → slice_get ms i ≡ Some m → SpellsSome rules nodes m
nth_spelled rules nodes [] ps i m ss h = absurd (cc h)
nth_spelled rules nodes (k ∷ ms) ps zero m (spell_more {p = e} s ss) h =
    let is : k ≡ m = cc h in (e, subst (λ v. Spells rules nodes v e) is s)
nth_spelled rules nodes (k ∷ ms) ps (suc i) m (spell_more {ps = rest} s ss) h =
    nth_spelled rules nodes ms rest i m ss h

module _ (rules : List Rule) (start : ℕ) (nodes : List Shape) (bodies ranks x : List ℕ)
    (sound : IsRanked rules start nodes bodies ranks) where
  abbrev pub Has : ℕ → Type 0
  Has n = SpellsSome rules nodes n

  abbrev pub At : ℕ → Shape → Type 0
  At n s = slice_get nodes n ≡ Some s

  -- the operands of a node are spelled
  pub name_has : (n id m : ℕ) → slice_get bodies id ≡ Some m → Has m
  name_has n id m body = let there = sound.spelled.spelled id m body in (there.0, there.2)

  pub seq_has : (n i m : ℕ) (ms : List ℕ) → At n (node.Seq ms) → Has n → slice_get ms i ≡ Some m → Has m
  seq_has n i m ms at s h =
      let like = has_shape rules nodes s.1 (node.Seq ms) at in nth_spelled rules nodes ms like.0 i m like.2 h

  pub choice_has : (n i m : ℕ) (ms : List ℕ) → At n (node.Choice ms) → Has n → slice_get ms i ≡ Some m → Has m
  choice_has n i m ms at s h =
      let like = has_shape rules nodes s.1 (node.Choice ms) at in nth_spelled rules nodes ms like.0 i m like.2 h

  pub star_has : (n m : ℕ) → At n (node.Star m) → Has n → Has m
  star_has n m at s = let like = has_shape rules nodes s.1 (node.Star m) at in (like.0, like.2)

  pub plus_has : (n m k : ℕ) → At n (node.Plus m k) → Has n → Has m
  plus_has n m k at s = let like = has_shape rules nodes s.1 (node.Plus m k) at in (like.0, like.2)

  pub opt_has : (n m : ℕ) → At n (node.Opt m) → Has n → Has m
  opt_has n m at s = let like = has_shape rules nodes s.1 (node.Opt m) at in (like.0, like.2)

  pub and_has : (n m : ℕ) → At n (node.And m) → Has n → Has m
  and_has n m at s = let like = has_shape rules nodes s.1 (node.And m) at in (like.0, like.2)

  pub not_has : (n m : ℕ) → At n (node.Not m) → Has n → Has m
  not_has n m at s = let like = has_shape rules nodes s.1 (node.Not m) at in (like.0, like.2)

  module _ (marks : ℕ → Bool) (tails : ℕ → ℕ → Bool) (b p : ℕ) (here : slice_get x p ≡ Some b) where
    abbrev G : ℕ → ByteVerdict → Type 0
    G n v = GivesBy rules nodes bodies x n p v

    -- what the expressions from a member on give
    record AllBy (ps : Patterns) (v : ByteVerdict) : Type 0 where
      pub looked : ℕ
      pub within : looked ≤ p + 1
      pub gives : GivesAll rules x ps p (quiet_outcome (found_by v p)) looked

    record FirstBy (ps : Patterns) (v : ByteVerdict) : Type 0 where
      pub looked : ℕ
      pub within : looked ≤ p + 1
      pub gives : GivesFirst rules x ps p (quiet_outcome (found_by v p)) looked

    abbrev as_own : {n k : ℕ} {o : Outcome} {e : Pattern} → Spells rules nodes n e
        → NodeGives rules nodes bodies x n p o k → Gives rules x e p o k
    as_own s d = gives_as rules nodes sound.defined bodies x s d

    -- what an expression that leaves an event gives
    abbrev pub event_of : Shape → Event
    event_of node.Any = Opened p
    event_of (node.Bytes bs) = Opened p
    event_of (node.Set s) = Opened p
    event_of (node.Name id) = Opened p
    event_of (node.Seq ms) = Opened p
    event_of (node.Choice ms) = Opened p
    event_of (node.Star m) = Opened p
    event_of (node.Plus m k) = Opened p
    event_of (node.Opt m) = Opened p
    event_of (node.And m) = Opened p
    event_of (node.Not m) = Opened p
    event_of (node.Act t) = Acted t
    event_of node.Open = Opened p
    event_of node.Close = Closed p

    pub event_gives : {n : ℕ} {e : Pattern} → Spells rules nodes n e → (s : Shape) → At n s → LeavesEvent s
        → Gives rules x e p (outcome.Takes p (event_of s ∷ [])) 0
    event_gives d node.Any at l = absurd l
    event_gives d (node.Bytes bs) at l = absurd l
    event_gives d (node.Set s) at l = absurd l
    event_gives d (node.Name id) at l = absurd l
    event_gives d (node.Seq ms) at l = absurd l
    event_gives d (node.Choice ms) at l = absurd l
    event_gives d (node.Star m) at l = absurd l
    event_gives d (node.Plus m k) at l = absurd l
    event_gives d (node.Opt m) at l = absurd l
    event_gives d (node.And m) at l = absurd l
    event_gives d (node.Not m) at l = absurd l
    event_gives d (node.Act t) at l =
        subst (λ e. Gives rules x e p (outcome.Takes p (Acted t ∷ [])) 0)
        (sym (has_shape rules nodes d (node.Act t) at)) act
    event_gives d node.Open at l =
        subst (λ e. Gives rules x e p (outcome.Takes p (Opened p ∷ [])) 0) (sym (has_shape rules nodes d node.Open at))
        open_at
    event_gives d node.Close at l =
        subst (λ e. Gives rules x e p (outcome.Takes p (Closed p ∷ [])) 0)
        (sym (has_shape rules nodes d node.Close at)) close_at

    any_gives : (n : ℕ) → At n node.Any → G n Takes
    any_gives n at = record {
      looked = p + 1;
      within = omega arith;
      gives = record { expr = expr.Any; spelled = spells_any at; gives = any_takes here };
    }

    set_in_gives : (n : ℕ) (s : ℕ → Bool) → At n (node.Set s) → s b ≡ true → G n Takes
    set_in_gives n s at t = record {
      looked = p + 1;
      within = omega arith;
      gives = record { expr = expr.Set s; spelled = spells_set at; gives = set_takes here t };
    }

    set_out_gives : (n : ℕ) (s : ℕ → Bool) → At n (node.Set s) → s b ≡ false → G n Fails
    set_out_gives n s at t = record {
      looked = p + 1;
      within = omega arith;
      gives = record { expr = expr.Set s; spelled = spells_set at; gives = set_fails here t };
    }

    -- the rest of the input begins with the byte
    rest_is : drop p x ≡ b ∷ drop (suc p) x
    rest_is = front_drop x p b here

    no_bytes_gives : (n : ℕ) → At n (node.Bytes []) → G n Stays
    no_bytes_gives n at = record {
      looked = looked_at p (compared (drop p x) []);
      within = looked_near p (compared (drop p x) []) (compared_none (drop p x));
      gives = record {
        expr = expr.Bytes [];
        spelled = spells_bytes at;
        gives = let end : p + 0 ≡ p = omega arith in
            subst (λ q. Gives rules x (expr.Bytes []) p (outcome.Takes q []) (looked_at p (compared (drop p x) []))) end
            (bytes_take (begins_none (drop p x)));
      };
    }

    one_byte_gives : (n c : ℕ) → At n (node.Bytes (c ∷ [])) → c ≡ b → G n Takes
    one_byte_gives n c at is = record {
      looked = looked_at p (compared (drop p x) (c ∷ []));
      within = looked_near p (compared (drop p x) (c ∷ []))
          (subst (λ r. compared r (c ∷ []) ≤ 1) (sym rest_is) (compared_one b c (drop (suc p) x)));
      gives = record {
        expr = expr.Bytes (c ∷ []);
        spelled = spells_bytes at;
        gives = bytes_take (subst (λ r. begins_with r (c ∷ []) ≡ true) (sym rest_is)
            (begins_one b c (drop (suc p) x) is));
      };
    }

    other_byte_gives : (n c : ℕ) (cs : List ℕ) → At n (node.Bytes (c ∷ cs)) → (c ≡ b → ⊥) → G n Fails
    other_byte_gives n c cs at not = record {
      looked = looked_at p (compared (drop p x) (c ∷ cs));
      within = looked_near p (compared (drop p x) (c ∷ cs))
          (subst (λ r. compared r (c ∷ cs) ≤ 1) (sym rest_is) (compared_not b c (drop (suc p) x) cs not));
      gives = record {
        expr = expr.Bytes (c ∷ cs);
        spelled = spells_bytes at;
        gives = bytes_fail (subst (λ r. begins_with r (c ∷ cs) ≡ false) (sym rest_is)
            (begins_not b c (drop (suc p) x) cs not));
      };
    }

    name_by : (n id m : ℕ) (v : ByteVerdict) → Has n → At n (node.Name id) → slice_get bodies id ≡ Some m → G m v
        → G n v
    name_by n id m v s at body g = record {
      looked = g.looked;
      within = g.within;
      gives = name_gives rules start nodes bodies ranks x sound n id m p g.looked (quiet_outcome (found_by v p)) s at
          body g.gives;
    }

    module _ (n m : ℕ) (s : Has n) where
      opt_some : (v : ByteVerdict) → Succeeds v → At n (node.Opt m) → G m v → G n v
      opt_some Takes t at g = record {
        looked = g.looked;
        within = g.within;
        gives = opt_gives_takes rules start nodes bodies ranks x sound n m s p (p + 1) g.looked [] at g.gives;
      }
      opt_some Stays t at g = record {
        looked = g.looked;
        within = g.within;
        gives = opt_gives_takes rules start nodes bodies ranks x sound n m s p p g.looked [] at g.gives;
      }
      opt_some Fails t at g = absurd t

      opt_none : At n (node.Opt m) → G m Fails → G n Stays
      opt_none at g = record {
        looked = g.looked;
        within = g.within;
        gives = opt_gives_none rules start nodes bodies ranks x sound n m s p g.looked at g.gives;
      }

      and_some : (v : ByteVerdict) → Succeeds v → At n (node.And m) → G m v → G n Stays
      and_some Takes t at g = record {
        looked = g.looked;
        within = g.within;
        gives = and_gives_takes rules start nodes bodies ranks x sound n m s p (p + 1) g.looked [] at g.gives;
      }
      and_some Stays t at g = record {
        looked = g.looked;
        within = g.within;
        gives = and_gives_takes rules start nodes bodies ranks x sound n m s p p g.looked [] at g.gives;
      }
      and_some Fails t at g = absurd t

      and_none : At n (node.And m) → G m Fails → G n Fails
      and_none at g = record {
        looked = g.looked;
        within = g.within;
        gives = and_gives_fails rules start nodes bodies ranks x sound n m s p g.looked at g.gives;
      }

      not_none : At n (node.Not m) → G m Fails → G n Stays
      not_none at g = record {
        looked = g.looked;
        within = g.within;
        gives = not_gives_takes rules start nodes bodies ranks x sound n m s p g.looked at g.gives;
      }

      not_some : (v : ByteVerdict) → Succeeds v → At n (node.Not m) → G m v → G n Fails
      not_some Takes t at g = record {
        looked = g.looked;
        within = g.within;
        gives = not_gives_fails rules start nodes bodies ranks x sound n m s p (p + 1) g.looked [] at g.gives;
      }
      not_some Stays t at g = record {
        looked = g.looked;
        within = g.within;
        gives = not_gives_fails rules start nodes bodies ranks x sound n m s p p g.looked [] at g.gives;
      }
      not_some Fails t at g = absurd t

      no_iteration : At n (node.Star m) → G m Fails → G n Stays
      no_iteration at g = record {
        looked = g.looked;
        within = g.within;
        gives = star_gives_none rules start nodes bodies ranks x sound n m s p g.looked at g.gives;
      }

      no_plus : (k : ℕ) → At n (node.Plus m k) → G m Fails → G n Fails
      no_plus k at g = record {
        looked = g.looked;
        within = g.within;
        gives = plus_gives_fails rules start nodes bodies ranks x sound n m s k p g.looked at g.gives;
      }

    seq_by : (n : ℕ) (ms : List ℕ) (v : ByteVerdict) → Has n → At n (node.Seq ms)
        → ((ps : Patterns) → SpellAll rules nodes ms ps → AllBy ps v) → G n v
    seq_by n ms v s at h =
        let like = has_shape rules nodes s.1 (node.Seq ms) at in
        let d = h like.0 like.2 in
        record {
          looked = d.looked;
          within = d.within;
          gives = record {
            expr = expr.Seq like.0;
            spelled = subst (Spells rules nodes n) like.1 s.1;
            gives = seq d.gives;
          };
        }

    choice_by : (n : ℕ) (ms : List ℕ) (v : ByteVerdict) → Has n → At n (node.Choice ms)
        → ((ps : Patterns) → SpellAll rules nodes ms ps → FirstBy ps v) → G n v
    choice_by n ms v s at h =
        let like = has_shape rules nodes s.1 (node.Choice ms) at in
        let d = h like.0 like.2 in
        record {
          looked = d.looked;
          within = d.within;
          gives = record {
            expr = expr.Choice like.0;
            spelled = subst (Spells rules nodes n) like.1 s.1;
            gives = choice d.gives;
          };
        }

    -- members that are done
    all_by_none : (ps : Patterns) → SpellAll rules nodes [] ps → AllBy ps Stays
    all_by_none ps ss = subst (λ v. AllBy v Stays) (sym (spelled_none ss))
        (record { looked = 0; within = omega arith; gives = all_done })

    all_by_stays : (e : Pattern) (rest : Patterns) (v : ByteVerdict) (j : ℕ) → j ≤ p + 1
        → Gives rules x e p (outcome.Takes p []) j → AllBy rest v → AllBy (expr.more e rest) v
    all_by_stays e rest Takes j le d h =
        let lt = h.within in
        record { looked = max j h.looked; within = omega (arith, le, lt); gives = rest_takes d h.gives }
    all_by_stays e rest Stays j le d h =
        let lt = h.within in
        record { looked = max j h.looked; within = omega (arith, le, lt); gives = rest_takes d h.gives }
    all_by_stays e rest Fails j le d h =
        let lt = h.within in
        record { looked = max j h.looked; within = omega (arith, le, lt); gives = rest_fails d h.gives }

    all_by_takes : (e : Pattern) (j : ℕ) → j ≤ p + 1 → Gives rules x e p (outcome.Takes (p + 1) []) j
        → AllBy (expr.more e expr.none) Takes
    all_by_takes e j le d = record { looked = max j 0; within = omega (arith, le); gives = rest_takes d all_done }

    first_by_some : (e : Pattern) (rest : Patterns) (v : ByteVerdict) (j : ℕ) → Succeeds v → j ≤ p + 1
        → Gives rules x e p (quiet_outcome (found_by v p)) j → FirstBy (expr.more e rest) v
    first_by_some e rest Takes j t le d = record { looked = j; within = le; gives = first_takes d }
    first_by_some e rest Stays j t le d = record { looked = j; within = le; gives = first_takes d }
    first_by_some e rest Fails j t le d = absurd t

    first_by_none : (ps : Patterns) → SpellAll rules nodes [] ps → FirstBy ps Fails
    first_by_none ps ss = subst (λ v. FirstBy v Fails) (sym (spelled_none ss))
        (record { looked = 0; within = omega arith; gives = all_failed })

    mutual
      pub gives_by : {n c : ℕ} {v : ByteVerdict} → ByByte nodes bodies marks tails b n v c → Has n → G n v
      gives_by (by_shape at h) s = shape_gives at h s

      below_gives : {n c : ℕ} {v : ByteVerdict} → Below nodes bodies marks tails b n v c → Has n → G n v
      below_gives (below t h) s = gives_by h s

      shape_gives : {n c : ℕ} {sh : Shape} {v : ByteVerdict} → At n sh → ByShape nodes bodies marks tails b n sh v c
          → Has n
          → G n v
      shape_gives {n = n} at by_any s = any_gives n at
      shape_gives {n = n} at (by_set_in {s = set} t) s = set_in_gives n set at t
      shape_gives {n = n} at (by_set_out {s = set} t) s = set_out_gives n set at t
      shape_gives {n = n} at by_no_bytes s = no_bytes_gives n at
      shape_gives {n = n} at (by_one_byte {c = c} is) s = one_byte_gives n c at is
      shape_gives {n = n} at (by_other_byte {c = c} {cs = cs} not) s = other_byte_gives n c cs at not
      shape_gives {n = n} at (by_name {id = id} {m = m} {v = v} body h) s =
          name_by n id m v s at body (below_gives h (name_has n id m body))
      shape_gives {n = n} at (by_members {ms = ms} {v = v} h) s =
          seq_by n ms v s at (λ ps ss. members_give h ps (subst (λ w. SpellAll rules nodes w ps) (drop_zero ms) ss))
      shape_gives {n = n} at (by_alternatives {ms = ms} {v = v} h) s =
          choice_by n ms v s at
          (λ ps ss. alternatives_give h ps (subst (λ w. SpellAll rules nodes w ps) (drop_zero ms) ss))
      shape_gives {n = n} at (by_opt_some {m = m} {v = v} t h) s =
          opt_some n m s v t at (below_gives h (opt_has n m at s))
      shape_gives {n = n} at (by_opt_none {m = m} h) s = opt_none n m s at (below_gives h (opt_has n m at s))
      shape_gives {n = n} at (by_and {m = m} {v = v} t h) s = and_some n m s v t at (below_gives h (and_has n m at s))
      shape_gives {n = n} at (by_and_fails {m = m} h) s = and_none n m s at (below_gives h (and_has n m at s))
      shape_gives {n = n} at (by_not {m = m} h) s = not_none n m s at (below_gives h (not_has n m at s))
      shape_gives {n = n} at (by_not_fails {m = m} {v = v} t h) s =
          not_some n m s v t at (below_gives h (not_has n m at s))
      shape_gives {n = n} at (by_no_iteration {m = m} h) s = no_iteration n m s at (below_gives h (star_has n m at s))
      shape_gives {n = n} at (by_no_plus {m = m} {s = k} h) s =
          no_plus n m s k at (below_gives h (plus_has n m k at s))

      members_give : {n i c : ℕ} {ms : List ℕ} {v : ByteVerdict} → ByMembers nodes bodies marks tails b n ms i v c
          → (ps : Patterns) → SpellAll rules nodes (drop i ms) ps → AllBy ps v
      members_give {i = i} {ms = ms} (members_end e) ps ss =
          all_by_none ps (subst (λ w. SpellAll rules nodes w ps) (drop_end ms i e) ss)
      members_give {i = i} {ms = ms} (member_stays {m = m} {v = v} at t h r) ps ss =
          let d = spelled_more (subst (λ w. SpellAll rules nodes w ps) (front_drop ms i m at) ss) in
          let g = below_gives h (d.0, d.3) in
          subst (λ w. AllBy w v) (sym d.2)
          (all_by_stays d.0 d.1 v g.looked g.within (as_own d.3 g.gives) (members_give r d.1 d.4))
      members_give {i = i} {ms = ms} (member_fails {m = m} at t h) ps ss =
          let d = spelled_more (subst (λ w. SpellAll rules nodes w ps) (front_drop ms i m at) ss) in
          let g = below_gives h (d.0, d.3) in
          subst (λ w. AllBy w Fails) (sym d.2)
          (record { looked = g.looked; within = g.within; gives = one_fails (as_own d.3 g.gives) })
      members_give {i = i} {ms = ms} (member_takes {m = m} at last t h) ps ss =
          let d = spelled_more (subst (λ w. SpellAll rules nodes w ps) (front_drop ms i m at) ss) in
          let g = below_gives h (d.0, d.3) in
          let none = spelled_none (subst (λ w. SpellAll rules nodes w d.1) (drop_end ms (suc i) last) d.4) in
          subst (λ w. AllBy w Takes) (sym (d.2 ∙ ap (expr.more d.0) none))
          (all_by_takes d.0 g.looked g.within (as_own d.3 g.gives))
      members_give {i = i} {ms = ms} (member_leaves {m = m} {s = s} at t free there l r) ps ss =
          let d = spelled_more (subst (λ w. SpellAll rules nodes w ps) (front_drop ms i m at) ss) in
          let rest = members_give r d.1 d.4 in
          let le = rest.within in
          subst (λ w. AllBy w Fails) (sym d.2) (record {
            looked = max 0 rest.looked;
            within = omega (arith, le);
            gives = rest_fails (event_gives d.3 s there l) rest.gives;
          })

      alternatives_give : {n i c : ℕ} {ms : List ℕ} {v : ByteVerdict}
          → ByAlternatives nodes bodies marks tails b n ms i v c
          → (ps : Patterns) → SpellAll rules nodes (drop i ms) ps → FirstBy ps v
      alternatives_give {i = i} {ms = ms} (alternatives_end e) ps ss =
          first_by_none ps (subst (λ w. SpellAll rules nodes w ps) (drop_end ms i e) ss)
      alternatives_give {i = i} {ms = ms} (alternative_fails {m = m} {v = v} at t h r) ps ss =
          let d = spelled_more (subst (λ w. SpellAll rules nodes w ps) (front_drop ms i m at) ss) in
          let g = below_gives h (d.0, d.3) in
          let rest = alternatives_give r d.1 d.4 in
          let le = g.within in
          let lt = rest.within in
          subst (λ w. FirstBy w v) (sym d.2) (record {
            looked = max g.looked rest.looked;
            within = omega (arith, le, lt);
            gives = first_fails (as_own d.3 g.gives) rest.gives;
          })
      alternatives_give {i = i} {ms = ms} (alternative_succeeds {m = m} {v = v} at t some h) ps ss =
          let d = spelled_more (subst (λ w. SpellAll rules nodes w ps) (front_drop ms i m at) ss) in
          let g = below_gives h (d.0, d.3) in
          subst (λ w. FirstBy w v) (sym d.2)
          (first_by_some d.0 d.1 v g.looked some g.within (as_own d.3 g.gives))

-- a failure that a byte decides has no events, as all that it decides
quiet_by : (v : ByteVerdict) (p : ℕ) → IsQuiet (found_by v p) []
quiet_by Takes p = tt
quiet_by Stays p = tt
quiet_by Fails p = refl

module _ (g : Grammar) (x : List ℕ) (more : Bool) (sound : IsSoundGrammar g) where
  pub found_gives : (n p : ℕ) (v : ByteVerdict) → (more ≡ true → p + 1 < length x)
      → GivesBy (rules_of g.rules) (shapes_of g.nodes) g.bodies x n p v → TaskGives g x more (Eval n p) (found_by v p)
  found_gives n p v last d = (
    [],
    (d.looked, d.gives, (λ is. let lt = last is in let le = d.within in omega (arith, lt, le)), quiet_by v p),
  )
