-- The symbols that are reported after a prefix, by the samples that lead on from its state.
-- Serves: next
use Rattle.std.proofs.Common.{◌≡◌, ◌⊎◌, inl, inr, ℕ, ◌+◌, ◌<◌, ◌≤◌, List, [], length, refl, sym, subst, arith}
use Rattle.std.proofs.lemmas.Bool.{cases_lt}
use Rattle.std.proofs.lemmas.Option.{slice_get_within}
use Rattle.std.specs.Prelude.{Bool, true, false, Some, slice_get, Contains}
use Rattle.abnfread.specs.Element.{Rule}
use Rattle.flatgrammar.specs.Flat.{Flat, Dot}
use Rattle.ruletable.specs.declared.alphabet.Alphabet.{Alphabet}
use Rattle.flatgrammar.specs.Stacks.{AreAlike}
use Rattle.lazydfa.specs.StateSets.{StateSet}
use Rattle.lazydfa.proofs.StateSetsLemmas.{contained_at, got_at}
use Rattle.rulelines.specs.FirstLines.{sort_key}
use Rattle.rulelines.specs.LineSets.{is_line_symbol}
use Rattle.rulelines.specs.Misses.{AreReportedWrong, CanFollow, CannotFollow, IsEdge, IsFirstWrong, IsReportedWrong}
use Rattle.rulelines.specs.MissSearch.{AreEndsOf, AreLedBy, IsLedBy, LeadsAstray, LeadsOn}
use Rattle.rulelines.specs.Samples.{AreInLineOrder}
use Rattle.rulelines.specs.StatePairs.{AreSamples, HasSample}
use Rattle.rulelines.specs.WrongSymbols.{AreWrongTo, IsBesideLive, IsWrongAt}
use Rattle.rulelines.proofs.ComesFirstLemmas.{one_key}
use Rattle.rulelines.proofs.StatePairsLemmas.{element_at}
use Rattle.rulelines.proofs.TakesLemmas.{next_alike}

module _ (flat : Flat) (last : Dot → Bool) (s : StateSet) where
  leads_alike : (c d : ℕ) → AreAlike flat c d → LeadsOn flat last s d → LeadsOn flat last s c
  leads_alike c d alike l = record {
    to = l.to;
    next = next_alike flat last alike (Contains s.stacks) (Contains l.to.stacks) l.to.ended l.next;
    live = l.live;
  }

  astray_alike : (c d : ℕ) → AreAlike flat c d → LeadsAstray flat last s d → LeadsAstray flat last s c
  astray_alike c d alike a = record {
    to = a.to;
    next = next_alike flat last alike (Contains s.stacks) (Contains a.to.stacks) a.to.ended a.next;
    dead = a.dead;
  }

  alike_back : (c d : ℕ) → AreAlike flat c d → AreAlike flat d c
  alike_back c d alike q r set rd = ((alike q r set rd).1, (alike q r set rd).0)

  module _ (alphabet : Alphabet) (terminator limit : ℕ) (rules : List Rule) (id : ℕ) (u : List ℕ) where
    abbrev Inner : ℕ → Bool
    Inner = is_line_symbol alphabet terminator

    abbrev Can : ℕ → Type 0
    Can = CanFollow alphabet terminator limit rules id u

    abbrev Wrong : ℕ → Type 0
    Wrong = CannotFollow alphabet terminator limit rules id u

    module _ (can : (c : ℕ) → Inner c ≡ true → LeadsOn flat last s c → Can c)
        (wrong : (c : ℕ) → Inner c ≡ true → LeadsAstray flat last s c → Wrong c) (samples : List ℕ)
        (each : AreSamples flat flat Inner samples) (in_order : AreInLineOrder Inner samples) (edges : Bool)
        (ends : AreEndsOf edges flat Inner samples) (live : List Bool) (same : length live ≡ length samples)
        (led : AreLedBy flat last samples (length samples) s live) where
      never_both : (c : ℕ) → LeadsOn flat last s c → Wrong c → ⊥
      never_both c l w = w.not_viable ((can c w.symbol l).viable)

      symbol_at : (j c : ℕ) → slice_get samples j ≡ Some c → Inner c ≡ true
      symbol_at j c at_j = in_order.symbols c (contained_at samples j c at_j)

      flag_at : (j c : ℕ) → slice_get samples j ≡ Some c
          → (b : Bool) × (slice_get live j ≡ Some b) × IsLedBy flat last s c b
      flag_at j c at_j =
          let lt = slice_get_within samples j c at_j in
          let g = element_at live j (omega (arith, lt, same)) in
          (g.0, g.1, led j c g.0 lt at_j g.1)

      leads_at : (j c : ℕ) → slice_get samples j ≡ Some c → slice_get live j ≡ Some true → LeadsOn flat last s c
      leads_at j c at_j is = led j c true (slice_get_within samples j c at_j) at_j is

      -- a symbol leads on, or astray with its sample
      abbrev IsCaseOf : ℕ → Type 0
      IsCaseOf c = LeadsOn flat last s c ⊎ (LeadsAstray flat last s c × (h : HasSample flat flat samples c)
          × (slice_get live h.is.0 ≡ Some false) × LeadsAstray flat last s h.sample)

      case_of : (c : ℕ) → Inner c ≡ true → IsCaseOf c
      case_of c symbol = by f.0 f.1 f.2
        where
          h : HasSample flat flat samples c
          h = each c symbol

          f : (b : Bool) × (slice_get live h.is.0 ≡ Some b) × IsLedBy flat last s h.sample b
          f = flag_at h.is.0 h.sample (got_at samples h.sample h.is)

          by : (b : Bool) → slice_get live h.is.0 ≡ Some b → IsLedBy flat last s h.sample b → IsCaseOf c
          by true is l = inl (leads_alike c h.sample h.old_alike l)
          by false is a = inr (astray_alike c h.sample h.old_alike a, h, is, a)

      can_on : (c : ℕ) → Can c → LeadsOn flat last s c
      can_on c f = by (case_of c f.symbol)
        where
          by : IsCaseOf c → LeadsOn flat last s c
          by (inl l) = l
          by (inr g) = absurd ((wrong c f.symbol g.0).not_viable f.viable)

      -- a wrong symbol has the flag of one that leads astray
      flag_wrong : (j c : ℕ) → slice_get samples j ≡ Some c → Wrong c → slice_get live j ≡ Some false
      flag_wrong j c at_j w = let f = flag_at j c at_j in by f.0 f.1 f.2
        where
          by : (b : Bool) → slice_get live j ≡ Some b → IsLedBy flat last s c b → slice_get live j ≡ Some false
          by true is l = absurd (never_both c l w)
          by false is a = is

      flag_can : (j c : ℕ) → slice_get samples j ≡ Some c → Can c → slice_get live j ≡ Some true
      flag_can j c at_j f = let g = flag_at j c at_j in by g.0 g.1 g.2
        where
          by : (b : Bool) → slice_get live j ≡ Some b → IsLedBy flat last s c b → slice_get live j ≡ Some true
          by true is l = is
          by false is a = absurd ((wrong c f.symbol a).not_viable f.viable)

      module _ (symbols : List ℕ) (are : AreWrongTo samples live edges (length samples) symbols) where
        -- each of them is reported
        no_later : (i c : ℕ) → slice_get samples i ≡ Some c → ((j : ℕ) → j < i → slice_get live j ≡ Some true) → (d : ℕ)
            → Wrong d → (sort_key d < sort_key c) ⊎ (sort_key c ≤ sort_key d) → sort_key c ≤ sort_key d
        no_later i c at_i before d w (inr le) = le
        no_later i c at_i before d w (inl less) = absurd (by (cases_lt h.is.0 i))
          where
            h : HasSample flat flat samples d
            h = each d w.symbol

            at_h : slice_get samples h.is.0 ≡ Some h.sample
            at_h = got_at samples h.sample h.is

            by : (h.is.0 < i) ⊎ (i ≤ h.is.0) → ⊥
            by (inl lt) = never_both d
                (leads_alike d h.sample h.old_alike (leads_at h.is.0 h.sample at_h (before h.is.0 lt))) w
            by (inr more) = after (cases_lt i h.is.0)
              where
                after : (i < h.is.0) ⊎ (h.is.0 ≤ i) → ⊥
                after (inl lt) =
                    let up = in_order.order i h.is.0 c h.sample lt at_i at_h in
                    let le = h.order in
                    omega (arith, up, le, less)
                after (inr le) =
                    let here : h.is.0 ≡ i = omega (arith, le, more) in
                    let at : slice_get samples i ≡ Some h.sample =
                    subst (λ v. slice_get samples v ≡ Some h.sample) here at_h in
                    let one : c ≡ h.sample = cc (at_i, at) in
                    let order : sort_key c ≤ sort_key d = subst (λ v. sort_key v ≤ sort_key d) (sym one) h.order in
                    omega (arith, order, less)

        only_reported : (c : ℕ) → Contains symbols c → IsReportedWrong alphabet terminator limit rules id edges u c
        only_reported c h = let g = are.only c h in by g.0 g.2
          where
            reason : (i : ℕ) → slice_get samples i ≡ Some c
                → ((j : ℕ) → j < i → slice_get live j ≡ Some true) ⊎ ((edges ≡ true) × IsBesideLive samples live c)
                → IsFirstWrong alphabet terminator limit rules id u c
                ⊎ ((edges ≡ true) × IsEdge alphabet terminator limit rules id u c)
            reason i at_i (inl before) = inl (λ d w. no_later i c at_i before d w (cases_lt (sort_key d) (sort_key c)))
            reason i at_i (inr e) = inr (
              e.0,
              record {
                next = e.1.symbol;
                follows = can e.1.symbol (symbol_at e.1.index e.1.symbol e.1.is)
                    (leads_at e.1.index e.1.symbol e.1.is e.1.leads);
                beside = e.1.beside;
              },
            )

            by : (i : ℕ) → IsWrongAt samples live edges i c
                → IsReportedWrong alphabet terminator limit rules id edges u c
            by i w = record {
              cannot = wrong c (symbol_at i c w.is)
                  (led i c false (slice_get_within samples i c w.is) w.is w.astray);
              reason = reason i w.is w.reason;
            }

        -- each that is reported is one of them
        first_there : (c : ℕ) → Wrong c → IsFirstWrong alphabet terminator limit rules id u c → Contains symbols c
        first_there c w first = by (case_of c w.symbol)
          where
            leads_before : (j n : ℕ) → j < n → slice_get samples n ≡ Some c → slice_get live j ≡ Some true
            leads_before j n lt at_n = by_flag f.0 f.1 f.2
              where
                g : (a : ℕ) × (slice_get samples j ≡ Some a)
                g = element_at samples j (let le = slice_get_within samples n c at_n in omega (arith, le, lt))

                f : (b : Bool) × (slice_get live j ≡ Some b) × IsLedBy flat last s g.0 b
                f = flag_at j g.0 g.1

                by_flag : (b : Bool) → slice_get live j ≡ Some b → IsLedBy flat last s g.0 b
                    → slice_get live j ≡ Some true
                by_flag true is l = is
                by_flag false is a =
                    absurd (let up = in_order.order j n g.0 c lt g.1 at_n in
                    let le = first g.0 (wrong g.0 (symbol_at j g.0 g.1) a) in omega (arith, up, le))

            by : IsCaseOf c → Contains symbols c
            by (inl l) = absurd (never_both c l w)
            by (inr g) =
                let h = g.1 in
                let at_h = got_at samples h.sample h.is in
                let le = first h.sample (wrong h.sample (symbol_at h.is.0 h.sample at_h) g.3) in
                let ge = h.order in
                let one : h.sample ≡ c = one_key h.sample c (omega (arith, le, ge)) in
                let at_c : slice_get samples h.is.0 ≡ Some c =
                subst (λ v. slice_get samples h.is.0 ≡ Some v) one at_h in
                are.all h.is.0 c (slice_get_within samples h.is.0 c at_c) (record {
                  is = at_c;
                  astray = g.2;
                  reason = inl (λ j lt. leads_before j h.is.0 lt at_c);
                })

        both_there : (c d : ℕ) → edges ≡ true → Wrong c → Can d → (d ≡ c + 1) ⊎ (c ≡ d + 1) → Contains samples c
            → Contains samples d → Contains symbols c
        both_there c d asked w f beside has_c has_d =
            let at_c = got_at samples c has_c in
            let at_d = got_at samples d has_d in
            are.all has_c.0 c (slice_get_within samples has_c.0 c at_c) (record {
              is = at_c;
              astray = flag_wrong has_c.0 c at_c w;
              reason = inr (
                asked,
                record {
                  index = has_d.0;
                  symbol = d;
                  is = at_d;
                  leads = flag_can has_d.0 d at_d f;
                  beside = beside;
                },
              );
            })

        edge_there : (c : ℕ) → edges ≡ true → Wrong c → IsEdge alphabet terminator limit rules id u c
            → Contains symbols c
        edge_there c asked w e = by e.beside
          where
            above : e.next ≡ c + 1
                → AreAlike flat (c + 1) c ⊎ (Contains samples c × Contains samples (c + 1)) → Contains symbols c
            above is (inl alike) = absurd (never_both c (leads_alike c (c + 1) (alike_back (c + 1) c alike)
                (subst (λ v. LeadsOn flat last s v) is (can_on e.next e.follows))) w)
            above is (inr h) = both_there c (c + 1) asked w (subst (λ v. Can v) is e.follows) (inl refl) h.0 h.1

            below : c ≡ e.next + 1
                → AreAlike flat (e.next + 1) e.next ⊎ (Contains samples e.next × Contains samples (e.next + 1))
                → Contains symbols c
            below is (inl alike) = absurd (never_both c (leads_alike c e.next
                (subst (λ v. AreAlike flat v e.next) (sym is) alike) (can_on e.next e.follows)) w)
            below is (inr h) =
                both_there c e.next asked w e.follows (inr is) (subst (λ v. Contains samples v) (sym is) h.1) h.0

            by : (e.next ≡ c + 1) ⊎ (c ≡ e.next + 1) → Contains symbols c
            by (inl is) = above is (ends asked c w.symbol (subst (λ v. Inner v ≡ true) is e.follows.symbol))
            by (inr is) = below is (ends asked e.next e.follows.symbol (subst (λ v. Inner v ≡ true) is w.symbol))

        all_there : (c : ℕ) → IsReportedWrong alphabet terminator limit rules id edges u c → Contains symbols c
        all_there c r = by r.reason
          where
            by : IsFirstWrong alphabet terminator limit rules id u c
                ⊎ ((edges ≡ true) × IsEdge alphabet terminator limit rules id u c) → Contains symbols c
            by (inl first) = first_there c r.cannot first
            by (inr e) = edge_there c e.0 r.cannot e.1

        pub wrong_reported : AreReportedWrong alphabet terminator limit rules id edges u symbols
        wrong_reported = record { are = λ c. (only_reported c, all_there c); order = are.order Inner in_order }

-- if there is no room for a symbol, none is reported
pub none_reported_wrong : (alphabet : Alphabet) (terminator limit : ℕ) (rules : List Rule) (id : ℕ) (edges : Bool)
    (u symbols : List ℕ) → limit ≤ length u → symbols ≡ []
    → AreReportedWrong alphabet terminator limit rules id edges u symbols
none_reported_wrong alphabet terminator limit rules id edges u symbols full none =
    subst (λ v. AreReportedWrong alphabet terminator limit rules id edges u v) (sym none) (record {
      are = λ c. (
        λ h. absurd (let lt = h.1 in omega (arith, lt)),
        λ r. absurd (let room = r.cannot.room in omega (arith, room, full)),
      );
      order = record {
        symbols = λ c h. absurd (let lt = h.1 in omega (arith, lt));
        order = λ i j c d lt at_i. absurd (cc at_i);
      };
    })
