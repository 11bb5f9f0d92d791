-- A transition of ids is one of stacks.
-- Serves: judge.
use Rattle.std.proofs.Common.{◌≡◌, ℕ, ◌+◌, Bool, List, [], ◌∷◌, refl, sym, ◌∙◌, ap, subst}
use Rattle.std.specs.Prelude.{slice_get, Option, Some, None}
use Rattle.flatgrammar.specs.Flat.{Node, Letters, Concat, Alt, Rep, Iterations, Opt, Name, Nothing, Dot, at, Set, Has}
use Rattle.flatgrammar.specs.Flat.{Reading, Reads, reads}
use Rattle.flatgrammar.specs.ItemClosures.{item_at, dot}
use Rattle.flatgrammar.specs.declared.tables.Tables as code_flat
use Rattle.flatgrammar.specs.declared.flat_node.Node as code_node
use Rattle.flatgrammar.specs.FlatViews.{node_of}
use Rattle.flatgrammar.specs.NodeSteps.{flat_of, read_at, IfSomeSet}
use Rattle.flatgrammar.specs.TableViews.{read_in, read_of, GiveTargets}
use Rattle.flatgrammar.proofs.CallOfLemmas.{get_unmap, get_map}
use Rattle.lazydfa.specs.declared.conts.Cont.{Cont}
use Rattle.flatgrammar.specs.Stacks.{IsDoneAt, Led, led, moves, LedToEnd, ReadBy, IsReading, reading, IsNext}
use Rattle.lazydfa.specs.Conts.{last_of, stack_of, EndsAlone, GoesOn, here, on, IsStackOf, ReadsOn, ReadsFrom}
use Rattle.lazydfa.specs.Conts.{TopReads, IsTransition}
use Rattle.lazydfa.proofs.MoveLemmas.{from_goes, to_goes, done_reported, reported_done}

read_reading : (node : Node) (k : ℕ) (set : Set) → read_at node k ≡ Some set → Reading node k set (k + 1)
read_reading (Letters sets) k set h = Reading.letter h
read_reading (Concat ms) k set h = absurd (cc h)
read_reading (Alt ms) k set h = absurd (cc h)
read_reading (Rep a b m) k set h = absurd (cc h)
read_reading (Iterations b m) k set h = absurd (cc h)
read_reading (Opt m) k set h = absurd (cc h)
read_reading (Name r) k set h = absurd (cc h)
read_reading Nothing k set h = absurd (cc h)

record SomeSet (o : Option Set) (c : ℕ) : Type 0 where
  set : Set
  is : o ≡ Some set
  has : Has set c

some_set : (o : Option Set) (c : ℕ) → IfSomeSet o c → SomeSet o c
some_set None c h = absurd h
some_set (Some set) c h = record { set = set; is = refl; has = h }

module _ (tables : code_flat.Tables) where
  reads_by : (n k : ℕ) (set : Set) (o : Option code_node.Node) → slice_get tables.nodes.items n ≡ o
      → read_in o k ≡ Some set → Reads (flat_of tables) (at n k) set (at n (k + 1))
  reads_by n k set None is h = absurd (cc h)
  reads_by n k set (Some cn) is h = reads (get_map node_of tables.nodes.items n is) (read_reading (node_of cn) k set h)

  reads_reported : {q r : Dot} {set : Set} (below : List Dot) (c : ℕ) → Reads (flat_of tables) q set r → Has set c
      → ReadsOn tables c (q ∷ below) (r ∷ below)
  reads_reported below c (reads {s = n} {k = k} {set = set} {node = node} is (Reading.letter there)) lies =
      let u = get_unmap node_of tables.nodes.items n node is in
      let some : read_of tables (item_at 0 (dot n k)) ≡ Some set =
      ap (λ v. read_in v k) u.at ∙ (ap (λ v. read_at v k) u.is ∙ there) in
      (subst (λ v. IfSomeSet v c) (sym some) lies, refl)

  pub top_reported : {a : List Dot} → IsReading (flat_of tables) a → TopReads tables a
  top_reported (reading {below = below} rd) = by rd
    where
      by : {q r : Dot} {set : Set} → Reads (flat_of tables) q set r → TopReads tables (q ∷ below)
      by (reads {s = n} {k = k} {set = set} {node = node} is (Reading.letter there)) = λ none.
          let u = get_unmap node_of tables.nodes.items n node is in
          let some : read_of tables (item_at 0 (dot n k)) ≡ Some set =
          ap (λ v. read_in v k) u.at ∙ (ap (λ v. read_at v k) u.is ∙ there) in
          cc (none, some)

  pub reported_top : (a : List Dot) → TopReads tables a → IsReading (flat_of tables) a
  reported_top [] h = absurd h
  reported_top (at n k ∷ below) h = by (read_of tables (item_at 0 (dot n k))) refl
    where
      by : (o : Option Set) → read_of tables (item_at 0 (dot n k)) ≡ o → IsReading (flat_of tables) (at n k ∷ below)
      by None is = absurd (h is)
      by (Some set) is = reading (reads_by n k set (slice_get tables.nodes.items n) refl is)

  module _ (targets : GiveTargets (flat_of tables) tables.targets.items) (c : ℕ) (first : List Cont)
      (tops : List ℕ) where
    abbrev pub Tops : List Dot → Type 0
    Tops = IsStackOf first tops

    pub to_read : {a : List Dot} → ReadsFrom tables c first tops a → ReadBy (flat_of tables) (last_of tables) Tops c a
    to_read {a} r = by (stack_of first r.id) refl r.reads
      where
        by : (s : List Dot) → s ≡ stack_of first r.id → ReadsOn tables c s a
            → ReadBy (flat_of tables) (last_of tables) Tops c a
        by [] is h = absurd h
        by (at n k ∷ below) is h =
            let some = some_set (read_of tables (item_at 0 (dot n k))) c h.0 in
            subst (λ v. ReadBy (flat_of tables) (last_of tables) Tops c v) (sym h.1)
            (ReadBy.reads (record { id = r.id; stands = r.stands; is = is })
            (reads_by n k some.set (slice_get tables.nodes.items n) refl some.is) some.has)

    pub from_read : {a : List Dot} → ReadBy (flat_of tables) (last_of tables) Tops c a
        → ReadsFrom tables c first tops a
    from_read (ReadBy.reads {r = r} {below = below} h rd lies) = record {
      id = h.id;
      stands = h.stands;
      reads = subst (λ v. ReadsOn tables c v (r ∷ below)) h.is (reads_reported below c rd lies);
    }

    to_after : {a : List Dot} → GoesOn tables (ReadsFrom tables c first tops) a
        → Led (flat_of tables) (last_of tables) (ReadBy (flat_of tables) (last_of tables) Tops c) a
    to_after (here h) = led (to_read h)
    to_after (on {stack = stack} h g) = moves (to_after h) (from_goes tables targets stack g)

    from_after : {a : List Dot} → Led (flat_of tables) (last_of tables)
        (ReadBy (flat_of tables) (last_of tables) Tops c) a → GoesOn tables (ReadsFrom tables c first tops) a
    from_after (led h) = here (from_read h)
    from_after (moves h m) = on (from_after h) (to_goes tables targets m)

    pub transition_next : (conts : List Cont) (next : List ℕ) (ended : Bool)
        → IsTransition tables c first tops conts next ended
        → IsNext (flat_of tables) (last_of tables) Tops c (IsStackOf conts next) ended
    transition_next conts next ended t = record {
      tops_are = λ top. (
        λ s. let h = (t.tops_are top).0 s in (reported_top top h.0, to_after h.1),
        λ h. (t.tops_are top).1 (top_reported h.0, from_after h.1),
      );
      ended_is = (
        λ h. let e = t.ended_is.0 h in to_end e.0 e.1 e.2,
        λ h. t.ended_is.1
            (from_end h.position h.led_to h.done),
      );
    }
      where
        to_end : (stack : List Dot) → GoesOn tables (ReadsFrom tables c first tops) stack → EndsAlone tables stack
            → LedToEnd (flat_of tables) (last_of tables) (ReadBy (flat_of tables) (last_of tables) Tops c)
        to_end [] h e = absurd e
        to_end (at n k ∷ below) h e = record {
          position = at n k;
          led_to = to_after (subst (λ v. GoesOn tables (ReadsFrom tables c first tops) (at n k ∷ v)) e.1 h);
          done = reported_done tables targets n k (slice_get tables.nodes.items n) refl e.0;
        }

        from_end : (p : Dot) → Led (flat_of tables) (last_of tables)
            (ReadBy (flat_of tables) (last_of tables) Tops c) (p ∷ []) → IsDoneAt (flat_of tables) p
            → (stack : List Dot) × GoesOn tables (ReadsFrom tables c first tops) stack × EndsAlone tables stack
        from_end (at n k) h d = (at n k ∷ [], from_after h, (done_reported tables targets d, refl))
