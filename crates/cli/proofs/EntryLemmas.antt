-- What a parse that succeeds found of one argument of a command that excludes nothing.
-- Serves: Program::follows
use Rattle.std.proofs.Common.{◌≡◌, ◌∙◌, ◌<◌, ◌≤◌, ap, subst, sym, refl, inl, inr, arith, true≢false, ℕ, zero, suc}
use Rattle.std.proofs.Common.{Bool, true, false, List, [], ◌∷◌, length, Option, Some, None, is_some}
use Rattle.std.specs.Prelude.{codes, find, option_map}
use Rattle.std.specs.List.{All, slice_index_or}
use Rattle.std.specs.Str.{bytes_eq}
use Rattle.std.specs.Borrow.{Bor}
use Rattle.std.proofs.lemmas.Slice.Eq.{bytes_eq-Decides}
use Rattle.std.proofs.lemmas.List.Elements.{All-get_or}
use Rattle.clap.specs.Facts.{Entry, EntryPasses, HasReading, PassesArg, WantsDefault, args_of, groups_of, least_values}
use Rattle.clap.specs.Facts.{parser_of, parser_of_value}
use Rattle.clap.specs.Built.{IsAuto, IsParsedFrom, IsPlain}
use Rattle.clap.specs.Matches.{found_of, matched_of, one_text}
use Rattle.clap.specs.Values.{Accepts, read_as, reading_of}
use Rattle.clap.specs.declared.builder.action.ArgAction.TheVariants.{Count, Set}
use Rattle.clap.specs.declared.builder.arg.Arg.{Arg}
use Rattle.clap.specs.declared.builder.command.Command.{Command}
use Rattle.clap.specs.declared.builder.command.Command.TheViews.{out-Command}
use Rattle.clap.specs.declared.builder.value_parser.Reading.{Reading}
use Rattle.clap.specs.declared.builder.value_parser.ValueParser.{ValueParser}
use Rattle.clap.specs.declared.parser.matches.ArgMatches.{ArgMatches}
use Rattle.clap.specs.declared.parser.matches.Found.{Found}
use Rattle.clap.specs.declared.parser.matches.MatchedArg.{MatchedArg}
use Rattle.clap.proofs.CallerLemmas.{default_present, entry_by_id, same_rules_by_id}

-- the command c excludes nothing, and its argument at position k is the only one with its id
pub record IsAlone (c : Command) (k : ℕ) (d : Arg) : Type 0 where
  pub plain : IsPlain c
  pub globals : (out-Command c).has_globals ≡ false
  pub within : k < length (args_of c)
  pub unique : (j : ℕ) (e : Arg) → j < length (args_of c)
      → bytes_eq (slice_index_or (args_of c) j e).id.now (slice_index_or (args_of c) k d).id.now ≡ true → j ≡ k
  pub named : (slice_index_or (args_of c) k d).id.now ≡ [] → ⊥
  pub own : IsAuto (slice_index_or (args_of c) k d) → ⊥

-- each value passed the parser of the argument a, and is read as the parser q says
pub record PassesAs (a : Arg) (q : ValueParser) (x : MatchedArg) : Type 0 where
  pub values : All (λ v. Accepts a.ignore_case q v.now) x.vals.items
  pub reading : x.reading ≡ reading_of q

no_group : (c : Command) (e : Entry) (id : List ℕ) → groups_of c ≡ [] → (id ≡ [] → ⊥) → e.0.now ≡ id → EntryPasses c e
    → e.1.is_group ≡ true → ⊥
no_group c e id none named key pass g = elim (pass.3 g) [
  | inl empty ↦ named (sym key ∙ empty)
  | inr lots ↦
      let bad : 0 < 0 = rw none at lots in
      absurd (omega arith)
]

-- an entry of the argument holds what the argument's parser takes
pub passes_as : (c : Command) (m : ArgMatches) (p : IsParsedFrom c m) (k : ℕ) (d : Arg) → IsAlone c k d
    → (q : ValueParser) → (slice_index_or (args_of c) k d).value_parser ≡ Some q
    → (x : MatchedArg) → matched_of (found_of m) (slice_index_or (args_of c) k d).id.now ≡ Some x
    → PassesAs (slice_index_or (args_of c) k d) q x
passes_as c m p k d alone q parser x found =
    let a = slice_index_or (args_of c) k d in
    let parsed = p.parsed (p.from.globals ∙ alone.globals) in
    let got = entry_by_id (EntryPasses p.built) (found_of m).entries.items a.id.now x parsed.values found in
    let key : got.0.0.now ≡ a.id.now = (bytes_eq-Decides got.0.0.now a.id.now).0 got.2 in
    let same : got.0.1 ≡ x = got.1 in
    let alone_group = no_group p.built got.0 a.id.now (p.from.plain alone.plain).1 alone.named key got.3 in
    record {
      values = elim got.3.0 [
        | inl g ↦ absurd (alone_group g)
        | inr vals ↦ λ i v lt. value (slice_index_or x.vals.items i v)
            (subst (λ (w : List ℕ). PassesArg p.built w (slice_index_or x.vals.items i v).now) key
            ((subst (λ (y : MatchedArg). All (λ u. PassesArg p.built got.0.0.now u.now) y.vals.items) same vals) i v
            lt))
      ];
      reading = elim got.3.4 [
        | inl g ↦ absurd (alone_group g)
        | inr how ↦ ap (λ (y : MatchedArg). y.reading) (sym same)
            ∙ read got.0.1.reading (subst (λ (w : List ℕ). HasReading p.built w got.0.1.reading) key how)
      ];
    }
  where
    value : (v : Bor (List ℕ)) → PassesArg p.built (slice_index_or (args_of c) k d).id.now v.now
        → Accepts (slice_index_or (args_of c) k d).ignore_case q v.now
    value v pass =
        let s = same_rules_by_id c m p k d alone.within alone.unique alone.own pass.0 pass.1 pass.2 pass.3 pass.4.0 in
        let is_q : parser_of pass.1 ≡ q = ap parser_of_value (s.parser q parser) in
        let as_q : Accepts pass.1.ignore_case q v.now = subst (λ (w : ValueParser). Accepts pass.1.ignore_case w v.now)
        is_q pass.4.1 in
        subst (λ (b : Bool). Accepts b q v.now) s.ignore_case as_q

    read : (r : Reading) → HasReading p.built (slice_index_or (args_of c) k d).id.now r → r ≡ reading_of q
    read r any =
        let s = same_rules_by_id c m p k d alone.within alone.unique alone.own any.0 any.1 any.2 any.3 any.4.0 in
        let is_q : parser_of any.1 ≡ q = ap parser_of_value (s.parser q parser) in
        sym any.4.1 ∙ ap reading_of is_q

-- an entry of an argument that is set by one value has a value
pub is_filled : (c : Command) (m : ArgMatches) (p : IsParsedFrom c m) (k : ℕ) (d : Arg) → IsAlone c k d
    → (slice_index_or (args_of c) k d).action ≡ Some Set → (slice_index_or (args_of c) k d).val_delim ≡ None
    → 1 ≤ least_values (slice_index_or (args_of c) k d)
    → (x : MatchedArg) → matched_of (found_of m) (slice_index_or (args_of c) k d).id.now ≡ Some x
    → 0 < length x.vals.items
is_filled c m p k d alone set delim least x found =
    let a = slice_index_or (args_of c) k d in
    let parsed = p.parsed (p.from.globals ∙ alone.globals) in
    let got = entry_by_id (EntryPasses p.built) (found_of m).entries.items a.id.now x parsed.values found in
    let key : got.0.0.now ≡ a.id.now = (bytes_eq-Decides got.0.0.now a.id.now).0 got.2 in
    let same : got.0.1 ≡ x = got.1 in
    elim got.3.1 [
      | inl h ↦ absurd (no_group p.built got.0 a.id.now (p.from.plain alone.plain).1 alone.named key got.3 h.0)
      | inr (inl v) ↦ subst (λ (y : MatchedArg). 0 < length y.vals.items) same v
      | inr (inr (inl h)) ↦
          let any = h.1 in
          let s = same_rules_by_id c m p k d alone.within alone.unique alone.own any.0 any.1 any.2 any.3
          (rw key at any.4.0) in
          let is_set : any.1.action ≡ Some Set = s.action Set set in
          let bad : Set ≡ Count = rw is_set at any.4.1 in
          cc
      | inr (inr (inr h)) ↦
          let s = same_rules_by_id c m p k d alone.within alone.unique alone.own h.0 h.1 h.2 h.3 (rw key at h.4.0) in
          elim h.4.1 [
            | inl none ↦
                let one = s.least set least in
                absurd (omega arith)
            | inr has ↦
                let bad : false ≡ true = rw (s.val_delim, delim) at has in
                cc
          ]
    ]

has_entry : (xs : List Entry) (id : List ℕ) (i : ℕ) → i < length xs
    → ((e : Entry) → bytes_eq (slice_index_or xs i e).0.now id ≡ true)
    → is_some (option_map (λ e. e.1) (find (λ e. bytes_eq e.0.now id) xs)) ≡ true
has_entry [] id i lt h = absurd (omega arith)
has_entry (x ∷ xs) id zero lt h = rw (h x) refl
has_entry (x ∷ xs) id (suc i) lt h = go (bytes_eq x.0.now id) refl (has_entry xs id i (omega arith) h)
  where
    go : (t : Bool) → bytes_eq x.0.now id ≡ t → is_some (option_map (λ e. e.1) (find (λ e. bytes_eq e.0.now id) xs))
        ≡ true
        → is_some (option_map (λ e. e.1) (find (λ e. bytes_eq e.0.now id) (x ∷ xs))) ≡ true
    go true e rest = rw e refl
    go false e rest = rw e rest

first_reads : (f : Found) (id : List ℕ) (x : MatchedArg) (how : Reading) (P : Bor (List ℕ) → Type 0)
    → matched_of f id ≡ Some x → x.reading ≡ how
    → All P x.vals.items → 0 < length x.vals.items → (v : Bor (List ℕ)) × (one_text f id ≡ Some (read_as how v.now))
    × P v
first_reads f id x how P found is all some = go x.vals.items refl all some
  where
    go : (vs : List (Bor (List ℕ))) → x.vals.items ≡ vs → All P vs → 0 < length vs → (v : Bor (List ℕ))
        × (one_text f id ≡ Some (read_as how v.now)) × P v
    go [] e passes lt = absurd (omega arith)
    go (v ∷ vs) e passes lt = (v, rw (found, e, is) refl, All-get_or P (v ∷ vs) 0 v (omega arith) passes)

-- an argument with a default, set by one value, has a text that its parser takes
pub default_reads : (c : Command) (m : ArgMatches) (p : IsParsedFrom c m) (k : ℕ) (d : Arg) → IsAlone c k d
    → WantsDefault (slice_index_or (args_of c) k d) → (slice_index_or (args_of c) k d).action ≡ Some Set
    → (slice_index_or (args_of c) k d).val_delim ≡ None → 1 ≤ least_values (slice_index_or (args_of c) k d)
    → (q : ValueParser) → (slice_index_or (args_of c) k d).value_parser ≡ Some q
    → (v : Bor (List ℕ)) × (one_text (found_of m) (slice_index_or (args_of c) k d).id.now
    ≡ Some (read_as (reading_of q) v.now))
    × Accepts (slice_index_or (args_of c) k d).ignore_case q v.now
default_reads c m p k d alone wants set delim least q parser =
    let id = (slice_index_or (args_of c) k d).id.now in
    let there = default_present c m p alone.globals k d alone.within wants in
    go (matched_of (found_of m) id) refl (has_entry (found_of m).entries.items id there.0 there.1 there.2)
  where
    go : (o : Option MatchedArg) → matched_of (found_of m) (slice_index_or (args_of c) k d).id.now ≡ o
        → is_some (matched_of (found_of m) (slice_index_or (args_of c) k d).id.now) ≡ true
        → (v : Bor (List ℕ)) × (one_text (found_of m) (slice_index_or (args_of c) k d).id.now
        ≡ Some (read_as (reading_of q) v.now))
        × Accepts (slice_index_or (args_of c) k d).ignore_case q v.now
    go None e some =
        let bad : false ≡ true = rw e at some in
        cc
    go (Some x) e some =
        let taken = passes_as c m p k d alone q parser x e in
        first_reads (found_of m) _ x (reading_of q) _ e taken.reading taken.values
        (is_filled c m p k d alone set delim least x e)

-- an argument of this id is not one that building adds
pub no_auto : (id : List ℕ) → bytes_eq id (codes "help") ≡ false → bytes_eq id (codes "version") ≡ false
    → (a : Arg) → a.id.now ≡ id → IsAuto a → ⊥
no_auto id help version a is (inl e) =
    true≢false (sym ((bytes_eq-Decides id (codes "help")).1 (sym is ∙ e)) ∙ help)
no_auto id help version a is (inr e) =
    true≢false (sym ((bytes_eq-Decides id (codes "version")).1 (sym is ∙ e)) ∙ version)
