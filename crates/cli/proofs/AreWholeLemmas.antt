-- What holds of the matches of a tool's words: a limit in its range, and a grammar.
-- Serves: Program::follows
use Rattle.std.proofs.Common.{◌≡◌, ◌∙◌, ◌<◌, ◌≤◌, ◌&&◌, ap, subst, sym, refl, arith, true≢false, ℕ}
use Rattle.std.proofs.Common.{zero, suc, Bool, true, false, not, List, [], ◌∷◌, map, length, Option, Some, None}
use Rattle.std.proofs.Common.{is_some}
use Rattle.std.specs.Prelude.{codes, pos}
use Rattle.std.specs.List.{slice_index_or}
use Rattle.std.specs.Str.{bytes_eq}
use Rattle.std.specs.Str.Parse.{IsNumeral, digits_value, starts_with_minus, without_leading_plus}
use Rattle.std.proofs.lemmas.Int.{ints}
use Rattle.std.proofs.lemmas.List.{get_or-map, length-map}
use Rattle.clap.specs.Facts.{args_of, least_values, unwrap_or_range}
use Rattle.clap.specs.Texts.{items_of}
use Rattle.clap.specs.Built.{IsParsedFrom, IsPlain, IsPlainArg}
use Rattle.clap.specs.Lexer.{without_minus}
use Rattle.clap.specs.Matches.{first_value, found_of, one_text}
use Rattle.clap.specs.Simple.{App, Shape, app_of, shape_of}
use Rattle.clap.specs.Values.{IsSignedIn}
use Rattle.clap.specs.Walk.{Rule, Text, is_free_arg, is_simple_arg, rule_of}
use Rattle.clap.specs.declared.builder.arg.Arg.{Arg}
use Rattle.clap.specs.declared.builder.command.Command.{Command}
use Rattle.clap.specs.declared.builder.command.Command.TheViews.{out-Command}
use Rattle.clap.specs.declared.builder.value_parser.ValueParser.TheVariants as vp
use Rattle.clap.specs.declared.parser.matches.ArgMatches.{ArgMatches}
use Rattle.clap.proofs.CallerLemmas.{required_has_value}
use Rattle.clap.proofs.SimpleLemmas.{is_false, is_nil, plain_fields}
use Rattle.clap.proofs.WalkLemmas.{both}
use Rattle.cli.proofs.EntryLemmas.{IsAlone, default_reads, no_auto}
use Rattle.cli.specs.Asked.{AreWhole, IsLimitText}
use Rattle.cli.specs.Command.{Names, grammar_rule, limit_rule, tool_app}

is_none : {X : Type 0} (o : Option X) → not (is_some o) ≡ true → o ≡ None
is_none None e = refl
is_none (Some x) e = absurd (true≢false (sym e))

-- ---- tests of lists of rules

-- none has this id
abbrev pub lacks_id : List Rule → Text → Bool
lacks_id [] id = true
lacks_id (r ∷ rs) id = not (bytes_eq r.id id) && lacks_id rs id

-- none but the one at position k has this id
abbrev is_only : List Rule → ℕ → Text → Bool
is_only [] k id = true
is_only (r ∷ rs) zero id = lacks_id rs id
is_only (r ∷ rs) (suc k) id = not (bytes_eq r.id id) && is_only rs k id

-- each is simple, and has no rule on another
abbrev pub are_bare : List Rule → Bool
are_bare [] = true
are_bare (r ∷ rs) = (r.is_simple && r.is_free) && are_bare rs

lacks_at : (rs : List Rule) (id : Text) → lacks_id rs id ≡ true → (j : ℕ) (d : Rule) → j < length rs
    → bytes_eq (slice_index_or rs j d).id id ≡ true → ⊥
lacks_at [] id e j d lt is = absurd (omega arith)
lacks_at (r ∷ rs) id e zero d lt is = true≢false (sym is ∙ is_false _ (both _ _ e).0)
lacks_at (r ∷ rs) id e (suc j) d lt is = lacks_at rs id (both _ _ e).1 j d (omega arith) is

only_at : (rs : List Rule) (k : ℕ) (id : Text) → is_only rs k id ≡ true → (j : ℕ) (d : Rule) → j < length rs
    → bytes_eq (slice_index_or rs j d).id id ≡ true → j ≡ k
only_at [] k id e j d lt is = absurd (omega arith)
only_at (r ∷ rs) zero id e zero d lt is = refl
only_at (r ∷ rs) zero id e (suc j) d lt is = absurd (lacks_at rs id e j d (omega arith) is)
only_at (r ∷ rs) (suc k) id e zero d lt is = absurd (true≢false (sym is ∙ is_false _ (both _ _ e).0))
only_at (r ∷ rs) (suc k) id e (suc j) d lt is = ap suc (only_at rs k id (both _ _ e).1 j d (omega arith) is)

bare_rule : (rs : List Rule) → are_bare rs ≡ true → (k : ℕ) (d : Rule) → k < length rs
    → ((slice_index_or rs k d).is_simple ≡ true) × ((slice_index_or rs k d).is_free ≡ true)
bare_rule [] e k d lt = absurd (omega arith)
bare_rule (r ∷ rs) e zero d lt = both _ _ (both _ _ e).0
bare_rule (r ∷ rs) e (suc k) d lt = bare_rule rs (both _ _ e).1 k d (omega arith)

-- ---- one argument

-- an argument that uses none of the special settings
record IsBare (a : Arg) : Type 0 where
  plain : IsPlainArg a
  ifs : a.default_vals_ifs.items ≡ []
  delim : a.val_delim ≡ None

arg_bare : (a : Arg) → is_simple_arg a ≡ true → is_free_arg a ≡ true → IsBare a
arg_bare a simple free =
    let p = both _ _ simple in
    let q = both _ _ p.1 in
    let r = both _ _ q.1 in
    let s = both _ _ r.1 in
    let t = both _ _ free in
    let u = both _ _ t.1 in
    record {
      plain = (is_false _ t.0, is_nil _ u.0, is_nil _ p.0, is_nil _ r.0);
      ifs = is_nil _ q.0;
      delim = is_none _ s.0;
    }

-- ---- the command

-- what a command with these rules gives of itself
record IsCommand (c : Command) (rs : List Rule) : Type 0 where
  list : map rule_of (args_of c) ≡ rs
  bare_rules : are_bare rs ≡ true
  plain : IsPlain c
  globals : (out-Command c).has_globals ≡ false
  negates : (out-Command c).subcommand_negates_reqs ≡ false

rules_count : (xs : List Arg) (rs : List Rule) → map rule_of xs ≡ rs → length xs ≡ length rs
rules_count xs rs e = sym (length-map xs rule_of) ∙ ap length e

rule_at : (xs : List Arg) (rs : List Rule) → map rule_of xs ≡ rs → (k : ℕ) (d : Arg) → k < length rs
    → rule_of (slice_index_or xs k d) ≡ slice_index_or rs k (rule_of d)
rule_at xs rs e k d lt =
    let long : k < length xs = subst (λ n. k < n) (sym (rules_count xs rs e)) lt in
    sym (get_or-map rule_of xs k d (rule_of d) long) ∙ ap (λ qs. slice_index_or qs k (rule_of d)) e

bare_at : (xs : List Arg) (rs : List Rule) → map rule_of xs ≡ rs → are_bare rs ≡ true → (k : ℕ) (d : Arg)
    → k < length rs → IsBare (slice_index_or xs k d)
bare_at xs rs e all k d lt =
    let is = rule_at xs rs e k d lt in
    let both_true = bare_rule rs all k (rule_of d) lt in
    arg_bare (slice_index_or xs k d) (ap (λ (r : Rule). r.is_simple) is ∙ both_true.0)
    (ap (λ (r : Rule). r.is_free) is ∙ both_true.1)

is_command : (c : Command) (app : App) → app_of c ≡ app → app.top.is_plain ≡ true
    → app.top.subcommand_negates_reqs ≡ false → are_bare app.top.rules ≡ true → IsCommand c app.top.rules
is_command c app e plain negates all =
    let shape : shape_of c ≡ app.top = ap (λ (a : App). a.top) e in
    let fields = plain_fields c (ap (λ (s : Shape). s.is_plain) shape ∙ plain) in
    let list : map rule_of (args_of c) ≡ app.top.rules = ap (λ (s : Shape). s.rules) shape in
    record {
      list = list;
      bare_rules = all;
      plain = (
        λ k d lt.
            let few = subst (λ n. k < n) (rules_count (args_of c) app.top.rules list) lt in
            (bare_at (args_of c) app.top.rules list all k d few).plain,
        fields.groups,
      );
      globals = fields.globals;
      negates = ap (λ (s : Shape). s.subcommand_negates_reqs) shape ∙ negates;
    }

-- the rule r stands at position k, and no other has its id
record HasAt (rs : List Rule) (k : ℕ) (r : Rule) : Type 0 where
  within : k < length rs
  at : (d : Rule) → slice_index_or rs k d ≡ r
  only : is_only rs k r.id ≡ true

-- an id that building adds to no command
record IsOwn (id : Text) : Type 0 where
  named : id ≡ [] → ⊥
  help : bytes_eq id (codes "help") ≡ false
  version : bytes_eq id (codes "version") ≡ false

-- the argument of a rule
record IsArgOf (c : Command) (k : ℕ) (d : Arg) (r : Rule) : Type 0 where
  rule : rule_of (slice_index_or (args_of c) k d) ≡ r
  bare : IsBare (slice_index_or (args_of c) k d)
  id : (slice_index_or (args_of c) k d).id.now ≡ r.id
  alone : IsAlone c k d

arg_of : (c : Command) (rs : List Rule) → IsCommand c rs → (k : ℕ) (d : Arg) (r : Rule)
    → HasAt rs k r → IsOwn r.id → IsArgOf c k d r
arg_of c rs is k d r has own =
    let rule : rule_of (slice_index_or (args_of c) k d) ≡ r =
    rule_at (args_of c) rs is.list k d has.within ∙ has.at (rule_of d) in
    let own_id : (slice_index_or (args_of c) k d).id.now ≡ r.id = ap (λ (q : Rule). q.id) rule in
    let long = rules_count (args_of c) rs is.list in
    record {
      rule = rule;
      bare = bare_at (args_of c) rs is.list is.bare_rules k d has.within;
      id = own_id;
      alone = record {
        plain = is.plain;
        globals = is.globals;
        within = subst (λ n. k < n) (sym long) has.within;
        unique = λ j e low same.
            let few : j < length rs = subst (λ n. j < n) long low in
            let there : (slice_index_or (args_of c) j e).id.now ≡ (slice_index_or rs j (rule_of e)).id =
            ap (λ (q : Rule). q.id) (rule_at (args_of c) rs is.list j e few) in
            only_at rs k r.id has.only j (rule_of e) few
            (sym (ap (λ t. bytes_eq t r.id) there)
            ∙ (sym (ap (λ t. bytes_eq (slice_index_or (args_of c) j e).id.now t) own_id) ∙ same));
        named = λ e. own.named (sym own_id ∙ e);
        own = no_auto r.id own.help own.version (slice_index_or (args_of c) k d) own_id;
      };
    }

head_of : (xs : List Arg) → 0 < length xs → Arg
head_of [] lt = absurd (omega arith)
head_of (x ∷ xs) lt = x

-- ---- what is found

minus_free : (t : List ℕ) → starts_with_minus t ≡ false → without_minus t ≡ t
minus_free [] e = refl
minus_free (x ∷ xs) e = rw e refl

limit_text : (t : List ℕ) → IsSignedIn (pos 1) (pos 16777216) t → IsLimitText (without_minus t)
limit_text t passed = go (starts_with_minus t) refl
  where
    go : (b : Bool) → starts_with_minus t ≡ b → IsLimitText (without_minus t)
    go true minus =
        let low = rw minus at passed.2 in
        absurd (omega (arith, ints))
    go false minus =
        let numeral : IsNumeral 10 (without_leading_plus t) = rw minus at passed.0 in
        let low = rw minus at passed.2 in
        let high = rw minus at passed.3 in
        let from : 1 ≤ digits_value 10 (without_leading_plus t) = omega (arith, ints) in
        let to : digits_value 10 (without_leading_plus t) ≤ 16777216 = omega (arith, ints) in
        rw (minus_free t minus) (numeral, from, to)

-- ---- one argument of a program

limit_is : (c : Command) (rs : List Rule) → IsCommand c rs → (m : ArgMatches) → IsParsedFrom c m → (d : Arg) (k : ℕ)
    → HasAt rs k limit_rule
    → (text : Text) × (one_text (found_of m) (codes "limit") ≡ Some text) × IsLimitText text
limit_is c rs is m p d k has =
    let by = arg_of c rs is k d limit_rule has (record { named = λ n. cc; help = refl; version = refl }) in
    let a = slice_index_or (args_of c) k d in
    let many = sym (ap (λ (r : Rule). length r.defaults) by.rule) ∙ length-map (items_of a.default_vals) (λ s. s.now) in
    let defaults : 0 < length (items_of a.default_vals) = subst (λ n. 0 < n) many (omega arith) in
    let least : 1 ≤ least_values a = subst (λ o. 1 ≤ (unwrap_or_range o).start_inclusive)
    (sym (ap (λ (r : Rule). r.range) by.rule)) (omega arith) in
    let read = default_reads c m p k d by.alone (by.bare.ifs, defaults) (ap (λ (r : Rule). r.action) by.rule)
    by.bare.delim least
    (vp.Signed (pos 1) (pos 16777216)) (ap (λ (r : Rule). r.parser) by.rule) in (
      without_minus read.0.now,
      subst (λ w. one_text (found_of m) w ≡ Some (without_minus read.0.now)) by.id read.1,
      limit_text read.0.now read.2,
    )

grammar_is : (c : Command) (rs : List Rule) → IsCommand c rs → (m : ArgMatches) → IsParsedFrom c m → (d : Arg)
    (k : ℕ) → HasAt rs k grammar_rule
    → is_some (first_value (found_of m) (codes "grammar")) ≡ true
grammar_is c rs is m p d k has =
    let by = arg_of c rs is k d grammar_rule has (record { named = λ n. cc; help = refl; version = refl }) in
    let least : 1 ≤ least_values (slice_index_or (args_of c) k d) =
    subst (λ o. 1 ≤ (unwrap_or_range o).start_inclusive) (sym (ap (λ (r : Rule). r.range) by.rule)) (omega arith) in
    subst (λ w. is_some (first_value (found_of m) w) ≡ true) by.id
    (required_has_value c m p is.plain is.globals is.negates k d by.alone.within (ap (λ (r : Rule). r.required) by.rule)
    (ap (λ (r : Rule). r.action) by.rule) by.bare.delim least by.alone.unique by.alone.named by.alone.own)

-- some argument of a command that has some
first_arg : (c : Command) (rs : List Rule) → IsCommand c rs → 0 < length rs → Arg
first_arg c rs is some = head_of (args_of c) (subst (λ n. 0 < n) (sym (rules_count (args_of c) rs is.list)) some)

-- what holds of the matches of a tool's words
pub tool_whole : (modes : Names) (name : Text) (own : List Rule) → are_bare own ≡ true
    → lacks_id own (codes "limit") ≡ true → lacks_id own (codes "grammar") ≡ true
    → (c : Command) → app_of c ≡ tool_app modes name own → (m : ArgMatches) → IsParsedFrom c m → AreWhole (found_of m)
tool_whole modes name own bare limit grammar c e m p =
    let app = tool_app modes name own in
    let is = is_command c app e refl refl bare in
    let d = first_arg c app.top.rules is (omega arith) in
    record {
      limit = limit_is c app.top.rules is m p d 2 (record { within = omega arith; at = λ q. refl; only = limit });
      grammar = grammar_is c app.top.rules is m p d 5 (record { within = omega arith; at = λ q. refl; only = grammar });
    }
