-- Where the canonical text puts parentheses round a pattern.
use Prim.Native.Char.{code}
use Rattle.std.specs.Prelude.{ℕ, ◌||◌, nat_lt, Bool, true, false, List, [], ◌∷◌, ◌++◌}
use Rattle.pegprint.specs.declared.position.Context.{Context}
use Rattle.pegprint.specs.declared.position.Context.TheVariants.{Alternative, Member, OfPrefix, OfAmp, OfSuffix}
use Rattle.pegread.specs.Pattern.{Pattern, Seq, Choice, Star, Plus, Opt, And, Not, Act}

-- how tightly a pattern holds together
abbrev pub rank : Pattern → ℕ
rank (Choice es) = 0
rank (Seq es) = 1
rank (And e) = 2
rank (Not e) = 2
rank (Star e) = 3
rank (Plus e) = 3
rank (Opt e) = 3
rank _ = 4

-- how tightly it must hold together to stand there without parentheses
abbrev pub least : Context → ℕ
least Alternative = 1
least Member = 2
least OfPrefix = 3
least OfAmp = 3
least OfSuffix = 4

abbrev pub is_act : Pattern → Bool
is_act (Act t) = true
is_act _ = false

-- an action, or a repetition or option of one: right after an `&` its text would begin with an action, and be a
-- predicate in C
abbrev pub leads_with_act : Pattern → Bool
leads_with_act (Star e) = is_act e
leads_with_act (Plus e) = is_act e
leads_with_act (Opt e) = is_act e
leads_with_act e = is_act e

-- whether parentheses stand round the pattern there
abbrev pub wraps : Context → Pattern → Bool
wraps OfAmp e = nat_lt (rank e) (least OfAmp) || leads_with_act e
wraps p e = nat_lt (rank e) (least p)

-- a text, in parentheses or not
abbrev pub around : Bool → List ℕ → List ℕ
around true s = code "(" ∷ (s ++ code ")" ∷ [])
around false s = s
