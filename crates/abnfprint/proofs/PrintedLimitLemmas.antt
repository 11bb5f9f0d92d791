-- The words of a canonical text keep to the limits.
-- Serves: print_abnf, is_abnf_read_back
use Rattle.std.proofs.Common.{ℕ, suc, ◌+◌, ◌≤◌, max, Bool, true, false, List, [], ◌∷◌, arith}
use Rattle.lexer.specs.declared.limits.TheConstants.{MAX_OPEN}
use Rattle.abnfread.specs.AbnfSays.{AreSmall, IsShallow}
use Rattle.abnfread.specs.AbnfWords.{Word}
use Rattle.abnfread.specs.Element.{Element, Elements, Text, Values, Range, Concat, Alt, Rep, Opt, Name, Prose, none}
use Rattle.abnfread.specs.Element.{more, Rule}
use Rattle.abnfprint.specs.CanonicalAbnf.{wraps}
use Rattle.abnfprint.specs.declared.position.Context.TheVariants.{Alternative, Member, Repeated}
use Rattle.abnfprint.specs.FormedAbnf.{IsFormed, AreFormed}
use Rattle.abnfprint.proofs.AbnfListedLemmas.{within, listed, listed_members, listed_alternatives, listed_more}
use Rattle.abnfprint.proofs.AbnfListedLemmas.{listed_rules}
use Rattle.abnfprint.proofs.FormedAbnfLemmas.{lift, nest, nest_all}
use Rattle.abnfprint.proofs.PrintedTableLemmas.{AreFitRules}
use Rattle.abnfprint.proofs.SameWordLemmas.{same_said, same_name, SameWords, same_none, same_more}

pub same-shallow : (m d : ℕ) {vs ws : List Word} → SameWords vs ws → IsShallow m d vs → IsShallow m d ws
same-shallow m d same_none h = h
same-shallow m d (same_more same_said k) h = (h.0, same-shallow m _ k h.1)
same-shallow m d (same_more same_name k) h = (h.0, same-shallow m _ k h.1)

pub same-small : {vs ws : List Word} → SameWords vs ws → AreSmall vs → AreSmall ws
same-small same_none h = h
same-small (same_more same_said k) h = (h.0, same-small k h.1)
same-small (same_more same_name k) h = (tt, same-small k h.1)

-- words before whatever stands after
record Keeps (n : ℕ) (f : List Word → List Word) : Type 0 where
  keeps : (m d : ℕ) (ws : List Word) → d + n ≤ m → IsShallow m d ws → IsShallow m d (f ws)

keeps-within : {n : ℕ} (f : Bool → List Word → List Word) (b g : Bool) → ((h : Bool) → Keeps n (f h))
    → Keeps (lift b n) (within b f g)
keeps-within f true g k = record {
  keeps = λ m d ws h s. (
    omega arith,
    (k false).keeps m (suc d) _ (omega arith) (omega arith, s),
  );
}
keeps-within f false g k = k g

keeps-both : {n l : ℕ} {f h : List Word → List Word} → Keeps n f → Keeps l h → Keeps (max n l) (λ ws. f (h ws))
keeps-both k i = record { keeps = λ m d ws h s. k.keeps m d _ (omega arith) (i.keeps m d ws (omega arith) s) }

mutual
  listed-keeps : (x : Element) (g : Bool) → Keeps (nest x) (listed x g)
  listed-keeps (Text c t) g = record { keeps = λ m d ws h s. (omega arith, s) }
  listed-keeps (Values vs) g = record { keeps = λ m d ws h s. (omega arith, s) }
  listed-keeps (Range a b) g = record { keeps = λ m d ws h s. (omega arith, s) }
  listed-keeps (Concat xs) g = members-keep xs g
  listed-keeps (Alt xs) g = alternatives-keep xs g
  listed-keeps (Rep a b x) g = let k = keeps-within (listed x) (wraps Repeated x) false (listed-keeps x) in
      record { keeps = λ m d ws h s. (omega arith, k.keeps m d ws h s) }
  listed-keeps (Opt x) g = let k = listed-keeps x false in
      record { keeps = λ m d ws h s. (omega arith, k.keeps m (suc d) _ (omega arith) (omega arith, s)) }
  listed-keeps (Name n) g = record { keeps = λ m d ws h s. (omega arith, s) }
  listed-keeps (Prose t) g = record { keeps = λ m d ws h s. (omega arith, s) }

  members-keep : (xs : Elements) (g : Bool) → Keeps (nest_all Member xs) (listed_members xs g)
  members-keep none g = record { keeps = λ m d ws h s. s }
  members-keep (more x xs) g = keeps-both (keeps-within (listed x) (wraps Member x) g (listed-keeps x))
      (members-keep xs true)

  alternatives-keep : (xs : Elements) (g : Bool) → Keeps (nest_all Alternative xs) (listed_alternatives xs g)
  alternatives-keep none g = record { keeps = λ m d ws h s. s }
  alternatives-keep (more x xs) g = keeps-both (keeps-within (listed x) (wraps Alternative x) g (listed-keeps x))
      (more-keep xs)

  more-keep : (xs : Elements) → Keeps (nest_all Alternative xs) (listed_more xs)
  more-keep none = record { keeps = λ m d ws h s. s }
  more-keep (more x xs) = let k = keeps-both (keeps-within (listed x) (wraps Alternative x) true (listed-keeps x))
      (more-keep xs) in record { keeps = λ m d ws h s. (omega arith, k.keeps m d ws h s) }

pub rules-shallow : (g : Bool) (rules : List Rule) → AreFitRules rules → IsShallow MAX_OPEN 0 (listed_rules g rules)
rules-shallow g [] h = (omega arith, omega arith)
rules-shallow g (rule ∷ rules) h = let b = h.1 in (
  omega arith,
  (
    omega arith,
    (listed-keeps rule.body true).keeps MAX_OPEN 0 _ (let l = b.low in
        omega arith) (rules-shallow true rules h.2),
  ),
)

-- words with small numbers before others of that sort
record Stays (f : List Word → List Word) : Type 0 where
  stays : (ws : List Word) → AreSmall ws → AreSmall (f ws)

stays-within : (f : Bool → List Word → List Word) (b g : Bool) → ((h : Bool) → Stays (f h)) → Stays (within b f g)
stays-within f true g k = record { stays = λ ws s. (tt, (k false).stays _ (tt, s)) }
stays-within f false g k = k g

mutual
  listed-stays : (x : Element) → IsFormed x → (g : Bool) → Stays (listed x g)
  listed-stays (Text c t) w g = record { stays = λ ws s. (tt, s) }
  listed-stays (Values vs) w g = record { stays = λ ws s. (w.1, s) }
  listed-stays (Range a b) w g = record { stays = λ ws s. (w, s) }
  listed-stays (Concat xs) w g = members-stay xs w.1 g
  listed-stays (Alt xs) w g = alternatives-stay xs w.1 g
  listed-stays (Rep a b x) w g = let k = stays-within (listed x) (wraps Repeated x) false (listed-stays x w.1) in
      record { stays = λ ws s. (w.0, k.stays ws s) }
  listed-stays (Opt x) w g = let k = listed-stays x w false in record { stays = λ ws s. (tt, k.stays _ (tt, s)) }
  listed-stays (Name n) w g = record { stays = λ ws s. (tt, s) }
  listed-stays (Prose t) w g = record { stays = λ ws s. (tt, s) }

  members-stay : (xs : Elements) → AreFormed xs → (g : Bool) → Stays (listed_members xs g)
  members-stay none w g = record { stays = λ ws s. s }
  members-stay (more x xs) w g = let k = stays-within (listed x) (wraps Member x) g (listed-stays x w.0) in let i =
      members-stay xs w.1 true in record { stays = λ ws s. k.stays _ (i.stays ws s) }

  alternatives-stay : (xs : Elements) → AreFormed xs → (g : Bool) → Stays (listed_alternatives xs g)
  alternatives-stay none w g = record { stays = λ ws s. s }
  alternatives-stay (more x xs) w g = let k = stays-within (listed x) (wraps Alternative x) g (listed-stays x w.0) in
      let i = more-stay xs w.1 in record { stays = λ ws s. k.stays _ (i.stays ws s) }

  more-stay : (xs : Elements) → AreFormed xs → Stays (listed_more xs)
  more-stay none w = record { stays = λ ws s. s }
  more-stay (more x xs) w = let k = stays-within (listed x) (wraps Alternative x) true (listed-stays x w.0) in let i =
      more-stay xs w.1 in record { stays = λ ws s. (tt, k.stays _ (i.stays ws s)) }

pub rules-small : (g : Bool) (rules : List Rule) → AreFitRules rules → AreSmall (listed_rules g rules)
rules-small g [] h = (tt, tt)
rules-small g (rule ∷ rules) h = let b = h.1 in (
  tt,
  (tt, (listed-stays rule.body b.formed true).stays _ (rules-small true rules h.2)),
)
