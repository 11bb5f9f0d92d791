-- The reported phrases mean each kind that can stand.
-- Serves: nothing_left_out
use Rattle.std.proofs.Common.{◌≡◌, ℕ, true, false, Option, Some, None, List, [], ◌++◌, length, take, refl, sym}
use Rattle.std.proofs.Common.{◌∙◌, ap, Bool, is_some, nat_lt}
use Rattle.std.proofs.Math.Seq.{take-append_seam}
use Rattle.std.proofs.lemmas.List.Sums.{AllPass-from_list_all}
use Rattle.diagnostics.specs.ReportedPhrases.{AreAllReported, ReportAll}
use Rattle.diagnostics.proofs.PhraseLemmas.{reported-same}
use Rattle.diagnostics.proofs.ReportAllLemmas.{IsMeant, means-at, report-all, report-same}
use Rattle.pegread.specs.declared.kind.Kind.{Kind}
use Rattle.pegread.specs.declared.kind.Kind.TheVariants as kinds
use Rattle.pegread.specs.Machine.{Config, start, run}
use Rattle.pegread.specs.Reading.{IsHopeless}
use Rattle.pegread.specs.Spelling.{Begins}
use Rattle.pegread.specs.Tokens.{Tok}
use Rattle.pegread.specs.Words.{Word}
use Rattle.pegread.proofs.GrammarViabilityLemmas.{stops-begins}
use Rattle.pegprint.specs.declared.faults.stand.Stand.{Stand}
use Rattle.pegprint.specs.declared.faults.stand.Stand.TheVariants as stands
use Rattle.pegprint.specs.PegExpected.{CanStand, phrases}
use Rattle.pegprint.specs.PegStands.{allows, position_at, position_of}
use Rattle.pegprint.proofs.CanStandLemmas.{can-stand, cannot-stand, goes-bad}

-- the position of a kind among those that begin an item
abbrev item_position : Kind → ℕ
item_position kinds.Literal = 1
item_position kinds.Class = 2
item_position kinds.Dot = 3
item_position kinds.LParen = 4
item_position kinds.Begin = 5
item_position kinds.EndCap = 6
item_position kinds.Action = 7
item_position _ = 0

-- where a token of the kind can stand
abbrev MeantAt : Stand → ℕ → Kind → Type 0
MeantAt s n k = IsMeant (allows (position_at s n)) phrases k

kind-meant : (s : Stand) (n : ℕ) (k : Kind) → allows (position_at s n) k ≡ true → MeantAt s n k
kind-meant s n kinds.Arrow e = means-at _ phrases kinds.Arrow 1 0 refl refl (rw e refl) refl refl
kind-meant s n kinds.Amp e = means-at _ phrases kinds.Amp 4 0 refl refl (rw e refl) refl refl
kind-meant s n kinds.Bang e = means-at _ phrases kinds.Bang 5 0 refl refl (rw e refl) refl refl
kind-meant s n kinds.Quest e = means-at _ phrases kinds.Quest 6 0 refl refl (rw e refl) refl refl
kind-meant s n kinds.Star e = means-at _ phrases kinds.Star 7 0 refl refl (rw e refl) refl refl
kind-meant s n kinds.Plus e = means-at _ phrases kinds.Plus 8 0 refl refl (rw e refl) refl refl
kind-meant s n kinds.Slash e = means-at _ phrases kinds.Slash 9 0 refl refl (rw e refl) refl refl
kind-meant s n kinds.RParen e = means-at _ phrases kinds.RParen 10 0 refl refl (rw e refl) refl refl
kind-meant s n kinds.End e = means-at _ phrases kinds.End 11 0 refl refl (rw e refl) refl refl
kind-meant s n kinds.Bad e = let no : true ≡ false = sym e ∙ ap is_some (goes-bad (position_at s n)) in cc
kind-meant stands.Start n kinds.Ident e = means-at _ phrases kinds.Ident 0 0 refl refl refl refl refl
kind-meant stands.Start n k e = let no : false ≡ true = e in cc
kind-meant stands.Named n k e = let no : false ≡ true = e in cc
kind-meant stands.And n kinds.Action e = let no : false ≡ true = e in cc
kind-meant stands.And n k e = means-at _ phrases k 3 (item_position k) refl refl refl refl refl
kind-meant stands.Done n k e = let no : false ≡ true = e in cc
kind-meant s n k e = means-at _ phrases k 2 (item_position k) refl refl refl refl refl

-- the machine takes words that begin a grammar
words-taken : (ws : List Word) (x : Option Config) → run start ws ≡ x → Begins ws → (c : Config)
    × (run start ws ≡ Some c)
words-taken ws None e begins = absurd (stops-begins ws e begins)
words-taken ws (Some c) e begins = (c, e)

can-take : (i : ℕ) (all : List Tok) (k : Kind) → CanStand (take i all ++ []) (length (take i all)) k → CanStand all i k
can-take i all k s = record {
  token = s.token;
  kind = s.kind;
  viable = let v = s.viable in rw (take-append_seam (take i all) []) at v;
}

take-can : (i : ℕ) (all : List Tok) (k : Kind) → CanStand all i k → CanStand (take i all ++ []) (length (take i all)) k
take-can i all k s =
    record { token = s.token; kind = s.kind; viable = rw (take-append_seam (take i all) []) s.viable }

pub kinds-reported : (all : List Tok) (i : ℕ) (reported : List (List ℕ)) → IsHopeless all i
    → AreAllReported (CanStand all i) phrases reported → ReportAll (CanStand all i) phrases reported
kinds-reported all i reported h t =
    let v = h.before in
    let c = words-taken v.0 (run start v.0) refl v.2 in
    let onto : (k : Kind) → allows (position_of c.0) k ≡ true → CanStand all i k =
    λ k e. can-take i all k (can-stand c.0 v.1 c.1 h.within (position_of c.0) refl k e []) in
    let back : (k : Kind) → CanStand all i k → allows (position_of c.0) k ≡ true =
    λ k s. by-test k (allows (position_of c.0) k) refl
    (λ e. cannot-stand c.0 v.1 c.1 h.within (position_of c.0) refl k e []
    (take-can i all k s)) in
    report-same onto back (report-all (allows (position_of c.0)) phrases
    (AllPass-from_list_all (λ p. nat_lt 0 (length p.kinds)) phrases refl)
    (kind-meant (position_of c.0).stand (position_of c.0).depth) (reported-same back onto t))
  where
    by-test : {A : Type 0} (k : A) (b : Bool) {x : Bool} → x ≡ b → (x ≡ false → ⊥) → x ≡ true
    by-test k true e f = e
    by-test k false e f = absurd (f e)
