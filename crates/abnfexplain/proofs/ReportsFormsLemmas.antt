-- The reported phrases mean each form of token that can stand.
-- Serves: nothing_left_out_of_abnf
use Rattle.std.proofs.Common.{◌≡◌, ℕ, ◌+◌, true, false, Bool, Option, Some, None, List, [], ◌++◌, length, take}
use Rattle.std.proofs.Common.{refl, nat_lt}
use Rattle.std.proofs.Math.Seq.{take-append_seam}
use Rattle.std.proofs.lemmas.List.Sums.{AllPass-from_list_all}
use Rattle.diagnostics.specs.ReportedPhrases.{AreAllReported, ReportAll}
use Rattle.diagnostics.proofs.PhraseLemmas.{reported-same}
use Rattle.diagnostics.proofs.ReportAllLemmas.{IsMeant, means-at, report-all, report-same}
use Rattle.abnfread.specs.declared.kind.AbnfKind.{AbnfKind}
use Rattle.abnfread.specs.declared.kind.AbnfKind.TheVariants as kinds
use Rattle.abnfread.specs.AbnfMachine.{Config, start, run}
use Rattle.abnfread.specs.AbnfSays.{IsHopeless}
use Rattle.abnfread.specs.AbnfSpelling.{Begins}
use Rattle.abnfread.specs.AbnfWords.{Word}
use Rattle.abnfread.specs.MarkedTokens.{Marked}
use Rattle.abnfread.proofs.AbnfViabilityLemmas.{stops-begins}
use Rattle.abnfexplain.specs.declared.abnf_stand.OpenBracket.{OpenBracket}
use Rattle.abnfexplain.specs.declared.abnf_stand.OpenBracket.TheVariants.{Paren, Brack}
use Rattle.abnfexplain.specs.declared.abnf_stand.Form.{Form}
use Rattle.abnfexplain.specs.declared.abnf_stand.Stand.{Stand}
use Rattle.abnfexplain.specs.declared.abnf_stand.Stand.TheVariants as stands
use Rattle.abnfexplain.specs.AbnfExpected.{CanStand, phrases, later}
use Rattle.abnfexplain.specs.AbnfStands.{allows, allows_marked, allows_first, allows_read, defines, is_item, is_inner}
use Rattle.abnfexplain.specs.AbnfStands.{is_name, innermost}
use Rattle.abnfexplain.proofs.AbnfStandLemmas.{stand_of, open_of}
use Rattle.abnfexplain.proofs.AbnfCanStandLemmas.{can-stand, cannot-stand}

-- the position of a kind among those that begin a repetition
abbrev item_position : AbnfKind → ℕ
item_position kinds.Text = 1
item_position kinds.Num = 2
item_position kinds.Prose = 3
item_position kinds.LParen = 4
item_position kinds.LBrack = 5
item_position kinds.Repeat = 6
item_position _ = 0

abbrev MeantAt : Stand → Option OpenBracket → Form → Type 0
MeantAt s top form = IsMeant (allows s top) phrases form

abbrev first_name : Bool → Form
first_name g = record { kind = kinds.Name; gap = g; first = true }

-- the first token of a line that begins a rule
name-meant : (s : Stand) (top : Option OpenBracket) (g : Bool) → allows_first s top kinds.Name ≡ true
    → MeantAt s top (first_name g)
name-meant stands.Start top true e = means-at _ phrases (first_name true) 8 0 refl refl refl refl refl
name-meant stands.Start top false e = means-at _ phrases (first_name false) 8 1 refl refl refl refl refl
name-meant stands.Read None true e = means-at _ phrases (first_name true) 8 0 refl refl refl refl refl
name-meant stands.Read None false e = means-at _ phrases (first_name false) 8 1 refl refl refl refl refl
name-meant s top g e = let no : false ≡ true = e in cc

is-name : (s : Stand) (top : Option OpenBracket) (k : AbnfKind) → allows_first s top k ≡ true → is_name k ≡ true
is-name stands.Start top k e = e
is-name stands.Read None k e = e
is-name s top k e = let no : false ≡ true = e in cc

first-meant : (s : Stand) (top : Option OpenBracket) (k : AbnfKind) (g : Bool) → allows_first s top k ≡ true
    → MeantAt s top (record { kind = k; gap = g; first = true })
first-meant s top kinds.Name g e = name-meant s top g e
first-meant s top k g e = let no : false ≡ true = is-name s top k e in cc

named-meant : (top : Option OpenBracket) (k : AbnfKind) (g : Bool) → defines k ≡ true
    → MeantAt stands.Named top (later g k)
named-meant top kinds.Is true e = means-at _ phrases (later true kinds.Is) 3 0 refl refl refl refl refl
named-meant top kinds.Is false e = means-at _ phrases (later false kinds.Is) 3 1 refl refl refl refl refl
named-meant top kinds.Adds true e = means-at _ phrases (later true kinds.Adds) 4 0 refl refl refl refl refl
named-meant top kinds.Adds false e = means-at _ phrases (later false kinds.Adds) 4 1 refl refl refl refl refl
named-meant top k g e = let no : false ≡ true = e in cc

fresh-meant : (top : Option OpenBracket) (k : AbnfKind) (g : Bool) → is_item k ≡ true
    → MeantAt stands.Fresh top (later g k)
fresh-meant top kinds.Is g e = let no : false ≡ true = e in cc
fresh-meant top kinds.Adds g e = let no : false ≡ true = e in cc
fresh-meant top kinds.Slash g e = let no : false ≡ true = e in cc
fresh-meant top kinds.RParen g e = let no : false ≡ true = e in cc
fresh-meant top kinds.RBrack g e = let no : false ≡ true = e in cc
fresh-meant top kinds.Bad g e = let no : false ≡ true = e in cc
fresh-meant top kinds.End g e = let no : false ≡ true = e in cc
fresh-meant top k true e = means-at _ phrases (later true k) 0 (item_position k) refl refl refl refl refl
fresh-meant top k false e = means-at _ phrases (later false k) 0 (7 + item_position k) refl refl refl refl refl

awaits-meant : (top : Option OpenBracket) (k : AbnfKind) → is_inner k ≡ true → MeantAt stands.Awaits top (later false k)
awaits-meant top kinds.Is e = let no : false ≡ true = e in cc
awaits-meant top kinds.Adds e = let no : false ≡ true = e in cc
awaits-meant top kinds.Slash e = let no : false ≡ true = e in cc
awaits-meant top kinds.RParen e = let no : false ≡ true = e in cc
awaits-meant top kinds.RBrack e = let no : false ≡ true = e in cc
awaits-meant top kinds.Repeat e = let no : false ≡ true = e in cc
awaits-meant top kinds.Bad e = let no : false ≡ true = e in cc
awaits-meant top kinds.End e = let no : false ≡ true = e in cc
awaits-meant top k e = means-at _ phrases (later false k) 2 (item_position k) refl refl refl refl refl

read-meant : (top : Option OpenBracket) (k : AbnfKind) (g : Bool) → allows_read top k g ≡ true
    → MeantAt stands.Read top (later g k)
read-meant top kinds.Slash true e = means-at _ phrases (later true kinds.Slash) 5 0 refl refl refl refl refl
read-meant top kinds.Slash false e = means-at _ phrases (later false kinds.Slash) 5 1 refl refl refl refl refl
read-meant (Some Paren) kinds.RParen true e = means-at _ phrases (later true kinds.RParen) 6 0 refl refl refl refl refl
read-meant (Some Paren) kinds.RParen false e =
    means-at _ phrases (later false kinds.RParen) 6 1 refl refl refl refl refl
read-meant (Some Brack) kinds.RParen g e = let no : false ≡ true = e in cc
read-meant None kinds.RParen g e = let no : false ≡ true = e in cc
read-meant (Some Brack) kinds.RBrack true e = means-at _ phrases (later true kinds.RBrack) 7 0 refl refl refl refl refl
read-meant (Some Brack) kinds.RBrack false e =
    means-at _ phrases (later false kinds.RBrack) 7 1 refl refl refl refl refl
read-meant (Some Paren) kinds.RBrack g e = let no : false ≡ true = e in cc
read-meant None kinds.RBrack g e = let no : false ≡ true = e in cc
read-meant None kinds.End true e = means-at _ phrases (later true kinds.End) 9 0 refl refl refl refl refl
read-meant None kinds.End false e = means-at _ phrases (later false kinds.End) 9 1 refl refl refl refl refl
read-meant (Some b) kinds.End g e = let no : false ≡ true = e in cc
read-meant top kinds.Is true e = let no : false ≡ true = e in cc
read-meant top kinds.Adds true e = let no : false ≡ true = e in cc
read-meant top kinds.Bad true e = let no : false ≡ true = e in cc
read-meant top k true e = means-at _ phrases (later true k) 1 (item_position k) refl refl refl refl refl
read-meant top k false e = let no : false ≡ true = e in cc

later-meant : (s : Stand) (top : Option OpenBracket) (k : AbnfKind) (g : Bool) → allows_marked s top k g false ≡ true
    → MeantAt s top (later g k)
later-meant stands.Named top k g e = named-meant top k g e
later-meant stands.Fresh top k g e = fresh-meant top k g e
later-meant stands.Awaits top k true e = let no : false ≡ true = e in cc
later-meant stands.Awaits top k false e = awaits-meant top k e
later-meant stands.Read top k g e = read-meant top k g e
later-meant stands.Start top k g e = let no : false ≡ true = e in cc
later-meant stands.Done top k g e = let no : false ≡ true = e in cc

form-meant : (s : Stand) (top : Option OpenBracket) (k : AbnfKind) (g f : Bool) → allows_marked s top k g f ≡ true
    → MeantAt s top (record { kind = k; gap = g; first = f })
form-meant s top k g true e = first-meant s top k g e
form-meant s top k g false e = later-meant s top k g e

-- the machine takes words that begin a grammar
words-taken : (ws : List Word) (x : Option Config) → run start ws ≡ x → Begins ws → (c : Config)
    × (run start ws ≡ Some c)
words-taken ws None e begins = absurd (stops-begins ws e begins)
words-taken ws (Some c) e begins = (c, e)

can-take : (i : ℕ) (all : List Marked) (form : Form) → CanStand (take i all ++ []) (length (take i all)) form
    → CanStand all i form
can-take i all form s = record {
  token = s.token;
  kind = s.kind;
  viable = let v = s.viable in rw (take-append_seam (take i all) []) at v;
}

take-can : (i : ℕ) (all : List Marked) (form : Form) → CanStand all i form
    → CanStand (take i all ++ []) (length (take i all)) form
take-can i all form s =
    record { token = s.token; kind = s.kind; viable = rw (take-append_seam (take i all) []) s.viable }

pub forms-reported : (all : List Marked) (i : ℕ) (reported : List (List ℕ)) → IsHopeless all i
    → AreAllReported (CanStand all i) phrases reported → ReportAll (CanStand all i) phrases reported
forms-reported all i reported h t =
    let v = h.before in
    let c = words-taken v.0 (run start v.0) refl v.2 in
    let can : Form → Bool = allows (stand_of c.0) (innermost (open_of c.0)) in
    let onto : (form : Form) → can form ≡ true → CanStand all i form =
    λ form e. can-take i all form (can-stand c.0 can (λ k g f. refl) v.1 c.1 form e []) in
    let back : (form : Form) → CanStand all i form → can form ≡ true =
    λ form s. by-test (can form) refl (λ e. cannot-stand c.0 can (λ k g f. refl) v.1 c.1 form e []
    (take-can i all form s)) in
    report-same onto back (report-all can phrases (AllPass-from_list_all (λ p. nat_lt 0 (length p.kinds)) phrases refl)
    (λ form e. form-meant (stand_of c.0) (innermost (open_of c.0)) form.kind form.gap form.first e)
    (reported-same back onto t))
  where
    by-test : (b : Bool) {x : Bool} → x ≡ b → (x ≡ false → ⊥) → x ≡ true
    by-test true e f = e
    by-test false e f = absurd (f e)
