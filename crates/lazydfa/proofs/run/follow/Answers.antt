use Rattle.std.proofs.Common.{◌+◌, subst, ap, arith, map, length, refl}
use Rattle.std.proofs.lemmas.List.{length-map}
use Rattle.lazydfa.specs.Cached.{AreGrown}
use Rattle.lazydfa.specs.Conts.{AreKept}
use Rattle.lazydfa.specs.Memos.{IsMemo}
use Rattle.lazydfa.proofs.AreTransitionsLemmas.{memo_kept}
use Rattle.lazydfa.proofs.IsOverLemmas.{settled_start}
use Rattle.lazydfa.proofs.IsTrackLemmas.{track_of}
use Rattle.lazydfa.proofs.run.follow.Goals as goal

pub returns-then-not-branch-clause-memo : goal.returns-then-not-branch-clause-memo
returns-then-not-branch-clause-memo g c =
    memo_kept c.args.tables.now c.args.classes.samples.now c.args.memo.now
    (record c.prepare.new.memo { cache = c.begin.new.cache }) c.requires.memo c.in_ok-begin.ensures.cached
    (record {
      conts = subst (λ v. AreKept v.items c.begin.new.cache.conts.items.items) c.prepare.ensures.conts
          c.in_ok-begin.ensures.grows.conts;
      states = subst (λ v. AreGrown v.items c.begin.new.cache.states.items) c.prepare.ensures.states
          c.in_ok-begin.ensures.grows.states;
    })
    (ap (λ v. v.items) c.prepare.ensures.resumes) (ap (λ v. v.items) c.prepare.ensures.transitions)
    (ap (λ v. v.items.items) c.prepare.ensures.leads)

pub go_on-requires-clause-memo : goal.go_on-requires-clause-memo
go_on-requires-clause-memo g c =
    memo_kept c.args.tables.now c.args.classes.samples.now c.args.memo.now
    (record c.prepare.new.memo { cache = c.begin.new.cache }) c.requires.memo c.in_ok-begin.ensures.cached
    (record {
      conts = subst (λ v. AreKept v.items c.begin.new.cache.conts.items.items) c.prepare.ensures.conts
          c.in_ok-begin.ensures.grows.conts;
      states = subst (λ v. AreGrown v.items c.begin.new.cache.states.items) c.prepare.ensures.states
          c.in_ok-begin.ensures.grows.states;
    })
    (ap (λ v. v.items) c.prepare.ensures.resumes) (ap (λ v. v.items) c.prepare.ensures.transitions)
    (ap (λ v. v.items.items) c.prepare.ensures.leads)

pub go_on-requires-clause-tracks : goal.go_on-requires-clause-tracks
go_on-requires-clause-tracks g c =
    let memo : IsMemo c.args.tables.now c.args.classes.samples.now
    (record c.prepare.new.memo { cache = c.begin.new.cache }) =
    memo_kept c.args.tables.now c.args.classes.samples.now c.args.memo.now
    (record c.prepare.new.memo { cache = c.begin.new.cache }) c.requires.memo c.in_ok-begin.ensures.cached
    (record {
      conts = subst (λ v. AreKept v.items c.begin.new.cache.conts.items.items) c.prepare.ensures.conts
          c.in_ok-begin.ensures.grows.conts;
      states = subst (λ v. AreGrown v.items c.begin.new.cache.states.items) c.prepare.ensures.states
          c.in_ok-begin.ensures.grows.states;
    })
    (ap (λ v. v.items) c.prepare.ensures.resumes) (ap (λ v. v.items) c.prepare.ensures.transitions)
    (ap (λ v. v.items.items) c.prepare.ensures.leads) in
    let started = c.glide-track.ensures.glides c.args.tables.now c.requires.targets c.requires.classes memo
    (track_of c.args.tables.now c.args.classes.samples.now
    (record c.prepare.new.memo { cache = c.begin.new.cache }) (map g.L.Letter.number c.args.line.now) 0 0
    (length c.args.classes.samples.now + 1) 0 refl (omega arith)
    (settled_start c.args.tables.now c.requires.targets (map g.L.Letter.number c.args.line.now)
    c.begin.new.cache.conts.items.items c.begin.new.cache.states.items c.prepare.new.memo.suffixes.items 0
    c.prepare.ensures.suffixes (c.in_ok-begin.ensures.is c.if-not-branch.false))
    (λ some. absurd (omega (arith, some)))) in
    started

pub returns-then-dies_at-clause-memo : goal.returns-then-dies_at-clause-memo
returns-then-dies_at-clause-memo g c =
    memo_kept c.args.tables.now c.args.classes.samples.now c.args.memo.now
    (record c.prepare.new.memo { cache = c.begin.new.cache }) c.requires.memo c.in_ok-begin.ensures.cached
    (record {
      conts = subst (λ v. AreKept v.items c.begin.new.cache.conts.items.items) c.prepare.ensures.conts
          c.in_ok-begin.ensures.grows.conts;
      states = subst (λ v. AreGrown v.items c.begin.new.cache.states.items) c.prepare.ensures.states
          c.in_ok-begin.ensures.grows.states;
    })
    (ap (λ v. v.items) c.prepare.ensures.resumes) (ap (λ v. v.items) c.prepare.ensures.transitions)
    (ap (λ v. v.items.items) c.prepare.ensures.leads)

pub returns-then-dies_at-clause-stops : goal.returns-then-dies_at-clause-stops
returns-then-dies_at-clause-stops g c =
    let memo : IsMemo c.args.tables.now c.args.classes.samples.now
    (record c.prepare.new.memo { cache = c.begin.new.cache }) =
    memo_kept c.args.tables.now c.args.classes.samples.now c.args.memo.now
    (record c.prepare.new.memo { cache = c.begin.new.cache }) c.requires.memo c.in_ok-begin.ensures.cached
    (record {
      conts = subst (λ v. AreKept v.items c.begin.new.cache.conts.items.items) c.prepare.ensures.conts
          c.in_ok-begin.ensures.grows.conts;
      states = subst (λ v. AreGrown v.items c.begin.new.cache.states.items) c.prepare.ensures.states
          c.in_ok-begin.ensures.grows.states;
    })
    (ap (λ v. v.items) c.prepare.ensures.resumes) (ap (λ v. v.items) c.prepare.ensures.transitions)
    (ap (λ v. v.items.items) c.prepare.ensures.leads) in
    let started = c.glide-track.ensures.glides c.args.tables.now c.requires.targets c.requires.classes memo
    (track_of c.args.tables.now c.args.classes.samples.now
    (record c.prepare.new.memo { cache = c.begin.new.cache }) (map g.L.Letter.number c.args.line.now) 0 0
    (length c.args.classes.samples.now + 1) 0 refl (omega arith)
    (settled_start c.args.tables.now c.requires.targets (map g.L.Letter.number c.args.line.now)
    c.begin.new.cache.conts.items.items c.begin.new.cache.states.items c.prepare.new.memo.suffixes.items 0
    c.prepare.ensures.suffixes (c.in_ok-begin.ensures.is c.if-not-branch.false))
    (λ some. absurd (omega (arith, some)))) in
    c.if-dies_at.ensures refl c.args.tables.now c.requires.targets c.requires.classes memo started

pub returns-clause-memo : goal.returns-clause-memo
returns-clause-memo g c =
    memo_kept c.args.tables.now c.args.classes.samples.now c.args.memo.now
    (record c.prepare.new.memo { cache = c.begin.new.cache }) c.requires.memo c.in_ok-begin.ensures.cached
    (record {
      conts = subst (λ v. AreKept v.items c.begin.new.cache.conts.items.items) c.prepare.ensures.conts
          c.in_ok-begin.ensures.grows.conts;
      states = subst (λ v. AreGrown v.items c.begin.new.cache.states.items) c.prepare.ensures.states
          c.in_ok-begin.ensures.grows.states;
    })
    (ap (λ v. v.items) c.prepare.ensures.resumes) (ap (λ v. v.items) c.prepare.ensures.transitions)
    (ap (λ v. v.items.items) c.prepare.ensures.leads)

pub returns-clause-stops : goal.returns-clause-stops
returns-clause-stops g c =
    let size = length-map c.args.line.now g.L.Letter.number in
    let memo : IsMemo c.args.tables.now c.args.classes.samples.now
    (record c.prepare.new.memo { cache = c.begin.new.cache }) =
    memo_kept c.args.tables.now c.args.classes.samples.now c.args.memo.now
    (record c.prepare.new.memo { cache = c.begin.new.cache }) c.requires.memo c.in_ok-begin.ensures.cached
    (record {
      conts = subst (λ v. AreKept v.items c.begin.new.cache.conts.items.items) c.prepare.ensures.conts
          c.in_ok-begin.ensures.grows.conts;
      states = subst (λ v. AreGrown v.items c.begin.new.cache.states.items) c.prepare.ensures.states
          c.in_ok-begin.ensures.grows.states;
    })
    (ap (λ v. v.items) c.prepare.ensures.resumes) (ap (λ v. v.items) c.prepare.ensures.transitions)
    (ap (λ v. v.items.items) c.prepare.ensures.leads) in
    let started = c.glide-track.ensures.glides c.args.tables.now c.requires.targets c.requires.classes memo
    (track_of c.args.tables.now c.args.classes.samples.now
    (record c.prepare.new.memo { cache = c.begin.new.cache }) (map g.L.Letter.number c.args.line.now) 0 0
    (length c.args.classes.samples.now + 1) 0 refl (omega arith)
    (settled_start c.args.tables.now c.requires.targets (map g.L.Letter.number c.args.line.now)
    c.begin.new.cache.conts.items.items c.begin.new.cache.states.items c.prepare.new.memo.suffixes.items 0
    c.prepare.ensures.suffixes (c.in_ok-begin.ensures.is c.if-not-branch.false))
    (λ some. absurd (omega (arith, some)))) in
    record {
      within = let a = c.glide-track.ensures.within in omega (arith, a, size);
      tracks = started;
      dead = λ lt. absurd (let a = c.if-track-line.false in omega (arith, a, lt, size));
    }
