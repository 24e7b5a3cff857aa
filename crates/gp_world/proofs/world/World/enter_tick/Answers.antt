use Rattle.std.proofs.Common.{◌≡◌, refl, subst, sym, ap, ◌∙◌}
use Rattle.std.proofs.lemmas.List.{append-nil}
use Rattle.gp_stack.specs.Body.{progress_of}
use Rattle.gp_journal.specs.declared.entry.Entry.TheVariants.{Tick}
use Rattle.gp_journal.specs.Bodies.{standing}
use Rattle.gp_journal.specs.May.{May}
use Rattle.gp_journal.specs.Run.{state_of}
use Rattle.gp_journal.specs.State.{code_of, goroutine}
use Rattle.gp_cpu.specs.Samples.{sample_of}
use Rattle.gp_samples.specs.RunRing.{sample_at}
use Rattle.gp_samples.proofs.Keeping.{sample_is}
use Rattle.gp_world.specs.RingEnds.{Tells, with_sample}
use Rattle.gp_world.specs.Scene.{Scene}
use Rattle.gp_world.specs.kept.Ending.{MayOffer}
use Rattle.gp_world.proofs.Entering.{mine_due, time_fits, sample_may_be_offered, unborn_then, worker_enters}
use Rattle.gp_world.proofs.world.World.enter_tick.Goals as goal

pub offer_at-wrote-requires-clause-time : goal.offer_at-wrote-requires-clause-time
offer_at-wrote-requires-clause-time g c =
    let may = subst (λ (s : Scene). May (code_of g.R.Run.program) g.R.Run.settings (state_of g.R.Run.program g.R.Run.settings s.journal) (Tick c.args.who.now.number c.args.g)) (sym c.self.view_is) c.requires.may in
    rw (c.clock-clock.ensures, c.machine.ensures)
    (time_fits g.R.Run.program g.R.Run.settings c.self.inside.history c.self.inside.waiting c.self.inside.ring c.self.inside.book.rows c.self.inside.unborn.items c.self.inside.numbers c.self.invariant (Tick c.args.who.now.number c.args.g) may)

pub offer_at-wrote-requires-clause-writable : goal.offer_at-wrote-requires-clause-writable
offer_at-wrote-requires-clause-writable g c =
    let may = subst (λ (s : Scene). May (code_of g.R.Run.program) g.R.Run.settings (state_of g.R.Run.program g.R.Run.settings s.journal) (Tick c.args.who.now.number c.args.g)) (sym c.self.view_is) c.requires.may in
    let place = subst (λ (s : Scene). progress_of c.args.body.now ≡ standing (goroutine (state_of g.R.Run.program g.R.Run.settings s.journal) c.args.g)) (sym c.self.view_is) c.requires.place in
    let clock = c.clock-clock.ensures ∙ ap (λ j. (state_of g.R.Run.program g.R.Run.settings j).clock) c.machine.ensures in
    subst (λ p. MayOffer c.self.inside.ring (sample_at p c.clock-clock.result (progress_of c.args.body.now))) (sym c.requires.program)
    (subst (λ n. MayOffer c.self.inside.ring (sample_at g.R.Run.program n (progress_of c.args.body.now))) (sym clock)
    (sample_may_be_offered g.R.Run.program g.R.Run.settings c.self.inside.history c.self.inside.waiting c.self.inside.ring c.self.inside.book.rows c.self.inside.unborn.items c.self.inside.numbers c.self.invariant
    (Tick c.args.who.now.number c.args.g) may c.args.g (progress_of c.args.body.now) place))

pub invariant_of-self : goal.invariant_of-self
invariant_of-self g c =
    let made = Tick c.args.who.now.number c.args.g in
    let may = subst (λ (s : Scene). May (code_of g.R.Run.program) g.R.Run.settings (state_of g.R.Run.program g.R.Run.settings s.journal) (Tick c.args.who.now.number c.args.g)) (sym c.self.view_is) c.requires.may in
    let place = subst (λ (s : Scene). progress_of c.args.body.now ≡ standing (goroutine (state_of g.R.Run.program g.R.Run.settings s.journal) c.args.g)) (sym c.self.view_is) c.requires.place in
    let now = state_of g.R.Run.program g.R.Run.settings c.self.inside.history in
    let end = c.offer_at-wrote.new.end in
    let sampled = c.offer_at-wrote.ensures.after
    ∙ (λ i. with_sample c.self.inside.ring end (sample_at (c.requires.program i) ((c.clock-clock.ensures ∙ ap (λ j. (state_of g.R.Run.program g.R.Run.settings j).clock) c.machine.ensures) i) (progress_of c.args.body.now)))
    ∙ ap (with_sample c.self.inside.ring end) (sample_is g.R.Run.program now (goroutine now c.args.g) (progress_of c.args.body.now) place) in
    rw (c.set.ensures.rows, c.worker_row-row.ensures, c.machine-2.ensures, c.enter.ensures.journal, c.number-w.ensures)
    (worker_enters g.R.Run.program g.R.Run.settings c.self.inside.history c.self.inside.waiting c.self.inside.ring c.self.inside.book.rows c.self.inside.unborn.items c.self.inside.numbers c.self.invariant made may
    c.args.who.now.number c.requires.worker refl tt
    (mine_due g.R.Run.program g.R.Run.settings c.self.inside.history c.self.inside.waiting c.self.inside.ring c.self.inside.book.rows c.self.inside.unborn.items c.self.inside.numbers c.self.invariant made may c.args.who.now.number c.args.g c.requires.worker may.runs)
    c.self.inside.waiting c.offer_at-wrote.new.end c.self.inside.unborn.items refl (sym (append-nil c.self.inside.waiting.items)) sampled
    (unborn_then g.R.Run.program g.R.Run.settings c.self.inside.history c.self.inside.waiting c.self.inside.ring c.self.inside.book.rows c.self.inside.unborn.items c.self.inside.numbers c.self.invariant made may refl) tt)

pub returns-clause-wrote : goal.returns-clause-wrote
returns-clause-wrote g c =
    let place = subst (λ (s : Scene). progress_of c.args.body.now ≡ standing (goroutine (state_of g.R.Run.program g.R.Run.settings s.journal) c.args.g)) (sym c.self.view_is) c.requires.place in
    let now = state_of g.R.Run.program g.R.Run.settings c.self.inside.history in
    let end = c.offer_at-wrote.new.end in
    let sample = (λ i. sample_at (c.requires.program i) ((c.clock-clock.ensures ∙ ap (λ j. (state_of g.R.Run.program g.R.Run.settings j).clock) c.machine.ensures) i) (progress_of c.args.body.now))
    ∙ sample_is g.R.Run.program now (goroutine now c.args.g) (progress_of c.args.body.now) place in
    subst (λ (s : Scene). Tells s.ring end (sample_of (code_of g.R.Run.program) (state_of g.R.Run.program g.R.Run.settings s.journal) (goroutine (state_of g.R.Run.program g.R.Run.settings s.journal) c.args.g)) c.offer_at-wrote.result) c.self.view_is
    (subst (λ o. Tells c.self.inside.ring end o c.offer_at-wrote.result) sample c.offer_at-wrote.ensures.answer)
