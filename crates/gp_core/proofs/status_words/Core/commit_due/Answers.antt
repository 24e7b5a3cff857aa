use Rattle.std.proofs.Common.{List, set, Some, sym, ap, ◌∙◌, subst, arith}
use Rattle.gp_journal.specs.declared.entry.Entry.{Entry}
use Rattle.gp_journal.specs.State.{code_of}
use Rattle.gp_core.specs.declared.hold.How.TheVariants as how
use Rattle.gp_core.specs.declared.event.CoreEvent.TheVariants as event
use Rattle.gp_core.specs.CoreState.{CoreState, hand, HoldsBy}
use Rattle.gp_core.specs.Enabled.{IsEnabled}
use Rattle.gp_core.specs.Stepped.{stepped}
use Rattle.gp_core.specs.kept.Core.{core_of, IsReachedBy}
use Rattle.gp_core.proofs.Running.{body_within, found, body_found, body_missing, held_by_lives, due_of_commit, take_not_claim, runs_it, due_core, gone_on}
use Rattle.gp_core.proofs.status_words.Core.commit_due.Goals as goal

pub index_mut-requires : goal.index_mut-requires
index_mut-requires g c =
    let P = g.R.Run.program in let S = g.R.Run.settings in let m = c.self.inside in let w = c.args.w in let h = c.args.g in
    let may = subst (λ (core : CoreState). IsEnabled (code_of P) S core (event.Commit c.args.w c.args.g)) (sym c.self.view_is) c.requires.enabled in
    let has = subst (λ (core : CoreState). HoldsBy how.Take h (hand core w)) (sym c.self.view_is) c.requires.taken in
    let within = body_within P S m.workers m.room m.machine m.words.items m.bodies.items m.hands.items m.copies.items c.self.invariant h may.is_born in
    omega (arith, m.bodies.ok.0, within)

pub make_due-requires-clause-runs : goal.make_due-requires-clause-runs
make_due-requires-clause-runs g c =
    let P = g.R.Run.program in let S = g.R.Run.settings in let m = c.self.inside in let w = c.args.w in let h = c.args.g in
    let may = subst (λ (core : CoreState). IsEnabled (code_of P) S core (event.Commit c.args.w c.args.g)) (sym c.self.view_is) c.requires.enabled in
    let has = subst (λ (core : CoreState). HoldsBy how.Take h (hand core w)) (sym c.self.view_is) c.requires.taken in
    let within = body_within P S m.workers m.room m.machine m.words.items m.bodies.items m.hands.items m.copies.items c.self.invariant h may.is_born in
    let its = due_of_commit P S m.workers m.room m.machine m.words.items m.bodies.items m.hands.items m.copies.items c.self.invariant w h may
    (take_not_claim P S m.workers m.room m.machine m.words.items m.bodies.items m.hands.items m.copies.items c.self.invariant w h has) in
    runs_it P S m.workers m.room m.machine m.words.items m.bodies.items m.hands.items m.copies.items c.self.invariant w h its

pub make_due-requires-clause-stands : goal.make_due-requires-clause-stands
make_due-requires-clause-stands g c =
    let P = g.R.Run.program in let S = g.R.Run.settings in let m = c.self.inside in let w = c.args.w in let h = c.args.g in
    let may = subst (λ (core : CoreState). IsEnabled (code_of P) S core (event.Commit c.args.w c.args.g)) (sym c.self.view_is) c.requires.enabled in
    let has = subst (λ (core : CoreState). HoldsBy how.Take h (hand core w)) (sym c.self.view_is) c.requires.taken in
    let within = body_within P S m.workers m.room m.machine m.words.items m.bodies.items m.hands.items m.copies.items c.self.invariant h may.is_born in
    (body_found P S m.workers m.room m.machine m.words.items m.bodies.items m.hands.items m.copies.items c.self.invariant h c.index_mut.result.now c.in-Some.body within c.index_mut.ensures.value c.in-Some.is).0

pub make_due-requires-clause-place : goal.make_due-requires-clause-place
make_due-requires-clause-place g c =
    let P = g.R.Run.program in let S = g.R.Run.settings in let m = c.self.inside in let w = c.args.w in let h = c.args.g in
    let may = subst (λ (core : CoreState). IsEnabled (code_of P) S core (event.Commit c.args.w c.args.g)) (sym c.self.view_is) c.requires.enabled in
    let has = subst (λ (core : CoreState). HoldsBy how.Take h (hand core w)) (sym c.self.view_is) c.requires.taken in
    let within = body_within P S m.workers m.room m.machine m.words.items m.bodies.items m.hands.items m.copies.items c.self.invariant h may.is_born in
    (body_found P S m.workers m.room m.machine m.words.items m.bodies.items m.hands.items m.copies.items c.self.invariant h c.index_mut.result.now c.in-Some.body within c.index_mut.ensures.value c.in-Some.is).1

pub unreachable-requires : goal.unreachable-requires
unreachable-requires g c =
    let P = g.R.Run.program in let S = g.R.Run.settings in let m = c.self.inside in let w = c.args.w in let h = c.args.g in
    let may = subst (λ (core : CoreState). IsEnabled (code_of P) S core (event.Commit c.args.w c.args.g)) (sym c.self.view_is) c.requires.enabled in
    let has = subst (λ (core : CoreState). HoldsBy how.Take h (hand core w)) (sym c.self.view_is) c.requires.taken in
    let within = body_within P S m.workers m.room m.machine m.words.items m.bodies.items m.hands.items m.copies.items c.self.invariant h may.is_born in
    body_missing P S m.workers m.room m.machine m.words.items m.bodies.items m.hands.items m.copies.items c.self.invariant h c.index_mut.result.now
    (held_by_lives P S m.workers m.room m.machine m.words.items m.bodies.items m.hands.items m.copies.items c.self.invariant how.Take w h has) within c.index_mut.ensures.value c.in-None.is

pub invariant_of-self : goal.invariant_of-self
invariant_of-self g c =
    let P = g.R.Run.program in let S = g.R.Run.settings in let m = c.self.inside in let w = c.args.w in let h = c.args.g in
    let may = subst (λ (core : CoreState). IsEnabled (code_of P) S core (event.Commit c.args.w c.args.g)) (sym c.self.view_is) c.requires.enabled in
    let has = subst (λ (core : CoreState). HoldsBy how.Take h (hand core w)) (sym c.self.view_is) c.requires.taken in
    let within = body_within P S m.workers m.room m.machine m.words.items m.bodies.items m.hands.items m.copies.items c.self.invariant h may.is_born in
    let its = due_of_commit P S m.workers m.room m.machine m.words.items m.bodies.items m.hands.items m.copies.items c.self.invariant w h may
    (take_not_claim P S m.workers m.room m.machine m.words.items m.bodies.items m.hands.items m.copies.items c.self.invariant w h has) in
    let was = sym (found P S m.workers m.room m.machine m.words.items m.bodies.items m.hands.items m.copies.items c.self.invariant h c.index_mut.result.now within c.index_mut.ensures.value) ∙ c.in-Some.is in
    let new = c.make_due.new.body in
    subst (λ (j : List Entry). IsReachedBy P S m.workers m.room (set m.bodies.items h (Some new)) (core_of j m.words.items (set m.bodies.items h (Some new)) m.hands.items m.copies.items))
    (sym c.make_due.ensures.journal) (gone_on P S m.workers m.room m.machine m.words.items m.bodies.items m.hands.items m.copies.items c.self.invariant w h may its c.in-Some.body new was c.make_due.ensures.stands c.make_due.ensures.progress)

pub returns : goal.returns
returns g c =
    let P = g.R.Run.program in let S = g.R.Run.settings in let m = c.self.inside in let w = c.args.w in let h = c.args.g in
    let may = subst (λ (core : CoreState). IsEnabled (code_of P) S core (event.Commit c.args.w c.args.g)) (sym c.self.view_is) c.requires.enabled in
    let has = subst (λ (core : CoreState). HoldsBy how.Take h (hand core w)) (sym c.self.view_is) c.requires.taken in
    let within = body_within P S m.workers m.room m.machine m.words.items m.bodies.items m.hands.items m.copies.items c.self.invariant h may.is_born in
    let its = due_of_commit P S m.workers m.room m.machine m.words.items m.bodies.items m.hands.items m.copies.items c.self.invariant w h may
    (take_not_claim P S m.workers m.room m.machine m.words.items m.bodies.items m.hands.items m.copies.items c.self.invariant w h has) in
    let was = sym (found P S m.workers m.room m.machine m.words.items m.bodies.items m.hands.items m.copies.items c.self.invariant h c.index_mut.result.now within c.index_mut.ensures.value) ∙ c.in-Some.is in
    let new = c.make_due.new.body in
    ap (λ (j : List Entry). core_of j m.words.items (set m.bodies.items h (Some new)) m.hands.items m.copies.items) c.make_due.ensures.journal
    ∙ due_core P S m.workers m.room m.machine m.words.items m.bodies.items m.hands.items m.copies.items c.self.invariant w h may its c.in-Some.body new was c.make_due.ensures.stands c.make_due.ensures.progress
    ∙ ap (λ (core : CoreState). stepped (code_of P) S core (event.Commit w h)) c.self.view_is
