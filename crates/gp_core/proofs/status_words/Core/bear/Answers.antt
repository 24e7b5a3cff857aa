use Rattle.std.proofs.Common.{◌≡◌, ◌<◌, set, Some, sym, ap, ◌∙◌, subst, arith}
use Rattle.gp_journal.specs.declared.goroutine.Goroutine.{Goroutine}
use Rattle.gp_journal.specs.State.{code_of, goroutine}
use Rattle.gp_core.specs.declared.word.Word.TheVariants.{Home}
use Rattle.gp_core.specs.declared.event.CoreEvent.TheVariants as event
use Rattle.gp_core.specs.CoreState.{CoreState, now, with_word, with_count}
use Rattle.gp_core.specs.Enabled.{IsEnabled}
use Rattle.gp_core.specs.kept.Core.{core_of, IsReachedBy}
use Rattle.gp_isa.specs.declared.parts.Parts.{Parts}
use Rattle.gp_isa.specs.Calls.{IsProgram}
use Rattle.gp_isa.specs.InLimits.{AreInLimits}
use Rattle.gp_stack.specs.Body.{progress_of, StandsIn}
use Rattle.gp_journal.specs.Bodies.{standing}
use Rattle.gp_core.proofs.Beginnings.{begins_there}
use Rattle.std.proofs.Common.{length}
use Rattle.gp_core.proofs.Running.{born_within, body_within, bears_core, borne, none_passed}
use Rattle.gp_core.proofs.status_words.Core.bear.Goals as goal

pub born-requires-clause-function : goal.born-requires-clause-function
born-requires-clause-function g c =
    let P = g.R.Run.program in let S = g.R.Run.settings in let m = c.self.inside in
    subst (λ (p : Parts). c.goroutine-newborn.result.start < length p.functions) (sym c.requires.program)
    (subst (λ (it : Goroutine). it.start < length P.functions) (sym c.goroutine-newborn.ensures)
    (begins_there P S m.machine c.args.g (subst AreInLimits c.requires.program c.parts.ensures.limits) (subst IsProgram c.requires.program c.parts.ensures.checked)))

pub index_mut-requires : goal.index_mut-requires
index_mut-requires g c =
    let P = g.R.Run.program in let S = g.R.Run.settings in let m = c.self.inside in
    let may = subst (λ (core : CoreState). IsEnabled (code_of P) S core (event.Bear c.args.w c.args.g)) (sym c.self.view_is) c.requires.enabled in
    let within = born_within P S m.workers m.room m.machine m.words.items m.bodies.items m.hands.items m.copies.items c.self.invariant c.args.g may.is_born in
    omega (arith, m.words.ok.0, within)

pub index_mut-requires-2 : goal.index_mut-requires-2
index_mut-requires-2 g c =
    let P = g.R.Run.program in let S = g.R.Run.settings in let m = c.self.inside in
    let may = subst (λ (core : CoreState). IsEnabled (code_of P) S core (event.Bear c.args.w c.args.g)) (sym c.self.view_is) c.requires.enabled in
    let within = body_within P S m.workers m.room m.machine m.words.items m.bodies.items m.hands.items m.copies.items c.self.invariant c.args.g may.is_born in
    omega (arith, m.bodies.ok.0, within)

pub invariant_of-self : goal.invariant_of-self
invariant_of-self g c =
    let P = g.R.Run.program in let S = g.R.Run.settings in let m = c.self.inside in let h = c.args.g in
    let may = subst (λ (core : CoreState). IsEnabled (code_of P) S core (event.Bear c.args.w c.args.g)) (sym c.self.view_is) c.requires.enabled in
    let state = now (code_of P) S (core_of m.machine m.words.items m.bodies.items m.hands.items m.copies.items) in
    let is = c.goroutine-newborn.ensures in
    let none = none_passed P S m.workers m.room m.machine m.words.items m.bodies.items m.hands.items m.copies.items c.self.invariant c.args.w h may in
    let place : progress_of c.born.new.self ≡ standing (goroutine state h) =
    c.born.ensures.progress ∙ (λ i. record { start = (is i).start; set = (is i).set; count = sym none i }) in
    let passed : (progress_of c.born.new.self).count ≡ 0 = ap (λ p. p.count) c.born.ensures.progress in
    let stands = subst (λ (p : Parts). StandsIn p c.born.new.self) c.requires.program c.born.ensures.stands in
    subst (λ (it : Goroutine). IsReachedBy P S m.workers m.room (set m.bodies.items h (Some c.born.new.self))
    (core_of m.machine (set m.words.items h (Home it.epoch)) (set m.bodies.items h (Some c.born.new.self)) m.hands.items m.copies.items))
    (sym is) (borne P S m.workers m.room m.machine m.words.items m.bodies.items m.hands.items m.copies.items c.self.invariant c.args.w h c.born.new.self may stands place passed)

pub returns-clause-ok : goal.returns-clause-ok
returns-clause-ok g c =
    let P = g.R.Run.program in let S = g.R.Run.settings in let m = c.self.inside in let h = c.args.g in
    let is = c.goroutine-newborn.ensures ∙ ap (λ (core : CoreState). goroutine (now (code_of P) S core) h) c.self.view_is in
    let passed : (progress_of c.born.new.self).count ≡ 0 = ap (λ p. p.count) c.born.ensures.progress in
    bears_core P S m.workers m.room m.machine m.words.items m.bodies.items m.hands.items m.copies.items c.self.invariant h c.goroutine-newborn.result.epoch c.born.new.self passed
    ∙ (λ i. with_word h (Home (is i).epoch) (with_count h 0 (c.self.view_is i)))
