use Rattle.std.proofs.Common.{◌≡◌, sym, ap, ◌∙◌, subst, arith}
use Rattle.gp_journal.specs.State.{code_of}
use Rattle.gp_core.specs.declared.event.CoreEvent.TheVariants as event
use Rattle.gp_core.specs.CoreState.{CoreState, now}
use Rattle.gp_core.specs.Enabled.{IsEnabled}
use Rattle.gp_core.specs.Stepped.{copy_of}
use Rattle.std.specs.Prelude.{IfOk}
use Rattle.gp_isa.specs.declared.parts.Parts.{Parts}
use Rattle.gp_stack.specs.declared.record.Record.{Record as Row}
use Rattle.gp_stack.specs.Body.{progress_of, StandsIn}
use Rattle.gp_stack.specs.Record.{record_of}
use Rattle.gp_core.proofs.Running.{body_within, body_found, body_missing, held_lives, row_found}
use Rattle.gp_core.proofs.status_words.Core.row_of.Goals as goal

pub index-requires : goal.index-requires
index-requires g c =
    let P = g.R.Run.program in let S = g.R.Run.settings in let m = c.self.inside in
    let may = subst (λ (core : CoreState). IsEnabled (code_of P) S core (event.Copy c.args.a c.args.g)) (sym c.self.view_is) c.requires.enabled in
    let within = body_within P S m.workers m.room m.machine m.words.items m.bodies.items m.hands.items m.copies.items c.self.invariant c.args.g may.is_born in
    omega (arith, m.bodies.ok.0, within)

pub record-requires : goal.record-requires
record-requires g c =
    let P = g.R.Run.program in let S = g.R.Run.settings in let m = c.self.inside in
    let may = subst (λ (core : CoreState). IsEnabled (code_of P) S core (event.Copy c.args.a c.args.g)) (sym c.self.view_is) c.requires.enabled in
    let within = body_within P S m.workers m.room m.machine m.words.items m.bodies.items m.hands.items m.copies.items c.self.invariant c.args.g may.is_born in
    subst (λ (p : Parts). StandsIn p c.in-Some.body) (sym c.requires.program)
    (body_found P S m.workers m.room m.machine m.words.items m.bodies.items m.hands.items m.copies.items c.self.invariant c.args.g c.index.result.now c.in-Some.body within c.index.ensures c.in-Some.is).0

pub unreachable-requires : goal.unreachable-requires
unreachable-requires g c =
    let P = g.R.Run.program in let S = g.R.Run.settings in let m = c.self.inside in
    let may = subst (λ (core : CoreState). IsEnabled (code_of P) S core (event.Copy c.args.a c.args.g)) (sym c.self.view_is) c.requires.enabled in
    let within = body_within P S m.workers m.room m.machine m.words.items m.bodies.items m.hands.items m.copies.items c.self.invariant c.args.g may.is_born in
    body_missing P S m.workers m.room m.machine m.words.items m.bodies.items m.hands.items m.copies.items c.self.invariant c.args.g c.index.result.now
    (held_lives P S m.workers m.room m.machine m.words.items m.bodies.items m.hands.items m.copies.items c.self.invariant c.args.a c.args.g may.holds_too.holds_it) within c.index.ensures c.in-None.is

pub returns : goal.returns
returns g c =
    let P = g.R.Run.program in let S = g.R.Run.settings in let m = c.self.inside in
    let may = subst (λ (core : CoreState). IsEnabled (code_of P) S core (event.Copy c.args.a c.args.g)) (sym c.self.view_is) c.requires.enabled in
    let within = body_within P S m.workers m.room m.machine m.words.items m.bodies.items m.hands.items m.copies.items c.self.invariant c.args.g may.is_born in
    let place = (body_found P S m.workers m.room m.machine m.words.items m.bodies.items m.hands.items m.copies.items c.self.invariant c.args.g c.index.result.now c.in-Some.body within c.index.ensures c.in-Some.is).1 in
    let same : record_of c.args.program.now c.args.g (progress_of c.in-Some.body) ≡ copy_of (code_of P) (now (code_of P) S c.args.self.now) c.args.self.now c.args.g =
    ap (λ (p : Parts). record_of p c.args.g (progress_of c.in-Some.body)) c.requires.program
    ∙ row_found P S m.workers m.room m.machine m.words.items m.bodies.items m.hands.items m.copies.items c.self.invariant c.args.g c.in-Some.body place
    ∙ ap (λ (core : CoreState). copy_of (code_of P) (now (code_of P) S core) core c.args.g) c.self.view_is in
    subst (λ (r : Row). IfOk c.record.result (λ row. row ≡ r)) same c.record.ensures
