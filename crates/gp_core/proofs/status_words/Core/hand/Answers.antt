use Rattle.std.proofs.Common.{Option, None, ap, ◌∙◌, arith}
use Rattle.std.proofs.lemmas.List.{get_or_default}
use Rattle.gp_core.specs.declared.hold.Hold.{Hold}
use Rattle.gp_core.specs.CoreState.{CoreState, hand}
use Rattle.gp_core.proofs.Running.{actor_within}
use Rattle.gp_core.proofs.status_words.Core.hand.Goals as goal

pub index-requires : goal.index-requires
index-requires g c =
    let m = c.self.inside in
    let within = actor_within g.R.Run.program g.R.Run.settings m.workers m.room m.machine m.words.items m.bodies.items m.hands.items m.copies.items c.self.invariant c.args.a c.requires in
    omega (arith, m.hands.ok.0, within)

pub returns : goal.returns
returns g c =
    let m = c.self.inside in
    let within = actor_within g.R.Run.program g.R.Run.settings m.workers m.room m.machine m.words.items m.bodies.items m.hands.items m.copies.items c.self.invariant c.args.a c.requires in
    let none : Option Hold = None in
    c.index.ensures ∙ get_or_default m.hands.items c.args.a c.index.result.now none within ∙ ap (λ (core : CoreState). hand core c.args.a) c.self.view_is
