use Rattle.std.proofs.Common.{◌<◌, sym, ap, ◌∙◌, subst, arith}
use Rattle.std.proofs.lemmas.List.{get_or_default}
use Rattle.gp_journal.specs.State.{code_of, births}
use Rattle.gp_core.specs.declared.word.Word.TheVariants.{Dead}
use Rattle.gp_core.specs.CoreState.{CoreState, now, word}
use Rattle.gp_core.proofs.Running.{born_within}
use Rattle.gp_core.proofs.status_words.Core.word.Goals as goal

pub index-requires : goal.index-requires
index-requires g c =
    let m = c.self.inside in
    let within = born_within g.R.Run.program g.R.Run.settings m.workers m.room m.machine m.words.items m.bodies.items m.hands.items m.copies.items c.self.invariant c.args.g
    (subst (λ (core : CoreState). c.args.g < births (now (code_of g.R.Run.program) g.R.Run.settings core)) (sym c.self.view_is) c.requires) in
    omega (arith, m.words.ok.0, within)

pub returns : goal.returns
returns g c =
    let m = c.self.inside in
    let within = born_within g.R.Run.program g.R.Run.settings m.workers m.room m.machine m.words.items m.bodies.items m.hands.items m.copies.items c.self.invariant c.args.g
    (subst (λ (core : CoreState). c.args.g < births (now (code_of g.R.Run.program) g.R.Run.settings core)) (sym c.self.view_is) c.requires) in
    c.index.ensures ∙ get_or_default m.words.items c.args.g c.index.result.now Dead within ∙ ap (λ (core : CoreState). word core c.args.g) c.self.view_is
