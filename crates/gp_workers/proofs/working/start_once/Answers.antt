use Rattle.std.proofs.Common.{ap, subst}
use Rattle.gp_journal.specs.Run.{IsLegal, state_of}
use Rattle.gp_journal.specs.State.{code_of}
use Rattle.gp_world.specs.Calls.{start_entries}
use Rattle.gp_world.specs.Scene.{Scene}
use Rattle.gp_workers.proofs.Keeping.{keeps_same, leaves_all, start_still}
use Rattle.gp_workers.proofs.Turns.{start_taken}
use Rattle.gp_workers.proofs.working.start_once.Goals as goal

pub returns-clause-world : goal.returns-clause-world
returns-clause-world g c =
    let code = code_of g.R.Run.program in let who = c.args.who.now in let old = c.args.world.now in let scene = c.start-begun.ensures.scene in
    let made = start_entries code g.R.Run.settings (state_of g.R.Run.program g.R.Run.settings old.journal) who.number who.row.b c.args.copy in
    leaves_all g.R.Run.program g.R.Run.settings c.requires.range made old c.start-begun.new.self (start_still code g.R.Run.settings _ who.number who.row.b c.args.copy)
    (subst (IsLegal code g.R.Run.settings) (ap (λ (s : Scene). s.journal) scene) c.machine.ensures.legal)
    (record { keeps = keeps_same old c.start-begun.new.self (ap (λ (s : Scene). s.book) scene) (ap (λ (s : Scene). s.ring) scene); grown = ap (λ (s : Scene). s.journal) scene })

pub returns-clause-entries : goal.returns-clause-entries
returns-clause-entries g c =
    let who = c.args.who.now in let old = c.args.world.now in
    start_taken (code_of g.R.Run.program) g.R.Run.settings (state_of g.R.Run.program g.R.Run.settings old.journal) who.number who.row.b c.args.copy old.journal c.start-begun.new.self.journal (ap (λ (s : Scene). s.journal) c.start-begun.ensures.scene)
