use Rattle.std.proofs.Common.{◌≡◌, [], ◌∷◌, ◌++◌, sym, ap, ◌∙◌, subst}
use Rattle.gp_journal.specs.declared.entry.Entry.TheVariants as entry
use Rattle.gp_journal.specs.Run.{IsLegal}
use Rattle.gp_journal.specs.State.{code_of}
use Rattle.gp_world.specs.Rows.{row_of, worker_row, runs_one}
use Rattle.gp_world.specs.Scene.{Scene}
use Rattle.gp_world.proofs.Started.{runs_it}
use Rattle.gp_world.proofs.world.World.begin.Goals as goal

pub returns-clause-share : goal.returns-clause-share
returns-clause-share g c =
    let P = g.R.Run.program in let S = g.R.Run.settings in
    let who = c.args.who.now in
    let legal = subst (IsLegal (code_of P) S) (ap (λ (s : Scene). s.journal) c.self.view_is) c.self.invariant.legal in
    let journal : c.enter.new.self.journal ≡ c.args.self.now.journal ++ entry.Start who.number c.args.g ∷ [] =
    ap (λ (s : Scene). s.journal) c.enter.ensures.scene ∙ ap (λ n. c.args.self.now.journal ++ entry.Start n c.args.g ∷ []) c.number.ensures in
    let row = subst (λ j. worker_row P S j who.number ≡ row_of P S j who.number runs_one c.args.g) (sym journal) (runs_it P S c.args.self.now.journal legal who.number c.args.g who.row c.requires.picked) in
    c.enter.ensures.share ∙ (λ i. record { book = who.book; number = who.number; row = row i })
