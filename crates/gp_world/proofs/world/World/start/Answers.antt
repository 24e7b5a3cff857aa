use Rattle.std.proofs.Common.{◌≡◌, ◌++◌, IfSome, sym, ◌∙◌, subst}
use Rattle.gp_stack.specs.declared.record.Record.{Record as Copy}
use Rattle.gp_journal.specs.Frozen.{row}
use Rattle.gp_journal.specs.Run.{state_of}
use Rattle.gp_journal.specs.State.{code_of, goroutine}
use Rattle.gp_tally.specs.Rows.{Part}
use Rattle.gp_world.specs.Calls.{begun_of, start_entries, waiting_after_start, row_after_start}
use Rattle.gp_world.specs.kept.Workers.{HasPicked}
use Rattle.gp_world.specs.Scene.{Scene}
use Rattle.gp_world.proofs.world.World.start.Goals as goal

pub start_picked-requires-clause-picked : goal.start_picked-requires-clause-picked
start_picked-requires-clause-picked g c =
    let P = g.R.Run.program in let S = g.R.Run.settings in let now = c.picked_by-g in
    subst (λ (s : Scene). HasPicked P S s.journal now.new.who.number now.new.who.row now.result) (sym now.ensures.scene)
    (subst (λ (p : Part). HasPicked P S c.args.self.now.journal p.number p.row now.result) (sym now.ensures.share) now.ensures.picked)

pub start_picked-requires-clause-copy : goal.start_picked-requires-clause-copy
start_picked-requires-clause-copy g c =
    let P = g.R.Run.program in let S = g.R.Run.settings in let now = c.picked_by-g in
    subst (λ n. IfSome c.args.copy (λ (it : Copy). it ≡ row (code_of P) n (goroutine (state_of P S now.new.self.journal) n))) (sym now.ensures.g)
    (subst (λ (s : Scene). IfSome c.args.copy (λ (it : Copy). it ≡ row (code_of P) c.args.who.now.row.b (goroutine (state_of P S s.journal) c.args.who.now.row.b))) (sym now.ensures.scene) c.requires.copy)

pub returns-clause-answer : goal.returns-clause-answer
returns-clause-answer g c =
    let P = g.R.Run.program in let S = g.R.Run.settings in
    let scene = c.picked_by-g.ensures.scene in let share = c.picked_by-g.ensures.share in let one = c.picked_by-g.ensures.g in
    c.start_picked.ensures.answer ∙ (λ i. begun_of (code_of P) S (state_of P S (scene i).journal) (share i).number (one i) c.args.copy)

pub returns-clause-scene : goal.returns-clause-scene
returns-clause-scene g c =
    let P = g.R.Run.program in let S = g.R.Run.settings in
    let scene = c.picked_by-g.ensures.scene in let share = c.picked_by-g.ensures.share in let one = c.picked_by-g.ensures.g in
    c.start_picked.ensures.scene ∙ (λ i. record {
      book = (scene i).book;
      journal = (scene i).journal ++ start_entries (code_of P) S (state_of P S (scene i).journal) (share i).number (one i) c.args.copy;
      waiting = waiting_after_start c.start_picked.result (one i) (scene i).waiting;
      ring = (scene i).ring;
      failed = (scene i).failed;
    })

pub returns-clause-share : goal.returns-clause-share
returns-clause-share g c =
    let P = g.R.Run.program in let S = g.R.Run.settings in
    let share = c.picked_by-g.ensures.share in let one = c.picked_by-g.ensures.g in
    c.start_picked.ensures.share ∙ (λ i. record {
      book = (share i).book;
      number = (share i).number;
      row = row_after_start P S c.start_picked.new.self.journal (share i).number (one i) c.start_picked.result;
    })
