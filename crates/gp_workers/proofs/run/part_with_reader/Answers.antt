use Rattle.std.proofs.Common.{rules, arith, ◌≡◌, ◌+◌, [], ap, ◌∙◌}
use Rattle.std.specs.List.{range_with_len}
use Rattle.std.proofs.lemmas.List.{nil_from_length}
use Rattle.gp_workers.proofs.Parting.{last_number, front_numbers, front_ended, last_ended, is_some}
use Rattle.gp_workers.proofs.run.part_with_reader.Goals as goal

pub intake_of-requires-clause-number : goal.intake_of-requires-clause-number
intake_of-requires-clause-number g c =
    last_number g.R.Run.settings (g.R.Run.settings.workers + 1) c.args.actors.now.items c.pop.new.self.items c.in-Some.actor c.in-Some.ensures.items (c.requires.actors ∙ ap (range_with_len 0) (let more : g.R.Run.settings.workers + 2 ≡ g.R.Run.settings.workers + 1 + 1 = omega arith in more))

pub intake_of-requires-clause-ended : goal.intake_of-requires-clause-ended
intake_of-requires-clause-ended g c =
    last_ended g.R.Run.settings (g.R.Run.settings.workers + 1) c.args.actors.now.items c.pop.new.self.items c.in-Some.actor c.in-Some.ensures.items c.requires.ended

pub returns-clause-numbers : goal.returns-clause-numbers
returns-clause-numbers g c =
    front_numbers g.R.Run.settings (g.R.Run.settings.workers + 1) c.args.actors.now.items c.pop.new.self.items c.in-Some.actor c.in-Some.ensures.items (c.requires.actors ∙ ap (range_with_len 0) (let more : g.R.Run.settings.workers + 2 ≡ g.R.Run.settings.workers + 1 + 1 = omega arith in more))

pub returns-clause-ended : goal.returns-clause-ended
returns-clause-ended g c =
    front_ended g.R.Run.settings (g.R.Run.settings.workers + 1) c.args.actors.now.items c.pop.new.self.items c.in-Some.actor c.in-Some.ensures.items c.requires.ended

pub unreachable-requires : goal.unreachable-requires
unreachable-requires g c =
    let none : c.args.actors.now.items ≡ [] = search (rules, nil_from_length) in
    is_some (g.R.Run.settings.workers + 1) c.args.actors.now.items (c.requires.actors ∙ ap (range_with_len 0) (let more : g.R.Run.settings.workers + 2 ≡ g.R.Run.settings.workers + 1 + 1 = omega arith in more)) none
