use Rattle.std.proofs.Common.{sym, ap, ◌∙◌, arith}
use Rattle.gp_journal.specs.State.{code_of}
use Rattle.gp_journal.specs.Effect.{Meets, Spawns, unlocks, is_last_point}
use Rattle.gp_journal.specs.Answer.{answer_to}
use Rattle.gp_journal.proofs.Lemmas.{runs_there, runner_waits_nowhere, has_come, clock_fits}
use Rattle.gp_machine.proofs.Acting.{can_count, next_absent, left_runs, left_counts, left_ready, left_lasts, acts_by, answers_by, spawns_at}
use Rattle.gp_machine.proofs.present.Present.acts.Goals as goal

pub resumes-requires-clause-runs : goal.resumes-requires-clause-runs
resumes-requires-clause-runs g c =
    runs_there (code_of g.R.Run.program) g.R.Run.settings c.args.self.now c.requires.reached c.is_granted.ensures.in_range c.args.w c.args.g c.requires.due.runs

pub resumes-requires-clause-room : goal.resumes-requires-clause-room
resumes-requires-clause-room g c =
    can_count g.R.Run.program g.R.Run.settings c.args.self.now c.requires.reached c.is_granted.ensures.in_range c.args.w c.args.g 1 (omega arith)

pub resumes-requires-clause-woken : goal.resumes-requires-clause-woken
resumes-requires-clause-woken g c =
    let woken = (has_come (code_of g.R.Run.program) g.R.Run.settings c.args.self.now c.requires.reached c.args.g).woken in
    let clock = clock_fits (code_of g.R.Run.program) g.R.Run.settings c.args.self.now c.requires.reached c.is_granted.ensures.in_range in omega arith

pub spawns-requires-clause-runs : goal.spawns-requires-clause-runs
spawns-requires-clause-runs g c =
    runs_there (code_of g.R.Run.program) g.R.Run.settings c.args.self.now c.requires.reached c.is_granted.ensures.in_range c.args.w c.args.g c.requires.due.runs

pub spawns-requires-clause-room : goal.spawns-requires-clause-room
spawns-requires-clause-room g c =
    can_count g.R.Run.program g.R.Run.settings c.args.self.now c.requires.reached c.is_granted.ensures.in_range c.args.w c.args.g 1 (omega arith)

pub spawns-requires-clause-absent : goal.spawns-requires-clause-absent
spawns-requires-clause-absent g c = next_absent g.R.Run.program g.R.Run.settings c.args.self.now c.requires.reached c.is_granted.ensures.in_range

pub waits_at-effect-requires-clause-cell : goal.waits_at-effect-requires-clause-cell
waits_at-effect-requires-clause-cell g c =
    (runs_there (code_of g.R.Run.program) g.R.Run.settings c.args.self.now c.requires.reached c.is_granted.ensures.in_range c.args.w c.args.g c.requires.due.runs).is_cell

pub waits_at-effect-requires-clause-waits_nowhere : goal.waits_at-effect-requires-clause-waits_nowhere
waits_at-effect-requires-clause-waits_nowhere g c =
    runner_waits_nowhere (code_of g.R.Run.program) g.R.Run.settings c.args.self.now c.requires.reached c.args.w c.args.g c.requires.due.runs

pub meets-requires-clause-runs : goal.meets-requires-clause-runs
meets-requires-clause-runs g c =
    left_runs g.R.Run.program g.R.Run.settings c.args.self.now c.requires.reached c.is_granted.ensures.in_range c.args.g c.args.point.operation
    (unlocks c.args.point.operation) c.waits_at-effect.result c.waits_at-effect.new.self c.waits_at-effect.ensures c.args.w
    (runs_there (code_of g.R.Run.program) g.R.Run.settings c.args.self.now c.requires.reached c.is_granted.ensures.in_range c.args.w c.args.g c.requires.due.runs)

pub meets-requires-clause-room : goal.meets-requires-clause-room
meets-requires-clause-room g c =
    left_counts g.R.Run.program g.R.Run.settings c.args.self.now c.requires.reached c.is_granted.ensures.in_range c.args.g c.args.point.operation
    (unlocks c.args.point.operation) c.waits_at-effect.result c.waits_at-effect.new.self c.waits_at-effect.ensures c.args.w
    (can_count g.R.Run.program g.R.Run.settings c.args.self.now c.requires.reached c.is_granted.ensures.in_range c.args.w c.args.g 1 (omega arith))

pub meets-requires-clause-wakes : goal.meets-requires-clause-wakes
meets-requires-clause-wakes g c =
    left_ready g.R.Run.program g.R.Run.settings c.args.self.now c.requires.reached c.is_granted.ensures.in_range c.args.g c.args.point.operation
    (unlocks c.args.point.operation) c.waits_at-effect.result c.waits_at-effect.new.self c.waits_at-effect.ensures

pub returns-in-Some-clause-state : goal.returns-in-Some-clause-state
returns-in-Some-clause-state g c =
    let code = code_of g.R.Run.program in
    let bare = sym c.is_granted.ensures.granted ∙ c.if-is_granted.false in
    let born = spawns_at code c.args.g c.in-Some.function c.args.point.operation c.args.self.now (sym c.spawned.ensures ∙ c.in-Some.is) in
    c.spawns.ensures.state
    ∙ acts_by code g.R.Run.settings c.args.w c.args.g c.args.self.now bare c.args.point.operation c.requires.point.operation (Spawns c.in-Some.function) born

pub returns-in-Some-clause-answer : goal.returns-in-Some-clause-answer
returns-in-Some-clause-answer g c =
    let code = code_of g.R.Run.program in
    let bare = sym c.is_granted.ensures.granted ∙ c.if-is_granted.false in
    let born = spawns_at code c.args.g c.in-Some.function c.args.point.operation c.args.self.now (sym c.spawned.ensures ∙ c.in-Some.is) in
    c.spawns.ensures.answer
    ∙ answers_by code g.R.Run.settings c.args.w c.args.g c.args.self.now bare c.args.point.operation c.requires.point.operation (Spawns c.in-Some.function) born

pub returns-in-None-clause-state : goal.returns-in-None-clause-state
returns-in-None-clause-state g c =
    let bare = sym c.is_granted.ensures.granted ∙ c.if-is_granted.false in
    let outcome = Meets (unlocks c.args.point.operation) c.waits_at-effect.result c.waits_at-effect.new.self in
    c.meets.ensures.state
    ∙ acts_by (code_of g.R.Run.program) g.R.Run.settings c.args.w c.args.g c.args.self.now bare c.args.point.operation c.requires.point.operation outcome c.waits_at-effect.ensures

pub returns-in-None-clause-answer : goal.returns-in-None-clause-answer
returns-in-None-clause-answer g c =
    let code = code_of g.R.Run.program in
    let effect = c.waits_at-effect.result in
    let left = c.waits_at-effect.new.self in
    let bare = sym c.is_granted.ensures.granted ∙ c.if-is_granted.false in
    let lasts = left_lasts g.R.Run.program g.R.Run.settings c.args.self.now c.requires.reached c.is_granted.ensures.in_range c.args.g c.args.point.operation
    (unlocks c.args.point.operation) effect left c.waits_at-effect.ensures in
    c.meets.ensures.answer
    ∙ ap (λ b. answer_to b (is_last_point code left c.args.g) effect) c.unlocks.ensures
    ∙ ap (λ b. answer_to (unlocks c.args.point.operation) b effect) lasts
    ∙ answers_by code g.R.Run.settings c.args.w c.args.g c.args.self.now bare c.args.point.operation c.requires.point.operation
    (Meets (unlocks c.args.point.operation) effect left) c.waits_at-effect.ensures
