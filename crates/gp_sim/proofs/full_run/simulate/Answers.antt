use Rattle.std.proofs.Common.{◌++◌, length, map, sym, ap, ◌∙◌, subst, arith}
use Rattle.std.specs.Prelude.{Result, Ok, Err, IfOk}
use Rattle.gp_journal.specs.Settings.{AreInRange}
use Rattle.gp_journal.specs.State.{code_of}
use Rattle.gp_journal.specs.Run.{IsFinished}
use Rattle.gp_journal.specs.Profiles.{records_of, AreFrozen}
use Rattle.gp_journal.proofs.Lemmas.{records_are_frozen}
use Rattle.gp_events.specs.Sums.{sums}
use Rattle.gp_history.specs.Events.{block_events, mutex_events}
use Rattle.gp_ring.specs.Records.{Covers}
use Rattle.gp_ring.specs.PlainRing.{closed}
use Rattle.gp_cpu.specs.Records.{ring_record_of}
use Rattle.gp_cpu.specs.Samples.{samples_of_journal}
use Rattle.gp_samples.specs.RunRing.{taken_to_end, BeginWithHead}
use Rattle.gp_sim.specs.Choice.{SoFar}
use Rattle.gp_sim.specs.kept.Simulation.{KeepsItsRing}
use Rattle.gp_sim.specs.kept.Turns.{IsPartOfSim}
use Rattle.gp_samples.proofs.Offers.{entries_few}
use Rattle.gp_sim.proofs.Turns.{begins, turns_few, took_turn, took_none, read_whole, turns_at_end, entries_at_end}
use Rattle.gp_sim.proofs.full_run.simulate.Goals as goal

-- what holds where there is a value, of what is told of it
by_one : {A E : Type 0} (P Q : A → Type 0) (r : Result A E) → ((x : A) → P x → Q x) → IfOk r P → IfOk r Q
by_one P Q (Ok x) f p = f x p
by_one P Q (Err e) f p = p

by_two : {A E : Type 0} (P Q S : A → Type 0) (r : Result A E) → ((x : A) → P x → Q x → S x) → IfOk r P → IfOk r Q → IfOk r S
by_two P Q S (Ok x) f p q = f x p q
by_two P Q S (Err e) f p q = p

pub loop-simulation-init : goal.loop-simulation-init
loop-simulation-init g c =
    let range = subst AreInRange c.requires.settings c.requires.range in
    record { part = subst (IsPartOfSim g.R.Run.program g.R.Run.settings 0) (sym c.in_ok-simulation.ensures) (begins g.R.Run.program g.R.Run.settings range) }

pub turn-requires-clause-room : goal.turn-requires-clause-room
turn-requires-clause-room g c =
    let range = subst AreInRange c.requires.settings c.requires.range in
    let part = c.loop-simulation.invariant.part in
    let taken = part.taken_bound in
    let few = turns_few g.R.Run.program g.R.Run.settings range c.loop-simulation.turns c.loop-simulation.simulation part in
    let most = entries_few g.R.Run.settings range in
    omega arith

pub overflow_add-turns : goal.overflow_add-turns
overflow_add-turns g c =
    let range = subst AreInRange c.requires.settings c.requires.range in
    let part = c.loop-simulation.invariant.part in
    let few = turns_few g.R.Run.program g.R.Run.settings range c.loop-simulation.turns c.loop-simulation.simulation part in
    let most = entries_few g.R.Run.settings range in
    omega arith

pub loop-simulation-smaller : goal.loop-simulation-smaller
loop-simulation-smaller g c =
    let range = subst AreInRange c.requires.settings c.requires.range in
    let part = c.loop-simulation.invariant.part in
    let took = took_turn g.R.Run.program g.R.Run.settings c.loop-simulation.turns c.loop-simulation.simulation c.turn.new.self c.in_ok-turn.field-0 range part c.in_ok-turn.ensures.turn c.if-branch.true in
    let few = took.few in
    omega arith

pub loop-simulation-preserved : goal.loop-simulation-preserved
loop-simulation-preserved g c =
    let range = subst AreInRange c.requires.settings c.requires.range in
    let part = c.loop-simulation.invariant.part in
    let took = took_turn g.R.Run.program g.R.Run.settings c.loop-simulation.turns c.loop-simulation.simulation c.turn.new.self c.in_ok-turn.field-0 range part c.in_ok-turn.ensures.turn c.if-branch.true in
    record { part = took.part }

pub end-requires-clause-ring : goal.end-requires-clause-ring
end-requires-clause-ring g c =
    let range = subst AreInRange c.requires.settings c.requires.range in
    let part = c.loop-simulation.invariant.part in
    let ended = took_none g.R.Run.program g.R.Run.settings c.loop-simulation.turns c.loop-simulation.simulation c.turn.new.self c.in_ok-turn.field-0 range part c.in_ok-turn.ensures.turn c.if-branch.false in
    subst (KeepsItsRing g.R.Run.program g.R.Run.settings) (sym ended.same) part.ring

pub end-requires-clause-few : goal.end-requires-clause-few
end-requires-clause-few g c =
    let range = subst AreInRange c.requires.settings c.requires.range in
    let part = c.loop-simulation.invariant.part in
    let few = turns_few g.R.Run.program g.R.Run.settings range c.loop-simulation.turns c.loop-simulation.simulation part in
    let most = entries_few g.R.Run.settings range in
    omega arith

pub returns-clause-journal : goal.returns-clause-journal
returns-clause-journal g c =
    let range = subst AreInRange c.requires.settings c.requires.range in
    let part = c.loop-simulation.invariant.part in
    let ended = took_none g.R.Run.program g.R.Run.settings c.loop-simulation.turns c.loop-simulation.simulation c.turn.new.self c.in_ok-turn.field-0 range part c.in_ok-turn.ensures.turn c.if-branch.false in
    by_one _ _ c.end.result (λ run machine. machine ∙ ap (λ (s : SoFar). s.journal) ended.same ∙ sym (ap (λ (s : SoFar). s.journal) ended.all)) c.end.ensures.machine

pub returns-clause-finished : goal.returns-clause-finished
returns-clause-finished g c =
    let range = subst AreInRange c.requires.settings c.requires.range in
    let part = c.loop-simulation.invariant.part in
    let ended = took_none g.R.Run.program g.R.Run.settings c.loop-simulation.turns c.loop-simulation.simulation c.turn.new.self c.in_ok-turn.field-0 range part c.in_ok-turn.ensures.turn c.if-branch.false in
    by_one _ _ c.end.result (λ run machine. subst (IsFinished (code_of g.R.Run.program) g.R.Run.settings) (sym (machine ∙ ap (λ (s : SoFar). s.journal) ended.same)) ended.finished) c.end.ensures.machine

pub returns-clause-records : goal.returns-clause-records
returns-clause-records g c =
    let range = subst AreInRange c.requires.settings c.requires.range in
    let part = c.loop-simulation.invariant.part in
    let ended = took_none g.R.Run.program g.R.Run.settings c.loop-simulation.turns c.loop-simulation.simulation c.turn.new.self c.in_ok-turn.field-0 range part c.in_ok-turn.ensures.turn c.if-branch.false in
    by_two _ _ _ c.end.result (λ run machine records. records ∙ ap (records_of (code_of g.R.Run.program) g.R.Run.settings) (sym machine)) c.end.ensures.machine c.end.ensures.records

pub returns-clause-frozen : goal.returns-clause-frozen
returns-clause-frozen g c =
    let range = subst AreInRange c.requires.settings c.requires.range in
    let part = c.loop-simulation.invariant.part in
    let ended = took_none g.R.Run.program g.R.Run.settings c.loop-simulation.turns c.loop-simulation.simulation c.turn.new.self c.in_ok-turn.field-0 range part c.in_ok-turn.ensures.turn c.if-branch.false in
    by_two _ _ _ c.end.result
    (λ run machine records.
    let same = machine ∙ ap (λ (s : SoFar). s.journal) ended.same in
    let all = records ∙ ap (λ (s : SoFar). records_of (code_of g.R.Run.program) g.R.Run.settings s.journal) ended.same in
    subst (λ j. AreFrozen (code_of g.R.Run.program) g.R.Run.settings j run.records) (sym same)
    (subst (AreFrozen (code_of g.R.Run.program) g.R.Run.settings c.loop-simulation.simulation.journal) (sym all)
    (records_are_frozen (code_of g.R.Run.program) g.R.Run.settings c.loop-simulation.simulation.journal ended.finished.legal ended.finished.complete.none_active)))
    c.end.ensures.machine c.end.ensures.records

pub returns-clause-block : goal.returns-clause-block
returns-clause-block g c =
    let range = subst AreInRange c.requires.settings c.requires.range in
    let part = c.loop-simulation.invariant.part in
    let ended = took_none g.R.Run.program g.R.Run.settings c.loop-simulation.turns c.loop-simulation.simulation c.turn.new.self c.in_ok-turn.field-0 range part c.in_ok-turn.ensures.turn c.if-branch.false in
    by_two _ _ _ c.end.result (λ run machine block. block ∙ ap (λ j. sums (block_events (code_of g.R.Run.program) g.R.Run.settings j)) (sym machine)) c.end.ensures.machine c.end.ensures.block

pub returns-clause-mutex : goal.returns-clause-mutex
returns-clause-mutex g c =
    let range = subst AreInRange c.requires.settings c.requires.range in
    let part = c.loop-simulation.invariant.part in
    let ended = took_none g.R.Run.program g.R.Run.settings c.loop-simulation.turns c.loop-simulation.simulation c.turn.new.self c.in_ok-turn.field-0 range part c.in_ok-turn.ensures.turn c.if-branch.false in
    by_two _ _ _ c.end.result (λ run machine mutex. mutex ∙ ap (λ j. sums (mutex_events (code_of g.R.Run.program) g.R.Run.settings j)) (sym machine)) c.end.ensures.machine c.end.ensures.mutex

pub returns-clause-cpu : goal.returns-clause-cpu
returns-clause-cpu g c =
    let range = subst AreInRange c.requires.settings c.requires.range in
    let part = c.loop-simulation.invariant.part in
    let ended = took_none g.R.Run.program g.R.Run.settings c.loop-simulation.turns c.loop-simulation.simulation c.turn.new.self c.in_ok-turn.field-0 range part c.in_ok-turn.ensures.turn c.if-branch.false in
    by_one _ _ c.end.result (λ run cpu. cpu ∙ ap (λ (s : SoFar). s.records ++ taken_to_end 3 (closed s.ring)) (ended.same ∙ sym ended.all)) c.end.ensures.cpu

pub returns-clause-covered : goal.returns-clause-covered
returns-clause-covered g c =
    let range = subst AreInRange c.requires.settings c.requires.range in
    let part = c.loop-simulation.invariant.part in
    let ended = took_none g.R.Run.program g.R.Run.settings c.loop-simulation.turns c.loop-simulation.simulation c.turn.new.self c.in_ok-turn.field-0 range part c.in_ok-turn.ensures.turn c.if-branch.false in
    let all = read_whole g.R.Run.program g.R.Run.settings range c.loop-simulation.turns c.loop-simulation.simulation part in
    by_two _ _ _ c.end.result
    (λ run machine cpu.
    let same = machine ∙ ap (λ (s : SoFar). s.journal) ended.same in
    let read = cpu ∙ ap (λ (s : SoFar). s.records ++ taken_to_end 3 (closed s.ring)) ended.same in
    subst (λ j. Covers (map ring_record_of run.cpu) (samples_of_journal (code_of g.R.Run.program) g.R.Run.settings j)) (sym same)
    (subst (λ l. Covers l (samples_of_journal (code_of g.R.Run.program) g.R.Run.settings c.loop-simulation.simulation.journal)) (sym read) all.covered))
    c.end.ensures.machine c.end.ensures.cpu

pub returns-clause-head : goal.returns-clause-head
returns-clause-head g c =
    let range = subst AreInRange c.requires.settings c.requires.range in
    let part = c.loop-simulation.invariant.part in
    let ended = took_none g.R.Run.program g.R.Run.settings c.loop-simulation.turns c.loop-simulation.simulation c.turn.new.self c.in_ok-turn.field-0 range part c.in_ok-turn.ensures.turn c.if-branch.false in
    let all = read_whole g.R.Run.program g.R.Run.settings range c.loop-simulation.turns c.loop-simulation.simulation part in
    by_two _ _ _ c.end.result
    (λ run machine cpu.
    let same = machine ∙ ap (λ (s : SoFar). s.journal) ended.same in
    let read = cpu ∙ ap (λ (s : SoFar). s.records ++ taken_to_end 3 (closed s.ring)) ended.same in
    subst (λ j. BeginWithHead g.R.Run.program g.R.Run.settings j (map ring_record_of run.cpu)) (sym same)
    (subst (BeginWithHead g.R.Run.program g.R.Run.settings c.loop-simulation.simulation.journal) (sym read) all.begins))
    c.end.ensures.machine c.end.ensures.cpu

pub returns-clause-entries : goal.returns-clause-entries
returns-clause-entries g c =
    let range = subst AreInRange c.requires.settings c.requires.range in
    let part = c.loop-simulation.invariant.part in
    let ended = took_none g.R.Run.program g.R.Run.settings c.loop-simulation.turns c.loop-simulation.simulation c.turn.new.self c.in_ok-turn.field-0 range part c.in_ok-turn.ensures.turn c.if-branch.false in
    let few = entries_at_end g.R.Run.program g.R.Run.settings range c.loop-simulation.turns c.loop-simulation.simulation part in
    by_one _ _ c.end.result (λ run machine. let same = ap length (machine ∙ ap (λ (s : SoFar). s.journal) ended.same) in omega arith) c.end.ensures.machine

pub returns-clause-least : goal.returns-clause-least
returns-clause-least g c =
    let range = subst AreInRange c.requires.settings c.requires.range in
    let part = c.loop-simulation.invariant.part in
    let ended = took_none g.R.Run.program g.R.Run.settings c.loop-simulation.turns c.loop-simulation.simulation c.turn.new.self c.in_ok-turn.field-0 range part c.in_ok-turn.ensures.turn c.if-branch.false in
    let bound = part.entries_bound in
    by_two _ _ _ c.end.result (λ run machine least. let same = ap length (machine ∙ ap (λ (s : SoFar). s.journal) ended.same) in omega arith) c.end.ensures.machine c.end.ensures.least

pub returns-clause-turns : goal.returns-clause-turns
returns-clause-turns g c =
    let range = subst AreInRange c.requires.settings c.requires.range in
    let part = c.loop-simulation.invariant.part in
    let ended = took_none g.R.Run.program g.R.Run.settings c.loop-simulation.turns c.loop-simulation.simulation c.turn.new.self c.in_ok-turn.field-0 range part c.in_ok-turn.ensures.turn c.if-branch.false in
    let few = turns_at_end g.R.Run.program g.R.Run.settings range c.loop-simulation.turns c.loop-simulation.simulation part in
    let same = ap (λ (s : SoFar). length (taken_to_end 3 (closed s.ring))) ended.same in
    by_one _ _ c.end.result (λ run turns. omega arith) c.end.ensures.turns
