use Rattle.std.proofs.Common.{◌≡◌, map, ap, sym, ◌∙◌, subst}
use Rattle.gp_events.specs.Sums.{sums}
use Rattle.gp_history.specs.Events.{block_events, mutex_events}
use Rattle.gp_journal.specs.Profiles.{records_of, AreFrozen}
use Rattle.gp_journal.specs.Run.{state_of, IsFinished}
use Rattle.gp_journal.specs.State.{code_of}
use Rattle.gp_journal.specs.Told.{done_of, made_of}
use Rattle.gp_journal.proofs.Lemmas.{records_are_frozen}
use Rattle.gp_ring.specs.Records.{Covers}
use Rattle.gp_ring.specs.TwoEnds.{ReaderEnd}
use Rattle.gp_cpu.specs.Records.{ring_record_of}
use Rattle.gp_cpu.specs.Samples.{samples_of_journal}
use Rattle.gp_samples.specs.RunRing.{BeginWithHead}
use Rattle.gp_world.specs.Scene.{Scene}
use Rattle.gp_workers.proofs.run.take_apart.Goals as goal

pub returns-clause-finished : goal.returns-clause-finished
returns-clause-finished g c =
    let same = c.into_parts-machine.ensures.machine ∙ ap (λ (s : Scene). s.journal) c.settle.ensures.scene in
    subst (IsFinished (code_of g.R.Run.program) g.R.Run.settings) (sym same) (record { legal = c.machine.ensures.legal; complete = c.requires.complete })

pub returns-clause-records : goal.returns-clause-records
returns-clause-records g c = c.into_parts-machine.ensures.records ∙ ap (records_of (code_of g.R.Run.program) g.R.Run.settings) (sym c.into_parts-machine.ensures.machine)

pub returns-clause-frozen : goal.returns-clause-frozen
returns-clause-frozen g c =
    let code = code_of g.R.Run.program in let settings = g.R.Run.settings in let journal = c.args.world.journal in let same = ap (λ (s : Scene). s.journal) c.settle.ensures.scene in
    subst (λ j. AreFrozen code settings j c.into_parts-machine.result.records) (sym (c.into_parts-machine.ensures.machine ∙ same))
    (subst (AreFrozen code settings journal) (sym (c.into_parts-machine.ensures.records ∙ ap (records_of code settings) same))
    (records_are_frozen code settings journal c.machine.ensures.legal c.requires.complete.none_active))

pub returns-clause-block : goal.returns-clause-block
returns-clause-block g c = c.into_parts-machine.ensures.block ∙ ap (λ j. sums (block_events (code_of g.R.Run.program) g.R.Run.settings j)) (sym c.into_parts-machine.ensures.machine)

pub returns-clause-mutex : goal.returns-clause-mutex
returns-clause-mutex g c = c.into_parts-machine.ensures.mutex ∙ ap (λ j. sums (mutex_events (code_of g.R.Run.program) g.R.Run.settings j)) (sym c.into_parts-machine.ensures.machine)

pub returns-clause-cpu : goal.returns-clause-cpu
returns-clause-cpu g c = c.requires.cpu ∙ sym (ap (λ (r : ReaderEnd). r.taken) c.settle.ensures.reader)

pub returns-clause-end : goal.returns-clause-end
returns-clause-end g c = ap (λ (r : ReaderEnd). r.hand) c.settle.ensures.reader ∙ c.requires.end

pub returns-clause-covered : goal.returns-clause-covered
returns-clause-covered g c =
    let code = code_of g.R.Run.program in let settings = g.R.Run.settings in
    let taken : map ring_record_of c.args.cpu ≡ c.settle.new.reader.taken = c.requires.cpu ∙ sym (ap (λ (r : ReaderEnd). r.taken) c.settle.ensures.reader) in
    subst (λ j. Covers (map ring_record_of c.args.cpu) (samples_of_journal code settings j)) (sym c.into_parts-machine.ensures.machine)
    (subst (λ l. Covers l (samples_of_journal code settings c.settle.new.self.journal)) (sym taken) c.settle.ensures.covered)

pub returns-clause-head : goal.returns-clause-head
returns-clause-head g c =
    let program = g.R.Run.program in let settings = g.R.Run.settings in
    let taken : map ring_record_of c.args.cpu ≡ c.settle.new.reader.taken = c.requires.cpu ∙ sym (ap (λ (r : ReaderEnd). r.taken) c.settle.ensures.reader) in
    subst (λ j. BeginWithHead program settings j (map ring_record_of c.args.cpu)) (sym c.into_parts-machine.ensures.machine)
    (subst (BeginWithHead program settings c.settle.new.self.journal) (sym taken) c.settle.ensures.head)

pub returns-clause-done : goal.returns-clause-done
returns-clause-done g c =
    let same = c.into_parts-machine.ensures.machine ∙ ap (λ (s : Scene). s.journal) c.settle.ensures.scene in
    c.from_vec.ensures ∙ c.requires.done ∙ ap (λ j. done_of (state_of g.R.Run.program g.R.Run.settings j)) (sym same)

pub returns-clause-made : goal.returns-clause-made
returns-clause-made g c =
    let same = c.into_parts-machine.ensures.machine ∙ ap (λ (s : Scene). s.journal) c.settle.ensures.scene in
    c.from_vec-2.ensures ∙ c.requires.made ∙ ap (made_of g.R.Run.settings) (sym same)
