use Rattle.std.proofs.Common.{rules, arith, ◌≡◌, ◌+◌, ◌++◌, ◌∷◌, [], refl, ap, sym, ◌∙◌, subst}
use Rattle.std.proofs.lemmas.List.{nil_from_length}
use Rattle.std.specs.Vec.Iter.{into_iter_items}
use Rattle.std.specs.Prelude.{map}
use Rattle.std.specs.List.{range_with_len}
use Rattle.gp_journal.specs.Due.{IsComplete}
use Rattle.gp_journal.specs.Run.{state_of}
use Rattle.gp_tally.specs.declared.row.Row.{Row}
use Rattle.gp_world.specs.Scene.{Scene}
use Rattle.gp_workers.specs.Actors.{numbers_of}
use Rattle.gp_workers.specs.kept.Ending.{done_in, made_in}
use Rattle.gp_workers.proofs.Counts.{done_first, made_first, low_first, noted_on, low_now, low_rest, all_noted, made_all}
use Rattle.gp_workers.proofs.run.count.Goals as goal

pub loop-worker-init : goal.loop-worker-init
loop-worker-init g c =
    let program = g.R.Run.program in let settings = g.R.Run.settings in let journal = c.args.world.now.journal in let legal = c.machine.ensures.legal in
    let items = into_iter_items c.into_iter-worker-iterator.result in
    let all : numbers_of items ≡ range_with_len 0 settings.workers = ap numbers_of c.into_iter-worker-iterator.ensures.into_iter_gives.0 ∙ c.requires.workers in
    record {
      same = refl;
      done = done_first program settings journal c.requires.range legal items all c.in_ok-with_capacity.field-0.items c.in_ok-with_capacity.ensures.items;
      made = made_first program settings journal c.requires.range legal items all c.in_ok-with_capacity-2.field-0.items c.in_ok-with_capacity-2.ensures.items;
      low = low_first program settings journal c.requires.range legal items all;
      done_room = search rules;
      made_room = search rules;
    }

pub note-requires-clause-number : goal.note-requires-clause-number
note-requires-clause-number g c =
    low_now (into_iter_items c.loop-worker.worker-iterator) (into_iter_items c.next.new.self) c.in-Some.worker c.in-Some.ensures.steps.0 g.R.Run.settings.workers c.loop-worker.invariant.low

pub loop-worker-preserved : goal.loop-worker-preserved
loop-worker-preserved g c =
    let program = g.R.Run.program in let settings = g.R.Run.settings in let journal = c.args.world.now.journal in let was = c.loop-worker.invariant in
    let rest = into_iter_items c.loop-worker.worker-iterator in let left = into_iter_items c.next.new.self in let it = c.in-Some.worker in let steps = c.in-Some.ensures.steps.0 in
    record {
      same = c.note.ensures.same ∙ was.same;
      done = noted_on rest left it steps (done_in program settings journal) c.loop-worker.tally.done.items c.note.new.tally.done.items _ was.done
          (c.note.ensures.done ∙ ap (λ (w : Scene). c.loop-worker.tally.done.items ++ done_in program settings w.journal it.number ∷ []) was.same);
      made = noted_on rest left it steps (made_in settings journal) c.loop-worker.tally.made.items c.note.new.tally.made.items _ was.made
          (c.note.ensures.made ∙ ap (λ (w : Scene). c.loop-worker.tally.made.items ++ made_in settings w.journal it.number ∷ []) was.same);
      low = low_rest rest left it steps settings.workers was.low;
      done_room = let steps = c.in-Some.ensures.steps.1 in let room = was.done_room in let few = c.note.ensures.done_few in let same = c.note.ensures.done_room in omega arith;
      made_room = let steps = c.in-Some.ensures.steps.1 in let room = was.made_room in let few = c.note.ensures.made_few in let same = c.note.ensures.made_room in omega arith;
    }

pub returns-clause-done : goal.returns-clause-done
returns-clause-done g c =
    let none : into_iter_items c.loop-worker.worker-iterator ≡ [] = search (rules, nil_from_length) in
    all_noted (done_in g.R.Run.program g.R.Run.settings c.args.world.now.journal) c.loop-worker.tally.done.items _ (into_iter_items c.loop-worker.worker-iterator) none c.loop-worker.invariant.done

pub returns-clause-made : goal.returns-clause-made
returns-clause-made g c =
    let settings = g.R.Run.settings in let journal = c.args.world.now.journal in let was = c.loop-worker.invariant in
    let none : into_iter_items c.loop-worker.worker-iterator ≡ [] = search (rules, nil_from_length) in
    c.push_reserved.ensures.items
    ∙ made_all settings journal c.loop-worker.tally.made.items _ (all_noted (made_in settings journal) c.loop-worker.tally.made.items _ (into_iter_items c.loop-worker.worker-iterator) none was.made)
    (c.checked.ensures.made ∙ ap (λ (w : Scene). made_in settings w.journal c.args.profiler.now.number) was.same ∙ ap (made_in settings journal) c.requires.profiler.number)

pub returns-clause-complete : goal.returns-clause-complete
returns-clause-complete g c =
    subst (λ (w : Scene). IsComplete g.R.Run.settings (state_of g.R.Run.program g.R.Run.settings w.journal)) c.loop-worker.invariant.same (c.checked.ensures.complete c.requires.profiler.number (ap (λ (r : Row). r.a) c.checked.ensures.row ∙ c.requires.finished))
