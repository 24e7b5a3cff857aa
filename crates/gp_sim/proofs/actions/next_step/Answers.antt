use Rattle.std.proofs.Common.{◌≡◌, ◌≤◌, ◌<◌, Bool, Option, Some, None, IfNone, length, sym, ap, ◌∙◌, refl, arith, true, false}
use mir.Val.{bool_byte}
use Rattle.gp_journal.specs.State.{code_of}
use Rattle.gp_journal.specs.Run.{last}
use Rattle.gp_ring.specs.PlainRing.{has_more}
use Rattle.gp_sim.specs.Choice.{actions, acts_of}
use Rattle.gp_sim.specs.declared.numbers.Act.TheVariants.{Make, Read}
use Rattle.gp_sim.specs.kept.Acting.{able, number_acting}
use Rattle.gp_sim.specs.kept.Numbers.{drawn_of}
use Rattle.gp_sim.proofs.Places.{total_is, few_able, worker_there, profiler_there}
use Rattle.gp_sim.proofs.Actors.{acts_counted, acting_few, made_there, read_there}
use Rattle.gp_sim.proofs.Choosing.{chosen_at, none_chosen_of, draw_within}
use Rattle.gp_sim.proofs.actions.next_step.Goals as goal

byte_few : (b : Bool) → bool_byte b ≤ 1
byte_few true = omega arith
byte_few false = omega arith

if_none : {X : Type 0} (r : Option X) (P : Type 0) → P → IfNone r P
if_none None P p = p
if_none (Some x) P p = tt

pub overflow_add-entries : goal.overflow_add-entries
overflow_add-entries g c =
    let now = last (code_of g.R.Run.program) g.R.Run.settings c.args.machine.now in
    let few = few_able (code_of g.R.Run.program) g.R.Run.settings now (record { journal = c.args.machine.now; legal = c.journal.ensures.legal; its_last = refl }) c.requires.range in
    let most = c.requires.range.workers in
    let is = c.able-workers.ensures in
    omega (arith, byte_few c.profiler_acts.result)

pub number_acting-requires : goal.number_acting-requires
number_acting-requires g c =
    let now = last (code_of g.R.Run.program) g.R.Run.settings c.args.machine.now in
    let few = few_able (code_of g.R.Run.program) g.R.Run.settings now (record { journal = c.args.machine.now; legal = c.journal.ensures.legal; its_last = refl }) c.requires.range in
    let most = c.requires.range.workers in
    let is = c.able-workers.ensures in
    omega (arith, byte_few c.profiler_acts.result)

pub returns-in_err-draw-clause-none : goal.returns-in_err-draw-clause-none
returns-in_err-draw-clause-none g c =
    let now = last (code_of g.R.Run.program) g.R.Run.settings c.args.machine.now in
    let all = actions (code_of g.R.Run.program) g.R.Run.settings now in
    let reads = has_more c.args.ring.now in
    let total = total_is (code_of g.R.Run.program) g.R.Run.settings now (record { journal = c.args.machine.now; legal = c.journal.ensures.legal; its_last = refl }) c.requires.range
    c.able-workers.result c.profiler_acts.result c.able-workers.ensures c.profiler_acts.ensures in
    let acting : c.number_acting.result ≡ length (acts_of all reads) =
    c.number_acting.ensures ∙ (λ i. number_acting (total i) (c.has_more.ensures i)) ∙ sym (acts_counted all reads) in
    if_none c.from_residual.result _
    (none_chosen_of g.R.Run.settings c.args.numbers.now (acts_of all reads) (ap (drawn_of g.R.Run.settings c.args.numbers.now) (sym acting) ∙ sym c.choose.ensures ∙ c.in_err-draw.was))

pub returns-then-draw-workers-clause-turn : goal.returns-then-draw-workers-clause-turn
returns-then-draw-workers-clause-turn g c =
    let now = last (code_of g.R.Run.program) g.R.Run.settings c.args.machine.now in
    let all = actions (code_of g.R.Run.program) g.R.Run.settings now in
    let reads = has_more c.args.ring.now in
    let total = total_is (code_of g.R.Run.program) g.R.Run.settings now (record { journal = c.args.machine.now; legal = c.journal.ensures.legal; its_last = refl }) c.requires.range
    c.able-workers.result c.profiler_acts.result c.able-workers.ensures c.profiler_acts.ensures in
    let acting : c.number_acting.result ≡ length (acts_of all reads) =
    c.number_acting.ensures ∙ (λ i. number_acting (total i) (c.has_more.ensures i)) ∙ sym (acts_counted all reads) in
    let drawn : drawn_of g.R.Run.settings c.args.numbers.now (length (acts_of all reads)) ≡ Some c.in_ok-draw.draw =
    ap (drawn_of g.R.Run.settings c.args.numbers.now) (sym acting) ∙ sym c.choose.ensures ∙ c.in_ok-draw.was in
    let within : c.in_ok-draw.draw.place < length all = let below = c.if-draw-workers.true in omega (arith, total) in
    chosen_at g.R.Run.settings c.args.numbers.now (acts_of all reads) (Make c.worker_action-entry.result.entry) c.in_ok-draw.draw drawn
    (made_there all reads c.in_ok-draw.draw.place c.worker_action-entry.result.entry within
    (worker_there (code_of g.R.Run.program) g.R.Run.settings now (record { journal = c.args.machine.now; legal = c.journal.ensures.legal; its_last = refl }) c.requires.range
    c.in_ok-draw.draw.place c.able_at-w.result c.worker_action-entry.result.entry c.able_at-w.ensures c.worker_action-entry.ensures.entry))

pub returns-then-draw-entries-clause-turn : goal.returns-then-draw-entries-clause-turn
returns-then-draw-entries-clause-turn g c =
    let now = last (code_of g.R.Run.program) g.R.Run.settings c.args.machine.now in
    let all = actions (code_of g.R.Run.program) g.R.Run.settings now in
    let reads = has_more c.args.ring.now in
    let total = total_is (code_of g.R.Run.program) g.R.Run.settings now (record { journal = c.args.machine.now; legal = c.journal.ensures.legal; its_last = refl }) c.requires.range
    c.able-workers.result c.profiler_acts.result c.able-workers.ensures c.profiler_acts.ensures in
    let acting : c.number_acting.result ≡ length (acts_of all reads) =
    c.number_acting.ensures ∙ (λ i. number_acting (total i) (c.has_more.ensures i)) ∙ sym (acts_counted all reads) in
    let drawn : drawn_of g.R.Run.settings c.args.numbers.now (length (acts_of all reads)) ≡ Some c.in_ok-draw.draw =
    ap (drawn_of g.R.Run.settings c.args.numbers.now) (sym acting) ∙ sym c.choose.ensures ∙ c.in_ok-draw.was in
    let below = draw_within g.R.Run.settings c.args.numbers.now (length (acts_of all reads)) c.in_ok-draw.draw drawn in
    let within : c.in_ok-draw.draw.place < number_acting (length all) reads = omega (arith, below, acts_counted all reads) in
    chosen_at g.R.Run.settings c.args.numbers.now (acts_of all reads) Read c.in_ok-draw.draw drawn
    (read_there all reads c.in_ok-draw.draw.place within (let at = c.if-draw-entries.true in omega (arith, total)))

pub returns-clause-turn : goal.returns-clause-turn
returns-clause-turn g c =
    let now = last (code_of g.R.Run.program) g.R.Run.settings c.args.machine.now in
    let all = actions (code_of g.R.Run.program) g.R.Run.settings now in
    let reads = has_more c.args.ring.now in
    let total = total_is (code_of g.R.Run.program) g.R.Run.settings now (record { journal = c.args.machine.now; legal = c.journal.ensures.legal; its_last = refl }) c.requires.range
    c.able-workers.result c.profiler_acts.result c.able-workers.ensures c.profiler_acts.ensures in
    let acting : c.number_acting.result ≡ length (acts_of all reads) =
    c.number_acting.ensures ∙ (λ i. number_acting (total i) (c.has_more.ensures i)) ∙ sym (acts_counted all reads) in
    let drawn : drawn_of g.R.Run.settings c.args.numbers.now (length (acts_of all reads)) ≡ Some c.in_ok-draw.draw =
    ap (drawn_of g.R.Run.settings c.args.numbers.now) (sym acting) ∙ sym c.choose.ensures ∙ c.in_ok-draw.was in
    let below = draw_within g.R.Run.settings c.args.numbers.now (length (acts_of all reads)) c.in_ok-draw.draw drawn in
    let few = acting_few (length all) reads in
    let past = c.if-draw-workers.false in
    let apart = c.if-draw-entries.false in
    let within : c.in_ok-draw.draw.place < length all = omega (arith, below, acts_counted all reads, total) in
    let last_place : c.in_ok-draw.draw.place ≡ able g.R.Run.settings now =
    let is = c.able-workers.ensures in
    omega (arith, byte_few c.profiler_acts.result, total) in
    chosen_at g.R.Run.settings c.args.numbers.now (acts_of all reads) (Make c.in-Some.entry) c.in_ok-draw.draw drawn
    (made_there all reads c.in_ok-draw.draw.place c.in-Some.entry within
    (profiler_there (code_of g.R.Run.program) g.R.Run.settings now (record { journal = c.args.machine.now; legal = c.journal.ensures.legal; its_last = refl }) c.requires.range
    c.in_ok-draw.draw.place c.in-Some.entry last_place (sym c.profiler_action.ensures.entry ∙ c.in-Some.is)))
