use Rattle.std.proofs.Common.{◌≡◌, ◌-◌, length, ap, sym, ◌∙◌, subst, refl, arith}
use Rattle.std.proofs.lemmas.List.{get_or_read_under}
use Rattle.gp_journal.specs.State.{code_of}
use Rattle.gp_journal.specs.May.{May}
use Rattle.gp_journal.specs.Run.{last}
use Rattle.gp_journal.specs.Actors.{actor_of}
use Rattle.gp_machine.proofs.Kept.{room_left, entries_fit, actor_there, count_fits, keeps_next}
use Rattle.gp_machine.proofs.machine.Machine.apply.Goals as goal

pub apply-answer-requires-clause-room : goal.apply-answer-requires-clause-room
apply-answer-requires-clause-room g c = entries_fit (code_of g.R.Run.program) g.R.Run.settings _ c.self.inside.journal.items c.self.inside.made.items c.self.inside.present c.self.invariant c.args.made
    (subst (λ j. May (code_of g.R.Run.program) g.R.Run.settings (last (code_of g.R.Run.program) g.R.Run.settings j) c.args.made) (sym c.self.view_is) c.requires.legal)

pub index_mut-requires : goal.index_mut-requires
index_mut-requires g c =
    let there = actor_there (code_of g.R.Run.program) g.R.Run.settings _ c.self.inside.journal.items c.self.inside.made.items c.self.inside.present c.self.invariant c.args.made
    (subst (λ j. May (code_of g.R.Run.program) g.R.Run.settings (last (code_of g.R.Run.program) g.R.Run.settings j) c.args.made) (sym c.self.view_is) c.requires.legal) in
    let profiler : c.len.result - 1 ≡ g.R.Run.settings.workers = omega (arith, c.len.ensures, c.self.inside.made.ok.0, c.self.invariant.actors) in
    let same = c.actor_of.ensures ∙ ap (λ n. actor_of n c.args.made) profiler in
    omega (arith, there, same, c.self.inside.made.ok.0)

pub overflow_add-index_mut : goal.overflow_add-index_mut
overflow_add-index_mut g c =
    let there = actor_there (code_of g.R.Run.program) g.R.Run.settings _ c.self.inside.journal.items c.self.inside.made.items c.self.inside.present c.self.invariant c.args.made
    (subst (λ j. May (code_of g.R.Run.program) g.R.Run.settings (last (code_of g.R.Run.program) g.R.Run.settings j) c.args.made) (sym c.self.view_is) c.requires.legal) in
    let profiler : c.len.result - 1 ≡ g.R.Run.settings.workers = omega (arith, c.len.ensures, c.self.inside.made.ok.0, c.self.invariant.actors) in
    let same = c.actor_of.ensures ∙ ap (λ n. actor_of n c.args.made) profiler in
    let value = get_or_read_under c.self.inside.made.items c.actor_of.result (length c.self.inside.made.items) c.index_mut.result.now 0 c.index_mut.ensures.value (omega (arith, there, same)) refl in
    let fits = count_fits (code_of g.R.Run.program) g.R.Run.settings _ c.self.inside.journal.items c.self.inside.made.items c.self.inside.present c.self.invariant c.args.made
    (subst (λ j. May (code_of g.R.Run.program) g.R.Run.settings (last (code_of g.R.Run.program) g.R.Run.settings j) c.args.made) (sym c.self.view_is) c.requires.legal) c.actor_of.result in
    omega (arith, fits, value)

pub unreachable-requires : goal.unreachable-requires
unreachable-requires g c =
    let left = room_left (code_of g.R.Run.program) g.R.Run.settings _ c.self.inside.journal.items c.self.inside.made.items c.self.inside.present c.self.invariant c.args.made
    (subst (λ j. May (code_of g.R.Run.program) g.R.Run.settings (last (code_of g.R.Run.program) g.R.Run.settings j) c.args.made) (sym c.self.view_is) c.requires.legal) in
    omega (arith, left, c.self.invariant.reserved, c.self.inside.journal.ok.0, c.in-Err.ensures.full)

pub invariant_of-self : goal.invariant_of-self
invariant_of-self g c =
    let there = actor_there (code_of g.R.Run.program) g.R.Run.settings _ c.self.inside.journal.items c.self.inside.made.items c.self.inside.present c.self.invariant c.args.made
    (subst (λ j. May (code_of g.R.Run.program) g.R.Run.settings (last (code_of g.R.Run.program) g.R.Run.settings j) c.args.made) (sym c.self.view_is) c.requires.legal) in
    let profiler : c.len.result - 1 ≡ g.R.Run.settings.workers = omega (arith, c.len.ensures, c.self.inside.made.ok.0, c.self.invariant.actors) in
    let same = c.actor_of.ensures ∙ ap (λ n. actor_of n c.args.made) profiler in
    let value = get_or_read_under c.self.inside.made.items c.actor_of.result (length c.self.inside.made.items) c.index_mut.result.now 0 c.index_mut.ensures.value (omega (arith, there, same)) refl in
    rw (value, same) (keeps_next (code_of g.R.Run.program) g.R.Run.settings _ c.self.inside.journal.items c.self.inside.made.items c.self.inside.present c.self.invariant c.args.made
    (subst (λ j. May (code_of g.R.Run.program) g.R.Run.settings (last (code_of g.R.Run.program) g.R.Run.settings j) c.args.made) (sym c.self.view_is) c.requires.legal) _ _ _
    c.push.ensures.capacity c.in-Ok.ensures.items c.apply-answer.ensures.state)
