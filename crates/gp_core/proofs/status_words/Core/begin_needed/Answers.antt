use Rattle.std.proofs.Common.{◌≡◌, ◌++◌, List, true, set, None, sym, ap, ◌∙◌, subst, arith}
use Rattle.gp_journal.specs.declared.entry.Entry.{Entry}
use Rattle.gp_journal.specs.Run.{state_of}
use Rattle.gp_journal.specs.State.{code_of}
use Rattle.gp_core.specs.declared.event.CoreEvent.TheVariants as event
use Rattle.gp_core.specs.CoreState.{CoreState, now, copy_in, with_copy}
use Rattle.gp_core.specs.Enabled.{IsEnabled, is_needed, start_of}
use Rattle.gp_core.specs.Stepped.{stepped, kept_with}
use Rattle.gp_core.specs.kept.Core.{core_of, IsReachedBy}
use Rattle.gp_core.proofs.Running.{hand_found, begun, needed_core}
use Rattle.gp_core.proofs.status_words.Core.begin_needed.Goals as goal

pub invariant_of-self-2 : goal.invariant_of-self-2
invariant_of-self-2 g c =
    let P = g.R.Run.program in let S = g.R.Run.settings in let m = c.self.inside in let w = c.args.w in let h = c.args.g in
    let may = subst (λ (core : CoreState). IsEnabled (code_of P) S core (event.Begin c.args.w c.args.g)) (sym c.self.view_is) c.requires.enabled in
    let needed : is_needed (now (code_of P) S (core_of m.machine m.words.items m.bodies.items m.hands.items m.copies.items)) h ≡ true =
    ap (λ (core : CoreState). is_needed (now (code_of P) S core) h) c.self.view_is ∙ c.requires.needed in
    let old = hand_found P S m.workers m.room m.machine m.words.items m.bodies.items m.hands.items m.copies.items c.self.invariant w c.index_mut.result.now (let i = may.is_worker in omega arith) c.index_mut.ensures.value in
    let entries = c.start.ensures ∙ ap (λ (j : List Entry). j ++ start_of S (state_of P S j) w h) c.make.ensures.journal in
    let new = c.keep_copy.ensures.hand ∙ ap (with_copy None) old in
    let kept = c.keep_copy.ensures.copies ∙ (λ i. c.in_ok-reserve.ensures.items i ++ kept_with (c.active-epoch.ensures i) (copy_in (old i))) in
    let same = (λ i. core_of (entries i) m.words.items m.bodies.items (set m.hands.items w (new i)) (kept i)) ∙ needed_core P S m.workers m.room m.machine m.words.items m.bodies.items m.hands.items m.copies.items c.self.invariant w h needed in
    subst (IsReachedBy P S m.workers m.room m.bodies.items) (sym same) (begun P S m.workers m.room m.machine m.words.items m.bodies.items m.hands.items m.copies.items c.self.invariant w h may)

pub returns-clause-ok : goal.returns-clause-ok
returns-clause-ok g c =
    let P = g.R.Run.program in let S = g.R.Run.settings in let m = c.self.inside in let w = c.args.w in let h = c.args.g in
    let may = subst (λ (core : CoreState). IsEnabled (code_of P) S core (event.Begin c.args.w c.args.g)) (sym c.self.view_is) c.requires.enabled in
    let needed : is_needed (now (code_of P) S (core_of m.machine m.words.items m.bodies.items m.hands.items m.copies.items)) h ≡ true =
    ap (λ (core : CoreState). is_needed (now (code_of P) S core) h) c.self.view_is ∙ c.requires.needed in
    let old = hand_found P S m.workers m.room m.machine m.words.items m.bodies.items m.hands.items m.copies.items c.self.invariant w c.index_mut.result.now (let i = may.is_worker in omega arith) c.index_mut.ensures.value in
    let entries = c.start.ensures ∙ ap (λ (j : List Entry). j ++ start_of S (state_of P S j) w h) c.make.ensures.journal in
    let new = c.keep_copy.ensures.hand ∙ ap (with_copy None) old in
    let kept = c.keep_copy.ensures.copies ∙ (λ i. c.in_ok-reserve.ensures.items i ++ kept_with (c.active-epoch.ensures i) (copy_in (old i))) in
    let same = (λ i. core_of (entries i) m.words.items m.bodies.items (set m.hands.items w (new i)) (kept i)) ∙ needed_core P S m.workers m.room m.machine m.words.items m.bodies.items m.hands.items m.copies.items c.self.invariant w h needed in
    same ∙ ap (λ (core : CoreState). stepped (code_of P) S core (event.Begin w h)) c.self.view_is
