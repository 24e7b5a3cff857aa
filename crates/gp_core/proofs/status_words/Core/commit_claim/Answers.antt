use Rattle.std.proofs.Common.{◌≡◌, ◌++◌, ◌∷◌, [], set, None, sym, ap, ◌∙◌, subst}
use Rattle.gp_journal.specs.declared.entry.Entry.TheVariants as entry
use Rattle.gp_journal.specs.State.{code_of}
use Rattle.gp_core.specs.declared.hold.How.TheVariants as how
use Rattle.gp_core.specs.declared.event.CoreEvent.TheVariants as event
use Rattle.gp_core.specs.CoreState.{CoreState, hand, now, HoldsBy, copy_in, with_copy}
use Rattle.gp_core.specs.Enabled.{IsEnabled}
use Rattle.gp_core.specs.Stepped.{kept_with}
use Rattle.gp_core.specs.kept.Core.{core_of, IsReachedBy}
use Rattle.gp_core.proofs.Running.{hand_found, committed}
use Rattle.gp_core.proofs.status_words.Core.commit_claim.Goals as goal

pub invariant_of-self-2 : goal.invariant_of-self-2
invariant_of-self-2 g c =
    let P = g.R.Run.program in let S = g.R.Run.settings in let m = c.self.inside in let w = c.args.a in let h = c.args.g in
    let may = subst (λ (core : CoreState). IsEnabled (code_of P) S core (event.Commit c.args.a c.args.g)) (sym c.self.view_is) c.requires.enabled in
    let has = subst (λ (core : CoreState). HoldsBy how.Claim h (hand core w)) (sym c.self.view_is) c.requires.claimed in
    let old = hand_found P S m.workers m.room m.machine m.words.items m.bodies.items m.hands.items m.copies.items c.self.invariant w c.index_mut.result.now may.is_actor c.index_mut.ensures.value in
    let new = c.keep_copy.ensures.hand ∙ ap (with_copy None) old in
    let kept = c.keep_copy.ensures.copies ∙ (λ i. c.in_ok-reserve.ensures.items i ++ kept_with (c.active-epoch.ensures i) (copy_in (old i))) in
    let core = (core_of m.machine m.words.items m.bodies.items m.hands.items m.copies.items) in
    let same : core_of c.make.new.self m.words.items m.bodies.items (set m.hands.items w c.keep_copy.new.hand) c.keep_copy.new.copies.items
    ≡ core_of (m.machine ++ entry.Record w h ∷ []) m.words.items m.bodies.items (set m.hands.items w (with_copy None (hand core w)))
    (m.copies.items ++ kept_with (now (code_of P) S core).active (copy_in (hand core w))) =
    λ i. core_of (c.make.ensures.journal i) m.words.items m.bodies.items (set m.hands.items w (new i)) (kept i) in
    subst (IsReachedBy P S m.workers m.room m.bodies.items) (sym same) (committed P S m.workers m.room m.machine m.words.items m.bodies.items m.hands.items m.copies.items c.self.invariant w h may has)
