use Rattle.std.proofs.Common.{◌≡◌, true, false, None, [], ◌∷◌, ◌++◌, sym, ap, ◌∙◌, subst}
use Rattle.gp_stack.specs.declared.record.Record.{Record as Copy}
use Rattle.gp_tally.specs.Rows.{Part}
use Rattle.gp_journal.specs.declared.entry.Entry.TheVariants as entry
use Rattle.gp_journal.specs.Due.{over}
use Rattle.gp_journal.specs.Effect.{after}
use Rattle.gp_journal.specs.May.{May, is_recorded}
use Rattle.gp_journal.specs.Run.{IsLegal, state_of}
use Rattle.gp_journal.specs.State.{State, code_of, goroutine}
use Rattle.gp_world.specs.declared.begun.Begun.{Begun}
use Rattle.gp_world.specs.declared.begun.Begun.TheVariants as begun
use Rattle.gp_world.specs.Calls.{may_not_start, waiting_after_start, row_after_start}
use Rattle.gp_world.specs.Rows.{row_of, has_nothing, runs_one}
use Rattle.gp_world.specs.kept.Workers.{HasPicked}
use Rattle.gp_world.specs.Scene.{Scene}
use Rattle.gp_world.proofs.Started.{entered, may_record, may_then, picked_then, is_recorded_then, recorded_epoch, both}
use Rattle.gp_world.proofs.world.World.record_and_begin.Goals as goal

pub enter_record-requires-clause-may : goal.enter_record-requires-clause-may
enter_record-requires-clause-may g c =
    let P = g.R.Run.program in let S = g.R.Run.settings in let j = c.args.self.now.journal in let who = c.args.who.now in
    let legal = subst (IsLegal (code_of P) S) (ap (λ (s : Scene). s.journal) c.self.view_is) c.self.invariant.legal in
    subst (λ h. May (code_of P) S (state_of P S j) (entry.Record who.number h)) (sym (ap (λ (r : Copy). r.g) c.requires.copy))
    (may_record P S j legal who.number c.args.g who.row c.requires.picked c.requires.unrecorded)

pub returns-then-over-clause-answer : goal.returns-then-over-clause-answer
returns-then-over-clause-answer g c =
    let P = g.R.Run.program in let S = g.R.Run.settings in let j = c.args.self.now.journal in let who = c.args.who.now in
    let js : c.enter_record.new.self.journal ≡ j ++ entry.Record who.number c.args.g ∷ [] =
    ap (λ (s : Scene). s.journal) c.enter_record.ensures.scene ∙ ap (λ (r : Copy). j ++ entry.Record who.number r.g ∷ []) c.requires.copy in
    let st : state_of P S c.enter_record.new.self.journal ≡ after (code_of P) S (state_of P S j) (entry.Record who.number c.args.g) = ap (state_of P S) js ∙ entered P S j (entry.Record who.number c.args.g) in
    let done : over S (after (code_of P) S (state_of P S j) (entry.Record who.number c.args.g)) ≡ true = ap (over S) (sym st) ∙ sym c.over.ensures ∙ c.if-over.true in
    let epoch : c.active-epoch.result ≡ (state_of P S j).active = c.active-epoch.ensures ∙ ap (λ x. (state_of P S x).active) (c.machine.ensures ∙ ap (λ (s : Scene). s.journal) c.self.view_is) in
    rw done (ap (begun.NotNow None) epoch)

pub returns-then-over-clause-scene : goal.returns-then-over-clause-scene
returns-then-over-clause-scene g c =
    let P = g.R.Run.program in let S = g.R.Run.settings in let j = c.args.self.now.journal in let who = c.args.who.now in
    let js : c.enter_record.new.self.journal ≡ j ++ entry.Record who.number c.args.g ∷ [] =
    ap (λ (s : Scene). s.journal) c.enter_record.ensures.scene ∙ ap (λ (r : Copy). j ++ entry.Record who.number r.g ∷ []) c.requires.copy in
    let st : state_of P S c.enter_record.new.self.journal ≡ after (code_of P) S (state_of P S j) (entry.Record who.number c.args.g) = ap (state_of P S) js ∙ entered P S j (entry.Record who.number c.args.g) in
    let done : over S (after (code_of P) S (state_of P S j) (entry.Record who.number c.args.g)) ≡ true = ap (over S) (sym st) ∙ sym c.over.ensures ∙ c.if-over.true in
    let e = c.enter_record.ensures.scene in
    rw done (c.put_back.ensures.scene ∙ (λ i. record { book = (e i).book; journal = js i; waiting = c.args.g ∷ (e i).waiting; ring = (e i).ring; failed = (e i).failed }))

pub returns-then-over-clause-share : goal.returns-then-over-clause-share
returns-then-over-clause-share g c =
    let P = g.R.Run.program in let S = g.R.Run.settings in
    let same = ap (λ (s : Scene). s.journal) c.put_back.ensures.scene in
    let e = c.enter_record.ensures.share in
    c.put_back.ensures.share ∙ (λ i. record { book = (e i).book; number = (e i).number; row = row_of P S (sym same i) (e i).number has_nothing 0 })

pub begin-requires-clause-picked : goal.begin-requires-clause-picked
begin-requires-clause-picked g c =
    let P = g.R.Run.program in let S = g.R.Run.settings in let j = c.args.self.now.journal in let who = c.args.who.now in
    let legal = subst (IsLegal (code_of P) S) (ap (λ (s : Scene). s.journal) c.self.view_is) c.self.invariant.legal in
    let js : c.enter_record.new.self.journal ≡ j ++ entry.Record who.number c.args.g ∷ [] =
    ap (λ (s : Scene). s.journal) c.enter_record.ensures.scene ∙ ap (λ (r : Copy). j ++ entry.Record who.number r.g ∷ []) c.requires.copy in
    let later = c.enter_record.new.who.row in
    let is : later ≡ row_of P S (j ++ entry.Record who.number c.args.g ∷ []) who.number who.row.a who.row.b =
    ap (λ (p : Part). p.row) c.enter_record.ensures.share ∙ ap (λ x. row_of P S x who.number who.row.a who.row.b) js in
    let number = ap (λ (p : Part). p.number) c.enter_record.ensures.share in
    subst (λ x. HasPicked P S x c.enter_record.new.who.number later c.args.g) (sym js)
    (subst (λ n. HasPicked P S (j ++ entry.Record who.number c.args.g ∷ []) n later c.args.g) (sym number)
    (picked_then P S j legal who.number c.args.g who.row c.requires.picked later is))

pub begin-requires-clause-may : goal.begin-requires-clause-may
begin-requires-clause-may g c =
    let P = g.R.Run.program in let S = g.R.Run.settings in let j = c.args.self.now.journal in let who = c.args.who.now in
    let legal = subst (IsLegal (code_of P) S) (ap (λ (s : Scene). s.journal) c.self.view_is) c.self.invariant.legal in
    let js : c.enter_record.new.self.journal ≡ j ++ entry.Record who.number c.args.g ∷ [] =
    ap (λ (s : Scene). s.journal) c.enter_record.ensures.scene ∙ ap (λ (r : Copy). j ++ entry.Record who.number r.g ∷ []) c.requires.copy in
    let st : state_of P S c.enter_record.new.self.journal ≡ after (code_of P) S (state_of P S j) (entry.Record who.number c.args.g) = ap (state_of P S) js ∙ entered P S j (entry.Record who.number c.args.g) in
    let going : over S (after (code_of P) S (state_of P S j) (entry.Record who.number c.args.g)) ≡ false = ap (over S) (sym st) ∙ sym c.over.ensures ∙ c.if-over.false in
    subst (λ (s : State). may_not_start S s ≡ false) (sym st) (may_then P S j legal who.number c.args.g who.row c.requires.picked c.requires.unrecorded going)

pub begin-requires-clause-recorded : goal.begin-requires-clause-recorded
begin-requires-clause-recorded g c =
    let P = g.R.Run.program in let S = g.R.Run.settings in let j = c.args.self.now.journal in let who = c.args.who.now in
    let legal = subst (IsLegal (code_of P) S) (ap (λ (s : Scene). s.journal) c.self.view_is) c.self.invariant.legal in
    let js : c.enter_record.new.self.journal ≡ j ++ entry.Record who.number c.args.g ∷ [] =
    ap (λ (s : Scene). s.journal) c.enter_record.ensures.scene ∙ ap (λ (r : Copy). j ++ entry.Record who.number r.g ∷ []) c.requires.copy in
    let st : state_of P S c.enter_record.new.self.journal ≡ after (code_of P) S (state_of P S j) (entry.Record who.number c.args.g) = ap (state_of P S) js ∙ entered P S j (entry.Record who.number c.args.g) in
    subst (λ (s : State). is_recorded s c.args.g ≡ true) (sym st) (is_recorded_then P S j legal who.number c.args.g who.row c.requires.picked)

pub returns-clause-answer : goal.returns-clause-answer
returns-clause-answer g c =
    let P = g.R.Run.program in let S = g.R.Run.settings in let j = c.args.self.now.journal in let who = c.args.who.now in
    let legal = subst (IsLegal (code_of P) S) (ap (λ (s : Scene). s.journal) c.self.view_is) c.self.invariant.legal in
    let js : c.enter_record.new.self.journal ≡ j ++ entry.Record who.number c.args.g ∷ [] =
    ap (λ (s : Scene). s.journal) c.enter_record.ensures.scene ∙ ap (λ (r : Copy). j ++ entry.Record who.number r.g ∷ []) c.requires.copy in
    let st : state_of P S c.enter_record.new.self.journal ≡ after (code_of P) S (state_of P S j) (entry.Record who.number c.args.g) = ap (state_of P S) js ∙ entered P S j (entry.Record who.number c.args.g) in
    let going : over S (after (code_of P) S (state_of P S j) (entry.Record who.number c.args.g)) ≡ false = ap (over S) (sym st) ∙ sym c.over.ensures ∙ c.if-over.false in
    rw going (c.begin.ensures.answer ∙ ap (λ (s : State). begun.Started (goroutine s c.args.g).epoch) st ∙ ap begun.Started (recorded_epoch P S j legal who.number c.args.g who.row c.requires.picked))

pub returns-clause-scene : goal.returns-clause-scene
returns-clause-scene g c =
    let P = g.R.Run.program in let S = g.R.Run.settings in let j = c.args.self.now.journal in let who = c.args.who.now in
    let js : c.enter_record.new.self.journal ≡ j ++ entry.Record who.number c.args.g ∷ [] =
    ap (λ (s : Scene). s.journal) c.enter_record.ensures.scene ∙ ap (λ (r : Copy). j ++ entry.Record who.number r.g ∷ []) c.requires.copy in
    let st : state_of P S c.enter_record.new.self.journal ≡ after (code_of P) S (state_of P S j) (entry.Record who.number c.args.g) = ap (state_of P S) js ∙ entered P S j (entry.Record who.number c.args.g) in
    let going : over S (after (code_of P) S (state_of P S j) (entry.Record who.number c.args.g)) ≡ false = ap (over S) (sym st) ∙ sym c.over.ensures ∙ c.if-over.false in
    let e = c.enter_record.ensures.scene in
    let number = ap (λ (p : Part). p.number) c.enter_record.ensures.share in
    let entries : c.enter_record.new.self.journal ++ entry.Start c.enter_record.new.who.number c.args.g ∷ [] ≡ j ++ entry.Record who.number c.args.g ∷ entry.Start who.number c.args.g ∷ [] =
    (λ i. js i ++ entry.Start (number i) c.args.g ∷ []) ∙ both j (entry.Record who.number c.args.g) (entry.Start who.number c.args.g) in
    let waits : c.enter_record.new.self.waiting ≡ waiting_after_start c.begin.result c.args.g c.args.self.now.waiting =
    ap (λ (s : Scene). s.waiting) e ∙ sym (ap (λ (b : Begun). waiting_after_start b c.args.g c.args.self.now.waiting) c.begin.ensures.answer) in
    rw going (c.begin.ensures.scene ∙ (λ i. record { book = (e i).book; journal = entries i; waiting = waits i; ring = (e i).ring; failed = (e i).failed }))

pub returns-clause-share : goal.returns-clause-share
returns-clause-share g c =
    let P = g.R.Run.program in let S = g.R.Run.settings in let who = c.args.who.now in
    let e = c.enter_record.ensures.share in
    let j = c.begin.new.self.journal in
    let row : row_of P S j c.enter_record.new.who.number runs_one c.args.g ≡ row_after_start P S j who.number c.args.g c.begin.result =
    ap (λ (p : Part). row_of P S j p.number runs_one c.args.g) e ∙ sym (ap (λ (b : Begun). row_after_start P S j who.number c.args.g b) c.begin.ensures.answer) in
    c.begin.ensures.share ∙ (λ i. record { book = (e i).book; number = (e i).number; row = row i })
