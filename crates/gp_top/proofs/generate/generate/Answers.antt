use Rattle.std.proofs.Common.{[], ◌∷◌, codes, ap, sym, subst, refl, ◌∙◌}
use Rattle.gp_gen.specs.Generated.{generated}
use Rattle.gp_text.specs.Text.{text_of}
use Rattle.gp_top.specs.Files.{TextFile}
use Rattle.gp_top.specs.Putting.{Told, ArePut, OneFails}
use Rattle.gp_top.specs.Top.{ProgramFails, NoMemory, PutsProgram}
use Rattle.gp_top.proofs.Heading.{generated_came}
use Rattle.gp_top.proofs.generate.generate.Goals as goal

pub returns-in-Ok-put_text-clause-run : goal.returns-in-Ok-put_text-clause-run
returns-in-Ok-put_text-clause-run g c =
    let before : Told = (g.K.Store.files c.args.store.now, g.K.Store.asked c.args.store.now, g.K.Store.faults c.args.store.now) in
    let mid : Told = (g.K.Store.files c.put_text.new.store, g.K.Store.asked c.put_text.new.store, g.K.Store.faults c.put_text.new.store) in
    let after : Told = (g.K.Store.files c.run_whole.new.store, g.K.Store.asked c.run_whole.new.store, g.K.Store.faults c.run_whole.new.store) in
    generated_came c.args.n c.args.q c.args.settings.now before mid after (g.O.Sink.written c.args.out.now, g.O.Sink.faults c.args.out.now) (g.O.Sink.written c.run_whole.new.out, g.O.Sink.faults c.run_whole.new.out)
    c.run_whole.result.status c.in-Ok.made.program c.as_bytes.result.now c.run_whole.result.report c.in-Ok.ensures.program (c.as_bytes.ensures ∙ c.in-Ok.ensures.text) c.in-Ok-put_text.ensures.put c.run_whole.ensures.run

pub returns-in-Ok-put_text-clause-no_report : goal.returns-in-Ok-put_text-clause-no_report
returns-in-Ok-put_text-clause-no_report g c = λ none asked held ask.
    let before : Told = (g.K.Store.files c.args.store.now, g.K.Store.asked c.args.store.now, g.K.Store.faults c.args.store.now) in
    let nine = c.run_whole.ensures.no_report none in
    let text = c.as_bytes.ensures ∙ c.in-Ok.ensures.text in
    let put = subst (λ t. ArePut (TextFile (codes "gen.gp") t ∷ []) before (g.K.Store.files c.put_text.new.store, g.K.Store.asked c.put_text.new.store, g.K.Store.faults c.put_text.new.store)) text c.in-Ok-put_text.ensures.put in
    NoMemory nine
    (PutsProgram c.args.n c.args.q ask
    (subst (λ store. ArePut (TextFile (codes "gen.gp") (text_of (generated c.args.n c.args.q)) ∷ []) before (g.K.Store.files store, g.K.Store.asked store, g.K.Store.faults store)) (sym (c.run_whole.ensures.nothing_put none)) put))
    (ap (λ out. (g.O.Sink.written out, g.O.Sink.faults out)) (c.run_whole.ensures.memory nine))

pub returns-clause-no_report : goal.returns-clause-no_report
returns-clause-no_report g c = λ none asked held ask.
    let before : Told = (g.K.Store.files c.args.store.now, g.K.Store.asked c.args.store.now, g.K.Store.faults c.args.store.now) in
    let after : Told = (g.K.Store.files c.put_text.new.store, g.K.Store.asked c.put_text.new.store, g.K.Store.faults c.put_text.new.store) in
    ProgramFails c.args.n c.args.q ask c.without_report-in-Err.ensures.status
    (subst (λ t. OneFails (TextFile (codes "gen.gp") t ∷ []) before after) (c.as_bytes.ensures ∙ c.in-Ok.ensures.text) c.in-Err.ensures.failed) refl
