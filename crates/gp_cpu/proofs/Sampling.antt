-- How the samples of a journal grow.
use Rattle.std.proofs.Common.{◌≡◌, List, [], ◌∷◌, ◌++◌, refl, sym, ap, ◌∙◌, append_assoc}
use Rattle.std.proofs.lemmas.List.{append-nil}
use Rattle.gp_journal.specs.declared.entry.Entry.{Entry}
use Rattle.gp_journal.specs.declared.settings.Settings.{Settings}
use Rattle.gp_journal.specs.State.{Code, State, first}
use Rattle.gp_journal.specs.Effect.{after}
use Rattle.gp_journal.specs.Run.{after_all}
use Rattle.gp_stack.specs.Goroutine.{next_point, is_ended, stack_of, labels_of, local_ahead}
use Rattle.gp_journal.specs.Due.{over, asked, due, extent}
use Rattle.gp_journal.specs.Effect.{meets, operates}
use Rattle.gp_ring.specs.Records.{Offer}
use Rattle.gp_cpu.specs.Samples.{rate_record, sampled_at, samples_from, samples_of_journal}
use Rattle.gp_cpu.specs.SamplesLaw.{SamplesBegin, SamplesGrow, SamplesWorkedOut}

pushed : (code : Code) (settings : Settings) (s : State) (entries : List Entry) (entry : Entry) →
    samples_from code settings s (entries ++ entry ∷ []) ≡ samples_from code settings s entries ++ sampled_at code (after_all code settings s entries) entry
pushed code settings s [] entry = append-nil (sampled_at code s entry)
pushed code settings s (x ∷ xs) entry =
    ap (λ (l : List Offer). sampled_at code s x ++ l) (pushed code settings (after code settings s x) xs entry)
    ∙ sym (append_assoc (sampled_at code s x) (samples_from code settings (after code settings s x) xs) (sampled_at code (after_all code settings (after code settings s x) xs) entry))

pub samples_begin : SamplesBegin
unfolding samples_of_journal
samples_begin code settings = refl

pub samples_grow : SamplesGrow
unfolding samples_of_journal
samples_grow code settings journal entry = ap (λ (l : List Offer). rate_record settings ∷ l) (pushed code settings (first code settings) journal entry)

pub samples_worked_out : SamplesWorkedOut
unfolding samples_of_journal next_point is_ended stack_of labels_of local_ahead over asked due extent meets operates after
samples_worked_out = refl
