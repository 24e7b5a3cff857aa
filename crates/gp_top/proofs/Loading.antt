-- What failed reads and refused texts tell of the source.
use Rattle.std.proofs.Common.{◌≡◌, ◌≤◌, ◌+◌, ℕ, List, [], length, ap, arith, Option, Some, None, Result, Ok, Err, refl, sym, ◌∙◌, subst, IsErrAnd, IfErr, inl, inr}
use Rattle.std.specs.Prelude.{IfSome}
use Rattle.std.proofs.lemmas.List.{drop_all}
use Rattle.gp_io.specs.Outside.{Rose}
use Rattle.gp_io.specs.declared.whole.ReadError.{ReadError}
use Rattle.gp_io.specs.declared.whole.ReadError.TheVariants as read
use Rattle.gp_text.specs.declared.cause.Cause.{Cause}
use Rattle.gp_text.specs.declared.error.TextError.{TextError}
use Rattle.gp_text.specs.declared.error.TextError.TheVariants as text
use Rattle.gp_text.specs.Reading.{program_of, Refuses, IsRefusalOf}
use Rattle.gp_report.specs.declared.refusal.Fault.TheVariants.{Usage, Line, At, Long, Read}
use Rattle.gp_words.specs.declared.error.WordError.{WordError}
use Rattle.gp_words.specs.declared.error.WordError.TheVariants as words
use Rattle.gp_words.specs.Read.{Read as Reading, IsFault, Names}
use Rattle.gp_words.specs.declared.jobs.Job.{Job}
use Rattle.gp_words.specs.declared.jobs.Job.TheVariants.{Dump}
use Rattle.gp_journal.specs.declared.settings.Settings.{Settings}
use Rattle.gp_wire.specs.Reading as reading
use Rattle.gp_wire.specs.declared.cause.Cause.{Cause as WireCause}
use Rattle.gp_wire.specs.declared.error.WireError.{WireError}
use Rattle.gp_wire.specs.declared.error.WireError.TheVariants as profile
use Rattle.gp_top.specs.declared.stop.Stop.{Stop}
use Rattle.gp_top.specs.declared.stop.Stop.TheVariants as stop
use Rattle.gp_top.specs.kept.Steps.{stop_of_words, stop_of_read, stop_of_text, stop_of_profile, LoadStops, ProfileStops, RunStops, WordsStop}
use Rattle.gp_top.specs.Report.{Order}
use Rattle.gp_top.specs.Asked.{file_job, IsTooLong, IsFaulty, IsFaultyProfile, IsReadTo}

-- a source that was read to its end within a limit
pub whole_read : (limit : ℕ) (held left : Option (List ℕ)) (bytes : List ℕ) → IfSome held (λ all. bytes ≡ all) → length bytes ≤ limit → IfSome held (λ _. left ≡ Some [])
    → IsReadTo limit held left
whole_read limit None left bytes all few none = tt
whole_read limit (Some all) left bytes same few none =
    let short_enough : length all ≤ limit + 1 = omega (arith, few, ap length same) in
    none ∙ ap (λ (l : List ℕ). Some l) (sym (drop_all (limit + 1) all short_enough))

-- bytes that are refused
faulty : (held : Option (List ℕ)) (bytes : List ℕ) (line : ℕ) (cause : Cause) → IfSome held (λ all. bytes ≡ all) → length bytes ≤ 1048576 → program_of bytes ≡ Refuses line cause
    → IsFaulty held line cause
faulty None bytes line cause all few refuses = tt
faulty (Some all) bytes line cause same few refuses =
    (subst (λ (l : List ℕ). length l ≤ 1048576) same few, sym (ap program_of same) ∙ refuses)

faulty_profile : (held : Option (List ℕ)) (bytes : List ℕ) (at : ℕ) (cause : WireCause) → IfSome held (λ all. bytes ≡ all) → length bytes ≤ 67108864
    → reading.value_of bytes ≡ reading.Refuses at cause → IsFaultyProfile held at cause
faulty_profile None bytes at cause all few refuses = tt
faulty_profile (Some all) bytes at cause same few refuses =
    (subst (λ (l : List ℕ). length l ≤ 67108864) same few, sym (ap reading.value_of same) ∙ refuses)

pub same_err : {T E : Type 0} (r : Result T E) (x y : E) → r ≡ Err x → r ≡ Err y → x ≡ y
same_err (Ok t) x y p q = absurd cc
same_err (Err e) x y p q = cc

-- an error that is carried on
pub carried : {T E : Type 0} (r : Result T E) (error : E) (P : E → Type 0) → IsErrAnd r (λ made. made ≡ error) → P error → IfErr r P
carried (Ok t) error P is p = absurd is
carried (Err e) error P is p = subst P (sym is) p

module _ {S : Type 0} (left : S → Option (List ℕ)) (faults : S → ℕ) (old new : S) where
  pub stopped_read : (e : ReadError) → (e ≡ read.TooLong → IsTooLong 1048576 (left old)) → (e ≡ read.TooLong → IsReadTo 1048576 (left old) (left new)) → (e ≡ read.TooLong → faults new ≡ faults old)
      → (e ≡ read.ReadFault → Rose (faults old) (faults new)) → LoadStops left faults old new (stop_of_read e)
  stopped_read read.TooLong long whole well fault = (long refl, (whole refl, well refl))
  stopped_read read.ReadFault long whole well fault = fault refl
  stopped_read read.Memory long whole well fault = tt

  pub stopped_text : (e : TextError) (bytes : List ℕ) → IfSome (left old) (λ all. bytes ≡ all) → length bytes ≤ 1048576 → IsReadTo 1048576 (left old) (left new) → faults new ≡ faults old
      → IsRefusalOf (program_of bytes) e → LoadStops left faults old new (stop_of_text e)
  stopped_text (text.Refused line cause) bytes all few whole well refusal = ((cause, refl, faulty (left old) bytes line cause all few refusal), (whole, well))
  stopped_text text.Memory bytes all few whole well refusal = tt

  -- the same where a profile was to be read
  pub profile_read : (e : ReadError) → (e ≡ read.TooLong → IsTooLong 67108864 (left old)) → (e ≡ read.TooLong → IsReadTo 67108864 (left old) (left new)) → (e ≡ read.TooLong → faults new ≡ faults old)
      → (e ≡ read.ReadFault → Rose (faults old) (faults new)) → ProfileStops left faults old new (stop_of_read e)
  profile_read read.TooLong long whole well fault = (long refl, (whole refl, well refl))
  profile_read read.ReadFault long whole well fault = fault refl
  profile_read read.Memory long whole well fault = tt

  pub profile_refused : (e : WireError) (bytes : List ℕ) → IfSome (left old) (λ all. bytes ≡ all) → length bytes ≤ 67108864 → IsReadTo 67108864 (left old) (left new) → faults new ≡ faults old
      → reading.IsRefusalOf (reading.value_of bytes) e → ProfileStops left faults old new (stop_of_profile e)
  profile_refused (profile.Refused at cause) bytes all few whole well refusal = ((cause, refl, faulty_profile (left old) bytes at cause all few refusal), (whole, well))
  profile_refused profile.Memory bytes all few whole well refusal = tt

-- what stops a job at its words, and behind them
module _ {S : Type 0} (left : S → Option (List ℕ)) (faults : S → ℕ) (asked : Reading Job) (old new : S) where
  pub stopped_words : (stop : Stop) → WordsStop asked stop → new ≡ old → RunStops left faults asked old new stop
  stopped_words (stop.Fault (Usage place cause)) e same = (e, same)
  stopped_words (stop.Fault (Line line cause)) e same = absurd e
  stopped_words (stop.Fault (At at cause)) e same = absurd e
  stopped_words (stop.Fault Long) e same = absurd e
  stopped_words (stop.Fault Read) e same = absurd e
  stopped_words stop.Memory e same = tt

  pub stopped_load : (stop : Stop) (order : Order) (file : List ℕ) (settings : Settings) → asked ≡ Names (file_job order file settings) → LoadStops left faults old new stop → RunStops left faults asked old new stop
  stopped_load (stop.Fault (Usage place cause)) order file settings job tells = absurd tells
  stopped_load (stop.Fault (Line line cause)) order file settings job tells = ((order, file, settings, job), tells)
  stopped_load (stop.Fault (At at cause)) order file settings job tells = absurd tells
  stopped_load (stop.Fault Long) order file settings job tells = inl ((order, file, settings, job), tells)
  stopped_load (stop.Fault Read) order file settings job tells = (inl (order, file, settings, job), tells)
  stopped_load stop.Memory order file settings job tells = tt

  pub stopped_profile : (stop : Stop) (file : List ℕ) → asked ≡ Names (Dump file) → ProfileStops left faults old new stop → RunStops left faults asked old new stop
  stopped_profile (stop.Fault (Usage place cause)) file job tells = absurd tells
  stopped_profile (stop.Fault (Line line cause)) file job tells = absurd tells
  stopped_profile (stop.Fault (At at cause)) file job tells = ((file, job), tells)
  stopped_profile (stop.Fault Long) file job tells = inr ((file, job), tells)
  stopped_profile (stop.Fault Read) file job tells = (inr (file, job), tells)
  stopped_profile stop.Memory file job tells = tt

-- words that are at fault
pub words_fault : (asked : Reading Job) (e : WordError) → IsFault e asked → WordsStop asked (stop_of_words e)
words_fault asked (words.Usage place cause) fault = fault
words_fault asked words.Memory fault = tt
