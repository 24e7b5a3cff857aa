-- The events that add entries keep what the core keeps.
use Rattle.std.proofs.Common.{◌≡◌, ◌⊎◌, ℕ, ◌+◌, ◌<◌, ◌≤◌, Bool, true, false, not, ◌||◌, ◌==◌, List, [], ◌∷◌, set, Option, Some, None, refl, sym, ap, ◌∙◌, subst, inl, inr, arith, true≢false, length-set, append_assoc, if◌then◌else◌, nat_le}
use Rattle.std.proofs.lemmas.List.{append-nil}
use Rattle.std.proofs.lemmas.Bool.{or_cases, eqb-true}
use Rattle.gp_stack.specs.declared.record.Record.{Record as Row}
use Rattle.gp_isa.specs.Trace.{is_local}
use Rattle.gp_journal.specs.declared.entry.Entry.{Entry}
use Rattle.gp_journal.specs.declared.entry.Entry.TheVariants.{Start, Run, Op, Tick, Park, Open, Refuse, Record, Close}
use Rattle.gp_journal.specs.declared.goroutine.Goroutine.{Goroutine}
use Rattle.gp_journal.specs.declared.goroutine.Status.TheVariants as status
use Rattle.gp_journal.specs.declared.settings.Settings.{Settings}
use Rattle.gp_journal.specs.Settings.{AreInRange, quantum}
use Rattle.gp_journal.specs.State.{Code, State, nobody, goroutine, worker, is_live, is_running, is_behind, births, live}
use Rattle.gp_journal.specs.Due.{asked, over, due, extent, next_instruction}
use Rattle.gp_journal.specs.May.{May, MayStart, MayClose, is_recorded}
use Rattle.gp_journal.specs.Effect.{turned, recorded, after}
use Rattle.gp_journal.specs.Run.{AreLegal, after_all}
use Rattle.gp_journal.proofs.Lemmas.{IsWhole, Behind, live_status, behind_parts, behind_from, none_active, none_counted}
use Rattle.gp_core.specs.declared.word.Word.{Word}
use Rattle.gp_core.specs.declared.word.Word.TheVariants.{Dead, Home, Claimed, Running}
use Rattle.gp_core.specs.declared.hold.Hold.{Hold}
use Rattle.gp_core.specs.declared.hold.How.{How}
use Rattle.gp_core.specs.declared.hold.How.TheVariants as how
use Rattle.gp_core.specs.declared.event.CoreEvent.{CoreEvent}
use Rattle.gp_core.specs.CoreState.{CoreState, word, count, hand, HoldsBy, copy_in, with_copy, with_hand}
use Rattle.gp_core.specs.Enabled.{MayBegin, MayCommitClaim, MayCommitDue, is_needed, may_start, start_of, beginning_of, opening_of}
use Rattle.gp_core.specs.Stepped.{points_of, with_entries, with_recorded, commits_claim, commits_due, begins}
use Rattle.gp_core.specs.Invariant.{Names}
use Rattle.gp_core.proofs.Lists.{set_changes}
use Rattle.gp_core.proofs.Turns.{IsOf, due_turns, start_turns, record_turns}
use Rattle.gp_core.proofs.Cells.{FitsWord, FitsCopy, FitsHand, names_held, one_named, dead_names_none, same_row}
use Rattle.gp_core.proofs.Frozens.{recorded_behind, opens}
use Rattle.gp_core.proofs.Keeps.{Kept, its_whole, has_body, has_hand, active_le, with_copy_kept, recorded_kept, not_recorded_kept, counts_after, entry_kept, still_kept}
use Rattle.gp_core.proofs.Steps.{takes_run}

-- under the word of its worker a goroutine fits that runs there or nowhere
running_fits : (active w : ℕ) (y : Goroutine) (word : Word) → Names how.Take w word → ((v : ℕ) → y.status ≡ status.Running v → v ≡ w) → FitsWord active y word
running_fits active w y (Running epoch actor) names on = λ v e. on v e ∙ sym names
running_fits active w y Dead names on = absurd names
running_fits active w y (Home epoch) names on = absurd names
running_fits active w y (Claimed epoch actor) names on = absurd names

-- one that was recorded fits as before
recorded_fits : (active w : ℕ) (x : Goroutine) (word : Word) → Names how.Take w word → FitsWord active x word → FitsWord active (recorded active x) word
recorded_fits active w x (Running epoch actor) names fits = fits
recorded_fits active w x Dead names fits = absurd names
recorded_fits active w x (Home epoch) names fits = absurd names
recorded_fits active w x (Claimed epoch actor) names fits = absurd names

recorded_copy : (code : Code) (active g : ℕ) (x : Goroutine) (copy : Option Row) → FitsCopy code x g copy → FitsCopy code (recorded active x) g copy
recorded_copy code active g x None fits = tt
recorded_copy code active g x (Some copy) fits = (fits.0 ∙ sym (same_row code g x (recorded active x) refl refl refl), fits.1)

-- where a goroutine runs there is no copy of it
no_copy : (code : Code) (g : ℕ) (x y : Goroutine) (copy : Option Row) → is_running x.status ≡ true → FitsCopy code x g copy → FitsCopy code y g copy
no_copy code g x y None runs fits = tt
no_copy code g x y (Some copy) runs fits = absurd (true≢false (sym runs ∙ fits.1))

copy_none : (code : Code) (g : ℕ) (x : Goroutine) (copy : Option Row) → copy ≡ None → FitsCopy code x g copy
copy_none code g x copy none = subst (FitsCopy code x g) (sym none) tt

emptied_holds : (way : How) (g : ℕ) (it : Option Hold) → HoldsBy way g it → HoldsBy way g (with_copy None it)
emptied_holds way g None holds = holds
emptied_holds way g (Some hold) holds = holds

emptied_none : (it : Option Hold) → copy_in (with_copy None it) ≡ None
emptied_none None = refl
emptied_none (Some hold) = refl

recorded_ahead : (s : State) (g : ℕ) → is_recorded s g ≡ true → s.active ≤ (goroutine s g).epoch
recorded_ahead s g e = which (or_cases (s.active == 0) ((goroutine s g).epoch == s.active) e)
  where
    which : ((s.active == 0) ≡ true) ⊎ (((goroutine s g).epoch == s.active) ≡ true) → s.active ≤ (goroutine s g).epoch
    which (inl none) = let z = eqb-true s.active 0 none in omega arith
    which (inr same) = let z = eqb-true (goroutine s g).epoch s.active same in omega arith

-- who runs has the last epoch
running_ahead : (s : State) (w g : ℕ) → IsWhole s → (worker s w).runs ≡ Some g → s.active ≤ s.last_epoch → s.active ≤ (goroutine s g).epoch
running_ahead s w g whole runs ordered = at (whole.epochs g (live_status (goroutine s g) runs_now refl))
  where
    runs_now : (goroutine s g).status ≡ status.Running w
    runs_now = whole.on_worker w g runs

    at : ((goroutine s g).epoch ≡ s.last_epoch) ⊎ Behind s.active s.last_epoch (goroutine s g) → s.active ≤ (goroutine s g).epoch
    at (inl same) = omega arith
    at (inr behind) = absurd (true≢false (sym (ap is_running runs_now) ∙ behind.2))

-- what is due is an entry of its own goroutine
pub due_is : (code : Code) (settings : Settings) (s : State) (w g : ℕ) → IsOf w g (due code settings s w g)
unfolding due
due_is code settings s w g = at (worker s w).tick (asked settings s || over settings s || ((worker s w).slice == quantum)) (not (is_local (next_instruction code s g)))
  where
    at : (tick stop shared : Bool) → IsOf w g (if tick then Tick w g else if stop then Park w g else if shared then Op w g else Run w g (extent code settings s w g))
    at true stop shared = inl refl
    at false true shared = inr (inl refl)
    at false false true = inr (inr (inl refl))
    at false false false = inr (inr (inr (extent code settings s w g, refl)))

pub due_runs : (code : Code) (settings : Settings) (s : State) (w g : ℕ) (entry : Entry) → IsOf w g entry → May code settings s entry → (worker s w).runs ≡ Some g
due_runs code settings s w g entry (inl tick) may = let it : May code settings s (Tick w g) = subst (May code settings s) tick may in it.runs
due_runs code settings s w g entry (inr (inl park)) may = let it : May code settings s (Park w g) = subst (May code settings s) park may in it.runs
due_runs code settings s w g entry (inr (inr (inl op))) may = let it : May code settings s (Op w g) = subst (May code settings s) op may in it.runs
due_runs code settings s w g entry (inr (inr (inr run))) may = let it : May code settings s (Run w g run.0) = subst (May code settings s) run.1 may in it.runs

module _ (code : Code) (settings : Settings) (events : List CoreEvent) (core : CoreState) (s : State) (kept : Kept code settings events core s) where
  -- the copy of what is in hand is of that goroutine
  copy_of_it : (way : How) (a g : ℕ) → HoldsBy way g (hand core a) → FitsCopy code (goroutine s g) g (copy_in (hand core a))
  copy_of_it way a g holds = at (hand core a) (kept.agree.hands_fit a) holds
    where
      at : (it : Option Hold) → FitsHand code s (word core) a it → HoldsBy way g it → FitsCopy code (goroutine s g) g (copy_in it)
      at None fits has = absurd has
      at (Some hold) fits has = subst (λ n. FitsCopy code (goroutine s n) n hold.copy) has.0 fits.1

  copy_at : (b g : ℕ) (hold : Hold) → hand core b ≡ Some hold → hold.g ≡ g → FitsCopy code (goroutine s g) g hold.copy
  copy_at b g hold e same =
      let fits : FitsHand code s (word core) b (Some hold) = subst (FitsHand code s (word core) b) e (kept.agree.hands_fit b) in
      subst (λ n. FitsCopy code (goroutine s n) n hold.copy) same fits.1

  named_at : (b g : ℕ) (hold : Hold) → hand core b ≡ Some hold → hold.g ≡ g → Names hold.how b (word core g)
  named_at b g hold e same =
      let fits : FitsHand code s (word core) b (Some hold) = subst (FitsHand code s (word core) b) e (kept.agree.hands_fit b) in
      subst (λ n. Names hold.how b (word core n)) same fits.0

  record_kept : (a g : ℕ) → g < births s → May code settings s (Record a g) → FitsWord s.active (recorded s.active (goroutine s g)) (word core g) → (word core g ≡ Dead → ⊥) →
      Kept code settings events (with_entries (Record a g ∷ []) core) (after code settings s (Record a g))
  record_kept a g born may own_word isnt =
      let turn = record_turns code settings s a g born in
      let t = after code settings s (Record a g) in
      let r = recorded s.active (goroutine s g) in
      let lives = (behind_parts s.active (goroutine s g) may.unrecorded).0 in
      entry_kept code settings events core s kept (Record a g) g core.counts may turn.all
      (subst (λ (x : Goroutine). FitsWord s.active x (word core g)) (sym turn.own) own_word)
      (λ b hold e same. subst (λ (x : Goroutine). FitsCopy code x g hold.copy) (sym turn.own) (recorded_copy code s.active g (goroutine s g) hold.copy (copy_at b g hold e same)))
      isnt
      (λ gone. absurd (true≢false (sym lives ∙ ap is_live (sym turn.own) ∙ gone)))
      (ap (is_behind s.active) turn.own ∙ recorded_behind s.active r (omega arith))
      refl
      (counts_after code settings events core s kept t g core.counts turn.all (λ k away. refl) (kept.counts g ∙ ap (λ (x : Goroutine). x.count) (sym turn.own)))

  start_kept : (w g : ℕ) → g < births s → MayStart settings s w g → HoldsBy how.Take g (hand core w) → copy_in (hand core w) ≡ None →
      Kept code settings events (with_entries (Start w g ∷ []) core) (after code settings s (Start w g))
  start_kept w g born may has none =
      let turn = start_turns code settings s w g born in
      let t = after code settings s (Start w g) in
      let y = turned (status.Running w) (goroutine s g) in
      let mine = names_held code s (word core) w g how.Take (hand core w) (kept.agree.hands_fit w) has in
      let ahead = recorded_ahead s g may.recorded in
      entry_kept code settings events core s kept (Start w g) g core.counts may turn.all
      (subst (λ (x : Goroutine). FitsWord s.active x (word core g)) (sym turn.own) (running_fits s.active w y (word core g) mine (λ v e. cc)))
      (λ b hold e same.
      let here : b ≡ w = one_named hold.how how.Take b w (word core g) (named_at b g hold e same) mine in
      copy_none code g (goroutine t g) hold.copy (ap copy_in (sym e) ∙ ap (λ n. copy_in (hand core n)) here ∙ none))
      (λ dead. dead_names_none how.Take w (word core g) dead mine)
      (λ gone. takes_run w (word core g) mine)
      (ap (is_behind s.active) turn.own ∙ recorded_behind s.active y ahead)
      refl
      (counts_after code settings events core s kept t g core.counts turn.all (λ k away. refl) (kept.counts g ∙ ap (λ (x : Goroutine). x.count) (sym turn.own)))

  pub due_kept : AreInRange settings → (w g : ℕ) → g < births s → MayCommitDue code settings s core w g →
      Kept code settings events (commits_due code settings s w g core) (after code settings s (due code settings s w g))
  due_kept range w g born m =
      let entry = due code settings s w g in
      let t = after code settings s entry in
      let whole = its_whole code settings events core s kept in
      let of = due_is code settings s w g in
      let runs = due_runs code settings s w g entry of m.is_legal in
      let turn = due_turns code settings s w g entry whole runs of in
      let n = points_of code settings s entry in
      let runs_now = whole.on_worker w g runs in
      let mine = names_held code s (word core) w g how.Take (hand core w) (kept.agree.hands_fit w) m.has_taken in
      let ahead = running_ahead s w g whole runs (active_le code settings events core s kept) in
      let own = turn.own in
      let body = set_changes 0 core.counts g (count core g + n) (has_body code settings events core s kept range g born) in
      entry_kept code settings events core s kept entry g (set core.counts g (count core g + n)) m.is_legal turn.all
      (running_fits s.active w (goroutine t g) (word core g) mine own.on)
      (λ b hold e same. no_copy code g (goroutine s g) (goroutine t g) hold.copy (ap is_running runs_now) (copy_at b g hold e same))
      (λ dead. dead_names_none how.Take w (word core g) dead mine)
      (λ gone. takes_run w (word core g) mine)
      (recorded_behind s.active (goroutine t g) (subst (λ i. s.active ≤ i) (sym own.epoch) ahead))
      (length-set core.counts g (count core g + n))
      (counts_after code settings events core s kept t g (set core.counts g (count core g + n)) turn.all body.others
      (body.here ∙ ap (λ i. i + n) (kept.counts g) ∙ sym own.count))

-- The Record of a claim.
pub claim_kept : (code : Code) (settings : Settings) (events : List CoreEvent) (core : CoreState) (s : State) → Kept code settings events core s → (a g : ℕ) → a ≤ settings.workers → g < births s →
    MayCommitClaim code settings s core a g → Kept code settings events (commits_claim s a g core) (after code settings s (Record a g))
claim_kept code settings events core s kept a g actor born m =
    let x = goroutine s g in
    let fits : FitsWord s.active x (Claimed s.active a) = subst (FitsWord s.active x) m.is_claim (kept.agree.words_fit g) in
    let emptied = with_copy_kept code settings events core s kept a None actor (λ hold e. tt) in
    let core' = with_hand a (with_copy None (hand core a)) core in
    let copied = recorded_kept code settings events core' s emptied g (copy_in (hand core a)) m.is_legal.is_active m.is_legal.unrecorded (copy_of_it code settings events core s kept how.Claim a g m.has_claimed) in
    record_kept code settings events (with_recorded s.active (copy_in (hand core a)) core') s copied a g born m.is_legal
    (subst (FitsWord s.active (recorded s.active x)) (sym m.is_claim) (fits.0, fits.1, inl refl))
    (λ dead. let clash : Claimed s.active a ≡ Dead = sym m.is_claim ∙ dead in absurd (cc))

-- The Start, where it is legal.
start_part : (code : Code) (settings : Settings) (events : List CoreEvent) (core : CoreState) (s : State) → Kept code settings events core s → (w g : ℕ) → g < births s →
    HoldsBy how.Take g (hand core w) → copy_in (hand core w) ≡ None → (b : Bool) → AreLegal code settings s (if b then Start w g ∷ [] else []) →
    Kept code settings events (with_entries (if b then Start w g ∷ [] else []) core) (after_all code settings s (if b then Start w g ∷ [] else []))
start_part code settings events core s kept w g born has none true legal = start_kept code settings events core s kept w g born legal.0 has none
start_part code settings events core s kept w g born has none false legal =
    subst (λ (j : List Entry). Kept code settings events (record core { journal = j }) s) (sym (append-nil core.journal)) kept

begin_part : (code : Code) (settings : Settings) (events : List CoreEvent) (core : CoreState) (s : State) → Kept code settings events core s → (w g : ℕ) → w ≤ settings.workers → g < births s →
    HoldsBy how.Take g (hand core w) → (b : Bool) →
    let more = if b then Record w g ∷ start_of settings (after code settings s (Record w g)) w g else start_of settings s w g in
    AreLegal code settings s more →
    Kept code settings events
    (with_entries more (with_recorded s.active (if b then copy_in (hand core w) else None) (with_hand w (with_copy None (hand core w)) core)))
    (after_all code settings s more)
begin_part code settings events core s kept w g actor born has true legal =
    let t = after code settings s (Record w g) in
    let x = goroutine s g in
    let mine = names_held code s (word core) w g how.Take (hand core w) (kept.agree.hands_fit w) has in
    let emptied = with_copy_kept code settings events core s kept w None actor (λ hold e. tt) in
    let core' = with_hand w (with_copy None (hand core w)) core in
    let copied = recorded_kept code settings events core' s emptied g (copy_in (hand core w)) legal.0.is_active legal.0.unrecorded (copy_of_it code settings events core s kept how.Take w g has) in
    let core'' = with_recorded s.active (copy_in (hand core w)) core' in
    let entered = record_kept code settings events core'' s copied w g born legal.0
    (recorded_fits s.active w x (word core g) mine (kept.agree.words_fit g)) (λ dead. dead_names_none how.Take w (word core g) dead mine) in
    let here = set_changes None core.hands w (with_copy None (hand core w)) (has_hand code settings events core s kept w actor) in
    let grown : g < births t = let turn = record_turns code settings s w g born in let more = turn.all.others.grows in omega arith in
    let entries = start_of settings t w g in
    subst (λ (j : List Entry). Kept code settings events (record core'' { journal = j }) (after_all code settings t entries)) (append_assoc core.journal (Record w g ∷ []) entries)
    (start_part code settings events (with_entries (Record w g ∷ []) core'') t entered w g grown
    (subst (HoldsBy how.Take g) (sym here.here) (emptied_holds how.Take g (hand core w) has)) (ap copy_in here.here ∙ emptied_none (hand core w))
    (may_start settings t w g) legal.1)
begin_part code settings events core s kept w g actor born has false legal =
    let emptied = with_copy_kept code settings events core s kept w None actor (λ hold e. tt) in
    let core' = with_hand w (with_copy None (hand core w)) core in
    let here = set_changes None core.hands w (with_copy None (hand core w)) (has_hand code settings events core s kept w actor) in
    start_part code settings events (with_recorded s.active None core') s (not_recorded_kept code settings events core' s emptied) w g born
    (subst (HoldsBy how.Take g) (sym here.here) (emptied_holds how.Take g (hand core w) has)) (ap copy_in here.here ∙ emptied_none (hand core w))
    (may_start settings s w g) legal

pub begin_kept : (code : Code) (settings : Settings) (events : List CoreEvent) (core : CoreState) (s : State) → Kept code settings events core s → (w g : ℕ) → w < settings.workers → g < births s →
    MayBegin code settings s core w g → Kept code settings events (begins code settings s w g core) (after_all code settings s (beginning_of code settings s w g))
begin_kept code settings events core s kept w g worker born m =
    begin_part code settings events core s kept w g (omega arith) born m.has_taken (is_needed s g) m.are_legal

-- An Open or a Refuse, and a Close.
module _ (code : Code) (settings : Settings) (events : List CoreEvent) (core : CoreState) (s : State) (kept : Kept code settings events core s) where
  none_fits : (n : ℕ) (x : Goroutine) (word : Word) → s.active ≡ 0 → FitsWord s.active x word → FitsWord n x word
  none_fits n x Dead none fits = fits
  none_fits n x (Home epoch) none fits = fits
  none_fits n x (Running epoch actor) none fits = fits
  none_fits n x (Claimed epoch actor) none fits = (fits.0, fits.1, near fits.2)
    where
      near : (x.epoch ≡ epoch) ⊎ ((x.epoch + 1 ≡ epoch) × (s.active ≡ epoch)) → (x.epoch ≡ epoch) ⊎ ((x.epoch + 1 ≡ epoch) × (n ≡ epoch))
      near (inl same) = inl same
      near (inr before) = let a = before.0 in let b = before.1 in absurd (omega arith)

  open_at : (b : Bool) → let entry = if b then Open (s.last_epoch + 1) settings.room else Refuse settings.room (live s) in
      May code settings s entry → Kept code settings events (with_entries (entry ∷ []) core) (after code settings s entry)
  unfolding after
  open_at true may =
      let none = none_active settings s may.is_asked in
      still_kept code settings events core s kept (Open (s.last_epoch + 1) settings.room) may refl
      (λ g fits. none_fits (s.last_epoch + 1) (goroutine s g) (word core g) none fits)
      (λ some. opens code settings core.journal s (after code settings s (Open (s.last_epoch + 1) settings.room)) settings.room kept.is_now refl)
  open_at false may =
      let none = none_active settings s may.is_asked in
      still_kept code settings events core s kept (Refuse settings.room (live s)) may refl (λ g fits. fits) (λ some. absurd (omega (arith, some)))

  pub open_kept : May code settings s (opening_of settings s) → Kept code settings events (with_entries (opening_of settings s ∷ []) core) (after code settings s (opening_of settings s))
  open_kept may = open_at (nat_le (live s) settings.room) may

  closed_fits : (g : ℕ) (word : Word) → MayClose s s.active → FitsWord s.active (goroutine s g) word → FitsWord 0 (goroutine s g) word
  closed_fits g Dead may fits = fits
  closed_fits g (Home epoch) may fits = fits
  closed_fits g (Running epoch actor) may fits = fits
  closed_fits g (Claimed epoch actor) may fits = (fits.0, fits.1, near fits.2)
    where
      near : ((goroutine s g).epoch ≡ epoch) ⊎ (((goroutine s g).epoch + 1 ≡ epoch) × (s.active ≡ epoch)) → ((goroutine s g).epoch ≡ epoch) ⊎ (((goroutine s g).epoch + 1 ≡ epoch) × (0 ≡ epoch))
      near (inl same) = inl same
      near (inr before) =
          let below : (goroutine s g).epoch < s.active = let a = before.0 in let b = before.1 in omega arith in
          absurd (true≢false (sym (behind_from s.active (goroutine s g) fits.0 below) ∙ none_counted (is_behind s.active) nobody s.goroutines refl may.all_recorded g))

  pub close_kept : May code settings s (Close s.active) → Kept code settings events (with_entries (Close s.active ∷ []) core) (after code settings s (Close s.active))
  unfolding after
  close_kept may = still_kept code settings events core s kept (Close s.active) may refl (λ g fits. closed_fits g (word core g) may fits) (λ some. absurd (omega (arith, some)))
