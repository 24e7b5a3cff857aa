-- A machine keeps its journal, its state and its counts over each legal entry.
use Rattle.std.proofs.Common.{◌≡◌, ℕ, ◌+◌, ◌^◌, ◌<◌, ◌≤◌, ◌==◌, ◌||◌, Bool, true, false, cond, List, [], ◌∷◌, ◌++◌, length, get_or, set, Some, refl, sym, ap, ◌∙◌, arith, length-append, length-set}
use Rattle.std.proofs.lemmas.Bool.{cases_lt, ne_eqb, eqb-true}
use Rattle.std.proofs.lemmas.List.Sums.{sum_by_push, count_by-le-length}
use Rattle.gp_journal.specs.declared.entry.Entry.{Entry}
use Rattle.gp_journal.specs.declared.entry.Entry.TheVariants.{Start, Run, Op, Tick, Park, Open, Refuse, Record, Close}
use Rattle.gp_journal.specs.declared.settings.Settings.{Settings}
use Rattle.gp_journal.specs.State.{Code, State, worker, is_idle, first}
use Rattle.gp_journal.specs.May.{May}
use Rattle.gp_journal.specs.Effect.{after}
use Rattle.gp_journal.specs.Run.{AreLegal, IsLegal, after_all, last}
use Rattle.gp_journal.specs.NumberLaws.{most_entries}
use Rattle.gp_journal.specs.Actors.{actor_of, made_by}
use Rattle.gp_machine.specs.kept.Made.{Keeps}
use Rattle.gp_journal.specs.Reached.{IsReached}
use Rattle.gp_journal.proofs.Lemmas.{replaced_within, one_if, one_if_eq, after_all-append, kept_at, entries_are_counted, entries_are_bounded, worker_at, idle_within}

-- one legal entry more
appended : (code : Code) (settings : Settings) (s : State) (journal : List Entry) (entry : Entry) → AreLegal code settings s journal → May code settings (after_all code settings s journal) entry → AreLegal code settings s (journal ++ entry ∷ [])
appended code settings s [] entry legal may = (may, tt)
appended code settings s (x ∷ xs) entry legal may = (legal.0, appended code settings (after code settings s x) xs entry legal.1 may)

-- a worker that runs something, or is idle, is one of them
runner : (settings : Settings) (s : State) (w g : ℕ) → length s.workers ≡ settings.workers → (worker s w).runs ≡ Some g → w < settings.workers + 1
runner settings s w g number runs = let within = worker_at s.workers w g (cases_lt w (length s.workers)) runs in omega arith

recorder : (settings : Settings) (s : State) (actor : ℕ) (b : Bool) → length s.workers ≡ settings.workers → (actor == settings.workers) ≡ b → (b || is_idle s actor) ≡ true → actor < settings.workers + 1
recorder settings s actor true number same e = let is = eqb-true actor settings.workers same in omega arith
recorder settings s actor false number other e = let within = idle_within s actor e in omega arith

actor_below : (code : Code) (settings : Settings) (s : State) (entry : Entry) → length s.workers ≡ settings.workers → May code settings s entry → actor_of settings.workers entry < settings.workers + 1
actor_below code settings s (Start w g) number may = let within = idle_within s w may.idle in omega arith
actor_below code settings s (Run w g n) number may = runner settings s w g number may.runs
actor_below code settings s (Op w g) number may = runner settings s w g number may.runs
actor_below code settings s (Tick w g) number may = runner settings s w g number may.runs
actor_below code settings s (Park w g) number may = runner settings s w g number may.runs
actor_below code settings s (Open epoch room) number may = omega arith
actor_below code settings s (Refuse room n) number may = omega arith
actor_below code settings s (Record actor g) number may = recorder settings s actor (actor == settings.workers) number refl may.recorder
actor_below code settings s (Close epoch) number may = omega arith

-- how many entries an actor made, with one more
made_next : (settings : Settings) (actor : ℕ) (journal : List Entry) (entry : Entry) → made_by settings actor (journal ++ entry ∷ []) ≡ made_by settings actor journal + one_if (actor_of settings.workers entry == actor)
made_next settings actor journal entry = sum_by_push (λ (e : Entry). cond (actor_of settings.workers e == actor) 1 0) journal entry

module _ (code : Code) (settings : Settings) (room : ℕ) (journal : List Entry) (made : List ℕ) (present : State) (keeps : Keeps code settings room journal made present) where
  pub is_reached : IsReached code settings present
  is_reached = record { journal = journal; legal = keeps.legal; its_last = keeps.its_last }

  entries_length : present.entries ≡ length journal
  entries_length = ap (λ (s : State). s.entries) keeps.its_last ∙ entries_are_counted code settings journal

  module _ (entry : Entry) (may : May code settings (last code settings journal) entry) where
    longer : IsLegal code settings (journal ++ entry ∷ [])
    longer = appended code settings (first code settings) journal entry keeps.legal may

    -- there is room for it
    pub room_left : length journal < most_entries settings
    room_left = let few = entries_are_bounded code settings (journal ++ entry ∷ []) keeps.in_range longer in omega (arith, length-append journal (entry ∷ []))

    pub entries_fit : present.entries + 1 < 2 ^ 32
    entries_fit =
        let few = room_left in
        let a = keeps.in_range.entries in
        let b = keeps.in_range.cells in
        let c = keeps.in_range.workers in
        omega (arith, entries_length)

    pub actor_there : actor_of settings.workers entry < length made
    actor_there =
        let number = (kept_at code settings journal keeps.in_range keeps.legal).numbered.number in
        let below = actor_below code settings (last code settings journal) entry number may in
        omega (arith, keeps.actors)

    pub count_fits : (actor : ℕ) → get_or made actor 0 + 1 < 2 ^ 64
    count_fits actor =
        let few = room_left in
        let a = keeps.in_range.entries in
        let b = keeps.in_range.cells in
        let c = keeps.in_range.workers in
        omega (arith, keeps.made_each actor, count_by-le-length (λ (e : Entry). actor_of settings.workers e == actor) journal)

    -- and the machine keeps its own
    pub keeps_next : (bigger : ℕ) (items : List Entry) (next : State) → room ≤ bigger → items ≡ journal ++ entry ∷ [] → next ≡ after code settings present entry →
        Keeps code settings bigger items (set made (actor_of settings.workers entry) (get_or made (actor_of settings.workers entry) 0 + 1)) next
    keeps_next bigger items next more items_are next_is = rw items_are (record {
      in_range = keeps.in_range;
      legal = longer;
      its_last = next_is ∙ ap (λ s. after code settings s entry) keeps.its_last ∙ sym (after_all-append code settings (first code settings) journal (entry ∷ []));
      reserved = let enough = keeps.reserved in omega arith;
      actors = length-set made (actor_of settings.workers entry) _ ∙ keeps.actors;
      made_each = λ actor. replaced_within (λ k n. n ≡ made_by settings k (journal ++ entry ∷ [])) 0 made (actor_of settings.workers entry) _ actor_there
          (omega (arith, keeps.made_each (actor_of settings.workers entry), made_next settings (actor_of settings.workers entry) journal entry, one_if_eq (actor_of settings.workers entry) (actor_of settings.workers entry) refl))
          (λ k other. let none : one_if (actor_of settings.workers entry == k) ≡ 0 = ap one_if (ne_eqb (actor_of settings.workers entry) k (λ e. other (sym e))) in
          omega (arith, keeps.made_each k, made_next settings k journal entry, none)) actor;
    })
