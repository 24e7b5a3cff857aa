-- What an active profile still has to record stands as it stood at its Open, so that each copy recorded is frozen there.
use Rattle.std.proofs.Common.{◌≡◌, ◌⊎◌, ℕ, ◌+◌, ◌<◌, ◌≤◌, Bool, true, false, List, [], ◌∷◌, ◌++◌, get_or, refl, sym, ap, ◌∙◌, subst, inl, inr, arith, zero, suc, true≢false, append_assoc, nat_lt, if◌then◌else◌, ◌&&◌}
use Rattle.std.proofs.lemmas.Bool.{cases_eq, and_right, le-ltb}
use Rattle.gp_stack.specs.declared.record.Record.{Record as Row}
use Rattle.gp_journal.specs.declared.entry.Entry.{Entry}
use Rattle.gp_journal.specs.declared.entry.Entry.TheVariants.{Open}
use Rattle.gp_journal.specs.declared.goroutine.Goroutine.{Goroutine}
use Rattle.gp_journal.specs.declared.settings.Settings.{Settings}
use Rattle.gp_journal.specs.State.{Code, State, nobody, goroutine, is_live, is_behind, births}
use Rattle.gp_journal.specs.Run.{last}
use Rattle.gp_journal.specs.Frozen.{row, rows_from, frozen}
use Rattle.gp_journal.proofs.Lemmas.{behind_parts}
use Rattle.gp_core.specs.CoreLaws.{IsAmong, IsFrozenCopy}
use Rattle.gp_core.proofs.Cells.{same_row}
use Rattle.gp_core.proofs.Turns.{Stays, IsNewborn, TurnsAll}

-- a goroutine was live, and its row is the same
pub record StoodThere (code : Code) (g : ℕ) (old x : Goroutine) : Type 0 where
  pub was_live : is_live old ≡ true
  pub its_row : row code g x ≡ row code g old

-- The active profile's Open, and that all who have still to be recorded stand as they stood then.
pub record IsOpen (code : Code) (settings : Settings) (journal : List Entry) (s : State) : Type 0 where
  pub before : List Entry
  pub room : ℕ
  pub during : List Entry
  pub opened : journal ≡ before ++ Open s.active room ∷ during
  pub stood : (g : ℕ) → is_behind s.active (goroutine s g) ≡ true → StoodThere code g (goroutine (last code settings before) g) (goroutine s g)

-- the row of a live goroutine is among those that are frozen
among_rows : (code : Code) (gs : List Goroutine) (n g m : ℕ) → m ≡ n + g → is_live (get_or gs g nobody) ≡ true → IsAmong (row code m (get_or gs g nobody)) (rows_from code is_live n gs)
among_rows code [] n g m e live = absurd (true≢false (sym live))
among_rows code (x ∷ xs) n zero m e live =
    let same : m ≡ n = omega arith in
    subst (λ b. IsAmong (row code m x) (if b then row code n x ∷ rows_from code is_live (suc n) xs else rows_from code is_live (suc n) xs)) (sym live)
    (inl (ap (λ k. row code k x) (sym same)))
among_rows code (x ∷ xs) n (suc g) m e live = deeper (is_live x) (among_rows code xs (suc n) g m (omega arith) live)
  where
    deeper : (b : Bool) → IsAmong (row code m (get_or xs g nobody)) (rows_from code is_live (suc n) xs) →
        IsAmong (row code m (get_or xs g nobody)) (if b then row code n x ∷ rows_from code is_live (suc n) xs else rows_from code is_live (suc n) xs)
    deeper true there = inr there
    deeper false there = there

-- a journal with more entries was opened at the same place
opened_longer : (before during more journal : List Entry) (it : Entry) → journal ≡ before ++ it ∷ during → journal ++ more ≡ before ++ it ∷ (during ++ more)
opened_longer before during more journal it e = ap (λ (l : List Entry). l ++ more) e ∙ append_assoc before (it ∷ during) more

pub longer_copy : (code : Code) (settings : Settings) (journal more : List Entry) (copy : ℕ × Row) → IsFrozenCopy code settings journal copy → IsFrozenCopy code settings (journal ++ more) copy
longer_copy code settings journal more copy it = record {
  before = it.before;
  room = it.room;
  during = it.during ++ more;
  opened = opened_longer it.before it.during more journal (Open copy.0 it.room) it.opened;
  among = it.among;
}

-- the copy of one that has still to be recorded is frozen
pub copy_frozen : (code : Code) (settings : Settings) (journal more : List Entry) (s : State) (g : ℕ) (copy : Row) → IsOpen code settings journal s → is_behind s.active (goroutine s g) ≡ true →
    copy ≡ row code g (goroutine s g) → IsFrozenCopy code settings (journal ++ more) (s.active, copy)
copy_frozen code settings journal more s g copy is_open behind its_row =
    let it = is_open.stood g behind in
    let o = last code settings is_open.before in
    record {
      before = is_open.before;
      room = is_open.room;
      during = is_open.during ++ more;
      opened = opened_longer is_open.before is_open.during more journal (Open s.active is_open.room) is_open.opened;
      among = subst (λ (r : Row). IsAmong r (frozen code o)) (sym (its_row ∙ it.its_row)) (among_rows code o.goroutines 0 g g (omega arith) it.was_live);
    }

-- one that has the active epoch isn't behind
pub recorded_behind : (active : ℕ) (x : Goroutine) → active ≤ x.epoch → is_behind active x ≡ false
recorded_behind active x le = and_right (is_live x) (nat_lt x.epoch active) (le-ltb x.epoch active le)

-- An entry of g, after which g isn't behind, leaves the profile open.
pub entry_open : (code : Code) (settings : Settings) (journal more : List Entry) (s t : State) (g : ℕ) → IsOpen code settings journal s → TurnsAll s t g → s.active ≤ s.last_epoch →
    is_behind s.active (goroutine t g) ≡ false → IsOpen code settings (journal ++ more) t
entry_open code settings journal more s t g is_open turn ordered own = record {
  before = is_open.before;
  room = is_open.room;
  during = is_open.during ++ more;
  opened = subst (λ n. journal ++ more ≡ is_open.before ++ Open n is_open.room ∷ (is_open.during ++ more)) (sym turn.active)
      (opened_longer is_open.before is_open.during more journal (Open s.active is_open.room) is_open.opened);
  stood = λ k behind. at k (cases_eq k g) (subst (λ n. is_behind n (goroutine t k) ≡ true) turn.active behind);
}
  where
    o : State
    o = last code settings is_open.before

    other : (k : ℕ) → is_behind s.active (goroutine t k) ≡ true →
        (Stays (goroutine s k) (goroutine t k) × (k < births t → k < births s)) ⊎ ((births s ≤ k) × IsNewborn s.last_epoch (goroutine t k)) →
        StoodThere code k (goroutine (last code settings is_open.before) k) (goroutine t k)
    other k behind (inl stays) =
        let x = goroutine s k in
        let y = goroutine t k in
        let was : is_behind s.active x ≡ true = ap (λ b. b && nat_lt x.epoch s.active) (sym stays.0.lives) ∙ ap (λ n. is_live y && nat_lt n s.active) (sym stays.0.epoch) ∙ behind in
        let it = is_open.stood k was in
        record { was_live = it.was_live; its_row = same_row code k x y stays.0.start stays.0.inherited stays.0.count ∙ it.its_row }
    other k behind (inr born) =
        let below = (behind_parts s.active (goroutine t k) behind).1 in
        let e = born.1.last_epoch in
        absurd (omega arith)

    at : (k : ℕ) → (k ≡ g) ⊎ (k ≡ g → ⊥) → is_behind s.active (goroutine t k) ≡ true → StoodThere code k (goroutine (last code settings is_open.before) k) (goroutine t k)
    at k (inl same) behind = absurd (true≢false (sym behind ∙ ap (λ n. is_behind s.active (goroutine t n)) same ∙ own))
    at k (inr away) behind = other k behind (turn.others.each k away)

-- With its Open a profile is open.
pub opens : (code : Code) (settings : Settings) (journal : List Entry) (s t : State) (room : ℕ) → last code settings journal ≡ s → t.goroutines ≡ s.goroutines →
    IsOpen code settings (journal ++ Open t.active room ∷ []) t
opens code settings journal s t room now same = record {
  before = journal;
  room = room;
  during = [];
  opened = refl;
  stood = λ g behind. record {
    was_live = ap (λ (u : State). is_live (goroutine u g)) now ∙ ap (λ (gs : List Goroutine). is_live (get_or gs g nobody)) (sym same) ∙ (behind_parts t.active (goroutine t g) behind).0;
    its_row = ap (λ (gs : List Goroutine). row code g (get_or gs g nobody)) same ∙ ap (λ (u : State). row code g (goroutine u g)) (sym now);
  };
}
