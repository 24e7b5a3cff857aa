-- Options that lie in the table, none of which was given too often.
use Rattle.std.proofs.Common.{◌≡◌, ℕ, zero, suc, ◌<◌, ◌≤◌, ◌+◌, List, [], ◌∷◌, ◌++◌, length, Bool, true, false, cond, sym, ap, ◌∙◌, refl, arith}
use Rattle.std.proofs.lemmas.Bool.{eqb-true}
use Rattle.std.proofs.lemmas.List.Elements.{All-push, All-nil}
use Rattle.std.proofs.lemmas.List.Sums.{sum_by-append, sum_by-cons}
use Rattle.gp_words.specs.declared.setting.Setting.{Setting}
use Rattle.gp_words.specs.declared.setting.Setting.TheVariants.{Workers, At, Room, Hz, Block, Mutex, Seed, Cells, Entries, Ring, Tags, Picks}
use Rattle.gp_words.specs.declared.choice.Choice.{Choice}
use Rattle.gp_words.specs.Table.{number_of_setting, same, most_times}
use Rattle.gp_words.specs.Options.{times}
use Rattle.gp_words.specs.kept.Sound.{IsInTable, IsSound}

-- what is set, by its number
setting_at : ℕ → Setting
setting_at zero = Workers
setting_at (suc zero) = At
setting_at (suc (suc zero)) = Room
setting_at (suc (suc (suc zero))) = Hz
setting_at (suc (suc (suc (suc zero)))) = Block
setting_at (suc (suc (suc (suc (suc zero))))) = Mutex
setting_at (suc (suc (suc (suc (suc (suc zero)))))) = Seed
setting_at (suc (suc (suc (suc (suc (suc (suc zero))))))) = Cells
setting_at (suc (suc (suc (suc (suc (suc (suc (suc zero)))))))) = Entries
setting_at (suc (suc (suc (suc (suc (suc (suc (suc (suc zero))))))))) = Ring
setting_at (suc (suc (suc (suc (suc (suc (suc (suc (suc (suc zero)))))))))) = Tags
setting_at (suc (suc (suc (suc (suc (suc (suc (suc (suc (suc (suc n))))))))))) = Picks

back : (setting : Setting) → setting_at (number_of_setting setting) ≡ setting
unfolding setting_at
back Workers = refl
back At = refl
back Room = refl
back Hz = refl
back Block = refl
back Mutex = refl
back Seed = refl
back Cells = refl
back Entries = refl
back Ring = refl
back Tags = refl
back Picks = refl

-- settings of one number are one
pub same_is : (a b : Setting) → same a b ≡ true → a ≡ b
same_is a b e = sym (back a) ∙ (ap setting_at (eqb-true (number_of_setting a) (number_of_setting b) e) ∙ back b)

-- each setting is one of the twelve
one_of_twelve : (s : Setting) → cond (same s Workers) 1 0 + cond (same s At) 1 0 + cond (same s Room) 1 0 + cond (same s Hz) 1 0 + cond (same s Block) 1 0 + cond (same s Mutex) 1 0 + cond (same s Seed) 1 0
    + cond (same s Cells) 1 0 + cond (same s Entries) 1 0 + cond (same s Ring) 1 0 + cond (same s Tags) 1 0 + cond (same s Picks) 1 0 ≡ 1
one_of_twelve Workers = refl
one_of_twelve At = refl
one_of_twelve Room = refl
one_of_twelve Hz = refl
one_of_twelve Block = refl
one_of_twelve Mutex = refl
one_of_twelve Seed = refl
one_of_twelve Cells = refl
one_of_twelve Entries = refl
one_of_twelve Ring = refl
one_of_twelve Tags = refl
one_of_twelve Picks = refl

all_counted : (taken : List Choice) → times Workers taken + times At taken + times Room taken + times Hz taken + times Block taken + times Mutex taken + times Seed taken + times Cells taken + times Entries taken + times Ring taken
    + times Tags taken + times Picks taken ≡ length taken
all_counted [] = refl
all_counted (choice ∷ taken) =
    let one = one_of_twelve choice.setting in
    let rest = all_counted taken in
    omega (arith, more Workers, more At, more Room, more Hz, more Block, more Mutex, more Seed, more Cells, more Entries, more Ring, more Tags, more Picks) where
      more : (s : Setting) → times s (choice ∷ taken) ≡ cond (same choice.setting s) 1 0 + times s taken
      more s = sum_by-cons (λ (c : Choice). cond (same c.setting s) 1 0) choice taken

-- so there are few options
pub few : (taken : List Choice) → IsSound taken → length taken ≤ 19
few taken s =
    omega (
      arith,
      all_counted taken,
      s.at_most Workers,
      s.at_most At,
      s.at_most Room,
      s.at_most Hz,
      s.at_most Block,
      s.at_most Mutex,
      s.at_most Seed,
      s.at_most Cells,
      s.at_most Entries,
      s.at_most Ring,
      s.at_most Tags,
      s.at_most Picks,
    )

pub none_sound : IsSound []
none_sound = record { in_table = All-nil IsInTable; at_most = λ setting. none_taken setting } where
  none_taken : (setting : Setting) → times setting [] ≤ most_times setting
  none_taken setting = omega arith

-- one more option of the table, which may still be given
pub more_sound : (taken : List Choice) (choice : Choice) → IsSound taken → IsInTable choice → times choice.setting taken < most_times choice.setting → IsSound (taken ++ choice ∷ [])
more_sound taken choice s table fewer = record { in_table = All-push IsInTable taken choice s.in_table table; at_most = at_most } where
  at_most : (setting : Setting) → times setting (taken ++ choice ∷ []) ≤ most_times setting
  at_most setting = go (same choice.setting setting) refl where
    go : (b : Bool) → same choice.setting setting ≡ b → times setting (taken ++ choice ∷ []) ≤ most_times setting
    go true e =
        let is : choice.setting ≡ setting = same_is choice.setting setting e in
        let more = sum_by-append (λ (c : Choice). cond (same c.setting setting) 1 0) taken (choice ∷ []) in
        let one : ◌≡◌ {A = ℕ} (cond (same choice.setting setting) 1 0) 1 = ap (λ b. cond b 1 0) e in
        omega (arith, more, one, ap (λ t. times t taken) is, ap most_times is)
    go false e =
        let more = sum_by-append (λ (c : Choice). cond (same c.setting setting) 1 0) taken (choice ∷ []) in
        let none : ◌≡◌ {A = ℕ} (cond (same choice.setting setting) 1 0) 0 = ap (λ b. cond b 1 0) e in
        omega (arith, more, none, s.at_most setting)
