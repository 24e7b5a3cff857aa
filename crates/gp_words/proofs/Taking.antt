-- What an option says.
use Rattle.std.proofs.Common.{◌≡◌, ℕ, ◌<◌, ◌≤◌, ◌+◌, List, [], ◌∷◌, ◌++◌, length, Bool, true, false, cond, Option, Some, None, String, string_bytes, subst, sym, ap, ◌∙◌, refl, arith, ltb, lit≤}
use Rattle.std.proofs.Common.{Bor, Iter, Result, Ok, Err, IsErrAnd, option_map}
use Rattle.std.specs.Slice.Iter.{iter_rest, iter_steps}
use Rattle.std.specs.Global.{Global}
use Rattle.gp_words.specs.declared.error.WordError.{WordError}
use Rattle.gp_words.specs.declared.error.WordError.TheVariants.{Usage, Memory}
use Rattle.std.proofs.lemmas.Bool.{lt-ltb, le-ltb, ltb-true}
use Rattle.gp_words.specs.Causes.{unknown_option, twice}
use Rattle.gp_words.specs.declared.command.Command.{Command}
use Rattle.gp_words.specs.declared.command.Command.TheVariants.{Run, Sim, Gen}
use Rattle.gp_words.specs.declared.setting.Setting.{Setting}
use Rattle.gp_words.specs.declared.choice.Choice.{Choice}
use Rattle.gp_words.specs.declared.choice.Value.{Value}
use Rattle.gp_words.proofs.Lists.{value_in_table}
use Rattle.gp_words.specs.Words.{texts}
use Rattle.gp_words.specs.Table.{setting_of, values_of, most_times}
use Rattle.gp_words.specs.Read.{Read, Names, Faults, and_then, value_or_fault, IsFault, Reads}
use Rattle.gp_words.specs.Options.{value_of, times, first_option, place_behind, choice_of_setting, choice_of_named, choice_of, options_of}
use Rattle.gp_words.specs.kept.Sound.{IsInTable}

-- what an error is carried as
pub carried : {A : Type 0} (r : Result A WordError) (error : WordError) (read : Read A) → IsErrAnd r (λ e. e ≡ error) → IsFault error read → Reads r read
carried (Ok a) error read is fault = absurd is
carried (Err e) error read is fault = subst (λ (x : WordError). IsFault x read) (sym is) fault

-- what reads the same is answered the same
pub reads_same : {A : Type 0} (r : Result A WordError) (read other : Read A) → read ≡ other → Reads r other → Reads r read
reads_same {A = A} r read other same h = subst (λ (x : Read A). Reads r x) (sym same) h

-- a fault stays one, whatever follows
pub fault_stays : {A B : Type 0} (error : WordError) (read : Read A) (rest : A → Read B) → IsFault error read → IsFault error (and_then read rest)
fault_stays (Usage place cause) read rest e = ap (λ o. and_then o rest) e
fault_stays Memory read rest e = tt

-- what follows something that is named
pub goes_on : {A B : Type 0} (read : Read A) (rest : A → Read B) (a : A) → read ≡ Names a → and_then read rest ≡ rest a
goes_on read rest a e = ap (λ o. and_then o rest) e

-- an error that is handed on
pub handed_on : {A B : Type 0} (r : Result B WordError) (error : WordError) (read : Read A) (rest : A → Read B) → IsErrAnd r (λ e. e ≡ error) → IsFault error read → Reads r (and_then read rest)
handed_on r error read rest is fault = carried r error (and_then read rest) is (fault_stays error read rest fault)

-- the first option stands near
pub first_near : (command : Command) → first_option command ≤ 3
first_near Run = lit≤ tt
first_near Sim = lit≤ tt
first_near Gen = lit≤ tt

module _ (command : Command) (taken : List Choice) (word : List ℕ) (value : Option (List ℕ)) where
  pub unknown : setting_of command word ≡ None → choice_of command taken word value ≡ Faults (place_behind command taken) unknown_option
  unfolding choice_of
  unknown e = ap (λ o. choice_of_named (place_behind command taken) taken o value) e

  pub given_too_often : (setting : Setting) → setting_of command word ≡ Some setting → most_times setting ≤ times setting taken
      → choice_of command taken word value ≡ Faults (place_behind command taken) twice
  unfolding choice_of
  given_too_often setting e often =
      ap (λ o. choice_of_named (place_behind command taken) taken o value) e ∙ simp (le-ltb (times setting taken) (most_times setting) often)

  -- an option whose word names a setting that may be given
  pub allowed : (setting : Setting) → setting_of command word ≡ Some setting → times setting taken < most_times setting
      → choice_of command taken word value ≡ choice_of_setting (place_behind command taken + 1) setting value
  unfolding choice_of
  allowed setting e fewer =
      ap (λ o. choice_of_named (place_behind command taken) taken o value) e ∙ simp (lt-ltb (times setting taken) (most_times setting) fewer)

-- What the choice of an option is: its value is in the table, it may be given, and there is a word for its value.
pub record IsRight (taken : List Choice) (value : Option (List ℕ)) (choice : Choice) : Type 0 where
  pub in_table : IsInTable choice
  pub fewer : times choice.setting taken < most_times choice.setting
  pub word : List ℕ
  pub there : value ≡ Some word

right_value : (taken : List Choice) (place : ℕ) (setting : Setting) (word : List ℕ) (o : Option Value) (choice : Choice) → times setting taken < most_times setting
    → value_of (values_of setting) word ≡ o → and_then (value_or_fault place o) (λ value. Names (record { setting = setting; value = value })) ≡ Names choice
    → IsRight taken (Some word) choice
right_value taken place setting word None choice fewer is e = absurd cc
right_value taken place setting word (Some value) choice fewer is e =
    let same : record { setting = setting; value = value } ≡ choice = cc in
    subst (λ (c : Choice). IsRight taken (Some word) c) same
    (record { in_table = value_in_table (values_of setting) word value is; fewer = fewer; word = word; there = refl })

right_there : (taken : List Choice) (place : ℕ) (setting : Setting) (value : Option (List ℕ)) (choice : Choice) → times setting taken < most_times setting
    → choice_of_setting place setting value ≡ Names choice → IsRight taken value choice
right_there taken place setting None choice fewer e = absurd cc
right_there taken place setting (Some word) choice fewer e = right_value taken place setting word (value_of (values_of setting) word) choice fewer refl e

right_known : (place : ℕ) (taken : List Choice) (o : Option Setting) (value : Option (List ℕ)) (choice : Choice) → choice_of_named place taken o value ≡ Names choice → IsRight taken value choice
right_known place taken None value choice e = absurd cc
right_known place taken (Some setting) value choice e = go (ltb (times setting taken) (most_times setting)) refl e where
  go : (b : Bool) → ltb (times setting taken) (most_times setting) ≡ b
      → cond b (choice_of_setting (place + 1) setting value) (Faults place twice) ≡ Names choice → IsRight taken value choice
  go true fewer e = right_there taken (place + 1) setting value choice (ltb-true (times setting taken) (most_times setting) fewer) e
  go false often e = absurd cc

pub right : (command : Command) (taken : List Choice) (word : List ℕ) (value : Option (List ℕ)) (choice : Choice) → choice_of command taken word value ≡ Names choice → IsRight taken value choice
unfolding choice_of
right command taken word value choice e = right_known (place_behind command taken) taken (setting_of command word) value choice e

-- the word behind an option's, where there is one
abbrev pub behind_word : List (String Global) → Option (List ℕ)
behind_word [] = None
behind_word (word ∷ words) = Some (string_bytes word)

abbrev pub two_behind : List (String Global) → List (String Global)
two_behind [] = []
two_behind (word ∷ words) = words

-- the options of words: none is left
pub none_left : (command : Command) (taken : List Choice) (words : List (String Global)) → length words ≡ 0 → options_of command taken (texts words) ≡ Names taken
unfolding options_of
none_left command taken [] none = refl
none_left command taken (word ∷ words) none = absurd (omega arith)

-- the first fault is in the first option
pub first_faults : (command : Command) (taken : List Choice) (word : String Global) (words : List (String Global)) (place cause : ℕ)
    → choice_of command taken (string_bytes word) (behind_word words) ≡ Faults place cause → options_of command taken (texts (word ∷ words)) ≡ Faults place cause
unfolding options_of
first_faults command taken word [] place cause e = ap (λ o. and_then o (λ choice. Names (taken ++ choice ∷ []))) e
first_faults command taken word (value ∷ words) place cause e = ap (λ o. and_then o (λ choice. options_of command (taken ++ choice ∷ []) (texts words))) e

pub first_fault : (command : Command) (taken : List Choice) (word : String Global) (words : List (String Global)) (error : WordError)
    → IsFault error (choice_of command taken (string_bytes word) (behind_word words)) → IsFault error (options_of command taken (texts (word ∷ words)))
first_fault command taken word words (Usage place cause) e = first_faults command taken word words place cause e
first_fault command taken word words Memory e = tt

-- the first option is right
pub first_right : (command : Command) (taken : List Choice) (word : String Global) (words : List (String Global)) (choice : Choice)
    → choice_of command taken (string_bytes word) (behind_word words) ≡ Names choice
    → options_of command taken (texts (word ∷ words)) ≡ options_of command (taken ++ choice ∷ []) (texts (two_behind words))
unfolding options_of
first_right command taken word [] choice e = ap (λ o. and_then o (λ choice. Names (taken ++ choice ∷ []))) e
first_right command taken word (value ∷ words) choice e = ap (λ o. and_then o (λ choice. options_of command (taken ++ choice ∷ []) (texts words))) e

-- the word behind an option's, as an iterator gives it
pub second : (s t : Iter (String Global)) (r : Option (Bor (String Global))) → iter_steps s r t → (option_map (λ w. string_bytes w.now) r ≡ behind_word (iter_rest s)) × (iter_rest t ≡ two_behind (iter_rest s))
second s t None h = go (iter_rest s) h.0 (ap iter_rest h.1) where
  go : (words : List (String Global)) → length words ≡ 0 → iter_rest t ≡ words → (None ≡ behind_word words) × (iter_rest t ≡ two_behind words)
  go [] none same = (refl, same)
  go (word ∷ words) none same = absurd (omega arith)
second s t (Some word) h = (ap behind_word (sym h), ap two_behind (sym h))
