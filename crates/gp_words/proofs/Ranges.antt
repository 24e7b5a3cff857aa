-- The settings of options that lie in the table lie in their ranges.
use Rattle.std.proofs.Common.{◌≡◌, ℕ, ◌<◌, ◌≤◌, ◌+◌, ◌-◌, ◌^◌, ◌%◌, List, [], ◌∷◌, length, Bool, true, false, cond, Option, Some, None, ap, subst, ◌∙◌, refl, arith, All, lit≤, unwrap_or}
use Rattle.std.proofs.lemmas.List.Elements.{All-nil, All-cons, All-head, All-tail}
use Rattle.std.proofs.lemmas.List.Sums.{sum_by-cons}
use Rattle.std.specs.List.{cons_option}
use Rattle.gp_journal.specs.declared.settings.Request.{Request}
use Rattle.gp_journal.specs.Settings.{AreInRange, IsInstant}
use Rattle.gp_words.specs.declared.setting.Setting.{Setting}
use Rattle.gp_words.specs.declared.setting.Setting.TheVariants.{Workers, At, Room, Hz, Block, Mutex, Seed, Cells, Entries, Ring, Tags, Picks}
use Rattle.gp_words.specs.declared.setting.Values.TheVariants.{Numbers}
use Rattle.gp_words.specs.declared.choice.Choice.{Choice}
use Rattle.gp_words.specs.declared.choice.Value.{Value}
use Rattle.gp_words.specs.declared.choice.Value.TheVariants.{Number, Instant, List as Listed}
use Rattle.gp_words.specs.Table.{values_of, same}
use Rattle.gp_words.specs.Options.{times}
use Rattle.gp_words.specs.kept.Sound.{IsOneOf, IsInTable, IsSound}
use Rattle.gp_words.specs.Settings.{number_value, instant_value, list_value, or_else, number_of, instants_of, list_of, number_or, settings_of}
use Rattle.gp_words.proofs.Sound.{same_is}

-- a number that a setting was given is one of its values
number_table : (setting : Setting) (taken : List Choice) (n : ℕ) → All IsInTable taken → number_of setting taken ≡ Some n → IsOneOf (values_of setting) (Number n)
number_table setting [] n table e = absurd cc
number_table setting (choice ∷ taken) n table e =
    go (same choice.setting setting) choice.value refl (All-head IsInTable choice taken table) (λ r. number_table setting taken n (All-tail IsInTable choice taken table) r) e where
      go : (b : Bool) (v : Value) → same choice.setting setting ≡ b → IsOneOf (values_of choice.setting) v → (number_of setting taken ≡ Some n → IsOneOf (values_of setting) (Number n))
          → cond b (or_else (number_value v) (number_of setting taken)) (number_of setting taken) ≡ Some n → IsOneOf (values_of setting) (Number n)
      go true (Number m) is one rest e =
          let value : m ≡ n = cc in
          subst (λ (s : Setting). IsOneOf (values_of s) (Number n)) (same_is choice.setting setting is) (subst (λ (k : ℕ). IsOneOf (values_of choice.setting) (Number k)) value one)
      go true (Instant request) is one rest e = rest e
      go true (Listed ns) is one rest e = rest e
      go false v is one rest e = rest e

-- the number given, or the usual one
either : (P : ℕ → Type 0) (o : Option ℕ) (usual : ℕ) → P usual → ((n : ℕ) → o ≡ Some n → P n) → P (unwrap_or o usual)
either P None usual u given = u
either P (Some n) usual u given = given n refl

-- a setting that has numbers from a least to a most one, its usual number among them
number_range : (setting : Setting) (usual least most : ℕ) (taken : List Choice) → values_of setting ≡ Numbers least most → least ≤ usual → usual ≤ most → IsSound taken
    → (least ≤ number_or usual setting taken) × (number_or usual setting taken ≤ most)
number_range setting usual least most taken values low high s =
    either (λ n. (least ≤ n) × (n ≤ most)) (number_of setting taken) usual (low, high)
    (λ n e. subst (λ v. IsOneOf v (Number n)) values (number_table setting taken n s.in_table e))

pub workers_range : (taken : List Choice) → IsSound taken → (1 ≤ number_or 2 Workers taken) × (number_or 2 Workers taken ≤ 16)
workers_range taken s = number_range Workers 2 1 16 taken refl (lit≤ tt) (lit≤ tt) s

pub cells_range : (taken : List Choice) → IsSound taken → (1 ≤ number_or 1024 Cells taken) × (number_or 1024 Cells taken ≤ 16384)
cells_range taken s = number_range Cells 1024 1 16384 taken refl (lit≤ tt) (lit≤ tt) s

pub entries_range : (taken : List Choice) → IsSound taken → (16 ≤ number_or 262144 Entries taken) × (number_or 262144 Entries taken ≤ 4194304)
entries_range taken s = number_range Entries 262144 16 4194304 taken refl (lit≤ tt) (lit≤ tt) s

pub block_range : (taken : List Choice) → IsSound taken → (0 ≤ number_or 0 Block taken) × (number_or 0 Block taken ≤ 1)
block_range taken s = number_range Block 0 0 1 taken refl (lit≤ tt) (lit≤ tt) s

pub mutex_range : (taken : List Choice) → IsSound taken → (0 ≤ number_or 0 Mutex taken) × (number_or 0 Mutex taken ≤ 1000000000)
mutex_range taken s = number_range Mutex 0 0 1000000000 taken refl (lit≤ tt) (lit≤ tt) s

pub ring_range : (taken : List Choice) → IsSound taken → (16 ≤ number_or 131072 Ring taken) × (number_or 131072 Ring taken ≤ 1048576)
ring_range taken s = number_range Ring 131072 16 1048576 taken refl (lit≤ tt) (lit≤ tt) s

pub tags_range : (taken : List Choice) → IsSound taken → (1 ≤ number_or 16384 Tags taken) × (number_or 16384 Tags taken ≤ 1048576)
tags_range taken s = number_range Tags 16384 1 1048576 taken refl (lit≤ tt) (lit≤ tt) s

pub room_range : (taken : List Choice) → IsSound taken → (0 ≤ number_or (number_or 1024 Cells taken) Room taken) × (number_or (number_or 1024 Cells taken) Room taken ≤ 16384)
room_range taken s = number_range Room (number_or 1024 Cells taken) 0 16384 taken refl (omega arith) (cells_range taken s).1 s

seed_range : (taken : List Choice) → IsSound taken → number_or 42 Seed taken < 2 ^ 64
seed_range taken s =
    let range = number_range Seed 42 0 (2 ^ 64 - 1) taken refl (omega arith) (omega arith) s in
    omega (arith, range.1)

-- ticks: a divisor of a million
pub hz_range : (taken : List Choice) → IsSound taken → (1 ≤ number_or 100 Hz taken) × ((number_or 100 Hz taken ≤ 1000000) × (1000000 % number_or 100 Hz taken ≡ 0))
hz_range taken s =
    either (λ n. (1 ≤ n) × ((n ≤ 1000000) × (1000000 % n ≡ 0))) (number_of Hz taken) 100 (lit≤ tt, (lit≤ tt, refl))
    (λ n e. number_table Hz taken n s.in_table e)

-- an instant is the value of `--at` alone
instant_of_at : (setting : Setting) (request : Request) → IsOneOf (values_of setting) (Instant request) → (IsInstant request) × (◌≡◌ {A = ℕ} (cond (same setting At) 1 0) 1)
instant_of_at Workers request one = absurd one
instant_of_at At request one = (one, refl)
instant_of_at Room request one = absurd one
instant_of_at Hz request one = absurd one
instant_of_at Block request one = absurd one
instant_of_at Mutex request one = absurd one
instant_of_at Seed request one = absurd one
instant_of_at Cells request one = absurd one
instant_of_at Entries request one = absurd one
instant_of_at Ring request one = absurd one
instant_of_at Tags request one = absurd one
instant_of_at Picks request one = absurd one

-- so there are as few instants as options `--at`, and each may be asked for
record AreInstants (taken : List Choice) : Type 0 where
  few : length (instants_of taken) ≤ times At taken
  all : All IsInstant (instants_of taken)

instants_range : (taken : List Choice) → All IsInTable taken → AreInstants taken
instants_range [] table = record { few = lit≤ tt; all = All-nil IsInstant }
instants_range (choice ∷ taken) table =
    let rest = instants_range taken (All-tail IsInTable choice taken table) in
    let more = sum_by-cons (λ (c : Choice). cond (same c.setting At) 1 0) choice taken in
    let both = go choice.value (All-head IsInTable choice taken table) rest.few rest.all in
    record { few = omega (arith, both.0, more); all = both.1 } where
      go : (v : Value) → IsOneOf (values_of choice.setting) v → length (instants_of taken) ≤ times At taken → All IsInstant (instants_of taken)
          → (length (cons_option (instant_value v) (instants_of taken)) ≤ cond (same choice.setting At) 1 0 + times At taken) × All IsInstant (cons_option (instant_value v) (instants_of taken))
      go (Number n) one few all = (omega arith, all)
      go (Instant request) one few all =
          let is = instant_of_at choice.setting request one in
          (omega (arith, is.1), All-cons IsInstant request (instants_of taken) is.0 all)
      go (Listed ns) one few all = (omega arith, all)

-- a list is the value of `--picks` alone
list_table : (setting : Setting) (ns : List ℕ) → IsOneOf (values_of setting) (Listed ns) → (length ns ≤ 100000) × All (λ n. n < 2 ^ 32) ns
list_table Workers ns one = absurd one
list_table At ns one = absurd one
list_table Room ns one = absurd one
list_table Hz ns one = absurd one
list_table Block ns one = absurd one
list_table Mutex ns one = absurd one
list_table Seed ns one = absurd one
list_table Cells ns one = absurd one
list_table Entries ns one = absurd one
list_table Ring ns one = absurd one
list_table Tags ns one = absurd one
list_table Picks ns one = one

list_range : (taken : List Choice) → All IsInTable taken → (length (list_of taken) ≤ 100000) × All (λ n. n < 2 ^ 32) (list_of taken)
list_range [] table = (lit≤ tt, All-nil (λ n. n < 2 ^ 32))
list_range (choice ∷ taken) table =
    go choice.value (All-head IsInTable choice taken table) (list_range taken (All-tail IsInTable choice taken table)) where
      go : (v : Value) → IsOneOf (values_of choice.setting) v → (length (list_of taken) ≤ 100000) × All (λ n. n < 2 ^ 32) (list_of taken)
          → (length (unwrap_or (list_value v) (list_of taken)) ≤ 100000) × All (λ n. n < 2 ^ 32) (unwrap_or (list_value v) (list_of taken))
      go (Number n) one rest = rest
      go (Instant request) one rest = rest
      go (Listed ns) one rest = list_table choice.setting ns one

pub settings_range : (taken : List Choice) → IsSound taken → AreInRange (settings_of taken)
unfolding settings_of
settings_range taken s =
    let workers = workers_range taken s in
    let hz = hz_range taken s in
    let cells = cells_range taken s in
    let entries = entries_range taken s in
    let ring = ring_range taken s in
    let tags = tags_range taken s in
    let instants = instants_range taken s.in_table in
    let list = list_range taken s.in_table in
    record {
      some_worker = workers.0;
      workers = workers.1;
      few_requests = omega (arith, instants.few, s.at_most At);
      instants = instants.all;
      room = (room_range taken s).1;
      some_hz = hz.0;
      hz = hz.1.1;
      block = (block_range taken s).1;
      mutex = (mutex_range taken s).1;
      seed = seed_range taken s;
      some_cell = cells.0;
      cells = cells.1;
      some_entries = entries.0;
      entries = entries.1;
      some_ring = ring.0;
      ring = ring.1;
      some_tag = tags.0;
      tags = tags.1;
      picks = list.0;
      each_pick = list.1;
    }

-- settings are those of the options where each part is
pub built : (taken : List Choice) (workers : ℕ) (at : List Request) (cells room hz block mutex seed entries ring tags : ℕ) (picks : List ℕ)
    → workers ≡ number_or 2 Workers taken → at ≡ instants_of taken → cells ≡ number_or 1024 Cells taken
    → room ≡ number_or cells Room taken → hz ≡ number_or 100 Hz taken → block ≡ number_or 0 Block taken → mutex ≡ number_or 0 Mutex taken
    → seed ≡ number_or 42 Seed taken → entries ≡ number_or 262144 Entries taken → ring ≡ number_or 131072 Ring taken → tags ≡ number_or 16384 Tags taken → picks ≡ list_of taken
    → record { workers = workers; at = at; room = room; hz = hz; block = block; mutex = mutex; seed = seed; cells = cells; entries = entries; ring = ring; tags = tags; picks = picks } ≡ settings_of taken
unfolding settings_of
built taken workers at cells room hz block mutex seed entries ring tags picks w a c r h b m s e g t p =
    let room_is : room ≡ number_or (number_or 1024 Cells taken) Room taken = r ∙ ap (λ n. number_or n Room taken) c in
    cc
