-- Facts about the words of cells.
use Rattle.std.proofs.Common.{◌≡◌, ◌≢◌, ◌⊎◌, ℕ, ◌+◌, ◌-◌, ◌*◌, ◌/◌, ◌%◌, ◌<◌, Bool, true, false, inl, inr, ⊎_elim, arith}
use Rattle.gp_cells.specs.Words.{dead_word, busy_word, kind_of, IsHome, IsBusy, IsSettled, IsWord}

-- where a word stands among multiples of 2^62 and what is below 2^62
pub kind_below : (k rest : ℕ) → rest < 4611686018427387904 → kind_of (k * 4611686018427387904 + rest) ≡ k
kind_below k rest h = omega arith

home_rest : (epoch : ℕ) → epoch < 1073741824 → epoch * 4294967296 < 4611686018427387904
home_rest epoch h = omega arith

busy_rest : (epoch actor : ℕ) → epoch < 1073741824 → actor < 4294967296 → epoch * 4294967296 + actor < 4611686018427387904
busy_rest epoch actor h k = omega arith

pub kind_home : (word : ℕ) → IsHome word → kind_of word ≡ 1
kind_home word h = let e = h.is in let f = h.fits in omega arith

kind_busy_of : (claims : Bool) (epoch actor word : ℕ) → epoch < 1073741824 → actor < 4294967296 → word ≡ busy_word claims epoch actor → (kind_of word ≡ 2) ⊎ (kind_of word ≡ 3)
kind_busy_of true epoch actor word f a e = inl (omega arith)
kind_busy_of false epoch actor word f a e = inr (omega arith)

pub kind_busy : (word : ℕ) → IsBusy word → (kind_of word ≡ 2) ⊎ (kind_of word ≡ 3)
kind_busy word b = kind_busy_of b.claims b.epoch b.actor word b.epoch_fits b.actor_fits b.is

kind_dead : (word : ℕ) → word ≡ dead_word → kind_of word ≡ 0
kind_dead word e = omega arith

-- nobody has the slot of a settled word
pub not_both : (word : ℕ) → IsSettled word → IsBusy word → ⊥
not_both word settled busy =
    let k = kind_busy word busy in
    ⊎_elim
    (λ (dead : word ≡ dead_word). let d = kind_dead word dead in ⊎_elim (λ (a : kind_of word ≡ 2). omega arith) (λ (a : kind_of word ≡ 3). omega arith) k)
    (λ (h : IsHome word). let d = kind_home word h in ⊎_elim (λ (a : kind_of word ≡ 2). omega arith) (λ (a : kind_of word ≡ 3). omega arith) k)
    settled

-- what the kind of a word says
pub dead_by_kind : (word : ℕ) → IsWord word → kind_of word ≡ 0 → word ≡ dead_word
dead_by_kind word is zero_ =
    ⊎_elim
    (λ (settled : IsSettled word). ⊎_elim (λ (dead : word ≡ dead_word). dead) (λ (h : IsHome word). let k = kind_home word h in absurd (omega arith)) settled)
    (λ (busy : IsBusy word). ⊎_elim (λ (a : kind_of word ≡ 2). absurd (omega arith)) (λ (a : kind_of word ≡ 3). absurd (omega arith)) (kind_busy word busy))
    is

pub home_by_kind : (word : ℕ) → IsWord word → kind_of word ≡ 1 → IsHome word
home_by_kind word is one =
    ⊎_elim
    (λ (settled : IsSettled word). ⊎_elim (λ (dead : word ≡ dead_word). let k = kind_dead word dead in absurd (omega arith)) (λ (h : IsHome word). h) settled)
    (λ (busy : IsBusy word). ⊎_elim (λ (a : kind_of word ≡ 2). absurd (omega arith)) (λ (a : kind_of word ≡ 3). absurd (omega arith)) (kind_busy word busy))
    is

pub busy_by_kind : (word : ℕ) → IsWord word → kind_of word ≢ 0 → kind_of word ≢ 1 → IsBusy word
busy_by_kind word is none one =
    ⊎_elim
    (λ (settled : IsSettled word). ⊎_elim (λ (dead : word ≡ dead_word). absurd (none (kind_dead word dead))) (λ (h : IsHome word). absurd (one (kind_home word h))) settled)
    (λ (busy : IsBusy word). busy)
    is

-- the test of a home word
pub home_by_bits : (word : ℕ) → word / 4611686018427387904 ≡ 1 → word % 4294967296 ≡ 0 → IsHome word
home_by_bits word kind low = record {
  epoch = word / 4294967296 - 1073741824;
  fits = omega arith;
  is = omega arith;
}

pub home_bits : (word : ℕ) → IsHome word → word % 4294967296 ≡ 0
home_bits word h = let e = h.is in omega arith
