-- The two equations of a varint, which are all that is used of it afterwards.
use Rattle.std.proofs.Common.{◌≡◌, ℕ, zero, suc, ◌+◌, ◌/◌, ◌%◌, ◌<◌, ◌≤◌, List, [], ◌∷◌, reverse, refl, sym, ap, ◌∙◌, arith}
use Rattle.std.specs.Int.Digits.{digits_of}
use Rattle.std.proofs.lemmas.Int.Digits.{digits_of_step}
use Rattle.std.proofs.lemmas.List.{reverse-append}
use Rattle.gp_wire.specs.Varint.{groups, continued, varint}

groups-above : (n : ℕ) → 0 < n → groups n ≡ reverse (digits_of 128 n)
groups-above zero h = absurd (omega arith)
groups-above (suc n) h = refl

-- the lowest group comes first
groups-step : (n : ℕ) → 0 < n → groups n ≡ n % 128 ∷ reverse (digits_of 128 (n / 128))
groups-step n h =
    groups-above n h
    ∙ ap reverse (digits_of_step 128 n (omega arith) h)
    ∙ reverse-append (digits_of 128 (n / 128)) (n % 128 ∷ [])

groups-more : (n : ℕ) → 128 ≤ n → groups n ≡ n % 128 ∷ groups (n / 128)
groups-more n h =
    groups-step n (omega arith) ∙ ap (λ (rest : List ℕ). n % 128 ∷ rest) (sym (groups-above (n / 128) (omega arith)))

groups-last : (n : ℕ) → n < 128 → groups n ≡ n ∷ []
groups-last zero h = refl
groups-last (suc n) h =
    let none : suc n / 128 ≡ 0 = omega arith in
    let all : suc n % 128 ≡ suc n = omega arith in
    groups-step (suc n) (omega arith) ∙ rw (none, all) refl

-- a number below 128 is its own byte
pub varint-last : (n : ℕ) → n < 128 → varint n ≡ n ∷ []
unfolding varint
varint-last n h = ap continued (groups-last n h)

-- else the lowest seven bits come first, and then the rest
pub varint-more : (n : ℕ) → 128 ≤ n → varint n ≡ (128 + n % 128) ∷ varint (n / 128)
unfolding varint
varint-more n h =
    let next = groups-step (n / 128) (omega arith) in
    ap continued (groups-more n h ∙ ap (λ (rest : List ℕ). n % 128 ∷ rest) next)
    ∙ ap (λ (rest : List ℕ). (128 + n % 128) ∷ continued rest) (sym next)
