-- A number from its groups, the lowest first: what the groups so far give, and those that follow.
use Rattle.std.proofs.Common.{◌≡◌, ℕ, zero, suc, ◌+◌, ◌*◌, ◌-◌, ◌^◌, ◌<◌, ◌≤◌, List, [], ◌∷◌, Result, Ok, Err, refl, sym, ap, ◌∙◌, arith, lit≤, add-one}
use Rattle.std.proofs.lemmas.Bool.{lt-ltb, le-ltb}
use Rattle.std.proofs.lemmas.Nat.{mul-le}
use Rattle.std.proofs.Math.Nat.{pow-suc}
use Rattle.gp_wire.specs.declared.cause.Cause.{Cause}
use Rattle.gp_wire.specs.declared.cause.Cause.TheVariants.{Truncated}
use Rattle.gp_wire.specs.Front.{◌>>=◌, groups_at}
use Rattle.gp_wire.proofs.FrontLemmas.{done}

-- the low groups, and higher ones that count so much
abbrev pub with_low : ℕ → ℕ → Result (ℕ × List ℕ) Cause → Result (ℕ × List ℕ) Cause
with_low low scale high = high >>= λ n. Ok (low + scale * n.0, n.1)

regroup : (low scale d : ℕ) (high : Result (ℕ × List ℕ) Cause)
    → with_low low scale (high >>= λ n. Ok (d + 128 * n.0, n.1)) ≡ with_low (low + d * scale) (scale * 128) high
regroup low scale d (Ok n) = ap (λ (m : ℕ). done (m, n.1)) (omega arith)
regroup low scale d (Err why) = refl

-- one group more, behind which another one follows
pub group_more : (low scale i g : ℕ) (bytes rest : List ℕ) (whole : Result (ℕ × List ℕ) Cause) → i < 9 → bytes ≡ g ∷ rest → 128 ≤ g
    → with_low low scale (groups_at (9 - i) bytes) ≡ whole → with_low (low + (g - 128) * scale) (scale * 128) (groups_at (9 - (i + 1)) rest) ≡ whole
unfolding groups_at
group_more low scale i g bytes rest whole lt front le so_far =
    let k : 9 - i ≡ suc (9 - (i + 1)) = omega arith in
    let one : with_low low scale (groups_at (9 - i) bytes) ≡ with_low (low + (g - 128) * scale) (scale * 128) (groups_at (9 - (i + 1)) rest) = rw (k, front, le-ltb g 128 le) (regroup low scale (g - 128) (groups_at (9 - (i + 1)) rest)) in
    sym one ∙ so_far

-- the last group
pub group_last : (low scale i g : ℕ) (bytes rest : List ℕ) (whole : Result (ℕ × List ℕ) Cause) → i < 9 → bytes ≡ g ∷ rest → g < 128
    → with_low low scale (groups_at (9 - i) bytes) ≡ whole → whole ≡ Ok (low + g * scale, rest)
unfolding groups_at
group_last low scale i g bytes rest whole lt front small so_far =
    let k : 9 - i ≡ suc (9 - (i + 1)) = omega arith in
    let one : with_low low scale (groups_at (9 - i) bytes) ≡ Ok (low + g * scale, rest) = rw (k, front, lt-ltb g 128 small) (ap (λ (m : ℕ). done (m, rest)) (omega arith)) in
    sym so_far ∙ one

no_group : (more : ℕ) → groups_at more [] ≡ Err Truncated
unfolding groups_at
no_group zero = refl
no_group (suc more) = refl

-- no byte
pub group_none : (low scale more : ℕ) (bytes : List ℕ) (why : Cause) (whole : Result (ℕ × List ℕ) Cause) → bytes ≡ [] → why ≡ Truncated
    → with_low low scale (groups_at more bytes) ≡ whole → whole ≡ Err why
group_none low scale more bytes why whole none cause so_far =
    let one : with_low low scale (groups_at more bytes) ≡ Err why = rw (none, no_group more, cause) refl in
    sym so_far ∙ one

-- the tenth group
pub tenth : (low scale i : ℕ) (rest : List ℕ) (high : ℕ) (after : List ℕ) (whole : Result (ℕ × List ℕ) Cause) → 9 ≤ i → groups_at 0 rest ≡ Ok (high, after)
    → with_low low scale (groups_at (9 - i) rest) ≡ whole → whole ≡ Ok (low + high * scale, after)
tenth low scale i rest high after whole le e so_far =
    let k : 9 - i ≡ 0 = omega arith in
    let one : with_low low scale (groups_at (9 - i) rest) ≡ Ok (low + high * scale, after) = rw (k, e) (ap (λ (m : ℕ). done (m, after)) (omega arith)) in
    sym so_far ∙ one

pub tenth_stops : (low scale i : ℕ) (rest : List ℕ) (why : Cause) (whole : Result (ℕ × List ℕ) Cause) → 9 ≤ i → groups_at 0 rest ≡ Err why
    → with_low low scale (groups_at (9 - i) rest) ≡ whole → whole ≡ Err why
tenth_stops low scale i rest why whole le e so_far =
    let k : 9 - i ≡ 0 = omega arith in
    let one : with_low low scale (groups_at (9 - i) rest) ≡ Err why = rw (k, e) refl in
    sym so_far ∙ one

starts : (high : Result (ℕ × List ℕ) Cause) → with_low 0 1 high ≡ high
starts (Ok n) = ap (λ (m : ℕ). done (m, n.1)) (omega arith)
starts (Err why) = refl

pub groups_start : (bytes : List ℕ) → with_low 0 1 (groups_at 9 bytes) ≡ groups_at 9 bytes
groups_start bytes = starts (groups_at 9 bytes)

-- What the first nine groups count at most.
pub small_scale : (i : ℕ) → i < 9 → 128 ^ i ≤ 2 ^ 56
small_scale zero h = lit≤ tt
small_scale (suc zero) h = lit≤ tt
small_scale (suc (suc zero)) h = lit≤ tt
small_scale (suc (suc (suc zero))) h = lit≤ tt
small_scale (suc (suc (suc (suc zero)))) h = lit≤ tt
small_scale (suc (suc (suc (suc (suc zero))))) h = lit≤ tt
small_scale (suc (suc (suc (suc (suc (suc zero)))))) h = lit≤ tt
small_scale (suc (suc (suc (suc (suc (suc (suc zero))))))) h = lit≤ tt
small_scale (suc (suc (suc (suc (suc (suc (suc (suc zero)))))))) h = lit≤ tt
small_scale (suc (suc (suc (suc (suc (suc (suc (suc (suc i))))))))) h = absurd (omega arith)

-- A group counts less than the next one.
pub group_below : (g scale : ℕ) → g < 128 → g * scale ≤ 127 * scale
group_below g scale lt = mul-le g scale 127 scale (omega arith) (omega arith)

pub scale_more : (i scale : ℕ) → scale ≡ 128 ^ i → scale * 128 ≡ 128 ^ (i + 1)
scale_more i scale e = ap (λ (s : ℕ). s * 128) e ∙ rw (add-one, pow-suc) refl

-- The tenth group counts 2^63.
pub tenth_scale : (i scale : ℕ) → i ≡ 9 → scale ≡ 128 ^ i → scale ≡ 2 ^ 63
tenth_scale i scale nine e = e ∙ ap (λ (k : ℕ). 128 ^ k) nine
