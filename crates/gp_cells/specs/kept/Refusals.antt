-- What a claim is answered by the word that its exchange found, where it didn't win.
use Rattle.std.specs.Prelude.{◌≡◌, ℕ}
use Rattle.gp_cells.specs.declared.claim.Claim.{Claim}
use Rattle.gp_cells.specs.declared.claim.Claim.TheVariants.{Held, Satisfied, Busy, Dead}
use Rattle.gp_cells.specs.Words.{dead_word, IsHome, IsBusy}

abbrev pub Refuses : ℕ → Claim → Type 0
Refuses found (Held held) = ⊥
Refuses found (Satisfied word) = (word ≡ found) × IsHome found
Refuses found (Busy word) = (word ≡ found) × IsBusy found
Refuses found (Dead word) = (word ≡ found) × (found ≡ dead_word)
