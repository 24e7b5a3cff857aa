-- What the calls on cells answer. Each exchange finds one word, and what it found decides.
use Rattle.std.specs.Prelude.{◌≡◌, ◌≢◌, ◌-◌, ℕ, true, false}
use Rattle.atomic_table.specs.Seated.{TableId}
use Rattle.gp_isa.specs.declared.parts.Parts.{Parts}
use Rattle.gp_cells.specs.declared.carried.Carried.{Carried}
use Rattle.gp_cells.specs.declared.claim.Claim.{Claim}
use Rattle.gp_cells.specs.declared.claim.Claim.TheVariants as claim
use Rattle.gp_cells.specs.declared.take.Take.{Take}
use Rattle.gp_cells.specs.declared.take.Take.TheVariants as take
use Rattle.gp_cells.specs.declared.bear.Bear.{Bear}
use Rattle.gp_cells.specs.declared.bear.Bear.TheVariants as bear
use Rattle.gp_cells.specs.Words.{dead_word, home_word, claimed_word, running_word, epoch_of, IsHome, IsBusy, IsWord}
use Rattle.gp_cells.specs.Goroutine.{IsBodyOf}
use Rattle.gp_cells.specs.Held.{hold_of}
use Rattle.gp_cells.specs.Pass.{Token, exchanged, holding, storing}

-- A claim of g by an actor in an epoch, by a pass that was `old` and is `new`. It holds the body exactly where its exchange found
-- the home word with the epoch before; each other answer comes where it found what the answer says.
abbrev pub Claims : Parts → TableId → Token → Token → ℕ → ℕ → ℕ → Claim → Type 0
Claims program roster old new g actor epoch (claim.Held held) =
    (new ≡ holding old g (claimed_word epoch actor) (home_word (epoch - 1)))
    × (hold_of held ≡ record { cells = old.cells; pass = old.name; cell = g; claims = true; epoch = epoch; actor = actor })
    × IsBodyOf program roster g held.body
Claims program roster old new g actor epoch (claim.Satisfied word) =
    (new ≡ exchanged old g (claimed_word epoch actor) word) × IsHome word × (word ≢ home_word (epoch - 1))
Claims program roster old new g actor epoch (claim.Busy word) =
    (new ≡ exchanged old g (claimed_word epoch actor) word) × IsBusy word
Claims program roster old new g actor epoch (claim.Dead word) =
    (new ≡ exchanged old g (claimed_word epoch actor) word) × (word ≡ dead_word)

-- A take of g by an actor, which holds the body exactly where its exchange found the home word that was expected.
abbrev pub Takes : Parts → TableId → Token → Token → ℕ → ℕ → ℕ → Take → Type 0
Takes program roster old new g actor expected (take.Held held) =
    (new ≡ holding old g (running_word (epoch_of expected) actor) expected)
    × (hold_of held
    ≡ record { cells = old.cells; pass = old.name; cell = g; claims = false; epoch = epoch_of expected; actor = actor })
    × IsBodyOf program roster g held.body
Takes program roster old new g actor expected (take.Changed word) =
    (new ≡ exchanged old g (running_word (epoch_of expected) actor) word) × (word ≢ expected) × IsWord word

-- An actor brings a body into cell g, which is done exactly where its exchange found the cell empty: then the home word is stored.
abbrev pub Bears : Token → Token → ℕ → ℕ → Carried → ℕ → Bear → Type 0
Bears old new g actor body epoch bear.Home =
    new ≡ storing (exchanged old g (running_word epoch actor) dead_word) g (home_word epoch)
Bears old new g actor body epoch (bear.Taken word back) =
    (new ≡ exchanged old g (running_word epoch actor) word) × (word ≢ dead_word) × IsWord word × (back ≡ body)
