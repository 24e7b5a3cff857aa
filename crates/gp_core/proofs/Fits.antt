-- Bodies fit, and go on to fit with each change.
use Rattle.std.proofs.Common.{◌≡◌, ◌⊎◌, ℕ, ◌<◌, ◌≤◌, List, length, get_or, set, map, replicate, Option, Some, None, refl, sym, ap, ◌∙◌, subst, inl, inr, arith, zero, suc, [], ◌∷◌, get_or-set_same, get_or-set_other}
use Rattle.std.proofs.lemmas.Bool.{cases_eq}
use Rattle.gp_isa.specs.declared.parts.Parts.{Parts}
use Rattle.gp_stack.specs.declared.body.Body.{Body}
use Rattle.gp_stack.specs.Body.{progress_of, StandsIn}
use Rattle.gp_journal.specs.declared.goroutine.Goroutine.{Goroutine}
use Rattle.gp_journal.specs.Bodies.{standing, further}
use Rattle.gp_journal.specs.State.{nobody}
use Rattle.gp_core.specs.declared.word.Word.{Word}
use Rattle.gp_core.specs.declared.word.Word.TheVariants.{Dead}
use Rattle.gp_core.specs.kept.Core.{count_of, body_at, FitsBody, BodiesFit}
use Rattle.gp_core.proofs.Lists.{ChangesAt}
use Rattle.gp_core.proofs.Turns.{Stays, Turns, OthersTurn, GoesOnBy}

-- one that is there fits any word
reworded : (program : Parts) (gs : List Goroutine) (g : ℕ) (v u : Word) (it : Option Body) → (v ≡ Dead → ⊥) → FitsBody program gs g v it → FitsBody program gs g u it
reworded program gs g v u None isnt fits = absurd (isnt fits)
reworded program gs g v u (Some body) isnt fits = fits

-- Another word of a goroutine whose word isn't dead.
pub word_fits : (program : Parts) (gs : List Goroutine) (words words' : ℕ → Word) (bodies : List (Option Body)) (g : ℕ) (u : Word) →
    ChangesAt words words' g u → (words g ≡ Dead → ⊥) → BodiesFit program gs words bodies → BodiesFit program gs words' bodies
word_fits program gs words words' bodies g u change isnt fits k = at (cases_eq k g)
  where
    at : (k ≡ g) ⊎ (k ≡ g → ⊥) → FitsBody program gs k (words' k) (body_at bodies k)
    at (inl same) =
        reworded program gs k (words k) (words' k) (body_at bodies k) (λ dead. isnt (ap words (sym same) ∙ dead)) (fits k)
    at (inr other) = subst (λ v. FitsBody program gs k v (body_at bodies k)) (sym (change.others k other)) (fits k)

-- A body where there was none, or another.
pub body_fits : (program : Parts) (gs : List Goroutine) (words words' : ℕ → Word) (bodies : List (Option Body)) (g : ℕ) (u : Word) (body : Body) →
    ChangesAt words words' g u → g < length bodies → g < length gs → StandsIn program body → progress_of body ≡ standing (get_or gs g nobody) →
    BodiesFit program gs words bodies → BodiesFit program gs words' (set bodies g (Some body))
body_fits program gs words words' bodies g u body change within born stands place fits k = at (cases_eq k g)
  where
    at : (k ≡ g) ⊎ (k ≡ g → ⊥) → FitsBody program gs k (words' k) (body_at (set bodies g (Some body)) k)
    at (inl same) = subst (λ n. FitsBody program gs n (words' n) (body_at (set bodies g (Some body)) n)) (sym same)
        (subst (FitsBody program gs g (words' g)) (sym (get_or-set_same bodies g (Some body) None within)) (born, (stands, place)))
    at (inr other) = subst (FitsBody program gs k (words' k)) (sym (get_or-set_other bodies g k (Some body) None other))
        (subst (λ v. FitsBody program gs k v (body_at bodies k)) (sym (change.others k other)) (fits k))

-- The goroutines turn: bodies of the others stand as they stood, and nobody born since has one.
standing_same : (x y : Goroutine) → Stays x y → standing x ≡ standing y
standing_same x y stays = λ i. record { start = sym stays.start i; set = sym stays.inherited i; count = sym stays.count i }

turned_other : (program : Parts) (gs hs : List Goroutine) (last k : ℕ) (v : Word) (it : Option Body) → length gs ≤ length hs → Turns gs hs last k →
    FitsBody program gs k v it → FitsBody program hs k v it
turned_other program gs hs last k v None grows turn fits = fits
turned_other program gs hs last k v (Some body) grows (inl stays) fits =
    (omega (arith, fits.0), (fits.1.0, fits.1.1 ∙ standing_same (get_or gs k nobody) (get_or hs k nobody) stays.0))
turned_other program gs hs last k v (Some body) grows (inr born) fits = absurd (omega (arith, fits.0, born.0))

-- The own one goes on, with a body that goes on likewise.
standing_on : (w n : ℕ) (x y : Goroutine) → GoesOnBy w n x y → further n (standing x) ≡ standing y
standing_on w n x y goes = λ i. record { start = sym goes.start i; set = sym goes.inherited i; count = sym goes.count i }

pub turned_fits : (program : Parts) (gs hs : List Goroutine) (last g : ℕ) (words : ℕ → Word) (bodies bodies' : List (Option Body)) → OthersTurn gs hs last g →
    ((k : ℕ) → (k ≡ g → ⊥) → body_at bodies' k ≡ body_at bodies k) → FitsBody program hs g (words g) (body_at bodies' g) →
    BodiesFit program gs words bodies → BodiesFit program hs words bodies'
turned_fits program gs hs last g words bodies bodies' turn same own fits k = at (cases_eq k g)
  where
    at : (k ≡ g) ⊎ (k ≡ g → ⊥) → FitsBody program hs k (words k) (body_at bodies' k)
    at (inl here) = subst (λ n. FitsBody program hs n (words n) (body_at bodies' n)) (sym here) own
    at (inr other) = subst (FitsBody program hs k (words k)) (sym (same k other))
        (turned_other program gs hs last k (words k) (body_at bodies k) turn.grows (turn.each k other) (fits k))

-- where the own one stands where it stood
pub own_stands : (program : Parts) (gs hs : List Goroutine) (g : ℕ) (v : Word) (it : Option Body) → length gs ≤ length hs →
    standing (get_or gs g nobody) ≡ standing (get_or hs g nobody) → FitsBody program gs g v it → FitsBody program hs g v it
own_stands program gs hs g v None grows same fits = fits
own_stands program gs hs g v (Some body) grows same fits = (omega (arith, fits.0), (fits.1.0, fits.1.1 ∙ same))

-- where it has gone on
pub own_goes : (program : Parts) (gs hs : List Goroutine) (g w n : ℕ) (v : Word) (old new : Body) → length gs ≤ length hs →
    GoesOnBy w n (get_or gs g nobody) (get_or hs g nobody) → FitsBody program gs g v (Some old) → StandsIn program new → progress_of new ≡ further n (progress_of old) →
    FitsBody program hs g v (Some new)
own_goes program gs hs g w n v old new grows goes fits stands place =
    (omega (arith, fits.0), (stands, place ∙ ap (further n) fits.1.1 ∙ standing_on w n (get_or gs g nobody) (get_or hs g nobody) goes))

-- What there is of a body whose word isn't dead.
pub record IsThere (program : Parts) (gs : List Goroutine) (g : ℕ) (it : Option Body) : Type 0 where
  pub body : Body
  pub is : it ≡ Some body
  pub born : g < length gs
  pub stands : StandsIn program body
  pub place : progress_of body ≡ standing (get_or gs g nobody)

pub is_there : (program : Parts) (gs : List Goroutine) (g : ℕ) (v : Word) (it : Option Body) → (v ≡ Dead → ⊥) → FitsBody program gs g v it → IsThere program gs g it
is_there program gs g v None isnt fits = absurd (isnt fits)
is_there program gs g v (Some body) isnt fits = record { body = body; is = refl; born = fits.0; stands = fits.1.0; place = fits.1.1 }

-- No body is there at first.
pub none_at : (n k : ℕ) → body_at (replicate n None) k ≡ None
none_at zero k = refl
none_at (suc n) zero = refl
none_at (suc n) (suc k) = none_at n k

pub counts_none : (n : ℕ) → map count_of (replicate n None) ≡ replicate n 0
counts_none zero = refl
counts_none (suc n) = ap (λ (rest : List ℕ). 0 ∷ rest) (counts_none n)

-- the counts of bodies
pub count_there : (bodies : List (Option Body)) (g : ℕ) → get_or (map count_of bodies) g 0 ≡ count_of (body_at bodies g)
count_there [] g = refl
count_there (it ∷ bodies) zero = refl
count_there (it ∷ bodies) (suc g) = count_there bodies g
