-- A test passes or fails; an option has a value or none.
use Rattle.std.proofs.Common.{◌≡◌, ◌⊎◌, inl, inr, refl, Bool, true, false, cond, Option, Some, None}

pub told : (b : Bool) → (b ≡ true) ⊎ (b ≡ false)
told true = inl refl
told false = inr refl

pub told_option : {X : Type 0} (o : Option X) → (o ≡ None) ⊎ ((x : X) × (o ≡ Some x))
told_option None = inl refl
told_option (Some x) = inr (x, refl)

-- what holds of both branches, or of a branch that is taken
pub either : {X : Type 0} (P : X → Type 0) (b : Bool) (x y : X) → (b ≡ true → P x) → P y → P (cond b x y)
either P true x y first second = first refl
either P false x y first second = second
