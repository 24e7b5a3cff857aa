-- What is kept behind lines of the first pass, and what its faults tell.
use Rattle.std.proofs.Common.{◌≡◌, ◌⊎◌, inl, inr, ℕ, ◌+◌, ◌<◌, ◌≤◌, true, false, cond, List, [], ◌∷◌, ◌++◌, length, get_or, take, drop, refl, sym, ap, ◌∙◌, arith, Some, None, nat_le, nat_lt}
use Rattle.std.proofs.Math.Path.{fun_ext}
use Rattle.std.proofs.lemmas.List.{take_more, take_all, drop_all, append-nil, length-take-le}
use Rattle.std.proofs.lemmas.List.Concat.{flat_map-append}
use Rattle.std.proofs.lemmas.List.Sums.{fold-append}
use Rattle.std.proofs.lemmas.Bool.Decides.{nat_tests}
use Rattle.gp_text.proofs.Told.{told, told_option}
use Rattle.gp_text.specs.declared.cause.Cause.{Cause}
use Rattle.gp_text.specs.declared.cause.Cause.TheVariants.{Twice, OutOfRange, NotClosed}
use Rattle.gp_text.specs.declared.space.Space.{Space}
use Rattle.gp_text.specs.declared.space.Space.TheVariants.{Functions, Channels, Mutexes, LabelSets}
use Rattle.gp_text.specs.declared.said.Declared.{Declared}
use Rattle.gp_text.specs.declared.said.Said.{Said}
use Rattle.gp_text.specs.declared.said.Said.TheVariants.{Declares}
use Rattle.gp_text.specs.Line.{deep_after}
use Rattle.gp_text.specs.Fault.{Known, known_of, names, declared_in, same_space, kind_of, fits, is_among, depth, most_names, declaration_fault, fault, first_fault}
use Rattle.gp_text.specs.Spaces.{with_declared}
use Rattle.gp_text.proofs.Steps.{opened}

-- These lines have no fault, and what is kept is what they said.
pub record IsBehind (deep : ℕ) (known : Known) (at : ℕ) (said : List Said) : Type 0 where
  pub none : first_fault (take at said) (drop at said) ≡ first_fault [] said
  pub deep_is : deep ≡ depth (take at said)
  pub known_is : known ≡ known_of (take at said)
  pub shallow : deep ≤ at

-- A name that is declared is new in its space, and there is room.
pub record IsFresh (known : Known) (name : List ℕ) (declared : Declared) : Type 0 where
  pub fresh : is_among name (known (kind_of declared)) ≡ false
  pub room : nat_le (most_names (kind_of declared)) (length (known (kind_of declared))) ≡ false
  pub fitting : fits declared ≡ true

pub fresh : (known : Known) (name : List ℕ) (declared : Declared) → declaration_fault known name declared ≡ None → IsFresh known name declared
unfolding declaration_fault
fresh known name declared h = elim (told (fits declared)) [
  | inr f ↦ let e : Some OutOfRange ≡ None = rw f at h in absurd cc
  | inl fit ↦ elim (told (nat_le (most_names (kind_of declared)) (length (known (kind_of declared))))) [
    | inl t ↦ let e : Some OutOfRange ≡ None = rw (fit, t) at h in absurd cc
    | inr room ↦ elim (told (is_among name (known (kind_of declared)))) [
      | inl t ↦ let e : Some Twice ≡ None = rw (fit, room, t) at h in absurd cc
      | inr new ↦ record { fresh = new; room = room; fitting = fit }
    ]
  ]
]

pub same_is : (a b : Space) → same_space a b ≡ true → a ≡ b
same_is Functions Functions h = refl
same_is Channels Channels h = refl
same_is Mutexes Mutexes h = refl
same_is LabelSets LabelSets h = refl
same_is a b h = absurd cc

-- What a line without fault declares in a space: a new name, or nothing.
unfoldable pub Adds : Known → Space → List (List ℕ) → Type 0
Adds known space added = (added ≡ []) ⊎ ((name : List ℕ) × (added ≡ name ∷ []) × (is_among name (known space) ≡ false) × (nat_le (most_names space) (length (known space)) ≡ false))

pub adds : (deep : ℕ) (known : Known) (s : Said) (space : Space) → fault deep known s ≡ None → Adds known space (declared_in space s)
unfolding fault Adds
adds deep known (Declares name declared) space h = elim (told (same_space space (kind_of declared))) [
  | inl t ↦
      let f = fresh known name declared h in
      let e = same_is space (kind_of declared) t in
      inr (name, rw t refl, rw e f.fresh, rw e f.room)
  | inr other ↦ inl (rw other refl)
]
adds deep known s space h = inl refl

pub declared_more : (deep : ℕ) (known : Known) (s : Said) (space : Space) → fault deep known s ≡ None → with_declared known s space ≡ known space ++ declared_in space s
unfolding Adds
declared_more deep known s space h = elim (adds deep known s space h) [
  | inl none ↦ rw none (sym (append-nil (known space)))
  | inr one ↦ rw (one.1) (let new = one.2 in rw new refl)
]

-- the names and the depth behind one more line
pub names_more : (before : List Said) (s : Said) (space : Space) → names space (before ++ s ∷ []) ≡ names space before ++ declared_in space s
names_more before s space = flat_map-append (declared_in space) before (s ∷ []) ∙ ap (λ l. names space before ++ l) (append-nil (declared_in space s))

pub depth_more : (before : List Said) (s : Said) → depth (before ++ s ∷ []) ≡ deep_after (depth before) s
depth_more before s = fold-append deep_after 0 before (s ∷ [])

first_found : (before : List Said) (s : Said) (after : List Said) (cause : Cause) → fault (depth before) (known_of before) s ≡ Some cause →
    first_fault before (s ∷ after) ≡ Some (record { line = length before + 1; cause = cause })
unfolding first_fault
first_found before s after cause h = rw (h, first_fault) refl

pub no_fault : (before : List Said) (s : Said) (after : List Said) → first_fault before (s ∷ after) ≡ None → fault (depth before) (known_of before) s ≡ None
no_fault before s after h = elim (told_option (fault (depth before) (known_of before) s)) [
  | inl none ↦ none
  | inr one ↦ let e = first_found before s after one.0 one.1 in absurd cc
]

pub first_passed : (before : List Said) (s : Said) (after : List Said) → fault (depth before) (known_of before) s ≡ None → first_fault before (s ∷ after) ≡ first_fault (before ++ s ∷ []) after
unfolding first_fault
first_passed before s after h = rw (h, first_fault) refl

pub first_over : (said : List Said) → first_fault said [] ≡ cond (nat_lt 0 (depth said)) (Some (record { line = length said; cause = NotClosed })) None
unfolding first_fault
first_over said = refl

-- the fault of a line, as what is kept tells it
same_fault : (deep : ℕ) (known : Known) (at : ℕ) (said : List Said) (s : Said) → IsBehind deep known at said → fault (depth (take at said)) (known_of (take at said)) s ≡ fault deep known s
same_fault deep known at said s behind = ap (λ i. fault i (known_of (take at said)) s) (sym behind.deep_is) ∙ ap (λ k. fault deep k s) (sym behind.known_is)

pub found : (deep : ℕ) (known : Known) (at : ℕ) (said : List Said) (s : Said) (cause : Cause) → IsBehind deep known at said → at < length said → s ≡ get_or said at s → fault deep known s ≡ Some cause
    → first_fault [] said ≡ Some (record { line = at + 1; cause = cause })
found deep known at said s cause behind within is h =
    sym behind.none ∙ ap (first_fault (take at said)) (opened said at s within is)
    ∙ first_found (take at said) s (drop (at + 1) said) cause (same_fault deep known at said s behind ∙ h)
    ∙ ap (λ n. Some (record { line = n + 1; cause = cause })) (length-take-le at said (omega arith))

pub grown : (said : List Said) (at : ℕ) (s : Said) → at < length said → s ≡ get_or said at s → take (at + 1) said ≡ take at said ++ s ∷ []
grown said at s within is = take_more said at s within ∙ ap (λ x. take at said ++ x ∷ []) (sym is)

pub passed : (deep now : ℕ) (known then_ : Known) (at : ℕ) (said : List Said) (s : Said) → IsBehind deep known at said → at < length said → s ≡ get_or said at s → fault deep known s ≡ None
    → now ≡ deep_after deep s → ((space : Space) → then_ space ≡ with_declared known s space) → now ≤ at + 1 → IsBehind now then_ (at + 1) said
passed deep now known then_ at said s behind within is h deep_is known_is shallow =
    let more = grown said at s within is in
    record {
      none =
          ap (λ l. first_fault l (drop (at + 1) said)) more
          ∙ sym (first_passed (take at said) s (drop (at + 1) said) (same_fault deep known at said s behind ∙ h))
          ∙ ap (first_fault (take at said)) (sym (opened said at s within is))
          ∙ behind.none;
      deep_is = deep_is ∙ ap (λ i. deep_after i s) behind.deep_is ∙ sym (depth_more (take at said) s) ∙ ap depth (sym more);
      known_is = fun_ext (λ space.
          known_is space ∙ declared_more deep known s space h
          ∙ ap (λ (k : Known). k space ++ declared_in space s) behind.known_is
          ∙ sym (names_more (take at said) s space)
          ∙ ap (names space) (sym more));
      shallow = shallow;
    }

-- behind all lines
over : (deep : ℕ) (known : Known) (at : ℕ) (said : List Said) → IsBehind deep known at said → length said ≤ at → first_fault [] said ≡ cond (nat_lt 0 deep) (Some (record { line = length said; cause = NotClosed })) None
over deep known at said behind all =
    let whole : take at said ≡ said = take_all at said all in
    sym behind.none ∙ ap (first_fault (take at said)) (drop_all at said all) ∙ ap (λ l. first_fault l []) whole ∙ first_over said
    ∙ ap (λ i. cond (nat_lt 0 i) (Some (record { line = length said; cause = NotClosed })) None) (ap depth (sym whole) ∙ sym behind.deep_is)

pub over_inside : (deep : ℕ) (known : Known) (at : ℕ) (said : List Said) → IsBehind deep known at said → length said ≤ at → 0 < deep → first_fault [] said ≡ Some (record { line = length said; cause = NotClosed })
over_inside deep known at said behind all is =
    let test : nat_lt 0 deep ≡ true = grind (arith, nat_tests) in
    over deep known at said behind all ∙ ap (λ i. cond i (Some (record { line = length said; cause = NotClosed })) None) test

pub over_outside : (deep : ℕ) (known : Known) (at : ℕ) (said : List Said) → IsBehind deep known at said → length said ≤ at → deep ≤ 0 → first_fault [] said ≡ None
over_outside deep known at said behind all is =
    let test : nat_lt 0 deep ≡ false = grind (arith, nat_tests) in
    over deep known at said behind all ∙ ap (λ i. cond i (Some (record { line = length said; cause = NotClosed })) None) test

pub all_known : (deep : ℕ) (known : Known) (at : ℕ) (said : List Said) → IsBehind deep known at said → length said ≤ at → known ≡ known_of said
all_known deep known at said behind all = behind.known_is ∙ ap known_of (take_all at said all)
