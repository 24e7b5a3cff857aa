-- What a driver knows of its ring stays so with each call.
use Rattle.std.proofs.Common.{◌≡◌, ℕ, ◌+◌, ◌<◌, ◌≤◌, ◌^◌, Bool, true, false, List, [], ◌∷◌, ◌++◌, Option, Some, None, refl, ap, sym, subst, ◌∙◌, arith, length-append}
use Rattle.std.specs.Prelude.{◌==◌, ◌&&◌, if◌then◌else◌, nat_eq, max, IsSome, unwrap_or}
use Rattle.std.specs.List.{slice_get}
use Rattle.std.proofs.lemmas.Bool.Decides.{nat_tests}
use Rattle.gp_layout.specs.Spelling.{loss_size}
use Rattle.gp_ring.specs.Records.{Offer, words_for, words_for_most, IsOffer, all_zero}
use Rattle.gp_ring.specs.PlainRing.{PlainRing, written, is_kept, empty_ring}
use Rattle.gp_ring.specs.Follows.{IsOfferable}
use Rattle.gp_ring.specs.Offered.{GoesOn}
use Rattle.gp_ring.specs.Calls.{EmptyFollows}
use Rattle.gp_ring_tests.specs.Driving.{Drives}

-- what two rings share either of them has
either : {A : Type 0} (f : PlainRing → A) (b : Bool) (x y : PlainRing) (v : A) → f x ≡ v → f y ≡ v → f (if b then x else y) ≡ v
either f true x y v p q = p
either f false x y v p q = q

written-hdrsize : (ring : PlainRing) (offer : Offer) → (written ring offer).hdrsize ≡ ring.hdrsize
written-hdrsize ring offer =
    either (λ (r : PlainRing). r.hdrsize) (is_kept ring offer) _ _ ring.hdrsize
    (either (λ (r : PlainRing). r.hdrsize) (ring.pending == 0) _ _ ring.hdrsize refl refl)
    (either (λ (r : PlainRing). r.hdrsize) (ring.pending == 0) _ _ ring.hdrsize refl refl)

written-seen : (ring : PlainRing) (offer : Offer) → (written ring offer).seen ≡ ring.seen
written-seen ring offer =
    either (λ (r : PlainRing). r.seen) (is_kept ring offer) _ _ ring.seen
    (either (λ (r : PlainRing). r.seen) (ring.pending == 0) _ _ ring.seen refl refl)
    (either (λ (r : PlainRing). r.seen) (ring.pending == 0) _ _ ring.seen refl refl)

most-append : (h : ℕ) (os : List Offer) (o : Offer) → words_for_most h (os ++ o ∷ []) ≡ words_for_most h os + max (words_for h o) (loss_size h)
most-append h [] o = omega arith
most-append h (p ∷ os) o = let e = most-append h os o in omega arith

-- an offer may be made where its ring is open, it fits, and few came before
pub may-offer : (ring : PlainRing) (offer : Offer) (count words : ℕ) (looked : Bool) → Drives ring count words looked → ring.ended ≡ false
    → IsOffer ring.hdrsize ring.len offer → count < 2 ^ 30 → words + max (words_for ring.hdrsize offer) (loss_size ring.hdrsize) < 2 ^ 30
    → IsOfferable ring offer
may-offer ring offer count words looked d is_open fits few bound =
    let e = most-append ring.hdrsize d.offers offer in
    let m : words_for_most ring.hdrsize d.offers ≤ words = d.most in (
      d.offers,
      d.records,
      d.follows,
      record {
        open_ring = is_open;
        offer_fits = fits;
        few = subst (λ (n : ℕ). n < 2 ^ 30) (sym d.count_is) few;
        words = omega arith;
      },
    )

-- a write adds its offer and no more words than were added
pub after-write : (old new : PlainRing) (offer : Offer) (count words more : ℕ) (looked : Bool) → Drives old count words looked
    → new ≡ written old offer → GoesOn old new (offer ∷ []) [] → max (words_for old.hdrsize offer) (loss_size old.hdrsize) ≤ more
    → Drives new (count + 1) (words + more) looked
after-write old new offer count words more looked d e goes most =
    let h : new.hdrsize ≡ old.hdrsize = ap (λ (r : PlainRing). r.hdrsize) e ∙ written-hdrsize old offer in
    let s : new.seen ≡ old.seen = ap (λ (r : PlainRing). r.seen) e ∙ written-seen old offer in
    let a = most-append old.hdrsize d.offers offer in
    let m : words_for_most old.hdrsize d.offers ≤ words = d.most in
    let b : words_for_most old.hdrsize (d.offers ++ offer ∷ []) ≤ words + more = omega arith in
    record {
      offers = d.offers ++ offer ∷ [];
      records = d.records ++ [];
      follows = goes d.offers d.records d.follows;
      count_is = length-append d.offers (offer ∷ []) ∙ ap (λ (n : ℕ). n + 1) d.count_is;
      most = subst (λ (n : ℕ). words_for_most n (d.offers ++ offer ∷ []) ≤ words + more) (sym h) b;
      seen = λ k. subst IsSome (sym s) (d.seen k);
    }

differ : false ≡ true → ⊥
differ e = cc

-- a new ring follows nothing
pub when-new : (ring : PlainRing) (h len tags : ℕ) → EmptyFollows → ring ≡ empty_ring h len tags → Drives ring 0 0 false
when-new ring h len tags law e =
    let d : Drives (empty_ring h len tags) 0 0 false = record {
      offers = [];
      records = [];
      follows = law h len tags;
      count_is = refl;
      most = omega arith;
      seen = λ k. absurd (differ k);
    } in
    subst (λ (r : PlainRing). Drives r 0 0 false) (sym e) d

not_zero : (x : ℕ) → 0 < x → nat_eq x 0 ≡ false
not_zero x p = grind (arith, nat_tests)

none_some : (w : ℕ) → Some w ≡ None → ⊥
none_some w e = cc

-- a header whose first word isn't 0 is not all zero
pub first-tells : (words : List ℕ) (first : ℕ) → Some first ≡ slice_get words 0 → 0 < first → all_zero words ≡ false
first-tells [] first e p = absurd (none_some first e)
first-tells (x ∷ words) first e p =
    let same : first ≡ x = ap (λ (word : Option ℕ). unwrap_or word 0) e in
    ap (λ (b : Bool). b && all_zero words) (not_zero x (omega arith))
