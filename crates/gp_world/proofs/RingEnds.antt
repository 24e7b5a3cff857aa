-- The world's end of the ring over each entry, and once it is shut or settled.
use Rattle.std.proofs.Common.{◌≡◌, ◌<◌, ℕ, Bool, true, false, List, [], ◌∷◌, ◌++◌, length, take, refl, sym, ap, ◌∙◌, subst, arith}
use Rattle.std.proofs.lemmas.List.{append-nil}
use Rattle.gp_isa.specs.declared.parts.Parts.{Parts}
use Rattle.gp_stack.specs.Body.{Progress}
use Rattle.gp_journal.specs.declared.entry.Entry.{Entry}
use Rattle.gp_journal.specs.declared.entry.Entry.TheVariants.{Start, Run, Op, Tick, Park, Open, Refuse, Record, Close}
use Rattle.gp_journal.specs.declared.settings.Settings.{Settings}
use Rattle.gp_journal.specs.Bodies.{standing}
use Rattle.gp_journal.specs.NumberLaws.{most_entries}
use Rattle.gp_journal.specs.Run.{last, state_of}
use Rattle.gp_journal.specs.Settings.{AreInRange}
use Rattle.gp_journal.specs.State.{Code, State, code_of, goroutine}
use Rattle.gp_ring.specs.Records.{Offer}
use Rattle.gp_ring.specs.TwoEnds.{RingOf, WriterEnd, ClosedEnd, with_loads, with_found, is_pending, has_won, has_room, tried_by, written_by, written}
use Rattle.gp_cpu.specs.Samples.{sampled_at}
use Rattle.gp_samples.specs.RunRing.{sample_at}
use Rattle.gp_samples.specs.RunEnds.{IsSized, AreOffers}
use Rattle.gp_samples.proofs.BothEnds.{offers_grow, body_may_be_written}
use Rattle.gp_world.specs.declared.ring_end.RingEnd.{RingEnd}
use Rattle.gp_world.specs.declared.ring_end.RingEnd.TheVariants.{Writing, Shut, Settled}
use Rattle.gp_world.specs.Rows.{has_finished}
use Rattle.gp_world.specs.RingEnds.{IsOf, with_sample, with_sampled, shut_of}
use Rattle.gp_world.specs.kept.Ending.{IsEnd, IsWriter, IsClosed, MayOffer}

-- ---- what a write leaves of the writer

by-offers : (room pending won : Bool) (writer : WriterEnd) (offer : Offer) → (written_by room pending won writer offer).offers ≡ writer.offers ++ offer ∷ []
by-offers true true true writer offer = refl
by-offers true true false writer offer = refl
by-offers true false won writer offer = refl
by-offers false true true writer offer = refl
by-offers false true false writer offer = refl
by-offers false false won writer offer = refl

by-ring : (room pending won : Bool) (writer : WriterEnd) (offer : Offer) → (written_by room pending won writer offer).ring ≡ writer.ring
by-ring true true true writer offer = refl
by-ring true true false writer offer = refl
by-ring true false won writer offer = refl
by-ring false true true writer offer = refl
by-ring false true false writer offer = refl
by-ring false false won writer offer = refl

tried-offers : (pending : Bool) (writer : WriterEnd) (found : ℕ) → (tried_by pending writer found).offers ≡ writer.offers
tried-offers true writer found = refl
tried-offers false writer found = refl

tried-ring : (pending : Bool) (writer : WriterEnd) (found : ℕ) → (tried_by pending writer found).ring ≡ writer.ring
tried-ring true writer found = refl
tried-ring false writer found = refl

pub written-offers : (old new : WriterEnd) (offer : Offer) → (written (with_found old new) offer).offers ≡ old.offers ++ offer ∷ []
written-offers old new offer =
    let loaded = with_loads old new.read new.overflow in
    let found = with_found old new in
    by-offers (has_room found offer) (is_pending found) (has_won found) found offer ∙ ap (λ l. l ++ offer ∷ []) (tried-offers (is_pending loaded) loaded new.found)

pub written-ring : (old new : WriterEnd) (offer : Offer) → (written (with_found old new) offer).ring ≡ old.ring
written-ring old new offer =
    let loaded = with_loads old new.read new.overflow in
    let found = with_found old new in
    by-ring (has_room found offer) (is_pending found) (has_won found) found offer ∙ tried-ring (is_pending loaded) loaded new.found

-- ---- of which ring the end is

sample_of_ring : (old new : RingEnd) (offer : Offer) (ring : RingOf) → IsOf old ring → IsOf (with_sample old new offer) ring
sample_of_ring (Writing old) (Writing new) offer ring is = written-ring old new offer ∙ is
sample_of_ring (Writing old) (Shut closed) offer ring is = is
sample_of_ring (Writing old) Settled offer ring is = is
sample_of_ring (Shut closed) new offer ring is = is
sample_of_ring Settled new offer ring is = is

sampled_of_ring : (old new : RingEnd) (offers : List Offer) (ring : RingOf) → IsOf old ring → IsOf (with_sampled old new offers) ring
sampled_of_ring old new [] ring is = is
sampled_of_ring old new (offer ∷ others) ring is = sample_of_ring old new offer ring is

-- It stays so over a step, whatever that samples,
pub offered_of : (old new : RingEnd) (offers : List Offer) → new ≡ with_sampled old new offers → (ring : RingOf) → IsOf old ring → IsOf new ring
offered_of old new offers is ring of_ring = subst (λ end. IsOf end ring) (sym is) (sampled_of_ring old new offers ring of_ring)

shut_of_ring : (old : RingEnd) (ring : RingOf) → IsOf old ring → IsOf (shut_of old) ring
shut_of_ring (Writing writer) ring is = is
shut_of_ring (Shut closed) ring is = is
shut_of_ring Settled ring is = is

-- and once the profiler finishes.
pub shut_is_of : (old new : RingEnd) → new ≡ shut_of old → (ring : RingOf) → IsOf old ring → IsOf new ring
shut_is_of old new is ring of_ring = subst (λ end. IsOf end ring) (sym is) (shut_of_ring old ring of_ring)

-- ---- its offers are the samples of the journal

-- An entry samples at most one.
one_sampled : (code : Code) (s : State) (made : Entry) (offer : Offer) (others : List Offer) → offer ∷ others ≡ sampled_at code s made → offer ∷ [] ≡ sampled_at code s made
one_sampled code s made offer others same = ap (λ (l : List Offer). take 1 l) same ∙ first_all made
  where
    first_all : (made : Entry) → take 1 (sampled_at code s made) ≡ sampled_at code s made
    first_all (Tick w g) = refl
    first_all (Start w g) = refl
    first_all (Run w g n) = refl
    first_all (Op w g) = refl
    first_all (Park w g) = refl
    first_all (Open epoch room) = refl
    first_all (Refuse room n) = refl
    first_all (Record actor g) = refl
    first_all (Close epoch) = refl

module _ (program : Parts) (settings : Settings) (journal : List Entry) where
  -- The profiler hasn't finished: it is a writer,
  pub is_writer : (a : ℕ) (end : RingEnd) → a < has_finished → IsEnd program settings journal a end → IsWriter end
  is_writer a (Writing writer) below is = tt
  is_writer a (Shut closed) below is = let same = is.0 in absurd (omega arith)
  is_writer a Settled below is = absurd (omega (arith, is))

  -- or it has: that was closed.
  pub is_closed : (a : ℕ) (end : RingEnd) → a ≡ has_finished → IsEnd program settings journal a end → IsClosed end
  is_closed a (Writing writer) same is = let below = is.0 in absurd (omega arith)
  is_closed a (Shut closed) same is = tt
  is_closed a Settled same is = absurd (omega (arith, is))

  pub closed_offers : (a : ℕ) (closed : ClosedEnd) → IsEnd program settings journal a (Shut closed) → AreOffers program settings journal closed.ring closed.offers
  closed_offers a closed is = is.1

  -- The sample of a body that stands where its goroutine does may be offered,
  pub may_offer : (a : ℕ) (end : RingEnd) → AreInRange settings → a < has_finished → IsEnd program settings journal a end → (g : ℕ) (place : Progress) →
      place ≡ standing (goroutine (state_of program settings journal) g) → length journal < most_entries settings →
      MayOffer end (sample_at program (state_of program settings journal).clock place)
  may_offer a (Writing writer) range below is g place stands fits = body_may_be_written program settings journal writer range is.1 g place stands fits
  may_offer a (Shut closed) range below is g place stands fits = let same = is.0 in absurd (omega arith)
  may_offer a Settled range below is g place stands fits = absurd (omega (arith, is))

  module _ (made : Entry) (a b : ℕ) (below : a < has_finished) (later : b < has_finished) where
    abbrev longer : List Entry
    longer = journal ++ made ∷ []

    abbrev samples : List Offer
    samples = sampled_at (code_of program) (last (code_of program) settings journal) made

    -- and once it was, with the entry, the offers are the samples again.
    sampled_is : (old new : RingEnd) (offers : List Offer) → offers ≡ samples → IsEnd program settings journal a old → new ≡ with_sampled old new offers → IsEnd program settings longer b new
    sampled_is (Writing old) new [] same is e =
        let grown = offers_grow program settings journal old.ring old.offers made is.1 in
        subst (IsEnd program settings longer b) (sym e)
        (later, subst (λ (l : List Offer). AreOffers program settings longer old.ring l) (ap (λ (l : List Offer). old.offers ++ l) (sym same) ∙ append-nil old.offers) grown)
    sampled_is (Writing old) (Writing new) (offer ∷ others) same is e =
        let grown = offers_grow program settings journal old.ring old.offers made is.1 in
        subst (IsEnd program settings longer b) (sym e) (
          later,
          record {
            sized = subst (IsSized program settings) (sym (written-ring old new offer)) grown.sized;
            samples = written-offers old new offer ∙ ap (λ (l : List Offer). old.offers ++ l) (one_sampled (code_of program) (last (code_of program) settings journal) made offer others same) ∙ grown.samples;
          },
        )
    sampled_is (Writing old) (Shut closed) (offer ∷ others) same is e = absurd (subst IsWriter (sym e) tt)
    sampled_is (Writing old) Settled (offer ∷ others) same is e = absurd (subst IsWriter (sym e) tt)
    sampled_is (Shut closed) new offers same is e = let finished = is.0 in absurd (omega arith)
    sampled_is Settled new offers same is e = absurd (omega (arith, is))

    end_now : (old new : RingEnd) → IsEnd program settings journal a old → new ≡ with_sampled old new samples → IsEnd program settings longer b new
    end_now old new is e = sampled_is old new samples refl is e

  pub end_then : (made : Entry) (a b : ℕ) (old new : RingEnd) → a < has_finished → b < has_finished → IsEnd program settings journal a old →
      new ≡ with_sampled old new (sampled_at (code_of program) (last (code_of program) settings journal) made) → IsEnd program settings (journal ++ made ∷ []) b new
  end_then made a b old new below later is e = end_now made a b below later old new is e

  -- Once it is shut.
  pub shut_end : (a : ℕ) (end : RingEnd) → a < has_finished → IsEnd program settings journal a end → IsEnd program settings journal has_finished (shut_of end)
  shut_end a (Writing writer) below is = (refl, is.1)
  shut_end a (Shut closed) below is = let same = is.0 in absurd (omega arith)
  shut_end a Settled below is = absurd (omega (arith, is))
