-- Every list of calls, and the laws of what it leaves.
use Rattle.std.specs.Prelude.{◌≡◌, ℕ, true, false, List, [], ◌∷◌, ◌++◌, Option, None, Some, IsSome, IfSome}
use Rattle.gp_ring.specs.Records.{Offer, RingRecord, Covers, IsOffer, fit_twice}
use Rattle.gp_ring.specs.PlainRing.{PlainRing, Seen, empty_ring, written, closed, looked, acted_on}
use Rattle.gp_ring.specs.PlainRing.{records_found, unread_records, pending_records, found, End}
use Rattle.gp_ring.specs.Follows.{Follows, BeginsWithHead, samples}

pub data Call : Type 0 where
  Write : (offer : Offer) → Call
  Close : Call
  Look : Call
  Act : Call

-- a ring with all that was offered to it and all that was taken from it
pub record History : Type 0 where
  pub ring : PlainRing
  pub offers : List Offer
  pub taken : List RingRecord

abbrev pub first_history : (hdrsize len tags : ℕ) → History
first_history hdrsize len tags = record { ring = empty_ring hdrsize len tags; offers = []; taken = [] }

abbrev pub act_on : History → Option Seen → History
act_on history None = history
act_on history (Some seen) =
    record { ring = acted_on history.ring seen; offers = history.offers; taken = history.taken ++ records_found history.ring seen }

abbrev pub after_call : History → Call → History
after_call history (Write offer) =
    record { ring = written history.ring offer; offers = history.offers ++ offer ∷ []; taken = history.taken }
after_call history Close = record history { ring = closed history.ring }
after_call history Look = record history { ring = looked history.ring }
after_call history Act = act_on history history.ring.seen

-- no write comes after a close, and each act after a look
abbrev pub MayCall : History → Call → Type 0
MayCall history (Write offer) = (history.ring.ended ≡ false) × IsOffer history.ring.hdrsize history.ring.len offer
MayCall history Close = Unit {0}
MayCall history Look = Unit {0}
MayCall history Act = IsSome history.ring.seen

abbrev pub AreCalls : History → List Call → Type 0
AreCalls history [] = Unit {0}
AreCalls history (call ∷ calls) = MayCall history call × AreCalls (after_call history call) calls

abbrev pub run : History → List Call → History
run history [] = history
run history (call ∷ calls) = run (after_call history call) calls

-- what was taken, and is unread or pending
abbrev pub all_records : History → List RingRecord
all_records history = history.taken ++ unread_records history.ring ++ pending_records history.ring

-- for what every list of calls leaves
abbrev pub AfterAnyCalls : (History → Type 0) → Type 0
AfterAnyCalls P =
    (hdrsize len tags : ℕ) (calls : List Call) → AreCalls (first_history hdrsize len tags) calls
    → P (run (first_history hdrsize len tags) calls)

-- taken, unread and pending records cover the offers in order
abbrev pub AllIsCovered : Type 0
AllIsCovered = AfterAnyCalls (λ history. Covers (all_records history) history.offers)

-- they begin with the head of the offers, each delivered
abbrev pub TheHeadIsDelivered : Type 0
TheHeadIsDelivered = AfterAnyCalls (λ history. BeginsWithHead history.ring history.offers (all_records history))

-- where all offers fit twice over nothing is lost
abbrev pub NothingIsLost : Type 0
NothingIsLost =
    AfterAnyCalls (λ history. fit_twice history.ring.hdrsize history.ring.len history.ring.tags history.offers ≡ true
    → all_records history ≡ samples history.offers)

-- who finds the end has taken all
abbrev pub TheEndIsTheEnd : Type 0
TheEndIsTheEnd =
    AfterAnyCalls (λ history. IfSome history.ring.seen (λ seen. found history.ring seen ≡ End → Covers history.taken history.offers))

-- whoever carries offers and records taken may go on to do so
abbrev pub CallsKeepFollowing : Type 0
CallsKeepFollowing =
    (history : History) (call : Call) → Follows history.offers history.taken history.ring → MayCall history call
    → let next = after_call history call in Follows next.offers next.taken next.ring

abbrev pub EmptyFollows : Type 0
EmptyFollows = (hdrsize len tags : ℕ) → Follows [] [] (empty_ring hdrsize len tags)
