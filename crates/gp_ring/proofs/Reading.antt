-- A look, an act and a close keep what follows offers and records taken; and so does every list of calls.
use Rattle.std.proofs.Common.{◌≡◌, ℕ, ◌+◌, ◌-◌, ◌*◌, ◌<◌, ◌≤◌, Bool, true, false, List, [], ◌∷◌, ◌++◌, map, length, take, drop, Option, Some, None, refl, ap, sym, subst, ◌∙◌, append_assoc, append-nil, arith, length-drop}
use Rattle.std.specs.Prelude.{◌==◌, if◌then◌else◌, ◌&&◌, nat_lt, IfSome}
use Rattle.std.proofs.lemmas.List.{map-append, take-append-drop}
use Rattle.std.proofs.lemmas.Bool.{and_parts}
use Rattle.std.proofs.lemmas.Bool.Decides.{nat_tests}
use Rattle.gp_layout.specs.Spelling.{loss_size}
use Rattle.gp_ring.specs.Records.{Offer, RingRecord, Loss, Covers, words_for_most}
use Rattle.gp_ring.specs.PlainRing.{PlainRing, Piece, Seen, Found, Batch, Taken, Raced, Nothing, End, record_of, unread_records, pending_records}
use Rattle.gp_ring.specs.PlainRing.{batch, is_ahead, is_unchanged, found, records_found, acted_on, looked, closed, without_loss, without_batch, empty_ring}
use Rattle.gp_ring.specs.Follows.{Follows, IsSeen, BeginsWithHead}
use Rattle.gp_ring.specs.Calls.{Call, Write, Close, Look, Act, History, first_history, after_call, act_on, AreCalls, run, AllIsCovered, TheHeadIsDelivered, NothingIsLost, TheEndIsTheEnd, CallsKeepFollowing}
use Rattle.gp_ring.proofs.Following.{write-follows, nothing_pends, one_pends, not_zero, zero_above}

lt_true : (a b : ℕ) → nat_lt a b ≡ true → a < b
lt_true a b h = grind (arith, nat_tests)

lt_false : (a b : ℕ) → nat_lt a b ≡ false → b ≤ a
lt_false a b h = grind (arith, nat_tests)

same_true : (a b : ℕ) → (a == b) ≡ true → a ≡ b
same_true a b h = grind (arith, nat_tests)

closed-seen : (ring : PlainRing) (x : Option Seen) → IfSome x (IsSeen ring) → IfSome x (IsSeen (closed ring))
closed-seen ring None k = k
closed-seen ring (Some s) k =
    record { from = k.from; to = k.to; change = k.change; pending = k.pending; last = k.last; ended = λ _. refl; end_tags = k.end_tags; end_pending = k.end_pending }

pub close-follows : (os : List Offer) (rs : List RingRecord) (ring : PlainRing) → Follows os rs ring → Follows os rs (closed ring)
close-follows os rs ring f =
    record {
      covered = f.covered;
      begins = f.begins;
      lossless = λ k. (let l = f.lossless k in record { none_pending = l.none_pending; delivered = l.delivered; words = l.words });
      unread = f.unread;
      seen = closed-seen ring ring.seen f.seen;
      words = f.words;
      words_pending = f.words_pending;
      tags = f.tags;
      change = f.change;
      change_pending = f.change_pending;
    }

pub look-follows : (os : List Offer) (rs : List RingRecord) (ring : PlainRing) → Follows os rs ring → Follows os rs (looked ring)
look-follows os rs ring f =
    let a : ring.read_tags + length ring.unread ≡ ring.written_tags = f.unread in
    record {
      covered = f.covered;
      begins = f.begins;
      lossless = λ k. (let l = f.lossless k in record { none_pending = l.none_pending; delivered = l.delivered; words = l.words });
      unread = f.unread;
      seen = record { from = omega arith; to = omega arith; change = omega arith; pending = λ _. omega arith; last = λ _ _ _. refl; ended = λ e. e; end_tags = λ _. refl; end_pending = λ _. refl };
      words = f.words;
      words_pending = f.words_pending;
      tags = f.tags;
      change = f.change;
      change_pending = f.change_pending;
    }

-- after an act nothing is seen
forgotten : PlainRing → Found → PlainRing
forgotten ring answer = record ring { seen = None; hand = answer }

batch-follows : (os : List Offer) (rs : List RingRecord) (ring : PlainRing) (s : Seen) (answer : Found) → Follows os rs ring → IsSeen ring s
    → Follows os (rs ++ map (record_of ring.hdrsize) (batch ring s)) (forgotten (without_batch ring s) answer)
unfolding forgotten
batch-follows os rs ring s answer f k =
    let n = s.tags - ring.read_tags in
    let h = ring.hdrsize in
    let e : (rs ++ map (record_of h) (take n ring.unread)) ++ map (record_of h) (drop n ring.unread) ≡ rs ++ unread_records ring =
    append_assoc rs (map (record_of h) (take n ring.unread)) (map (record_of h) (drop n ring.unread))
    ∙ ap (λ (xs : List RingRecord). rs ++ xs) (sym (map-append (record_of h) (take n ring.unread) (drop n ring.unread)) ∙ ap (map (record_of h)) (take-append-drop n ring.unread)) in
    let a : ring.read_tags + length ring.unread ≡ ring.written_tags = f.unread in
    let d : length (drop n ring.unread) ≡ length ring.unread - n = length-drop n ring.unread in
    let from : ring.read_tags ≤ s.tags = k.from in
    let to : s.tags ≤ ring.written_tags = k.to in
    record {
      covered = subst (λ (xs : List RingRecord). Covers (xs ++ pending_records ring) os) (sym e) f.covered;
      begins = subst (BeginsWithHead ring os) (sym e) f.begins;
      lossless = λ q. (let l = f.lossless q in record { none_pending = l.none_pending; delivered = e ∙ l.delivered; words = l.words });
      unread = omega arith;
      seen = tt;
      words = f.words;
      words_pending = f.words_pending;
      tags = f.tags;
      change = f.change;
      change_pending = f.change_pending;
    }

no_pieces : (ps : List Piece) → length ps ≡ 0 → ps ≡ []
no_pieces [] e = refl
no_pieces (p ∷ ps) e = absurd (omega arith)

none_unread : (ring : PlainRing) (rs : List RingRecord) → length ring.unread ≡ 0 → rs ++ unread_records ring ≡ rs
none_unread ring rs e = ap (λ (ps : List Piece). rs ++ map (record_of ring.hdrsize) ps) (no_pieces ring.unread e) ∙ append-nil rs

loss-follows : (os : List Offer) (rs : List RingRecord) (ring : PlainRing) (answer : Found) → Follows os rs ring → 0 < ring.pending → length ring.unread ≡ 0
    → Follows os (rs ++ Loss ring.pending ring.since ∷ []) (forgotten (without_loss ring) answer)
unfolding forgotten
loss-follows os rs ring answer f pos u =
    let one : pending_records ring ≡ Loss ring.pending ring.since ∷ [] = one_pends ring.pending ring.since (not_zero ring.pending pos) in
    let taken = rs ++ Loss ring.pending ring.since ∷ [] in
    let e : taken ++ unread_records ring ≡ taken = none_unread ring taken u in
    let r : rs ++ unread_records ring ≡ rs = none_unread ring rs u in
    let c : Covers taken os = subst (λ (xs : List RingRecord). Covers xs os) (ap (λ (xs : List RingRecord). xs ++ pending_records ring) r ∙ ap (λ (xs : List RingRecord). rs ++ xs) one) f.covered in
    let b = f.begins in
    let a : ring.written_words + 2 * loss_size ring.hdrsize ≤ 2 * words_for_most ring.hdrsize os = f.words_pending pos in
    let t : ring.written_tags + ring.pending ≤ length os = f.tags in
    let d : ring.change + 1 ≤ 2 * length os = f.change_pending pos in
    record {
      covered = subst (λ (xs : List RingRecord). Covers xs os) (sym (append-nil (taken ++ unread_records ring) ∙ e)) c;
      begins = (
        b.0 ++ Loss ring.pending ring.since ∷ [],
        sym (append_assoc _ b.0 (Loss ring.pending ring.since ∷ [])) ∙ ap (λ (xs : List RingRecord). xs ++ Loss ring.pending ring.since ∷ []) (b.1 ∙ r) ∙ sym e,
      );
      lossless = λ q. absurd (zero_above ring.pending (f.lossless q).none_pending pos);
      unread = f.unread;
      seen = tt;
      words = omega arith;
      words_pending = λ h. absurd (omega arith);
      tags = omega arith;
      change = omega arith;
      change_pending = λ h. absurd (omega arith);
    }

nothing-follows : (os : List Offer) (rs : List RingRecord) (ring : PlainRing) (answer : Found) → Follows os rs ring → Follows os (rs ++ []) (forgotten ring answer)
unfolding forgotten
nothing-follows os rs ring answer f =
    subst (λ (xs : List RingRecord). Follows os xs (forgotten ring answer)) (sym (append-nil rs))
    (record {
      covered = f.covered;
      begins = f.begins;
      lossless = λ k. (let l = f.lossless k in record { none_pending = l.none_pending; delivered = l.delivered; words = l.words });
      unread = f.unread;
      seen = tt;
      words = f.words;
      words_pending = f.words_pending;
      tags = f.tags;
      change = f.change;
      change_pending = f.change_pending;
    })

-- nothing is unread where nobody is ahead
behind : (ring : PlainRing) (s : Seen) → ring.read_tags + length ring.unread ≡ ring.written_tags → is_ahead ring s ≡ false → ring.written_tags ≡ s.tags → length ring.unread ≡ 0
behind ring s a e w = let h : s.tags ≤ ring.read_tags = lt_false ring.read_tags s.tags e in omega arith

act-ahead : (os : List Offer) (rs : List RingRecord) (ring : PlainRing) (s : Seen) → Follows os rs ring → IsSeen ring s → is_ahead ring s ≡ true
    → Follows os (rs ++ records_found ring s) (acted_on ring s)
unfolding forgotten
act-ahead os rs ring s f k e =
    let step = λ (b : Bool). Follows os (rs ++ (if b then map (record_of ring.hdrsize) (batch ring s) else if nat_lt 0 s.pending && is_unchanged ring s then Loss ring.pending ring.since ∷ [] else []))
    (forgotten (if b then without_batch ring s else if nat_lt 0 s.pending && is_unchanged ring s then without_loss ring else ring) (found ring s)) in
    subst step (sym e) (batch-follows os rs ring s (found ring s) f k)

act-behind : (os : List Offer) (rs : List RingRecord) (ring : PlainRing) (s : Seen) (v : Bool) → (nat_lt 0 s.pending && is_unchanged ring s) ≡ v → Follows os rs ring → IsSeen ring s → is_ahead ring s ≡ false
    → Follows os (rs ++ (if v then Loss ring.pending ring.since ∷ [] else [])) (forgotten (if v then without_loss ring else ring) (found ring s))
act-behind os rs ring s false q f k e = nothing-follows os rs ring (found ring s) f
act-behind os rs ring s true q f k e =
    let p = and_parts (nat_lt 0 s.pending) (is_unchanged ring s) q in
    let u = and_parts (ring.change == s.change) (ring.pending == s.pending) p.1 in
    let pos : 0 < s.pending = lt_true 0 s.pending p.0 in
    let c : ring.change ≡ s.change = same_true ring.change s.change u.0 in
    let d : ring.pending ≡ s.pending = same_true ring.pending s.pending u.1 in
    let some : 0 < ring.pending = omega arith in
    loss-follows os rs ring (found ring s) f some (behind ring s f.unread e (k.last c d some))

-- an act keeps what follows offers and records taken
pub act-follows : (os : List Offer) (rs : List RingRecord) (ring : PlainRing) (s : Seen) → Follows os rs ring → IsSeen ring s
    → Follows os (rs ++ records_found ring s) (acted_on ring s)
unfolding forgotten
act-follows os rs ring s f k =
    elim (is_ahead ring s) as (λ (v : Bool). is_ahead ring s ≡ v → Follows os (rs ++ records_found ring s) (acted_on ring s)) [
      | true ↦ λ e. act-ahead os rs ring s f k e
      | false ↦ λ e.
          let step = λ (b v : Bool). Follows os (rs ++ (if b then map (record_of ring.hdrsize) (batch ring s) else if v then Loss ring.pending ring.since ∷ [] else []))
          (forgotten (if b then without_batch ring s else if v then without_loss ring else ring) (found ring s)) in
          subst (λ (b : Bool). step b (nat_lt 0 s.pending && is_unchanged ring s)) (sym e) (act-behind os rs ring s (nat_lt 0 s.pending && is_unchanged ring s) refl f k e)
    ] refl

act-history : (history : History) (x : Option Seen) → Follows history.offers history.taken history.ring → IfSome x (IsSeen history.ring)
    → let next = act_on history x in Follows next.offers next.taken next.ring
act-history history None f k = f
act-history history (Some s) f k = act-follows history.offers history.taken history.ring s f k

pub call-follows : CallsKeepFollowing
call-follows history (Write offer) f m = write-follows history.offers history.taken history.ring offer f m.0 m.1
call-follows history Close f m = close-follows history.offers history.taken history.ring f
call-follows history Look f m = look-follows history.offers history.taken history.ring f
call-follows history Act f m = act-history history history.ring.seen f f.seen

run-follows : (calls : List Call) (history : History) → Follows history.offers history.taken history.ring → AreCalls history calls
    → let last = run history calls in Follows last.offers last.taken last.ring
run-follows [] history f m = f
run-follows (call ∷ calls) history f m = run-follows calls (after_call history call) (call-follows history call f m.0) m.1

pub empty-follows : (h len tags : ℕ) → Follows [] [] (empty_ring h len tags)
empty-follows h len tags =
    record {
      covered = refl;
      begins = ([], refl);
      lossless = λ _. record { none_pending = refl; delivered = refl; words = omega arith };
      unread = refl;
      seen = tt;
      words = omega arith;
      words_pending = λ h. absurd (omega arith);
      tags = omega arith;
      change = omega arith;
      change_pending = λ h. absurd (omega arith);
    }

follows-all : (h len tags : ℕ) (calls : List Call) → AreCalls (first_history h len tags) calls → let last = run (first_history h len tags) calls in Follows last.offers last.taken last.ring
follows-all h len tags calls m = run-follows calls (first_history h len tags) (empty-follows h len tags) m

pub all-covered : AllIsCovered
all-covered h len tags calls m = (follows-all h len tags calls m).covered

pub head-delivered : TheHeadIsDelivered
head-delivered h len tags calls m =
    let last = run (first_history h len tags) calls in
    let b = (follows-all h len tags calls m).begins in
    (b.0 ++ pending_records last.ring, sym (append_assoc _ b.0 (pending_records last.ring)) ∙ ap (λ (xs : List RingRecord). xs ++ pending_records last.ring) b.1)

pub nothing-lost : NothingIsLost
nothing-lost h len tags calls m fit =
    let last = run (first_history h len tags) calls in
    let l = (follows-all h len tags calls m).lossless fit in
    ap (λ (xs : List RingRecord). (last.taken ++ unread_records last.ring) ++ xs) (nothing_pends last.ring.pending last.ring.since l.none_pending)
    ∙ append-nil (last.taken ++ unread_records last.ring) ∙ l.delivered

find : (a b c d : Bool) → (x y z : Found) → Found
find a b c d x y z = if a then x else if b then (if c then y else z) else if d then End else Nothing

-- the end is found only behind all records, with no loss seen, after the end mark
at-end : (a b c d : Bool) (ws ts : List ℕ) (n t p q : ℕ) → find a b c d (Batch ws ts) (Taken n t) (Raced p q) ≡ End → (a ≡ false) × (b ≡ false) × (d ≡ true)
unfolding find
at-end true b c d ws ts n t p q e = cc
at-end false true true d ws ts n t p q e = cc
at-end false true false d ws ts n t p q e = cc
at-end false false c true ws ts n t p q e = (refl, refl, refl)
at-end false false c false ws ts n t p q e = cc

pub end-covered : (os : List Offer) (rs : List RingRecord) (ring : PlainRing) (s : Seen) → Follows os rs ring → IsSeen ring s → found ring s ≡ End
    → (length ring.unread ≡ 0) × (ring.pending ≡ 0) × (ring.ended ≡ true) × Covers rs os
unfolding find
end-covered os rs ring s f k e =
    let p = at-end (is_ahead ring s) (nat_lt 0 s.pending) (is_unchanged ring s) s.ended _ _ _ _ _ _ e in
    let u : length ring.unread ≡ 0 = behind ring s f.unread p.0 (k.end_tags p.2) in
    let z : s.pending ≤ 0 = lt_false 0 s.pending p.1 in
    let y : ring.pending ≡ s.pending = k.end_pending p.2 in
    let w : ring.pending ≡ 0 = omega arith in
    let c : Covers rs os = subst (λ (xs : List RingRecord). Covers xs os)
    (ap (λ (xs : List RingRecord). xs ++ pending_records ring) (none_unread ring rs u)
    ∙ ap (λ (xs : List RingRecord). rs ++ xs) (nothing_pends ring.pending ring.since w) ∙ append-nil rs) f.covered in
    (u, w, k.ended p.2, c)

end-history : (history : History) (x : Option Seen) → Follows history.offers history.taken history.ring → IfSome x (IsSeen history.ring)
    → IfSome x (λ seen. found history.ring seen ≡ End → Covers history.taken history.offers)
end-history history None f k = tt
end-history history (Some s) f k = λ e. (end-covered history.offers history.taken history.ring s f k e).3

pub end-is-end : TheEndIsTheEnd
end-is-end h len tags calls m =
    let last = run (first_history h len tags) calls in
    let f = follows-all h len tags calls m in
    end-history last last.ring.seen f f.seen
