-- Each step of a ring between two threads keeps its course sound, over plain lists.
use Rattle.std.proofs.Common.{◌≡◌, ℕ, ◌+◌, ◌*◌, ◌%◌, ◌<◌, ◌≤◌, ◌^◌, Bool, true, false, List, [], ◌∷◌, ◌++◌, length, replicate, refl, ap, sym, subst, ◌∙◌, append_assoc, append-nil, arith, length-append}
use Rattle.std.specs.Prelude.{◌==◌, if◌then◌else◌}
use Rattle.std.specs.List.{AllByRecursion}
use Rattle.std.proofs.lemmas.List.{map-append}
use Rattle.gp_layout.specs.Spelling.{loss_size}
use Rattle.gp_ring.specs.Records.{Offer, RingRecord, Sample, Loss, Covers, IsOffer, head, fit_twice, words_for, words_for_all, words_for_most}
use Rattle.gp_ring.specs.PlainRing.{empty_ring, piece_for}
use Rattle.gp_ring.specs.Follows.{samples}
use Rattle.gp_ring.specs.Counts.{behind_all}
use Rattle.gp_ring.specs.Course.{Course, loss_offer, losses, record_for, records_for, IsWhole, StartsWithHead, first_course, kept_of, words_kept, all_of, IsLossless, IsBounded, IsSound}
use Rattle.gp_ring.specs.Course.{delivered, with_since, first_lost, one_lost, owing, paid, with_end, with_batch, lifted}
use Rattle.gp_ring.proofs.Covering.{covers-delivered, covers-begun, covers-counted}
use Rattle.gp_ring.proofs.Heads.{words-append, most-append}
use Rattle.gp_ring.proofs.Spelled.{record-offer, record-loss, length-offer, length-zeros, raise-le}
use Rattle.gp_ring.proofs.Following.{differ, not_zero, begins-next, samples-more, fits_less}
use Rattle.gp_ring.proofs.Tracing.{behind-append}

-- ---- records

pub losses-none : (h n t : ℕ) → n ≡ 0 → losses h n t ≡ []
losses-none h n t e = ap (λ (k : ℕ). if k == 0 then [] else loss_offer h k t ∷ []) e

pub losses-some : (h n t : ℕ) → 0 < n → losses h n t ≡ loss_offer h n t ∷ []
losses-some h n t pos = ap (λ (b : Bool). if b then [] else loss_offer h n t ∷ []) (not_zero n pos)

pub for-loss : (h n t : ℕ) → record_for h (loss_offer h n t) ≡ Loss n t
for-loss h n t = record-loss (record (empty_ring h 0 0) { pending = n; since = t })

pub for-offer : (h len : ℕ) (o : Offer) → IsOffer h len o → record_for h o ≡ Sample o
for-offer h len o i = record-offer h len o i

pub for-append : (h : ℕ) (os ps : List Offer) → records_for h (os ++ ps) ≡ records_for h os ++ records_for h ps
for-append h os ps = map-append (record_for h) os ps

-- the records that were taken and the unread ones
abbrev pub rs : Course → List RingRecord
rs c = records_for c.hdrsize (c.taken ++ c.unread)

-- one unread record more
pub rs-more : (h : ℕ) (taken unread : List Offer) (o : Offer) (r : RingRecord) → record_for h o ≡ r
    → records_for h (taken ++ (unread ++ o ∷ [])) ≡ records_for h (taken ++ unread) ++ r ∷ []
rs-more h taken unread o r e =
    ap (records_for h) (sym (append_assoc taken unread (o ∷ []))) ∙ for-append h (taken ++ unread) (o ∷ [])
    ∙ ap (λ (x : RingRecord). records_for h (taken ++ unread) ++ x ∷ []) e

-- where no loss is pending and none on its way
pub none-all : (c : Course) → c.pending ≡ 0 → c.owed ≡ 0 → records_for c.hdrsize (all_of c) ≡ rs c
none-all c p q =
    ap (λ (xs : List Offer). records_for c.hdrsize (c.taken ++ xs))
    ((λ i. c.unread ++ (losses-none c.hdrsize c.pending c.since p i ++ losses-none c.hdrsize c.owed c.since q i)) ∙ append-nil c.unread)

-- where one is pending
pub some-all : (c : Course) → 0 < c.pending → c.owed ≡ 0 → records_for c.hdrsize (all_of c) ≡ rs c ++ Loss c.pending c.since ∷ []
some-all c p q =
    ap (λ (xs : List Offer). records_for c.hdrsize (c.taken ++ xs))
    (λ i. c.unread ++ (losses-some c.hdrsize c.pending c.since p i ++ losses-none c.hdrsize c.owed c.since q i))
    ∙ rs-more c.hdrsize c.taken c.unread (loss_offer c.hdrsize c.pending c.since) (Loss c.pending c.since) (for-loss c.hdrsize c.pending c.since)

-- where one is on its way
pub owed-all : (c : Course) → c.pending ≡ 0 → 0 < c.owed → records_for c.hdrsize (all_of c) ≡ rs c ++ Loss c.owed c.since ∷ []
owed-all c p q =
    ap (λ (xs : List Offer). records_for c.hdrsize (c.taken ++ xs))
    (λ i. c.unread ++ (losses-none c.hdrsize c.pending c.since p i ++ losses-some c.hdrsize c.owed c.since q i))
    ∙ rs-more c.hdrsize c.taken c.unread (loss_offer c.hdrsize c.owed c.since) (Loss c.owed c.since) (for-loss c.hdrsize c.owed c.since)

-- ---- numbers

pub kept-more : (pulled unread : List Offer) (o : Offer) → pulled ++ (unread ++ o ∷ []) ≡ (pulled ++ unread) ++ o ∷ []
kept-more pulled unread o = sym (append_assoc pulled unread (o ∷ []))

pub length-more : (pulled unread : List Offer) (o : Offer) → length (pulled ++ (unread ++ o ∷ [])) ≡ length (pulled ++ unread) + 1
length-more pulled unread o = ap length (kept-more pulled unread o) ∙ length-append (pulled ++ unread) (o ∷ [])

pub words-more : (len : ℕ) (pulled unread : List Offer) (o : Offer) → behind_all len 0 (pulled ++ (unread ++ o ∷ [])) ≤ behind_all len 0 (pulled ++ unread) + 2 * length (piece_for o).words
words-more len pulled unread o =
    let e = ap (behind_all len 0) (kept-more pulled unread o) ∙ behind-append len 0 (pulled ++ unread) (o ∷ []) in
    let r = raise-le (behind_all len 0 (pulled ++ unread) % len) len (length (piece_for o).words) in
    omega arith

pub loss-length : (h n t : ℕ) → length (piece_for (loss_offer h n t)).words ≡ loss_size h
loss-length h n t = let e = length-zeros h in let a = length-append (replicate h 0) (n ∷ []) in omega arith

pub whole-offer : (h len : ℕ) (o : Offer) → IsOffer h len o → IsWhole h o
whole-offer h len o i = record { header_size = i.header_size; loss = λ z. absurd (differ (sym i.header_tells ∙ z)) }

pub whole-loss : (h n t : ℕ) → IsWhole h (loss_offer h n t)
whole-loss h n t = record { header_size = length-zeros h; loss = λ _. refl }

pub all-more : (P : Offer → Type 0) (os : List Offer) (o : Offer) → AllByRecursion P os → P o → AllByRecursion P (os ++ o ∷ [])
all-more P [] o a p = (p, tt)
all-more P (x ∷ os) o a p = (a.0, all-more P os o a.1 p)

pub all-right : (P : Offer → Type 0) (os ps : List Offer) → AllByRecursion P (os ++ ps) → AllByRecursion P ps
all-right P [] ps a = a
all-right P (x ∷ os) ps a = all-right P os ps a.1

pub all-left : (P : Offer → Type 0) (os ps : List Offer) → AllByRecursion P (os ++ ps) → AllByRecursion P os
all-left P [] ps a = tt
all-left P (x ∷ os) ps a = (a.0, all-left P os ps a.1)

-- ---- the start

pub first-sound : (h len tags : ℕ) → IsSound (first_course h len tags)
first-sound h len tags = record {
  covered = refl;
  begins = ([], refl);
  lossless = λ _. record { none_pending = refl; none_owed = refl; delivered = refl; words = omega arith };
  whole = tt;
  bounded = record { few = omega arith; words_most = omega arith; words_pending = λ p. absurd (omega arith); records_most = omega arith; change_most = omega arith; change_pending = λ p. absurd (omega arith) };
  even = λ _. refl;
  odd = λ p. absurd (omega arith);
  one_loss = λ _. refl;
}

-- ---- what the writer does

module _ (c : Course) (s : IsSound c) where
  -- a loss, and not all offers fit
  pub lossy : 0 < c.pending + c.owed → fit_twice c.hdrsize c.len c.tags c.offers ≡ true → ⊥
  lossy p f = let l = s.lossless f in let a : c.pending ≡ 0 = l.none_pending in let b : c.owed ≡ 0 = l.none_owed in omega arith

  pub lossy-more : (o : Offer) → 0 < c.pending + c.owed → fit_twice c.hdrsize c.len c.tags (c.offers ++ o ∷ []) ≡ true → ⊥
  lossy-more o p f = lossy p (fits_less c.hdrsize c.len c.tags c.offers o f)

  pub delivered-sound : (o : Offer) → c.pending ≡ 0 → c.owed ≡ 0 → IsOffer c.hdrsize c.len o → length c.offers < 2 ^ 30 → IsSound (delivered c o)
  delivered-sound o p q i few =
      let n : length (c.offers ++ o ∷ []) ≡ length c.offers + 1 = length-append c.offers (o ∷ []) in
      let m = most-append c.hdrsize c.offers o in
      let w = words-append c.hdrsize c.offers o in
      let k = length-more c.pulled c.unread o in
      let u = words-more c.len c.pulled c.unread o in
      let z : length (piece_for o).words ≡ words_for c.hdrsize o = length-offer c.hdrsize c.len o i in
      let more : records_for c.hdrsize (c.taken ++ (c.unread ++ o ∷ [])) ≡ rs c ++ Sample o ∷ [] = rs-more c.hdrsize c.taken c.unread o (Sample o) (for-offer c.hdrsize c.len o i) in
      let before : Covers (rs c) c.offers = subst (λ (xs : List RingRecord). Covers xs c.offers) (none-all c p q) s.covered in
      let b = s.bounded in
      let few' : length c.offers ≤ 2 ^ 30 = b.few in
      let words' : words_kept c ≤ 2 * words_for_most c.hdrsize c.offers = b.words_most in
      let records' : length (kept_of c) + (c.pending + c.owed) ≤ length c.offers = b.records_most in
      let change' : c.change ≤ 2 * length c.offers = b.change_most in
      let lossless : fit_twice c.hdrsize c.len c.tags (c.offers ++ o ∷ []) ≡ true → IsLossless (delivered c o) = λ f.
      let l = s.lossless (fits_less c.hdrsize c.len c.tags c.offers o f) in
      let lw : words_kept c ≤ 2 * words_for_all c.hdrsize c.offers = l.words in
      record {
        none_pending = p;
        none_owed = q;
        delivered = more ∙ ap (λ (xs : List RingRecord). xs ++ Sample o ∷ []) l.delivered ∙ sym (samples-more c.offers o);
        words = omega arith;
      } in
      record {
        covered = subst (λ (xs : List RingRecord). Covers xs (c.offers ++ o ∷ [])) (sym (none-all (delivered c o) p q ∙ more)) (covers-delivered (rs c) c.offers o before);
        begins = begins-next c.hdrsize c.len c.tags c.offers o (rs c) (Sample o ∷ []) (records_for c.hdrsize (c.taken ++ (c.unread ++ o ∷ []))) s.begins (sym more) (λ f. (lossless f).delivered);
        lossless = lossless;
        whole = all-more (IsWhole c.hdrsize) c.unread o s.whole (whole-offer c.hdrsize c.len o i);
        bounded = record {
          few = omega arith;
          words_most = omega arith;
          words_pending = λ h. absurd (omega arith);
          records_most = omega arith;
          change_most = omega arith;
          change_pending = λ h. absurd (omega arith);
        };
        even = s.even;
        odd = s.odd;
        one_loss = s.one_loss;
      }

  pub since-sound : (now : ℕ) → c.pending ≡ 0 → c.owed ≡ 0 → IsSound (with_since c now)
  since-sound now p q = record {
    covered = subst (λ (xs : List RingRecord). Covers xs c.offers) (none-all c p q ∙ sym (none-all (with_since c now) p q)) s.covered;
    begins = s.begins;
    lossless = λ f. (let l = s.lossless f in record { none_pending = p; none_owed = q; delivered = l.delivered; words = l.words });
    whole = s.whole;
    bounded = s.bounded;
    even = s.even;
    odd = s.odd;
    one_loss = s.one_loss;
  }

  pub first-lost-sound : (o : Offer) → c.pending ≡ 0 → c.owed ≡ 0 → c.since ≡ o.time → fit_twice c.hdrsize c.len c.tags (c.offers ++ o ∷ []) ≡ false → length c.offers < 2 ^ 30 → IsSound (first_lost c o)
  first-lost-sound o p q t full few =
      let n : length (c.offers ++ o ∷ []) ≡ length c.offers + 1 = length-append c.offers (o ∷ []) in
      let m = most-append c.hdrsize c.offers o in
      let before : Covers (rs c) c.offers = subst (λ (xs : List RingRecord). Covers xs c.offers) (none-all c p q) s.covered in
      let one : 0 < 1 = omega arith in
      let same : records_for c.hdrsize (all_of (first_lost c o)) ≡ rs c ++ Loss 1 o.time ∷ [] = some-all (first_lost c o) one q ∙ ap (λ (k : ℕ). rs c ++ Loss 1 k ∷ []) t in
      let b = s.bounded in
      let words' : words_kept c ≤ 2 * words_for_most c.hdrsize c.offers = b.words_most in
      let records' : length (kept_of c) + (c.pending + c.owed) ≤ length c.offers = b.records_most in
      let change' : c.change ≤ 2 * length c.offers = b.change_most in
      let e : c.change % 2 ≡ 0 = s.even p in
      record {
        covered = subst (λ (xs : List RingRecord). Covers xs (c.offers ++ o ∷ [])) (sym same) (covers-begun (rs c) c.offers o before);
        begins = begins-next c.hdrsize c.len c.tags c.offers o (rs c) [] (rs c) s.begins (append-nil (rs c)) (λ f. absurd (differ (sym full ∙ f)));
        lossless = λ f. absurd (differ (sym full ∙ f));
        whole = s.whole;
        bounded = record {
          few = omega arith;
          words_most = omega arith;
          words_pending = λ _. omega arith;
          records_most = omega arith;
          change_most = omega arith;
          change_pending = λ _. omega arith;
        };
        even = λ z. absurd (omega arith);
        odd = λ _. omega arith;
        one_loss = λ _. q;
      }

  pub one-lost-sound : (o : Offer) → 0 < c.pending → length c.offers < 2 ^ 30 → IsSound (one_lost c o)
  one-lost-sound o pos few =
      let q : c.owed ≡ 0 = s.one_loss pos in
      let n : length (c.offers ++ o ∷ []) ≡ length c.offers + 1 = length-append c.offers (o ∷ []) in
      let m = most-append c.hdrsize c.offers o in
      let before : Covers (rs c ++ Loss c.pending c.since ∷ []) c.offers = subst (λ (xs : List RingRecord). Covers xs c.offers) (some-all c pos q) s.covered in
      let some : 0 < c.pending + 1 = omega arith in
      let b = s.bounded in
      let words' : words_kept c + 2 * loss_size c.hdrsize ≤ 2 * words_for_most c.hdrsize c.offers = b.words_pending (omega arith) in
      let records' : length (kept_of c) + (c.pending + c.owed) ≤ length c.offers = b.records_most in
      let change' : c.change + 1 ≤ 2 * length c.offers = b.change_pending pos in
      let full : fit_twice c.hdrsize c.len c.tags (c.offers ++ o ∷ []) ≡ true → ⊥ = lossy-more o (omega arith) in
      record {
        covered = subst (λ (xs : List RingRecord). Covers xs (c.offers ++ o ∷ [])) (sym (some-all (one_lost c o) some q)) (covers-counted (rs c) c.pending c.since c.offers o before);
        begins = begins-next c.hdrsize c.len c.tags c.offers o (rs c) [] (rs c) s.begins (append-nil (rs c)) (λ f. absurd (full f));
        lossless = λ f. absurd (full f);
        whole = s.whole;
        bounded = record {
          few = omega arith;
          words_most = omega arith;
          words_pending = λ _. omega arith;
          records_most = omega arith;
          change_most = omega arith;
          change_pending = λ _. omega arith;
        };
        even = λ z. absurd (omega arith);
        odd = λ _. s.odd pos;
        one_loss = λ _. q;
      }

  pub owing-sound : 0 < c.pending → IsSound (owing c)
  owing-sound pos =
      let q : c.owed ≡ 0 = s.one_loss pos in
      let b = s.bounded in
      let words' : words_kept c + 2 * loss_size c.hdrsize ≤ 2 * words_for_most c.hdrsize c.offers = b.words_pending (omega arith) in
      let records' : length (kept_of c) + (c.pending + c.owed) ≤ length c.offers = b.records_most in
      let change' : c.change + 1 ≤ 2 * length c.offers = b.change_pending pos in
      let odd' : c.change % 2 ≡ 1 = s.odd pos in
      let full : fit_twice c.hdrsize c.len c.tags c.offers ≡ true → ⊥ = lossy (omega arith) in
      record {
        covered = subst (λ (xs : List RingRecord). Covers xs c.offers) (some-all c pos q ∙ sym (owed-all (owing c) refl pos)) s.covered;
        begins = s.begins;
        lossless = λ f. absurd (full f);
        whole = s.whole;
        bounded = record {
          few = b.few;
          words_most = omega arith;
          words_pending = λ _. words';
          records_most = omega arith;
          change_most = omega arith;
          change_pending = λ z. absurd (omega arith);
        };
        even = λ _. omega arith;
        odd = λ z. absurd (omega arith);
        one_loss = λ z. absurd (omega arith);
      }

  pub paid-sound : c.pending ≡ 0 → 0 < c.owed → IsSound (paid c)
  paid-sound p pos =
      let loss = loss_offer c.hdrsize c.owed c.since in
      let k = length-more c.pulled c.unread (loss_offer c.hdrsize c.owed c.since) in
      let u = words-more c.len c.pulled c.unread (loss_offer c.hdrsize c.owed c.since) in
      let z = loss-length c.hdrsize c.owed c.since in
      let more : records_for c.hdrsize (c.taken ++ (c.unread ++ loss_offer c.hdrsize c.owed c.since ∷ [])) ≡ rs c ++ Loss c.owed c.since ∷ [] =
      rs-more c.hdrsize c.taken c.unread (loss_offer c.hdrsize c.owed c.since) (Loss c.owed c.since) (for-loss c.hdrsize c.owed c.since) in
      let b = s.bounded in
      let words' : words_kept c + 2 * loss_size c.hdrsize ≤ 2 * words_for_most c.hdrsize c.offers = b.words_pending (omega arith) in
      let records' : length (kept_of c) + (c.pending + c.owed) ≤ length c.offers = b.records_most in
      let full : fit_twice c.hdrsize c.len c.tags c.offers ≡ true → ⊥ = lossy (omega arith) in
      record {
        covered = subst (λ (xs : List RingRecord). Covers xs c.offers) (owed-all c p pos ∙ sym (none-all (paid c) p refl ∙ more)) s.covered;
        begins = (s.begins.0 ++ Loss c.owed c.since ∷ [], sym (append_assoc (samples (head c.hdrsize c.len c.tags c.offers)) s.begins.0 (Loss c.owed c.since ∷ [])) ∙ ap (λ (xs : List RingRecord). xs ++ Loss c.owed c.since ∷ []) s.begins.1 ∙ sym more);
        lossless = λ f. absurd (full f);
        whole = all-more (IsWhole c.hdrsize) c.unread loss s.whole (whole-loss c.hdrsize c.owed c.since);
        bounded = record {
          few = b.few;
          words_most = omega arith;
          words_pending = λ h. absurd (omega arith);
          records_most = omega arith;
          change_most = b.change_most;
          change_pending = b.change_pending;
        };
        even = s.even;
        odd = s.odd;
        one_loss = λ _. refl;
      }

  pub end-sound : IsSound (with_end c)
  end-sound = record {
    covered = s.covered;
    begins = s.begins;
    lossless = λ f. (let l = s.lossless f in record { none_pending = l.none_pending; none_owed = l.none_owed; delivered = l.delivered; words = l.words });
    whole = s.whole;
    bounded = s.bounded;
    even = s.even;
    odd = s.odd;
    one_loss = s.one_loss;
  }

  -- ---- what the reader does

  pub batch-sound : (ahead rest : List Offer) → ahead ++ rest ≡ c.unread → IsSound (with_batch c ahead rest)
  batch-sound ahead rest e =
      let same : (c.taken ++ ahead) ++ rest ≡ c.taken ++ c.unread = append_assoc c.taken ahead rest ∙ ap (λ (xs : List Offer). c.taken ++ xs) e in
      let kept : (c.pulled ++ ahead) ++ rest ≡ c.pulled ++ c.unread = append_assoc c.pulled ahead rest ∙ ap (λ (xs : List Offer). c.pulled ++ xs) e in
      let L = losses c.hdrsize c.pending c.since ++ losses c.hdrsize c.owed c.since in
      let all : (c.taken ++ ahead) ++ (rest ++ (losses c.hdrsize c.pending c.since ++ losses c.hdrsize c.owed c.since)) ≡ all_of c =
      sym (append_assoc (c.taken ++ ahead) rest L) ∙ ap (λ (xs : List Offer). xs ++ L) same ∙ append_assoc c.taken c.unread L in
      record {
        covered = subst (λ (xs : List Offer). Covers (records_for c.hdrsize xs) c.offers) (sym all) s.covered;
        begins = subst (λ (xs : List Offer). StartsWithHead c.hdrsize c.len c.tags c.offers (records_for c.hdrsize xs)) (sym same) s.begins;
        lossless = λ f. (let l = s.lossless f in record {
          none_pending = l.none_pending;
          none_owed = l.none_owed;
          delivered = ap (records_for c.hdrsize) same ∙ l.delivered;
          words = subst (λ (xs : List Offer). behind_all c.len 0 xs ≤ 2 * words_for_all c.hdrsize c.offers) (sym kept) l.words;
        });
        whole = all-right (IsWhole c.hdrsize) ahead rest (subst (AllByRecursion (IsWhole c.hdrsize)) (sym e) s.whole);
        bounded = subst (λ (xs : List Offer). IsBounded c.hdrsize c.offers (behind_all c.len 0 xs) (length xs) c.pending c.owed c.change) (sym kept) s.bounded;
        even = s.even;
        odd = s.odd;
        one_loss = s.one_loss;
      }

  pub lifted-sound : 0 < c.pending → c.unread ≡ [] → IsSound (lifted c)
  lifted-sound pos none =
      let q : c.owed ≡ 0 = s.one_loss pos in
      let loss = loss_offer c.hdrsize c.pending c.since in
      let b = s.bounded in
      let words' : words_kept c + 2 * loss_size c.hdrsize ≤ 2 * words_for_most c.hdrsize c.offers = b.words_pending (omega arith) in
      let records' : length (kept_of c) + (c.pending + c.owed) ≤ length c.offers = b.records_most in
      let change' : c.change + 1 ≤ 2 * length c.offers = b.change_pending pos in
      let odd' : c.change % 2 ≡ 1 = s.odd pos in
      let full : fit_twice c.hdrsize c.len c.tags c.offers ≡ true → ⊥ = lossy (omega arith) in
      let gone : (c.taken ++ loss_offer c.hdrsize c.pending c.since ∷ []) ++ c.unread ≡ c.taken ++ (c.unread ++ loss_offer c.hdrsize c.pending c.since ∷ []) =
      ap (λ (xs : List Offer). (c.taken ++ loss_offer c.hdrsize c.pending c.since ∷ []) ++ xs) none ∙ append-nil (c.taken ++ loss_offer c.hdrsize c.pending c.since ∷ [])
      ∙ ap (λ (xs : List Offer). c.taken ++ (xs ++ loss_offer c.hdrsize c.pending c.since ∷ [])) (sym none) in
      let more : rs (lifted c) ≡ rs c ++ Loss c.pending c.since ∷ [] =
      ap (records_for c.hdrsize) gone ∙ rs-more c.hdrsize c.taken c.unread (loss_offer c.hdrsize c.pending c.since) (Loss c.pending c.since) (for-loss c.hdrsize c.pending c.since) in
      record {
        covered = subst (λ (xs : List RingRecord). Covers xs c.offers) (some-all c pos q ∙ sym (none-all (lifted c) refl q ∙ more)) s.covered;
        begins = (s.begins.0 ++ Loss c.pending c.since ∷ [], sym (append_assoc (samples (head c.hdrsize c.len c.tags c.offers)) s.begins.0 (Loss c.pending c.since ∷ [])) ∙ ap (λ (xs : List RingRecord). xs ++ Loss c.pending c.since ∷ []) s.begins.1 ∙ sym more);
        lossless = λ f. absurd (full f);
        whole = s.whole;
        bounded = record {
          few = b.few;
          words_most = omega arith;
          words_pending = λ h. absurd (omega arith);
          records_most = omega arith;
          change_most = omega arith;
          change_pending = λ h. absurd (omega arith);
        };
        even = λ _. omega arith;
        odd = λ h. absurd (omega arith);
        one_loss = λ h. absurd (omega arith);
      }
