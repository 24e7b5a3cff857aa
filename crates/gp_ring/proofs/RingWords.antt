-- What each store leaves of the shared words of a ring.
use Rattle.std.proofs.Common.{◌≡◌, ℕ, ◌+◌, ◌%◌, ◌<◌, ◌≤◌, true, List, [], ◌∷◌, ◌++◌, length, ap, sym, subst, ◌∙◌, append-nil, length-append, arith}
use Rattle.std.specs.Prelude.{slice_set, slice_index}
use Rattle.std.proofs.Math.Nat.{mod-lt}
use Rattle.std.proofs.lemmas.List.{get_or-set_other, get_or-set_same, append_assoc, length-set}
use Rattle.gp_layout.specs.Words.{words_of, tags_of}
use Rattle.gp_ring.specs.Records.{Offer}
use Rattle.gp_ring.specs.Counts.{behind, behind_all}
use Rattle.gp_ring.specs.Course.{Course, kept_of, words_kept}
use Rattle.gp_ring.specs.kept.Traces.{laid_at, all_laid, tags_from, Stands}
use Rattle.gp_ring.specs.kept.RingRule.{Desk, AreCounts, AreStanding, AreWords, words_pulled}
use Rattle.gp_ring.proofs.Tracing.{behind-append, behind-front, laid-append, tags_from-append, stands-from, stands-else, stands-more}

apart : (i j : ℕ) → i < j → i ≡ j → ⊥
apart i j h e = omega arith

above : (i j : ℕ) → j < i → i ≡ j → ⊥
above i j h e = omega arith

low : (a i x : ℕ) → i < a → a + x ≡ i → ⊥
low a i x h e = omega arith

-- a place among the data words is none of the tags, and the other way round
among : (len tags c n : ℕ) → 0 < len → (5 + len) + c % tags ≡ 5 + n % len → ⊥
among len tags c n some e = let m = mod-lt n some in omega arith

beside : (len tags c n : ℕ) → 0 < len → 5 + c % len ≡ (5 + len) + n % tags → ⊥
beside len tags c n some e = let m = mod-lt c some in omega arith

-- the first words, when another one is stored
pub counts-else : (ws : List ℕ) (i v : ℕ) (course : Course) (present : ℕ) → 5 ≤ i
    → AreCounts (slice_index ws 0) (slice_index ws 1) (slice_index ws 2) (slice_index ws 3) (slice_index ws 4) course present
    → AreCounts (slice_index (slice_set ws i v) 0) (slice_index (slice_set ws i v) 1) (slice_index (slice_set ws i v) 2) (slice_index (slice_set ws i v) 3) (slice_index (slice_set ws i v) 4) course present
counts-else ws i v course present h a =
    subst (λ (x : ℕ × ℕ × ℕ × ℕ × ℕ). AreCounts x.0 x.1 x.2 x.3 x.4 course present)
    (λ j. (
      sym (get_or-set_other ws i 0 v 0 (apart 0 i (omega arith))) j,
      sym (get_or-set_other ws i 1 v 0 (apart 1 i (omega arith))) j,
      sym (get_or-set_other ws i 2 v 0 (apart 2 i (omega arith))) j,
      sym (get_or-set_other ws i 3 v 0 (apart 3 i (omega arith))) j,
      sym (get_or-set_other ws i 4 v 0 (apart 4 i (omega arith))) j,
    )) a

-- what stands, when one of the first words is stored
pub standing-else : (ws : List ℕ) (i v len tags : ℕ) (pulled unread : List Offer) (desk : Desk) → i < 5 → AreStanding ws len tags pulled unread desk → AreStanding (slice_set ws i v) len tags pulled unread desk
standing-else ws i v len tags pulled unread desk h a = record {
  words_stand = stands-else ws 5 len (behind_all len 0 pulled) desk.next i v (all_laid len 0 (pulled ++ unread) ++ desk.draft) (λ c. low 5 i (c % len) h) a.words_stand;
  next_least = a.next_least;
  next_most = a.next_most;
  tags_stand = stands-else ws (5 + len) tags (length pulled) desk.next_tag i v (tags_from 0 (pulled ++ unread) ++ desk.tag_draft) (λ c. low (5 + len) i (c % tags) (omega arith)) a.tags_stand;
  next_tag_least = a.next_tag_least;
  next_tag_most = a.next_tag_most;
}

module _ (ws : List ℕ) (course : Course) (desk : Desk) (present : ℕ) (a : AreWords ws course desk present) where
  -- a data word is stored, and the next one comes `up` counts later
  pub store-word : (word up : ℕ) → 1 ≤ up → desk.next + up ≤ words_pulled course + course.len
      → AreWords (slice_set ws (5 + desk.next % course.len) word) course (record desk { draft = desk.draft ++ (desk.next, word) ∷ []; next = desk.next + up }) present
  store-word word up some fits =
      let b = a.standing in
      let m = mod-lt desk.next a.some_words in
      let there : 5 + desk.next % course.len < length ws = omega (arith, a.size, m) in
      record {
        some_words = a.some_words;
        some_tags = a.some_tags;
        size = length-set ws (5 + desk.next % course.len) word ∙ a.size;
        counts = counts-else ws (5 + desk.next % course.len) word course present (omega arith) a.counts;
        standing = record {
          words_stand = stands-more ws 5 course.len (words_pulled course) desk.next word (all_laid course.len 0 (kept_of course)) desk.draft (desk.next + up) (omega arith) there (omega arith) b.words_stand;
          next_least = (let h = b.next_least in omega arith);
          next_most = fits;
          tags_stand = stands-else ws (5 + course.len) course.tags (length course.pulled) desk.next_tag (5 + desk.next % course.len) word (tags_from 0 (kept_of course) ++ desk.tag_draft)
              (λ c. among course.len course.tags c desk.next a.some_words) b.tags_stand;
          next_tag_least = b.next_tag_least;
          next_tag_most = b.next_tag_most;
        };
      }

  -- a tag is stored
  pub store-tag : (tag : ℕ) → desk.next_tag + 1 ≤ length course.pulled + course.tags
      → AreWords (slice_set ws ((5 + course.len) + desk.next_tag % course.tags) tag) course (record desk { tag_draft = desk.tag_draft ++ (desk.next_tag, tag) ∷ []; next_tag = desk.next_tag + 1 }) present
  store-tag tag fits =
      let b = a.standing in
      let m = mod-lt desk.next_tag a.some_tags in
      let there : (5 + course.len) + desk.next_tag % course.tags < length ws = omega (arith, a.size, m) in
      record {
        some_words = a.some_words;
        some_tags = a.some_tags;
        size = length-set ws ((5 + course.len) + desk.next_tag % course.tags) tag ∙ a.size;
        counts = counts-else ws ((5 + course.len) + desk.next_tag % course.tags) tag course present (omega arith) a.counts;
        standing = record {
          words_stand = stands-else ws 5 course.len (words_pulled course) desk.next ((5 + course.len) + desk.next_tag % course.tags) tag (all_laid course.len 0 (kept_of course) ++ desk.draft)
              (λ c. beside course.len course.tags c desk.next_tag a.some_words) b.words_stand;
          next_least = b.next_least;
          next_most = b.next_most;
          tags_stand = stands-more ws (5 + course.len) course.tags (length course.pulled) desk.next_tag tag (tags_from 0 (kept_of course)) desk.tag_draft (desk.next_tag + 1) (omega arith) there (omega arith) b.tags_stand;
          next_tag_least = (let h = b.next_tag_least in omega arith);
          next_tag_most = fits;
        };
      }

  -- `w` is stored behind a record whose words and tag stand
  pub store-written : (w : ℕ) (o : Offer) (offers : List Offer) (owed : ℕ) → desk.draft ≡ laid_at course.len (words_kept course) o → desk.tag_draft ≡ (length (kept_of course), o.tag) ∷ []
      → words_of w ≡ behind course.len (words_kept course) o → tags_of w ≡ length (kept_of course) + 1 → desk.next ≡ words_of w → desk.next_tag ≡ tags_of w
      → AreWords (slice_set ws 1 w) (record course { offers = offers; unread = course.unread ++ o ∷ []; owed = owed }) (record desk { draft = []; tag_draft = [] }) present
  store-written w o offers owed draft tag_draft words tags_is next next_tag =
      let b = a.standing in
      let len = course.len in
      let kept' = course.pulled ++ (course.unread ++ o ∷ []) in
      let same : course.pulled ++ (course.unread ++ o ∷ []) ≡ kept_of course ++ o ∷ [] = sym (append_assoc course.pulled course.unread (o ∷ [])) in
      let there : 1 < length ws = omega (arith, a.size) in
      let count : behind_all course.len 0 (course.pulled ++ (course.unread ++ o ∷ [])) ≡ words_of w = ap (behind_all course.len 0) same ∙ behind-append course.len 0 (kept_of course) (o ∷ []) ∙ sym words in
      let tag_count : length (course.pulled ++ (course.unread ++ o ∷ [])) ≡ tags_of w = ap length same ∙ length-append (kept_of course) (o ∷ []) ∙ sym tags_is in
      let trace : all_laid course.len 0 (kept_of course) ++ desk.draft ≡ all_laid course.len 0 (course.pulled ++ (course.unread ++ o ∷ [])) ++ [] =
      ap (λ (t : List (ℕ × ℕ)). all_laid course.len 0 (kept_of course) ++ t) (draft ∙ sym (append-nil (laid_at course.len (words_kept course) o)))
      ∙ sym (laid-append course.len 0 (kept_of course) (o ∷ [])) ∙ ap (all_laid course.len 0) (sym same) ∙ sym (append-nil (all_laid course.len 0 (course.pulled ++ (course.unread ++ o ∷ [])))) in
      let from_none : length (kept_of course) ≡ 0 + length (kept_of course) = omega arith in
      let tag_trace : tags_from 0 (kept_of course) ++ desk.tag_draft ≡ tags_from 0 (course.pulled ++ (course.unread ++ o ∷ [])) ++ [] =
      ap (λ (t : List (ℕ × ℕ)). tags_from 0 (kept_of course) ++ t) (tag_draft ∙ ap (λ (n : ℕ). (n, o.tag) ∷ []) from_none)
      ∙ sym (tags_from-append 0 (kept_of course) (o ∷ [])) ∙ ap (tags_from 0) (sym same) ∙ sym (append-nil (tags_from 0 (course.pulled ++ (course.unread ++ o ∷ [])))) in
      record {
        some_words = a.some_words;
        some_tags = a.some_tags;
        size = length-set ws 1 w ∙ a.size;
        counts = record {
          read_words = ap words_of (get_or-set_other ws 1 0 w 0 (apart 0 1 (omega arith))) ∙ a.counts.read_words;
          read_tags = ap tags_of (get_or-set_other ws 1 0 w 0 (apart 0 1 (omega arith))) ∙ a.counts.read_tags;
          written_words = ap words_of (get_or-set_same ws 1 w 0 there) ∙ sym count;
          written_tags = ap tags_of (get_or-set_same ws 1 w 0 there) ∙ sym tag_count;
          present_is = get_or-set_other ws 1 2 w 0 (above 2 1 (omega arith)) ∙ a.counts.present_is;
          since_is = get_or-set_other ws 1 3 w 0 (above 3 1 (omega arith)) ∙ a.counts.since_is;
          end_is = get_or-set_other ws 1 4 w 0 (above 4 1 (omega arith)) ∙ a.counts.end_is;
        };
        standing = record {
          words_stand = subst (Stands (slice_set ws 1 w) 5 course.len (words_pulled course) desk.next) trace
              (stands-else ws 5 course.len (words_pulled course) desk.next 1 w (all_laid course.len 0 (kept_of course) ++ desk.draft) (λ c. low 5 1 (c % course.len) (omega arith)) b.words_stand);
          next_least = omega arith;
          next_most = b.next_most;
          tags_stand = subst (Stands (slice_set ws 1 w) (5 + course.len) course.tags (length course.pulled) desk.next_tag) tag_trace
              (stands-else ws (5 + course.len) course.tags (length course.pulled) desk.next_tag 1 w (tags_from 0 (kept_of course) ++ desk.tag_draft) (λ c. low (5 + course.len) 1 (c % course.tags) (omega arith)) b.tags_stand);
          next_tag_least = omega arith;
          next_tag_most = b.next_tag_most;
        };
      }

  -- `r` is stored behind records that are taken
  pub store-read : (r : ℕ) (ahead rest taken : List Offer) → ahead ++ rest ≡ course.unread → words_of r ≡ behind_all course.len 0 (course.pulled ++ ahead) → tags_of r ≡ length (course.pulled ++ ahead)
      → AreWords (slice_set ws 0 r) (record course { taken = taken; pulled = course.pulled ++ ahead; unread = rest }) desk present
  store-read r ahead rest taken parts words tags_is =
      let b = a.standing in
      let same : kept_of course ≡ (course.pulled ++ ahead) ++ rest = ap (λ (os : List Offer). course.pulled ++ os) (sym parts) ∙ sym (append_assoc course.pulled ahead rest) in
      let there : 0 < length ws = omega (arith, a.size) in
      let more : words_pulled course ≤ behind_all course.len 0 (course.pulled ++ ahead) = behind-front course.len 0 course.pulled ahead in
      let more_tags : length course.pulled ≤ length (course.pulled ++ ahead) = (let l = length-append course.pulled ahead in omega arith) in
      record {
        some_words = a.some_words;
        some_tags = a.some_tags;
        size = length-set ws 0 r ∙ a.size;
        counts = record {
          read_words = ap words_of (get_or-set_same ws 0 r 0 there) ∙ words;
          read_tags = ap tags_of (get_or-set_same ws 0 r 0 there) ∙ tags_is;
          written_words = ap words_of (get_or-set_other ws 0 1 r 0 (above 1 0 (omega arith))) ∙ a.counts.written_words ∙ ap (behind_all course.len 0) same;
          written_tags = ap tags_of (get_or-set_other ws 0 1 r 0 (above 1 0 (omega arith))) ∙ a.counts.written_tags ∙ ap length same;
          present_is = get_or-set_other ws 0 2 r 0 (above 2 0 (omega arith)) ∙ a.counts.present_is;
          since_is = get_or-set_other ws 0 3 r 0 (above 3 0 (omega arith)) ∙ a.counts.since_is;
          end_is = get_or-set_other ws 0 4 r 0 (above 4 0 (omega arith)) ∙ a.counts.end_is;
        };
        standing = record {
          words_stand = subst (λ (os : List Offer). Stands (slice_set ws 0 r) 5 course.len (behind_all course.len 0 (course.pulled ++ ahead)) desk.next (all_laid course.len 0 os ++ desk.draft)) same
              (stands-from (slice_set ws 0 r) 5 course.len (words_pulled course) (behind_all course.len 0 (course.pulled ++ ahead)) desk.next (all_laid course.len 0 (kept_of course) ++ desk.draft) more
              (stands-else ws 5 course.len (words_pulled course) desk.next 0 r (all_laid course.len 0 (kept_of course) ++ desk.draft) (λ c. low 5 0 (c % course.len) (omega arith)) b.words_stand));
          next_least = subst (λ (os : List Offer). behind_all course.len 0 os ≤ desk.next) same b.next_least;
          next_most = (let h = b.next_most in omega arith);
          tags_stand = subst (λ (os : List Offer). Stands (slice_set ws 0 r) (5 + course.len) course.tags (length (course.pulled ++ ahead)) desk.next_tag (tags_from 0 os ++ desk.tag_draft)) same
              (stands-from (slice_set ws 0 r) (5 + course.len) course.tags (length course.pulled) (length (course.pulled ++ ahead)) desk.next_tag (tags_from 0 (kept_of course) ++ desk.tag_draft) more_tags
              (stands-else ws (5 + course.len) course.tags (length course.pulled) desk.next_tag 0 r (tags_from 0 (kept_of course) ++ desk.tag_draft) (λ c. low (5 + course.len) 0 (c % course.tags) (omega arith)) b.tags_stand));
          next_tag_least = subst (λ (os : List Offer). length os ≤ desk.next_tag) same b.next_tag_least;
          next_tag_most = (let h = b.next_tag_most in omega arith);
        };
      }

  -- overflow becomes another word
  pub store-present : (word : ℕ) (offers taken : List Offer) (pending change owed : ℕ)
      → AreWords (slice_set ws 2 word) (record course { offers = offers; taken = taken; pending = pending; change = change; owed = owed }) desk word
  store-present word offers taken pending change owed =
      let there : 2 < length ws = omega (arith, a.size) in
      record {
        some_words = a.some_words;
        some_tags = a.some_tags;
        size = length-set ws 2 word ∙ a.size;
        counts = record {
          read_words = ap words_of (get_or-set_other ws 2 0 word 0 (apart 0 2 (omega arith))) ∙ a.counts.read_words;
          read_tags = ap tags_of (get_or-set_other ws 2 0 word 0 (apart 0 2 (omega arith))) ∙ a.counts.read_tags;
          written_words = ap words_of (get_or-set_other ws 2 1 word 0 (apart 1 2 (omega arith))) ∙ a.counts.written_words;
          written_tags = ap tags_of (get_or-set_other ws 2 1 word 0 (apart 1 2 (omega arith))) ∙ a.counts.written_tags;
          present_is = get_or-set_same ws 2 word 0 there;
          since_is = get_or-set_other ws 2 3 word 0 (above 3 2 (omega arith)) ∙ a.counts.since_is;
          end_is = get_or-set_other ws 2 4 word 0 (above 4 2 (omega arith)) ∙ a.counts.end_is;
        };
        standing = standing-else ws 2 word course.len course.tags course.pulled course.unread desk (omega arith) a.standing;
      }

  -- the overflow time is stored
  pub store-since : (now : ℕ) → AreWords (slice_set ws 3 now) (record course { since = now }) desk present
  store-since now =
      let there : 3 < length ws = omega (arith, a.size) in
      record {
        some_words = a.some_words;
        some_tags = a.some_tags;
        size = length-set ws 3 now ∙ a.size;
        counts = record {
          read_words = ap words_of (get_or-set_other ws 3 0 now 0 (apart 0 3 (omega arith))) ∙ a.counts.read_words;
          read_tags = ap tags_of (get_or-set_other ws 3 0 now 0 (apart 0 3 (omega arith))) ∙ a.counts.read_tags;
          written_words = ap words_of (get_or-set_other ws 3 1 now 0 (apart 1 3 (omega arith))) ∙ a.counts.written_words;
          written_tags = ap tags_of (get_or-set_other ws 3 1 now 0 (apart 1 3 (omega arith))) ∙ a.counts.written_tags;
          present_is = get_or-set_other ws 3 2 now 0 (apart 2 3 (omega arith)) ∙ a.counts.present_is;
          since_is = get_or-set_same ws 3 now 0 there;
          end_is = get_or-set_other ws 3 4 now 0 (above 4 3 (omega arith)) ∙ a.counts.end_is;
        };
        standing = standing-else ws 3 now course.len course.tags course.pulled course.unread desk (omega arith) a.standing;
      }

  -- the end mark is stored
  pub store-end : AreWords (slice_set ws 4 1) (record course { ended = true }) desk present
  store-end =
      let there : 4 < length ws = omega (arith, a.size) in
      record {
        some_words = a.some_words;
        some_tags = a.some_tags;
        size = length-set ws 4 1 ∙ a.size;
        counts = record {
          read_words = ap words_of (get_or-set_other ws 4 0 1 0 (apart 0 4 (omega arith))) ∙ a.counts.read_words;
          read_tags = ap tags_of (get_or-set_other ws 4 0 1 0 (apart 0 4 (omega arith))) ∙ a.counts.read_tags;
          written_words = ap words_of (get_or-set_other ws 4 1 1 0 (apart 1 4 (omega arith))) ∙ a.counts.written_words;
          written_tags = ap tags_of (get_or-set_other ws 4 1 1 0 (apart 1 4 (omega arith))) ∙ a.counts.written_tags;
          present_is = get_or-set_other ws 4 2 1 0 (apart 2 4 (omega arith)) ∙ a.counts.present_is;
          since_is = get_or-set_other ws 4 3 1 0 (apart 3 4 (omega arith)) ∙ a.counts.since_is;
          end_is = get_or-set_same ws 4 1 0 there;
        };
        standing = standing-else ws 4 1 course.len course.tags course.pulled course.unread desk (omega arith) a.standing;
      }
