-- What deciding an offer needs, and what it leaves of the writer.
use Rattle.std.proofs.Common.{◌≡◌, ℕ, ◌+◌, ◌*◌, ◌-◌, ◌%◌, ◌<◌, ◌≤◌, ◌^◌, Bool, true, false, List, [], ◌∷◌, ◌++◌, length, replicate, refl, ap, sym, subst, ◌∙◌, inl, inr, append_assoc, length-append, arith}
use Rattle.std.specs.Prelude.{nat_le, nat_lt, ◌==◌, if◌then◌else◌}
use Rattle.std.proofs.Math.Nat.{mod-lt, mod-add-mod, mod-eq_of_lt}
use Rattle.std.proofs.lemmas.Bool.{and_parts, and_from, cases_lt}
use Rattle.std.proofs.lemmas.Bool.Decides.{nat_tests}
use Rattle.atomic_table.specs.Table.{Me}
use Rattle.atomic_table.specs.Seated.{TableId}
use Rattle.gp_layout.specs.Words.{words_of, tags_of, count_of, change_of}
use Rattle.gp_layout.specs.Place.{raise_of, skip_of, after_of}
use Rattle.gp_layout.specs.Room.{room_for_one, room_for_two}
use Rattle.gp_layout.specs.Spelling.{size_of, loss_size}
use Rattle.gp_ring.specs.Records.{Offer, fit_twice, words_for, words_for_all, words_for_most}
use Rattle.gp_ring.specs.PlainRing.{piece_for}
use Rattle.gp_ring.specs.Offered.{offer_of}
use Rattle.gp_ring.specs.Counts.{behind, behind_all}
use Rattle.gp_ring.specs.Course.{loss_offer, IsBounded}
use Rattle.gp_ring.specs.TwoEnds.{WriterEnd, MayWrite, with_loads, with_found, is_pending, tried_by, tried, has_won, room_by, has_room, wrote_by, wrote, written_by, written, with_kept}
use Rattle.gp_ring.specs.kept.Slots.{IsRaised}
use Rattle.gp_ring.specs.kept.Views.{IsWithin, IsCounted, with_read, with_overflow, with_draft, with_delivered, with_exchange, with_owed, owed_of, with_paid, with_lost, with_since, with_raced}
use Rattle.gp_ring.specs.kept.Halves.{writer_end, IsAt, IsReady, IsLoaded, IsWriting, IsDeciding}
use Rattle.gp_ring.specs.declared.between.view.View.{View}
use Rattle.gp_ring.specs.declared.between.steps.Sizes.{Sizes}
use Rattle.gp_ring.specs.declared.between.writing.Pen.{Pen}
use Rattle.gp_ring.specs.declared.between.writing.Loaded.{Loaded}
use Rattle.gp_ring.specs.declared.wrote.Wrote.{Wrote}
use Rattle.gp_ring.specs.declared.wrote.Wrote.TheVariants.{Kept, Lost}
use Rattle.gp_ring.proofs.Heads.{most-append, words-append, fit-parts}
use Rattle.gp_ring.proofs.Spelled.{raise-le}
use Rattle.gp_ring.proofs.Following.{differ, fits_less, le_is}
use Rattle.gp_ring.proofs.CourseLaws.{loss-length}
use Rattle.gp_ring.proofs.Tracing.{behind-append}

three_each : (h : ℕ) (os : List Offer) → 3 * length os ≤ words_for_most h os
three_each h [] = omega arith
three_each h (o ∷ os) = let e = three_each h os in omega arith

le_true : (a b : ℕ) → nat_le a b ≡ true → a ≤ b
le_true a b h = grind (arith, nat_tests)

lt_none : (n : ℕ) → n ≡ 0 → nat_lt 0 n ≡ false
lt_none n e = grind (arith, nat_tests)

lt_some : (n : ℕ) → 0 < n → nat_lt 0 n ≡ true
lt_some n h = grind (arith, nat_tests)

equal : (a b : ℕ) → a ≡ b → (a == b) ≡ true
equal a b e = grind (arith, nat_tests)

differs : (a b : ℕ) → (a ≡ b → ⊥) → (a == b) ≡ false
differs a b e = grind (arith, nat_tests)

-- ---- places

if_lt : (a b x y : ℕ) → a < b → (if nat_lt a b then x else y) ≡ x
if_lt a b x y h = grind (arith, nat_tests)

if_ge : (a b x y : ℕ) → b ≤ a → (if nat_lt a b then x else y) ≡ y
if_ge a b x y h = grind (arith, nat_tests)

raise-least : (at len need : ℕ) → need ≤ raise_of at len need
raise-least at len need = omega arith

raise-most : (at len need : ℕ) → raise_of at len need ≤ (len - at) + need
raise-most at len need = elim (cases_lt len (at + need)) as (λ _. raise_of at len need ≤ (len - at) + need) [
  | inl h ↦ (let e = if_lt len (at + need) (len - at) 0 h in omega arith)
  | inr h ↦ (let e = if_ge len (at + need) (len - at) 0 h in omega arith)
]

-- where there is room for two records there is room for the second one alone
raise-both : (at len first need : ℕ) → at < len → need ≤ len → raise_of at len need ≤ raise_of at len first + raise_of (after_of at len first) len need
raise-both at len first need within fits =
    let least = raise-least (after_of at len first) len need in
    let most = raise-most at len need in
    elim (cases_lt len (at + first)) as (λ _. raise_of at len need ≤ raise_of at len first + raise_of (after_of at len first) len need) [
      | inl h ↦ (let e = if_lt len (at + first) (len - at) 0 h in omega arith)
      | inr h ↦ (let e = if_ge len (at + first) (len - at) 0 h in
          elim (cases_lt (at + first) len) as (λ _. raise_of at len need ≤ raise_of at len first + raise_of (after_of at len first) len need) [
            | inl g ↦ (let up : raise_of at len first ≡ first = omega (arith, e) in let place : after_of at len first ≡ at + first = ap (λ (k : ℕ). (at + k) % len) up ∙ mod-eq_of_lt g in
                elim (cases_lt len (at + need)) as (λ _. raise_of at len need ≤ raise_of at len first + raise_of (after_of at len first) len need) [
                  | inl k ↦ (
                      let a = if_lt len (at + need) (len - at) 0 k in
                      let over : len < after_of at len first + need = omega arith in
                      let b = if_lt len (after_of at len first + need) (len - after_of at len first) 0 over in
                      omega arith)
                  | inr k ↦ (let a = if_ge len (at + need) (len - at) 0 k in omega arith)
                ])
            | inr g ↦ omega arith
          ])
    ]

-- ---- what is left behind records

-- a record of an offer was written
pub delivered-ready : (v : View) (w since w2 len size : ℕ) (o : Offer) → len ≡ v.len → length (piece_for o).words ≡ size → IsRaised w w2 len size → IsReady v w since → IsReady (with_delivered (with_draft v o) o) w2 since
delivered-ready v w since w2 len size o l z up k =
    let count : behind_all v.len 0 (v.writer.records ++ o ∷ []) ≡ behind v.len (behind_all v.len 0 v.writer.records) o = behind-append v.len 0 v.writer.records (o ∷ []) in
    let tag_count : length (v.writer.records ++ o ∷ []) ≡ length v.writer.records + 1 = length-append v.writer.records (o ∷ []) in
    record {
      draft = refl;
      tag_draft = refl;
      next = (λ i. (k.next i + skip_of (k.next i % v.len) v.len (length (piece_for o).words)) + length (piece_for o).words)
          ∙ assoc (behind_all v.len 0 v.writer.records) (skip_of (behind_all v.len 0 v.writer.records % v.len) v.len (length (piece_for o).words)) (length (piece_for o).words)
          ∙ sym count;
      next_tag = ap (λ (n : ℕ). n + 1) k.next_tag ∙ sym tag_count;
      written_words = up.words ∙ (λ i. k.written_words i + raise_of (k.written_words i % l i) (l i) (sym z i)) ∙ sym count;
      written_tags = up.tags ∙ ap (λ (n : ℕ). n + 1) k.written_tags ∙ sym tag_count;
      none_owed = k.none_owed;
      is_open = k.is_open;
      since_is = k.since_is;
    }
  where
    assoc : (a b c : ℕ) → (a + b) + c ≡ a + (b + c)
    assoc a b c = omega arith

-- the record of the loss was written
pub paid-ready : (v : View) (w since w2 len size word found : ℕ) → len ≡ v.len → loss_size v.hdrsize ≡ size → IsRaised w w2 len size → IsReady v w since
    → IsReady (with_paid (with_draft (with_exchange (with_owed v word) found) (owed_of (with_exchange (with_owed v word) found)))) w2 since
paid-ready v w since w2 len size word found l z up k =
    let o = loss_offer v.hdrsize (count_of v.writer.present) v.writer.since in
    let sized : length (piece_for (loss_offer v.hdrsize (count_of v.writer.present) v.writer.since)).words ≡ size = loss-length v.hdrsize (count_of v.writer.present) v.writer.since ∙ z in
    let r = delivered-ready v w since w2 len size (loss_offer v.hdrsize (count_of v.writer.present) v.writer.since) l sized up k in
    record {
      draft = refl;
      tag_draft = refl;
      next = r.next;
      next_tag = r.next_tag;
      written_words = r.written_words;
      written_tags = r.written_tags;
      none_owed = refl;
      is_open = k.is_open;
      since_is = k.since_is;
    }

-- the loss was taken by the reader
pub raced-ready : (v : View) (w since found : ℕ) → IsReady v w since → IsReady (with_raced v found) w since
raced-ready v w since found k = record {
  draft = k.draft;
  tag_draft = k.tag_draft;
  next = k.next;
  next_tag = k.next_tag;
  written_words = k.written_words;
  written_tags = k.written_tags;
  none_owed = k.none_owed;
  is_open = k.is_open;
  since_is = k.since_is;
}

-- a loss was begun, or counts one offer more
pub begun-ready : (v : View) (w since now word : ℕ) (o : Offer) → IsReady v w since → IsReady (with_lost (with_since v now) o word) w now
begun-ready v w since now word o k = record {
  draft = k.draft;
  tag_draft = k.tag_draft;
  next = k.next;
  next_tag = k.next_tag;
  written_words = k.written_words;
  written_tags = k.written_tags;
  none_owed = k.none_owed;
  is_open = k.is_open;
  since_is = refl;
}

pub counted-ready : (v : View) (w since word found : ℕ) (o : Offer) → IsReady v w since → IsReady (with_exchange (with_lost v o word) found) w since
counted-ready v w since word found o k = record {
  draft = k.draft;
  tag_draft = k.tag_draft;
  next = k.next;
  next_tag = k.next_tag;
  written_words = k.written_words;
  written_tags = k.written_tags;
  none_owed = k.none_owed;
  is_open = k.is_open;
  since_is = k.since_is;
}

-- the seat goes on with another view of the same sizes
pub goes-writing : (table seat seat2 : TableId) (me me2 : Me Unit View) (v2 : View) (sizes : Sizes) (w since w2 since2 : ℕ) (zeros : List ℕ)
    → IsWriting table seat me sizes w since zeros → seat2 ≡ seat → me2 ≡ (v2, me.1) → me.0.hdrsize ≡ v2.hdrsize → me.0.len ≡ v2.len → me.0.tags ≡ v2.tags → me.0.writes ≡ v2.writes → IsReady v2 w2 since2
    → IsWriting table seat2 me2 sizes w2 since2 zeros
goes-writing table seat seat2 me me2 v2 sizes w since w2 since2 zeros k s e h l t wr ready =
    subst (λ (x : TableId × Me Unit View). IsWriting table x.0 x.1 sizes w2 since2 zeros) (λ i. (sym s i, sym e i)) (record {
      seated = subst (λ (x : ℕ × ℕ × ℕ). IsAt table seat x.0 x.1 x.2 sizes) (λ i. (h i, l i, t i)) k.seated;
      writes = sym wr ∙ k.writes;
      alone = k.alone;
      ready = ready;
      header_zeros = k.header_zeros ∙ ap (λ (n : ℕ). replicate n 0) h;
    })

-- ---- what a write answers and leaves

module _ (W : WriterEnd) (o : Offer) (f : ℕ) where
  pub wrote-next : (r : Bool) → is_pending W ≡ false → has_room W o ≡ r → wrote (tried W f) o ≡ wrote_by r false (has_won W) W
  wrote-next r p q = (λ i. wrote (tried_by (p i) W f) o) ∙ (λ i. wrote_by (q i) (p i) (has_won W) W)

  pub written-next : (r : Bool) → is_pending W ≡ false → has_room W o ≡ r → written (tried W f) o ≡ written_by r false (has_won W) W o
  written-next r p q = (λ i. written (tried_by (p i) W f) o) ∙ (λ i. written_by (q i) (p i) (has_won W) W o)

  room-tried : is_pending W ≡ true → has_room (tried_by true W f) o ≡ has_room W o
  room-tried p = (λ i. room_by (p i) (tried_by true W f) o) ∙ (λ i. room_by (sym p i) W o)

  pub wrote-behind : (r won : Bool) → is_pending W ≡ true → has_room W o ≡ r → (f == W.overflow) ≡ won → wrote (tried W f) o ≡ wrote_by r true won (tried_by true W f)
  wrote-behind r won p q e = (λ i. wrote (tried_by (p i) W f) o) ∙ (λ i. wrote_by ((room-tried p ∙ q) i) (p i) (e i) (tried_by true W f))

  pub written-behind : (r won : Bool) → is_pending W ≡ true → has_room W o ≡ r → (f == W.overflow) ≡ won → written (tried W f) o ≡ written_by r true won (tried_by true W f) o
  written-behind r won p q e = (λ i. written (tried_by (p i) W f) o) ∙ (λ i. written_by ((room-tried p ∙ q) i) (p i) (e i) (tried_by true W f) o)

-- ---- what deciding needs

module _ (table seat : TableId) (me : Me Unit View) (sizes : Sizes) (pen : Pen) (loaded : Loaded) (zeros : List ℕ) (tag now : ℕ) (header stack : List ℕ)
    (d : IsDeciding table seat me sizes pen loaded zeros (offer_of tag now header stack)) where
  bounded : IsBounded me.0.hdrsize me.0.writer.offers (behind_all me.0.len 0 me.0.writer.records) (length me.0.writer.records) (count_of loaded.overflow) me.0.writer.owed (change_of loaded.overflow)
  bounded = d.words_loaded.counted.bounded

  header_is : length header ≡ me.0.hdrsize
  header_is = d.may.offer_fits.header_size

  most : words_for_most me.0.hdrsize me.0.writer.offers + size_of (length header) (length stack) ≤ words_for_most me.0.hdrsize (me.0.writer.offers ++ offer_of tag now header stack ∷ [])
  most = let e = most-append me.0.hdrsize me.0.writer.offers (offer_of tag now header stack) in let h = header_is in omega arith

  most_fits : 2 * words_for_most me.0.hdrsize (me.0.writer.offers ++ offer_of tag now header stack ∷ []) < 2 ^ 32
  most_fits = d.may.words

  pub offer-size : length (piece_for (offer_of tag now header stack)).words ≡ size_of (length header) (length stack)
  offer-size = let l = length-append header stack in omega arith

  pub need-small : size_of (length header) (length stack) < 2 ^ 31
  need-small = let a = most in let b = most_fits in omega arith

  pub need-fits : size_of (length header) (length stack) ≤ sizes.len
  need-fits = let h = header_is in let a : 2 * size_of me.0.hdrsize (length stack) ≤ me.0.len = d.may.offer_fits.half in let l = d.writing.seated.len_is in omega arith

  pub words-fit : words_of pen.w + 2 * size_of (length header) (length stack) < 2 ^ 32
  words-fit = let a = most in let b = most_fits in let c = d.writing.ready.written_words in let k = bounded.words_most in omega arith

  pub tags-fit : tags_of pen.w + 2 < 2 ^ 30
  tags-fit =
      let b = most_fits in
      let c = d.writing.ready.written_tags in
      let k = bounded.records_most in
      let e = three_each me.0.hdrsize (me.0.writer.offers ++ offer_of tag now header stack ∷ []) in
      let n = length-append me.0.writer.offers (offer_of tag now header stack ∷ []) in
      omega arith

  pub both-fit : 0 < count_of loaded.overflow → words_of pen.w + 2 * loss_size me.0.hdrsize + 2 * size_of (length header) (length stack) < 2 ^ 32
  both-fit p = let a = most in let b = most_fits in let c = d.writing.ready.written_words in let k = bounded.words_pending (omega arith) in omega arith

  pub change-fits : change_of loaded.overflow + 2 < 2 ^ 32
  change-fits = let k = bounded.change_most in let f : length me.0.writer.offers < 2 ^ 30 = d.may.few in omega arith

  pub count-fits : count_of loaded.overflow < 2 ^ 32 - 1
  count-fits = let k = bounded.records_most in let f : length me.0.writer.offers < 2 ^ 30 = d.may.few in omega arith

  -- ---- room

  within-own : IsWithin sizes.len sizes.tags loaded.r (words_of pen.w) (tags_of pen.w)
  within-own =
      let s = d.writing.seated in
      let k = d.writing.ready in
      subst (λ (x : ℕ × ℕ × ℕ × ℕ). IsWithin x.0 x.1 loaded.r x.2 x.3) (λ i. (sym s.len_is i, sym s.tags_is i, sym k.written_words i, sym k.written_tags i)) d.words_loaded.within

  pub within-is : IsWithin sizes.len sizes.tags loaded.r (words_of pen.w) (tags_of pen.w)
  within-is = within-own

  pub none-pending : count_of loaded.overflow ≡ 0 → is_pending (writer_end table me.0) ≡ false
  none-pending z = lt_none (count_of me.0.writer.overflow) (ap count_of d.words_loaded.overflow_is ∙ z)

  pub some-pending : 0 < count_of loaded.overflow → is_pending (writer_end table me.0) ≡ true
  some-pending p = lt_some (count_of me.0.writer.overflow) (subst (λ (k : ℕ). 0 < count_of k) (sym d.words_loaded.overflow_is) p)

  -- by the words as they are kept
  pub room-one : count_of loaded.overflow ≡ 0 → has_room (writer_end table me.0) (offer_of tag now header stack)
      ≡ room_for_one sizes.len sizes.tags (words_of pen.w - words_of loaded.r) (tags_of pen.w - tags_of loaded.r) (words_of pen.w % sizes.len) (size_of (length header) (length stack))
  room-one z =
      let s = d.writing.seated in
      let k = d.writing.ready in
      let r = d.words_loaded.read in
      let h = sym header_is in
      (λ i. room_by (none-pending z i) (writer_end table me.0) (offer_of tag now header stack))
      ∙ (λ i. room_for_one (sym s.len_is i) (sym s.tags_is i) (sym k.written_words i - words_of (r i)) (sym k.written_tags i - tags_of (r i)) (sym k.written_words i % sym s.len_is i) (size_of (h i) (length stack)))

  pub room-two : 0 < count_of loaded.overflow → has_room (writer_end table me.0) (offer_of tag now header stack)
      ≡ room_for_two sizes.len sizes.tags (words_of pen.w - words_of loaded.r) (tags_of pen.w - tags_of loaded.r) (words_of pen.w % sizes.len) (loss_size sizes.hdrsize) (size_of (length header) (length stack))
  room-two p =
      let s = d.writing.seated in
      let k = d.writing.ready in
      let r = d.words_loaded.read in
      let h = sym header_is in
      (λ i. room_by (some-pending p i) (writer_end table me.0) (offer_of tag now header stack))
      ∙ (λ i. room_for_two (sym s.len_is i) (sym s.tags_is i) (sym k.written_words i - words_of (r i)) (sym k.written_tags i - tags_of (r i)) (sym k.written_words i % sym s.len_is i)
      (loss_size (sym s.hdrsize_is i)) (size_of (h i) (length stack)))

  pub free-one : room_for_one sizes.len sizes.tags (words_of pen.w - words_of loaded.r) (tags_of pen.w - tags_of loaded.r) (words_of pen.w % sizes.len) (size_of (length header) (length stack)) ≡ true
      → (words_of pen.w + raise_of (words_of pen.w % sizes.len) sizes.len (size_of (length header) (length stack)) ≤ words_of loaded.r + sizes.len) × (tags_of pen.w < tags_of loaded.r + sizes.tags)
  free-one b =
      let in_ring = within-own in
      let p = and_parts (nat_le ((tags_of pen.w - tags_of loaded.r) + 1) sizes.tags) (nat_le ((words_of pen.w - words_of loaded.r) + raise_of (words_of pen.w % sizes.len) sizes.len (size_of (length header) (length stack))) sizes.len) b in
      let q : (tags_of pen.w - tags_of loaded.r) + 1 ≤ sizes.tags = le_true _ _ p.0 in
      let s : (words_of pen.w - words_of loaded.r) + raise_of (words_of pen.w % sizes.len) sizes.len (size_of (length header) (length stack)) ≤ sizes.len = le_true _ _ p.1 in
      let x = in_ring.words_before in
      let y = in_ring.tags_before in
      (omega arith, omega arith)

  two-parts : room_for_two sizes.len sizes.tags (words_of pen.w - words_of loaded.r) (tags_of pen.w - tags_of loaded.r) (words_of pen.w % sizes.len) (loss_size sizes.hdrsize) (size_of (length header) (length stack)) ≡ true
      → (words_of pen.w + raise_of (words_of pen.w % sizes.len) sizes.len (loss_size sizes.hdrsize) + raise_of (after_of (words_of pen.w % sizes.len) sizes.len (loss_size sizes.hdrsize)) sizes.len (size_of (length header) (length stack)) ≤ words_of loaded.r + sizes.len)
      × (tags_of pen.w + 1 < tags_of loaded.r + sizes.tags)
  two-parts b =
      let in_ring = within-own in
      let p = and_parts (nat_le ((tags_of pen.w - tags_of loaded.r) + 2) sizes.tags)
      (nat_le ((words_of pen.w - words_of loaded.r) + raise_of (words_of pen.w % sizes.len) sizes.len (loss_size sizes.hdrsize) + raise_of (after_of (words_of pen.w % sizes.len) sizes.len (loss_size sizes.hdrsize)) sizes.len (size_of (length header) (length stack))) sizes.len) b in
      let q : (tags_of pen.w - tags_of loaded.r) + 2 ≤ sizes.tags = le_true _ _ p.0 in
      let s : (words_of pen.w - words_of loaded.r) + raise_of (words_of pen.w % sizes.len) sizes.len (loss_size sizes.hdrsize) + raise_of (after_of (words_of pen.w % sizes.len) sizes.len (loss_size sizes.hdrsize)) sizes.len (size_of (length header) (length stack)) ≤ sizes.len = le_true _ _ p.1 in
      let x = in_ring.words_before in
      let y = in_ring.tags_before in
      (omega arith, omega arith)

  -- room for the loss, for the offer behind it, and for the offer alone
  pub record HasBoth : Type 0 where
    pub loss : words_of pen.w + raise_of (words_of pen.w % sizes.len) sizes.len (loss_size me.0.hdrsize) ≤ words_of loaded.r + sizes.len
    pub behind_loss : (w2 : ℕ) → words_of w2 ≡ words_of pen.w + raise_of (words_of pen.w % sizes.len) sizes.len (loss_size me.0.hdrsize) → words_of w2 + raise_of (words_of w2 % sizes.len) sizes.len (size_of (length header) (length stack)) ≤ words_of loaded.r + sizes.len
    pub alone : words_of pen.w + raise_of (words_of pen.w % sizes.len) sizes.len (size_of (length header) (length stack)) ≤ words_of loaded.r + sizes.len
    pub two_tags : tags_of pen.w + 1 < tags_of loaded.r + sizes.tags

  pub has-both : 0 < count_of loaded.overflow → has_room (writer_end table me.0) (offer_of tag now header stack) ≡ true → HasBoth
  has-both p b =
      let some : 0 < sizes.len = (let a = d.writing.seated.words_least in let l = d.writing.seated.len_is in omega arith) in
      let t = two-parts (sym (room-two p) ∙ b) in
      let h = d.writing.seated.hdrsize_is in
      let t' = subst (λ (n : ℕ). words_of pen.w + raise_of (words_of pen.w % sizes.len) sizes.len (loss_size n) + raise_of (after_of (words_of pen.w % sizes.len) sizes.len (loss_size n)) sizes.len (size_of (length header) (length stack)) ≤ words_of loaded.r + sizes.len) h t.0 in
      let at = mod-lt (words_of pen.w) some in
      let n = need-fits in
      let one = raise-both (words_of pen.w % sizes.len) sizes.len (loss_size me.0.hdrsize) (size_of (length header) (length stack)) at n in
      record {
        loss = omega arith;
        behind_loss = λ w2 e.
            let place : words_of w2 % sizes.len ≡ after_of (words_of pen.w % sizes.len) sizes.len (loss_size me.0.hdrsize) =
            ap (λ (k : ℕ). k % sizes.len) e ∙ sym (mod-add-mod (words_of pen.w) sizes.len (raise_of (words_of pen.w % sizes.len) sizes.len (loss_size me.0.hdrsize))) in
            subst (λ (x : ℕ × ℕ). x.0 + raise_of x.1 sizes.len (size_of (length header) (length stack)) ≤ words_of loaded.r + sizes.len) (λ i. (sym e i, sym place i)) t';
        alone = omega arith;
        two_tags = t.1;
      }

  -- without room not all offers fit twice over
  pub full-one : count_of loaded.overflow ≡ 0 → has_room (writer_end table me.0) (offer_of tag now header stack) ≡ false → fit_twice me.0.hdrsize me.0.len me.0.tags (me.0.writer.offers ++ offer_of tag now header stack ∷ []) ≡ false
  full-one z b = elim (fit_twice me.0.hdrsize me.0.len me.0.tags (me.0.writer.offers ++ offer_of tag now header stack ∷ [])) as
      (λ (x : Bool). fit_twice me.0.hdrsize me.0.len me.0.tags (me.0.writer.offers ++ offer_of tag now header stack ∷ []) ≡ x → x ≡ false) [
        | false ↦ λ _. refl
        | true ↦ λ e.
            let before = fits_less me.0.hdrsize me.0.len me.0.tags me.0.writer.offers (offer_of tag now header stack) e in
            let words : behind_all me.0.len 0 me.0.writer.records ≤ 2 * words_for_all me.0.hdrsize me.0.writer.offers = (d.words_loaded.counted.fits before).1 in
            let p = fit-parts me.0.hdrsize me.0.len me.0.tags (me.0.writer.offers ++ offer_of tag now header stack ∷ []) e in
            let n = length-append me.0.writer.offers (offer_of tag now header stack ∷ []) in
            let w = words-append me.0.hdrsize me.0.writer.offers (offer_of tag now header stack) in
            let k = bounded.records_most in
            let up = raise-le (behind_all me.0.len 0 me.0.writer.records % me.0.len) me.0.len (words_for me.0.hdrsize (offer_of tag now header stack)) in
            let room : room_for_one me.0.len me.0.tags (behind_all me.0.len 0 me.0.writer.records - words_of me.0.writer.read) (length me.0.writer.records - tags_of me.0.writer.read) (behind_all me.0.len 0 me.0.writer.records % me.0.len) (words_for me.0.hdrsize (offer_of tag now header stack)) ≡ true =
            and_from (nat_le ((length me.0.writer.records - tags_of me.0.writer.read) + 1) me.0.tags)
            (nat_le ((behind_all me.0.len 0 me.0.writer.records - words_of me.0.writer.read) + raise_of (behind_all me.0.len 0 me.0.writer.records % me.0.len) me.0.len (words_for me.0.hdrsize (offer_of tag now header stack))) me.0.len)
            (le_is ((length me.0.writer.records - tags_of me.0.writer.read) + 1) me.0.tags (omega arith))
            (le_is ((behind_all me.0.len 0 me.0.writer.records - words_of me.0.writer.read) + raise_of (behind_all me.0.len 0 me.0.writer.records % me.0.len) me.0.len (words_for me.0.hdrsize (offer_of tag now header stack))) me.0.len (omega arith)) in
            absurd (differ (sym b ∙ (λ i. room_by (none-pending z i) (writer_end table me.0) (offer_of tag now header stack)) ∙ room))
      ] refl

  pub full-some : 0 < count_of loaded.overflow → fit_twice me.0.hdrsize me.0.len me.0.tags (me.0.writer.offers ++ offer_of tag now header stack ∷ []) ≡ false
  full-some p = elim (fit_twice me.0.hdrsize me.0.len me.0.tags (me.0.writer.offers ++ offer_of tag now header stack ∷ [])) as
      (λ (x : Bool). fit_twice me.0.hdrsize me.0.len me.0.tags (me.0.writer.offers ++ offer_of tag now header stack ∷ []) ≡ x → x ≡ false) [
        | false ↦ λ _. refl
        | true ↦ λ e.
            let z : count_of loaded.overflow ≡ 0 = (d.words_loaded.counted.fits (fits_less me.0.hdrsize me.0.len me.0.tags me.0.writer.offers (offer_of tag now header stack) e)).0 in
            absurd (omega arith)
      ] refl

-- ---- what was loaded

read_by : (r p w : Bool) (X : WriterEnd) (o : Offer) → (written_by r p w X o).read ≡ X.read
read_by true true true X o = refl
read_by true true false X o = refl
read_by true false w X o = refl
read_by false true true X o = refl
read_by false true false X o = refl
read_by false false w X o = refl

overflow_by : (r p w : Bool) (X : WriterEnd) (o : Offer) → (written_by r p w X o).overflow ≡ X.overflow
overflow_by true true true X o = refl
overflow_by true true false X o = refl
overflow_by true false w X o = refl
overflow_by false true true X o = refl
overflow_by false true false X o = refl
overflow_by false false w X o = refl

read_tried : (b : Bool) (W : WriterEnd) (f : ℕ) → (tried_by b W f).read ≡ W.read
read_tried false W f = refl
read_tried true W f = refl

overflow_tried : (b : Bool) (W : WriterEnd) (f : ℕ) → (tried_by b W f).overflow ≡ W.overflow
overflow_tried false W f = refl
overflow_tried true W f = refl

offers_by : (r p w : Bool) (X : WriterEnd) (o : Offer) → (written_by r p w X o).offers ≡ X.offers ++ o ∷ []
offers_by true true true X o = refl
offers_by true true false X o = refl
offers_by true false w X o = refl
offers_by false true true X o = refl
offers_by false true false X o = refl
offers_by false false w X o = refl

ring_by : (r p w : Bool) (X : WriterEnd) (o : Offer) → (written_by r p w X o).ring ≡ X.ring
ring_by true true true X o = refl
ring_by true true false X o = refl
ring_by true false w X o = refl
ring_by false true true X o = refl
ring_by false true false X o = refl
ring_by false false w X o = refl

offers_tried : (b : Bool) (W : WriterEnd) (f : ℕ) → (tried_by b W f).offers ≡ W.offers
offers_tried false W f = refl
offers_tried true W f = refl

ring_tried : (b : Bool) (W : WriterEnd) (f : ℕ) → (tried_by b W f).ring ≡ W.ring
ring_tried false W f = refl
ring_tried true W f = refl

module _ (old new : WriterEnd) (o : Offer) (read overflow : ℕ) (after : new ≡ written (tried (with_loads old read overflow) new.found) o) where
  loads_are : with_loads old read overflow ≡ with_loads old new.read new.overflow
  loads_are =
      let W = with_loads old read overflow in
      let X = tried (with_loads old read overflow) new.found in
      let r : new.read ≡ read = ap (λ (x : WriterEnd). x.read) after ∙ read_by (has_room X o) (is_pending X) (has_won X) X o ∙ read_tried (is_pending W) W new.found in
      let f : new.overflow ≡ overflow = ap (λ (x : WriterEnd). x.overflow) after ∙ overflow_by (has_room X o) (is_pending X) (has_won X) X o ∙ overflow_tried (is_pending W) W new.found in
      (λ i. with_loads old (sym r i) (sym f i))

  pub write-offers : new.offers ≡ old.offers ++ o ∷ []
  write-offers =
      let W = with_loads old read overflow in
      let X = tried (with_loads old read overflow) new.found in
      ap (λ (x : WriterEnd). x.offers) after ∙ offers_by (has_room X o) (is_pending X) (has_won X) X o ∙ ap (λ (os : List Offer). os ++ o ∷ []) (offers_tried (is_pending W) W new.found)

  pub write-ring : new.ring ≡ old.ring
  write-ring =
      let W = with_loads old read overflow in
      let X = tried (with_loads old read overflow) new.found in
      ap (λ (x : WriterEnd). x.ring) after ∙ ring_by (has_room X o) (is_pending X) (has_won X) X o ∙ ring_tried (is_pending W) W new.found

  pub write-after : new ≡ written (with_found old new) o
  write-after = after ∙ ap (λ (W : WriterEnd). written (tried W new.found) o) loads_are

  pub write-answer : (answer : Wrote) → answer ≡ wrote (tried (with_loads old read overflow) new.found) o → answer ≡ wrote (with_found old new) o
  write-answer answer e = e ∙ ap (λ (W : WriterEnd). wrote (tried W new.found) o) loads_are

-- an offer may be made, once `r` and overflow were loaded
pub deciding : (table seat seat2 : TableId) (me me1 me2 : Me Unit View) (sizes : Sizes) (pen : Pen) (overflow r : ℕ) (zeros : List ℕ) (o : Offer) → IsWriting table seat me sizes pen.w pen.since zeros
    → MayWrite (writer_end table me.0) o → seat2 ≡ seat → me1 ≡ (with_overflow me.0 overflow, me.1) → IsCounted me.0 overflow → me2 ≡ (with_read me1.0 r, me1.1)
    → IsWithin me1.0.len me1.0.tags r (behind_all me1.0.len 0 me1.0.writer.records) (length me1.0.writer.records)
    → IsDeciding table seat2 me2 sizes pen (record { r = r; overflow = overflow }) zeros o
deciding table seat seat2 me me1 me2 sizes pen overflow r zeros o k m s e1 counted e2 within =
    let e : me2 ≡ (with_read (with_overflow me.0 overflow) r, me.1) = e2 ∙ (λ i. (with_read (e1 i).0 r, (e1 i).1)) in
    let within' : IsWithin me.0.len me.0.tags r (behind_all me.0.len 0 me.0.writer.records) (length me.0.writer.records) =
    subst (λ (x : Me Unit View). IsWithin x.0.len x.0.tags r (behind_all x.0.len 0 x.0.writer.records) (length x.0.writer.records)) e1 within in
    let q = k.ready in
    let ready : IsReady (with_read (with_overflow me.0 overflow) r) pen.w pen.since = record {
      draft = q.draft;
      tag_draft = q.tag_draft;
      next = q.next;
      next_tag = q.next_tag;
      written_words = q.written_words;
      written_tags = q.written_tags;
      none_owed = q.none_owed;
      is_open = q.is_open;
      since_is = q.since_is;
    } in
    record {
      writing = goes-writing table seat seat2 me me2 (with_read (with_overflow me.0 overflow) r) sizes pen.w pen.since pen.w pen.since zeros k s e refl refl refl refl ready;
      words_loaded = subst (λ (x : Me Unit View). IsLoaded x.0 r overflow) (sym e) (record {
        read = refl;
        overflow_is = refl;
        present = refl;
        within = within';
        counted = record { bounded = counted.bounded; fits = counted.fits };
      });
      may = subst (λ (x : Me Unit View). MayWrite (writer_end table x.0) o) (sym e) (record { offer_fits = m.offer_fits; few = m.few; words = m.words });
    }

-- ---- what comes of an offer

module _ (table seat : TableId) (me : Me Unit View) (sizes : Sizes) (pen : Pen) (loaded : Loaded) (zeros : List ℕ) (tag now : ℕ) (header stack : List ℕ)
    (d : IsDeciding table seat me sizes pen loaded zeros (offer_of tag now header stack)) (f : ℕ) where
  lost_is : Lost me.0.writer.read me.0.writer.overflow ≡ Lost loaded.r loaded.overflow
  lost_is = λ i. Lost (d.words_loaded.read i) (d.words_loaded.overflow_is i)

  pub next-lost-answer : count_of loaded.overflow ≡ 0 → has_room (writer_end table me.0) (offer_of tag now header stack) ≡ false → Lost loaded.r loaded.overflow ≡ wrote (tried (writer_end table me.0) f) (offer_of tag now header stack)
  next-lost-answer z b = sym (wrote-next (writer_end table me.0) (offer_of tag now header stack) f false (none-pending table seat me sizes pen loaded zeros tag now header stack d z) b ∙ lost_is)

  pub next-lost-after : (me2 : Me Unit View) (word : ℕ) → count_of loaded.overflow ≡ 0 → has_room (writer_end table me.0) (offer_of tag now header stack) ≡ false → me2 ≡ (with_lost (with_since me.0 now) (offer_of tag now header stack) word, me.1)
      → writer_end table me2.0 ≡ written (tried (writer_end table me.0) f) (offer_of tag now header stack)
  next-lost-after me2 word z b e = (λ i. writer_end table (e i).0) ∙ sym (written-next (writer_end table me.0) (offer_of tag now header stack) f false (none-pending table seat me sizes pen loaded zeros tag now header stack d z) b)

  pub next-kept-answer : count_of loaded.overflow ≡ 0 → has_room (writer_end table me.0) (offer_of tag now header stack) ≡ true → Kept 0 ≡ wrote (tried (writer_end table me.0) f) (offer_of tag now header stack)
  next-kept-answer z b = sym (wrote-next (writer_end table me.0) (offer_of tag now header stack) f true (none-pending table seat me sizes pen loaded zeros tag now header stack d z) b)

  pub next-kept-after : (me2 : Me Unit View) → count_of loaded.overflow ≡ 0 → has_room (writer_end table me.0) (offer_of tag now header stack) ≡ true → me2 ≡ (with_delivered (with_draft me.0 (offer_of tag now header stack)) (offer_of tag now header stack), me.1)
      → writer_end table me2.0 ≡ written (tried (writer_end table me.0) f) (offer_of tag now header stack)
  next-kept-after me2 z b e = (λ i. writer_end table (e i).0) ∙ sym (written-next (writer_end table me.0) (offer_of tag now header stack) f true (none-pending table seat me sizes pen loaded zeros tag now header stack d z) b)

  won_is : f ≡ loaded.overflow → (f == me.0.writer.overflow) ≡ true
  won_is e = equal f me.0.writer.overflow (e ∙ sym d.words_loaded.overflow_is)

  raced_is : (f ≡ loaded.overflow → ⊥) → (f == me.0.writer.overflow) ≡ false
  raced_is n = differs f me.0.writer.overflow (λ e. n (e ∙ d.words_loaded.overflow_is))

  pub raced-kept-answer : 0 < count_of loaded.overflow → has_room (writer_end table me.0) (offer_of tag now header stack) ≡ true → (f ≡ loaded.overflow → ⊥) → Kept 0 ≡ wrote (tried (writer_end table me.0) f) (offer_of tag now header stack)
  raced-kept-answer p b n = sym (wrote-behind (writer_end table me.0) (offer_of tag now header stack) f true false (some-pending table seat me sizes pen loaded zeros tag now header stack d p) b (raced_is n))

  pub raced-kept-after : (me2 : Me Unit View) → 0 < count_of loaded.overflow → has_room (writer_end table me.0) (offer_of tag now header stack) ≡ true → (f ≡ loaded.overflow → ⊥)
      → me2 ≡ (with_delivered (with_draft (with_raced me.0 f) (offer_of tag now header stack)) (offer_of tag now header stack), me.1) → writer_end table me2.0 ≡ written (tried (writer_end table me.0) f) (offer_of tag now header stack)
  raced-kept-after me2 p b n e = (λ i. writer_end table (e i).0) ∙ sym (written-behind (writer_end table me.0) (offer_of tag now header stack) f true false (some-pending table seat me sizes pen loaded zeros tag now header stack d p) b (raced_is n))

  pub both-kept-answer : 0 < count_of loaded.overflow → has_room (writer_end table me.0) (offer_of tag now header stack) ≡ true → f ≡ loaded.overflow → Kept (count_of loaded.overflow) ≡ wrote (tried (writer_end table me.0) f) (offer_of tag now header stack)
  both-kept-answer p b e = sym (wrote-behind (writer_end table me.0) (offer_of tag now header stack) f true true (some-pending table seat me sizes pen loaded zeros tag now header stack d p) b (won_is e) ∙ (λ i. Kept (count_of (d.words_loaded.overflow_is i))))

  pub both-kept-after : (me2 : Me Unit View) (word : ℕ) → 0 < count_of loaded.overflow → has_room (writer_end table me.0) (offer_of tag now header stack) ≡ true → f ≡ loaded.overflow
      → me2 ≡ (with_delivered (with_draft (with_paid (with_draft (with_exchange (with_owed me.0 word) f) (owed_of (with_exchange (with_owed me.0 word) f)))) (offer_of tag now header stack)) (offer_of tag now header stack), me.1)
      → writer_end table me2.0 ≡ written (tried (writer_end table me.0) f) (offer_of tag now header stack)
  both-kept-after me2 word p b e q =
      let present : me.0.writer.present ≡ me.0.writer.overflow = d.words_loaded.present ∙ sym d.words_loaded.overflow_is in
      let records : (me.0.writer.records ++ loss_offer me.0.hdrsize (count_of me.0.writer.present) me.0.writer.since ∷ []) ++ offer_of tag now header stack ∷ [] ≡ me.0.writer.records ++ (loss_offer me.0.hdrsize (count_of me.0.writer.overflow) me.0.writer.since ∷ offer_of tag now header stack ∷ []) =
      append_assoc me.0.writer.records (loss_offer me.0.hdrsize (count_of me.0.writer.present) me.0.writer.since ∷ []) (offer_of tag now header stack ∷ [])
      ∙ (λ i. me.0.writer.records ++ (loss_offer me.0.hdrsize (count_of (present i)) me.0.writer.since ∷ offer_of tag now header stack ∷ [])) in
      (λ i. writer_end table (q i).0)
      ∙ (λ i. record (with_kept (tried_by true (writer_end table me.0) f) (offer_of tag now header stack) []) { records = records i })
      ∙ sym (written-behind (writer_end table me.0) (offer_of tag now header stack) f true true (some-pending table seat me sizes pen loaded zeros tag now header stack d p) b (won_is e))

  pub counted-answer : 0 < count_of loaded.overflow → has_room (writer_end table me.0) (offer_of tag now header stack) ≡ false → f ≡ loaded.overflow → Lost loaded.r loaded.overflow ≡ wrote (tried (writer_end table me.0) f) (offer_of tag now header stack)
  counted-answer p b e = sym (wrote-behind (writer_end table me.0) (offer_of tag now header stack) f false true (some-pending table seat me sizes pen loaded zeros tag now header stack d p) b (won_is e) ∙ lost_is)

  pub counted-after : (me2 : Me Unit View) (word : ℕ) → 0 < count_of loaded.overflow → has_room (writer_end table me.0) (offer_of tag now header stack) ≡ false → f ≡ loaded.overflow
      → me2 ≡ (with_exchange (with_lost me.0 (offer_of tag now header stack) word) f, me.1) → writer_end table me2.0 ≡ written (tried (writer_end table me.0) f) (offer_of tag now header stack)
  counted-after me2 word p b e q = (λ i. writer_end table (q i).0) ∙ sym (written-behind (writer_end table me.0) (offer_of tag now header stack) f false true (some-pending table seat me sizes pen loaded zeros tag now header stack d p) b (won_is e))

  pub begun-answer : 0 < count_of loaded.overflow → has_room (writer_end table me.0) (offer_of tag now header stack) ≡ false → (f ≡ loaded.overflow → ⊥) → Lost loaded.r loaded.overflow ≡ wrote (tried (writer_end table me.0) f) (offer_of tag now header stack)
  begun-answer p b n = sym (wrote-behind (writer_end table me.0) (offer_of tag now header stack) f false false (some-pending table seat me sizes pen loaded zeros tag now header stack d p) b (raced_is n) ∙ lost_is)

  pub begun-after : (me2 : Me Unit View) (word : ℕ) → 0 < count_of loaded.overflow → has_room (writer_end table me.0) (offer_of tag now header stack) ≡ false → (f ≡ loaded.overflow → ⊥)
      → me2 ≡ (with_lost (with_since (with_raced me.0 f) now) (offer_of tag now header stack) word, me.1) → writer_end table me2.0 ≡ written (tried (writer_end table me.0) f) (offer_of tag now header stack)
  begun-after me2 word p b n q = (λ i. writer_end table (q i).0) ∙ sym (written-behind (writer_end table me.0) (offer_of tag now header stack) f false false (some-pending table seat me sizes pen loaded zeros tag now header stack d p) b (raced_is n))
