-- What holds of the fields holds after an emission, and the unread records have one more.
use Rattle.std.proofs.Common.{◌≡◌, ℕ, ◌+◌, ◌-◌, ◌%◌, ◌<◌, ◌≤◌, List, [], ◌∷◌, ◌++◌, length, get_or, refl, ap, sym, subst, ◌∙◌, arith, length-append, length-set}
use Rattle.std.specs.Prelude.{slice_set}
use Rattle.std.proofs.Math.Nat.{mod-lt}
use Rattle.std.proofs.lemmas.List.{get_or-set_same}
use Rattle.gp_layout.specs.Words.{words_of, tags_of}
use Rattle.gp_layout.specs.Place.{raise_of, skip_of}
use Rattle.gp_layout.specs.Spelling.{size_of, spelled}
use Rattle.gp_ring.specs.kept.Slots.{put_at, records_at, tags_at, pieces_of, Lie, IsRaised, word_at}
use Rattle.gp_ring.specs.kept.Fields.{unread_in, IsSpelled}
use Rattle.gp_ring.proofs.Lying.{Agree, lie-order, lie-same, records-same, lie-append, records-append, tags-same, tags-append, length-records, length-tags, pieces-append}
use Rattle.gp_ring.proofs.Emission.{length-after, agrees, lies, record_there, tag-agrees}

refl_le : (n : ℕ) → n ≤ n
refl_le n = omega arith

module _ (h : ℕ) (slots tags : List ℕ) (r w next tag time : ℕ) (header stack : List ℕ) (some : 0 < length slots) (tags_some : 0 < length tags) (header_size : length header ≡ h)
    (k : IsSpelled h slots tags r w) (up : IsRaised w next (length slots) (size_of (length header) (length stack)))
    (free : tags_of w < tags_of r + length tags) (room : words_of w + raise_of (words_of w % length slots) (length slots) (size_of (length header) (length stack)) ≤ words_of r + length slots) where
  order : words_of r ≤ words_of w
  order = lie-order slots (length slots) h (tags_of w - tags_of r) (words_of r) (words_of w) k.lie

  size : length (spelled time header stack) ≡ size_of (length header) (length stack)
  size = (let a = length-append header stack in omega arith)

  ws_some : 0 < length (spelled time header stack)
  ws_some = (let s = size in omega arith)

  raise_is : raise_of (words_of w % length slots) (length slots) (size_of (length header) (length stack)) ≡ skip_of (words_of w % length slots) (length slots) (length (spelled time header stack)) + length (spelled time header stack)
  raise_is = ap (λ (n : ℕ). skip_of (words_of w % length slots) (length slots) n + n) (sym size)

  fits : skip_of (words_of w % length slots) (length slots) (length (spelled time header stack)) + length (spelled time header stack) ≤ length slots
  fits = (let o = order in let e = raise_is in omega (arith, room))

  near : (lo : ℕ) → words_of r ≤ lo → words_of w + skip_of (words_of w % length slots) (length slots) (length (spelled time header stack)) + length (spelled time header stack) ≤ lo + length slots
  near lo a = (let e = raise_is in omega (arith, room))

  first : get_or (spelled time header stack) 0 0 ≡ length (spelled time header stack)
  first = sym size

  pub length-slots : length (put_at (length slots) (words_of w % length slots) (spelled time header stack) slots) ≡ length slots
  length-slots = length-after slots (length slots) (words_of w) (spelled time header stack) some refl first ws_some fits

  agree : Agree slots (put_at (length slots) (words_of w % length slots) (spelled time header stack) slots) (length slots) (words_of r) (words_of w)
  agree = agrees slots (length slots) (words_of w) (spelled time header stack) some refl first ws_some fits (words_of r) (near (words_of r) (refl_le (words_of r)))

  tag_agree : Agree tags (slice_set tags (tags_of w % length tags) tag) (length tags) (tags_of r) (tags_of w)
  tag_agree = tag-agrees tags (length tags) (tags_of w) tag (tags_of r) free

  last : Lie (put_at (length slots) (words_of w % length slots) (spelled time header stack) slots) (length slots) h 1 (words_of w) (words_of next)
  last = subst (Lie (put_at (length slots) (words_of w % length slots) (spelled time header stack) slots) (length slots) h 1 (words_of w))
      (let e = raise_is in let u = up.words in omega arith)
      (lies slots (length slots) (words_of w) (spelled time header stack) some refl first ws_some fits h (let s = size in omega (arith, header_size)))

  counts : (tags_of w - tags_of r) + 1 ≡ tags_of next - tags_of r
  counts = (let a : tags_of r ≤ tags_of w = k.tags_before in let b = up.tags in omega arith)

  -- a front of the records stays
  front : (x : ℕ) → words_of x ≤ words_of w → IsSpelled h slots tags r x → Lie (put_at (length slots) (words_of w % length slots) (spelled time header stack) slots) (length slots) h (tags_of x - tags_of r) (words_of r) (words_of x)
  front x le s = lie-same slots (put_at (length slots) (words_of w % length slots) (spelled time header stack) slots) (length slots) (words_of r) (words_of w) h agree (tags_of x - tags_of r) (words_of r) (words_of x) (refl_le (words_of r)) le s.lie

  to_new : (n : ℕ) (c e : ℕ) → Lie (put_at (length slots) (words_of w % length slots) (spelled time header stack) slots) (length slots) h n c e
      → Lie (put_at (length slots) (words_of w % length slots) (spelled time header stack) slots) (length (put_at (length slots) (words_of w % length slots) (spelled time header stack) slots)) h n c e
  to_new n c e l = subst (λ (m : ℕ). Lie (put_at (length slots) (words_of w % length slots) (spelled time header stack) slots) m h n c e) (sym length-slots) l

  pub seen-spelled : (x : ℕ) → words_of x ≤ words_of w → IsSpelled h slots tags r x
      → IsSpelled h (put_at (length slots) (words_of w % length slots) (spelled time header stack) slots) (slice_set tags (tags_of w % length tags) tag) r x
  seen-spelled x le s =
      let a : words_of x ≤ words_of r + length slots = s.words_within in
      let b : tags_of x ≤ tags_of r + length tags = s.tags_within in
      record {
        word = s.word;
        tags_before = s.tags_before;
        tags_within = (let l = length-set tags (tags_of w % length tags) tag in omega arith);
        words_within = (let l = length-slots in omega arith);
        lie = to_new (tags_of x - tags_of r) (words_of r) (words_of x) (front x le s);
      }

  pub next-spelled : IsSpelled h (put_at (length slots) (words_of w % length slots) (spelled time header stack) slots) (slice_set tags (tags_of w % length tags) tag) r next
  next-spelled =
      let u = up.words in
      let t = up.tags in
      let o : tags_of r ≤ tags_of w = k.tags_before in
      record {
        word = up.flags k.word;
        tags_before = omega arith;
        tags_within = (let l = length-set tags (tags_of w % length tags) tag in omega (arith, free));
        words_within = (let l = length-slots in omega (arith, room));
        lie = to_new (tags_of next - tags_of r) (words_of r) (words_of next)
            (subst (λ (n : ℕ). Lie (put_at (length slots) (words_of w % length slots) (spelled time header stack) slots) (length slots) h n (words_of r) (words_of next)) counts
            (lie-append (put_at (length slots) (words_of w % length slots) (spelled time header stack) slots) (length slots) h (tags_of w - tags_of r) 1 (words_of r) (words_of w) (words_of next) (front w (refl_le (words_of w)) k) last));
      }

  records_more : records_at (put_at (length slots) (words_of w % length slots) (spelled time header stack) slots) (length slots) (tags_of next - tags_of r) (words_of r)
      ≡ records_at slots (length slots) (tags_of w - tags_of r) (words_of r) ++ spelled time header stack ∷ []
  records_more =
      let ys = put_at (length slots) (words_of w % length slots) (spelled time header stack) slots in
      ap (λ (n : ℕ). records_at ys (length slots) n (words_of r)) (sym counts)
      ∙ records-append ys (length slots) h (tags_of w - tags_of r) 1 (words_of r) (words_of w) (front w (refl_le (words_of w)) k)
      ∙ ap (λ (wss : List (List ℕ)). wss ++ records_at ys (length slots) 1 (words_of w))
      (records-same slots ys (length slots) (words_of r) (words_of w) h agree (tags_of w - tags_of r) (words_of r) (words_of w) (refl_le (words_of r)) (refl_le (words_of w)) k.lie)
      ∙ ap (λ (wss : List (List ℕ)). records_at slots (length slots) (tags_of w - tags_of r) (words_of r) ++ wss) (record_there slots (length slots) (words_of w) (spelled time header stack) some refl first ws_some fits)

  tag_there : word_at (slice_set tags (tags_of w % length tags) tag) (length tags) (tags_of w) ≡ tag
  tag_there = get_or-set_same tags (tags_of w % length tags) tag 0 (mod-lt (tags_of w) tags_some)

  tags_more : tags_at (slice_set tags (tags_of w % length tags) tag) (length tags) (tags_of next - tags_of r) (tags_of r)
      ≡ tags_at tags (length tags) (tags_of w - tags_of r) (tags_of r) ++ tag ∷ []
  tags_more =
      let ys = slice_set tags (tags_of w % length tags) tag in
      let o : tags_of r ≤ tags_of w = k.tags_before in
      let e : tags_of r + (tags_of w - tags_of r) ≡ tags_of w = omega arith in
      ap (λ (n : ℕ). tags_at ys (length tags) n (tags_of r)) (sym counts)
      ∙ tags-append ys (length tags) (tags_of w - tags_of r) 1 (tags_of r)
      ∙ ap (λ (ts : List ℕ). ts ++ tags_at ys (length tags) 1 (tags_of r + (tags_of w - tags_of r))) (tags-same tags ys (length tags) (tags_of r) (tags_of w) (tags_of w - tags_of r) (tags_of r) tag_agree (refl_le (tags_of r)) (omega arith))
      ∙ ap (λ (t : ℕ). tags_at tags (length tags) (tags_of w - tags_of r) (tags_of r) ++ word_at ys (length tags) t ∷ []) e
      ∙ ap (λ (t : ℕ). tags_at tags (length tags) (tags_of w - tags_of r) (tags_of r) ++ t ∷ []) tag_there

  -- one more is unread
  pub unread-next : unread_in (put_at (length slots) (words_of w % length slots) (spelled time header stack) slots) (slice_set tags (tags_of w % length tags) tag) r next
      ≡ unread_in slots tags r w ++ record { tag = tag; words = spelled time header stack } ∷ []
  unread-next =
      let ys = put_at (length slots) (words_of w % length slots) (spelled time header stack) slots in
      let ts = slice_set tags (tags_of w % length tags) tag in
      let n = tags_of next - tags_of r in
      ap (λ (m : ℕ). pieces_of (records_at ys m n (words_of r)) (tags_at ts (length ts) n (tags_of r))) length-slots
      ∙ ap (λ (m : ℕ). pieces_of (records_at ys (length slots) n (words_of r)) (tags_at ts m n (tags_of r))) (length-set tags (tags_of w % length tags) tag)
      ∙ ap (λ (wss : List (List ℕ)). pieces_of wss (tags_at ts (length tags) n (tags_of r))) records_more
      ∙ ap (pieces_of (records_at slots (length slots) (tags_of w - tags_of r) (words_of r) ++ spelled time header stack ∷ [])) tags_more
      ∙ pieces-append (records_at slots (length slots) (tags_of w - tags_of r) (words_of r)) (spelled time header stack ∷ []) (tags_at tags (length tags) (tags_of w - tags_of r) (tags_of r)) (tag ∷ [])
      (length-records slots (length slots) (tags_of w - tags_of r) (words_of r) ∙ sym (length-tags tags (length tags) (tags_of w - tags_of r) (tags_of r)))
