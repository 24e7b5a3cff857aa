-- Frames that are shown one after another.
use Rattle.std.proofs.Common.{◌≡◌, ◌<◌, ◌≤◌, ◌+◌, ℕ, suc, min, List, [], ◌∷◌, ◌++◌, length, take, drop, map, set, refl, ap, sym, ◌∙◌, arith}
use Rattle.std.proofs.lemmas.List.{append_assoc, append-nil, take_at, take_all, take_more_set, drop-drop, drop-set-lt, map-append, length-drop}
use Rattle.gp_isa.specs.declared.frame.Frame.{Frame}
use Rattle.gp_stack.specs.Word.{word_of}
use Rattle.gp_stack.proofs.Points.{take_add}

-- one more frame
pub shown_more : (shown rest whole more : List Frame) (frame : Frame) → shown ++ rest ≡ whole → rest ≡ frame ∷ more → (shown ++ frame ∷ []) ++ more ≡ whole
shown_more shown rest whole more frame e next = append_assoc shown (frame ∷ []) more ∙ (ap (λ xs. shown ++ xs) (sym next) ∙ e)

pub shown_full : (shown rest whole : List Frame) (most : ℕ) → shown ++ rest ≡ whole → length shown ≤ most → most ≤ length shown → shown ≡ take most whole
shown_full shown rest whole most e few full = sym (ap (take most) (sym e) ∙ take_at shown rest most (omega arith))

pub shown_all : (shown rest whole : List Frame) (most : ℕ) → shown ++ rest ≡ whole → rest ≡ [] → length shown ≤ most → shown ≡ take most whole
shown_all shown rest whole most e none few =
    let all : shown ≡ whole = sym (append-nil shown) ∙ (ap (λ xs. shown ++ xs) (sym none) ∙ e) in
    sym (ap (take most) (sym all) ∙ take_all most shown few)

pub words_more : (frames more : List Frame) (frame : Frame) (to : List ℕ) (n : ℕ) → n < length to → drop n frames ≡ frame ∷ more → take n to ≡ map word_of (take n frames) → take (n + 1) (set to n (word_of frame)) ≡ map word_of (take (n + 1) frames)
words_more frames more frame to n within next shown =
    take_more_set to n (word_of frame) within ∙
    (ap (λ xs. xs ++ word_of frame ∷ []) shown ∙
    sym (ap (map word_of) (take_add n 1 frames ∙ ap (λ xs. take n frames ++ take 1 xs) next) ∙ map-append word_of (take n frames) (frame ∷ [])))

pub left_more : (frames more : List Frame) (frame : Frame) (n : ℕ) → drop n frames ≡ frame ∷ more → drop (n + 1) frames ≡ more
left_more frames more frame n next = sym (drop-drop 1 n frames) ∙ ap (drop 1) next

pub there_more : (frames more : List Frame) (frame : Frame) (n : ℕ) → drop n frames ≡ frame ∷ more → n + 1 ≤ length frames
there_more frames more frame n next =
    let size : length (drop n frames) ≡ suc (length more) = ap length next in omega (arith, length-drop n frames)

pub rest_more : (to old : List ℕ) (n w : ℕ) → drop n to ≡ drop n old → drop (n + 1) (set to n w) ≡ drop (n + 1) old
rest_more to old n w same =
    drop-set-lt (n + 1) to n w (omega arith) ∙ (sym (drop-drop 1 n to) ∙ (ap (drop 1) same ∙ drop-drop 1 n old))

pub min_full : (frames : List Frame) (n m : ℕ) → n ≤ m → m ≤ n → n ≤ length frames → n ≡ min m (length frames)
min_full frames n m few full there = omega arith

pub min_all : (frames rest : List Frame) (n m : ℕ) → n ≤ m → n ≤ length frames → drop n frames ≡ rest → rest ≡ [] → n ≡ min m (length frames)
min_all frames rest n m few there left none =
    let size : length (drop n frames) ≡ 0 = ap length (left ∙ none) in omega (arith, length-drop n frames)

pub words_first : (to : List ℕ) (frame leaf : Frame) (w : ℕ) → 0 < length to → w ≡ word_of frame → frame ≡ leaf → take 1 (set to 0 w) ≡ word_of leaf ∷ []
words_first [] frame leaf w some word is = absurd (omega arith)
words_first (x ∷ to) frame leaf w some word is = ap (λ v. v ∷ []) (word ∙ ap word_of is)

pub rest_first : (to : List ℕ) (w : ℕ) → drop 1 (set to 0 w) ≡ drop 1 to
rest_first [] w = refl
rest_first (x ∷ to) w = refl
