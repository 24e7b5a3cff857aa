-- What the channels and mutexes are once a line, a number or a flag changes.
use Rattle.std.proofs.Common.{◌≡◌, ℕ, zero, suc, ◌+◌, ◌<◌, ◌≤◌, Bool, false, List, [], ◌∷◌, ◌++◌, length, get_or, set, drop, take, replicate, sum_by, refl, sym, ap, ◌∙◌, arith}
use Rattle.std.proofs.lemmas.List.{length-set, drop-set-lt, drop-set-add, set_past, get_or-drop, take-append-drop, length-drop, length-replicate, drop-replicate, replicate-append-replicate}
use Rattle.std.proofs.lemmas.List.Sums.{sum_by-cons, sum_by-append}
use Rattle.gp_sync.specs.declared.effect.Waiter.{Waiter}
use Rattle.gp_sync.specs.Operations.{Channel, Mutex, empty_channel, free_mutex}
use Rattle.gp_sync.specs.Places.{in_line, in_channel, in_mutex, places_of}
use Rattle.gp_sync.specs.kept.Links.{LineTable}
use Rattle.gp_sync.specs.WaitState.{WaitState}
use Rattle.gp_sync.specs.kept.Layout.{channels_of, mutexes_of, state_of, IsLaidOut}

Row : Type 0
Row = List Waiter

length-channels_of : (bs : List ℕ) (ss rs : List (List Waiter)) → length (channels_of bs ss rs) ≤ length bs
length-channels_of [] ss rs = omega arith
length-channels_of (b ∷ bs) [] rs = omega arith
length-channels_of (b ∷ bs) (s ∷ ss) [] = omega arith
length-channels_of (b ∷ bs) (s ∷ ss) (r ∷ rs) = omega (arith, length-channels_of bs ss rs)

pub length-channels : (bs : List ℕ) (ss rs : List (List Waiter)) → length bs ≤ length ss → length bs ≤ length rs → length (channels_of bs ss rs) ≡ length bs
length-channels [] ss rs some some' = refl
length-channels (b ∷ bs) [] rs some some' = absurd (omega arith)
length-channels (b ∷ bs) (s ∷ ss) [] some some' = absurd (omega arith)
length-channels (b ∷ bs) (s ∷ ss) (r ∷ rs) some some' = ap suc (length-channels bs ss rs (omega arith) (omega arith))

pub channel_at : (bs : List ℕ) (ss rs : List (List Waiter)) (c : ℕ) → c < length bs → length bs ≤ length ss → length bs ≤ length rs →
    get_or (channels_of bs ss rs) c empty_channel ≡ record { buffered = get_or bs c 0; senders = get_or ss c []; receivers = get_or rs c [] }
channel_at [] ss rs c lt some some' = absurd (omega arith)
channel_at (b ∷ bs) [] rs c lt some some' = absurd (omega arith)
channel_at (b ∷ bs) (s ∷ ss) [] c lt some some' = absurd (omega arith)
channel_at (b ∷ bs) (s ∷ ss) (r ∷ rs) zero lt some some' = refl
channel_at (b ∷ bs) (s ∷ ss) (r ∷ rs) (suc c) lt some some' = channel_at bs ss rs c (omega arith) (omega arith) (omega arith)

set_senders : (bs : List ℕ) (ss rs : List (List Waiter)) (c : ℕ) (x : List Waiter) → channels_of bs (set ss c x) rs ≡ set (channels_of bs ss rs) c (record (get_or (channels_of bs ss rs) c empty_channel) { senders = x })
set_senders [] ss rs c x = refl
set_senders (b ∷ bs) [] rs c x = refl
set_senders (b ∷ bs) (s ∷ ss) [] zero x = refl
set_senders (b ∷ bs) (s ∷ ss) [] (suc c) x = refl
set_senders (b ∷ bs) (s ∷ ss) (r ∷ rs) zero x = refl
set_senders (b ∷ bs) (s ∷ ss) (r ∷ rs) (suc c) x = ap (λ (rest : List Channel). record { buffered = b; senders = s; receivers = r } ∷ rest) (set_senders bs ss rs c x)

set_receivers : (bs : List ℕ) (ss rs : List (List Waiter)) (c : ℕ) (x : List Waiter) → channels_of bs ss (set rs c x) ≡ set (channels_of bs ss rs) c (record (get_or (channels_of bs ss rs) c empty_channel) { receivers = x })
set_receivers [] ss rs c x = refl
set_receivers (b ∷ bs) [] rs c x = refl
set_receivers (b ∷ bs) (s ∷ ss) [] c x = refl
set_receivers (b ∷ bs) (s ∷ ss) (r ∷ rs) zero x = refl
set_receivers (b ∷ bs) (s ∷ ss) (r ∷ rs) (suc c) x = ap (λ (rest : List Channel). record { buffered = b; senders = s; receivers = r } ∷ rest) (set_receivers bs ss rs c x)

set_buffered : (bs : List ℕ) (ss rs : List (List Waiter)) (c n : ℕ) → channels_of (set bs c n) ss rs ≡ set (channels_of bs ss rs) c (record (get_or (channels_of bs ss rs) c empty_channel) { buffered = n })
set_buffered [] ss rs c n = refl
set_buffered (b ∷ bs) [] rs zero n = refl
set_buffered (b ∷ bs) [] rs (suc c) n = refl
set_buffered (b ∷ bs) (s ∷ ss) [] zero n = refl
set_buffered (b ∷ bs) (s ∷ ss) [] (suc c) n = refl
set_buffered (b ∷ bs) (s ∷ ss) (r ∷ rs) zero n = refl
set_buffered (b ∷ bs) (s ∷ ss) (r ∷ rs) (suc c) n = ap (λ (rest : List Channel). record { buffered = b; senders = s; receivers = r } ∷ rest) (set_buffered bs ss rs c n)

pub length-mutexes : (hs : List Bool) (ws : List (List Waiter)) → length ws ≡ length hs → length (mutexes_of hs ws) ≡ length hs
length-mutexes [] ws same = refl
length-mutexes (h ∷ hs) [] same = absurd (omega arith)
length-mutexes (h ∷ hs) (w ∷ ws) same = ap suc (length-mutexes hs ws (omega arith))

pub mutex_at : (hs : List Bool) (ws : List (List Waiter)) (m : ℕ) → m < length hs → length ws ≡ length hs → get_or (mutexes_of hs ws) m free_mutex ≡ record { held = get_or hs m false; waiters = get_or ws m [] }
mutex_at [] ws m lt same = absurd (omega arith)
mutex_at (h ∷ hs) [] m lt same = absurd (omega arith)
mutex_at (h ∷ hs) (w ∷ ws) zero lt same = refl
mutex_at (h ∷ hs) (w ∷ ws) (suc m) lt same = mutex_at hs ws m (omega arith) (omega arith)

set_waiters : (hs : List Bool) (ws : List (List Waiter)) (m : ℕ) (x : List Waiter) → mutexes_of hs (set ws m x) ≡ set (mutexes_of hs ws) m (record (get_or (mutexes_of hs ws) m free_mutex) { waiters = x })
set_waiters [] ws m x = refl
set_waiters (h ∷ hs) [] m x = refl
set_waiters (h ∷ hs) (w ∷ ws) zero x = refl
set_waiters (h ∷ hs) (w ∷ ws) (suc m) x = ap (λ (rest : List Mutex). record { held = h; waiters = w } ∷ rest) (set_waiters hs ws m x)

set_held : (hs : List Bool) (ws : List (List Waiter)) (m : ℕ) (b : Bool) → mutexes_of (set hs m b) ws ≡ set (mutexes_of hs ws) m (record (get_or (mutexes_of hs ws) m free_mutex) { held = b })
set_held [] ws m b = refl
set_held (h ∷ hs) [] zero b = refl
set_held (h ∷ hs) [] (suc m) b = refl
set_held (h ∷ hs) (w ∷ ws) zero b = refl
set_held (h ∷ hs) (w ∷ ws) (suc m) b = ap (λ (rest : List Mutex). record { held = h; waiters = w } ∷ rest) (set_held hs ws m b)

places_channels : (g : ℕ) (bs : List ℕ) (ss rs : List (List Waiter)) → length bs ≤ length ss → length bs ≤ length rs → sum_by (in_channel g) (channels_of bs ss rs) ≡ sum_by (in_line g) (take (length bs) ss) + sum_by (in_line g) (take (length bs) rs)
places_channels g [] ss rs some some' = refl
places_channels g (b ∷ bs) [] rs some some' = absurd (omega arith)
places_channels g (b ∷ bs) (s ∷ ss) [] some some' = absurd (omega arith)
places_channels g (b ∷ bs) (s ∷ ss) (r ∷ rs) some some' =
    let here = sum_by-cons (in_channel g) (record { buffered = b; senders = s; receivers = r }) (channels_of bs ss rs) in
    let senders = sum_by-cons (in_line g) s (take (length bs) ss) in
    let receivers = sum_by-cons (in_line g) r (take (length bs) rs) in
    let rest = places_channels g bs ss rs (omega arith) (omega arith) in
    omega (arith, here, senders, receivers, rest)

places_mutexes : (g : ℕ) (hs : List Bool) (ws : List (List Waiter)) → length ws ≡ length hs → sum_by (in_mutex g) (mutexes_of hs ws) ≡ sum_by (in_line g) ws
places_mutexes g [] [] same = refl
places_mutexes g [] (w ∷ ws) same = absurd (omega arith)
places_mutexes g (h ∷ hs) [] same = absurd (omega arith)
places_mutexes g (h ∷ hs) (w ∷ ws) same =
    let here = sum_by-cons (in_mutex g) (record { held = h; waiters = w }) (mutexes_of hs ws) in
    let waiters = sum_by-cons (in_line g) w ws in
    let rest = places_mutexes g hs ws (omega arith) in
    omega (arith, here, waiters, rest)

cut : (g n : ℕ) (lines : List (List Waiter)) → sum_by (in_line g) lines ≡ sum_by (in_line g) (take n lines) + sum_by (in_line g) (drop n lines)
cut g n lines = ap (sum_by (in_line g)) (sym (take-append-drop n lines)) ∙ sum_by-append (in_line g) (take n lines) (drop n lines)

module _ (caps bs : List ℕ) (hs : List Bool) (table : LineTable) (whole : IsLaidOut caps bs hs table.lines) where
  abbrev n : ℕ
  n = length bs

  abbrev state : WaitState
  state = state_of caps bs hs table

  abbrev with_lines : List (List Waiter) → WaitState
  with_lines lines = state_of caps bs hs (record table { lines = lines })

  receivers_enough : length bs ≤ length (drop n table.lines)
  receivers_enough = omega (arith, length-drop n table.lines, whole.line_each)

  senders_enough : length bs ≤ length table.lines
  senders_enough = omega (arith, whole.line_each)

  waiters_each : length (drop n (drop n table.lines)) ≡ length hs
  waiters_each = omega (arith, length-drop n table.lines, length-drop n (drop n table.lines), whole.line_each)

  pub channels_count : length state.channels ≡ n
  channels_count = length-channels bs table.lines (drop n table.lines) senders_enough receivers_enough

  pub mutexes_count : length state.mutexes ≡ length hs
  mutexes_count = length-mutexes hs (drop n (drop n table.lines)) waiters_each

  pub channel_is : (c : ℕ) → c < n → get_or state.channels c empty_channel ≡ record { buffered = get_or bs c 0; senders = get_or table.lines c []; receivers = get_or table.lines (n + c) [] }
  channel_is c lt =
      channel_at bs table.lines (drop n table.lines) c lt senders_enough receivers_enough
      ∙ ap (λ (row : List Waiter). record { buffered = get_or bs c 0; senders = get_or table.lines c []; receivers = row }) (get_or-drop n table.lines c [])

  pub mutex_is : (m : ℕ) → m < length hs → get_or state.mutexes m free_mutex ≡ record { held = get_or hs m false; waiters = get_or table.lines (n + (n + m)) [] }
  mutex_is m lt =
      mutex_at hs (drop n (drop n table.lines)) m lt waiters_each
      ∙ ap (λ (row : List Waiter). record { held = get_or hs m false; waiters = row }) (get_or-drop n (drop n table.lines) m [] ∙ get_or-drop n table.lines (n + m) [])

  pub laid_out : (i : ℕ) (x : List Waiter) → IsLaidOut caps bs hs (set table.lines i x)
  laid_out i x = record {
    capacity_each = whole.capacity_each;
    line_each = length-set table.lines i x ∙ whole.line_each;
    few = omega (arith, length-set table.lines i x, whole.few);
  }

  pub no_places : (g : ℕ) → places_of state.channels state.mutexes g ≡ 0 → sum_by (in_line g) table.lines ≡ 0
  unfolding places_of
  no_places g none =
      let senders = cut g n table.lines in
      let receivers = cut g n (drop n table.lines) in
      let channels = places_channels g bs table.lines (drop n table.lines) senders_enough receivers_enough in
      let mutexes = places_mutexes g hs (drop n (drop n table.lines)) waiters_each in
      omega (arith, none, senders, receivers, channels, mutexes)

  pub with_senders : (c : ℕ) (x : List Waiter) → c < n → with_lines (set table.lines c x) ≡ record state { channels = set state.channels c (record (get_or state.channels c empty_channel) { senders = x }) }
  with_senders c x lt =
      let far = drop-set-lt n table.lines c x lt in
      let near = set_senders bs table.lines (drop n table.lines) c x in
      rw (far, near) refl

  pub with_receivers : (c : ℕ) (x : List Waiter) → c < n → with_lines (set table.lines (n + c) x) ≡ record state { channels = set state.channels c (record (get_or state.channels c empty_channel) { receivers = x }) }
  with_receivers c x lt =
      let here = drop-set-add n table.lines c x in
      let far = drop-set-lt n (drop n table.lines) c x lt in
      let near = set_receivers bs table.lines (drop n table.lines) c x in
      let past : length (channels_of bs table.lines (set (drop n table.lines) c x)) ≤ n + c = omega (arith, length-channels_of bs table.lines (set (drop n table.lines) c x)) in
      let same = set_senders bs table.lines (set (drop n table.lines) c x) (n + c) x ∙
      set_past (channels_of bs table.lines (set (drop n table.lines) c x)) (n + c) (record (get_or (channels_of bs table.lines (set (drop n table.lines) c x)) (n + c) empty_channel) { senders = x }) past in
      rw (here, far, same, near) refl

  pub with_waiters : (m : ℕ) (x : List Waiter) → with_lines (set table.lines (n + (n + m)) x) ≡ record state { mutexes = set state.mutexes m (record (get_or state.mutexes m free_mutex) { waiters = x }) }
  with_waiters m x =
      let here = drop-set-add n table.lines (n + m) x in
      let there = drop-set-add n (drop n table.lines) m x in
      let near = set_waiters hs (drop n (drop n table.lines)) m x in
      let rows = set (drop n table.lines) (n + m) x in
      let past : length (channels_of bs table.lines rows) ≤ n + (n + m) = omega (arith, length-channels_of bs table.lines rows) in
      let same = set_senders bs table.lines rows (n + (n + m)) x ∙ set_past (channels_of bs table.lines rows) (n + (n + m)) (record (get_or (channels_of bs table.lines rows) (n + (n + m)) empty_channel) { senders = x }) past in
      let past' : length (channels_of bs table.lines (drop n table.lines)) ≤ n + m = omega (arith, length-channels_of bs table.lines (drop n table.lines)) in
      let same' = set_receivers bs table.lines (drop n table.lines) (n + m) x ∙
      set_past (channels_of bs table.lines (drop n table.lines)) (n + m) (record (get_or (channels_of bs table.lines (drop n table.lines)) (n + m) empty_channel) { receivers = x }) past' in
      rw (here, same, same', there, near) refl

  pub with_buffered : (c k : ℕ) → state_of caps (set bs c k) hs table ≡ record state { channels = set state.channels c (record (get_or state.channels c empty_channel) { buffered = k }) }
  with_buffered c k =
      let same = length-set bs c k in
      let near = set_buffered bs table.lines (drop n table.lines) c k in
      rw (same, near) refl

  pub with_held : (m : ℕ) (b : Bool) → state_of caps bs (set hs m b) table ≡ record state { mutexes = set state.mutexes m (record (get_or state.mutexes m free_mutex) { held = b }) }
  with_held m b =
      let near = set_held hs (drop n (drop n table.lines)) m b in
      rw near refl

  -- the parts of channels and mutexes, one by one
  pub buffered_at : (c : ℕ) → c < n → (get_or state.channels c empty_channel).buffered ≡ get_or bs c 0
  buffered_at c lt = ap (λ (channel : Channel). channel.buffered) (channel_is c lt)

  pub senders_at : (c : ℕ) → c < n → (get_or state.channels c empty_channel).senders ≡ get_or table.lines c []
  senders_at c lt = ap (λ (channel : Channel). channel.senders) (channel_is c lt)

  pub receivers_at : (c : ℕ) → c < n → (get_or state.channels c empty_channel).receivers ≡ get_or table.lines (n + c) []
  receivers_at c lt = ap (λ (channel : Channel). channel.receivers) (channel_is c lt)

  pub held_at : (m : ℕ) → m < length hs → (get_or state.mutexes m free_mutex).held ≡ get_or hs m false
  held_at m lt = ap (λ (mutex : Mutex). mutex.held) (mutex_is m lt)

  pub waiters_at : (m : ℕ) → m < length hs → (get_or state.mutexes m free_mutex).waiters ≡ get_or table.lines (n + (n + m)) []
  waiters_at m lt = ap (λ (mutex : Mutex). mutex.waiters) (mutex_is m lt)

channels_none : (n : ℕ) (ss rs : List (List Waiter)) → channels_of (replicate n 0) (replicate n [] ++ ss) (replicate n [] ++ rs) ≡ replicate n empty_channel
channels_none zero ss rs = refl
channels_none (suc n) ss rs = ap (λ (rest : List Channel). empty_channel ∷ rest) (channels_none n ss rs)

mutexes_none : (n : ℕ) → mutexes_of (replicate n false) (replicate n []) ≡ replicate n free_mutex
mutexes_none zero = refl
mutexes_none (suc n) = ap (λ (rest : List Mutex). free_mutex ∷ rest) (mutexes_none n)

-- a table of empty lines stands for empty channels and free mutexes
pub empty_state : (caps : List ℕ) (cells k m : ℕ) → state_of caps (replicate k 0) (replicate m false) (record { cells = cells; lines = replicate (k + k + m) [] }) ≡ record
    { cells = cells; capacities = caps; channels = replicate k empty_channel; mutexes = replicate m free_mutex }
empty_state caps cells k m =
    let all : List (List Waiter) = replicate (k + k + m) [] in
    let len = length-replicate {A = ℕ} k 0 in
    let once : drop k (replicate {A = List Waiter} (k + k + m) []) ≡ replicate (k + m) [] = drop-replicate k (k + k + m) [] ∙ ap (λ (j : ℕ). replicate {A = List Waiter} j []) (omega arith) in
    let twice : drop k (replicate {A = List Waiter} (k + m) []) ≡ replicate m [] = drop-replicate k (k + m) [] ∙ ap (λ (j : ℕ). replicate {A = List Waiter} j []) (omega arith) in
    let front : replicate {A = List Waiter} (k + k + m) [] ≡ replicate k [] ++ replicate (k + m) [] = ap (λ (j : ℕ). replicate {A = List Waiter} j []) (omega arith) ∙ sym (replicate-append-replicate k (k + m) []) in
    let behind : replicate {A = List Waiter} (k + m) [] ≡ replicate k [] ++ replicate m [] = sym (replicate-append-replicate k m []) in
    let channels : channels_of (replicate k 0) (replicate (k + k + m) []) (replicate (k + m) []) ≡ replicate k empty_channel =
    ap (λ (rows : List (List Waiter)). channels_of (replicate k 0) rows (replicate (k + m) [])) front
    ∙ ap (λ (rows : List (List Waiter)). channels_of (replicate k 0) (replicate k [] ++ replicate (k + m) []) rows) behind
    ∙ channels_none k (replicate (k + m) []) (replicate m []) in
    rw (len, once, twice, channels, mutexes_none m) refl
