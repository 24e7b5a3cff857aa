-- Files that are put one after another.
use Rattle.std.proofs.Common.{◌≡◌, ◌<◌, ◌≤◌, ◌+◌, ℕ, zero, suc, List, [], ◌∷◌, ◌++◌, length, map, min, take, drop, get_or, Option, Some, None, Result, Ok, Err, OnOk, OnErr, refl, sym, ap, subst, ◌∙◌, arith, append_assoc, append-nil}
use Rattle.std.proofs.lemmas.List.{take_more, take-append-drop, take_all, length-append, map-append}
use Rattle.std.proofs.lemmas.List.Elements.{All-nil, All-cons, All-append}
use Rattle.gp_io.specs.Outside.{File, with_file, Puts, KeepsOthers, raised_by, RoseBy, Rose}
use Rattle.gp_isa.specs.declared.parts.Parts.{Parts}
use Rattle.gp_stack.specs.declared.record.Record.{Record as Row}
use Rattle.gp_events.specs.declared.sum.Sum.{Sum}
use Rattle.gp_events.specs.Order.{sums_in_order}
use Rattle.gp_build.specs.Profile.{goroutine_profile_of}
use Rattle.gp_build.specs.Contention.{contention_profile_of}
use Rattle.gp_top.specs.declared.save.SaveError.{SaveError}
use Rattle.gp_top.specs.declared.save.SaveError.TheVariants as save
use Rattle.gp_top.specs.Files.{Output, TextFile, ProfileFile, file_of, IsReadAgain, profile_name, profiles_from, goroutine_files, waits_file}
use Rattle.gp_top.specs.Putting.{with_files, Gains, Told, ArePut, FirstArePut, OneFails}
use Rattle.gp_top.specs.kept.Steps.{SaveStops}

with_both : (held xs ys : List File) → with_files held (xs ++ ys) ≡ with_files (with_files held xs) ys
with_both held [] ys = refl
with_both held (x ∷ xs) ys = with_both (with_file held x.0 x.1) xs ys

gains_both : (before mid after : Option (List File)) (xs ys : List File) → Gains before xs mid → Gains mid ys after → Gains before (xs ++ ys) after
gains_both None mid after xs ys front back = tt
gains_both (Some held) None after xs ys front back = absurd cc
gains_both (Some held) (Some now) after xs ys front back =
    let e : now ≡ with_files held xs = cc in
    back ∙ ap (λ l. Some (with_files l ys)) e ∙ ap (λ l. Some l) (sym (with_both held xs ys))

raised_both : (n m count : ℕ) → raised_by (n + m) count ≡ raised_by n (raised_by m count)
raised_both zero m count = let e : 0 + m ≡ m = omega arith in ap (λ k. raised_by k count) e
raised_both (suc n) m count =
    let e : suc n + m ≡ suc (n + m) = omega arith in
    ap (λ k. raised_by k count) e ∙ ap (λ k. min (k + 1) 18446744073709551615) (raised_both n m count)

rose_both : (n m : ℕ) (before mid after : Option ℕ) → RoseBy m before mid → RoseBy n mid after → RoseBy (n + m) before after
rose_both n m None mid after front back = tt
rose_both n m (Some a) None after front back = absurd cc
rose_both n m (Some a) (Some b) after front back =
    let e : b ≡ raised_by m a = cc in
    back ∙ ap (λ k. Some (raised_by n k)) e ∙ ap (λ k. Some k) (sym (raised_both n m a))

gains_none : (before : Option (List File)) → Gains before [] before
gains_none None = tt
gains_none (Some held) = refl

rose_none : (count : Option ℕ) → RoseBy 0 count count
rose_none None = tt
rose_none (Some n) = refl

-- before the first put
pub none_put : (before : Told) → ArePut [] before before
none_put before = record { gained = gains_none before.0; asked = rose_none before.1; well = refl; read_again = All-nil IsReadAgain }

gains_one : (before after : Option (List File)) (file : File) → Puts before file.0 file.1 after → Gains before (file ∷ []) after
gains_one None after file put = tt
gains_one (Some held) after file put = put

module _ (output : Output) (before after : Told) where
  -- one put
  pub one_put : Puts before.0 (file_of output).0 (file_of output).1 after.0 → RoseBy 1 before.1 after.1 → after.2 ≡ before.2 → IsReadAgain output
      → ArePut (output ∷ []) before after
  one_put put asked well again = record {
    gained = gains_one before.0 after.0 (file_of output) put;
    asked = asked;
    well = well;
    read_again = All-cons IsReadAgain output [] again (All-nil IsReadAgain);
  }

  -- one that failed
  pub one_fails : KeepsOthers before.0 (file_of output).0 after.0 → RoseBy 1 before.1 after.1 → Rose before.2 after.2 → OneFails (output ∷ []) before after
  one_fails kept asked failed = record {
    first = [];
    next = output;
    rest = [];
    whole = refl;
    mid = before;
    put = none_put before;
    others_kept = kept;
    asked = asked;
    failed = failed;
  }

  -- by the answer of the put
  pub answered_put : {T E : Type 0} (r : Result T E) → OnOk r (Puts before.0 (file_of output).0 (file_of output).1 after.0) → RoseBy 1 before.1 after.1 → OnOk r (after.2 ≡ before.2)
      → IsReadAgain output → OnOk r (ArePut (output ∷ []) before after)
  answered_put (Ok t) put asked well again = one_put put asked well again
  answered_put (Err e) put asked well again = tt

  pub answered_fault : {T E : Type 0} (r : Result T E) → OnErr r (KeepsOthers before.0 (file_of output).0 after.0) → RoseBy 1 before.1 after.1 → OnErr r (Rose before.2 after.2)
      → OnErr r (OneFails (output ∷ []) before after)
  answered_fault (Ok t) kept asked failed = tt
  answered_fault (Err e) kept asked failed = one_fails kept asked failed

-- where no more was put
pub no_more : (outputs : List Output) (before : Told) → FirstArePut outputs before before
no_more outputs before = record { first = []; rest = outputs; whole = refl; put = none_put before }

-- files behind others
pub both_put : (xs ys : List Output) (before mid after : Told) → ArePut xs before mid → ArePut ys mid after → ArePut (xs ++ ys) before after
both_put xs ys before mid after front back =
    let number : length ys + length xs ≡ length (xs ++ ys) = omega (arith, length-append xs ys) in
    record {
      gained = rw (map-append file_of xs ys) (gains_both before.0 mid.0 after.0 (map file_of xs) (map file_of ys) front.gained back.gained);
      asked = subst (λ (n : ℕ). RoseBy n before.1 after.1) number (rose_both (length ys) (length xs) before.1 mid.1 after.1 front.asked back.asked);
      well = back.well ∙ front.well;
      read_again = All-append IsReadAgain xs ys front.read_again back.read_again;
    }

module _ (xs ys : List Output) (before mid after : Told) where
  pub then_fails : ArePut xs before mid → OneFails ys mid after → OneFails (xs ++ ys) before after
  then_fails front fails = record {
    first = xs ++ fails.first;
    next = fails.next;
    rest = fails.rest;
    whole = ap (λ l. xs ++ l) fails.whole ∙ sym (append_assoc xs fails.first (fails.next ∷ fails.rest));
    mid = fails.mid;
    put = both_put xs fails.first before mid fails.mid front fails.put;
    others_kept = fails.others_kept;
    asked = fails.asked;
    failed = fails.failed;
  }

  pub then_first : ArePut xs before mid → FirstArePut ys mid after → FirstArePut (xs ++ ys) before after
  then_first front back = record {
    first = xs ++ back.first;
    rest = back.rest;
    whole = ap (λ l. xs ++ l) back.whole ∙ sym (append_assoc xs back.first back.rest);
    put = both_put xs back.first before mid after front back.put;
  }

-- and in front of others
module _ (xs ys : List Output) (before after : Told) where
  pub fails_before : OneFails xs before after → OneFails (xs ++ ys) before after
  fails_before fails = record {
    first = fails.first;
    next = fails.next;
    rest = fails.rest ++ ys;
    whole = ap (λ l. l ++ ys) fails.whole ∙ append_assoc fails.first (fails.next ∷ fails.rest) ys;
    mid = fails.mid;
    put = fails.put;
    others_kept = fails.others_kept;
    asked = fails.asked;
    failed = fails.failed;
  }

  pub first_before : FirstArePut xs before after → FirstArePut (xs ++ ys) before after
  first_before front = record {
    first = front.first;
    rest = front.rest ++ ys;
    whole = ap (λ l. l ++ ys) front.whole ∙ append_assoc front.first front.rest ys;
    put = front.put;
  }

-- all files are the first ones
pub all_first : (outputs : List Output) (before after : Told) → ArePut outputs before after → FirstArePut outputs before after
all_first outputs before after put = record { first = outputs; rest = []; whole = sym (append-nil outputs); put = put }

-- what stops puts of files in front of others, and behind others
pub stops_before : (xs ys : List Output) (before after : Told) (e : SaveError) → SaveStops xs before after e → SaveStops (xs ++ ys) before after e
stops_before xs ys before after save.PutFault stops = fails_before xs ys before after stops
stops_before xs ys before after save.Memory stops = first_before xs ys before after stops

pub stops_behind : (xs ys : List Output) (before mid after : Told) (e : SaveError) → ArePut xs before mid → SaveStops ys mid after e → SaveStops (xs ++ ys) before after e
stops_behind xs ys before mid after save.PutFault front stops = then_fails xs ys before mid after front stops
stops_behind xs ys before mid after save.Memory front stops = then_first xs ys before mid after front stops

-- A store whose count of faults rose when one put failed.
pub count_rose : (outputs : List Output) (before after : Told) → OneFails outputs before after → Rose before.2 after.2
count_rose outputs before after fails = subst (λ (n : ℕ). Rose n after.2) fails.put.well fails.failed

-- sums that stand in a profile's order
module _ (program : Parts) (file name : List ℕ) (ordered all : List Sum) (before after : Told) (is : ordered ≡ sums_in_order program all) where
  abbrev of : List Sum → List Output
  of sums = ProfileFile name (contention_profile_of program file sums) ∷ []

  pub waits_put : ArePut (of ordered) before after → ArePut (waits_file program file name all ∷ []) before after
  waits_put put = subst (λ (s : List Sum). ArePut (of s) before after) is put

  pub waits_stop : (e : SaveError) → SaveStops (of ordered) before after e → SaveStops (waits_file program file name all ∷ []) before after e
  waits_stop e stops = subst (λ (s : List Sum). SaveStops (of s) before after e) is stops

-- three files behind others
module _ (front : List Output) (one two three : Output) (before first second : Told) (front_put : ArePut front before first) where
  abbrev all_of : List Output
  all_of = front ++ one ∷ two ∷ three ∷ []

  pub one_stops : (e : SaveError) → SaveStops (one ∷ []) first second e → SaveStops all_of before second e
  one_stops e stops = stops_behind front (one ∷ two ∷ three ∷ []) before first second e front_put (stops_before (one ∷ []) (two ∷ three ∷ []) first second e stops)

  module _ (third : Told) (one_is_put : ArePut (one ∷ []) first second) where
    pub two_stops : (e : SaveError) → SaveStops (two ∷ []) second third e → SaveStops all_of before third e
    two_stops e stops =
        stops_behind front (one ∷ two ∷ three ∷ []) before first third e front_put
        (stops_behind (one ∷ []) (two ∷ three ∷ []) first second third e one_is_put (stops_before (two ∷ []) (three ∷ []) second third e stops))

    module _ (fourth : Told) (two_is_put : ArePut (two ∷ []) second third) where
      pub three_stops : (e : SaveError) → SaveStops (three ∷ []) third fourth e → SaveStops all_of before fourth e
      three_stops e stops =
          stops_behind front (one ∷ two ∷ three ∷ []) before first fourth e front_put
          (stops_behind (one ∷ []) (two ∷ three ∷ []) first second fourth e one_is_put (stops_behind (two ∷ []) (three ∷ []) second third fourth e two_is_put stops))

      pub three_put : ArePut (three ∷ []) third fourth → ArePut all_of before fourth
      three_put three_is_put =
          both_put front (one ∷ two ∷ three ∷ []) before first fourth front_put
          (both_put (one ∷ []) (two ∷ three ∷ []) first second fourth one_is_put (both_put (two ∷ []) (three ∷ []) second third fourth two_is_put three_is_put))

-- ---- goroutine profiles

-- what stands for a file past the end of a list
abbrev pub no_file : Output
no_file = TextFile [] []

-- the file of a list of records
abbrev pub file_for : Parts → List ℕ → ℕ → List Row → Output
file_for program file epoch rows = ProfileFile (profile_name epoch) (goroutine_profile_of program file rows)

pub number_of_files : (program : Parts) (file : List ℕ) (epoch : ℕ) (lists : List (List Row)) → length (profiles_from program file epoch lists) ≡ length lists
number_of_files program file epoch [] = refl
number_of_files program file epoch (rows ∷ lists) = ap suc (number_of_files program file (suc epoch) lists)

file_at : (program : Parts) (file : List ℕ) (epoch : ℕ) (lists : List (List Row)) (k : ℕ) → k < length lists → get_or (profiles_from program file epoch lists) k no_file ≡ file_for program file (epoch + k) (get_or lists k [])
file_at program file epoch [] k within = absurd (omega arith)
file_at program file epoch (rows ∷ lists) zero within = let e : epoch + 0 ≡ epoch = omega arith in ap (λ n. file_for program file n rows) (sym e)
file_at program file epoch (rows ∷ lists) (suc k) within =
    let e : suc epoch + k ≡ epoch + suc k = omega arith in
    file_at program file (suc epoch) lists k (omega arith) ∙ ap (λ n. file_for program file n (get_or lists k [])) e

-- the first goroutine profiles with the next one
next_file : (program : Parts) (file : List ℕ) (lists : List (List Row)) (k : ℕ) → k < length lists →
    take (k + 1) (goroutine_files program file lists) ≡ take k (goroutine_files program file lists) ++ file_for program file (k + 1) (get_or lists k []) ∷ []
next_file program file lists k within =
    let e : 1 + k ≡ k + 1 = omega arith in
    take_more (goroutine_files program file lists) k no_file (omega (arith, number_of_files program file 1 lists))
    ∙ ap (λ f. take k (goroutine_files program file lists) ++ f ∷ []) (file_at program file 1 lists k within ∙ ap (λ n. file_for program file n (get_or lists k [])) e)

module _ (program : Parts) (file : List ℕ) (lists : List (List Row)) (k : ℕ) (before mid after : Told) where
  abbrev all : List Output
  all = goroutine_files program file lists

  abbrev this : Output
  this = file_for program file (k + 1) (get_or lists k [])

  -- the goroutine profiles so far, and the next one
  pub goes_on : k < length lists → ArePut (take k all) before mid → ArePut (this ∷ []) mid after → ArePut (take (k + 1) all) before after
  goes_on within so_far put = rw (next_file program file lists k within) (both_put (take k all) (this ∷ []) before mid after so_far put)

  -- where the next one stops
  pub stops : (e : SaveError) → k < length lists → ArePut (take k all) before mid → SaveStops (this ∷ []) mid after e → SaveStops all before after e
  stops e within so_far stopped =
      let here = stops_behind (take k all) (this ∷ []) before mid after e so_far stopped in
      let front = subst (λ (l : List Output). SaveStops l before after e) (sym (next_file program file lists k within)) here in
      subst (λ (l : List Output). SaveStops l before after e) (take-append-drop (k + 1) all) (stops_before (take (k + 1) all) (drop (k + 1) all) before after e front)

-- behind the last one
pub all_put : (program : Parts) (file : List ℕ) (lists : List (List Row)) (k : ℕ) (before after : Told) → length lists ≤ k
    → ArePut (take k (goroutine_files program file lists)) before after → ArePut (goroutine_files program file lists) before after
all_put program file lists k before after past so_far =
    rw (sym (take_all k (goroutine_files program file lists) (omega (arith, number_of_files program file 1 lists)))) so_far
