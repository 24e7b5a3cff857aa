-- A core that some list of events leads to goes on with each event.
use Rattle.std.proofs.Common.{◌≡◌, ◌⊎◌, ℕ, ◌+◌, ◌-◌, ◌<◌, ◌≤◌, Bool, true, false, List, [], ◌∷◌, ◌++◌, length, get_or, set, map, Option, Some, None, refl, sym, ap, ◌∙◌, subst, inl, inr, arith, if◌then◌else◌, nat_le, true≢false, ◌^◌, replicate, zero, suc, append_assoc, get_or-set_same, get_or-set_other}
use Rattle.std.proofs.lemmas.Bool.{le-leb, leb-true}
use Rattle.std.proofs.lemmas.List.{map-set, length-map, append-nil, get_or_default}
use Rattle.gp_isa.specs.declared.parts.Parts.{Parts}
use Rattle.gp_stack.specs.declared.body.Body.{Body}
use Rattle.gp_stack.specs.declared.record.Record.{Record as Row}
use Rattle.gp_stack.specs.Body.{progress_of, StandsIn}
use Rattle.gp_stack.specs.Record.{record_of}
use Rattle.gp_journal.specs.declared.entry.Entry.{Entry}
use Rattle.gp_journal.specs.declared.entry.Entry.TheVariants.{Start, Open, Refuse, Record, Close}
use Rattle.gp_journal.specs.declared.goroutine.Goroutine.{Goroutine}
use Rattle.gp_journal.specs.declared.settings.Settings.{Settings}
use Rattle.gp_journal.specs.Bodies.{standing, further}
use Rattle.gp_journal.specs.Due.{due}
use Rattle.gp_journal.specs.Effect.{after}
use Rattle.gp_journal.specs.May.{May}
use Rattle.gp_journal.specs.Run.{AreLegal, IsLegal, last, after_all}
use Rattle.gp_journal.specs.Settings.{AreInRange}
use Rattle.gp_journal.specs.State.{Code, State, code_of, goroutine, worker, births, live, first}
use Rattle.gp_journal.proofs.Lemmas.{after_all-append, is_kept}
use Rattle.gp_core.specs.declared.word.Word.{Word}
use Rattle.gp_core.specs.declared.word.Word.TheVariants.{Dead, Home, Claimed, Running}
use Rattle.gp_core.specs.declared.hold.Hold.{Hold}
use Rattle.gp_core.specs.declared.hold.How.{How}
use Rattle.gp_core.specs.declared.hold.How.TheVariants as how
use Rattle.gp_core.specs.declared.event.CoreEvent.{CoreEvent}
use Rattle.gp_core.specs.declared.event.CoreEvent.TheVariants as event
use Rattle.gp_core.specs.CoreState.{CoreState, first_core, word, count, hand, now, Holds, HoldsBy, copy_in, with_copy, with_word, with_count}
use Rattle.gp_core.specs.Enabled.{IsEnabled, IsHome, is_needed, may_start, start_of, beginning_of, opening_of, MayCommitClaim, MayCommitDue}
use Rattle.gp_core.specs.Events.{AreEnabled, after_events}
use Rattle.gp_core.specs.Stepped.{stepped, held, home_epoch, copy_of, kept_with, points_of}
use Rattle.gp_core.specs.kept.Core.{count_of, core_of, body_at, FitsBody, BodiesFit, IsReachedBy}
use Rattle.gp_core.proofs.Lists.{set_changes}
use Rattle.gp_core.proofs.Turns.{due_turns, start_turns, record_turns}
use Rattle.gp_core.proofs.Cells.{FitsHand, dead_names_none, holds_by}
use Rattle.gp_core.proofs.Keeps.{Kept, its_whole, has_cell, has_body, has_hand, reached, now_after}
use Rattle.gp_core.proofs.Pasts.{not_borne}
use Rattle.gp_core.proofs.Steps.{copy_is}
use Rattle.gp_core.proofs.Entries.{due_is, due_runs}
use Rattle.gp_core.proofs.AllEvents.{kept_after, claims_commit, takes_commit}
use Rattle.gp_core.proofs.Fits.{word_fits, body_fits, turned_fits, own_stands, own_goes, IsThere, is_there, count_there, none_at, counts_none}

-- one event more behind a list
enabled_push : (code : Code) (settings : Settings) (core : CoreState) (events : List CoreEvent) (it : CoreEvent) → AreEnabled code settings core events → IsEnabled code settings (after_events code settings core events) it →
    AreEnabled code settings core (events ++ it ∷ [])
enabled_push code settings core [] it all may = (may, tt)
enabled_push code settings core (e ∷ events) it all may = (all.0, enabled_push code settings (stepped code settings core e) events it all.1 may)

after_push : (code : Code) (settings : Settings) (core : CoreState) (events : List CoreEvent) (it : CoreEvent) →
    after_events code settings core (events ++ it ∷ []) ≡ stepped code settings (after_events code settings core events) it
after_push code settings core [] it = refl
after_push code settings core (e ∷ events) it = after_push code settings (stepped code settings core e) events it

home_not_dead : (v : Word) → IsHome v → v ≡ Dead → ⊥
home_not_dead (Home epoch) home e = absurd (cc)
home_not_dead Dead home e = home
home_not_dead (Claimed epoch actor) home e = home
home_not_dead (Running epoch actor) home e = home

-- What is kept, and the core that it stands for.
module _ (program : Parts) (settings : Settings) (workers room : ℕ) (journal : List Entry) (words : List Word) (bodies : List (Option Body)) (hands : List (Option Hold)) (copies : List (ℕ × Row)) where
  abbrev pub core : CoreState
  core = core_of journal words bodies hands copies

  abbrev pub code : Code
  code = code_of program

  abbrev pub state : State
  state = now (code_of program) settings (core_of journal words bodies hands copies)

  module _ (it : IsReachedBy program settings workers room bodies (core_of journal words bodies hands copies)) where
    pub kept : Kept (code_of program) settings it.events core state
    kept = subst (λ (c : CoreState). Kept (code_of program) settings it.events c (now (code_of program) settings c)) (sym it.is_after)
        (kept_after (code_of program) settings it.events it.in_range it.allowed)

    pub legal : IsLegal (code_of program) settings journal
    legal = kept.legal

    -- the places of an actor, of a goroutine that was born, and of its body
    pub actor_within : (a : ℕ) → a ≤ settings.workers → a < length hands
    actor_within a actor = has_hand code settings it.events core state kept a actor

    pub born_within : (g : ℕ) → g < births state → g < length words
    born_within g born = has_cell code settings it.events core state kept it.in_range g born

    pub body_within : (g : ℕ) → g < births state → g < length bodies
    body_within g born = let within = has_body code settings it.events core state kept it.in_range g born in omega (arith, length-map bodies count_of)

    -- the body of a goroutine whose word isn't dead
    pub body_there : (g : ℕ) → (word core g ≡ Dead → ⊥) → IsThere program state.goroutines g (body_at bodies g)
    body_there g isnt = is_there program state.goroutines g (word core g) (body_at bodies g) isnt (it.bodies_fit g)

    -- what is found at the place of such a body
    pub found : (g : ℕ) (here : Option Body) → g < length bodies → here ≡ get_or bodies g here → here ≡ body_at bodies g
    found g here within is = is ∙ get_or_default bodies g here None within

    pub body_found : (g : ℕ) (here : Option Body) (body : Body) → g < length bodies → here ≡ get_or bodies g here → here ≡ Some body →
        StandsIn program body × (progress_of body ≡ standing (goroutine state g))
    body_found g here body within is some =
        let fits : FitsBody program state.goroutines g (word core g) (Some body) =
        subst (FitsBody program state.goroutines g (word core g)) (sym (found g here within is) ∙ some) (it.bodies_fit g) in (fits.1.0, fits.1.1)

    pub body_missing : (g : ℕ) (here : Option Body) → (word core g ≡ Dead → ⊥) → g < length bodies → here ≡ get_or bodies g here → here ≡ None → ⊥
    body_missing g here isnt within is none = isnt (subst (FitsBody program state.goroutines g (word core g)) (sym (found g here within is) ∙ none) (it.bodies_fit g))

    -- and at that of a hand
    pub hand_found : (a : ℕ) (here : Option Hold) → a ≤ settings.workers → here ≡ get_or hands a here → here ≡ hand core a
    hand_found a here actor is = is ∙ get_or_default hands a here None (actor_within a actor)

    -- the row of a body is the copy
    pub row_found : (g : ℕ) (body : Body) → progress_of body ≡ standing (goroutine state g) → record_of program g (progress_of body) ≡ copy_of code state core g
    row_found g body place = ap (record_of program g) place ∙ sym (copy_is code settings it.in_range it.events core state kept g)

    -- whose it is that is held
    held_at : (a g : ℕ) (hold : Option Hold) → FitsHand code state (word core) a hold → Holds g hold → word core g ≡ Dead → ⊥
    held_at a g None fits holds dead = holds
    held_at a g (Some hold) fits holds dead = dead_names_none hold.how a (word core hold.g) (ap (word core) holds ∙ dead) fits.0

    pub held_lives : (a g : ℕ) → Holds g (hand core a) → word core g ≡ Dead → ⊥
    held_lives a g holds = held_at a g (hand core a) (kept.agree.hands_fit a) holds

    pub held_by_lives : (way : How) (a g : ℕ) → HoldsBy way g (hand core a) → word core g ≡ Dead → ⊥
    held_by_lives way a g has = held_lives a g (holds_by way g (hand core a) has)

    -- one event more
    goes_on : (e : CoreEvent) → IsEnabled code settings core e → (bodies' : List (Option Body)) →
        BodiesFit program (now code settings (stepped code settings core e)).goroutines (word (stepped code settings core e)) bodies' →
        IsReachedBy program settings workers room bodies' (stepped code settings core e)
    goes_on e may bodies' fits = record {
      in_range = it.in_range;
      its_workers = it.its_workers;
      its_room = it.its_room;
      events = it.events ++ e ∷ [];
      allowed = enabled_push code settings (first_core settings) it.events e it.allowed (subst (λ (c : CoreState). IsEnabled code settings c e) it.is_after may);
      is_after = ap (λ (c : CoreState). stepped code settings c e) it.is_after ∙ sym (after_push code settings (first_core settings) it.events e);
      bodies_fit = fits;
    }

    -- another word of g, whose word isn't dead
    refits : (g : ℕ) (v : Word) → g < births state → (word core g ≡ Dead → ⊥) → BodiesFit program state.goroutines (λ k. get_or (set words g v) k Dead) bodies
    refits g v born isnt = word_fits program state.goroutines (word core) (λ k. get_or (set words g v) k Dead) bodies g v (set_changes Dead words g v (born_within g born)) isnt it.bodies_fit

    pub claimed : (a g : ℕ) → IsEnabled code settings core (event.Claim a g) →
        IsReachedBy program settings workers room bodies (core_of journal (set words g (Claimed state.last_epoch a)) bodies (set hands a (held g how.Claim)) copies)
    claimed a g may =
        goes_on (event.Claim a g) may bodies
        (refits g (Claimed state.last_epoch a) may.is_born (λ dead. let clash : Home (state.last_epoch - 1) ≡ Dead = sym may.holds_too.is_absent ∙ dead in absurd (cc)))

    pub copied : (a g : ℕ) → IsEnabled code settings core (event.Copy a g) →
        IsReachedBy program settings workers room bodies (core_of journal words bodies (set hands a (with_copy (Some (copy_of code state core g)) (hand core a))) copies)
    copied a g may = goes_on (event.Copy a g) may bodies it.bodies_fit

    pub satisfied : (a g : ℕ) → IsEnabled code settings core (event.Satisfy a g) →
        IsReachedBy program settings workers room bodies (core_of journal (set words g (Home (goroutine state g).epoch)) bodies (set hands a None) copies)
    satisfied a g may =
        goes_on (event.Satisfy a g) may bodies
        (refits g (Home (goroutine state g).epoch) may.is_born (λ dead. let clash : Claimed (goroutine state g).epoch a ≡ Dead = sym may.holds_too.is_claimed ∙ dead in absurd (cc)))

    pub taken : (w g : ℕ) → IsEnabled code settings core (event.Take w g) →
        IsReachedBy program settings workers room bodies (core_of journal (set words g (Running (home_epoch (word core g)) w)) bodies (set hands w (held g how.Take)) copies)
    taken w g may = goes_on (event.Take w g) may bodies (refits g (Running (home_epoch (word core g)) w) may.is_born (home_not_dead (word core g) may.holds_too.is_home))

    pub given : (w g : ℕ) → IsEnabled code settings core (event.Give w g) →
        IsReachedBy program settings workers room bodies (core_of journal (set words g (Home (goroutine state g).epoch)) bodies (set hands w None) copies)
    given w g may = goes_on (event.Give w g) may bodies (refits g (Home (goroutine state g).epoch) may.is_born (held_by_lives how.Take w g may.holds_too.has_taken))

    pub buried : (w g : ℕ) → IsEnabled code settings core (event.Bury w g) →
        IsReachedBy program settings workers room bodies (core_of journal (set words g Dead) bodies (set hands w None) copies)
    buried w g may = goes_on (event.Bury w g) may bodies (refits g Dead may.is_born (held_by_lives how.Take w g may.holds_too.has_taken))

    -- a body of a goroutine that has passed nothing
    pub bears_count : (g : ℕ) (body : Body) → (progress_of body).count ≡ 0 → map count_of (set bodies g (Some body)) ≡ set core.counts g 0
    bears_count g body none = map-set count_of bodies g (Some body) ∙ ap (set (map count_of bodies) g) none

    pub bears_core : (g epoch : ℕ) (body : Body) → (progress_of body).count ≡ 0 →
        core_of journal (set words g (Home epoch)) (set bodies g (Some body)) hands copies ≡ with_word g (Home epoch) (with_count g 0 core)
    bears_core g epoch body none = λ i. record { journal = journal; words = set words g (Home epoch); counts = bears_count g body none i; hands = hands; copies = copies }

    pub borne : (w g : ℕ) (body : Body) → IsEnabled code settings core (event.Bear w g) → StandsIn program body → progress_of body ≡ standing (goroutine state g) → (progress_of body).count ≡ 0 →
        IsReachedBy program settings workers room (set bodies g (Some body)) (core_of journal (set words g (Home (goroutine state g).epoch)) (set bodies g (Some body)) hands copies)
    borne w g body may stands place none =
        let v = Home (goroutine state g).epoch in
        subst (IsReachedBy program settings workers room (set bodies g (Some body))) (sym (bears_core g (goroutine state g).epoch body none))
        (goes_on (event.Bear w g) may (set bodies g (Some body))
        (body_fits program state.goroutines (word core) (λ k. get_or (set words g v) k Dead) bodies g v body (set_changes Dead words g v (born_within g may.is_born))
        (body_within g may.is_born) may.is_born stands place it.bodies_fit))

    -- one that wasn't borne has passed nothing
    pub none_passed : (w g : ℕ) → IsEnabled code settings core (event.Bear w g) → (goroutine state g).count ≡ 0
    none_passed w g may =
        let m = may.holds_too in
        let none = not_borne _ _ (births state) g (goroutine state g) (word core g) (kept.pasts g) m.lives m.is_empty in
        ((kept.pasts g).before_bear none).3

    -- ---- entries

    -- the state after an entry
    pub then_after : (entry : Entry) → last code settings (journal ++ entry ∷ []) ≡ after code settings state entry
    then_after entry = now_after code settings it.events core state kept entry

    -- one that changes no goroutine
    pub still_fits : (entry : Entry) → (after code settings state entry).goroutines ≡ state.goroutines → BodiesFit program (last code settings (journal ++ entry ∷ [])).goroutines (word core) bodies
    still_fits entry same =
        subst (λ (gs : List Goroutine). BodiesFit program gs (word core) bodies) (sym (ap (λ (s : State). s.goroutines) (then_after entry) ∙ same)) it.bodies_fit

    opening_still : (few : Bool) → (after code settings state (if few then Open (state.last_epoch + 1) settings.room else Refuse settings.room (live state))).goroutines ≡ state.goroutines
    unfolding after
    opening_still true = refl
    opening_still false = refl

    pub opened : IsEnabled code settings core event.OpenAll →
        IsReachedBy program settings workers room bodies (core_of (journal ++ opening_of settings state ∷ []) words bodies hands copies)
    opened may = goes_on event.OpenAll may bodies (still_fits (opening_of settings state) (opening_still (nat_le (live state) settings.room)))

    closing_still : (after code settings state (Close state.active)).goroutines ≡ state.goroutines
    unfolding after
    closing_still = refl

    pub closed : IsEnabled code settings core event.CloseAll →
        IsReachedBy program settings workers room bodies (core_of (journal ++ Close state.active ∷ []) words bodies hands copies)
    closed may = goes_on event.CloseAll may bodies (still_fits (Close state.active) closing_still)

    -- the Record of a claim
    pub commits_by_claim : (a g : ℕ) → HoldsBy how.Claim g (hand core a) → stepped code settings core (event.Commit a g) ≡
        core_of (journal ++ Record a g ∷ []) words bodies (set hands a (with_copy None (hand core a))) (copies ++ kept_with state.active (copy_in (hand core a)))
    commits_by_claim a g has = claims_commit code settings state core a g (hand core a) has

    -- bodies after a Record and after a Start
    pub recorded_fits : (s : State) (a g : ℕ) (ws : ℕ → Word) → g < births s → BodiesFit program s.goroutines ws bodies → BodiesFit program (after code settings s (Record a g)).goroutines ws bodies
    recorded_fits s a g ws born fits =
        let turn = record_turns code settings s a g born in
        let t = after code settings s (Record a g) in
        turned_fits program s.goroutines t.goroutines s.last_epoch g ws bodies bodies turn.all.others (λ k other. refl)
        (own_stands program s.goroutines t.goroutines g (ws g) (body_at bodies g) turn.all.others.grows (ap standing (sym turn.own)) (fits g)) fits

    pub started_fits : (s : State) (w g : ℕ) (ws : ℕ → Word) → g < births s → BodiesFit program s.goroutines ws bodies → BodiesFit program (after code settings s (Start w g)).goroutines ws bodies
    started_fits s w g ws born fits =
        let turn = start_turns code settings s w g born in
        let t = after code settings s (Start w g) in
        turned_fits program s.goroutines t.goroutines s.last_epoch g ws bodies bodies turn.all.others (λ k other. refl)
        (own_stands program s.goroutines t.goroutines g (ws g) (body_at bodies g) turn.all.others.grows (ap standing (sym turn.own)) (fits g)) fits

    pub committed : (a g : ℕ) → IsEnabled code settings core (event.Commit a g) → HoldsBy how.Claim g (hand core a) →
        IsReachedBy program settings workers room bodies
        (core_of (journal ++ Record a g ∷ []) words bodies (set hands a (with_copy None (hand core a))) (copies ++ kept_with state.active (copy_in (hand core a))))
    committed a g may has =
        let is = commits_by_claim a g has in
        subst (IsReachedBy program settings workers room bodies) is
        (goes_on (event.Commit a g) may bodies
        (subst (λ (c : CoreState). BodiesFit program (now code settings c).goroutines (word c) bodies) (sym is)
        (subst (λ (s : State). BodiesFit program s.goroutines (word core) bodies) (sym (then_after (Record a g))) (recorded_fits state a g (word core) may.is_born it.bodies_fit))))

    -- what is legal of a commit, by how the actor came to hold the goroutine
    clash_how : (g : ℕ) (hold : Option Hold) → HoldsBy how.Claim g hold → HoldsBy how.Take g hold → ⊥
    clash_how g None x y = x
    clash_how g (Some hold) x y = let e : how.Claim ≡ how.Take = sym x.1 ∙ y.1 in absurd (cc)

    pub claim_of_commit : (a g : ℕ) → IsEnabled code settings core (event.Commit a g) → HoldsBy how.Claim g (hand core a) → MayCommitClaim code settings state core a g
    claim_of_commit a g may has = by may.holds_too
      where
        by : MayCommitClaim code settings state core a g ⊎ MayCommitDue code settings state core a g → MayCommitClaim code settings state core a g
        by (inl m) = m
        by (inr m) = absurd (clash_how g (hand core a) has m.has_taken)

    pub due_of_commit : (a g : ℕ) → IsEnabled code settings core (event.Commit a g) → (HoldsBy how.Claim g (hand core a) → ⊥) → MayCommitDue code settings state core a g
    due_of_commit a g may isnt = by may.holds_too
      where
        by : MayCommitClaim code settings state core a g ⊎ MayCommitDue code settings state core a g → MayCommitDue code settings state core a g
        by (inl m) = absurd (isnt m.has_claimed)
        by (inr m) = m

    pub take_not_claim : (a g : ℕ) → HoldsBy how.Take g (hand core a) → HoldsBy how.Claim g (hand core a) → ⊥
    take_not_claim a g taking claiming = clash_how g (hand core a) claiming taking

    -- The entry that is due.
    pub runs_it : (a g : ℕ) → MayCommitDue code settings state core a g → (worker state a).runs ≡ Some g
    runs_it a g m = due_runs code settings state a g (due code settings state a g) (due_is code settings state a g) m.is_legal

    module _ (w g : ℕ) (may : IsEnabled code settings core (event.Commit w g)) (m : MayCommitDue code settings state core w g) (old new : Body)
        (was : body_at bodies g ≡ Some old) (stands : StandsIn program new)
        (place : progress_of new ≡ further (points_of code settings state (due code settings state w g)) (progress_of old)) where
      abbrev made : Entry
      made = due code settings state w g

      abbrev n : ℕ
      n = points_of code settings state (due code settings state w g)

      pub due_count : map count_of (set bodies g (Some new)) ≡ set core.counts g (count core g + n)
      due_count =
          let passed : (progress_of new).count ≡ count core g + n =
          ap (λ p. p.count) place ∙ ap (λ k. k + n) (sym (count_there bodies g ∙ ap count_of was)) in
          map-set count_of bodies g (Some new) ∙ ap (set (map count_of bodies) g) passed

      pub due_core : core_of (journal ++ due code settings state w g ∷ []) words (set bodies g (Some new)) hands copies ≡ stepped code settings core (event.Commit w g)
      due_core =
          (λ i. record { journal = journal ++ made ∷ []; words = words; counts = due_count i; hands = hands; copies = copies })
          ∙ sym (takes_commit code settings state core w g (hand core w) m.has_taken)

      pub gone_on : IsReachedBy program settings workers room (set bodies g (Some new)) (core_of (journal ++ due code settings state w g ∷ []) words (set bodies g (Some new)) hands copies)
      gone_on =
          let turn = due_turns code settings state w g made (its_whole code settings it.events core state kept) (runs_it w g m) (due_is code settings state w g) in
          let t = after code settings state made in
          let fits : FitsBody program state.goroutines g (word core g) (Some old) = subst (FitsBody program state.goroutines g (word core g)) was (it.bodies_fit g) in
          let here : body_at (set bodies g (Some new)) g ≡ Some new = get_or-set_same bodies g (Some new) None (body_within g may.is_born) in
          let own : FitsBody program t.goroutines g (word core g) (body_at (set bodies g (Some new)) g) =
          subst (FitsBody program t.goroutines g (word core g)) (sym here)
          (own_goes program state.goroutines t.goroutines g w n (word core g) old new turn.all.others.grows turn.own fits stands place) in
          subst (IsReachedBy program settings workers room (set bodies g (Some new))) (sym due_core)
          (goes_on (event.Commit w g) may (set bodies g (Some new))
          (subst (λ (c : CoreState). BodiesFit program (now code settings c).goroutines (word c) (set bodies g (Some new))) due_core
          (subst (λ (s : State). BodiesFit program s.goroutines (word core) (set bodies g (Some new))) (sym (then_after made))
          (turned_fits program state.goroutines t.goroutines state.last_epoch g (word core) bodies (set bodies g (Some new)) turn.all.others
          (λ k other. get_or-set_other bodies g k (Some new) None other) own it.bodies_fit))))

    -- An Open where there is room, else a Refuse.
    pub opens_room : live state ≤ settings.room → opening_of settings state ≡ Open (state.last_epoch + 1) settings.room
    opens_room few = ap (λ b. if b then Open (state.last_epoch + 1) settings.room else Refuse settings.room (live state)) (le-leb (live state) settings.room few)

    pub refuses_full : settings.room < live state → opening_of settings state ≡ Refuse settings.room (live state)
    refuses_full many = ap (λ b. if b then Open (state.last_epoch + 1) settings.room else Refuse settings.room (live state)) (by (nat_le (live state) settings.room) refl)
      where
        by : (b : Bool) → nat_le (live state) settings.room ≡ b → b ≡ false
        by false e = refl
        by true e = let few = leb-true (live state) settings.room e in absurd (omega arith)

    pub epoch_fits : state.last_epoch + 1 < 2 ^ 32
    epoch_fits =
        let some = (is_kept code settings state (reached code settings it.events core state kept) it.in_range).numbered.epochs in let few = it.in_range.few_requests in omega arith

    -- The entries of a Begin.
    begun_all : (w g : ℕ) (s : State) → g < births s → BodiesFit program s.goroutines (word core) bodies → (b : Bool) →
        BodiesFit program (after_all code settings s (if b then Start w g ∷ [] else [])).goroutines (word core) bodies
    begun_all w g s born fits true = started_fits s w g (word core) born fits
    begun_all w g s born fits false = fits

    beginning_fits : (w g : ℕ) → g < births state → (b : Bool) →
        BodiesFit program (after_all code settings state (if b then Record w g ∷ start_of settings (after code settings state (Record w g)) w g else start_of settings state w g)).goroutines (word core) bodies
    beginning_fits w g born true =
        let t = after code settings state (Record w g) in
        let turn = record_turns code settings state w g born in
        begun_all w g t (let more = turn.all.others.grows in omega arith) (recorded_fits state w g (word core) born it.bodies_fit) (may_start settings t w g)
    beginning_fits w g born false = begun_all w g state born it.bodies_fit (may_start settings state w g)

    -- the core after a Begin, by whether the Record is needed
    pub needed_core : (w g : ℕ) → is_needed state g ≡ true →
        core_of ((journal ++ Record w g ∷ []) ++ start_of settings (last code settings (journal ++ Record w g ∷ [])) w g) words bodies (set hands w (with_copy None (hand core w)))
        (copies ++ kept_with state.active (copy_in (hand core w))) ≡ stepped code settings core (event.Begin w g)
    needed_core w g needed =
        let t = after code settings state (Record w g) in
        let entries : (journal ++ Record w g ∷ []) ++ start_of settings (last code settings (journal ++ Record w g ∷ [])) w g ≡ journal ++ beginning_of code settings state w g =
        append_assoc journal (Record w g ∷ []) (start_of settings (last code settings (journal ++ Record w g ∷ [])) w g)
        ∙ ap (λ (s : State). journal ++ Record w g ∷ start_of settings s w g) (then_after (Record w g))
        ∙ ap (λ b. journal ++ (if b then Record w g ∷ start_of settings t w g else start_of settings state w g)) (sym needed) in
        let copy : copy_in (hand core w) ≡ (if is_needed state g then copy_in (hand core w) else None) = ap (λ b. if b then copy_in (hand core w) else None) (sym needed) in
        λ i. core_of (entries i) words bodies (set hands w (with_copy None (hand core w))) (copies ++ kept_with state.active (copy i))

    pub recorded_core : (w g : ℕ) → is_needed state g ≡ false →
        core_of (journal ++ start_of settings state w g) words bodies (set hands w (with_copy None (hand core w))) copies ≡ stepped code settings core (event.Begin w g)
    recorded_core w g none =
        let t = after code settings state (Record w g) in
        let entries : journal ++ start_of settings state w g ≡ journal ++ beginning_of code settings state w g =
        ap (λ b. journal ++ (if b then Record w g ∷ start_of settings t w g else start_of settings state w g)) (sym none) in
        let kept_none : copies ≡ copies ++ kept_with state.active (if is_needed state g then copy_in (hand core w) else None) =
        sym (append-nil copies) ∙ ap (λ b. copies ++ kept_with state.active (if b then copy_in (hand core w) else None)) (sym none) in
        λ i. core_of (entries i) words bodies (set hands w (with_copy None (hand core w))) (kept_none i)

    needed_legal : (w g : ℕ) (b : Bool) → b ≡ true →
        AreLegal code settings state (if b then Record w g ∷ start_of settings (after code settings state (Record w g)) w g else start_of settings state w g) → May code settings state (Record w g)
    needed_legal w g true needed legal = legal.0
    needed_legal w g false needed legal = absurd (true≢false (sym needed))

    pub record_legal : (w g : ℕ) → IsEnabled code settings core (event.Begin w g) → is_needed state g ≡ true → May code settings state (Record w g)
    record_legal w g may needed = needed_legal w g (is_needed state g) needed may.holds_too.are_legal

    pub begun : (w g : ℕ) → IsEnabled code settings core (event.Begin w g) →
        IsReachedBy program settings workers room bodies
        (core_of (journal ++ beginning_of code settings state w g) words bodies (set hands w (with_copy None (hand core w)))
        (copies ++ kept_with state.active (if is_needed state g then copy_in (hand core w) else None)))
    begun w g may = goes_on (event.Begin w g) may bodies
        (subst (λ (s : State). BodiesFit program s.goroutines (word core) bodies) (sym (after_all-append code settings (first code settings) journal (beginning_of code settings state w g)))
        (beginning_fits w g may.is_born (is_needed state g)))

-- The first core, with no body in any cell.
same_place : {X : Type 0} (x : X) (n k : ℕ) → get_or (replicate n x) k x ≡ x
same_place x zero k = refl
same_place x (suc n) zero = refl
same_place x (suc n) (suc k) = same_place x n k

pub first_is : (settings : Settings) →
    core_of [] (replicate settings.cells Dead) (replicate settings.cells None) (replicate (settings.workers + 1) None) [] ≡ first_core settings
first_is settings =
    λ i. record { journal = []; words = replicate settings.cells Dead; counts = counts_none settings.cells i; hands = replicate (settings.workers + 1) None; copies = [] }

pub first_reached : (program : Parts) (settings : Settings) → AreInRange settings →
    IsReachedBy program settings settings.workers settings.room (replicate settings.cells None)
    (core_of [] (replicate settings.cells Dead) (replicate settings.cells None) (replicate (settings.workers + 1) None) [])
first_reached program settings range = record {
  in_range = range;
  its_workers = refl;
  its_room = refl;
  events = [];
  allowed = tt;
  is_after = first_is settings;
  bodies_fit = λ g. subst (FitsBody program (first (code_of program) settings).goroutines g (get_or (replicate settings.cells Dead) g Dead)) (sym (none_at settings.cells g))
      (same_place Dead settings.cells g);
}
