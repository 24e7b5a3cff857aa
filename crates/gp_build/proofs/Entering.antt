-- What tables have once needs and sites went into them.
use Rattle.std.proofs.Common.{◌≡◌, ◌+◌, ◌==◌, ◌<◌, ◌≤◌, ◌&&◌, ℕ, Bool, true, false, ◌||◌, List, [], ◌∷◌, ◌++◌, length, take, get_or, refl, sym, ap, subst, ◌∙◌, true≢false, if◌then◌else◌}
use Rattle.std.specs.List.{flat_map, list_any}
use Rattle.std.specs.Cmp.{IsEquivalence}
use Rattle.std.proofs.lemmas.Bool.Decides.{Decides-eqb}
use Rattle.std.proofs.lemmas.List.{take_more, take_all, map-append, map-id, append-nil}
use Rattle.std.proofs.lemmas.List.Concat.{flat_map-append, flat_map_single}
use Rattle.indexmap.specs.IndexSet.{insert_key, insert_all}
use Rattle.gp_isa.specs.declared.parts.Parts.{Parts}
use Rattle.gp_build.specs.declared.site.Routine.{Routine}
use Rattle.gp_build.specs.declared.site.Routine.TheVariants.{Numbered, LostEvents}
use Rattle.gp_build.specs.declared.site.Site.{Site}
use Rattle.gp_build.specs.declared.tables.Tables.{Tables}
use Rattle.gp_build.specs.Numbers.{Need, text, same_need, site_needs, routines_of}
use Rattle.gp_build.specs.Site.{same_site, same_routine, name_of, file_of}
use Rattle.gp_build.specs.kept.Tables.{with_needs, IsCovered, AreCovered, HasNeeds, Enters}
use Rattle.gp_build.specs.laws.Alike.{same_need_equiv, same_routine_equiv, same_site_equiv}

module _ {X : Type 0} {same : X → X → Bool} (laws : IsEquivalence same) where
  any-append : (q : X → Bool) (xs ys : List X) → list_any q xs ≡ true → list_any q (xs ++ ys) ≡ true
  any-append q [] ys some = absurd (true≢false (sym some))
  any-append q (x ∷ xs) ys some = by (q x) some (any-append q xs ys)
    where
      by : (b : Bool) → (b || list_any q xs) ≡ true → (list_any q xs ≡ true → list_any q (xs ++ ys) ≡ true) → (b || list_any q (xs ++ ys)) ≡ true
      by true some rest = refl
      by false some rest = rest some

  -- What is there stays there.
  has-insert_key : (q : X → Bool) (keys : List X) (x : X) → list_any q keys ≡ true → list_any q (insert_key same keys x) ≡ true
  has-insert_key q keys x some = by (list_any (same x) keys)
    where
      by : (b : Bool) → list_any q (if b then keys else keys ++ x ∷ []) ≡ true
      by true = some
      by false = any-append q keys (x ∷ []) some

  has-insert_all : (q : X → Bool) (keys xs : List X) → list_any q keys ≡ true → list_any q (insert_all same keys xs) ≡ true
  has-insert_all q keys [] some = some
  has-insert_all q keys (x ∷ xs) some = has-insert_all q (insert_key same keys x) xs (has-insert_key q keys x some)

  any-last : (keys : List X) (x : X) → list_any (same x) (keys ++ x ∷ []) ≡ true
  any-last [] x = ap (λ (b : Bool). b || false) (laws.refl x)
  any-last (k ∷ ks) x = by (same x k) (any-last ks x)
    where
      by : (b : Bool) → list_any (same x) (ks ++ x ∷ []) ≡ true → (b || list_any (same x) (ks ++ x ∷ [])) ≡ true
      by true rest = refl
      by false rest = rest

  -- What goes in is there.
  has-itself : (keys : List X) (x : X) → list_any (same x) (insert_key same keys x) ≡ true
  has-itself keys x = by (list_any (same x) keys) refl
    where
      by : (b : Bool) → list_any (same x) keys ≡ b → list_any (same x) (if b then keys else keys ++ x ∷ []) ≡ true
      by true e = e
      by false e = any-last keys x

  -- What is there needn't go in.
  insert_key-there : (keys : List X) (x : X) → list_any (same x) keys ≡ true → insert_key same keys x ≡ keys
  insert_key-there keys x some = ap (λ (b : Bool). if b then keys else keys ++ x ∷ []) some

  insert_all-append : (keys xs ys : List X) → insert_all same (insert_all same keys xs) ys ≡ insert_all same keys (xs ++ ys)
  insert_all-append keys [] ys = refl
  insert_all-append keys (x ∷ xs) ys = insert_all-append (insert_key same keys x) xs ys

both : (a b : Bool) → (a && b) ≡ true → a ≡ true
both true b h = refl
both false b h = absurd (true≢false (sym h))

same_routine-is : (a b : Routine) → same_routine a b ≡ true → a ≡ b
same_routine-is (Numbered f) (Numbered g) h = ap Numbered ((Decides-eqb f g).0 h)
same_routine-is (Numbered f) LostEvents h = absurd (true≢false (sym h))
same_routine-is LostEvents (Numbered g) h = absurd (true≢false (sym h))
same_routine-is LostEvents LostEvents h = refl

module _ (parts : Parts) (file : List ℕ) where
  grown-one : (strings : List Need) (functions : List Routine) (needs : List Need) (routines : List Routine) (site : Site)
      → IsCovered parts file strings functions site
      → IsCovered parts file (with_needs strings needs) (insert_all same_routine functions routines) site
  grown-one strings functions needs routines site covered = record {
    function = has-insert_all same_routine_equiv (same_routine site.routine) functions routines covered.function;
    name = has-insert_all same_need_equiv (same_need (text (name_of parts site.routine))) strings needs covered.name;
    filename = has-insert_all same_need_equiv (same_need (text (file_of file site.routine))) strings needs covered.filename;
  }

  -- What sites need is there also in larger tables.
  pub grown : (strings : List Need) (functions : List Routine) (needs : List Need) (routines : List Routine) (sites : List Site)
      → AreCovered parts file strings functions sites
      → AreCovered parts file (with_needs strings needs) (insert_all same_routine functions routines) sites
  grown strings functions needs routines [] covered = tt
  grown strings functions needs routines (site ∷ sites) covered =
      (grown-one strings functions needs routines site covered.0, grown strings functions needs routines sites covered.1)

  covered-append : (strings : List Need) (functions : List Routine) (sites : List Site) (site : Site)
      → AreCovered parts file strings functions sites → IsCovered parts file strings functions site → AreCovered parts file strings functions (sites ++ site ∷ [])
  covered-append strings functions [] site covered here = (here, tt)
  covered-append strings functions (s ∷ ss) site covered here = (covered.0, covered-append strings functions ss site covered.1 here)

  -- A site that goes in with what it needs has that.
  covered-itself : (strings : List Need) (functions : List Routine) (site : Site)
      → IsCovered parts file (with_needs strings (site_needs parts file site)) (insert_key same_routine functions site.routine) site
  covered-itself strings functions site =
      let name : Need = text (name_of parts site.routine) in
      let filename : Need = text (file_of file site.routine) in
      record {
        function = has-itself same_routine_equiv functions site.routine;
        name = has-insert_key same_need_equiv (same_need name) (insert_key same_need strings name) filename (has-itself same_need_equiv strings name);
        filename = has-itself same_need_equiv (insert_key same_need strings name) filename;
      }

  -- Among sites that have what they need is this one.
  found : (strings : List Need) (functions : List Routine) (sites : List Site) (site : Site) → list_any (same_site site) sites ≡ true
      → AreCovered parts file strings functions sites → IsCovered parts file strings functions site
  found strings functions [] site some covered = absurd (true≢false (sym some))
  found strings functions (s ∷ ss) site some covered = by (same_site site s) refl some (λ rest. found strings functions ss site rest covered.1)
    where
      by : (b : Bool) → same_site site s ≡ b → (b || list_any (same_site site) ss) ≡ true → (list_any (same_site site) ss ≡ true → IsCovered parts file strings functions site)
          → IsCovered parts file strings functions site
      by true e some rest =
          let routine : site.routine ≡ s.routine = same_routine-is site.routine s.routine (both (same_routine site.routine s.routine) (site.line == s.line) e) in
          record {
            function = ap (λ (r : Routine). list_any (same_routine r) functions) routine ∙ covered.0.function;
            name = ap (λ (r : Routine). list_any (same_need (text (name_of parts r))) strings) routine ∙ covered.0.name;
            filename = ap (λ (r : Routine). list_any (same_need (text (file_of file r))) strings) routine ∙ covered.0.filename;
          }
      by false e some rest = rest some

  -- A site goes in with what it needs.
  covered_more : (strings : List Need) (functions : List Routine) (sites : List Site) (site : Site) → AreCovered parts file strings functions sites
      → AreCovered parts file (with_needs strings (site_needs parts file site)) (insert_key same_routine functions site.routine) (insert_key same_site sites site)
  covered_more strings functions sites site covered = by (list_any (same_site site) sites)
    where
      more : AreCovered parts file (with_needs strings (site_needs parts file site)) (insert_key same_routine functions site.routine) sites
      more = grown strings functions (site_needs parts file site) (site.routine ∷ []) sites covered

      by : (b : Bool) → AreCovered parts file (with_needs strings (site_needs parts file site)) (insert_key same_routine functions site.routine) (if b then sites else sites ++ site ∷ [])
      by true = more
      by false = covered-append _ _ sites site more (covered-itself strings functions site)

  -- What covers sites covers them by whatever name.
  moved : (s t : List Need) (f g : List Routine) (l m : List Site) → t ≡ s → g ≡ f → m ≡ l → AreCovered parts file s f l → AreCovered parts file t g m
  moved s t f g l m es ef el covered =
      subst (λ (keys : List Need). AreCovered parts file keys g m) (sym es)
      (subst (λ (keys : List Routine). AreCovered parts file s keys m) (sym ef)
      (subst (λ (keys : List Site). AreCovered parts file s f keys) (sym el) covered))

  -- A site went in, and what it needs.
  pub enters_site : (old new : Tables) (site : Site) → HasNeeds parts file old
      → new.strings.keys ≡ with_needs old.strings.keys (site_needs parts file site) → new.locations.keys ≡ insert_key same_site old.locations.keys site
      → new.functions.keys ≡ insert_key same_routine old.functions.keys site.routine → Enters parts file (site_needs parts file site) (site ∷ []) old new
  enters_site old new site has strings locations functions = record {
    strings = strings;
    locations = locations;
    functions = functions;
    has_needs = moved _ _ _ _ _ _ strings functions locations (covered_more old.strings.keys old.functions.keys old.locations.keys site has);
  }

  -- A site was there, and so was what it needs.
  pub enters_again : (old new : Tables) (site : Site) → HasNeeds parts file old → list_any (same_site site) old.locations.keys ≡ true
      → new.strings.keys ≡ old.strings.keys → new.locations.keys ≡ insert_key same_site old.locations.keys site → new.functions.keys ≡ old.functions.keys
      → Enters parts file (site_needs parts file site) (site ∷ []) old new
  enters_again old new site has there strings locations functions =
      let covered : IsCovered parts file old.strings.keys old.functions.keys site = found old.strings.keys old.functions.keys old.locations.keys site there has in
      let name : insert_key same_need old.strings.keys (text (name_of parts site.routine)) ≡ old.strings.keys =
      insert_key-there same_need_equiv old.strings.keys (text (name_of parts site.routine)) covered.name in
      let filename : insert_key same_need old.strings.keys (text (file_of file site.routine)) ≡ old.strings.keys =
      insert_key-there same_need_equiv old.strings.keys (text (file_of file site.routine)) covered.filename in
      enters_site old new site has
      (strings ∙ sym (ap (λ (keys : List Need). insert_key same_need keys (text (file_of file site.routine))) name ∙ filename))
      locations
      (functions ∙ sym (insert_key-there same_routine_equiv old.functions.keys site.routine covered.function))

  -- A site was there, so nothing went in.
  pub enters_there : (all : Tables) (site : Site) → HasNeeds parts file all → list_any (same_site site) all.locations.keys ≡ true
      → Enters parts file (site_needs parts file site) (site ∷ []) all all
  enters_there all site has there =
      enters_again all all site has there refl (sym (insert_key-there same_site_equiv all.locations.keys site there)) refl

  -- Nothing went in.
  pub enters_none : (all : Tables) → HasNeeds parts file all → Enters parts file [] [] all all
  enters_none all has = record { strings = refl; locations = refl; functions = refl; has_needs = has }

  -- One thing went in after the other.
  pub enters_both : (n m : List Need) (s t : List Site) (a b c : Tables) → Enters parts file n s a b → Enters parts file m t b c → Enters parts file (n ++ m) (s ++ t) a c
  enters_both n m s t a b c first second = record {
    strings = second.strings ∙ ap (λ (keys : List Need). with_needs keys m) first.strings ∙ insert_all-append same_need_equiv a.strings.keys n m;
    locations = second.locations ∙ ap (λ (keys : List Site). insert_all same_site keys t) first.locations ∙ insert_all-append same_site_equiv a.locations.keys s t;
    functions = second.functions ∙ ap (λ (keys : List Routine). insert_all same_routine keys (routines_of t)) first.functions
        ∙ insert_all-append same_routine_equiv a.functions.keys (routines_of s) (routines_of t)
        ∙ ap (insert_all same_routine a.functions.keys) (sym (map-append (λ (site : Site). site.routine) s t));
    has_needs = second.has_needs;
  }

  -- Needs went in besides.
  pub enters_needs : (n m : List Need) (s : List Site) (a b c : Tables) → Enters parts file n s a b → c.strings.keys ≡ with_needs b.strings.keys m
      → c.locations.keys ≡ b.locations.keys → c.functions.keys ≡ b.functions.keys → Enters parts file (n ++ m) s a c
  enters_needs n m s a b c first strings locations functions = record {
    strings = strings ∙ ap (λ (keys : List Need). with_needs keys m) first.strings ∙ insert_all-append same_need_equiv a.strings.keys n m;
    locations = locations ∙ first.locations;
    functions = functions ∙ first.functions;
    has_needs = moved _ _ _ _ _ _ strings functions locations (grown b.strings.keys b.functions.keys m [] b.locations.keys first.has_needs);
  }

  -- One element more of a list, each of which needs something.
  pub enters_more : {X : Type 0} (needs : X → List Need) (sites : X → List Site) (xs : List X) (i : ℕ) (d : X) (a b c : Tables) → i < length xs
      → Enters parts file (flat_map needs (take i xs)) (flat_map sites (take i xs)) a b → Enters parts file (needs (get_or xs i d)) (sites (get_or xs i d)) b c
      → Enters parts file (flat_map needs (take (i + 1) xs)) (flat_map sites (take (i + 1) xs)) a c
  enters_more {X} needs sites xs i d a b c lt first second =
      subst (λ (n : List Need). Enters parts file n (flat_map sites (take (i + 1) xs)) a c) (sym (last needs))
      (subst (λ (s : List Site). Enters parts file (flat_map needs (take i xs) ++ needs (get_or xs i d)) s a c) (sym (last sites))
      (enters_both _ _ _ _ a b c first second))
    where
      last : {Y : Type 0} (f : X → List Y) → flat_map f (take (i + 1) xs) ≡ flat_map f (take i xs) ++ f (get_or xs i d)
      last {Y} f =
          ap (flat_map f) (take_more xs i d lt) ∙ flat_map-append f (take i xs) (get_or xs i d ∷ [])
          ∙ ap (λ (l : List Y). flat_map f (take i xs) ++ l) (append-nil (f (get_or xs i d)))

  -- A whole stack went in.
  pub enters_stack : (needs : Site → List Need) (stack : List Site) (n : ℕ) (a b : Tables) → length stack ≤ n
      → Enters parts file (flat_map needs (take n stack)) (flat_map (λ site. site ∷ []) (take n stack)) a b → Enters parts file (flat_map needs stack) stack a b
  enters_stack needs stack n a b all entered =
      subst (λ (sites : List Site). Enters parts file (flat_map needs stack) sites a b) (flat_map_single (λ (site : Site). site) stack ∙ map-id stack)
      (subst (λ (sites : List Site). Enters parts file (flat_map needs sites) (flat_map (λ site. site ∷ []) sites) a b) (take_all n stack all) entered)
