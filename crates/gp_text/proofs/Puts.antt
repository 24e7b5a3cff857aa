-- Items that are put on a page one after another.
use Rattle.std.proofs.Common.{◌≡◌, inl, inr, ℕ, zero, suc, ◌+◌, ◌<◌, ◌≤◌, ◌==◌, true, false, cond, max, List, [], ◌∷◌, ◌++◌, length, get_or, take, refl, sym, ap, subst, ◌∙◌, arith, add-one, append_assoc, length-append}
use Rattle.std.specs.Prelude.{map, codes, decimal, OnOk, Result, Ok, Err}
use Rattle.std.specs.List.{flat_map}
use Rattle.std.proofs.lemmas.List.{append-nil, take_more, take_all}
use Rattle.std.proofs.lemmas.List.Concat.{flat_map-append}
use Rattle.std.proofs.lemmas.Bool.Decides.{nat_tests}
use Rattle.gp_isa.specs.declared.parts.Parts.{Parts}
use Rattle.gp_isa.specs.declared.parts.Function.{Function}
use Rattle.gp_isa.specs.declared.parts.ChannelDecl.{ChannelDecl}
use Rattle.gp_isa.specs.declared.parts.MutexDecl.{MutexDecl}
use Rattle.gp_isa.specs.declared.statement.Stmt.{Stmt}
use Rattle.gp_isa.specs.declared.statement.What.{What}
use Rattle.gp_isa.specs.declared.statement.What.TheVariants as what
use Rattle.gp_isa.proofs.Actions.{action-work, action-call, action-loop, action-send, action-recv, action-lock, action-unlock, action-spawn, action-labels}
use Rattle.gp_isa.specs.Statement.{action, action_of, line_of, most_bodies}
use Rattle.gp_text.specs.Text.{Item, item, function_name, channel_name, mutex_name, set_name, action_items, body_items, function_items, channel_item, mutex_item, set_item, items_of, line_text, last_line, lines_text, text_of}
use Rattle.gp_text.specs.Page.{PutsAll, IsReaching}
use Rattle.gp_text.proofs.Told.{told}

pub last-append : (a b : List Item) → last_line (a ++ b) ≡ max (last_line a) (last_line b)
last-append [] b = omega arith
last-append (i ∷ a) b = let more = last-append a b in omega arith

pub text-append : (a b : List Item) (line : ℕ) → line_text (a ++ b) line ≡ line_text a line ++ line_text b line
text-append a b line = flat_map-append (λ (i : Item). cond (i.line == line) i.text []) a b

pub puts_none : (page : List (List ℕ)) → PutsAll page page []
puts_none page = record { count = omega arith; each = λ n. sym (append-nil (get_or page n [])) }

pub puts_append : (old mid new : List (List ℕ)) (a b : List Item) → PutsAll old mid a → PutsAll mid new b → PutsAll old new (a ++ b)
puts_append old mid new a b p q = record {
  count = let e = last-append a b in let f = p.count in let g = q.count in omega arith;
  each = λ n.
      q.each n ∙ ap (λ t. t ++ line_text b (n + 1)) (p.each n) ∙ append_assoc (get_or old n []) (line_text a (n + 1)) (line_text b (n + 1))
      ∙ ap (λ t. get_or old n [] ++ t) (sym (text-append a b (n + 1)));
}

-- the items of one more element of a list
pub puts_more : {X : Type 0} (items : X → List Item) (old mid new : List (List ℕ)) (xs : List X) (at : ℕ) (x : X) → at < length xs → x ≡ get_or xs at x → PutsAll old mid (flat_map items (take at xs)) → PutsAll mid new (items x) →
    PutsAll old new (flat_map items (take (at + 1) xs))
puts_more items old mid new xs at x within is so_far one =
    let grown : take (at + 1) xs ≡ take at xs ++ x ∷ [] = take_more xs at x within ∙ ap (λ y. take at xs ++ y ∷ []) (sym is) in
    let whole : flat_map items (take (at + 1) xs) ≡ flat_map items (take at xs) ++ items x = ap (flat_map items) grown ∙ flat_map-append items (take at xs) (x ∷ []) ∙ ap (λ l. flat_map items (take at xs) ++ l) (append-nil (items x)) in
    subst (PutsAll old new) (sym whole) (puts_append old mid new (flat_map items (take at xs)) (items x) so_far one)

single : {X : Type 0} (of : X → Item) (xs : List X) → flat_map (λ x. of x ∷ []) xs ≡ map of xs
single of [] = refl
single of (x ∷ xs) = ap (λ l. of x ∷ l) (single of xs)

pub puts_map : {X : Type 0} (of : X → Item) (old new : List (List ℕ)) (xs : List X) → PutsAll old new (flat_map (λ x. of x ∷ []) xs) → PutsAll old new (map of xs)
puts_map of old new xs h = subst (PutsAll old new) (single of xs) h

-- A page on which items were put has their text.
lines_joined : (page : List (List ℕ)) (items : List Item) (n : ℕ) → ((k : ℕ) → get_or page k [] ≡ line_text items (k + 1)) → n ≤ length page → flat_map (λ line. line ++ 10 ∷ []) (take n page) ≡ lines_text items n
lines_joined page items zero each within = refl
lines_joined page items (suc n) each within =
    let grown : take (suc n) page ≡ take n page ++ get_or page n [] ∷ [] = ap (λ m. take m page) (sym (add-one n)) ∙ take_more page n [] (omega arith) in
    ap (flat_map (λ line. line ++ 10 ∷ [])) grown ∙ flat_map-append (λ line. line ++ 10 ∷ []) (take n page) (get_or page n [] ∷ [])
    ∙ ap (λ l. flat_map (λ line. line ++ 10 ∷ []) (take n page) ++ l) (append-nil (get_or page n [] ++ 10 ∷ []))
    ∙ sym (append_assoc (flat_map (λ line. line ++ 10 ∷ []) (take n page)) (get_or page n []) (10 ∷ []))
    ∙ ap (λ l. l ++ get_or page n [] ++ 10 ∷ []) (lines_joined page items n each (omega arith))
    ∙ ap (λ t. lines_text items n ++ t ++ 10 ∷ []) (each n ∙ ap (line_text items) (add-one n))

pub page_text : (page : List (List ℕ)) (items : List Item) → PutsAll [] page items → flat_map (λ line. line ++ 10 ∷ []) page ≡ lines_text items (last_line items)
page_text page items puts =
    let size : length page ≡ last_line items = let c = puts.count in omega arith in
    ap (flat_map (λ line. line ++ 10 ∷ [])) (sym (take_all (length page) page (omega arith)))
    ∙ lines_joined page items (length page) (λ k. puts.each k) (omega arith)
    ∙ ap (lines_text items) size

differ : (n at : ℕ) → (n == at) ≡ false → n ≡ at → ⊥
differ n at f e = grind (arith, nat_tests)

-- one text more on a line
pub puts_one : (old mid new : List (List ℕ)) (line at : ℕ) (text : List ℕ) → line ≡ at + 1 → length mid ≡ max (length old) line → ((n : ℕ) → get_or mid n [] ≡ get_or old n []) → length new ≡ length mid
    → get_or new at [] ≡ get_or mid at [] ++ text → ((n : ℕ) → (n ≡ at → ⊥) → get_or new n [] ≡ get_or mid n []) → PutsAll old new (item line text ∷ [])
puts_one old mid new line at text line_is count each same here there = record {
  count = omega arith;
  each = λ n. elim (told (n == at)) [
    | inl t ↦
        let e : n ≡ at = grind (arith, nat_tests) in
        let test : (line == n + 1) ≡ true = grind (arith, nat_tests) in
        rw test (subst (λ k. get_or new k [] ≡ get_or old k [] ++ (text ++ [])) (sym e) (here ∙ ap (λ t. t ++ text) (each at) ∙ ap (λ t. get_or old at [] ++ t) (sym (append-nil text))))
    | inr f ↦
        let other : n ≡ at → ⊥ = λ e. absurd (differ n at f e) in
        let test : (line == n + 1) ≡ false = grind (arith, nat_tests) in
        rw test (there n other ∙ each n ∙ sym (append-nil (get_or old n [])))
  ];
}

-- there is no line 0
pub puts_nowhere : (page : List (List ℕ)) (line : ℕ) (text : List ℕ) → line ≡ 0 → PutsAll page page (item line text ∷ [])
puts_nowhere page line text none = record {
  count = omega arith;
  each = λ n.
      let test : (line == n + 1) ≡ false = grind (arith, nat_tests) in
      rw test (sym (append-nil (get_or page n [])));
}

-- what a statement puts on lines, in a body in which loops stand so deep inside each other
abbrev pub statement_items : Parts → ℕ → Stmt → List Item
statement_items parts deep s = action_items parts (body_items parts deep) (line_of s) (action_of s)

pub body_items-suc : (parts : Parts) (deep : ℕ) (body : List Stmt) → body_items parts (suc deep) body ≡ flat_map (statement_items parts deep) body
unfolding body_items
body_items-suc parts deep body = refl

pub body_items-zero : (parts : Parts) (body : List Stmt) → body_items parts 0 body ≡ []
unfolding body_items
body_items-zero parts body = refl

-- lines that say nothing are put behind a page
push_empty : (xs : List (List ℕ)) (n : ℕ) → get_or (xs ++ [] ∷ []) n [] ≡ get_or xs n []
push_empty [] zero = refl
push_empty [] (suc n) = refl
push_empty (x ∷ xs) zero = refl
push_empty (x ∷ xs) (suc n) = push_empty xs n

pub reached_none : (page : List (List ℕ)) (count : ℕ) → IsReaching page page count
reached_none page count = record { few = omega arith; most = omega arith; each = λ n. refl }

pub reached_more : (old mid new : List (List ℕ)) (count : ℕ) → IsReaching old mid count → length mid < count → new ≡ mid ++ [] ∷ [] → IsReaching old new count
reached_more old mid new count reached less new_is =
    let size = ap length new_is in
    let one = length-append mid ([] ∷ []) in
    record {
      few = let f = reached.few in omega arith;
      most = let f = reached.most in omega arith;
      each = λ n. ap (λ (xs : List (List ℕ)). get_or xs n []) new_is ∙ push_empty mid n ∙ reached.each n;
    }

-- All parts of a program are put on a page, and its lines are the program's text.
pub printed : (parts : Parts) (none functions channels mutexes all : List (List ℕ)) → none ≡ [] → PutsAll none functions (flat_map (function_items parts) parts.functions) → PutsAll functions channels (map channel_item parts.channels)
    → PutsAll channels mutexes (map mutex_item parts.mutexes) → PutsAll mutexes all (map set_item parts.labels) → flat_map (λ line. line ++ 10 ∷ []) all ≡ text_of parts
unfolding items_of text_of
printed parts none functions channels mutexes all none_is f c m s =
    let first = puts_append none functions channels _ _ f c in
    let second = puts_append none channels mutexes _ _ first m in
    let whole = puts_append none mutexes all _ _ second s in
    page_text all (items_of parts) (subst (λ (page : List (List ℕ)). PutsAll page all (items_of parts)) none_is whole)

-- An answer that puts further items, and one whose items are others' under another name.
pub then_puts : {E : Type 0} (r : Result (Unit {0}) E) (old mid new : List (List ℕ)) (a b items : List Item) → PutsAll old mid a → OnOk r (PutsAll mid new b) → a ++ b ≡ items → OnOk r (PutsAll old new items)
then_puts (Ok u) old mid new a b items p q e = subst (PutsAll old new) e (puts_append old mid new a b p q)
then_puts (Err x) old mid new a b items p q e = tt

pub puts_as : {E : Type 0} (r : Result (Unit {0}) E) (old new : List (List ℕ)) (a items : List Item) → OnOk r (PutsAll old new a) → a ≡ items → OnOk r (PutsAll old new items)
puts_as r old new a items p e = subst (λ i. OnOk r (PutsAll old new i)) e p

-- What each statement puts on its line.
pub work_is : (parts : Parts) (inner : List Stmt → List Item) (line n : ℕ) (w : What) (text : List ℕ) → w ≡ what.Work n → text ≡ codes "work " ++ decimal n → item line text ∷ [] ≡ action_items parts inner line (action w)
unfolding action_items
work_is parts inner line n w text is text_is = ap (λ t. item line t ∷ []) text_is ∙ sym (ap (λ x. action_items parts inner line (action x)) is ∙ ap (action_items parts inner line) (action-work n))

pub call_is : (parts : Parts) (inner : List Stmt → List Item) (line f : ℕ) (w : What) (name : List ℕ) → w ≡ what.Call f → name ≡ function_name parts f → item line (codes "call " ++ name) ∷ [] ≡ action_items parts inner line (action w)
unfolding action_items
call_is parts inner line f w name is name_is = ap (λ t. item line (codes "call " ++ t) ∷ []) name_is ∙ sym (ap (λ x. action_items parts inner line (action x)) is ∙ ap (action_items parts inner line) (action-call f))

pub spawn_is : (parts : Parts) (inner : List Stmt → List Item) (line f : ℕ) (w : What) (name : List ℕ) → w ≡ what.Spawn f → name ≡ function_name parts f → item line (codes "spawn " ++ name) ∷ [] ≡ action_items parts inner line (action w)
unfolding action_items
spawn_is parts inner line f w name is name_is = ap (λ t. item line (codes "spawn " ++ t) ∷ []) name_is ∙ sym (ap (λ x. action_items parts inner line (action x)) is ∙ ap (action_items parts inner line) (action-spawn f))

pub send_is : (parts : Parts) (inner : List Stmt → List Item) (line c : ℕ) (w : What) (name : List ℕ) → w ≡ what.Send c → name ≡ channel_name parts c → item line (codes "send " ++ name) ∷ [] ≡ action_items parts inner line (action w)
unfolding action_items
send_is parts inner line c w name is name_is = ap (λ t. item line (codes "send " ++ t) ∷ []) name_is ∙ sym (ap (λ x. action_items parts inner line (action x)) is ∙ ap (action_items parts inner line) (action-send c))

pub recv_is : (parts : Parts) (inner : List Stmt → List Item) (line c : ℕ) (w : What) (name : List ℕ) → w ≡ what.Recv c → name ≡ channel_name parts c → item line (codes "recv " ++ name) ∷ [] ≡ action_items parts inner line (action w)
unfolding action_items
recv_is parts inner line c w name is name_is = ap (λ t. item line (codes "recv " ++ t) ∷ []) name_is ∙ sym (ap (λ x. action_items parts inner line (action x)) is ∙ ap (action_items parts inner line) (action-recv c))

pub lock_is : (parts : Parts) (inner : List Stmt → List Item) (line m : ℕ) (w : What) (name : List ℕ) → w ≡ what.Lock m → name ≡ mutex_name parts m → item line (codes "lock " ++ name) ∷ [] ≡ action_items parts inner line (action w)
unfolding action_items
lock_is parts inner line m w name is name_is = ap (λ t. item line (codes "lock " ++ t) ∷ []) name_is ∙ sym (ap (λ x. action_items parts inner line (action x)) is ∙ ap (action_items parts inner line) (action-lock m))

pub unlock_is : (parts : Parts) (inner : List Stmt → List Item) (line m : ℕ) (w : What) (name : List ℕ) → w ≡ what.Unlock m → name ≡ mutex_name parts m → item line (codes "unlock " ++ name) ∷ [] ≡ action_items parts inner line (action w)
unfolding action_items
unlock_is parts inner line m w name is name_is = ap (λ t. item line (codes "unlock " ++ t) ∷ []) name_is ∙ sym (ap (λ x. action_items parts inner line (action x)) is ∙ ap (action_items parts inner line) (action-unlock m))

pub labels_is : (parts : Parts) (inner : List Stmt → List Item) (line s : ℕ) (w : What) (name : List ℕ) → w ≡ what.Labels s → name ≡ set_name parts s → item line (codes "labels " ++ name) ∷ [] ≡ action_items parts inner line (action w)
unfolding action_items
labels_is parts inner line s w name is name_is = ap (λ t. item line (codes "labels " ++ t) ∷ []) name_is ∙ sym (ap (λ x. action_items parts inner line (action x)) is ∙ ap (action_items parts inner line) (action-labels s))

pub loop_is : (parts : Parts) (inner : List Stmt → List Item) (line n end : ℕ) (w : What) (body : List Stmt) (text : List ℕ) → w ≡ what.Loop n body end → text ≡ codes "loop " ++ decimal n ++ codes " {" →
    (item line text ∷ []) ++ inner body ++ (item end (codes "}") ∷ []) ≡ action_items parts inner line (action w)
unfolding action_items
loop_is parts inner line n end w body text is text_is =
    ap (λ t. item line t ∷ (inner body ++ item end (codes "}") ∷ [])) text_is ∙ sym (ap (λ x. action_items parts inner line (action x)) is ∙ ap (action_items parts inner line) (action-loop n body end))

pub channel_is : (x : ChannelDecl) (name text : List ℕ) → name ≡ x.name → text ≡ codes "chan " ++ (name ++ (codes " " ++ decimal x.capacity)) → item x.line text ∷ [] ≡ channel_item x ∷ []
channel_is x name text name_is text_is =
    ap (λ t. item x.line t ∷ []) (text_is ∙ ap (λ t. codes "chan " ++ (t ++ (codes " " ++ decimal x.capacity))) name_is ∙ ap (λ t. codes "chan " ++ t) (sym (append_assoc x.name (codes " ") (decimal x.capacity))))

pub mutex_is : (x : MutexDecl) (name : List ℕ) → name ≡ x.name → item x.line (codes "mutex " ++ name) ∷ [] ≡ mutex_item x ∷ []
mutex_is x name name_is = ap (λ t. item x.line (codes "mutex " ++ t) ∷ []) name_is

pub function_is : (parts : Parts) (f : Function) (body : List Stmt) (name text : List ℕ) → name ≡ f.name → body ≡ f.body → text ≡ codes "func " ++ (name ++ codes " {") →
    (item f.line text ∷ []) ++ body_items parts most_bodies body ++ (item f.end (codes "}") ∷ []) ≡ function_items parts f
function_is parts f body name text name_is body_is text_is =
    ap (λ t. item f.line t ∷ (body_items parts most_bodies body ++ item f.end (codes "}") ∷ [])) (text_is ∙ ap (λ t. codes "func " ++ (t ++ codes " {")) name_is)
    ∙ ap (λ b. item f.line (codes "func " ++ f.name ++ codes " {") ∷ (body_items parts most_bodies b ++ item f.end (codes "}") ∷ [])) body_is

-- all items of a list
pub puts_whole : {X : Type 0} (items : X → List Item) (old new : List (List ℕ)) (xs : List X) (at : ℕ) → length xs ≤ at → PutsAll old new (flat_map items (take at xs)) → PutsAll old new (flat_map items xs)
puts_whole items old new xs at over puts = subst (λ ys. PutsAll old new (flat_map items ys)) (take_all at xs over) puts
