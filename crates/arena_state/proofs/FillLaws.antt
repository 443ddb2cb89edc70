-- Slots that are filled one after another.
use Rattle.std.proofs.Common.{◌≡◌, ◌≢◌, ℕ, zero, suc, ◌+◌, ◌/◌, ◌<◌, ◌≤◌, min, Bool, true, false, ◌||◌, ◌==◌, List, [], ◌∷◌, ◌++◌, length, get_or, take, replicate, Option, Some, None, ◌&&◌, refl, sym, ap, ◌∙◌, subst, arith, inl, inr, sum_by, length-append, length-set, get_or-set_same, get_or-set_other}
use Rattle.std.proofs.lemmas.Bool.{and_parts, cases_Bool, both_ways, or_cases, eqb-true, eq-eqb}
use Rattle.std.proofs.lemmas.List.{take_more, get_or-take, length-take}
use Rattle.containers.proofs.Distinct.{has_append}
use Rattle.std.proofs.lemmas.List.Sums.{sum_by-cons, sum_by-append, sum_by-set}
use Rattle.base.specs.Live.{has}
use Rattle.containers.specs.Objects.{Apart}
use Rattle.containers.specs.Tree.{Tree, ids_in, HasSlot}
use Rattle.containers.specs.WellFormed.{IsWellFormed}
use Rattle.containers.proofs.Directories.{one_place}
use Rattle.containers.proofs.Lists.{or_no_left, or_no_right}
use Rattle.containers.proofs.Views.{at_has, has_at}
use Rattle.label_intern.specs.declared.held.Held.{Held}
use Rattle.label_intern.specs.Held.{held_at, label_of, owners_in}
use Rattle.kernel_rules.specs.State.{State, listed, lists_of, use_of, object_at, of_object, own_cost, quota_at}
use Rattle.kernel_rules.specs.WellFormed.{is_stored, is_whole, is_whole_body}
use Rattle.kernel_rules.specs.declared.objects.Body as body
use Rattle.kernel_rules.specs.declared.objects.Body.TheVariants as is
use Rattle.kernel_laws.proofs.Bounds.{root_bounds}
use Rattle.kernel_rules.specs.declared.objects.Mapping.{Mapping}
use Rattle.kernel_rules.specs.declared.objects.Object.{Object}
use Rattle.arena_memory.specs.Segments.{all_pages, bytes_in, pages_of}
use Rattle.arena_memory.specs.Queues.{packets_in}
use Rattle.arena_memory.specs.Mappings.{places_at}
use Rattle.arena_state.specs.declared.records.Record.{Record}
use Rattle.arena_state.specs.declared.holdings.Holdings.{Holdings}
use Rattle.arena_state.specs.Filled.{Content, filled}
use Rattle.arena_state.specs.Assembled.{assembled, blank, claims, claims_in, record_in}
use Rattle.arena_state.specs.Stocked.{content_in}
use Rattle.arena_state.specs.Restored.{held_of, uses_own, Hold, Holds, IsFilled, IsHoldable, IsPut, IsRecordOf}
use Rattle.arena_state.proofs.HoldLaws.{bounds, found_here, here_kept, root_there}
use Rattle.arena_state.proofs.RecordLaws.{assembled_same, sum_same_in}

-- one of a sum
sum_member : (f : ℕ → ℕ) (xs : List ℕ) (x : ℕ) → has xs x ≡ true → f x ≤ sum_by f xs
sum_member f [] x h = absurd (both_ways false refl h)
sum_member f (y ∷ ys) x h = elim (or_cases (x == y) (has ys x) h) [
  | inl is ↦ let same : f x ≡ f y = ap f (eqb-true x y is) in omega (arith, same, sum_by-cons f y ys)
  | inr later ↦ let rest = sum_member f ys x later in omega (arith, rest, sum_by-cons f y ys)
]

-- a place of a list is among those before a later one
among : (xs : List ℕ) (n k : ℕ) → k < n → k < length xs → has (take n xs) (get_or xs k 0) ≡ true
among [] n k lt within = absurd (omega (arith, within))
among (x ∷ xs) zero k lt within = absurd (omega (arith, lt))
among (x ∷ xs) (suc n) zero lt within = ap (λ (b : Bool). b || has (take n xs) x) (eq-eqb x x refl)
among (x ∷ xs) (suc n) (suc k) lt within = or_right' (get_or xs k 0 == x) (has (take n xs) (get_or xs k 0)) (among xs n k (omega (arith, lt)) (omega (arith, within)))
  where
    or_right' : (a b : Bool) → b ≡ true → (a || b) ≡ true
    or_right' true b h = refl
    or_right' false b h = h

min_le : (a b c : ℕ) → c ≡ min a b → c ≤ a
min_le a b c e = omega (arith, e)

-- and the next one is not, where no two are the same
pub not_among : (xs : List ℕ) (n m : ℕ) → Apart xs → n ≤ m → m < length xs → has (take n xs) (get_or xs m 0) ≡ false
not_among xs n m apart le lt = elim (cases_Bool (has (take n xs) (get_or xs m 0))) [
  | inl there ↦
      let at = at_has (take n xs) (get_or xs m 0) there in
      let short : length (take n xs) ≤ n = min_le n (length xs) (length (take n xs)) (length-take n xs) in
      let same : get_or (take n xs) at.0 0 ≡ get_or xs at.0 0 = get_or-take n xs at.0 0 (omega (arith, at.1, short)) in
      absurd (apart at.0 m (omega (arith, at.1, short, le)) lt (sym same ∙ at.2))
  | inr off ↦ off
]

hold_kept : (s : State) (h h' : Holdings) (es : List (ℕ × Object)) (slots : List ℕ)
    → ((k : ℕ) → k < length es → k < length slots → (e : ℕ × Object) → Holds s h (get_or slots k 0) e → Holds s h' (get_or slots k 0) e)
    → Hold s h es slots → Hold s h' es slots
hold_kept s h h' [] slots f hold = tt
hold_kept s h h' (e ∷ es) [] f hold = hold
hold_kept s h h' (e ∷ es) (slot ∷ slots) f hold = (
  f 0 (omega arith) (omega arith) e hold.0,
  hold_kept s h h' es slots (λ k lt within x holds. f (suc k) (omega (arith, lt)) (omega (arith, within)) x holds) hold.1,
)

hold_more : (s : State) (h : Holdings) (es : List (ℕ × Object)) (e : ℕ × Object) (slots : List ℕ) → length es < length slots
    → Hold s h es slots → Holds s h (get_or slots (length es) 0) e → Hold s h (es ++ e ∷ []) slots
hold_more s h [] e [] lt hold one = absurd (omega (arith, lt))
hold_more s h [] e (slot ∷ slots) lt hold one = (one, tt)
hold_more s h (x ∷ es) e [] lt hold one = hold
hold_more s h (x ∷ es) e (slot ∷ slots) lt hold one = (hold.0, hold_more s h es e slots (omega (arith, lt)) hold.1 one)

-- a record whose labels stand
record_kept : (old new : List (Option Held)) (x : Object) (used : ℕ) (r : Record) → ((j : ℕ) → 0 < claims j r → label_of new j ≡ label_of old j)
    → IsRecordOf old x used r → IsRecordOf new x used r
record_kept old new x used r same is =
    let all : assembled new r (listed x.body) ≡ assembled old r (listed x.body) = assembled_same new old r (listed x.body) same in
    record {
      object = ap (filled (held_of x.body)) all ∙ is.object;
      hollow = all ∙ is.hollow;
      uses = is.uses;
      pages = is.pages;
      space = is.space;
    }

module _ (s : State) (slots : List ℕ) (done : List (ℕ × Object)) (e : ℕ × Object) (h h' : Holdings) (f : IsFilled s slots done h)
    (lt : length done < length slots) (apart : Apart slots) (within : get_or slots (length done) 0 < s.limits.pages)
    (p : IsPut h h' (get_or slots (length done) 0) e.1 (use_of s e.0)) where
  abbrev n : ℕ
  n = length done

  abbrev slot : ℕ
  slot = get_or slots n 0

  more : take (n + 1) slots ≡ take n slots ++ slot ∷ []
  more = take_more slots n 0 lt

  off : has (take n slots) slot ≡ false
  off = not_among slots n n apart (omega arith) lt

  long : length (done ++ e ∷ []) ≡ n + 1
  long = length-append done (e ∷ [])

  record_other : (t : ℕ) → t ≢ slot → record_in h'.records.items t ≡ record_in h.records.items t
  record_other t ne = ap (λ (rs : List Record). record_in rs t) p.records ∙ get_or-set_other h.records.items slot t p.record' blank ne

  record_here : record_in h'.records.items slot ≡ p.record'
  record_here = ap (λ (rs : List Record). record_in rs slot) p.records ∙ get_or-set_same h.records.items slot p.record' blank (omega (arith, within, f.records))

  content_other : (t : ℕ) → t ≢ slot → content_in h' t ≡ content_in h t
  content_other t ne = λ i. record {
    bytes = (ap (λ (xs : List (List ℕ)). bytes_in xs t) p.segments ∙ get_or-set_other h.segments slot t (held_of e.1.body).bytes [] ne) i;
    slots = (ap (λ (xs : List (List (Option Mapping))). places_at xs t) p.spaces ∙ get_or-set_other h.spaces slot t (held_of e.1.body).slots [] ne) i;
    packets = (ap (λ (xs : List (List (List ℕ))). packets_in xs t) p.queues ∙ get_or-set_other h.queues slot t (held_of e.1.body).packets [] ne) i;
  }

  content_here : content_in h' slot ≡ held_of e.1.body
  content_here = λ i. record {
    bytes = (ap (λ (xs : List (List ℕ)). bytes_in xs slot) p.segments ∙ get_or-set_same h.segments slot (held_of e.1.body).bytes [] (omega (arith, within, f.segments))) i;
    slots = (ap (λ (xs : List (List (Option Mapping))). places_at xs slot) p.spaces ∙ get_or-set_same h.spaces slot (held_of e.1.body).slots [] (omega (arith, within, f.spaces))) i;
    packets = (ap (λ (xs : List (List (List ℕ))). packets_in xs slot) p.queues ∙ get_or-set_same h.queues slot (held_of e.1.body).packets [] (omega (arith, within, f.queues))) i;
  }

  -- an earlier slot has its object yet
  kept : (k : ℕ) → k < n → k < length slots → (x : ℕ × Object) → Holds s h (get_or slots k 0) x → Holds s h' (get_or slots k 0) x
  kept k less in_range x holds =
      let t = get_or slots k 0 in
      let ne : t ≢ slot = apart k n less lt in
      let there : has (take n slots) t ≡ true = among slots n k less in_range in
      let same : (j : ℕ) → 0 < claims j (record_in h.records.items t) → label_of h'.labels j ≡ label_of h.labels j = λ j some.
      p.takes.labels j (omega (arith, some, f.claimed j, sum_member (λ u. claims j (record_in h.records.items u)) (take n slots) t there)) in
      record {
        row = subst (λ (r : Record). IsRecordOf h'.labels x.1 (use_of s x.0) r) (sym (record_other t ne))
            (record_kept h.labels h'.labels x.1 (use_of s x.0) (record_in h.records.items t) same holds.row);
        content = content_other t ne ∙ holds.content;
      }

  claims_other : (i : ℕ) → claims_in h'.records.items (take n slots) i ≡ claims_in h.records.items (take n slots) i
  claims_other i = sum_same_in (λ t. claims i (record_in h'.records.items t)) (λ t. claims i (record_in h.records.items t)) (take n slots) (λ t there.
      ap (claims i) (record_other t (λ (is : t ≡ slot). both_ways (has (take n slots) slot) off (ap (has (take n slots)) (sym is) ∙ there))))

  claimed : (i : ℕ) → owners_in (held_at h'.labels i) ≡ claims_in h'.records.items (take (length (done ++ e ∷ [])) slots) i
  claimed i =
      let c : ℕ → ℕ = λ t. claims i (record_in h'.records.items t) in
      let all : claims_in h'.records.items (take (length (done ++ e ∷ [])) slots) i ≡ sum_by c (take n slots) + sum_by c (slot ∷ [])
      = ap (λ (m : ℕ). sum_by c (take m slots)) long ∙ ap (sum_by c) more ∙ sum_by-append c (take n slots) (slot ∷ []) in
      let here : c slot ≡ claims i p.record' = ap (claims i) record_here in
      omega (arith, all, here, sum_by-cons c slot [], p.takes.owners i, f.claimed i, claims_other i)

  pub filled_more : IsFilled s slots (done ++ e ∷ []) h'
  filled_more = record {
    hold = hold_more s h' done e slots lt (hold_kept s h h' done slots kept f.hold)
        (record { row = subst (λ (r : Record). IsRecordOf h'.labels e.1 (use_of s e.0) r) (sym record_here) p.kept; content = content_here });
    claimed = claimed;
    blank = λ t in_range none.
        let parted : (has (take n slots) t || has (slot ∷ []) t) ≡ false
        = sym (has_append (take n slots) (slot ∷ []) t) ∙ ap (λ (xs : List ℕ). has xs t) (sym more) ∙ ap (λ (m : ℕ). has (take m slots) t) (sym long) ∙ none in
        let ne : t ≢ slot = λ (is : t ≡ slot). both_ways (t == slot) (or_no_left (t == slot) false (or_no_right (has (take n slots) t) (has (slot ∷ []) t) parted)) (eq-eqb t slot is) in
        content_other t ne ∙ f.blank t in_range (or_no_left (has (take n slots) t) (has (slot ∷ []) t) parted);
    pages =
        let before : bytes_in h.segments slot ≡ [] = ap (λ (c : Content). c.bytes) (f.blank slot within off) in
        let put = sum_by-set pages_of h.segments slot (held_of e.1.body).bytes [] (omega (arith, within, f.segments)) in
        let all = sum_by-append (λ (x : ℕ × Object). length (held_of x.1.body).bytes / 256) done (e ∷ []) in
        let one = sum_by-cons (λ (x : ℕ × Object). length (held_of x.1.body).bytes / 256) e [] in
        omega (arith, f.pages, put, all, one, ap pages_of before, ap all_pages p.segments);
    owners = omega (arith, f.owners, p.owners, long);
    labels = p.takes.pool ∙ f.labels;
    records = ap length p.records ∙ length-set h.records.items slot p.record' ∙ f.records;
    segments = ap length p.segments ∙ length-set h.segments slot (held_of e.1.body).bytes ∙ f.segments;
    queues = ap length p.queues ∙ length-set h.queues slot (held_of e.1.body).packets ∙ f.queues;
    spaces = ap length p.spaces ∙ length-set h.spaces slot (held_of e.1.body).slots ∙ f.spaces;
  }

-- a state's object at the place that comes next
module _ (s : State) (hold : IsHoldable s) (done : List (ℕ × Object)) (e : ℕ × Object) (rest : List (ℕ × Object)) (split : done ++ e ∷ rest ≡ s.objects) where
  found : object_at s e.0 ≡ Some e.1
  found = found_here s hold done e rest split

  whole : is_whole e.1 ≡ true
  whole = (here_kept s hold done e rest split).whole

  pub whole_here : is_whole_body e.1.body ≡ true
  whole_here = (and_parts (is_stored e.1.label && length e.1.metadata == 64) (is_whole_body e.1.body) whole).1

  -- it uses its own cost, unless it is a container
  pub own_here : uses_own e.1.body (use_of s e.0)
  own_here = by_kind e.1.body (λ i. of_object 0 (λ x. own_cost x.body) (found i) + sum_by (quota_at s) (of_object [] (λ x. listed x.body) (found i)))
    where
      by_kind : (b : body.Body) → use_of s e.0 ≡ own_cost b + sum_by (quota_at s) (listed b) → uses_own b (use_of s e.0)
      by_kind (is.Container avoid list) u = tt
      by_kind (is.Segment bytes) u = (let none : sum_by (quota_at s) [] ≡ 0 = refl in omega (arith, u, none))
      by_kind (is.AddressSpace slots) u = (let none : sum_by (quota_at s) [] ≡ 0 = refl in omega (arith, u, none))
      by_kind (is.Thread t) u = (let none : sum_by (quota_at s) [] ≡ 0 = refl in omega (arith, u, none))
      by_kind (is.Gate g) u = (let none : sum_by (quota_at s) [] ≡ 0 = refl in omega (arith, u, none))
      by_kind (is.Device packets) u = (let none : sum_by (quota_at s) [] ≡ 0 = refl in omega (arith, u, none))

  -- its pages, and those of the objects before, are no more than all pages
  pub pages_here : sum_by (λ x. length (held_of x.1.body).bytes / 256) done + length (held_of e.1.body).bytes / 256 ≤ s.limits.pages
  pages_here =
      let f : ℕ × Object → ℕ = λ x. length (held_of x.1.body).bytes / 256 in
      let g : ℕ × Object → ℕ = λ x. own_cost x.1.body in
      let r = root_there s hold in
      let most = (root_bounds s r.0 hold.formed r.1).0 in
      let quota : r.0.quota ≡ s.limits.pages = sym (ap (of_object 0 (λ x. x.quota)) r.1) ∙ hold.root in
      let parted = sum_by-append f done (e ∷ rest) in
      let last = sum_by-cons f e rest in
      let less : sum_by f s.objects ≤ sum_by g s.objects = pages_cost s.objects in
      omega (arith, parted, last, less, most, quota, ap (sum_by f) split)
    where
      one : (b : body.Body) → length (held_of b).bytes / 256 ≤ own_cost b
      one (is.Container avoid list) = omega arith
      one (is.Segment bytes) = omega arith
      one (is.AddressSpace slots) = omega arith
      one (is.Thread t) = omega arith
      one (is.Gate g) = omega arith
      one (is.Device packets) = omega arith

      pages_cost : (es : List (ℕ × Object)) → sum_by (λ x. length (held_of x.1.body).bytes / 256) es ≤ sum_by (λ x. own_cost x.1.body) es
      pages_cost [] = omega arith
      pages_cost (x ∷ xs) =
          omega (arith, sum_by-cons (λ (y : ℕ × Object). length (held_of y.1.body).bytes / 256) x xs, sum_by-cons (λ (y : ℕ × Object). own_cost y.1.body) x xs, one x.1.body, pages_cost xs)

-- the id of the object that comes next, by its place
pub id_middle : (done : List (ℕ × Object)) (e : ℕ × Object) (rest : List (ℕ × Object)) → get_or (ids_in (lists_of (done ++ e ∷ rest))) (length done) 0 ≡ e.0
id_middle [] e rest = refl
id_middle (f ∷ fs) e rest = id_middle fs e rest

pub ids_length : (es : List (ℕ × Object)) → length (ids_in (lists_of es)) ≡ length es
ids_length [] = refl
ids_length (e ∷ es) = ap suc (ids_length es)

-- where it is, in a tree of the state's entries
pub record IsPlace (s : State) (done : List (ℕ × Object)) (slots : List ℕ) (slot : ℕ) : Type 0 where
  pub at : get_or slots (length done) 0 ≡ slot
  pub lt : length done < length slots
  pub apart : Apart slots
  pub within : slot < s.limits.pages
  pub few : length done < s.limits.pages
  pub blank : (h : Holdings) → IsFilled s slots done h → content_in h slot ≡ record { bytes = []; slots = replicate 16 None; packets = [] }

module _ (s : State) (hold : IsHoldable s) (done : List (ℕ × Object)) (e : ℕ × Object) (rest : List (ℕ × Object)) (split : done ++ e ∷ rest ≡ s.objects)
    (t : Tree (Unit {0})) (lists : t.lists ≡ lists_of s.objects) where
  middle : get_or (ids_in t.lists) (length done) 0 ≡ e.0
  middle = ap (λ (l : List (ℕ × List ℕ)). get_or (ids_in l) (length done) 0) (lists ∙ ap lists_of (sym split)) ∙ id_middle done e rest

  size : length (ids_in t.lists) ≡ length done + suc (length rest)
  size = ap (λ (l : List (ℕ × List ℕ)). length (ids_in l)) (lists ∙ ap lists_of (sym split)) ∙ ids_length (done ++ e ∷ rest) ∙ length-append done (e ∷ rest)

  pub absent_not : has (ids_in t.lists) e.0 ≡ false → ⊥
  absent_not off = both_ways (has (ids_in t.lists) e.0) off (has_at (ids_in t.lists) (length done) e.0 (omega (arith, size)) middle)

  pub found_place : IsWellFormed t → length t.cells ≡ s.limits.pages → (slot : ℕ) → HasSlot t e.0 slot → IsPlace s done t.slots slot
  found_place tree cells slot has' =
      let next : length done < length (ids_in t.lists) = omega (arith, size) in
      let same : has'.place ≡ length done = one_place (ids_in t.lists) tree.rises has'.place (length done) has'.within next (has'.id_is ∙ sym middle) in
      let at : get_or t.slots (length done) 0 ≡ slot = ap (λ (k : ℕ). get_or t.slots k 0) (sym same) ∙ has'.slot_is in
      let lt : length done < length t.slots = omega (arith, next, tree.beside) in
      let within : slot < s.limits.pages = subst (λ (k : ℕ). k < s.limits.pages) at (omega (arith, tree.within (length done) lt, cells)) in
      let all : length s.objects ≡ length done + suc (length rest) = ap length (sym split) ∙ length-append done (e ∷ rest) in
      record {
        at = at;
        lt = lt;
        apart = tree.apart;
        within = within;
        few = omega (arith, all, (bounds s hold).0);
        blank = λ h filled. filled.blank slot within (ap (has (take (length done) t.slots)) (sym at) ∙ not_among t.slots (length done) (length done) tree.apart (omega arith) lt);
      }
