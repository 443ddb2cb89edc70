-- Pieces that were laid out from a state's objects are that state.
use Rattle.std.proofs.Common.{◌≡◌, ℕ, zero, suc, ◌+◌, ◌*◌, ◌<◌, Bool, true, false, cond, ◌&&◌, ◌==◌, nat_le, ◌/◌, List, [], ◌∷◌, ◌++◌, length, get_or, take, replicate, Option, Some, None, refl, sym, ap, ◌∙◌, subst, arith, inl, inr, sum_by, is_some, length-append}
use Rattle.std.specs.Prelude.{map}
use Rattle.std.specs.Map.{lookup}
use Rattle.std.specs.BTreeMap.{is_at}
use Rattle.std.specs.Ordering.{nat_cmp}
use Rattle.std.proofs.lemmas.Bool.{cases_Bool, cases_lt, eqb-true}
use Rattle.std.proofs.lemmas.List.{append_assoc, length-replicate, get_or_past, take_all}
use Rattle.base.specs.Live.{has, links}
use Rattle.base.specs.declared.kinds.Kind.TheVariants as kinds
use Rattle.containers.specs.Tree.{ids_in, HasSlot}
use Rattle.containers.specs.WellFormed.{IsWellFormed}
use Rattle.containers.proofs.Views.{at_has, has_at}
use Rattle.kernel_rules.specs.State.{State, object_at, of_object, is_kind, listed, lists_of, quota_at, own_cost, use_of}
use Rattle.kernel_rules.specs.WellFormed.{ids_rise, is_well_formed, is_whole_body}
use Rattle.kernel_rules.specs.declared.objects.Object.{Object}
use Rattle.kernel_rules.specs.declared.objects.Body as body
use Rattle.kernel_rules.specs.declared.objects.Body.TheVariants as is
use Rattle.kernel_rules.proofs.LookupLaws.{at_is}
use Rattle.arena_memory.specs.Segments.{bytes_in}
use Rattle.arena_memory.specs.Queues.{packets_in}
use Rattle.arena_memory.specs.Mappings.{places_at}
use Rattle.arena_state.specs.declared.holdings.Holdings.{Holdings}
use Rattle.arena_state.specs.declared.pieces.Pieces.{Pieces}
use Rattle.arena_state.specs.Rows.{rows_of}
use Rattle.arena_state.specs.Assembled.{pieces_state, objects_in, object_in, record_in, claims_in, use_in}
use Rattle.arena_state.specs.Filled.{Content, filled, filled_body, filled_in, filled_state}
use Rattle.arena_state.specs.Stocked.{content_in, content_at, slot_of, whole_state, kept_pages, keeps_space, pages_at, is_space_at, IsStocked}
use Rattle.arena_state.specs.Sound.{IsSound}
use Rattle.arena_state.specs.Restored.{bare, held_of, hollow_of, Hold, Holds, IsFilled, IsHoldable}
use Rattle.arena_state.proofs.FormedLaws.{IsFit, formed_filled, use_filled}
use Rattle.arena_state.proofs.FillLaws.{id_middle, ids_length}
use Rattle.arena_state.proofs.HoldLaws.{climbs, rise, root_there, found_has, found_middle, whole_of}
use Rattle.arena_state.proofs.StockLaws.{slot_is}

abbrev hollow : Object → Object
hollow x = record x { body = hollow_of x.body }

-- what a slot holds of a hollow object
abbrev zeros : body.Body → Content
zeros (is.Container avoid list) = record { bytes = []; slots = replicate 16 None; packets = [] }
zeros (is.Segment bytes) = record { bytes = replicate (length bytes) 0; slots = replicate 16 None; packets = [] }
zeros (is.AddressSpace slots) = record { bytes = []; slots = replicate 16 None; packets = [] }
zeros (is.Thread t) = record { bytes = []; slots = replicate 16 None; packets = [] }
zeros (is.Gate g) = record { bytes = []; slots = replicate 16 None; packets = [] }
zeros (is.Device packets) = record { bytes = []; slots = replicate 16 None; packets = [] }

filled_zeros : (b : body.Body) → filled_body (zeros b) b ≡ hollow_of b
filled_zeros (is.Container avoid list) = refl
filled_zeros (is.Segment bytes) = refl
filled_zeros (is.AddressSpace slots) = refl
filled_zeros (is.Thread t) = refl
filled_zeros (is.Gate g) = refl
filled_zeros (is.Device packets) = refl

listed_hollow : (b : body.Body) → listed (hollow_of b) ≡ listed b
listed_hollow (is.Container avoid list) = refl
listed_hollow (is.Segment bytes) = refl
listed_hollow (is.AddressSpace slots) = refl
listed_hollow (is.Thread t) = refl
listed_hollow (is.Gate g) = refl
listed_hollow (is.Device packets) = refl

-- the rows of slots that have objects
rows_are : (s : State) (h : Holdings) (es : List (ℕ × Object)) (slots : List ℕ) → Hold s h es slots
    → objects_in h (rows_of (lists_of es) slots) ≡ map (λ e. (e.0, hollow e.1)) es
rows_are s h [] slots hold = refl
rows_are s h (e ∷ es) [] hold = absurd hold
rows_are s h (e ∷ es) (slot ∷ slots) hold = λ i. (e.0, hold.0.row.hollow i) ∷ rows_are s h es slots hold.1 i

-- what the rows keep of uses
uses_are : (s : State) (h : Holdings) (es : List (ℕ × Object)) (slots : List ℕ) → Hold s h es slots → (o : ℕ)
    → use_in h.records.items (lookup (is_at (nat_cmp o)) (rows_of (lists_of es) slots)) ≡ of_object 0 (λ x. use_of s o) (lookup (is_at (nat_cmp o)) es)
uses_are s h [] slots hold o = refl
uses_are s h (e ∷ es) [] hold o = absurd hold
uses_are s h (e ∷ es) (slot ∷ slots) hold o = elim (cases_Bool (o == e.0)) [
  | inl at ↦
      let test : is_at (nat_cmp o) e.0 ≡ true = at_is o e.0 ∙ at in
      (λ i. use_in h.records.items (cond (test i) (Some (record { slot = slot; list = listed e.1.body })) (lookup (is_at (nat_cmp o)) (rows_of (lists_of es) slots))))
      ∙ hold.0.row.uses ∙ ap (use_of s) (sym (eqb-true o e.0 at))
      ∙ (λ i. of_object 0 (λ x. use_of s o) (cond (sym test i) (Some e.1) (lookup (is_at (nat_cmp o)) es)))
  | inr off ↦
      let test : is_at (nat_cmp o) e.0 ≡ false = at_is o e.0 ∙ off in
      (λ i. use_in h.records.items (cond (test i) (Some (record { slot = slot; list = listed e.1.body })) (lookup (is_at (nat_cmp o)) (rows_of (lists_of es) slots))))
      ∙ uses_are s h es slots hold.1 o
      ∙ (λ i. of_object 0 (λ x. use_of s o) (cond (sym test i) (Some e.1) (lookup (is_at (nat_cmp o)) es)))
]

get_middle : (before : List ℕ) (t : ℕ) (ts : List ℕ) → get_or (before ++ t ∷ ts) (length before) 0 ≡ t
get_middle [] t ts = refl
get_middle (x ∷ xs) t ts = get_middle xs t ts

ids_bare : (es : List (ℕ × Object)) → ids_in (lists_of es) ≡ ids_in (bare es)
ids_bare [] = refl
ids_bare (e ∷ es) = ap (λ (xs : List ℕ). e.0 ∷ xs) (ids_bare es)

-- the slot at a place has the object at that place
record IsHeld (s : State) (h : Holdings) (es : List (ℕ × Object)) (k slot : ℕ) : Type 0 where
  pub e : ℕ × Object
  pub before : List (ℕ × Object)
  pub after : List (ℕ × Object)
  pub split : before ++ e ∷ after ≡ es
  pub id : get_or (ids_in (lists_of es)) k 0 ≡ e.0
  pub holds : Holds s h slot e

held_at_place : (s : State) (h : Holdings) (es : List (ℕ × Object)) (slots : List ℕ) (k : ℕ) → Hold s h es slots → k < length es → IsHeld s h es k (get_or slots k 0)
held_at_place s h [] slots k hold lt = absurd (omega (arith, lt))
held_at_place s h (e ∷ es) [] k hold lt = absurd hold
held_at_place s h (e ∷ es) (slot ∷ slots) zero hold lt = record { e = e; before = []; after = es; split = refl; id = refl; holds = hold.0 }
held_at_place s h (e ∷ es) (slot ∷ slots) (suc k) hold lt =
    let rest = held_at_place s h es slots k hold.1 (omega (arith, lt)) in
    record {
      e = rest.e;
      before = e ∷ rest.before;
      after = rest.after;
      split = ap (λ (xs : List (ℕ × Object)). e ∷ xs) rest.split;
      id = rest.id;
      holds = rest.holds;
    }

module _ (s : State) (hold : IsHoldable s) (p : Pieces) (limits : p.limits ≡ s.limits) (next_id : p.next_id ≡ s.next_id)
    (next_category : p.next_category ≡ s.next_category) (lists : p.places.lists ≡ lists_of s.objects)
    (cells : length p.places.cells ≡ s.limits.pages) (tree : IsWellFormed p.places) (f : IsFilled s p.places.slots s.objects p.holdings) where
  abbrev slots : List ℕ
  slots = p.places.slots

  abbrev hollow_state : State
  hollow_state = record s { objects = map (λ e. (e.0, hollow e.1)) s.objects }

  long : length s.objects ≡ length slots
  long = sym (ids_length s.objects) ∙ ap (λ (l : List (ℕ × List ℕ)). length (ids_in l)) (sym lists) ∙ tree.beside

  all_slots : take (length s.objects) slots ≡ slots
  all_slots = take_all (length s.objects) slots (omega (arith, long))

  pieces_are : pieces_state p ≡ hollow_state
  pieces_are = λ i. record {
    limits = limits i;
    objects = ((λ j. objects_in p.holdings (rows_of (lists j) slots)) ∙ rows_are s p.holdings s.objects slots f.hold) i;
    next_id = next_id i;
    next_category = next_category i;
  }

  abbrev contents : ℕ → Content
  contents o = of_object (zeros (is.Device [])) (λ x. zeros x.body) (object_at s o)

  -- hollow objects are those whose slots hold zeros
  hollow_filled : (done rest : List (ℕ × Object)) → done ++ rest ≡ s.objects → filled_in contents rest ≡ map (λ e. (e.0, hollow e.1)) rest
  hollow_filled done [] split = refl
  hollow_filled done (e ∷ es) split =
      let found : object_at s e.0 ≡ Some e.1 = ap (lookup (is_at (nat_cmp e.0))) (sym split) ∙ found_middle done e es (ap ids_rise split ∙ rise s hold) in
      let here : filled (contents e.0) e.1 ≡ hollow e.1
      = ap (λ (o : Option Object). filled (of_object (zeros (is.Device [])) (λ x. zeros x.body) o) e.1) found ∙ ap (λ (b : body.Body). record e.1 { body = b }) (filled_zeros e.1.body) in
      (λ i. (e.0, here i) ∷ hollow_filled (done ++ e ∷ []) es (append_assoc done (e ∷ []) es ∙ split) i)

  filled_is : filled_state contents s ≡ hollow_state
  filled_is = λ i. record s { objects = hollow_filled [] s.objects refl i }

  fits : (o : ℕ) (x : Object) → object_at s o ≡ Some x → IsFit (contents o) x
  fits o x found =
      let is' : contents o ≡ zeros x.body = ap (of_object (zeros (is.Device [])) (λ y. zeros y.body)) found in
      subst (λ (c : Content). IsFit c x) (sym is') (record { whole = whole x.body (whole_of s hold o x found); cost = cost x.body })
    where
      whole : (b : body.Body) → is_whole_body b ≡ true → is_whole_body (filled_body (zeros b) b) ≡ true
      whole (is.Container avoid list) h = h
      whole (is.Segment bytes) h = ap (λ (n : ℕ). (n == 256 * (n / 256)) && nat_le n (256 * 16)) (length-replicate {A = ℕ} (length bytes) 0) ∙ h
      whole (is.AddressSpace slots') h = refl
      whole (is.Thread t) h = h
      whole (is.Gate g) h = h
      whole (is.Device packets) h = refl

      cost : (b : body.Body) → own_cost (filled_body (zeros b) b) ≡ own_cost b
      cost (is.Container avoid list) = refl
      cost (is.Segment bytes) = ap (λ (n : ℕ). 1 + n / 256) (length-replicate {A = ℕ} (length bytes) 0)
      cost (is.AddressSpace slots') = refl
      cost (is.Thread t) = refl
      cost (is.Gate g) = refl
      cost (is.Device packets) = refl

  formed : is_well_formed (pieces_state p) ≡ true
  formed = ap is_well_formed (pieces_are ∙ sym filled_is) ∙ formed_filled contents s hold.formed fits

  uses : (o : ℕ) → use_of (pieces_state p) o ≡ use_of s o
  uses o = ap (λ (z : State). use_of z o) (pieces_are ∙ sym filled_is) ∙ use_filled contents s hold.formed fits o

  no_use : (o : ℕ) → of_object 0 (λ x. use_of s o) (object_at s o) ≡ use_of s o
  no_use o = elim (object_at s o) as (λ v. object_at s o ≡ v → of_object 0 (λ x. use_of s o) v ≡ use_of s o) [
    | None ↦ λ none. sym (λ i. of_object 0 (λ x. own_cost x.body) (none i) + sum_by (quota_at s) (of_object [] (λ x. listed x.body) (none i)))
    | Some x ↦ λ some. refl
  ] refl

  lists_now : lists_of (pieces_state p).objects ≡ p.places.lists
  lists_now = ap (λ (z : State). lists_of z.objects) pieces_are ∙ same s.objects ∙ sym lists
    where
      same : (es : List (ℕ × Object)) → lists_of (map (λ e. (e.0, hollow e.1)) es) ≡ lists_of es
      same [] = refl
      same (e ∷ es) = λ i. (e.0, listed_hollow e.1.body i) ∷ same es i

  -- what is read off an object, whatever its slot holds
  read : {X : Type 0} (d : X) (g : Object → X) → ((x : Object) → g (hollow x) ≡ g x) → (o : ℕ) → of_object d g (object_at (pieces_state p) o) ≡ of_object d g (object_at s o)
  read d g same o = ap (λ (z : State). of_object d g (object_at z o)) pieces_are ∙ down s.objects
    where
      down : (es : List (ℕ × Object)) → of_object d g (lookup (is_at (nat_cmp o)) (map (λ e. (e.0, hollow e.1)) es)) ≡ of_object d g (lookup (is_at (nat_cmp o)) es)
      down [] = refl
      down (e ∷ es) =
          elim (is_at (nat_cmp o) e.0)
          as (λ v. of_object d g (cond v (Some (hollow e.1)) (lookup (is_at (nat_cmp o)) (map (λ z. (z.0, hollow z.1)) es)))
          ≡ of_object d g (cond v (Some e.1) (lookup (is_at (nat_cmp o)) es))) [
            | true ↦ same e.1
            | false ↦ down es
          ]

  kind_hollow : (x : Object) → is_kind kinds.Container (hollow x) ≡ is_kind kinds.Container x
  kind_hollow x = of_body x.body
    where
      of_body : (b : body.Body) → is_kind kinds.Container (record x { body = hollow_of b }) ≡ is_kind kinds.Container (record x { body = b })
      of_body (is.Container avoid list) = refl
      of_body (is.Segment bytes) = refl
      of_body (is.AddressSpace slots') = refl
      of_body (is.Thread t) = refl
      of_body (is.Gate g) = refl
      of_body (is.Device packets) = refl

  pub assembled_sound : IsSound p
  assembled_sound = record {
    formed = formed;
    tree = tree;
    lists = lists_now;
    owned = λ i. f.claimed i ∙ ap (λ (xs : List ℕ). claims_in p.holdings.records.items xs i) all_slots;
    uses = λ o. (λ i. use_in p.holdings.records.items (lookup (is_at (nat_cmp o)) (rows_of (lists i) slots)))
        ∙ uses_are s p.holdings s.objects slots f.hold o ∙ no_use o ∙ sym (uses o);
    climbs = λ a b kind link. climbs s hold a b (sym (read false (is_kind kinds.Container) kind_hollow b) ∙ kind)
        (ap (λ (l : List (ℕ × List ℕ)). links l a b) (sym lists) ∙ link);
    cells = cells ∙ sym (ap (λ l. l.pages) limits);
    records = f.records ∙ sym (ap (λ l. l.pages) limits);
    pool = f.labels ∙ sym (ap (λ l. 3 * l.pages + 3) limits);
    rooted = ap (λ (l : List (ℕ × List ℕ)). has (ids_in l) 1) lists ∙ rooted_in s.objects root_there';
    root = read 0 (λ x. x.quota) (λ x. refl) 1 ∙ hold.root ∙ sym (ap (λ l. l.pages) limits);
  }
    where
      root_there' : is_some (object_at s 1) ≡ true
      root_there' = ap is_some (root_there s hold).1

      rooted_in : (es : List (ℕ × Object)) → is_some (lookup (is_at (nat_cmp 1)) es) ≡ true → has (ids_in (lists_of es)) 1 ≡ true
      rooted_in es some = ap (λ (xs : List ℕ). has xs 1) (ids_bare es) ∙ found_has es 1 some

  held : (k : ℕ) → k < length slots → IsHeld s p.holdings s.objects k (get_or slots k 0)
  held k lt = held_at_place s p.holdings s.objects slots k f.hold (omega (arith, lt, long))

  whole_held : (k : ℕ) (lt : k < length slots) → is_whole_body (held k lt).e.1.body ≡ true
  whole_held k lt =
      let e = held k lt in
      whole_of s hold e.e.0 e.e.1 (ap (lookup (is_at (nat_cmp e.e.0))) (sym e.split) ∙ found_middle e.before e.e e.after (ap ids_rise e.split ∙ rise s hold))

  blank : (slot : ℕ) → slot < s.limits.pages → has slots slot ≡ false → content_in p.holdings slot ≡ record { bytes = []; slots = replicate 16 None; packets = [] }
  blank slot lt off = f.blank slot lt (ap (λ (xs : List ℕ). has xs slot) all_slots ∙ off)

  packets_whole : (b : body.Body) → is_whole_body b ≡ true → is_whole_body (is.Device (held_of b).packets) ≡ true
  packets_whole (is.Container avoid list) h = refl
  packets_whole (is.Segment bytes) h = refl
  packets_whole (is.AddressSpace slots') h = refl
  packets_whole (is.Thread t) h = refl
  packets_whole (is.Gate g) h = refl
  packets_whole (is.Device packets) h = h

  places_many : (b : body.Body) → is_whole_body b ≡ true → length (held_of b).slots ≡ 16
  places_many (is.Container avoid list) h = refl
  places_many (is.Segment bytes) h = refl
  places_many (is.AddressSpace slots') h = eqb-true (length slots'.slots) 16 h
  places_many (is.Thread t) h = refl
  places_many (is.Gate g) h = refl
  places_many (is.Device packets) h = refl

  -- each slot has its object, or holds nothing
  by_slot : (X : ℕ → Type 0) → ((k : ℕ) → k < length slots → X (get_or slots k 0)) → ((slot : ℕ) → has slots slot ≡ false → X slot) → (slot : ℕ) → X slot
  by_slot X there absent slot = elim (cases_Bool (has slots slot)) [
    | inl in' ↦ let at = at_has slots slot in' in subst X at.2 (there at.0 at.1)
    | inr off ↦ absent slot off
  ]

  same_pages : (slot : ℕ) → has slots slot ≡ true → pages_at p slot ≡ kept_pages (record_in p.holdings.records.items slot).body
  same_pages slot in' = ap {B = ℕ} (λ (b : Bool). cond b (kept_pages (record_in p.holdings.records.items slot).body) 0) in'

  pub assembled_stocked : IsStocked p
  assembled_stocked = record {
    segments = f.segments ∙ sym (ap (λ l. l.pages) limits);
    queues = f.queues ∙ sym (ap (λ l. l.pages) limits);
    spaces = f.spaces ∙ sym (ap (λ l. l.pages) limits);
    paged = by_slot (λ slot. length (bytes_in p.holdings.segments slot) ≡ 256 * pages_at p slot)
        (λ k lt.
        let e = held k lt in
        ap (λ (c : Content). length c.bytes) e.holds.content ∙ e.holds.row.pages
        ∙ sym (ap {B = ℕ} (λ (n : ℕ). 256 * n) (same_pages (get_or slots k 0) (has_at slots k (get_or slots k 0) lt refl))))
        (λ slot off.
        let none : pages_at p slot ≡ 0 = ap {B = ℕ} (λ (b : Bool). cond b (kept_pages (record_in p.holdings.records.items slot).body) 0) off in
        let bytes : bytes_in p.holdings.segments slot ≡ [] = elim (cases_lt slot s.limits.pages) [
          | inl lt ↦ ap (λ (c : Content). c.bytes) (blank slot lt off)
          | inr past ↦ get_or_past p.holdings.segments slot [] (omega (arith, past, f.segments))
        ] in
        ap (λ (xs : List ℕ). length xs) bytes ∙ sym (ap {B = ℕ} (λ (n : ℕ). 256 * n) none));
    sixteen = by_slot (λ slot. slot < p.limits.pages → length (places_at p.holdings.spaces slot) ≡ 16)
        (λ k lt in'. ap (λ (c : Content). length c.slots) (held k lt).holds.content ∙ places_many (held k lt).e.1.body (whole_held k lt))
        (λ slot off lt. ap (λ (c : Content). length c.slots) (blank slot (subst (λ n. slot < n) (ap (λ l. l.pages) limits) lt) off));
    unmapped = by_slot (λ slot. slot < p.limits.pages → is_space_at p slot ≡ false → places_at p.holdings.spaces slot ≡ replicate 16 None)
        (λ k lt in' none.
        let there : has slots (get_or slots k 0) ≡ true = has_at slots k (get_or slots k 0) lt refl in
        let keeps : keeps_space (record_in p.holdings.records.items (get_or slots k 0)).body ≡ false
        = sym (ap (λ (b : Bool). b && keeps_space (record_in p.holdings.records.items (get_or slots k 0)).body) there) ∙ none in
        ap (λ (c : Content). c.slots) (held k lt).holds.content ∙ (held k lt).holds.row.space keeps)
        (λ slot off lt none. ap (λ (c : Content). c.slots) (blank slot (subst (λ n. slot < n) (ap (λ l. l.pages) limits) lt) off));
    queued = by_slot (λ slot. is_whole_body (is.Device (packets_in p.holdings.queues slot)) ≡ true)
        (λ k lt. ap (λ (c : Content). is_whole_body (is.Device c.packets)) (held k lt).holds.content ∙ packets_whole (held k lt).e.1.body (whole_held k lt))
        (λ slot off. ap (λ (xs : List (List ℕ)). is_whole_body (is.Device xs)) (elim (cases_lt slot s.limits.pages) [
          | inl lt ↦ ap (λ (c : Content). c.packets) (blank slot lt off)
          | inr past ↦ get_or_past p.holdings.queues slot [] (omega (arith, past, f.queues))
        ]));
  }

  -- with what their slots hold the hollow objects are the state's
  full : (es done : List (ℕ × Object)) (ts before : List ℕ) → done ++ es ≡ s.objects → before ++ ts ≡ slots → length done ≡ length before → Hold s p.holdings es ts
      → filled_in (content_at p) (objects_in p.holdings (rows_of (lists_of es) ts)) ≡ es
  full [] done ts before split parts same hold' = refl
  full (e ∷ es) done [] before split parts same hold' = absurd hold'
  full (e ∷ es) done (t ∷ ts) before split parts same hold' =
      let has' : HasSlot p.places e.0 t = record {
        place = length done;
        within = omega (arith, ap length split, length-append done (e ∷ es), ids_length s.objects, ap (λ (l : List (ℕ × List ℕ)). length (ids_in l)) lists);
        id_is = ap (λ (l : List (ℕ × List ℕ)). get_or (ids_in l) (length done) 0) (lists ∙ ap lists_of (sym split)) ∙ id_middle done e es;
        slot_is = ap (λ (k : ℕ). get_or slots k 0) same ∙ ap (λ (xs : List ℕ). get_or xs (length before) 0) (sym parts) ∙ get_middle before t ts;
      } in
      let at : slot_of p e.0 ≡ t = slot_is p assembled_sound e.0 t has' in
      let here : filled (content_at p e.0) (object_in p.holdings (record { slot = t; list = listed e.1.body })) ≡ e.1
      = ap (λ (k : ℕ). filled (content_in p.holdings k) (object_in p.holdings (record { slot = t; list = listed e.1.body }))) at
      ∙ ap (λ (c : Content). filled c (object_in p.holdings (record { slot = t; list = listed e.1.body }))) hold'.0.content ∙ hold'.0.row.object in
      (λ i. (e.0, here i) ∷ full es (done ++ e ∷ []) ts (before ++ t ∷ []) (append_assoc done (e ∷ []) es ∙ split) (append_assoc before (t ∷ []) ts ∙ parts)
      (omega (arith, same, length-append done (e ∷ []), length-append before (t ∷ []))) hold'.1 i)

  pub assembled_whole : whole_state p ≡ s
  assembled_whole = λ i. record {
    limits = limits i;
    objects = ((λ j. filled_in (content_at p) (objects_in p.holdings (rows_of (lists j) slots))) ∙ full s.objects [] slots [] refl refl refl f.hold) i;
    next_id = next_id i;
    next_category = next_category i;
  }
