-- The steps by which objects go together.
use Rattle.std.proofs.Common.{◌≡◌, ◌≢◌, ℕ, ◌+◌, ◌<◌, ◌≤◌, ◌⊎◌, inl, inr, List, [], ◌∷◌, ◌++◌, length, get_or, set, take, min, Option, Some, None, refl, sym, ap, ◌∙◌, subst, arith, length-append, length-set, get_or-set_other, get_or-set_same}
use Rattle.std.specs.Prelude.{IsSome, Contains, is_some, false}
use Rattle.std.proofs.lemmas.Bool.{cases_lt, cases_eq, false≢true}
use Rattle.std.proofs.lemmas.List.{get_or_append_left, get_or_push, get_or-take, length-take-le}
use Rattle.containers.specs.Objects.{Objects, Rises, Apart, IsWithoutAll}
use Rattle.containers.specs.Slots.{IsKept}
use Rattle.containers.specs.Gaps.{Goes, IsVacated, HasGaps, CameFrom, IsClosing, IsClosed}
use Rattle.containers.proofs.Kept.{one_place, not_both, in_range_some, Apart-push, default}

-- a slot has no object and has one
both : {T : Type 0} (o : Option T) → o ≡ None → IsSome o → ⊥
both {T} o none some =
    let P : Option T → Type 0 = λ x. IsSome x in
    let bad : IsSome {T = T} None = subst P none some in
    absurd (false≢true bad)

pub none_of : {T : Type 0} (o : Option T) → is_some o ≡ false → o ≡ None
none_of None e = refl
none_of (Some x) e = absurd (false≢true (sym e))

-- of rising ids, two that are one stand at one place
same_place : (xs : List ℕ) (i j : ℕ) → Rises xs → i < length xs → j < length xs → get_or xs i 0 ≡ get_or xs j 0 → i ≡ j
same_place xs i j rises li lj e = one_place xs i j rises li lj e

-- of slots, two that are one stand at one place
same_slot : (xs : List ℕ) (i j : ℕ) → Apart xs → i < length xs → j < length xs → get_or xs i 0 ≡ get_or xs j 0 → i ≡ j
same_slot xs i j apart li lj e = elim (cases_eq i j) [
  | inl same ↦ same
  | inr ne ↦ absurd (not_both xs j i apart lj li ne e)
]

goes_more : (ids gone : List ℕ) (count place : ℕ) → Goes ids gone count place → Goes ids gone (count + 1) place
goes_more ids gone count place g = record { at = g.at; among = omega (arith, g.among); within = g.within; id_is = g.id_is }

goes_cases : (ids gone : List ℕ) (count place : ℕ) → Goes ids gone (count + 1) place → Goes ids gone count place ⊎ ((place < length ids) × (get_or gone count 0 ≡ get_or ids place 0))
goes_cases ids gone count place g = elim (cases_lt g.at count) [
  | inl lt ↦ inl (record { at = g.at; among = lt; within = g.within; id_is = g.id_is })
  | inr le ↦
      let last : g.at ≡ count = omega (arith, g.among, le) in
      inr (g.within, ap (λ (i : ℕ). get_or gone i 0) (sym last) ∙ g.id_is)
]

module _ {T : Type 0} (ids slots gone : List ℕ) (old : List (Option T)) where
  -- the same under other names
  pub vacated_as : (count : ℕ) (new new' : List (Option T)) (first first' : ℕ) → new' ≡ new → first' ≡ first → IsVacated ids slots gone count old new first → IsVacated ids slots gone count old new' first'
  vacated_as count new new' first first' a b v =
      subst (λ (os : List (Option T)). IsVacated ids slots gone count old os first') (sym a)
      (subst (λ (n : ℕ). IsVacated ids slots gone count old new n) (sym b) v)

  module _ (count first : ℕ) (new : List (Option T)) (v : IsVacated ids slots gone count old new first) where
    pub vacated_none : ((k : ℕ) → k < length ids → get_or ids k 0 ≢ get_or gone count 0) → IsVacated ids slots gone (count + 1) old new first
    vacated_none absent = record {
      pool = v.pool;
      in_range = v.in_range;
      before = λ place g. elim (goes_cases ids gone count place g) [
        | inl was ↦ v.before place was
        | inr is ↦ absurd (absent place is.0 (sym is.1))
      ];
      empty = λ place g. elim (goes_cases ids gone count place g) [
        | inl was ↦ v.empty place was
        | inr is ↦ absurd (absent place is.0 (sym is.1))
      ];
      same = λ slot other. v.same slot (λ place g. other place (goes_more ids gone count place g));
    }

    module _ (place next : ℕ) (rises : Rises ids) (within : place < length ids) (id_is : get_or ids place 0 ≡ get_or gone count 0) (slot_in : get_or slots place 0 < length old) (is : next ≡ min first place) where
      here : Goes ids gone (count + 1) place
      here = record { at = count; among = omega arith; within = within; id_is = sym id_is }

      in_new : get_or slots place 0 < length new
      in_new = omega (arith, slot_in, v.pool)

      at_place : (k : ℕ) → k < length ids → get_or gone count 0 ≡ get_or ids k 0 → k ≡ place
      at_place k lt e = same_place ids k place rises lt within (sym e ∙ sym id_is)

      pub vacated_some : IsVacated ids slots gone (count + 1) old (set new (get_or slots place 0) None) next
      vacated_some = record {
        pool = omega (arith, v.pool, length-set new (get_or slots place 0) None);
        in_range = omega (arith, v.in_range, is);
        before = λ k g. elim (goes_cases ids gone count k g) [
          | inl was ↦ omega (arith, v.before k was, is)
          | inr last ↦ omega (arith, at_place k last.0 last.1, is)
        ];
        empty = λ k g. elim (cases_eq (get_or slots k 0) (get_or slots place 0)) [
          | inl same ↦ ap (λ (i : ℕ). get_or (set new (get_or slots place 0) None) i None) same ∙ get_or-set_same new (get_or slots place 0) None None in_new
          | inr apart ↦ elim (goes_cases ids gone count k g) [
            | inl was ↦ get_or-set_other new (get_or slots place 0) (get_or slots k 0) None None apart ∙ v.empty k was
            | inr last ↦ absurd (apart (ap (λ (i : ℕ). get_or slots i 0) (at_place k last.0 last.1)))
          ]
        ];
        same = λ slot other.
            get_or-set_other new (get_or slots place 0) slot None None (λ (e : slot ≡ get_or slots place 0). other place here (sym e))
            ∙ v.same slot (λ k g. other k (goes_more ids gone count k g));
      }

-- the same under other names
pub closing_as : {T : Type 0} (ids slots spare ids' slots' spare' ids'' slots'' spare'' : List ℕ) (cells : List (Option T)) (end end' place : ℕ) → ids'' ≡ ids' → slots'' ≡ slots' → spare'' ≡ spare' → end' ≡ end → IsClosing ids slots spare ids' slots' spare' cells end place → IsClosing ids slots spare ids'' slots'' spare'' cells end' place
closing_as ids slots spare ids' slots' spare' ids'' slots'' spare'' cells end end' place a b d e s =
    subst (λ (xs : List ℕ). IsClosing ids slots spare xs slots'' spare'' cells end' place) (sym a)
    (subst (λ (xs : List ℕ). IsClosing ids slots spare ids' xs spare'' cells end' place) (sym b)
    (subst (λ (xs : List ℕ). IsClosing ids slots spare ids' slots' xs cells end' place) (sym d)
    (subst (λ (n : ℕ). IsClosing ids slots spare ids' slots' spare' cells n place) (sym e) s)))

-- from the same under other names
pub closing_from : {T : Type 0} (ids slots spare ids0 slots0 ids' slots' spare' : List ℕ) (cells : List (Option T)) (end : ℕ) → ids0 ≡ ids → slots0 ≡ slots → IsClosing ids0 slots0 spare ids' slots' spare' cells end (length ids0) → IsClosing ids slots spare ids' slots' spare' cells end (length ids)
closing_from ids slots spare ids0 slots0 ids' slots' spare' cells end a b s =
    subst (λ (xs : List ℕ). IsClosing xs slots spare ids' slots' spare' cells end (length xs)) a
    (subst (λ (xs : List ℕ). IsClosing ids0 xs spare ids' slots' spare' cells end (length ids0)) b s)

module _ {T : Type 0} (ids slots spare : List ℕ) (cells : List (Option T)) (g : HasGaps ids slots spare cells) where
  pub closing_start : (from : ℕ) → from ≤ length ids → ((k : ℕ) → k < from → IsSome (get_or cells (get_or slots k 0) None)) → IsClosing ids slots spare ids slots spare cells from from
  closing_start from in_range there = record {
    ids_len = refl;
    slots_len = refl;
    ordered = omega arith;
    in_range = in_range;
    ahead = λ k le. (refl, refl);
    were = λ k lt. (k, lt, record { later = omega arith; id_is = refl; slot_is = refl; there = there k lt });
    stays = λ at lt some. (at, lt, record { later = omega arith; id_is = refl; slot_is = refl; there = some });
    rises = λ i j lt in_end. g.rising i j lt (omega (arith, in_end, in_range));
    apart = λ i j lt in_end. g.slots_apart i j lt (omega (arith, in_end, in_range, g.beside));
    count = refl;
    spares = λ k lt. inl (lt, refl);
    spare_apart = g.spare_apart;
  }

  module _ (ids' slots' spare' : List ℕ) (end place : ℕ) (s : IsClosing ids slots spare ids' slots' spare' cells end place) (within : place < length ids) where
    came_kept : (i slot k at : ℕ) → k < end → CameFrom ids slots ids' slots' cells k at → CameFrom ids slots (set ids' end i) (set slots' end slot) cells k at
    came_kept i slot k at lt c =
        let ne : k ≢ end = λ (e : k ≡ end). omega arith in
        record { later = c.later; id_is = get_or-set_other ids' end k i 0 ne ∙ c.id_is; slot_is = get_or-set_other slots' end k slot 0 ne ∙ c.slot_is; there = c.there }

    -- a place whose slot has an object
    module _ (some : IsSome (get_or cells (get_or slots place 0) None)) (id slot : ℕ) (id_is : id ≡ get_or ids place 0) (slot_is : slot ≡ get_or slots place 0) where
      in_ids : end < length ids'
      in_ids = omega (arith, s.ordered, s.ids_len, within)

      in_slots : end < length slots'
      in_slots = omega (arith, s.ordered, s.slots_len, g.beside, within)

      last : CameFrom ids slots (set ids' end id) (set slots' end slot) cells end place
      last = record { later = s.ordered; id_is = get_or-set_same ids' end id 0 in_ids ∙ id_is; slot_is = get_or-set_same slots' end slot 0 in_slots ∙ slot_is; there = some }

      were : (k : ℕ) → k < end + 1 → (at : ℕ) × (at < place + 1) × CameFrom ids slots (set ids' end id) (set slots' end slot) cells k at
      were k lt = elim (cases_lt k end) [
        | inl old ↦ let w = s.were k old in (w.0, omega (arith, w.1), came_kept id slot k w.0 old w.2)
        | inr le ↦
            let same : end ≡ k = omega (arith, lt, le) in
            (place, omega arith, subst (λ (i : ℕ). CameFrom ids slots (set ids' end id) (set slots' end slot) cells i place) same last)
      ]

      -- where the earlier of two places came from is before where the later did
      rises : (i j : ℕ) → i < j → j < end + 1 → get_or (set ids' end id) i 0 < get_or (set ids' end id) j 0
      rises i j lt in_end = elim (cases_lt j end) [
        | inl old ↦
            let a = get_or-set_other ids' end i id 0 (λ (e : i ≡ end). omega arith) in
            let b = get_or-set_other ids' end j id 0 (λ (e : j ≡ end). omega arith) in
            omega (arith, a, b, s.rises i j lt old)
        | inr le ↦
            let same : j ≡ end = omega (arith, in_end, le) in
            let old : i < end = omega (arith, lt, same) in
            let w = s.were i old in
            let a = get_or-set_other ids' end i id 0 (λ (e : i ≡ end). omega arith) in
            let b : get_or (set ids' end id) j 0 ≡ get_or ids place 0 = ap (λ (x : ℕ). get_or (set ids' end id) x 0) same ∙ last.id_is in
            omega (arith, a, b, w.2.id_is, g.rising w.0 place w.1 within)
      ]

      apart : (i j : ℕ) → i < j → j < end + 1 → get_or (set slots' end slot) i 0 ≢ get_or (set slots' end slot) j 0
      apart i j lt in_end e = elim (cases_lt j end) [
        | inl old ↦
            let a = get_or-set_other slots' end i slot 0 (λ (x : i ≡ end). omega arith) in
            let b = get_or-set_other slots' end j slot 0 (λ (x : j ≡ end). omega arith) in
            s.apart i j lt old (sym a ∙ e ∙ b)
        | inr le ↦
            let same : j ≡ end = omega (arith, in_end, le) in
            let old : i < end = omega (arith, lt, same) in
            let w = s.were i old in
            let a = get_or-set_other slots' end i slot 0 (λ (x : i ≡ end). omega arith) in
            let b : get_or (set slots' end slot) j 0 ≡ get_or slots place 0 = ap (λ (x : ℕ). get_or (set slots' end slot) x 0) same ∙ last.slot_is in
            g.slots_apart w.0 place w.1 (omega (arith, within, g.beside)) (sym w.2.slot_is ∙ sym a ∙ e ∙ b)
      ]

      pub closing_keep : IsClosing ids slots spare (set ids' end id) (set slots' end slot) spare' cells (end + 1) (place + 1)
      closing_keep = record {
        ids_len = length-set ids' end id ∙ s.ids_len;
        slots_len = length-set slots' end slot ∙ s.slots_len;
        ordered = omega (arith, s.ordered);
        in_range = omega arith;
        ahead = λ k le.
            let ne : k ≢ end = λ (e : k ≡ end). omega (arith, s.ordered) in
            let a = s.ahead k (omega arith) in
            (get_or-set_other ids' end k id 0 ne ∙ a.0, get_or-set_other slots' end k slot 0 ne ∙ a.1);
        were = were;
        stays = λ at lt there. elim (cases_lt at place) [
          | inl old ↦ let w = s.stays at old there in (w.0, omega (arith, w.1), came_kept id slot w.0 at w.1 w.2)
          | inr le ↦
              let same : place ≡ at = omega (arith, lt, le) in
              (end, omega arith, subst (λ (i : ℕ). CameFrom ids slots (set ids' end id) (set slots' end slot) cells end i) same last)
        ];
        rises = rises;
        apart = apart;
        count = omega (arith, s.count);
        spares = λ k lt. elim (s.spares k lt) [
          | inl old ↦ inl old
          | inr b ↦ inr (b.0, omega (arith, b.1), b.2, b.3)
        ];
        spare_apart = s.spare_apart;
      }

    -- a place whose slot is empty
    module _ (none : get_or cells (get_or slots place 0) None ≡ None) (slot : ℕ) (slot_is : slot ≡ get_or slots place 0) where
      fresh : (k : ℕ) → k < length spare' → get_or spare' k 0 ≢ slot
      fresh k lt e = elim (s.spares k lt) [
        | inl old ↦ g.parted place k (omega (arith, within, g.beside)) old.0 (sym slot_is ∙ sym e ∙ old.1)
        | inr b ↦ g.slots_apart b.0 place b.1 (omega (arith, within, g.beside)) (sym b.2 ∙ e ∙ slot_is)
      ]

      pub closing_drop : IsClosing ids slots spare ids' slots' (spare' ++ slot ∷ []) cells end (place + 1)
      closing_drop = record {
        ids_len = s.ids_len;
        slots_len = s.slots_len;
        ordered = omega (arith, s.ordered);
        in_range = omega arith;
        ahead = λ k le. s.ahead k (omega arith);
        were = λ k lt. (let w = s.were k lt in (w.0, omega (arith, w.1), w.2));
        stays = λ at lt there. elim (cases_lt at place) [
          | inl old ↦ s.stays at old there
          | inr le ↦
              let same : at ≡ place = omega (arith, lt, le) in
              absurd (both (get_or cells (get_or slots at 0) None) (ap (λ (i : ℕ). get_or cells (get_or slots i 0) None) same ∙ none) there)
        ];
        rises = s.rises;
        apart = s.apart;
        count = omega (arith, s.count, length-append spare' (slot ∷ []));
        spares = λ k lt. elim (cases_lt k (length spare')) [
          | inl old ↦ elim (s.spares k old) [
            | inl was ↦ inl (was.0, get_or_append_left spare' (slot ∷ []) 0 k old ∙ was.1)
            | inr b ↦ inr (b.0, omega (arith, b.1), get_or_append_left spare' (slot ∷ []) 0 k old ∙ b.2, b.3)
          ]
          | inr le ↦ inr (place, omega arith, get_or_push spare' slot 0 k (omega (arith, lt, le, length-append spare' (slot ∷ []))) ∙ slot_is, none)
        ];
        spare_apart = Apart-push spare' slot s.spare_apart (λ k d lt e. fresh k lt (default spare' k d lt ∙ e));
      }

  -- after the last place
  module _ (ids' slots' spare' : List ℕ) (end place : ℕ) (s : IsClosing ids slots spare ids' slots' spare' cells end place) (done : place ≡ length ids) where
    ids_short : length (take end ids') ≡ end
    ids_short = length-take-le end ids' (omega (arith, s.ordered, s.ids_len, done))

    slots_short : length (take end slots') ≡ end
    slots_short = length-take-le end slots' (omega (arith, s.ordered, s.slots_len, g.beside, done))

    came : (k at : ℕ) → k < end → CameFrom ids slots ids' slots' cells k at → CameFrom ids slots (take end ids') (take end slots') cells k at
    came k at lt c = record { later = c.later; id_is = get_or-take end ids' k 0 lt ∙ c.id_is; slot_is = get_or-take end slots' k 0 lt ∙ c.slot_is; there = c.there }

    pub closed_end : IsClosed ids slots (take end ids') (take end slots') cells
    closed_end = record {
      were = λ k lt.
          let in_end : k < end = omega (arith, lt, ids_short) in
          let w = s.were k in_end in
          (w.0, omega (arith, w.1, done), came k w.0 in_end w.2);
      stays = λ at lt there. (let w = s.stays at (omega (arith, lt, done)) there in (w.0, omega (arith, w.1, ids_short), came w.0 at w.1 w.2));
    }

    pub kept_end : IsKept (take end ids') (take end slots') spare' cells
    kept_end = record {
      beside = ids_short ∙ sym slots_short;
      total = omega (arith, slots_short, s.count, done, g.total, g.beside);
      rising = λ i j lt in_end.
          let old : j < end = omega (arith, in_end, ids_short) in
          omega (arith, s.rises i j lt old, get_or-take end ids' i 0 (omega arith), get_or-take end ids' j 0 old);
      used = λ k lt.
          let in_end : k < end = omega (arith, lt, slots_short) in
          let w = s.were k in_end in
          let at = get_or-take end slots' k 0 in_end ∙ w.2.slot_is in
          subst (λ (i : ℕ). (i < length cells) × IsSome (get_or cells i None)) (sym at) (in_range_some cells (get_or slots w.0 0) w.2.there, w.2.there);
      unused = λ k lt. elim (s.spares k lt) [
        | inl old ↦ subst (λ (i : ℕ). (i < length cells) × (get_or cells i None ≡ None)) (sym old.1) (g.unused k old.0)
        | inr b ↦ subst (λ (i : ℕ). (i < length cells) × (get_or cells i None ≡ None)) (sym b.2) (g.used b.0 (omega (arith, b.1, done, g.beside)), b.3)
      ];
      slots_apart = λ i j lt in_end e.
          let old : j < end = omega (arith, in_end, slots_short) in
          s.apart i j lt old (sym (get_or-take end slots' i 0 (omega arith)) ∙ e ∙ get_or-take end slots' j 0 old);
      spare_apart = s.spare_apart;
    }

module _ {T : Type 0} (ids slots spare gone : List ℕ) (cells cells' : List (Option T)) (first : ℕ) (kept : IsKept ids slots spare cells) (v : IsVacated ids slots gone (length gone) cells cells' first) where
  -- a slot that no id that goes has
  other_slot : (slot : ℕ) → ((k : ℕ) → k < length ids → get_or slots k 0 ≡ slot → Goes ids gone (length gone) k → ⊥) → get_or cells' slot None ≡ get_or cells slot None
  other_slot slot other = v.same slot (λ k goes e. other k goes.within e goes)

  -- an id that stays keeps its object
  stays_there : (k : ℕ) → k < length ids → (Goes ids gone (length gone) k → ⊥) → get_or cells' (get_or slots k 0) None ≡ get_or cells (get_or slots k 0) None
  stays_there k lt not = other_slot (get_or slots k 0) (λ j in_ids e goes.
      let same : j ≡ k = same_slot slots j k kept.slots_apart (omega (arith, in_ids, kept.beside)) (omega (arith, lt, kept.beside)) e in
      not (subst (λ (i : ℕ). Goes ids gone (length gone) i) same goes))

  some_there : (k : ℕ) → k < length ids → (Goes ids gone (length gone) k → ⊥) → IsSome (get_or cells' (get_or slots k 0) None)
  some_there k lt not = subst (λ (o : Option T). IsSome o) (sym (stays_there k lt not)) (kept.used k (omega (arith, lt, kept.beside))).1

  among : (k : ℕ) → Goes ids gone (length gone) k → Contains gone (get_or ids k 0)
  among k goes = (goes.at, goes.among, sym (default gone goes.at (get_or ids k 0) goes.among) ∙ goes.id_is)

  goes_of : (k id : ℕ) → k < length ids → get_or ids k 0 ≡ id → Contains gone id → Goes ids gone (length gone) k
  goes_of k id lt e c = record { at = c.0; among = c.1; within = lt; id_is = default gone c.0 id c.1 ∙ c.2 ∙ sym e }

  pub without_all : (ids' slots' spare' : List ℕ) → IsClosed ids slots ids' slots' cells' → IsKept ids' slots' spare' cells' → IsWithoutAll (record { ids = ids; slots = slots; cells = cells }) (record { ids = ids'; slots = slots'; cells = cells' }) gone
  without_all ids' slots' spare' closed kept' = record {
    beside = kept'.beside;
    rises = kept'.rising;
    stays = λ place id slot e not.
        let w = closed.stays place e.within (some_there place e.within (λ goes. not (subst (λ (i : ℕ). Contains gone i) e.id_is (among place goes)))) in
        (w.0, record { within = w.1; id_is = w.2.id_is ∙ e.id_is; slot_is = w.2.slot_is ∙ e.slot_is });
    were = λ place id slot e.
        let w = closed.were place e.within in
        let id_is = sym w.2.id_is ∙ e.id_is in
        (w.0, record { within = w.1; id_is = id_is; slot_is = sym w.2.slot_is ∙ e.slot_is }, (λ c. both (get_or cells' (get_or slots w.0 0) None) (v.empty w.0 (goes_of w.0 id w.1 id_is c)) w.2.there));
    pool = v.pool;
    empty = λ place id slot e c. ap (λ (i : ℕ). get_or cells' i None) (sym e.slot_is) ∙ v.empty place (goes_of place id e.within e.id_is c);
    same = λ slot other. other_slot slot (λ k in_ids e goes. other k (get_or ids k 0) (record { within = in_ids; id_is = refl; slot_is = e }) (among k goes));
  }

-- a vacated slot under other names
pub vacated_from : {T : Type 0} (ids slots ids0 slots0 gone : List ℕ) (count : ℕ) (old old0 new : List (Option T)) (first : ℕ) → ids0 ≡ ids → slots0 ≡ slots → old0 ≡ old → IsVacated ids0 slots0 gone count old0 new first → IsVacated ids slots gone count old new first
vacated_from ids slots ids0 slots0 gone count old old0 new first a b d v =
    subst (λ (xs : List ℕ). IsVacated xs slots gone count old new first) a
    (subst (λ (xs : List ℕ). IsVacated ids0 xs gone count old new first) b
    (subst (λ (os : List (Option _)). IsVacated ids0 slots0 gone count os new first) d v))

-- where no id goes, all stay
pub without_none : {T : Type 0} (a : Objects T) (gone : List ℕ) → length a.ids ≡ length a.slots → Rises a.ids → length gone ≡ 0 → IsWithoutAll a a gone
without_none a gone beside rises none =
    let not : (id : ℕ) → Contains gone id → ⊥ = λ id c. absurd (omega (arith, c.1, none)) in
    record {
      beside = beside;
      rises = rises;
      stays = λ place id slot e _. (place, e);
      were = λ place id slot e. (place, e, not id);
      pool = refl;
      empty = λ place id slot e c. absurd (not id c);
      same = λ slot _. refl;
    }
