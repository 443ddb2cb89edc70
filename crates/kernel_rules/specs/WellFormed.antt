-- What holds of every state that calls lead to.
use Rattle.std.specs.Prelude.{ℕ, ◌*◌, ◌/◌, Bool, true, not, ◌&&◌, ◌||◌, ◌==◌, nat_lt, nat_le, List}
use Rattle.std.specs.Prelude.{[], ◌∷◌, length, sum_by, is_some, if◌then◌else◌}
use Rattle.std.specs.List.{list_all}
use Rattle.base.specs.Level.{rank_of}
use Rattle.base.specs.Live.{has, are_live}
use Rattle.base.specs.declared.kinds.Kind.TheVariants as kinds
use Rattle.label_lattice.specs.Label.{LabelValue}
use Rattle.label_lattice.specs.declared.pairings.Pair.{Pair}
use Rattle.kernel_rules.specs.Sizes.{page_bytes, most_pages, slot_count, most_bytes, most_packets, most_exceptions}
use Rattle.kernel_rules.specs.State.{State, lists_of, object_at, listed, use_of, is_kind}
use Rattle.kernel_rules.specs.declared.objects.Object.{Object}
use Rattle.kernel_rules.specs.declared.objects.Body as body
use Rattle.kernel_rules.specs.declared.objects.Body.TheVariants as is

-- the categories rise
abbrev pub categories_rise : List Pair → Bool
categories_rise [] = true
categories_rise (p ∷ ps) = list_all (λ q. nat_lt p.category.0 q.category.0) ps && categories_rise ps

-- the label is stored: its default is not star, and its exceptions, at most 16 by rising
-- category, have other levels than that
abbrev pub is_stored : LabelValue → Bool
is_stored l =
    not (rank_of l.default_level == 0) && nat_le (length l.exceptions) most_exceptions
    && categories_rise l.exceptions
    && list_all (λ p. not (rank_of p.level == rank_of l.default_level)) l.exceptions

-- a segment has up to 16 whole pages of 256 bytes, an address space 16 slots, a device up to 4
-- packets of 1 to 64 bytes
abbrev pub is_whole_body : body.Body → Bool
is_whole_body (is.Container avoid list) = true
is_whole_body (is.Segment bytes) =
    length bytes == page_bytes * (length bytes / page_bytes)
    && nat_le (length bytes) (page_bytes * most_pages)
is_whole_body (is.AddressSpace slots) = length slots.slots == slot_count
is_whole_body (is.Thread t) = is_stored t.clearance && is_stored t.verify
is_whole_body (is.Gate g) = is_stored g.clearance
is_whole_body (is.Device packets) =
    nat_le (length packets) most_packets
    && list_all (λ p. nat_le 1 (length p) && nat_le (length p) most_bytes) packets

-- what holds of an object apart from all others
abbrev pub is_whole : Object → Bool
is_whole x = is_stored x.label && length x.metadata == most_bytes && is_whole_body x.body

-- no id stands twice
abbrev pub is_distinct : List ℕ → Bool
is_distinct [] = true
is_distinct (i ∷ ids) = not (has ids i) && is_distinct ids

-- how many lists have o
abbrev pub listers : State → ℕ → ℕ
listers s o = sum_by (λ e. if has e.1 o then 1 else 0) (lists_of s.objects)

-- of n lists that have o: the root is in none, any other container in one, any other object in
-- one, or in more where its quota is fixed
abbrev pub is_listed_rightly : ℕ → ℕ → Object → Bool
is_listed_rightly n o x =
    if o == 1 then n == 0
    else if is_kind kinds.Container x then n == 1
    else nat_le 1 n && (nat_le n 1 || x.fixed)

-- what holds of the object x of id o among all others: it lists no id twice, and only recorded
-- ones; it uses at most its quota; it is listed rightly; and it is whole
abbrev pub is_kept : State → ℕ → Object → Bool
is_kept s o x =
    is_distinct (listed x.body) && list_all (λ i. is_some (object_at s i)) (listed x.body)
    && nat_le (use_of s o) x.quota && is_listed_rightly (listers s o) o x && is_whole x

-- each recorded id was given away
abbrev pub are_given : State → Bool
are_given s = list_all (λ e. nat_lt e.0 s.next_id) (lists_of s.objects)

-- the ids rise, so each stands once
abbrev pub ids_rise : List (ℕ × Object) → Bool
ids_rise [] = true
ids_rise (e ∷ es) = list_all (λ f. nat_lt e.0 f.0) es && ids_rise es

-- the state is well formed: the ids of the boot were given, each recorded id is live, was given
-- and stands once, and each object is kept
unfoldable pub is_well_formed : State → Bool
is_well_formed s =
    nat_lt 3 s.next_id && are_live (lists_of s.objects) && are_given s && ids_rise s.objects
    && list_all (λ e. is_kept s e.0 e.1) s.objects
