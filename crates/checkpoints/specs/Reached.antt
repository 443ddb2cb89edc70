-- What holds of each state that calls lead to, beside that it is well formed: so much that a checkpoint
-- of it can be restored.
use Rattle.std.specs.Prelude.{◌≡◌, ◌==◌, ◌&&◌, ◌||◌, Bool, true, not, nat_lt}
use Rattle.std.specs.List.{list_all}
use Rattle.base.specs.declared.ranges.Limits.{Limits}
use Rattle.base.specs.declared.kinds.Kind.TheVariants as kinds
use Rattle.kernel_rules.specs.State.{State, is_kind}
use Rattle.kernel_rules.specs.declared.objects.Object.{Object}
use Rattle.checkpoints.specs.Restorable.{each, has_root, names_given, is_made_below, has_counters, is_starless}
use Rattle.checkpoints.specs.Restorable.{lists_rightly, maps_rightly, names_kinds, is_whole_entry, spaces_in}

-- threads and devices are not immutable, and a thread's metadata are zeros: a checkpoint has no place for more
abbrev pub is_plain : Object → Bool
is_plain x =
    not ((is_kind kinds.Thread x || is_kind kinds.Device x) && x.immutable)
    && (not (is_kind kinds.Thread x) || list_all (λ b. b == 0) x.metadata)

-- the conditions on the state of a checkpoint that can be restored, but that it is well formed; and what its objects
-- are as they are written
pub record IsSound (limits : Limits) (s : State) : Type 0 where
  pub root : has_root limits s ≡ true
  pub ids : list_all (λ e. nat_lt 0 e.0) s.objects ≡ true
  pub given : each (names_given s.next_id) s ≡ true
  pub made : each (is_made_below s.next_category) s ≡ true
  pub counters : has_counters limits s ≡ true
  pub starless : each is_starless s ≡ true
  pub lists : each (lists_rightly s) s ≡ true
  pub maps : each maps_rightly s ≡ true
  pub kinds : each (names_kinds s) s ≡ true
  pub entries : each (λ x. list_all is_whole_entry (spaces_in x.body)) s ≡ true
  pub plain : each is_plain s ≡ true
