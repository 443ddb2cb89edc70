-- What holds of an object among all others, by how many lists have it.
use Rattle.std.specs.Prelude.{ℕ, Bool, ◌&&◌, nat_le, is_some}
use Rattle.std.specs.List.{list_all}
use Rattle.kernel_rules.specs.State.{State, object_at, listed, use_of}
use Rattle.kernel_rules.specs.WellFormed.{is_listed_rightly, is_whole}
use Rattle.kernel_rules.specs.declared.objects.Object.{Object}

-- the object x of id o, which so many lists have, lists only recorded ids, uses at most its quota, is
-- listed rightly, and is whole
abbrev pub is_held : State → ℕ → ℕ → Object → Bool
is_held s n o x =
    list_all (λ i. is_some (object_at s i)) (listed x.body) && nat_le (use_of s o) x.quota
    && is_listed_rightly n o x && is_whole x
