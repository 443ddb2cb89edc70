-- What a thread sees of an object and of an entry: each part is what the rules define.
use Rattle.std.specs.Prelude.{ℕ, Bool, true, false, ◌==◌, Option, Some, None}
use Rattle.std.specs.Option.{option_map}
use Rattle.base.specs.Live.{has}
use Rattle.base.specs.declared.kinds.Kind as kind
use Rattle.base.specs.declared.kinds.Kind.TheVariants as kinds
use Rattle.kernel_rules.specs.State.{State, object_at, kind_of, kind_number}
use Rattle.kernel_rules.specs.State.{is_accessible, holds, list_at, observes, flows_to}
use Rattle.kernel_rules.specs.State.{is_immutable, is_fixed, is_live_kind, page_count, avoids_at}
use Rattle.kernel_rules.specs.declared.calls.Entry.{Entry}
use Rattle.kernel_store.specs.declared.sights.Seen.{Seen}
use Rattle.kernel_store.specs.declared.sights.Sight.{Sight}

-- the kind of o, where it is recorded
unfoldable pub kind_at : State → ℕ → Option kind.Kind
kind_at s o = option_map (λ x. kind_of x.body) (object_at s o)

-- a kind is there, and is this one
unfoldable pub is_of : kind.Kind → Option kind.Kind → Bool
is_of k None = false
is_of k (Some other) = kind_number other == kind_number k

-- what thread t sees of object o
abbrev pub seen_of : State → ℕ → ℕ → Seen
seen_of s t o = record {
  kind = kind_at s o;
  observed = observes s t o;
  flowing = flows_to s t o;
  immutable = is_immutable s o;
  fixed = is_fixed s o;
  pages = page_count s o;
}

-- what thread t sees of an entry
abbrev pub sight_of : State → ℕ → Entry → Sight
sight_of s t e = record {
  runs = is_live_kind s kinds.Thread t;
  accessible = is_accessible s t e.container;
  held = holds s e;
  listed = has (list_at s e.container) e.object;
  container = seen_of s t e.container;
  object = seen_of s t e.object;
}

-- container d won't hold what is of this kind, nor what is not recorded
abbrev pub avoids_seen : State → ℕ → Option kind.Kind → Bool
avoids_seen s d None = true
avoids_seen s d (Some k) = avoids_at s k d
