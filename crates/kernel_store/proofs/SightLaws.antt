-- What is seen of an object tells its kind.
use Rattle.std.proofs.Common.{◌≡◌, ℕ, true, false, Option, Some, None, refl}
use Rattle.std.specs.Option.{option_map}
use Rattle.base.specs.declared.kinds.Kind as kind
use Rattle.kernel_rules.specs.State.{State, object_at, of_object, kind_of, is_kind, is_kind_at, avoids_at}
use Rattle.kernel_rules.specs.declared.objects.Object.{Object}
use Rattle.kernel_store.specs.Sights.{kind_at, is_of, avoids_seen}

kind_of_object : (k : kind.Kind) (o : Option Object)
    → is_of k (option_map (λ x. kind_of x.body) o) ≡ of_object false (is_kind k) o
unfolding is_of
kind_of_object k None = refl
kind_of_object k (Some x) = refl

-- the object is of a kind exactly where the kind that is seen is that one
pub kind_seen : (s : State) (k : kind.Kind) (o : ℕ) → is_of k (kind_at s o) ≡ is_kind_at s k o
unfolding kind_at
kind_seen s k o = kind_of_object k (object_at s o)

avoids_of_object : (s : State) (d : ℕ) (o : Option Object)
    → avoids_seen s d (option_map (λ x. kind_of x.body) o) ≡ of_object true (λ x. avoids_at s (kind_of x.body) d) o
avoids_of_object s d None = refl
avoids_of_object s d (Some x) = refl

-- a container won't hold an object exactly where it won't hold what was seen of it
pub avoids_object : (s : State) (d o : ℕ)
    → avoids_seen s d (kind_at s o) ≡ of_object true (λ x. avoids_at s (kind_of x.body) d) (object_at s o)
unfolding kind_at
avoids_object s d o = avoids_of_object s d (object_at s o)
