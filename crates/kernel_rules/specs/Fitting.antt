-- Which new objects fit into a container.
use Rattle.std.specs.Prelude.{◌≡◌, ℕ, ◌+◌, ◌≤◌, ◌<◌, true, []}
use Rattle.base.specs.Limits.{spent}
use Rattle.base.specs.declared.kinds.Kind.TheVariants as kinds
use Rattle.kernel_rules.specs.State.{State, is_kind_at, listed, own_cost, quota_at, use_of}
use Rattle.kernel_rules.specs.WellFormed.{is_whole_body}
use Rattle.kernel_rules.specs.declared.objects.Body.{Body}

-- an object of quota q with this body fits into container d
pub record IsFitting (s : State) (d q : ℕ) (b : Body) : Type 0 where
  pub container : is_kind_at s kinds.Container d ≡ true
  pub enough : own_cost b ≤ q
  pub room : use_of s d + q ≤ quota_at s d
  pub left : s.next_id < spent
  pub empty : listed b ≡ []
  pub whole : is_whole_body b ≡ true
