-- What an object holds by its kind.
use Rattle.std.specs.Prelude.{ℕ, Option}
use Rattle.std.specs.Option.{option_map}
use Rattle.kernel_rules.specs.State.{State, object_at}
use Rattle.kernel_rules.specs.declared.objects.Body.{Body}

-- the body of o
abbrev pub body_at : State → ℕ → Option Body
body_at s o = option_map (λ x. x.body) (object_at s o)
