-- What a thread may delete.
use Rattle.std.specs.Prelude.{◌≡◌, ℕ, Bool, true, ◌&&◌, List, [], Option, Some, None, is_none, codes, if◌then◌else◌}
use Rattle.std.specs.List.{list_any}
use Rattle.base.specs.Live.{has}
use Rattle.base.specs.declared.kinds.Kind.TheVariants as kinds
use Rattle.kernel_rules.specs.Scratch.{ids_of}
use Rattle.kernel_rules.specs.State.{State, is_live_kind, list_at}
use Rattle.kernel_rules.specs.Table.{refused}
use Rattle.kernel_rules.specs.declared.calls.Call.TheVariants as call
use Rattle.kernel_rules.specs.declared.calls.Entry.{Entry}

-- whether the container lists the object, and the rules refuse nothing where thread t unreferences it there
abbrev pub may_unref : State → ℕ → Entry → Bool
may_unref s t e = has (list_at s e.container) e.object && is_none (refused s t (call.Unref e))

-- whether it may do so in some container
abbrev pub may_delete : State → ℕ → ℕ → Bool
may_delete s t id = list_any (λ c. may_unref s t (record { container = c; object = id })) (ids_of s.objects)

-- what a line says of an object that the thread which is asked about may delete
abbrev pub deletable_text : State → Option ℕ → ℕ → List ℕ
deletable_text s None id = []
deletable_text s (Some t) id = if may_delete s t id then codes ", deletable" else []

-- the thread that is asked about is live, where one is
abbrev pub is_there : State → Option ℕ → Bool
is_there s None = true
is_there s (Some t) = is_live_kind s kinds.Thread t
