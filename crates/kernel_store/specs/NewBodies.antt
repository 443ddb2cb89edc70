-- What a new object is.
use Rattle.std.specs.Prelude.{◌≡◌, ℕ, ◌*◌, [], true, replicate, None}
use Rattle.kernel_rules.specs.State.{State, bytes_at}
use Rattle.kernel_rules.specs.Step.{new_thread}
use Rattle.kernel_rules.specs.declared.objects.Body as body
use Rattle.kernel_rules.specs.declared.objects.Body.TheVariants as is
use Rattle.kernel_store.specs.Named.{names_space}
use Rattle.kernel_store.specs.declared.new_bodies.NewBody.{NewBody}
use Rattle.kernel_store.specs.declared.new_bodies.NewBody.TheVariants as new

-- its body, by what locations tell of ids
abbrev pub new_body : {L : Type 0} → (L → ℕ) → State → NewBody L → body.Body
new_body id s (new.Container kinds) = is.Container kinds []
new_body id s (new.Segment pages) = is.Segment (replicate (256 * pages) 0)
new_body id s (new.Copy source) = is.Segment (bytes_at s (id source))
new_body id s new.AddressSpace = is.AddressSpace (record { slots = replicate 16 None })
new_body id s (new.Thread start) = new_thread start.clearance.now start.entry_point
new_body id s (new.Gate gate) = is.Gate gate.now

-- how many labels it stores, its own among them
abbrev pub labels_of : {L : Type 0} → NewBody L → ℕ
labels_of (new.Container kinds) = 1
labels_of (new.Segment pages) = 1
labels_of (new.Copy source) = 1
labels_of new.AddressSpace = 1
labels_of (new.Thread start) = 3
labels_of (new.Gate gate) = 2

-- the source of a copy lies where it is told, and a gate hands on an address space, or none
abbrev pub IsSourced : {L : Type 0} → (L → Type 0) → State → NewBody L → Type 0
IsSourced stands s (new.Container kinds) = Unit {0}
IsSourced stands s (new.Segment pages) = Unit {0}
IsSourced stands s (new.Copy source) = stands source
IsSourced stands s new.AddressSpace = Unit {0}
IsSourced stands s (new.Thread start) = Unit {0}
IsSourced stands s (new.Gate gate) = names_space s gate.now.space ≡ true
