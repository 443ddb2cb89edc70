-- What a mapping names where nothing refuses it.
use Rattle.std.proofs.Common.{◌≡◌, ℕ, true, None, ◌++◌}
use Rattle.base.specs.declared.kinds.Kind.TheVariants as kinds
use Rattle.kernel_rules.specs.Table.{halted, refused, row}
use Rattle.kernel_rules.specs.State.{State}
use Rattle.kernel_rules.specs.declared.calls.Call.TheVariants as call
use Rattle.kernel_rules.specs.declared.calls.Entry.{Entry}
use Rattle.kernel_rules.specs.declared.objects.Mapping.{Mapping}
use Rattle.kernel_rules.proofs.RowLaws.{none_hold}
use Rattle.kernel_store.specs.Named.{names}
use Rattle.kernel_store.proofs.NamedLaws.{names_from}

pub mapped_names : (s : State) (t : ℕ) (e : Entry) (slot : ℕ) (m : Mapping) → refused s t (call.AsMap e slot m) ≡ None
    → names s kinds.Segment m.entry ≡ true
unfolding refused
mapped_names s t e slot m h =
    let none = none_hold (halted s t ++ row s t (call.AsMap e slot m)) h in
    names_from s t kinds.Segment m.entry none.1.1.1.0 none.1.1.1.1.1.1.0
