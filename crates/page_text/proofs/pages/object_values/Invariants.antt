use Rattle.std.proofs.Common.{◌≡◌, ◌++◌, drop, map}
use Rattle.page_text.specs.Page.{object_data}
use Rattle.serde_json.specs.View.{view}
use Rattle.page_text.proofs.pages.object_values.Given as goal

abbrev pub invariant-loop-id : goal.invariant-loop-id
invariant-loop-id l =
    map view l.values.items ++ map (object_data l.names) (drop l.id-index l.ids) ≡ map (object_data l.names) l.ids
