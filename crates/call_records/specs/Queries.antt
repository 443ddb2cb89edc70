-- The read calls that records ask for: none where a number is malformed.
use Rattle.std.specs.Prelude.{◌-◌, List, [], ◌∷◌, Option, Some, None, option_map, nat_le, slice_get}
use Rattle.std.specs.Prelude.{if◌then◌else◌}
use Rattle.std.specs.Option.{option_and_then}
use Rattle.kernel_rules.specs.declared.calls.Query.{Query}
use Rattle.kernel_rules.specs.declared.calls.Query.TheVariants as queries
use Rattle.call_records.specs.declared.records.Request.{Request}
use Rattle.call_records.specs.Maybe.{map2}
use Rattle.call_records.specs.Words.{entry_of, wide_at, number_at}

abbrev pub self_get : Request → Option Query
self_get r = Some queries.SelfGet

abbrev pub obj_label : Request → Option Query
obj_label r = Some (queries.ObjLabel (entry_of r))

abbrev pub obj_quota : Request → Option Query
obj_quota r = Some (queries.ObjQuota (entry_of r))

abbrev pub container_list : Request → Option Query
container_list r = option_map (queries.ContainerList r.container) (number_at r 0)

abbrev pub container_parent : Request → Option Query
container_parent r = Some (queries.ContainerParent r.container)

abbrev pub segment_len : Request → Option Query
segment_len r = Some (queries.SegmentLen (entry_of r))

abbrev pub segment_read : Request → Option Query
segment_read r = map2 (queries.SegmentRead (entry_of r)) (number_at r 0) (number_at r 1)

abbrev pub meta_get : Request → Option Query
meta_get r = Some (queries.MetaGet (entry_of r))

abbrev pub as_get : Request → Option Query
as_get r = option_map (queries.AsGet (entry_of r)) (number_at r 0)

abbrev pub load : Request → Option Query
load r = option_map (queries.Load (wide_at r 0)) (number_at r 1)

-- the read calls by their numbers, from 25
abbrev pub all : List (Request → Option Query)
all =
    self_get ∷ obj_label ∷ obj_quota ∷ container_list ∷ container_parent ∷ segment_len
    ∷ segment_read ∷ meta_get ∷ as_get ∷ load ∷ []

-- the read call that a record asks for
abbrev pub query_of : Request → Option Query
query_of r =
    if nat_le 25 r.call then option_and_then (λ asks. asks r) (slice_get all (r.call - 25)) else None
