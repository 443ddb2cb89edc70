-- The table of what verbs ask, with the names that are known.
use Rattle.std.specs.Prelude.{List, Option, Some, None}
use Rattle.kernel_rules.specs.declared.calls.Call.{Call}
use Rattle.kernel_rules.specs.declared.calls.Call.TheVariants as calls
use Rattle.kernel_rules.specs.declared.calls.Query.{Query}
use Rattle.kernel_rules.specs.declared.calls.Query.TheVariants as queries
use Rattle.text_words.specs.declared.spoken_calls.args.Arg.{Arg}
use Rattle.text_words.specs.declared.spoken_calls.verbs.Verb.{Verb}
use Rattle.text_words.specs.declared.spoken_calls.verbs.Verb.TheVariants as verbs
use Rattle.call_text.specs.declared.asking.Asked.{Asked}
use Rattle.call_text.specs.declared.asking.Asked.TheVariants.{Write, Read}
use Rattle.call_text.specs.declared.known_names.Named.{Named}
use Rattle.call_text.specs.Place.{object_at, label_at, number_at, wide_at, signed_at, data_at}
use Rattle.call_text.specs.Place.{types_at, entry_at, mapping_at}

-- what a verb asks with these arguments
abbrev pub asked_of : Verb → List Arg → List Named → Asked
asked_of verbs.CatCreate xs names = Write calls.CatCreate
asked_of verbs.SelfSetLabel xs names = Write (calls.SelfSetLabel (label_at 0 xs names))
asked_of verbs.SelfSetClearance xs names = Write (calls.SelfSetClearance (label_at 0 xs names))
asked_of verbs.SelfSetAs xs names = Write (calls.SelfSetAs (entry_at 0 xs names))
asked_of verbs.ContainerCreate xs names =
    Write
    (calls.ContainerCreate (record {
      container = object_at 0 xs names;
      label = label_at 1 xs names;
      quota = number_at 2 xs;
      avoid = types_at 3 xs;
    }))
asked_of verbs.SegmentCreate xs names =
    Write
    (calls.SegmentCreate (record {
      container = object_at 0 xs names;
      label = label_at 1 xs names;
      quota = number_at 2 xs;
      pages = number_at 3 xs;
    }))
asked_of verbs.SegmentCopy xs names =
    Write
    (calls.SegmentCopy (record {
      container = object_at 0 xs names;
      label = label_at 1 xs names;
      quota = number_at 2 xs;
      source = entry_at 3 xs names;
    }))
asked_of verbs.AsCreate xs names =
    Write
    (calls.AsCreate (record {
      container = object_at 0 xs names;
      label = label_at 1 xs names;
      quota = number_at 2 xs;
    }))
asked_of verbs.ThreadCreate xs names =
    Write
    (calls.ThreadCreate (record {
      container = object_at 0 xs names;
      label = label_at 1 xs names;
      quota = number_at 2 xs;
      clearance = label_at 3 xs names;
      entry_point = wide_at 4 xs;
    }))
asked_of verbs.GateCreate xs names =
    Write
    (calls.GateCreate (record {
      container = object_at 0 xs names;
      label = label_at 1 xs names;
      quota = number_at 2 xs;
      clearance = label_at 3 xs names;
      space = entry_at 4 xs names;
      entry_point = wide_at 6 xs;
      closure = wide_at 7 xs;
    }))
asked_of verbs.Link xs names = Write (calls.Link (object_at 0 xs names) (entry_at 1 xs names))
asked_of verbs.Unref xs names = Write (calls.Unref (entry_at 0 xs names))
asked_of verbs.QuotaMove xs names = Write (calls.QuotaMove (entry_at 0 xs names) (signed_at 2 xs))
asked_of verbs.SetFixed xs names = Write (calls.SetFixed (entry_at 0 xs names))
asked_of verbs.SetImmutable xs names = Write (calls.SetImmutable (entry_at 0 xs names))
asked_of verbs.MetaSet xs names = Write (calls.MetaSet (entry_at 0 xs names) (data_at 2 xs))
asked_of verbs.SegmentResize xs names =
    Write (calls.SegmentResize (entry_at 0 xs names) (number_at 2 xs))
asked_of verbs.SegmentWrite xs names =
    Write (calls.SegmentWrite (entry_at 0 xs names) (number_at 2 xs) (data_at 3 xs))
asked_of verbs.AsMap xs names =
    Write (calls.AsMap (entry_at 0 xs names) (number_at 2 xs) (mapping_at 3 xs names))
asked_of verbs.AsUnmap xs names = Write (calls.AsUnmap (entry_at 0 xs names) (number_at 2 xs))
asked_of verbs.Store xs names = Write (calls.Store (wide_at 0 xs) (data_at 1 xs))
asked_of verbs.GateEnter xs names =
    Write
    (calls.GateEnter (entry_at 0 xs names) (label_at 2 xs names) (label_at 3 xs names)
    (label_at 4 xs names))
asked_of verbs.DevSend xs names = Write (calls.DevSend (entry_at 0 xs names) (data_at 2 xs))
asked_of verbs.DevRecv xs names = Write (calls.DevRecv (entry_at 0 xs names))
asked_of verbs.SelfGet xs names = Read queries.SelfGet
asked_of verbs.ObjLabel xs names = Read (queries.ObjLabel (entry_at 0 xs names))
asked_of verbs.ObjQuota xs names = Read (queries.ObjQuota (entry_at 0 xs names))
asked_of verbs.ContainerList xs names =
    Read (queries.ContainerList (object_at 0 xs names) (number_at 1 xs))
asked_of verbs.ContainerParent xs names = Read (queries.ContainerParent (object_at 0 xs names))
asked_of verbs.SegmentLen xs names = Read (queries.SegmentLen (entry_at 0 xs names))
asked_of verbs.SegmentRead xs names =
    Read (queries.SegmentRead (entry_at 0 xs names) (number_at 2 xs) (number_at 3 xs))
asked_of verbs.MetaGet xs names = Read (queries.MetaGet (entry_at 0 xs names))
asked_of verbs.AsGet xs names = Read (queries.AsGet (entry_at 0 xs names) (number_at 2 xs))
asked_of verbs.Load xs names = Read (queries.Load (wide_at 0 xs) (number_at 1 xs))

-- the query, or else the call
abbrev pub asked_by : Option Query → Call → Asked
asked_by (Some query) call = Read query
asked_by None call = Write call
