-- Scripts of write and read calls, played one line after another, and words to write them by.
use Rattle.std.specs.Prelude.{ℕ, Bool, List, [], ◌∷◌, map, fold}
use Rattle.base.specs.declared.ids.Category.{Category}
use Rattle.base.specs.declared.kinds.Kind.{Kind}
use Rattle.base.specs.declared.levels.Level.{Level}
use Rattle.base.specs.declared.ranges.Limits.{Limits}
use Rattle.base.specs.declared.sets.TypeSet.{TypeSet}
use Rattle.base.specs.Sets.{no_kind, only, union}
use Rattle.label_lattice.specs.Label.{LabelValue}
use Rattle.label_lattice.specs.declared.pairings.Pair.{Pair}
use Rattle.label_lattice.specs.declared.raw_labels.RawLabel.{RawLabel}
use Rattle.kernel_rules.specs.State.{State}
use Rattle.kernel_rules.specs.Step.{answer, next, query_answer}
use Rattle.kernel_rules.specs.declared.calls.Call.{Call}
use Rattle.kernel_rules.specs.declared.calls.Call.TheVariants as call
use Rattle.kernel_rules.specs.declared.calls.Entry.{Entry}
use Rattle.kernel_rules.specs.declared.calls.Query.{Query}
use Rattle.kernel_rules.specs.declared.objects.Mapping.{Mapping}
use Rattle.kernel_rules.specs.declared.replies.Reply.{Reply}

-- a thread's write call, or its read call
pub data Line : Type 0 where
  W : ℕ → Call → Line
  R : ℕ → Query → Line

-- what the lines answer, in order
abbrev pub play : State → List Line → List Reply
play s [] = []
play s (W t c ∷ lines) = answer s t c ∷ play (next s t c) lines
play s (R t q ∷ lines) = query_answer s t q ∷ play s lines

-- the state after the lines
abbrev pub after : State → List Line → State
after s [] = s
after s (W t c ∷ lines) = after (next s t c) lines
after s (R t q ∷ lines) = after s lines

-- the recorded ids
abbrev pub ids : State → List ℕ
ids s = map (λ e. e.0) s.objects

abbrev pub limits : ℕ → Level → ℕ → ℕ → Limits
limits p d i c = record { pages = p; device = d; next_id = i; next_category = c }

abbrev pub category : ℕ → Category
category n = record { 0 = n }

abbrev pub at : ℕ → Level → Pair
at c l = record { category = category c; level = l }

abbrev pub raw : Level → List Pair → RawLabel
raw d ps = record { default = d; pairs = ps }

abbrev pub label : Level → List Pair → LabelValue
label d ps = record { default_level = d; exceptions = ps }

abbrev pub entry : ℕ → ℕ → Entry
entry d o = record { container = d; object = o }

-- the set of these kinds
abbrev pub kinds : List Kind → TypeSet
kinds ks = fold (λ set k. union set (only k)) no_kind ks

abbrev pub mapping : ℕ → Entry → ℕ → ℕ → Bool → Bool → Mapping
mapping page e first count reads writes = record {
  page = page;
  entry = e;
  first = first;
  count = count;
  rights = record { read = reads; write = writes };
}

abbrev pub container_create : ℕ → RawLabel → ℕ → TypeSet → Call
container_create d x q avoid =
    call.ContainerCreate (record { container = d; label = x; quota = q; avoid = avoid })

abbrev pub segment_create : ℕ → RawLabel → ℕ → ℕ → Call
segment_create d x q pages =
    call.SegmentCreate (record { container = d; label = x; quota = q; pages = pages })

abbrev pub segment_copy : ℕ → RawLabel → ℕ → Entry → Call
segment_copy d x q source =
    call.SegmentCopy (record { container = d; label = x; quota = q; source = source })

abbrev pub as_create : ℕ → RawLabel → ℕ → Call
as_create d x q = call.AsCreate (record { container = d; label = x; quota = q })

abbrev pub thread_create : ℕ → RawLabel → ℕ → RawLabel → ℕ → Call
thread_create d x q y entry_point = call.ThreadCreate (record {
  container = d;
  label = x;
  quota = q;
  clearance = y;
  entry_point = entry_point;
})

abbrev pub gate_create : ℕ → RawLabel → ℕ → RawLabel → Entry → ℕ → ℕ → Call
gate_create d x q y e entry_point closure = call.GateCreate (record {
  container = d;
  label = x;
  quota = q;
  clearance = y;
  space = e;
  entry_point = entry_point;
  closure = closure;
})
