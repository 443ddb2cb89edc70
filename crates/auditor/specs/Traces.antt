-- What flows from an object reach in a dump.
use Rattle.std.specs.Prelude.{ℕ, ◌↔◌, IsTrue, List}
use Rattle.base.specs.Live.{has}
use Rattle.dump_text.specs.Dump.{IsDump}
use Rattle.dump_text.specs.Lists.{DumpLists}
use Rattle.dump_text.specs.Whole.{start_with}
use Rattle.flow_rules.specs.Flows.{Flows}
use Rattle.flows.specs.Pairs.{ids_rise}
use Rattle.auditor.specs.Steps.{steps_of}

-- there is a flow outside category c from o to p in the dump: by the steps of its events and reads, from
-- the state that they begin in
abbrev pub FlowsIn : DumpLists → ℕ → ℕ → ℕ → Type 0
FlowsIn d c o p = Flows (start_with d.limits d.checkpoint).state (steps_of d.events d.reads) c o p

-- the ids of all objects that flows from o outside c reach in the dump, rising, each once
pub record IsReached (d : DumpLists) (c o : ℕ) (ids : List ℕ) : Type 0 where
  pub rising : IsTrue (ids_rise ids)
  pub exact : (p : ℕ) → IsTrue (has ids p) ↔ FlowsIn d c o p

-- the bytes spell a dump, and these are reached in it
abbrev pub Traces : List ℕ → ℕ → ℕ → List ℕ → Type 0
Traces bytes c o ids = (d : DumpLists) × IsDump bytes d × IsReached d c o ids
