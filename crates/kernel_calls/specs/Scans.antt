-- How many labels a call stores, and how many it may scan.
use Rattle.std.specs.Prelude.{ℕ, ◌+◌, ◌*◌, ◌==◌, Bool, true, false}
use Rattle.kernel_rules.specs.declared.calls.Call.{Call}
use Rattle.kernel_rules.specs.declared.calls.Call.TheVariants as call
use Rattle.kernel_rules.specs.declared.calls.Query.{Query}
use Rattle.kernel_rules.specs.declared.calls.Query.TheVariants as query

-- how many labels the call stores: a new thread has a clearance and a verify label beside its
-- label, a gate a clearance
abbrev pub stores : Call → ℕ
stores call.CatCreate = 2
stores (call.SelfSetLabel x) = 1
stores (call.SelfSetClearance y) = 1
stores (call.ContainerCreate n) = 1
stores (call.SegmentCreate n) = 1
stores (call.SegmentCopy n) = 1
stores (call.AsCreate n) = 1
stores (call.ThreadCreate n) = 3
stores (call.GateCreate n) = 2
stores (call.GateEnter e r q v) = 3
stores c = 0

-- the call stores no label, so it compares only labels which are kept
abbrev pub is_quiet : Call → Bool
is_quiet c = stores c == 0

-- what a call that stores n labels may scan at most, where objects carry m different ones before it
abbrev pub most_scans : ℕ → ℕ → ℕ
most_scans n m = 12 + 6 * (n + 1) * (m + n)

-- the query reads through the caller's address space
abbrev pub is_load : Query → Bool
is_load (query.Load address n) = true
is_load q = false
