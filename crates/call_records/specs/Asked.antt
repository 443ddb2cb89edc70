-- What a record asks for.
use Rattle.std.specs.Prelude.{Option, Some, None}
use Rattle.kernel_rules.specs.declared.calls.Call.{Call}
use Rattle.kernel_rules.specs.declared.calls.Query.{Query}
use Rattle.call_records.specs.declared.logs.LogRequest.{LogRequest}
use Rattle.call_records.specs.declared.lookups.Lookup.{Lookup}
use Rattle.call_records.specs.declared.records.Request.{Request}
use Rattle.call_records.specs.Calls.{call_of}
use Rattle.call_records.specs.Logs.{log_request_of}
use Rattle.call_records.specs.Lookups.{lookup_of}
use Rattle.call_records.specs.Queries.{query_of}

-- a write call, a read call, a look-up, something of the log, or nothing
pub data Asked : Type 0 where
  Write : Call → Asked
  Read : Query → Asked
  Look : Lookup → Asked
  Log : LogRequest → Asked
  Nothing : Asked

-- the first of them that there is
abbrev pub asked_by : Option Call → Option Query → Option Lookup → Option LogRequest → Asked
asked_by (Some call) query lookup log = Write call
asked_by None (Some query) lookup log = Read query
asked_by None None (Some lookup) log = Look lookup
asked_by None None None (Some log) = Log log
asked_by None None None None = Nothing

-- what a record asks for
abbrev pub asked : Request → Asked
asked r = asked_by (call_of r) (query_of r) (lookup_of r) (log_request_of r)
