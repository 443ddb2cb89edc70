pub mod SinkLemmas
