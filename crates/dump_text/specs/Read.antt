-- The spelling of reads.
use Rattle.std.specs.Prelude.{◌≡◌, ℕ, ◌<◌, ◌^◌, List, ◌∷◌, ◌++◌, codes, decimal, Option, Some, None}
use Rattle.dump_text.specs.declared.reads.Read.{Read}
use Rattle.dump_text.specs.Query.{query_text, IsQuery}
use Rattle.dump_text.specs.ReadReply.{read_reply_text, IsReadReply, FitsReadReply}

-- QUERY => REPLY
abbrev pub asked_text : Read → List ℕ
asked_text r = query_text r.query ++ codes " => " ++ read_reply_text r.reply

-- THREAD QUERY => REPLY
abbrev pub read_text : Read → List ℕ
read_text r = decimal r.thread ++ 32 ∷ asked_text r

-- What was read is a read of the thread, with the query and the reply that the text spells. Nothing is read only where it
-- spells none.
abbrev pub ReadsAsked : ℕ → List ℕ → Option Read → Type 0
ReadsAsked thread text (Some r) =
    (r.thread ≡ thread) × IsQuery r.query × IsReadReply r.reply × (text ≡ asked_text r)
ReadsAsked thread text None =
    (r : Read) → IsQuery r.query → IsReadReply r.reply → text ≡ asked_text r → ⊥

-- each part is in its range
pub record IsRead (r : Read) : Type 0 where
  pub thread : r.thread < 2 ^ 64
  pub query : IsQuery r.query
  pub reply : IsReadReply r.reply

-- the values of a read fit their words
pub record FitsRead (r : Read) : Type 0 where
  pub thread : r.thread < 2 ^ 64
  pub query : IsQuery r.query
  pub reply : FitsReadReply r.reply
