-- Reads: what parts a query from its reply stands in no query.
use Rattle.std.proofs.Common.{lit<, ◌≡◌, ℕ, ◌<◌, ◌^◌, true, List, ◌∷◌, ◌++◌, Option, Some, None, refl, ap, ◌∙◌, sym, subst, decimal}
use Rattle.std.specs.Prelude.{codes}
use Rattle.std.proofs.lemmas.Fmt.{decimal_injective}
use Rattle.text_words.specs.Lacks.{lacks}
use Rattle.text_words.specs.Reading.{Reads}
use Rattle.text_words.proofs.LackLemmas.{lacks-append, decimal_lacks}
use Rattle.text_words.proofs.OneLemmas.{first_part}
use Rattle.text_words.proofs.PartLemmas.{not_in}
use Rattle.text_words.proofs.SpokenLemmas.{spoken_lacks_end}
use Rattle.dump_text.specs.declared.reads.Read.{Read}
use Rattle.dump_text.specs.Query.{query_spoken, query_text, IsQuery}
use Rattle.dump_text.specs.Read.{asked_text, read_text, IsRead, ReadsAsked}
use Rattle.dump_text.specs.ReadReply.{read_reply_text}
use Rattle.dump_text.proofs.CallLemmas.{query_is_one}
use Rattle.dump_text.proofs.EventLemmas.{query_lacks_sign, parts_same}
use Rattle.dump_text.proofs.ReplyLemmas.{reply_is_one, reply_lacks_end}
use Rattle.dump_text.proofs.ReportLemmas.{number_lacks}

-- the query and the reply of a read that the text spells
pub asked_same : (text : List ℕ) (r : Read) → IsQuery r.query → text ≡ asked_text r → (query reply : List ℕ) → text ≡ query ++ codes " => " ++ reply → lacks 61 query ≡ true → (query ≡ query_text r.query) × (reply ≡ read_reply_text r.reply)
asked_same text r is spelled query reply parts lack = parts_same text (query_text r.query) (read_reply_text r.reply) query reply (query_lacks_sign r.query is) lack spelled parts

pub no_query : (text : List ℕ) (r : Read) → IsQuery r.query → text ≡ asked_text r → ((query reply : List ℕ) → lacks 61 query ≡ true → text ≡ query ++ codes " => " ++ reply → ⊥) → ⊥
no_query text r is at none = none (query_text r.query) (read_reply_text r.reply) (query_lacks_sign r.query is) at

asked_lacks_end : (r : Read) → IsRead r → lacks 10 (asked_text r) ≡ true
asked_lacks_end r is = lacks-append 10 (query_text r.query ++ codes " => ") (read_reply_text r.reply) (lacks-append 10 (query_text r.query) (codes " => ") (spoken_lacks_end (query_spoken r.query) is.query) refl) (reply_lacks_end r.reply is.reply)

-- the thread and the rest
pub no_thread : (text : List ℕ) (r : Read) → text ≡ read_text r → lacks 32 text ≡ true → ⊥
no_thread text r spelled l = not_in 32 (decimal r.thread) (asked_text r) (subst (λ (x : List ℕ). lacks 32 x ≡ true) spelled l)

pub thread_is : (text thread more : List ℕ) (r : Read) → r.thread < 2 ^ 64 → text ≡ read_text r → text ≡ thread ++ 32 ∷ more → lacks 32 thread ≡ true → (thread ≡ decimal r.thread) × (more ≡ asked_text r)
thread_is text thread more r few spelled parts lack = first_part 32 thread (decimal r.thread) more (asked_text r) lack (number_lacks r.thread few) (sym parts ∙ spelled)

pub read_lacks_end : (r : Read) → IsRead r → lacks 10 (read_text r) ≡ true
read_lacks_end r is = lacks-append 10 (decimal r.thread) (32 ∷ asked_text r) (decimal_lacks 10 r.thread (lit< tt) is.thread) (asked_lacks_end r is)

-- no two reads have one spelling
pub read_is_one : (a b : Read) → IsRead a → IsRead b → read_text a ≡ read_text b → a ≡ b
read_is_one a b ia ib same =
    let p = thread_is (read_text a) (decimal a.thread) (asked_text a) b ib.thread same refl (number_lacks a.thread ia.thread) in
    let t = decimal_injective a.thread b.thread ia.thread ib.thread p.0 in
    let q = asked_same (asked_text a) b ib.query p.1 (query_text a.query) (read_reply_text a.reply) refl (query_lacks_sign a.query ia.query) in
    let u = query_is_one a.query b.query ia.query ib.query q.0 in
    let v = reply_is_one a.reply b.reply ia.reply ib.reply q.1 in
    (λ i. record { thread = t i; query = u i; reply = v i })

-- a thread, and then its query and reply
pub read_whole : (text thread more : List ℕ) (n : ℕ) (o : Option Read) → text ≡ thread ++ 32 ∷ more → lacks 32 thread ≡ true
    → thread ≡ decimal n → n < 2 ^ 64 → ReadsAsked n more o → Reads read_text IsRead text o
read_whole text thread more n (Some r) parts lack is few read =
    let small : r.thread < 2 ^ 64 = subst (λ (k : ℕ). k < 2 ^ 64) (sym read.0) few in (
      record { thread = small; query = read.1; reply = read.2 },
      parts ∙ (λ i. (is ∙ ap decimal (sym read.0)) i ++ 32 ∷ read.3 i),
    )
read_whole text thread more n None parts lack is few read = λ r are e.
    let t = thread_is text thread more r are.thread e parts lack in
    let same : more ≡ asked_text r = t.1 in
    read r are.query are.reply same
