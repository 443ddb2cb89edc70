use Rattle.std.proofs.Common.{rules, ◌≡◌, ℕ, ◌<◌, List, [], ◌∷◌, ◌++◌, length, get_or, take, set, sym, ap, ◌∙◌, get_or-set_same}
use Rattle.std.proofs.lemmas.List.{set-set, take_more, get_or_default}
use Rattle.arena_memory.specs.Queues.{packets_in}
use Rattle.arena_state.proofs.restores.contents.put_packets.Goals as goal

pub loop-packet-preserved : goal.loop-packet-preserved
loop-packet-preserved c =
    let i = c.loop-packet.packet-index in
    let packets = c.args.packets.now in
    let old = c.args.queues.now in
    let s = c.args.slot.0 in
    let within : i < length packets = search rules in
    let at : get_or packets i [] ≡ c.packet-item.result = get_or_default packets i [] c.packet-item.result within ∙ sym c.packet-item.is in
    let were : packets_in c.loop-packet.queues s ≡ take i packets = ap (λ (xs : List (List (List ℕ))). packets_in xs s) c.loop-packet.invariant ∙ get_or-set_same old s (take i packets) [] c.requires.slot in
    c.send.ensures.after
    ∙ ap (λ (xs : List (List ℕ)). set c.loop-packet.queues s (xs ++ c.packet-item.result ∷ [])) were
    ∙ ap (λ (xs : List (List (List ℕ))). set xs s (take i packets ++ c.packet-item.result ∷ [])) c.loop-packet.invariant
    ∙ set-set old s (take i packets) (take i packets ++ c.packet-item.result ∷ [])
    ∙ ap (λ (x : List ℕ). set old s (take i packets ++ x ∷ [])) (sym at)
    ∙ ap (set old s) (sym (take_more packets i [] within))
