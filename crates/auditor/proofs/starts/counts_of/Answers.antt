use Rattle.std.proofs.Common.{◌≡◌, ◌+◌, List, [], ◌∷◌, ◌++◌, take, drop, true, nat_le, sym, ap, ◌∙◌, subst}
use Rattle.std.specs.BTreeMap.{get}
use Rattle.std.specs.List.{list_all}
use Rattle.std.specs.Option.{unwrap_or}
use Rattle.std.specs.Ordering.{nat_cmp}
use Rattle.std.proofs.lemmas.List.{take-append-drop, drop_more, take_more}
use Rattle.checkpoints.specs.Restorable.{threads_rise}
use Rattle.checkpoints.specs.Starts.{number_of}
use Rattle.checkpoints.specs.declared.checkpoints.NextNumber.{NextNumber}
use Rattle.auditor.proofs.StartLaws.{all_mid, numbered_more}
use Rattle.auditor.proofs.starts.counts_of.Goals as goal

pub loop-numbered-preserved : goal.loop-numbered-preserved
loop-numbered-preserved c = λ t.
    let all = c.args.next.now in
    let i = c.loop-numbered.numbered-index in
    let n = c.numbered-item.result in
    let split : all ≡ take i all ++ n ∷ drop (i + 1) all =
    sym (take-append-drop i all) ∙ ap (λ (l : List NextNumber). take i all ++ l)
    (drop_more all i n c.loop-numbered-test.true ∙ ap (λ (m : NextNumber). m ∷ drop (i + 1) all) (sym c.numbered-item.is)) in
    let more : take (i + 1) all ≡ take i all ++ n ∷ [] =
    take_more all i n c.loop-numbered-test.true ∙ ap (λ (m : NextNumber). take i all ++ m ∷ []) (sym c.numbered-item.is) in
    subst (λ (l : List NextNumber). unwrap_or (get nat_cmp c.insert.new.self t) 0 + 1 ≡ number_of l t) (sym more)
    (numbered_more (take i all) (drop (i + 1) all) n c.loop-numbered.counts c.insert.new.self c.number.result
    (subst (λ (l : List NextNumber). threads_rise l ≡ true) split c.requires.rise)
    (all_mid (λ m. nat_le 2 m.number) (take i all) (drop (i + 1) all) n
    (subst (λ l. list_all (λ m. nat_le 2 m.number) l ≡ true) split c.requires.later))
    c.number.ensures c.loop-numbered.invariant c.in_ok-insert.ensures.updates t)
