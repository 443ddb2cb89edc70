use Rattle.std.proofs.Common.{rules, ◌≡◌, ◌∙◌, ◌≤◌, List, Some, ap, arith, length, slice_get, subst, sym}
use Rattle.std.specs.List.{AllZip}
use Rattle.std.proofs.lemmas.List.{take_all}
use Rattle.std.proofs.lemmas.List.Sorted.{answers_always}
use Rattle.std.proofs.lemmas.Option.{slice_get-get_or}
use Rattle.script_runner.specs.Reads.{place_of, reads_kept}
use Rattle.script_runner.specs.declared.reads.Reads.{Reads}
use Rattle.script_runner.proofs.AskedLaws.{kept_more, IsAsked}
use Rattle.script_runner.proofs.reads.seen_reads.Goals as goal

pub loop-reads-preserved : goal.loop-reads-preserved
loop-reads-preserved c =
    let r : Reads = c.reads-item.result in
    let there : slice_get c.args.workers.now c.loop-reads.reads-index ≡ Some r
    = slice_get-get_or c.args.workers.now c.loop-reads.reads-index r c.loop-reads-test.true ∙ ap Some (sym c.reads-item.is) in
    kept_more c.args.workers.now c.loop-reads.reads-index r c.loop-reads.all.items c.add_reads.new.all.items there c.loop-reads.invariant
    c.in_ok-add_reads.ensures

pub returns : goal.returns
returns c =
    let workers : List Reads = c.args.workers.now in
    let end : length workers ≤ c.loop-reads.reads-index = omega arith in
    record {
      all = c.loop-reads.all.items;
      are = subst (λ (ws : List Reads). AllZip IsAsked (reads_kept ws) c.loop-reads.all.items) (take_all c.loop-reads.reads-index workers end)
          c.loop-reads.invariant;
      same = c.sort_by_key.ensures.permutation;
      rising = c.in_ok-sort_by_key.ensures.sorted place_of (answers_always _ _ _ (λ f a r g h. search rules));
      stable = c.sort_by_key.ensures.stable place_of (answers_always _ _ _ (λ f a r g h. search rules));
    }
