use Rattle.std.proofs.Common.{arith, sym, ◌∙◌}
use Rattle.kernel_rules.proofs.WellFormedLaws.{soundness_of}
use Rattle.plain_core.proofs.WalkLaws.{Walked, walked, walked_all}
use Rattle.plain_core.proofs.recording.records.objects.Goals as goal

pub loop-id-smaller : goal.loop-id-smaller
loop-id-smaller g c =
    let s = g.S.Store.state c.args.store.now in
    let w : Walked s.objects c.loop-id.objects.entries c.add_object.new.objects.entries =
    walked s.objects c.loop-id.objects.entries c.add_object.new.objects.entries c.len.result c.in-Some.id
    (soundness_of s (g.met.S.Store.sound c.args.store.now)).rise c.loop-id.invariant c.len.ensures.len
    c.in-Some.ensures.value c.in_ok-add_object.ensures in
    omega (arith, w.more, w.within)

pub loop-id-preserved : goal.loop-id-preserved
loop-id-preserved g c =
    let s = g.S.Store.state c.args.store.now in
    let w : Walked s.objects c.loop-id.objects.entries c.add_object.new.objects.entries =
    walked s.objects c.loop-id.objects.entries c.add_object.new.objects.entries c.len.result c.in-Some.id
    (soundness_of s (g.met.S.Store.sound c.args.store.now)).rise c.loop-id.invariant c.len.ensures.len
    c.in-Some.ensures.value c.in_ok-add_object.ensures in
    w.front

pub returns : goal.returns
returns g c =
    let s = g.S.Store.state c.args.store.now in
    walked_all s.objects c.loop-id.objects.entries c.len.result c.loop-id.invariant c.len.ensures.len (sym c.id_at.ensures.value ∙ c.in_default.is)
