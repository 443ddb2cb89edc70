-- `histar_reader_call` lends what lies at the handle, and the reply again, each for a lifetime of its own, and has both back.
use Rattle.shared_c.proofs.Steps.{ℕ, List, [], ◌∷◌, ◌++◌, refl, w32, proved, full_share, id⊢, ftrue, flft, flent, named, vptr, fact, tables, WpFn, ‵, raw, ◌⊛◌, some, later, prop, ◌$◌, ◌∵◌, !, qed, done, move, keep, drop, use1, use2, use3, split, split3, join, fsplit, fsplit3, pick, await, regoal, suffices, frame, group, enter, addr, stop, no_more, and_then, returns, alloc_all, pass_all, free_all, look_at, get, through, sets, lands_as, lft_new, lft_end, Body, u32, RefOf, yes, Is, shows, lends_ref, ref_back, lends_again, comes_back, LentAgain, mem, uint_Lawful, Ptr, RawPtr, block_ptr, lies_at, in_a_block, rawptr_vals, rawptr_Tells, MutRef, MutBor, mut_vals, mut_Tells, shr_vals, shr_Tells, plain, types_at, owns, nothing, heard, peeks, calls_at, lasts, triple_of, framed, says, Stays, walk_of, stay_dropped, stay_ref, Goes-dropped, Goes-ref, ends_at}
use types.Kit.{show}
use types.Logic.{sem}
use base.Logic.{sep}
use Rattle.shared_c.specs.Readers.{IsReadBy}
use Rattle.shared_c.specs.contracts.readers.HeldReader.{the_row as R}
use Rattle.call_records.specs.contracts.Request.{the_row as P}
use Rattle.call_records.specs.contracts.Answer.{the_row as Q}
use Rattle.shared_c.specs.contracts.exports.histar_reader_call as f
use Rattle.shared_c.proofs.exports.histar_reader_call.Statement.{statement}
use Rattle.shared_c.proofs.exports.histar_reader_call.Code as code
use Rattle.shared_c.specs.contracts.readers.read as g
use Rattle.shared_c.proofs.readers.read.Met.{met}

abbrev stayed : Stays f.ended.signature.params f.ended.kept
stayed = (stay_dropped _ yes, (stay_dropped _ yes, (stay_ref (1 ∷ []) tt (plain (λ _. Q)), tt)))

pub histar_reader_call_spec : {M : Type 1} → statement M
histar_reader_call_spec 𝓤 𝓛 𝓜 𝓡 wired =
    let c = f.clauses 𝓛 𝓜.mem 𝓡.returns in let W = walk_of 𝓛 f.ended stayed c in let 𝓣 = tables 𝓤 𝓛.H 𝓜 𝓡 𝓡.env in
    proved 𝓛 f.ended stayed c 𝓜 𝓡
    (Goes-dropped 𝓛 2 (plain (λ _. RawPtr)) yes (λ κs x w. refl), (Goes-dropped 𝓛 2 (RefOf (0 ∷ []) tt (plain (λ _. P)) (λ _. tt)) yes (λ κs x w. refl), (Goes-ref 𝓛 2 1 tt (plain (λ _. Q)), tt)))
    f.Key.name code.function (code.unfolded 𝓤 𝓛.H 𝓜 𝓡 wired)
    (λ κs. (rawptr_vals, (shr_vals, (mut_vals, tt)))) (λ κs. (rawptr_Tells, (shr_Tells (named 0) κs.0 P, (mut_Tells (named 1) κs.1.0 Q, tt)))) (λ κs qs bounds a k are.
    let asked = a.1.0 in let reply = a.1.1.0 in let rb = reply.ref_ptr.0 in let ro = reply.ref_ptr.1 in let vs = mut_vals reply in
    let Serves : R.Denot → R.Denot → Q.Denot → Q.Denot → ℕ → Type 0 = λ before after old new n. IsReadBy asked.now before.reader after.reader n old new in
    let κ = κs.0 in let q = qs.0 in let ρ = κs.1.0 in let t = qs.1.0 in
    let Ref = λ (κ' : List ℕ) (x : MutBor Q.Denot). (MutRef (named 1) κ' Q).own_val x vs in
    let y : Ptr → W.Ghost = λ p. ((κs, qs, bounds, (p, (asked, (reply, tt))), (rawptr_vals p, (shr_vals asked, (vs, tt)))), k) in
    qed 𝓛 (((‵ (flft κ q) ⊛ ‵ (flft ρ t) ⊛ ‵ ftrue) ⊛ ‵ (owns (types_at f.signature.params κs) (y a.0).0.3 (y a.0).0.4)) ∷ ‵ (lies_at R full_share a.0 k) ∷ []) ∵
    split ! $ move ! (1 ∷ []) $ fsplit ! $ drop ! $ fsplit ! $ move ! (1 ∷ []) $ fsplit ! $ move ! (3 ∷ []) $ split3 ! $ keep ! (6 ∷ 0 ∷ 1 ∷ 3 ∷ 5 ∷ []) $
    in_a_block ! a.0 (λ p. lies_at R full_share p k) (id⊢ 𝓤 _) (λ b o e.
    regoal ! (λ p. prop (WpFn 𝓤 𝓛.H 𝓣.C 𝓣.Λ code.function (rawptr_vals p ++ (shr_vals asked ++ (vs ++ []))) (W.post (y p)))) e refl $
    enter ! _ _ _ _ _ $ alloc_all ! (λ l. pass_all ! refl ((tt, tt), ((tt, tt), ((tt, tt), tt))) $
    -- [the value; the tokens of κ and ρ; the reply; the request; the locals]
    sets ! (addr ! (through ! refl (stop !))) refl (tt, tt) $
    sets ! (addr ! (through ! refl (stop !))) refl (tt, tt) $
    lft_new ! tt (λ α. move ! (1 ∷ []) $
    use1 𝓛 (later (some (λ (δ : ℕ). ‵ ((MutRef (named 0) (α ∷ []) R).own_val (record { ref_ptr = (b, o); ghost_name = δ; now = k }) (vptr b o ∷ [])) ⊛ ‵ (flent (α ∷ []) (Body (mem R) b o δ)))))
    (lends_ref 𝓛 R (named 0) (α ∷ []) k b o) $ await ! tt $ pick ! (λ δ. split ! $
    lft_new ! tt (λ β. move ! (6 ∷ 5 ∷ []) $
    use2 𝓛 (later (some (λ (ε : ℕ). ‵ (Ref (β ∷ []) (record reply { ghost_name = ε })) ⊛ ‵ (LentAgain Q ρ (β ∷ []) t reply.ghost_name rb ro ε reply.now))))
    (lends_again 𝓛 Q (named 1) ρ (β ∷ []) t reply.ghost_name rb ro (named 2) reply.now) $ await ! tt $ pick ! (λ ε. split ! $
    -- [the reply's loan; what its lender keeps; the token of β; the value's loan; what its lender keeps; the token of α; the token of κ; the request]
    let G = triple_of 𝓛 g.signature (g.spec 𝓛 𝓜.mem 𝓡.returns) in
    let z : G.Ghost = (((α ∷ [], (κ, (β ∷ [], tt))), (full_share, (q, (full_share, tt))), tt, (record { ref_ptr = (b, o); ghost_name = δ; now = k }, (asked, (record reply { ghost_name = ε }, tt))), (vptr b o ∷ [], (shr_vals asked, (vs, tt)))), tt) in
    move ! (3 ∷ 7 ∷ 0 ∷ []) $ nothing ! $ move ! (3 ∷ 0 ∷ []) $ join ! $ move ! (2 ∷ 0 ∷ []) $ join ! $ move ! (1 ∷ 0 ∷ []) $ join ! $
    nothing ! $ move ! (3 ∷ 0 ∷ []) $ join ! $ move ! (5 ∷ 0 ∷ []) $ join ! $ move ! (4 ∷ 0 ∷ []) $ join ! $ join ! $
    nothing ! $ move ! (1 ∷ 0 ∷ []) $ use2 𝓛 (raw (G.pre z)) (id⊢ 𝓤 _) $
    calls_at ! (framed 𝓤 𝓛.H 𝓜 (tables 𝓤 𝓛.H 𝓜 𝓡 𝓡.env)) G (met 𝓤 𝓛 𝓜 𝓡 (code.calls-shared_c::readers::read 𝓡.env wired)) z
    (and_then ! (get ! refl) (and_then ! (get ! refl) (and_then ! (get ! refl) (no_more !)))) (λ v.
    use1 𝓛 (later (some (λ (r : ℕ). ((‵ (flft (α ∷ []) full_share) ⊛ ‵ (flft κ q) ⊛ ‵ (flft (β ∷ []) full_share) ⊛ ‵ ftrue) ⊛ ‵ (u32.own_val r (v ∷ []))) ⊛
    some (λ (ws : R.Denot × (Unit {0} × (Q.Denot × Unit {0}))). ‵ (lasts g.ended z.0.0 z.0.3 ws) ⊛ raw (fact 𝓤 (Serves k ws.0 reply.now ws.1.1.0 r)))))) (id⊢ 𝓤 _) $
    await ! tt $ pick ! (λ r. split ! $ split ! $ split3 ! $ move ! (2 ∷ []) $ split ! $ lft_end ! tt $ move ! (2 ∷ []) $ lft_end ! tt $ move ! (4 ∷ []) $
    peeks ! u32 (Is u32) (shows 𝓛 u32) r (v ∷ []) (λ is. lands_as ! refl refl ((uint_Lawful 𝓛 w32).typed r _ is).0 $
    move ! (5 ∷ []) $ pick ! (λ ws. let new = ws.0 in let told = ws.1.1.0 in split ! $ move ! (1 ∷ []) $ heard ! _ (λ served.
    -- [the last values; the result; α and β are over; nothing; the token of κ; what the two lenders keep]
    fsplit3 ! $ move ! (2 ∷ []) $ fsplit ! $ fsplit ! $
    move ! (3 ∷ []) $ fsplit ! $
    move ! (7 ∷ 12 ∷ 0 ∷ []) $ use3 𝓛 (later (‵ ((mem R).own_at new b o))) (ref_back 𝓛 R (α ∷ []) δ new b o) $ await ! tt $
    move ! (7 ∷ 10 ∷ 2 ∷ []) $ use3 𝓛 (later (‵ (Ref ρ (record reply { now = told })) ⊛ ‵ (flft ρ t))) (comes_back 𝓛 Q (named 1) ρ (β ∷ []) t reply.ghost_name rb ro ε reply.now told) $ await ! tt $ split ! $
    -- [the reply; the token of ρ; the value; two borrows; nothing, twice; the result; nothing; the token of κ]
    returns ! (look_at ! 0 refl) $ free_all ! refl $ keep ! (0 ∷ 1 ∷ 2 ∷ 7 ∷ 9 ∷ []) $
    suffices ! _ (ends_at 𝓛 f.ended stayed c (y (block_ptr b o)) v r (tt, (tt, (told, tt))) (tt, (tt, (tt, tt)))) $
    nothing ! $ move ! (1 ∷ 0 ∷ []) $ join ! $ nothing ! $ join ! $ nothing ! $ join ! $
    nothing ! $ move ! (2 ∷ 0 ∷ []) $ join ! $ move ! (4 ∷ 0 ∷ []) $ join ! $
    move ! (0 ∷ 1 ∷ 3 ∷ 2 ∷ []) $ group ! 3 $ frame ! $ show ! (λ (after : R.Denot). sep 𝓤 (sem 𝓛 (lies_at R full_share (block_ptr b o) after)) (fact 𝓤 (Serves k after reply.now told r))) new $ says ! served $ done !))))))))))))
