use Rattle.std.proofs.Common.{rules, refl, ◌∙◌}
use Rattle.containers.proofs.Handed.{told_first}
use Rattle.containers.proofs.Cuts.{start_cut, tree_cut, simple_cut, total_cut, cut_of}
use Rattle.containers.proofs.cells.cut_link.Goals as goal

pub sweep-requires : goal.sweep-requires
sweep-requires g c κs within =
    let sound = c.requires.1.1.1.0 in
    let dropped = c.drop_link.ensures.dropped in
    let link = c.requires.1.1.1.1.1.1.1.1.0 in (
      search rules,
      (
        c.requires.1.0,
        (
          c.requires.1.1.0,
          (
            start_cut c.args.pool.size c.args.pool.root c.args.rings.now c.drop_link.new.rings c.args.link.container c.args.link.object c.args.link.cell sound link dropped,
            (
              tree_cut c.args.pool.size c.args.pool.root c.args.rings.now c.drop_link.new.rings c.args.link.container c.args.link.object c.args.link.cell sound link dropped g.rank c.requires.1.1.1.1.1.0,
              (
                simple_cut c.args.pool.size c.args.pool.root c.args.rings.now c.drop_link.new.rings c.args.link.container c.args.link.object c.args.link.cell sound link dropped c.requires.1.1.1.1.1.1.0,
                (
                  total_cut c.args.pool.size c.args.pool.root c.args.rings.now c.drop_link.new.rings c.args.link.container c.args.link.object c.args.link.cell sound link dropped ∙ c.requires.1.1.1.1.1.1.1.0,
                  (
                    c.requires.1.1.1.1.1.1.1.1.1.0,
                    c.requires.1.1.1.1.1.1.1.1.1.1,
                  ),
                ),
              ),
            ),
          ),
        ),
      ),
    )

pub returns-clause-cut : goal.returns-clause-cut
returns-clause-cut g c =
    let sound = c.requires.1.1.1.0 in
    let swept = c.sweep.ensures.swept in (
      swept.0,
      swept.1,
      cut_of c.args.pool.size c.args.pool.root c.args.rings.now c.drop_link.new.rings c.args.link.container c.args.link.object c.args.link.cell sound c.requires.1.1.1.1.1.1.1.1.0 c.drop_link.ensures.dropped c.sweep.new.rings swept.0 swept.1 c.requires.1.1.1.1.1.1.0 swept.2,
      told_first g.V.Visitor.link_gives g.V.Visitor.object_gives c.args.pool.names.now swept.0 swept.1 _ _ _ c.args.link.container c.args.link.object _ _ refl refl c.hand_link.ensures swept.3,
      swept.4,
    )
