use Rattle.std.proofs.Common.{◌+◌, List, [], length, refl, sym, subst}
use Rattle.sb_shown.specs.base.records.declared.item.Record.{Record}
use Rattle.sb_shown.specs.core.Moments.{first}
use Rattle.sb_shown.specs.Showing.{Stands}
use Rattle.sb_hand.proofs.NewLinks.{new-linked}
use Rattle.sb_hand.proofs.NewHands.{new-shows, new-diaries, new-settings}
use Rattle.sb_hand.proofs.hand.Hand.new.Goals as goal

pub invariant_of-result : goal.invariant_of-result
invariant_of-result c = λ unspent. (
  record {
    rows = [];
    moment = first c.args.plan c.args.bundle;
    stands = new-shows c.args.plan c.args.pending c.args.keeps c.in_ok-nodes.nodes.items c.in_ok-nodes.ensures c.transforms.ensures.sound c.args.bundle c.requires.bundle.0 c.requires.bundle.1;
  },
  new-linked c.args.plan c.args.pending c.args.keeps (length c.args.plan.steps + 1) c.in_ok-nodes.nodes.items c.in_ok-nodes.ensures,
)

pub returns : goal.returns
returns c = record {
  plan_is = refl;
  bundle_is = refl;
  pending_is = refl;
  unspent = refl;
  tray = c.new.ensures.items;
  shows = subst (λ (rows : List Record). Stands c.args.plan c.args.bundle c.in_ok-nodes.nodes.items [] rows (first c.args.plan c.args.bundle)) (sym c.new.ensures.items)
      (new-shows c.args.plan c.args.pending c.args.keeps c.in_ok-nodes.nodes.items c.in_ok-nodes.ensures c.transforms.ensures.sound c.args.bundle c.requires.bundle.0 c.requires.bundle.1);
  diaries = new-diaries c.args.plan c.args.pending c.args.keeps c.in_ok-nodes.nodes.items c.in_ok-nodes.ensures;
  settings = new-settings c.args.plan c.args.pending c.args.keeps c.in_ok-nodes.nodes.items c.in_ok-nodes.ensures;
}
