use Rattle.std.proofs.Common.{rules, ◌≡◌, ◌+◌, ◌-◌, length, length-append, sym, ap, subst, refl, ◌∙◌, arith}
use Rattle.sb_shown.specs.diary.Diaries.{Written}
use Rattle.sb_shown.specs.node.Changes.{HasLane}
use Rattle.sb_shown.specs.node.Looking.{EarlierCannotClose}
use Rattle.sb_shown.specs.node.declared.state.NodeState.{NodeState}
use Rattle.sb_shared.proofs.shared_node.close.Goals as goal
use Rattle.sb_shared.proofs.shared_node.close.Goals.{then-is_sink+in_ok-append, else-is_sink}

pub returns-clause-begins : goal.returns-clause-begins
returns-clause-begins c =
    let at = c.requires.lane in
    let closes = c.in_ok-rows.ensures.closes in (
      search rules,
      record {
        lane = at.0;
        close = at.2;
        looks = at.3;
        epoch_is = search rules;
        first = subst (λ l. EarlierCannotClose l c.args.own.now.lanes.items) (sym c.start.ensures.names.1) c.requires.first;
        none = c.requires.none;
        rows = c.in_ok-rows.rows.items;
        mid = c.close.new.self;
        room = c.args.own.now.diary.spare;
        closes = search rules;
        starts = search rules;
        rows_are = elim c.if-is_sink.branch [
          | then-is_sink+in_ok-append w ↦ search rules
          | else-is_sink w ↦ search rules
        ];
        tray = elim c.if-is_sink.branch [
          | then-is_sink+in_ok-append w ↦ search rules
          | else-is_sink w ↦ search rules
        ];
        was = refl;
        is = refl;
      },
    )

pub returns-clause-line : goal.returns-clause-line
returns-clause-line c =
    let at = c.requires.lane in
    let mid = c.close.new.self in
    let is : mid.diary ≡ c.args.own.now.diary = ap (λ (n : NodeState). n.diary) c.in_ok-rows.ensures.closes.set in
    let has : HasLane c.args.lane at.0 mid = search rules in
    let told = (c.start.ensures.starts at.0 has).sets.diary in
    let d : c.start.new.self.diary.spare ≡ mid.diary.spare - 1 = ap (λ (d : Written). d.spare) told in
    let m : length c.start.new.self.diary.events ≡ length mid.diary.events + 1 = ap (λ (d : Written). length d.events) told ∙ length-append mid.diary.events _ in
    let k = ap (λ (d : Written). d.spare) is in
    (omega (arith, d, k, c.requires.room), m ∙ ap (λ (d : Written). length d.events + 1) is)
